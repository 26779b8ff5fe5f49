-- Each row of an accepted log derives its clause from those before it.
use Rattle.std.proofs.Common.{◌≡◌, ℕ, zero, suc, ◌+◌, ◌<◌, false, List, [], ◌∷◌, ◌++◌, length, take, get_or, ℤ, sym, ◌∙◌, ap, subst, arith, append_assoc}
use Rattle.std.proofs.lemmas.List.{length_push, get_or-append-add}
use Rattle.std.proofs.lemmas.List.Elements.{All-head, All-tail}
use Rattle.std.specs.List.{All}
use Rattle.hk_cnf.specs.Clauses.{Clauses}
use Rattle.hk_lrat.specs.declared.log.LratRow.{LratRow}
use Rattle.hk_lrat.specs.declared.log.LratRow.TheVariants.{Add, Delete}
use Rattle.hk_lrat.specs.Log.{start, has_both, is_nil, is_empty_addition}
use Rattle.hk_lrat.specs.Refutes.{AreAccepted}
use Rattle.hk_lrat.proofs.Sound.{IsAccepted, accepted}
use Rattle.hk_cdcl.specs.Analysis.{Derives}
use Rattle.hk_cdcl.specs.Fresh.{additions}
use Rattle.hk_cdcl.specs.Forgetting.{IsDerived, AreDerived}
use Rattle.hk_cdcl.specs.Searching.{AreOrdered, IsLogged}
use Rattle.hk_cdcl.proofs.Growing.{take-front}
use Rattle.hk_cdcl.proofs.Logging.{row-after, logged-count}

-- the row's clause stands behind the others
derived-first : (list : Clauses) (rest : List (List ℤ)) (id : ℕ) (c : List ℤ) (hints : List ℕ) → IsAccepted (start list) id c hints → id ≡ length list.clauses + 1 → is_nil c ≡ false → IsDerived (list.clauses ++ c ∷ rest) (length list.clauses + 0) (Add id c hints)
derived-first list rest id c hints a e s =
    record {
      hints = hints;
      is = ap (λ i. Add i c hints) (omega (arith, e)) ∙ ap (λ x. Add ((length list.clauses + 0) + 1) x hints) (sym at);
      derived = subst (λ x. Derives (take (length list.clauses + 0) (list.clauses ++ c ∷ rest)) x hints) (sym at) (subst (λ cs. Derives cs c hints) (sym front) a.derived);
      not_both = ap has_both at ∙ a.not_both;
      not_nil = ap is_nil at ∙ s;
    }
  where
    at : get_or (list.clauses ++ c ∷ rest) (length list.clauses + 0) [] ≡ c
    at = get_or-append-add list.clauses (c ∷ rest) 0 []

    front : take (length list.clauses + 0) (list.clauses ++ c ∷ rest) ≡ list.clauses
    front = ap (λ n. take n (list.clauses ++ c ∷ rest)) (omega arith) ∙ take-front list.clauses (c ∷ rest)

derived-at : (vars : ℕ) (cs : List (List ℤ)) (log : List LratRow) (i : ℕ) (d : LratRow) → AreAccepted (start (record { vars = vars; clauses = cs })) log → AreOrdered (length cs) log → All (λ row. is_empty_addition row ≡ false) log → i < length log → IsDerived (cs ++ additions log) (length cs + i) (get_or log i d)
derived-at vars cs [] i d a o s lt = absurd (omega (arith, lt))
derived-at vars cs (Delete ids ∷ log) i d a o s lt = absurd o
derived-at vars cs (Add id c hints ∷ log) zero d a o s lt =
    derived-first (record { vars = vars; clauses = cs }) (additions log) id c hints (accepted (start (record { vars = vars; clauses = cs })) id c hints a.0) o.0 (All-head (λ row. is_empty_addition row ≡ false) (Add id c hints) log s)
derived-at vars cs (Add id c hints ∷ log) (suc i) d a o s lt =
    subst (λ ds. IsDerived ds (length cs + suc i) (get_or log i d)) (append_assoc cs (c ∷ []) (additions log))
    (subst (λ n. IsDerived ((cs ++ c ∷ []) ++ additions log) n (get_or log i d)) (let n : length (cs ++ c ∷ []) ≡ length cs + 1 = length_push cs c in omega (arith, n))
    (derived-at vars (cs ++ c ∷ []) log i d (subst (λ t. AreAccepted t log) (row-after (record { vars = vars; clauses = cs }) id c hints o.0) a.1)
    (subst (λ n. AreOrdered n log) (sym (length_push cs c)) o.2) (All-tail (λ row. is_empty_addition row ≡ false) (Add id c hints) log s) (omega (arith, lt))))

pub logged-derived : (list clauses : Clauses) (log : List LratRow) → IsLogged list clauses log → AreDerived clauses.clauses (length list.clauses) log
logged-derived list clauses log h =
    record {
      count = logged-count list clauses log h;
      each = λ i d lt. subst (λ cs. IsDerived cs (length list.clauses + i) (get_or log i d)) (sym h.grown) (derived-at list.vars list.clauses log i d h.accepted h.ordered h.not_empty lt);
    }
