-- A log that grows by accepted, fresh clauses.
use Rattle.std.proofs.Common.{◌≡◌, ℕ, suc, ◌+◌, ◌≤◌, true, false, not, ◌&&◌, cond, ltb, List, [], ◌∷◌, ◌++◌, length, ℤ, Some, None, refl, sym, ◌∙◌, ap, subst, arith, append_assoc, length-append}
use Rattle.std.proofs.lemmas.Bool.{false≢true, cond-true, lt-ltb, and_from, not_from_false}
use Rattle.std.proofs.lemmas.List.{append-nil, length_push}
use Rattle.std.proofs.lemmas.List.Elements.{All-push, All-nil, All-head, All-tail}
use Rattle.std.specs.List.{All, list_all}
use Rattle.hk_cnf.specs.Literal.{IsWithin, has, denied}
use Rattle.hk_cnf.specs.Clauses.{Clauses}
use Rattle.hk_lrat.specs.declared.log.LratRow.{LratRow}
use Rattle.hk_lrat.specs.declared.log.LratRow.TheVariants.{Add, Delete}
use Rattle.hk_lrat.specs.declared.log.RowReason.TheVariants.{L1, L2}
use Rattle.hk_lrat.specs.Log.{State, Live, numbered, start, is_within, has_both, follow, add_fault, row_fault, after_row, is_nil, is_empty_addition}
use Rattle.hk_lrat.specs.Refutes.{AreAccepted, Refutes}
use Rattle.hk_lrat.proofs.Denied.{is_within-from}
use Rattle.hk_cdcl.specs.Fresh.{IsFresh, AreFresh, additions}
use Rattle.hk_cdcl.specs.Searching.{after_rows, AreOrdered, IsLogged}
use Rattle.hk_cdcl.specs.Analysis.{Derives}

-- a row more
accepted-push : (s : State) (log : List LratRow) (row : LratRow) → AreAccepted s log → row_fault (after_rows s log) row ≡ None → AreAccepted s (log ++ row ∷ [])
accepted-push s [] row h e = (e, tt)
accepted-push s (x ∷ log) row h e = (h.0, accepted-push (after_row s x) log row h.1 e)

pub additions-push : (log : List LratRow) (id : ℕ) (c : List ℤ) (hints : List ℕ) → additions (log ++ Add id c hints ∷ []) ≡ additions log ++ c ∷ []
additions-push [] id c hints = refl
additions-push (Add i d hs ∷ log) id c hints = ap (λ x. d ∷ x) (additions-push log id c hints)
additions-push (Delete ids ∷ log) id c hints = additions-push log id c hints

pub fresh-push : (before cs : List (List ℤ)) (c : List ℤ) → AreFresh before cs → IsFresh (before ++ cs) c → AreFresh before (cs ++ c ∷ [])
fresh-push before [] c h f = (subst (λ b. IsFresh b c) (append-nil before) f, tt)
fresh-push before (d ∷ cs) c h f = (h.0, fresh-push (before ++ d ∷ []) cs c h.1 (subst (λ b. IsFresh b c) (sym (append_assoc before (d ∷ []) cs)) f))

numbered-push : (n : ℕ) (cs : List (List ℤ)) (c : List ℤ) → numbered n (cs ++ c ∷ []) ≡ numbered n cs ++ (n + length cs, c) ∷ []
numbered-push n [] c = ap (λ k. (k, c) ∷ []) (omega arith)
numbered-push n (d ∷ cs) c = ap (λ es. (n, d) ∷ es) (numbered-push (n + 1) cs c ∙ ap (λ k. numbered (n + 1) cs ++ (k, c) ∷ []) (omega arith))

all-within : (vars : ℕ) (c : List ℤ) → All (IsWithin vars) c → list_all (is_within vars) c ≡ true
all-within vars [] h = refl
all-within vars (l ∷ c) h =
    let w : IsWithin vars l = All-head (IsWithin vars) l c h in
    and_from (is_within vars l) (list_all (is_within vars) c) (is_within-from vars l w.literal w.below) (all-within vars c (All-tail (IsWithin vars) l c h))

-- the row of a clause that the hints derive is accepted
row-accepted : (clauses : Clauses) (id : ℕ) (c : List ℤ) (hints : List ℕ) → id ≡ length clauses.clauses + 1 → All (IsWithin clauses.vars) c → has_both c ≡ false → Derives clauses.clauses c hints → add_fault (start clauses) id c hints ≡ None
row-accepted clauses id c hints e w b d =
    cond-true (list_all (is_within clauses.vars) c && not (has_both c)) (cond (ltb (length clauses.clauses) id) (follow (numbered 1 clauses.clauses) (denied c) hints) (Some L2)) (Some L1)
    (and_from (list_all (is_within clauses.vars) c) (not (has_both c)) (all-within clauses.vars c w) (not_from_false (has_both c) b))
    ∙ (cond-true (ltb (length clauses.clauses) id) (follow (numbered 1 clauses.clauses) (denied c) hints) (Some L2) (lt-ltb (length clauses.clauses) id (omega (arith, e))) ∙ d)

pub row-after : (clauses : Clauses) (id : ℕ) (c : List ℤ) (hints : List ℕ) → id ≡ length clauses.clauses + 1 → after_row (start clauses) (Add id c hints) ≡ start (record clauses { clauses = clauses.clauses ++ c ∷ [] })
row-after clauses id c hints e =
    let one : id ≡ length (clauses.clauses ++ c ∷ []) = e ∙ sym (length_push clauses.clauses c) in
    let live : numbered 1 clauses.clauses ++ (id, c) ∷ [] ≡ numbered 1 (clauses.clauses ++ c ∷ []) = ap (λ k. numbered 1 clauses.clauses ++ (k, c) ∷ []) (omega (arith, e)) ∙ sym (numbered-push 1 clauses.clauses c) in
    let f : ℕ → State = λ n. record { vars = clauses.vars; last = n; live = numbered 1 clauses.clauses ++ (id, c) ∷ [] } in
    let g : Live → State = λ l. record { vars = clauses.vars; last = length (clauses.clauses ++ c ∷ []); live = l } in
    ap f one ∙ ap g live

-- ids in order
pub ordered-count : (n : ℕ) (log : List LratRow) → AreOrdered n log → length (additions log) ≡ length log
ordered-count n [] h = refl
ordered-count n (Add id c hints ∷ log) h = ap suc (ordered-count (n + 1) log h.2)
ordered-count n (Delete ids ∷ log) h = absurd h

ordered-push : (n : ℕ) (log : List LratRow) (id : ℕ) (c : List ℤ) (hints : List ℕ) → AreOrdered n log → id ≡ n + length log + 1 → All (λ h. h ≤ n + length log) hints → AreOrdered n (log ++ Add id c hints ∷ [])
ordered-push n [] id c hints h e a = (omega (arith, e), subst (λ k. All (λ x. x ≤ k) hints) (omega arith) a, tt)
ordered-push n (Add i d hs ∷ log) id c hints h e a =
    let m : n + suc (length log) ≡ (n + 1) + length log = omega arith in
    (h.0, h.1, ordered-push (n + 1) log id c hints h.2 (omega (arith, e, m)) (subst (λ k. All (λ x. x ≤ k) hints) m a))
ordered-push n (Delete ids ∷ log) id c hints h e a = absurd h

-- so after the rows the list is the given one with the rows' clauses
ordered-state : (given : Clauses) (log : List LratRow) → AreOrdered (length given.clauses) log → after_rows (start given) log ≡ start (record given { clauses = given.clauses ++ additions log })
ordered-state given [] h = ap (λ cs. start (record given { clauses = cs })) (sym (append-nil given.clauses))
ordered-state given (Add id c hints ∷ log) h =
    ap (λ s. after_rows s log) (row-after given id c hints h.0)
    ∙ (ordered-state (record given { clauses = given.clauses ++ c ∷ [] }) log (subst (λ n. AreOrdered n log) (sym (length_push given.clauses c)) h.2)
    ∙ ap (λ cs. start (record given { clauses = cs })) (append_assoc given.clauses (c ∷ []) (additions log)))
ordered-state given (Delete ids ∷ log) h = absurd h

pub logged-none : (given : Clauses) → IsLogged given given []
logged-none given =
    record {
      vars = refl;
      grown = sym (append-nil given.clauses);
      accepted = tt;
      ordered = tt;
      not_empty = All-nil (λ row. is_empty_addition row ≡ false);
    }

-- the list is the given one with the rows' clauses
logged-list : (given clauses : Clauses) (log : List LratRow) → IsLogged given clauses log → record given { clauses = given.clauses ++ additions log } ≡ clauses
logged-list given clauses log h =
    let f : ℕ → Clauses = λ v. record { vars = v; clauses = given.clauses ++ additions log } in
    let g : List (List ℤ) → Clauses = λ cs. record { vars = clauses.vars; clauses = cs } in
    ap f (sym h.vars) ∙ ap g (sym h.grown)

pub logged-count : (given clauses : Clauses) (log : List LratRow) → IsLogged given clauses log → length given.clauses + length log ≡ length clauses.clauses
logged-count given clauses log h =
    let e : length clauses.clauses ≡ length given.clauses + length (additions log) = ap length h.grown ∙ length-append given.clauses (additions log) in
    let n : length (additions log) ≡ length log = ordered-count (length given.clauses) log h.ordered in
    omega (arith, e, n)

logged-state : (given clauses : Clauses) (log : List LratRow) → IsLogged given clauses log → after_rows (start given) log ≡ start clauses
logged-state given clauses log h = ordered-state given log h.ordered ∙ ap start (logged-list given clauses log h)

pub logged-more : (given clauses : Clauses) (log : List LratRow) (id : ℕ) (c : List ℤ) (hints : List ℕ) → IsLogged given clauses log → id ≡ length clauses.clauses + 1 → All (IsWithin clauses.vars) c → has_both c ≡ false → Derives clauses.clauses c hints → is_nil c ≡ false → All (λ h. h ≤ length clauses.clauses) hints → IsLogged given (record clauses { clauses = clauses.clauses ++ c ∷ [] }) (log ++ Add id c hints ∷ [])
logged-more given clauses log id c hints h e w b d some named =
    let n : length given.clauses + length log ≡ length clauses.clauses = logged-count given clauses log h in
    record {
      vars = h.vars;
      grown = ap (λ x. x ++ c ∷ []) h.grown ∙ (append_assoc given.clauses (additions log) (c ∷ []) ∙ ap (λ x. given.clauses ++ x) (sym (additions-push log id c hints)));
      accepted = accepted-push (start given) log (Add id c hints) h.accepted (ap (λ s. row_fault s (Add id c hints)) (logged-state given clauses log h) ∙ row-accepted clauses id c hints e w b d);
      ordered = ordered-push (length given.clauses) log id c hints h.ordered (omega (arith, e, n)) (subst (λ k. All (λ x. x ≤ k) hints) (sym n) named);
      not_empty = All-push (λ row. is_empty_addition row ≡ false) log (Add id c hints) h.not_empty some;
    }

-- with the row of the empty clause the log refutes the list
pub logged-refutes : (given clauses : Clauses) (log : List LratRow) (id : ℕ) (hints : List ℕ) → IsLogged given clauses log → id ≡ length clauses.clauses + 1 → Derives clauses.clauses [] hints → Refutes given (log ++ Add id [] hints ∷ [])
logged-refutes given clauses log id hints h e d =
    record {
      before = log;
      row = Add id [] hints;
      after = [];
      parts = refl;
      accepted = accepted-push (start given) log (Add id [] hints) h.accepted (ap (λ s. row_fault s (Add id [] hints)) (logged-state given clauses log h) ∙ row-accepted clauses id [] hints e (All-nil (IsWithin clauses.vars)) refl d);
      empty = refl;
    }

-- a clause with a literal is not empty
pub not-nil : (c : List ℤ) (l : ℤ) → has c l ≡ true → is_nil c ≡ false
not-nil [] l h = absurd (false≢true h)
not-nil (x ∷ c) l h = refl
