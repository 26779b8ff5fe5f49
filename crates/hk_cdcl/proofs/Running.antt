-- The search over the given list, with unit propagation beside it.
use Rattle.std.proofs.Common.{◌≡◌, ℕ, ◌+◌, ◌-◌, ◌*◌, ◌<◌, Bool, List, [], ◌∷◌, ◌++◌, length, take, drop, ℤ, refl, sym, ◌∙◌, ap, subst, arith}
use Rattle.std.proofs.lemmas.List.{take_all, take-append-le}
use Rattle.hk_cnf.specs.Clauses.{Clauses, clauses_value}
use Rattle.hk_lrat.specs.declared.log.LratRow.{LratRow}
use Rattle.hk_cdcl.specs.declared.search.Search.{Search}
use Rattle.hk_cdcl.specs.Fresh.{AreFresh, additions, before_last}
use Rattle.hk_cdcl.specs.Ends.{IsSpentSince}
use Rattle.hk_cdcl.specs.Path.{Path, IsPath, Extends}
use Rattle.hk_cdcl.specs.Propagation.{HasSeen, Grown}
use Rattle.hk_cdcl.specs.Searching.{IsLogged, IsLeveled}
use Rattle.hk_cdcl.specs.States.{Leveled, Grows, IsDecided, IsBack}
use Rattle.hk_cdcl.specs.Solved.{Satisfies}
use Rattle.hk_cdcl.proofs.Growing.{grows-same, grows-then, additions-append, take-front, drop-front}
use Rattle.hk_cdcl.proofs.Leveling.{leveled-extends}
use Rattle.hk_cdcl.proofs.Logging.{ordered-count}
use Rattle.hk_cdcl.proofs.Satisfying.{front-true}

pub record Running (start : Search) (fits : List (List ℤ) → List ℤ → Type 0) (s : Search) : Type 0 where
  pub leveled : Leveled s
  pub grows : Grows start s
  pub spends : s.left + length s.log ≡ start.left + length start.log
  pub seen : HasSeen (fits s.clauses.clauses) s.trail.lits

pub running-none : (fits : List (List ℤ) → List ℤ → Type 0) (s : Search) → Leveled s → s.trail.lits ≡ [] → fits s.clauses.clauses [] → Running s fits s
running-none fits s l e f = record { leveled = l; grows = grows-same s s refl refl; spends = refl; seen = record { front = 0; seen = f } }

pub grown-all : (cs : List (List ℤ)) → Grown [] cs
grown-all cs = record { more = cs; is = refl }

-- after unit propagation
pub running-propagated : (start : Search) (fits : List (List ℤ) → List ℤ → Type 0) (s : Search) (q : Path) → IsPath s.trail → Running start fits s → Extends s.clauses.clauses s.trail q → IsLeveled s.clauses q s.levels.items × (length s.seen ≡ q.vars)
running-propagated start fits s q path r e = (leveled-extends s.clauses s.trail q s.levels.items path r.leveled.0 e, r.leveled.1 ∙ sym e.vars)

-- after a step
pub running-decided : (start : Search) (fits : List (List ℤ) → List ℤ → Type 0) (s t : Search) → Grows start s → s.left + length s.log ≡ start.left + length start.log → fits s.clauses.clauses s.trail.lits → IsDecided s t → Grows s t → t.left + length t.log ≡ s.left + length s.log → Running start fits t
running-decided start fits s t g e f d h k =
    record {
      leveled = d.leveled;
      grows = grows-then start s t g h;
      spends = k ∙ e;
      seen = record {
        front = length s.trail.lits;
        seen = subst (λ c. fits c.clauses (take (length s.trail.lits) t.trail.lits)) (sym d.clauses) (subst (fits s.clauses.clauses) (sym front) f);
      };
    }
  where
    front : take (length s.trail.lits) t.trail.lits ≡ s.trail.lits
    front = ap (take (length s.trail.lits)) d.lits ∙ (take-append-le (length s.trail.lits) s.trail.lits (d.literal ∷ []) (omega arith) ∙ take_all (length s.trail.lits) s.trail.lits (omega arith))

pub running-back : (start : Search) (fits : List (List ℤ) → List ℤ → Type 0) (s t : Search) (n : ℕ) → Grows start s → s.left + length s.log ≡ start.left + length start.log → IsBack s t n → Grows s t → t.left + length t.log ≡ s.left + length s.log → fits t.clauses.clauses (take n s.trail.lits) → Running start fits t
running-back start fits s t n g e b h k f =
    record {
      leveled = b.leveled;
      grows = grows-then start s t g h;
      spends = k ∙ e;
      seen = record { front = length t.trail.lits; seen = subst (fits t.clauses.clauses) (sym (take_all (length t.trail.lits) t.trail.lits (omega arith) ∙ b.lits)) f };
    }

pub grows-grown : (s t : Search) → Grows s t → Grown s.clauses.clauses t.clauses.clauses
grows-grown s t g = record { more = additions g.more; is = g.clauses }

-- the measure of the loop
pub measure-back : (m n v x y : ℕ) → n + 1 ≡ m → n * (v + 1) + (v - x) < m * (v + 1) + (v - y)
measure-back m n v x y e =
    let p : m * (v + 1) ≡ n * (v + 1) + (v + 1) = ap (λ i. i * (v + 1)) (sym e) ∙ one-more n (v + 1) in
    omega (arith, p)
  where
    one-more : (i j : ℕ) → (i + 1) * j ≡ i * j + j
    one-more i j = grind arith

-- the first clauses of the list are the given ones
pub satisfies-given : (list clauses : Clauses) (log : List LratRow) (a : List Bool) → IsLogged list clauses log → Satisfies clauses a → Satisfies list a
satisfies-given list clauses log a g s =
    record {
      each = s.each ∙ g.vars;
      holds = front-true a list.clauses (additions log) (ap (clauses_value a) (sym g.grown) ∙ s.holds);
    }

-- rows that came as many as the budget, each fresh over those before it
pub spent-since : (list : Clauses) (s t : Search) (budget : ℕ) → IsLogged list s.clauses s.log → Grows s t → length t.log ≡ length s.log + budget → IsSpentSince list s.log t.log budget
spent-since list s t budget h g n =
    record {
      spent = record {
        accepted = k.accepted;
        not_empty = k.not_empty;
        enough = omega (arith, all, n);
        fresh =
            subst (λ cs. AreFresh cs (drop (before_last budget t.log) (additions t.log))) front
            (subst (AreFresh s.clauses.clauses) back g.fresh);
      };
      count = n;
    }
  where
    k : IsLogged list t.clauses t.log
    k = g.logged list h

    all : length (additions t.log) ≡ length t.log
    all = ordered-count (length list.clauses) t.log k.ordered

    parts : additions t.log ≡ additions s.log ++ additions g.more
    parts = ap additions g.log ∙ additions-append s.log g.more

    old : length (additions s.log) ≡ length s.log
    old = ordered-count (length list.clauses) s.log h.ordered

    at : before_last budget t.log ≡ length (additions s.log)
    at = omega (arith, all, old, n)

    back : additions g.more ≡ drop (before_last budget t.log) (additions t.log)
    back = sym (ap (λ i. drop i (additions t.log)) at ∙ (ap (drop (length (additions s.log))) parts ∙ drop-front (additions s.log) (additions g.more)))

    front : s.clauses.clauses ≡ list.clauses ++ take (before_last budget t.log) (additions t.log)
    front = h.grown ∙ ap (λ cs. list.clauses ++ cs) (sym (ap (λ i. take i (additions t.log)) at ∙ (ap (take (length (additions s.log))) parts ∙ take-front (additions s.log) (additions g.more))))
