-- A round over all clauses, so far.
use Rattle.std.proofs.Common.{◌≡◌, ℕ, ◌+◌, ◌<◌, ◌≤◌, List, [], length, take, get_or, ℤ, sym, subst, arith}
use Rattle.std.proofs.lemmas.List.Elements.{All-nil, All-more}
use Rattle.std.proofs.lemmas.List.{take_all}
use Rattle.hk_cnf.specs.declared.hint.Hint.TheVariants.{Other}
use Rattle.hk_cnf.specs.Literal.{has}
use Rattle.hk_cnf.specs.Hint.{hint_of}
use Rattle.hk_cdcl.specs.Fresh.{AreQuiet}
use Rattle.hk_cdcl.specs.Path.{Path, Extends}
use Rattle.hk_cdcl.specs.Propagation.{Rested}
use Rattle.hk_cdcl.proofs.Extending.{extends-refl, extends-trans, extends-same, extends-longer}

-- the trail grew at its end, and where it did not the first clauses left nothing to do
pub record Round (clauses : List (List ℤ)) (old new : Path) (n : ℕ) : Type 0 where
  pub extends : Extends clauses old new
  pub quiet : length new.lits ≡ length old.lits → AreQuiet (has old.lits) (take n clauses)

pub round-none : (clauses : List (List ℤ)) (p : Path) → Round clauses p p 0
round-none clauses p = record { extends = extends-refl clauses p; quiet = λ e. All-nil (λ c. hint_of (has p.lits) c ≡ Other) }

pub round-more : (clauses : List (List ℤ)) (p q r : Path) (n : ℕ) → Round clauses p q n → n < length clauses → Extends clauses q r → Rested clauses q.lits r.lits n → Round clauses p r (n + 1)
round-more clauses p q r n h lt e s =
    record { extends = extends-trans clauses p q r h.extends e; quiet = λ same. rest same }
  where
    rest : length r.lits ≡ length p.lits → AreQuiet (has p.lits) (take (n + 1) clauses)
    rest same =
        let a : length p.lits ≤ length q.lits = extends-longer clauses p q h.extends in
        let b : length q.lits ≤ length r.lits = extends-longer clauses q r e in
        let pq : length q.lits ≡ length p.lits = omega (arith, a, b, same) in
        let qr : length r.lits ≡ length q.lits = omega (arith, pq, same) in
        let is : q.lits ≡ p.lits = extends-same clauses p q h.extends pq in
        All-more (λ c. hint_of (has p.lits) c ≡ Other) clauses n [] lt (h.quiet pq) (subst (λ ls. hint_of (has ls) (get_or clauses n []) ≡ Other) is (s.rests qr))

pub round-quiet : (clauses : List (List ℤ)) (p q : Path) (n : ℕ) → Round clauses p q n → length clauses ≤ n → length q.lits ≡ length p.lits → AreQuiet (has q.lits) clauses
round-quiet clauses p q n h le same =
    let is : q.lits ≡ p.lits = extends-same clauses p q h.extends same in
    subst (λ ls. AreQuiet (has ls) clauses) (sym is) (subst (AreQuiet (has p.lits)) (take_all n clauses le) (h.quiet same))
