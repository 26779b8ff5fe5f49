-- Where unit propagation has nothing left to do and each variable is set, each clause is true.
use Rattle.std.proofs.Common.{◌≡◌, ◌⊎◌, ℕ, zero, suc, Bool, true, false, not, List, [], ◌∷◌, ◌++◌, ℤ, pos, negsuc, neg_ℤ, refl, sym, ◌∙◌, ap, inl, inr}
use Rattle.std.proofs.lemmas.Bool.{false≢true, or_cases, and_from, and_parts}
use Rattle.std.proofs.lemmas.List.Elements.{All-head, All-tail}
use Rattle.std.proofs.lemmas.List.Folds.{list_any_at, list_all-append}
use Rattle.std.specs.List.{All, list_all}
use Rattle.hk_cnf.specs.declared.hint.Hint.TheVariants.{Other}
use Rattle.hk_cnf.specs.Literal.{IsWithin, has, value_at}
use Rattle.hk_cnf.specs.Clauses.{AreWithin, clause_value, clauses_value}
use Rattle.hk_cnf.specs.Hint.{hint_of, Several}
use Rattle.hk_cnf.proofs.Members.{all-has}
use Rattle.hk_cnf.proofs.Tells.{tells-at}
use Rattle.hk_cdcl.specs.Fresh.{AreQuiet}
use Rattle.hk_cdcl.specs.Path.{AreSet, AreTruths}
use Rattle.hk_cdcl.proofs.Places.{has-place, At}

-- a literal that is not false is true in the assignment
unset-true : (lits : List ℤ) (vars : ℕ) (values : List Bool) (l : ℤ) → AreSet lits vars → AreTruths lits vars values → IsWithin vars l → has lits (neg_ℤ l) ≡ false → value_at values l ≡ true
unset-true lits vars values (pos zero) s t w h = absurd (w.literal.nonzero refl)
unset-true lits vars values (pos (suc n)) s t w h = t.same n w.below ∙ pick (or_cases (has lits (pos (suc n))) (has lits (negsuc n)) (s n w.below))
  where
    pick : (has lits (pos (suc n)) ≡ true) ⊎ (has lits (negsuc n) ≡ true) → has lits (pos (suc n)) ≡ true
    pick (inl e) = e
    pick (inr e) = absurd (false≢true (sym h ∙ e))
unset-true lits vars values (negsuc n) s t w h = ap not (t.same n w.below ∙ h)

clause-true : (lits : List ℤ) (vars : ℕ) (values : List Bool) (c : List ℤ) → AreSet lits vars → AreTruths lits vars values → All (IsWithin vars) c → hint_of (has lits) c ≡ Other → clause_value values c ≡ true
clause-true lits vars values c s t w h =
    let o : Several (has lits) c = tells-at (has lits) c Other h in
    let v : value_at values o.one ≡ true = unset-true lits vars values o.one s t (all-has (IsWithin vars) c o.one w o.one_member) o.one_left in
    let a : At c o.one = has-place c o.one o.one_member in
    list_any_at (value_at values) c a.place (pos 0) a.inside (ap (value_at values) a.is ∙ v)

pub quiet-satisfies : (lits : List ℤ) (vars : ℕ) (values : List Bool) (cs : List (List ℤ)) → AreSet lits vars → AreTruths lits vars values → AreWithin vars cs → AreQuiet (has lits) cs → clauses_value values cs ≡ true
quiet-satisfies lits vars values [] s t w q = refl
quiet-satisfies lits vars values (c ∷ cs) s t w q =
    and_from (clause_value values c) (list_all (clause_value values) cs)
    (clause-true lits vars values c s t (All-head (λ d. All (IsWithin vars) d) c cs w) (All-head (λ d. hint_of (has lits) d ≡ Other) c cs q))
    (quiet-satisfies lits vars values cs s t (All-tail (λ d. All (IsWithin vars) d) c cs w) (All-tail (λ d. hint_of (has lits) d ≡ Other) c cs q))

-- an assignment that satisfies more clauses satisfies the first ones
pub front-true : (values : List Bool) (cs more : List (List ℤ)) → clauses_value values (cs ++ more) ≡ true → clauses_value values cs ≡ true
front-true values cs more h = (and_parts (clauses_value values cs) (clauses_value values more) (sym (list_all-append (clause_value values) cs more) ∙ h)).0
