-- A literal together with its negation, by a table of the literals that were seen.
use Rattle.std.proofs.Common.{◌≡◌, ℕ, ◌+◌, Bool, true, false, ◌||◌, cond, List, [], ◌∷◌, ◌++◌, length, take, drop, get_or, suc, ◌^◌, ℤ, pos, negsuc, neg_ℤ, refl, sym, ◌∙◌, ap, subst, arith, ◌<◌}
use Rattle.std.proofs.lemmas.Bool.{or_right}
use Rattle.std.proofs.lemmas.List.{take_more, take-append-drop}
use Rattle.std.proofs.lemmas.List.Folds.{list_any-append}
use Rattle.std.proofs.lemmas.Int.{to_z-of_z}
use mir.Val.{SFits, to_z, of_z}
use mir.Syntax.{w64}
use Rattle.std.specs.Ordering.{int_eq}
use Rattle.hk_cnf.specs.Literal.{has, IsLiteral}
use Rattle.hk_lrat.specs.Log.{has_both}
use Rattle.hk_lrat.proofs.Denied.{has_both-push, has_both-left}

-- a literal whose negation was seen, and one whose negation was not
pub both-found : (c : List ℤ) (i : ℕ) (l : ℤ) → i < length c → l ≡ get_or c i l → has (take i c) (neg_ℤ l) ≡ true → true ≡ has_both c
both-found c i l lt at h =
    let parts : take i c ++ l ∷ [] ≡ take (i + 1) c = ap (λ x. take i c ++ x ∷ []) at ∙ sym (take_more c i l lt) in
    let here : has_both (take (i + 1) c) ≡ true = ap has_both (sym parts) ∙ (has_both-push (take i c) l ∙ or_right (has_both (take i c)) (has (take i c) (neg_ℤ l)) h) in
    sym (ap has_both (sym (take-append-drop (i + 1) c)) ∙ has_both-left (take (i + 1) c) (drop (i + 1) c) here)

pub both-none : (c : List ℤ) (i : ℕ) (l : ℤ) → i < length c → l ≡ get_or c i l → has_both (take i c) ≡ false → has (take i c) (neg_ℤ l) ≡ false → has_both (take (i + 1) c) ≡ false
both-none c i l lt at n h =
    ap has_both (take_more c i l lt ∙ ap (λ x. take i c ++ x ∷ []) (sym at)) ∙ (has_both-push (take i c) l ∙ (ap (λ b. b || has (take i c) (neg_ℤ l)) n ∙ h))

or-false : (b : Bool) → b ≡ b || false
or-false true = refl
or-false false = refl

or-swap : (a b : Bool) → cond a true b ≡ b || (a || false)
or-swap true true = refl
or-swap true false = refl
or-swap false true = refl
or-swap false false = refl

pub seen-more : (c : List ℤ) (i : ℕ) (l k : ℤ) (old new : Bool) → i < length c → l ≡ get_or c i l → old ≡ has (take i c) k → new ≡ cond (int_eq k l) true old → new ≡ has (take (i + 1) c) k
seen-more c i l k old new lt at o n =
    n ∙ (ap (cond (int_eq k l) true) o ∙ (or-swap (int_eq k l) (has (take i c) k)
    ∙ (sym (list_any-append (int_eq k) (take i c) (l ∷ [])) ∙ ap (λ x. has x k) (ap (λ x. take i c ++ x ∷ []) at ∙ sym (take_more c i l lt)))))

-- a literal fits 64 bits
literal-fits : (z : ℤ) → IsLiteral z → SFits w64 z
literal-fits (pos n) h = let lt : n < 2 ^ 63 = h.small in record { sfits = omega (arith, lt) }
literal-fits (negsuc n) h = let lt : suc n < 2 ^ 63 = h.small in record { sfits = omega (arith, lt) }

pub literal-bits : (z l : ℤ) → z ≡ l → IsLiteral l → to_z w64 (of_z w64 z) ≡ l
literal-bits z l e h = to_z-of_z w64 z (literal-fits z (subst IsLiteral (sym e) h)) ∙ e
