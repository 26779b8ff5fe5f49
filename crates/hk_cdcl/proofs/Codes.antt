-- Literals by their codes.
use Rattle.std.proofs.Common.{◌≡◌, ◌≢◌, ℕ, ◌+◌, ◌-◌, ◌*◌, ◌<◌, Bool, true, false, List, [], ◌∷◌, map, ℤ, pos, neg_ℤ, refl, sym, ◌∙◌, ap, subst, arith}
use Rattle.std.specs.Prelude.{suc, negsuc, ◌/◌, ◌%◌, nat_eq, if◌then◌else◌}
use Rattle.std.proofs.lemmas.Bool.{eqb-true, eqb-false, eq-eqb, ne_eqb}
use Rattle.std.specs.List.{All}
use Rattle.hk_cnf.specs.Literal.{IsWithin, code_of}
use Rattle.hk_cdcl.specs.Records.{lit_of}
use Rattle.hk_cdcl.proofs.Places.{code_of-same, code_of-below, within-neg}

pub code-lit : (n : ℕ) → code_of (lit_of n) ≡ n
code-lit n = pick (nat_eq (n % 2) 0) refl
  where
    pick : (b : Bool) → nat_eq (n % 2) 0 ≡ b → code_of (if b then pos (suc (n / 2)) else negsuc (n / 2)) ≡ n
    pick true e = let z : n % 2 ≡ 0 = eqb-true (n % 2) 0 e in omega (arith, z)
    pick false e = let z : n % 2 ≢ 0 = eqb-false (n % 2) 0 e in omega (arith, z)

pub code-neg : (n : ℕ) → code_of (neg_ℤ (lit_of n)) ≡ n + 1 - 2 * (n % 2)
code-neg n = pick (nat_eq (n % 2) 0) refl
  where
    pick : (b : Bool) → nat_eq (n % 2) 0 ≡ b → code_of (neg_ℤ (if b then pos (suc (n / 2)) else negsuc (n / 2))) ≡ n + 1 - 2 * (n % 2)
    pick true e = let z : n % 2 ≡ 0 = eqb-true (n % 2) 0 e in omega (arith, z)
    pick false e = let z : n % 2 ≢ 0 = eqb-false (n % 2) 0 e in omega (arith, z)

pub lit-nonzero : (n : ℕ) → lit_of n ≢ pos 0
lit-nonzero n = pick (nat_eq (n % 2) 0)
  where
    pick : (b : Bool) → (if b then pos (suc (n / 2)) else negsuc (n / 2)) ≢ pos 0
    pick true e = cc
    pick false e = cc

pub lit-code : (l : ℤ) → l ≢ pos 0 → lit_of (code_of l) ≡ l
lit-code l z = code_of-same (lit_of (code_of l)) l (lit-nonzero (code_of l)) z (code-lit (code_of l))

pub lit-apart : (m n : ℕ) → m ≢ n → lit_of m ≢ lit_of n
lit-apart m n d e = d (sym (code-lit m) ∙ (ap code_of e ∙ code-lit n))

pub code-below : (vars n : ℕ) → IsWithin vars (lit_of n) → n < 2 * vars
code-below vars n w = subst (λ i. i < 2 * vars) (code-lit n) (code_of-below vars (lit_of n) w)

pub neg-below : (vars n : ℕ) → IsWithin vars (lit_of n) → n + 1 - 2 * (n % 2) < 2 * vars
neg-below vars n w = subst (λ i. i < 2 * vars) (code-neg n) (code_of-below vars (neg_ℤ (lit_of n)) (within-neg vars (lit_of n) w))

-- the literal as the code makes it
more-one : (n : ℕ) → n + 1 ≡ suc n
more-one n = omega arith

pub lit-even : (n : ℕ) → n % 2 ≡ 0 → pos (n / 2 + 1) ≡ lit_of n
lit-even n e = ap pos (more-one (n / 2)) ∙ sym (ap (λ b. if b then pos (suc (n / 2)) else negsuc (n / 2)) (eq-eqb (n % 2) 0 e))

pub lit-odd : (n : ℕ) → n % 2 ≢ 0 → neg_ℤ (pos (n / 2 + 1)) ≡ lit_of n
lit-odd n e = ap (λ m. neg_ℤ (pos m)) (more-one (n / 2)) ∙ sym (ap (λ b. if b then pos (suc (n / 2)) else negsuc (n / 2)) (ne_eqb (n % 2) 0 e))

-- codes of literals, read back
pub lits-back : (ls : List ℤ) → All (λ l. l ≢ pos 0) ls → map lit_of (map code_of ls) ≡ ls
lits-back [] h = refl
lits-back (l ∷ ls) h = ap (λ x. x ∷ map lit_of (map code_of ls)) (lit-code l (h 0 l (omega arith))) ∙ ap (λ xs. l ∷ xs) (lits-back ls (λ k d lt. h (suc k) d (omega (arith, lt))))
