-- Entries counted to one more than the limit.
use Rattle.std.proofs.Common.{◌≡◌, ℕ, zero, suc, ◌*◌, ◌<◌, ◌≤◌, ◌⊎◌, inl, inr, true, false, refl, ap, sym, ◌∙◌, arith}
use Rattle.std.proofs.Math.Dec.{leb}
use Rattle.std.proofs.Math.Nat.{mul-le-mul_right}
use Rattle.std.proofs.lemmas.Bool.Decides.{leb_tells}
use Rattle.std.specs.Prelude.{List, [], ◌∷◌}
use Rattle.spec_tree.specs.Plain.{Key}
use Rattle.spec_tree.specs.Sorted.{product, key_sizes}
use Rattle.spec_lines.specs.Sorts.{cut, tuples_of}

small : (n : ℕ) → n ≤ 4194304 → cut n ≡ n
small n h = grind (arith, h)

large : (n : ℕ) → 4194304 < n → cut n ≡ 4194305
large n h = grind (arith, h)

times_large : (m n : ℕ) → 4194304 < n → 4194304 < suc m * n
times_large m n h =
    let one : 1 ≤ suc m = omega arith in
    let p : 1 * n ≤ suc m * n = mul-le-mul_right n one in
    omega (arith, h, p)

times_by : (n p : ℕ) → ((leb p 4194304 ≡ true) × (p ≤ 4194304)) ⊎ ((leb p 4194304 ≡ false) × (4194304 < p)) → cut (n * cut p) ≡ cut (n * p)
times_by n p (inl h) = ap (λ q. cut (n * q)) (small p h.1)
times_by zero p (inr h) =
    let left : zero * cut p ≡ 0 = omega arith in
    let right : zero * p ≡ 0 = omega arith in
    ap cut (left ∙ sym right)
times_by (suc m) p (inr h) =
    ap (λ q. cut (suc m * q)) (large p h.1) ∙ (large (suc m * 4194305) (times_large m 4194305 (omega arith)) ∙ sym (large (suc m * p) (times_large m p h.1)))

cut_times : (n p : ℕ) → cut (n * cut p) ≡ cut (n * p)
cut_times n p = times_by n p (leb_tells p 4194304)

pub tuples_are : (keys : List Key) → tuples_of keys ≡ cut (product (key_sizes keys))
tuples_are [] = refl
tuples_are (key ∷ keys) = ap (λ p. cut (key.size * p)) (tuples_are keys) ∙ cut_times key.size (product (key_sizes keys))
