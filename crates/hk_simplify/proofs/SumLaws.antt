-- Laws of sums with constants, at any width.
use Rattle.std.proofs.Common.{◌≡◌, ◌≢◌, ◌+◌, ◌-◌, ◌%◌, ◌^◌, ◌<◌, ◌⊎◌, ℕ, true, false, nat_eq, arith, ap, sym, ◌∙◌, inl, inr}
use Rattle.std.proofs.Math.Nat.{mod-lt, add-mod-mod}
use Rattle.std.proofs.lemmas.Nat.{pow_pos}
use Rattle.std.proofs.lemmas.Bool.{eq-eqb, ne_eqb}
use Rattle.std.proofs.lemmas.Bool.Decides.{eqb_tells}
use Rattle.hk_num.specs.Numbers.{bvadd, bvsub}
use Rattle.hk_num.proofs.Algebra.{add_associates, add_commutes, add_zero, add_then_sub, sub_then_add}
use Rattle.hk_term.specs.Operations.{bit}

-- a number more
pub plus_value : (w x c n a s : ℕ) → a ≡ bvadd w x c → s ≡ bvadd w c n → bvadd w x s ≡ bvadd w a n
plus_value w x c n a s is number = ap (bvadd w x) number ∙ sym (add_associates w x c n) ∙ ap (λ k. bvadd w k n) (sym is)

pub plus_none : (w x c n a s : ℕ) → a ≡ bvadd w x c → s ≡ bvadd w c n → s ≡ 0 → x < 2 ^ w → x ≡ bvadd w a n
plus_none w x c n a s is number none below = sym (ap (bvadd w x) none ∙ add_zero w x below) ∙ plus_value w x c n a s is number

-- a number less is its two's complement more
pub minus_value : (w a n m : ℕ) → m ≡ bvsub w 0 n → n < 2 ^ w → bvadd w a m ≡ bvsub w a n
minus_value w a n m is below =
    let whole : a + (2 ^ w + 0 - n) ≡ 2 ^ w + a - n = omega (arith, below) in
    ap (bvadd w a) is ∙ add-mod-mod a (2 ^ w + 0 - n) (2 ^ w) ∙ ap (λ k. k % 2 ^ w) whole

sum_below : (w x c a : ℕ) → a ≡ bvadd w x c → a < 2 ^ w
sum_below w x c a is = omega (arith, is, mod-lt (x + c) (pow_pos w))

-- two sums of one number
pub distance_value : (w x c d a b : ℕ) → a ≡ bvadd w x c → b ≡ bvadd w x d → c < 2 ^ w → d < 2 ^ w → bvsub w c d ≡ bvsub w a b
distance_value w x c d a b first second small less =
    let back : bvadd w (bvsub w c d) b ≡ a =
    ap (bvadd w (bvsub w c d)) (second ∙ add_commutes w x d) ∙ sym (add_associates w (bvsub w c d) d x)
    ∙ ap (λ k. bvadd w k x) (sub_then_add w c d small less) ∙ add_commutes w c x ∙ sym first in
    sym (add_then_sub w (bvsub w c d) b (mod-lt (2 ^ w + c - d) (pow_pos w)) (sum_below w x d b second)) ∙ ap (λ k. bvsub w k b) back

addend : (w x c a : ℕ) → a ≡ bvadd w x c → x < 2 ^ w → c < 2 ^ w → c ≡ bvsub w a x
addend w x c a is below small = sym (ap (λ k. bvsub w k x) (is ∙ add_commutes w x c) ∙ add_then_sub w c x small below)

pub nat_eq-iff : (a b c d : ℕ) → (a ≡ b → c ≡ d) → (c ≡ d → a ≡ b) → nat_eq a b ≡ nat_eq c d
nat_eq-iff a b c d there back = by (eqb_tells a b)
  where
    by : ((nat_eq a b ≡ true) × (a ≡ b)) ⊎ ((nat_eq a b ≡ false) × (a ≢ b)) → nat_eq a b ≡ nat_eq c d
    by (inl p) = p.0 ∙ sym (eq-eqb c d (there p.1))
    by (inr p) = p.0 ∙ sym (ne_eqb c d (λ e. p.1 (back e)))

pub coincidence_value : (w x c d a b : ℕ) → a ≡ bvadd w x c → b ≡ bvadd w x d → x < 2 ^ w → c < 2 ^ w → d < 2 ^ w → bit (nat_eq c d) ≡ bit (nat_eq a b)
coincidence_value w x c d a b first second below small less =
    ap bit (nat_eq-iff c d a b
    (λ e. first ∙ ap (bvadd w x) e ∙ sym second)
    (λ e. addend w x c a first below small ∙ ap (λ k. bvsub w k x) e ∙ sym (addend w x d b second below less)))

-- a sum with a number is a number where its term is the difference
pub eq_sum_value : (w x c n a s : ℕ) → a ≡ bvadd w x c → s ≡ bvsub w n c → x < 2 ^ w → c < 2 ^ w → n < 2 ^ w → bit (nat_eq x s) ≡ bit (nat_eq a n)
eq_sum_value w x c n a s is number below small fits =
    ap bit (nat_eq-iff x s a n
    (λ e. is ∙ ap (λ k. bvadd w k c) (e ∙ number) ∙ sub_then_add w n c fits small)
    (λ e. sym (add_then_sub w x c below small) ∙ ap (λ k. bvsub w k c) (sym is ∙ e) ∙ sym number))

-- a sum without one of its terms
pub rest_first : (w x y a b : ℕ) → a ≡ bvadd w x y → y ≡ b → x < 2 ^ w → y < 2 ^ w → x ≡ bvsub w a b
rest_first w x y a b is same below small =
    sym (add_then_sub w x y below small) ∙ ap (λ k. bvsub w k y) (sym is) ∙ ap (bvsub w a) same

pub rest_second : (w x y a b : ℕ) → a ≡ bvadd w x y → x ≡ b → x < 2 ^ w → y < 2 ^ w → y ≡ bvsub w a b
rest_second w x y a b is same below small = rest_first w y x a b (is ∙ add_commutes w x y) same small below
