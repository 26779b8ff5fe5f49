-- One more byte of a number.
use Rattle.std.proofs.Common.{◌≡◌, ℕ, suc, ◌+◌, ◌-◌, ◌*◌, ◌<◌, ◌≤◌, ◌^◌, ◌/◌, ◌%◌, List, sym, ◌∙◌, ap, subst, arith, lit<}
use Rattle.std.specs.Prelude.{slice_index, slice_set}
use Rattle.std.proofs.Math.Nat.{pow-succ', pow-le-pow_right}
use Rattle.ir_layout.specs.Bytes.{number_at, with_number}

pub load_more : (bytes left offset number byte : ℕ) (items : List ℕ) → 0 < left → left ≤ bytes → number ≡ number_at (bytes - left) (offset + left) items → byte ≡ slice_index items (offset + (left - 1))
    → 256 * number + byte ≡ number_at (bytes - (left - 1)) (offset + (left - 1)) items
load_more bytes left offset number byte items a b is read =
    let n : bytes - (left - 1) ≡ suc (bytes - left) = omega (arith, a, b) in
    let at : offset + left ≡ offset + (left - 1) + 1 = omega (arith, a) in
    let rest : number ≡ number_at (bytes - left) (offset + (left - 1) + 1) items = is ∙ ap (λ x. number_at (bytes - left) x items) at in
    omega (arith, rest, read)
    ∙ sym (ap (λ x. number_at x (offset + (left - 1)) items) n)

pub store_more : (bytes at offset rest : ℕ) (items whole : List ℕ) → at < bytes → with_number (bytes - at) (offset + at) rest items ≡ whole
    → with_number (bytes - (at + 1)) (offset + (at + 1)) (rest / 256) (slice_set items (offset + at) (rest % 256)) ≡ whole
store_more bytes at offset rest items whole l is =
    let n : bytes - at ≡ suc (bytes - (at + 1)) = omega (arith, l) in
    let next : offset + (at + 1) ≡ offset + at + 1 = omega arith in
    ap (λ x. with_number (bytes - (at + 1)) x (rest / 256) (slice_set items (offset + at) (rest % 256))) next
    ∙ sym (ap (λ x. with_number x (offset + at) rest items) n) ∙ is

pub load_fits : (bytes left number byte : ℕ) → 0 < left → left ≤ bytes → number < 256 ^ (bytes - left) → byte < 256 → 256 * number + byte < 256 ^ (bytes - (left - 1))
load_fits bytes left number byte a b small byte_small =
    let n : bytes - (left - 1) ≡ suc (bytes - left) = omega (arith, a, b) in
    let power : 256 ^ suc (bytes - left) ≡ 256 * 256 ^ (bytes - left) = power_more (bytes - left) in
    subst (λ x. 256 * number + byte < 256 ^ x) (sym n) (omega (arith, small, byte_small, power))
  where
    power_more : (k : ℕ) → 256 ^ suc k ≡ 256 * 256 ^ k
    power_more k = pow-succ' 256 k

pub load_bounded : (bytes left number byte : ℕ) → 0 < left → left ≤ bytes → bytes ≤ 8 → number < 256 ^ (bytes - left) → byte < 256 → 256 * number + byte < 18446744073709551616
load_bounded bytes left number byte a b few small byte_small =
    let most : 256 ^ (bytes - (left - 1)) ≤ 256 ^ 8 = pow-le-pow_right {n = 256} (lit< tt) {i = bytes - (left - 1)} {j = 8} (omega (arith, few)) in
    let all : 256 * number + byte < 256 ^ (bytes - (left - 1)) = load_fits bytes left number byte a b small byte_small in
    bounded (256 * number + byte) (256 ^ (bytes - (left - 1))) all most
  where
    bounded : (x y : ℕ) → x < y → y ≤ 18446744073709551616 → x < 18446744073709551616
    bounded x y l m = omega (arith, l, m)
