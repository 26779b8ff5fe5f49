-- Laws of terms that are put into sums, less what both sums have.
use Rattle.std.proofs.Common.{◌≡◌, ℕ, ◌+◌, ◌*◌, ap, arith}

-- so many times more in both sums, less what both have
pub merge_law : (l0 r0 l r m x y n : ℕ) → x + m ≡ l0 + l → y + m ≡ r0 + r → x * n + (r0 * n + r * n) ≡ y * n + (l0 * n + l * n)
merge_law l0 r0 l r m x y n first second =
    let p : (x + m) * n ≡ (l0 + l) * n = ap (λ k. k * n) first in
    let q : (y + m) * n ≡ (r0 + r) * n = ap (λ k. k * n) second in
    omega (arith, p, q)

-- ---- a term that is put by its parts

pub times_law : (L0 R0 L1 R1 ml mr l r n x a : ℕ) → L1 + (R0 + mr * x) ≡ R1 + (L0 + ml * x) → ml ≡ l * n → mr ≡ r * n → a ≡ n * x → L1 + (R0 + r * a) ≡ R1 + (L0 + l * a)
times_law L0 R0 L1 R1 ml mr l r n x a h ml_is mr_is is =
    let p : l * a ≡ l * (n * x) = ap (λ k. l * k) is in
    let q : r * a ≡ r * (n * x) = ap (λ k. r * k) is in
    let u : ml * x ≡ (l * n) * x = ap (λ k. k * x) ml_is in
    let w : mr * x ≡ (r * n) * x = ap (λ k. k * x) mr_is in
    omega (arith, h, p, q, u, w)

pub linear_law : (L0 R0 L1 R1 L2 R2 ml mr l r n x y a : ℕ) → L1 + (R0 + mr * x) ≡ R1 + (L0 + ml * x) → L2 + (R1 + r * y) ≡ R2 + (L1 + l * y) → ml ≡ l * n → mr ≡ r * n → a ≡ n * x + y → L2 + (R0 + r * a) ≡ R2 + (L0 + l * a)
linear_law L0 R0 L1 R1 L2 R2 ml mr l r n x y a h g ml_is mr_is is =
    let p : l * a ≡ l * (n * x + y) = ap (λ k. l * k) is in
    let q : r * a ≡ r * (n * x + y) = ap (λ k. r * k) is in
    let u : ml * x ≡ (l * n) * x = ap (λ k. k * x) ml_is in
    let w : mr * x ≡ (r * n) * x = ap (λ k. k * x) mr_is in
    omega (arith, h, g, p, q, u, w)

pub minus_law : (L0 R0 L1 R1 L2 R2 l r x y a : ℕ) → L1 + (R0 + r * x) ≡ R1 + (L0 + l * x) → L2 + (R1 + l * y) ≡ R2 + (L1 + r * y) → a + y ≡ x → L2 + (R0 + r * a) ≡ R2 + (L0 + l * a)
minus_law L0 R0 L1 R1 L2 R2 l r x y a h g is =
    let p : l * (a + y) ≡ l * x = ap (λ k. l * k) is in
    let q : r * (a + y) ≡ r * x = ap (λ k. r * k) is in
    omega (arith, h, g, p, q)

-- a part that a factor divides, behind others
pub keep_law : (c new old low pl il x y : ℕ) → new ≡ old + pl * x → c * pl ≡ il → x ≡ y → c * new + low ≡ c * old + low + il * y
keep_law c new old low pl il x y is whole same =
    let p : c * new ≡ c * (old + pl * x) = ap (λ k. c * k) is in
    let q : (c * pl) * y ≡ il * y = ap (λ k. k * y) whole in
    let s : (c * pl) * x ≡ (c * pl) * y = ap (λ k. (c * pl) * k) same in
    omega (arith, p, q, s)
