-- Sizes that are cut are sums and products of cut sizes.
use Rattle.std.proofs.Common.{◌≡◌, ◌⊎◌, inl, inr, ℕ, zero, suc, ◌+◌, ◌*◌, ◌<◌, ◌≤◌, sym, ◌∙◌, ap, arith}
use Rattle.std.proofs.lemmas.Bool.{cases_lt}
use Rattle.ir_layout.specs.Sizes.{up_to}
use Rattle.ir_layout.specs.Facts.{cut}

cut_small : (n : ℕ) → n ≤ 4294967297 → cut n ≡ n
cut_small n l = omega (arith, l)

cut_large : (n : ℕ) → 4294967297 ≤ n → cut n ≡ 4294967297
cut_large n l = omega (arith, l)

times_large : (n s : ℕ) → 0 < n → 4294967297 ≤ s → 4294967297 ≤ n * s
times_large (suc n) s l m = omega (arith, m)
times_large zero s l m = absurd (omega (arith, l))

pub cut_times : (n s : ℕ) → cut (n * cut s) ≡ cut (n * s)
cut_times zero s = omega arith
cut_times (suc n) s = pick (cases_lt s 4294967297)
  where
    pick : (s < 4294967297) ⊎ (4294967297 ≤ s) → cut (suc n * cut s) ≡ cut (suc n * s)
    pick (inl l) = ap (λ x. cut (suc n * x)) (cut_small s (omega (arith, l)))
    pick (inr l) =
        ap (λ x. cut (suc n * x)) (cut_large s l)
        ∙ cut_large (suc n * 4294967297) (times_large (suc n) 4294967297 (omega arith) (omega arith))
        ∙ sym (cut_large (suc n * s) (times_large (suc n) s (omega arith) l))

pub up_most : (a n : ℕ) → 0 < a → n ≤ up_to a n
up_most a n l = omega (arith, l)

pub cut_up : (a n : ℕ) → 0 < a → cut (up_to a (cut n)) ≡ cut (up_to a n)
cut_up a n l = pick (cases_lt n 4294967297)
  where
    pick : (n < 4294967297) ⊎ (4294967297 ≤ n) → cut (up_to a (cut n)) ≡ cut (up_to a n)
    pick (inl m) = ap (λ x. cut (up_to a x)) (cut_small n (omega (arith, m)))
    pick (inr m) =
        let low : 4294967297 ≤ up_to a 4294967297 = up_most a 4294967297 l in
        let high : n ≤ up_to a n = up_most a n l in
        ap (λ x. cut (up_to a x)) (cut_large n m) ∙ cut_large (up_to a 4294967297) low ∙ sym (cut_large (up_to a n) (above n (up_to a n) m high))
      where
        above : (x y : ℕ) → 4294967297 ≤ x → x ≤ y → 4294967297 ≤ y
        above x y l m = omega (arith, l, m)

pub cut_plus : (m n : ℕ) → cut (cut m + cut n) ≡ cut (m + n)
cut_plus m n = omega arith

-- a field behind others
pub cut_field : (a at s : ℕ) → 0 < a → cut (up_to a (cut at) + cut s) ≡ cut (up_to a at + s)
cut_field a at s l = sides (up_to a (cut at)) (up_to a at) s (cut_up a at l)
  where
    sides : (x y s : ℕ) → cut x ≡ cut y → cut (x + cut s) ≡ cut (y + s)
    sides x y s e = omega (arith, e)
