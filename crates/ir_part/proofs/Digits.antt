-- A number that digits write, capped while they are read.
use Rattle.std.proofs.Common.{◌≡◌, ℕ, suc, ◌+◌, ◌-◌, ◌*◌, ◌^◌, ◌<◌, ◌≤◌, min, List, [], ◌∷◌, length, get_or, drop, refl, inl, inr, arith, add-one, drop-cons}
use Rattle.std.proofs.lemmas.Bool.{cases_lt}
use Rattle.std.proofs.lemmas.List.{drop_all}
use Rattle.std.proofs.lemmas.Bool.Decides.{nat_tests}
use Rattle.std.specs.Prelude.{nat_lt}
use Rattle.ir_lex.specs.Decimal.{digits_from}

pub least : (n : ℕ) (digits : List ℕ) → n ≤ digits_from n digits
least n [] = omega arith
least n (d ∷ ds) = let h : n * 10 + (d - 48) ≤ digits_from (n * 10 + (d - 48)) ds = least (n * 10 + (d - 48)) ds in omega arith

pub capped : (most n : ℕ) (digits : List ℕ) → min most (digits_from (min n most) digits) ≡ min most (digits_from n digits)
capped most n ds =
    let low : n ≤ digits_from n ds = least n ds in
    let high : min n most ≤ digits_from (min n most) ds = least (min n most) ds in
    elim (cases_lt n most) [ inl below ↦ (let same : min n most ≡ n = omega arith in rw same refl) | inr above ↦ omega arith ]

suc_digit : (most n i : ℕ) (digits : List ℕ) → i < length digits
    → min most (digits_from (min (n * 10 + (get_or digits i 0 - 48)) most) (drop (suc i) digits)) ≡ min most (digits_from n (drop i digits))
suc_digit most n i digits h = rw (drop-cons digits i 0) (capped most (n * 10 + (get_or digits i 0 - 48)) (drop (suc i) digits))

pub next_digit : (most n i : ℕ) (digits : List ℕ) → i < length digits
    → min most (digits_from (min (n * 10 + (get_or digits i 0 - 48)) most) (drop (i + 1) digits)) ≡ min most (digits_from n (drop i digits))
next_digit most n i digits h = rw (add-one i) (suc_digit most n i digits h)

pub last_digit : (most n i : ℕ) (digits : List ℕ) → length digits ≤ i → n ≤ most → min most (digits_from n (drop i digits)) ≡ min most (digits_from 0 digits) → n ≡ min most (digits_from 0 digits)
last_digit most n i digits over small same = let e : drop i digits ≡ [] = drop_all i digits over in let f = rw e at same in omega (arith, f)

-- what is capped is over 64 where the number is
pub over_wide : (n : ℕ) → nat_lt 64 (min (2 ^ 64) n) ≡ nat_lt 64 n
over_wide n = elim (cases_lt 64 n) [ inl below ↦ (let same : 64 < min (2 ^ 64) n = omega arith in grind (arith, nat_tests)) | inr above ↦ (let same : min (2 ^ 64) n ≡ n = omega arith in rw same refl) ]
