-- One step of the loop over digits.
use Rattle.std.proofs.Common.{◌≡◌, ℕ, ◌+◌, ◌*◌, ◌^◌, ◌<◌, ◌≤◌, Bool, true, false, List, [], ◌∷◌, length, drop, get_or, refl, ap, sym, ◌∙◌, add-one, arith, drop-cons}
use Rattle.std.specs.Prelude.{Option, Some, None, if◌then◌else◌, nat_lt}
use Rattle.std.proofs.lemmas.Bool.{ltb-false, lt-ltb, le-ltb}
use Rattle.std.proofs.Math.Nat.{mul-le-mul_left}
use Rattle.spec_expr.specs.Words.{digit, digits_behind, within}

too_large_by : (base n b : ℕ) (rest : List ℕ) (v : Bool) → within (digits_behind base (n * base + digit b) rest) ≡ None →
    within (if v then digits_behind base (n * base + digit b) rest else None) ≡ None
too_large_by base n b rest true inner = inner
too_large_by base n b rest false inner = refl

-- a number that does not fit is none with more digits
too_large : (base n : ℕ) (rest : List ℕ) → 0 < base → 2 ^ 64 ≤ n → within (digits_behind base n rest) ≡ None
too_large base n [] some large = rw (le-ltb n (2 ^ 64) large) refl
too_large base n (b ∷ rest) some large =
    let h : 1 ≤ base = omega (arith, some) in
    let grows : n * 1 ≤ n * base = mul-le-mul_left n h in
    too_large_by base n b rest (nat_lt (digit b) base) (too_large base (n * base + digit b) rest some (omega (arith, grows, large)))

-- the digits from a place on, one digit further
at_digit : (base n : ℕ) (digits : List ℕ) (i d : ℕ) → i < length digits → digits_behind base n (drop i digits) ≡
    (if nat_lt (digit (get_or digits i d)) base then digits_behind base (n * base + digit (get_or digits i d)) (drop (i + 1) digits) else None)
at_digit base n digits i d within_list = rw (drop-cons digits i d) (rw add-one refl)

pub digit_fits : (base n : ℕ) (digits : List ℕ) (i d : ℕ) → i < length digits → digit (get_or digits i d) < base →
    within (digits_behind base (n * base + digit (get_or digits i d)) (drop (i + 1) digits)) ≡ within (digits_behind base n (drop i digits))
digit_fits base n digits i d within_list small =
    sym (ap within (at_digit base n digits i d within_list ∙ ap (λ v. if v then digits_behind base (n * base + digit (get_or digits i d)) (drop (i + 1) digits) else None) (lt-ltb (digit (get_or digits i d)) base small)))

pub digit_too_large : (base n : ℕ) (digits : List ℕ) (i d : ℕ) → i < length digits → base ≤ digit (get_or digits i d) → within (digits_behind base n (drop i digits)) ≡ None
digit_too_large base n digits i d within_list large =
    ap within (at_digit base n digits i d within_list ∙ ap (λ v. if v then digits_behind base (n * base + digit (get_or digits i d)) (drop (i + 1) digits) else None) (le-ltb (digit (get_or digits i d)) base large))

pub number_too_large : (base n : ℕ) (digits : List ℕ) (i d : ℕ) → 0 < base → i < length digits → digit (get_or digits i d) < base → 2 ^ 64 ≤ n * base + digit (get_or digits i d) →
    within (digits_behind base n (drop i digits)) ≡ None
number_too_large base n digits i d some within_list small large =
    sym (digit_fits base n digits i d within_list small) ∙ too_large base (n * base + digit (get_or digits i d)) (drop (i + 1) digits) some large

no_room_by : (m : ℕ) (v : Bool) → nat_lt m (2 ^ 64) ≡ v → ◌≡◌ {A = Option ℕ} None (if v then Some m else None) → 2 ^ 64 ≤ m
no_room_by m true e h = absurd cc
no_room_by m false e h = ltb-false m (2 ^ 64) e

pub no_room : (m : ℕ) → ◌≡◌ {A = Option ℕ} None (if nat_lt m (2 ^ 64) then Some m else None) → 2 ^ 64 ≤ m
no_room m h = no_room_by m (nat_lt m (2 ^ 64)) refl h

pub ruleset reading_digits = (digit_fits, digit_too_large, number_too_large)
