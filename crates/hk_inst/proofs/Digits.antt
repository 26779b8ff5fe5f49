-- The number of a word, taken from its last bit on.
use Rattle.std.proofs.Common.{◌≡◌, ℕ, ℤ, suc, ◌<◌, ◌≤◌, ◌^◌, ◌+◌, ◌-◌, ◌*◌, length, drop, ap, sym, ◌∙◌, subst, arith, Bool, true, false, List, ◌∷◌, refl, slice_index_or, pow_mono}
use mir.Val.{bool_byte}
use Rattle.std.proofs.Math.Nat.{pow-succ'}
use Rattle.std.proofs.lemmas.List.{drop_more, drop_all}
use Rattle.hk_circuit.specs.Words.{bit}
use Rattle.hk_cnf.specs.Literal.{value_at}
use Rattle.hk_blast.specs.Blasted.{word_number}

pub digit : (a : List Bool) (ls : List ℤ) (i : ℕ) (e : ℤ) (n b : ℕ) → 0 < i → i ≤ length ls → n ≡ word_number a (drop i ls) → e ≡ slice_index_or ls (i - 1) e → b ≡ bit (value_at a e) → 2 * n + b ≡ word_number a (drop (i - 1) ls)
digit a ls i e n b some within same at is =
    let next : i - 1 + 1 ≡ i = omega (arith, some) in
    let first : drop (i - 1) ls ≡ slice_index_or ls (i - 1) e ∷ drop (i - 1 + 1) ls = drop_more ls (i - 1) e (omega (arith, some, within)) in
    let one : drop (i - 1) ls ≡ e ∷ drop i ls = first ∙ ap (λ x. x ∷ drop (i - 1 + 1) ls) (sym at) ∙ ap (λ k. e ∷ drop k ls) next in
    omega (arith, ap (word_number a) one, same, is)

pub half : (n len i : ℕ) → 0 < i → i ≤ len → len ≤ 64 → n < 2 ^ (len - i) → n < 2 ^ 63
half n len i some within short below = omega (arith, below, pow_mono {i = len - i} {j = 63} (omega (arith, some, short)))

pub doubled : (n b len i : ℕ) → 0 < i → i ≤ len → b ≤ 1 → n < 2 ^ (len - i) → 2 * n + b < 2 ^ (len - (i - 1))
doubled n b len i some within small below =
    let step : len - (i - 1) ≡ suc (len - i) = omega (arith, some, within) in
    subst (λ k. 2 * n + b < 2 ^ k) (sym step) (subst (λ p. 2 * n + b < p) (sym (pow-succ' 2 (len - i))) (omega (arith, below, small)))

pub byte : (t : Bool) → bool_byte t ≡ bit t
byte true = refl
byte false = refl

pub byte-small : (n : ℕ) (t : Bool) → n ≡ bool_byte t → n ≤ 1
byte-small n true e = omega (arith, e)
byte-small n false e = omega (arith, e)

pub none-left : (a : List Bool) (ls : List ℤ) → 0 ≡ word_number a (drop (length ls) ls)
none-left a ls = sym (ap (word_number a) (drop_all (length ls) ls (omega arith)))
