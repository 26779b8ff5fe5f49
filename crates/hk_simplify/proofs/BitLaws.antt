-- Laws of the operations on bits with a known operand, at any width.
use Rattle.std.proofs.Common.{◌≡◌, ◌-◌, ◌^◌, ◌<◌, ℕ, arith, ap, sym, ◌∙◌, bit_and, bit_or, bit_xor}
use Rattle.std.proofs.Math.Nat.{mod-eq_of_lt}
use Rattle.std.proofs.lemmas.Nat.{and_mask, and-not, and_comm, and_le_r, or_comm, xor_comm}
use Rattle.std.specs.Int.Bits.{and_self, or_self, or_add_and, xor_add_and}
use Rattle.hk_term.specs.Operations.{unary_value}
use Rattle.hk_term.specs.declared.node.UnaryKind.TheVariants.{Not}

pub and_second_ones : (w u a b : ℕ) → w ≡ u → b ≡ 2 ^ u - 1 → a < 2 ^ w → a ≡ bit_and a b
and_second_ones w u a b same ones below =
    sym (ap (bit_and a) (ones ∙ ap (λ k. 2 ^ k - 1) (sym same)) ∙ and_mask a w ∙ mod-eq_of_lt below)

pub and_first_ones : (w u a b : ℕ) → w ≡ u → a ≡ 2 ^ w - 1 → b < 2 ^ u → b ≡ bit_and a b
and_first_ones w u a b same ones below = and_second_ones u w b a (sym same) ones below ∙ and_comm b a

pub or_same : (a b : ℕ) → a ≡ b → a ≡ bit_or a b
or_same a b same = same ∙ sym (ap (λ n. bit_or n b) same ∙ or_self b)

pub or_second_zero : (a b : ℕ) → b ≡ 0 → a ≡ bit_or a b
or_second_zero a b zero = omega (arith, or_add_and a b, and_le_r a b)

pub or_second_ones : (w u a b : ℕ) → w ≡ u → b ≡ 2 ^ u - 1 → a < 2 ^ w → b ≡ bit_or a b
or_second_ones w u a b same ones below = omega (arith, or_add_and a b, and_second_ones w u a b same ones below)

pub or_first_ones : (w u a b : ℕ) → w ≡ u → a ≡ 2 ^ w - 1 → b < 2 ^ u → a ≡ bit_or a b
or_first_ones w u a b same ones below = or_second_ones u w b a (sym same) ones below ∙ or_comm b a

pub xor_second_ones : (w u a b : ℕ) → w ≡ u → b ≡ 2 ^ u - 1 → a < 2 ^ w → unary_value Not w a ≡ bit_xor a b
xor_second_ones w u a b same ones below =
    let whole : 2 ^ w ≡ 2 ^ u = ap (λ k. 2 ^ k) same in
    omega (arith, xor_add_and a b, and_second_ones w u a b same ones below)

pub xor_first_ones : (w u a b : ℕ) → w ≡ u → a ≡ 2 ^ w - 1 → b < 2 ^ u → unary_value Not u b ≡ bit_xor a b
xor_first_ones w u a b same ones below = xor_second_ones u w b a (sym same) ones below ∙ xor_comm b a

-- a number and its complement
pub and_apart : (w a b : ℕ) → b ≡ unary_value Not w a → a < 2 ^ w → 0 ≡ bit_and a b
and_apart w a b is below =
    let none : bit_and (2 ^ w - 1 - a) a ≡ 0 = omega (arith, and-not w a a below below, and_self a) in
    sym (ap (bit_and a) is ∙ and_comm a (2 ^ w - 1 - a) ∙ none)

pub or_apart : (w a b : ℕ) → b ≡ unary_value Not w a → a < 2 ^ w → 2 ^ w - 1 ≡ bit_or a b
or_apart w a b is below = omega (arith, or_add_and a b, and_apart w a b is below)

pub xor_apart : (w a b : ℕ) → b ≡ unary_value Not w a → a < 2 ^ w → 2 ^ w - 1 ≡ bit_xor a b
xor_apart w a b is below = omega (arith, xor_add_and a b, and_apart w a b is below)
