-- Laws of sums, differences, products and quotients with a known operand, at any width.
use Rattle.std.proofs.Common.{◌≡◌, ◌+◌, ◌-◌, ◌%◌, ◌^◌, ◌<◌, ℕ, arith, ap, sym, ◌∙◌, inl, inr}
use Rattle.std.proofs.Math.Nat.{mod-eq_of_lt, div-one, add-mod_right}
use Rattle.std.proofs.lemmas.Bool.{cases_lt}
use Rattle.std.proofs.lemmas.Nat.{pow_pos}
use Rattle.hk_num.specs.Numbers.{bvadd, bvsub, bvmul}
use Rattle.hk_num.proofs.Algebra.{add_commutes, add_zero, sub_zero, sub_self, mul_commutes, mul_zero, mul_one}
use Rattle.hk_term.specs.Operations.{unary_value, udiv_value, urem_value}
use Rattle.hk_term.specs.declared.node.UnaryKind.{UnaryKind}
use Rattle.hk_term.specs.declared.node.UnaryKind.TheVariants.{Not, Neg}

pub add_second_zero : (w a b : ℕ) → b ≡ 0 → a < 2 ^ w → a ≡ bvadd w a b
add_second_zero w a b zero below = sym (ap (λ n. bvadd w a n) zero ∙ add_zero w a below)

pub add_first_zero : (w a b : ℕ) → a ≡ 0 → b < 2 ^ w → b ≡ bvadd w a b
add_first_zero w a b zero below = add_second_zero w b a zero below ∙ add_commutes w b a

pub sub_second_zero : (w a b : ℕ) → b ≡ 0 → a < 2 ^ w → a ≡ bvsub w a b
sub_second_zero w a b zero below = sym (ap (λ n. bvsub w a n) zero ∙ sub_zero w a below)

pub sub_same : (w a b : ℕ) → a ≡ b → 0 ≡ bvsub w a b
sub_same w a b same = sym (ap (λ n. bvsub w n b) same ∙ sub_self w b)

pub sub_first_zero : (w a b : ℕ) → a ≡ 0 → unary_value Neg w b ≡ bvsub w a b
sub_first_zero w a b zero = let same : 2 ^ w - b ≡ 2 ^ w + a - b = omega arith in ap (λ n. n % 2 ^ w) same

pub mul_second_zero : (w a b : ℕ) → b ≡ 0 → b ≡ bvmul w a b
mul_second_zero w a b zero = zero ∙ sym (ap (λ n. bvmul w a n) zero ∙ mul_zero w a)

pub mul_first_zero : (w a b : ℕ) → a ≡ 0 → a ≡ bvmul w a b
mul_first_zero w a b zero = mul_second_zero w b a zero ∙ mul_commutes w b a

pub mul_second_one : (w a b : ℕ) → b ≡ 1 → a < 2 ^ w → a ≡ bvmul w a b
mul_second_one w a b one below = sym (ap (λ n. bvmul w a n) one ∙ mul_one w a below)

pub mul_first_one : (w a b : ℕ) → a ≡ 1 → b < 2 ^ w → b ≡ bvmul w a b
mul_first_one w a b one below = mul_second_one w b a one below ∙ mul_commutes w b a

pub udiv_one : (w a b : ℕ) → b ≡ 1 → a ≡ udiv_value w a b
udiv_one w a b one = sym (ap (λ n. udiv_value w a n) one ∙ div-one a)

pub urem_one : (w a b : ℕ) → b ≡ 1 → 0 ≡ urem_value w a b
urem_one w a b one = let rest : a % 1 ≡ 0 = omega arith in sym (ap (λ n. urem_value w a n) one ∙ rest)

-- the complement of the complement, and the two's complement of the two's complement
complement_twice : (w a b : ℕ) → b ≡ unary_value Not w a → a < 2 ^ w → a ≡ unary_value Not w b
complement_twice w a b is below = omega (arith, is, below)

negative_twice : (w a b : ℕ) → b ≡ unary_value Neg w a → a < 2 ^ w → a ≡ unary_value Neg w b
negative_twice w a b is below =
    elim (cases_lt 0 a) [
      | inl some ↦ (let small : 2 ^ w - a < 2 ^ w = omega (arith, some, below) in
          let there : b ≡ 2 ^ w - a = is ∙ mod-eq_of_lt small in
          let back : 2 ^ w - b ≡ a = omega (arith, there, below) in
          sym (ap (λ n. n % 2 ^ w) back ∙ mod-eq_of_lt below))
      | inr none ↦ (let zero : a ≡ 0 = omega (arith, none) in
          let whole : (2 ^ w - 0) % 2 ^ w ≡ 0 = (let same : 2 ^ w - 0 ≡ 0 + 2 ^ w = omega arith in ap (λ n. n % 2 ^ w) same ∙ add-mod_right 0 (2 ^ w) ∙ mod-eq_of_lt (pow_pos w)) in
          let there : b ≡ 0 = is ∙ ap (λ n. (2 ^ w - n) % 2 ^ w) zero ∙ whole in
          zero ∙ sym (ap (λ n. (2 ^ w - n) % 2 ^ w) there ∙ whole))
    ]

undone_twice : (kind : UnaryKind) (w a b : ℕ) → b ≡ unary_value kind w a → a < 2 ^ w → a ≡ unary_value kind w b
undone_twice Not w a b is below = complement_twice w a b is below
undone_twice Neg w a b is below = negative_twice w a b is below

-- the operand of a term is in turn the result on the term
pub operand_is : (of kind : UnaryKind) (w u a b : ℕ) → of ≡ kind → w ≡ u → b ≡ unary_value of u a → a < 2 ^ u → a ≡ unary_value kind w b
operand_is of kind w u a b same widths is below =
    undone_twice of u a b is below ∙ ap (λ k. unary_value k u b) same ∙ ap (λ n. unary_value kind n b) (sym widths)
