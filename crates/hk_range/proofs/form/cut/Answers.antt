use Rattle.std.proofs.Common.{◌≡◌, ◌<◌, ℕ, ◌-◌, ◌*◌, ◌/◌, ◌%◌, ◌^◌, List, bit_and, IfSome, Vec, Global, arith, refl, sym, ap, subst, ◌∙◌}
use Rattle.hk_range.specs.Linear.{left_items}
use Rattle.hk_range.specs.declared.sums.Item.{Item}
use Rattle.hk_range.proofs.FormLaws.{high_law, low_law, one_shifted}
use Rattle.hk_range.proofs.form.cut.Goals as goal

-- how often the power of two stands in the terms
divided : (c : goal.In-Some) (f : ℕ → ℕ) → left_items f c.args.s.now.items.items ≡ 2 ^ c.args.k * left_items f c.in-Some.items.items
divided c f =
    let law : (g : ℕ → ℕ) → left_items g c.as_slice.result.now ≡ ((1 * 2 ^ c.args.k) % 2 ^ 64) * left_items g c.in-Some.items.items =
    subst (λ o. IfSome o (λ (h : Vec Item Global). (g : ℕ → ℕ) → left_items g c.as_slice.result.now ≡ ((1 * 2 ^ c.args.k) % 2 ^ 64) * left_items g h.items)) c.in-Some.is c.in_ok-items.ensures.left in
    let below : c.args.k < 64 = omega (arith, c.if-k-ge64.false) in
    ap (left_items f) (sym c.as_slice.ensures.value) ∙ law f ∙ ap (λ m. m * left_items f c.in-Some.items.items) (one_shifted c.args.k below)

pub returns-in-Some-clause-high : goal.returns-in-Some-clause-high
returns-in-Some-clause-high c = λ f.
    high_law c.args.k c.args.s.now.left (left_items f c.in-Some.items.items) (left_items f c.args.s.now.items.items) (c.args.s.now.left / 2 ^ c.args.k) (divided c f) refl

pub returns-in-Some-clause-low : goal.returns-in-Some-clause-low
returns-in-Some-clause-low c = λ f.
    let below : c.args.k < 64 = omega (arith, c.if-k-ge64.false) in
    low_law c.args.k c.args.s.now.left (left_items f c.in-Some.items.items) (left_items f c.args.s.now.items.items) (bit_and c.args.s.now.left ((1 * 2 ^ c.args.k) % 2 ^ 64 - 1)) (divided c f)
    (ap (λ m. bit_and c.args.s.now.left (m - 1)) (one_shifted c.args.k below))
