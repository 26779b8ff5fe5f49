use Rattle.std.proofs.Common.{◌≡◌, ◌<◌, ◌^◌, ◌+◌, ◌%◌, ◌||◌, ◌&&◌, ◌∙◌, not, nat_eq, nat_lt, nat_le, refl, arith, rules}
use Rattle.hk_term.specs.Meaning.{value}
use Rattle.hk_symvalue.specs.Meaning.{is_true, stands_for}
use Rattle.hk_symvalue.specs.Indices.{distance, is_back, delta_of, stays_at}
use Rattle.hk_symvalue.proofs.IndexLaws.{step_is}
use Rattle.hk_symvalue.proofs.indices.step_at.Goals as goal

pub returns-clause-value : goal.returns-clause-value
returns-clause-value c = λ v.
    let old = c.args.t.now in
    let mid = c.moved.new.t in
    let last = c.behind.new.t in
    let m = c.in_ok-m.m in
    let w = c.args.stride.width in
    let each = c.args.stride.each in
    let b = value old c.args.from.base v in
    let x = value old c.args.from.bits v in
    let size = value old c.args.size v in
    let xi = value old c.args.index.bits v in
    let pf = is_true old c.args.from.poison v in
    let n = xi % 2 ^ w in
    let bad = is_true mid c.in_ok-bad.bad v in
    let back = is_true mid m.back v in
    let over = is_true mid m.over v in
    let by = value mid m.by v in
    let base_mid : value mid c.args.from.base v ≡ b = search rules in
    let bits_mid : value mid c.args.from.bits v ≡ x = search rules in
    let size_mid : value mid c.args.size v ≡ size = search rules in
    let poison_mid : is_true mid c.args.from.poison v ≡ pf = search rules in
    let index_is : value c.is_no_index.new.t c.args.index.bits v ≡ xi = search rules in
    let small_mid : value mid c.args.from.bits v < 2 ^ 64 = c.in_ok-made.ensures.small v in
    let small : x < 2 ^ 64 = omega (arith, small_mid, bits_mid) in
    let room : size < 2 ^ 64 = search rules in
    let bad_is : bad ≡ (is_true old c.args.index.poison v || not (nat_eq (value old c.args.index.base v) 0 && nat_lt xi (2 ^ w))) = search rules in
    let back_is : back ≡ is_back w n = c.in_ok-m.ensures.back v ∙ (λ i. is_back w (index_is i % 2 ^ w)) in
    let over_is : over ≡ nat_le (2 ^ 64) (distance w n each) = c.in_ok-m.ensures.over v ∙ (λ i. nat_le (2 ^ 64) (distance w (index_is i % 2 ^ w) each)) in
    let by_is : by ≡ delta_of (is_back w n) (distance w n each) = c.in_ok-m.ensures.by v ∙ (λ i. delta_of (is_back w (index_is i % 2 ^ w)) (distance w (index_is i % 2 ^ w) each)) in
    let base : value last c.in_ok-made.made.base v ≡ b = c.in_ok-made.ensures.base v ∙ base_mid in
    let to : value last c.in_ok-made.made.bits v ≡ (x + by) % 2 ^ 64 = c.in_ok-made.ensures.bits v ∙ (λ i. (bits_mid i + by) % 2 ^ 64) in
    let poison : is_true last c.in_ok-made.made.poison v ≡ (pf || (bad || stays_at c.args.stride.inbounds back over by b x size)) =
    c.in_ok-made.ensures.poison v ∙ (λ i. poison_mid i || (bad || stays_at c.args.stride.inbounds back over by (base_mid i) (bits_mid i) (size_mid i))) in
    (λ i. stands_for (is_true last c.in_ok-made.made.poison v) (base i) (value last c.in_ok-made.made.bits v))
    ∙ step_is c.args.stride.inbounds (is_true old c.args.index.poison v) pf bad back over (is_true last c.in_ok-made.made.poison v) w each (value old c.args.index.base v) xi b x size
    (value last c.in_ok-made.made.bits v) n by c.requires.width.0 c.requires.width.1 small room refl bad_is back_is over_is by_is to poison
