use Rattle.std.proofs.Common.{◌≡◌, ◌+◌, ◌%◌, ◌||◌, ◌==◌, ◌∙◌, ◌<◌, length, ap, arith, not, nat_eq, nat_le, rules}
use Rattle.hk_term.specs.Meaning.{value}
use Rattle.hk_symvalue.specs.Meaning.{is_true}
use Rattle.hk_symvalue.proofs.PointerLaws.{reaches_by}
use Rattle.hk_symvalue.proofs.pointers.aligned_sticks.Goals as goal

pub returns-clause-reaches : goal.returns-clause-reaches
returns-clause-reaches c = λ v.
    let old = c.args.t.now in
    let x = value old c.args.address.bits v in
    let o = is_true c.leaves.new.t c.in_ok-outside.outside v in
    let k = is_true c.is_crooked.new.t c.in_ok-crooked.crooked v in
    let outside : o ≡ not (nat_le (x + c.args.bytes) (value old c.args.size v)) = search rules in
    let place : value c.leaves.new.t c.in_ok-x.x v ≡ x = search rules in
    let object : value c.leaves.new.t c.args.object_align v ≡ value old c.args.object_align v = search rules in
    let crooked : k ≡ (not (x % c.args.align == 0) || not (value old c.args.object_align v % c.args.align == 0)) =
    c.in_ok-crooked.ensures.value v ∙ (λ i. not (place i % c.args.align == 0) || not (object i % c.args.align == 0)) in
    let poison : is_true c.offset_of.new.t c.args.address.poison v ≡ is_true old c.args.address.poison v = search rules in
    let base : value c.offset_of.new.t c.args.address.base v ≡ value old c.args.address.base v = search rules in
    let first : c.in_ok-nowhere.nowhere < length c.is_nowhere.new.t = c.in_ok-nowhere.ensures.truth.0 in
    let second : c.in_ok-nowhere.nowhere < length c.leaves.new.t = omega (arith, first, c.in_ok-outside.ensures.frame.longer) in
    let third : c.in_ok-nowhere.nowhere < length c.is_crooked.new.t = omega (arith, second, c.in_ok-crooked.ensures.frame.longer) in
    let number : value c.or.new.t c.in_ok-nowhere.nowhere v ≡ value c.is_nowhere.new.t c.in_ok-nowhere.nowhere v =
    c.in_ok-bad.ensures.frame.values _ third v ∙ c.in_ok-crooked.ensures.frame.values _ second v ∙ c.in_ok-outside.ensures.frame.values _ first v in
    let stays : is_true c.or.new.t c.in_ok-nowhere.nowhere v ≡ is_true c.is_nowhere.new.t c.in_ok-nowhere.nowhere v = ap (λ n. nat_eq n 1) number in
    let nowhere : is_true c.or.new.t c.in_ok-nowhere.nowhere v ≡ (is_true old c.args.address.poison v || nat_eq (value old c.args.address.base v) 1) =
    stays ∙ c.in_ok-nowhere.ensures.value v ∙ (λ i. poison i || nat_eq (base i) 1) in
    let bad : is_true c.or.new.t c.in_ok-bad.bad v ≡ (o || k) = search rules in
    let whole : is_true c.or-2.new.t c.in_ok-stuck.stuck v ≡ ((is_true old c.args.address.poison v || nat_eq (value old c.args.address.base v) 1) || (o || k)) =
    c.in_ok-stuck.ensures.value v ∙ (λ i. nowhere i || bad i) in
    reaches_by _ (value old c.args.address.base v) x _ _ c.args.bytes c.args.align _ o k whole outside crooked
