use Rattle.std.proofs.Common.{◌≡◌, ◌<◌, ◌^◌, ◌||◌, ◌&&◌, ◌∙◌, not, nat_eq, nat_lt, rules}
use Rattle.hk_term.specs.Meaning.{value}
use Rattle.hk_symvalue.specs.Meaning.{is_true, stands_for}
use Rattle.hk_symvalue.proofs.PointerLaws.{begins_as}
use Rattle.hk_symvalue.proofs.pointers.begin.Goals as goal

pub returns-clause-value : goal.returns-clause-value
returns-clause-value c = λ v.
    let old = c.args.t.now in
    let last = c.or-2.new.t in
    let b = value old c.args.from.base v in
    let x = value old c.args.from.bits v in
    let small : x < 2 ^ 64 = search rules in
    let poison : is_true last c.in_ok-poison.poison v ≡ (is_true old c.args.from.poison v || (nat_eq b 0 || (c.args.inbounds && (not (nat_eq b 1) && nat_lt (value old c.args.size v) x)))) = search rules in
    let base : value last c.args.from.base v ≡ b = search rules in
    let bits : value last c.args.from.bits v ≡ x = search rules in
    (λ i. stands_for (is_true last c.in_ok-poison.poison v) (base i) (bits i)) ∙ begins_as c.args.inbounds _ _ b x _ small poison
