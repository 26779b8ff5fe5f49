use Rattle.std.proofs.Common.{◌≡◌, ◌<◌, ◌^◌, ◌%◌, ◌||◌, ◌&&◌, ◌∙◌, ◌==◌, not, if◌then◌else◌, ap, rules, Bool}
use Rattle.hk_term.specs.Meaning.{value}
use Rattle.ir_value.specs.declared.value.Value.TheVariants.{Poison}
use Rattle.ir_value.specs.Pointers.{signed_step}
use Rattle.hk_symvalue.specs.Meaning.{is_true, stands_for, meaning}
use Rattle.hk_symvalue.specs.Indices.{is_back}
use Rattle.hk_symvalue.proofs.IndexLaws.{flagged_is, or_poison}
use Rattle.hk_symvalue.proofs.indices.flagged_at.Goals as goal

pub returns-clause-value : goal.returns-clause-value
returns-clause-value c = λ v.
    let old = c.args.t.now in
    let last = c.or.new.t in
    let s = c.args.stride in
    let w = s.width in
    let xi = value old c.args.index.bits v in
    let stepped = c.in_ok-stepped.stepped in
    let mid = c.step_at.new.t in
    let room : value old c.args.size v < 2 ^ 64 = search rules in
    let back : is_true mid c.in_ok-excluded.excluded v ≡ (((s.inbounds && s.nuw) && not (s.each == 0)) && is_back w (xi % 2 ^ w)) = search rules in
    let poison : is_true last c.in_ok-poison.poison v ≡ (is_true mid c.in_ok-excluded.excluded v || is_true mid stepped.poison v) = search rules in
    let base : value last stepped.base v ≡ value mid stepped.base v = search rules in
    let bits : value last stepped.bits v ≡ value mid stepped.bits v = search rules in
    let step : meaning mid stepped v ≡ signed_step s.inbounds (value old c.args.size v) w s.each (meaning old c.args.index v) (meaning old c.args.from v) = search rules in
    (λ i. stands_for (poison i) (base i) (bits i))
    ∙ or_poison (is_true mid c.in_ok-excluded.excluded v) (is_true mid stepped.poison v) (value mid stepped.base v) (value mid stepped.bits v)
    ∙ ap (λ (t : Bool). if t then Poison else meaning mid stepped v) back
    ∙ flagged_is s.inbounds s.nuw (is_true old c.args.index.poison v) (value old c.args.size v) w s.each (value old c.args.index.base v) xi (meaning old c.args.from v) (meaning mid stepped v) room c.requires.width.0 c.requires.width.1 step
