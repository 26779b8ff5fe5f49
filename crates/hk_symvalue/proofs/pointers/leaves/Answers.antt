use Rattle.std.proofs.Common.{◌≡◌, ◌<◌, ◌^◌, ◌+◌, ◌-◌, ◌%◌, ◌||◌, ◌∙◌, nat_lt, rules}
use Rattle.hk_term.specs.Meaning.{value}
use Rattle.hk_symvalue.specs.Meaning.{is_true}
use Rattle.hk_symvalue.proofs.PointerLaws.{leaves_is}
use Rattle.hk_symvalue.proofs.pointers.leaves.Goals as goal

pub returns-clause-value : goal.returns-clause-value
returns-clause-value c = λ v.
    let s = value c.args.t.now c.args.size v in
    let x = value c.args.t.now c.args.x v in
    let r = value c.sub.new.t c.in_ok-room.room v in
    let small : s < 2 ^ 64 = search rules in
    let rest : r ≡ (2 ^ 64 + s - c.args.bytes) % 2 ^ 64 = search rules in
    let whole : is_true c.or.new.t c.in_ok-either.either v ≡ (nat_lt s c.args.bytes || nat_lt r x) = search rules in
    whole ∙ leaves_is s c.args.bytes x r small c.ranges.bytes.fits rest
