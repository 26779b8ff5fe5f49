use Rattle.std.proofs.Common.{rules, refl}
use Rattle.hk_symvalue.specs.Growth.{Extends}
use Rattle.hk_symexec.proofs.Kept.{true_kept, operand_same, seen_by}
use Rattle.hk_symexec.proofs.marks.stick.Goals as goal

pub returns-clause-seen : goal.returns-clause-seen
returns-clause-seen c =
    let frame : Extends c.args.t.now c.and-2.new.t = search rules in
    λ v. seen_by c.args.t.now c.and-2.new.t frame c.args.x c.requires.state v _ _ refl refl refl refl
    (search rules)
    (true_kept c.args.t.now c.and-2.new.t frame c.args.x.back c.requires.state.back v)
    (true_kept c.args.t.now c.and-2.new.t frame c.args.x.valued c.requires.state.valued v)
    (operand_same c.args.t.now c.and-2.new.t frame c.args.x.value c.requires.state.value v)
    (search rules)
