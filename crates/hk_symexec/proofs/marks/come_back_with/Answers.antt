use Rattle.std.proofs.Common.{rules, Some, refl, ap, ◌∙◌}
use Rattle.hk_symvalue.specs.Growth.{Extends}
use Rattle.hk_symexec.proofs.Kept.{true_kept, seen_by, meaning_kept}
use Rattle.hk_symexec.proofs.marks.come_back_with.Goals as goal

pub returns-clause-seen : goal.returns-clause-seen
returns-clause-seen c =
    let frame : Extends c.args.t.now c.constant.new.t = search rules in
    λ v. seen_by c.args.t.now c.constant.new.t frame c.args.x c.requires.state v
    (record { guard = c.in_ok-guard.guard; entries = c.args.x.entries; file = c.args.x.file; back = c.in_ok-back.back; valued = c.in_ok-valued.valued; value = Some c.in_ok-chosen.chosen; stuck = c.args.x.stuck })
    _ refl refl refl refl
    (search rules)
    (search rules)
    (search rules)
    refl
    (true_kept c.args.t.now c.constant.new.t frame c.args.x.stuck c.requires.state.stuck v)

pub returns-clause-kept : goal.returns-clause-kept
returns-clause-kept c =
    let frame : Extends c.value_back.new.t c.constant.new.t = search rules in
    λ v off w is. ap Some (meaning_kept c.value_back.new.t c.constant.new.t frame c.in_ok-chosen.chosen c.in_ok-chosen.ensures.within v ∙ c.in_ok-chosen.ensures.kept v off w is)
