use Rattle.std.proofs.Common.{ap, ◌∙◌}
use Rattle.hk_symvalue.specs.Meaning.{is_true}
use Rattle.hk_symexec.specs.Seen.{entries_seen}
use Rattle.hk_symexec.proofs.EntryLaws.{mark_in}
use Rattle.hk_symexec.proofs.jumps.mark_inside.Goals as goal

pub returns-clause-seen : goal.returns-clause-seen
returns-clause-seen c = λ v.
    ap (entries_seen c.or.new.t v) c.set.ensures
    ∙ mark_in c.args.t.now c.or.new.t c.in_ok-both.ensures.frame c.args.entries c.requires.entries c.args.to c.in_ok-both.both c.at-before.result
    (is_true c.args.t.now c.args.condition v) v c.at-before.ensures (c.in_ok-both.ensures.value v)
