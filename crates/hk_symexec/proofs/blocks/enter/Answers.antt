use Rattle.std.proofs.Common.{ap, ◌∙◌}
use Rattle.hk_symexec.specs.Seen.{entries_seen}
use Rattle.hk_symexec.proofs.Kept.{true_kept, operand_same, registers_kept}
use Rattle.hk_symexec.proofs.EntryLaws.{entry_taken, entry_at}
use Rattle.hk_symexec.proofs.blocks.enter.Goals as goal

pub returns-clause-seen : goal.returns-clause-seen
returns-clause-seen c = λ v j. record {
  guard = entry_at c.args.t.now c.constant.new.t c.in_ok-never.ensures.frame c.args.x.entries c.requires.state.entries c.args.block c.at-guard.result v c.at-guard.ensures j;
  entries = (ap (entries_seen c.constant.new.t v) c.set.ensures ∙ entry_taken c.args.t.now c.constant.new.t c.in_ok-never.ensures.frame c.args.x.entries c.requires.state.entries c.args.block c.in_ok-never.never v (c.in_ok-never.ensures.value v)) j;
  registers = registers_kept c.args.t.now c.constant.new.t c.in_ok-never.ensures.frame c.args.x.file c.requires.state.file v j;
  back = true_kept c.args.t.now c.constant.new.t c.in_ok-never.ensures.frame c.args.x.back c.requires.state.back v j;
  valued = true_kept c.args.t.now c.constant.new.t c.in_ok-never.ensures.frame c.args.x.valued c.requires.state.valued v j;
  value = operand_same c.args.t.now c.constant.new.t c.in_ok-never.ensures.frame c.args.x.value c.requires.state.value v j;
  stuck = true_kept c.args.t.now c.constant.new.t c.in_ok-never.ensures.frame c.args.x.stuck c.requires.state.stuck v j;
}
