use Rattle.std.proofs.Common.{None, ap, ◌∙◌, slice_set}
use Rattle.hk_symvalue.specs.Meaning.{is_true}
use Rattle.hk_symexec.specs.Seen.{entries_seen}
use Rattle.hk_symexec.proofs.Kept.{true_kept, registers_kept}
use Rattle.hk_symexec.proofs.EntryLaws.{entries_begun}
use Rattle.hk_symexec.proofs.calls.begin.Goals as goal

pub returns-clause-seen : goal.returns-clause-seen
returns-clause-seen c = λ v j. record {
  guard = c.in_ok-never.ensures.value v j;
  entries =
      (ap (entries_seen c.constant.new.t v) (c.opened-entries.ensures ∙ ap (λ l. slice_set l 0 c.args.caller.now.guard) c.in_ok-closed.ensures)
      ∙ entries_begun c.constant.new.t v c.args.blocks c.in_ok-never.never c.args.caller.now.guard (is_true c.args.t.now c.args.caller.now.guard v) (c.in_ok-never.ensures.value v)
      (true_kept c.args.t.now c.constant.new.t c.in_ok-never.ensures.frame c.args.caller.now.guard c.requires.caller.guard v)) j;
  registers = registers_kept c.args.t.now c.constant.new.t c.in_ok-never.ensures.frame c.args.file c.requires.file v j;
  back = c.in_ok-never.ensures.value v j;
  valued = c.in_ok-never.ensures.value v j;
  value = None;
  stuck = true_kept c.args.t.now c.constant.new.t c.in_ok-never.ensures.frame c.args.caller.now.stuck c.requires.caller.stuck v j;
}
