use Rattle.std.proofs.Common.{sym, subst, get_or, drop, [], false, ◌+◌}
use Rattle.ir_lex.specs.Cut.{cut_of, cuts_of}
use Rattle.ir_lex.specs.declared.cut.Item.{Item}
use Rattle.ir_read.specs.Ahead.{ends}
use Rattle.ir_read.specs.State.{at_start}
use Rattle.ir_read.specs.Spelling.{Leads, SpellsFrom, Passes}
use Rattle.ir_read.specs.View.{state_of}
use Rattle.ir_read.specs.Answers.{IsItemStop, Comes}
use Rattle.std.specs.Prelude.{Err}
use Rattle.ir_read.proofs.Walk.{on_leads, on_stop, on_end, cuts_step, cuts_end}
use Rattle.ir_read.proofs.text.read_items.Goals as goal

-- what stands for an element that is not there
nothing : Item
nothing = record { line = 0; tokens = record { ref_ptr = (0, 0); now = [] }; closed = false }

pub loop-at-preserved : goal.loop-at-preserved
unfolding nothing
loop-at-preserved c =
    let all = c.args.items.now in
    let at = c.loop-at.at in
    let s = state_of c.loop-at.whole c.loop-at.body in
    let next = state_of c.pass.new.whole c.in-Ok.next in
    let item = cut_of (get_or all at nothing) in
    record {
      counted = c.in-Ok.ensures.counted;
      so_far = on_leads s next item (cuts_of (drop at all)) (cuts_of (drop (at + 1) all)) (cuts_of all) (cuts_step all at nothing c.loop-at-test.true)
          (subst (λ items. Leads s item (cuts_of items) next) c.split_at.ensures.back c.in-Ok.ensures.value) c.loop-at.invariant.so_far;
    }

pub returns-in-Err-clause-fault : goal.returns-in-Err-clause-fault
unfolding nothing
returns-in-Err-clause-fault c =
    let all = c.args.items.now in
    let at = c.loop-at.at in
    let s = state_of c.loop-at.whole c.loop-at.body in
    let item = cut_of (get_or all at nothing) in
    let stops = on_stop c.in-Err.stop c.pass.new.whole s item (cuts_of (drop at all)) (cuts_of (drop (at + 1) all)) (cuts_of all) (cuts_step all at nothing c.loop-at-test.true)
    (subst (λ items. Comes (Err c.in-Err.stop) c.pass.new.whole (Passes (ends item (cuts_of items)) s item (cuts_of items))) c.split_at.ensures.back c.in-Err.ensures.value) c.loop-at.invariant.so_far in
    subst (λ stop. IsItemStop (cuts_of all) stop) (sym c.stop_at.ensures) stops

pub returns-clause-found : goal.returns-clause-found
returns-clause-found c =
    let all = c.args.items.now in
    let at = c.loop-at.at in
    subst (λ m. SpellsFrom at_start (cuts_of all) m) (sym c.into_module.ensures.value)
    (on_end (state_of c.loop-at.whole c.loop-at.body) (cuts_of (drop at all)) (cuts_of all) (cuts_end all at c.loop-at-test.false) c.loop-at.invariant.so_far)
