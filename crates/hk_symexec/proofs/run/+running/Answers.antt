use Rattle.std.proofs.Common.{rules, ◌≡◌, ◌<◌, ◌≤◌, ◌+◌, true, false, if◌then◌else◌, nat_eq, Some, None, refl, sym, ap, ◌∙◌, subst, drop, length, slice_get, slice_index_or, arith}
use Rattle.ir_machine.specs.declared.state.End.TheVariants.{Lost}
use Rattle.ir_machine.specs.Values.{Registers, arguments_pass}
use Rattle.ir_machine.specs.Step.{steps_of, first_registers, argument_registers}
use Rattle.ir_walk.specs.Walk.{Behind, Memory, Goes, Stops, on_back, on_passed, on_call, walk_act, walk_steps, walk, visit, visit_all}
use Rattle.hk_symvalue.specs.Meaning.{is_true}
use Rattle.hk_symmem.specs.Guarded.{IsOver, memory_at}
use Rattle.hk_symstep.specs.Files.{IsWithin, registers_of}
use Rattle.hk_symstep.specs.Steps.{AnswersPasses}
use Rattle.hk_symexec.specs.Seen.{seen}
use Rattle.hk_symexec.specs.Tracks.{Off, On, IsFineFlow, Tracks, Rests, along, heads, heads_in, order_in}
use Rattle.hk_symexec.proofs.Kept.{over_kept, exec_kept, memory_kept}
use Rattle.hk_symexec.proofs.PhiLaws.{covers_back}
use Rattle.hk_symexec.proofs.Following.{tracks_as}
use Rattle.hk_symexec.proofs.Carrying.{carried, memory_carried}
use Rattle.hk_symexec.proofs.CallLaws.{passed_splits, call_follows}
use Rattle.hk_symexec.proofs.Visiting.{begins, passes_closed, passes_beyond}
use Rattle.hk_symexec.proofs.Running.{Stepping, stepping_on, touring_on, walk_deeper, no_depth, take_all}
use Rattle.std.proofs.lemmas.List.{drop_all}
use Rattle.ir_walk.specs.LoopFree.{body_of}
use Rattle.ir_machine.specs.Step.{blocks_in}
use Rattle.hk_symexec.specs.Seen.{entries_seen, called}
use Rattle.hk_symexec.proofs.PhiLaws.{drop_next}
use Rattle.hk_symexec.proofs.EntryLaws.{long_seen, entry_shut}
use Rattle.std.proofs.lemmas.Bool.{eq-eqb}
use Rattle.hk_symvalue.proofs.Frames.{followed}
use Rattle.hk_symexec.proofs.run.+running.Goals as goal

pub call_code-returns-clause-tracks : goal.call_code-returns-clause-tracks
call_code-returns-clause-tracks g t c = λ v go e h.
    let known_over : IsOver c.passed.new.t c.args.memory.now = over_kept c.args.t.now c.passed.new.t c.in_ok-poisoned.ensures.frame c.args.memory.now c.requires.over in
    let settled_over : IsOver c.settle_passes.new.t c.args.memory.now = over_kept c.passed.new.t c.settle_passes.new.t c.in_ok-known.ensures.frame c.args.memory.now known_over in
    let filed_over : IsOver c.first_file.new.t c.args.memory.now = over_kept c.settle_passes.new.t c.first_file.new.t c.in_ok-file.ensures.frame c.args.memory.now settled_over in
    let seen_memory : Memory = memory_at c.passed.new.t c.args.memory.now v in
    let first : Registers → Registers = λ rs. first_registers c.args.code.now (argument_registers seen_memory rs c.args.site.now.arguments.now) in
    let one : Behind = λ rs m. on_passed (walk c.args.setting.now.program.now (order_in c.args.setting.now.orders.now) c.args.setting.now.depth) c.args.site.now.step.now c.args.site.now.called rs m go (first_registers c.args.code.now (argument_registers m rs c.args.site.now.arguments.now)) (arguments_pass m rs c.args.site.now.arguments.now) in
    let next : Behind = λ rs m. on_back c.args.site.now.step.now rs go ((walk c.args.setting.now.program.now (order_in c.args.setting.now.orders.now) c.args.setting.now.depth) c.args.site.now.called (first rs) m) in
    let arrived : Tracks c.args.setting.now.program.now c.args.setting.now.function (seen c.passed.new.t v c.args.x) seen_memory one e =
    carried c.args.t.now c.passed.new.t c.in_ok-poisoned.ensures.frame c.args.setting.now.program.now c.args.setting.now.function c.args.memory.now c.requires.over v one e c.args.x c.requires.state h in
    let settled : Tracks c.args.setting.now.program.now c.args.setting.now.function (seen c.settle_passes.new.t v c.in_ok-known.known) seen_memory next e =
    c.in_ok-known.ensures.tracks c.args.setting.now.program.now c.args.setting.now.function v seen_memory next one e
    (λ rs w fine. passed_splits (walk c.args.setting.now.program.now (order_in c.args.setting.now.orders.now) c.args.setting.now.depth) c.args.site.now.step.now c.args.site.now.called rs seen_memory go (first rs) (is_true c.passed.new.t c.in_ok-poisoned.poisoned v) (arguments_pass seen_memory rs c.args.site.now.arguments.now)
    (subst (λ k. AnswersPasses (is_true c.passed.new.t c.in_ok-poisoned.poisoned v) (arguments_pass k rs c.args.site.now.arguments.now)) (sym (memory_kept c.args.t.now c.passed.new.t c.in_ok-poisoned.ensures.frame c.args.memory.now c.requires.over v))
    (c.in_ok-poisoned.ensures.answers v rs (covers_back c.args.t.now c.passed.new.t c.in_ok-poisoned.ensures.frame c.args.x.file c.requires.state.file v rs w))) fine)
    arrived in
    let ready : Tracks c.args.setting.now.program.now c.args.setting.now.function (seen c.first_file.new.t v c.in_ok-known.known) (memory_at c.first_file.new.t c.args.memory.now v) next e =
    carried c.settle_passes.new.t c.first_file.new.t c.in_ok-file.ensures.frame c.args.setting.now.program.now c.args.setting.now.function c.args.memory.now settled_over v next e c.in_ok-known.known c.in_ok-known.ensures.within
    (memory_carried c.passed.new.t c.settle_passes.new.t c.in_ok-known.ensures.frame c.args.setting.now.program.now c.args.setting.now.function c.args.memory.now known_over v next e (seen c.settle_passes.new.t v c.in_ok-known.known) settled) in
    let blocks : c.len.result ≡ length (body_of c.args.setting.now.program.now c.args.site.now.called) = c.len.ensures ∙ ap length (ap blocks_in (sym c.requires.there)) in
    call_follows (walk c.args.setting.now.program.now (order_in c.args.setting.now.orders.now) c.args.setting.now.depth) c.args.setting.now.program.now c.args.setting.now.function c.args.site.now.called c.first_file.new.t c.begin.new.t c.run_function.new.t c.resume.new.t c.args.memory.now c.run_function.new.memory v c.args.site.now.step.now go e first
    c.in_ok-known.known c.in_ok-begun.begun c.in_ok-after.after c.in_ok-made.made c.in_ok-file.file
    c.in_ok-begun.ensures.frame c.in_ok-after.ensures.frame c.in_ok-made.ensures.frame
    (exec_kept c.settle_passes.new.t c.first_file.new.t c.in_ok-file.ensures.frame c.in_ok-known.known c.in_ok-known.ensures.within) filed_over c.in_ok-after.ensures.over
    (c.in_ok-begun.ensures.seen v ∙ ap (λ n. called n (registers_of c.first_file.new.t v c.in_ok-file.file) (seen c.first_file.new.t v c.in_ok-known.known)) blocks)
    (λ rs w. subst (λ k. IsWithin (first_registers c.args.code.now (argument_registers k rs c.args.site.now.arguments.now)) (registers_of c.first_file.new.t v c.in_ok-file.file)) (memory_kept c.passed.new.t c.settle_passes.new.t c.in_ok-known.ensures.frame c.args.memory.now known_over v)
    (c.in_ok-file.ensures.covered v rs (covers_back c.settle_passes.new.t c.first_file.new.t c.in_ok-file.ensures.frame c.in_ok-known.known.file c.in_ok-known.ensures.within.file v rs w)))
    (λ k m r. c.in_ok-after.ensures.off v k m r) (λ rs m r. c.in_ok-after.ensures.on v rs m r)
    (c.in_ok-made.ensures.seen v) (λ rs off w. c.in_ok-made.ensures.kept v rs off w) (λ rs x on q w. c.in_ok-made.ensures.set v rs x on q w)
    ready

pub run_steps-loop-step-preserved : goal.run_steps-loop-step-preserved
run_steps-loop-step-preserved g t c =
    stepping_on (walk c.args.setting.now.program.now (order_in c.args.setting.now.orders.now) c.args.setting.now.depth) c.args.setting.now.program.now c.args.setting.now.function c.args.block c.args.t.now c.loop-step.t c.act.new.t c.args.memory.now c.loop-step.memory c.act.new.memory c.args.x c.loop-step.state c.in_ok-state.state c.args.steps.now
    (drop (c.loop-step.step-index + 1) c.args.steps.now) c.step-item.result
    (subst (λ l. Stepping (walk c.args.setting.now.program.now (order_in c.args.setting.now.orders.now) c.args.setting.now.depth) c.args.setting.now.program.now c.args.setting.now.function c.args.block c.args.t.now c.loop-step.t c.args.memory.now c.loop-step.memory c.args.x c.loop-step.state c.args.steps.now l) (drop_next c.args.steps.now c.loop-step.step-index c.step-item.result c.loop-step-test.true c.step-item.is) c.loop-step.invariant)
    c.in_ok-state.ensures.frame c.in_ok-state.ensures.origins c.in_ok-state.ensures.within c.in_ok-state.ensures.over c.in_ok-state.ensures.tracks

pub run_steps-returns-clause-tracks : goal.run_steps-returns-clause-tracks
run_steps-returns-clause-tracks g t c = λ v e h.
    subst (λ l. Tracks c.args.setting.now.program.now c.args.setting.now.function (seen c.loop-step.t v c.loop-step.state) (memory_at c.loop-step.t c.loop-step.memory v) (walk_steps (walk c.args.setting.now.program.now (order_in c.args.setting.now.orders.now) c.args.setting.now.depth) c.args.setting.now.program.now c.args.setting.now.function c.args.block l) e)
    (drop_all c.loop-step.step-index c.args.steps.now c.loop-step-test.false) (c.loop-step.invariant.tracks v e h)

pub visit_inside-returns-clause-rests : goal.visit_inside-returns-clause-rests
visit_inside-returns-clause-rests g t c = λ v e h.
    c.in_ok-made.ensures.tracks v (along (visit (walk c.args.setting.now.program.now (order_in c.args.setting.now.orders.now) c.args.setting.now.depth) c.args.setting.now.program.now c.args.setting.now.function c.args.block) e)
    (subst (λ l. Tracks c.args.setting.now.program.now c.args.setting.now.function (seen c.enter.new.t v c.in_ok-begun.begun) (memory_at c.enter.new.t c.args.memory.now v) (walk_steps (walk c.args.setting.now.program.now (order_in c.args.setting.now.orders.now) c.args.setting.now.depth) c.args.setting.now.program.now c.args.setting.now.function c.args.block l) (along (visit (walk c.args.setting.now.program.now (order_in c.args.setting.now.orders.now) c.args.setting.now.depth) c.args.setting.now.program.now c.args.setting.now.function c.args.block) e)) (sym (c.behind_phis-steps.ensures ∙ ap (λ l. drop (heads_in l) l) c.steps_of.ensures))
    (memory_carried c.args.t.now c.enter.new.t c.in_ok-begun.ensures.frame c.args.setting.now.program.now c.args.setting.now.function c.args.memory.now c.requires.over v (walk_steps (walk c.args.setting.now.program.now (order_in c.args.setting.now.orders.now) c.args.setting.now.depth) c.args.setting.now.program.now c.args.setting.now.function c.args.block (drop (heads c.args.setting.now.program.now c.args.setting.now.function c.args.block) (steps_of c.args.setting.now.program.now c.args.setting.now.function c.args.block))) (along (visit (walk c.args.setting.now.program.now (order_in c.args.setting.now.orders.now) c.args.setting.now.depth) c.args.setting.now.program.now c.args.setting.now.function c.args.block) e) (seen c.enter.new.t v c.in_ok-begun.begun)
    (subst (λ s. Tracks c.args.setting.now.program.now c.args.setting.now.function s (memory_at c.args.t.now c.args.memory.now v) (walk_steps (walk c.args.setting.now.program.now (order_in c.args.setting.now.orders.now) c.args.setting.now.depth) c.args.setting.now.program.now c.args.setting.now.function c.args.block (drop (heads c.args.setting.now.program.now c.args.setting.now.function c.args.block) (steps_of c.args.setting.now.program.now c.args.setting.now.function c.args.block))) (along (visit (walk c.args.setting.now.program.now (order_in c.args.setting.now.orders.now) c.args.setting.now.depth) c.args.setting.now.program.now c.args.setting.now.function c.args.block) e)) (sym (c.in_ok-begun.ensures.seen v))
    (begins (walk c.args.setting.now.program.now (order_in c.args.setting.now.orders.now) c.args.setting.now.depth) c.args.setting.now.program.now c.args.setting.now.function c.args.block (seen c.args.t.now v c.args.x) (memory_at c.args.t.now c.args.memory.now v) e (subst (λ n. c.args.block < n) (sym (long_seen c.args.t.now v c.args.x.entries)) c.requires.inside) h))))

pub visit_all-loop-block-preserved : goal.visit_all-loop-block-preserved
visit_all-loop-block-preserved g t c =
    touring_on (walk c.args.setting.now.program.now (order_in c.args.setting.now.orders.now) c.args.setting.now.depth) c.args.setting.now.program.now c.args.setting.now.function c.args.t.now c.loop-block.t c.visit.new.t c.args.memory.now c.loop-block.memory c.visit.new.memory c.args.x c.loop-block.state c.in_ok-state.state c.args.order.now c.loop-block.block-index (slice_index_or c.args.order.now c.loop-block.block-index 0) 0
    c.loop-block.invariant c.loop-block-test.true refl c.in_ok-state.ensures.frame c.in_ok-state.ensures.origins c.in_ok-state.ensures.within c.in_ok-state.ensures.over c.in_ok-state.ensures.rests

pub visit_all-returns-clause-rests : goal.visit_all-returns-clause-rests
visit_all-returns-clause-rests g t c = λ v e h.
    subst (λ l. Rests c.args.setting.now.program.now c.args.setting.now.function (seen c.loop-block.t v c.loop-block.state) (memory_at c.loop-block.t c.loop-block.memory v) (along (visit_all (walk c.args.setting.now.program.now (order_in c.args.setting.now.orders.now) c.args.setting.now.depth) c.args.setting.now.program.now c.args.setting.now.function l) e))
    (take_all c.loop-block.block-index c.args.order.now c.loop-block-test.false) (c.loop-block.invariant.rests v e h)

pub act-returns-in_ok-made-in-Call-clause-tracks : goal.act-returns-in_ok-made-in-Call-clause-tracks
act-returns-in_ok-made-in-Call-clause-tracks g t c = λ v go e h.
    c.in_ok-made-in-Call.ensures.tracks v go e
    (subst (λ l. Tracks c.args.setting.now.program.now c.args.setting.now.function (seen c.args.t.now v c.args.x) (memory_at c.args.t.now c.args.memory.now v) (λ rs m. on_call (walk c.args.setting.now.program.now (order_in c.args.setting.now.orders.now) c.args.setting.now.depth) c.args.step.now c.in-Call.called l rs m go (slice_get c.args.setting.now.program.now.functions c.in-Call.called)) e) (sym c.as_slice.ensures)
    (subst (λ a. Tracks c.args.setting.now.program.now c.args.setting.now.function (seen c.args.t.now v c.args.x) (memory_at c.args.t.now c.args.memory.now v) (λ rs m. walk_act (walk c.args.setting.now.program.now (order_in c.args.setting.now.orders.now) c.args.setting.now.depth) c.args.setting.now.program.now c.args.setting.now.function c.args.block c.args.step.now rs m go a) e) c.in-Call.is h))

pub act-returns-in_ok-made-in_default : goal.act-returns-in_ok-made-in_default
act-returns-in_ok-made-in_default g t c = record {
  frame = c.in_ok-made-in_default.ensures.frame;
  origins = c.in_ok-made-in_default.ensures.origins;
  within = c.in_ok-made-in_default.ensures.within;
  over = c.in_ok-made-in_default.ensures.over;
  tracks = λ v go e h. c.in_ok-made-in_default.ensures.tracks (walk c.args.setting.now.program.now (order_in c.args.setting.now.orders.now) c.args.setting.now.depth) v go e h;
}

pub call-returns-in-None-clause-tracks : goal.call-returns-in-None-clause-tracks
call-returns-in-None-clause-tracks g t c = λ v go e h.
    let none : slice_get c.args.setting.now.program.now.functions c.args.site.now.called ≡ None = c.in-None.ensures.none refl in
    tracks_as c.args.setting.now.program.now c.args.setting.now.function (seen c.args.t.now v c.args.x) (memory_at c.args.t.now c.args.memory.now v) (λ rs m. on_call (walk c.args.setting.now.program.now (order_in c.args.setting.now.orders.now) c.args.setting.now.depth) c.args.site.now.step.now c.args.site.now.called c.args.site.now.arguments.now rs m go (slice_get c.args.setting.now.program.now.functions c.args.site.now.called)) go e
    (λ rs on w fine. absurd (subst (λ o. IsFineFlow (on_call (walk c.args.setting.now.program.now (order_in c.args.setting.now.orders.now) c.args.setting.now.depth) c.args.site.now.step.now c.args.site.now.called c.args.site.now.arguments.now rs (memory_at c.args.t.now c.args.memory.now v) go o)) none fine)) h

pub call-returns-in_ok-made-in-Some-clause-tracks : goal.call-returns-in_ok-made-in-Some-clause-tracks
call-returns-in_ok-made-in-Some-clause-tracks g t c = λ v go e h.
    let there : slice_get c.args.setting.now.program.now.functions c.args.site.now.called ≡ Some c.in-Some.code.now = c.in-Some.ensures.some in
    let count : nat_eq (length c.args.site.now.arguments.now) c.in-Some.code.now.parameters ≡ true = eq-eqb (length c.args.site.now.arguments.now) c.in-Some.code.now.parameters c.if-site-code.true in
    c.in_ok-made-in-Some.ensures.tracks v go e
    (subst (λ b. Tracks c.args.setting.now.program.now c.args.setting.now.function (seen c.args.t.now v c.args.x) (memory_at c.args.t.now c.args.memory.now v) (λ rs m. (if b then on_passed (walk c.args.setting.now.program.now (order_in c.args.setting.now.orders.now) c.args.setting.now.depth) c.args.site.now.step.now c.args.site.now.called rs m go (first_registers c.in-Some.code.now (argument_registers m rs c.args.site.now.arguments.now)) (arguments_pass m rs c.args.site.now.arguments.now) else Stops Lost)) e) count
    (subst (λ o. Tracks c.args.setting.now.program.now c.args.setting.now.function (seen c.args.t.now v c.args.x) (memory_at c.args.t.now c.args.memory.now v) (λ rs m. on_call (walk c.args.setting.now.program.now (order_in c.args.setting.now.orders.now) c.args.setting.now.depth) c.args.site.now.step.now c.args.site.now.called c.args.site.now.arguments.now rs m go o) e) there h))

pub call-returns-else-site-code-clause-tracks : goal.call-returns-else-site-code-clause-tracks
call-returns-else-site-code-clause-tracks g t c = λ v go e h.
    let there : slice_get c.args.setting.now.program.now.functions c.args.site.now.called ≡ Some c.in-Some.code.now = c.in-Some.ensures.some in
    let count : nat_eq (length c.args.site.now.arguments.now) c.in-Some.code.now.parameters ≡ false = search rules in
    tracks_as c.args.setting.now.program.now c.args.setting.now.function (seen c.args.t.now v c.args.x) (memory_at c.args.t.now c.args.memory.now v) (λ rs m. on_call (walk c.args.setting.now.program.now (order_in c.args.setting.now.orders.now) c.args.setting.now.depth) c.args.site.now.step.now c.args.site.now.called c.args.site.now.arguments.now rs m go (slice_get c.args.setting.now.program.now.functions c.args.site.now.called)) go e
    (λ rs on w fine. absurd (subst (λ b. IsFineFlow (if b then on_passed (walk c.args.setting.now.program.now (order_in c.args.setting.now.orders.now) c.args.setting.now.depth) c.args.site.now.step.now c.args.site.now.called rs (memory_at c.args.t.now c.args.memory.now v) go (first_registers c.in-Some.code.now (argument_registers (memory_at c.args.t.now c.args.memory.now v) rs c.args.site.now.arguments.now)) (arguments_pass (memory_at c.args.t.now c.args.memory.now v) rs c.args.site.now.arguments.now) else Stops Lost)) count
    (subst (λ o. IsFineFlow (on_call (walk c.args.setting.now.program.now (order_in c.args.setting.now.orders.now) c.args.setting.now.depth) c.args.site.now.step.now c.args.site.now.called c.args.site.now.arguments.now rs (memory_at c.args.t.now c.args.memory.now v) go o)) there fine))) h

pub call_code-resume-requires-clause-state : goal.call_code-resume-requires-clause-state
call_code-resume-requires-clause-state g t c = exec_kept c.settle_passes.new.t c.run_function.new.t (followed c.settle_passes.new.t c.begin.new.t c.run_function.new.t (followed c.settle_passes.new.t c.first_file.new.t c.begin.new.t c.in_ok-file.ensures.frame c.in_ok-begun.ensures.frame) c.in_ok-after.ensures.frame) c.in_ok-known.known c.in_ok-known.ensures.within

pub call_code-returns-in_err-made-clause-frame : goal.call_code-returns-in_err-made-clause-frame
call_code-returns-in_err-made-clause-frame g t c = (followed c.args.t.now c.run_function.new.t c.resume.new.t (followed c.args.t.now c.begin.new.t c.run_function.new.t (followed c.args.t.now c.first_file.new.t c.begin.new.t (followed c.args.t.now c.settle_passes.new.t c.first_file.new.t (followed c.args.t.now c.passed.new.t c.settle_passes.new.t c.in_ok-poisoned.ensures.frame c.in_ok-known.ensures.frame) c.in_ok-file.ensures.frame) c.in_ok-begun.ensures.frame) c.in_ok-after.ensures.frame) c.in_err-made.ensures.frame)

pub call_code-returns-clause-frame : goal.call_code-returns-clause-frame
call_code-returns-clause-frame g t c = (followed c.args.t.now c.run_function.new.t c.resume.new.t (followed c.args.t.now c.begin.new.t c.run_function.new.t (followed c.args.t.now c.first_file.new.t c.begin.new.t (followed c.args.t.now c.settle_passes.new.t c.first_file.new.t (followed c.args.t.now c.passed.new.t c.settle_passes.new.t c.in_ok-poisoned.ensures.frame c.in_ok-known.ensures.frame) c.in_ok-file.ensures.frame) c.in_ok-begun.ensures.frame) c.in_ok-after.ensures.frame) c.in_ok-made.ensures.frame)

pub call_code-returns-clause-over : goal.call_code-returns-clause-over
call_code-returns-clause-over g t c = over_kept c.run_function.new.t c.resume.new.t c.in_ok-made.ensures.frame c.run_function.new.memory c.in_ok-after.ensures.over

pub run_function-returns-then-setting-eq0-clause-on : goal.run_function-returns-then-setting-eq0-clause-on
run_function-returns-then-setting-eq0-clause-on g t c = λ v rs m h. no_depth c.args.setting.now.program.now (order_in c.args.setting.now.orders.now) c.args.setting.now.depth c.args.setting.now.function rs m (seen c.args.t.now v c.args.x) (memory_at c.args.t.now c.args.memory.now v) (search rules)

pub run_function-returns-in_ok-made-clause-off : goal.run_function-returns-in_ok-made-clause-off
run_function-returns-in_ok-made-clause-off g t c = λ v k m h. c.in_ok-made.ensures.rests v (Off k m) h

pub run_function-returns-in_ok-made-clause-on : goal.run_function-returns-in_ok-made-clause-on
run_function-returns-in_ok-made-clause-on g t c = λ v rs m h.
    let some : 0 < c.args.setting.now.depth = search rules in
    subst (λ f. Rests c.args.setting.now.program.now c.args.setting.now.function (seen c.run_blocks.new.t v c.in_ok-made.made) (memory_at c.run_blocks.new.t c.run_blocks.new.memory v) (On f)) (sym (walk_deeper c.args.setting.now.program.now (order_in c.args.setting.now.orders.now) c.args.setting.now.depth c.args.setting.now.function rs m some))
    (c.in_ok-made.ensures.rests v (On (Goes 0 0 rs m)) h)

pub run_blocks-returns-clause-rests : goal.run_blocks-returns-clause-rests
run_blocks-returns-clause-rests g t c = λ v e h.
    subst (λ l. Rests c.args.setting.now.program.now c.args.setting.now.function (seen c.visit_all.new.t v c.in_ok-made.made) (memory_at c.visit_all.new.t c.visit_all.new.memory v) (along (visit_all (walk c.args.setting.now.program.now (order_in c.args.setting.now.orders.now) c.args.setting.now.depth) c.args.setting.now.program.now c.args.setting.now.function l) e)) c.order_of-order.ensures (c.in_ok-made.ensures.rests v e h)

pub visit-returns-then-is_never-clause-rests : goal.visit-returns-then-is_never-clause-rests
visit-returns-then-is_never-clause-rests g t c = λ v e h.
    let inside : c.args.block < length (entries_seen c.args.t.now v c.args.x.entries) = omega (arith, c.if-block-len.true, c.len.ensures, long_seen c.args.t.now v c.args.x.entries) in
    passes_closed (walk c.args.setting.now.program.now (order_in c.args.setting.now.orders.now) c.args.setting.now.depth) c.args.setting.now.program.now c.args.setting.now.function c.args.block (seen c.args.t.now v c.args.x) (memory_at c.args.t.now c.args.memory.now v) e inside
    (entry_shut c.args.t.now c.args.x.entries c.args.block c.at.result v c.at.ensures (c.is_never.ensures c.if-is_never.true v)) h

pub visit-returns-else-block-len-clause-rests : goal.visit-returns-else-block-len-clause-rests
visit-returns-else-block-len-clause-rests g t c = λ v e h.
    let beyond : length (entries_seen c.args.t.now v c.args.x.entries) ≤ c.args.block = omega (arith, c.if-block-len.false, c.len.ensures, long_seen c.args.t.now v c.args.x.entries) in
    passes_beyond (walk c.args.setting.now.program.now (order_in c.args.setting.now.orders.now) c.args.setting.now.depth) c.args.setting.now.program.now c.args.setting.now.function c.args.block (seen c.args.t.now v c.args.x) (memory_at c.args.t.now c.args.memory.now v) e beyond h
