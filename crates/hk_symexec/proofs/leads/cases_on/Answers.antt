use Rattle.std.proofs.Common.{◌+◌, nat_eq, ap, ◌∙◌, subst, drop, slice_index_or}
use Rattle.hk_term.specs.Meaning.{value}
use Rattle.ir_machine.specs.Step.{case_of}
use Rattle.ir_walk.specs.Walk.{on_jump}
use Rattle.hk_symmem.specs.Guarded.{memory_at}
use Rattle.hk_symexec.specs.Seen.{seen}
use Rattle.hk_symexec.specs.Tracks.{Tracks}
use Rattle.hk_symexec.proofs.Kept.{over_kept}
use Rattle.hk_symexec.proofs.Leading.{Casing, casing_on}
use Rattle.std.proofs.lemmas.List.{drop_all}
use Rattle.hk_symexec.proofs.PhiLaws.{drop_at}
use Rattle.hk_symexec.proofs.leads.cases_on.Goals as goal

pub loop-case-preserved : goal.loop-case-preserved
loop-case-preserved g c =
    casing_on c.args.setting.now.program.now c.args.setting.now.function c.args.edges.now.from c.args.t.now c.loop-case.t c.equals.new.t c.jump.new.t c.args.memory.now c.args.x c.loop-case.state c.in_ok-state.state c.args.bits c.in_ok-hit.hit c.args.edges.now.cases.now
    (drop (c.loop-case.case-index + 1) c.args.edges.now.cases.now) (slice_index_or c.args.edges.now.cases.now c.loop-case.case-index (record { number = 0; block = 0 })) c.args.edges.now.default
    (subst (λ l. Casing c.args.setting.now.program.now c.args.setting.now.function c.args.edges.now.from c.args.t.now c.loop-case.t c.args.memory.now c.args.x c.loop-case.state c.args.bits c.args.edges.now.cases.now l c.args.edges.now.default) (drop_at c.args.edges.now.cases.now c.loop-case.case-index (record { number = 0; block = 0 }) c.loop-case-test.true) c.loop-case.invariant)
    c.in_ok-hit.ensures.frame c.in_ok-state.ensures.frame c.in_ok-state.ensures.within
    (over_kept c.equals.new.t c.jump.new.t c.in_ok-state.ensures.frame c.args.memory.now (over_kept c.loop-case.t c.equals.new.t c.in_ok-hit.ensures.frame c.args.memory.now c.loop-case.invariant.over))
    (λ v. c.in_ok-hit.ensures.value v ∙ ap (λ n. nat_eq n (slice_index_or c.args.edges.now.cases.now c.loop-case.case-index (record { number = 0; block = 0 })).number) (c.loop-case.invariant.frame.values c.args.bits c.requires.bits v))
    c.in_ok-state.ensures.tracks

pub returns-clause-tracks : goal.returns-clause-tracks
returns-clause-tracks g c = λ v go e h.
    c.in_ok-made.ensures.tracks v go e
    (subst (λ l. Tracks c.args.setting.now.program.now c.args.setting.now.function (seen c.loop-case.t v c.loop-case.state) (memory_at c.loop-case.t c.args.memory.now v) (λ rs m. on_jump c.args.setting.now.program.now c.args.setting.now.function c.args.edges.now.from (case_of (value c.args.t.now c.args.bits v) l c.args.edges.now.default) rs m) e)
    (drop_all c.loop-case.case-index c.args.edges.now.cases.now c.loop-case-test.false) (c.loop-case.invariant.tracks v e h))
