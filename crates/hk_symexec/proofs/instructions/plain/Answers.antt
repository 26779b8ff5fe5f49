use Rattle.std.proofs.Common.{refl, sym, subst}
use Rattle.ir_machine.specs.Values.{value_of}
use Rattle.ir_machine.specs.Step.{switch_to}
use Rattle.ir_walk.specs.Walk.{on_target, walk_act}
use Rattle.hk_symmem.specs.Guarded.{memory_at}
use Rattle.hk_symexec.specs.Seen.{seen}
use Rattle.hk_symexec.specs.Tracks.{Tracks}
use Rattle.hk_symexec.proofs.Kept.{over_kept}
use Rattle.hk_symexec.proofs.instructions.plain.Goals as goal

pub returns-in_ok-made-in-Store-clause-tracks : goal.returns-in_ok-made-in-Store-clause-tracks
returns-in_ok-made-in-Store-clause-tracks g c = λ W v go e h.
    c.in_ok-made-in-Store.ensures.tracks c.args.setting.now.program.now c.args.setting.now.function v c.args.step.now.line go e
    (subst (λ a. Tracks c.args.setting.now.program.now c.args.setting.now.function (seen c.args.t.now v c.args.x) (memory_at c.args.t.now c.args.memory.now v) (λ rs m. walk_act W c.args.setting.now.program.now c.args.setting.now.function c.args.block c.args.step.now rs m go a) e) c.in-Store.is h)

pub returns-in_ok-made-in-StoreSlot-clause-tracks : goal.returns-in_ok-made-in-StoreSlot-clause-tracks
returns-in_ok-made-in-StoreSlot-clause-tracks g c = λ W v go e h.
    c.in_ok-made-in-StoreSlot.ensures.tracks c.args.setting.now.program.now c.args.setting.now.function v go e
    (subst (λ a. Tracks c.args.setting.now.program.now c.args.setting.now.function (seen c.args.t.now v c.args.x) (memory_at c.args.t.now c.args.memory.now v) (λ rs m. walk_act W c.args.setting.now.program.now c.args.setting.now.function c.args.block c.args.step.now rs m go a) e) c.in-StoreSlot.is h)

pub returns-in_ok-made-in-Goto-clause-tracks : goal.returns-in_ok-made-in-Goto-clause-tracks
returns-in_ok-made-in-Goto-clause-tracks g c = λ W v go e h.
    c.in_ok-made-in-Goto.ensures.tracks v go e
    (subst (λ a. Tracks c.args.setting.now.program.now c.args.setting.now.function (seen c.args.t.now v c.args.x) (memory_at c.args.t.now c.args.memory.now v) (λ rs m. walk_act W c.args.setting.now.program.now c.args.setting.now.function c.args.block c.args.step.now rs m go a) e) c.in-Goto.is h)

pub returns-in_ok-made-in-Branch-clause-tracks : goal.returns-in_ok-made-in-Branch-clause-tracks
returns-in_ok-made-in-Branch-clause-tracks g c = λ W v go e h.
    c.in_ok-made-in-Branch.ensures.tracks v c.args.step.now.line go e
    (subst (λ a. Tracks c.args.setting.now.program.now c.args.setting.now.function (seen c.args.t.now v c.args.x) (memory_at c.args.t.now c.args.memory.now v) (λ rs m. walk_act W c.args.setting.now.program.now c.args.setting.now.function c.args.block c.args.step.now rs m go a) e) c.in-Branch.is h)

pub returns-in_ok-made-in-Switch-clause-tracks : goal.returns-in_ok-made-in-Switch-clause-tracks
returns-in_ok-made-in-Switch-clause-tracks g c = λ W v go e h.
    c.in_ok-made-in-Switch.ensures.tracks v c.args.step.now.line go e
    (subst (λ l. Tracks c.args.setting.now.program.now c.args.setting.now.function (seen c.args.t.now v c.args.x) (memory_at c.args.t.now c.args.memory.now v) (λ rs m. on_target c.args.setting.now.program.now c.args.setting.now.function c.args.block c.args.step.now.line rs m (switch_to (value_of m rs c.in-Switch.on) l c.in-Switch.default)) e) (sym c.as_slice.ensures) (subst (λ a. Tracks c.args.setting.now.program.now c.args.setting.now.function (seen c.args.t.now v c.args.x) (memory_at c.args.t.now c.args.memory.now v) (λ rs m. walk_act W c.args.setting.now.program.now c.args.setting.now.function c.args.block c.args.step.now rs m go a) e) c.in-Switch.is h))

pub returns-in_ok-made-in-Return-clause-tracks : goal.returns-in_ok-made-in-Return-clause-tracks
returns-in_ok-made-in-Return-clause-tracks g c = λ W v go e h.
    c.in_ok-made-in-Return.ensures.tracks c.args.setting.now.program.now c.args.setting.now.function v c.args.step.now.line go e
    (subst (λ a. Tracks c.args.setting.now.program.now c.args.setting.now.function (seen c.args.t.now v c.args.x) (memory_at c.args.t.now c.args.memory.now v) (λ rs m. walk_act W c.args.setting.now.program.now c.args.setting.now.function c.args.block c.args.step.now rs m go a) e) c.in-Return.is h)

pub returns-in_ok-made-in-Unreachable-clause-tracks : goal.returns-in_ok-made-in-Unreachable-clause-tracks
returns-in_ok-made-in-Unreachable-clause-tracks g c = λ W v go e h.
    c.in_ok-made-in-Unreachable.ensures.tracks c.args.setting.now.program.now c.args.setting.now.function v c.args.step.now.line go e
    (subst (λ a. Tracks c.args.setting.now.program.now c.args.setting.now.function (seen c.args.t.now v c.args.x) (memory_at c.args.t.now c.args.memory.now v) (λ rs m. walk_act W c.args.setting.now.program.now c.args.setting.now.function c.args.block c.args.step.now rs m go a) e) c.in-Unreachable.is h)

pub returns-in_ok-made-in_default : goal.returns-in_ok-made-in_default
returns-in_ok-made-in_default g c = record {
  frame = c.in_ok-made-in_default.ensures.frame;
  origins = refl;
  within = c.in_ok-made-in_default.ensures.within;
  over = over_kept c.args.t.now c.compute.new.t c.in_ok-made-in_default.ensures.frame c.args.memory.now c.requires.over;
  tracks = λ W v go e h. c.in_ok-made-in_default.ensures.tracks W c.args.setting.now.function c.args.block v go e h;
}
