use Rattle.std.proofs.Common.{◌∙◌, rules, subst, sym, ap}
use Rattle.std.specs.Prelude.{Some, None}
use Rattle.hk_symvalue.specs.Meaning.{meaning}
use Rattle.hk_symmem.specs.Guarded.{memory_at}
use Rattle.hk_symstep.specs.Files.{registers_of}
use Rattle.hk_symstep.specs.Held.{value_meaning, IsOperand}
use Rattle.hk_symstep.proofs.Growing.{memory_kept, registers_same}
use Rattle.hk_symstep.proofs.TurnLaws.{move_turn}
use Rattle.hk_symstep.proofs.operands.moved_all.Goals as goal

pub returns-in-None-clause-value : goal.returns-in-None-clause-value
returns-in-None-clause-value g c = λ v.
    move_turn (memory_at c.args.t.now c.args.memory.now v) (memory_at c.loop-by.t c.args.memory.now v) (registers_of c.args.t.now v c.args.file.now) (registers_of c.loop-by.t v c.args.file.now) c.args.moves.now c.loop-by.by-index _ (meaning c.loop-by.t c.loop-by.value v) None _
    (memory_kept c.args.t.now c.loop-by.t c.loop-by.invariant.frame c.args.memory.now c.requires.over v) (registers_same c.args.t.now c.loop-by.t c.loop-by.invariant.frame v c.args.file.now c.requires.file) c.loop-by-test.true
    (ap (value_meaning c.moved.new.t v) (sym c.in-None.is) ∙ c.in_ok-next.ensures.value v) (c.loop-by.invariant.rest v)

pub loop-by-preserved : goal.loop-by-preserved
loop-by-preserved g c = record {
  frame = search rules;
  within = subst (IsOperand c.moved.new.t) c.in-Some.is c.in_ok-next.ensures.within;
  rest = λ v.
      move_turn (memory_at c.args.t.now c.args.memory.now v) (memory_at c.loop-by.t c.args.memory.now v) (registers_of c.args.t.now v c.args.file.now) (registers_of c.loop-by.t v c.args.file.now) c.args.moves.now c.loop-by.by-index _ (meaning c.loop-by.t c.loop-by.value v) (Some (meaning c.moved.new.t c.in-Some.next v)) _
      (memory_kept c.args.t.now c.loop-by.t c.loop-by.invariant.frame c.args.memory.now c.requires.over v) (registers_same c.args.t.now c.loop-by.t c.loop-by.invariant.frame v c.args.file.now c.requires.file) c.loop-by-test.true
      (ap (value_meaning c.moved.new.t v) (sym c.in-Some.is) ∙ c.in_ok-next.ensures.value v) (c.loop-by.invariant.rest v);
}
