use Rattle.std.proofs.Common.{◌||◌, ◌∙◌, rules, sym, ap}
use Rattle.hk_term.specs.Meaning.{value}
use Rattle.ir_machine.specs.Values as definition
use Rattle.hk_symvalue.specs.Meaning.{is_true}
use Rattle.hk_symmem.specs.Guarded.{memory_at}
use Rattle.hk_symstep.specs.Files.{registers_of}
use Rattle.hk_symstep.specs.Held.{value_meaning}
use Rattle.hk_symstep.proofs.Growing.{memory_kept, registers_same, true_same}
use Rattle.hk_symstep.proofs.TurnLaws.{none_turn, some_turn, last_turn}
use Rattle.hk_symstep.proofs.arguments.poisoned.Goals as goal

pub returns-in-None-clause-answers : goal.returns-in-None-clause-answers
returns-in-None-clause-answers g c = λ v.
    none_turn (memory_at c.args.t.now c.args.memory.now v) (memory_at c.loop-argument.t c.args.memory.now v) (registers_of c.args.t.now v c.args.file.now) (registers_of c.loop-argument.t v c.args.file.now) c.args.arguments.now c.loop-argument.argument-index c.argument-item.result (is_true c.loop-argument.t c.loop-argument.stuck v) (is_true c.operand.new.t c.loop-argument.stuck v) (definition.arguments_pass (memory_at c.args.t.now c.args.memory.now v) (registers_of c.args.t.now v c.args.file.now) c.args.arguments.now)
    (memory_kept c.args.t.now c.loop-argument.t c.loop-argument.invariant.frame c.args.memory.now c.requires.over v) (registers_same c.args.t.now c.loop-argument.t c.loop-argument.invariant.frame v c.args.file.now c.requires.file) c.loop-argument-test.true c.argument-item.is
    (ap (value_meaning c.operand.new.t v) (sym c.in-None.is) ∙ c.in_ok-value.ensures.value v)
    (true_same c.loop-argument.t c.operand.new.t c.operand.ensures.frame v c.loop-argument.stuck c.loop-argument.invariant.truth) (c.loop-argument.invariant.rest v)

pub loop-argument-preserved : goal.loop-argument-preserved
loop-argument-preserved g c = record {
  frame = search rules;
  truth = search rules;
  rest = λ v s h.
      some_turn (memory_at c.args.t.now c.args.memory.now v) (memory_at c.loop-argument.t c.args.memory.now v) (registers_of c.args.t.now v c.args.file.now) (registers_of c.loop-argument.t v c.args.file.now) c.args.arguments.now c.loop-argument.argument-index c.argument-item.result (is_true c.operand.new.t c.in-Some.value.poison v) (value c.operand.new.t c.in-Some.value.base v) (value c.operand.new.t c.in-Some.value.bits v) (is_true c.loop-argument.t c.loop-argument.stuck v) (is_true c.or.new.t c.in_ok-stuck-in-Some.stuck v) (definition.arguments_pass (memory_at c.args.t.now c.args.memory.now v) (registers_of c.args.t.now v c.args.file.now) c.args.arguments.now)
      (memory_kept c.args.t.now c.loop-argument.t c.loop-argument.invariant.frame c.args.memory.now c.requires.over v) (registers_same c.args.t.now c.loop-argument.t c.loop-argument.invariant.frame v c.args.file.now c.requires.file) c.loop-argument-test.true c.argument-item.is
      (ap (value_meaning c.operand.new.t v) (sym c.in-Some.is) ∙ c.in_ok-value.ensures.value v)
      (c.in_ok-stuck-in-Some.ensures.value v ∙ ap (λ b. b || is_true c.operand.new.t c.in-Some.value.poison v) (true_same c.loop-argument.t c.operand.new.t c.operand.ensures.frame v c.loop-argument.stuck c.loop-argument.invariant.truth))
      (c.loop-argument.invariant.rest v) s h;
}

pub returns-clause-answers : goal.returns-clause-answers
returns-clause-answers g c = λ v. last_turn (memory_at c.args.t.now c.args.memory.now v) (registers_of c.args.t.now v c.args.file.now) c.args.arguments.now c.loop-argument.argument-index (is_true c.loop-argument.t c.loop-argument.stuck v) (definition.arguments_pass (memory_at c.args.t.now c.args.memory.now v) (registers_of c.args.t.now v c.args.file.now) c.args.arguments.now) c.loop-argument-test.false (c.loop-argument.invariant.rest v)
