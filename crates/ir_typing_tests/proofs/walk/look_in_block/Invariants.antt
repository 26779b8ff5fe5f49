use Rattle.ir_typing.specs.Scoped.{IsTyped}
use Rattle.ir_typing_tests.proofs.walk.look_in_block.Given as goal

abbrev pub invariant-each : goal.invariant-each
invariant-each l = IsTyped l.numbers l.scope
