use Rattle.std.proofs.Common.{◌≡◌, ◌++◌, drop}
use Rattle.ir_typing.specs.Scoped.{function_in}
use Rattle.ir_resolve.specs.Acts.{cases_of}
use Rattle.ir_resolve.proofs.acts.cases_of.Given as goal

abbrev pub invariant-each : goal.invariant-each
invariant-each l = l.cases ++ cases_of (function_in l.context.scope.now) l.width (drop l.case-index l.items) ≡ cases_of (function_in l.context.scope.now) l.width l.items
