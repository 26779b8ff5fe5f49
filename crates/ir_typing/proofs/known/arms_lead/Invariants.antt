use Rattle.std.proofs.Common.{◌≡◌, drop, is_some, map}
use Rattle.std.specs.List.{list_all}
use Rattle.ir_ast.specs.ProgramView.{view_arms}
use Rattle.ir_typing.specs.Registers.{block_of}
use Rattle.ir_typing.specs.Scoped.{function_in}
use Rattle.ir_typing.proofs.known.arms_lead.Given as goal

abbrev pub invariant-each : goal.invariant-each
invariant-each l =
    list_all (λ x. is_some (block_of (function_in l.scope) x)) (map (λ arm. arm.1) (view_arms (drop l.arm-index l.items)))
    ≡ list_all (λ x. is_some (block_of (function_in l.scope) x)) (map (λ arm. arm.1) (view_arms l.arms.items.items))
