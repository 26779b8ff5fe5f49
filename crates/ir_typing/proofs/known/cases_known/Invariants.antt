use Rattle.std.proofs.Common.{◌≡◌, ℕ, ℤ, List, drop, is_some, map}
use Rattle.std.specs.List.{list_all}
use Rattle.ir_typing.specs.Registers.{block_of}
use Rattle.ir_typing.specs.Scoped.{function_in}
use Rattle.ir_typing.proofs.known.cases_known.Given as goal

abbrev pub invariant-each : goal.invariant-each
invariant-each l =
    list_all (λ x. is_some (block_of (function_in l.scope) x)) (map (λ (c : ℤ × List ℕ). c.1) (drop l.case-index l.items))
    ≡ list_all (λ x. is_some (block_of (function_in l.scope) x)) (map (λ (c : ℤ × List ℕ). c.1) l.cases.items.items)
