use Rattle.std.proofs.Common.{◌≡◌, ◌++◌, drop, map}
use Rattle.std.specs.Prelude.{flat_map}
use Rattle.ir_ast.specs.Table.{names_of}
use Rattle.ir_ast.specs.ProgramView.{view_typed}
use Rattle.ir_type.specs.Names.{locals_in}
use Rattle.ir_check.specs.Graphs.{places_among}
use Rattle.ir_check.proofs.used.add_arguments.Given as goal

abbrev pub invariant-loop-argument : goal.invariant-loop-argument
invariant-loop-argument l =
    l.places.items ++ places_among (names_of l.sites) (flat_map locals_in (map (λ p. p.1) (view_typed (drop l.argument-index l.arguments))))
    ≡ l.initial.places.items ++ places_among (names_of l.sites) (flat_map locals_in (map (λ p. p.1) (view_typed l.arguments)))
