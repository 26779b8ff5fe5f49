use Rattle.std.proofs.Common.{◌≡◌, ◌++◌, drop, map}
use Rattle.ir_ast.specs.View.{view_type, types_of, view_type_list}
use Rattle.hk_unroll.proofs.types.+types.Given as goal

abbrev pub decreases-copy_type : goal.decreases-copy_type
decreases-copy_type l = goal.size-copy_type l

abbrev pub decreases-copy_types : goal.decreases-copy_types
decreases-copy_types l = goal.size-copy_types l

-- the copies so far, with the types that are left behind them, are the types
abbrev pub invariant-copy_types-each : goal.invariant-copy_types-each
invariant-copy_types-each l = types_of (map view_type l.copies.items ++ map view_type (drop l.part-index l.items)) ≡ view_type_list l.parts
