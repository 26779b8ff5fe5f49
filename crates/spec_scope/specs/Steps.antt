-- What an operator makes of its operands.
use Rattle.std.specs.Prelude.{if◌then◌else◌, Option, Some, List, [], ◌∷◌, Result, Ok, Err}
use Rattle.spec_tree.specs.Plain as tree
use Rattle.spec_tree.specs.Sorted.{Class, arithmetic, equality, ordering, logic}
use Rattle.spec_scope.specs.Taking.{same_kind, ReadOf}
use Rattle.spec_scope.specs.Fields.{view_sort}
use Rattle.spec_scope.specs.declared.meaning.OpClass.{OpClass}
use Rattle.spec_scope.specs.declared.meaning.OpClass.TheVariants.{Arithmetic, Equality, Ordering, Logic}
use Rattle.spec_scope.specs.declared.typed.Typed.{Typed}
use Rattle.spec_scope.specs.declared.typed.Pair.{Pair}
use Rattle.spec_scope.specs.declared.typed.ReadAt.{ReadAt}
use Rattle.spec_scope.specs.declared.typed.TakeStop.{TakeStop}
use Rattle.spec_scope.specs.declared.typed.TakeStop.TheVariants.{Unfit}

abbrev pub view_class : OpClass → Class
view_class Arithmetic = arithmetic
view_class Equality = equality
view_class Ordering = ordering
view_class Logic = logic

abbrev pub pair_of : Typed → Typed → Result (Option Pair) TakeStop
pair_of l r = if same_kind l.kind r.kind then Ok (Some (record { kind = l.kind; left = l.tree; right = r.tree })) else Err Unfit

abbrev pub view_read : ReadAt → ReadOf
view_read r = record { which = r.which; place = r.place; sort = view_sort r.sort.now }

-- expressions, and then the rest
abbrev pub ahead : List tree.Tree → tree.Trees → tree.Trees
ahead [] rest = rest
ahead (x ∷ xs) rest = tree.tree_and x (ahead xs rest)
