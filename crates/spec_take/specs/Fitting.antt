-- An expression that stands for something at some place.
use Rattle.std.specs.Prelude.{◌≡◌, Bool, true, false, Some, None, List}
use Rattle.spec_ast.specs.Raw.{Tree}
use Rattle.spec_tree.specs.Plain as tree
use Rattle.spec_names.specs.Kernel.{Name}
use Rattle.spec_scope.specs.declared.meaning.Kind.{Kind}
use Rattle.spec_scope.specs.Scope.{Scope}
use Rattle.spec_scope.specs.Taking.{take}

-- it stands for an expression at a place that asks for a kind
pub record Fits (s : Scope) (b : List Name) (e : Tree) : Type 0 where
  pub kind : Kind
  pub stands : tree.Tree
  pub taken : take s b kind e ≡ Some stands

abbrev pub IsFitting : Scope → List Name → Tree → Bool → Type 0
IsFitting s b e true = Fits s b e
IsFitting s b e false = (kind : Kind) → take s b kind e ≡ None

-- whether it does at a place that asks for this kind
abbrev pub Stands : Scope → List Name → Kind → Tree → Bool → Type 0
Stands s b kind e true = (x : tree.Tree) × (take s b kind e ≡ Some x)
Stands s b kind e false = take s b kind e ≡ None
