-- What a place asks of the expressions there, as far as the code tells it.
use Rattle.std.specs.Prelude.{◌≡◌, Option, Some, None, List}
use Rattle.spec_ast.specs.declared.kind.BinKind.{BinKind}
use Rattle.spec_ast.specs.Raw.{Tree, binary}
use Rattle.spec_tree.specs.Plain as tree
use Rattle.spec_tree.specs.Sorted.{Class, class_of}
use Rattle.spec_names.specs.Kernel.{Name}
use Rattle.spec_scope.specs.declared.meaning.Kind.{Kind}
use Rattle.spec_scope.specs.declared.meaning.Kind.TheVariants.{Number}
use Rattle.spec_scope.specs.Scope.{Scope, first, own}
use Rattle.spec_scope.specs.Takes.{index_kind}
use Rattle.spec_scope.specs.Taking.{chain, one, pair, asked, take}
use Rattle.spec_take.specs.declared.kinds.OwnKind.{OwnKind}
use Rattle.spec_take.specs.declared.kinds.OwnKind.TheVariants.{Absent, Known, TooWide}

abbrev pub known : OwnKind → Option Kind
known (Known k) = Some k
known _ = None

abbrev pub known_number : OwnKind → Option Kind
known_number (Known (Number w)) = Some (Number w)
known_number _ = None

-- an index of a path has any width, and a literal there has 64
abbrev pub index_told : OwnKind → Option Kind
index_told Absent = Some (Number 64)
index_told (Known k) = Some k
index_told TooWide = None

-- the kind that both operands of a class are asked for; none where no operator of them stands for anything
abbrev pub AsksClass : Scope → Class → Kind → Tree → Tree → Option Kind → Type 0
AsksClass s class kind a c (Some j) = asked class kind (first (own s a) (own s c)) ≡ Some j
AsksClass s class kind a c None =
    (b : List Name) (op : BinKind)
    → chain (asked class kind (first (own s a) (own s c))) (λ j. one (λ p. tree.binary op p.0 p.1) (pair (take s b j a) (take s b j c))) ≡ None

-- the kind that both operands are asked for; none where the whole stands for nothing
abbrev pub AsksBoth : Scope → BinKind → Kind → Tree → Tree → Option Kind → Type 0
AsksBoth s op kind a c (Some j) = asked (class_of op) kind (first (own s a) (own s c)) ≡ Some j
AsksBoth s op kind a c None = (b : List Name) → take s b kind (binary op a c) ≡ None

-- the kind that an index of a path is asked for; none where it stands for nothing
abbrev pub AsksIndex : Scope → Tree → Option Kind → Type 0
AsksIndex s e (Some j) = index_kind (own s e) ≡ j
AsksIndex s e None = (b : List Name) → take s b (index_kind (own s e)) e ≡ None
