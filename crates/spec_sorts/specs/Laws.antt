-- What is taken is well sorted.
use Rattle.std.specs.Prelude.{◌≡◌, Bool, true, false, ◌⊎◌, Some, List, [], All}
use Rattle.spec_ast.specs.Raw.{Tree, Trees}
use Rattle.spec_tree.specs.Plain as tree
use Rattle.spec_tree.specs.Plain.{Key}
use Rattle.spec_tree.specs.Sorted.{Context, FieldSort, IsWidth, IsSorted, AreIndices, width_of, with_bounds, key_sizes}
use Rattle.spec_names.specs.Kernel.{Name}
use Rattle.spec_scope.specs.declared.meaning.Kind.{Kind}
use Rattle.spec_scope.specs.declared.meaning.Kind.TheVariants.{Number}
use Rattle.spec_scope.specs.Scope.{Scope, field_sort, own}
use Rattle.spec_scope.specs.Taking.{take, take_keys}
use Rattle.spec_scope.specs.Tests.{somewhere, somewhere_among, is_wide, is_read}
use Rattle.spec_lines.specs.Equations.{Equation, equation_in, key_names}
use Rattle.spec_sorts.specs.Matching.{kind_width, IsKind, Matches}

-- what is taken at a place that asks for a kind is well sorted, and of that kind's width. Where states need no entry, it reads none
abbrev pub TakenIsSorted : Type 0
TakenIsSorted =
    (reading : Bool) (s : Scope) (b : List Name) (c : Context) (kind : Kind) (e : Tree) (y : tree.Tree) → Matches reading s b c → IsKind kind
    → somewhere (is_wide s) b e ≡ false → (reading ≡ true) ⊎ (somewhere (is_read s) b e ≡ false) → take s b kind e ≡ Some y
    → IsSorted c y × (width_of c y ≡ kind_width kind)

-- the own width of an expression that is taken at it is from 1 to 64
abbrev pub OwnIsKind : Type 0
OwnIsKind =
    (reading : Bool) (s : Scope) (b : List Name) (c : Context) (kind : Kind) (e : Tree) (y : tree.Tree) → Matches reading s b c
    → (reading ≡ true) ⊎ (somewhere (is_read s) b e ≡ false) → take s b kind e ≡ Some y → own s e ≡ Some kind → IsKind kind

-- the indices that are taken for keys are well sorted, each of the width of its key
abbrev pub KeysAreSorted : Type 0
KeysAreSorted =
    (reading : Bool) (s : Scope) (b : List Name) (c : Context) (keys : List Key) (es : Trees) (ys : tree.Trees) → Matches reading s b c
    → All (λ k. IsWidth k.width) keys → somewhere_among (is_wide s) b es ≡ false → (reading ≡ true) ⊎ (somewhere_among (is_read s) b es ≡ false)
    → take_keys s b keys es ≡ Some ys → AreIndices c keys ys

-- the right side of an equation, taken over the variables of its keys in their order, is well sorted over the keys of its field
abbrev pub EquationIsSorted : Type 0
EquationIsSorted =
    (s : Scope) (c : Context) (e : Tree) (q : Equation) (sort : FieldSort) (y : tree.Tree) → Matches false s [] c → c.bounds ≡ [] → equation_in s e ≡ Some q
    → somewhere (is_wide s) [] e ≡ false → field_sort s q.field ≡ Some sort → take s (key_names q) (Number sort.width) q.right ≡ Some y
    → IsSorted (with_bounds c (key_sizes sort.keys)) y × (width_of (with_bounds c (key_sizes sort.keys)) y ≡ sort.width)
