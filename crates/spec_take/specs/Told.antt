-- The kind that an expression has of its own, as the code tells it.
use Rattle.std.specs.Prelude.{◌≡◌, ◌+◌, ◌-◌, nat_lt, if◌then◌else◌, Option, Some, None, option_map, List}
use Rattle.spec_ast.specs.declared.raw.RawResize.{RawResize}
use Rattle.spec_ast.specs.declared.raw.RawResize.TheVariants.{ZeroExt, SignExt, Extract}
use Rattle.spec_ast.specs.Raw.{Tree, Step, element, member}
use Rattle.spec_names.specs.Kernel.{Name, Shape, elements_of, part_of}
use Rattle.spec_scope.specs.declared.meaning.Kind.{Kind}
use Rattle.spec_scope.specs.declared.meaning.Kind.TheVariants.{Truth, Number}
use Rattle.spec_scope.specs.Scope.{Scope}
use Rattle.spec_scope.specs.Taking.{pair, take}
use Rattle.spec_take.specs.declared.kinds.OwnKind.{OwnKind}
use Rattle.spec_take.specs.declared.kinds.OwnKind.TheVariants.{Absent, Known, TooWide}

-- widths from 2^32 on are told apart no more
abbrev pub told : Option Kind → OwnKind
told None = Absent
told (Some Truth) = Known Truth
told (Some (Number w)) = if nat_lt w 4294967296 then Known (Number w) else TooWide

-- of a change of width
abbrev pub resized : RawResize → OwnKind → OwnKind
resized (ZeroExt n) (Known (Number w)) = told (Some (Number (w + n)))
resized (ZeroExt n) TooWide = TooWide
resized (SignExt n) (Known (Number w)) = told (Some (Number (w + n)))
resized (SignExt n) TooWide = TooWide
resized (Extract high low) (Known (Number w)) = told (Some (Number (high - low + 1)))
resized (Extract high low) TooWide = told (Some (Number (high - low + 1)))
resized _ _ = Absent

-- what is too wide stands for nothing
pub record IsVoid (s : Scope) (e : Tree) (r : OwnKind) : Type 0 where
  pub void : r ≡ TooWide → (b : List Name) (kind : Kind) → take s b kind e ≡ None

-- the same of two operands
pub record AreVoid (s : Scope) (a c : Tree) (r : OwnKind) : Type 0 where
  pub void : r ≡ TooWide → (b : List Name) (kind : Kind) → pair (take s b kind a) (take s b kind c) ≡ None

-- it is not too wide
abbrev pub IsNarrow : OwnKind → Type 0
IsNarrow TooWide = ⊥
IsNarrow _ = Unit {0}

-- the shape that a step of a path leads to
abbrev pub shape_behind : Step → Shape → Option Shape
shape_behind (element e) shape = option_map (λ r. r.shape) (elements_of shape)
shape_behind (member k) shape = option_map (λ r. r.shape) (part_of k shape)
