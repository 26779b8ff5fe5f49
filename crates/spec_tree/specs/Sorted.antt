-- Well-sorted specifications: what every specification that the reader hands out is.
use Rattle.std.specs.Prelude.{◌≡◌, ℕ, ◌+◌, ◌-◌, ◌*◌, ◌^◌, ◌<◌, ◌≤◌, Bool, true, false, Option, Some, None, List, [], ◌∷◌, ◌++◌, map, length, slice_get, slice_index, slice_index_or, All, sum_by}
use Rattle.spec_ast.specs.declared.kind.UnKind.{UnKind}
use Rattle.spec_ast.specs.declared.kind.UnKind.TheVariants.{Not}
use Rattle.spec_ast.specs.declared.kind.BinKind.{BinKind}
use Rattle.spec_ast.specs.declared.kind.BinKind.TheVariants.{Eq, Ne, Slt, Sle, Sgt, Sge, Ult, Ule, Ugt, Uge, Implies}
use Rattle.spec_tree.specs.declared.expr.ResizeKind.{ResizeKind}
use Rattle.spec_tree.specs.declared.expr.ResizeKind.TheVariants.{ZeroExt, SignExt, Extract}
use Rattle.spec_tree.specs.declared.expr.StateName.{StateName}
use Rattle.spec_tree.specs.declared.expr.StateName.TheVariants.{Old, New}
use Rattle.spec_tree.specs.Plain.{Key, Tree, constant, argument, bound, local, entry, path, unary, binary, all_of, any_of, choose, resize, for_all, exists, Trees, no_trees, tree_and, Steps, no_steps, step_and, Field, Named, Line, let_line, write_line, Transition, Spec}

-- the keys and the width of a field
pub record FieldSort : Type 0 where
  pub keys : List Key
  pub width : ℕ

-- what an expression may name: fields by their sorts, objects by their bytes, arguments and local names by their widths, variables by
-- their sizes; and whether it may read the kernel, the old and the new state
pub record Context : Type 0 where
  pub fields : List FieldSort
  pub objects : List ℕ
  pub args : List ℕ
  pub locals : List ℕ
  pub bounds : List ℕ
  pub kernel : Bool
  pub old : Bool
  pub new : Bool

-- ---- limits

abbrev pub IsWidth : ℕ → Type 0
IsWidth w = (1 ≤ w) × (w ≤ 64)

abbrev pub IsSize : ℕ → Type 0
IsSize n = (1 ≤ n) × (n ≤ 65536)

-- a sort `Index ( w , n )`
abbrev pub IsIndexSort : ℕ → ℕ → Type 0
IsIndexSort w n = IsWidth w × IsSize n × (n ≤ 2 ^ w)

abbrev pub product : List ℕ → ℕ
product [] = 1
product (n ∷ ns) = n * product ns

-- the variables of a nest of quantifiers, or the keys of a field, have so many tuples at most
abbrev pub IsNest : List ℕ → Type 0
IsNest sizes = product sizes ≤ 2 ^ 20

-- ---- widths

-- from two numbers a number; from two numbers, or two truths, a truth; from two numbers a truth; from two truths a truth
pub data Class : Type 0 where
  arithmetic : Class
  equality : Class
  ordering : Class
  logic : Class

abbrev pub class_of : BinKind → Class
class_of Eq = equality
class_of Ne = equality
class_of Slt = ordering
class_of Sle = ordering
class_of Sgt = ordering
class_of Sge = ordering
class_of Ult = ordering
class_of Ule = ordering
class_of Ugt = ordering
class_of Uge = ordering
class_of Implies = logic
class_of _ = arithmetic

abbrev pub class_width : Class → ℕ → ℕ
class_width arithmetic w = w
class_width _ w = 1

abbrev pub resized_width : ResizeKind → ℕ → ℕ
resized_width (ZeroExt n) w = w + n
resized_width (SignExt n) w = w + n
resized_width (Extract high low) w = high - low + 1

abbrev pub no_field : FieldSort
no_field = record { keys = []; width = 0 }

-- the width of an expression; a truth has the width 1
abbrev pub width_of : Context → Tree → ℕ
width_of c (constant w n) = w
width_of c (argument k) = slice_index c.args k
width_of c (bound k w) = w
width_of c (local k) = slice_index c.locals k
width_of c (entry s f at) = (slice_index_or c.fields f no_field).width
width_of c (path o base steps bytes) = 8 * bytes
width_of c (unary kind a) = width_of c a
width_of c (binary kind a b) = class_width (class_of kind) (width_of c a)
width_of c (all_of es) = 1
width_of c (any_of es) = 1
width_of c (choose t a b) = width_of c a
width_of c (resize kind a) = resized_width kind (width_of c a)
width_of c (for_all sizes a) = 1
width_of c (exists sizes a) = 1

-- ---- expressions

abbrev pub reads : Context → StateName → Bool
reads c Old = c.old
reads c New = c.new

abbrev pub FitsUn : UnKind → ℕ → Type 0
FitsUn Not w = w ≡ 1
FitsUn _ w = Unit {0}

abbrev pub FitsClass : Class → ℕ → Type 0
FitsClass logic w = w ≡ 1
FitsClass _ w = Unit {0}

abbrev pub FitsResize : ResizeKind → ℕ → Type 0
FitsResize (ZeroExt n) w = w + n ≤ 64
FitsResize (SignExt n) w = w + n ≤ 64
FitsResize (Extract high low) w = (low ≤ high) × (high < w)

-- the steps add so many bytes, each index being below its count
abbrev pub Adds : Steps → ℕ → Type 0
Adds no_steps n = n ≡ 0
Adds (step_and count stride e steps) n = (i : ℕ) × (m : ℕ) × (i < count) × Adds steps m × (n ≡ i * stride + m)

-- a path reads 1, 2, 4 or 8 bytes, which lie in its object wherever each index is below its count
pub record LiesIn (size base : ℕ) (steps : Steps) (bytes : ℕ) : Type 0 where
  pub whole : (k : ℕ) × (k < 4) × (bytes ≡ 2 ^ k)
  pub inside : (n : ℕ) → Adds steps n → base + n + bytes ≤ size

-- the context behind a quantifier's variables, and behind a local name
abbrev pub with_bounds : Context → List ℕ → Context
with_bounds c sizes = record c { bounds = c.bounds ++ sizes }

abbrev pub with_local : Context → Tree → Context
with_local c e = record c { locals = c.locals ++ width_of c e ∷ [] }

abbrev pub with_locals : Context → List Tree → Context
with_locals c [] = c
with_locals c (e ∷ es) = with_locals (with_local c e) es

-- the variables of a quantifier, behind those of the enclosing ones
abbrev pub AreVariables : Context → List ℕ → Type 0
AreVariables c sizes = All IsSize sizes × IsNest (c.bounds ++ sizes)

abbrev mutual
  -- the expression is well sorted
  pub IsSorted : Context → Tree → Type 0
  IsSorted c (constant w n) = IsWidth w × (n < 2 ^ w)
  IsSorted c (argument k) = k < length c.args
  IsSorted c (bound k w) = IsWidth w × (size : ℕ) × (slice_get c.bounds k ≡ Some size) × (size ≤ 2 ^ w)
  IsSorted c (local k) = k < length c.locals
  IsSorted c (entry s f at) = (reads c s ≡ true) × (sort : FieldSort) × (slice_get c.fields f ≡ Some sort) × AreIndices c sort.keys at
  IsSorted c (path o base steps bytes) = (c.kernel ≡ true) × (size : ℕ) × (slice_get c.objects o ≡ Some size) × LiesIn size base steps bytes × AreSteps c steps
  IsSorted c (unary kind a) = IsSorted c a × FitsUn kind (width_of c a)
  IsSorted c (binary kind a b) = IsSorted c a × IsSorted c b × (width_of c a ≡ width_of c b) × FitsClass (class_of kind) (width_of c a)
  IsSorted c (all_of es) = AreTruths c es
  IsSorted c (any_of es) = AreTruths c es
  IsSorted c (choose t a b) = IsSorted c t × (width_of c t ≡ 1) × IsSorted c a × IsSorted c b × (width_of c a ≡ width_of c b)
  IsSorted c (resize kind a) = IsSorted c a × FitsResize kind (width_of c a)
  IsSorted c (for_all sizes a) = AreVariables c sizes × IsSorted (with_bounds c sizes) a × (width_of (with_bounds c sizes) a ≡ 1)
  IsSorted c (exists sizes a) = AreVariables c sizes × IsSorted (with_bounds c sizes) a × (width_of (with_bounds c sizes) a ≡ 1)

  pub AreTruths : Context → Trees → Type 0
  AreTruths c no_trees = Unit {0}
  AreTruths c (tree_and e es) = IsSorted c e × (width_of c e ≡ 1) × AreTruths c es

  -- one index for each key, of its width
  pub AreIndices : Context → List Key → Trees → Type 0
  AreIndices c keys no_trees = keys ≡ []
  AreIndices c keys (tree_and e es) = (key : Key) × (others : List Key) × (keys ≡ key ∷ others) × IsSorted c e × (width_of c e ≡ key.width) × AreIndices c others es

  pub AreSteps : Context → Steps → Type 0
  AreSteps c no_steps = Unit {0}
  AreSteps c (step_and count stride e steps) = IsSorted c e × AreSteps c steps

-- ---- specifications

abbrev pub key_sizes : List Key → List ℕ
key_sizes keys = map (λ k. k.size) keys

-- at most four keys, all index sorts, with few enough tuples; entries of 1 to 64 bits
pub record IsFieldSort (f : FieldSort) : Type 0 where
  pub keyed : All (λ k. IsIndexSort k.width k.size) f.keys
  pub few : length f.keys ≤ 4
  pub small : IsNest (key_sizes f.keys)
  pub wide : IsWidth f.width

-- what may be named is within the limits
pub record HasLimits (c : Context) : Type 0 where
  pub fields : All IsFieldSort c.fields
  pub args : All IsWidth c.args
  pub locals : All IsWidth c.locals

-- local names, each of which may read the earlier ones
abbrev pub AreLocals : Context → List Tree → Type 0
AreLocals c [] = Unit {0}
AreLocals c (e ∷ es) = IsSorted c e × AreLocals (with_local c e) es

abbrev pub sort_of : Field → FieldSort
sort_of f = record { keys = f.keys; width = f.width }

abbrev pub field_sorts : Spec → List FieldSort
field_sorts s = map sort_of s.fields

-- an invariant and the equivalence function read the kernel, a property the old state, a transition of these widths both states
abbrev pub over_kernel : Spec → Context
over_kernel s = record { fields = field_sorts s; objects = s.objects; args = []; locals = []; bounds = []; kernel = true; old = false; new = false }

abbrev pub over_state : Spec → Context
over_state s = record { fields = field_sorts s; objects = s.objects; args = []; locals = []; bounds = []; kernel = false; old = true; new = false }

abbrev pub over_step : Spec → List ℕ → Context
over_step s widths = record { fields = field_sorts s; objects = s.objects; args = widths; locals = []; bounds = []; kernel = false; old = true; new = true }

-- the right side of a field's equation, over its keys
abbrev pub over_keys : Spec → Field → Context
over_keys s f = with_bounds (with_locals (over_kernel s) s.equation_locals) (key_sizes f.keys)

pub record IsField (s : Spec) (f : Field) : Type 0 where
  pub sort : IsFieldSort (sort_of f)
  pub sorted : IsSorted (over_keys s f) f.value
  pub given : width_of (over_keys s f) f.value ≡ f.width

pub record IsNamed (c : Context) (n : Named) : Type 0 where
  pub locals : AreLocals c n.locals
  pub sorted : IsSorted (with_locals c n.locals) n.value
  pub truth : width_of (with_locals c n.locals) n.value ≡ 1

-- the lines of a transition, each behind the local names of the earlier ones
abbrev pub AreLines : Context → List Line → Type 0
AreLines c [] = Unit {0}
AreLines c (let_line e ∷ lines) = IsSorted c e × AreLines (with_local c e) lines
AreLines c (write_line f at e ∷ lines) =
    ((sort : FieldSort) × (slice_get c.fields f ≡ Some sort) × AreIndices c sort.keys at × IsSorted c e × (width_of c e ≡ sort.width)) × AreLines c lines

-- the local names of lines
abbrev pub lets_of : List Line → List Tree
lets_of [] = []
lets_of (let_line e ∷ lines) = e ∷ lets_of lines
lets_of (write_line f at e ∷ lines) = lets_of lines

-- a void handler has no result
abbrev pub IsResult : Context → ℕ → Option Tree → Type 0
IsResult c w None = w ≤ 64
IsResult c w (Some e) = IsWidth w × IsSorted c e × (width_of c e ≡ w)

-- the context behind the lines of a transition
abbrev pub behind_lines : Spec → Transition → Context
behind_lines s t = with_locals (over_step s t.widths) (lets_of t.lines)

pub record IsTransition (s : Spec) (t : Transition) : Type 0 where
  pub widths : All IsWidth t.widths
  pub lines : AreLines (over_step s t.widths) t.lines
  pub valid : IsSorted (behind_lines s t) t.valid
  pub truth : width_of (behind_lines s t) t.valid ≡ 1
  pub result : IsResult (behind_lines s t) t.result_width t.result

-- the specification is well sorted, and within the limits on index tuples, entries, handlers, widths and sizes
pub record IsWellSorted (s : Spec) : Type 0 where
  pub equation_locals : AreLocals (over_kernel s) s.equation_locals
  pub fields : All (IsField s) s.fields
  pub entries : sum_by (λ f. product (key_sizes f.keys)) s.fields ≤ 2 ^ 22
  pub invariants : All (IsNamed (over_kernel s)) s.invariants
  pub properties : All (IsNamed (over_state s)) s.properties
  pub transitions : All (IsTransition s) s.transitions
  pub handlers : length s.transitions ≤ 256
