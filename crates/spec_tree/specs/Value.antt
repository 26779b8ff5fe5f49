-- The number of an expression. Operators are those of SMT-LIB's theory of fixed-size bit-vectors.
use Rattle.std.specs.Prelude.{ℕ, zero, suc, ◌+◌, ◌-◌, ◌*◌, ◌/◌, ◌%◌, ◌^◌, Bool, not, ◌||◌, if◌then◌else◌, nat_eq, nat_lt, bit_and, bit_or, bit_xor, Option, Some, None, option_map, List, [], ◌∷◌, ◌++◌, map, slice_index, slice_index_or}
use Rattle.std.specs.List.{list_all, list_any, flat_map}
use Rattle.hk_num.specs.Numbers.{bvadd, bvsub, bvmul, bvudiv, bvurem, bvshl, bvlshr, bvashr, bvult, bvslt, sign_extend}
use Rattle.spec_ast.specs.declared.kind.UnKind.{UnKind}
use Rattle.spec_ast.specs.declared.kind.UnKind.TheVariants.{Minus, Complement, Not}
use Rattle.spec_ast.specs.declared.kind.BinKind.{BinKind}
use Rattle.spec_ast.specs.declared.kind.BinKind.TheVariants.{Mul, Add, Sub, Shl, Ashr, Lshr, BitAnd, BitXor, BitOr, Udiv, Urem, Eq, Ne, Slt, Sle, Sgt, Sge, Ult, Ule, Ugt, Uge, Implies}
use Rattle.spec_tree.specs.declared.expr.ResizeKind.{ResizeKind}
use Rattle.spec_tree.specs.declared.expr.ResizeKind.TheVariants.{ZeroExt, SignExt, Extract}
use Rattle.spec_tree.specs.declared.expr.StateName.{StateName}
use Rattle.spec_tree.specs.declared.expr.StateName.TheVariants.{Old, New}
use Rattle.spec_tree.specs.Plain.{Key, Tree, constant, argument, bound, local, entry, path, unary, binary, all_of, any_of, choose, resize, for_all, exists, Trees, no_trees, tree_and, Steps, no_steps, step_and}
use Rattle.spec_tree.specs.Sorted.{Context, no_field, product, width_of, with_bounds}

-- what an expression reads: a state is one list of numbers per field, in the order of the index tuples; a memory one list of bytes per
-- object
pub record Env : Type 0 where
  pub old : List (List ℕ)
  pub new : List (List ℕ)
  pub memory : List (List ℕ)
  pub args : List ℕ
  pub locals : List ℕ
  pub bounds : List ℕ

abbrev pub state_of : Env → StateName → List (List ℕ)
state_of v Old = v.old
state_of v New = v.new

abbrev pub bit : Bool → ℕ
bit b = if b then 1 else 0

abbrev pub holds : ℕ → Bool
holds n = not (nat_eq n 0)

-- the numbers below n, and the index tuples of these sizes in ascending lexicographic order
abbrev pub below : ℕ → List ℕ
below zero = []
below (suc n) = below n ++ n ∷ []

abbrev pub tuples : List ℕ → List (List ℕ)
tuples [] = [] ∷ []
tuples (n ∷ ns) = flat_map (λ i. map (λ t. i ∷ t) (tuples ns)) (below n)

-- the k-th of these tuples
abbrev pub tuple_at : List ℕ → ℕ → List ℕ
tuple_at [] k = []
tuple_at (n ∷ ns) k = k / product ns ∷ tuple_at ns (k % product ns)

-- the place of an index tuple in that order, behind the place of the earlier indices; none where an index is not below its size
abbrev pub place_behind : ℕ → List Key → List ℕ → Option ℕ
place_behind at [] indices = Some at
place_behind at (k ∷ ks) [] = None
place_behind at (k ∷ ks) (i ∷ indices) = if nat_lt i k.size then place_behind (at * k.size + i) ks indices else None

-- an entry of a field; 0 where an index is not below its size
abbrev pub entry_at : List ℕ → Option ℕ → ℕ
entry_at entries None = 0
entry_at entries (Some place) = slice_index entries place

-- the number of so many bytes, little endian
abbrev pub load : List ℕ → ℕ → ℕ → ℕ
load bytes at zero = 0
load bytes at (suc n) = slice_index bytes at + 256 * load bytes (at + 1) n

abbrev pub un_value : UnKind → ℕ → ℕ → ℕ
un_value Minus w a = bvsub w 0 a
un_value Complement w a = 2 ^ w - 1 - a
un_value Not w a = 1 - a

-- division by zero gives all ones, and the remainder the dividend
abbrev pub bin_value : BinKind → ℕ → ℕ → ℕ → ℕ
bin_value Mul w a b = bvmul w a b
bin_value Add w a b = bvadd w a b
bin_value Sub w a b = bvsub w a b
bin_value Shl w a b = bvshl w a b
bin_value Ashr w a b = bvashr w a b
bin_value Lshr w a b = bvlshr w a b
bin_value BitAnd w a b = bit_and a b
bin_value BitXor w a b = bit_xor a b
bin_value BitOr w a b = bit_or a b
bin_value Udiv w a b = if nat_eq b 0 then 2 ^ w - 1 else bvudiv w a b
bin_value Urem w a b = if nat_eq b 0 then a else bvurem w a b
bin_value Eq w a b = bit (nat_eq a b)
bin_value Ne w a b = bit (not (nat_eq a b))
bin_value Slt w a b = bit (bvslt w a b)
bin_value Sle w a b = bit (not (bvslt w b a))
bin_value Sgt w a b = bit (bvslt w b a)
bin_value Sge w a b = bit (not (bvslt w a b))
bin_value Ult w a b = bit (bvult w a b)
bin_value Ule w a b = bit (not (bvult w b a))
bin_value Ugt w a b = bit (bvult w b a)
bin_value Uge w a b = bit (not (bvult w a b))
bin_value Implies w a b = bit (not (holds a) || holds b)

abbrev pub resize_value : ResizeKind → ℕ → ℕ → ℕ
resize_value (ZeroExt n) w a = a
resize_value (SignExt n) w a = sign_extend w (w + n) a
resize_value (Extract high low) w a = (a / 2 ^ low) % 2 ^ (high - low + 1)

-- what one more step adds to the bytes of the later ones; none where its index is not below its count
abbrev pub stepped : ℕ → ℕ → ℕ → Option ℕ → Option ℕ
stepped count stride i rest = if nat_lt i count then option_map (λ n. i * stride + n) rest else None

abbrev pub loaded : List ℕ → ℕ → ℕ → Option ℕ → ℕ
loaded bytes base size None = 0
loaded bytes base size (Some n) = load bytes (base + n) size

-- what an expression reads behind the values of a quantifier's variables
abbrev pub binding : Env → List ℕ → Env
binding v t = record v { bounds = v.bounds ++ t }

abbrev mutual
  pub value : Context → Env → Tree → ℕ
  value c v (constant w n) = n
  value c v (argument k) = slice_index v.args k
  value c v (bound k w) = slice_index v.bounds k
  value c v (local k) = slice_index v.locals k
  value c v (entry s f at) = entry_at (slice_index_or (state_of v s) f []) (place_behind 0 (slice_index_or c.fields f no_field).keys (values c v at))
  value c v (path o base steps bytes) = loaded (slice_index_or v.memory o []) base bytes (bytes_added c v steps)
  value c v (unary kind a) = un_value kind (width_of c a) (value c v a)
  value c v (binary kind a b) = bin_value kind (width_of c a) (value c v a) (value c v b)
  value c v (all_of es) = bit (list_all holds (values c v es))
  value c v (any_of es) = bit (list_any holds (values c v es))
  value c v (choose t a b) = if holds (value c v t) then value c v a else value c v b
  value c v (resize kind a) = resize_value kind (width_of c a) (value c v a)
  value c v (for_all sizes a) = bit (list_all (λ t. holds (value (with_bounds c sizes) (binding v t) a)) (tuples sizes))
  value c v (exists sizes a) = bit (list_any (λ t. holds (value (with_bounds c sizes) (binding v t) a)) (tuples sizes))

  pub values : Context → Env → Trees → List ℕ
  values c v no_trees = []
  values c v (tree_and e es) = value c v e ∷ values c v es

  -- the bytes that the steps of a path add; none where an index is not below its count
  pub bytes_added : Context → Env → Steps → Option ℕ
  bytes_added c v no_steps = Some 0
  bytes_added c v (step_and count stride e steps) = stepped count stride (value c v e) (bytes_added c v steps)
