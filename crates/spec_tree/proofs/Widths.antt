-- The number of a well-sorted expression has the expression's width.
use Rattle.std.proofs.Common.{◌≡◌, ◌+◌, ◌-◌, ◌*◌, ◌/◌, ◌%◌, ◌^◌, ◌<◌, ◌≤◌, ℕ, zero, suc, Bool, true, false, Option, Some, None, List, [], ◌∷◌, length, arith, ap, sym, ◌∙◌, subst}
use Rattle.std.specs.Prelude.{slice_get, slice_index, slice_index_or, All, if◌then◌else◌, nat_eq, not, ◌||◌, pos}
use Rattle.std.specs.Int.{int_div_euclid}
use Rattle.std.specs.Int.Bits.{and_lt}
use Rattle.std.proofs.Math.Nat.{mod-lt}
use Rattle.std.proofs.Math.Pow.{pow_mono}
use Rattle.std.proofs.lemmas.Nat.{pow_pos, pow-add, or_lt, xor_lt}
use Rattle.std.proofs.lemmas.List.Elements.{All-head, All-tail, All-push}
use Rattle.std.proofs.lemmas.Option.{slice_get_within}
use Rattle.hk_num.specs.Numbers.{signed_of, bvslt, bvult}
use Rattle.hk_num.proofs.Algebra.{number_below, udiv_below, urem_below, lshr_below}
use Rattle.spec_ast.specs.declared.kind.UnKind.{UnKind}
use Rattle.spec_ast.specs.declared.kind.UnKind.TheVariants.{Minus, Complement, Not}
use Rattle.spec_ast.specs.declared.kind.BinKind.{BinKind}
use Rattle.spec_ast.specs.declared.kind.BinKind.TheVariants.{Mul, Add, Sub, Shl, Ashr, Lshr, BitAnd, BitXor, BitOr, Udiv, Urem, Eq, Ne, Slt, Sle, Sgt, Sge, Ult, Ule, Ugt, Uge, Implies}
use Rattle.spec_tree.specs.declared.expr.ResizeKind.{ResizeKind}
use Rattle.spec_tree.specs.declared.expr.ResizeKind.TheVariants.{ZeroExt, SignExt, Extract}
use Rattle.spec_tree.specs.declared.expr.StateName.{StateName}
use Rattle.spec_tree.specs.declared.expr.StateName.TheVariants.{Old, New}
use Rattle.spec_tree.specs.Plain.{Tree, constant, argument, bound, local, entry, path, unary, binary, all_of, any_of, choose, resize, for_all, exists}
use Rattle.spec_tree.specs.Sorted.{Context, FieldSort, Class, arithmetic, equality, ordering, logic, IsWidth, HasLimits, with_local, with_locals, AreLocals, FitsResize, no_field, width_of, class_of, class_width, resized_width, reads, FitsUn, IsSorted}
use Rattle.spec_tree.specs.Value.{Env, value, state_of, bit, holds, entry_at, load, loaded, un_value, bin_value, resize_value}
use Rattle.spec_tree.specs.Shapes.{AreNumbers, AreBelow, AreEntries, IsState, IsMemory, Fits}

-- ---- what is read

pub number_at : (b : ℕ) (xs : List ℕ) (k : ℕ) → 0 < b → All (λ n. n < b) xs → slice_index xs k < b
number_at b [] k positive h = positive
number_at b (x ∷ xs) zero positive h = All-head (λ n. n < b) x xs h
number_at b (x ∷ xs) (suc k) positive h = number_at b xs k positive (All-tail (λ n. n < b) x xs h)

numbered : (ws ns : List ℕ) (k : ℕ) → AreNumbers ws ns → k < length ws → slice_index ns k < 2 ^ slice_index ws k
numbered [] ns k h l = absurd (omega (arith, l))
numbered (w ∷ ws) [] k h l = absurd h
numbered (w ∷ ws) (n ∷ ns) zero h l = h.0
numbered (w ∷ ws) (n ∷ ns) (suc k) h l = numbered ws ns k h.1 (omega (arith, l))

indexed : (ns is : List ℕ) (k size : ℕ) → AreBelow ns is → slice_get ns k ≡ Some size → slice_index is k < size
indexed [] is k size h g = cc
indexed (n ∷ ns) [] k size h g = absurd h
indexed (n ∷ ns) (i ∷ is) zero size h g = let e : n ≡ size = cc in omega (arith, e, h.0)
indexed (n ∷ ns) (i ∷ is) (suc k) size h g = indexed ns is k size h.1 g

pub entries_at : (fs : List FieldSort) (state : List (List ℕ)) (f : ℕ) (sort : FieldSort) → IsState fs state → slice_get fs f ≡ Some sort → AreEntries (slice_index_or fs f no_field) (slice_index_or state f [])
entries_at [] state f sort h g = cc
entries_at (a ∷ fs) [] f sort h g = absurd h
entries_at (a ∷ fs) (xs ∷ state) zero sort h g = h.0
entries_at (a ∷ fs) (xs ∷ state) (suc f) sort h g = entries_at fs state f sort h.1 g

state_fits : (c : Context) (v : Env) → Fits c v → (s : StateName) → reads c s ≡ true → IsState c.fields (state_of v s)
state_fits c v f Old h = f.old h
state_fits c v f New h = f.new h

entry_below : (w : ℕ) (entries : List ℕ) (place : Option ℕ) → All (λ n. n < 2 ^ w) entries → entry_at entries place < 2 ^ w
entry_below w entries None h = pow_pos w
entry_below w entries (Some p) h = number_at (2 ^ w) entries p (pow_pos w) h

bytes_at : (ns : List ℕ) (memory : List (List ℕ)) (o : ℕ) → IsMemory ns memory → All (λ b. b < 256) (slice_index_or memory o [])
bytes_at [] memory o h = subst (λ m. All (λ b. b < 256) (slice_index_or m o [])) (sym h) (λ k d l. absurd (omega (arith, l)))
bytes_at (n ∷ ns) [] o h = absurd h
bytes_at (n ∷ ns) (bytes ∷ memory) zero h = h.0.1
bytes_at (n ∷ ns) (bytes ∷ memory) (suc o) h = bytes_at ns memory o h.1

load_below : (bytes : List ℕ) (at n : ℕ) → All (λ b. b < 256) bytes → load bytes at n < 2 ^ (8 * n)
load_below bytes at zero h = pow_pos (8 * 0)
load_below bytes at (suc n) h =
    let e : 8 * suc n ≡ 8 * n + 8 = omega arith in
    let p : 2 ^ (8 * suc n) ≡ 2 ^ (8 * n) * 2 ^ 8 = ap (λ k. 2 ^ k) e ∙ pow-add 2 (8 * n) 8 in
    let low : slice_index bytes at < 256 = number_at 256 bytes at (omega arith) h in
    omega (arith, p, low, load_below bytes (at + 1) n h)

loaded_below : (bytes : List ℕ) (base size : ℕ) (added : Option ℕ) → All (λ b. b < 256) bytes → loaded bytes base size added < 2 ^ (8 * size)
loaded_below bytes base size None h = pow_pos (8 * size)
loaded_below bytes base size (Some n) h = load_below bytes (base + n) size h

-- ---- operators

bit_below : (b : Bool) → bit b < 2 ^ 1
bit_below true = omega arith
bit_below false = omega arith

un_below : (kind : UnKind) (w a : ℕ) → FitsUn kind w → a < 2 ^ w → un_value kind w a < 2 ^ w
un_below Minus w a f h = mod-lt (2 ^ w + 0 - a) (pow_pos w)
un_below Complement w a f h = omega (arith, pow_pos w)
un_below Not w a f h = let e : 2 ^ w ≡ 2 ^ 1 = ap (λ k. 2 ^ k) f in omega (arith, e)

choice_below : (c : Bool) (m a b : ℕ) → a < m → b < m → (if c then a else b) < m
choice_below true m a b h k = h
choice_below false m a b h k = k

bin_below : (kind : BinKind) (w a b : ℕ) → a < 2 ^ w → b < 2 ^ w → bin_value kind w a b < 2 ^ class_width (class_of kind) w
bin_below Mul w a b h k = mod-lt (a * b) (pow_pos w)
bin_below Add w a b h k = mod-lt (a + b) (pow_pos w)
bin_below Sub w a b h k = mod-lt (2 ^ w + a - b) (pow_pos w)
bin_below Shl w a b h k = mod-lt (a * 2 ^ b) (pow_pos w)
bin_below Ashr w a b h k = number_below w (int_div_euclid (signed_of w a) (pos (2 ^ b)))
bin_below Lshr w a b h k = lshr_below w a b h
bin_below BitAnd w a b h k = and_lt w a b h k
bin_below BitXor w a b h k = xor_lt w a b h k
bin_below BitOr w a b h k = or_lt w a b h k
bin_below Udiv w a b h k = choice_below (nat_eq b 0) (2 ^ w) (2 ^ w - 1) (a / b) (omega (arith, pow_pos w)) (udiv_below w a b h)
bin_below Urem w a b h k = choice_below (nat_eq b 0) (2 ^ w) a (a % b) h (urem_below w a b h)
bin_below Eq w a b h k = bit_below (nat_eq a b)
bin_below Ne w a b h k = bit_below (not (nat_eq a b))
bin_below Slt w a b h k = bit_below (bvslt w a b)
bin_below Sle w a b h k = bit_below (not (bvslt w b a))
bin_below Sgt w a b h k = bit_below (bvslt w b a)
bin_below Sge w a b h k = bit_below (not (bvslt w a b))
bin_below Ult w a b h k = bit_below (bvult w a b)
bin_below Ule w a b h k = bit_below (not (bvult w b a))
bin_below Ugt w a b h k = bit_below (bvult w b a)
bin_below Uge w a b h k = bit_below (not (bvult w a b))
bin_below Implies w a b h k = bit_below (not (holds a) || holds b)

resize_below : (kind : ResizeKind) (w a : ℕ) → a < 2 ^ w → resize_value kind w a < 2 ^ resized_width kind w
resize_below (ZeroExt n) w a h =
    let more : 2 ^ w ≤ 2 ^ (w + n) = pow_mono (omega arith) in
    omega (arith, h, more)
resize_below (SignExt n) w a h = number_below (w + n) (signed_of w a)
resize_below (Extract high low) w a h = mod-lt (a / 2 ^ low) (pow_pos (high - low + 1))

-- ---- expressions

pub value_below : (c : Context) (v : Env) → Fits c v → (e : Tree) → IsSorted c e → value c v e < 2 ^ width_of c e
value_below c v f (constant w n) s = s.1
value_below c v f (argument k) s = numbered c.args v.args k f.args s
value_below c v f (bound k w) s = let low : slice_index v.bounds k < s.1 = indexed c.bounds v.bounds k s.1 f.bounds s.2 in omega (arith, low, s.3)
value_below c v f (local k) s = numbered c.locals v.locals k f.locals s
value_below c v f (entry name k at) s =
    entry_below (slice_index_or c.fields k no_field).width (slice_index_or (state_of v name) k []) _
    (entries_at c.fields (state_of v name) k s.1 (state_fits c v f name s.0) s.2).1
value_below c v f (path o base steps bytes) s = loaded_below (slice_index_or v.memory o []) base bytes _ (bytes_at c.objects v.memory o (f.memory s.0))
value_below c v f (unary kind a) s = un_below kind (width_of c a) (value c v a) s.1 (value_below c v f a s.0)
value_below c v f (binary kind a b) s =
    bin_below kind (width_of c a) (value c v a) (value c v b) (value_below c v f a s.0) (subst (λ w. value c v b < 2 ^ w) (sym s.2) (value_below c v f b s.1))
value_below c v f (all_of es) s = bit_below _
value_below c v f (any_of es) s = bit_below _
value_below c v f (choose t a b) s =
    choice_below (holds (value c v t)) (2 ^ width_of c a) (value c v a) (value c v b) (value_below c v f a s.2)
    (subst (λ w. value c v b < 2 ^ w) (sym s.4) (value_below c v f b s.3))
value_below c v f (resize kind a) s = resize_below kind (width_of c a) (value c v a) (value_below c v f a s.0)
value_below c v f (for_all sizes a) s = bit_below _
value_below c v f (exists sizes a) s = bit_below _

-- ---- widths

class_fits : (k : Class) (w : ℕ) → IsWidth w → IsWidth (class_width k w)
class_fits arithmetic w h = h
class_fits equality w h = (omega arith, omega arith)
class_fits ordering w h = (omega arith, omega arith)
class_fits logic w h = (omega arith, omega arith)

resize_fits : (kind : ResizeKind) (w : ℕ) → FitsResize kind w → IsWidth w → IsWidth (resized_width kind w)
resize_fits (ZeroExt n) w f h = (omega (arith, h.0), f)
resize_fits (SignExt n) w f h = (omega (arith, h.0), f)
resize_fits (Extract high low) w f h = (omega arith, omega (arith, f.1, h.1))

bytes_fit : (k bytes : ℕ) → k < 4 → bytes ≡ 2 ^ k → IsWidth (8 * bytes)
bytes_fit k bytes l e =
    let least : 0 < 2 ^ k = pow_pos k in
    let most : 2 ^ k ≤ 2 ^ 3 = pow_mono {i = k} {j = 3} (omega (arith, l)) in
    (omega (arith, e, least), omega (arith, e, most))

pub width_fits : (c : Context) → HasLimits c → (e : Tree) → IsSorted c e → IsWidth (width_of c e)
width_fits c h (constant w n) s = s.0
width_fits c h (argument k) s = h.args k 0 s
width_fits c h (bound k w) s = s.0
width_fits c h (local k) s = h.locals k 0 s
width_fits c h (entry name k at) s = (h.fields k no_field (slice_get_within c.fields k s.1 s.2)).wide
width_fits c h (path o base steps bytes) s = bytes_fit s.3.whole.0 bytes s.3.whole.1 s.3.whole.2
width_fits c h (unary kind a) s = width_fits c h a s.0
width_fits c h (binary kind a b) s = class_fits (class_of kind) (width_of c a) (width_fits c h a s.0)
width_fits c h (all_of es) s = (omega arith, omega arith)
width_fits c h (any_of es) s = (omega arith, omega arith)
width_fits c h (choose t a b) s = width_fits c h a s.2
width_fits c h (resize kind a) s = resize_fits kind (width_of c a) s.1 (width_fits c h a s.0)
width_fits c h (for_all sizes a) s = (omega arith, omega arith)
width_fits c h (exists sizes a) s = (omega arith, omega arith)

local_has : (c : Context) → HasLimits c → (e : Tree) → IsSorted c e → HasLimits (with_local c e)
local_has c h e s = record { fields = h.fields; args = h.args; locals = All-push IsWidth c.locals (width_of c e) h.locals (width_fits c h e s) }

pub locals_have : (c : Context) → HasLimits c → (es : List Tree) → AreLocals c es → HasLimits (with_locals c es)
locals_have c h [] s = h
locals_have c h (e ∷ es) s = locals_have (with_local c e) (local_has c h e s.0) es s.1
