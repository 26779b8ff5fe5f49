-- Where a path leads.
use Rattle.std.proofs.Common.{rules, ◌≡◌, ◌+◌, ◌*◌, ◌%◌, ◌^◌, ◌<◌, ◌≤◌, ℕ, zero, suc, Option, Some, None, option_map, List, [], ◌∷◌, length, refl, sym, ◌∙◌, ap, subst, arith, mod-eq_of_lt, nat_lt, inl, inr}
use Rattle.std.specs.Prelude.{slice_get, slice_index_or, IfSome, if◌then◌else◌, Bool, true, false}
use Rattle.std.proofs.lemmas.Bool.{ltb-true}
use Rattle.ir_layout.specs.Bytes as layout
use Rattle.spec_tree.specs.View.{view_path}
use Rattle.spec_tree.specs.declared.expr.Path.{Path, out-Path}
use Rattle.spec_tree.specs.declared.expr.Expr.TheFolds.{fold_out-Path}
use Rattle.spec_tree.specs.Plain.{Steps, no_steps, step_and}
use Rattle.spec_tree.specs.Sorted.{Context, Adds, LiesIn}
use Rattle.spec_tree.specs.Value.{Env, value, bytes_added}
use Rattle.spec_tree.specs.Shapes.{IsMemory}

pub object_there : (ns : List ℕ) (memory : List (List ℕ)) (o size : ℕ) → IsMemory ns memory → slice_get ns o ≡ Some size → (o < length memory) × (length (slice_index_or memory o []) ≡ size)
object_there [] memory o size h g = cc
object_there (n ∷ ns) [] o size h g = absurd h
object_there (n ∷ ns) (bytes ∷ memory) zero size h g = let e : n ≡ size = cc in (omega arith, h.0.0 ∙ e)
object_there (n ∷ ns) (bytes ∷ memory) (suc o) size h g = let r = object_there ns memory o size h.1 g in (omega (arith, r.0), r.1)

pub whole_width : (bytes k : ℕ) → k < 4 → bytes ≡ 2 ^ k → layout.IsWidth bytes
whole_width bytes zero low h = inl h
whole_width bytes (suc zero) low h = inr (inl h)
whole_width bytes (suc (suc zero)) low h = inr (inr (inl h))
whole_width bytes (suc (suc (suc zero))) low h = inr (inr (inr h))
whole_width bytes (suc (suc (suc (suc k)))) low h = absurd (omega (arith, low))

chosen : (b : Bool) (o : Option ℕ) (n : ℕ) → (if b then o else None) ≡ Some n → (b ≡ true) × (o ≡ Some n)
chosen true o n h = (refl, h)
chosen false o n h = cc

mapped : (p : ℕ) (o : Option ℕ) (n : ℕ) → option_map (λ m. p + m) o ≡ Some n → (m : ℕ) × (o ≡ Some m) × (n ≡ p + m)
mapped p None n h = cc
mapped p (Some m) n h = let e : p + m ≡ n = cc in (m, refl, sym e)

pub adds : (c : Context) (v : Env) (steps : Steps) (n : ℕ) → bytes_added c v steps ≡ Some n → Adds steps n
adds c v no_steps n h = let e : 0 ≡ n = cc in sym e
adds c v (step_and count stride e steps) n h =
    let i = value c v e in
    let t = chosen (nat_lt i count) (option_map (λ m. i * stride + m) (bytes_added c v steps)) n h in
    let m = mapped (i * stride) (bytes_added c v steps) n t.1 in
    (i, m.0, ltb-true i count t.0, adds c v steps m.0 m.1, m.2)

exact_at : (o : Option ℕ) (size base bytes : ℕ) → size < 2 ^ 64 → ((n : ℕ) → o ≡ Some n → base + n + bytes ≤ size) → option_map (λ n. n % 2 ^ 64) o ≡ o
exact_at None size base bytes low k = refl
exact_at (Some n) size base bytes low k = let less : base + n + bytes ≤ size = k n refl in ap Some (mod-eq_of_lt (omega (arith, less, low)))

-- the bytes that are added, which do not pass 2 to 64
pub exact : (c : Context) (v : Env) (size base bytes : ℕ) (steps : Steps) → LiesIn size base steps bytes → size < 2 ^ 64 → option_map (λ n. n % 2 ^ 64) (bytes_added c v steps) ≡ bytes_added c v steps
exact c v size base bytes steps h low = exact_at (bytes_added c v steps) size base bytes low (λ n is. h.inside n (adds c v steps n is))

within_at : (o : Option ℕ) (size base bytes : ℕ) → ((n : ℕ) → o ≡ Some n → base + n + bytes ≤ size) → IfSome o (λ n. base + n + bytes ≤ size)
within_at None size base bytes k = search rules
within_at (Some n) size base bytes k = k n refl

pub within : (c : Context) (v : Env) (size base bytes length_of : ℕ) (steps : Steps) (added : Option ℕ) → LiesIn size base steps bytes → length_of ≡ size → added ≡ bytes_added c v steps → IfSome added (λ n. base + n + bytes ≤ length_of)
within c v size base bytes length_of steps added h same is =
    subst (λ m. IfSome added (λ n. base + n + bytes ≤ m)) (sym same)
    (subst (λ o. IfSome o (λ n. base + n + bytes ≤ size)) (sym is) (within_at (bytes_added c v steps) size base bytes (λ n e. h.inside n (adds c v steps n e))))

-- ---- the parts of a path of the code

pub object_is : (p : Path) → (view_path p).object ≡ (out-Path p).object
object_is p = search (rules, fold_out-Path)

pub base_is : (p : Path) → (view_path p).base ≡ (out-Path p).base
base_is p = search (rules, fold_out-Path)

pub bytes_are : (p : Path) → (view_path p).bytes ≡ (out-Path p).bytes
bytes_are p = search (rules, fold_out-Path)
