-- Bound variables: their sizes, their places, and the names behind a quantifier.
use Rattle.std.proofs.Common.{◌≡◌, ℕ, suc, ◌<◌, ◌≤◌, ◌^◌, Bool, true, false, Some, None, List, [], ◌∷◌, ◌++◌, All, map, length, append_assoc, append-nil, refl, sym, ◌∙◌, ap, subst, arith}
use Rattle.std.specs.Prelude.{if◌then◌else◌, nat_lt, position, bytes_eq, slice_get}
use Rattle.std.specs.List.{position_or_len}
use Rattle.std.specs.Cmp.Lexicographic.{same_text}
use Rattle.std.proofs.lemmas.List.Elements.{All-nil, All-cons}
use Rattle.spec_tree.specs.Sorted as sorted
use Rattle.spec_tree.specs.Sorted.{Context, IsSize, IsNest, product}
use Rattle.spec_names.specs.Kernel.{Name}
use Rattle.spec_scope.specs.declared.meaning.Meaning.TheVariants as means
use Rattle.spec_scope.specs.Scope.{Scope, meaning, bound_behind}
use Rattle.spec_scope.specs.Takes.{AreVariables}
use Rattle.spec_scope.specs.Tests.{size_of, tuples_of}
use Rattle.spec_sorts.specs.Matching.{Matches}
use Rattle.spec_sorts.proofs.Small.{some_is, lt_of, not_lt}

-- ---- more variables

pub variables_on : (s : Scope) (b ys xs : List Name) (ms ns : List ℕ) → AreVariables s b ys ms → AreVariables s (b ++ ys) xs ns → AreVariables s b (ys ++ xs) (ms ++ ns)
variables_on s b [] xs ms ns f g =
    subst (λ (q : List ℕ). AreVariables s b xs (q ++ ns)) (sym f) (subst (λ (q : List Name). AreVariables s q xs ns) (append-nil b) g)
variables_on s b (y ∷ ys) xs ms ns f g = (
  f.0,
  f.1,
  f.2 ++ ns,
  f.3,
  f.4,
  variables_on s (b ++ y ∷ []) ys xs f.2 ns f.5 (subst (λ (q : List Name). AreVariables s q xs ns) (sym (append_assoc b (y ∷ []) ys)) g),
  ap (λ (q : List ℕ). q ++ ns) f.6,
)

sizes_are : (s : Scope) (b xs : List Name) (ns : List ℕ) → AreVariables s b xs ns → map (λ x. size_of (meaning s x)) xs ≡ ns
sizes_are s b [] ns f = sym f
sizes_are s b (x ∷ xs) ns f =
    ap (λ m. size_of m ∷ map (λ x. size_of (meaning s x)) xs) f.3 ∙ ap (λ q. f.1 ∷ q) (sizes_are s (b ++ x ∷ []) xs f.2 f.5) ∙ sym f.6

pub tuples_are : (s : Scope) (b xs : List Name) (ns : List ℕ) → AreVariables s b xs ns → tuples_of s xs ≡ product ns
tuples_are s b xs ns f = ap product (sizes_are s b xs ns f)

-- none is bound already
pub behind_is : (s : Scope) (b xs : List Name) (ns : List ℕ) → AreVariables s b xs ns → bound_behind b xs ≡ b ++ xs
behind_is s b [] ns f = sym (append-nil b)
behind_is s b (x ∷ xs) ns f =
    ap (λ (t : Bool). bound_behind (if t then b else b ++ x ∷ []) xs) f.4 ∙ behind_is s (b ++ x ∷ []) xs f.2 f.5 ∙ append_assoc b (x ∷ []) xs

pub all_sizes : (reading : Bool) (s : Scope) (b a xs : List Name) (c : Context) (ns : List ℕ) → Matches reading s b c → AreVariables s a xs ns → All IsSize ns
all_sizes reading s b a [] c ns m f = subst (All IsSize) (sym f) (All-nil IsSize)
all_sizes reading s b a (x ∷ xs) c ns m f =
    let i = m.variables x f.0 f.1 f.3 in
    subst (All IsSize) (sym f.6) (All-cons IsSize f.1 f.2 i.1 (all_sizes reading s b (a ++ x ∷ []) xs c f.2 m f.5))

-- the variables of a quantifier that is not wide
pub nest_is : (reading : Bool) (s : Scope) (b xs : List Name) (c : Context) (ns : List ℕ) → Matches reading s b c → AreVariables s b xs ns
    → nat_lt (2 ^ 20) (tuples_of s (bound_behind b xs)) ≡ false → sorted.AreVariables c ns
nest_is reading s b xs c ns m f h =
    let behind = behind_is s b xs ns f in
    let many = tuples_are s [] (b ++ xs) (c.bounds ++ ns) (variables_on s [] b xs c.bounds ns m.bound f) in
    let same : tuples_of s (bound_behind b xs) ≡ product (c.bounds ++ ns) = ap (tuples_of s) behind ∙ many in
    (all_sizes reading s b b xs c ns m f, subst (λ n. n ≤ 2 ^ 20) same (not_lt (2 ^ 20) (tuples_of s (bound_behind b xs)) h))

-- ---- the place of a variable

variable_apart : (v m w n : ℕ) → Some (means.Variable v m) ≡ Some (means.Variable w n) → m ≡ n
variable_apart v m w n e = let d : means.Variable v m ≡ means.Variable w n = some_is e in cc

sized_by : (t : Bool) (s : Scope) (b : List Name) (x y : Name) (ys : List Name) (ns : List ℕ) (w n : ℕ) → bytes_eq x y ≡ t → AreVariables s b (y ∷ ys) ns
    → meaning s x ≡ Some (means.Variable w n) → position_or_len (bytes_eq x) (y ∷ ys) < length (y ∷ ys)
    → ((qs : List ℕ) → AreVariables s (b ++ y ∷ []) ys qs → position_or_len (bytes_eq x) ys < length ys → slice_get qs (position_or_len (bytes_eq x) ys) ≡ Some n)
    → slice_get ns (position_or_len (bytes_eq x) (y ∷ ys)) ≡ Some n
sized_by true s b x y ys ns w n e f m h on =
    let same : x ≡ y = same_text x y (sym e) in
    let size : f.1 ≡ n = variable_apart f.0 f.1 w n (sym f.3 ∙ ap (meaning s) (sym same) ∙ m) in
    rw (f.6, e) (ap Some size)
sized_by false s b x y ys ns w n e f m h on =
    let shape : position_or_len (bytes_eq x) (y ∷ ys) ≡ suc (position_or_len (bytes_eq x) ys) = rw e (omega arith) in
    rw (f.6, shape) (on f.2 f.5 (omega (arith, h, shape)))

sized_at : (s : Scope) (b : List Name) (x : Name) (ys : List Name) (ns : List ℕ) (w n : ℕ) → AreVariables s b ys ns → meaning s x ≡ Some (means.Variable w n)
    → position_or_len (bytes_eq x) ys < length ys → slice_get ns (position_or_len (bytes_eq x) ys) ≡ Some n
sized_at s b x [] ns w n f m h = absurd (omega (arith, h))
sized_at s b x (y ∷ ys) ns w n f m h =
    sized_by (bytes_eq x y) s b x y ys ns w n refl f m h (λ qs g k. sized_at s (b ++ y ∷ []) x ys qs w n g m k)

found_at : (t : Bool) (n m place : ℕ) → nat_lt n m ≡ t → (if t then Some n else None) ≡ Some place → (n ≡ place) × (n < m)
found_at true n m place e h = (some_is h, lt_of n m e)
found_at false n m place e h = cc

pub bound_size : (reading : Bool) (s : Scope) (b : List Name) (c : Context) (x : Name) (place w n : ℕ) → Matches reading s b c → position (bytes_eq x) b ≡ Some place
    → meaning s x ≡ Some (means.Variable w n) → slice_get c.bounds place ≡ Some n
bound_size reading s b c x place w n m p e =
    let q = found_at (nat_lt (position_or_len (bytes_eq x) b) (length b)) (position_or_len (bytes_eq x) b) (length b) place refl p in
    subst (λ k. slice_get c.bounds k ≡ Some n) q.0 (sized_at s [] x b c.bounds w n m.bound e q.1)
