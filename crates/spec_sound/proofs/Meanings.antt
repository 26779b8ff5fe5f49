-- What the names of a scope mean: each meaning has its entry in a context.
use Rattle.std.proofs.Common.{◌≡◌, ℕ, ◌<◌, ◌⊎◌, Bool, true, false, if◌then◌else◌, Option, Some, None, is_some, [], ◌∷◌, ◌++◌, length, slice_index, bytes_eq, refl, subst, ◌∙◌}
use Rattle.std.specs.Option.{option_or}
use Rattle.spec_tree.specs.declared.sort.Sort as declared
use Rattle.spec_tree.specs.Sorted.{Context, IsWidth, IsIndexSort, reads}
use Rattle.spec_names.specs.Kernel.{Name}
use Rattle.spec_scope.specs.declared.meaning.Kind.{Kind}
use Rattle.spec_scope.specs.declared.meaning.Meaning.{Meaning}
use Rattle.spec_scope.specs.declared.meaning.Meaning.TheVariants as means
use Rattle.spec_scope.specs.Scope.{Names, meaning_of, with_name, Scope, meaning}
use Rattle.spec_sorts.specs.Matching.{kind_width, IsKind}
use Rattle.spec_sound.proofs.Parts.{some_is, none_some}

-- where a sort has indices, it is an index sort
abbrev pub IsSound : declared.Sort → Type 0
IsSound s = (n : ℕ) → s.size ≡ Some n → IsIndexSort s.width n

-- what a name of the top means
abbrev pub IsTop : Meaning → Type 0
IsTop (means.Sort s) = IsSound s
IsTop (means.Constant n) = Unit {0}
IsTop means.Nothing = Unit {0}
IsTop _ = ⊥

-- what any name means
abbrev pub IsPlain : Meaning → Type 0
IsPlain (means.Sort s) = IsSound s
IsPlain (means.Variable w n) = IsIndexSort w n
IsPlain _ = Unit {0}

-- a local name has its place and its width
abbrev pub HasPlace : Context → ℕ → Kind → Type 0
HasPlace c place k = (place < length c.locals) × (slice_index c.locals place ≡ kind_width k) × IsKind k

-- a meaning has its entry in a context
abbrev pub Means : Bool → Context → Meaning → Type 0
Means reading c (means.Argument place w) = (place < length c.args) × (slice_index c.args place ≡ w) × IsWidth w
Means reading c (means.Local place (Some k) skipped) = (skipped ≡ false) ⊎ (reading ≡ true) → HasPlace c place k
Means reading c (means.State which) = reading ≡ true → reads c which ≡ true
Means reading c means.Kernel = c.kernel ≡ true
Means reading c _ = Unit {0}

-- this holds of what each name means
abbrev pub AllNames : (Meaning → Type 0) → Names → Type 0
AllNames P [] = Unit {0}
AllNames P (e ∷ es) = P e.1 × AllNames P es

pub found : (P : Meaning → Type 0) (names : Names) (x : Name) (m : Meaning) → AllNames P names → meaning_of names x ≡ Some m → P m
found P [] x m all is = absurd (none_some m is)
found P (e ∷ es) x m all is = by (bytes_eq x e.0) (found P es x m all.1) is
  where
    by : (b : Bool) → (meaning_of es x ≡ Some m → P m) → ◌≡◌ {A = Option Meaning} (if b then Some e.1 else meaning_of es x) (Some m) → P m
    by true rest is = subst P (some_is e.1 m is) all.0
    by false rest is = rest is

behind_names : (P : Meaning → Type 0) (names : Names) (x : Name) (m : Meaning) → AllNames P names → P m → AllNames P (names ++ (x, m) ∷ [])
behind_names P [] x m all p = (p, tt)
behind_names P (e ∷ es) x m all p = (all.0, behind_names P es x m all.1 p)

pub named : (P : Meaning → Type 0) (names : Names) (x : Name) (m : Meaning) → AllNames P names → P m → AllNames P (with_name names x m)
named P names x m all p = by (is_some (meaning_of names x))
  where
    by : (b : Bool) → AllNames P (if b then names else names ++ (x, m) ∷ [])
    by true = all
    by false = behind_names P names x m all p

pub all_mapped : (P Q : Meaning → Type 0) → ((m : Meaning) → P m → Q m) → (names : Names) → AllNames P names → AllNames Q names
all_mapped P Q f [] all = tt
all_mapped P Q f (e ∷ es) all = (f e.1 all.0, all_mapped P Q f es all.1)

pub top_plain : (m : Meaning) → IsTop m → IsPlain m
top_plain (means.Sort s) p = p
top_plain (means.Constant n) p = tt
top_plain means.Nothing p = tt
top_plain (means.Argument place w) p = absurd p
top_plain (means.Variable w n) p = absurd p
top_plain (means.Local place k skipped) p = absurd p
top_plain (means.State which) p = absurd p
top_plain means.Kernel p = absurd p

pub top_means : (reading : Bool) (c : Context) (m : Meaning) → IsTop m → Means reading c m
top_means reading c (means.Sort s) p = tt
top_means reading c (means.Constant n) p = tt
top_means reading c means.Nothing p = tt
top_means reading c (means.Argument place w) p = absurd p
top_means reading c (means.Variable w n) p = absurd p
top_means reading c (means.Local place k skipped) p = absurd p
top_means reading c (means.State which) p = absurd p
top_means reading c means.Kernel p = absurd p

-- a name of a function, or one of the top
pub meant : (P : Meaning → Type 0) → ((m : Meaning) → IsTop m → P m) → (s : Scope) (x : Name) (m : Meaning) → AllNames P s.inner → AllNames IsTop s.top
    → meaning s x ≡ Some m → P m
meant P top s x m inner tops is = by (meaning_of s.inner x) refl is
  where
    by : (o : Option Meaning) → meaning_of s.inner x ≡ o → option_or o (meaning_of s.top x) ≡ Some m → P m
    by None e is = top m (found IsTop s.top x m tops is)
    by (Some q) e is = found P s.inner x m inner (e ∙ is)
