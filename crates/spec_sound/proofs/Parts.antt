-- Parts of answers that are there, and of tests.
use Rattle.std.proofs.Common.{◌≡◌, Bool, true, false, not, ◌&&◌, ◌||◌, if◌then◌else◌, Option, Some, None, unwrap_or, is_none, refl, ap}
use Rattle.spec_scope.specs.Taking.{chain, one}

-- ---- tests

pub no : false ≡ true → ⊥
no e = cc

pub not_so : true ≡ false → ⊥
not_so e = cc

pub neither : (a b : Bool) → (a || b) ≡ false → (a ≡ false) × (b ≡ false)
neither true b e = absurd (not_so e)
neither false b e = (refl, e)

pub both : (a b : Bool) → (a && b) ≡ true → (a ≡ true) × (b ≡ true)
both true b e = (refl, e)
both false b e = absurd (no e)

pub un_not : (a : Bool) → not a ≡ false → a ≡ true
un_not true e = refl
un_not false e = absurd (not_so e)

pub is_not : (a : Bool) → not a ≡ true → a ≡ false
is_not true e = absurd (no e)
is_not false e = refl

-- what is asked where the first test holds
pub behind_true : (a b : Bool) → (a && b) ≡ false → a ≡ true → b ≡ false
behind_true true b e p = e
behind_true false b e p = absurd (no p)

-- ---- answers

pub none_some : {A : Type 0} (a : A) → ◌≡◌ {A = Option A} None (Some a) → ⊥
none_some a e = cc

pub some_is : {A : Type 0} (a b : A) → ◌≡◌ {A = Option A} (Some a) (Some b) → a ≡ b
some_is a b e = ap (λ o. unwrap_or o a) e

pub chain_is : {A B : Type 0} (o : Option A) (f : A → Option B) (b : B) → chain o f ≡ Some b → (a : A) × (o ≡ Some a) × (f a ≡ Some b)
chain_is None f b e = absurd (none_some b e)
chain_is (Some a) f b e = (a, refl, e)

pub one_is : {A B : Type 0} (f : A → B) (o : Option A) (b : B) → one f o ≡ Some b → (a : A) × (o ≡ Some a) × (f a ≡ b)
one_is f None b e = absurd (none_some b e)
one_is f (Some a) b e = (a, refl, some_is (f a) b e)

pub then_is : {A : Type 0} (t : Bool) (a b : A) → ◌≡◌ {A = Option A} (if t then Some a else None) (Some b) → (t ≡ true) × (a ≡ b)
then_is true a b e = (refl, some_is a b e)
then_is false a b e = absurd (none_some b e)

pub there : {A : Type 0} (o : Option A) → is_none o ≡ false → (a : A) × (o ≡ Some a)
there None e = absurd (not_so e)
there (Some a) e = (a, refl)
