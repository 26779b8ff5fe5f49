-- Options, tests and numbers.
use Rattle.std.proofs.Common.{◌≡◌, ℕ, zero, suc, ◌≤◌, ◌<◌, ◌*◌, ◌^◌, Bool, true, false, ◌&&◌, ◌||◌, Option, Some, None, List, [], ◌∷◌, refl, sym, inl, inr, arith}
use Rattle.std.specs.Prelude.{if◌then◌else◌, nat_lt, nat_le, option_map, slice_get, slice_index_or, ◌⊎◌}
use Rattle.spec_scope.specs.Taking.{chain, one, pair}

pub some_is : {A : Type 0} {a b : A} → Some a ≡ Some b → a ≡ b
some_is e = cc

-- ---- tests

pub neither : (a b : Bool) → (a || b) ≡ false → (a ≡ false) × (b ≡ false)
neither true b h = cc
neither false b h = (refl, h)

pub both_are : (a b : Bool) → (a && b) ≡ true → (a ≡ true) × (b ≡ true)
both_are true b h = (refl, h)
both_are false b h = cc

pub tested : {A : Type 0} → (t : Bool) (o : Option A) (y : A) → (if t then o else None) ≡ Some y → (t ≡ true) × (o ≡ Some y)
tested true o y h = (refl, h)
tested false o y h = cc

pub refused : {A : Type 0} → (t : Bool) (o : Option A) (y : A) → (if t then None else o) ≡ Some y → (t ≡ false) × (o ≡ Some y)
refused true o y h = cc
refused false o y h = (refl, h)

-- neither part holds, unless it may
pub quiet_parts : (free a b : Bool) → (free ≡ true) ⊎ ((a || b) ≡ false) → ((free ≡ true) ⊎ (a ≡ false)) × ((free ≡ true) ⊎ (b ≡ false))
quiet_parts free a b (inl h) = (inl h, inl h)
quiet_parts free a b (inr h) = let n = neither a b h in (inr n.0, inr n.1)

-- ---- numbers

pub le_of : (a b : ℕ) → nat_le a b ≡ true → a ≤ b
le_of a b h = grind (arith, h)

pub lt_of : (a b : ℕ) → nat_lt a b ≡ true → a < b
lt_of a b h = grind (arith, h)

pub not_lt : (a b : ℕ) → nat_lt a b ≡ false → b ≤ a
not_lt a b h = grind (arith, h)

small_power : (k : ℕ) → k < 4 → (1 ≤ 2 ^ k) × (2 ^ k ≤ 8)
small_power zero h = (omega arith, omega arith)
small_power (suc zero) h = (omega arith, omega arith)
small_power (suc (suc zero)) h = (omega arith, omega arith)
small_power (suc (suc (suc zero))) h = (omega arith, omega arith)
small_power (suc (suc (suc (suc k)))) h = absurd (omega (arith, h))

-- so many bytes have a width
pub word_width : (n k : ℕ) → k < 4 → n ≡ 2 ^ k → (1 ≤ 8 * n) × (8 * n ≤ 64)
word_width n k h e = let p = small_power k h in (omega (arith, p.0, e), omega (arith, p.1, e))

-- ---- answers

pub record Chained {A B : Type 0} (o : Option A) (f : A → Option B) (x : B) : Type 0 where
  pub value : A
  pub was : o ≡ Some value
  pub rest : f value ≡ Some x

pub chained : {A B : Type 0} → (o : Option A) (f : A → Option B) (x : B) → chain o f ≡ Some x → Chained o f x
chained None f x h = cc
chained (Some a) f x h = record { value = a; was = refl; rest = h }

pub record Single {A B : Type 0} (f : A → B) (o : Option A) (x : B) : Type 0 where
  pub value : A
  pub was : o ≡ Some value
  pub is : x ≡ f value

pub single : {A B : Type 0} → (f : A → B) (o : Option A) (x : B) → one f o ≡ Some x → Single f o x
single f None x h = cc
single f (Some a) x h = record { value = a; was = refl; is = sym (some_is h) }

pub record Both {A B C : Type 0} (f : A × B → C) (o : Option A) (p : Option B) (x : C) : Type 0 where
  pub left : A
  pub right : B
  pub was_left : o ≡ Some left
  pub was_right : p ≡ Some right
  pub is : x ≡ f (left, right)

pub both : {A B C : Type 0} → (f : A × B → C) (o : Option A) (p : Option B) (x : C) → one f (pair o p) ≡ Some x → Both f o p x
both f None p x h = cc
both f (Some a) None x h = cc
both f (Some a) (Some b) x h = record { left = a; right = b; was_left = refl; was_right = refl; is = sym (some_is h) }

-- the first and then the others
pub record Joined {A B C : Type 0} (f : A → B → C) (o : Option A) (p : Option B) (x : C) : Type 0 where
  pub left : A
  pub right : B
  pub was_left : o ≡ Some left
  pub was_right : p ≡ Some right
  pub is : x ≡ f left right

pub joined : {A B C : Type 0} → (f : A → B → C) (o : Option A) (p : Option B) (x : C) → chain o (λ a. one (f a) p) ≡ Some x → Joined f o p x
joined f None p x h = cc
joined f (Some a) None x h = cc
joined f (Some a) (Some b) x h = record { left = a; right = b; was_left = refl; was_right = refl; is = sym (some_is h) }

pub record Mapped {A B : Type 0} (f : A → B) (o : Option A) (x : B) : Type 0 where
  pub value : A
  pub was : o ≡ Some value
  pub is : f value ≡ x

pub mapped : {A B : Type 0} → (f : A → B) (o : Option A) (x : B) → option_map f o ≡ Some x → Mapped f o x
mapped f None x h = cc
mapped f (Some a) x h = record { value = a; was = refl; is = some_is h }

-- ---- lists

pub got : {A : Type 0} → (xs : List A) (i : ℕ) (x d : A) → slice_get xs i ≡ Some x → slice_index_or xs i d ≡ x
got [] i x d h = cc
got (y ∷ ys) zero x d h = some_is h
got (y ∷ ys) (suc i) x d h = got ys i x d h
