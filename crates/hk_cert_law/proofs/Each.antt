-- What holds of each element, element by element, and the first element that a test finds.
use Rattle.std.proofs.Common.{◌≡◌, ℕ, zero, suc, ◌+◌, ◌<◌, Bool, true, false, cond, List, [], ◌∷◌, ◌++◌, map, Some, refl, ◌∙◌, ap, arith, subst}
use Rattle.std.specs.Prelude.{slice_get}
use Rattle.std.specs.List.{find, range_with_len}

abbrev pub Each : {X : Type 0} → (X → Type 0) → List X → Type 0
Each P [] = Unit {0}
Each P (x ∷ xs) = P x × Each P xs

pub each_append : {X : Type 0} (P : X → Type 0) (a b : List X) → Each P a → Each P b → Each P (a ++ b)
each_append P [] b p q = q
each_append P (x ∷ a) b p q = (p.0, each_append P a b p.1 q)

pub each_map : {X Y : Type 0} (P : Y → Type 0) (f : X → Y) (xs : List X) → Each (λ x. P (f x)) xs → Each P (map f xs)
each_map P f [] p = tt
each_map P f (x ∷ xs) p = (p.0, each_map P f xs p.1)

-- the numbers from one on
pub each_from : (P : ℕ → Type 0) (a n : ℕ) → ((k : ℕ) → k < a + n → P k) → Each P (range_with_len a n)
each_from P a zero f = tt
each_from P a (suc n) f = (f a (omega arith), each_from P (a + 1) n (λ k h. f k (omega (arith, h))))

pub each_place : (P : ℕ → Type 0) (n : ℕ) → ((k : ℕ) → k < n → P k) → Each P (range_with_len 0 n)
each_place P n f = each_from P 0 n (λ k h. f k (omega (arith, h)))

pub each_at : {X : Type 0} (P : X → Type 0) (xs : List X) (place : ℕ) (x : X) → Each P xs → slice_get xs place ≡ Some x → P x
each_at P [] place x p is = absurd (cc is)
each_at P (y ∷ xs) zero x p is = let same : y ≡ x = cc is in subst P same p.0
each_at P (y ∷ xs) (suc place) x p is = each_at P xs place x p.1 is

pub each_both : {X : Type 0} (P Q : X → Type 0) → ((x : X) → P x → Q x) → (xs : List X) → Each P xs → Each Q xs
each_both P Q f [] p = tt
each_both P Q f (x ∷ xs) p = (f x p.0, each_both P Q f xs p.1)

-- the only element that passes the test is found
pub found : {X : Type 0} (test : X → Bool) (x : X) (xs : List X) (place : ℕ) → Each (λ y. test y ≡ true → y ≡ x) xs → slice_get xs place ≡ Some x → test x ≡ true → find test xs ≡ Some x
found test x [] place alone is passes = absurd (cc is)
found test x (y ∷ xs) zero alone is passes =
    let same : y ≡ x = cc is in
    ap (λ b. cond b (Some y) (find test xs)) (ap test same ∙ passes) ∙ ap Some same
found test x (y ∷ xs) (suc place) alone is passes = by (test y) refl (found test x xs place alone.1 is passes)
  where
    by : (b : Bool) → test y ≡ b → find test xs ≡ Some x → cond b (Some y) (find test xs) ≡ Some x
    by true e next = ap Some (alone.0 e)
    by false e next = next
