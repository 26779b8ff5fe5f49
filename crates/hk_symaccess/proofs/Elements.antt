-- Elements of a list by bases: the first element has the base 2.
use Rattle.std.proofs.Common.{◌≡◌, ◌≢◌, ◌<◌, ◌≤◌, ◌+◌, ◌-◌, ◌⊎◌, ℕ, zero, suc, true, false, List, [], ◌∷◌, take, inl, inr, refl, sym, ap, ◌∙◌, arith, nat_eq, nat_le, if◌then◌else◌}
use Rattle.std.specs.Prelude.{slice_get, slice_index_or, Some}
use Rattle.std.proofs.lemmas.Bool.{le-leb, lt-leb, cases_lt}
use Rattle.std.proofs.lemmas.Bool.Decides.{eqb_tells}

-- the first elements at a place among them, and behind them
taken : {A : Type 0} (xs : List A) (k : ℕ) (x d : A) → slice_get xs k ≡ Some x → slice_index_or (take (suc k) xs) k d ≡ x
taken [] k x d e = absurd (cc)
taken (y ∷ xs) zero x d e = cc
taken (y ∷ xs) (suc k) x d e = taken xs k x d e

none_taken : {A : Type 0} (xs : List A) (k : ℕ) (d : A) → slice_index_or (take k xs) k d ≡ d
none_taken [] zero d = refl
none_taken [] (suc k) d = refl
none_taken (y ∷ xs) zero d = refl
none_taken (y ∷ xs) (suc k) d = none_taken xs k d

same_taken : {A : Type 0} (xs : List A) (k j : ℕ) (d : A) → j ≢ k → slice_index_or (take (suc k) xs) j d ≡ slice_index_or (take k xs) j d
same_taken [] zero j d o = refl
same_taken [] (suc k) j d o = refl
same_taken (y ∷ xs) zero zero d o = absurd (o refl)
same_taken (y ∷ []) zero (suc j) d o = refl
same_taken (y ∷ z ∷ xs) zero (suc j) d o = refl
same_taken (y ∷ xs) (suc k) zero d o = refl
same_taken (y ∷ xs) (suc k) (suc j) d o = same_taken xs k j d (λ (e : j ≡ k). o (ap suc e))

-- the element at a base
abbrev pub element : {A : Type 0} → List A → A → ℕ → A
element xs d b = if nat_le b 1 then d else slice_index_or xs (b - 2) d

-- one more element
pub element_more : {A : Type 0} (xs : List A) (k b : ℕ) (x d : A) → slice_get xs k ≡ Some x → element (take (k + 1) xs) d b ≡ (if nat_eq b (k + 2) then x else element (take k xs) d b)
element_more {A} xs k b x d e = ap (λ n. element (take n xs) d b) next ∙ by (eqb_tells b (k + 2))
  where
    next : k + 1 ≡ suc k
    next = omega arith

    by : ((nat_eq b (k + 2) ≡ true) × (b ≡ k + 2)) ⊎ ((nat_eq b (k + 2) ≡ false) × (b ≢ k + 2)) → element (take (suc k) xs) d b ≡ (if nat_eq b (k + 2) then x else element (take k xs) d b)
    by (inl t) =
        let place : b - 2 ≡ k = omega (arith, t.1) in
        let over : nat_le b 1 ≡ false = lt-leb b 1 (omega (arith, t.1)) in
        (λ i. if over i then d else slice_index_or (take (suc k) xs) (place i) d) ∙ taken xs k x d e ∙ sym (ap (λ q. if q then x else element (take k xs) d b) t.0)
    by (inr f) = other (cases_lt 1 b) ∙ sym (ap (λ q. if q then x else element (take k xs) d b) f.0)
      where
        other : (1 < b) ⊎ (b ≤ 1) → element (take (suc k) xs) d b ≡ element (take k xs) d b
        other (inl l) = ap (λ y. if nat_le b 1 then d else y) (same_taken xs k (b - 2) d (λ (h : b - 2 ≡ k). f.1 (omega (arith, l, h))))
        other (inr l) = ap (λ q. if q then d else slice_index_or (take (suc k) xs) (b - 2) d) (le-leb b 1 l) ∙ sym (ap (λ q. if q then d else slice_index_or (take k xs) (b - 2) d) (le-leb b 1 l))
