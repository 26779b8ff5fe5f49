-- The terms of a kind that a table has, while its entries are gone through.
use Rattle.std.proofs.Common.{◌≡◌, ◌⊎◌, inl, inr, ℕ, ◌+◌, ◌++◌, Bool, true, false, cond, List, [], ◌∷◌, take, drop, zero, suc, refl, ℤ, Some, sym, ◌∙◌, ap, subst, arith}
use Rattle.std.specs.Prelude.{slice_get, Option}
use Rattle.std.specs.List.{Contains}
use Rattle.std.proofs.lemmas.List.Elements.{Contains-append_left, Contains-push, Contains-push_cases}
use Rattle.hk_term.specs.declared.node.Node.{Node}
use Rattle.hk_blast.specs.Blasted.{Words, HasWord}
use Rattle.hk_blast.proofs.WordLists.{has_more}
use Rattle.hk_inst.proofs.Tuples.{clash}
use Rattle.hk_inst.proofs.Members.{has-head, has-behind}
use Rattle.hk_inst.proofs.GrowthSteps.{next-entry, next-cases}

pub slice-drop : {X : Type 0} (xs : List X) (n k : ℕ) → slice_get (drop n xs) k ≡ slice_get xs (n + k)
slice-drop xs zero k = ap (slice_get xs) (omega arith)
slice-drop [] (suc n) k = refl
slice-drop (x ∷ xs) (suc n) k =
    let e : suc (n + k) ≡ suc n + k = omega arith in
    slice-drop xs n k ∙ ap (slice_get (x ∷ xs)) e

module _ (nodes : List Node) (kind : Option Node → Bool) (words : Words) where
  pub record IsFound (i : ℕ) (items : List ℕ) : Type 0 where
    pub are : (t : ℕ) → Contains items t → (HasWord (take i words) t) × (kind (slice_get nodes t) ≡ true)
    pub all : (t : ℕ) → HasWord (take i words) t → kind (slice_get nodes t) ≡ true → Contains items t

  later : (i : ℕ) (e : ℕ × List ℤ) → slice_get words i ≡ Some e → (t : ℕ) → HasWord (take i words) t → HasWord (take (i + 1) words) t
  later i e at t has = subst (λ ws. HasWord ws t) (sym (next-entry words i e at)) (has_more t (take i words) (e ∷ []) has)

  here : (i : ℕ) (e : ℕ × List ℤ) → slice_get words i ≡ Some e → HasWord (take (i + 1) words) e.0
  here i e at = subst (λ ws. HasWord ws e.0) (sym (next-entry words i e at)) (has-behind (take i words) (e ∷ []) e.0 (has-head e []))

  by-kind : (b : Bool) (i : ℕ) (items : List ℕ) (e : ℕ × List ℤ) → slice_get words i ≡ Some e → kind (slice_get nodes e.0) ≡ b → IsFound i items → IsFound (i + 1) (cond b (items ++ e.0 ∷ []) items)
  by-kind true i items e at k h = record {
    are = λ t c. old t (Contains-push_cases items e.0 t c);
    all = λ t has is. new t is (next-cases words i e at t has);
  }
    where
      old : (t : ℕ) → (Contains items t) ⊎ (e.0 ≡ t) → (HasWord (take (i + 1) words) t) × (kind (slice_get nodes t) ≡ true)
      old t (inl c) = (later i e at t (h.are t c).0, (h.are t c).1)
      old t (inr d) = subst (λ x. (HasWord (take (i + 1) words) x) × (kind (slice_get nodes x) ≡ true)) d (here i e at, k)

      new : (t : ℕ) → kind (slice_get nodes t) ≡ true → (HasWord (take i words) t) ⊎ (t ≡ e.0) → Contains (items ++ e.0 ∷ []) t
      new t is (inl has) = Contains-append_left items (e.0 ∷ []) t (h.all t has is)
      new t is (inr d) = subst (Contains (items ++ e.0 ∷ [])) (sym d) (Contains-push items e.0)
  by-kind false i items e at k h = record {
    are = λ t c. (later i e at t (h.are t c).0, (h.are t c).1);
    all = λ t has is. new t is (next-cases words i e at t has);
  }
    where
      new : (t : ℕ) → kind (slice_get nodes t) ≡ true → (HasWord (take i words) t) ⊎ (t ≡ e.0) → Contains items t
      new t is (inl has) = h.all t has is
      new t is (inr d) = clash (sym is ∙ ap (λ x. kind (slice_get nodes x)) d ∙ k)

  pub found-next : (holds : Bool) (i : ℕ) (items more : List ℕ) (e : ℕ × List ℤ) → slice_get words i ≡ Some e → holds ≡ kind (slice_get nodes e.0) → more ≡ cond holds (items ++ e.0 ∷ []) items → IsFound i items → IsFound (i + 1) more
  found-next holds i items more e at k is h = subst (IsFound (i + 1)) (sym is) (by-kind holds i items e at (sym k) h)
