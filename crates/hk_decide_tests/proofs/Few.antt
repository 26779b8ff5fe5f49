-- Proofs by all cases at obligations of few cases alone, as the proofs are gone through.
use Rattle.std.proofs.Common.{◌≡◌, ◌⊎◌, inl, inr, ◌+◌, ◌<◌, ◌≤◌, ℕ, Some, List, length, get_or, sym, ◌∙◌, subst, arith}
use Rattle.std.specs.Prelude.{slice_get}
use Rattle.std.proofs.lemmas.Bool.{cases_eq}
use Rattle.std.proofs.lemmas.Option.{get_or_from_slice_get, slice_get_within}
use Rattle.ir_layout.specs.declared.object.Object.{Object}
use Rattle.spec_tree.specs.Plain.{Transition, Spec}
use Rattle.hk_case.specs.declared.Obligation.{Obligation}
use Rattle.hk_case.specs.Obligations.{obligations_of}
use Rattle.hk_proof.specs.declared.Proof.{Proof}
use Rattle.hk_proof.specs.declared.Proof.TheVariants.{AllCases}
use Rattle.hk_decide.specs.Right.{IsSmall}
use Rattle.hk_check.specs.Told.{AreFew}

module _ (objects : List Object) (s : Spec) (t : Transition) (owed : List Obligation) (given : List Proof) where
  -- those below a place
  abbrev pub AreFewBelow : ℕ → Type 0
  AreFewBelow n = (k : ℕ) (o : Obligation) → k < n → slice_get owed k ≡ Some o → slice_get given k ≡ Some AllCases → IsSmall objects s t o

  pub few_none : AreFewBelow 0
  few_none k o low = absurd (omega (arith, low))

  pub few_more : (n : ℕ) (d : Obligation) (p : Proof) → p ≡ get_or given n p → (p ≡ AllCases → IsSmall objects s t (get_or owed n d)) → AreFewBelow n → AreFewBelow (n + 1)
  few_more n d p at small before k o below there found = by (cases_eq k n)
    where
      by : (k ≡ n) ⊎ (k ≡ n → ⊥) → IsSmall objects s t o
      by (inr other) = before k o (omega (arith, below, other)) there found
      by (inl same) =
          let here : slice_get owed n ≡ Some o = subst (λ j. slice_get owed j ≡ Some o) same there in
          let cases : slice_get given n ≡ Some AllCases = subst (λ j. slice_get given j ≡ Some AllCases) same found in
          subst (IsSmall objects s t) (get_or_from_slice_get owed n o d here) (small (at ∙ get_or_from_slice_get given n AllCases p cases))

  pub few_all : (n : ℕ) → length owed ≤ n → owed ≡ obligations_of s t → AreFewBelow n → AreFew objects s t given
  few_all n past all below k o there found =
      let here : slice_get owed k ≡ Some o = subst (λ (os : List Obligation). slice_get os k ≡ Some o) (sym all) there in
      let low = slice_get_within owed k o here in
      below k o (omega (arith, low, past)) here found
