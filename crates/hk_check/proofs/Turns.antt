-- Turns over the proofs of a handler.
use Rattle.std.proofs.Common.{◌≡◌, ◌⊎◌, inl, inr, ◌+◌, ◌<◌, ◌≤◌, ℕ, zero, suc, map, Option, None, List, [], ◌∷◌, ◌++◌, length, take, get_or, refl, sym, ap, ◌∙◌, subst, arith, length-append}
use Rattle.std.specs.Prelude.{slice_get, Some}
use Rattle.std.proofs.lemmas.List.{take_all, take_more}
use Rattle.std.proofs.lemmas.List.Elements.{All-append, All-cons, All-nil}
use Rattle.std.proofs.lemmas.Option.{slice_get-get_or, slice_get_within}
use Rattle.ir_ast.specs.Program.{ModuleView}
use Rattle.ir_layout.specs.declared.object.Object.{Object}
use Rattle.spec_tree.specs.Plain.{Transition, Spec}
use Rattle.hk_case.specs.declared.Obligation.{Obligation}
use Rattle.hk_case.specs.Obligations.{obligations_of, IsObligation}
use Rattle.hk_case.specs.Violation.{IsNeverViolated}
use Rattle.hk_case.specs.declared.Case.{Case}
use Rattle.hk_cnf.specs.Clauses.{Clauses}
use Rattle.hk_lrat.specs.declared.log.RowReason.{RowReason}
use Rattle.hk_proof.specs.declared.Proof.{Proof}
use Rattle.hk_proof.specs.declared.Proof.TheVariants.{AllCases}
use Rattle.hk_decide.specs.Right.{IsProof, AreProofs, IsSmall}
use Rattle.hk_check.specs.Told.{AreFew, AreShown, IsChecked, IsFirst, IsRefused, IsViolated, IsNoSuchOf}
use Rattle.hk_check.specs.Trials.{IsTried}
use Rattle.hk_check.specs.declared.answers.Trial.{Trial}
use Rattle.hk_check.specs.declared.answers.Trial.TheVariants as trial

-- there is an element at each place below the length
pub there_is : {X Y : Type 0} (f : X → Y) (xs : List X) (k : ℕ) → k < length xs → (y : Y) × (slice_get (map f xs) k ≡ Some y)
there_is f [] k low = absurd (omega (arith, low))
there_is f (x ∷ xs) zero low = (f x, refl)
there_is f (x ∷ xs) (suc k) low = there_is f xs k (omega (arith, low))

none_is_not : {X : Type 0} (x : X) → None ≡ Some x → ⊥
none_is_not x e = cc

-- an element is an earlier one or the new one
get_either : {X : Type 0} (xs : List X) (x y : X) (k : ℕ) → slice_get (xs ++ x ∷ []) k ≡ Some y → (slice_get xs k ≡ Some y) ⊎ ((k ≡ length xs) × (x ≡ y))
get_either [] x y zero there = inr (refl, ap (unwrap_or_is x) there)
  where
    unwrap_or_is : {X : Type 0} (x : X) → Option X → X
    unwrap_or_is x (Some y) = y
    unwrap_or_is x None = x
get_either [] x y (suc k) there = absurd (none_is_not y there)
get_either (z ∷ xs) x y zero there = inl there
get_either (z ∷ xs) x y (suc k) there = by (get_either xs x y k there)
  where
    by : (slice_get xs k ≡ Some y) ⊎ ((k ≡ length xs) × (x ≡ y)) → (slice_get xs k ≡ Some y) ⊎ ((suc k ≡ suc (length xs)) × (x ≡ y))
    by (inl e) = inl e
    by (inr e) = inr (ap suc e.0, e.1)

module _ (m : ModuleView) (objects : List Object) (s : Spec) (t : Transition) where
  pub none_first : AreShown m objects s t [] []
  none_first = record {
    never = All-nil (IsNeverViolated m objects s t);
    proofs_are = record { count = inl refl; each = λ k d p there is. absurd (none_is_not p is) };
    count = refl;
  }

  more_proofs : (owed : List Obligation) (o : Obligation) (proofs : List Proof) (proof : Proof) → AreProofs m objects s t owed proofs → length proofs ≡ length owed → IsProof m objects s t o proof → AreProofs m objects s t (owed ++ o ∷ []) (proofs ++ proof ∷ [])
  more_proofs owed o proofs proof h long is = record {
    count = inr (length-append proofs (proof ∷ []) ∙ ap (λ n. n + 1) long ∙ sym (length-append owed (o ∷ [])));
    each = λ k d p there found. by k d p (get_either owed o d k there) (get_either proofs proof p k found);
  }
    where
      by : (k : ℕ) (d : Obligation) (p : Proof) → (slice_get owed k ≡ Some d) ⊎ ((k ≡ length owed) × (o ≡ d)) → (slice_get proofs k ≡ Some p) ⊎ ((k ≡ length proofs) × (proof ≡ p)) → IsProof m objects s t d p
      by k d p (inl there) (inl found) = h.each k d p there found
      by k d p (inr there) (inr found) = subst (λ x. IsProof m objects s t x p) there.1 (subst (IsProof m objects s t o) found.1 is)
      by k d p (inl there) (inr found) = absurd (clash_low owed k d there (found.0 ∙ long))
        where
          clash_low : (os : List Obligation) (k : ℕ) (d : Obligation) → slice_get os k ≡ Some d → k ≡ length os → ⊥
          clash_low os k d there e = let low = slice_get_within os k d there in absurd (omega (arith, low, e))
      by k d p (inr there) (inl found) = absurd (clash_high proofs k p found (there.0 ∙ sym long))
        where
          clash_high : (ps : List Proof) (k : ℕ) (p : Proof) → slice_get ps k ≡ Some p → k ≡ length ps → ⊥
          clash_high ps k p there e = let low = slice_get_within ps k p there in absurd (omega (arith, low, e))

  one_more : (owed : List Obligation) (proofs : List Proof) (o : Obligation) (p : Proof) → AreShown m objects s t owed proofs → IsNeverViolated m objects s t o × IsProof m objects s t o p
      → AreShown m objects s t (owed ++ o ∷ []) (proofs ++ p ∷ [])
  one_more owed proofs o p h is = record {
    never = All-append (IsNeverViolated m objects s t) owed (o ∷ []) h.never (All-cons (IsNeverViolated m objects s t) o [] is.0 (All-nil (IsNeverViolated m objects s t)));
    proofs_are = more_proofs owed o proofs p h.proofs_are h.count is.1;
    count = length-append proofs (p ∷ []) ∙ ap (λ n. n + 1) h.count ∙ sym (length-append owed (o ∷ []));
  }

  -- the obligations and the proofs as they are gone through
  module _ (owed : List Obligation) (given proofs : List Proof) (all : owed ≡ obligations_of s t) (same : given ≡ proofs) (count : length proofs ≡ length (obligations_of s t)) where
    many : length owed ≡ length given
    many = ap length all ∙ sym count ∙ ap length (sym same)

    owed_there : (k : ℕ) (o : Obligation) → k < length owed → slice_get (obligations_of s t) k ≡ Some (get_or owed k o)
    owed_there k o low = subst (λ (os : List Obligation). slice_get os k ≡ Some (get_or owed k o)) all (slice_get-get_or owed k o low)

    given_there : (k : ℕ) (p : Proof) → k < length owed → slice_get proofs k ≡ Some (get_or given k p)
    given_there k p low = subst (λ (ps : List Proof). slice_get ps k ≡ Some (get_or given k p)) same (slice_get-get_or given k p (subst (λ n. k < n) many low))

    -- an obligation is one of the handler, with few cases where its proof is that all were tried
    pub owed_at : (k : ℕ) (o : Obligation) → k < length owed → IsObligation s t (get_or owed k o)
    owed_at k o low = (k, owed_there k o low)

    pub few_at : (k : ℕ) (o : Obligation) (p : Proof) → k < length owed → AreFew objects s t proofs → p ≡ get_or given k p → p ≡ AllCases → IsSmall objects s t (get_or owed k o)
    few_at k o p low few at is = few k (get_or owed k o) (owed_there k o low) (given_there k p low ∙ ap Some (sym at ∙ is))

    there_too : (k : ℕ) (o : Obligation) (p : Proof) (tried : Trial) → p ≡ get_or given k p → IsTried m objects s t (get_or owed k o) p tried → IsTried m objects s t (get_or owed k o) (get_or given k p) tried
    there_too k o p tried at is = subst (λ (x : Proof). IsTried m objects s t (get_or owed k o) x tried) at is

    -- the next proof is one
    pub shown_more : (k : ℕ) (o : Obligation) (p : Proof) (tried : Trial) → k < length owed → AreShown m objects s t (take k owed) (take k given)
        → p ≡ get_or given k p → tried ≡ trial.Shown → IsTried m objects s t (get_or owed k o) p tried → AreShown m objects s t (take (k + 1) owed) (take (k + 1) given)
    shown_more k o p tried low h at shown is =
        let here : IsTried m objects s t (get_or owed k o) (get_or given k p) trial.Shown = subst (IsTried m objects s t (get_or owed k o) (get_or given k p)) shown (there_too k o p tried at is) in
        subst (λ ps. AreShown m objects s t (take (k + 1) owed) ps) (sym (take_more given k p (subst (λ n. k < n) many low)))
        (subst (λ os. AreShown m objects s t os (take k given ++ get_or given k p ∷ [])) (sym (take_more owed k o low))
        (one_more (take k owed) (take k given) (get_or owed k o) (get_or given k p) h here))

    -- all are
    pub all_shown : (k : ℕ) → length owed ≤ k → AreShown m objects s t (take k owed) (take k given) → IsChecked m objects s t proofs
    all_shown k past h =
        let whole : AreShown m objects s t (obligations_of s t) proofs =
        subst (λ ps. AreShown m objects s t (obligations_of s t) ps) (take_all k given (subst (λ n. n ≤ k) many past) ∙ same)
        (subst (λ os. AreShown m objects s t os (take k given)) (take_all k owed past ∙ all) h) in
        record { accepted = record { correct = whole.never; proofs_are = whole.proofs_are }; count = whole.count }

    -- the next one is none
    first_at : (k : ℕ) (o : Obligation) (p : Proof) → k < length owed → AreShown m objects s t (take k owed) (take k given) → IsFirst m objects s t proofs k (get_or owed k o) (get_or given k p)
    first_at k o p low h = record {
      owed = owed_there k o low;
      given = given_there k p low;
      before = subst (λ (ps : List Proof). AreShown m objects s t (take k (obligations_of s t)) (take k ps)) same (subst (λ (os : List Obligation). AreShown m objects s t (take k os) (take k given)) all h);
    }

    pub refused_at : (k : ℕ) (o : Obligation) (p : Proof) (tried : Trial) (list : Clauses) (row : ℕ) (reason : RowReason) → k < length owed → AreShown m objects s t (take k owed) (take k given)
        → p ≡ get_or given k p → tried ≡ trial.Refused list row reason → IsTried m objects s t (get_or owed k o) p tried → IsRefused m objects s t proofs k (get_or owed k o) list row reason
    refused_at k o p tried list row reason low h at is there =
        record { proof = get_or given k p; first = first_at k o p low h; refusal = subst (IsTried m objects s t (get_or owed k o) (get_or given k p)) is (there_too k o p tried at there) }

    pub violated_at : (k : ℕ) (o : Obligation) (p : Proof) (tried : Trial) (case : Case) → k < length owed → AreShown m objects s t (take k owed) (take k given)
        → p ≡ get_or given k p → tried ≡ trial.Violated case → IsTried m objects s t (get_or owed k o) p tried → IsViolated m objects s t proofs (get_or owed k o) case
    violated_at k o p tried case low h at is there =
        record { place = k; proof = get_or given k p; first = first_at k o p low h; refusal = subst (IsTried m objects s t (get_or owed k o) (get_or given k p)) is (there_too k o p tried at there) }

    pub no_such_at : (k : ℕ) (o : Obligation) (p : Proof) (tried : Trial) (place : ℕ) → k < length owed → AreShown m objects s t (take k owed) (take k given)
        → p ≡ get_or given k p → tried ≡ trial.NoSuch place → IsTried m objects s t (get_or owed k o) p tried → IsNoSuchOf m objects s t proofs k place
    no_such_at k o p tried place low h at is there =
        record { obligation = get_or owed k o; proof = get_or given k p; first = first_at k o p low h; refusal = subst (IsTried m objects s t (get_or owed k o) (get_or given k p)) is (there_too k o p tried at there) }
