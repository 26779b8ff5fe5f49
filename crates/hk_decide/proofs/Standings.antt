-- One obligation more of those that are tried in their order.
use Rattle.std.proofs.Common.{◌≡◌, ◌⊎◌, inl, inr, ◌+◌, ◌<◌, ◌≤◌, ℕ, Bool, true, false, Some, None, List, [], ◌∷◌, ◌++◌, length, length-append, take, drop, refl, sym, ap, ◌∙◌, subst, arith}
use Rattle.std.specs.Prelude.{All, slice_get, ⊤}
use Rattle.std.proofs.lemmas.List.Elements.{All-nil, All-weaker}
use Rattle.std.proofs.lemmas.Option.{slice_get_within}
use Rattle.ir_ast.specs.Program.{ModuleView}
use Rattle.ir_layout.specs.declared.object.Object.{Object}
use Rattle.spec_tree.specs.Plain.{Transition, Spec}
use Rattle.hk_case.specs.declared.Obligation.{Obligation}
use Rattle.hk_case.specs.Obligations.{case_bits}
use Rattle.hk_case.specs.Violation.{IsNeverViolated}
use Rattle.hk_proof.specs.declared.Proof.{Proof}
use Rattle.hk_decide.specs.Right.{IsProof, AreProofs, IsNeverWhereSmall}
use Rattle.hk_decide.specs.SoFar.{IsOpen, IsTried, IsFirstOpen, Stands, IsKept, IsPassed, noted}
use Rattle.hk_decide.specs.declared.found.Spent.{Spent}
use Rattle.hk_decide.specs.declared.found.Tried.{Tried}
use Rattle.hk_decide.specs.declared.found.Tried.TheVariants.{Never, Violated, Spent as TriedSpent}
use Rattle.hk_decide.specs.declared.found.Standing.{Standing}
use Rattle.hk_decide.specs.declared.found.Standing.TheVariants.{Holds, Open}
use Rattle.hk_decide.proofs.Ends.{all_one_more, get_earlier, get_last, get_either, before_earlier, behind_earlier, before_last, behind_last, all_around}

none_is_not : {X : Type 0} (x : X) → None ≡ Some x → ⊥
none_is_not x e = cc

some_is : {X : Type 0} (x y : X) → Some x ≡ Some y → x ≡ y
some_is x y e = cc

-- no proofs are proofs of any obligations
pub no_proofs : (m : ModuleView) (objects : List Object) (s : Spec) (t : Transition) (owed : List Obligation) → AreProofs m objects s t owed []
no_proofs m objects s t owed = record { count = inl refl; each = λ k d p there is. absurd (none_is_not p is) }

module _ (budget : ℕ) (m : ModuleView) (objects : List Object) (s : Spec) (t : Transition) (owed : List Obligation) (o : Obligation) where
  -- ---- proofs

  one_more_proof : (proofs : List Proof) (proof : Proof) → AreProofs m objects s t owed proofs → length proofs ≡ length owed → IsProof m objects s t o proof → AreProofs m objects s t (owed ++ o ∷ []) (proofs ++ proof ∷ [])
  one_more_proof proofs proof h long is = record {
    count = inr (length-append proofs (proof ∷ []) ∙ ap (λ n. n + 1) long ∙ sym (length-append owed (o ∷ [])));
    each = λ k d p there found. by k d p (get_either owed o d k there) (get_either proofs proof p k found);
  }
    where
      by : (k : ℕ) (d : Obligation) (p : Proof) → (slice_get owed k ≡ Some d) ⊎ ((k ≡ length owed) × (o ≡ d)) → (slice_get proofs k ≡ Some p) ⊎ ((k ≡ length proofs) × (proof ≡ p)) → IsProof m objects s t d p
      by k d p (inl there) (inl found) = h.each k d p there found
      by k d p (inr there) (inr found) = subst (λ x. IsProof m objects s t x p) there.1 (subst (IsProof m objects s t o) found.1 is)
      by k d p (inl there) (inr found) = absurd (clash_low owed k d there (found.0 ∙ long))
        where
          clash_low : (os : List Obligation) (k : ℕ) (d : Obligation) → slice_get os k ≡ Some d → k ≡ length os → ⊥
          clash_low os k d there e = let low = slice_get_within os k d there in absurd (omega (arith, low, e))
      by k d p (inr there) (inl found) = absurd (clash_high proofs k p found (there.0 ∙ sym long))
        where
          clash_high : (ps : List Proof) (k : ℕ) (p : Proof) → slice_get ps k ≡ Some p → k ≡ length ps → ⊥
          clash_high ps k p there e = let low = slice_get_within ps k p there in absurd (omega (arith, low, e))

  -- ---- the next obligation

  -- it is open, and its cases are many
  many_is_not_small : (x : Spent) → x.obligation ≡ o → IsOpen budget m objects s t x → IsNeverWhereSmall m objects s t o
  many_is_not_small x is h = λ small. let many = subst (λ d. 16 < case_bits objects s t d) is h.many in absurd (omega (arith, small, many))

  -- none before it is open
  opens : (x : Spent) → All (IsNeverViolated m objects s t) owed → x.obligation ≡ o → IsOpen budget m objects s t x → IsFirstOpen budget m objects s t (owed ++ o ∷ []) x
  opens x never is h = record {
    place = length owed;
    there = get_last owed o ∙ ap Some (sym is);
    open_is = h;
    before = subst (All (IsNeverViolated m objects s t)) (sym (before_last owed o)) never;
    behind = subst (All (IsNeverWhereSmall m objects s t)) (sym (behind_last owed o)) (All-nil (IsNeverWhereSmall m objects s t));
  }

  -- one before it is open
  stays : (x : Spent) → IsFirstOpen budget m objects s t owed x → IsNeverWhereSmall m objects s t o → IsFirstOpen budget m objects s t (owed ++ o ∷ []) x
  stays x h next = record {
    place = h.place;
    there = get_earlier owed o x.obligation h.place h.there;
    open_is = h.open_is;
    before = subst (All (IsNeverViolated m objects s t)) (sym (before_earlier owed o x.obligation h.place h.there)) h.before;
    behind = subst (All (IsNeverWhereSmall m objects s t)) (sym (behind_earlier owed o x.obligation h.place h.there)) (all_one_more (IsNeverWhereSmall m objects s t) (drop (h.place + 1) owed) o h.behind next);
  }

  pub stands_next : (keep : Bool) (standing : Standing) (tried : Tried) → Stands budget m objects s t owed standing → IsKept keep (length owed) standing
      → IsTried budget m objects s t o tried → IsPassed tried → Stands budget m objects s t (owed ++ o ∷ []) (noted keep tried standing)
  stands_next true (Holds proofs) (Never proof) h kept is p = (all_one_more (IsNeverViolated m objects s t) owed o h.0 is.0, one_more_proof proofs proof h.1 kept is.1)
  stands_next false (Holds proofs) (Never proof) h kept is p =
      (all_one_more (IsNeverViolated m objects s t) owed o h.0 is.0, subst (AreProofs m objects s t (owed ++ o ∷ [])) (sym kept) (no_proofs m objects s t (owed ++ o ∷ [])))
  stands_next keep (Open x) (Never proof) h kept is p = stays x h (λ small. is.0)
  stands_next keep (Holds proofs) (TriedSpent y) h kept is p = opens y h.0 is.0 is.1
  stands_next keep (Open x) (TriedSpent y) h kept is p = stays x h (many_is_not_small y is.0 is.1)
  stands_next keep standing (Violated c) h kept is p = absurd p

  -- ---- all so far

  -- no case violates one of few cases
  pub never_where_small : (standing : Standing) → Stands budget m objects s t owed standing → All (IsNeverWhereSmall m objects s t) owed
  never_where_small (Holds proofs) h = All-weaker (IsNeverViolated m objects s t) (IsNeverWhereSmall m objects s t) (λ d never small. never) owed h.0
  never_where_small (Open x) h =
      all_around (IsNeverWhereSmall m objects s t) owed x.obligation h.place h.there
      (All-weaker (IsNeverViolated m objects s t) (IsNeverWhereSmall m objects s t) (λ d never small. never) (take h.place owed) h.before)
      (λ small. let many = h.open_is.many in absurd (omega (arith, small, many))) h.behind

-- proofs are kept or not, one by one
pub kept_next : (keep : Bool) (count : ℕ) (standing : Standing) (tried : Tried) → IsKept keep count standing → IsPassed tried → IsKept keep (count + 1) (noted keep tried standing)
kept_next true count (Holds proofs) (Never proof) h p = length-append proofs (proof ∷ []) ∙ ap (λ n. n + 1) h
kept_next false count (Holds proofs) (Never proof) h p = h
kept_next true count (Open x) (Never proof) h p = tt
kept_next false count (Open x) (Never proof) h p = tt
kept_next true count (Holds proofs) (TriedSpent y) h p = tt
kept_next false count (Holds proofs) (TriedSpent y) h p = tt
kept_next true count (Open x) (TriedSpent y) h p = tt
kept_next false count (Open x) (TriedSpent y) h p = tt
kept_next keep count standing (Violated c) h p = absurd p

pub none_kept : (keep : Bool) → IsKept keep 0 (Holds [])
none_kept true = refl
none_kept false = refl
