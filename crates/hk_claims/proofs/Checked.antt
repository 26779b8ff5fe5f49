-- What is found of handlers, one after another.
use Rattle.std.proofs.Common.{ℕ, ◌≡◌, ◌+◌, ◌<◌, ◌≤◌, Option, None, Some, List, [], ◌∷◌, ◌++◌, length, take, slice_index_or, refl, ap, sym, ◌∙◌, subst, append_assoc}
use Rattle.std.specs.List.{zip}
use Rattle.hk_io.specs.Faults.{Rose}
use Rattle.ir_ast.specs.Program.{ModuleView}
use Rattle.spec_tree.specs.Plain.{Spec}
use Rattle.hk_verdict.specs.declared.verdict.Verdict.{Verdict}
use Rattle.hk_cert_text.specs.declared.entry.Entry.{Entry}
use Rattle.hk_claims.specs.declared.stop.ClaimStop.{ClaimStop}
use Rattle.hk_claims.specs.declared.stop.ClaimStop.TheVariants as stop
use Rattle.hk_claims.specs.Turns.{Claim, AreTold}
use Rattle.hk_claims.specs.Checks.{Adds, AddsCut, AreChecked, IsEnded, IsFound, Stops, StopsOne, claimed, found_line}
use Rattle.hk_claims.proofs.Turns.{none_told, told_next, all_told, ends_at}

claimed-append : (a b : List (Option Verdict)) → claimed (a ++ b) ≡ claimed a ++ claimed b
claimed-append [] b = refl
claimed-append (None ∷ a) b = claimed-append a b
claimed-append (Some v ∷ a) b = ap (λ vs. v ∷ vs) (claimed-append a b)

-- the handlers so far have their lines, and the verdicts are those of the acceptances
pub record SoFar (m : ModuleView) (s : Spec) (claims : List Claim) (verdicts : List Verdict) (shown now : Option (List ℕ)) : Type 0 where
  pub founds : List (Option Verdict)
  pub told : AreTold (IsFound m s) (found_line s) claims founds shown now
  pub verdicts_are : verdicts ≡ claimed founds

module _ (m : ModuleView) (s : Spec) where
  pub none_yet : (verdicts : List Verdict) (shown : Option (List ℕ)) → verdicts ≡ [] → SoFar m s [] verdicts shown shown
  none_yet verdicts shown empty = record { founds = []; told = none_told (IsFound m s) (found_line s) shown; verdicts_are = empty }

  pub one_more : (xs : List Claim) (i : ℕ) (x : Claim) (old new : List Verdict) (shown now next : Option (List ℕ)) → i < length xs → x ≡ slice_index_or xs i x → SoFar m s (take i xs) old shown now → Adds m s x old new now next
      → SoFar m s (take (i + 1) xs) new shown next
  one_more xs i x old new shown now next low is h one = record {
    founds = h.founds ++ one.found ∷ [];
    told = told_next (IsFound m s) (found_line s) xs i h.founds x one.found shown now next low is h.told one.is_found one.says;
    verdicts_are = one.added ∙ ap (λ vs. vs ++ claimed (one.found ∷ [])) h.verdicts_are ∙ sym (claimed-append h.founds (one.found ∷ []));
  }

  pub whole : (entries : List Entry) (i : ℕ) (verdicts : List Verdict) (shown now : Option (List ℕ)) → length (zip s.transitions entries) ≤ i → SoFar m s (take i (zip s.transitions entries)) verdicts shown now
      → AreChecked m s entries verdicts shown now
  whole entries i verdicts shown now past h =
      record { founds = h.founds; told = all_told (IsFound m s) (found_line s) (zip s.transitions entries) i h.founds shown now past h.told; verdicts_are = h.verdicts_are }

  ended : (entries : List Entry) (i : ℕ) (x : Claim) (old new : List Verdict) (shown now next : Option (List ℕ)) → i < length (zip s.transitions entries) → x ≡ slice_index_or (zip s.transitions entries) i x
      → SoFar m s (take i (zip s.transitions entries)) old shown now → new ≡ old → next ≡ now → IsEnded m s entries x new shown next
  ended entries i x old new shown now next low is h same still = record {
    founds = h.founds;
    ends = ends_at (IsFound m s) (found_line s) (zip s.transitions entries) i h.founds x shown next low is
        (subst (λ n. AreTold (IsFound m s) (found_line s) (take i (zip s.transitions entries)) h.founds shown n) (sym still) h.told);
    verdicts_are = same ∙ h.verdicts_are;
  }

  pub stopped : (entries : List Entry) (i : ℕ) (x : Claim) (old new : List Verdict) (shown now next : Option (List ℕ)) (before faults faults' : ℕ) (why : ClaimStop) → i < length (zip s.transitions entries)
      → x ≡ slice_index_or (zip s.transitions entries) i x → SoFar m s (take i (zip s.transitions entries)) old shown now → faults ≡ before → StopsOne m s x old new now next faults faults' why
      → Stops m s entries new shown next before faults' why
  stopped entries i x old new shown now next before faults faults' stop.Write low is h still one = record {
    at = x;
    before = old;
    shown_before = now;
    ended = ended entries i x old old shown now now low is h refl refl;
    found = one.0.found;
    is_found = one.0.is_found;
    verdicts_are = one.0.added;
    cut = one.0.cut;
    failed = subst (λ n. Rose n faults') still one.1;
  }
  stopped entries i x old new shown now next before faults faults' stop.Memory low is h still one =
      (record { at = x; ended = ended entries i x old new shown now next low is h one.none_added one.none_shown }, one.none_failed ∙ still)
  stopped entries i x old new shown now next before faults faults' (stop.NoSuch line) low is h still one =
      (record { at = x; ended = ended entries i x old new shown now next low is h one.0.none_added one.0.none_shown; nothing = one.1 }, one.0.none_failed ∙ still)
