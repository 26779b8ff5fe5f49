-- Verdicts with the proofs of their acceptances, one after another.

use Rattle.std.proofs.Common.{ℕ, ◌+◌, ◌<◌, ◌≤◌, ◌≡◌, List, [], ◌∷◌, ◌++◌, length, map, take, slice_index_or, sym, ◌∙◌, subst, arith}
use Rattle.std.proofs.lemmas.List.{take_all, length-map}
use Rattle.spec_tree.specs.Plain.{Spec, Transition}
use Rattle.spec_tree.specs.View.{view_transition}
use Rattle.spec_tree.specs.declared.spec.Transition.{Transition as Handler}
use Rattle.hk_verdict.specs.declared.verdict.Verdict.{Verdict}
use Rattle.hk_verify.specs.Verdicts.{AreKept, HasProofs, KeepsOne}
use Rattle.hk_verify.proofs.Right.{AllZip-snoc, step_at}

pub none_kept : (spec : Spec) (ts : List Handler) (verdicts : List Verdict) → verdicts ≡ [] → AreKept spec (take 0 (map view_transition ts)) verdicts
none_kept spec ts verdicts empty = subst (λ vs. AreKept spec [] vs) (sym empty) tt

pub one_more_kept : (spec : Spec) (ts : List Handler) (i : ℕ) (t : Handler) (old new : List Verdict) → i < length ts → t ≡ slice_index_or ts i t → KeepsOne spec (view_transition t) old new
    → AreKept spec (take i (map view_transition ts)) old → AreKept spec (take (i + 1) (map view_transition ts)) new
one_more_kept spec ts i t old new within there one so_far =
    let plain = map view_transition ts in
    subst (λ before. AreKept spec before new) (sym (step_at ts i t within there))
    (subst (λ vs. AreKept spec (take i plain ++ view_transition t ∷ []) vs) (sym one.added)
    (AllZip-snoc (HasProofs spec) (take i plain) old (view_transition t) one.verdict so_far one.proofs))

pub all_kept : (spec : Spec) (ts : List Handler) (transitions : List Transition) (i : ℕ) (verdicts : List Verdict) → map view_transition ts ≡ transitions → length ts ≤ i
    → AreKept spec (take i (map view_transition ts)) verdicts → AreKept spec transitions verdicts
all_kept spec ts transitions i verdicts same past so_far =
    let long = length-map ts view_transition in
    subst (λ all. AreKept spec all verdicts) (take_all i (map view_transition ts) (omega (arith, past, long)) ∙ same) so_far
