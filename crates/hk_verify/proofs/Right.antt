-- Right verdicts for handlers, one after another.

use Rattle.std.proofs.Common.{ℕ, ◌+◌, ◌<◌, ◌≤◌, ◌≡◌, List, [], ◌∷◌, ◌++◌, length, map, take, slice_index_or, ap, sym, ◌∙◌, subst, arith}
use Rattle.std.specs.List.{AllZip}
use Rattle.std.proofs.lemmas.List.{take_more, take_all, length-map, get_or-map}
use Rattle.ir_ast.specs.Program.{ModuleView}
use Rattle.spec_tree.specs.Plain.{Spec, Transition}
use Rattle.spec_tree.specs.View.{view_transition}
use Rattle.spec_tree.specs.declared.spec.Transition.{Transition as Handler}
use Rattle.hk_verdict.specs.declared.verdict.Verdict.{Verdict}
use Rattle.hk_verify.specs.Verdicts.{AreRight, IsRightFor}

-- The relation goes on to one more pair.
pub AllZip-snoc : {A B : Type 0} (R : A → B → Type 0) (xs : List A) (ys : List B) (x : A) (y : B) → AllZip R xs ys → R x y → AllZip R (xs ++ x ∷ []) (ys ++ y ∷ [])
AllZip-snoc R [] [] x y all one = (one, tt)
AllZip-snoc R (a ∷ xs) (b ∷ ys) x y all one = (all.0, AllZip-snoc R xs ys x y all.1 one)
AllZip-snoc R [] (b ∷ ys) x y all one = absurd all
AllZip-snoc R (a ∷ xs) [] x y all one = absurd all

-- The handlers of the code up to a place and the one there.
pub step_at : (ts : List Handler) (i : ℕ) (t : Handler) → i < length ts → t ≡ slice_index_or ts i t → take (i + 1) (map view_transition ts) ≡ take i (map view_transition ts) ++ view_transition t ∷ []
step_at ts i t within there =
    let plain = map view_transition ts in
    let same : view_transition t ≡ slice_index_or plain i (view_transition t) = ap view_transition there ∙ sym (get_or-map view_transition ts i t (view_transition t) within) in
    let long = length-map ts view_transition in
    take_more plain i (view_transition t) (omega (arith, within, long)) ∙ ap (λ u. take i plain ++ u ∷ []) (sym same)

-- No handler yet.
pub none_right : (budget : ℕ) (m : ModuleView) (spec : Spec) (ts : List Handler) (verdicts : List Verdict) → verdicts ≡ [] → AreRight budget m spec (take 0 (map view_transition ts)) verdicts
none_right budget m spec ts verdicts empty = subst (λ vs. AreRight budget m spec [] vs) (sym empty) tt

-- One more handler.
pub one_more_right : (budget : ℕ) (m : ModuleView) (spec : Spec) (ts : List Handler) (i : ℕ) (t : Handler) (old new : List Verdict) (verdict : Verdict) → i < length ts → t ≡ slice_index_or ts i t
    → new ≡ old ++ verdict ∷ [] → IsRightFor budget m spec (view_transition t) verdict → AreRight budget m spec (take i (map view_transition ts)) old → AreRight budget m spec (take (i + 1) (map view_transition ts)) new
one_more_right budget m spec ts i t old new verdict within there added right so_far =
    let plain = map view_transition ts in
    subst (λ before. AreRight budget m spec before new) (sym (step_at ts i t within there))
    (subst (λ vs. AreRight budget m spec (take i plain ++ view_transition t ∷ []) vs) (sym added)
    (AllZip-snoc (IsRightFor budget m spec) (take i plain) old (view_transition t) verdict so_far right))

-- All handlers.
pub all_right : (budget : ℕ) (m : ModuleView) (spec : Spec) (ts : List Handler) (transitions : List Transition) (i : ℕ) (verdicts : List Verdict) → map view_transition ts ≡ transitions → length ts ≤ i
    → AreRight budget m spec (take i (map view_transition ts)) verdicts → AreRight budget m spec transitions verdicts
all_right budget m spec ts transitions i verdicts same past so_far =
    let long = length-map ts view_transition in
    subst (λ all. AreRight budget m spec all verdicts) (take_all i (map view_transition ts) (omega (arith, past, long)) ∙ same) so_far
