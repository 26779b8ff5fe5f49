-- One more verdict at the end of the list.

use Rattle.std.proofs.Common.{ℕ, ◌+◌, ◌<◌, ◌≡◌, List, [], ◌∷◌, ◌++◌, Option, None, Some, length, map, take, drop, slice_get, slice_index_or, refl, ap, sym, ◌∙◌, subst, arith}
use Rattle.std.specs.Prelude.{option_map}
use Rattle.std.specs.List.{AllZip, zip, flat_map}
use Rattle.std.proofs.lemmas.List.{take_more, take-append-drop, append_assoc, append-nil, length-map, get_or-map}
use Rattle.std.proofs.lemmas.Option.{slice_get-map, slice_get_read}
use Rattle.hk_io.specs.Shown.{shown_with, ShowsPrefix}
use Rattle.ir_ast.specs.Program.{ModuleView}
use Rattle.spec_tree.specs.Plain.{Spec, Transition}
use Rattle.spec_tree.specs.View.{view_transition}
use Rattle.spec_tree.specs.declared.spec.Transition.{Transition as Handler}
use Rattle.hk_verdict.specs.declared.verdict.Verdict.{Verdict}
use Rattle.hk_verdict.specs.Report.{verdict_text, verdicts_text}
use Rattle.hk_verify.specs.Verdicts.{Adds, AddsCut, AreRight, AreCut, IsRightFor}
use Rattle.hk_verify.proofs.Right.{AllZip-snoc, step_at}

-- What is shown with one text and then another is shown with both.
pub shown_with-append : (s : Option (List ℕ)) (a b : List ℕ) → shown_with (shown_with s a) b ≡ shown_with s (a ++ b)
shown_with-append None a b = refl
shown_with-append (Some text) a b = ap Some (append_assoc text a b)

-- What is shown with no text is as before.
pub shown_with-nothing : (s : Option (List ℕ)) → s ≡ shown_with s []
shown_with-nothing None = refl
shown_with-nothing (Some text) = ap Some (sym (append-nil text))

zip-nothing : {A B : Type 0} (xs : List A) → zip {X = B} xs [] ≡ []
zip-nothing [] = refl
zip-nothing (x ∷ xs) = refl

-- The texts of pairs, with one more pair.
texts-snoc : {A B : Type 0} (R : A → B → Type 0) (f : A × B → List ℕ) (before after : List A) (ys : List B) (x : A) (y : B) → AllZip R before ys
    → flat_map f (zip (before ++ x ∷ after) (ys ++ y ∷ [])) ≡ flat_map f (zip (before ++ x ∷ after) ys) ++ f (x, y)
texts-snoc R f [] after [] x y all = ap (λ pairs. f (x, y) ++ flat_map f pairs) (zip-nothing after) ∙ append-nil (f (x, y))
texts-snoc R f (a ∷ before) after (b ∷ ys) x y all =
    ap (λ text. f (a, b) ++ text) (texts-snoc R f before after ys x y all.1) ∙ sym (append_assoc (f (a, b)) _ _)
texts-snoc R f [] after (b ∷ ys) x y all = absurd all
texts-snoc R f (a ∷ before) after [] x y all = absurd all

-- The verdicts of the handlers so far are right, and their lines are shown.
pub record SoFar (budget : ℕ) (m : ModuleView) (spec : Spec) (before : List Transition) (verdicts : List Verdict) (shown shown' : Option (List ℕ)) : Type 0 where
  pub right : AreRight budget m spec before verdicts
  pub says : shown' ≡ shown_with shown (verdicts_text m spec verdicts)

-- One more handler.
pub goes_on : (budget : ℕ) (m : ModuleView) (spec : Spec) (before after : List Transition) (t : Transition) (old new : List Verdict) (shown now next : Option (List ℕ))
    → spec.transitions ≡ before ++ t ∷ after → SoFar budget m spec before old shown now → Adds budget m spec t old new now next
    → SoFar budget m spec (before ++ t ∷ []) new shown next
goes_on budget m spec before after t old new shown now next parts so_far adds =
    let f : Transition × Verdict → List ℕ = λ v. verdict_text m spec v.0 v.1 in
    let more : flat_map f (zip spec.transitions (old ++ adds.verdict ∷ [])) ≡ flat_map f (zip spec.transitions old) ++ f (t, adds.verdict) =
    subst (λ ts. flat_map f (zip ts (old ++ adds.verdict ∷ [])) ≡ flat_map f (zip ts old) ++ f (t, adds.verdict)) (sym parts)
    (texts-snoc (IsRightFor budget m spec) f before after old t adds.verdict so_far.right) in
    record {
      right = subst (AreRight budget m spec (before ++ t ∷ [])) (sym adds.added) (AllZip-snoc (IsRightFor budget m spec) before old t adds.verdict so_far.right adds.right);
      says = adds.says ∙ ap (λ s. shown_with s (verdict_text m spec t adds.verdict)) so_far.says ∙ shown_with-append shown _ _
          ∙ ap (shown_with shown) (sym more) ∙ ap (λ vs. shown_with shown (verdicts_text m spec vs)) (sym adds.added);
    }

-- The lines of one more handler are cut.
pub is_cut : (budget : ℕ) (m : ModuleView) (spec : Spec) (before after : List Transition) (t : Transition) (old new : List Verdict) (shown now next : Option (List ℕ))
    → spec.transitions ≡ before ++ t ∷ after → SoFar budget m spec before old shown now → AddsCut budget m spec t old new now next
    → AreCut budget m spec new shown next
is_cut budget m spec before after t old new shown now next parts so_far adds = record {
  before = before;
  failed = t;
  behind = after;
  handlers = parts;
  front = old;
  last = adds.verdict;
  parts = adds.added;
  right = so_far.right;
  right_last = adds.right;
  cut = subst (λ s. ShowsPrefix s next (verdict_text m spec t adds.verdict)) so_far.says adds.cut;
}

-- A list is what stands before a place, what stands there, and what stands behind.
parts_at : {A : Type 0} (xs : List A) (i : ℕ) (d : A) → i < length xs → xs ≡ take i xs ++ slice_index_or xs i d ∷ drop (i + 1) xs
parts_at xs i d within =
    sym (take-append-drop (i + 1) xs) ∙ ap (λ front. front ++ drop (i + 1) xs) (take_more xs i d within) ∙ append_assoc (take i xs) _ _

-- A handler of the code is the specification's at its place.
pub there_at : (ts : List Handler) (i : ℕ) (t : Handler) → i < length ts → t ≡ slice_index_or ts i t → slice_get (map view_transition ts) i ≡ Some (view_transition t)
there_at ts i t within there = slice_get-map view_transition ts i ∙ ap (option_map view_transition) (slice_get_read ts (length ts) i t refl within there)

-- The list at a place, over the handlers of the code.
split_at : (ts : List Handler) (i : ℕ) (t : Handler) → i < length ts → t ≡ slice_index_or ts i t
    → map view_transition ts ≡ take i (map view_transition ts) ++ view_transition t ∷ drop (i + 1) (map view_transition ts)
split_at ts i t within there =
    let plain = map view_transition ts in
    let same : view_transition t ≡ slice_index_or plain i (view_transition t) = ap view_transition there ∙ sym (get_or-map view_transition ts i t (view_transition t) within) in
    let long = length-map ts view_transition in
    parts_at plain i (view_transition t) (omega (arith, within, long)) ∙ ap (λ u. take i plain ++ u ∷ drop (i + 1) plain) (sym same)

-- One more handler, by its place in the list.
pub goes_on_at : (budget : ℕ) (m : ModuleView) (spec : Spec) (ts : List Handler) (i : ℕ) (t : Handler) (old new : List Verdict) (shown now next : Option (List ℕ))
    → map view_transition ts ≡ spec.transitions → i < length ts → t ≡ slice_index_or ts i t → SoFar budget m spec (take i (map view_transition ts)) old shown now
    → Adds budget m spec (view_transition t) old new now next → SoFar budget m spec (take (i + 1) (map view_transition ts)) new shown next
goes_on_at budget m spec ts i t old new shown now next same within there so_far adds =
    let plain = map view_transition ts in
    subst (λ before. SoFar budget m spec before new shown next) (sym (step_at ts i t within there))
    (goes_on budget m spec (take i plain) (drop (i + 1) plain) (view_transition t) old new shown now next (sym same ∙ split_at ts i t within there) so_far adds)

pub is_cut_at : (budget : ℕ) (m : ModuleView) (spec : Spec) (ts : List Handler) (i : ℕ) (t : Handler) (old new : List Verdict) (shown now next : Option (List ℕ))
    → map view_transition ts ≡ spec.transitions → i < length ts → t ≡ slice_index_or ts i t → SoFar budget m spec (take i (map view_transition ts)) old shown now
    → AddsCut budget m spec (view_transition t) old new now next → AreCut budget m spec new shown next
is_cut_at budget m spec ts i t old new shown now next same within there so_far adds =
    let plain = map view_transition ts in
    is_cut budget m spec (take i plain) (drop (i + 1) plain) (view_transition t) old new shown now next (sym same ∙ split_at ts i t within there) so_far adds

-- No handler yet.
pub none_yet : (budget : ℕ) (m : ModuleView) (spec : Spec) (verdicts : List Verdict) (shown : Option (List ℕ)) → verdicts ≡ [] → SoFar budget m spec [] verdicts shown shown
none_yet budget m spec verdicts shown empty =
    let at_none : SoFar budget m spec [] [] shown shown = record { right = tt; says = shown_with-nothing shown ∙ ap (shown_with shown) (sym (ap (flat_map (λ v. verdict_text m spec v.0 v.1)) (zip-nothing spec.transitions))) } in
    subst (λ vs. SoFar budget m spec [] vs shown shown) (sym empty) at_none
