-- What is said of rejections.
use Rattle.std.proofs.Common.{ℕ, ◌≡◌, ◌+◌, ◌<◌, ◌≤◌, Bool, true, false, not, Option, None, Some, List, [], ◌∷◌, ◌++◌, length, take, slice_index_or, refl, ap, sym, ◌∙◌, subst, Result, Ok, Err}
use Rattle.std.specs.Prelude.{◌↔◌, ◌||◌, IsTrue, if◌then◌else◌, IfOk, IfErr, OnOk, OnErr}
use Rattle.std.specs.List.{list_any, zip}
use Rattle.hk_io.specs.Faults.{Rose}
use Rattle.hk_io.specs.Shown.{shown_with, ShowsPrefix}
use Rattle.ir_ast.specs.Program.{ModuleView}
use Rattle.spec_tree.specs.Plain.{Spec, Transition}
use Rattle.hk_case.specs.declared.Obligation.{Obligation}
use Rattle.hk_case.specs.declared.Case.{Case}
use Rattle.hk_case.specs.Violation.{Violates}
use Rattle.hk_cert_text.specs.declared.entry.Entry.{Entry}
use Rattle.hk_cert_text.specs.declared.entry.Entry.TheVariants.{Reject}
use Rattle.hk_claims.specs.declared.stop.ClaimStop.{ClaimStop}
use Rattle.hk_claims.specs.declared.stop.ClaimStop.TheVariants as stop
use Rattle.hk_claims.specs.Lines.{confirmed_line, unconfirmed_line}
use Rattle.hk_claims.specs.Turns.{Claim, AreTold}
use Rattle.hk_claims.specs.Replays.{AreReplayed, IsMarked, IsSaid, IsSaidCut, Stops, StopsOne, is_unconfirmed, mark_line}
use Rattle.hk_claims.proofs.Turns.{none_told, told_next, all_told, ends_at}

pub on_ok : {A E : Type 0} {P : Type 0} (r : Result A E) (a : A) → r ≡ Ok a → OnOk r P → P
on_ok {A} {E} {P} r a is h = subst (λ (x : Result A E). OnOk x P) is h

pub on_err : {A E : Type 0} {P : Type 0} (r : Result A E) (e : E) → r ≡ Err e → OnErr r P → P
on_err {A} {E} {P} r e is h = subst (λ (x : Result A E). OnErr x P) is h

pub if_ok : {A E : Type 0} (P : A → Type 0) (r : Result A E) (a : A) → r ≡ Ok a → IfOk r P → P a
if_ok {A} {E} P r a is h = subst (λ (x : Result A E). IfOk x P) is h

pub if_err : {A E : Type 0} (P : E → Type 0) (r : Result A E) (e : E) → r ≡ Err e → IfErr r P → P e
if_err {A} {E} P r e is h = subst (λ (x : Result A E). IfErr x P) is h

flipped : (b : Bool) → not b ≡ is_unconfirmed (Some b)
flipped true = refl
flipped false = refl

pub said : (m : ModuleView) (s : Spec) (t : Transition) (o : Obligation) (case : Case) (violates : Bool) (shown next : Option (List ℕ)) → (IsTrue violates ↔ Violates m s t o case)
    → next ≡ shown_with shown (if violates then confirmed_line s t o else unconfirmed_line s t o) → IsSaid m s (t, Reject o case) (not violates) shown next
said m s t o case violates shown next iff says = record { mark = Some violates; is_marked = iff; unconfirmed_is = flipped violates; says = says }

pub said_cut : (m : ModuleView) (s : Spec) (t : Transition) (o : Obligation) (case : Case) (violates : Bool) (shown next : Option (List ℕ)) → (IsTrue violates ↔ Violates m s t o case)
    → ShowsPrefix shown next (if violates then confirmed_line s t o else unconfirmed_line s t o) → IsSaidCut m s (t, Reject o case) shown next
said_cut m s t o case violates shown next iff cut = record { mark = Some violates; is_marked = iff; cut = cut }

-- ---- turns

-- the rejections so far have their lines
pub record SoFar (m : ModuleView) (s : Spec) (claims : List Claim) (unconfirmed : Bool) (shown now : Option (List ℕ)) : Type 0 where
  pub marks : List (Option Bool)
  pub told : AreTold (IsMarked m s) (mark_line s) claims marks shown now
  pub unconfirmed_is : unconfirmed ≡ list_any is_unconfirmed marks

any-snoc : (marks : List (Option Bool)) (mark : Option Bool) → list_any is_unconfirmed (marks ++ mark ∷ []) ≡ (list_any is_unconfirmed marks || is_unconfirmed mark)
any-snoc [] mark = or_false (is_unconfirmed mark)
  where
    or_false : (b : Bool) → (b || false) ≡ b
    or_false true = refl
    or_false false = refl
any-snoc (x ∷ marks) mark = by (is_unconfirmed x) (any-snoc marks mark)
  where
    by : (b : Bool) → list_any is_unconfirmed (marks ++ mark ∷ []) ≡ (list_any is_unconfirmed marks || is_unconfirmed mark)
        → (b || list_any is_unconfirmed (marks ++ mark ∷ [])) ≡ ((b || list_any is_unconfirmed marks) || is_unconfirmed mark)
    by true h = refl
    by false h = h

module _ (m : ModuleView) (s : Spec) where
  pub none_yet : (shown : Option (List ℕ)) → SoFar m s [] false shown shown
  none_yet shown = record { marks = []; told = none_told (IsMarked m s) (mark_line s) shown; unconfirmed_is = refl }

  pub one_more : (xs : List Claim) (i : ℕ) (x : Claim) (old here new : Bool) (shown now next : Option (List ℕ)) → i < length xs → x ≡ slice_index_or xs i x → SoFar m s (take i xs) old shown now → IsSaid m s x here now next
      → new ≡ (old || here) → SoFar m s (take (i + 1) xs) new shown next
  one_more xs i x old here new shown now next low is h one sum = record {
    marks = h.marks ++ one.mark ∷ [];
    told = told_next (IsMarked m s) (mark_line s) xs i h.marks x one.mark shown now next low is h.told one.is_marked one.says;
    unconfirmed_is = sum ∙ ap (λ b. b || here) h.unconfirmed_is ∙ ap (λ b. list_any is_unconfirmed h.marks || b) one.unconfirmed_is ∙ sym (any-snoc h.marks one.mark);
  }

  pub whole : (entries : List Entry) (i : ℕ) (unconfirmed : Bool) (shown now : Option (List ℕ)) → length (zip s.transitions entries) ≤ i → SoFar m s (take i (zip s.transitions entries)) unconfirmed shown now
      → AreReplayed m s entries unconfirmed shown now
  whole entries i unconfirmed shown now past h =
      record { marks = h.marks; told = all_told (IsMarked m s) (mark_line s) (zip s.transitions entries) i h.marks shown now past h.told; unconfirmed_is = h.unconfirmed_is }

  pub stopped : (entries : List Entry) (i : ℕ) (x : Claim) (unconfirmed : Bool) (shown now next : Option (List ℕ)) (before faults faults' : ℕ) (why : ClaimStop) → i < length (zip s.transitions entries)
      → x ≡ slice_index_or (zip s.transitions entries) i x → SoFar m s (take i (zip s.transitions entries)) unconfirmed shown now → faults ≡ before → StopsOne m s x now next faults faults' why → Stops m s entries shown next before faults' why
  stopped entries i x unconfirmed shown now next before faults faults' stop.Write low is h still one = record {
    at = x;
    shown_before = now;
    ended = record { marks = h.marks; ends = ends_at (IsMarked m s) (mark_line s) (zip s.transitions entries) i h.marks x shown now low is h.told };
    mark = one.0.mark;
    is_marked = one.0.is_marked;
    cut = one.0.cut;
    failed = subst (λ n. Rose n faults') still one.1;
  }
  stopped entries i x unconfirmed shown now next before faults faults' stop.Memory low is h still one = (
    record {
      at = x;
      ended = record {
        marks = h.marks;
        ends = ends_at (IsMarked m s) (mark_line s) (zip s.transitions entries) i h.marks x shown next low is (subst (λ n. AreTold (IsMarked m s) (mark_line s) (take i (zip s.transitions entries)) h.marks shown n) (sym one.0) h.told);
      };
    },
    one.1 ∙ still,
  )
  stopped entries i x unconfirmed shown now next before faults faults' (stop.NoSuch line) low is h still one = absurd one
