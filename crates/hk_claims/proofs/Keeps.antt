-- What is kept of one acceptance.
use Rattle.std.proofs.Common.{ℕ, zero, suc, ◌≡◌, ◌+◌, ◌<◌, ◌≤◌, ◌^◌, Option, None, Some, List, [], ◌∷◌, ◌++◌, length, map, slice_index_or, refl, ap, sym, ◌∙◌, subst, arith}
use Rattle.std.specs.Prelude.{slice_get}
use Rattle.std.proofs.lemmas.Option.{slice_get-get_or, slice_get_within}
use Rattle.hk_io.specs.Shown.{shown_with, ShowsPrefix}
use Rattle.ir_ast.specs.Program.{ModuleView}
use Rattle.ir_layout.specs.declared.object.Object.{Object}
use Rattle.ir_layout.specs.Layouts.{LayoutView, IsLayoutOf}
use Rattle.spec_tree.specs.Plain.{Spec, Transition}
use Rattle.hk_case.specs.declared.Obligation.{Obligation}
use Rattle.hk_cnf.specs.Clauses.{Clauses}
use Rattle.hk_lrat.specs.Log.{log_fault}
use Rattle.hk_lrat.specs.declared.log.LratRow.{LratRow}
use Rattle.hk_lrat.specs.declared.log.RowReason.{RowReason}
use Rattle.hk_inst.specs.declared.instance.Instance.{Instance}
use Rattle.hk_proof.specs.declared.Proof.{Proof}
use Rattle.hk_proof.specs.declared.Proof.TheVariants.{Refuted, AllCases}
use Rattle.hk_verdict.specs.declared.verdict.Verdict.{Verdict}
use Rattle.hk_verdict.specs.declared.verdict.Verdict.TheVariants.{Unknown}
use Rattle.hk_cert_text.specs.declared.entry.Entry.TheVariants.{Accept}
use Rattle.hk_check.specs.declared.answers.Checked.{Checked}
use Rattle.hk_check.specs.declared.answers.Checked.TheVariants as checked
use Rattle.hk_check.specs.Told.{IsFirst, IsRefusal, IsRefused, IsNoSuchOf, IsTold}
use Rattle.hk_claims.specs.declared.checking.Kept.{Kept}
use Rattle.hk_claims.specs.Checks.{Adds, AddsCut, IsFound, IsKept, NamesNothing, verdict_line}
use Rattle.hk_claims.specs.Fitting.{line_of_instance}
use Rattle.hk_claims.specs.Keeping.{IsKeptOf}

-- there is a handler at each place below their number
pub there_is : {X Y : Type 0} (f : X → Y) (xs : List X) (k : ℕ) → k < length xs → (y : Y) × (slice_get (map f xs) k ≡ Some y)
there_is f [] k low = absurd (omega (arith, low))
there_is f (x ∷ xs) zero low = (f x, refl)
there_is f (x ∷ xs) (suc k) low = there_is f xs k (omega (arith, low))

abbrev or_else : {X : Type 0} → X → Option X → X
or_else x (Some y) = y
or_else x None = x

same_some : {X : Type 0} (x y : X) → Some x ≡ Some y → x ≡ y
same_some x y e = ap (or_else x) e

-- the proof that is read at a place is the one that is there
read_at : (proofs slice : List Proof) (place : ℕ) (p x : Proof) → slice_get proofs place ≡ Some p → slice ≡ proofs → x ≡ slice_index_or slice place x → p ≡ x
read_at proofs slice place p x given same is =
    same_some p x (sym given ∙ slice_get-get_or proofs place x (slice_get_within proofs place p given) ∙ ap Some (sym (subst (λ (ps : List Proof). x ≡ slice_index_or ps place x) same is)))

module _ (m : ModuleView) (objects : List Object) (s : Spec) (t : Transition) (proofs : List Proof) where
  pub refused_of : (c : Checked) (place : ℕ) (o : Obligation) (list : Clauses) (row : ℕ) (reason : RowReason) → c ≡ checked.Refused place o list row reason → IsTold m objects s t proofs c → IsRefused m objects s t proofs place o list row reason
  refused_of c place o list row reason is told = subst (IsTold m objects s t proofs) is told

  pub no_such_of : (c : Checked) (place instance : ℕ) → c ≡ checked.NoSuch place instance → IsTold m objects s t proofs c → IsNoSuchOf m objects s t proofs place instance
  no_such_of c place instance is told = subst (IsTold m objects s t proofs) is told

  pub refused_low : (slice : List Proof) (place : ℕ) (o : Obligation) (list : Clauses) (row : ℕ) (reason : RowReason) → slice ≡ proofs → IsRefused m objects s t proofs place o list row reason → place < length slice
  refused_low slice place o list row reason same h = subst (λ (ps : List Proof). place < length ps) (sym same) (slice_get_within proofs place h.proof h.first.given)

  pub no_such_low : (slice : List Proof) (place instance : ℕ) → slice ≡ proofs → IsNoSuchOf m objects s t proofs place instance → place ≤ length slice
  no_such_low slice place instance same h =
      let low = slice_get_within proofs place h.proof h.first.given in
      omega (arith, low, ap length same)

  pub no_cases : (slice : List Proof) (place : ℕ) (x : Proof) (o : Obligation) (list : Clauses) (row : ℕ) (reason : RowReason) → slice ≡ proofs → x ≡ slice_index_or slice place x → x ≡ AllCases
      → IsRefused m objects s t proofs place o list row reason → ⊥
  no_cases slice place x o list row reason same is cases h =
      subst (λ p. IsRefusal m objects s t o p list row reason) (read_at proofs slice place h.proof x h.first.given same is ∙ cases) h.refusal

  refutation_of : (slice : List Proof) (place : ℕ) (x : Proof) (o : Obligation) (instances : List Instance) (log : List LratRow) (list : Clauses) (row : ℕ) (reason : RowReason) → slice ≡ proofs
      → x ≡ slice_index_or slice place x → x ≡ Refuted instances log → (h : IsRefused m objects s t proofs place o list row reason) → h.proof ≡ Refuted instances log
  refutation_of slice place x o instances log list row reason same is refuted h = read_at proofs slice place h.proof x h.first.given same is ∙ refuted

  pub kept_at : (slice : List Proof) (place : ℕ) (x : Proof) (o : Obligation) (instances : List Instance) (log : List LratRow) (list : Clauses) (row : ℕ) (reason : RowReason) → slice ≡ proofs
      → x ≡ slice_index_or slice place x → x ≡ Refuted instances log → IsRefused m objects s t proofs place o list row reason → IsKept m objects s t proofs o instances list log
  kept_at slice place x o instances log list row reason same is refuted h =
      let p = refutation_of slice place x o instances log list row reason same is refuted h in
      let failing : IsRefusal m objects s t o (Refuted instances log) list row reason = subst (λ q. IsRefusal m objects s t o q list row reason) p h.refusal in
      record { place = place; first = subst (IsFirst m objects s t proofs place o) p h.first; exact = failing.exact; row = row; reason = reason; fault = failing.fault }

  pub says_at : (slice : List Proof) (place : ℕ) (x : Proof) (o : Obligation) (instances : List Instance) (log : List LratRow) (list : Clauses) (row : ℕ) (reason : RowReason) → slice ≡ proofs
      → x ≡ slice_index_or slice place x → x ≡ Refuted instances log → IsRefused m objects s t proofs place o list row reason → log_fault list log ≡ Some (row, reason)
  says_at slice place x o instances log list row reason same is refuted h =
      let p = refutation_of slice place x o instances log list row reason same is refuted h in
      let failing : IsRefusal m objects s t o (Refuted instances log) list row reason = subst (λ q. IsRefusal m objects s t o q list row reason) p h.refusal in
      failing.fault

pub kept_refused : (m : ModuleView) (s : Spec) (t : Transition) (proofs slice : List Proof) (place : ℕ) (x : Proof) (o : Obligation) (instances : List Instance) (log : List LratRow) (list : Clauses) (row : ℕ) (reason : RowReason)
    (kept : Kept) (l : LayoutView) → IsLayoutOf m l → slice ≡ proofs → x ≡ slice_index_or slice place x → x ≡ Refuted instances log
    → ((k : LayoutView) → IsLayoutOf m k → IsRefused m k.objects s t proofs place o list row reason) → kept ≡ record { verdict = Unknown o instances list log; row = row; reason = reason } → IsKeptOf m s t proofs kept
kept_refused m s t proofs slice place x o instances log list row reason kept l laid same is refuted h is_kept =
    subst (IsKeptOf m s t proofs) (sym is_kept) (record {
      is_verdict = λ k of. kept_at m k.objects s t proofs slice place x o instances log list row reason same is refuted (h k of);
      says = says_at m l.objects s t proofs slice place x o instances log list row reason same is refuted (h l laid);
    })

pub names_nothing : (m : ModuleView) (s : Spec) (t : Transition) (proofs slice : List Proof) (at place instance line : ℕ) → slice ≡ proofs → ((k : LayoutView) → IsLayoutOf m k → IsNoSuchOf m k.objects s t proofs place instance)
    → (line_of_instance at slice place instance < 2 ^ 32 → line ≡ line_of_instance at slice place instance) → NamesNothing m s (t, Accept at proofs) line
names_nothing m s t proofs slice at place instance line same h is = record {
  at = at;
  proofs = proofs;
  entry_is = refl;
  place = place;
  instance = instance;
  nothing = h;
  line_is = subst (λ ps. line_of_instance at ps place instance < 2 ^ 32 → line ≡ line_of_instance at ps place instance) same is;
}

-- ---- what is added

pub found_is : (m : ModuleView) (s : Spec) (t : Transition) (at : ℕ) (proofs : List Proof) (kept : Kept) → IsKeptOf m s t proofs kept → IsFound m s (t, Accept at proofs) (Some kept.verdict)
found_is m s t at proofs kept h = λ l laid. h.is_verdict l laid

pub adds : (m : ModuleView) (s : Spec) (t : Transition) (at : ℕ) (proofs : List Proof) (kept : Kept) (old new : List Verdict) (shown next : Option (List ℕ)) → IsKeptOf m s t proofs kept → new ≡ old ++ kept.verdict ∷ []
    → next ≡ shown_with shown (verdict_line s t kept.verdict) → Adds m s (t, Accept at proofs) old new shown next
adds m s t at proofs kept old new shown next h added says = record { found = Some kept.verdict; is_found = found_is m s t at proofs kept h; added = added; says = says }

pub adds_cut : (m : ModuleView) (s : Spec) (t : Transition) (at : ℕ) (proofs : List Proof) (kept : Kept) (old new : List Verdict) (shown next : Option (List ℕ)) → IsKeptOf m s t proofs kept → new ≡ old ++ kept.verdict ∷ []
    → ShowsPrefix shown next (verdict_line s t kept.verdict) → AddsCut m s (t, Accept at proofs) old new shown next
adds_cut m s t at proofs kept old new shown next h added cut = record { found = Some kept.verdict; is_found = found_is m s t at proofs kept h; added = added; cut = cut }
