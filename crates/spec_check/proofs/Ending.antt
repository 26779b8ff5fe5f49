-- What the walk over all lines comes to.
use Rattle.std.proofs.Common.{◌≡◌, ℕ, Bool, true, Option, Some, None, List, length, sym, ap, ◌∙◌, subst}
use Rattle.std.proofs.lemmas.List.{length-map}
use Rattle.std.specs.Prelude.{Result, Ok, Err, IfOk}
use Rattle.ir_ast.specs.Program.{ModuleView}
use Rattle.spec_ast.specs.declared.fault.SpecStop.{SpecStop}
use Rattle.spec_ast.specs.declared.fault.SpecStop.TheVariants.{Refused, Memory}
use Rattle.spec_ast.specs.Raw.{Line}
use Rattle.spec_tree.specs.Plain.{Spec}
use Rattle.spec_tree.specs.Sorted.{IsWellSorted}
use Rattle.spec_tree.specs.View.{view_spec}
use Rattle.spec_tree.specs.declared.spec.Spec as coded
use Rattle.spec_names.specs.Kernel.{Name, Kernel}
use Rattle.spec_kernel.specs.View.{kernel_of}
use Rattle.spec_kernel.specs.Widths.{HaveWidths}
use Rattle.spec_kernel.specs.Fit.{FitsModule}
use Rattle.spec_scope.specs.Taking.{chain}
use Rattle.spec_lines.specs.Behind.{Here, fields_of, begin}
use Rattle.spec_lines.specs.Lines.{strays_in}
use Rattle.spec_lines.specs.View.{seen_head, head_of, AreHeadsOf}
use Rattle.spec_lines.specs.declared.faults.Text as coded_text
use Rattle.spec_lines.specs.declared.fore.FieldHead.{FieldHead}
use Rattle.spec_lines.specs.Faults.{Text}
use Rattle.spec_lines.specs.Whole.{Made, nothing_made, equated_from, text_of, hooks_of, AreStrays, first_fault, first_from, made_from, spec_with, spec_of}
use Rattle.spec_sound.specs.Limits.{IsWithin, copies_stand}
use Rattle.spec_check.specs.Elaboration.{IsElaborated, IsStopped, ElaboratesTo}
use Rattle.spec_check.specs.Walk.{Tells, IsMade}
use Rattle.spec_check.specs.Within.{is_within}
use Rattle.spec_check.proofs.Limiting.{within}

pub text_is : (k : Kernel) (raw : List Line) (t : Text) → t.equated ≡ equated_from (begin k raw) raw → t ≡ text_of t.strays k raw
text_is k raw t is = ap (λ e. record { strays = t.strays; equated = e }) is

-- of a text of the code, over a kernel
abbrev pub text_at : Kernel → coded_text.Text → Text
text_at k t = record { strays = strays_in k t.strays.items; equated = t.equated }

stops : (k : Kernel) (raw : List Line) (t : Text) (why : SpecStop) → AreStrays k (hooks_of raw) t.strays → t ≡ text_of t.strays k raw
    → Tells why (first_from t (begin k raw) raw) → IsStopped k raw why
stops k raw t (Refused f) are is told = record { strays = t.strays; are_strays = are; told = ap (λ u. first_from u (begin k raw) raw) (sym is) ∙ told }
stops k raw t Memory are is told = tt

pub stopped_by : (k : Kernel) (raw : List Line) (h : Here) (t : coded_text.Text) (why : SpecStop) → AreStrays k (hooks_of raw) (strays_in k t.strays.items)
    → t.equated ≡ equated_from (begin k raw) raw → h ≡ begin k raw → Tells why (first_from (text_at h.scope.kernel t) h raw) → IsStopped k raw why
stopped_by k raw h t why are is begun told =
    stops k raw (text_at k t) why are (text_is k raw (text_at k t) is) (subst (λ g. Tells why (first_from (text_at g.scope.kernel t) g raw)) begun told)

counted : (k : Kernel) (raw : List Line) (h : Here) (heads : List FieldHead) → h ≡ begin k raw → AreHeadsOf h.scope.fields heads
    → length heads ≡ length (fields_of k raw)
counted k raw h heads begun are =
    sym (length-map heads seen_head) ∙ (ap length are ∙ (length-map h.scope.fields head_of ∙ ap (λ g. length g.scope.fields) begun))

pub made_by : (k : Kernel) (raw : List Line) (h : Here) (t : coded_text.Text) (heads : List FieldHead) (made : Made) (count : ℕ)
    → AreStrays k (hooks_of raw) (strays_in k t.strays.items) → t.equated ≡ equated_from (begin k raw) raw → h ≡ begin k raw
    → AreHeadsOf h.scope.fields heads → first_from (text_at h.scope.kernel t) h raw ≡ None → made_from h nothing_made raw ≡ Some made
    → copies_stand h raw ≡ true → count ≡ length heads → IsMade k raw made count
made_by k raw h t heads made count are is begun there stands gives copies few =
    record {
      strays = strays_in k t.strays.items;
      are_strays = are;
      stand =
          ap (λ u. first_from u (begin k raw) raw) (sym (text_is k raw (text_at k t) is))
          ∙ subst (λ g. first_from (text_at g.scope.kernel t) g raw ≡ None) begun stands;
      gives = subst (λ g. made_from g nothing_made raw ≡ Some made) begun gives;
      copies = subst (λ g. copies_stand g raw ≡ true) begun copies;
      counted = few ∙ counted k raw h heads begun there;
    }

-- ---- the specification

pub elaborated_by : (k : Kernel) (raw : List Line) (made : Made) (count : ℕ) (spec : Spec) → IsMade k raw made count → spec_with k made ≡ Some spec
    → IsElaborated k raw spec
elaborated_by k raw made count spec m is =
    record { strays = m.strays; are_strays = m.are_strays; stand = m.stand; made = ap (λ o. chain o (spec_with k)) m.gives ∙ is }

pub within_by : (k : Kernel) (raw : List Line) (made : Made) (count : ℕ) (spec : Spec) → IsMade k raw made count → is_within count spec ≡ true
    → IsWithin k raw spec
within_by k raw made count spec m is = within count k raw spec is m.counted m.copies

-- ---- the laws of whole texts

abbrev pub SortedLaw : Type 0
SortedLaw =
    (m : ModuleView) (strays : Name → Bool) (raw : List Line) (spec : Spec) → HaveWidths (kernel_of m) → first_fault strays (kernel_of m) raw ≡ None
    → spec_of (kernel_of m) raw ≡ Some spec → IsWithin (kernel_of m) raw spec → IsWellSorted spec

abbrev pub FitsLaw : Type 0
FitsLaw =
    (m : ModuleView) (strays : Name → Bool) (raw : List Line) (spec : Spec) → first_fault strays (kernel_of m) raw ≡ None
    → spec_of (kernel_of m) raw ≡ Some spec → FitsModule m spec

pub over : (k j : Kernel) (raw : List Line) (r : Result coded.Spec SpecStop) → k ≡ j → ElaboratesTo k raw r → ElaboratesTo j raw r
over k j raw r e is = subst (λ q. ElaboratesTo q raw r) e is

sorted_by : (m : ModuleView) (raw : List Line) (r : Result coded.Spec SpecStop) → SortedLaw → IfOk r (λ s. HaveWidths (kernel_of m))
    → ElaboratesTo (kernel_of m) raw r → IfOk r (λ s. IsWithin (kernel_of m) raw (view_spec s)) → IfOk r (λ s. IsWellSorted (view_spec s))
sorted_by m raw (Ok s) law widths e inside = law m e.strays raw (view_spec s) widths e.stand e.made inside
sorted_by m raw (Err why) law widths e inside = tt

fits_by : (m : ModuleView) (raw : List Line) (r : Result coded.Spec SpecStop) → FitsLaw → ElaboratesTo (kernel_of m) raw r
    → IfOk r (λ s. FitsModule m (view_spec s))
fits_by m raw (Ok s) law e = law m e.strays raw (view_spec s) e.stand e.made
fits_by m raw (Err why) law e = tt

pub sorted_over : (m : ModuleView) (k : Kernel) (raw : List Line) (r : Result coded.Spec SpecStop) → SortedLaw → k ≡ kernel_of m
    → IfOk r (λ s. HaveWidths k) → ElaboratesTo k raw r → IfOk r (λ s. IsWithin k raw (view_spec s)) → IfOk r (λ s. IsWellSorted (view_spec s))
sorted_over m k raw r law is widths e inside =
    sorted_by m raw r law (subst (λ q. IfOk r (λ s. HaveWidths q)) is widths) (subst (λ q. ElaboratesTo q raw r) is e)
    (subst (λ q. IfOk r (λ s. IsWithin q raw (view_spec s))) is inside)

pub fits_over : (m : ModuleView) (k : Kernel) (raw : List Line) (r : Result coded.Spec SpecStop) → FitsLaw → k ≡ kernel_of m → ElaboratesTo k raw r
    → IfOk r (λ s. FitsModule m (view_spec s))
fits_over m k raw r law is e = fits_by m raw r law (subst (λ q. ElaboratesTo q raw r) is e)
