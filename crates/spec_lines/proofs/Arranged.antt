-- The least reason of a line, in the order in which it is found.
use Rattle.std.proofs.Common.{◌≡◌, Bool, true, false, not, ◌&&◌, if◌then◌else◌, Option, Some, None, refl, sym, ap, ◌∙◌}
use Rattle.std.specs.Prelude.{Result, IfOk}
use Rattle.std.specs.declared.alloc.AllocError.{AllocError}
use Rattle.std.proofs.lemmas.Result.{IfOk-weaker}
use Rattle.spec_ast.specs.declared.fault.SpecReason.{SpecReason}
use Rattle.spec_ast.specs.declared.fault.SpecReason.TheVariants.{S5, S6, S7, S8}
use Rattle.spec_ast.specs.Raw.{Item}
use Rattle.spec_scope.specs.Tests.{Findings}
use Rattle.spec_lines.specs.Behind.{Here}
use Rattle.spec_lines.specs.Faults.{Text, fault_of, fits_line, is_s5, is_s6, is_s8}
use Rattle.spec_lines.specs.Lines.{first_early, early, arranged, line_fault, found_on, late}

by_tests : (s5 s6 s8 fits : Bool) (later : Option SpecReason)
    → (if s5 then Some S5 else (if s6 then Some S6 else (if not s8 && not fits then Some S7 else (if s8 then Some S8 else later))))
    ≡ arranged (first_early s5 s6 s8) fits later
by_tests true s6 s8 fits later = refl
by_tests false true s8 fits later = refl
by_tests false false true fits later = refl
by_tests false false false true later = refl
by_tests false false false false later = refl

pub line_faults : (t : Text) (h : Here) (item : Item) → fault_of t h item ≡ line_fault t h item
line_faults t h item = by_tests (is_s5 h item) (is_s6 h item) (is_s8 h item) (fits_line h item) (late t h item (found_on h.scope item))

early_told : (t : Text) (h : Here) (item : Item) (f : Findings) (o e : Option SpecReason) → f ≡ found_on h.scope item → o ≡ early h item f → o ≡ e
    → fault_of t h item ≡ arranged e (fits_line h item) (late t h item (found_on h.scope item))
early_told t h item f o e found is told =
    line_faults t h item
    ∙ ap (λ r. arranged r (fits_line h item) (late t h item (found_on h.scope item))) (ap (early h item) (sym found) ∙ (sym is ∙ told))

pub told_early : (t : Text) (h : Here) (item : Item) (f : Findings) (o : Option SpecReason) (reason : SpecReason) → f ≡ found_on h.scope item → o ≡ early h item f
    → o ≡ Some reason → Some reason ≡ fault_of t h item
told_early t h item f o reason found is told = sym (early_told t h item f o (Some reason) found is told)

pub told_late : (t : Text) (h : Here) (item : Item) (f : Findings) (o : Option SpecReason) (r : Result (Option SpecReason) AllocError) → f ≡ found_on h.scope item
    → o ≡ early h item f → o ≡ None → IfOk r (λ q. q ≡ arranged None (fits_line h item) (late t h item f)) → IfOk r (λ q. q ≡ fault_of t h item)
told_late t h item f o r found is told done =
    IfOk-weaker r (λ q. q ≡ arranged None (fits_line h item) (late t h item f)) (λ q. q ≡ fault_of t h item)
    (λ q e. e ∙ (ap (λ g. arranged None (fits_line h item) (late t h item g)) found ∙ sym (early_told t h item f o None found is told))) done
