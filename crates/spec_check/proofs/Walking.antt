-- The walk over lines: each stands and is gone behind, or ends it.
use Rattle.std.proofs.Common.{◌≡◌, ℕ, suc, ◌<◌, ◌+◌, Bool, true, Option, Some, None, List, [], ◌∷◌, map, length, drop, drop-cons, get_or, add-one, refl, sym, ap, ◌∙◌}
use Rattle.std.specs.Prelude.{◌&&◌}
use Rattle.spec_ast.specs.declared.fault.SpecReason.{SpecReason}
use Rattle.spec_ast.specs.declared.fault.SpecStop.{SpecStop}
use Rattle.spec_ast.specs.declared.raw.RawLine.{RawLine}
use Rattle.spec_ast.specs.Raw.{Item, Line, sort_line, constant_line, hook_line, class_line, field_line, def_line, var_line, let_line, copy_line, write_line, return_line, end_line}
use Rattle.spec_ast.specs.View.{view_line, view_lines}
use Rattle.spec_scope.specs.Taking.{chain}
use Rattle.spec_lines.specs.Behind.{Here, behind}
use Rattle.spec_lines.specs.Faults.{Text, fault_of}
use Rattle.spec_lines.specs.Whole.{Made, made_behind, made_from, first_of, first_from}
use Rattle.spec_sound.specs.Limits.{copy_stands, copies_stand}
use Rattle.spec_check.specs.Walk.{End, end_of, Tells}

-- a line changes neither the kernel nor the fields
pub kernel_kept : (h : Here) (line : ℕ) (item : Item) → (behind h line item).scope.kernel ≡ h.scope.kernel
kernel_kept h line (sort_line x sort) = refl
kernel_kept h line (constant_line x n) = refl
kernel_kept h line (hook_line x) = refl
kernel_kept h line (class_line x) = refl
kernel_kept h line (field_line x keys entry) = refl
kernel_kept h line (def_line x parameters) = refl
kernel_kept h line (var_line x sort) = refl
kernel_kept h line (let_line x e) = refl
kernel_kept h line (copy_line x o) = refl
kernel_kept h line (write_line c f at e) = refl
kernel_kept h line (return_line e) = refl
kernel_kept h line (end_line e c r) = refl

pub fields_kept : (h : Here) (line : ℕ) (item : Item) → (behind h line item).scope.fields ≡ h.scope.fields
fields_kept h line (sort_line x sort) = refl
fields_kept h line (constant_line x n) = refl
fields_kept h line (hook_line x) = refl
fields_kept h line (class_line x) = refl
fields_kept h line (field_line x keys entry) = refl
fields_kept h line (def_line x parameters) = refl
fields_kept h line (var_line x sort) = refl
fields_kept h line (let_line x e) = refl
fields_kept h line (copy_line x o) = refl
fields_kept h line (write_line c f at e) = refl
fields_kept h line (return_line e) = refl
fields_kept h line (end_line e c r) = refl

joined : {f g : Option (ℕ × SpecReason)} {o p : Option Made} → f ≡ g → o ≡ p
    → ◌≡◌ {A = End} (record { fault = f; made = o }) (record { fault = g; made = p })
joined e d = cc

pub stepped : (t : Text) (h next : Here) (m made : Made) (l : Line) (rest : List Line) → None ≡ fault_of t h l.item → made_behind h m l.item ≡ Some made
    → next ≡ behind h l.line l.item → end_of t h m (l ∷ rest) ≡ end_of t next made rest
stepped t h next m made l rest stands gives is =
    joined (ap (λ o. first_of l.line o (first_from t (behind h l.line l.item) rest)) (sym stands) ∙ ap (λ g. first_from t g rest) (sym is))
    (ap (λ o. chain o (λ n. made_from (behind h l.line l.item) n rest)) gives ∙ ap (λ g. made_from g made rest) (sym is))

pub stopped : (t : Text) (h : Here) (l : Line) (rest : List Line) (reason : SpecReason) → Some reason ≡ fault_of t h l.item
    → first_from t h (l ∷ rest) ≡ Some (l.line, reason)
stopped t h l rest reason is = ap (λ o. first_of l.line o (first_from t (behind h l.line l.item) rest)) (sym is)

-- the line at a place, and those behind it
pub lines_at : (lines : List RawLine) (k : ℕ) (line : RawLine) → line ≡ get_or lines k line → k < length lines
    → view_lines (drop k lines) ≡ view_line line ∷ view_lines (drop (k + 1) lines)
lines_at lines k line e l =
    ap view_lines (drop-cons lines k line l ∙ ap (λ x. x ∷ drop (suc k) lines) (sym e) ∙ ap (λ q. line ∷ drop q lines) (sym (add-one k)))
