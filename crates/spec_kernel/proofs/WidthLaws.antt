-- Tests of widths tell what they should.
use Rattle.std.proofs.Common.{◌≡◌, ℕ, Bool, true, false, ◌&&◌, List, Option, Some, None, map, refl, sym, ◌∙◌, subst, arith}
use Rattle.std.specs.Prelude.{◌↔◌, IsTrue}
use Rattle.std.specs.List.{All, list_all}
use Rattle.std.proofs.lemmas.List.Sums.{AllPass-from_list_all, list_all-from_AllPass}
use Rattle.std.proofs.lemmas.List.Folds.{list_all-map}
use Rattle.std.proofs.lemmas.List.Elements.{All-weaker}
use Rattle.spec_tree.specs.Sorted.{IsWidth}
use Rattle.spec_names.specs.Kernel.{ValueType, number, address, Function}
use Rattle.ir_measure.specs.declared.shapes.Shapes.{Shapes}
use Rattle.spec_kernel.specs.declared.rows.GlobalRow.{GlobalRow}
use Rattle.spec_kernel.specs.declared.rows.FunctionRow.{FunctionRow}
use Rattle.spec_kernel.specs.Seen.{Seen, see_function, function_in, seen_of, kernel_in}
use Rattle.spec_kernel.specs.Widths.{IsValueWidth, IsResultWidth, HasWidths, HaveWidths, is_width, is_value_width, is_result_width, has_widths}

left_true : (a b : Bool) → (a && b) ≡ true → (a ≡ true) × (b ≡ true)
left_true true b e = (refl, e)
left_true false b e = cc

both_true : (a b : Bool) → a ≡ true → b ≡ true → (a && b) ≡ true
both_true true b e f = f
both_true false b e f = cc

width_true : (w : ℕ) → is_width w ≡ true → IsWidth w
width_true w e = grind arith

true_width : (w : ℕ) → IsWidth w → is_width w ≡ true
true_width w h = grind arith

value_true : (t : ValueType) → is_value_width t ≡ true → IsValueWidth t
value_true (number w) e = width_true w e
value_true address e = tt

true_value : (t : ValueType) → IsValueWidth t → is_value_width t ≡ true
true_value (number w) h = true_width w h
true_value address h = refl

result_true : (r : Option ValueType) → is_result_width r ≡ true → IsResultWidth r
result_true None e = tt
result_true (Some t) e = value_true t e

true_result : (r : Option ValueType) → IsResultWidth r → is_result_width r ≡ true
true_result None h = refl
true_result (Some t) h = true_value t h

widths_true : (f : Function) → has_widths f ≡ true → HasWidths f
widths_true f e =
    let b = left_true (list_all is_value_width f.parameters) (is_result_width f.result) e in
    (All-weaker (λ t. is_value_width t ≡ true) IsValueWidth value_true f.parameters (AllPass-from_list_all is_value_width f.parameters b.0), result_true f.result b.1)

true_widths : (f : Function) → HasWidths f → has_widths f ≡ true
true_widths f h =
    both_true (list_all is_value_width f.parameters) (is_result_width f.result)
    (list_all-from_AllPass is_value_width f.parameters (All-weaker IsValueWidth (λ t. is_value_width t ≡ true) true_value f.parameters h.0)) (true_result f.result h.1)

all_widths : (fs : List Function) → IsTrue (list_all has_widths fs) ↔ All HasWidths fs
all_widths fs = (
  λ e. All-weaker (λ f. has_widths f ≡ true) HasWidths widths_true fs (AllPass-from_list_all has_widths fs e),
  λ h. list_all-from_AllPass has_widths fs (All-weaker HasWidths (λ f. has_widths f ≡ true) true_widths fs h),
)

pub widths_told : (s : Shapes) (globals : List GlobalRow) (rows : List FunctionRow) (now : Seen) (b : Bool) → b ≡ list_all (λ r. has_widths (function_in (see_function r))) rows → seen_of s globals rows ≡ now
    → IsTrue b ↔ HaveWidths (kernel_in now)
widths_told s globals rows now b is same =
    subst (λ (k : Seen). IsTrue b ↔ HaveWidths (kernel_in k)) same
    (subst (λ c. IsTrue c ↔ All HasWidths (map function_in (map see_function rows)))
    (sym (is ∙ sym (list_all-map (λ f. has_widths (function_in f)) see_function rows) ∙ sym (list_all-map has_widths function_in (map see_function rows))))
    (all_widths (map function_in (map see_function rows))))
