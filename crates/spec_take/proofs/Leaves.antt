-- Steps to an integer, one at a time.
use Rattle.std.proofs.Common.{◌≡◌, ℕ, suc, ◌≤◌, ◌<◌, ◌+◌, ◌/◌, List, ◌∷◌, length, drop, get_or, drop-cons, add-one, Bool, true, false, Option, Some, None, refl, sym, ◌∙◌, ap, subst, arith}
use Rattle.std.specs.Prelude.{IfSome, option_and_then, if◌then◌else◌, nat_eq}
use Rattle.ir_type.specs.Whole.{is_memory_width}
use Rattle.ir_whole.specs.Questions.{width_of}
use Rattle.ir_measure.specs.Shaped.{type_in}
use Rattle.spec_ast.specs.Raw.{Step, element, member, Steps, step_and}
use Rattle.spec_ast.specs.View.{view_step, view_steps}
use Rattle.spec_ast.specs.declared.raw.RawStep.{RawStep}
use Rattle.spec_names.specs.Kernel.{Shape, Elements, Part, elements_of, part_of, bytes_of}
use Rattle.spec_kernel.specs.Seen.{Seen, shape_in}
use Rattle.spec_kernel.specs.Steps.{bytes_at}
use Rattle.spec_kernel.proofs.ShapeLaws.{bytes_shape}
use Rattle.spec_scope.specs.Scope.{leaf_at}
use Rattle.spec_take.specs.Told.{shape_behind}

by_elements : (steps : Steps) (o : Option Elements) → option_and_then (λ r. leaf_at steps r.shape) o ≡ option_and_then (leaf_at steps) (Rattle.std.specs.Prelude.option_map (λ r. r.shape) o)
by_elements steps None = refl
by_elements steps (Some r) = refl

by_part : (steps : Steps) (o : Option Part) → option_and_then (λ r. leaf_at steps r.shape) o ≡ option_and_then (leaf_at steps) (Rattle.std.specs.Prelude.option_map (λ r. r.shape) o)
by_part steps None = refl
by_part steps (Some r) = refl

pub leaf_on : (step : Step) (steps : Steps) (shape : Shape) → leaf_at (step_and step steps) shape ≡ option_and_then (leaf_at steps) (shape_behind step shape)
leaf_on (element e) steps shape = by_elements steps (elements_of shape)
leaf_on (member k) steps shape = by_part steps (part_of k shape)

few : (w : ℕ) (b : Bool) → is_memory_width w ≡ b → IfSome (if b then Some (w / 8) else None) (λ n. n ≤ 8)
few w true is = small w is
  where
    small : (w : ℕ) → is_memory_width w ≡ true → w / 8 ≤ 8
    small w is = grind (arith, is)
few w false is = tt

few_at : (w : Option ℕ) → IfSome (option_and_then bytes_at w) (λ n. n ≤ 8)
few_at None = tt
few_at (Some w) = few w (is_memory_width w) refl

pub few_bytes : (k : Seen) (n : ℕ) (r : Option ℕ) → r ≡ bytes_of (shape_in k n) → IfSome r (λ n. n ≤ 8)
few_bytes k n r is = subst (λ o. IfSome o (λ n. n ≤ 8)) (sym (is ∙ bytes_shape (type_in k.shapes n))) (few_at (width_of (type_in k.shapes n)))

-- ---- a loop over steps

pub part_at : {X : Type 0} (items : List X) (k : ℕ) (part : X) → part ≡ get_or items k part → k < length items → drop k items ≡ part ∷ drop (k + 1) items
part_at items k part e l = drop-cons items k part l ∙ ap (λ x. x ∷ drop (suc k) items) (sym e) ∙ ap (λ q. part ∷ drop q items) (sym (add-one k))

pub leaf_next : (k : Seen) (items : List RawStep) (i : ℕ) (step : RawStep) (at next : ℕ) → step ≡ get_or items i step → i < length items
    → Some (shape_in k next) ≡ shape_behind (view_step step) (shape_in k at)
    → leaf_at (view_steps (drop (i + 1) items)) (shape_in k next) ≡ leaf_at (view_steps (drop i items)) (shape_in k at)
leaf_next k items i step at next is low leads =
    ap (option_and_then (leaf_at (view_steps (drop (i + 1) items)))) leads ∙ sym (leaf_on (view_step step) (view_steps (drop (i + 1) items)) (shape_in k at))
    ∙ sym (ap (λ l. leaf_at (view_steps l) (shape_in k at)) (part_at items i step is low))
