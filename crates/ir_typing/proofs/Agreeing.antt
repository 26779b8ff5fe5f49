-- The types of calls.
use Rattle.std.proofs.Common.{◌≡◌, ℕ, suc, ◌+◌, ◌<◌, ◌≤◌, Bool, true, false, ◌&&◌, List, [], ◌∷◌, length, map, drop, get_or, refl, sym, ◌∙◌, ap, arith, add-one, drop-cons}
use Rattle.std.proofs.lemmas.List.{length-map, drop_all}
use Rattle.ir_ast.specs.Plain.{Ty, Val}
use Rattle.ir_ast.specs.View.{view_type}
use Rattle.ir_ast.specs.ProgramView.{view_typed, view_function}
use Rattle.ir_ast.specs.declared.instr.Function.{Function}
use Rattle.ir_ast.specs.declared.types.IrType.{IrType}
use Rattle.ir_ast.specs.declared.operand.Operand.{Operand}
use Rattle.ir_type.specs.Whole.{Types, meant, is_same}
use Rattle.ir_typing.specs.Intrinsics.{number_and_bit}
use Rattle.ir_typing.specs.Fits.{are_one, meets, signature_of}

pub pair_is : (types : Types) (t : Ty) (w : ℕ) → t ≡ number_and_bit w → meant types t ≡ number_and_bit w
pair_is types t w is = ap (meant types) is

module _ (types : Types) where
  shorter : (ts us : List Ty) → (length ts ≡ length us → ⊥) → false ≡ are_one types ts us
  shorter [] [] other = absurd (other refl)
  shorter [] (u ∷ us) other = refl
  shorter (t ∷ ts) [] other = refl
  shorter (t ∷ ts) (u ∷ us) other = step (is_same (meant types t) (meant types u)) (shorter ts us (λ e. other (ap suc e)))
    where
      step : (b : Bool) → false ≡ are_one types ts us → false ≡ (b && are_one types ts us)
      step true e = e
      step false e = refl

  pub other_length : {X : Type 0} (f : X → Ty) (xs : List X) (us : List Ty) → (length xs ≡ length us → ⊥) → false ≡ are_one types (map f xs) us
  other_length f xs us other = shorter (map f xs) us (λ e. other (sym (length-map xs f) ∙ e))

  pub other_lengths : {X Y : Type 0} (f : X → Ty) (g : Y → Ty) (xs : List X) (ys : List Y) → (length xs ≡ length ys → ⊥) → false ≡ are_one types (map f xs) (map g ys)
  other_lengths f g xs ys other = other_length f xs (map g ys) (λ e. other (e ∙ length-map ys g))

  module _ {X Y : Type 0} (f : X → Ty) (g : Y → Ty) where
    opened : (xs : List X) (ys : List Y) (i : ℕ) (x : X) (y : Y) → i < length xs → length xs ≡ length ys → x ≡ get_or xs i x → y ≡ get_or ys i y
        → are_one types (map f (drop i xs)) (map g (drop i ys)) ≡ (is_same (meant types (f x)) (meant types (g y)) && are_one types (map f (drop (i + 1) xs)) (map g (drop (i + 1) ys)))
    opened xs ys i x y l count hx hy =
        let m : i < length ys = omega (arith, l, count) in
        let ex : drop i xs ≡ x ∷ drop (i + 1) xs = drop-cons xs i x l ∙ ap (λ z. z ∷ drop (suc i) xs) (sym hx) ∙ ap (λ k. x ∷ drop k xs) (sym (add-one i)) in
        let ey : drop i ys ≡ y ∷ drop (i + 1) ys = drop-cons ys i y m ∙ ap (λ z. z ∷ drop (suc i) ys) (sym hy) ∙ ap (λ k. y ∷ drop k ys) (sym (add-one i)) in
        ap (λ zs. are_one types (map f zs) (map g (drop i ys))) ex ∙ ap (λ zs. are_one types (map f (x ∷ drop (i + 1) xs)) (map g zs)) ey

    pub next_agree : (xs : List X) (ys : List Y) (i : ℕ) (x : X) (y : Y) (r all : Bool) → i < length xs → length xs ≡ length ys → x ≡ get_or xs i x → y ≡ get_or ys i y
        → r ≡ is_same (meant types (f x)) (meant types (g y)) → r ≡ true → are_one types (map f (drop i xs)) (map g (drop i ys)) ≡ all
        → are_one types (map f (drop (i + 1) xs)) (map g (drop (i + 1) ys)) ≡ all
    next_agree xs ys i x y r all l count hx hy is t left =
        sym (ap (λ b. b && are_one types (map f (drop (i + 1) xs)) (map g (drop (i + 1) ys))) (sym is ∙ t)) ∙ sym (opened xs ys i x y l count hx hy) ∙ left

    pub next_differ : (xs : List X) (ys : List Y) (i : ℕ) (x : X) (y : Y) (r all : Bool) → i < length xs → length xs ≡ length ys → x ≡ get_or xs i x → y ≡ get_or ys i y
        → r ≡ is_same (meant types (f x)) (meant types (g y)) → r ≡ false → are_one types (map f (drop i xs)) (map g (drop i ys)) ≡ all → false ≡ all
    next_differ xs ys i x y r all l count hx hy is t left =
        sym (ap (λ b. b && are_one types (map f (drop (i + 1) xs)) (map g (drop (i + 1) ys))) (sym is ∙ t)) ∙ sym (opened xs ys i x y l count hx hy) ∙ left

    pub all_agree : (xs : List X) (ys : List Y) (i : ℕ) (all : Bool) → length xs ≤ i → length xs ≡ length ys → are_one types (map f (drop i xs)) (map g (drop i ys)) ≡ all → true ≡ all
    all_agree xs ys i all l count left =
        sym (ap (λ zs. are_one types (map f zs) (map g (drop i ys))) (drop_all i xs l) ∙ ap (λ zs. are_one types (map f []) (map g zs)) (drop_all i ys (omega (arith, l, count)))) ∙ left

pub typed_types : (arguments : List (IrType × Operand)) → map (λ (a : Ty × Val). a.0) (view_typed arguments) ≡ map (λ a. view_type a.0) arguments
typed_types [] = refl
typed_types (a ∷ arguments) = ap (λ ts. view_type a.0 ∷ ts) (typed_types arguments)

pub mapped_parameters : (parameters : List (IrType × List ℕ)) → map (λ (p : Ty × List ℕ). p.0) (map (λ p. (view_type p.0, p.1)) parameters) ≡ map (λ p. view_type p.0) parameters
mapped_parameters [] = refl
mapped_parameters (p ∷ parameters) = ap (λ ts. view_type p.0 ∷ ts) (mapped_parameters parameters)

module _ (types : Types) (gives : Ty) (ts : List Ty) (f : Function) (parameters : List (IrType × List ℕ)) (are : parameters ≡ f.parameters.items.items)
    (r : Bool) (is : r ≡ is_same (meant types gives) (meant types (view_type f.result))) (true_is : r ≡ true) where
  pub body_agrees : (q : Bool) → q ≡ are_one types ts (map (λ p. view_type p.0) parameters) → q ≡ meets types gives ts (signature_of (view_function f))
  body_agrees q e =
      e ∙ ap (are_one types ts) (ap (map (λ (p : IrType × List ℕ). view_type p.0)) are ∙ sym (mapped_parameters f.parameters.items.items))
      ∙ sym (ap (λ b. b && are_one types ts (map (λ (p : Ty × List ℕ). p.0) (view_function f).parameters)) (sym is ∙ true_is))
