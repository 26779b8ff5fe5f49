-- In a checked module each initialiser fits its type as layout asks.
use Rattle.std.proofs.Common.{◌≡◌, ◌⊎◌, inl, inr, ℕ, zero, suc, ◌^◌, ◌-◌, Bool, true, false, ◌&&◌, not, ◌==◌, nat_lt, List, [], ◌∷◌, ◌++◌, refl, sym, ◌∙◌, ap, ap₂, append_assoc, arith}
use Rattle.std.specs.Prelude.{Result, Ok, Err, IfOk, ℤ, pos, negsuc, neg_ℤ, int_lt, int_le, leb}
use Rattle.std.specs.List.{list_all}
use Rattle.std.proofs.lemmas.Bool.{cases_Bool, le-leb, leb-true, leb-false, lt-ltb, le-ltb}
use Rattle.ir_ast.specs.Plain.{Ty, Tys, nothing, integer, pointer, array, structure, packed, named, opaque, no_types, type_and, Ini, Inis, zero_init, number_init, truth_init, bytes_init, array_init, structure_init, packed_init, pointer_init, no_inits, init_and}
use Rattle.ir_ast.specs.Program.{GlobalView, ModuleView}
use Rattle.ir_type.specs.Items.{global_item, K9}
use Rattle.ir_type.specs.Whole.{Types, meant, is_same}
use Rattle.ir_typing.specs.Fits as typing
use Rattle.ir_layout.specs.InitFits as layout
use Rattle.ir_check.specs.Checked.{IsChecked}

low : (m n : ℕ) → int_le (neg_ℤ (pos m)) (pos n) ≡ true
low zero n = le-leb 0 n (omega arith)
low (suc m) n = refl

high : (m n : ℕ) → int_le (neg_ℤ (pos m)) (negsuc n) ≡ nat_lt n m
high zero n = sym (le-ltb n 0 (omega arith))
high (suc m) n = by (cases_Bool (leb n m))
  where
    by : (leb n m ≡ true) ⊎ (leb n m ≡ false) → leb n m ≡ nat_lt n (suc m)
    by (inl t) = let l = leb-true n m t in t ∙ sym (lt-ltb n (suc m) (omega (arith, l)))
    by (inr f) = let l = leb-false n m f in f ∙ sym (le-ltb n (suc m) (omega (arith, l)))

and_true : (b : Bool) → (b && true) ≡ b
and_true true = refl
and_true false = refl

same_width : (w : ℕ) (n : ℤ) → typing.fits_width w n ≡ layout.fits_width w n
same_width w (pos n) = sym (ap (λ b. b && int_lt (pos n) (pos (2 ^ w))) (low (2 ^ (w - 1)) n))
same_width w (negsuc n) = sym (ap (λ b. b && true) (high (2 ^ (w - 1)) n) ∙ and_true (nat_lt n (2 ^ (w - 1))))

same_number : (t : Ty) (n : ℤ) → typing.fits_number t n ≡ layout.fits_number t n
same_number (integer w) n = same_width w n
same_number nothing n = refl
same_number pointer n = refl
same_number (array k t) n = refl
same_number (structure ts) n = refl
same_number (packed ts) n = refl
same_number (named x) n = refl
same_number opaque n = refl

mutual
  same_init : (types : Types) (t : Ty) (i : Ini) → typing.init_fits types t i ≡ layout.init_fits types t i
  same_init types t zero_init = refl
  same_init types t (number_init n) = same_number t n
  same_init types t (truth_init b) = refl
  same_init types t pointer_init = refl
  same_init types (array n t) (bytes_init bs) = refl
  same_init types (array n t) (array_init is) = same_elements types n t is
  same_init types (structure ts) (structure_init is) = same_fields types ts is
  same_init types (packed ts) (packed_init is) = same_fields types ts is
  same_init types _ (bytes_init bs) = refl
  same_init types _ (array_init is) = refl
  same_init types _ (structure_init is) = refl
  same_init types _ (packed_init is) = refl

  same_elements : (types : Types) (n : ℕ) (t : Ty) (is : Inis) → typing.elements_fit types n t is ≡ layout.elements_fit types n t is
  same_elements types n t no_inits = refl
  same_elements types n t (init_and over i is) =
      ap₂ (λ a b. not (n == 0) && is_same (meant types over) t && a && b) (same_init types t i) (same_elements types (n - 1) t is)

  same_fields : (types : Types) (ts : Tys) (is : Inis) → typing.fields_fit types ts is ≡ layout.fields_fit types ts is
  same_fields types no_types no_inits = refl
  same_fields types (type_and t ts) (init_and over i is) =
      ap₂ (λ a b. is_same (meant types over) t && a && b) (same_init types t i) (same_fields types ts is)
  same_fields types no_types (init_and over i is) = refl
  same_fields types (type_and t ts) no_inits = refl

and_first : (a b : Bool) → (a && b) ≡ true → a ≡ true
and_first true b h = refl
and_first false b h = h

not_false : (b : Bool) → (b ≡ false → ⊥) → b ≡ true
not_false true h = refl
not_false false h = absurd (h refl)

module _ (m : ModuleView) (c : IsChecked m) where
  one_fits : (before after : List (List ℕ × GlobalView)) (e : List ℕ × GlobalView) → m.globals ≡ before ++ e ∷ after → layout.has_fitting_init m.types e.1 ≡ true
  one_fits before after e parts =
      let fits : typing.global_fits m.types e.1 ≡ true = not_false (typing.global_fits m.types e.1) (λ falls. c.well_formed (global_item before e.1) (e.0, after, parts) K9 falls) in
      sym (same_init m.types (meant m.types e.1.over) e.1.init) ∙ and_first (typing.init_fits m.types (meant m.types e.1.over) e.1.init) (typing.align_fits e.1.align) fits

  rest_fit : (before after : List (List ℕ × GlobalView)) → m.globals ≡ before ++ after → list_all (λ (g : List ℕ × GlobalView). layout.has_fitting_init m.types g.1) after ≡ true
  rest_fit before [] parts = refl
  rest_fit before (e ∷ after) parts =
      ap₂ (λ a b. a && b) (one_fits before after e parts) (rest_fit (before ++ e ∷ []) after (parts ∙ sym (append_assoc before (e ∷ []) after)))

  pub inits_fit : layout.have_fitting_inits m ≡ true
  inits_fit = rest_fit [] m.globals refl

pub on_ok : {X F : Type 0} (P Q : X → Type 0) (r : Result X F) → ((x : X) → P x → Q x) → IfOk r P → IfOk r Q
on_ok P Q (Ok x) to h = to x h
on_ok P Q (Err e) to h = tt
