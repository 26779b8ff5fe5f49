-- The function of a handler.
use Rattle.std.proofs.Common.{◌≡◌, ℕ, true, false, not, ◌&&◌, ◌||◌, Option, Some, None, option_map, option_and_then, List, [], ◌∷◌, length, map, slice_get, get_or, bytes_eq, nat_eq, eqb-true, refl, sym, ap, subst, ◌∙◌}
use Rattle.std.specs.List.{list_any}
use Rattle.std.proofs.lemmas.List.Quantifiers.{position-Some}
use Rattle.std.proofs.lemmas.Option.{get_or_from_slice_get, slice_get-map}
use Rattle.std.proofs.lemmas.Slice.Eq.{bytes_eq-Decides}
use Rattle.spec_names.specs.Kernel.{Name, ValueType, number, address, Function, Kernel, function_place, function_named}
use Rattle.spec_kernel.specs.Handlers.{has_body_with, has_address, gives_address, is_address}
use Rattle.spec_kernel.specs.Fit.{IsResult}
use Rattle.spec_lines.specs.Behind.{width_of_type}
use Rattle.spec_lines.specs.Whole.{result_width}
use Rattle.spec_sound.proofs.Parts.{both, un_not, not_so}

-- a function that a `def` line of a handler names: it has a body, and takes and gives no pointer
pub record IsHandled (k : Kernel) (name : Name) (f : Function) : Type 0 where
  pub named : function_named k name ≡ Some f
  pub defined : f.defined ≡ true
  pub numbers : (list_any is_address f.parameters || gives_address f.result) ≡ false

named_by : (k : Kernel) (x : Name) (count : ℕ) (o : Option Function) → function_named k x ≡ o → not (has_body_with count o) ≡ false → has_address o ≡ false
    → (f : Function) × IsHandled k x f × (length f.parameters ≡ count)
named_by k x count None named body plain = absurd (not_so body)
named_by k x count (Some f) named body plain =
    let b = both f.defined (nat_eq (length f.parameters) count) (un_not (f.defined && nat_eq (length f.parameters) count) body) in
    (f, record { named = named; defined = b.0; numbers = plain }, eqb-true (length f.parameters) count b.1)

pub handled : (k : Kernel) (x : Name) (count : ℕ) → not (has_body_with count (function_named k x)) ≡ false → has_address (function_named k x) ≡ false
    → (f : Function) × IsHandled k x f × (length f.parameters ≡ count)
handled k x count body plain = named_by k x count (function_named k x) refl body plain

-- ---- its place

pub at_place : (k : Kernel) (x : Name) (f : Function) (place : ℕ) → function_place k x ≡ Some place → function_named k x ≡ Some f
    → slice_get k.functions place ≡ Some f
at_place k x f place placed named = sym (ap (option_and_then (slice_get k.functions)) placed) ∙ named

pub its_name : (k : Kernel) (x : Name) (f : Function) (place : ℕ) → function_place k x ≡ Some place → function_named k x ≡ Some f → f.name ≡ x
its_name k x f place placed named =
    let names = map (λ (g : Function). g.name) k.functions in
    let p = position-Some (bytes_eq x) names place f.name placed in
    let got : slice_get names place ≡ Some f.name = slice_get-map (λ (g : Function). g.name) k.functions place ∙ ap (option_map (λ (g : Function). g.name)) (at_place k x f place placed named) in
    let same : get_or names place f.name ≡ f.name = get_or_from_slice_get names place f.name f.name got in
    sym ((bytes_eq-Decides x f.name).0 (subst (λ y. bytes_eq x y ≡ true) same p.1))

-- ---- its integers

pub all_numbers : (ts : List ValueType) → list_any is_address ts ≡ false → ts ≡ map number (map width_of_type ts)
all_numbers [] e = refl
all_numbers (number w ∷ ts) e = ap (λ us. number w ∷ us) (all_numbers ts e)
all_numbers (address ∷ ts) e = absurd (not_so e)

pub result_is : (r : Option ValueType) → gives_address r ≡ false → IsResult r (result_width (option_map width_of_type r))
result_is None e = refl
result_is (Some (number w)) e = refl
result_is (Some address) e = absurd (not_so e)
