-- A `def` line: what its parameters mean.
use Rattle.std.proofs.Common.{◌≡◌, ℕ, ◌+◌, ◌<◌, true, false, Option, Some, None, option_map, option_and_then, List, [], ◌∷◌, length, map, slice_get, slice_index, get_or, All, refl, sym, ap, subst, ◌∙◌}
use Rattle.std.specs.List.{list_any, AllByRecursion}
use Rattle.std.proofs.lemmas.List.Elements.{All-from_recursion, recursion_from_All}
use Rattle.std.proofs.lemmas.Option.{slice_get_within, get_or_from_slice_get, slice_get-map}
use Rattle.spec_tree.specs.declared.expr.StateName.TheVariants.{Old}
use Rattle.spec_tree.specs.Sorted.{Context, FieldSort, IsWidth}
use Rattle.spec_names.specs.Kernel.{Name, ValueType, number, address, Kernel, function_named, function_place}
use Rattle.spec_names.specs.Kernel as kernel
use Rattle.spec_kernel.specs.Handlers.{is_address, gives_address}
use Rattle.spec_read.specs.Places.{Function, equivalence, invariant, property, handler}
use Rattle.spec_scope.specs.declared.meaning.Meaning.{Meaning}
use Rattle.spec_scope.specs.declared.meaning.Meaning.TheVariants as means
use Rattle.spec_scope.specs.Scope.{Names, with_name}
use Rattle.spec_lines.specs.Behind.{is_handler, width_of_type, result_of, argument_meaning, arguments, types_of, handler_names, parameter_names}
use Rattle.spec_kernel.specs.Widths.{IsValueWidth, IsResultWidth, HasWidths, HaveWidths}
use Rattle.spec_sound.proofs.Parts.{neither, none_some, not_so, no}
use Rattle.spec_sound.proofs.Named.{IsHandled}
use Rattle.spec_sound.proofs.Meanings.{IsPlain, Means, AllNames, named}
use Rattle.spec_sound.proofs.Bodies.{step_over, HasWidth, InBody}

-- ---- the widths of a handler's arguments and result

numbers_wide : (ts : List ValueType) → AllByRecursion IsValueWidth ts → list_any is_address ts ≡ false → AllByRecursion IsWidth (map width_of_type ts)
numbers_wide [] all plain = tt
numbers_wide (number w ∷ ts) all plain = (all.0, numbers_wide ts all.1 plain)
numbers_wide (address ∷ ts) all plain = absurd (not_so plain)

result_wide : (r : Option ValueType) → IsResultWidth r → gives_address r ≡ false → HasWidth (option_map width_of_type r)
result_wide None is plain = tt
result_wide (Some (number w)) is plain = is
result_wide (Some address) is plain = absurd (not_so plain)

at_some : (fs : List kernel.Function) (o : Option ℕ) (f : kernel.Function) → All HasWidths fs → option_and_then (slice_get fs) o ≡ Some f → HasWidths f
at_some fs None f all is = absurd (none_some f is)
at_some fs (Some place) f all is = subst HasWidths (get_or_from_slice_get fs place f f is) (all place f (slice_get_within fs place f is))

-- what is known of a handler's function
pub record HasNumbers (types : List ValueType) (result : Option ℕ) : Type 0 where
  pub widths : All IsWidth (map width_of_type types)
  pub given : HasWidth result

pub has_numbers : (k : Kernel) (x : Name) → HaveWidths k → (f : kernel.Function) × IsHandled k x f × (result_of (function_named k x) ≡ option_map width_of_type f.result)
    → HasNumbers (types_of (function_named k x)) (result_of (function_named k x))
has_numbers k x all p =
    let f = p.0 in
    let n = neither (list_any is_address f.parameters) (gives_address f.result) (p.1).numbers in
    let w : HasWidths f = at_some k.functions (function_place k x) f all (p.1).named in
    record {
      widths = subst (λ (o : Option kernel.Function). All IsWidth (map width_of_type (types_of o))) (sym (p.1).named)
          (All-from_recursion IsWidth (map width_of_type f.parameters) (numbers_wide f.parameters (recursion_from_All IsValueWidth f.parameters w.0) n.0));
      given = subst HasWidth (sym p.2) (result_wide f.result w.1 n.1);
    }

-- ---- what the parameters mean

argument_means : (c : Context) (types : List ValueType) (k : ℕ) (o : Option ValueType) → slice_get types k ≡ o → c.args ≡ map width_of_type types
    → All IsWidth (map width_of_type types) → Means true c (argument_meaning k o)
argument_means c types k None is same all = tt
argument_means c types k (Some t) is same all =
    let ws = map width_of_type types in
    let got : slice_get ws k ≡ Some (width_of_type t) = slice_get-map width_of_type types k ∙ ap (option_map width_of_type) is in
    let inside : k < length ws = slice_get_within ws k (width_of_type t) got in
    let value : get_or ws k 0 ≡ width_of_type t = get_or_from_slice_get ws k (width_of_type t) 0 got in
    (subst (λ ws. k < length ws) (sym same) inside, ap (λ ws. slice_index ws k) same ∙ value, subst IsWidth value (all k 0 inside))

arguments_are : (P : Meaning → Type 0) (types : List ValueType) (names : Names) (k : ℕ) (xs : List Name) → AllNames P names
    → ((j : ℕ) → P (argument_meaning j (slice_get types j))) → AllNames P (arguments types names k xs)
arguments_are P types names k [] all each = all
arguments_are P types names k (x ∷ xs) all each =
    arguments_are P types (with_name names x (argument_meaning k (slice_get types k))) (k + 1) xs (named P names x (argument_meaning k (slice_get types k)) all (each k)) each

handler_are : (P : Meaning → Type 0) (types : List ValueType) (xs : List Name) → P (means.State Old) → ((j : ℕ) → P (argument_meaning j (slice_get types j)))
    → AllNames P (handler_names xs types)
handler_are P types [] old each = tt
handler_are P types (x ∷ xs) old each = arguments_are P types ((x, means.State Old) ∷ []) 0 xs (old, tt) each

plain_argument : (k : ℕ) (o : Option ValueType) → IsPlain (argument_meaning k o)
plain_argument k None = tt
plain_argument k (Some t) = tt

pub plain_parameters : (kind : Option Function) (xs : List Name) (types : List ValueType) → AllNames IsPlain (parameter_names kind xs types)
plain_parameters (Some equivalence) xs types = (tt, (tt, tt))
plain_parameters (Some (invariant x)) xs types = (tt, tt)
plain_parameters (Some (property x)) xs types = (tt, tt)
plain_parameters (Some handler) xs types = handler_are IsPlain types xs tt (λ j. plain_argument j (slice_get types j))
plain_parameters None xs types = tt

-- ---- behind the line

pub body_begins : (F : List FieldSort) (O : List ℕ) (kind : Option Function) (xs : List Name) (types : List ValueType) (result : Option ℕ)
    → (is_handler kind ≡ true → HasNumbers types result) → InBody F O kind (map width_of_type types) result (parameter_names kind xs types) 0 [] []
body_begins F O (Some equivalence) xs types result numbers = record { names = (refl, ((λ e. absurd (no e)), tt)); counted = refl; sorted = tt }
body_begins F O (Some (invariant x)) xs types result numbers = record { names = (refl, tt); counted = refl; sorted = tt }
body_begins F O (Some (property x)) xs types result numbers = record { names = ((λ e. refl), tt); counted = refl; sorted = tt }
body_begins F O (Some handler) xs types result numbers =
    let n = numbers refl in
    let c = step_over F O (map width_of_type types) in
    record {
      are_widths = n.widths;
      has_width = n.given;
      in_lines = record {
        names = handler_are (Means true c) types xs (λ e. refl) (λ j. argument_means c types j (slice_get types j) refl refl n.widths);
        counted = refl;
        sorted = tt;
      };
    }
body_begins F O None xs types result numbers = tt
