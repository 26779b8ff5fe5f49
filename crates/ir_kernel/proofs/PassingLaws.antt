-- Which numbers a function takes, parameter by parameter, and which function a name finds.
use Rattle.std.proofs.Common.{◌≡◌, ◌⊎◌, inl, inr, ℕ, ◌+◌, ◌≤◌, Bool, true, false, Option, Some, None, option_map, List, [], ◌∷◌, length, drop, refl, sym, ◌∙◌, ap, subst}
use Rattle.std.specs.Prelude.{slice_get, unwrap_or, option_and_then, is_some, if◌then◌else◌, ◌==◌}
use Rattle.std.proofs.lemmas.List.{drop_more, at_drop_all}
use Rattle.std.proofs.lemmas.Option.{get_or_from_slice_get, slice_get_within}
use Rattle.std.proofs.lemmas.Bool.{cases_Bool, eqb-true}
use Rattle.ir_ast.specs.Plain.{Ty}
use Rattle.ir_ast.specs.Program.{FunctionView, ModuleView}
use Rattle.ir_ast.specs.Table.{place_of}
use Rattle.ir_ast.specs.ProgramView.{view_entries, view_type_entry, view_function, view_module}
use Rattle.ir_ast.specs.declared.instr.Function.{Function}
use Rattle.ir_ast.specs.declared.module.Module.{Module}
use Rattle.ir_type.proofs.NameWalks.{entry_viewed}
use Rattle.ir_type.specs.Names.{entry_of}
use Rattle.ir_type.specs.Whole.{Types, meant}
use Rattle.ir_type.proofs.Places.{at_place, no_place, some_same}
use Rattle.ir_check.specs.Answers.{find_body}
use Rattle.ir_kernel.specs.declared.passing.Misfit.{Misfit}
use Rattle.ir_kernel.specs.declared.passing.Misfit.TheVariants.{Unknown, Count}
use Rattle.ir_kernel.specs.Passing.{takes_number, first_untaken, type_misfit, function_misfit, entry_misfit, misfit, Passes, passed_to}

-- ---- parameters

-- what is left of a list begins with the element that stands there
pub left_at : {X : Type 0} (xs : List X) (k : ℕ) (x : X) → slice_get xs k ≡ Some x → drop k xs ≡ x ∷ drop (k + 1) xs
left_at xs k x there = drop_more xs k x (slice_get_within xs k x there) ∙ ap (λ y. y ∷ drop (k + 1) xs) (get_or_from_slice_get xs k x x there)

first_there : {A B : Type 0} (o : Option (A × B)) (a : A) → option_map (λ p. p.0) o ≡ Some a → (b : B) × (o ≡ Some (a, b))
first_there None a h = absurd (cc h)
first_there {A} {B} (Some p) a h = (p.1, ap {B = Option (A × B)} (λ x. Some (x, p.1)) (ap (λ o. unwrap_or o a) h))

-- one more parameter
pub untaken_step : (types : Types) (ps : List (Ty × List ℕ)) (ns : List ℕ) (k : ℕ) (t : Ty) (n : ℕ) (b : Bool) → option_map (λ p. p.0) (slice_get ps k) ≡ Some t → slice_get ns k ≡ Some n
    → b ≡ takes_number (meant types t) n
    → first_untaken types k (drop k ps) (drop k ns) ≡ (if b then first_untaken types (k + 1) (drop (k + 1) ps) (drop (k + 1) ns) else Some k)
untaken_step types ps ns k t n b parameter number takes =
    let p = first_there (slice_get ps k) t parameter in
    ap (λ l. first_untaken types k l (drop k ns)) (left_at ps k (t, p.0) p.1) ∙ ap (first_untaken types k ((t, p.0) ∷ drop (k + 1) ps)) (left_at ns k n number)
    ∙ ap (λ b. if b then first_untaken types (k + 1) (drop (k + 1) ps) (drop (k + 1) ns) else Some k) (sym takes)

pub untaken_more : (types : Types) (ps : List (Ty × List ℕ)) (ns : List ℕ) (k : ℕ) (t : Ty) (n : ℕ) (b : Bool) (o : Option ℕ) → option_map (λ p. p.0) (slice_get ps k) ≡ Some t → slice_get ns k ≡ Some n
    → b ≡ takes_number (meant types t) n → b ≡ true → first_untaken types k (drop k ps) (drop k ns) ≡ o → first_untaken types (k + 1) (drop (k + 1) ps) (drop (k + 1) ns) ≡ o
untaken_more types ps ns k t n b o parameter number takes is rest =
    sym (untaken_step types ps ns k t n b parameter number takes ∙ ap (λ b. if b then first_untaken types (k + 1) (drop (k + 1) ps) (drop (k + 1) ns) else Some k) is) ∙ rest

pub untaken_here : (types : Types) (ps : List (Ty × List ℕ)) (ns : List ℕ) (k : ℕ) (t : Ty) (n : ℕ) (b : Bool) (o : Option ℕ) → option_map (λ p. p.0) (slice_get ps k) ≡ Some t → slice_get ns k ≡ Some n
    → b ≡ takes_number (meant types t) n → b ≡ false → first_untaken types k (drop k ps) (drop k ns) ≡ o → Some k ≡ o
untaken_here types ps ns k t n b o parameter number takes is rest =
    sym (untaken_step types ps ns k t n b parameter number takes ∙ ap (λ b. if b then first_untaken types (k + 1) (drop (k + 1) ps) (drop (k + 1) ns) else Some k) is) ∙ rest

none_left : (types : Types) (k : ℕ) (ps : List (Ty × List ℕ)) → first_untaken types k ps [] ≡ None
none_left types k [] = refl
none_left types k (p ∷ ps) = refl

pub untaken_end : (types : Types) (ps : List (Ty × List ℕ)) (ns : List ℕ) (k : ℕ) (o : Option ℕ) → length ns ≤ k → first_untaken types k (drop k ps) (drop k ns) ≡ o → None ≡ o
untaken_end types ps ns k o past rest = sym (at_drop_all (first_untaken types k (drop k ps)) ns k past ∙ none_left types k (drop k ps)) ∙ rest

-- ---- names

-- a name that finds no function with a body
pub unknown : (m : ModuleView) (name arguments : List ℕ) → find_body m.functions name ≡ None → misfit m name arguments ≡ Some Unknown
unknown m name arguments none = by (entry_of name m.functions) refl (cases_Bool (is_some (option_and_then (λ (f : FunctionView). f.body) (entry_of name m.functions))))
  where
    clash : (f : FunctionView) → Some f ≡ None → ⊥
    clash f e = cc

    placed : (o : Option ℕ) → place_of name m.functions ≡ o → o ≡ None → (f : FunctionView) → entry_of name m.functions ≡ Some f → ⊥
    placed None h e f there = absurd (clash f (sym there ∙ no_place m.functions name h))
    placed (Some p) h e f there = absurd (cc e)

    by : (o : Option FunctionView) → entry_of name m.functions ≡ o
        → (is_some (option_and_then (λ (f : FunctionView). f.body) (entry_of name m.functions)) ≡ true) ⊎ (is_some (option_and_then (λ (f : FunctionView). f.body) (entry_of name m.functions)) ≡ false)
        → entry_misfit m.types (entry_of name m.functions) arguments ≡ Some Unknown
    by None h b = ap (λ o. entry_misfit m.types o arguments) h
    by (Some f) h (inl t) =
        let gone : place_of name m.functions ≡ None = sym (ap (λ b. if b then place_of name m.functions else None) t) ∙ none in
        absurd (placed (place_of name m.functions) refl gone f h)
    by (Some f) h (inr n) =
        let bare : is_some f.body ≡ false = sym (ap (λ o. is_some (option_and_then (λ (f : FunctionView). f.body) o)) h) ∙ n in
        ap (λ o. entry_misfit m.types o arguments) h ∙ ap (λ b. if b then function_misfit m.types f arguments else Some Unknown) bare

-- the function that a name finds
pub record IsFoundAt (m : ModuleView) (name : List ℕ) (p : ℕ) (f : FunctionView) : Type 0 where
  pub there : slice_get m.functions p ≡ Some (name, f)
  pub entry : entry_of name m.functions ≡ Some f
  pub body : is_some f.body ≡ true

pub found_at : (m : ModuleView) (name : List ℕ) (p : ℕ) → find_body m.functions name ≡ Some p → (f : FunctionView) × IsFoundAt m name p f
found_at m name p found = by (cases_Bool (is_some (option_and_then (λ (f : FunctionView). f.body) (entry_of name m.functions))))
  where
    by : (is_some (option_and_then (λ (f : FunctionView). f.body) (entry_of name m.functions)) ≡ true) ⊎ (is_some (option_and_then (λ (f : FunctionView). f.body) (entry_of name m.functions)) ≡ false)
        → (f : FunctionView) × IsFoundAt m name p f
    by (inl t) =
        let place : place_of name m.functions ≡ Some p = sym (ap (λ b. if b then place_of name m.functions else None) t) ∙ found in
        let at = at_place m.functions name p place in (
          at.0,
          record {
            there = at.1.there;
            entry = at.1.found;
            body = sym (ap (λ o. is_some (option_and_then (λ (f : FunctionView). f.body) o)) at.1.found) ∙ t;
          },
        )
    by (inr n) =
        let gone : None ≡ Some p = sym (ap (λ b. if b then place_of name m.functions else None) n) ∙ found in
        absurd (cc gone)

type_counts : (types : Types) (f : FunctionView) (arguments : List ℕ) → function_misfit types f arguments ≡ None → length arguments ≡ length f.parameters
type_counts types f arguments none = by (cases_Bool (length arguments == length f.parameters))
  where
    by : ((length arguments == length f.parameters) ≡ true) ⊎ ((length arguments == length f.parameters) ≡ false) → length arguments ≡ length f.parameters
    by (inl t) = eqb-true (length arguments) (length f.parameters) t
    by (inr n) =
        let gone : Some Count ≡ None = sym (ap (λ b. if b then type_misfit (first_untaken types 0 f.parameters arguments) (meant types f.result) else Some Count) n) ∙ none in
        absurd (cc gone)

-- the function that is found, and what is said of it
pub passes : (m : ModuleView) (name arguments : List ℕ) (p : ℕ) (g : FunctionView) (why : Option Misfit) → find_body m.functions name ≡ Some p → option_map (λ e. e.1) (slice_get m.functions p) ≡ Some g
    → why ≡ function_misfit m.types g arguments → Passes m name arguments (passed_to p why)
passes m name arguments p g why found at is =
    let f = found_at m name p found in
    let same : f.0 ≡ g = some_same f.0 g (sym (ap (option_map (λ e. e.1)) f.1.there) ∙ at) in
    let told : misfit m name arguments ≡ function_misfit m.types f.0 arguments =
    ap (λ o. entry_misfit m.types o arguments) f.1.entry ∙ ap (λ b. if b then function_misfit m.types f.0 arguments else Some Unknown) f.1.body in
    let own : why ≡ function_misfit m.types f.0 arguments = is ∙ ap (λ h. function_misfit m.types h arguments) (sym same) in
    by f.0 f.1 told why own
  where
    by : (f : FunctionView) → IsFoundAt m name p f → misfit m name arguments ≡ function_misfit m.types f arguments → (why : Option Misfit) → why ≡ function_misfit m.types f arguments → Passes m name arguments (passed_to p why)
    by f at told (Some why) own = told ∙ sym own
    by f at told None own = (
      told ∙ sym own,
      record {
        found = found;
        can = (name, f, record { there = at.there; body = at.body; as_many = type_counts m.types f arguments (sym own) });
      },
    )

-- ---- the same of a kernel that is seen as its module

pub unknown_in : (k c : Module) (name arguments : List ℕ) (o : Option ℕ) → c ≡ k → o ≡ find_body (view_module c).functions name → o ≡ None → misfit (view_module k) name arguments ≡ Some Unknown
unknown_in k c name arguments o same found none =
    unknown (view_module k) name arguments (sym (found ∙ ap (λ (m : Module). find_body (view_module m).functions name) same) ∙ none)

pub passes_in : (k c d m : Module) (name arguments : List ℕ) (o : Option ℕ) (p : ℕ) (g : Function) (why : Option Misfit) → c ≡ k → d ≡ k → m ≡ d → o ≡ find_body (view_module c).functions name → o ≡ Some p
    → option_map (λ e. e.1) (slice_get m.functions p) ≡ Some g → why ≡ function_misfit (view_entries view_type_entry m.types) (view_function g) arguments → Passes (view_module k) name arguments (passed_to p why)
passes_in k c d m name arguments o p g why first second third found is at told =
    let whole : m ≡ k = third ∙ second in
    let entry = entry_viewed view_function m.functions p g at in
    let there : option_map (λ e. e.1) (slice_get (view_module m).functions p) ≡ Some (view_function g) = ap (option_map (λ e. e.1)) entry.1 in
    passes (view_module k) name arguments p (view_function g) why (sym (found ∙ ap (λ (m : Module). find_body (view_module m).functions name) first) ∙ is)
    (subst (λ (n : Module). option_map (λ e. e.1) (slice_get (view_module n).functions p) ≡ Some (view_function g)) whole there)
    (subst (λ (n : Module). why ≡ function_misfit (view_module n).types (view_function g) arguments) whole told)
