-- Calls: a function with a body begins on top of its caller, and one without is an intrinsic or a hook.
use Rattle.std.proofs.Common.{◌≡◌, ◌⊎◌, inl, inr, ℕ, zero, suc, Bool, true, false, ◌&&◌, not, if◌then◌else◌, Option, Some, None, List, [], ◌∷◌, ◌++◌, length, map, refl, sym, ◌∙◌, ap, subst, arith}
use Rattle.std.specs.Prelude.{Contains, is_some, bytes_eq, slice_get, option_and_then}
use Rattle.std.specs.List.{IsDistinct}
use Rattle.std.proofs.lemmas.Bool.{cases_Bool, eq-eqb}
use Rattle.std.proofs.lemmas.List.{length-map}
use Rattle.std.proofs.lemmas.List.Elements.{Contains-append_left, Contains-append_right}
use Rattle.ir_ast.specs.Plain.{Ty, Val}
use Rattle.ir_ast.specs.Program as plain
use Rattle.ir_ast.specs.Program.{Act, InstrView, BlockView, FunctionView, ModuleView}
use Rattle.ir_ast.specs.Table.{names_of, place_of}
use Rattle.ir_type.specs.Whole.{Types, meant, is_same, is_void}
use Rattle.ir_type.proofs.Places.{at_place, no_place, some_same}
use Rattle.ir_typing.specs.Intrinsics.{Intrinsic, intrinsic_of}
use Rattle.ir_typing.specs.Registers as registers
use Rattle.ir_typing.specs.Registers.{function_of, has_body}
use Rattle.ir_typing.specs.Fits.{scope_of, fits, are_one, meets, meets_declared, signature_of, call_fits}
use Rattle.ir_check.specs.Checked.{IsChecked}
use Rattle.ir_check.proofs.NamedGraph.{mapped_at}
use Rattle.ir_check.proofs.Undefined.{Contains-map}
use Rattle.ir_value.specs.declared.value.Value.{Value}
use Rattle.ir_machine.specs.declared.state.Computed.{Computed}
use Rattle.ir_machine.specs.declared.state.Computed.TheVariants.{Sets, Passes, Sticks, Lost}
use Rattle.ir_machine.specs.declared.state.End.TheVariants as end
use Rattle.ir_machine.specs.declared.state.Machine.{Machine}
use Rattle.ir_machine.specs.declared.state.Next.TheVariants.{Ended}
use Rattle.ir_machine.specs.Values.{Registers, value_of, arguments_pass}
use Rattle.ir_machine.specs.Step.{act_on, argument_held, argument_registers, call_of, call_with}
use Rattle.ir_resolve.specs.Acts.{act_of, typed, inputs_of, where_true, bodies_of, body_place, call_by}
use Rattle.ir_resolve.specs.Resolved.{code_of, step_of, program_of}
use Rattle.ir_walk.specs.LoopFree.{callees}
use Rattle.ir_walk.specs.Walk.{Memory}
use Rattle.ir_kernel.specs.Typed.{IsValueOf, IsSetTo}
use Rattle.ir_kernel.specs.Steps.{DoPass}
use Rattle.ir_kernel.proofs.CodeActs.{function_place, called_by_name}
use Rattle.ir_kernel.proofs.CodePlaces.{code_at, placed, own_function}
use Rattle.ir_kernel.proofs.LoadTypes.{left_of, right_of}
use Rattle.ir_kernel.proofs.OperandTypes.{operand_holds}
use Rattle.ir_kernel.proofs.StepTypes.{arguments_do_pass}
use Rattle.ir_typed.specs.Spelled.{AreSpelled}
use Rattle.ir_typed.proofs.Using.{each_true, IsAtHand, at_hand}
use Rattle.ir_typed.proofs.Keeping.{IsCaller, AreBelow, IsTyped, NextFits}
use Rattle.ir_typed.proofs.Returning.{of_same}
use Rattle.ir_typed.proofs.Entering.{AreSetTo, begun_frame}
use Rattle.ir_typed.proofs.Declared.{listed_fits, hook_fits}

-- ---- what a call agrees with

-- a function with a body has a place among those with a body
no_body : (m : ModuleView) (name : List ℕ) (g : FunctionView) → body_place m name ≡ None → function_of m name ≡ Some g → is_some g.body ≡ false
no_body m name g none there = by (place_of name m.functions) refl (cases_Bool (is_some g.body))
  where
    none_is : {A B : Type 0} {b : B} → None ≡ Some b → A
    none_is e = absurd cc

    chosen : (p : ℕ) (h : FunctionView) → place_of name m.functions ≡ Some p → slice_get m.functions p ≡ Some (name, h) → h ≡ g → is_some g.body ≡ true → is_some g.body ≡ false
    chosen p h at stands same some =
        let flag = mapped_at (λ (e : List ℕ × FunctionView). is_some e.1.body) m.functions p false (name, h) stands ∙ ap (λ (g : FunctionView). is_some g.body) same ∙ some in
        none_is (sym none ∙ ap (option_and_then (where_true (bodies_of m))) at ∙ ap (λ b. if b then Some p else None) flag)

    by : (o : Option ℕ) → place_of name m.functions ≡ o → (is_some g.body ≡ true) ⊎ (is_some g.body ≡ false) → is_some g.body ≡ false
    by o h (inr e) = e
    by None h (inl e) = none_is (sym (no_place m.functions name h) ∙ there)
    by (Some p) h (inl e) =
        let at = at_place m.functions name p h in
        chosen p at.0 h at.1.there (some_same at.0 g (sym at.1.found ∙ there)) e

one_count : (types : Types) (ts us : List Ty) → are_one types ts us ≡ true → length ts ≡ length us
one_count types [] [] e = refl
one_count types (t ∷ ts) (u ∷ us) e = let n = one_count types ts us (right_of (is_same (meant types t) (meant types u)) (are_one types ts us) e) in omega (arith, n)
one_count types [] (u ∷ us) e = absurd cc
one_count types (t ∷ ts) [] e = absurd cc

-- the arguments are in the registers of the parameters
module _ (m : ModuleView) (f : FunctionView) (memory : Memory) (rs : Registers) where
  abbrev input : Ty × Val → Option Value
  input a = value_of memory rs (typed m f a.0 a.1)

  one_argument : (t u : Ty) (o : Option Value) → is_same t u ≡ true → IsValueOf t o → IsSetTo (registers.value_of u) (argument_held o)
  one_argument t u None e x = absurd x
  one_argument t u (Some v) e x = of_same t u v e x

  arguments_set : (arguments : List (Ty × Val)) (ps : List (Ty × List ℕ)) → are_one m.types (map (λ (a : Ty × Val). a.0) arguments) (map (λ (p : Ty × List ℕ). p.0) ps) ≡ true
      → ((a : Ty × Val) → Contains arguments a → IsValueOf (meant m.types a.0) (input a)) → AreSetTo m.types ps (argument_registers memory rs (inputs_of m f arguments))
  arguments_set [] [] e each = tt
  arguments_set (a ∷ arguments) (p ∷ ps) e each =
      let one = is_same (meant m.types a.0) (meant m.types p.0) in
      let rest = are_one m.types (map (λ (a : Ty × Val). a.0) arguments) (map (λ (p : Ty × List ℕ). p.0) ps) in (
        one_argument (meant m.types a.0) (meant m.types p.0) (input a) (left_of one rest e) (each a (0, omega arith, refl)),
        arguments_set arguments ps (right_of one rest e) (λ q d. each q (Contains-append_right (a ∷ []) arguments q d)),
      )
  arguments_set [] (p ∷ ps) e each = absurd cc
  arguments_set (a ∷ arguments) [] e each = absurd cc

module _ (m : ModuleView) (checked : IsChecked m) (distinct : IsDistinct bytes_eq (names_of m.functions)) (spelled : AreSpelled m) (whole : FunctionView) (c : Machine) (run : IsTyped m whole c) where
  abbrev f : FunctionView
  f = run.top.function

  abbrev rs : Registers
  rs = c.top.registers

  abbrev i : InstrView
  i = run.top.instr

  module _ (over : Ty) (name : List ℕ) (arguments : List (Ty × Val)) (is : i.act ≡ plain.call over name arguments) where
    hand : IsAtHand m f rs (plain.call over name arguments)
    hand = subst (IsAtHand m f rs) is (at_hand m checked f run.top.block run.top.before i run.top.after rs run.top.at)

    arguments_listed : (a : Ty × Val) → Contains arguments a → Contains (map (λ (p : Ty × Val). p.1) arguments ++ []) a.1
    arguments_listed a d = Contains-append_left (map (λ (p : Ty × Val). p.1) arguments) [] a.1 (Contains-map (λ (p : Ty × Val). p.1) arguments a d)

    argument_value : (a : Ty × Val) → Contains arguments a → IsValueOf (meant m.types a.0) (value_of c.memory rs (typed m f a.0 a.1))
    argument_value a d =
        operand_holds m f c.memory rs (meant m.types a.0) a.1 (hand.ready a.1 (arguments_listed a d))
        (each_true (λ (p : Ty × Val). fits (scope_of m f) (meant m.types p.0) p.1) arguments hand.fitting a d)

    abbrev types_given : List Ty
    types_given = map (λ (a : Ty × Val). a.0) arguments

    agrees : call_fits m.types over name types_given (function_of m name) ≡ true
    agrees = right_of (not (is_void over && hand.has)) (call_fits m.types over name types_given (function_of m name)) hand.more

    abbrev Goes : Option ℕ → Bool → Type 0
    Goes body listed = NextFits m whole (act_on (program_of m) c (step_of m f i) (call_by m f name arguments body listed))

    -- ---- a function with a body

    module _ (k : ℕ) (called : FunctionView) (there : slice_get m.functions k ≡ Some (name, called)) (body : is_some called.body ≡ true) (met : meets m.types over types_given (signature_of called) ≡ true) where
      same_types : are_one m.types types_given (map (λ (p : Ty × List ℕ). p.0) called.parameters) ≡ true
      same_types = right_of (is_same (meant m.types over) (meant m.types called.result)) (are_one m.types types_given (map (λ (p : Ty × List ℕ). p.0) called.parameters)) met

      begins : (o : Computed) → DoPass o → NextFits m whole (call_with i.line c (inputs_of m f arguments) k (code_of m called) o)
      begins Passes p =
          let set = arguments_set m f c.memory rs arguments called.parameters same_types argument_value in
          let begun = begun_frame m checked spelled k name called there body (argument_registers c.memory rs (inputs_of m f arguments)) set in
          let caller : IsCaller m c.top called = record {
            frame = run.top;
            over = over;
            callee = name;
            arguments = arguments;
            act = is;
            same = left_of (is_same (meant m.types over) (meant m.types called.result)) (are_one m.types types_given (map (λ (p : Ty × List ℕ). p.0) called.parameters)) met;
          } in
          let under : AreBelow m whole called (c.top ∷ c.below) = (caller, run.below) in
          record {
            bytes = run.bytes;
            top = begun.0;
            below = subst (λ (g : FunctionView). AreBelow m whole g (c.top ∷ c.below)) (sym begun.1) under;
          }
      begins (Sticks r) p = tt
      begins (Sets h) p = absurd p
      begins Lost p = absurd p

      call_body : (listed : Bool) → Goes (Some k) listed
      call_body listed =
          let inputs = inputs_of m f arguments in
          let code : slice_get (program_of m).functions k ≡ Some (code_of m called) = code_at m k (Some (name, called)) there in
          let n : length inputs ≡ length arguments = length-map arguments _ in
          let t : length types_given ≡ length arguments = length-map arguments _ in
          let p : length (map (λ (p : Ty × List ℕ). p.0) called.parameters) ≡ length called.parameters = length-map called.parameters _ in
          let as_many = one_count m.types types_given (map (λ (p : Ty × List ℕ). p.0) called.parameters) same_types in
          let same : length inputs ≡ length called.parameters = omega (arith, n, t, p, as_many) in
          subst (λ o. NextFits m whole (call_of i.line c inputs k o)) (sym code)
          (subst (λ b. NextFits m whole (if b then call_with i.line c inputs k (code_of m called) (arguments_pass c.memory rs inputs) else Ended end.Lost)) (sym (eq-eqb (length inputs) (length called.parameters) same))
          (begins (arguments_pass c.memory rs inputs) (arguments_do_pass m f c.memory (program_of m).objects rs arguments hand.fitting (λ p d. hand.ready p.1 (arguments_listed p d)))))

    only : {A : Type 0} {x y : A} → Contains (x ∷ []) y → x ≡ y
    only (zero, l, e) = e
    only (suc k, l, e) = absurd (omega (arith, l))

    to_body : (k : ℕ) → body_place m name ≡ Some k → Goes (Some k) (is_some (intrinsic_of name))
    to_body k e =
        let among : Contains (callees (act_of m f (plain.call over name arguments))) k =
        subst (λ o. Contains (callees (call_by m f name arguments o (is_some (intrinsic_of name)))) k) (sym e) (0, omega arith, refl) in
        let by_name = called_by_name m f (plain.call over name arguments) k among in
        let own : name ≡ by_name.name = only by_name.named in
        let at = placed m by_name.name by_name.body in
        let there : slice_get m.functions k ≡ Some (name, at.called) =
        subst (λ n. slice_get m.functions n ≡ Some (name, at.called)) by_name.place
        (subst (λ x. slice_get m.functions (function_place m by_name.name) ≡ Some (x, at.called)) (sym own) at.there) in
        let found : function_of m name ≡ Some at.called = own_function m k (name, at.called) distinct there in
        let told : call_fits m.types over name types_given (Some at.called) ≡ true = subst (λ o. call_fits m.types over name types_given o ≡ true) found agrees in
        let met = subst (λ b. (if b then meets m.types over types_given (signature_of at.called) else meets_declared m.types over types_given (intrinsic_of name)) ≡ true) at.body told in
        call_body k at.called there at.body met (is_some (intrinsic_of name))

    -- ---- one without

    declared : body_place m name ≡ None → meets_declared m.types over types_given (intrinsic_of name) ≡ true
    declared none = by (function_of m name) refl agrees
      where
        clash : {A : Type 0} → false ≡ true → A
        clash e = absurd cc

        by : (o : Option FunctionView) → function_of m name ≡ o → call_fits m.types over name types_given o ≡ true → meets_declared m.types over types_given (intrinsic_of name) ≡ true
        by None h e = clash e
        by (Some g) h e = subst (λ b. (if b then meets m.types over types_given (signature_of g) else meets_declared m.types over types_given (intrinsic_of name)) ≡ true) (no_body m name g none h) e

    to_declared : (o : Option Intrinsic) → intrinsic_of name ≡ o → meets_declared m.types over types_given o ≡ true → Goes None (is_some o)
    to_declared (Some listed) h e = listed_fits m checked whole c run over name arguments is listed h e
    to_declared None h e = hook_fits m checked whole c run over name arguments is e

    by_body : (o : Option ℕ) → body_place m name ≡ o → Goes o (is_some (intrinsic_of name))
    by_body (Some k) h = to_body k h
    by_body None h = to_declared (intrinsic_of name) refl (declared h)

  pub call_comes : (over : Ty) (name : List ℕ) (arguments : List (Ty × Val)) → i.act ≡ plain.call over name arguments → NextFits m whole (act_on (program_of m) c (step_of m f i) (act_of m f i.act))
  call_comes over name arguments is =
      subst (λ a. NextFits m whole (act_on (program_of m) c (step_of m f i) (act_of m f a))) (sym is) (by_body over name arguments is (body_place m name) refl)
