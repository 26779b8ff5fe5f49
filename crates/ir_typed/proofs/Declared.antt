-- Calls of functions without a body: the listed intrinsics, and hooks.
use Rattle.std.proofs.Common.{◌≡◌, ◌⊎◌, inl, inr, ℕ, Bool, true, false, ◌&&◌, if◌then◌else◌, Option, Some, None, List, [], ◌∷◌, ◌++◌, map, refl, sym, ◌∙◌, ap, subst, arith}
use Rattle.std.specs.Prelude.{Contains}
use Rattle.std.proofs.lemmas.Bool.{eqb-true}
use Rattle.std.proofs.lemmas.List.Elements.{Contains-append_left}
use Rattle.ir_check.proofs.Undefined.{Contains-map}
use Rattle.ir_ast.specs.Plain.{Ty, nothing, integer, structure, no_types, type_and, Val}
use Rattle.ir_ast.specs.Program as plain
use Rattle.ir_ast.specs.Program.{Act, InstrView, BlockView, FunctionView, ModuleView}
use Rattle.ir_type.specs.Shape.{is_last}
use Rattle.ir_type.specs.Whole.{Types, meant, is_same, is_void}
use Rattle.ir_typing.specs.Intrinsics.{Intrinsic, with_overflow, assuming, number_and_bit, intrinsic_of}
use Rattle.ir_typing.specs.Registers as registers
use Rattle.ir_typing.specs.Registers.{Kind, kind_of, overflows}
use Rattle.ir_typing.specs.Fits.{scope_of, fits, whole_kind, are_one, meets}
use Rattle.ir_check.specs.Checked.{IsChecked}
use Rattle.ir_value.specs.declared.value.Value.{Value}
use Rattle.ir_value.specs.declared.value.Made.{Made}
use Rattle.ir_value.specs.declared.value.Made.TheVariants as made
use Rattle.ir_value.specs.declared.value.StuckReason.TheVariants.{U17}
use Rattle.ir_value.specs.declared.intrinsics.OverflowKind.{OverflowKind}
use Rattle.ir_value.specs.declared.intrinsics.PairKind.{PairKind}
use Rattle.ir_value.specs.Numbers.{is_width}
use Rattle.ir_value.specs.Intrinsics as values
use Rattle.ir_value.specs.Intrinsics.{second_width, assumes}
use Rattle.ir_code.specs.declared.act.Act as code
use Rattle.ir_code.specs.declared.act.Act.TheVariants as act
use Rattle.ir_machine.specs.declared.state.Held.TheVariants as held
use Rattle.ir_machine.specs.declared.state.Computed.{Computed}
use Rattle.ir_machine.specs.declared.state.Computed.TheVariants.{Sets, Passes, Sticks, Lost}
use Rattle.ir_machine.specs.declared.state.Machine.{Machine}
use Rattle.ir_machine.specs.Values.{Registers, value_of, computed_by, on_two, on_pair, pair_by, assumed, arguments_pass}
use Rattle.ir_machine.specs.Step.{act_on, after}
use Rattle.ir_resolve.specs.Acts.{typed, number_width, inputs_of, overflow_kind, overflow_act, pair_act, assume_act, other_act, intrinsic_act}
use Rattle.ir_resolve.specs.Resolved.{step_of, program_of}
use Rattle.ir_kernel.specs.Typed.{is_of, is_held, are_parts, MakesOf, IsValueOf}
use Rattle.ir_kernel.specs.Steps.{DoPass}
use Rattle.ir_kernel.proofs.LoadTypes.{left_of, right_of}
use Rattle.ir_kernel.proofs.OperandTypes.{operand_holds}
use Rattle.ir_kernel.proofs.StepTypes.{arguments_do_pass}
use Rattle.ir_kernel.proofs.ValueTypes.{first_makes, second_makes, pair_makes}
use Rattle.ir_typed.proofs.RegisterKinds.{is_used}
use Rattle.ir_typed.proofs.Using.{each_true, IsAtHand, at_hand}
use Rattle.ir_typed.proofs.Keeping.{IsTyped, NextFits, goes, with_held, with_none}
use Rattle.ir_typed.proofs.Returning.{same_of, same_void, void_unused}
use Rattle.ir_typed.proofs.Listed.{of_two, IsOverflow, IsOfTwo, IsAssume, listed_cases}

no_more : {A : Type 0} (b : Bool) → (b && false) ≡ true → A
no_more true e = absurd cc
no_more false e = absurd cc

same_integer : (t : Ty) (w : ℕ) → is_same t (integer w) ≡ true → t ≡ integer w
same_integer (integer v) w e = ap integer (eqb-true v w e)
same_integer t w e = absurd cc

-- two values, a number and a bit, are the parts of a pair
parts_are : (t : Ty) (w : ℕ) (a b : Value) → is_same t (number_and_bit w) ≡ true → is_of (integer w) a ≡ true → is_of (integer 1) b ≡ true → are_parts t a b ≡ true
parts_are (structure (type_and t (type_and u no_types))) w a b e x y =
    both (is_of t a) (is_of u b) (same_of t (integer w) a (left_of (is_same t (integer w)) (is_same u (integer 1) && true) e) x)
    (same_of u (integer 1) b (left_of (is_same u (integer 1)) true (right_of (is_same t (integer w)) (is_same u (integer 1) && true) e)) y)
  where
    both : (p q : Bool) → p ≡ true → q ≡ true → (p && q) ≡ true
    both true q e f = f
    both false q e f = absurd cc
parts_are (structure no_types) w a b e x y = absurd cc
parts_are (structure (type_and t no_types)) w a b e x y = no_more (is_same t (integer w)) e
parts_are (structure (type_and t (type_and u (type_and r ts)))) w a b e x y = no_more (is_same u (integer 1)) (right_of (is_same t (integer w)) (is_same u (integer 1) && false) e)
parts_are t w a b e x y = absurd cc

-- ---- arguments of two types

record AreTwo (types : Types) (arguments : List (Ty × Val)) (s t : Ty) : Type 0 where
  pub first : Ty × Val
  pub second : Ty × Val
  pub are : arguments ≡ first ∷ second ∷ []
  pub one : is_same (meant types first.0) (meant types s) ≡ true
  pub other : is_same (meant types second.0) (meant types t) ≡ true

are_two : (types : Types) (arguments : List (Ty × Val)) (s t : Ty) → are_one types (map (λ (a : Ty × Val). a.0) arguments) (s ∷ t ∷ []) ≡ true → AreTwo types arguments s t
are_two types [] s t e = absurd cc
are_two types (a ∷ []) s t e = no_more (is_same (meant types a.0) (meant types s)) e
are_two types (a ∷ b ∷ []) s t e = record {
  first = a;
  second = b;
  are = refl;
  one = left_of (is_same (meant types a.0) (meant types s)) (is_same (meant types b.0) (meant types t) && true) e;
  other = left_of (is_same (meant types b.0) (meant types t)) true (right_of (is_same (meant types a.0) (meant types s)) (is_same (meant types b.0) (meant types t) && true) e);
}
are_two types (a ∷ b ∷ c ∷ rest) s t e =
    no_more (is_same (meant types b.0) (meant types t)) (right_of (is_same (meant types a.0) (meant types s)) (is_same (meant types b.0) (meant types t) && false) e)

record IsOne (types : Types) (arguments : List (Ty × Val)) : Type 0 where
  pub first : Ty × Val
  pub are : arguments ≡ first ∷ []

is_one : (types : Types) (arguments : List (Ty × Val)) (s : Ty) → are_one types (map (λ (a : Ty × Val). a.0) arguments) (s ∷ []) ≡ true → IsOne types arguments
is_one types [] s e = absurd cc
is_one types (a ∷ []) s e = record { first = a; are = refl }
is_one types (a ∷ b ∷ rest) s e = no_more (is_same (meant types a.0) (meant types s)) e

module _ (m : ModuleView) (checked : IsChecked m) (whole : FunctionView) (c : Machine) (run : IsTyped m whole c) where
  abbrev f : FunctionView
  f = run.top.function

  abbrev rs : Registers
  rs = c.top.registers

  abbrev i : InstrView
  i = run.top.instr

  abbrev Comes : Computed → Type 0
  Comes o = NextFits m whole (after (step_of m f i) c o)

  module _ (over : Ty) (name : List ℕ) (arguments : List (Ty × Val)) (is : i.act ≡ plain.call over name arguments) where
    hand : IsAtHand m f rs (plain.call over name arguments)
    hand = subst (IsAtHand m f rs) is (at_hand m checked f run.top.block run.top.before i run.top.after rs run.top.at)

    not_last : is_last i ≡ false
    not_last = ap (λ (a : Act). is_last (record i { act = a })) is

    one : (k l : Kind) → Some k ≡ Some l → k ≡ l
    one k l e = cc

    abbrev kind : Kind
    kind = if overflows (intrinsic_of name) then registers.pair_of over else registers.value_of over

    kind_is : (k : Kind) → kind_of i.act ≡ Some k → kind ≡ k
    kind_is k e = one kind k (sym (ap kind_of is) ∙ e)

    -- nothing is given where there is no result
    passes_on : is_void (meant m.types over) ≡ true → NextFits m whole (after (step_of m f i) c Passes)
    passes_on none =
        goes m checked whole c run rs
        (with_none m checked f run.top.block run.top.before i run.top.after rs run.top.at not_last
        (λ k e u. unused (overflows (intrinsic_of name)) (subst (λ k. is_used (whole_kind m.types k) ≡ true) (sym (kind_is k e)) u)))
      where
        unused : (b : Bool) → is_used (whole_kind m.types (if b then registers.pair_of over else registers.value_of over)) ≡ true → ⊥
        unused true u = (void_unused (meant m.types over) none).1 u
        unused false u = (void_unused (meant m.types over) none).0 u

    sets : (h : _) → is_held (whole_kind m.types kind) h ≡ true → NextFits m whole (after (step_of m f i) c (Sets h))
    sets h holds =
        goes m checked whole c run _
        (with_held m checked f run.top.block run.top.before i run.top.after rs run.top.at h not_last (λ k e u. subst (λ k. is_held (whole_kind m.types k) h ≡ true) (kind_is k e) holds))

    arguments_listed : (a : Ty × Val) → Contains arguments a → Contains (map (λ (p : Ty × Val). p.1) arguments ++ []) a.1
    arguments_listed a d = Contains-append_left (map (λ (p : Ty × Val). p.1) arguments) [] a.1 (Contains-map (λ (p : Ty × Val). p.1) arguments a d)

    argument_value : (a : Ty × Val) → Contains arguments a → IsValueOf (meant m.types a.0) (value_of c.memory rs (typed m f a.0 a.1))
    argument_value a d =
        operand_holds m f c.memory rs (meant m.types a.0) a.1 (hand.ready a.1 (arguments_listed a d))
        (each_true (λ (p : Ty × Val). fits (scope_of m f) (meant m.types p.0) p.1) arguments hand.fitting a d)

    abbrev Asks : Intrinsic → Type 0
    Asks listed = meets m.types over (map (λ (a : Ty × Val). a.0) arguments) listed.signature ≡ true

    abbrev Goes : code.Act → Type 0
    Goes a = NextFits m whole (act_on (program_of m) c (step_of m f i) a)

    result_same : (listed : Intrinsic) → Asks listed → is_same (meant m.types over) (meant m.types listed.signature.result) ≡ true
    result_same listed e = left_of (is_same (meant m.types over) (meant m.types listed.signature.result)) (are_one m.types (map (λ (a : Ty × Val). a.0) arguments) listed.signature.parameters) e

    arguments_same : (listed : Intrinsic) → Asks listed → are_one m.types (map (λ (a : Ty × Val). a.0) arguments) listed.signature.parameters ≡ true
    arguments_same listed e = right_of (is_same (meant m.types over) (meant m.types listed.signature.result)) (are_one m.types (map (λ (a : Ty × Val). a.0) arguments) listed.signature.parameters) e

    abbrev input : Ty × Val → Option Value
    input a = value_of c.memory rs (typed m f a.0 a.1)

    -- two arguments, integers of these widths
    record HaveTwo (v w : ℕ) : Type 0 where
      pub first : Ty × Val
      pub second : Ty × Val
      pub are : arguments ≡ first ∷ second ∷ []
      pub width : number_width (meant m.types first.0) ≡ v
      pub one : IsValueOf (integer v) (input first)
      pub other : IsValueOf (integer w) (input second)

    have_two : (v w : ℕ) → are_one m.types (map (λ (a : Ty × Val). a.0) arguments) (integer v ∷ integer w ∷ []) ≡ true → HaveTwo v w
    have_two v w e =
        let two = are_two m.types arguments (integer v) (integer w) e in
        let a = same_integer (meant m.types two.first.0) v two.one in
        let b = same_integer (meant m.types two.second.0) w two.other in record {
          first = two.first;
          second = two.second;
          are = two.are;
          width = ap number_width a;
          one = subst (λ t. IsValueOf t (input two.first)) a (argument_value two.first (subst (λ (xs : List (Ty × Val)). Contains xs two.first) (sym two.are) (0, omega arith, refl)));
          other = subst (λ t. IsValueOf t (input two.second)) b (argument_value two.second (subst (λ (xs : List (Ty × Val)). Contains xs two.second) (sym two.are) (1, omega arith, refl)));
        }

    -- ---- one class of intrinsics after the other

    module _ (of_kind : PairKind) (w : ℕ) (in_range : is_width w ≡ true) (no_pair : overflows (intrinsic_of name) ≡ false) (e : Asks (of_two of_kind w)) where
      made_comes : (r : Made) → MakesOf (integer w) r → Comes (computed_by r)
      made_comes (made.Gives v) x =
          sets (held.Value v) (subst (λ b. is_held (whole_kind m.types (if b then registers.pair_of over else registers.value_of over)) (held.Value v) ≡ true) (sym no_pair)
          (same_of (meant m.types over) (integer w) v (result_same (of_two of_kind w) e) x))
      made_comes (made.Sticks r) x = tt
      made_comes made.Lost x = absurd x

      pair_given : (o p : Option Value) → IsValueOf (integer w) o → IsValueOf (integer (second_width of_kind w)) p → Comes (on_two (values.pair of_kind w) o p)
      pair_given None p x y = absurd x
      pair_given (Some a) None x y = absurd y
      pair_given (Some a) (Some b) x y = made_comes (values.pair of_kind w a b) (pair_makes of_kind w a b in_range x y)

      two_come : Goes (pair_act m f of_kind arguments)
      two_come =
          let h = have_two w (second_width of_kind w) (arguments_same (of_two of_kind w) e) in
          subst (λ (xs : List (Ty × Val)). Goes (pair_act m f of_kind xs)) (sym h.are)
          (subst (λ n. Comes (on_two (values.pair of_kind n) (input h.first) (input h.second))) (sym h.width) (pair_given (input h.first) (input h.second) h.one h.other))

    module _ (flow : OverflowKind × Bool) (w : ℕ) (in_range : is_width w ≡ true) (is_pair : overflows (intrinsic_of name) ≡ true) (e : Asks (with_overflow w)) where
      both_come : (r q : Made) → MakesOf (integer w) r → MakesOf (integer 1) q → Comes (pair_by r q)
      both_come (made.Gives a) (made.Gives b) x y =
          sets (held.Pair a b) (subst (λ b'. is_held (whole_kind m.types (if b' then registers.pair_of over else registers.value_of over)) (held.Pair a b) ≡ true) (sym is_pair)
          (parts_are (meant m.types over) w a b (result_same (with_overflow w) e) x y))
      both_come (made.Gives a) (made.Sticks r) x y = tt
      both_come (made.Gives a) made.Lost x y = absurd y
      both_come (made.Sticks r) q x y = tt
      both_come made.Lost q x y = absurd x

      flow_given : (o p : Option Value) → IsValueOf (integer w) o → IsValueOf (integer w) p → Comes (on_pair (values.with_overflow flow.0 flow.1 w) o p)
      flow_given None p x y = absurd x
      flow_given (Some a) None x y = absurd y
      flow_given (Some a) (Some b) x y =
          both_come (values.with_overflow flow.0 flow.1 w 0 a b) (values.with_overflow flow.0 flow.1 w 1 a b) (first_makes flow.0 flow.1 w a b in_range x y) (second_makes flow.0 flow.1 w a b in_range x y)

      flow_comes : Goes (overflow_act m f flow arguments)
      flow_comes =
          let h = have_two w w (arguments_same (with_overflow w) e) in
          subst (λ (xs : List (Ty × Val)). Goes (overflow_act m f flow xs)) (sym h.are)
          (subst (λ n. Comes (on_pair (values.with_overflow flow.0 flow.1 n) (input h.first) (input h.second))) (sym h.width) (flow_given (input h.first) (input h.second) h.one h.other))

    assume_comes : Asks assuming → Goes (assume_act m f arguments)
    assume_comes e =
        let none = same_void (meant m.types over) nothing (result_same assuming e) refl in
        let h = is_one m.types arguments (integer 1) (arguments_same assuming e) in
        subst (λ (xs : List (Ty × Val)). Goes (assume_act m f xs)) (sym h.are)
        (by (meant m.types h.first.0) none (input h.first) (argument_value h.first (subst (λ (xs : List (Ty × Val)). Contains xs h.first) (sym h.are) (0, omega arith, refl))))
      where
        held_by : is_void (meant m.types over) ≡ true → (b : Bool) → Comes (if b then Passes else Sticks U17)
        held_by none true = passes_on none
        held_by none false = tt

        by : (t : Ty) → is_void (meant m.types over) ≡ true → (o : Option Value) → IsValueOf t o → Comes (assumed o)
        by t none None x = absurd x
        by t none (Some v) x = held_by none (assumes v)

    pub listed_fits : (listed : Intrinsic) → intrinsic_of name ≡ Some listed → Asks listed → Goes (intrinsic_act m f (overflow_kind name) name arguments)
    listed_fits listed e fit = by (listed_cases name listed e)
      where
        by : IsAssume name listed ⊎ (IsOverflow name listed ⊎ IsOfTwo name listed) → Goes (intrinsic_act m f (overflow_kind name) name arguments)
        by (inl h) =
            subst (λ o. Goes (intrinsic_act m f o name arguments)) (sym h.other)
            (subst (λ o. Goes (other_act m f o arguments)) (sym h.told) (assume_comes (subst Asks h.is fit)))
        by (inr (inl h)) =
            subst (λ o. Goes (intrinsic_act m f o name arguments)) (sym h.told)
            (flow_comes h.kind h.width h.in_range (ap overflows e ∙ ap (λ (j : Intrinsic). j.overflow) h.is) (subst Asks h.is fit))
        by (inr (inr h)) =
            subst (λ o. Goes (intrinsic_act m f o name arguments)) (sym h.other)
            (subst (λ o. Goes (other_act m f o arguments)) (sym h.told)
            (two_come h.kind h.width h.in_range (ap overflows e ∙ ap (λ (j : Intrinsic). j.overflow) h.is) (subst Asks h.is fit)))

    arguments_pass_on : DoPass (arguments_pass c.memory rs (inputs_of m f arguments))
    arguments_pass_on = arguments_do_pass m f c.memory (program_of m).objects rs arguments hand.fitting (λ p d. hand.ready p.1 (arguments_listed p d))

    pub hook_fits : is_void over ≡ true → Goes (act.Hook (inputs_of m f arguments))
    hook_fits none = by (arguments_pass c.memory rs (inputs_of m f arguments)) arguments_pass_on
      where
        void_whole : (over : Ty) → is_void over ≡ true → is_void (meant m.types over) ≡ true
        void_whole nothing e = refl
        void_whole t e = absurd cc

        by : (o : Computed) → DoPass o → Comes o
        by Passes p = passes_on (void_whole over none)
        by (Sticks r) p = tt
        by (Sets h) p = absurd p
        by Lost p = absurd p
