-- Returns: the caller goes on behind its call, or the run ends with a value of the function's result.
use Rattle.std.proofs.Common.{◌≡◌, ◌≢◌, Bool, true, false, ◌||◌, if◌then◌else◌, Option, Some, None, List, [], ◌∷◌, refl, sym, ◌∙◌, ap, subst, arith}
use Rattle.std.proofs.lemmas.Bool.{eqb-true}
use Rattle.ir_ast.specs.Plain.{Ty, nothing, integer, pointer, structure, Val}
use Rattle.ir_ast.specs.Program as plain
use Rattle.ir_ast.specs.Program.{Act, InstrView, BlockView, FunctionView, ModuleView}
use Rattle.ir_type.specs.Shape.{is_last}
use Rattle.ir_type.specs.Whole.{meant, is_same, is_void, is_scalar}
use Rattle.ir_typing.specs.Intrinsics.{intrinsic_of}
use Rattle.ir_typing.specs.Registers as registers
use Rattle.ir_typing.specs.Registers.{Kind, kind_of, overflows}
use Rattle.ir_typing.specs.Fits.{scope_of, fits, whole_kind}
use Rattle.ir_check.specs.Checked.{IsChecked}
use Rattle.ir_value.specs.declared.value.Value.{Value}
use Rattle.ir_value.specs.declared.value.Value.TheVariants.{Number, Null, Address, Poison}
use Rattle.ir_code.specs.declared.input.Input.{Input}
use Rattle.ir_machine.specs.declared.state.Held.TheVariants as held
use Rattle.ir_machine.specs.declared.state.Frame.{Frame}
use Rattle.ir_machine.specs.declared.state.Machine.{Machine}
use Rattle.ir_machine.specs.Values.{Registers, value_of}
use Rattle.ir_machine.specs.Step.{act_on, resumed, return_to, return_value, with_value}
use Rattle.ir_resolve.specs.Acts.{act_of}
use Rattle.ir_resolve.specs.Resolved.{step_of, program_of, result_place}
use Rattle.ir_kernel.specs.Typed.{is_of, is_held, IsValueOf}
use Rattle.ir_kernel.proofs.LoadTypes.{left_of}
use Rattle.ir_kernel.proofs.OperandTypes.{operand_holds}
use Rattle.ir_typed.proofs.RegisterKinds.{is_used, is_two}
use Rattle.ir_typed.proofs.Standing.{MovesOn, step_is, frame_moves}
use Rattle.ir_typed.proofs.Using.{IsAtHand, at_hand}
use Rattle.ir_typed.proofs.Keeping.{IsCaller, AreBelow, IsTyped, NextFits, with_held, with_none}

-- ---- types that are the same

pub of_same : (t u : Ty) (v : Value) → is_same t u ≡ true → is_of t v ≡ true → is_of u v ≡ true
of_same (integer a) (integer b) v e h = subst (λ n. is_of (integer n) v ≡ true) (eqb-true a b e) h
of_same pointer pointer v e h = h
of_same (integer a) u v e h = absurd cc
of_same pointer u v e h = absurd cc
of_same t u v e h = absurd cc

pub same_of : (t u : Ty) (v : Value) → is_same t u ≡ true → is_of u v ≡ true → is_of t v ≡ true
same_of (integer a) (integer b) v e h = subst (λ n. is_of (integer n) v ≡ true) (sym (eqb-true a b e)) h
same_of pointer pointer v e h = h
same_of t (integer b) v e h = absurd cc
same_of t pointer v e h = absurd cc
same_of t u v e h = absurd cc

void_same : (t u : Ty) → is_same t u ≡ true → is_void t ≡ true → is_void u ≡ true
void_same nothing nothing e h = refl
void_same nothing u e h = absurd cc
void_same t u e h = absurd cc

pub same_void : (t u : Ty) → is_same t u ≡ true → is_void u ≡ true → is_void t ≡ true
same_void nothing nothing e h = refl
same_void t nothing e h = absurd cc
same_void t u e h = absurd cc

pair_no_value : (t u : Ty) (v : Value) → is_same t u ≡ true → is_two t ≡ true → is_of u v ≡ true → ⊥
pair_no_value (structure ts) (structure us) v e p h = absurd cc
pair_no_value (structure ts) u v e p h = absurd cc
pair_no_value t u v e p h = absurd cc

pub void_unused : (t : Ty) → is_void t ≡ true → (is_scalar t ≡ true → ⊥) × (is_two t ≡ true → ⊥)
void_unused nothing e = (λ h. absurd cc, λ h. absurd cc)
void_unused t e = absurd cc

-- what a function of a result of a whole type gives back
abbrev pub IsResult : Ty → Option Value → Type 0
IsResult t None = is_void t ≡ true
IsResult t (Some v) = (is_of t v ≡ true) × (v ≢ Poison)

module _ (m : ModuleView) (checked : IsChecked m) (whole : FunctionView) where
  -- the caller with what was given back
  caller_moves : (fr : Frame) (called : FunctionView) (caller : IsCaller m fr called) (o : Option Value) → IsResult (meant m.types called.result) o
      → MovesOn m caller.frame.function caller.frame.block caller.frame.before caller.frame.instr (with_value (result_place caller.frame.function caller.frame.instr.result) o fr.registers)
  caller_moves fr called caller o given = by o given
    where
      result_kind : Kind
      result_kind = if overflows (intrinsic_of caller.callee) then registers.pair_of caller.over else registers.value_of caller.over

      one : (k l : Kind) → Some k ≡ Some l → k ≡ l
      one k l e = cc

      kind_is : (kind : Kind) → kind_of caller.frame.instr.act ≡ Some kind → result_kind ≡ kind
      kind_is kind e = one result_kind kind (sym (ap kind_of caller.act) ∙ e)

      not_last : is_last caller.frame.instr ≡ false
      not_last = ap (λ (a : Act). is_last (record caller.frame.instr { act = a })) caller.act

      no_result : is_void (meant m.types called.result) ≡ true → (b : Bool) → is_used (whole_kind m.types (if b then registers.pair_of caller.over else registers.value_of caller.over)) ≡ true → ⊥
      no_result g true u = (void_unused (meant m.types caller.over) (same_void (meant m.types caller.over) (meant m.types called.result) caller.same g)).1 u
      no_result g false u = (void_unused (meant m.types caller.over) (same_void (meant m.types caller.over) (meant m.types called.result) caller.same g)).0 u

      result : (v : Value) → is_of (meant m.types called.result) v ≡ true → (b : Bool) → is_used (whole_kind m.types (if b then registers.pair_of caller.over else registers.value_of caller.over)) ≡ true
          → is_held (whole_kind m.types (if b then registers.pair_of caller.over else registers.value_of caller.over)) (held.Value v) ≡ true
      result v g true u = absurd (pair_no_value (meant m.types caller.over) (meant m.types called.result) v caller.same u g)
      result v g false u = same_of (meant m.types caller.over) (meant m.types called.result) v caller.same g

      by : (o : Option Value) → IsResult (meant m.types called.result) o
          → MovesOn m caller.frame.function caller.frame.block caller.frame.before caller.frame.instr (with_value (result_place caller.frame.function caller.frame.instr.result) o fr.registers)
      by None g =
          with_none m checked caller.frame.function caller.frame.block caller.frame.before caller.frame.instr caller.frame.after fr.registers caller.frame.at not_last
          (λ kind e u. no_result g (overflows (intrinsic_of caller.callee)) (subst (λ k. is_used (whole_kind m.types k) ≡ true) (sym (kind_is kind e)) u))
      by (Some v) g =
          with_held m checked caller.frame.function caller.frame.block caller.frame.before caller.frame.instr caller.frame.after fr.registers caller.frame.at (held.Value v) not_last
          (λ kind e u. subst (λ k. is_held (whole_kind m.types k) (held.Value v) ≡ true) (kind_is kind e)
          (result v g.0 (overflows (intrinsic_of caller.callee)) (subst (λ k. is_used (whole_kind m.types k) ≡ true) (sym (kind_is kind e)) u)))

  module _ (c : Machine) (typed : IsTyped m whole c) where
    abbrev f : FunctionView
    f = typed.top.function

    abbrev rs : Registers
    rs = c.top.registers

    abbrev i : InstrView
    i = typed.top.instr

    back : (o : Option Value) → IsResult (meant m.types f.result) o → (frames : List Frame) → AreBelow m whole f frames → NextFits m whole (return_to (program_of m) c o frames)
    back None g [] same = (subst (λ (h : FunctionView). is_void (meant m.types h.result) ≡ true) (sym same) g, typed.bytes)
    back (Some v) g [] same = (subst (λ (h : FunctionView). is_of (meant m.types h.result) v ≡ true) (sym same) g.0, g.1, typed.bytes)
    back o g (fr ∷ frames) below =
        let caller = below.0 in
        subst (λ s. NextFits m whole (resumed c.memory o fr frames s)) (sym (step_is m checked fr caller.frame))
        (record {
          bytes = typed.bytes;
          top = frame_moves m checked fr caller.frame (with_value (result_place caller.frame.function caller.frame.instr.result) o fr.registers) (caller_moves fr f caller o g);
          below = below.1;
        })

    abbrev Goes : Act → Type 0
    Goes a = NextFits m whole (act_on (program_of m) c (step_of m f i) (act_of m f a))

    value_back : (o : Option Value) (t : Ty) → IsValueOf t o → is_same t (meant m.types f.result) ≡ true → NextFits m whole (return_value (program_of m) i.line c o)
    value_back None t x e = absurd x
    value_back (Some Poison) t x e = tt
    value_back (Some (Number n)) t x e = back (Some (Number n)) (of_same t (meant m.types f.result) (Number n) e x, λ h. cc) c.below typed.below
    value_back (Some Null) t x e = back (Some Null) (of_same t (meant m.types f.result) Null e x, λ h. cc) c.below typed.below
    value_back (Some (Address o z)) t x e = back (Some (Address o z)) (of_same t (meant m.types f.result) (Address o z) e x, λ h. cc) c.below typed.below

    given_back : (over : Ty) (value : Option Val) → IsAtHand m f rs (plain.give over value) → Goes (plain.give over value)
    given_back over None h = back None (void_same (meant m.types over) (meant m.types f.result) h.more (void_whole over (none_noted (is_void over) h.noted))) c.below typed.below
      where
        none_noted : (b : Bool) → (b || false) ≡ true → b ≡ true
        none_noted true e = refl
        none_noted false e = absurd cc

        void_whole : (over : Ty) → is_void over ≡ true → is_void (meant m.types over) ≡ true
        void_whole nothing e = refl
        void_whole t e = absurd cc
    given_back over (Some v) h =
        value_back (value_of c.memory rs (typed_ over v)) (meant m.types over)
        (operand_holds m f c.memory rs (meant m.types over) v (h.ready v (0, omega arith, refl)) (left_of (fits (scope_of m f) (meant m.types over) v) true h.fitting)) h.more
      where
        typed_ : Ty → Val → Input
        typed_ over v = Rattle.ir_resolve.specs.Acts.typed m f over v

    pub give_fits : (over : Ty) (value : Option Val) → i.act ≡ plain.give over value → Goes i.act
    give_fits over value is =
        subst Goes (sym is) (given_back over value (subst (IsAtHand m f rs) is (at_hand m checked f typed.top.block typed.top.before i typed.top.after rs typed.top.at)))
