-- Instructions that neither write nor jump: computations, loads and parts of pairs.
use Rattle.std.proofs.Common.{◌≡◌, ◌⊎◌, inl, inr, ℕ, zero, suc, ◌≤◌, ◌==◌, Bool, true, false, ◌&&◌, if◌then◌else◌, Option, Some, None, List, [], ◌∷◌, map, refl, sym, ◌∙◌, ap, subst, arith}
use Rattle.std.specs.Prelude.{Contains, position, bytes_eq, nat_le}
use Rattle.std.proofs.lemmas.Bool.{cases_Bool, leb-true}
use Rattle.ir_ast.specs.Plain.{Ty, integer, pointer, Val, local}
use Rattle.ir_ast.specs.Program as plain
use Rattle.ir_ast.specs.Program.{Act, InstrView, BlockView, FunctionView, ModuleView}
use Rattle.ir_ast.specs.declared.instr.Predicate.{Predicate}
use Rattle.ir_type.specs.Names.{entry_of}
use Rattle.ir_type.specs.Rows.{operands}
use Rattle.ir_type.specs.Shape.{is_last, keeps_notes}
use Rattle.ir_type.specs.Shape as shape
use Rattle.ir_type.specs.Whole.{Types, meant, is_pointer}
use Rattle.ir_type.proofs.Places.{no_place}
use Rattle.ir_typing.specs.Registers.{Kind, slot_of, pair_of, kind_of, blocks_of, registers_of}
use Rattle.ir_typing.specs.Registers as registers
use Rattle.ir_typing.specs.Places.{register_names}
use Rattle.ir_typing.specs.Fits.{scope_of, fits, pair_at, is_pair, access_fits, range_fits}
use Rattle.ir_check.specs.Checked.{IsChecked}
use Rattle.ir_layout.specs.Bytes.{object_of, number_at}
use Rattle.ir_layout.specs.Sizes.{written_or}
use Rattle.ir_value.specs.declared.value.Value.{Value}
use Rattle.ir_value.specs.declared.value.Value.TheVariants.{Number, Null, Address, Poison}
use Rattle.ir_value.specs.declared.value.Made.{Made}
use Rattle.ir_value.specs.declared.value.Made.TheVariants as made
use Rattle.ir_value.specs.declared.value.StuckReason.TheVariants.{U7, U16}
use Rattle.ir_value.specs.declared.access.Access.{Access}
use Rattle.ir_value.specs.declared.access.Access.TheVariants.{At, Not, Nowhere}
use Rattle.ir_value.specs.Numbers.{is_width, select, freeze}
use Rattle.ir_code.specs.declared.act.Span.{Span}
use Rattle.ir_code.specs.declared.act.Step.{Step}
use Rattle.ir_code.specs.declared.program.Object.{Object}
use Rattle.ir_code.specs.declared.program.Program.{Program}
use Rattle.ir_machine.specs.declared.state.Held.{Held}
use Rattle.ir_machine.specs.declared.state.Held.TheVariants as held
use Rattle.ir_machine.specs.declared.state.Computed.{Computed}
use Rattle.ir_machine.specs.declared.state.Computed.TheVariants.{Sets, Passes, Sticks, Lost}
use Rattle.ir_machine.specs.declared.state.Machine.{Machine}
use Rattle.ir_machine.specs.Values.{Registers, held_at, value_of, computed, computed_by, on_one, on_two, on_three, given, part_of, within_spans, is_in_spans, loaded_from, loaded, reached, are_bytes, is_aligned, slot_loaded, loaded_slot}
use Rattle.ir_machine.specs.Step.{after, act_on}
use Rattle.ir_resolve.specs.Operands.{width_in, input_of}
use Rattle.ir_resolve.specs.Acts.{act_of, typed, compare_by, load_by, bytes_of, extract_of, register_place, slot_place, spans_of, number_width}
use Rattle.ir_resolve.specs.Resolved.{step_of, program_of}
use Rattle.ir_walk.specs.Walk.{Memory}
use Rattle.ir_kernel.specs.Typed.{MakesOf, IsValueOf, IsSetTo, IsReady}
use Rattle.ir_kernel.specs.Steps.{ComputesOf, GivesOf, is_computation, AreBytes}
use Rattle.ir_kernel.proofs.LoadTypes.{left_of, right_of, load_gives}
use Rattle.ir_kernel.proofs.OperandTypes.{names_kept, operand_holds}
use Rattle.ir_kernel.proofs.StepTypes.{computation_gives}
use Rattle.ir_kernel.proofs.StoreTypes.{part_gives}
use Rattle.ir_kernel.proofs.ValueTypes.{select_makes, freeze_makes}
use Rattle.ir_typed.specs.Spelled.{is_spelled, AreSpelled}
use Rattle.ir_typed.proofs.Using.{fit, ready, IsAtHand, at_hand}
use Rattle.ir_typed.proofs.Keeping.{IsTyped, NextFits, is_pass, given_fits, in_block}

abbrev pub is_simple : Act → Bool
is_simple (plain.load over target align range) = true
is_simple (plain.extract w from part) = true
is_simple a = is_computation a

-- ---- something is given, or the run is stuck or lost

made_gives : (r : Made) → is_pass (computed_by r) ≡ false
made_gives (made.Gives v) = refl
made_gives (made.Sticks r) = refl
made_gives made.Lost = refl

one_gives : (f : Value → Made) (o : Option Value) → is_pass (on_one f o) ≡ false
one_gives f None = refl
one_gives f (Some v) = made_gives (f v)

two_give : (f : Value → Value → Made) (o p : Option Value) → is_pass (on_two f o p) ≡ false
two_give f None p = refl
two_give f (Some v) p = one_gives (f v) p

three_give : (f : Value → Value → Value → Made) (o p q : Option Value) → is_pass (on_three f o p q) ≡ false
three_give f None p q = refl
three_give f (Some v) p q = two_give (f v) p q

given_gives : (o : Option Value) → is_pass (given o) ≡ false
given_gives None = refl
given_gives (Some v) = refl

either : (b : Bool) (x y : Computed) → is_pass x ≡ false → is_pass y ≡ false → is_pass (if b then x else y) ≡ false
either true x y p q = p
either false x y p q = q

within_gives : (w : ℕ) (spans : Option (List Span)) (v : Value) → is_pass (within_spans w spans v) ≡ false
within_gives w spans (Number n) = either (is_in_spans w n spans) (Sets (held.Value (Number n))) (Sticks U16) refl refl
within_gives w spans Null = refl
within_gives w spans (Address o x) = refl
within_gives w spans Poison = refl

from_gives : (memory : Memory) (w bytes : ℕ) (spans : Option (List Span)) (a : Access) → is_pass (loaded_from memory w bytes spans a) ≡ false
from_gives memory w bytes spans (At o x) = within_gives w spans (Number (number_at bytes x (object_of memory o)))
from_gives memory w bytes spans (Not r) = refl
from_gives memory w bytes spans Nowhere = refl

load_gives_some : (memory : Memory) (objects : List Object) (w bytes align : ℕ) (spans : Option (List Span)) (o : Option Value) → is_pass (loaded memory objects w bytes align spans o) ≡ false
load_gives_some memory objects w bytes align spans None = refl
load_gives_some memory objects w bytes align spans (Some v) =
    either (are_bytes bytes) (loaded_from memory w bytes spans (reached memory objects bytes align v)) Lost (from_gives memory w bytes spans (reached memory objects bytes align v)) refl

stored_gives : (w : ℕ) (spans : Option (List Span)) (o : Option Value) → is_pass (slot_loaded w spans o) ≡ false
stored_gives w spans None = refl
stored_gives w spans (Some v) = within_gives w spans v

slot_gives : (w align : ℕ) (spans : Option (List Span)) (h : Option Held) → is_pass (loaded_slot w align spans h) ≡ false
slot_gives w align spans None = refl
slot_gives w align spans (Some (held.Value v)) = refl
slot_gives w align spans (Some (held.Pair a b)) = refl
slot_gives w align spans (Some (held.Slot own stored)) = either (is_aligned align own) (slot_loaded w spans stored) (Sticks U7) (stored_gives w spans stored) refl

part_gives_some : (part : ℕ) (h : Option Held) → is_pass (part_of part h) ≡ false
part_gives_some part None = refl
part_gives_some part (Some (held.Value v)) = refl
part_gives_some part (Some (held.Slot own stored)) = refl
part_gives_some part (Some (held.Pair a b)) = either (part == 0) (Sets (held.Value a)) (if part == 1 then Sets (held.Value b) else Lost) refl (either (part == 1) (Sets (held.Value b)) Lost refl refl)

module _ (m : ModuleView) (f : FunctionView) (P : Program) (c : Machine) (s : Step) where
  abbrev comes : Rattle.ir_code.specs.declared.act.Act.Act → Computed
  comes a = computed c.memory P.objects c.top.registers a

  pub record IsComputed (a : Rattle.ir_code.specs.declared.act.Act.Act) : Type 0 where
    pub by : act_on P c s a ≡ after s c (comes a)
    pub some : is_pass (comes a) ≡ false

  compared : (samesign : Bool) (p : Predicate) (o : Option ℕ) (pointers : Bool) (a b : Val) → IsComputed (compare_by m f samesign p o pointers a b)
  compared samesign p (Some w) pointers a b = record { by = refl; some = two_give _ (value_of c.memory c.top.registers (input_of m f (Some w) a)) (value_of c.memory c.top.registers (input_of m f (Some w) b)) }
  compared samesign p None true a b = record { by = refl; some = two_give _ (value_of c.memory c.top.registers (input_of m f None a)) (value_of c.memory c.top.registers (input_of m f None b)) }
  compared samesign p None false a b = record { by = refl; some = refl }

  load_computed : (t : Ty) (target : Val) (align : ℕ) (spans : Option (List Span)) (o : Option ℕ) → IsComputed (load_by m f t target align spans o)
  load_computed t target align spans (Some k) = record { by = refl; some = slot_gives (number_width t) (written_or align t) spans (held_at c.top.registers k) }
  load_computed t target align spans None = record { by = refl; some = load_gives_some c.memory P.objects (number_width t) (bytes_of t) (written_or align t) spans (value_of c.memory c.top.registers (input_of m f None target)) }

  part_computed : (o : Option ℕ) (part : ℕ) → IsComputed (extract_of o part)
  part_computed None part = record { by = refl; some = refl }
  part_computed (Some k) part = record { by = refl; some = part_gives_some part (held_at c.top.registers k) }

  pub simple_computed : (a : Act) → is_simple a ≡ true → IsComputed (act_of m f a)
  simple_computed (plain.binary kind flags w a b) e = record { by = refl; some = two_give _ (value_of c.memory c.top.registers (input_of m f (Some w) a)) (value_of c.memory c.top.registers (input_of m f (Some w) b)) }
  simple_computed (plain.compare samesign p over a b) e = compared samesign p (width_in m over) (is_pointer (meant m.types over)) a b
  simple_computed (plain.select v over a b) e = record { by = refl; some = three_give (λ x y z. select x y z) (value_of c.memory c.top.registers (input_of m f (Some 1) v)) (value_of c.memory c.top.registers (typed m f over a)) (value_of c.memory c.top.registers (typed m f over b)) }
  simple_computed (plain.convert kind flags from to a) e = record { by = refl; some = one_gives _ (value_of c.memory c.top.registers (input_of m f (Some from) a)) }
  simple_computed (plain.freeze over a) e = record { by = refl; some = one_gives (λ x. freeze x) (value_of c.memory c.top.registers (typed m f over a)) }
  simple_computed (plain.slot over align) e = record { by = refl; some = refl }
  simple_computed (plain.offset a) e = record { by = refl; some = given_gives _ }
  simple_computed (plain.load over target align range) e = load_computed (meant m.types over) target align (spans_of m (number_width (meant m.types over)) range) (slot_place f target)
  simple_computed (plain.extract w from part) e = part_computed (register_place f from) part
  simple_computed a e = absurd cc

-- ---- it is what the register's kind asks

gives_of_kind : (types : Types) (over : Ty) (o : Computed) → GivesOf (meant types over) o → ComputesOf types (Some (registers.value_of over)) o
gives_of_kind types over (Sets (held.Value v)) h = h
gives_of_kind types over (Sets (held.Pair a b)) h = absurd h
gives_of_kind types over (Sets (held.Slot align stored)) h = absurd h
gives_of_kind types over Passes h = tt
gives_of_kind types over (Sticks r) h = tt
gives_of_kind types over Lost h = absurd h

module _ (m : ModuleView) (f : FunctionView) (memory : Memory) (objects : List Object) (rs : Registers) where
  abbrev Gives : Act → Type 0
  Gives a = ComputesOf m.types (kind_of a) (computed memory objects rs (act_of m f a))

  extract_gives : (w part : ℕ) (from : Val) → part ≤ 1 → pair_at (scope_of m f) w from ≡ true → IsReady m f rs from → Gives (plain.extract w from part)
  extract_gives w part (local x) l e good = by (entry_of x (scope_of m f).registers) (position (bytes_eq x) (register_names f)) refl refl
    where
      clash : {A : Type 0} → false ≡ true → A
      clash e = absurd cc

      none_is : {A : Type 0} {k : Kind} → None ≡ Some k → A
      none_is e = absurd cc

      types_same : (b : Bool) → meant m.types (if b then integer w else integer 1) ≡ (if b then integer w else integer 1)
      types_same true = refl
      types_same false = refl

      with_pair : (k : ℕ) (kind : Kind) → position (bytes_eq x) (register_names f) ≡ Some k → is_pair w (Some kind) ≡ true → IsSetTo kind (held_at rs k) → Gives (plain.extract w (local x) part)
      with_pair k (pair_of t) q p holds =
          let g = part_gives w part t (held_at rs k) l p holds in
          let typed = subst (λ t. GivesOf t (part_of part (held_at rs k))) (sym (types_same (part == 0))) g in
          subst (λ o. ComputesOf m.types (Some (registers.value_of (if part == 0 then integer w else integer 1))) (computed memory objects rs (extract_of o part))) (sym q)
          (gives_of_kind m.types (if part == 0 then integer w else integer 1) (part_of part (held_at rs k)) typed)
      with_pair k (registers.value_of t) q p holds = absurd cc
      with_pair k (slot_of t) q p holds = absurd cc

      by : (o : Option Kind) (q : Option ℕ) → entry_of x (scope_of m f).registers ≡ o → position (bytes_eq x) (register_names f) ≡ q → Gives (plain.extract w (local x) part)
      by None q h p = clash (sym (ap (is_pair w) h) ∙ e)
      by (Some kind) (Some k) h p = with_pair k kind p (sym (ap (is_pair w) h) ∙ e) (good.set x (0, omega arith, refl) k kind p h)
      by (Some kind) None h p = none_is (sym (no_place (scope_of m f).registers x (ap (position (bytes_eq x)) (names_kept m.types (registers_of f)) ∙ p)) ∙ h)
  extract_gives w part v l e good = absurd cc

  other_gives : AreBytes memory → (a : Act) → IsAtHand m f rs a → is_simple a ≡ true → is_computation a ≡ false → Gives a
  other_gives bytes (plain.load over target align range) h e n =
      load_gives m f memory objects rs over target align range (h.ready target (0, omega arith, refl)) bytes
      (left_of (access_fits (scope_of m f) over target align) (range_fits m.types m over range) h.more) h.inside
  other_gives bytes (plain.extract w from part) h e n =
      extract_gives w part from (leb-true part 1 (right_of (shape.is_width w) (nat_le part 1) h.noted)) h.more (h.ready from (0, omega arith, refl))
  other_gives bytes a h e n = absurd cc

-- ---- widths of operands, where they count

abbrev is_chosen : Act → Bool
is_chosen (plain.select v over a b) = true
is_chosen (plain.freeze over a) = true
is_chosen _ = false

same_width : (v w : ℕ) → integer v ≡ integer w → is_width v ≡ true → is_width w ≡ true
same_width v w e h = subst (λ t. by t ≡ true) e h
  where
    by : Ty → Bool
    by (integer w) = is_width w
    by _ = false

one_of : {A : Type 0} (x y : A) (P : A → Type 0) → P x → P y → (z : A) → Contains (x ∷ y ∷ []) z → P z
one_of x y P p q z (zero, l, e) = subst P e p
one_of x y P p q z (suc zero, l, e) = subst P e q
one_of x y P p q z (suc (suc k), l, e) = absurd (omega (arith, l))

only_one : {A : Type 0} (x : A) (P : A → Type 0) → P x → (z : A) → Contains (x ∷ []) z → P z
only_one x P p z (zero, l, e) = subst P e p
only_one x P p z (suc k, l, e) = absurd (omega (arith, l))

compared_widths : (types : Types) (samesign : Bool) (p : Predicate) (over : Ty) (a b : Val) → keeps_notes (plain.compare samesign p over a b) ≡ true → is_spelled (plain.compare samesign p over a b) ≡ true → (w : ℕ) → meant types over ≡ integer w → is_width w ≡ true
compared_widths types samesign p (integer v) a b n h w e = same_width v w e h
compared_widths types samesign p pointer a b n h w e = absurd cc
compared_widths types samesign p over a b n h w e = absurd cc

abbrev HasWidths : Types → Act → Type 0
HasWidths types a = (t : Ty) (w : ℕ) → Contains (map (λ (p : Ty × Val). p.0) (operands a)) t → meant types t ≡ integer w → is_width w ≡ true

widths_there : (types : Types) (a : Act) → is_computation a ≡ true → is_chosen a ≡ false → keeps_notes a ≡ true → is_spelled a ≡ true → HasWidths types a
widths_there types (plain.binary kind flags v a b) s n k h t w c e =
    one_of (integer v) (integer v) (λ t. meant types t ≡ integer w → is_width w ≡ true) (λ e. same_width v w e k) (λ e. same_width v w e k) t c e
widths_there types (plain.compare samesign p over a b) s n k h t w c e =
    one_of over over (λ t. meant types t ≡ integer w → is_width w ≡ true) (compared_widths types samesign p over a b k h w) (compared_widths types samesign p over a b k h w) t c e
widths_there types (plain.convert kind flags from to a) s n k h t w c e =
    let both = left_of (shape.is_width from && shape.is_width to) (shape.is_narrower kind from to) k in
    only_one (integer from) (λ t. meant types t ≡ integer w → is_width w ≡ true) (λ e. same_width from w e (left_of (shape.is_width from) (shape.is_width to) both)) t c e
widths_there types (plain.slot over align) s n k h t w (j, l, g) e = absurd (omega (arith, l))
widths_there types (plain.offset a) s n k h t w c e = only_one pointer (λ t. meant types t ≡ integer w → is_width w ≡ true) (λ e. absurd cc) t c e
widths_there types (plain.select v over a b) s n k h t w c e = absurd cc
widths_there types (plain.freeze over a) s n k h t w c e = absurd cc
widths_there types a s n k h t w c e = absurd cc

-- ---- `select` and `freeze`, of any width

made_computes : (types : Types) (t : Ty) (r : Made) → MakesOf (meant types t) r → ComputesOf types (Some (registers.value_of t)) (computed_by r)
made_computes types t (made.Gives v) h = h
made_computes types t (made.Sticks r) h = tt
made_computes types t made.Lost h = absurd h

freeze_computes : (types : Types) (t : Ty) (o : Option Value) → IsValueOf (meant types t) o → ComputesOf types (Some (registers.value_of t)) (on_one (λ x. freeze x) o)
freeze_computes types t None x = absurd x
freeze_computes types t (Some v) x = made_computes types t (freeze v) (freeze_makes (meant types t) v x)

select_computes : (types : Types) (t : Ty) (o p q : Option Value) → IsValueOf (integer 1) o → IsValueOf (meant types t) p → IsValueOf (meant types t) q
    → ComputesOf types (Some (registers.value_of t)) (on_three (λ x y z. select x y z) o p q)
select_computes types t None p q x y z = absurd x
select_computes types t (Some c) None q x y z = absurd y
select_computes types t (Some c) (Some a) None x y z = absurd z
select_computes types t (Some c) (Some a) (Some b) x y z = made_computes types t (select c a b) (select_makes (meant types t) c a b x y z)

chosen_gives : (m : ModuleView) (f : FunctionView) (memory : Memory) (objects : List Object) (rs : Registers) (a : Act) → IsAtHand m f rs a → is_chosen a ≡ true
    → ComputesOf m.types (kind_of a) (computed memory objects rs (act_of m f a))
chosen_gives m f memory objects rs (plain.select v over a b) h e =
    let t = meant m.types over in
    let F = fits (scope_of m f) in
    let rest = right_of (F (integer 1) v) (F t a && (F t b && true)) h.fitting in
    select_computes m.types over (value_of memory rs (input_of m f (Some 1) v)) (value_of memory rs (typed m f over a)) (value_of memory rs (typed m f over b))
    (operand_holds m f memory rs (integer 1) v (h.ready v (0, omega arith, refl)) (left_of (F (integer 1) v) (F t a && (F t b && true)) h.fitting))
    (operand_holds m f memory rs t a (h.ready a (1, omega arith, refl)) (left_of (F t a) (F t b && true) rest))
    (operand_holds m f memory rs t b (h.ready b (2, omega arith, refl)) (left_of (F t b) true (right_of (F t a) (F t b && true) rest)))
chosen_gives m f memory objects rs (plain.freeze over a) h e =
    freeze_computes m.types over (value_of memory rs (typed m f over a))
    (operand_holds m f memory rs (meant m.types over) a (h.ready a (0, omega arith, refl)) (left_of (fits (scope_of m f) (meant m.types over) a) true h.fitting))
chosen_gives m f memory objects rs a h e = absurd cc

module _ (m : ModuleView) (checked : IsChecked m) (spelled : AreSpelled m) (whole : FunctionView) (c : Machine) (typed : IsTyped m whole c) where
  pub simple_fits : is_simple typed.top.instr.act ≡ true → NextFits m whole (act_on (program_of m) c (step_of m typed.top.function typed.top.instr) (act_of m typed.top.function typed.top.instr.act))
  simple_fits e =
      let t = typed.top in
      let s = step_of m t.function t.instr in
      let known = simple_computed m t.function (program_of m) c s t.instr.act e in
      let good = fit m checked t.function t.block t.before t.instr t.after c.top.registers t.at in
      let operand = ready m checked t.function t.block t.before t.instr t.after c.top.registers t.at in
      let among = in_block m checked t.function t.block t.before t.instr t.after c.top.registers t.at in
      let hand = at_hand m checked t.function t.block t.before t.instr t.after c.top.registers t.at in
      let gives : ComputesOf m.types (kind_of t.instr.act) (computed c.memory (program_of m).objects c.top.registers (act_of m t.function t.instr.act)) = by (cases_Bool (is_computation t.instr.act))
      (λ b. by (cases_Bool (is_chosen t.instr.act))
      (λ d. chosen_gives m t.function c.memory (program_of m).objects c.top.registers t.instr.act hand d)
      (λ d. computation_gives m t.function c.memory (program_of m).objects c.top.registers t.before t.instr b (record {
        noted = good.noted;
        fitting = good.fitting;
        ready = operand;
        widths = widths_there m.types t.instr.act b d good.noted (spelled t.function t.block t.instr t.at.own t.at.within among);
      })))
      (λ b. other_gives m t.function c.memory (program_of m).objects c.top.registers typed.bytes t.instr.act hand e b) in
      subst (NextFits m whole) (sym known.by)
      (given_fits m checked whole c typed (computed c.memory (program_of m).objects c.top.registers (act_of m t.function t.instr.act)) (goes_on t.instr.act e) gives (λ p. clash (sym (ap is_pass p) ∙ known.some)))
    where
      clash : true ≡ false → ⊥
      clash e = cc

      by : {A : Type 0} {b : Bool} → (b ≡ true) ⊎ (b ≡ false) → (b ≡ true → A) → (b ≡ false → A) → A
      by (inl h) holds fails = holds h
      by (inr h) holds fails = fails h

      goes_on : (a : Act) → is_simple a ≡ true → is_last (record typed.top.instr { act = a }) ≡ false
      goes_on (plain.goto b) e = absurd cc
      goes_on (plain.branch v taken other) e = absurd cc
      goes_on (plain.switch w on default cases) e = absurd cc
      goes_on (plain.give over v) e = absurd cc
      goes_on plain.unreachable e = absurd cc
      goes_on a e = refl
