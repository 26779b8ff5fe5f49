-- What computations give fits their registers.
use Rattle.std.proofs.Common.{◌≡◌, ℕ, zero, suc, ◌<◌, ◌&&◌, ◌==◌, if◌then◌else◌, Bool, true, false, Option, Some, None, List, [], ◌∷◌, map, refl, arith}
use Rattle.std.specs.Prelude.{Contains, is_some}
use Rattle.ir_ast.specs.Plain.{Ty, nothing, integer, pointer, array, structure, packed, named, opaque, Val, address}
use Rattle.ir_ast.specs.Program as plain
use Rattle.ir_ast.specs.Program.{InstrView, FunctionView, ModuleView}
use Rattle.ir_type.specs.Rows.{operands, values}
use Rattle.ir_type.specs.Shape as shape
use Rattle.ir_type.specs.Shape.{keeps_notes}
use Rattle.ir_type.specs.Whole.{Types, meant}
use Rattle.ir_typing.specs.Fits.{Scope, scope_of, fits, operands_fit, further, is_phi}
use Rattle.std.specs.List.{list_all}
use Rattle.ir_typing.specs.Registers as registers
use Rattle.ir_typing.specs.Registers.{kind_of}
use Rattle.ir_value.specs.declared.value.Value.{Value}
use Rattle.std.proofs.lemmas.List.Elements.{Contains-append_right}
use Rattle.ir_value.specs.declared.value.Value.TheVariants.{Number, Null, Address, Poison}
use Rattle.ir_value.specs.declared.value.Made.{Made}
use Rattle.ir_value.specs.declared.value.Made.TheVariants.{Gives, Sticks, Lost}
use Rattle.ir_value.specs.Numbers.{is_width, binary, compare_numbers, convert, freeze, select}
use Rattle.ir_code.specs.declared.program.Object.{Object}
use Rattle.ir_code.specs.declared.act.Case.{Case}
use Rattle.ir_machine.specs.declared.state.Computed.{Computed}
use Rattle.ir_machine.specs.declared.state.Target.TheVariants as target
use Rattle.ir_machine.specs.Step.{branch_to, switch_to}
use Rattle.ir_machine.specs.Values.{Registers, tried, arguments_pass, value_of, computed_by, on_one, on_two, on_three, given, compare_sized, computed, size_at}
use Rattle.ir_whole.specs.Questions.{width_of}
use Rattle.ir_resolve.specs.Operands.{input_of}
use Rattle.ir_resolve.specs.Acts.{act_of, typed}
use Rattle.ir_walk.specs.Walk.{Memory}
use Rattle.ir_kernel.specs.Typed.{is_of, MakesOf, IsValueOf, IsReady}
use Rattle.ir_kernel.specs.Steps.{ComputesOf, is_computation, IsPrepared, IsFound, DoPass}
use Rattle.ir_kernel.proofs.ValueTypes.{number_of_width, binary_makes, compare_makes, compare_pointers_makes, convert_makes, select_makes, freeze_makes}
use Rattle.ir_kernel.proofs.OperandTypes.{operand_holds}

left_of : (a b : Bool) → (a && b) ≡ true → a ≡ true
left_of true b e = refl
left_of false b e = absurd cc

right_of : (a b : Bool) → (a && b) ≡ true → b ≡ true
right_of true b e = e
right_of false b e = absurd cc

-- ---- what is made

module _ (types : Types) (t : Ty) where
  makes : (r : Made) → MakesOf (meant types t) r → ComputesOf types (Some (registers.value_of t)) (computed_by r)
  makes (Gives v) h = h
  makes (Sticks r) h = tt
  makes Lost h = absurd h

  one_makes : (u : Ty) (f : Value → Made) (o : Option Value) → IsValueOf u o → ((v : Value) → is_of u v ≡ true → MakesOf (meant types t) (f v)) → ComputesOf types (Some (registers.value_of t)) (on_one f o)
  one_makes u f None x h = absurd x
  one_makes u f (Some v) x h = makes (f v) (h v x)

  two_make : (u v : Ty) (f : Value → Value → Made) (o p : Option Value) → IsValueOf u o → IsValueOf v p
      → ((a b : Value) → is_of u a ≡ true → is_of v b ≡ true → MakesOf (meant types t) (f a b)) → ComputesOf types (Some (registers.value_of t)) (on_two f o p)
  two_make u v f None p x y h = absurd x
  two_make u v f (Some a) p x y h = one_makes v (f a) p y (λ b z. h a b x z)

  three_make : (u v w : Ty) (f : Value → Value → Value → Made) (o p q : Option Value) → IsValueOf u o → IsValueOf v p → IsValueOf w q
      → ((a b c : Value) → is_of u a ≡ true → is_of v b ≡ true → is_of w c ≡ true → MakesOf (meant types t) (f a b c)) → ComputesOf types (Some (registers.value_of t)) (on_three f o p q)
  three_make u v w f None p q x y z h = absurd x
  three_make u v w f (Some a) p q x y z h = two_make v w (f a) p q y z (λ b c k l. h a b c x k l)

  given_makes : (o : Option Value) → IsValueOf (meant types t) o → ComputesOf types (Some (registers.value_of t)) (given o)
  given_makes None x = absurd x
  given_makes (Some v) x = x

-- ---- computations

module _ (m : ModuleView) (f : FunctionView) (memory : Memory) (objects : List Object) (rs : Registers) where
  abbrev s : Scope
  s = scope_of m f

  abbrev input : Ty → Val → Option Value
  input t v = value_of memory rs (input_of m f (width_of t) v)

  abbrev gives : plain.Act → Type 0
  gives a = ComputesOf m.types (kind_of a) (computed memory objects rs (act_of m f a))

  -- the operands at hand
  record IsAtHand (a : plain.Act) : Type 0 where
    pub noted : keeps_notes a ≡ true
    pub all : operands_fit s a ≡ true
    pub ready : (v : Val) → Contains (values a) v → IsReady m f rs v
    pub widths : (t : Ty) (w : ℕ) → Contains (map (λ p. p.0) (operands a)) t → meant m.types t ≡ integer w → is_width w ≡ true

  compare_gives : (samesign : Bool) (predicate : Rattle.ir_ast.specs.declared.instr.Predicate.Predicate) (over : Ty) (a b : Val) → IsAtHand (plain.compare samesign predicate over a b) → gives (plain.compare samesign predicate over a b)
  compare_gives samesign predicate (integer w) a b h =
      two_make m.types (integer 1) (integer w) (integer w) (compare_numbers samesign predicate w) (input (integer w) a) (input (integer w) b)
      (operand_holds m f memory rs (integer w) a (h.ready a (0, omega arith, refl)) (left_of (fits s (integer w) a) (fits s (integer w) b && true) h.all))
      (operand_holds m f memory rs (integer w) b (h.ready b (1, omega arith, refl)) (left_of (fits s (integer w) b) true (right_of (fits s (integer w) a) (fits s (integer w) b && true) h.all)))
      (λ u v x y. compare_makes samesign predicate w u v (h.widths (integer w) w (0, omega arith, refl) refl) x y)
  compare_gives samesign predicate pointer a b h =
      two_make m.types (integer 1) pointer pointer (compare_sized memory predicate) (input pointer a) (input pointer b)
      (operand_holds m f memory rs pointer a (h.ready a (0, omega arith, refl)) (left_of (fits s pointer a) (fits s pointer b && true) h.all))
      (operand_holds m f memory rs pointer b (h.ready b (1, omega arith, refl)) (left_of (fits s pointer b) true (right_of (fits s pointer a) (fits s pointer b && true) h.all)))
      (λ u v x y. compare_pointers_makes predicate (size_at memory u) (size_at memory v) u v x y)
  compare_gives samesign predicate nothing a b h = let n = h.noted in absurd cc
  compare_gives samesign predicate (array n t) a b h = let n = h.noted in absurd cc
  compare_gives samesign predicate (structure ts) a b h = let n = h.noted in absurd cc
  compare_gives samesign predicate (packed ts) a b h = let n = h.noted in absurd cc
  compare_gives samesign predicate (named x) a b h = let n = h.noted in absurd cc
  compare_gives samesign predicate opaque a b h = let n = h.noted in absurd cc

  act_gives : (a : plain.Act) → is_computation a ≡ true → IsAtHand a → gives a
  act_gives (plain.binary kind flags w a b) c h =
      two_make m.types (integer w) (integer w) (integer w) (binary flags kind w) (input (integer w) a) (input (integer w) b)
      (operand_holds m f memory rs (integer w) a (h.ready a (0, omega arith, refl)) (left_of (fits s (integer w) a) (fits s (integer w) b && true) h.all))
      (operand_holds m f memory rs (integer w) b (h.ready b (1, omega arith, refl)) (left_of (fits s (integer w) b) true (right_of (fits s (integer w) a) (fits s (integer w) b && true) h.all)))
      (λ u v x y. binary_makes flags kind w u v h.noted x y)
  act_gives (plain.compare samesign predicate over a b) c h = compare_gives samesign predicate over a b h
  act_gives (plain.select condition over a b) c h =
      let t = meant m.types over in
      let rest = right_of (fits s (integer 1) condition) (fits s t a && (fits s t b && true)) h.all in
      three_make m.types over (integer 1) t t select (input (integer 1) condition) (input t a) (input t b)
      (operand_holds m f memory rs (integer 1) condition (h.ready condition (0, omega arith, refl)) (left_of (fits s (integer 1) condition) (fits s t a && (fits s t b && true)) h.all))
      (operand_holds m f memory rs t a (h.ready a (1, omega arith, refl)) (left_of (fits s t a) (fits s t b && true) rest))
      (operand_holds m f memory rs t b (h.ready b (2, omega arith, refl)) (left_of (fits s t b) true (right_of (fits s t a) (fits s t b && true) rest)))
      (λ u v z x y k. select_makes t u v z x y k)
  act_gives (plain.convert kind flags from to a) c h =
      let both = left_of (shape.is_width from && shape.is_width to) (shape.is_narrower kind from to) h.noted in
      one_makes m.types (integer to) (integer from) (convert flags kind from to) (input (integer from) a)
      (operand_holds m f memory rs (integer from) a (h.ready a (0, omega arith, refl)) (left_of (fits s (integer from) a) true h.all))
      (λ v x. convert_makes flags kind from to v (left_of (shape.is_width from) (shape.is_width to) both) (right_of (shape.is_width from) (shape.is_width to) both)
      (right_of (shape.is_width from && shape.is_width to) (shape.is_narrower kind from to) h.noted) x)
  act_gives (plain.freeze over a) c h =
      let t = meant m.types over in
      one_makes m.types over t freeze (input t a) (operand_holds m f memory rs t a (h.ready a (0, omega arith, refl)) (left_of (fits s t a) true h.all)) (λ v x. freeze_makes t v x)
  act_gives (plain.slot over align) c h = refl
  act_gives (plain.offset a) c h =
      given_makes m.types pointer (input pointer (address a)) (operand_holds m f memory rs pointer (address a) (h.ready (address a) (0, omega arith, refl)) (left_of (fits s pointer (address a)) true h.all))
  act_gives a c h = absurd cc

  pub computation_gives : (before : List InstrView) (i : InstrView) → is_computation i.act ≡ true → IsPrepared m f rs before i → gives i.act
  computation_gives before i c h =
      act_gives i.act c (record {
        noted = h.noted;
        all = left_of (operands_fit s i.act) (further m.types m f (list_all (λ i. is_phi i.act) before) (is_some i.result) i.act) h.fitting;
        ready = h.ready;
        widths = h.widths;
      })

  -- ---- jumps and arguments

  two_ways : (n x y : ℕ) → n < 2 → IsFound (if n == 0 then target.To y else (if n == 1 then target.To x else target.Lost))
  two_ways zero x y l = tt
  two_ways (suc zero) x y l = tt
  two_ways (suc (suc n)) x y l = absurd (omega (arith, l))

  branch_by : (o : Option Value) (x y : ℕ) → IsValueOf (integer 1) o → IsFound (branch_to o x y)
  branch_by (Some (Number n)) x y h = two_ways n x y (number_of_width 1 n h)
  branch_by (Some Poison) x y h = tt
  branch_by (Some Null) x y h = absurd cc
  branch_by (Some (Address o z)) x y h = absurd cc
  branch_by None x y h = absurd h

  switch_by : (w : ℕ) (o : Option Value) (cases : List Case) (default : ℕ) → IsValueOf (integer w) o → IsFound (switch_to o cases default)
  switch_by w (Some (Number n)) cases default h = tt
  switch_by w (Some Poison) cases default h = tt
  switch_by w (Some Null) cases default h = absurd cc
  switch_by w (Some (Address o z)) cases default h = absurd cc
  switch_by w None cases default h = absurd h

  pub branch_found : (c : Val) (x y : ℕ) → IsReady m f rs c → fits s (integer 1) c ≡ true → IsFound (branch_to (input (integer 1) c) x y)
  branch_found c x y ready e = branch_by (input (integer 1) c) x y (operand_holds m f memory rs (integer 1) c ready e)

  pub switch_found : (w : ℕ) (on : Val) (cases : List Case) (default : ℕ) → IsReady m f rs on → fits s (integer w) on ≡ true → IsFound (switch_to (input (integer w) on) cases default)
  switch_found w on cases default ready e = switch_by w (input (integer w) on) cases default (operand_holds m f memory rs (integer w) on ready e)

  tried_passes : (t : Ty) (o : Option Value) (rest : Computed) → IsValueOf t o → DoPass rest → DoPass (tried o rest)
  tried_passes t None rest x h = absurd x
  tried_passes t (Some Poison) rest x h = tt
  tried_passes t (Some Null) rest x h = h
  tried_passes t (Some (Address o z)) rest x h = h
  tried_passes t (Some (Number n)) rest x h = h

  pub arguments_do_pass : (arguments : List (Ty × Val)) → list_all (λ (p : Ty × Val). fits s (meant m.types p.0) p.1) arguments ≡ true → ((p : Ty × Val) → Contains arguments p → IsReady m f rs p.1)
      → DoPass (arguments_pass memory rs (map (λ (a : Ty × Val). typed m f a.0 a.1) arguments))
  arguments_do_pass [] e ready = tt
  arguments_do_pass (p ∷ arguments) e ready =
      let others : (q : Ty × Val) → Contains arguments q → IsReady m f rs q.1 = λ q c. ready q (Contains-append_right (p ∷ []) arguments q c) in
      let first = left_of (fits s (meant m.types p.0) p.1) (list_all (λ (p : Ty × Val). fits s (meant m.types p.0) p.1) arguments) e in
      let rest = right_of (fits s (meant m.types p.0) p.1) (list_all (λ (p : Ty × Val). fits s (meant m.types p.0) p.1) arguments) e in
      tried_passes (meant m.types p.0) (input (meant m.types p.0) p.1) (arguments_pass memory rs (map (λ (a : Ty × Val). typed m f a.0 a.1) arguments))
      (operand_holds m f memory rs (meant m.types p.0) p.1 (ready p (0, omega arith, refl)) first) (arguments_do_pass arguments rest others)
