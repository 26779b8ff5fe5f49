-- `br` and `switch` lead to blocks of the function, or the run is stuck.
use Rattle.std.proofs.Common.{◌≡◌, ℕ, ◌==◌, Bool, true, false, if◌then◌else◌, Option, Some, None, List, [], ◌∷◌, map, refl, sym, ◌∙◌, ap, subst, arith}
use Rattle.std.specs.Prelude.{ℤ, Contains}
use Rattle.std.proofs.lemmas.List.Elements.{Contains-append_right}
use Rattle.ir_ast.specs.Plain.{integer, Val}
use Rattle.ir_ast.specs.Program as plain
use Rattle.ir_ast.specs.Program.{Act, InstrView, BlockView, FunctionView, ModuleView}
use Rattle.ir_type.specs.Rows.{targets}
use Rattle.ir_type.specs.Shape.{is_last}
use Rattle.ir_typing.specs.Registers.{kind_of}
use Rattle.ir_typing.specs.Fits.{scope_of, fits}
use Rattle.ir_check.specs.Checked.{IsChecked}
use Rattle.ir_check.proofs.Undefined.{Contains-map}
use Rattle.ir_value.specs.declared.value.Value.{Value}
use Rattle.ir_value.specs.declared.value.Value.TheVariants.{Number, Null, Address, Poison}
use Rattle.ir_machine.specs.declared.state.Machine.{Machine}
use Rattle.ir_machine.specs.declared.state.Target.{Target}
use Rattle.ir_machine.specs.declared.state.Target.TheVariants as target
use Rattle.ir_machine.specs.Values.{Registers, value_of}
use Rattle.ir_machine.specs.Step.{act_on, jump, go, branch_to, switch_to}
use Rattle.ir_machine.specs.Step as machine
use Rattle.ir_resolve.specs.Operands.{input_of}
use Rattle.ir_resolve.specs.Acts.{act_of, block_place, case_of, cases_of}
use Rattle.ir_resolve.specs.Resolved.{step_of, program_of}
use Rattle.ir_kernel.specs.Steps.{IsFound}
use Rattle.ir_kernel.proofs.LoadTypes.{left_of}
use Rattle.ir_kernel.proofs.StepTypes.{branch_found, switch_found}
use Rattle.ir_typed.proofs.Using.{IsAtHand, at_hand}
use Rattle.ir_typed.proofs.Keeping.{IsTyped, NextFits}
use Rattle.ir_typed.proofs.Jumping.{jump_fits}

-- ---- where a jump leads

branch_leads : (P : Target → Type 0) (o : Option Value) (taken other : ℕ) → P (target.To taken) → P (target.To other) → ((r : _) → P (target.Sticks r)) → IsFound (branch_to o taken other) → P (branch_to o taken other)
branch_leads P None taken other p q s found = absurd found
branch_leads P (Some Poison) taken other p q s found = s _
branch_leads P (Some Null) taken other p q s found = absurd found
branch_leads P (Some (Address o x)) taken other p q s found = absurd found
branch_leads P (Some (Number n)) taken other p q s found = by (n == 0) (n == 1) found
  where
    by : (a b : Bool) → IsFound (if a then target.To other else (if b then target.To taken else target.Lost)) → P (if a then target.To other else (if b then target.To taken else target.Lost))
    by true b found = q
    by false true found = p
    by false false found = absurd found

case_leads : (J : ℕ → Type 0) (f : FunctionView) (w n : ℕ) (cases : List (ℤ × List ℕ)) (default : ℕ) → ((c : ℤ × List ℕ) → Contains cases c → J (block_place f c.1)) → J default
    → J (machine.case_of n (cases_of f w cases) default)
case_leads J f w n [] default each d = d
case_leads J f w n (c ∷ cases) default each d =
    by ((case_of f w c).number == n) (case_leads J f w n cases default (λ k h. each k (Contains-append_right (c ∷ []) cases k h)) d)
  where
    by : (b : Bool) → J (machine.case_of n (cases_of f w cases) default) → J (if b then block_place f c.1 else machine.case_of n (cases_of f w cases) default)
    by true rest = each c (0, omega arith, refl)
    by false rest = rest

switch_leads : (P : Target → Type 0) (f : FunctionView) (w : ℕ) (o : Option Value) (cases : List (ℤ × List ℕ)) (default : ℕ) → ((c : ℤ × List ℕ) → Contains cases c → P (target.To (block_place f c.1))) → P (target.To default)
    → ((r : _) → P (target.Sticks r)) → IsFound (switch_to o (cases_of f w cases) default) → P (switch_to o (cases_of f w cases) default)
switch_leads P f w None cases default each d s found = absurd found
switch_leads P f w (Some Poison) cases default each d s found = s _
switch_leads P f w (Some Null) cases default each d s found = absurd found
switch_leads P f w (Some (Address o x)) cases default each d s found = absurd found
switch_leads P f w (Some (Number n)) cases default each d s found = case_leads (λ k. P (target.To k)) f w n cases default each d

module _ (m : ModuleView) (checked : IsChecked m) (whole : FunctionView) (c : Machine) (typed : IsTyped m whole c) where
  abbrev f : FunctionView
  f = typed.top.function

  abbrev rs : Registers
  rs = c.top.registers

  abbrev i : InstrView
  i = typed.top.instr

  abbrev Goes : Act → Type 0
  Goes a = NextFits m whole (act_on (program_of m) c (step_of m f i) (act_of m f a))

  hand : IsAtHand m f rs i.act
  hand = at_hand m checked f typed.top.block typed.top.before i typed.top.after rs typed.top.at

  ends_block : (a : Act) → i.act ≡ a → is_last (record i { act = a }) ≡ true → is_last i ≡ true
  ends_block a is e = ap (λ (a : Act). is_last (record i { act = a })) is ∙ e

  to : (a : Act) → i.act ≡ a → is_last (record i { act = a }) ≡ true → kind_of a ≡ None → (y : List ℕ) → Contains (targets a) y → NextFits m whole (jump (program_of m) c (block_place f y))
  to a is ends none y d = jump_fits m checked whole c typed (ends_block a is ends) (ap kind_of is ∙ none) y (subst (λ (a : Act). Contains (targets a) y) (sym is) d)

  at_act : (a : Act) → i.act ≡ a → Goes a → Goes i.act
  at_act a is g = subst Goes (sym is) g

  pub goto_fits : (y : List ℕ) → i.act ≡ plain.goto y → Goes i.act
  goto_fits y is = at_act (plain.goto y) is (to (plain.goto y) is refl refl y (0, omega arith, refl))

  abbrev Leads : Target → Type 0
  Leads t = NextFits m whole (go (program_of m) c i.line t)

  pub branch_fits : (v : Val) (taken other : List ℕ) → i.act ≡ plain.branch v taken other → Goes i.act
  branch_fits v taken other is =
      let a = plain.branch v taken other in
      let h = subst (IsAtHand m f rs) is hand in
      let found = branch_found m f c.memory (program_of m).objects rs v (block_place f taken) (block_place f other) (h.ready v (0, omega arith, refl)) (left_of (fits (scope_of m f) (integer 1) v) true h.fitting) in
      at_act a is (branch_leads Leads (value_of c.memory rs (input_of m f (Some 1) v)) (block_place f taken) (block_place f other)
      (to a is refl refl taken (0, omega arith, refl)) (to a is refl refl other (1, omega arith, refl)) (λ r. tt) found)

  pub switch_fits : (w : ℕ) (on : Val) (default : List ℕ) (cases : List (ℤ × List ℕ)) → i.act ≡ plain.switch w on default cases → Goes i.act
  switch_fits w on default cases is =
      let a = plain.switch w on default cases in
      let h = subst (IsAtHand m f rs) is hand in
      let found = switch_found m f c.memory (program_of m).objects rs w on (cases_of f w cases) (block_place f default) (h.ready on (0, omega arith, refl)) (left_of (fits (scope_of m f) (integer w) on) true h.fitting) in
      at_act a is (switch_leads Leads f w (value_of c.memory rs (input_of m f (Some w) on)) cases (block_place f default)
      (λ k d. to a is refl refl k.1 (Contains-append_right (default ∷ []) (map (λ (c : ℤ × List ℕ). c.1) cases) k.1 (Contains-map (λ (c : ℤ × List ℕ). c.1) cases k d)))
      (to a is refl refl default (0, omega arith, refl)) (λ r. tt) found)
