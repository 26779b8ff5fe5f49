use Rattle.std.proofs.Common.{List, ℕ, ◌≤◌, length, sym, subst, arith}
use Rattle.std.proofs.lemmas.List.{length-map}
use Rattle.ir_ast.specs.Plain.{Val}
use Rattle.ir_ast.specs.View.{view_type, view_operand}
use Rattle.ir_ast.specs.ProgramView.{view_entries, view_type_entry, view_arms}
use Rattle.ir_ast.specs.declared.operand.Operand.{Operand}
use Rattle.ir_check.specs.Arms.{IsAsFirst}
use Rattle.ir_check.proofs.Taken.{code_at, all_next, all_taken, not_all}
use Rattle.ir_check.proofs.UseLaws.{if_true, if_false}
use Rattle.ir_check.proofs.arms.are_as_first.Goals as goal

pub returns-then-not-same-clause-same : goal.returns-then-not-same-clause-same
returns-then-not-same-clause-same c =
    let see : Operand × List ℕ → Val × List ℕ = λ arm. (view_operand arm.0, arm.1) in
    not_all (IsAsFirst (view_entries view_type_entry c.args.types.now) (view_type c.args.over.now) c.args.index.now c.args.places.now (view_arms c.args.arms.now)) (view_arms c.args.arms.now)
    c.loop-arm.arm-index (see c.arm-item.result) (code_at see c.args.arms.now c.loop-arm.arm-index c.arm-item.result (omega arith) c.arm-item.is)
    (if_false (IsAsFirst (view_entries view_type_entry c.args.types.now) (view_type c.args.over.now) c.args.index.now c.args.places.now (view_arms c.args.arms.now) (view_operand c.arm-item.result.0, c.arm-item.result.1))
    (IsAsFirst (view_entries view_type_entry c.args.types.now) (view_type c.args.over.now) c.args.index.now c.args.places.now (view_arms c.args.arms.now) (view_operand c.arm-item.result.0, c.arm-item.result.1) → ⊥)
    c.in_ok-same.same c.in_ok-same.ensures.same c.if-not-same.true)

pub loop-arm-preserved : goal.loop-arm-preserved
loop-arm-preserved c =
    let see : Operand × List ℕ → Val × List ℕ = λ arm. (view_operand arm.0, arm.1) in record {
      own = c.in_ok-same.ensures.own;
      all = all_next (IsAsFirst (view_entries view_type_entry c.args.types.now) (view_type c.args.over.now) c.args.index.now c.args.places.now (view_arms c.args.arms.now)) (view_arms c.args.arms.now)
          c.loop-arm.arm-index (see c.arm-item.result) (code_at see c.args.arms.now c.loop-arm.arm-index c.arm-item.result (omega arith) c.arm-item.is) c.loop-arm.invariant.all
          (if_true (IsAsFirst (view_entries view_type_entry c.args.types.now) (view_type c.args.over.now) c.args.index.now c.args.places.now (view_arms c.args.arms.now) (view_operand c.arm-item.result.0, c.arm-item.result.1))
          (IsAsFirst (view_entries view_type_entry c.args.types.now) (view_type c.args.over.now) c.args.index.now c.args.places.now (view_arms c.args.arms.now) (view_operand c.arm-item.result.0, c.arm-item.result.1) → ⊥)
          c.in_ok-same.same c.in_ok-same.ensures.same c.if-not-same.false);
    }

pub returns-clause-same : goal.returns-clause-same
returns-clause-same c =
    let see : Operand × List ℕ → Val × List ℕ = λ arm. (view_operand arm.0, arm.1) in
    let most : length c.args.arms.now ≤ c.loop-arm.arm-index = omega arith in
    all_taken (IsAsFirst (view_entries view_type_entry c.args.types.now) (view_type c.args.over.now) c.args.index.now c.args.places.now (view_arms c.args.arms.now)) (view_arms c.args.arms.now)
    c.loop-arm.arm-index (subst (λ n. n ≤ c.loop-arm.arm-index) (sym (length-map c.args.arms.now see)) most) c.loop-arm.invariant.all
