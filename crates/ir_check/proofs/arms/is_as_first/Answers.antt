use Rattle.std.proofs.Common.{List, ℕ, slice_index_or, sym, ◌∙◌, arith}
use Rattle.ir_ast.specs.Plain.{Val}
use Rattle.ir_ast.specs.View.{view_type, view_operand}
use Rattle.ir_ast.specs.ProgramView.{view_entries, view_type_entry, view_arms}
use Rattle.ir_ast.specs.declared.operand.Operand.{Operand}
use Rattle.ir_check.proofs.Taken.{code_get}
use Rattle.ir_check.proofs.ArmOperands.{as_first_says}
use Rattle.ir_check.proofs.arms.is_as_first.Goals as goal

pub returns-clause-same : goal.returns-clause-same
returns-clause-same c =
    let see : Operand × List ℕ → Val × List ℕ = λ arm. (view_operand arm.0, arm.1) in
    as_first_says (view_entries view_type_entry c.args.types.now) (view_type c.args.over.now) c.args.all.now.index.now c.args.all.now.places.now (view_arms c.args.all.now.arms.now) (view_operand c.args.arm.now.0, c.args.arm.now.1)
    c.in-Some.first (see (slice_index_or c.args.all.now.arms.now c.in-Some.first c.index-arms-first.result)) c.in_ok-same.same (sym c.first_arm.ensures ∙ c.in-Some.is)
    (code_get see c.args.all.now.arms.now c.in-Some.first c.index-arms-first.result (omega arith)) c.in_ok-same.ensures.same
