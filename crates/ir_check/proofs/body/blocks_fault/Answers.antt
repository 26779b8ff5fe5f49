use Rattle.std.proofs.Common.{◌≤◌, length, sym, ◌∙◌, ap, subst, arith}
use Rattle.std.proofs.lemmas.List.{length-map}
use Rattle.ir_ast.specs.Program.{BlockView}
use Rattle.ir_ast.specs.ProgramView.{view_module, view_block}
use Rattle.ir_check.specs.Used.{function_in}
use Rattle.ir_check.specs.Parts.{AreNotedIn}
use Rattle.ir_check.proofs.Taken.{all_here}
use Rattle.ir_check.proofs.BodyLaws.{block_next, blocks_done}
use Rattle.ir_check.proofs.body.blocks_fault.Goals as goal

pub loop-at-preserved : goal.loop-at-preserved
loop-at-preserved c = record {
  typed = c.in_ok-fault.ensures.typed;
  values = c.in_ok-fault.ensures.values;
  found = block_next (view_module c.args.context.now.kernel.now) (function_in c.args.context.now.uses.now) c.loop-at.at c.loop-at.found c.in_ok-fault.fault c.least-found.result c.loop-at.invariant.found c.in_ok-fault.ensures.least c.least-found.ensures;
}

pub returns-clause-least : goal.returns-clause-least
returns-clause-least c =
    let most : length c.args.blocks.now ≤ c.loop-at.at = omega arith in
    blocks_done (view_module c.args.context.now.kernel.now) (function_in c.args.context.now.uses.now) c.loop-at.at c.loop-at.found
    (subst (λ n. n ≤ c.loop-at.at) (sym (ap length (sym c.requires.blocks) ∙ length-map c.args.blocks.now view_block)) most) c.loop-at.invariant.found

pub block_fault-requires-clause-noted : goal.block_fault-requires-clause-noted
block_fault-requires-clause-noted c =
    let noted : BlockView → Type 0 = λ b. AreNotedIn b.instrs in
    all_here noted view_block c.args.blocks.now c.loop-at.at c.index-blocks-at.result (omega arith) c.index-blocks-at.is c.requires.noted
