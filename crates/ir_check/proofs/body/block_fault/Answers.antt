use Rattle.std.proofs.Common.{◌≡◌, ◌≤◌, true, length, refl, sym, subst, arith}
use Rattle.std.proofs.lemmas.List.{length-map}
use Rattle.ir_ast.specs.Program.{InstrView}
use Rattle.ir_ast.specs.ProgramView.{view_module, view_instr, view_block}
use Rattle.ir_type.specs.Shape.{keeps_notes}
use Rattle.ir_type.proofs.Places.{get_below}
use Rattle.ir_typing.specs.Fits.{is_phi}
use Rattle.ir_typing.specs.Registers.{blocks_of}
use Rattle.ir_check.specs.Used.{function_in}
use Rattle.ir_check.proofs.Taken.{slice_at, all_there}
use Rattle.ir_check.proofs.BodyLaws.{instr_next, instrs_done, phis_next}
use Rattle.ir_check.proofs.body.block_fault.Goals as goal

pub instr_reason-requires-clause-noted : goal.instr_reason-requires-clause-noted
instr_reason-requires-clause-noted c =
    let noted : InstrView → Type 0 = λ i. keeps_notes i.act ≡ true in
    all_there noted (view_block c.args.block.now).instrs c.loop-place.place (view_instr c.index-instrs-place.result)
    (slice_at view_instr c.args.block.now.instrs.items.items c.as_slice-instrs.result.now c.loop-place.place c.index-instrs-place.result c.as_slice-instrs.ensures.value (omega arith) c.index-instrs-place.is)
    c.requires.noted

pub instr_reason-requires-clause-block : goal.instr_reason-requires-clause-block
instr_reason-requires-clause-block c = get_below (blocks_of (function_in c.args.context.now.uses.now)) c.args.at (view_block c.args.block.now) c.requires.stands

pub loop-place-preserved : goal.loop-place-preserved
loop-place-preserved c =
    let there = slice_at view_instr c.args.block.now.instrs.items.items c.as_slice-instrs.result.now c.loop-place.place c.index-instrs-place.result c.as_slice-instrs.ensures.value (omega arith) c.index-instrs-place.is in record {
      typed = c.in_ok-reason.ensures.typed;
      values = c.in_ok-reason.ensures.values;
      found = instr_next (view_module c.args.context.now.kernel.now) (function_in c.args.context.now.uses.now) (view_block c.args.block.now) c.loop-place.place (view_instr c.index-instrs-place.result) c.loop-place.found
          c.on_line.result c.least-found.result c.in_ok-reason.reason there c.loop-place.invariant.found
          (c.in_ok-reason.ensures.least (view_block c.args.block.now) c.requires.stands c.loop-place.invariant.phis) c.on_line.ensures c.least-found.ensures;
      phis = phis_next (view_block c.args.block.now).instrs c.loop-place.place (view_instr c.index-instrs-place.result) c.loop-place.phis (is_phi (view_instr c.index-instrs-place.result).act) c.are_phis-phis.result
          there c.loop-place.invariant.phis refl c.are_phis-phis.ensures;
    }

pub returns-clause-least : goal.returns-clause-least
returns-clause-least c =
    let most : length c.as_slice-instrs.result.now ≤ c.loop-place.place = omega arith in
    instrs_done (view_module c.args.context.now.kernel.now) (function_in c.args.context.now.uses.now) c.args.at (view_block c.args.block.now) c.loop-place.place c.loop-place.found c.requires.stands
    (subst (λ n. n ≤ c.loop-place.place) (sym (length-map c.args.block.now.instrs.items.items view_instr))
    (subst (λ is. length is ≤ c.loop-place.place) c.as_slice-instrs.ensures.value most)) c.loop-place.invariant.found
