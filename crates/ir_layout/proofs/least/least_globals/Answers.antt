use Rattle.std.proofs.Common.{◌+◌, ap, ◌∙◌}
use Rattle.ir_ast.specs.View.{view_type}
use Rattle.ir_ast.specs.ProgramView.{view_entries, view_global}
use Rattle.ir_type.proofs.NameWalks.{entry_viewed}
use Rattle.ir_layout.specs.Facts.{look_in, fact_by}
use Rattle.ir_layout.specs.Least.{offer_marks, marks_with, cut_total, counted}
use Rattle.ir_layout.proofs.Turns.{globals_turn}
use Rattle.ir_layout.proofs.least.least_globals.Goals as goal

pub loop-place-preserved : goal.loop-place-preserved
loop-place-preserved c =
    let e = entry_viewed view_global c.args.globals.now c.loop-place.place c.at-global.result.now c.at-global.ensures in
    let summed = c.total_with-total.ensures.total ∙ ap (λ f. cut_total (c.loop-place.total + counted f)) c.fact_in-fact.ensures.fact in record {
      few = c.total_with-total.ensures.few;
      left =
          globals_turn (look_in c.args.types.now c.args.facts.now) c.loop-place.found c.offer_marks-found.result c.loop-place.total c.total_with-total.result
          (view_entries view_global c.args.globals.now) c.loop-place.place (e.0, view_global c.at-global.result.now) _ e.1 c.loop-place.invariant.left
          (c.offer_marks-found.ensures
          ∙ ap (offer_marks c.loop-place.found c.at-global.result.now.line)
          (c.marks_with-marks.ensures
          ∙ ap (λ f. marks_with (look_in c.args.types.now c.args.facts.now) f c.total_with-total.result (view_global c.at-global.result.now)) c.fact_in-fact.ensures.fact
          ∙ ap (λ n. marks_with (look_in c.args.types.now c.args.facts.now) (fact_by (look_in c.args.types.now c.args.facts.now) (view_type c.at-global.result.now.over)) n (view_global c.at-global.result.now)) summed))
          summed;
    }
