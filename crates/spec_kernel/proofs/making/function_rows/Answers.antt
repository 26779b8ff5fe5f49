use Rattle.std.proofs.Common.{map}
use Rattle.ir_ast.specs.ProgramView.{view_entries, view_type_entry, view_function}
use Rattle.spec_kernel.specs.View.{function_of}
use Rattle.spec_kernel.specs.Seen.{see_function, function_in}
use Rattle.spec_kernel.proofs.RowLaws.{rows_more, named_entry}
use Rattle.spec_kernel.proofs.making.function_rows.Goals as goal

pub loop-place-preserved : goal.loop-place-preserved
loop-place-preserved c =
    let types = view_entries view_type_entry c.args.types.now in
    let functions = view_entries view_function c.args.functions.now in
    record {
      rows = rows_more (λ r. function_in (see_function r)) (function_of types) functions c.loop-place.place (c.name_at-name.result.now, view_function c.at.result.now) c.loop-place.rows.items c.push.new.self.items _
          (map (function_of types) functions) (named_entry view_function c.args.functions.now c.loop-place.place c.name_at-name.result.now c.at.result.now c.name_at-name.ensures c.at.ensures)
          c.in_ok-push.ensures.items c.in_ok-row.ensures.row c.loop-place.invariant.rows;
      shaped = c.in_ok-row.ensures.shaped;
    }
