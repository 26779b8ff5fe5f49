use Rattle.std.proofs.Common.{◌++◌, map, ap}
use Rattle.hk_cells.proofs.KeptLaws.{first_is}
use Rattle.ir_ast.specs.ProgramView.{view_entries, view_type_entry, view_global}
use Rattle.ir_type.specs.Whole.{meant}
use Rattle.ir_type.proofs.NameWalks.{entry_viewed}
use Rattle.ir_layout.proofs.Turns.{map_more}
use Rattle.hk_cells.specs.Cells.{cell_of}
use Rattle.hk_cells.proofs.sizes.cells_of.Goals as goal

pub loop-place-init : goal.loop-place-init
loop-place-init c = record {
  own = c.in_ok-numbers.ensures;
  kept = first_is (view_entries view_type_entry c.args.types.now) c.in_ok-numbers.numbers c.in_ok-kept.kept.items c.in_ok-numbers.ensures c.in_ok-kept.ensures;
  left = ap (λ xs. xs ++ map (λ g. cell_of (meant (view_entries view_type_entry c.args.types.now) g.1.over)) (view_entries view_global c.args.globals.now)) c.new-cells.ensures.items;
}

pub loop-place-preserved : goal.loop-place-preserved
loop-place-preserved c =
    let e = entry_viewed view_global c.args.globals.now c.loop-place.place c.at.result.now c.at.ensures in
    record {
      own = c.in_ok-cell.ensures.own;
      kept = c.in_ok-cell.ensures.kept;
      left = map_more (λ g. cell_of (meant (view_entries view_type_entry c.args.types.now) g.1.over)) (view_entries view_global c.args.globals.now) c.loop-place.place (e.0, view_global c.at.result.now)
          c.loop-place.cells.items c.push.new.self.items _ _ e.1 c.in_ok-push.ensures.items c.in_ok-cell.ensures.cell c.loop-place.invariant.left;
    }
