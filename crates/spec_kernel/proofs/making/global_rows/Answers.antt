use Rattle.ir_ast.specs.ProgramView.{view_global, view_module}
use Rattle.spec_kernel.proofs.RowLaws.{named_entry, global_more, known_more}
use Rattle.spec_kernel.proofs.making.global_rows.Goals as goal

pub loop-place-preserved : goal.loop-place-preserved
loop-place-preserved c =
    let m = view_module c.args.kernel.now in
    let there = named_entry view_global c.args.kernel.now.globals c.loop-place.place c.name_at.result.now c.at.result.now c.name_at.ensures c.at.ensures in
    let e = c.in_ok-shape.ensures in
    let r = c.global_row.ensures in
    record {
      rows = global_more c.loop-place.shapes c.number.new.self e.longer e.keeps m c.args.layout.now c.requires.layout c.loop-place.place c.name_at.result.now (view_global c.at.result.now) there
          c.loop-place.rows.items c.push.new.self.items c.global_row.result c.in_ok-shape.shape c.object_size.result e.within e.number (c.object_size.ensures.size m c.requires.layout) r.name r.size r.shape
          c.in_ok-push.ensures.items c.loop-place.invariant.known c.loop-place.invariant.rows;
      known = known_more c.loop-place.shapes c.number.new.self e.longer e.keeps m c.args.layout.now c.requires.layout c.loop-place.place c.name_at.result.now (view_global c.at.result.now) there
          c.loop-place.rows.items c.push.new.self.items c.global_row.result c.in_ok-shape.shape c.object_size.result e.within e.number (c.object_size.ensures.size m c.requires.layout) r.name r.size r.shape
          c.in_ok-push.ensures.items c.loop-place.invariant.known;
      shaped = e.shaped;
    }
