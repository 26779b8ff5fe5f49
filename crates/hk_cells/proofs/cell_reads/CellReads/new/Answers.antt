use Rattle.ir_ast.specs.ProgramView.{view_module}
use Rattle.hk_cells.proofs.PartLaws.{made_parts, made_origins, made_cells}
use Rattle.hk_cells.proofs.cell_reads.CellReads.new.Goals as goal

pub invariant_of-result : goal.invariant_of-result
invariant_of-result c = made_parts (view_module c.args.kernel.now) c.args.layout.now _ c.in_ok-parts.parts.items c.requires.layout c.in_ok-bytes.ensures c.in_ok-parts.ensures

pub returns-clause-origins : goal.returns-clause-origins
returns-clause-origins c = made_origins (view_module c.args.kernel.now) c.args.layout.now _ c.in_ok-parts.parts.items c.requires.layout c.in_ok-bytes.ensures c.in_ok-parts.ensures

pub returns-clause-cells : goal.returns-clause-cells
returns-clause-cells c = made_cells (view_module c.args.kernel.now) c.args.layout.now _ c.in_ok-parts.parts.items c.in_ok-bytes.ensures c.in_ok-parts.ensures
