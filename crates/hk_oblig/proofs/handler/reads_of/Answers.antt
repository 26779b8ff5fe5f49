use Rattle.ir_ast.specs.ProgramView.{view_module}
use Rattle.hk_oblig.proofs.LayoutLaws.{origins_of_each}
use Rattle.hk_oblig.proofs.handler.reads_of.Goals as goal

pub returns : goal.returns
returns c = λ l laid. origins_of_each (view_module c.args.kernel.now) c.layout.result.now l c.in_ok-reads.reads c.checked-checked.ensures.facts c.layout.ensures laid c.in_ok-reads.ensures.origins
