use Rattle.std.proofs.Common.{sym, subst}
use Rattle.hk_graph.specs.Walks.{AreWithin}
use Rattle.ir_ast.specs.Program.{FunctionView}
use Rattle.ir_ast.specs.ProgramView.{view_module, view_function}
use Rattle.ir_check.specs.Graphs.{named_blocks, block_targets}
use Rattle.ir_check.specs.Least.{IsLeast}
use Rattle.ir_check.specs.Parts.{BodyFaults}
use Rattle.ir_check.proofs.NamedGraph.{within}
use Rattle.ir_check.proofs.body.body_fault.Goals as goal

pub sources_of-requires-clause-within : goal.sources_of-requires-clause-within
sources_of-requires-clause-within c = subst AreWithin (sym c.requires.edges) (within block_targets (named_blocks (view_function c.args.function.now)))

pub returns-clause-least : goal.returns-clause-least
returns-clause-least c = subst (λ (f : FunctionView). IsLeast (BodyFaults (view_module c.args.kernel.now) f) c.in_ok-fault.fault) c.in_ok-uses.ensures.function c.in_ok-fault.ensures.least
