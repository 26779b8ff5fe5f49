use Rattle.std.proofs.Common.{List, ap, sym, ◌∙◌}
use Rattle.std.specs.Prelude.{slice_get}
use Rattle.spec_kernel.specs.declared.rows.FunctionRow.{FunctionRow}
use Rattle.spec_kernel.proofs.NameLaws.{function_there}
use Rattle.spec_kernel.proofs.names.KernelNames.row.Goals as goal

pub returns : goal.returns
returns c =
    function_there c.self.inside.shapes c.self.inside.globals.items c.self.inside.functions.items c.args.self.now c.args.function c.function_at.result.now
    (ap (λ (rows : List FunctionRow). slice_get rows c.args.function) (sym c.deref.ensures.value) ∙ c.function_at.ensures) c.self.view_is
