use Rattle.std.proofs.Common.{ap, ◌∙◌}
use Rattle.std.specs.List.{list_all}
use Rattle.spec_kernel.specs.declared.rows.FunctionRow.{FunctionRow}
use Rattle.spec_kernel.specs.Seen.{see_function, function_in}
use Rattle.spec_kernel.specs.Widths.{has_widths}
use Rattle.spec_kernel.proofs.WidthLaws.{widths_told}
use Rattle.spec_kernel.proofs.names.KernelNames.has_widths.Goals as goal

pub returns : goal.returns
returns c =
    widths_told c.self.inside.shapes c.self.inside.globals.items c.self.inside.functions.items c.args.self.now c.have_widths.result
    (c.have_widths.ensures ∙ ap (list_all (λ (r : FunctionRow). has_widths (function_in (see_function r)))) c.as_slice.ensures.value) c.self.view_is
