use Rattle.std.proofs.Common.{◌≡◌, drop}
use Rattle.std.specs.List.{list_all}
use Rattle.spec_kernel.specs.declared.rows.FunctionRow.{FunctionRow}
use Rattle.spec_kernel.specs.Widths.{has_widths}
use Rattle.spec_kernel.specs.Seen.{function_in, see_function}
use Rattle.spec_kernel.proofs.names.have_widths.Given as goal

abbrev pub invariant-each : goal.invariant-each
invariant-each l = list_all (λ (r : FunctionRow). has_widths (function_in (see_function r))) (drop l.function-index l.functions) ≡ list_all (λ (r : FunctionRow). has_widths (function_in (see_function r))) l.functions
