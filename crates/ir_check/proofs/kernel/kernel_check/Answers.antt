use Rattle.std.proofs.Common.{length, sym, subst}
use Rattle.std.proofs.lemmas.List.{length-map}
use Rattle.ir_ast.specs.ProgramView.{view_function, view_module}
use Rattle.ir_check.specs.Rules.{FallsByCheck}
use Rattle.ir_check.specs.Least.{IsLeast, AllFaults}
use Rattle.ir_check.specs.Parts.{AmongAll, GlobalFaultsAt, FunctionFaultsAt}
use Rattle.ir_check.proofs.FirstFault.{least_joins}
use Rattle.ir_check.proofs.PartLaws.{least_of_parts}
use Rattle.ir_check.proofs.FunctionLaws.{calls_are}
use Rattle.ir_check.proofs.CheckedLaws.{kept_where}
use Rattle.ir_check.proofs.kernel.kernel_check.Goals as goal

pub functions_check-requires-clause-calls : goal.functions_check-requires-clause-calls
functions_check-requires-clause-calls c =
    calls_are (view_module c.args.kernel.now) c.in_ok-calls.calls.cyclic.items c.in_ok-calls.calls.lengths.items (length c.args.kernel.now.functions)
    (length-map c.args.kernel.now.functions (λ e. (e.0, view_function e.1))) c.in_ok-calls.ensures.cyclic c.in_ok-calls.ensures.lengths

pub returns-clause-least : goal.returns-clause-least
returns-clause-least c =
    subst (IsLeast (AllFaults (FallsByCheck (view_module c.args.kernel.now)) (view_module c.args.kernel.now))) (sym c.least.ensures)
    (least_of_parts (view_module c.args.kernel.now) _
    (least_joins (AmongAll (GlobalFaultsAt (view_module c.args.kernel.now))) (AmongAll (FunctionFaultsAt (view_module c.args.kernel.now))) c.in_ok-globals.globals c.in_ok-functions.functions.fault
    c.in_ok-globals.ensures.least c.in_ok-functions.ensures.least))

pub returns-clause-kept : goal.returns-clause-kept
returns-clause-kept c =
    kept_where (view_module c.args.kernel.now) c.in_ok-functions.functions.orders.items c.in_ok-calls.calls.cyclic.items c.in_ok-calls.calls.lengths.items c.requires.shaped
    c.in_ok-functions.ensures.count c.in_ok-functions.ensures.orders
    (calls_are (view_module c.args.kernel.now) c.in_ok-calls.calls.cyclic.items c.in_ok-calls.calls.lengths.items (length c.args.kernel.now.functions)
    (length-map c.args.kernel.now.functions (λ e. (e.0, view_function e.1))) c.in_ok-calls.ensures.cyclic c.in_ok-calls.ensures.lengths)
