use Rattle.std.proofs.Common.{◌≤◌, length, sym, subst, arith}
use Rattle.std.proofs.lemmas.List.{length-map}
use Rattle.ir_ast.specs.ProgramView.{view_global, view_module}
use Rattle.ir_type.proofs.NameWalks.{entry_viewed}
use Rattle.ir_check.proofs.FunctionLaws.{global_at, global_next, globals_done}
use Rattle.ir_check.proofs.kernel.globals_fault.Goals as goal

pub loop-place-preserved : goal.loop-place-preserved
loop-place-preserved c =
    let e = entry_viewed view_global c.args.kernel.now.globals c.loop-place.place c.at-global.result.now c.at-global.ensures in record {
      own = c.in_ok-fault.ensures.own;
      found = global_next (view_module c.args.kernel.now) c.loop-place.place c.loop-place.found c.in_ok-fault.fault c.least-found.result c.loop-place.invariant.found
          (global_at (view_module c.args.kernel.now) c.loop-place.place e.0 (view_global c.at-global.result.now) c.in_ok-fault.fault e.1 c.in_ok-fault.ensures.least) c.least-found.ensures;
    }

pub returns-clause-least : goal.returns-clause-least
returns-clause-least c =
    let most : length c.args.kernel.now.globals ≤ c.loop-place.place = omega arith in
    globals_done (view_module c.args.kernel.now) c.loop-place.place c.loop-place.found
    (subst (λ n. n ≤ c.loop-place.place) (sym (length-map c.args.kernel.now.globals (λ e. (e.0, view_global e.1)))) most) c.loop-place.invariant.found
