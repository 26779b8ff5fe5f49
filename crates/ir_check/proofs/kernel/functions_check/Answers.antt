use Rattle.std.proofs.Common.{◌≡◌, ◌+◌, ◌≤◌, length, sym, ◌∙◌, ap, subst, arith}
use Rattle.std.proofs.lemmas.List.{length-map, length_push}
use Rattle.ir_ast.specs.ProgramView.{view_function, view_module}
use Rattle.ir_type.proofs.NameWalks.{entry_viewed}
use Rattle.ir_check.specs.Checked.{OrdersFirst}
use Rattle.ir_check.proofs.FunctionLaws.{named_there, function_next, functions_done, orders_more}
use Rattle.ir_check.proofs.kernel.functions_check.Goals as goal

pub function_check-requires-clause-stands : goal.function_check-requires-clause-stands
function_check-requires-clause-stands c =
    let e = entry_viewed view_function c.args.kernel.now.functions c.loop-place.place c.at-function.result.now c.at-function.ensures in
    named_there (view_module c.args.kernel.now) c.loop-place.place e.0 (view_function c.at-function.result.now) c.requires.shaped e.1

pub loop-place-preserved : goal.loop-place-preserved
loop-place-preserved c =
    let e = entry_viewed view_function c.args.kernel.now.functions c.loop-place.place c.at-function.result.now c.at-function.ensures in record {
      own = c.in_ok-own.ensures.own;
      values = c.in_ok-own.ensures.values;
      found = function_next (view_module c.args.kernel.now) c.loop-place.place c.loop-place.found c.in_ok-own.own.fault c.least-found.result c.loop-place.invariant.found c.in_ok-own.ensures.least c.least-found.ensures;
      count = let n = c.loop-place.invariant.count in pushed n;
      orders = orders_more (view_module c.args.kernel.now) c.loop-place.place (e.0, view_function c.at-function.result.now) c.loop-place.orders.items c.push.new.self.items c.in_ok-own.own.order
          c.loop-place.invariant.count e.1 c.loop-place.invariant.orders c.in_ok-own.ensures.order c.in_ok-push.ensures.items;
    }
  where
    pushed : length c.loop-place.orders.items ≡ c.loop-place.place → length c.push.new.self.items ≡ c.loop-place.place + 1
    pushed n = ap length c.in_ok-push.ensures.items ∙ length_push c.loop-place.orders.items c.in_ok-own.own.order ∙ ap (λ k. k + 1) n

pub returns-clause-least : goal.returns-clause-least
returns-clause-least c =
    let most : length c.args.kernel.now.functions ≤ c.loop-place.place = omega arith in
    functions_done (view_module c.args.kernel.now) c.loop-place.place c.loop-place.found
    (subst (λ n. n ≤ c.loop-place.place) (sym (length-map c.args.kernel.now.functions (λ e. (e.0, view_function e.1)))) most) c.loop-place.invariant.found

pub returns-clause-orders : goal.returns-clause-orders
returns-clause-orders c =
    subst (λ n. OrdersFirst (view_module c.args.kernel.now) n c.loop-place.orders.items) (sym c.loop-place.invariant.count) c.loop-place.invariant.orders
