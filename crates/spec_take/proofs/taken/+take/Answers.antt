use Rattle.std.proofs.Common.{◌≡◌, refl, sym, ap, ◌∙◌, map}
use Rattle.spec_ast.specs.View.{view_exprs, view_expr_list, view_steps, view_step_list}
use Rattle.spec_tree.specs.View.{view_expr, view_step, view_key}
use Rattle.spec_kernel.specs.Seen.{shape_in}
use Rattle.spec_scope.specs.Taking.{take_truths, take_keys, lead}
use Rattle.spec_scope.specs.View.{view_scope}
use Rattle.spec_take.specs.Behind.{truths_behind, keys_behind, lead_behind}
use Rattle.spec_take.proofs.BehindLaws.{list_is, step_list_is, truths_law, keys_law, lead_law}
use Rattle.spec_take.proofs.taken.+take.Goals as goal

pub truths-each-init : goal.truths-each-init
truths-each-init t c =
    let s = view_scope c.args.scope.now in
    let b = c.args.bound.now in
    let same : view_exprs c.as_slice-items.result.now ≡ view_expr_list c.args.es.now = ap view_exprs c.as_slice-items.ensures.value ∙ sym (list_is c.args.es.now) in
    record {
      kept = refl;
      left =
          ap (λ ys. truths_behind s b (map view_expr ys) (view_exprs c.as_slice-items.result.now)) c.new-taken.ensures.items
          ∙ truths_law s b (view_exprs c.as_slice-items.result.now) ∙ ap (take_truths s b) same;
    }

pub indices-each-init : goal.indices-each-init
indices-each-init t c =
    let s = view_scope c.args.scope.now in
    let b = c.args.bound.now in
    let keys = map view_key c.args.keys.now in
    let same : view_exprs c.as_slice-items.result.now ≡ view_expr_list c.args.es.now = ap view_exprs c.as_slice-items.ensures.value ∙ sym (list_is c.args.es.now) in
    record {
      kept = refl;
      left =
          ap (λ ys. keys_behind s b keys (map view_expr ys) (view_exprs c.as_slice-items.result.now)) c.new-taken.ensures.items
          ∙ keys_law s b keys (view_exprs c.as_slice-items.result.now) ∙ ap (take_keys s b keys) same;
    }

pub lead-each-init : goal.lead-each-init
lead-each-init t c =
    let s = view_scope c.args.scope.now in
    let b = c.args.bound.now in
    let shape = shape_in c.args.scope.now.kernel.now c.args.shape in
    let same : view_steps c.as_slice-items.result.now ≡ view_step_list c.args.steps.now = ap view_steps c.as_slice-items.ensures.value ∙ sym (step_list_is c.args.steps.now) in
    record {
      kept = refl;
      known = c.requires;
      left =
          ap (λ ys. lead_behind s b 0 (map view_step ys) (view_steps c.as_slice-items.result.now) shape) c.new-taken.ensures.items
          ∙ lead_law s b (view_steps c.as_slice-items.result.now) shape ∙ ap (λ steps. lead s b steps shape) same;
    }
