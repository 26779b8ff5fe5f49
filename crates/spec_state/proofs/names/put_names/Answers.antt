use Rattle.std.proofs.Common.{ap, ◌≡◌, ◌∙◌, ◌∷◌, ◌+◌, map, drop}
use Rattle.spec_tree.specs.View.{view_expr}
use Rattle.spec_number.specs.Evaluation.{context_of, env_of}
use Rattle.spec_state.proofs.Turns.{part_at}
use Rattle.spec_state.proofs.Points.{names_sorted, name_stands, names_context, names_env}
use Rattle.spec_state.proofs.names.put_names.Goals as goal

pub each-preserved : goal.each-preserved
each-preserved c =
    let r = c.args.reading.now in
    let s = c.each.frame in
    let t = c.put_name.new.frame in
    let items = c.as_slice-items.result.now in
    let e = view_expr c.e-item.result in
    let left = map view_expr (drop c.each.e-index items) in
    let rest = map view_expr (drop (c.each.e-index + 1) items) in
    let is : left ≡ e ∷ rest = ap (map view_expr) (part_at items c.each.e-index c.e-item.result c.e-item.is c.each-test.true) in
    let context = c.in_ok-put_name.ensures.context in
    let env = c.in_ok-put_name.ensures.env in
    let sorted = names_sorted (context_of r s) (context_of r t) e left rest is context c.each.invariant.sorted in
    record {
      stands = name_stands r s t e c.each.invariant.stands sorted.0 context env;
      sorted = sorted.1;
      context = names_context (context_of r s) (context_of r t) e left rest is context ∙ c.each.invariant.context;
      env = names_env (context_of r s) (context_of r t) (env_of r s) (env_of r t) e left rest is context env ∙ c.each.invariant.env;
    }
