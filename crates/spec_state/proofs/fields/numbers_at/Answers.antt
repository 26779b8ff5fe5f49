use Rattle.std.proofs.Common.{arith, ap, ◌∙◌, sym, ◌+◌, ◌∷◌, ◌<◌, ◌≡◌, map, drop}
use Rattle.spec_tree.specs.Sorted.{product, with_bounds}
use Rattle.spec_tree.specs.Value.{value, binding, tuples, tuple_at}
use Rattle.spec_tree.specs.View.{view_expr}
use Rattle.spec_number.specs.Evaluation.{context_of, env_of}
use Rattle.spec_state.proofs.Turns.{put_one, put_all}
use Rattle.spec_state.proofs.Points.{tuples_at, tuples_end}
use Rattle.spec_state.proofs.fields.numbers_at.Goals as goal

pub each-preserved : goal.each-preserved
each-preserved c =
    let r = c.args.reading.now in
    let s = c.args.frame.now in
    let sizes = c.args.sizes.now in
    let low : c.each.k < product sizes = omega (arith, c.each-test.true, c.count-all.ensures) in
    let number : c.in_ok-number.number ≡ value (with_bounds (context_of r s) sizes) (binding (env_of r s) (tuple_at sizes c.each.k)) (view_expr c.args.e.now) =
    c.in_ok-number.ensures.number ∙ ap (λ t. value (with_bounds (context_of r t) sizes) (binding (env_of r t) (tuple_at sizes c.each.k)) (view_expr c.args.e.now)) c.each.invariant.kept in
    record {
      kept = c.in_ok-number.ensures.kept ∙ c.each.invariant.kept;
      numbers = put_one c.each.numbers.items _ c.in_ok-number.number _ _ _ c.in_ok-push.ensures.items
          (ap (map (λ t. value (with_bounds (context_of r s) sizes) (binding (env_of r s) t) (view_expr c.args.e.now))) (tuples_at sizes c.each.k low) ∙ ap (λ n. n ∷ map (λ t. value (with_bounds (context_of r s) sizes) (binding (env_of r s) t) (view_expr c.args.e.now)) (drop (c.each.k + 1) (tuples sizes))) (sym number))
          c.each.invariant.numbers;
    }

pub returns-clause-numbers : goal.returns-clause-numbers
returns-clause-numbers c =
    let r = c.args.reading.now in
    let s = c.args.frame.now in
    let sizes = c.args.sizes.now in
    c.of.ensures ∙ put_all c.each.numbers.items _ _
    (ap (map (λ t. value (with_bounds (context_of r s) sizes) (binding (env_of r s) t) (view_expr c.args.e.now))) (tuples_end sizes c.each.k (omega (arith, c.each-test.false, c.count-all.ensures)))) c.each.invariant.numbers
