use Rattle.std.proofs.Common.{ap, sym, subst, ◌∙◌, ◌+◌, ◌∷◌, ℕ, List, map, drop}
use Rattle.spec_tree.specs.Plain as plain
use Rattle.spec_tree.specs.Sorted.{IsFieldSort, IsSorted, sort_of, with_bounds, key_sizes}
use Rattle.spec_tree.specs.Value.{value, binding, tuples}
use Rattle.spec_tree.specs.View.{view_field}
use Rattle.spec_number.specs.Scope.{Scope}
use Rattle.spec_number.specs.Evaluation.{context_of, env_of}
use Rattle.spec_state.proofs.Turns.{all_at, part_at, put_one}
use Rattle.spec_state.proofs.fields.fields_of.Goals as goal

pub entries_of-requires-clause-sort : goal.entries_of-requires-clause-sort
entries_of-requires-clause-sort c =
    (all_at (λ f. IsFieldSort (sort_of f) × IsSorted (with_bounds (context_of c.args.reading.now c.args.frame.now) (key_sizes f.keys)) f.value) view_field c.args.fields.now c.each.field-index c.field-item.result c.each-test.true c.field-item.is c.requires.fields).0

pub entries_of-requires-clause-sorted : goal.entries_of-requires-clause-sorted
entries_of-requires-clause-sorted c =
    subst (λ s. IsSorted (with_bounds (context_of c.args.reading.now s) (key_sizes (view_field c.field-item.result).keys)) (view_field c.field-item.result).value) (sym c.each.invariant.kept)
    (all_at (λ f. IsFieldSort (sort_of f) × IsSorted (with_bounds (context_of c.args.reading.now c.args.frame.now) (key_sizes f.keys)) f.value) view_field c.args.fields.now c.each.field-index c.field-item.result c.each-test.true c.field-item.is c.requires.fields).1

pub each-preserved : goal.each-preserved
each-preserved c =
    let r = c.args.reading.now in
    let s = c.args.frame.now in
    let f = view_field c.field-item.result in
    let G : Scope → plain.Field → List ℕ = λ t g. map (λ x. value (with_bounds (context_of r t) (key_sizes g.keys)) (binding (env_of r t) x) g.value) (tuples (key_sizes g.keys)) in
    record {
      kept = c.in_ok-entries.ensures.kept ∙ c.each.invariant.kept;
      fields = put_one c.each.state.items _ c.in_ok-entries.entries _ _ _ c.in_ok-push.ensures.items
          (ap (λ l. map (G s) (map view_field l)) (part_at c.args.fields.now c.each.field-index c.field-item.result c.field-item.is c.each-test.true)
          ∙ ap (λ n. n ∷ map (G s) (map view_field (drop (c.each.field-index + 1) c.args.fields.now))) (sym (c.in_ok-entries.ensures.entries ∙ ap (λ t. G t f) c.each.invariant.kept)))
          c.each.invariant.fields;
    }
