use Rattle.std.proofs.Common.{◌+◌, ◌++◌, ◌∷◌, [], map, drop, option_map, ap, ◌∙◌}
use Rattle.std.proofs.lemmas.List.{map-append}
use Rattle.std.proofs.lemmas.Result.{err_from_is_err_and}
use Rattle.spec_tree.specs.View.{view_expr, view_field}
use Rattle.spec_lines.specs.Whole.{fields_from}
use Rattle.spec_lines.specs.MadeView.{view_values}
use Rattle.spec_lines.proofs.FieldTurns.{turned, stopped, there_at}
use Rattle.spec_lines.proofs.fields.fields_from.Goals as goal

pub returns-in_err-field : goal.returns-in_err-field
returns-in_err-field c =
    let whole = fields_from [] c.args.table.now (view_values c.args.values.items) in
    let p = err_from_is_err_and c.from_residual.result c.from_residual.ensures.1 in
    rw (p.1, p.2)
    (stopped c.args.table.now c.args.heads.now c.each.place (map view_field c.each.fields.items) (view_values c.each.values.items)
    (option_map view_expr c.take_value-value.result) c.in_err-field.field-0.0 whole
    (record {
      are = c.requires;
      within = there_at c.args.heads.now c.each.place c.each.index c.each.invariant.counted c.each-test.true;
      taken = c.take_value-value.ensures.value;
      left = c.each.invariant.left;
    })
    c.in_err-field.ensures)

pub each-preserved : goal.each-preserved
each-preserved c =
    let whole = fields_from [] c.args.table.now (view_values c.args.values.items) in
    let fs = map view_field c.each.fields.items in
    let ws = view_values c.take_value-value.new.values.items in
    let items = ap (map view_field) c.in_ok-push.ensures.items ∙ map-append view_field c.each.fields.items (c.in_ok-field.field ∷ []) in
    record {
      counted = c.in_ok-place.ensures ∙ ap (λ k. k + 1) c.each.invariant.counted;
      left =
          ap (λ gs. fields_from gs (drop c.in_ok-place.place c.args.table.now) (drop c.in_ok-place.place ws)) items
          ∙ (ap (λ j. fields_from (fs ++ view_field c.in_ok-field.field ∷ []) (drop j c.args.table.now) (drop j ws)) c.in_ok-place.ensures
          ∙ turned c.args.table.now c.args.heads.now c.each.place fs (view_values c.each.values.items) ws
          (option_map view_expr c.take_value-value.result) (view_field c.in_ok-field.field) whole
          (record {
            are = c.requires;
            within = there_at c.args.heads.now c.each.place c.each.index c.each.invariant.counted c.each-test.true;
            taken = c.take_value-value.ensures.value;
            left = c.each.invariant.left;
          })
          c.take_value-value.ensures.rest c.in_ok-field.ensures);
    }
