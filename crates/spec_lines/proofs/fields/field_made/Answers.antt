use Rattle.std.proofs.Common.{option_map, ap, Bor}
use Rattle.spec_tree.specs.View.{view_expr, view_field}
use Rattle.spec_scope.specs.Fields.{view_sort}
use Rattle.spec_scope.specs.declared.sorts.FieldSort.{FieldSort}
use Rattle.spec_lines.proofs.FieldTurns.{made_with}
use Rattle.spec_lines.proofs.fields.field_made.Goals as goal

pub returns-in_ok-field-in-Some-sort : goal.returns-in_ok-field-in-Some-sort
returns-in_ok-field-in-Some-sort c = λ d head sorted.
    made_with d (option_map view_expr c.args.value) (option_map (λ (f : Bor FieldSort). view_sort f.now) c.args.sort) (view_expr c.in-Some.y)
    (view_sort c.in-Some-sort.sort.now) (view_field c.in_ok-field-in-Some-sort.field) (ap (option_map view_expr) c.in-Some.is) sorted
    (ap (option_map (λ (f : Bor FieldSort). view_sort f.now)) c.in-Some-sort.is) (c.in_ok-field-in-Some-sort.ensures d head)
