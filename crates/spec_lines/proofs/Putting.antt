-- Values that are put at places.
use Rattle.std.proofs.Common.{◌≡◌, ℕ, Some, Option, List, length, option_map, ap}
use Rattle.std.specs.Prelude.{nat_lt, slice_set}
use Rattle.std.proofs.lemmas.List.{map-set, length-map}
use Rattle.spec_tree.specs.View.{view_expr}
use Rattle.spec_tree.specs.declared.expr.Expr.{Expr}
use Rattle.spec_lines.specs.MadeView.{view_values}

pub put_seen : (values : List (Option Expr)) (k : ℕ) (y : Expr) → view_values (slice_set values k (Some y)) ≡ slice_set (view_values values) k (Some (view_expr y))
put_seen values k y = map-set (option_map view_expr) values k (Some y)

pub many_seen : (values : List (Option Expr)) (k : ℕ) → nat_lt k (length (view_values values)) ≡ nat_lt k (length values)
many_seen values k = ap (nat_lt k) (length-map values (option_map view_expr))
