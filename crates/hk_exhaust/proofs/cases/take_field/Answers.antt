use Rattle.std.proofs.Common.{subst, sym, map}
use Rattle.std.specs.Prelude.{All}
use Rattle.spec_tree.specs.Sorted.{IsSize, key_sizes, sort_of}
use Rattle.spec_tree.specs.View.{view_field, view_key}
use Rattle.spec_state.proofs.Points.{sizes_hold}
use Rattle.hk_exhaust.proofs.cases.take_field.Goals as goal

pub entries_in-count-requires-clause-some : goal.entries_in-count-requires-clause-some
entries_in-count-requires-clause-some c = subst (λ ks. All IsSize (key_sizes (map view_key ks))) (sym c.as_slice.ensures) (sizes_hold (sort_of (view_field c.args.field.now)) c.requires)
