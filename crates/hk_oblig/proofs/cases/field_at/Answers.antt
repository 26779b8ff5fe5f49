use Rattle.std.proofs.Common.{subst, sym, map}
use Rattle.std.specs.Prelude.{All}
use Rattle.spec_tree.specs.Sorted.{IsSize, key_sizes, sort_of}
use Rattle.spec_tree.specs.View.{view_field, view_key}
use Rattle.hk_oblig.proofs.Turns.{sizes_hold}
use Rattle.hk_oblig.proofs.cases.field_at.Goals as goal

pub entries_in-count-requires-clause-some : goal.entries_in-count-requires-clause-some
entries_in-count-requires-clause-some c = subst (λ ks. All IsSize (key_sizes (map view_key ks))) (sym c.as_slice.ensures) (sizes_hold (sort_of (view_field c.args.field.now)) c.requires)
