use Rattle.std.proofs.Common.{rules, ◌≡◌, subst, sym, map}
use Rattle.std.specs.Prelude.{All}
use Rattle.spec_tree.specs.Sorted.{IsSize, key_sizes, sort_of}
use Rattle.spec_tree.specs.View.{view_field, view_key}
use Rattle.spec_state.proofs.Points.{sizes_hold}
use Rattle.spec_state.proofs.fields.entries_of.Goals as goal

pub numbers_at-requires-clause-some : goal.numbers_at-requires-clause-some
numbers_at-requires-clause-some c =
    let same : c.as_slice-2.result.now ≡ key_sizes (map view_key c.args.field.now.keys) = search rules in
    subst (All IsSize) (sym same) (sizes_hold (sort_of (view_field c.args.field.now)) c.requires.sort)
