use Rattle.std.proofs.Common.{rules, arith, ◌≤◌, ◌<◌, length, slice_index_or}
use Rattle.spec_value.proofs.Steps.{first_fits, rest_shorter, rest_sizes, rest_few}
use Rattle.spec_value.proofs.tuples.+place_from.Goals as goal

pub deeper-requires : goal.deeper-requires
deeper-requires t c =
    let long : 1 ≤ length c.args.keys.now = search rules in
    let low : slice_index_or c.args.indices.now 0 0 < c.size_at-size.result = search rules in
    first_fits c.args.keys.now _ c.size_at-size.result c.args.before (slice_index_or c.args.indices.now 0 0) long c.size_at-size.ensures c.requires.some c.requires.few low

pub place_from-requires : goal.place_from-requires
place_from-requires t c =
    let long : 1 ≤ length c.args.keys.now = search rules in
    let low : slice_index_or c.args.indices.now 0 0 < c.size_at-size.result = search rules in (
      omega (arith, c.decreases, rest_shorter c.args.keys.now long),
      (
        rest_sizes c.args.keys.now long c.requires.some,
        rest_few c.args.keys.now _ c.size_at-size.result c.args.before (slice_index_or c.args.indices.now 0 0) c.deeper.result long c.size_at-size.ensures c.requires.few low c.deeper.ensures,
      ),
    )
