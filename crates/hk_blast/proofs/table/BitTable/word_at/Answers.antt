use Rattle.std.proofs.Common.{◌≡◌, Some, rules}
use Rattle.std.specs.Prelude.{option_map, slice_get}
use Rattle.hk_blast.proofs.BlastedLaws.{at-within}
use Rattle.hk_blast.proofs.table.BitTable.word_at.Goals as goal

pub returns-clause-within : goal.returns-clause-within
returns-clause-within c = λ nodes d h.
    let at : option_map (λ e. e.1) (slice_get c.args.self.now c.args.i) ≡ Some c.as_slice.result.now = search rules in
    at-within nodes d c.args.self.now c.args.i c.as_slice.result.now h at
