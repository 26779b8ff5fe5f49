use Rattle.ir_whole.proofs.NameNumbers.{place_within}
use Rattle.ir_whole.proofs.numbers.TypeNumbers.has_odd.Goals as goal

pub facts-requires : goal.facts-requires
facts-requires c = place_within c.args.self.now.heads c.args.number c.requires
