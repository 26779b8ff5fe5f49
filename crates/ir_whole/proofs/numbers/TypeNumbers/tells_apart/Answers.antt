use Rattle.ir_whole.proofs.NameNumbers.{place_within}
use Rattle.ir_whole.proofs.numbers.TypeNumbers.tells_apart.Goals as goal

pub returns : goal.returns
returns c = λ a b l k. c.tells_apart.ensures a b (place_within c.args.self.now.heads a l) (place_within c.args.self.now.heads b k)
