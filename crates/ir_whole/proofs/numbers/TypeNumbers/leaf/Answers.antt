use Rattle.ir_whole.proofs.NameNumbers.{named_grown, grown_on, types_on, types_longer, types_keep, number_within}
use Rattle.ir_whole.proofs.numbers.TypeNumbers.leaf.Goals as goal

pub returns-in_err-number-clause-longer : goal.returns-in_err-number-clause-longer
returns-in_err-number-clause-longer c = types_longer c.args.self.now.heads c.intern.new.self c.intern.ensures.grows

pub returns-in_err-number-clause-keeps : goal.returns-in_err-number-clause-keeps
returns-in_err-number-clause-keeps c = types_keep c.args.self.now.heads c.intern.new.self c.intern.ensures.grows

pub returns-in_err-number-clause-grows : goal.returns-in_err-number-clause-grows
returns-in_err-number-clause-grows c = types_on c.args.self.now.heads c.intern.new.self c.intern.ensures.grows

pub returns-in_err-number-clause-types : goal.returns-in_err-number-clause-types
returns-in_err-number-clause-types c = λ types are.
    named_grown types c.args.self.now.heads c.intern.new.self c.args.self.now.named.items (grown_on c.args.self.now.heads c.intern.new.self c.intern.ensures.grows) are

pub returns-clause-within : goal.returns-clause-within
returns-clause-within c = number_within c.intern.new.self c.in_ok-number.number c.in_ok-number.ensures.within

pub returns-clause-longer : goal.returns-clause-longer
returns-clause-longer c = types_longer c.args.self.now.heads c.intern.new.self c.intern.ensures.grows

pub returns-clause-keeps : goal.returns-clause-keeps
returns-clause-keeps c = types_keep c.args.self.now.heads c.intern.new.self c.intern.ensures.grows

pub returns-clause-grows : goal.returns-clause-grows
returns-clause-grows c = types_on c.args.self.now.heads c.intern.new.self c.intern.ensures.grows

pub returns-clause-types : goal.returns-clause-types
returns-clause-types c = λ types are.
    named_grown types c.args.self.now.heads c.intern.new.self c.args.self.now.named.items (grown_on c.args.self.now.heads c.intern.new.self c.intern.ensures.grows) are
