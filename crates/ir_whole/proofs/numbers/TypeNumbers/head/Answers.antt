use Rattle.ir_whole.proofs.NameNumbers.{place_within}
use Rattle.std.proofs.Common.{sym, subst}
use Rattle.ir_whole.specs.Heads.{IsWithin}
use Rattle.ir_whole.proofs.HeadLaws.{count_is}
use Rattle.ir_whole.proofs.numbers.TypeNumbers.head.Goals as goal

pub head-requires : goal.head-requires
head-requires c = place_within c.args.self.now.heads c.args.number c.requires

pub returns-clause-within : goal.returns-clause-within
returns-clause-within c = subst (λ n. IsWithin n c.head.result.now) (sym (count_is c.args.self.now.heads)) c.head.ensures.within
