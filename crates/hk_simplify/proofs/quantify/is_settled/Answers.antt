use Rattle.hk_term.specs.Meaning.{value}
use Rattle.hk_simplify.proofs.TupleLaws.{every_tuple-known}
use Rattle.hk_simplify.proofs.quantify.is_settled.Goals as goal

pub returns-in-Some : goal.returns-in-Some
returns-in-Some c = λ e v. every_tuple-known c.args.bound.now (value c.args.t.now c.args.body) c.in-Some.field-0 v c.requires.some c.in-Some.ensures.known (rw c.requires.truth at c.in-Some.ensures.number)
