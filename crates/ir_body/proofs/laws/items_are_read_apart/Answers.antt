use Rattle.ir_lex.specs.Drop.{remaining}
use Rattle.ir_lex.specs.Tok.{toks}
use Rattle.ir_body.proofs.InnerLaws.{spelled_apart}
use Rattle.ir_body.proofs.laws.items_are_read_apart.Goals as goal

pub returns : goal.returns
returns c = λ a b ts s r. spelled_apart a b (toks (remaining ts)) s.1 r.1
