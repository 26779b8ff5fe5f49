use Rattle.ir_lex.specs.Lexeme.{lexemes}
use Rattle.ir_body.proofs.AnswerLaws.{answer_read, answer_ignored, answer_spelled, answer_line, answer_fault}
use Rattle.ir_body.proofs.item.read_body_item.Goals as goal

pub returns : goal.returns
returns c =
    let ts = lexemes c.args.item.now.tokens.now in
    let line = c.args.item.now.line in
    record {
      read = answer_read ts line c.read_exactly.result c.read_exactly.ensures;
      ignored = answer_ignored ts line c.read_exactly.result c.read_exactly.ensures;
      spelled = answer_spelled ts line c.read_exactly.result c.read_exactly.ensures;
      line = answer_line ts line c.read_exactly.result c.read_exactly.ensures;
      fault = answer_fault ts line c.read_exactly.result c.read_exactly.ensures;
    }
