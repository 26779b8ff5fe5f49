use Rattle.ir_part.specs.Reader.{seen}
use Rattle.ir_top.proofs.Answering.{gives_read, gives_unread}
use Rattle.ir_top.proofs.tops.read_top.Goals as goal

pub returns-clause-read : goal.returns-clause-read
returns-clause-read c = gives_read c.top_at.result (seen c.args.tokens.now) c.top_at.ensures

pub returns-clause-unread : goal.returns-clause-unread
returns-clause-unread c = gives_unread c.top_at.result (seen c.args.tokens.now) c.top_at.ensures
