use Rattle.std.proofs.Common.{rules, ◌∙◌, subst}
use Rattle.ir_lex.specs.Cut.{cut_of, cuts_of}
use Rattle.ir_read.specs.Ahead.{ends}
use Rattle.ir_read.specs.Reads.{Reads}
use Rattle.ir_read.specs.View.{state_of, view_reading}
use Rattle.ir_read.proofs.Passing.{inside_is, comes_passes}
use Rattle.ir_read.proofs.item.pass.Goals as goal

pub returns-clause-value : goal.returns-clause-value
returns-clause-value c =
    let s = state_of c.args.whole.now c.args.body in
    let item = cut_of c.args.item.now in
    comes_passes c.apply.result c.apply.new.whole (ends item (cuts_of c.args.after.now)) s item (cuts_of c.args.after.now) (view_reading c.in_ok-reading.reading) (search rules)
    (subst (λ q. Reads q (view_reading c.in_ok-reading.reading) item.lexemes) (c.is_some.ensures ∙ inside_is c.args.whole.now c.args.body) c.in_ok-reading.ensures.value)
    c.apply.ensures.value
