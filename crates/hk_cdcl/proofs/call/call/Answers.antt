use Rattle.std.proofs.Common.{IfSome, sym, subst}
use Rattle.hk_cdcl.specs.Forgetting.{Answers, Called}
use Rattle.hk_cdcl.proofs.Segmenting.{called-answer, back-clauses, back-log, learns-again, called-again}
use Rattle.hk_cdcl.proofs.call.call.Goals as goal

pub returns-in-Some-clause-called : goal.returns-in-Some-clause-called
returns-in-Some-clause-called c =
    subst (Called c.args.given c.args.budget c.args.search.now c.segments.new.whole) (sym c.found_of.ensures)
    (called-answer c.args.given c.args.budget c.args.search.now c.segments.new.whole c.in-Some.answer c.requires.inside c.segments.ensures.learns
    (subst (λ o. IfSome o (Answers c.args.given c.segments.new.whole)) c.in-Some.is c.in_ok-end.ensures.answers))

pub returns-clause-learns : goal.returns-clause-learns
returns-clause-learns c =
    learns-again c.args.given c.args.search.now c.go_back.new.search c.run.new.search
    (back-clauses c.args.search.now c.segments.new.whole c.go_back.new.search c.len-clauses.result c.segments.ensures.learns c.len-clauses.ensures.value c.in_ok-go_back.ensures.clauses)
    (back-log c.args.search.now c.segments.new.whole c.go_back.new.search c.len-rows.result c.segments.ensures.learns c.len-rows.ensures c.in_ok-go_back.ensures.log)
    c.requires.logged c.run.ensures.grows

pub returns-clause-called : goal.returns-clause-called
returns-clause-called c =
    called-again c.args.given c.args.budget c.args.search.now c.go_back.new.search c.run.new.search c.run.result
    (back-clauses c.args.search.now c.segments.new.whole c.go_back.new.search c.len-clauses.result c.segments.ensures.learns c.len-clauses.ensures.value c.in_ok-go_back.ensures.clauses)
    (back-log c.args.search.now c.segments.new.whole c.go_back.new.search c.len-rows.result c.segments.ensures.learns c.len-rows.ensures c.in_ok-go_back.ensures.log)
    c.requires.logged c.run.ensures.grows c.run.ensures.ran
