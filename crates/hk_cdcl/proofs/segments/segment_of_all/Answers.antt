use Rattle.std.proofs.Common.{IfSome, sym, subst}
use Rattle.hk_cdcl.specs.Forgetting.{Answers}
use Rattle.hk_cdcl.specs.Names.{front_of}
use Rattle.hk_cdcl.proofs.Segmenting.{learns-grown, answers-ran}
use Rattle.hk_cdcl.proofs.segments.segment_of_all.Goals as goal

pub returns-in_err-found-clause-learns : goal.returns-in_err-found-clause-learns
returns-in_err-found-clause-learns c = learns-grown (front_of c.args.given c.args.whole.now.clauses) c.args.whole.now c.run.new.search c.requires.logged c.run.ensures.grows

pub returns-in_err-kept-clause-learns : goal.returns-in_err-kept-clause-learns
returns-in_err-kept-clause-learns c = learns-grown (front_of c.args.given c.args.whole.now.clauses) c.args.whole.now c.run.new.search c.requires.logged c.run.ensures.grows

pub returns-clause-learns : goal.returns-clause-learns
returns-clause-learns c = learns-grown (front_of c.args.given c.args.whole.now.clauses) c.args.whole.now c.run.new.search c.requires.logged c.run.ensures.grows

pub returns-clause-answers : goal.returns-clause-answers
returns-clause-answers c =
    subst (λ o. IfSome o (Answers c.args.given c.run.new.search)) (sym c.answer_of.ensures)
    (answers-ran c.args.given c.args.budget c.args.whole.now c.run.new.search c.in_ok-found.found c.requires.inside c.requires.logged c.run.ensures.grows c.in_ok-found.ensures.ran)
