use Rattle.std.proofs.Common.{subst}
use Rattle.hk_symvalue.specs.Meaning.{is_true}
use Rattle.hk_symstep.specs.Held.{held_meaning}
use Rattle.ir_walk.specs.Walk.{on_computed}
use Rattle.hk_symexec.specs.Seen.{seen}
use Rattle.hk_symexec.proofs.Following.{tracks_as}
use Rattle.hk_symexec.proofs.Settling.{sets_split, passes_split, lost_same}
use Rattle.hk_symstep.specs.Steps.{AnswersComputed}
use Rattle.hk_symexec.proofs.settle.settle.Goals as goal

pub returns-in_ok-made-in-Sets-clause-tracks : goal.returns-in_ok-made-in-Sets-clause-tracks
returns-in_ok-made-in-Sets-clause-tracks c = λ P f v memory go e made answers h.
    c.in_ok-made-in-Sets.ensures.tracks P f v memory go (λ rs m. on_computed c.args.step.now rs m go (made rs m)) e
    (λ rs w fine. sets_split c.args.step.now rs memory go (is_true c.args.t.now c.in-Sets.stuck v) (held_meaning c.args.t.now v c.in-Sets.held) (made rs memory)
    (subst (λ k. AnswersComputed c.args.t.now v k (made rs memory)) c.in-Sets.is (answers rs w)) fine) h

pub returns-in_ok-made-in-Passes-clause-tracks : goal.returns-in_ok-made-in-Passes-clause-tracks
returns-in_ok-made-in-Passes-clause-tracks c = λ P f v memory go e made answers h.
    c.in_ok-made-in-Passes.ensures.tracks P f v memory go (λ rs m. on_computed c.args.step.now rs m go (made rs m)) e
    (λ rs w fine. passes_split c.args.step.now rs memory go (is_true c.args.t.now c.in-Passes.stuck v) (made rs memory)
    (subst (λ k. AnswersComputed c.args.t.now v k (made rs memory)) c.in-Passes.is (answers rs w)) fine) h

pub returns-in-Lost-clause-tracks : goal.returns-in-Lost-clause-tracks
returns-in-Lost-clause-tracks c = λ P f v memory go e made answers h.
    tracks_as P f (seen c.args.t.now v c.args.x) memory (λ rs m. on_computed c.args.step.now rs m go (made rs m)) go e
    (λ rs g w fine. lost_same c.args.step.now rs memory go (made rs memory) (subst (λ k. AnswersComputed c.args.t.now v k (made rs memory)) c.in-Lost.is (answers rs w)) fine) h
