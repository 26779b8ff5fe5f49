use Rattle.std.proofs.Common.{◌≡◌, ◌+◌, ◌-◌, take, subst, arith}
use Rattle.hk_cdcl.specs.Names.{AreNames}
use Rattle.hk_cdcl.proofs.Segmenting.{learns-then}
use Rattle.hk_cdcl.proofs.segments.take_over.Goals as goal

pub returns-in_err-learn_named-clause-learns : goal.returns-in_err-learn_named-clause-learns
returns-in_err-learn_named-clause-learns c = learns-then c.args.whole.now c.loop-i.whole c.learn_named.new.whole c.loop-i.invariant.learns c.learn_named.ensures.learns

pub loop-i-preserved : goal.loop-i-preserved
loop-i-preserved c =
    let e : (c.len-first.result - 1 + c.loop-i.i) + 1 ≡ c.len-first.result - 1 + (c.loop-i.i + 1) = omega arith in
    record {
      learns = learns-then c.args.whole.now c.loop-i.whole c.learn_named.new.whole c.loop-i.invariant.learns c.learn_named.ensures.learns;
      are_names = subst (λ n. AreNames (take n c.args.active.now.clauses.clauses) c.learn_named.new.whole.clauses.clauses c.learn_named.new.names.items) e c.in_ok-learn_named.ensures.names;
    }
