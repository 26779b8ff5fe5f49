use Rattle.std.proofs.Common.{◌≤◌, length, arith, List, ℤ, Result, Ok, Err, OnOk, ◌∙◌}
use Rattle.std.specs.declared.alloc.AllocError.{AllocError}
use Rattle.hk_cdcl.specs.Propagation.{Grown}
use Rattle.hk_cdcl.specs.Watching.{Fits}
use Rattle.hk_cdcl.proofs.Attaching.{fits-grown}
use Rattle.hk_cdcl.proofs.watched.WatchedPropagate.added.Goals as goal

whenever : (r : Result (Unit {0}) AllocError) (P : Type 0) → P → OnOk r P
whenever (Ok u) P h = h
whenever (Err e) P h = tt

pub returns-clause-grown : goal.returns-clause-grown
returns-clause-grown c =
    whenever c.make_room.result ((old : List (List ℤ)) (seen : List ℤ) → Fits c.args.self.now old seen → Grown old c.args.clauses.now.clauses → Fits c.make_room.new.self c.args.clauses.now.clauses seen)
    (λ old seen f g. fits-grown c.args.self.now c.make_room.new.self old c.args.clauses.now.clauses seen
    (record {
      more = let a : length c.args.self.now.watches.lists ≤ length c.widen.new.self.lists = c.widen.ensures.lists.more in let b : length c.widen.new.self.lists ≤ length c.make_room.new.self.watches.lists = c.make_room.ensures.watches.more in omega (arith, a, b);
      same = λ l. c.make_room.ensures.watches.same l ∙ c.widen.ensures.lists.same l;
    })
    (c.make_room.ensures.pairs ∙ c.widen.ensures.pairs) (c.make_room.ensures.texts ∙ c.widen.ensures.texts) (c.make_room.ensures.ends ∙ c.reserve.ensures.items) g f)
