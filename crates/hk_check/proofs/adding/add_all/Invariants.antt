use Rattle.std.proofs.Common.{◌≡◌, take}
use Rattle.hk_term.specs.Meaning.{Reading, value}
use Rattle.hk_check.specs.Once.{once}
use Rattle.hk_check.proofs.adding.add_all.Given as goal

-- the first ones were added
abbrev pub invariant-each : goal.invariant-each
invariant-each l = record {
  added : l.question.instances ≡ once (take l.place l.items);
  goal : (v : Reading) → value l.question.nodes l.question.goal v ≡ value l.initial.question.nodes l.initial.question.goal v;
}
