use Rattle.std.proofs.Common.{length, drop}
use Rattle.hk_cnf.specs.Required.{required_from}
use Rattle.hk_cnf.proofs.Determination.{Mixes-required}
use Rattle.hk_cnf.proofs.OwnClauses.{Mixes-count, required-satisfied}
use Rattle.hk_cnf.proofs.RequiredLaws.{required-kept, required-front}
use Rattle.hk_cnf.proofs.laws.required_clauses_stand_beside_those_of_gates.Goals as goal

pub returns : goal.returns
returns c = record {
  mixes = Mixes-required;
  count = Mixes-count;
  satisfied = λ d h a. required-satisfied d a h;
  kept = required-kept;
  behind = λ d e h k f. (required_from (length d.clauses) e.clauses (drop (length d.gates) e.gates), required-front d e h k f);
}
