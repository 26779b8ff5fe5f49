use Rattle.std.proofs.Common.{◌≡◌, ◌≤◌, ℕ, length, drop}
use Rattle.hk_term.specs.Tables.{number_at}
use Rattle.hk_inst.specs.Inputs.{number_in, variable_number}
use Rattle.hk_inst.proofs.completion.variables.Given as goal

abbrev pub decreases-loop-i : goal.decreases-loop-i
decreases-loop-i l = l.i

abbrev pub invariant-loop-i : goal.invariant-loop-i
invariant-loop-i l = record {
  inside : l.i ≤ length l.bits;
  each : (id : ℕ) → number_at l.vars id ≡ variable_number l.terms (number_in l.bits l.values) (drop l.i l.bits) id;
}
