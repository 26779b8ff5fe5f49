use Rattle.std.proofs.Common.{◌≡◌, ◌≤◌, ℕ, length, drop}
use Rattle.hk_term.specs.Tables.{entry_at}
use Rattle.hk_inst.specs.Inputs.{number_in}
use Rattle.hk_inst.specs.Violations.{first_read}
use Rattle.hk_inst.proofs.clash.firsts.Given as goal

abbrev pub decreases-loop-i : goal.decreases-loop-i
decreases-loop-i l = l.i

abbrev pub invariant-loop-i : goal.invariant-loop-i
invariant-loop-i l = record {
  inside : l.i ≤ length l.reads;
  each : (array place : ℕ) → entry_at l.firsts array place ≡ first_read l.terms (number_in l.bits l.values) (drop l.i l.reads) l.i array place;
}
