use Rattle.std.proofs.Common.{◌≡◌, ◌≤◌, ℕ, length, map, drop}
use Rattle.hk_term.specs.Tables.{entry_at}
use Rattle.hk_inst.specs.Inputs.{entry_number}
use Rattle.hk_inst.specs.ReadNumbers.{numbers_at}
use Rattle.hk_inst.proofs.completion.entries.Given as goal

abbrev pub decreases-loop-i : goal.decreases-loop-i
decreases-loop-i l = l.i

abbrev pub invariant-loop-i : goal.invariant-loop-i
invariant-loop-i l = record {
  inside : l.i ≤ length l.reads;
  each : (f : ℕ → ℕ) → l.numbers ≡ map (numbers_at l.terms f) l.reads → (array place : ℕ) → entry_at l.arrays array place ≡ entry_number l.terms f (drop l.i l.reads) array place;
}
