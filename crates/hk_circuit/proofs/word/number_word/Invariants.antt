use Rattle.std.proofs.Common.{◌≡◌, ◌^◌, ◌%◌, ℕ, Bool, true, length, All}
use Rattle.hk_cnf.specs.Literal.{IsWithin}
use Rattle.hk_cnf.specs.Circuit.{Circuit, gate_value}
use Rattle.hk_circuit.specs.Words.{gate_number}
use Rattle.hk_circuit.proofs.word.number_word.Given as goal

abbrev pub invariant-loop-i : goal.invariant-loop-i
invariant-loop-i l = record {
  size : length l.word.items ≡ l.i;
  within : (n : ℕ) → IsWithin n l.truth → All (IsWithin n) l.word.items;
  value : (c : Circuit) (v : ℕ → Bool) → gate_value c l.truth v ≡ true → gate_number c l.word.items v ≡ l.number % 2 ^ l.i;
}
