use Rattle.std.proofs.Common.{◌≡◌, ◌+◌, ◌*◌, ◌^◌, ℕ, Bool, length, take, All}
use Rattle.hk_cnf.specs.Literal.{IsWithin}
use Rattle.hk_cnf.specs.Circuit.{gate_value}
use Rattle.hk_circuit.specs.Words.{bit, gate_number}
use Rattle.hk_circuit.specs.Frame.{Frame}
use Rattle.hk_circuit.proofs.adder.add_with_carry.Given as goal

abbrev pub invariant-loop-i : goal.invariant-loop-i
invariant-loop-i l = record {
  frame : Frame l.initial.gates l.gates;
  size : length l.word.items ≡ l.i;
  word_within : All (IsWithin l.gates.vars) l.word.items;
  carry_within : IsWithin l.gates.vars l.carry;
  value : (v : ℕ → Bool) → gate_number l.gates l.word.items v + 2 ^ l.i * bit (gate_value l.gates l.carry v)
      ≡ gate_number l.initial.gates (take l.i l.a) v + gate_number l.initial.gates (take l.i l.b) v + bit (gate_value l.initial.gates l.initial.carry v);
}
