use Rattle.std.proofs.Common.{◌≡◌, ◌*◌, ◌^◌, ◌%◌, ℕ, Bool, length, take, All}
use Rattle.hk_cnf.specs.Literal.{IsWithin}
use Rattle.hk_circuit.specs.Words.{gate_number}
use Rattle.hk_circuit.specs.Frame.{Frame}
use Rattle.hk_circuit.proofs.shift.move_left.Given as goal

abbrev pub invariant-loop-i : goal.invariant-loop-i
invariant-loop-i l = record {
  frame : Frame l.initial.gates l.gates;
  size : length l.word.items ≡ length l.a;
  within : All (IsWithin l.gates.vars) l.word.items;
  value : (v : ℕ → Bool) → gate_number l.gates l.word.items v ≡ (gate_number l.initial.gates l.a v * 2 ^ gate_number l.initial.gates (take l.i l.amount) v) % 2 ^ length l.a;
}
