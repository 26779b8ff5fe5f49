use Rattle.std.proofs.Common.{◌≡◌, ◌*◌, ◌^◌, ◌%◌, ℕ, Bool, length, take, All}
use Rattle.hk_cnf.specs.Literal.{IsWithin}
use Rattle.hk_circuit.specs.Words.{gate_number}
use Rattle.hk_circuit.specs.Frame.{Frame}
use Rattle.hk_circuit.proofs.multiply.multiply.Given as goal

abbrev pub invariant-loop-i : goal.invariant-loop-i
invariant-loop-i l = record {
  frame : Frame l.initial.gates l.gates;
  size : length l.sum.items ≡ length l.a;
  within : All (IsWithin l.gates.vars) l.sum.items;
  value : (v : ℕ → Bool) → gate_number l.gates l.sum.items v ≡ (gate_number l.initial.gates l.a v * gate_number l.initial.gates (take l.i l.b) v) % 2 ^ length l.a;
}
