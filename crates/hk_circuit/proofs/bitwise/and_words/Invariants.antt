use Rattle.std.proofs.Common.{◌≡◌, bit_and, ℕ, Bool, length, take, All}
use Rattle.hk_cnf.specs.Literal.{IsWithin}
use Rattle.hk_circuit.specs.Words.{gate_number}
use Rattle.hk_circuit.specs.Frame.{Frame}
use Rattle.hk_circuit.proofs.bitwise.and_words.Given as goal

abbrev pub invariant-loop-i : goal.invariant-loop-i
invariant-loop-i l = record {
  frame : Frame l.initial.gates l.gates;
  size : length l.word.items ≡ l.i;
  within : All (IsWithin l.gates.vars) l.word.items;
  value : (v : ℕ → Bool) → gate_number l.gates l.word.items v ≡ bit_and (gate_number l.initial.gates (take l.i l.a) v) (gate_number l.initial.gates (take l.i l.b) v);
}
