use Rattle.std.proofs.Common.{◌≡◌, ◌-◌, ℕ, Bool, length, drop, reverse, All}
use Rattle.hk_cnf.specs.Literal.{IsWithin}
use Rattle.hk_term.specs.Operations.{udiv_value, urem_value}
use Rattle.hk_circuit.specs.Words.{gate_number}
use Rattle.hk_circuit.specs.Frame.{Frame}
use Rattle.hk_circuit.proofs.divide.divide_with.Given as goal

abbrev pub invariant-loop-j : goal.invariant-loop-j
invariant-loop-j l = record {
  frame : Frame l.initial.gates l.gates;
  digits_size : length l.digits.items ≡ l.j;
  rest_size : length l.rest.items ≡ l.j;
  digits_within : All (IsWithin l.gates.vars) l.digits.items;
  rest_within : All (IsWithin l.gates.vars) l.rest.items;
  quotient : (v : ℕ → Bool) → gate_number l.gates (reverse l.digits.items) v ≡ udiv_value l.j (gate_number l.initial.gates (drop (length l.a - l.j) l.a) v) (gate_number l.initial.gates l.b v);
  remainder : (v : ℕ → Bool) → gate_number l.gates l.rest.items v ≡ urem_value l.j (gate_number l.initial.gates (drop (length l.a - l.j) l.a) v) (gate_number l.initial.gates l.b v);
}
