use Rattle.std.proofs.Common.{◌≡◌, not, nat_lt, if◌then◌else◌, ℕ, Bool, take}
use Rattle.hk_cnf.specs.Literal.{IsWithin}
use Rattle.hk_cnf.specs.Circuit.{gate_value}
use Rattle.hk_circuit.specs.Words.{gate_number}
use Rattle.hk_circuit.specs.Frame.{Frame}
use Rattle.hk_circuit.proofs.compare.less.Given as goal

abbrev pub invariant-loop-i : goal.invariant-loop-i
invariant-loop-i l = record {
  frame : Frame l.initial.gates l.gates;
  within : IsWithin l.gates.vars l.less;
  value : (v : ℕ → Bool) → gate_value l.gates l.less v ≡ (if gate_value l.initial.gates l.initial.less v then not (nat_lt (gate_number l.initial.gates (take l.i l.b) v) (gate_number l.initial.gates (take l.i l.a) v)) else nat_lt (gate_number l.initial.gates (take l.i l.a) v) (gate_number l.initial.gates (take l.i l.b) v));
}
