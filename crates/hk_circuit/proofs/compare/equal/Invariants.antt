use Rattle.std.proofs.Common.{◌≡◌, ◌&&◌, nat_eq, ℕ, Bool, take}
use Rattle.hk_cnf.specs.Literal.{IsWithin}
use Rattle.hk_cnf.specs.Circuit.{gate_value}
use Rattle.hk_circuit.specs.Words.{gate_number}
use Rattle.hk_circuit.specs.Frame.{Frame}
use Rattle.hk_circuit.proofs.compare.equal.Given as goal

abbrev pub invariant-loop-i : goal.invariant-loop-i
invariant-loop-i l = record {
  frame : Frame l.initial.gates l.gates;
  within : IsWithin l.gates.vars l.same;
  value : (v : ℕ → Bool) → gate_value l.gates l.same v ≡ (gate_value l.initial.gates l.initial.same v && nat_eq (gate_number l.initial.gates (take l.i l.a) v) (gate_number l.initial.gates (take l.i l.b) v));
}
