use Rattle.std.proofs.Common.{◌≡◌, ◌<◌, ◌-◌, nat_eq, ℕ, pos, Bool, length, drop, get_or, All}
use Rattle.hk_cnf.specs.Literal.{IsWithin}
use Rattle.hk_cnf.specs.Circuit.{gate_value}
use Rattle.hk_circuit.specs.Words.{gate_number}
use Rattle.hk_circuit.specs.Frame.{Frame}
use Rattle.hk_circuit.proofs.divide.clear_flags.Given as goal

abbrev pub invariant-loop-k : goal.invariant-loop-k
invariant-loop-k l = record {
  frame : Frame l.initial.gates l.gates;
  size : length l.flags.items ≡ l.k;
  within : All (IsWithin l.gates.vars) l.flags.items;
  clear_within : IsWithin l.gates.vars l.clear;
  clear : (v : ℕ → Bool) → gate_value l.gates l.clear v ≡ nat_eq (gate_number l.initial.gates (drop (length l.b - l.k) l.b) v) 0;
  flags : (m : ℕ) → m < l.k → (v : ℕ → Bool) → gate_value l.gates (get_or l.flags.items m (pos 1)) v ≡ nat_eq (gate_number l.initial.gates (drop (length l.b - m) l.b) v) 0;
}
