use Rattle.std.proofs.Common.{◌≡◌, ◌⊎◌, ◌≤◌, ◌<◌, ℕ, ℤ, Bool, length, reverse}
use Rattle.hk_cnf.specs.Literal.{place_of}
use Rattle.hk_cnf.specs.Circuit.{Circuit, gate_value}
use Rattle.hk_cnf.specs.CircuitGrowth.{IsGrown, inputs_of}
use Rattle.hk_blast.specs.Blasted.{Words, HasWord, Needs, AreBlasted, Lengthens, AddsInputs}
use Rattle.hk_blast.specs.Walk.{Stands, left}
use Rattle.hk_blast.proofs.walk.blast_missing.Given as goal

abbrev pub invariant-going : goal.invariant-going
invariant-going l = record {
  vars : l.fn.gates.vars ≤ l.gates.vars;
  keeps : (x : ℤ) → place_of x < l.fn.gates.vars → (v : ℕ → Bool) → gate_value l.gates x v ≡ gate_value l.fn.gates x v;
  grows : (c : Circuit) → IsGrown c l.fn.gates → IsGrown c l.gates;
  required : (inputs_of l.gates).required ≡ (inputs_of l.fn.gates).required;
  table : AreBlasted l.terms l.gates l.bits;
  lengthens : (first : ℕ) (front : Words) → first ≤ l.fn.gates.vars → Lengthens l.terms first front l.fn.bits → Lengthens l.terms first front l.bits;
  inputs : AddsInputs l.terms l.fn.gates l.gates l.fn.bits l.bits;
  only : (k : ℕ) → HasWord l.bits k → (HasWord l.fn.bits k) ⊎ (Needs l.terms l.t k);
  stands : Stands l.terms l.t l.bits l.next (reverse l.waiting.items);
}

abbrev pub decreases-going : goal.decreases-going
decreases-going l = left (length l.terms) l.bits l.next
