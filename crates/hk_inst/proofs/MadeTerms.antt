-- What the call that blasts a term tells, together.
use Rattle.std.proofs.Common.{◌≡◌, ◌⊎◌, ℕ, ◌<◌, ◌≤◌, false, List}
use Rattle.std.specs.Prelude.{Result, Ok, Err, OnOk}
use Rattle.std.specs.List.{Contains}
use Rattle.hk_term.specs.declared.node.Node.{Node}
use Rattle.hk_cnf.specs.Circuit.{Circuit}
use Rattle.hk_cnf.specs.CircuitParts.{IsCircuit}
use Rattle.hk_cnf.specs.Determined.{is_output}
use Rattle.hk_cnf.specs.Front.{IsFront}
use Rattle.hk_cnf.specs.Required.{required_of}
use Rattle.hk_blast.specs.Blasted.{Words, HasWord, Needs, Lengthens, input_places, AreBlasted}
use Rattle.hk_inst.specs.Growing.{IsMade}

pub made : {E : Type 0} (result : Result (Unit {0}) E) (nodes : List Node) (c d : Circuit) (old new : Words) (t : ℕ) → IsCircuit d → IsFront c d → required_of d ≡ required_of c → AreBlasted nodes d new → Lengthens nodes c.vars old new
    → ((k : ℕ) → HasWord new k → (HasWord old k) ⊎ (Needs nodes t k)) → OnOk result (HasWord new t)
    → OnOk result ((p : ℕ) → c.vars ≤ p → p < d.vars → is_output d.gates p ≡ false → Contains (input_places nodes new) p) → OnOk result (IsMade nodes c d old new t)
made (Ok u) nodes c d old new t circuit front beside table lengthens only there inputs =
    record { circuit = circuit; front = front; beside = beside; table = table; lengthens = lengthens; only = only; there = there; inputs = inputs }
made (Err e) nodes c d old new t circuit front beside table lengthens only there inputs = there
