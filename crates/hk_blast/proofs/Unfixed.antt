-- The bits of inputs are fixed by no gate.
use Rattle.std.proofs.Common.{◌≡◌, List, false}
use Rattle.std.specs.List.{All}
use Rattle.hk_cnf.specs.Circuit.{Circuit}
use Rattle.hk_cnf.specs.CircuitParts.{IsCircuit}
use Rattle.hk_cnf.specs.Determined.{is_output}
use Rattle.hk_cnf.proofs.Unfixed.{unfixed}
use Rattle.hk_term.specs.declared.node.Node.{Node}
use Rattle.hk_blast.specs.Blasted.{Words, input_places, AreBlasted}
use Rattle.hk_blast.proofs.BlastedLaws.{places-each}

pub inputs-unfixed : (nodes : List Node) (c : Circuit) (table : Words) → IsCircuit c → AreBlasted nodes c table → All (λ p. is_output c.gates p ≡ false) (input_places nodes table)
inputs-unfixed nodes c table h b = places-each nodes c table (λ p. is_output c.gates p ≡ false) b (λ p l free. unfixed c p h free)
