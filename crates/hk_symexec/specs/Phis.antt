-- Phis whose operands were read, as terms.
use Rattle.std.specs.Prelude.{◌≡◌, ℕ, Option, Some, None, List, map}
use Rattle.std.specs.List.{All}
use Rattle.hk_term.specs.Meaning.{Reading}
use Rattle.hk_term.specs.declared.node.Node.{Node}
use Rattle.ir_value.specs.declared.value.Value.{Value}
use Rattle.ir_machine.specs.declared.state.Head.{Head}
use Rattle.ir_machine.specs.declared.state.Head.TheVariants as head
use Rattle.hk_symvalue.specs.Meaning.{IsSym, meaning}
use Rattle.hk_symexec.specs.declared.phis.Phi.{Phi}
use Rattle.hk_symexec.specs.declared.phis.SymHead.{SymHead}
use Rattle.hk_symexec.specs.declared.phis.SymHead.TheVariants.{Ends, Reads}

-- the register and the value of each phi
abbrev pub phis_meaning : List Node → Reading → List Phi → List (ℕ × Value)
phis_meaning nodes v phis = map (λ (q : Phi). (q.register, meaning nodes q.value v)) phis

abbrev pub ArePhis : List Node → List Phi → Type 0
ArePhis nodes phis = All (λ (q : Phi). IsSym nodes q.value) phis

-- the phis that were read, where none is lost on every path
abbrev pub staged_meaning : List Node → Reading → Option (List Phi) → Option (List (ℕ × Value))
staged_meaning nodes v None = None
staged_meaning nodes v (Some phis) = Some (phis_meaning nodes v phis)

abbrev pub AreStaged : List Node → Option (List Phi) → Type 0
AreStaged nodes None = Unit {0}
AreStaged nodes (Some phis) = ArePhis nodes phis

abbrev pub IsHead : List Node → SymHead → Type 0
IsHead nodes (Reads phi) = IsSym nodes phi.value
IsHead nodes _ = Unit {0}

abbrev pub ReadsAs : List Node → Reading → SymHead → ℕ → Value → Type 0
ReadsAs nodes v (Reads phi) k x = (phi.register ≡ k) × (meaning nodes phi.value v ≡ x)
ReadsAs nodes v _ k x = ⊥

-- how terms answer the head of a block; where the machine is lost nothing is claimed
abbrev pub AnswersHead : List Node → Reading → SymHead → Head → Type 0
AnswersHead nodes v h head.Ends = h ≡ Ends
AnswersHead nodes v h head.Lost = Unit {0}
AnswersHead nodes v h (head.Reads k x) = ReadsAs nodes v h k x
