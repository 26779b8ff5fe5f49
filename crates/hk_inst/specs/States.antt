-- What a question's parts say, for the calls that change them.
use Rattle.std.specs.Prelude.{◌≡◌, ℕ, Bool, true, false, List, length, Option, slice_get, Some}
use Rattle.hk_term.specs.declared.node.Node.{Node}
use Rattle.hk_term.specs.declared.node.Node.TheVariants.{Select, ForAll}
use Rattle.hk_inst.specs.declared.state.State.{State}
use Rattle.hk_inst.specs.declared.growth.Task.{Task}
use Rattle.hk_inst.specs.declared.growth.Task.TheVariants.{Place, Open, Nothing}
use Rattle.hk_inst.specs.Inputs.{is_select, is_quantifier}
use Rattle.hk_inst.specs.Questions.{Asked}
use Rattle.hk_inst.specs.Growing.{IsGrowing, AreStepped}
use Rattle.hk_inst.specs.Left.{AreOnce}

abbrev pub asked_of : State → Asked
asked_of s = record {
  nodes = s.terms;
  goal = s.goal;
  circuit = s.gates;
  table = record { words = s.bits; reads = s.reads.items; quantifiers = s.quantifiers.items; openings = s.openings.items };
  instances = s.instances;
  demands = s.demands.items;
}

-- a question's parts, between its calls: all entries are done, reads and quantifiers have their numbers, and no instance is there twice
pub record IsKept (s : State) : Type 0 where
  pub growing : IsGrowing (asked_of s) s.first s.next (length s.bits)
  pub stepped : AreStepped (asked_of s)
  pub once : AreOnce s.instances

-- what is to be done for an entry of the table: the place of a read comes in, a quantifier is opened, or nothing
abbrev pub IsTask : List Node → ℕ → Task → Type 0
IsTask nodes t (Place index) = (array : ℕ) × (size : ℕ) × (slice_get nodes t ≡ Some (Select array size index))
IsTask nodes t (Open bound body) = slice_get nodes t ≡ Some (ForAll bound body)
IsTask nodes t Nothing = (is_select (slice_get nodes t) ≡ false) × (is_quantifier (slice_get nodes t) ≡ false)

-- the test for reads, or the one for quantifiers
abbrev pub kind_of : Bool → Option Node → Bool
kind_of true o = is_select o
kind_of false o = is_quantifier o
