-- Every case of an obligation by a number: the bits of the state, then those of the arguments, the low bits first.
use Rattle.std.specs.Prelude.{ℕ, ◌/◌, ◌%◌, ◌^◌, if◌then◌else◌, List, [], ◌∷◌, replicate}
use Rattle.ir_layout.specs.declared.object.Object.{Object}
use Rattle.spec_tree.specs.Plain.{Field, Transition, Spec}
use Rattle.spec_tree.specs.Sorted.{key_sizes, product}
use Rattle.hk_case.specs.declared.Obligation.{Obligation}
use Rattle.hk_case.specs.declared.Obligation.TheVariants.{Property}
use Rattle.hk_case.specs.declared.Case.{Case}
use Rattle.hk_case.specs.declared.Case.TheVariants.{Machine, Abstract}

-- numbers of these widths from the low bits of a number on, and what is left of it behind them
abbrev pub numbers_of : List ℕ → ℕ → List ℕ
numbers_of [] n = []
numbers_of (w ∷ ws) n = n % 2 ^ w ∷ numbers_of ws (n / 2 ^ w)

abbrev pub behind : List ℕ → ℕ → ℕ
behind [] n = n
behind (w ∷ ws) n = behind ws (n / 2 ^ w)

-- ---- machine states

-- a mutable object has a number of eight bits for each byte, a constant its initial bytes
abbrev pub object_widths : Object → List ℕ
object_widths o = if o.constant then [] else replicate o.size 8

abbrev pub object_at : Object → ℕ → List ℕ
object_at o n = if o.constant then o.bytes else numbers_of (object_widths o) n

abbrev pub memory_at : List Object → ℕ → List (List ℕ)
memory_at [] n = []
memory_at (o ∷ os) n = object_at o n ∷ memory_at os (behind (object_widths o) n)

abbrev pub behind_memory : List Object → ℕ → ℕ
behind_memory [] n = n
behind_memory (o ∷ os) n = behind_memory os (behind (object_widths o) n)

-- ---- abstract states

-- a field has a number of its width for each index tuple
abbrev pub field_widths : Field → List ℕ
field_widths f = replicate (product (key_sizes f.keys)) f.width

abbrev pub state_at : List Field → ℕ → List (List ℕ)
state_at [] n = []
state_at (f ∷ fs) n = numbers_of (field_widths f) n ∷ state_at fs (behind (field_widths f) n)

abbrev pub behind_state : List Field → ℕ → ℕ
behind_state [] n = n
behind_state (f ∷ fs) n = behind_state fs (behind (field_widths f) n)

-- ---- cases

abbrev pub case_at : List Object → Spec → Transition → Obligation → ℕ → Case
case_at objects s t (Property p) n = Abstract (state_at s.fields n) (numbers_of t.widths (behind_state s.fields n))
case_at objects s t o n = Machine (memory_at objects n) (numbers_of t.widths (behind_memory objects n))
