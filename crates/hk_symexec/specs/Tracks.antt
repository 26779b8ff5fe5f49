-- Where a walk of a function is under a reading, and when a symbolic state follows it.
use Rattle.std.specs.Prelude.{◌≡◌, ◌⊎◌, ℕ, suc, ◌<◌, Bool, true, false, nat_eq, if◌then◌else◌, Option, Some, None, List, [], ◌∷◌, length, slice_index_or}
use Rattle.ir_value.specs.declared.value.Value.{Value}
use Rattle.ir_value.specs.declared.value.StuckReason.{StuckReason}
use Rattle.ir_code.specs.declared.act.Step.{Step}
use Rattle.ir_code.specs.declared.act.Act.{Act}
use Rattle.ir_code.specs.declared.act.Act.TheVariants as act
use Rattle.ir_code.specs.declared.program.Program.{Program}
use Rattle.ir_machine.specs.declared.state.End.TheVariants.{Stuck, Lost}
use Rattle.ir_machine.specs.Values.{Registers}
use Rattle.ir_machine.specs.Step.{steps_of}
use Rattle.ir_walk.specs.LoopFree.{body_of}
use Rattle.ir_walk.specs.Walk.{Flow, Goes, Back, Stops, Memory, Behind}
use Rattle.hk_symstep.specs.Files.{IsWithin}
use Rattle.hk_symexec.specs.Seen.{Seen}

-- what a walk of a function comes to: the function is not run, and memory and stuckness stay; or a flow
pub data Ending : Type 0 where
  Off : (stuck : Bool) (memory : Memory) → Ending
  On : (flow : Flow) → Ending

abbrev pub along : (Flow → Flow) → Ending → Ending
along by (Off stuck memory) = Off stuck memory
along by (On flow) = On (by flow)

-- what is claimed: neither lost nor unfinished
abbrev pub IsFineFlow : Flow → Type 0
IsFineFlow (Stops (Stuck reason line)) = Unit {0}
IsFineFlow (Stops end) = ⊥
IsFineFlow flow = Unit {0}

abbrev pub IsFine : Ending → Type 0
IsFine (Off stuck memory) = Unit {0}
IsFine (On flow) = IsFineFlow flow

-- where the run is: this function is not run; at the present instruction; on its way to a block; back; stuck
pub data Phase : Type 0 where
  Absent : (stuck : Bool) → Phase
  Here : Phase
  Going : (to : ℕ) → Phase
  Came : (value : Option Value) → Phase
  Halted : Phase

abbrev pub is_here : Phase → Bool
is_here Here = true
is_here _ = false

abbrev pub goes_to : ℕ → Phase → Bool
goes_to k (Going to) = nat_eq k to
goes_to k _ = false

abbrev pub is_back : Phase → Bool
is_back (Came value) = true
is_back _ = false

abbrev pub is_valued : Phase → Bool
is_valued (Came (Some x)) = true
is_valued _ = false

abbrev pub is_stuck : Phase → Bool
is_stuck (Absent stuck) = stuck
is_stuck Halted = true
is_stuck _ = false

-- ---- phis

abbrev pub is_phi : Act → Bool
is_phi (act.Phi arms) = true
is_phi _ = false

-- how many phis stand at the beginning
abbrev pub heads_in : List Step → ℕ
heads_in [] = 0
heads_in (s ∷ ss) = if is_phi s.act then suc (heads_in ss) else 0

-- how many phis stand at the beginning of a block
abbrev pub heads : Program → ℕ → ℕ → ℕ
heads P f b = heads_in (steps_of P f b)

-- ---- the state follows the walk

-- the marks of the state tell the phase
pub record Shows (blocks : ℕ) (s : Seen) (p : Phase) : Type 0 where
  pub size : length s.entries ≡ blocks
  pub guard : s.guard ≡ is_here p
  pub entries : (k : ℕ) → k < blocks → slice_index_or s.entries k false ≡ goes_to k p
  pub back : s.back ≡ is_back p
  pub valued : s.valued ≡ is_valued p
  pub stuck : s.stuck ≡ is_stuck p

-- the run goes to a block behind its phis, or it begins there
abbrev pub IsEntry : Program → ℕ → ℕ → ℕ → Type 0
IsEntry P f to position = (position ≡ heads P f to) ⊎ (position ≡ 0)

abbrev pub HoldsBack : Option Value → Option Value → Type 0
HoldsBack held None = Unit {0}
HoldsBack held (Some x) = held ≡ Some x

-- in this phase the walk comes to this, if what the instructions behind come to is `go`
abbrev pub Stands : Program → ℕ → Registers → Option Value → Memory → Behind → Phase → Ending → Type 0
Stands P f registers value memory go (Absent stuck) e = e ≡ Off stuck memory
Stands P f registers value memory go Here e = (rs : Registers) × IsWithin rs registers × (e ≡ On (go rs memory))
Stands P f registers value memory go (Going to) e =
    (rs : Registers) × (position : ℕ) × IsWithin rs registers × IsEntry P f to position × (e ≡ On (Goes to position rs memory))
Stands P f registers value memory go (Came x) e = HoldsBack value x × (e ≡ On (Back x memory))
Stands P f registers value memory go Halted e = (reason : StuckReason) × (line : ℕ) × (e ≡ On (Stops (Stuck reason line)))

-- the state and the memory follow a walk of function f that comes to `e`
unfoldable pub Tracks : Program → ℕ → Seen → Memory → Behind → Ending → Type 0
Tracks P f s memory go e = IsFine e → (p : Phase) × Shows (length (body_of P f)) s p × Stands P f s.registers s.value memory go p e

-- no instruction is behind
abbrev pub nothing : Behind
nothing rs memory = Stops Lost

-- the run is not at an instruction
abbrev pub Rests : Program → ℕ → Seen → Memory → Ending → Type 0
Rests P f s memory e = Tracks P f s memory nothing e

-- ---- what a step, a block and a function promise

-- where a condition holds the run is stuck there, and else it goes on to `next`; nothing is claimed where it is lost
abbrev pub Splits : Bool → Flow → Flow → Type 0
Splits true flow next = (reason : StuckReason) × (line : ℕ) × (flow ≡ Stops (Stuck reason line))
Splits false flow next = flow ≡ next

abbrev pub is_call : Act → Bool
is_call (act.Call g arguments) = true
is_call _ = false

-- neither a store, nor an instruction that leads elsewhere
abbrev pub is_computed : Act → Bool
is_computed (act.Store bytes align value address) = false
is_computed (act.StoreSlot align value slot) = false
is_computed (act.Goto to) = false
is_computed (act.Branch c taken other) = false
is_computed (act.Switch w on cases default) = false
is_computed (act.Call g arguments) = false
is_computed (act.Return value) = false
is_computed act.Unreachable = false
is_computed _ = true

-- the order of the blocks of each function
abbrev pub order_in : List (List ℕ) → ℕ → List ℕ
order_in orders f = slice_index_or orders f []
