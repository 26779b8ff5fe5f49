-- The faults of a module part by part, as a walk over it sees them.
use Rattle.std.specs.Prelude.{◌≡◌, ℕ, ◌<◌, true, Some, List, take, slice_get}
use Rattle.std.specs.List.{All}
use Rattle.ir_ast.specs.Program.{InstrView, BlockView, FunctionView, GlobalView, ModuleView}
use Rattle.ir_type.specs.Shape.{keeps_notes}
use Rattle.ir_typing.specs.Registers.{blocks_of}
use Rattle.ir_check.specs.Rules.{GlobalFalls, FunctionFalls, InstrFalls}
use Rattle.ir_check.specs.Least.{Faults, Either}
use Rattle.ir_check.specs.ItemFaults.{ItemFaults}

-- the faults of the first n of several parts
abbrev pub AmongFirst : (ℕ → Faults) → ℕ → Faults
AmongFirst P n l r = (k : ℕ) × (k < n) × P k l r

-- those of all of them
abbrev pub AmongAll : (ℕ → Faults) → Faults
AmongAll P l r = (k : ℕ) × P k l r

-- the faults of what stands at a place of a list, where something does
abbrev pub OfPlace : {A : Type 0} → (A → Faults) → List A → ℕ → Faults
OfPlace {A} P xs k l r = (x : A) × (slice_get xs k ≡ Some x) × P x l r

-- of the instruction behind so many others of a block
abbrev pub InstrFaultsAt : ModuleView → FunctionView → BlockView → ℕ → Faults
InstrFaultsAt m f b k = OfPlace (λ (i : InstrView). ItemFaults (InstrFalls m f b (take k b.instrs) i) i.line) b.instrs k

-- of the instructions of the block at a place
abbrev pub BlockFaultsAt : ModuleView → FunctionView → ℕ → Faults
BlockFaultsAt m f = OfPlace (λ (b : BlockView). AmongAll (InstrFaultsAt m f b)) (blocks_of f)

abbrev pub HeadFaults : ModuleView → FunctionView → Faults
HeadFaults m f = ItemFaults (FunctionFalls m f) f.line

abbrev pub BodyFaults : ModuleView → FunctionView → Faults
BodyFaults m f = AmongAll (BlockFaultsAt m f)

-- of the function at a place, and of its instructions
abbrev pub FunctionFaultsAt : ModuleView → ℕ → Faults
FunctionFaultsAt m = OfPlace (λ (e : List ℕ × FunctionView). Either (HeadFaults m e.1) (BodyFaults m e.1)) m.functions

-- of the global at a place
abbrev pub GlobalFaultsAt : ModuleView → ℕ → Faults
GlobalFaultsAt m = OfPlace (λ (e : List ℕ × GlobalView). ItemFaults (GlobalFalls m e.1) e.1.line) m.globals

abbrev pub PartFaults : ModuleView → Faults
PartFaults m = Either (AmongAll (GlobalFaultsAt m)) (AmongAll (FunctionFaultsAt m))

-- the instructions keep the notes of their productions
abbrev pub AreNotedIn : List InstrView → Type 0
AreNotedIn is = All (λ (i : InstrView). keeps_notes i.act ≡ true) is

abbrev pub AreNoted : List BlockView → Type 0
AreNoted blocks = All (λ (b : BlockView). AreNotedIn b.instrs) blocks
