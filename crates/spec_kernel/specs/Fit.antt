-- A specification that fits a kernel: its objects are the kernel's, and each transition names a function that takes and gives numbers of
-- its widths. Its paths lie in these objects, since it is well sorted over them.
use Rattle.std.specs.Prelude.{◌≡◌, ℕ, true, Option, Some, None, map, slice_get}
use Rattle.std.specs.List.{All}
use Rattle.ir_ast.specs.Program.{ModuleView}
use Rattle.spec_tree.specs.Plain.{Transition, Spec}
use Rattle.spec_names.specs.Kernel.{ValueType, number, address, Function, Kernel}
use Rattle.spec_kernel.specs.View.{kernel_of}

-- an integer of the width, or void where that is 0
abbrev pub IsResult : Option ValueType → ℕ → Type 0
IsResult None w = w ≡ 0
IsResult (Some (number v)) w = v ≡ w
IsResult (Some address) w = ⊥

-- the function at the transition's place has its name and a body, and takes and gives integers of its widths
abbrev pub Handles : Kernel → Transition → Type 0
Handles k t =
    (f : Function) × (slice_get k.functions t.function ≡ Some f) × (f.name ≡ t.name) × (f.defined ≡ true) × (f.parameters ≡ map number t.widths)
    × IsResult f.result t.result_width

pub record FitsKernel (k : Kernel) (spec : Spec) : Type 0 where
  pub objects : spec.objects ≡ map (λ g. g.size) k.globals
  pub handlers : All (Handles k) spec.transitions

-- the same of a module
abbrev pub FitsModule : ModuleView → Spec → Type 0
FitsModule m spec = FitsKernel (kernel_of m) spec
