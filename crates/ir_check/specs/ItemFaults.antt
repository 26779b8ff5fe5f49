-- The faults of one item: the least rule that it falls under, on its line.
use Rattle.std.specs.Prelude.{◌≡◌, ℕ, ◌≤◌, ◌<◌, Bool, if◌then◌else◌, Option, Some, None, false, option_map, nat_lt, length, List, bytes_eq}
use Rattle.ir_ast.specs.Program.{FunctionView, ModuleView}
use Rattle.ir_ast.specs.declared.fault.KernelFault.{KernelFault}
use Rattle.ir_ast.specs.declared.fault.KernelReason.{KernelReason}
use Rattle.ir_ast.specs.declared.fault.KernelReason.TheVariants as reason
use Rattle.hk_graph.specs.Sorted.{flag_of}
use Rattle.hk_flow.specs.Sums.{told}
use Rattle.ir_type.specs.Items.{Rule, K15, number_of}
use Rattle.ir_type.specs.Whole.{Types}
use Rattle.ir_check.specs.Paths.{AreFewBlocks}
use Rattle.ir_check.specs.Sites.{sites_of}
use Rattle.std.specs.List.{IsDistinct}
use Rattle.ir_ast.specs.Table.{names_of}
use Rattle.ir_check.specs.Graphs.{SaysCalls, SaysLength}
use Rattle.ir_check.specs.Least.{Faults, reason_of}

-- the least of the rules that it falls under, and none where it falls under none
abbrev pub IsLeastReason : (Rule → Type 0) → Option KernelReason → Type 0
IsLeastReason Falls None = (q : Rule) → Falls q → ⊥
IsLeastReason Falls (Some s) = (r : Rule) × (s ≡ reason_of r) × Falls r × ((q : Rule) → Falls q → number_of r ≤ number_of q)

-- the faults of an item on this line that falls under these rules
abbrev pub ItemFaults : (Rule → Type 0) → ℕ → Faults
ItemFaults Falls line l r = (rule : Rule) × (r ≡ reason_of rule) × (line ≡ l) × Falls rule

abbrev pub on_line : ℕ → Option KernelReason → Option KernelFault
on_line line found = option_map (λ r. record { line = line; reason = r }) found

-- what calls say of each function, by its place
pub record AreCalls (m : ModuleView) (cyclic : List Bool) (lengths : List (Option ℕ)) : Type 0 where
  pub cycles : (p : ℕ) → p < length m.functions → SaysCalls m (flag_of cyclic p) p
  pub totals : (p : ℕ) → p < length m.functions → SaysLength m (told lengths p) p

-- beyond the limit
abbrev pub is_long : Option ℕ → Bool
is_long None = false
is_long (Some n) = nat_lt 100000 n

-- the first rule of a function's head
abbrev pub head_reason : Bool → Bool → Bool → Bool → Option KernelReason
head_reason misfit looping cyclic long =
    if misfit then Some reason.K9 else (if looping then Some reason.K10 else (if cyclic then Some reason.K11 else (if long then Some reason.K14 else None)))

-- the first rule of a global
abbrev pub global_reason : Bool → Bool → Option KernelReason
global_reason misfit pointers = if misfit then Some reason.K9 else (if pointers then Some reason.K13 else None)

-- the first rule of an instruction whose names are known, but for the arms of a phi
abbrev pub known_reason : Bool → Bool → Bool → Option KernelReason
known_reason misfit undefined outside = if misfit then Some reason.K9 else (if undefined then Some reason.K12 else (if outside then Some reason.K13 else None))

-- the least of the rules that it falls under; none where it falls under none but that of arms
abbrev pub IsLeastPlain : (Rule → Type 0) → Option KernelReason → Type 0
IsLeastPlain Falls None = (q : Rule) → Falls q → q ≡ K15
IsLeastPlain Falls (Some s) = IsLeastReason Falls (Some s)

-- the rule of arms, where it falls under that one
abbrev pub IsArmsReason : Type 0 → Option KernelReason → Type 0
IsArmsReason Falls None = Falls → ⊥
IsArmsReason Falls (Some s) = (s ≡ reason.K15) × Falls

abbrev pub arms_reason : Bool → Option KernelReason
arms_reason meet = if meet then None else Some reason.K15

-- what is asked of the function of an instruction, and of the scope that it is judged by
pub record IsAsked (m : ModuleView) (f : FunctionView) (types : Types) (scoped : FunctionView) : Type 0 where
  pub types_are : types ≡ m.types
  pub scoped_is : scoped ≡ f
  pub few : AreFewBlocks f
  pub distinct : IsDistinct bytes_eq (names_of (sites_of f))
