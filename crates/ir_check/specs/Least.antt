-- The least of the faults that a check sees: on the earliest line, and there of the least number.
use Rattle.std.specs.Prelude.{◌≡◌, ℕ, ◌<◌, ◌≤◌, ◌⊎◌, Bool, ◌||◌, ◌&&◌, ◌==◌, nat_lt, nat_le, if◌then◌else◌, Option, Some, None}
use Rattle.ir_ast.specs.Program.{ModuleView}
use Rattle.ir_ast.specs.declared.fault.KernelFault.{KernelFault}
use Rattle.ir_ast.specs.declared.fault.KernelReason.{KernelReason}
use Rattle.ir_ast.specs.declared.fault.KernelReason.TheVariants as reason
use Rattle.ir_type.specs.Items.{Item, Rule, K5, K6, K7, K8, K9, K10, K11, K12, K13, K14, K15, Fails}

-- the reason that names a rule
abbrev pub reason_of : Rule → KernelReason
reason_of K5 = reason.K5
reason_of K6 = reason.K6
reason_of K7 = reason.K7
reason_of K8 = reason.K8
reason_of K9 = reason.K9
reason_of K10 = reason.K10
reason_of K11 = reason.K11
reason_of K12 = reason.K12
reason_of K13 = reason.K13
reason_of K14 = reason.K14
reason_of K15 = reason.K15

-- the number of a reason
abbrev pub number : KernelReason → ℕ
number reason.K1 = 1
number reason.K2 = 2
number reason.K3 = 3
number reason.K4 = 4
number reason.K5 = 5
number reason.K6 = 6
number reason.K7 = 7
number reason.K8 = 8
number reason.K9 = 9
number reason.K10 = 10
number reason.K11 = 11
number reason.K12 = 12
number reason.K13 = 13
number reason.K14 = 14
number reason.K15 = 15

-- faults by line and reason
abbrev pub Faults : Type 1
Faults = ℕ → KernelReason → Type 0

-- the one line is earlier, or it is the same and the one number is at most the other
abbrev pub IsUpTo : ℕ → ℕ → ℕ → ℕ → Type 0
IsUpTo line n l k = (line < l) ⊎ ((line ≡ l) × (n ≤ k))

-- the least of these faults, and none where there is none
abbrev pub IsLeast : Faults → Option KernelFault → Type 0
IsLeast P None = (l : ℕ) (r : KernelReason) → P l r → ⊥
IsLeast P (Some f) = P f.line f.reason × ((l : ℕ) (r : KernelReason) → P l r → IsUpTo f.line (number f.reason) l (number r))

-- the one or the other
abbrev pub Either : Faults → Faults → Faults
Either P Q l r = P l r ⊎ Q l r

-- the faults of a module
abbrev pub AllFaults : (Item → Rule → Type 0) → ModuleView → Faults
AllFaults Falls m l r = (rule : Rule) × (r ≡ reason_of rule) × Fails Falls m l rule

-- the first fault is not behind the second
abbrev pub is_up_to : KernelFault → KernelFault → Bool
is_up_to a b = nat_lt a.line b.line || ((a.line == b.line) && nat_le (number a.reason) (number b.reason))

-- the lesser of two
abbrev pub least_of : Option KernelFault → Option KernelFault → Option KernelFault
least_of None b = b
least_of (Some a) None = Some a
least_of (Some a) (Some b) = Some (if is_up_to a b then a else b)
