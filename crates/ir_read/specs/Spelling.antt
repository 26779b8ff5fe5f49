-- The module that a text spells, and the first item of it that fails (LLVM Language Reference, "High Level Structure").
use Rattle.std.specs.Prelude.{◌≡◌, ℕ, Bool, true, false, ◌⊎◌, None, Result, Ok, Err, List, [], ◌∷◌}
use Rattle.ir_ast.specs.Program.{ModuleView}
use Rattle.ir_ast.specs.ProgramView.{view_module}
use Rattle.ir_ast.specs.declared.fault.KernelStop.{KernelStop}
use Rattle.ir_ast.specs.declared.fault.KernelStop.TheVariants.{Refused, Memory}
use Rattle.ir_ast.specs.declared.fault.KernelReason.{KernelReason}
use Rattle.ir_ast.specs.declared.fault.KernelReason.TheVariants.{K1, K2}
use Rattle.ir_ast.specs.declared.module.Module.{Module}
use Rattle.ir_lex.specs.Lexeme.{Lexeme}
use Rattle.ir_lex.specs.Lex.{lex}
use Rattle.ir_lex.specs.Cut.{Cut, cut}
use Rattle.ir_read.specs.Ahead.{ends}
use Rattle.ir_read.specs.State.{State, at_start, is_inside}
use Rattle.ir_read.specs.Reads.{Reading, Reads}
use Rattle.ir_read.specs.Steps.{Out, after_reading}

-- what comes of an item, behind this state and before these others: one that never ends is refused
abbrev pub Passes : Bool → State → Cut → List Cut → Out State → Type 0
Passes false s c after out = out ≡ Err K2
Passes true s c after out = (r : Reading) × Reads (is_inside s) r c.lexemes × (out ≡ after_reading r c.line after s)

-- the item is read, and leads to this state
abbrev pub Leads : State → Cut → List Cut → State → Type 0
Leads s c after next = Passes (ends c after) s c after (Ok next)

-- the item fails, for this reason
abbrev pub Fails : State → Cut → List Cut → KernelReason → Type 0
Fails s c after reason = Passes (ends c after) s c after (Err reason)

-- the items spell the module, behind this state
abbrev pub SpellsFrom : State → List Cut → ModuleView → Type 0
SpellsFrom s [] m = (s.body ≡ None) × (s.whole ≡ m)
SpellsFrom s (c ∷ after) m = (next : State) × Leads s c after next × SpellsFrom next after m

-- the first of the items that fails stands on this line, and fails for this reason
abbrev pub FailsFrom : State → List Cut → ℕ → KernelReason → Type 0
FailsFrom s [] line reason = ⊥
FailsFrom s (c ∷ after) line reason = ((c.line ≡ line) × Fails s c after reason) ⊎ ((next : State) × Leads s c after next × FailsFrom next after line reason)

-- the text spells the module: it has tokens alone, and their items spell it
pub record IsModuleText (text : List ℕ) (m : ModuleView) : Type 0 where
  pub tokens : List Lexeme
  pub lexed : lex text ≡ Ok tokens
  pub spelled : SpellsFrom at_start (cut tokens) m

-- the text fails at this line for this reason: a byte of it is outside the tokens, or an item fails
abbrev pub IsFaultyText : List ℕ → ℕ → KernelReason → Type 0
IsFaultyText text line reason =
    ((lex text ≡ Err line) × (reason ≡ K1)) ⊎ ((tokens : List Lexeme) × (lex text ≡ Ok tokens) × FailsFrom at_start (cut tokens) line reason)

-- a refusal is the text's fault; memory may be refused at any text
abbrev pub IsStop : List ℕ → KernelStop → Type 0
IsStop text (Refused fault) = IsFaultyText text fault.line fault.reason
IsStop text Memory = Unit {0}

-- the answer is this module, but for memory
abbrev pub IsModule : Result Module KernelStop → ModuleView → Type 0
IsModule (Ok read) m = view_module read ≡ m
IsModule (Err (Refused fault)) m = ⊥
IsModule (Err Memory) m = Unit {0}

-- the answer is this fault, but for memory
abbrev pub IsFault : Result Module KernelStop → ℕ → KernelReason → Type 0
IsFault (Ok read) line reason = ⊥
IsFault (Err (Refused fault)) line reason = (fault.line ≡ line) × (fault.reason ≡ reason)
IsFault (Err Memory) line reason = Unit {0}
