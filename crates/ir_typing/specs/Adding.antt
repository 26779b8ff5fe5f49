-- How the registers of the code grow.
use Rattle.std.specs.Prelude.{ℕ, List, ◌++◌}
use Rattle.ir_ast.specs.Plain.{Ty}
use Rattle.ir_type.specs.Whole.{Types}
use Rattle.ir_typing.specs.declared.registers.Registers.{Registers}
use Rattle.ir_typing.specs.Registers.{Kind}
use Rattle.ir_typing.specs.Kinds.{AreKept}

-- what keeps some registers keeps these behind them
abbrev pub Adds : Types → List Ty → List Ty → List (List ℕ × Kind) → Registers → Registers → Type 0
Adds types before after more old new =
    (rs : List (List ℕ × Kind)) → AreKept types before rs old.places old.kinds.items → AreKept types after (rs ++ more) new.places new.kinds.items
