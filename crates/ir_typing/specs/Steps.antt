-- Types by number, as the code goes over them.
use Rattle.std.specs.Prelude.{ℕ, Option, List}
use Rattle.ir_ast.specs.Plain.{Ty}
use Rattle.ir_whole.specs.Heads.{Stands}

-- the number stands for the whole type
abbrev pub StandsFor : List Ty → ℕ → Option Ty → Type 0
StandsFor types n o = Stands types n o
