use Rattle.std.proofs.Common.{◌≡◌, drop}
use Rattle.ir_lex.specs.Lexeme.{lexemes}
use Rattle.ir_lex.specs.Cut.{stretch_from, stretch_of}
use Rattle.ir_lex.proofs.Cutting.{ahead}
use Rattle.ir_lex.proofs.cut.first_stretch.Given as goal

-- what was passed over stands before what the item still takes
abbrev pub invariant-loop-count : goal.invariant-loop-count
invariant-loop-count l = ahead l.count (stretch_from l.scan l.line (lexemes (drop l.count l.tokens))) ≡ stretch_of (lexemes l.tokens)
