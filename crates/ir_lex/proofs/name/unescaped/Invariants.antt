use Rattle.std.proofs.Common.{◌≡◌, ◌++◌, length}
use Rattle.ir_lex.specs.Names.{unescaped_from, unescaped}
use Rattle.ir_lex.proofs.name.unescaped.Given as goal

-- the bytes so far stand before those of what is left
abbrev pub invariant-loop-rest : goal.invariant-loop-rest
invariant-loop-rest l = l.bytes.items ++ unescaped_from 0 l.rest ≡ unescaped l.inside

abbrev pub decreases-loop-rest : goal.decreases-loop-rest
decreases-loop-rest l = length l.rest
