use Rattle.std.proofs.Common.{◌≡◌, [], drop}
use Rattle.ir_part.specs.Reader.{seen}
use Rattle.ir_top.specs.Tops.{is_list}
use Rattle.ir_top.proofs.brackets.is_list.Given as goal

abbrev pub invariant-loop-at : goal.invariant-loop-at
invariant-loop-at l = is_list l.brackets (seen (drop l.at l.tokens)) ≡ is_list [] (seen l.tokens)
