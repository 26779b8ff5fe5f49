use Rattle.std.proofs.Common.{◌≡◌, All, length}
use Rattle.hk_cnf.specs.Literal.{IsWithin}
use Rattle.hk_cnf.specs.Circuit.{Circuit}
use Rattle.hk_cnf.specs.CircuitGrowth.{IsGrown}
use Rattle.hk_blast.specs.Blasted.{variables_from}
use Rattle.hk_blast.proofs.FreshWords.{IsWidened}
use Rattle.hk_blast.proofs.input.input_word.Given as goal

abbrev pub invariant-loop-i : goal.invariant-loop-i
invariant-loop-i l = record {
  widened : IsWidened l.fn.gates l.i l.gates;
  grows : (c : Circuit) → IsGrown c l.fn.gates → IsGrown c l.gates;
  items : l.word.items ≡ variables_from l.fn.gates.vars l.i;
  size : length l.word.items ≡ l.i;
  within : All (IsWithin l.gates.vars) l.word.items;
}
