use Rattle.std.proofs.Common.{◌≡◌, drop}
use Rattle.hk_symvalue.specs.Growth.{Extends}
use Rattle.hk_oblig.proofs.VariableLaws.{Varied}
use Rattle.hk_oblig.proofs.arguments.variables_of.Given as goal

abbrev pub invariant-each : goal.invariant-each
invariant-each l = record {
  frame : Extends l.fn.t l.t;
  id : l.id ≡ l.width-index;
  varied : Varied l.t l.terms.items l.id (drop l.width-index l.widths) l.widths;
}
