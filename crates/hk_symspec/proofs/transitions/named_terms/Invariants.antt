use Rattle.std.proofs.Common.{◌≡◌, ◌++◌, drop, map}
use Rattle.std.specs.Prelude.{All}
use Rattle.hk_term.specs.Shape.{width}
use Rattle.hk_symexpr.specs.Naming.{IsNamed}
use Rattle.hk_symspec.proofs.transitions.named_terms.Given as goal

abbrev pub invariant-each : goal.invariant-each
invariant-each l = record {
  terms : map (λ a. a.term) l.named.items ++ drop l.term-index l.args ≡ l.args;
  widths : map (λ a. a.width) l.named.items ++ map (width l.t) (drop l.term-index l.args) ≡ map (width l.t) l.args;
  named : All (IsNamed l.t) l.named.items;
}
