use Rattle.std.proofs.Common.{◌≡◌, ◌++◌, ◌≤◌, drop, map}
use Rattle.std.specs.Prelude.{All}
use Rattle.hk_term.specs.Meaning.{Reading, value}
use Rattle.hk_symspec.proofs.state.limits_of.Given as goal

abbrev pub invariant-each : goal.invariant-each
invariant-each l = record {
  terms : map (λ i. i.term) l.limits.items ++ drop l.term-index l.index ≡ l.index;
  most : All (λ i. (v : Reading) → value l.t i.term v ≤ i.most) l.limits.items;
}
