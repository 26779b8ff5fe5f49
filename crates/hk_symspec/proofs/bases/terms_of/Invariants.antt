use Rattle.std.proofs.Common.{◌≡◌, ◌++◌, drop, map}
use Rattle.hk_symspec.proofs.bases.terms_of.Given as goal

abbrev pub invariant-each : goal.invariant-each
invariant-each l = l.terms.items ++ map (λ i. i.term) (drop l.one-index l.index) ≡ map (λ i. i.term) l.index
