use Rattle.std.proofs.Common.{subst}
use Rattle.hk_symspec.specs.Standing.{AreKeyTerms}
use Rattle.hk_symspec_tests.proofs.fitting.are_indices_of.Goals as goal

pub returns : goal.returns
returns c = λ yes. subst (λ ks. AreKeyTerms c.args.t.now ks c.args.index.now) c.keys_of.ensures (c.are_indices.ensures yes)
