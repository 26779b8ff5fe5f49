use Rattle.std.proofs.Common.{arith}
use Rattle.std.proofs.lemmas.List.{length-map}
use Rattle.spec_tree.specs.View.{view_spec, view_named}
use Rattle.spec_tree.specs.Meaning.{invariant_holds}
use Rattle.hk_exhaust.proofs.Telling.{is_false}
use Rattle.hk_exhaust.proofs.misses.breaks.Goals as goal

pub returns : goal.returns
returns c =
    is_false (λ n. invariant_holds (view_spec c.args.spec.now) n c.args.memory.now) (view_spec c.args.spec.now).invariants c.args.i c.in_ok-holds.holds
    (omega (arith, c.requires.there, length-map c.args.spec.now.invariants view_named)) c.in_ok-holds.ensures
