use Rattle.std.proofs.Common.{◌^◌, ◌<◌, arith}
use Rattle.hk_term.specs.Meaning.{value}
use Rattle.hk_symexpr.proofs.leaf.term_most.Goals as goal

pub returns-in-None : goal.returns-in-None
returns-in-None c =
    λ v h. let small : value c.args.t.now c.args.a v < 2 ^ c.sized-w.result = c.sized-w.ensures.below v in
    c.known_most.ensures c.args.t.now v h (omega (arith, small, c.greatest.ensures))
