use Rattle.std.proofs.Common.{reverse, subst, arith}
use Rattle.std.proofs.lemmas.List.{length-reverse}
use Rattle.hk_term.specs.Shape.{AllFitIn}
use Rattle.hk_term.proofs.TermLists.{below_in}
use Rattle.hk_term.proofs.terms.Terms.values_are_below.Goals as goal

pub returns : goal.returns
returns c =
    let nodes = c.args.self.now in
    let fit : AllFitIn (reverse nodes) = subst (λ l. AllFitIn (reverse l)) c.self.view_is c.self.invariant.fit in
    λ k h v. below_in (reverse nodes) fit k (omega (arith, length-reverse nodes)) v
