use Rattle.std.proofs.Common.{length, IfSome, sym, ◌∙◌, ap, subst, arith}
use Rattle.hk_cdcl.specs.Packing.{pair_of}
use Rattle.hk_cdcl.specs.Records.{lit_of}
use Rattle.hk_cdcl.proofs.Packed.{StandsAt, stands}
use Rattle.hk_cdcl.specs.Looking.{IsOtherOf}
use Rattle.hk_cdcl.proofs.records.Records.other.Goals as goal

pub other_in-requires : goal.other_in-requires
other_in-requires c =
    let st : StandsAt c.self.inside c.args.self.now c.args.start = stands c.self.inside c.args.self.now c.args.start c.self.view_is c.self.invariant c.requires in
    omega (arith, st.inside, ap length c.as_slice.ensures.value)

pub returns : goal.returns
returns c =
    let st : StandsAt c.self.inside c.args.self.now c.args.start = stands c.self.inside c.args.self.now c.args.start c.self.view_is c.self.invariant c.requires in
    subst (λ q. IfSome c.other_in.result (λ o. IsOtherOf q (lit_of c.args.code) (lit_of o))) (ap (λ ws. pair_of ws c.args.start) c.as_slice.ensures.value ∙ sym st.pair) c.other_in.ensures
