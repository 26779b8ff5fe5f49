use Rattle.std.proofs.Common.{◌+◌, length, ◌∙◌, ap, arith}
use Rattle.hk_cdcl.specs.Packing.{word}
use Rattle.hk_cdcl.proofs.Packed.{StandsAt, stands}
use Rattle.hk_cdcl.proofs.records.Records.clause.Goals as goal

pub word_at-requires : goal.word_at-requires
word_at-requires c =
    let st : StandsAt c.self.inside c.args.self.now c.args.start = stands c.self.inside c.args.self.now c.args.start c.self.view_is c.self.invariant c.requires in
    omega (arith, st.inside, ap length c.as_slice.ensures.value)

pub returns : goal.returns
returns c =
    let st : StandsAt c.self.inside c.args.self.now c.args.start = stands c.self.inside c.args.self.now c.args.start c.self.view_is c.self.invariant c.requires in
    c.word_at.ensures ∙ (ap (λ ws. word ws (c.args.start + 4)) c.as_slice.ensures.value ∙ st.clause)
