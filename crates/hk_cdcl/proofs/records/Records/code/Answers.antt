use Rattle.std.proofs.Common.{◌≡◌, ◌+◌, ◌≤◌, length, pos, sym, ◌∙◌, ap, subst, arith}
use Rattle.hk_cdcl.specs.Packing.{word, codes_of}
use Rattle.hk_cdcl.specs.Records.{lit_of, text_at, place_in}
use Rattle.hk_cdcl.proofs.Packed.{StandsAt, stands}
use Rattle.std.proofs.lemmas.List.{get_or-map, length-map}
use Rattle.hk_cdcl.specs.Path.{lit_at}
use Rattle.hk_cdcl.proofs.records.Records.code.Goals as goal

pub codes_in-codes-requires : goal.codes_in-codes-requires
codes_in-codes-requires c =
    let st : StandsAt c.self.inside c.args.self.now c.args.start = stands c.self.inside c.args.self.now c.args.start c.self.view_is c.self.invariant c.requires.start in
    subst (λ ws. c.args.start + 5 + word ws (c.args.start + 3) ≤ length ws) (sym c.as_slice.ensures.value) st.inside

pub word_at-requires : goal.word_at-requires
word_at-requires c =
    let st : StandsAt c.self.inside c.args.self.now c.args.start = stands c.self.inside c.args.self.now c.args.start c.self.view_is c.self.invariant c.requires.start in
    let e : c.codes_in-codes.result.now ≡ codes_of c.self.inside.words.items c.args.start = c.codes_in-codes.ensures ∙ ap (λ ws. codes_of ws c.args.start) c.as_slice.ensures.value in
    let n : length (text_at c.args.self.now.texts (place_in c.args.self.now.starts c.args.start)) ≡ length c.codes_in-codes.result.now = ap length st.text ∙ (length-map (codes_of c.self.inside.words.items c.args.start) lit_of ∙ ap length (sym e)) in
    omega (arith, c.requires.inside, n)

pub returns : goal.returns
returns c =
    let st : StandsAt c.self.inside c.args.self.now c.args.start = stands c.self.inside c.args.self.now c.args.start c.self.view_is c.self.invariant c.requires.start in
    let e : c.codes_in-codes.result.now ≡ codes_of c.self.inside.words.items c.args.start = c.codes_in-codes.ensures ∙ ap (λ ws. codes_of ws c.args.start) c.as_slice.ensures.value in
    let n : length (text_at c.args.self.now.texts (place_in c.args.self.now.starts c.args.start)) ≡ length (codes_of c.self.inside.words.items c.args.start) = ap length st.text ∙ length-map (codes_of c.self.inside.words.items c.args.start) lit_of in
    ap lit_of (c.word_at.ensures ∙ ap (λ cs. word cs c.args.at) e)
    ∙ (sym (get_or-map lit_of (codes_of c.self.inside.words.items c.args.start) c.args.at 0 (pos 0) (omega (arith, c.requires.inside, n))) ∙ ap (λ t. lit_at t c.args.at) (sym st.text))
