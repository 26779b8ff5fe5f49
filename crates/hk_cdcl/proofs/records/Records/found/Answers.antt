use Rattle.std.proofs.Common.{◌≡◌, ◌⊎◌, ◌+◌, ◌≤◌, true, length, map, neg_ℤ, MatchOption, sym, ◌∙◌, ap, subst, arith}
use Rattle.hk_cdcl.specs.Packing.{word, codes_of}
use Rattle.hk_cdcl.specs.Records.{lit_of}
use Rattle.hk_cdcl.proofs.Packed.{StandsAt, stands}
use Rattle.std.specs.List.{All}
use Rattle.hk_cnf.specs.Literal.{IsWithin, has}
use Rattle.hk_cdcl.specs.Looking.{IsLeftAt}
use Rattle.hk_cdcl.proofs.Packed.{codes-length}
use Rattle.hk_cdcl.proofs.records.Records.found.Goals as goal

pub word_at-resume-requires : goal.word_at-resume-requires
word_at-resume-requires c =
    let st : StandsAt c.self.inside c.args.self.now c.args.start = stands c.self.inside c.args.self.now c.args.start c.self.view_is c.self.invariant c.requires.start in
    omega (arith, st.inside, ap length c.as_slice-words.ensures.value)

pub codes_in-requires : goal.codes_in-requires
codes_in-requires c =
    let st : StandsAt c.self.inside c.args.self.now c.args.start = stands c.self.inside c.args.self.now c.args.start c.self.view_is c.self.invariant c.requires.start in
    subst (λ ws. c.args.start + 5 + word ws (c.args.start + 3) ≤ length ws) (sym c.as_slice-words.ensures.value) st.inside

pub left_from-requires-clause-within : goal.left_from-requires-clause-within
left_from-requires-clause-within c =
    let st : StandsAt c.self.inside c.args.self.now c.args.start = stands c.self.inside c.args.self.now c.args.start c.self.view_is c.self.invariant c.requires.start in
    let e : c.codes_in.result.now ≡ codes_of c.self.inside.words.items c.args.start = c.codes_in.ensures ∙ ap (λ ws. codes_of ws c.args.start) c.as_slice-words.ensures.value in
    subst (All (IsWithin c.args.trail.now.vars)) (st.text ∙ ap (map lit_of) (sym e)) c.requires.within

pub left_from-requires-clause-inside : goal.left_from-requires-clause-inside
left_from-requires-clause-inside c =
    let st : StandsAt c.self.inside c.args.self.now c.args.start = stands c.self.inside c.args.self.now c.args.start c.self.view_is c.self.invariant c.requires.start in
    let e : c.codes_in.result.now ≡ codes_of c.self.inside.words.items c.args.start = c.codes_in.ensures ∙ ap (λ ws. codes_of ws c.args.start) c.as_slice-words.ensures.value in
    let n : length c.codes_in.result.now ≡ word c.self.inside.words.items (c.args.start + 3) = ap length e ∙ codes-length c.self.inside.words.items c.args.start st.inside in
    let r : c.word_at-resume.result ≡ word c.self.inside.words.items (c.args.start + 2) = c.word_at-resume.ensures ∙ ap (λ ws. word ws (c.args.start + 2)) c.as_slice-words.ensures.value in
    omega (arith, n, r, st.resume)

pub returns : goal.returns
returns c =
    let st : StandsAt c.self.inside c.args.self.now c.args.start = stands c.self.inside c.args.self.now c.args.start c.self.view_is c.self.invariant c.requires.start in
    let e : c.codes_in.result.now ≡ codes_of c.self.inside.words.items c.args.start = c.codes_in.ensures ∙ ap (λ ws. codes_of ws c.args.start) c.as_slice-words.ensures.value in
    subst (λ t. MatchOption c.left_from.result (All (λ x. (lit_of c.args.other ≡ x) ⊎ (has c.args.trail.now.lits (neg_ℤ x) ≡ true)) t) (IsLeftAt c.args.trail.now.lits t (lit_of c.args.other))) (sym (st.text ∙ ap (map lit_of) (sym e))) c.left_from.ensures
