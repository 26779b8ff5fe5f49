use Rattle.std.proofs.Common.{rules, ◌≡◌, ◌∙◌, ◌+◌, ℕ, length, ap, ap, List, sym, subst}
use Rattle.hk_symvalue.proofs.Frames.{followed}
use Rattle.hk_term.specs.Meaning.{Reading}
use Rattle.spec_tree.specs.View.{view_field, view_spec}
use Rattle.hk_oblig.specs.Telling.{TellFields}
use Rattle.hk_oblig.specs.Under.{IsStateAt}
use Rattle.hk_oblig.proofs.Growing.{over_stays, state_stays}
use Rattle.hk_oblig.proofs.Owing.{many}
use Rattle.hk_oblig.proofs.Gathering.{Gathered, tells_fields, one_gathered, fields_told}
use Rattle.hk_oblig.proofs.truths.agreement_terms.Goals as goal

pub each-preserved : goal.each-preserved
each-preserved g c =
    let s = view_spec c.args.spec.now in
    let stands : Reading → List (List ℕ) × List (List ℕ) → Type 0 = λ v p. IsStateAt s c.args.t.now c.args.after.now v p.0 × IsStateAt s c.args.t.now c.args.wanted.now v p.1 in
    let grown = c.agreement_at.ensures.frame in
    let now = c.agreement_at.new.t in
    record {
      frame = followed c.args.t.now c.each.t now c.each.invariant.frame grown;
      first = over_stays c.each.t now grown s c.args.after.now c.each.invariant.first;
      second = over_stays c.each.t now grown s c.args.wanted.now c.each.invariant.second;
      gathered = subst (λ (l : List ℕ). Gathered now stands tells_fields l (c.each.field + 1)) (sym c.in_ok-push.ensures.items)
          (one_gathered c.each.t now stands tells_fields c.each.terms.items c.in_ok-term.term c.each.field grown c.each.invariant.gathered c.in_ok-term.ensures.truth
          (λ v p h. c.in_ok-term.ensures.told v p.0 p.1 (state_stays c.args.t.now c.each.t c.each.invariant.frame s c.args.after.now v p.0 c.requires.first h.0)
          (state_stays c.args.t.now c.each.t c.each.invariant.frame s c.args.wanted.now v p.1 c.requires.second h.1)));
    }

pub returns-clause-told : goal.returns-clause-told
returns-clause-told g c = λ v x y h k.
    let s = view_spec c.args.spec.now in
    let stands : Reading → List (List ℕ) × List (List ℕ) → Type 0 = λ u p. IsStateAt s c.args.t.now c.args.after.now u p.0 × IsStateAt s c.args.t.now c.args.wanted.now u p.1 in
    let count : length c.from_vec.result ≡ length c.args.spec.now.fields = search rules in
    let all : c.each.field ≡ length s.fields = sym c.each.invariant.gathered.many ∙ ap length (sym c.from_vec.ensures) ∙ count ∙ many view_field c.args.spec.now.fields in
    subst (λ (l : List ℕ). TellFields c.each.t v l s x y) (sym c.from_vec.ensures)
    (fields_told c.each.t stands s c.each.terms.items c.each.field all c.each.invariant.gathered v x y (h, k))
