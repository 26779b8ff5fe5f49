use Rattle.std.proofs.Common.{◌≡◌, ◌∙◌, ℕ, ◌<◌, length, rules, arith, Some, sym, subst, ap, List}
use Rattle.std.specs.Prelude.{slice_get}
use Rattle.hk_term.specs.Meaning.{reading_of}
use Rattle.hk_term.specs.declared.node.Node.TheVariants.{ForAll}
use Rattle.hk_term.proofs.TermLists.{holds}
use Rattle.hk_inst.specs.Inputs.{number_in}
use Rattle.hk_inst.specs.States.{asked_of}
use Rattle.hk_inst.specs.Violations.{IsSearch}
use Rattle.hk_inst.proofs.Searches.{search-begins}
use Rattle.hk_inst.proofs.search.search_in.Goals as goal

pub search-requires-clause-body : goal.search-requires-clause-body
search-requires-clause-body c =
    let h = holds c.args.s.now.terms c.in-Some.place.0 _ c.requires.fit c.in-Some.ensures.some.1 in
    let within : c.in-Some.place.0 < length c.args.s.now.terms = h.within in
    let body : c.in-Some.place.2 < c.in-Some.place.0 = h.fits.0 in
    omega (arith, within, body)

pub returns-clause-found : goal.returns-clause-found
returns-clause-found c =
    let f : ℕ → ℕ = number_in c.args.s.now.bits c.args.values.now in
    let at : slice_get c.args.s.now.quantifiers.items c.args.k ≡ Some c.in-Some.place.0 = ap (λ l. slice_get l c.args.k) (sym c.as_slice.ensures.value) ∙ c.in-Some.ensures.some.0 in
    let is : slice_get c.args.s.now.terms c.in-Some.place.0 ≡ Some (ForAll c.as_slice-2.result.now c.in-Some.place.2) = c.in-Some.ensures.some.1 ∙ ap (λ b. Some (ForAll b c.in-Some.place.2)) (sym c.as_slice-2.ensures) in
    let true_ : f c.in-Some.place.0 ≡ 1 = search rules in
    c.in_ok-search.ensures.found f (reading_of c.args.case.now)
    (subst (λ (z : List ℕ). IsSearch (asked_of c.args.s.now) f (reading_of c.args.case.now) c.args.k c.in-Some.place.2 c.as_slice-2.result.now z (reading_of c.args.case.now)) (sym c.clear.ensures.items)
    (search-begins (asked_of c.args.s.now) f (reading_of c.args.case.now) c.args.k c.in-Some.place.0 c.in-Some.place.2 c.as_slice-2.result.now at is true_))
