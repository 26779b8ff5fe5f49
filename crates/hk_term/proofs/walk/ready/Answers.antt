use Rattle.std.proofs.Common.{◌≡◌, ◌%◌, ◌^◌, slice_index, ap, sym, subst, ◌∙◌}
use Rattle.hk_term.specs.Shape.{width}
use Rattle.hk_term.specs.Meaning.{reading_of, node_value, value}
use Rattle.hk_term.specs.Walk.{scoped, PartsKnown, HasNumber}
use Rattle.hk_term.specs.Tables.{entry_at}
use Rattle.hk_term.proofs.ScopeLemmas.{scoped-entry}
use Rattle.hk_term.proofs.walk.ready.Goals as goal

pub returns-in-Select : goal.returns-in-Select
returns-in-Select c = λ ground.
    let nodes = c.args.terms.now in
    let base = reading_of c.args.v.now in
    let r = scoped base c.args.scope.now in
    let known : HasNumber nodes r c.args.values.now c.in-Select.index = subst (λ n. PartsKnown n nodes r c.args.values.now) c.in-Select.is c.requires.parts in
    let index : slice_index c.args.values.now c.place.result ≡ value nodes c.in-Select.index r = ap (λ k. slice_index c.args.values.now k) c.place.ensures ∙ known.0 in
    c.low-in-Select.ensures
    ∙ ap (λ n. n % 2 ^ c.in-Select.width) (c.get.ensures ∙ ap (λ k. entry_at c.args.v.now.arrays c.in-Select.array k) index ∙ sym (ap (λ e. e c.in-Select.array (value nodes c.in-Select.index r)) (scoped-entry base c.args.scope.now)))
    ∙ ap (λ n. node_value n (value nodes) (width nodes) r) (sym c.in-Select.is)
