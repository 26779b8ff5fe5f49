use Rattle.std.proofs.Common.{rules, ◌≡◌, ◌+◌, ◌∷◌, ℕ, List, drop, slice_index, sym, subst}
use Rattle.hk_symvalue.proofs.Frames.{followed}
use Rattle.hk_symspec.specs.Steps.{AreArgumentTerms}
use Rattle.hk_oblig.specs.Cases.{arguments_at}
use Rattle.hk_oblig.specs.Under.{AreNumbersAt}
use Rattle.hk_oblig.proofs.VariableLaws.{Varied, one_varied, next_width, no_width, all_terms, all_numbers}
use Rattle.hk_oblig.proofs.arguments.variables_of.Goals as goal

pub each-preserved : goal.each-preserved
each-preserved c =
    let ws = c.args.widths.now in
    let k = c.each.width-index in
    let w : ℕ = slice_index ws k in
    let left : drop k ws ≡ w ∷ drop (k + 1) ws = next_width ws k w (search rules) c.each-test.true in
    let varied : Varied c.each.t c.each.terms.items c.each.id (w ∷ drop (k + 1) ws) ws = subst (λ (l : List ℕ). Varied c.each.t c.each.terms.items c.each.id l ws) left c.each.invariant.varied in
    record {
      frame = followed c.args.t.now c.each.t c.variable.new.t c.each.invariant.frame c.variable.ensures.frame;
      id = search rules;
      varied = subst (λ (l : List ℕ). Varied c.variable.new.t l (c.each.id + 1) (drop (k + 1) ws) ws) (sym c.in_ok-push.ensures.items)
          (one_varied c.each.t c.variable.new.t c.each.terms.items c.in_ok-term.term c.each.id w (drop (k + 1) ws) ws c.variable.ensures.frame c.in_ok-term.ensures.word c.in_ok-term.ensures.value varied);
    }

pub returns-clause-terms : goal.returns-clause-terms
returns-clause-terms c =
    subst (λ (l : List ℕ). AreArgumentTerms c.each.t c.args.widths.now l) (sym c.from_vec.ensures)
    (all_terms c.each.t c.each.terms.items c.each.id (drop c.each.width-index c.args.widths.now) c.args.widths.now (no_width c.args.widths.now c.each.width-index c.each-test.false) c.each.invariant.varied)

pub returns-clause-numbers : goal.returns-clause-numbers
returns-clause-numbers c = λ v.
    subst (λ (l : List ℕ). AreNumbersAt c.each.t l v (arguments_at c.args.widths.now v.var)) (sym c.from_vec.ensures)
    (all_numbers c.each.t c.each.terms.items c.each.id (drop c.each.width-index c.args.widths.now) c.args.widths.now (no_width c.args.widths.now c.each.width-index c.each-test.false) c.requires.few c.each.invariant.varied v)
