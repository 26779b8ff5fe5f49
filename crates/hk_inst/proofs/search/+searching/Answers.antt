use Rattle.std.proofs.Common.{◌≡◌, ◌∙◌, ℕ, ◌++◌, ◌∷◌, [], List, false, sym, subst}
use Rattle.std.proofs.lemmas.Result.{on_ok_weaker}
use Rattle.hk_term.specs.Meaning.{Reading, reading_of, with_var, value}
use Rattle.hk_term.specs.declared.bounds.Bound.{Bound}
use Rattle.hk_inst.specs.declared.instance.Instance.TheVariants.{Tuple}
use Rattle.hk_inst.specs.Truths.{is_among}
use Rattle.hk_inst.specs.States.{asked_of}
use Rattle.hk_inst.specs.Violations.{IsViolated, IsSearch, AllTried}
use Rattle.hk_inst.proofs.Searches.{set-is, restored, whole-is, empty-is, search-deeper, search-found, numbers-more}
use Rattle.hk_inst.proofs.search.+searching.Goals as goal

pub at_number-returns-clause-case : goal.at_number-returns-clause-case
at_number-returns-clause-case t c =
    let id = c.args.bounds.now.first.now.id in
    set-is c.search.new.case.vars c.set-2.new.self c.search.new.case.arrays id c.get-before.result c.in_ok-set-2.ensures.ok
    ∙ (λ i. with_var ((c.in_ok-goes_on.ensures.case ∙ set-is c.args.case.now.vars c.set.new.self c.args.case.now.arrays id c.args.number c.in_ok-set.ensures.ok) i) id (c.get-before.ensures i))
    ∙ restored (reading_of c.args.case.now) id c.args.number

pub at_number-returns-clause-found : goal.at_number-returns-clause-found
at_number-returns-clause-found t c = λ f r h all.
    let id = c.args.bounds.now.first.now.id in
    let now : reading_of (record { vars = c.set.new.self; arrays = c.args.case.now.arrays }) ≡ with_var (reading_of c.args.case.now) id c.args.number = set-is c.args.case.now.vars c.set.new.self c.args.case.now.arrays id c.args.number c.in_ok-set.ensures.ok in
    c.in_ok-goes_on.ensures.found f r
    (subst (λ (z : List ℕ × Reading). IsSearch (asked_of c.args.wanted.now.s.now) f r c.args.wanted.now.quantifier c.args.wanted.now.body c.args.bounds.now.rest.now z.0 z.1) (λ i. (sym c.in_ok-push.ensures.items i, sym now i))
    (search-deeper (asked_of c.args.wanted.now.s.now) f r c.args.wanted.now.quantifier c.args.wanted.now.body c.args.bounds.now.first.now c.args.bounds.now.rest.now c.args.progress.now.tuple.items (reading_of c.args.case.now) c.args.number c.requires.number h)) all

pub each_number-returns-then-not-goes_on-clause-found : goal.each_number-returns-then-not-goes_on-clause-found
each_number-returns-then-not-goes_on-clause-found t c = λ f r h all.
    c.in_ok-goes_on.ensures.found f r
    (subst (λ (z : List ℕ × Reading). IsSearch (asked_of c.args.wanted.now.s.now) f r c.args.wanted.now.quantifier c.args.wanted.now.body (c.args.bounds.now.first.now ∷ c.args.bounds.now.rest.now) z.0 z.1) (λ i. (sym c.loop-number.invariant.tuple i, sym c.loop-number.invariant.case i)) h)
    (c.loop-number.invariant.found f r h all)

pub each_number-loop-number-preserved : goal.each_number-loop-number-preserved
each_number-loop-number-preserved t c = record {
  room = c.at_number.ensures.room;
  case = c.in_ok-goes_on.ensures.case ∙ c.loop-number.invariant.case;
  tuple = c.in_ok-goes_on.ensures.tuple ∙ c.loop-number.invariant.tuple;
  kept = λ e. c.loop-number.invariant.kept (c.at_number.ensures.kept e);
  tried = λ e. numbers-more (λ n. AllTried c.args.wanted.now.s.now.terms c.args.wanted.now.s.now.instances c.args.wanted.now.quantifier c.args.wanted.now.body c.args.bounds.now.rest.now (c.args.progress.now.tuple.items ++ n ∷ []) (with_var (reading_of c.args.case.now) c.args.bounds.now.first.now.id n)) c.loop-number.number
      (c.loop-number.invariant.tried (c.at_number.ensures.kept e))
      (subst (λ (z : List ℕ × Reading). AllTried c.args.wanted.now.s.now.terms c.args.wanted.now.s.now.instances c.args.wanted.now.quantifier c.args.wanted.now.body c.args.bounds.now.rest.now (z.0 ++ c.loop-number.number ∷ []) (with_var z.1 c.args.bounds.now.first.now.id c.loop-number.number)) (λ i. (c.loop-number.invariant.tuple i, c.loop-number.invariant.case i)) (c.in_ok-goes_on.ensures.tried e));
  found = λ f r h all.
      c.in_ok-goes_on.ensures.found f r
      (subst (λ (z : List ℕ × Reading). IsSearch (asked_of c.args.wanted.now.s.now) f r c.args.wanted.now.quantifier c.args.wanted.now.body (c.args.bounds.now.first.now ∷ c.args.bounds.now.rest.now) z.0 z.1) (λ i. (sym c.loop-number.invariant.tuple i, sym c.loop-number.invariant.case i)) h)
      (c.loop-number.invariant.found f r h all);
}

pub search-returns-in_ok-try_tuple-in-empty-clause-found : goal.search-returns-in_ok-try_tuple-in-empty-clause-found
search-returns-in_ok-try_tuple-in-empty-clause-found t c = λ f r h all.
    c.in_ok-try_tuple-in-empty.ensures.found f r
    (subst (λ tuple. is_among c.args.wanted.now.s.now.instances (Tuple c.args.wanted.now.quantifier tuple) ≡ false → (value c.args.wanted.now.s.now.terms c.args.wanted.now.body (reading_of c.args.case.now) ≡ 1 → ⊥) → IsViolated (asked_of c.args.wanted.now.s.now) f r (Tuple c.args.wanted.now.quantifier tuple)) (sym c.deref.ensures.value)
    (search-found (asked_of c.args.wanted.now.s.now) f r c.args.wanted.now.quantifier c.args.wanted.now.body c.args.progress.now.tuple.items (reading_of c.args.case.now)
    (subst (λ bs. IsSearch (asked_of c.args.wanted.now.s.now) f r c.args.wanted.now.quantifier c.args.wanted.now.body bs c.args.progress.now.tuple.items (reading_of c.args.case.now)) (empty-is c.args.bound.now c.in-empty.len_below) h))) all

pub search-returns-in-len1-up-clause-found : goal.search-returns-in-len1-up-clause-found
search-returns-in-len1-up-clause-found t c =
    let d : Bound = record { id = 0; size = 0 } in
    on_ok_weaker c.each_number.result
    (λ told f r h all. told f r (subst (λ bs. IsSearch (asked_of c.args.wanted.now.s.now) f r c.args.wanted.now.quantifier c.args.wanted.now.body bs c.args.progress.now.tuple.items (reading_of c.args.case.now)) (whole-is c.args.bound.now d c.in-len1-up.len_at_least) h) all)
    c.each_number.ensures.found
