use Rattle.std.proofs.Common.{rules, ◌≡◌, ◌∙◌, false, sym, ap, subst}
use Rattle.std.proofs.lemmas.List.Elements.{All-push}
use Rattle.hk_term.specs.Meaning.{reading_of, value}
use Rattle.hk_inst.specs.declared.instance.Instance.TheVariants.{Tuple}
use Rattle.hk_inst.specs.Truths.{is_among}
use Rattle.hk_inst.specs.States.{asked_of}
use Rattle.hk_inst.specs.Violations.{IsViolated}
use Rattle.std.specs.List.{All}
use Rattle.hk_inst.proofs.search.try_tuple.Goals as goal

pub value_with-requires-clause-room : goal.value_with-requires-clause-room
value_with-requires-clause-room c = c.begin.ensures.begun c.args.wanted.now.s.now.terms (reading_of c.args.case.now) c.requires.room

pub returns-in_ok-push-clause-found : goal.returns-in_ok-push-clause-found
returns-in_ok-push-clause-found c = λ f r good all.
    let tuple : c.from_vec-indices.result ≡ c.args.tuple.now = search rules in
    let same : Tuple c.args.wanted.now.quantifier c.from_vec-indices.result ≡ Tuple c.args.wanted.now.quantifier c.args.tuple.now = ap (Tuple c.args.wanted.now.quantifier) tuple in
    let fresh : is_among c.args.wanted.now.s.now.instances (Tuple c.args.wanted.now.quantifier c.from_vec-indices.result) ≡ false = sym c.contains.ensures ∙ c.if-not-contains.true in
    let other : value c.args.wanted.now.s.now.terms c.args.wanted.now.body (reading_of c.args.case.now) ≡ 1 → ⊥ = λ e. c.if-value_with-eq1.false (c.value_with.ensures.value ∙ e) in
    let its : IsViolated (asked_of c.args.wanted.now.s.now) f r (Tuple c.args.wanted.now.quantifier c.args.tuple.now) = good (subst (λ i. is_among c.args.wanted.now.s.now.instances i ≡ false) same fresh) other in
    subst (All (IsViolated (asked_of c.args.wanted.now.s.now) f r)) (sym c.in_ok-push.ensures.ok)
    (All-push (IsViolated (asked_of c.args.wanted.now.s.now) f r) c.args.found.now _ all (subst (IsViolated (asked_of c.args.wanted.now.s.now) f r) (sym same) its))
