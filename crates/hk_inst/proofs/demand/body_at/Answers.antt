use Rattle.std.proofs.Common.{◌∙◌, ◌++◌, ap, map}
use Rattle.hk_copy.specs.declared.stand.Stand.TheVariants.{Number}
use Rattle.hk_copy.specs.Stands.{standing}
use Rattle.hk_inst.proofs.Subjects.{numbers-ready, numbers-pass}
use Rattle.hk_inst.proofs.demand.body_at.Goals as goal

pub copy-requires-clause-ready : goal.copy-requires-clause-ready
copy-requires-clause-ready c =
    numbers-ready c.args.terms.now c.args.bound.now c.args.indices.now _ _ (c.deref.ensures.value ∙ c.in_ok-push_numbers.ensures ∙ ap (λ l. l ++ standing c.args.bound.now (map Number c.args.indices.now)) c.new-pairs.ensures.items)

pub returns-clause-adds : goal.returns-clause-adds
returns-clause-adds c = λ tests all.
    c.in_ok-made.ensures.adds tests all
    (numbers-pass tests c.args.bound.now c.args.indices.now _ (c.deref.ensures.value ∙ c.in_ok-push_numbers.ensures ∙ ap (λ l. l ++ standing c.args.bound.now (map Number c.args.indices.now)) c.new-pairs.ensures.items))
