use Rattle.std.proofs.Common.{◌∙◌, ap, sym}
use Rattle.ir_whole.specs.Kept.{head_facts, facts_of}
use Rattle.ir_whole.proofs.KeptLaws.{kept_same}
use Rattle.ir_whole.proofs.HeadInterning.{found_there, found_within, added_kept, added_there}
use Rattle.ir_whole.proofs.list.HeadList.intern.Goals as goal

pub invariant_of-self : goal.invariant_of-self
invariant_of-self c =
    kept_same c.self.inside.nodes.items c.add.new.nodes.items c.self.inside.index c.add.new.index c.self.invariant c.in_err-number-in-None.ensures.err.0 c.in_err-number-in-None.ensures.err.1

pub invariant_of-self-in-None : goal.invariant_of-self-in-None
invariant_of-self-in-None c =
    added_kept c.self.inside.nodes.items c.self.inside.index c.args.self.now c.self.invariant c.self.view_is c.args.head c.requires
    c.head_facts-facts.result c.find.result c.in_ok-key-in-None.key c.in_ok-number-in-None.number c.add.new.nodes.items c.add.new.index
    c.find.ensures c.in-None.is c.in_ok-key-in-None.ensures
    (c.head_facts-facts.ensures ∙ ap (λ l. head_facts (facts_of l) c.args.head) c.as_slice.ensures.value)
    c.in_ok-number-in-None.ensures.ok.0 c.in_ok-number-in-None.ensures.ok.1 c.in_ok-number-in-None.ensures.index

pub returns-in-Some-clause-stands : goal.returns-in-Some-clause-stands
returns-in-Some-clause-stands c =
    found_there c.self.inside.nodes.items c.self.inside.index c.args.self.now c.self.invariant c.self.view_is c.args.head c.requires c.in-Some.number (sym c.find.ensures ∙ c.in-Some.is)

pub returns-in-Some-clause-within : goal.returns-in-Some-clause-within
returns-in-Some-clause-within c =
    found_within c.self.inside.nodes.items c.self.inside.index c.args.self.now c.self.invariant c.self.view_is c.args.head c.requires c.in-Some.number (sym c.find.ensures ∙ c.in-Some.is)

pub returns-in_ok-number-in-None-clause-stands : goal.returns-in_ok-number-in-None-clause-stands
returns-in_ok-number-in-None-clause-stands c =
    added_there c.self.inside.nodes.items c.self.inside.index c.args.self.now c.self.invariant c.self.view_is c.args.head c.requires
    c.head_facts-facts.result c.find.result c.in_ok-key-in-None.key c.in_ok-number-in-None.number c.add.new.nodes.items c.add.new.index
    c.find.ensures c.in-None.is c.in_ok-key-in-None.ensures
    (c.head_facts-facts.ensures ∙ ap (λ l. head_facts (facts_of l) c.args.head) c.as_slice.ensures.value)
    c.in_ok-number-in-None.ensures.ok.0 c.in_ok-number-in-None.ensures.ok.1 c.in_ok-number-in-None.ensures.index
