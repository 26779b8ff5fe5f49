use Rattle.std.proofs.Common.{◌<◌, ap, sym, subst, ◌∙◌}
use Rattle.std.proofs.lemmas.List.{length-map}
use Rattle.ir_ast.specs.ProgramView.{view_entries, view_type_entry, view_module}
use Rattle.ir_type.proofs.Views.{place_viewed}
use Rattle.ir_layout.specs.Facts.{look_in, fact_at, AreFacts}
use Rattle.ir_layout.proofs.FactSteps.{kept_fits}
use Rattle.ir_layout.proofs.Verdicts.{refused}
use Rattle.ir_layout.proofs.layout.Layout.of.Goals as goal

pub facts_of-requires-clause-order : goal.facts_of-requires-clause-order
facts_of-requires-clause-order c = record {
  order = c.in_ok-order.ensures.order;
  says = λ p l. c.in_ok-order.ensures.cyclic p (subst (λ n. p < n) (length-map c.args.kernel.now.types (λ e. (e.0, view_type_entry e.1))) l);
}

pub returns-in-Some-clause-refused : goal.returns-in-Some-clause-refused
returns-in-Some-clause-refused c =
    refused (view_module c.args.kernel.now) (look_in c.args.kernel.now.types c.deref.result.now)
    (λ t. kept_fits (view_entries view_type_entry c.args.kernel.now.types) c.deref.result.now (look_in c.args.kernel.now.types c.deref.result.now)
    (subst (AreFacts (view_entries view_type_entry c.args.kernel.now.types)) (sym c.deref.ensures.value) c.in_ok-facts.ensures)
    (λ x. ap (fact_at c.deref.result.now) (sym (place_viewed view_type_entry c.args.kernel.now.types x))) t)
    c.in-Some.fault (sym c.least_fault.ensures ∙ c.in-Some.is)
