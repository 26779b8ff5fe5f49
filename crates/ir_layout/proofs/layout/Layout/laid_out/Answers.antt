use Rattle.std.proofs.Common.{◌<◌, ap, sym, subst, map, length, ◌∙◌}
use Rattle.std.proofs.lemmas.List.{length-map}
use Rattle.ir_ast.specs.ProgramView.{view_entries, view_type_entry, view_global, view_module}
use Rattle.ir_type.proofs.Views.{place_viewed}
use Rattle.ir_layout.specs.Facts.{look_in, fact_at}
use Rattle.ir_layout.specs.Writing.{object_by}
use Rattle.ir_layout.specs.Offsets.{offsets_of, with_roots}
use Rattle.ir_layout.proofs.Laid.{made, names_count, roots_viewed}
use Rattle.ir_layout.proofs.layout.Layout.laid_out.Goals as goal

pub invariant_of-result : goal.invariant_of-result
invariant_of-result c = (
  subst (λ n. n < 4294967296) (sym (ap length c.in_ok-names.ensures ∙ names_count 0 c.args.kernel.now.types c.deref.result.now)) c.requires.small.types,
  c.requires.facts.kept,
  subst (λ n. n < 4294967296)
      (sym (ap length c.in_ok-objects.ensures
      ∙ length-map (view_entries view_global c.args.kernel.now.globals) (λ g. object_by (look_in c.args.kernel.now.types c.deref-3.result.now) g.1)
      ∙ length-map c.args.kernel.now.globals (λ e. (e.0, view_global e.1))))
      c.requires.small.globals,
)

pub returns-clause-layout : goal.returns-clause-layout
returns-clause-layout c =
    made (view_module c.args.kernel.now)
    (record { names = c.in_ok-names.names; facts = c.args.facts.items; fields = c.in_ok-offsets.offsets.items; objects = c.in_ok-objects.objects.items })
    (look_in c.args.kernel.now.types c.args.facts.items) (λ x. ap (fact_at c.args.facts.items) (sym (place_viewed view_type_entry c.args.kernel.now.types x))) c.requires.facts c.in_ok-roots.roots.items
    (c.in_ok-names.ensures ∙ ap (with_roots 0 c.args.kernel.now.types) c.deref.ensures.value ∙ roots_viewed view_type_entry 0 c.args.kernel.now.types c.in_ok-roots.roots.items)
    c.in_ok-roots.ensures
    (c.in_ok-offsets.ensures
    ∙ ap (λ fs. map (λ e. offsets_of (look_in c.args.kernel.now.types fs) e.1.over) (view_entries view_type_entry c.args.kernel.now.types)) c.deref-2.ensures.value)
    (c.in_ok-objects.ensures ∙ ap (λ fs. map (λ g. object_by (look_in c.args.kernel.now.types fs) g.1) (view_entries view_global c.args.kernel.now.globals)) c.deref-3.ensures.value)
    c.requires.free
