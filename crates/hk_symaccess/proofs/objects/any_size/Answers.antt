use Rattle.std.proofs.Common.{rules, ◌≡◌, ◌+◌, ◌∙◌, sym, nat_eq, if◌then◌else◌}
use Rattle.hk_term.specs.Meaning.{value}
use Rattle.hk_symaccess.specs.Accesses.{sizes_of}
use Rattle.hk_symaccess.proofs.Elements.{element_more}
use Rattle.hk_symaccess.proofs.objects.any_size.Goals as goal

pub loop-object-preserved : goal.loop-object-preserved
loop-object-preserved c = record {
  frame = search rules;
  word = search rules;
  is = λ v.
      let base : value c.loop-object.t c.args.base v ≡ value c.args.t.now c.args.base v = c.loop-object.invariant.frame.values c.args.base c.requires.0 v in
      c.in_ok-made-2.ensures.value v
      ∙ (λ i. if nat_eq (base i) (c.loop-object.object + 2) then c.object_size.result else c.loop-object.invariant.is v i)
      ∙ sym (element_more (sizes_of c.args.layout.now.objects) c.loop-object.object (value c.args.t.now c.args.base v) c.object_size.result 0 c.object_size.ensures.kept);
}
