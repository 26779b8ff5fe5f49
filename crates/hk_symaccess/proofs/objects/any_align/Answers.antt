use Rattle.std.proofs.Common.{rules, ◌≡◌, ◌+◌, ◌∙◌, sym, take, nat_eq, if◌then◌else◌}
use Rattle.hk_term.specs.Meaning.{value}
use Rattle.hk_symaccess.specs.Accesses.{aligns_of}
use Rattle.hk_symaccess.proofs.Elements.{element, element_more}
use Rattle.hk_symaccess.proofs.Sizes.{align_there}
use Rattle.hk_symaccess.proofs.objects.any_align.Goals as goal

pub loop-object-preserved : goal.loop-object-preserved
loop-object-preserved c = record {
  frame = search rules;
  word = search rules;
  is = λ v.
      let base : value c.loop-object.t c.args.base v ≡ value c.args.t.now c.args.base v = c.loop-object.invariant.frame.values c.args.base c.requires.base.0 v in
      c.in_ok-made-2.ensures.value v
      ∙ (λ i. if nat_eq (base i) (c.loop-object.object + 2) then c.object_at.result.align else c.loop-object.invariant.is v i)
      ∙ (λ i. if nat_eq (value c.args.t.now c.args.base v) (c.loop-object.object + 2) then (c.object_at.ensures i).align else element (take c.loop-object.object (aligns_of c.args.objects.now)) 0 (value c.args.t.now c.args.base v))
      ∙ sym (element_more (aligns_of c.args.objects.now) c.loop-object.object (value c.args.t.now c.args.base v) _ 0
      (align_there c.args.layout.now.objects c.args.objects.now c.loop-object.object c.requires.program (search rules)));
}
