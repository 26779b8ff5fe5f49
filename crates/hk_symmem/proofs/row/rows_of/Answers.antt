use Rattle.std.proofs.Common.{◌∷◌, ◌++◌, [], take, ap, sym, ◌∙◌}
use Rattle.std.specs.Prelude.{map}
use Rattle.std.proofs.lemmas.List.{map-append, take_more, replicate_more}
use Rattle.std.proofs.lemmas.Option.{slice_get_within, get_or_from_slice_get}
use Rattle.hk_symmem.specs.declared.row.Row.{Row}
use Rattle.ir_layout.specs.declared.object.Object.{Object}
use Rattle.hk_symmem.proofs.row.rows_of.Goals as goal

pub loop-object-preserved : goal.loop-object-preserved
loop-object-preserved c = record {
  sizes = ap (map (λ (r : Row). r.size)) c.in_ok-push.ensures.items ∙ map-append (λ (r : Row). r.size) c.loop-object.rows.items _
      ∙ ap (λ xs. xs ++ c.object_size.result ∷ []) c.loop-object.invariant.sizes
      ∙ ap (λ x. take c.loop-object.object (map (λ (o : Object). o.size) c.args.layout.now.objects) ++ x ∷ [])
      (sym (get_or_from_slice_get (map (λ (o : Object). o.size) c.args.layout.now.objects) c.loop-object.object c.object_size.result 0 c.object_size.ensures.kept))
      ∙ sym (take_more (map (λ (o : Object). o.size) c.args.layout.now.objects) c.loop-object.object 0 (slice_get_within _ _ _ c.object_size.ensures.kept));
  writes = ap (map (λ (r : Row). r.writes.items)) c.in_ok-push.ensures.items ∙ map-append (λ (r : Row). r.writes.items) c.loop-object.rows.items _
      ∙ (λ i. c.loop-object.invariant.writes i ++ c.new.ensures.items i ∷ []) ∙ replicate_more c.loop-object.object [];
}
