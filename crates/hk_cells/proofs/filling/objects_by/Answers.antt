use Rattle.std.proofs.Common.{◌∷◌, ◌++◌, [], ap, sym, subst, arith, ◌∙◌, ◌<◌, length}
use Rattle.std.proofs.lemmas.List.{take_more, take_all}
use Rattle.hk_term.specs.Meaning.{reading_of}
use Rattle.hk_symmem.specs.Origins.{start_memory}
use Rattle.hk_cells.specs.Parts.{divided, part_bytes}
use Rattle.hk_cells.proofs.PartLaws.{part_seen, parts_count, divided_count, objects_count, kept_width}
use Rattle.hk_cells.proofs.filling.objects_by.Goals as goal

pub bytes_from-requires-clause-object : goal.bytes_from-requires-clause-object
bytes_from-requires-clause-object c =
    subst (λ m. c.loop-object.object < length m) (sym c.requires.memory)
    (omega (arith, c.loop-object-test.true, c.requires.count, parts_count c.args.reads.now c.args.parts.now c.requires.parts, objects_count 0 c.args.reads.now (reading_of c.args.v.now).entry))

pub bytes_from-requires-clause-kept : goal.bytes_from-requires-clause-kept
bytes_from-requires-clause-kept c = kept_width c.args.reads.now c.args.parts.now c.loop-object.object c.part_at-part.result c.requires.parts c.part_at-part.ensures

pub loop-object-preserved : goal.loop-object-preserved
loop-object-preserved c =
    c.in_ok-push.ensures.items
    ∙ (λ i. c.loop-object.invariant i ++ (c.in_ok-bytes.ensures ∙ ap (λ m. part_bytes m (reading_of c.args.v.now).entry c.loop-object.object c.part_at-part.result) c.requires.memory
    ∙ sym (part_seen c.args.reads.now c.args.parts.now (reading_of c.args.v.now).entry c.loop-object.object c.part_at-part.result c.requires.parts c.part_at-part.ensures)) i ∷ [])
    ∙ sym (take_more (start_memory (divided c.args.reads.now c.args.parts.now) (reading_of c.args.v.now).entry) c.loop-object.object []
    (omega (arith, c.loop-object-test.true, c.requires.count, divided_count c.args.reads.now c.args.parts.now c.requires.parts, objects_count 0 (divided c.args.reads.now c.args.parts.now) (reading_of c.args.v.now).entry)))

pub returns : goal.returns
returns c =
    c.loop-object.invariant
    ∙ take_all c.loop-object.object (start_memory (divided c.args.reads.now c.args.parts.now) (reading_of c.args.v.now).entry)
    (omega (arith, c.loop-object-test.false, c.requires.count, divided_count c.args.reads.now c.args.parts.now c.requires.parts, objects_count 0 (divided c.args.reads.now c.args.parts.now) (reading_of c.args.v.now).entry))
