use Rattle.std.proofs.Common.{◌∷◌, ◌++◌, [], sym, arith, ◌∙◌}
use Rattle.std.specs.Prelude.{map}
use Rattle.std.proofs.lemmas.List.{take_more, take_all}
use Rattle.hk_term.specs.Meaning.{reading_of}
use Rattle.hk_symmem.specs.Origins.{start_memory}
use Rattle.hk_symmem.specs.Sources.{origin_of}
use Rattle.hk_symmem.proofs.RowLaws.{map_count, objects_count}
use Rattle.hk_symmem.proofs.SourceLaws.{object_seen}
use Rattle.hk_symmem.proofs.given.memory_by.Goals as goal

pub loop-object-preserved : goal.loop-object-preserved
loop-object-preserved c =
    c.in_ok-push.ensures.items
    ∙ (λ i. c.loop-object.invariant i ++ (c.in_ok-bytes_from.ensures ∙ sym (object_seen c.args.sources.now (reading_of c.args.v.now).entry c.loop-object.object c.source_at-source.result.now c.source_at-source.ensures)) i ∷ [])
    ∙ sym (take_more (start_memory (map origin_of c.args.sources.now) (reading_of c.args.v.now).entry) c.loop-object.object []
    (omega (arith, c.loop-object-test.true, c.requires, map_count origin_of c.args.sources.now, objects_count 0 (map origin_of c.args.sources.now) (reading_of c.args.v.now).entry)))

pub returns : goal.returns
returns c =
    c.new.ensures ∙ c.loop-object.invariant
    ∙ take_all c.loop-object.object (start_memory (map origin_of c.args.sources.now) (reading_of c.args.v.now).entry)
    (omega (arith, c.loop-object-test.false, c.requires, map_count origin_of c.args.sources.now, objects_count 0 (map origin_of c.args.sources.now) (reading_of c.args.v.now).entry))
