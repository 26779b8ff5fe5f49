use Rattle.std.proofs.Common.{◌∷◌, ◌++◌, ◌%◌, [], ap, sym, arith, ◌∙◌}
use Rattle.std.proofs.lemmas.List.FromFn.{map-range_with_len_more}
use Rattle.hk_term.specs.Meaning.{reading_of}
use Rattle.hk_symmem.specs.Origins.{cell_byte}
use Rattle.hk_symmem.proofs.SourceLaws.{one_byte}
use Rattle.hk_symmem.proofs.given.array_bytes.Goals as goal

pub loop-index-preserved : goal.loop-index-preserved
loop-index-preserved c =
    c.in_ok-push.ensures.items
    ∙ (λ i. c.loop-index.invariant i ++ (ap (λ n. n % 256) c.get.ensures ∙ sym (one_byte ((reading_of c.args.v.now).entry c.args.object) c.loop-index.index)) i ∷ [])
    ∙ sym (map-range_with_len_more (cell_byte 1 ((reading_of c.args.v.now).entry c.args.object)) 0 c.loop-index.index c.loop-index.index (omega arith))
