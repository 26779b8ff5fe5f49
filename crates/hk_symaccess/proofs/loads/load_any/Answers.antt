use Rattle.std.proofs.Common.{rules, ◌≡◌, length, arith}
use Rattle.hk_term.specs.Meaning.{value}
use Rattle.hk_symmem.specs.Guarded.{memory_at}
use Rattle.hk_symaccess.proofs.Kept.{over_kept, memory_kept}
use Rattle.hk_symaccess.proofs.Sizes.{memory_places}
use Rattle.hk_symaccess.proofs.Reaching.{one_more}
use Rattle.hk_symaccess.proofs.loads.load_any.Goals as goal

pub loop-object-preserved : goal.loop-object-preserved
loop-object-preserved g c =
    let first = c.args.t.now in
    let m = c.args.memory.now in
    record {
      frame = search rules;
      over = over_kept _ _ m c.in_ok-made-2.ensures.frame c.loop-object.invariant.over;
      word = search rules;
      is = λ v. one_more (memory_at first m v) (memory_at c.loop-object.t m v) (value first c.args.at.now.base v) (value c.loop-object.t c.args.at.now.base v) (value first c.args.at.now.offset v) (value c.loop-object.t c.args.at.now.offset v)
          c.args.at.now.bytes c.loop-object.object (value c.loop-object.t c.loop-object.made v) _
          (c.loop-object.invariant.frame.values c.args.at.now.base c.requires.base.0 v) (c.loop-object.invariant.frame.values c.args.at.now.offset c.requires.offset.0 v)
          (memory_kept first c.loop-object.t m c.loop-object.invariant.frame c.requires.over v)
          (c.in_ok-made-2.ensures.here v) (c.in_ok-made-2.ensures.away v) (c.loop-object.invariant.is v);
    }

pub returns-clause-value : goal.returns-clause-value
returns-clause-value g c = λ v lies.
    let count : length (memory_at c.args.t.now c.args.memory.now v) ≡ length c.args.memory.now.origins = memory_places c.args.t.now c.args.memory.now v in
    c.loop-object.invariant.is v lies (omega (arith, lies.known, lies.object, count, c.requires.count, c.loop-object-test.false))
