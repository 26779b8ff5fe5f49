use Rattle.std.proofs.Common.{◌≡◌, ◌∙◌, length, arith}
use Rattle.hk_term.specs.Meaning.{value}
use Rattle.hk_symmem.specs.Guarded.{memory_at}
use Rattle.hk_symaccess.proofs.Kept.{memory_kept}
use Rattle.hk_symaccess.proofs.Sizes.{memory_places}
use Rattle.hk_symaccess.proofs.Reaching.{found_at}
use Rattle.hk_symaccess.proofs.loads.load_known.Goals as goal

pub returns-in_ok-made-in-Some-clause-value : goal.returns-in_ok-made-in-Some-clause-value
returns-in_ok-made-in-Some-clause-value g c = λ v lies.
    let first = c.args.t.now in
    let next = c.nothing.new.t in
    let m = c.args.memory.now in
    found_at (memory_at first m v) (memory_at next m v) (value first c.args.at.now.base v) (value next c.args.at.now.base v) (value first c.args.at.now.offset v) (value next c.args.at.now.offset v) c.args.at.now.bytes c.in-Some.object _
    (c.in_ok-rest.ensures.frame.values c.args.at.now.base c.requires.base.0 v) (c.in_ok-rest.ensures.frame.values c.args.at.now.offset c.requires.offset.0 v)
    (memory_kept first next m c.in_ok-rest.ensures.frame c.requires.over v)
    (c.in_ok-made-in-Some.ensures.here v) (c.requires.known v ∙ c.in-Some.ensures.some.0) lies

pub returns-in-None-clause-value : goal.returns-in-None-clause-value
returns-in-None-clause-value g c = λ v lies.
    let count : length (memory_at c.args.t.now c.args.memory.now v) ≡ length c.args.memory.now.origins = memory_places c.args.t.now c.args.memory.now v in
    absurd (c.in-None.ensures.none (omega (arith, lies.known, c.requires.known v)) (omega (arith, lies.object, c.requires.known v, count, c.requires.count)))
