use Rattle.std.proofs.Common.{◌≡◌, ◌+◌, ◌≤◌, ◌∙◌, ap, arith, length}
use Rattle.hk_term.specs.Meaning.{value}
use Rattle.ir_layout.specs.Bytes.{object_of, number_at}
use Rattle.hk_symmem.specs.Guarded.{memory_at}
use Rattle.hk_symaccess.proofs.Kept.{memory_kept}
use Rattle.hk_symaccess.proofs.loads.load_one.Goals as goal

pub returns-clause-here : goal.returns-clause-here
returns-clause-here g c = λ v e l.
    let first = c.args.t.now in
    let next = c.is_base.new.t in
    let m = c.args.memory.now in
    let same : memory_at next m v ≡ memory_at first m v = memory_kept first next m c.in_ok-test.ensures.frame c.requires.over v in
    let place : value next c.args.at.now.offset v ≡ value first c.args.at.now.offset v = c.in_ok-test.ensures.frame.values c.args.at.now.offset c.requires.offset.0 v in
    let size : length (object_of (memory_at next m v) c.args.object) ≡ length (object_of (memory_at first m v) c.args.object) = ap (λ z. length (object_of z c.args.object)) same in
    let inside : value next c.args.at.now.offset v + c.args.at.now.bytes ≤ length (object_of (memory_at next m v) c.args.object) = omega (arith, l, place, size) in
    c.in_ok-made.ensures.here v (c.in_ok-test.ensures.value v ∙ e) inside ∙ (λ i. number_at c.args.at.now.bytes (place i) (object_of (same i) c.args.object))
