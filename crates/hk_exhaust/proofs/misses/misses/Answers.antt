use Rattle.std.proofs.Common.{◌≡◌, subst, arith}
use Rattle.ir_sound.specs.Shapes.{sizes_of}
use Rattle.hk_exhaust.specs.Handlers.{HasSizes}
use Rattle.hk_exhaust.proofs.Facts.{memory_long, long_after, memory_after}
use Rattle.hk_exhaust.proofs.misses.misses.Goals as goal

pub holds_bytes-requires : goal.holds_bytes-requires
holds_bytes-requires c =
    let memory = c.args.memory.now in
    let sizes : sizes_of c.in-Returned.after ≡ sizes_of memory = subst (HasSizes memory) c.in-Returned.is c.requires.sizes in
    omega (arith, c.requires.handler.counted, memory_long c.args.handler.now.spec.now.objects memory c.requires.memory, long_after memory c.in-Returned.after sizes)

pub misses_returned-requires-clause-after : goal.misses_returned-requires-clause-after
misses_returned-requires-clause-after c =
    let memory = c.args.memory.now in
    let sizes : sizes_of c.in-Returned.after ≡ sizes_of memory = subst (HasSizes memory) c.in-Returned.is c.requires.sizes in
    memory_after c.args.handler.now.spec.now.objects memory c.in-Returned.after c.requires.memory sizes c.holds_bytes.ensures
