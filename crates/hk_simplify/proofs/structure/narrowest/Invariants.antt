use Rattle.std.proofs.Common.{◌≡◌, ◌+◌, ◌/◌, ◌%◌, ◌^◌, ◌<◌, ◌≤◌, length}
use Rattle.hk_term.specs.Shape.{width}
use Rattle.hk_term.specs.Meaning.{Reading, value}
use Rattle.hk_simplify.proofs.structure.narrowest.Given as goal

abbrev pub invariant-further : goal.invariant-further
invariant-further l = record {
  term : l.part.of < length l.t;
  within : l.part.low + l.to ≤ width l.t l.part.of;
  value : (v : Reading) → value l.t l.part.of v / 2 ^ l.part.low % 2 ^ l.to ≡ value l.t l.fn.a v / 2 ^ l.fn.low % 2 ^ l.to;
}

abbrev pub decreases-further : goal.decreases-further
decreases-further l = l.part.of
