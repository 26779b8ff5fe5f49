use Rattle.std.proofs.Common.{◌≡◌, ◌+◌, ◌-◌, length}
use Rattle.hk_unroll.specs.Copies.{grown, layers_from, copies_of}
use Rattle.hk_unroll.specs.Arriving.{AreArrivals}
use Rattle.hk_unroll.proofs.copies.Copies.of.Given as goal

-- the layers that are left are gone over from here as all are from the start
abbrev pub invariant-loop-turns : goal.invariant-loop-turns
invariant-loop-turns l = record {
  made : grown l.graph l.copies.made.items (layers_from (length l.graph) l.turns (l.most + 1 - l.turns)) ≡ copies_of l.graph l.most;
  arrivals : AreArrivals l.graph l.most l.copies.made.items l.copies.layers.items;
}
