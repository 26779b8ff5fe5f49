use Rattle.std.proofs.Common.{◌≡◌, ◌-◌, map, length}
use Rattle.std.specs.List.{range_with_len}
use Rattle.hk_unroll.specs.Copies.{grown, layer_from, layer}
use Rattle.hk_unroll.specs.Arriving.{AreArrivals}
use Rattle.hk_unroll.proofs.copies.Copies.visit.Given as goal

-- the copies that are left are gone over from here as all are from the start
abbrev pub invariant-loop-block : goal.invariant-loop-block
invariant-loop-block l = record {
  made : grown l.graph l.self.made.items (layer_from l.turns l.block (length l.graph - l.block)) ≡ grown l.graph l.fn.self.made.items (layer (length l.graph) l.turns);
  arrivals : AreArrivals l.graph l.most l.self.made.items l.self.layers.items;
}
