use Rattle.std.proofs.Common.{◌≡◌, ◌++◌, take}
use Rattle.std.specs.List.{flat_map}
use Rattle.std.specs.Prelude.{codes}
use Rattle.hk_rows.specs.Texts.{numbered}
use Rattle.hk_cert_text.proofs.refutation.add_indices.Given as goal

abbrev pub invariant-loop-index : goal.invariant-loop-index
invariant-loop-index l = l.out.bytes.items ≡ l.initial.out.bytes.items ++ flat_map (numbered (codes " ")) (take l.index-index l.indices)
