use Rattle.std.proofs.Common.{◌≡◌, ◌<◌, take}
use Rattle.hk_claims.specs.Fitting.{lines_of_proofs}
use Rattle.hk_claims.proofs.checking.lines_of_all.Given as goal

abbrev pub invariant-loop-proof : goal.invariant-loop-proof
invariant-loop-proof l = lines_of_proofs (take l.proof-index l.proofs) < 18446744073709551616 → l.lines ≡ lines_of_proofs (take l.proof-index l.proofs)
