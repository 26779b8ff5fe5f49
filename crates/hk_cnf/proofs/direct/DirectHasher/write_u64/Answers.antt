use Rattle.std.proofs.Common.{ℕ, sym, ap}
use Rattle.std.proofs.lemmas.Nat.{from_le_bytes-to_le_bytes_8}
use Rattle.std.specs.Hash.{le_bytes}
use Rattle.hk_cnf.specs.declared.direct.Direct.{Direct}
use Rattle.hk_cnf.proofs.direct.DirectHasher.write_u64.Goals as goal

pub returns : goal.returns
unfolding le_bytes
returns c =
    let of : ℕ → Direct = λ n. record { number = n } in
    ap of (sym (from_le_bytes-to_le_bytes_8 c.args.i c.ranges.i.fits))
