-- Pairs by their types.
use Rattle.std.proofs.Common.{◌≡◌, ℕ, Option, Some, None, refl}
use Rattle.ir_typing.specs.Registers.{Kind, value_of, slot_of, pair_of}
use Rattle.ir_typing.specs.Fits.{is_pair}
use Rattle.ir_typing.specs.Pairs.{pair_kind, pair_by}

pub by_kind : (w : ℕ) (k : Option Kind) → is_pair w k ≡ pair_by w (pair_kind k)
by_kind w None = refl
by_kind w (Some (value_of t)) = refl
by_kind w (Some (slot_of t)) = refl
by_kind w (Some (pair_of t)) = refl
