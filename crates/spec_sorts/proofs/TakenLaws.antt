-- The laws of what is taken, by what Takes says of it.
use Rattle.spec_sorts.specs.Laws.{TakenIsSorted, OwnIsKind, KeysAreSorted}
use Rattle.spec_sorts.proofs.Found.{found, keys_found}
use Rattle.spec_sorts.proofs.Owned.{own_kind}
use Rattle.spec_sorts.proofs.Sorted.{taken_sorted, keys_sorted}

pub taken_is_sorted : TakenIsSorted
taken_is_sorted reading s b c kind e y m k h q t = taken_sorted reading s b c kind e y m k h q (found s b kind e y t)

pub own_is_kind : OwnIsKind
own_is_kind reading s b c kind e y m q t h = own_kind reading s b c kind e y m q (found s b kind e y t) h

pub keys_are_sorted : KeysAreSorted
keys_are_sorted reading s b c keys es ys m k h q t = keys_sorted reading s b c keys es ys m k h q (keys_found s b keys es ys t)
