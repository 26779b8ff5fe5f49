-- A count of faults: a number below 2^64 that never falls, and rises by one where the outside fails and nowhere else.
use Rattle.std.specs.Prelude.{◌≡◌, ◌⊎◌, ◌+◌, ◌-◌, ◌^◌, ℕ, Result, Ok, Err}
use Rattle.hk_io.specs.declared.fault.LoadFault.{LoadFault}
use Rattle.hk_io.specs.declared.fault.LoadFault.TheVariants.{Failed, TooLong, Memory}

-- A count rose in a call: by one, or it stood at the end of its type.
abbrev pub Rose : ℕ → ℕ → Type 0
Rose before after = (after ≡ before + 1) ⊎ (before ≡ 2 ^ 64 - 1)

-- What a load leaves of the count: it rose where the outside failed, and every other answer leaves it as it was.
abbrev pub CountsLoad : {A : Type 0} → Result A LoadFault → ℕ → ℕ → Type 0
CountsLoad (Ok a) before after = after ≡ before
CountsLoad (Err Failed) before after = Rose before after
CountsLoad (Err TooLong) before after = after ≡ before
CountsLoad (Err Memory) before after = after ≡ before
