-- How terms wait while their parts are blasted.
use Rattle.std.specs.Prelude.{◌≡◌, ℕ, zero, suc, ◌+◌, ◌*◌, ◌<◌, if◌then◌else◌, List, [], ◌∷◌, length, Option, None, Some, nat_eq, is_some}
use Rattle.std.specs.Map.{lookup}
use Rattle.hk_term.specs.declared.node.Node.{Node}
use Rattle.hk_blast.specs.Blasted.{Words, HasWord, IsMissing, Needs}

-- a term that has no word, and those that wait for it, the latest first, up to the goal
abbrev pub Waits : List Node → ℕ → Words → ℕ → List ℕ → Type 0
Waits nodes goal table t [] = (t < length nodes) × (IsMissing table t) × (Needs nodes goal t) × (t ≡ goal)
Waits nodes goal table t (u ∷ us) = (t < length nodes) × (IsMissing table t) × (Needs nodes goal t) × (t < u) × (Waits nodes goal table u us)

-- a term is next, or the goal has its word
abbrev pub Stands : List Node → ℕ → Words → Option ℕ → List ℕ → Type 0
Stands nodes goal table None waiting = HasWord table goal
Stands nodes goal table (Some t) waiting = Waits nodes goal table t waiting

-- how many terms below n have no word
abbrev pub missing : ℕ → Words → ℕ
missing zero table = 0
missing (suc n) table = missing n table + (if is_some (lookup (nat_eq n) table) then 0 else 1)

-- what is left to do: a word, or a smaller term
abbrev pub left : ℕ → Words → Option ℕ → ℕ
left n table None = 0
left n table (Some t) = missing n table * (n + 1) + t + 1
