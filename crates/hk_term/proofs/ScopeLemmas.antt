-- Readings with numbers for bound variables.
use Rattle.std.proofs.Common.{◌≡◌, ℕ, List, [], ◌∷◌, refl}
use Rattle.hk_term.specs.Meaning.{Reading}
use Rattle.hk_term.specs.Walk.{scoped}

-- the arrays are those of the valuation
pub scoped-entry : (v : Reading) (bs : List (ℕ × ℕ)) → (scoped v bs).entry ≡ v.entry
scoped-entry v [] = refl
scoped-entry v (b ∷ bs) = scoped-entry v bs
