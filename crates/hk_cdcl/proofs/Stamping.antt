-- Marks as stamps.
use Rattle.std.proofs.Common.{◌≡◌, ℕ, ◌<◌, true, false, eqb, List, map, set, refl, ◌∙◌, ap, arith}
use Rattle.std.proofs.lemmas.Bool.{ne_eqb, eq-eqb}
use Rattle.std.proofs.lemmas.List.{map-set}
use Rattle.std.proofs.lemmas.List.Elements.{All-map, All-weaker}
use Rattle.std.specs.List.{All}

pub all-older : (stamps : List ℕ) (stamp : ℕ) → All (λ m. m < stamp) stamps → All (λ b. b ≡ false) (map (λ m. eqb m stamp) stamps)
all-older stamps stamp h = All-map (λ b. b ≡ false) (λ m. eqb m stamp) stamps (All-weaker (λ m. m < stamp) (λ m. eqb m stamp ≡ false) (λ m lt. ne_eqb m stamp (λ e. omega (arith, lt, e))) stamps h)

pub stamped : (stamps : List ℕ) (stamp n : ℕ) → map (λ m. eqb m stamp) (set stamps n stamp) ≡ set (map (λ m. eqb m stamp) stamps) n true
stamped stamps stamp n = map-set (λ m. eqb m stamp) stamps n stamp ∙ ap (set (map (λ m. eqb m stamp) stamps) n) (eq-eqb stamp stamp refl)
