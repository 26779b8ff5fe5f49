-- Lines of proofs.
use Rattle.std.proofs.Common.{ℕ, ◌≡◌, ◌+◌, ◌<◌, ◌≤◌, min, List, [], ◌∷◌, ◌++◌, length, take, slice_index_or, refl, ap, sym, ◌∙◌, arith}
use Rattle.std.proofs.lemmas.List.{take_more, take_all}
use Rattle.hk_proof.specs.declared.Proof.{Proof}
use Rattle.hk_claims.specs.Fitting.{lines_of_proof, lines_of_proofs}

lines_append : (a b : List Proof) → lines_of_proofs (a ++ b) ≡ lines_of_proofs a + lines_of_proofs b
lines_append [] b = omega arith
lines_append (p ∷ a) b = omega (arith, lines_append a b)

lines_more : (ps : List Proof) (i : ℕ) (p : Proof) → i < length ps → p ≡ slice_index_or ps i p → lines_of_proofs (take (i + 1) ps) ≡ lines_of_proofs (take i ps) + lines_of_proof p
lines_more ps i p low is =
    let more = ap lines_of_proofs (take_more ps i p low) ∙ lines_append (take i ps) (slice_index_or ps i p ∷ []) in
    let same = ap lines_of_proof is in
    omega (arith, more, same)

-- the sum so far, where the whole fits
pub so_far : (ps : List Proof) (i : ℕ) (p : Proof) (old here new : ℕ) → i < length ps → p ≡ slice_index_or ps i p
    → (lines_of_proofs (take i ps) < 18446744073709551616 → old ≡ lines_of_proofs (take i ps)) → (lines_of_proof p < 18446744073709551616 → here ≡ lines_of_proof p)
    → new ≡ min (old + here) 18446744073709551615 → lines_of_proofs (take (i + 1) ps) < 18446744073709551616 → new ≡ lines_of_proofs (take (i + 1) ps)
so_far ps i p old here new low is before one sum fits =
    let more = lines_more ps i p low is in
    let first = before (omega (arith, more, fits)) in
    let second = one (omega (arith, more, fits)) in
    omega (arith, more, first, second, sum, fits)

pub all_of : (ps : List Proof) (i : ℕ) (sum : ℕ) → length ps ≤ i → (lines_of_proofs (take i ps) < 18446744073709551616 → sum ≡ lines_of_proofs (take i ps)) → lines_of_proofs ps < 18446744073709551616 → sum ≡ lines_of_proofs ps
all_of ps i sum past h fits =
    let same = ap lines_of_proofs (take_all i ps past) in
    let is = h (omega (arith, same, fits)) in
    omega (arith, same, is)
