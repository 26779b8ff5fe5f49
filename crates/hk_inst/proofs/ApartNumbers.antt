-- No read and no quantifier has two numbers.
use Rattle.std.proofs.Common.{◌≡◌, ℕ, zero, suc, ◌+◌, ◌<◌, Bool, List, [], ◌∷◌, ◌++◌, length, take, ℤ, Option, Some, refl, sym, ◌∙◌, ap, subst, arith}
use Rattle.std.specs.Prelude.{slice_get, is_some}
use Rattle.std.specs.List.{AllPairs, Contains, flat_map}
use Rattle.std.proofs.lemmas.Option.{same_Some, slice_get_within}
use Rattle.std.proofs.lemmas.List.{append_assoc}
use Rattle.hk_term.specs.declared.node.Node.{Node}
use Rattle.hk_cnf.specs.Circuit.{Circuit}
use Rattle.hk_blast.specs.Blasted.{Words, HasWord, AreBlasted}
use Rattle.hk_blast.proofs.WordLists.{word_of, entry_of, has_more}
use Rattle.hk_inst.specs.Inputs.{IsNumbering}
use Rattle.hk_inst.specs.Inputs.IsNumbering.{none, step}
use Rattle.hk_inst.proofs.Tuples.{clash}
use Rattle.hk_inst.proofs.Members.{has-behind, numbered-are, member-at}
use Rattle.hk_inst.proofs.Counting.{AreApart, apart-append}

-- the elements of a list at their places
pub apart-place : {X : Type 0} (xs : List X) → AreApart xs → (x : X) (k j : ℕ) → slice_get xs k ≡ Some x → slice_get xs j ≡ Some x → k ≡ j
apart-place [] h x k j e f = let l = slice_get_within [] k x e in absurd (omega (arith, l))
apart-place (y ∷ xs) h x zero zero e f = refl
apart-place (y ∷ xs) h x zero (suc j) e f = absurd (h.0 x (member-at xs j x f) (same_Some y x e))
apart-place (y ∷ xs) h x (suc k) zero e f = absurd (h.0 x (member-at xs k x e) (same_Some y x f))
apart-place (y ∷ xs) h x (suc k) (suc j) e f = ap suc (apart-place xs h.1 x k j e f)

pub apart-rising : (xs : List ℕ) → AllPairs (λ t u. t < u) xs → AreApart xs
apart-rising [] h = tt
apart-rising (x ∷ xs) h = (λ y c e. later y c e, apart-rising xs (λ i j d a b. h (suc i) (suc j) d (omega (arith, a)) (omega (arith, b))))
  where
    later : (y : ℕ) → Contains xs y → x ≡ y → ⊥
    later y (k, l, e) same = let less : x < y = subst (λ z. x < z) e (h 0 (suc k) y (omega arith) (omega (arith, l))) in omega (arith, less, same)

-- no term has two entries
entries-once : (nodes : List Node) (c : Circuit) (xs ys : Words) → AreBlasted nodes c (xs ++ ys) → (t : ℕ) → HasWord xs t → HasWord ys t → ⊥
entries-once nodes c xs ys blasted t h g =
    let w = word_of t ys g in
    let e = entry_of t ys w.0 w.1 in
    let row = blasted (length xs + e.0) (t, w.0) (behind xs ys e.0 (t, w.0) e.1) in
    clash (sym (subst (λ l. HasWord l t) (sym (front xs ys e.0)) (has_more t xs (take e.0 ys) h)) ∙ ap is_some row.first)
  where
    behind : (us vs : Words) (i : ℕ) (e : ℕ × List ℤ) → slice_get vs i ≡ Some e → slice_get (us ++ vs) (length us + i) ≡ Some e
    behind [] vs i e at = subst (λ n. slice_get vs n ≡ Some e) {x = i} {y = 0 + i} (omega arith) at
    behind (a ∷ us) vs i e at = subst (λ n. slice_get (a ∷ (us ++ vs)) n ≡ Some e) {x = suc (length us + i)} {y = suc (length us) + i} (omega arith) (behind us vs i e at)

    front : (us vs : Words) (i : ℕ) → take (length us + i) (us ++ vs) ≡ us ++ take i vs
    front [] vs i = ap (λ n. take n vs) {x = 0 + i} {y = i} (omega arith)
    front (a ∷ us) vs i = ap (λ n. take n (a ∷ (us ++ vs))) {x = suc (length us) + i} {y = suc (length us + i)} (omega arith) ∙ ap (λ l. a ∷ l) (front us vs i)

pub numbers-apart : (nodes : List Node) (c : Circuit) (kind : Option Node → Bool) (before : Words) {steps : List Words} {terms : List ℕ} → AreBlasted nodes c (before ++ flat_map (λ s. s) steps) → IsNumbering nodes kind steps terms → AreApart terms
numbers-apart nodes c kind before blasted none = tt
numbers-apart nodes c kind before blasted (step {entries = entries} {steps = steps} {first = first} {terms = terms} now later) =
    let whole = subst (AreBlasted nodes c) (sym (append_assoc before entries (flat_map (λ s. s) steps))) blasted in
    apart-append first terms (apart-rising first now.rising) (numbers-apart nodes c kind (before ++ entries) whole later)
    (λ t a b. entries-once nodes c (before ++ entries) (flat_map (λ s. s) steps) whole t (has-behind before entries t (now.are t a).0) (numbered-are nodes kind later t b))
