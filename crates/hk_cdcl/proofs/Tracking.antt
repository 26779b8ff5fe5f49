-- The marked places before the conflict's level, as marks come.
use Rattle.std.proofs.Common.{◌≡◌, ◌⊎◌, ℕ, ◌<◌, ◌≤◌, Bool, true, false, List, [], ◌∷◌, ◌++◌, length, set, get_or, ℤ, sym, ◌∙◌, ap, subst, inl, inr, arith}
use Rattle.std.proofs.lemmas.Bool.{cases_lt, false≢true}
use Rattle.std.proofs.lemmas.List.{set-get_or, get_or_past}
use Rattle.std.proofs.lemmas.List.Elements.{All-push, Contains-append_left, Contains-push}
use Rattle.std.specs.List.{All, Contains}
use Rattle.hk_cnf.specs.Literal.{place_of}
use Rattle.hk_cdcl.specs.Path.{lit_at}
use Rattle.hk_cdcl.specs.Analysis.{IsTracked}
use Rattle.hk_cdcl.proofs.Marking.{set-only}

pub set-marked : (seen : List Bool) (n : ℕ) → get_or seen n false ≡ true → seen ≡ set seen n true
set-marked seen n e = sym (set-get_or seen n false) ∙ ap (set seen n) e

pub unmarked-at : (seen : List Bool) (v : ℕ) → All (λ b. b ≡ false) seen → get_or seen v false ≡ true → ⊥
unmarked-at seen v h e = pick (cases_lt v (length seen))
  where
    pick : (v < length seen) ⊎ (length seen ≤ v) → ⊥
    pick (inl lt) = false≢true (sym (h v false lt) ∙ e)
    pick (inr ge) = false≢true (sym (get_or_past seen v false ge) ∙ e)

pub tracked-none : (lits : List ℤ) (below : ℕ) (seen : List Bool) (lower : List ℕ) → All (λ b. b ≡ false) seen → length lower ≡ 0 → IsTracked lits below seen lower
tracked-none lits below seen lower h e = record { complete = λ n a b s. absurd (unmarked-at seen (place_of (lit_at lits n)) h s); sound = λ k d lt. absurd (omega (arith, lt, e)) }

pub tracked-more : (lits : List ℤ) (below : ℕ) (seen : List Bool) (l : ℤ) (place : ℕ) (lower : List ℕ) → ((n : ℕ) → n < length lits → place_of (lit_at lits n) ≡ place_of l → place ≡ n) → place < below → IsTracked lits below seen lower → IsTracked lits below (set seen (place_of l) true) (lower ++ place ∷ [])
tracked-more lits below seen l place lower at lt h =
    record {
      complete = λ n a b s. pick n b (set-only seen (place_of l) (place_of (lit_at lits n)) s) a;
      sound = All-push (λ n. n < below) lower place h.sound lt;
    }
  where
    pick : (n : ℕ) → n < length lits → (get_or seen (place_of (lit_at lits n)) false ≡ true) ⊎ (place_of l ≡ place_of (lit_at lits n)) → n < below → Contains (lower ++ place ∷ []) n
    pick n b (inl s) a = Contains-append_left lower (place ∷ []) n (h.complete n a b s)
    pick n b (inr e) a = subst (Contains (lower ++ place ∷ [])) (at n b (sym e)) (Contains-push lower place)

pub tracked-later : (lits : List ℤ) (below : ℕ) (seen : List Bool) (l : ℤ) (place : ℕ) (lower : List ℕ) → ((n : ℕ) → n < length lits → place_of (lit_at lits n) ≡ place_of l → place ≡ n) → below ≤ place → IsTracked lits below seen lower → IsTracked lits below (set seen (place_of l) true) lower
tracked-later lits below seen l place lower at le h =
    record {
      complete = λ n a b s. pick n a b (set-only seen (place_of l) (place_of (lit_at lits n)) s);
      sound = h.sound;
    }
  where
    pick : (n : ℕ) → n < below → n < length lits → (get_or seen (place_of (lit_at lits n)) false ≡ true) ⊎ (place_of l ≡ place_of (lit_at lits n)) → Contains lower n
    pick n a b (inl s) = h.complete n a b s
    pick n a b (inr e) = let p : place ≡ n = at n b (sym e) in absurd (omega (arith, a, le, p))
