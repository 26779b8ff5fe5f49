-- What stands behind a part of a state block: no line that would belong to it.
use Rattle.std.proofs.Common.{◌≡◌, ℕ, Bool, true, false, not, cond, eqb, List, [], ◌∷◌, ◌++◌, Option, None, sym, subst}
use Rattle.std.proofs.lemmas.Bool.{not-true}
use Rattle.hk_cnf.specs.Text.{lines_of, with_first}
use Rattle.hk_cert_law.proofs.Lines.{Says, says_first}

-- the first line, if there is one, has no such front
abbrev pub IsNot : (List ℕ → Option (List ℕ)) → List (List ℕ) → Type 0
IsNot front [] = Unit {0}
IsNot front (line ∷ lines) = front line ≡ None

-- a line without it stands first
pub line_is_not : (text : List ℕ) (front : List ℕ → Option (List ℕ)) (rest : List ℕ) → Says text front None → IsNot front (lines_of (text ++ rest))
line_is_not text front rest s = subst (IsNot front) (sym (says_first s rest)) s.answers

-- the text does not begin with a blank
abbrev pub is_outer : List ℕ → Bool
is_outer [] = true
is_outer (b ∷ text) = not (eqb b 32)

-- no line of a state block begins so: the front of each takes nothing from an empty line, nor from one that begins with another byte
pub outer_is_not : (front : List ℕ → Option (List ℕ)) (rest : List ℕ) → front [] ≡ None → ((b : ℕ) (text : List ℕ) → eqb b 32 ≡ false → front (b ∷ text) ≡ None) → is_outer rest ≡ true → IsNot front (lines_of rest)
outer_is_not front [] empty other h = tt
outer_is_not front (b ∷ rest) empty other h = by (eqb b 10) (lines_of rest)
  where
    first : (pieces : List (List ℕ)) → IsNot front (with_first b pieces)
    first [] = other b [] (not-true (eqb b 32) h)
    first (piece ∷ pieces) = other b piece (not-true (eqb b 32) h)

    by : (t : Bool) (lines : List (List ℕ)) → IsNot front (cond t ([] ∷ lines) (with_first b lines))
    by true lines = empty
    by false lines = first lines
