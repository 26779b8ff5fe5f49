-- Readers of one thing behind another, and how what they read is spelled.
use Rattle.std.specs.Prelude.{◌≡◌, ℕ, Option, Some, List, [], ◌∷◌, ◌++◌}
use Rattle.ir_lex.specs.Tok.{Tok, word, mark}
use Rattle.ir_part.specs.Reader.{Reader, ◌>>=◌, IsSound, ended}
use Rattle.ir_part.specs.Fronts.{after_mark, after_word}

-- a thing of the first kind, and behind it one of the second
abbrev pub both : {A B : Type 0} → Reader A → Reader B → Reader (A × B)
both p q ts = p ts >>= (λ a. q a.1 >>= (λ b. Some ((a.0, b.0), b.1)))

abbrev pub Both : {A B : Type 0} → (A → List Tok → Type 0) → (B → List Tok → Type 0) → A × B → List Tok → Type 0
Both S T x ts = (first : List Tok) × (rest : List Tok) × S x.0 first × T x.1 rest × (ts ≡ first ++ rest)

-- this mark
abbrev pub sign : ℕ → Reader (Unit {0})
sign byte ts = after_mark byte ts >>= (λ rest. Some (tt, rest))

abbrev pub IsSign : ℕ → Unit {0} → List Tok → Type 0
IsSign byte x ts = ts ≡ mark byte ∷ []

-- this word
abbrev pub key : List ℕ → Reader (Unit {0})
key text ts = after_word text ts >>= (λ rest. Some (tt, rest))

abbrev pub IsKey : List ℕ → Unit {0} → List Tok → Type 0
IsKey text x ts = ts ≡ word text ∷ []

-- the thing, where no token stands behind it
abbrev pub whole : {A : Type 0} → Reader A → List Tok → Option A
whole p ts = p ts >>= (λ x. ended x.1 >>= (λ none. Some x.0))

-- what is read is spelled, and what is spelled is read where nothing stands behind it
pub record IsWhole {A : Type 0} (S : A → List Tok → Type 0) (read : Reader A) : Type 0 where
  pub sound : IsSound S read
  pub complete : (x : A) (front : List Tok) → S x front → read front ≡ Some (x, [])
