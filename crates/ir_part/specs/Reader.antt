-- Reading from the front of a list of tokens, and what it is to read exactly what a relation spells.
use Rattle.std.specs.Prelude.{◌≡◌, Option, Some, None, Result, Ok, Err, List, [], ◌∷◌, ◌++◌}
use Rattle.ir_lex.specs.Lexeme.{lexemes}
use Rattle.ir_lex.specs.Tok.{Tok, toks}
use Rattle.ir_lex.specs.declared.token.Token.{Token}
use Rattle.ir_part.specs.declared.stop.PartStop.{PartStop}
use Rattle.ir_part.specs.declared.stop.PartStop.TheVariants.{NotSpelled, Memory}

-- what is read at the front, and the tokens behind it
abbrev pub Reader : Type 0 → Type 0
Reader A = List Tok → Option (A × List Tok)

infixl 10 ◌>>=◌
abbrev pub ◌>>=◌ : {A B : Type 0} → Option A → (A → Option B) → Option B
None >>= f = None
Some a >>= f = f a

-- the tokens of the code without their lines
abbrev pub seen : List Token → List Tok
seen ts = toks (lexemes ts)

-- why nothing is read: it is not spelled, or memory was refused, which says nothing
abbrev pub Fails : {B : Type 0} → PartStop → Option B → Type 0
Fails NotSpelled read = read ≡ None
Fails Memory read = Unit {0}

-- the call answers what is read, seen through this
abbrev pub Gives : {A B : Type 0} → (A → B) → Result A PartStop → Option B → Type 0
Gives view (Ok a) read = read ≡ Some (view a)
Gives view (Err why) read = Fails why read

-- nothing is left
abbrev pub ended : List Tok → Option (Unit {0})
ended [] = Some tt
ended (t ∷ ts) = None

-- the tokens that spell the thing, and those behind them
pub record Takes {A : Type 0} (S : A → List Tok → Type 0) (ts : List Tok) (x : A) (rest : List Tok) : Type 0 where
  pub front : List Tok
  pub spelled : S x front
  pub parts : ts ≡ front ++ rest

-- what is read is spelled
abbrev pub IsSound : {A : Type 0} → (A → List Tok → Type 0) → Reader A → Type 0
IsSound {A = A} S read = (ts : List Tok) (x : A) (rest : List Tok) → read ts ≡ Some (x, rest) → Takes S ts x rest

-- what is spelled is read, whatever stands behind it
abbrev pub IsComplete : {A : Type 0} → (A → List Tok → Type 0) → Reader A → Type 0
IsComplete {A = A} S read = (x : A) (front rest : List Tok) → S x front → read (front ++ rest) ≡ Some (x, rest)
