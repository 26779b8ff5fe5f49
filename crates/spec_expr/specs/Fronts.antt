-- What the code answers, seen as the definitions have it: texts for tokens, plain trees for trees of the code.
use Rattle.std.specs.Prelude.{◌≡◌, ℕ, ◌≤◌, Option, Some, None, Result, Ok, Err, List, [], ◌∷◌, map, if◌then◌else◌, bytes_eq}
use Rattle.spec_lex.specs.Token.{Lexeme, tokens_of}
use Rattle.spec_lex.specs.declared.token.Token.{Token}
use Rattle.spec_expr.specs.Words.{Text, is_name}
use Rattle.spec_expr.specs.Grown.{Grown, built, too_deep}
use Rattle.spec_expr.specs.declared.stop.PartStop.{PartStop}
use Rattle.spec_expr.specs.declared.stop.PartStop.TheVariants.{NotSpelled, Memory}
use Rattle.spec_expr.specs.declared.depth.Bounded.{Bounded}
use Rattle.spec_expr.specs.declared.depth.Bounded.TheVariants.{Within, TooDeep}

abbrev pub texts_of : List Lexeme → List Text
texts_of ls = map (λ t. t.text) ls

-- the words of the tokens
abbrev pub seen : List Token → List Text
seen ts = texts_of (tokens_of ts)

-- why nothing is read: it is not spelled, or memory was refused, which says nothing
abbrev pub Fails : {B : Type 0} → PartStop → Option B → Type 0
Fails NotSpelled read = read ≡ None
Fails Memory read = Unit {0}

-- the call answers what is read, seen through this
abbrev pub Gives : {A B : Type 0} → (A → B) → Result A PartStop → Option B → Type 0
Gives view (Ok a) read = read ≡ Some (view a)
Gives view (Err why) read = Fails why read

-- what is built up to the depth, seen through this
abbrev pub grown : {A B : Type 0} → (A → B) → Bounded A → Grown B
grown view (Within a depth) = built (view a) depth
grown view TooDeep = too_deep

-- what is kept is no deeper than this
abbrev pub IsWithin : {A : Type 0} → ℕ → Bounded A → Type 0
IsWithin most (Within a depth) = depth ≤ most
IsWithin most TooDeep = Unit {0}

-- the words behind this one
abbrev pub behind : Text → List Text → Option (List Text)
behind word [] = None
behind word (t ∷ ts) = if bytes_eq t word then Some ts else None

abbrev pub gone_on : {A B : Type 0} → Option A → (A → Option B) → Option B
gone_on None on = None
gone_on (Some a) on = on a

-- the words behind a name
abbrev pub name_behind : List Text → Option (List Text)
name_behind [] = None
name_behind (t ∷ ts) = if is_name t then Some ts else None
