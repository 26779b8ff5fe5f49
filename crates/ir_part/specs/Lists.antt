-- How lists of parts are spelled, over the spelling of one part.
use Rattle.std.specs.Prelude.{◌≡◌, ℕ, List, [], ◌∷◌, ◌++◌}
use Rattle.ir_lex.specs.Tok.{Tok, mark}

-- one behind the other
abbrev pub Row : {A : Type 0} → (A → List Tok → Type 0) → List A → List Tok → Type 0
Row S [] ts = ts ≡ []
Row S (x ∷ xs) ts = (first : List Tok) × (rest : List Tok) × S x first × Row S xs rest × (ts ≡ first ++ rest)

-- behind a comma
abbrev pub Behind : {A : Type 0} → (A → List Tok → Type 0) → A → List Tok → Type 0
Behind S x ts = (inner : List Tok) × S x inner × (ts ≡ mark 44 ∷ inner)

-- one, and further ones
abbrev pub Leading : {A : Type 0} → (A → List Tok → Type 0) → (A → List Tok → Type 0) → List A → List Tok → Type 0
Leading S T [] ts = ⊥
Leading S T (x ∷ xs) ts = (first : List Tok) × (rest : List Tok) × S x first × Row T xs rest × (ts ≡ first ++ rest)

-- with a comma between them
abbrev pub Parted : {A : Type 0} → (A → List Tok → Type 0) → List A → List Tok → Type 0
Parted S [] ts = ts ≡ []
Parted S (x ∷ xs) ts = (first : List Tok) × (rest : List Tok) × S x first × Row (Behind S) xs rest × (ts ≡ first ++ rest)

-- with a comma between them, up to a closing mark
abbrev pub Closed : {A : Type 0} → (A → List Tok → Type 0) → ℕ → List A → List Tok → Type 0
Closed S close xs ts = (inner : List Tok) × Parted S xs inner × (ts ≡ inner ++ mark close ∷ [])
