-- How types are spelled (LLVM Language Reference, "Type System").
use Rattle.std.specs.Prelude.{◌≡◌, ℕ, suc, ◌≤◌, max, Some, List, [], ◌∷◌, ◌++◌, codes}
use Rattle.ir_ast.specs.Plain.{Ty, Tys, nothing, integer, pointer, array, structure, packed, named, opaque, no_types, type_and}
use Rattle.ir_lex.specs.Tok.{Tok, word, mark, IsLocal}
use Rattle.ir_lex.specs.Decimal.{width_of, count_of}
use Rattle.ir_lex.specs.declared.token.TokenKind.TheVariants.{Number}

-- `iN`, `ptr`, `[ n x T ]`, `{ T , .. }`, `<{ T , .. }>`, `%NAME`
abbrev mutual
  pub Spells : Ty → List Tok → Type 0
  Spells nothing ts = ⊥
  Spells (integer w) ts = (text : List ℕ) × (width_of text ≡ Some w) × (ts ≡ word text ∷ [])
  Spells pointer ts = ts ≡ word (codes "ptr") ∷ []
  Spells (array n t) ts = (text : List ℕ) × (inner : List Tok) × (count_of text ≡ Some n) × Spells t inner × (ts ≡ mark 91 ∷ (Number, text) ∷ word (codes "x") ∷ (inner ++ mark 93 ∷ []))
  Spells (structure parts) ts = (inner : List Tok) × SpellsParts parts inner × (ts ≡ mark 123 ∷ (inner ++ mark 125 ∷ []))
  Spells (packed parts) ts = (inner : List Tok) × SpellsParts parts inner × (ts ≡ mark 60 ∷ mark 123 ∷ (inner ++ mark 125 ∷ mark 62 ∷ []))
  Spells (named name) ts = IsLocal name ts
  Spells opaque ts = ⊥

  -- the parts with a comma between them
  pub SpellsParts : Tys → List Tok → Type 0
  SpellsParts no_types ts = ts ≡ []
  SpellsParts (type_and t others) ts = (first : List Tok) × (rest : List Tok) × Spells t first × SpellsMore others rest × (ts ≡ first ++ rest)

  -- further parts, each behind a comma
  pub SpellsMore : Tys → List Tok → Type 0
  SpellsMore no_types ts = ts ≡ []
  SpellsMore (type_and t others) ts = (first : List Tok) × (rest : List Tok) × Spells t first × SpellsMore others rest × (ts ≡ mark 44 ∷ (first ++ rest))

-- a named type and one without parts have the depth 1, any other one more than its deepest part
abbrev mutual
  pub depth : Ty → ℕ
  depth (array n t) = suc (depth t)
  depth (structure parts) = suc (deepest parts)
  depth (packed parts) = suc (deepest parts)
  depth _ = 1

  pub deepest : Tys → ℕ
  deepest no_types = 0
  deepest (type_and t others) = max (depth t) (deepest others)

-- a type of a production
abbrev pub SpellsType : Ty → List Tok → Type 0
SpellsType t ts = Spells t ts × (depth t ≤ 100)

-- a type, or `void`
abbrev pub SpellsResult : Ty → List Tok → Type 0
SpellsResult nothing ts = ts ≡ word (codes "void") ∷ []
SpellsResult t ts = SpellsType t ts
