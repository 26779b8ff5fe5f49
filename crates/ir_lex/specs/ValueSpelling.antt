-- How operands and initialisers are spelled (LLVM Language Reference, "Constants").
use Rattle.std.specs.Prelude.{◌≡◌, ℕ, suc, ◌≤◌, max, Bool, true, false, not, ◌||◌, ◌⊎◌, ℤ, pos, Some, List, [], ◌∷◌, ◌++◌, drop, codes}
use Rattle.ir_ast.specs.Plain.{Ty, integer, pointer, Val, local, global, number, null, poison, address, Form, form, Indices, no_indices, index_and, Ini, zero_init, number_init, truth_init, bytes_init, array_init, structure_init, packed_init, pointer_init, Inis, no_inits, init_and}
use Rattle.ir_ast.specs.declared.operand.Flags.{Flags}
use Rattle.ir_lex.specs.Bytes.{begins_with}
use Rattle.ir_lex.specs.Tok.{Tok, word, mark, IsLocal, IsGlobal}
use Rattle.ir_lex.specs.Names.{unescaped, inside_of}
use Rattle.ir_lex.specs.Decimal.{number_of}
use Rattle.ir_lex.specs.TypeSpelling.{SpellsType}
use Rattle.ir_lex.specs.declared.token.TokenKind.TheVariants.{Number, Quoted}

-- the word stands there or not
abbrev pub IsOptional : List ℕ → Bool → List Tok → Type 0
IsOptional text true ts = ts ≡ word text ∷ []
IsOptional text false ts = ts ≡ []

abbrev pub no_flags : Flags
no_flags = record { nuw = false; nsw = false; exact = false; disjoint = false; nneg = false; inbounds = false }

-- the flags of a `getelementptr`
abbrev pub offset_flags : Bool → Bool → Flags
offset_flags inbounds nuw = record no_flags { nuw = nuw; inbounds = inbounds }

-- `nuw` stands behind `inbounds` alone
abbrev pub is_bounded : Bool → Bool → Bool
is_bounded inbounds nuw = inbounds || not nuw

-- `[inbounds [nuw]]`
abbrev pub SpellsBounds : Flags → List Tok → Type 0
SpellsBounds flags ts =
    (inbounds : Bool) × (nuw : Bool) × (first : List Tok) × (second : List Tok)
    × IsOptional (codes "inbounds") inbounds first × IsOptional (codes "nuw") nuw second
    × (is_bounded inbounds nuw ≡ true) × (flags ≡ offset_flags inbounds nuw) × (ts ≡ first ++ second)

abbrev pub IsNumber : ℤ → List Tok → Type 0
IsNumber n ts = (text : List ℕ) × (number_of text ≡ Some n) × (ts ≡ (Number, text) ∷ [])

-- `true` and `false`, at `i1` alone
abbrev pub IsTruth : Ty → ℤ → List Tok → Type 0
IsTruth over n ts = (over ≡ integer 1) × (((n ≡ pos 1) × (ts ≡ word (codes "true") ∷ [])) ⊎ ((n ≡ pos 0) × (ts ≡ word (codes "false") ∷ [])))

-- `, iN number , ..`
abbrev pub SpellsNumbers : Indices → List Tok → Type 0
SpellsNumbers no_indices ts = ts ≡ []
SpellsNumbers (index_and (integer w) (number n) others) ts =
    (over : List Tok) × (at : List Tok) × (rest : List Tok) × SpellsType (integer w) over × IsNumber n at × SpellsNumbers others rest × (ts ≡ mark 44 ∷ (over ++ at ++ rest))
SpellsNumbers (index_and _ _ others) ts = ⊥

abbrev pub HasIndices : Indices → Type 0
HasIndices no_indices = ⊥
HasIndices (index_and t v others) = Unit {0}

-- an operand of a type: `%NAME`, a number, `true`, `false`, `null`, `poison`, `@NAME`, or
-- `getelementptr [inbounds [nuw]] ( T , ptr V , iN number , .. )`
abbrev mutual
  pub SpellsVal : Val → Ty → List Tok → Type 0
  SpellsVal (local name) over ts = IsLocal name ts
  SpellsVal (global name) over ts = IsGlobal name ts
  SpellsVal (number n) over ts = IsNumber n ts ⊎ IsTruth over n ts
  SpellsVal null over ts = ts ≡ word (codes "null") ∷ []
  SpellsVal poison over ts = ts ≡ word (codes "poison") ∷ []
  SpellsVal (address g) over ts = SpellsForm g ts

  pub SpellsForm : Form → List Tok → Type 0
  SpellsForm (form flags t base offsets) ts =
      (bounds : List Tok) × (over : List Tok) × (at : List Tok) × (rest : List Tok) × SpellsBounds flags bounds
      × SpellsType t over × SpellsVal base pointer at × SpellsNumbers offsets rest × HasIndices offsets
      × (ts ≡ word (codes "getelementptr") ∷ (bounds ++ mark 40 ∷ (over ++ mark 44 ∷ word (codes "ptr") ∷ (at ++ rest ++ mark 41 ∷ []))))

-- how many constant `getelementptr` forms stand in one another
abbrev mutual
  pub nesting : Val → ℕ
  nesting (address g) = form_nesting g
  nesting _ = 0

  pub form_nesting : Form → ℕ
  form_nesting (form flags t base _) = suc (nesting base)

-- an operand of a production
abbrev pub SpellsOperand : Ty → Val → List Tok → Type 0
SpellsOperand over v ts = SpellsVal v over ts × (nesting v ≤ 100)

-- `zeroinitializer`, a number, `true`, `false`, `c"..."`, `[ T INIT , .. ]`, `{ T INIT , .. }`, `<{ T INIT , .. }>`, `null` or `@NAME`
abbrev mutual
  pub SpellsIni : Ini → List Tok → Type 0
  SpellsIni zero_init ts = ts ≡ word (codes "zeroinitializer") ∷ []
  SpellsIni (number_init n) ts = IsNumber n ts
  SpellsIni (truth_init true) ts = ts ≡ word (codes "true") ∷ []
  SpellsIni (truth_init false) ts = ts ≡ word (codes "false") ∷ []
  SpellsIni (bytes_init bytes) ts = (text : List ℕ) × (begins_with 99 text ≡ true) × (unescaped (inside_of (drop 1 text)) ≡ bytes) × (ts ≡ (Quoted, text) ∷ [])
  SpellsIni (array_init parts) ts = (inner : List Tok) × SpellsInis parts inner × (ts ≡ mark 91 ∷ (inner ++ mark 93 ∷ []))
  SpellsIni (structure_init parts) ts = (inner : List Tok) × SpellsInis parts inner × (ts ≡ mark 123 ∷ (inner ++ mark 125 ∷ []))
  SpellsIni (packed_init parts) ts = (inner : List Tok) × SpellsInis parts inner × (ts ≡ mark 60 ∷ mark 123 ∷ (inner ++ mark 125 ∷ mark 62 ∷ []))
  SpellsIni pointer_init ts = (ts ≡ word (codes "null") ∷ []) ⊎ ((name : List ℕ) × IsGlobal name ts)

  -- the parts with a comma between them
  pub SpellsInis : Inis → List Tok → Type 0
  SpellsInis no_inits ts = ts ≡ []
  SpellsInis (init_and t i others) ts =
      (over : List Tok) × (first : List Tok) × (rest : List Tok) × SpellsType t over × SpellsIni i first × SpellsMoreInis others rest × (ts ≡ over ++ first ++ rest)

  -- further parts, each behind a comma
  pub SpellsMoreInis : Inis → List Tok → Type 0
  SpellsMoreInis no_inits ts = ts ≡ []
  SpellsMoreInis (init_and t i others) ts =
      (over : List Tok) × (first : List Tok) × (rest : List Tok) × SpellsType t over × SpellsIni i first × SpellsMoreInis others rest × (ts ≡ mark 44 ∷ (over ++ first ++ rest))

-- how many initialisers stand in one another, the innermost counted too
abbrev mutual
  pub init_depth : Ini → ℕ
  init_depth (array_init parts) = suc (deepest_init parts)
  init_depth (structure_init parts) = suc (deepest_init parts)
  init_depth (packed_init parts) = suc (deepest_init parts)
  init_depth _ = 1

  pub deepest_init : Inis → ℕ
  deepest_init no_inits = 0
  deepest_init (init_and t i others) = max (init_depth i) (deepest_init others)

-- an initialiser of a production
abbrev pub SpellsInit : Ini → List Tok → Type 0
SpellsInit i ts = SpellsIni i ts × (init_depth i ≤ 100)
