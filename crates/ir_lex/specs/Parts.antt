-- The parts that productions are made of, what each stands for, and how it is spelled (LLVM Language Reference, "Instruction Reference").
use Rattle.std.specs.Prelude.{◌≡◌, ℕ, Bool, true, ◌⊎◌, ℤ, Option, Some, None, List, [], ◌∷◌, ◌++◌, drop, codes}
use Rattle.ir_ast.specs.Plain.{Ty, integer, pointer, Val, local, Indices, no_indices, index_and}
use Rattle.ir_ast.specs.declared.instr.Predicate.{Predicate}
use Rattle.ir_ast.specs.declared.instr.Predicate.TheVariants.{Eq, Ne, Ugt, Uge, Ult, Ule, Sgt, Sge, Slt, Sle}
use Rattle.ir_lex.specs.Tok.{Tok, word, mark, IsLocal, IsGlobal, IsLabel}
use Rattle.ir_lex.specs.Decimal.{count_of}
use Rattle.ir_lex.specs.Drop.{are_digits}
use Rattle.ir_lex.specs.TypeSpelling.{SpellsType, SpellsResult}
use Rattle.ir_lex.specs.ValueSpelling.{IsOptional, IsNumber, SpellsOperand, HasIndices}
use Rattle.ir_lex.specs.declared.token.TokenKind.TheVariants.{Number, Metadata}

pub data Part : Type 0 where
  sign : ℕ → Part  -- this mark
  key : List ℕ → Part  -- this word
  may : List ℕ → Part  -- this word or nothing
  width : Part  -- iN
  over : Part  -- T
  returned : Part  -- R
  callee : Part  -- @NAME
  register : Part  -- %NAME as an operand
  predicate : Part  -- eq, ne, ..
  target : Part  -- label %NAME
  part : Part  -- digits
  bit : Part  -- i1 V
  place : Part  -- ptr V
  width_value : Part  -- iN V
  width_pair : Part  -- iN V , V
  typed : Part  -- T V
  typed_pair : Part  -- T V , V
  twice : Part  -- T V , T V of one type
  alignment : Part  -- [, align n]
  access : Part  -- [, align n] [, !range !N]
  arms : Part  -- T [ V , %b ] , ..
  offsets : Part  -- , iN V , ..
  arguments : Part  -- ( T V , .. )
  choices : Part  -- iN V , L [ iN number , L .. ]

-- what a part stands for
abbrev pub Got : Part → Type 0
Got (sign byte) = Unit {0}
Got (key text) = Unit {0}
Got (may text) = Bool
Got width = ℕ
Got over = Ty
Got returned = Ty
Got callee = List ℕ
Got register = Val
Got predicate = Predicate
Got target = List ℕ
Got part = ℕ
Got bit = Val
Got place = Val
Got width_value = ℕ × Val
Got width_pair = ℕ × Val × Val
Got typed = Ty × Val
Got typed_pair = Ty × Val × Val
Got twice = Ty × Val × Val
Got alignment = ℕ
Got access = ℕ × Option (List ℕ)
Got arms = Ty × List (Val × List ℕ)
Got offsets = Indices
Got arguments = List (Ty × Val)
Got choices = ℕ × Val × List ℕ × List (ℤ × List ℕ)

abbrev pub predicate_word : Predicate → List ℕ
predicate_word Eq = codes "eq"
predicate_word Ne = codes "ne"
predicate_word Ugt = codes "ugt"
predicate_word Uge = codes "uge"
predicate_word Ult = codes "ult"
predicate_word Ule = codes "ule"
predicate_word Sgt = codes "sgt"
predicate_word Sge = codes "sge"
predicate_word Slt = codes "slt"
predicate_word Sle = codes "sle"

-- `T V`
abbrev pub SpellsTyped : Ty → Val → List Tok → Type 0
SpellsTyped t v ts = (over : List Tok) × (at : List Tok) × SpellsType t over × SpellsOperand t v at × (ts ≡ over ++ at)

-- `T V , V`
abbrev pub SpellsPair : Ty → Val → Val → List Tok → Type 0
SpellsPair t a b ts = (first : List Tok) × (second : List Tok) × SpellsTyped t a first × SpellsOperand t b second × (ts ≡ first ++ mark 44 ∷ second)

-- `[, align n]`: an absent one and `align 0` are 0
abbrev pub SpellsAlign : ℕ → List Tok → Type 0
SpellsAlign n ts =
    ((n ≡ 0) × (ts ≡ []))
    ⊎ ((text : List ℕ) × (count_of text ≡ Some n) × (ts ≡ mark 44 ∷ word (codes "align") ∷ (Number, text) ∷ []))

-- `[, !range !N]`
abbrev pub SpellsRange : Option (List ℕ) → List Tok → Type 0
SpellsRange None ts = ts ≡ []
SpellsRange (Some name) ts =
    (text : List ℕ) × (are_digits (drop 1 text) ≡ true) × (drop 1 text ≡ name) × (ts ≡ mark 44 ∷ (Metadata, codes "!range") ∷ (Metadata, text) ∷ [])

-- `[ V , %b ]`
abbrev pub SpellsArm : Ty → Val → List ℕ → List Tok → Type 0
SpellsArm t v block ts =
    (value : List Tok) × (from : List Tok) × SpellsOperand t v value × IsLocal block from × (ts ≡ mark 91 ∷ (value ++ mark 44 ∷ (from ++ mark 93 ∷ [])))

-- further arms, each behind a comma
abbrev pub SpellsMoreArms : Ty → List (Val × List ℕ) → List Tok → Type 0
SpellsMoreArms t [] ts = ts ≡ []
SpellsMoreArms t (arm ∷ others) ts = (first : List Tok) × (rest : List Tok) × SpellsArm t arm.0 arm.1 first × SpellsMoreArms t others rest × (ts ≡ mark 44 ∷ (first ++ rest))

-- one arm or more
abbrev pub SpellsArms : Ty → List (Val × List ℕ) → List Tok → Type 0
SpellsArms t [] ts = ⊥
SpellsArms t (arm ∷ others) ts = (first : List Tok) × (rest : List Tok) × SpellsArm t arm.0 arm.1 first × SpellsMoreArms t others rest × (ts ≡ first ++ rest)

-- `, iN V , ..`
abbrev pub SpellsOffsets : Indices → List Tok → Type 0
SpellsOffsets no_indices ts = ts ≡ []
SpellsOffsets (index_and (integer w) v others) ts = (first : List Tok) × (rest : List Tok) × SpellsTyped (integer w) v first × SpellsOffsets others rest × (ts ≡ mark 44 ∷ (first ++ rest))
SpellsOffsets (index_and _ v others) ts = ⊥

-- further arguments, each behind a comma
abbrev pub SpellsMoreArguments : List (Ty × Val) → List Tok → Type 0
SpellsMoreArguments [] ts = ts ≡ []
SpellsMoreArguments (a ∷ others) ts = (first : List Tok) × (rest : List Tok) × SpellsTyped a.0 a.1 first × SpellsMoreArguments others rest × (ts ≡ mark 44 ∷ (first ++ rest))

-- the arguments with a comma between them
abbrev pub SpellsArguments : List (Ty × Val) → List Tok → Type 0
SpellsArguments [] ts = ts ≡ []
SpellsArguments (a ∷ others) ts = (first : List Tok) × (rest : List Tok) × SpellsTyped a.0 a.1 first × SpellsMoreArguments others rest × (ts ≡ first ++ rest)

-- `iN number , L ..`
abbrev pub SpellsCases : ℕ → List (ℤ × List ℕ) → List Tok → Type 0
SpellsCases w [] ts = ts ≡ []
SpellsCases w (choice ∷ others) ts =
    (over : List Tok) × (at : List Tok) × (to : List Tok) × (rest : List Tok)
    × SpellsType (integer w) over × IsNumber choice.0 at × IsLabel choice.1 to × SpellsCases w others rest
    × (ts ≡ over ++ at ++ mark 44 ∷ (to ++ rest))

-- which tokens spell a part that stands for this
abbrev pub SpellsPart : (p : Part) → Got p → List Tok → Type 0
SpellsPart (sign byte) got ts = ts ≡ mark byte ∷ []
SpellsPart (key text) got ts = ts ≡ word text ∷ []
SpellsPart (may text) got ts = IsOptional text got ts
SpellsPart width got ts = SpellsType (integer got) ts
SpellsPart over got ts = SpellsType got ts
SpellsPart returned got ts = SpellsResult got ts
SpellsPart callee got ts = IsGlobal got ts
SpellsPart register got ts = (name : List ℕ) × (got ≡ local name) × IsLocal name ts
SpellsPart predicate got ts = ts ≡ word (predicate_word got) ∷ []
SpellsPart target got ts = IsLabel got ts
SpellsPart part got ts = (text : List ℕ) × (count_of text ≡ Some got) × (ts ≡ (Number, text) ∷ [])
SpellsPart bit got ts = SpellsTyped (integer 1) got ts
SpellsPart place got ts = SpellsTyped pointer got ts
SpellsPart width_value got ts = SpellsTyped (integer got.0) got.1 ts
SpellsPart width_pair got ts = SpellsPair (integer got.0) got.1 got.2 ts
SpellsPart typed got ts = SpellsTyped got.0 got.1 ts
SpellsPart typed_pair got ts = SpellsPair got.0 got.1 got.2 ts
SpellsPart twice got ts = (first : List Tok) × (second : List Tok) × SpellsTyped got.0 got.1 first × SpellsTyped got.0 got.2 second × (ts ≡ first ++ mark 44 ∷ second)
SpellsPart alignment got ts = SpellsAlign got ts
SpellsPart access got ts = (align : List Tok) × (range : List Tok) × SpellsAlign got.0 align × SpellsRange got.1 range × (ts ≡ align ++ range)
SpellsPart arms got ts = (over : List Tok) × (rest : List Tok) × SpellsType got.0 over × SpellsArms got.0 got.1 rest × (ts ≡ over ++ rest)
SpellsPart offsets got ts = SpellsOffsets got ts × HasIndices got
SpellsPart arguments got ts = (inner : List Tok) × SpellsArguments got inner × (ts ≡ mark 40 ∷ (inner ++ mark 41 ∷ []))
SpellsPart choices got ts =
    (on : List Tok) × (default : List Tok) × (rest : List Tok) × SpellsTyped (integer got.0) got.1 on × IsLabel got.2 default × SpellsCases got.0 got.3 rest
    × (ts ≡ on ++ mark 44 ∷ (default ++ mark 91 ∷ (rest ++ mark 93 ∷ [])))

-- what the parts of a production stand for, and how they are spelled one behind the other
abbrev pub AllGot : List Part → Type 0
AllGot [] = Unit {0}
AllGot (p ∷ ps) = Got p × AllGot ps

abbrev pub SpellsAll : (ps : List Part) → AllGot ps → List Tok → Type 0
SpellsAll [] got ts = ts ≡ []
SpellsAll (p ∷ ps) got ts = (first : List Tok) × (rest : List Tok) × SpellsPart p got.0 first × SpellsAll ps got.1 rest × (ts ≡ first ++ rest)
