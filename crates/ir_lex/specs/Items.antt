-- What the items of a text spell, in the order of the productions (LLVM Language Reference, "High Level Structure").
use Rattle.std.specs.Prelude.{◌≡◌, ℕ, ◌+◌, ◌==◌, Bool, true, false, not, ◌&&◌, ◌||◌, ◌⊎◌, ℤ, Option, Some, None, if◌then◌else◌, List, [], ◌∷◌, ◌++◌, drop, codes, bytes_eq, decimal, nat_lt}
use Rattle.ir_ast.specs.Plain.{Ty, opaque, Ini}
use Rattle.ir_ast.specs.Program.{Act}
use Rattle.ir_lex.specs.Bytes.{begins_with}
use Rattle.ir_lex.specs.Lexeme.{Lexeme}
use Rattle.ir_lex.specs.Marks.{is_mark, is_word, is_word_kind, front_passes}
use Rattle.ir_lex.specs.Cut.{open_after, is_none_open, closes}
use Rattle.ir_lex.specs.Drop.{label_kind, are_digits, is_dropped_item, remaining}
use Rattle.ir_lex.specs.Names.{plain_name}
use Rattle.ir_lex.specs.Tok.{Tok, toks, word, mark, IsLocal, IsGlobal}
use Rattle.ir_lex.specs.Decimal.{count_of, digits_value, are_some_digits}
use Rattle.ir_lex.specs.TypeSpelling.{SpellsType, SpellsResult}
use Rattle.ir_lex.specs.ValueSpelling.{SpellsInit, IsNumber}
use Rattle.ir_lex.specs.Rows.{SpellsInstr}
use Rattle.ir_lex.specs.declared.token.TokenKind.{TokenKind}
use Rattle.ir_lex.specs.declared.token.TokenKind.TheVariants.{Number, Quoted, Metadata}

-- ---- items outside bodies

pub data Top : Type 0 where
  layout_item : List ℕ → Top
  type_item : List ℕ → Ty → Top
  -- name, constant or not, type, initialiser, alignment
  global_item : List ℕ → Bool → Ty → Ini → Option ℕ → Top
  -- name, result, parameters
  define_item : List ℕ → Ty → List (Ty × List ℕ) → Top
  declare_item : List ℕ → Ty → Top

-- a string, and the bytes that it stands for
abbrev pub IsText : List ℕ → List Tok → Type 0
IsText bytes ts = (text : List ℕ) × (begins_with 34 text ≡ true) × (plain_name text ≡ bytes) × (ts ≡ (Quoted, text) ∷ [])

-- `[, align n]`: an absent one and `align 0` are none
abbrev pub IsAligned : Option ℕ → List Tok → Type 0
IsAligned None ts =
    (ts ≡ []) ⊎ ((text : List ℕ) × (count_of text ≡ Some 0) × (ts ≡ mark 44 ∷ word (codes "align") ∷ (Number, text) ∷ []))
IsAligned (Some n) ts =
    (text : List ℕ) × (count_of text ≡ Some n) × ((n == 0) ≡ false) × (ts ≡ mark 44 ∷ word (codes "align") ∷ (Number, text) ∷ [])

abbrev pub storage_word : Bool → List ℕ
storage_word true = codes "constant"
storage_word false = codes "global"

-- the number behind a name: a name that is the next number in plain decimal digits uses it up
abbrev pub number_after : ℕ → List ℕ → ℕ
number_after next name = if bytes_eq name (decimal next) then next + 1 else next

-- a parameter's name, where this is the next number: `%NAME`, or none, which takes the number
abbrev pub IsParameterName : ℕ → List ℕ → List Tok → Type 0
IsParameterName next name ts = IsLocal name ts ⊎ ((name ≡ decimal next) × (ts ≡ []))

-- further parameters, each behind a comma
abbrev pub SpellsMoreParameters : ℕ → List (Ty × List ℕ) → List Tok → Type 0
SpellsMoreParameters next [] ts = ts ≡ []
SpellsMoreParameters next (p ∷ others) ts =
    (over : List Tok) × (name : List Tok) × (rest : List Tok)
    × SpellsType p.0 over × IsParameterName next p.1 name × SpellsMoreParameters (number_after next p.1) others rest
    × (ts ≡ mark 44 ∷ (over ++ name ++ rest))

-- the parameters with a comma between them; numbers count from 0
abbrev pub SpellsParameters : List (Ty × List ℕ) → List Tok → Type 0
SpellsParameters [] ts = ts ≡ []
SpellsParameters (p ∷ others) ts =
    (over : List Tok) × (name : List Tok) × (rest : List Tok)
    × SpellsType p.0 over × IsParameterName 0 p.1 name × SpellsMoreParameters (number_after 0 p.1) others rest
    × (ts ≡ over ++ name ++ rest)

-- the number behind all parameters, which names a first block without a label
abbrev pub number_behind : ℕ → List (Ty × List ℕ) → ℕ
number_behind next [] = next
number_behind next (p ∷ others) = number_behind (number_after next p.1) others

-- brackets that are each closed by their own kind, behind those that are open
abbrev pub bracket_of : Tok → Lexeme
bracket_of t = record { kind = t.0; line = 0; text = t.1 }

abbrev pub are_balanced : List ℕ → List Tok → Bool
are_balanced open_marks [] = is_none_open open_marks
are_balanced open_marks (t ∷ ts) = closes open_marks (bracket_of t) && are_balanced (open_after open_marks (bracket_of t)) ts

abbrev pub SpellsTop : Top → List Tok → Type 0
-- target datalayout = STRING
SpellsTop (layout_item bytes) ts =
    (text : List Tok) × IsText bytes text × (ts ≡ word (codes "target") ∷ word (codes "datalayout") ∷ mark 61 ∷ text)
-- %NAME = type T, %NAME = type opaque
SpellsTop (type_item name t) ts =
    (local : List Tok) × (over : List Tok) × IsLocal name local × (SpellsType t over ⊎ ((t ≡ opaque) × (over ≡ word (codes "opaque") ∷ [])))
    × (ts ≡ local ++ mark 61 ∷ word (codes "type") ∷ over)
-- @NAME = global T INIT [, align n], the same with constant
SpellsTop (global_item name constant t init align) ts =
    (global : List Tok) × (over : List Tok) × (value : List Tok) × (aligned : List Tok)
    × IsGlobal name global × SpellsType t over × SpellsInit init value × IsAligned align aligned
    × (ts ≡ global ++ mark 61 ∷ word (storage_word constant) ∷ (over ++ value ++ aligned))
-- define R @NAME ( T [%NAME] , .. ) {
SpellsTop (define_item name result parameters) ts =
    (over : List Tok) × (global : List Tok) × (inner : List Tok)
    × SpellsResult result over × IsGlobal name global × SpellsParameters parameters inner
    × (ts ≡ word (codes "define") ∷ (over ++ global ++ mark 40 ∷ (inner ++ mark 41 ∷ mark 123 ∷ [])))
-- declare R @NAME ( .. )
SpellsTop (declare_item name result) ts =
    (over : List Tok) × (global : List Tok) × (inner : List Tok)
    × SpellsResult result over × IsGlobal name global × (are_balanced [] inner ≡ true)
    × (ts ≡ word (codes "declare") ∷ (over ++ global ++ mark 40 ∷ (inner ++ mark 41 ∷ [])))

-- ---- items of bodies

pub data Inner : Type 0 where
  label_item : List ℕ → Inner
  instr_item : Option (List ℕ) → Act → Inner
  close_item : Inner

abbrev pub SpellsInner : Inner → List Tok → Type 0
-- NAME : with a word, digits or a string
SpellsInner (label_item name) ts =
    (kind : TokenKind) × (text : List ℕ) × (label_kind kind text ≡ true) × (plain_name text ≡ name) × (ts ≡ (kind, text) ∷ mark 58 ∷ [])
SpellsInner (instr_item result act) ts = SpellsInstr result act ts
-- }
SpellsInner close_item ts = ts ≡ mark 125 ∷ []

-- an item is read by what remains of it
abbrev pub ReadsInner : Inner → List Lexeme → Type 0
ReadsInner inner ts = (is_dropped_item ts ≡ false) × SpellsInner inner (toks (remaining ts))

abbrev pub ReadsTop : Top → List Lexeme → Type 0
ReadsTop top ts = (is_dropped_item ts ≡ false) × SpellsTop top (toks (remaining ts))

-- ---- ranges, which stand in items that are otherwise dropped

-- further numbers of a range, each behind a comma
abbrev pub SpellsMoreNumbers : List (Ty × ℤ) → List Tok → Type 0
SpellsMoreNumbers [] ts = ts ≡ []
SpellsMoreNumbers (n ∷ others) ts =
    (over : List Tok) × (at : List Tok) × (rest : List Tok) × SpellsType n.0 over × IsNumber n.1 at × SpellsMoreNumbers others rest
    × (ts ≡ mark 44 ∷ (over ++ at ++ rest))

-- !N = !{ T n , .. } with one pair or more
abbrev pub SpellsRangeItem : List ℕ → List (Ty × ℤ) → List Tok → Type 0
SpellsRangeItem name [] ts = ⊥
SpellsRangeItem name (n ∷ others) ts =
    (text : List ℕ) × (over : List Tok) × (at : List Tok) × (rest : List Tok)
    × (are_digits (drop 1 text) ≡ true) × (drop 1 text ≡ name) × SpellsType n.0 over × IsNumber n.1 at × SpellsMoreNumbers others rest
    × (ts ≡ (Metadata, text) ∷ mark 61 ∷ mark 33 ∷ mark 123 ∷ (over ++ at ++ rest ++ mark 125 ∷ []))

-- ---- what is left out

abbrev pub is_left_out_word : Lexeme → Bool
is_left_out_word t =
    is_word (codes "undef") t || is_word (codes "volatile") t || is_word (codes "atomic") t || is_word (codes "asm") t
    || is_word (codes "thread_local") t || is_word (codes "addrspace") t || is_word (codes "external") t || is_word (codes "alias") t
    || is_word (codes "ifunc") t || is_word (codes "comdat") t || is_word (codes "nusw") t

abbrev pub is_left_out_type : Lexeme → Bool
is_left_out_type t =
    is_word (codes "half") t || is_word (codes "float") t || is_word (codes "double") t || is_word (codes "fp128") t || is_word (codes "x86_fp80") t

abbrev pub is_left_out_operation : Lexeme → Bool
is_left_out_operation t =
    is_word (codes "ptrtoint") t || is_word (codes "inttoptr") t || is_word (codes "bitcast") t || is_word (codes "addrspacecast") t
    || is_word (codes "insertvalue") t || is_word (codes "invoke") t || is_word (codes "landingpad") t || is_word (codes "resume") t
    || is_word (codes "indirectbr") t || is_word (codes "callbr") t || is_word (codes "va_arg") t || is_word (codes "fence") t
    || is_word (codes "cmpxchg") t || is_word (codes "atomicrmw") t || is_word (codes "extractelement") t
    || is_word (codes "insertelement") t || is_word (codes "shufflevector") t

-- `iN` with N over 64
abbrev pub is_wide : Lexeme → Bool
is_wide t =
    is_word_kind t.kind && begins_with 105 t.text && are_some_digits (drop 1 t.text) && not (begins_with 48 (drop 1 t.text))
    && nat_lt 64 (digits_value (drop 1 t.text))

-- the tokens hold one that this project leaves out
abbrev pub holds_left_out : List Lexeme → Bool
holds_left_out [] = false
holds_left_out (t ∷ ts) =
    is_left_out_word t || is_left_out_type t || is_left_out_operation t || is_wide t || is_mark 42 t
    || (is_mark 60 t && not (front_passes (is_mark 123) ts)) || holds_left_out ts
