-- The productions outside of bodies.
use Rattle.std.specs.Prelude.{ℕ, ◌==◌, Bool, true, false, ◌&&◌, if◌then◌else◌, ℤ, Option, Some, None, List, [], ◌∷◌, drop, codes}
use Rattle.ir_ast.specs.Plain.{Ty, opaque}
use Rattle.ir_lex.specs.Bytes.{begins_with}
use Rattle.ir_lex.specs.Cut.{open_after, is_none_open, closes}
use Rattle.ir_lex.specs.Drop.{are_digits}
use Rattle.ir_lex.specs.Names.{plain_name}
use Rattle.ir_lex.specs.Tok.{Tok}
use Rattle.ir_lex.specs.Items.{Top, layout_item, type_item, global_item, define_item, declare_item, bracket_of}
use Rattle.ir_lex.specs.declared.token.TokenKind.{TokenKind}
use Rattle.ir_lex.specs.declared.token.TokenKind.TheVariants.{Word, Quoted, Local, Global, Metadata}
use Rattle.ir_part.specs.Reader.{Reader, ◌>>=◌}
use Rattle.ir_part.specs.Fronts.{is_this_mark, is_this_word, after_word, local_at, global_at}
use Rattle.ir_part.specs.Many.{separated, is_ended}
use Rattle.ir_part.specs.Numbers.{number_at, align_at}
use Rattle.ir_part.specs.Types.{type_at, result_at}
use Rattle.ir_top.specs.Combine.{both, sign, key, whole}
use Rattle.ir_top.specs.Inits.{init_at}
use Rattle.ir_top.specs.Parameters.{parameters_at}

-- ---- parts

abbrev pub text_of : List ℕ → Option (List ℕ)
text_of text = if begins_with 34 text then Some (plain_name text) else None

abbrev pub text_front : TokenKind → List ℕ → Reader (List ℕ)
text_front Quoted text ts = text_of text >>= (λ bytes. Some (bytes, ts))
text_front _ text ts = None

-- a string
abbrev pub text_at : Reader (List ℕ)
text_at [] = None
text_at (t ∷ ts) = text_front t.0 t.1 ts

abbrev pub opaque_at : Option (Ty × List Tok) → Reader Ty
opaque_at (Some read) ts = Some read
opaque_at None ts = after_word (codes "opaque") ts >>= (λ rest. Some (opaque, rest))

-- a type, or `opaque`
abbrev pub meaning_at : Reader Ty
meaning_at ts = opaque_at (type_at ts) ts

abbrev pub storage_by : Option (List Tok) → Reader Bool
storage_by (Some rest) ts = Some (true, rest)
storage_by None ts = after_word (codes "global") ts >>= (λ rest. Some (false, rest))

-- `constant` or `global`
abbrev pub storage_at : Reader Bool
storage_at ts = storage_by (after_word (codes "constant") ts) ts

-- an alignment of 0 is none
abbrev pub aligned : ℕ → Option ℕ
aligned n = if n == 0 then None else Some n

-- balanced tokens up to the last, which is `)`
abbrev pub is_list : List ℕ → List Tok → Bool
is_list open_marks [] = false
is_list open_marks (t ∷ ts) = if is_ended ts then is_none_open open_marks && is_this_mark 41 t else closes open_marks (bracket_of t) && is_list (open_after open_marks (bracket_of t)) ts

abbrev pub list_at : Reader (Unit {0})
list_at ts = if is_list [] ts then Some (tt, []) else None

-- ---- rows

-- target datalayout = STRING
abbrev pub layout_row : List Tok → Option Top
layout_row ts = whole (both (key (codes "target")) (both (key (codes "datalayout")) (both (sign 61) text_at))) ts >>= (λ x. Some (layout_item x.1.1.1))

-- %NAME = type T, %NAME = type opaque
abbrev pub type_row : List Tok → Option Top
type_row ts = whole (both local_at (both (sign 61) (both (key (codes "type")) meaning_at))) ts >>= (λ x. Some (type_item x.0 x.1.1.1))

-- @NAME = global T INIT [, align n], the same with constant
abbrev pub global_row : List Tok → Option Top
global_row ts =
    whole (both global_at (both (sign 61) (both storage_at (both type_at (both init_at align_at))))) ts
    >>= (λ x. Some (global_item x.0 x.1.1.0 x.1.1.1.0 x.1.1.1.1.0 (aligned x.1.1.1.1.1)))

-- define R @NAME ( T [%NAME] , .. ) {
abbrev pub define_row : List Tok → Option Top
define_row ts =
    whole (both (key (codes "define")) (both result_at (both global_at (both (sign 40) (both parameters_at (both (sign 41) (sign 123))))))) ts
    >>= (λ x. Some (define_item x.1.1.0 x.1.0 x.1.1.1.1.0))

-- declare R @NAME ( .. )
abbrev pub declare_row : List Tok → Option Top
declare_row ts =
    whole (both (key (codes "declare")) (both result_at (both global_at (both (sign 40) list_at)))) ts
    >>= (λ x. Some (declare_item x.1.1.0 x.1.0))

abbrev pub begins_with_word : List ℕ → List Tok → Bool
begins_with_word text [] = false
begins_with_word text (t ∷ ts) = is_this_word text t

abbrev pub word_row : List Tok → Option Top
word_row ts =
    if begins_with_word (codes "define") ts then define_row ts
    else (if begins_with_word (codes "declare") ts then declare_row ts
    else layout_row ts)

abbrev pub row_by : TokenKind → List Tok → Option Top
row_by Word ts = word_row ts
row_by Local ts = type_row ts
row_by Global ts = global_row ts
row_by _ ts = None

-- an item outside of bodies
unfoldable pub top_at : List Tok → Option Top
top_at [] = None
top_at (t ∷ ts) = row_by t.0 (t ∷ ts)

-- ---- ranges

abbrev pub number_name : List ℕ → Option (List ℕ)
number_name text = if are_digits text then Some text else None

abbrev pub number_front : TokenKind → List ℕ → Reader (List ℕ)
number_front Metadata text ts = number_name (drop 1 text) >>= (λ name. Some (name, ts))
number_front _ text ts = None

-- `!N`
abbrev pub metadata_at : Reader (List ℕ)
metadata_at [] = None
metadata_at (t ∷ ts) = number_front t.0 t.1 ts

-- `T n`
abbrev pub typed_number_at : Reader (Ty × ℤ)
typed_number_at = both type_at number_at

abbrev pub some_numbers : List ℕ → List (Ty × ℤ) → Option (List ℕ × List (Ty × ℤ))
some_numbers name [] = None
some_numbers name (n ∷ others) = Some (name, n ∷ others)

-- !N = !{ T n , .. } with one pair or more
unfoldable pub range_at : List Tok → Option (List ℕ × List (Ty × ℤ))
range_at ts = whole (both metadata_at (both (sign 61) (both (sign 33) (both (sign 123) (separated typed_number_at 125))))) ts >>= (λ x. some_numbers x.0 x.1.1.1.1)
