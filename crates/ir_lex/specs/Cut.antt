-- The cut of a kernel text into items: an item is one line with tokens, or the lines up to the one that closes its brackets. A
-- `define` item goes on to the line of the `{` that opens its body, and ends with that line.
use Rattle.std.specs.Prelude.{ℕ, zero, suc, ◌+◌, ◌-◌, Bool, true, false, not, ◌&&◌, ◌||◌, ◌==◌, if◌then◌else◌, Option, Some, None, List, [], ◌∷◌, map, take, codes}
use Rattle.ir_lex.specs.Lexeme.{Lexeme, lexemes}
use Rattle.ir_lex.specs.Marks.{is_word, is_mark}
use Rattle.ir_lex.specs.declared.cut.Extent.{Extent}
use Rattle.ir_lex.specs.declared.cut.Extent.TheVariants.{Plain, Head, Body}
use Rattle.ir_lex.specs.declared.cut.Scan.{Scan}
use Rattle.ir_lex.specs.declared.cut.Stretch.{Stretch}
use Rattle.ir_lex.specs.declared.cut.Item.{Item}

-- an item as its reader sees it: its first line, its tokens, and whether its brackets are closed
pub record Cut : Type 0 where
  pub line : ℕ
  pub lexemes : List Lexeme
  pub closed : Bool

abbrev pub cut_of : Item → Cut
cut_of item = record { line = item.line; lexemes = lexemes item.tokens.now; closed = item.closed }

abbrev pub cuts_of : List Item → List Cut
cuts_of items = map cut_of items

-- the mark that closes the bracket which a token opens
abbrev pub closer : Lexeme → Option ℕ
closer t = if is_mark 40 t then Some 41 else (if is_mark 91 t then Some 93 else (if is_mark 123 t then Some 125 else None))

abbrev pub opened : Option ℕ → List ℕ → Lexeme → List ℕ
opened (Some mark) open_marks t = mark ∷ open_marks
opened None [] t = []
opened None (mark ∷ outer) t = if is_mark mark t then outer else mark ∷ outer

-- the marks that close what is open behind a token, innermost first: a bracket is closed by its own kind alone, and a closing mark
-- that does not fit the innermost bracket closes nothing
abbrev pub open_after : List ℕ → Lexeme → List ℕ
open_after open_marks t = opened (closer t) open_marks t

abbrev pub is_none_open : List ℕ → Bool
is_none_open [] = true
is_none_open (mark ∷ outer) = false

abbrev pub is_closing : Lexeme → Bool
is_closing t = is_mark 41 t || is_mark 93 t || is_mark 125 t

-- a closing mark closes the innermost open bracket
abbrev pub closes : List ℕ → Lexeme → Bool
closes [] t = not (is_closing t)
closes (innermost ∷ outer) t = not (is_closing t) || is_mark innermost t

-- the words that are dropped with the parentheses that follow them
abbrev pub takes_parentheses : Lexeme → Bool
takes_parentheses t = is_word (codes "dereferenceable") t || is_word (codes "dereferenceable_or_null") t || is_word (codes "memory") t || is_word (codes "captures") t || is_word (codes "initializes") t || is_word (codes "range") t

-- a `define` head behind a token: its parameter list is the first group outside brackets that belongs to no dropped word, and the
-- first `{` outside brackets behind that list opens the body
abbrev pub head_after : Bool → Bool → List ℕ → Lexeme → Extent
head_after listed after_word open_marks t =
    if listed && is_none_open open_marks && is_mark 123 t then Body
    else Head (listed || (is_none_open open_marks && is_mark 40 t && not after_word)) (takes_parentheses t)

abbrev pub extent_after : Extent → List ℕ → Lexeme → Extent
extent_after Plain open_marks t = Plain
extent_after (Head listed after_word) open_marks t = head_after listed after_word open_marks t
extent_after Body open_marks t = Body

abbrev pub scan_after : Scan → Lexeme → Scan
scan_after scan t = record { extent = extent_after scan.extent scan.brackets t; brackets = open_after scan.brackets t }

-- the item goes on over the end of the line
abbrev pub goes_on : Extent → List ℕ → Bool
goes_on Plain open_marks = not (is_none_open open_marks)
goes_on (Head listed after_word) open_marks = true
goes_on Body open_marks = false

-- a `define` that is no label on its line
abbrev pub begins_define : List Lexeme → Bool
begins_define [] = false
begins_define (t ∷ []) = is_word (codes "define") t
begins_define (t ∷ u ∷ ts) = is_word (codes "define") t && not (is_mark 58 u && u.line == t.line)

abbrev pub scan_at : List Lexeme → Scan
scan_at ts = record { extent = (if begins_define ts then Head false false else Plain); brackets = [] }

abbrev pub one_more : Stretch → Stretch
one_more s = record { count = s.count + 1; closed = s.closed }

-- how many of these tokens belong to an item that has come so far, on this line, and whether it is closed
abbrev pub stretch_from : Scan → ℕ → List Lexeme → Stretch
stretch_from scan line [] = record { count = 0; closed = not (goes_on scan.extent scan.brackets) }
stretch_from scan line (t ∷ ts) =
    if (t.line == line) || goes_on scan.extent scan.brackets
    then one_more (stretch_from (scan_after scan t) t.line ts)
    else record { count = 0; closed = true }

-- the same for the first item of these tokens
abbrev pub stretch_of : List Lexeme → Stretch
stretch_of [] = record { count = 0; closed = true }
stretch_of (t ∷ ts) = stretch_from (scan_at (t ∷ ts)) t.line (t ∷ ts)

-- the first item of these tokens
abbrev pub first_cut : Stretch → Lexeme → List Lexeme → Cut
first_cut stretch t ts = record { line = t.line; lexemes = take stretch.count (t ∷ ts); closed = stretch.closed }

-- the items of these tokens, of which so many are passed over
unfoldable pub cut_from : ℕ → List Lexeme → List Cut
cut_from skip [] = []
cut_from (suc k) (t ∷ ts) = cut_from k ts
cut_from zero (t ∷ ts) = first_cut (stretch_of (t ∷ ts)) t ts ∷ cut_from ((stretch_of (t ∷ ts)).count - 1) ts

-- the items of a text
unfoldable pub cut : List Lexeme → List Cut
cut ts = cut_from 0 ts
