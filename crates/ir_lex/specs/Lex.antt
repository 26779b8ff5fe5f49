-- The tokens of a kernel text. A text is passed over from its front: blanks, comments and line ends give nothing, a token gives its
-- kind, its line and its bytes, and a byte that begins none of these ends the text with the number of its line.
use Rattle.std.specs.Prelude.{◌≡◌, ℕ, zero, suc, ◌+◌, ◌-◌, Bool, false, ◌&&◌, ◌||◌, not, ◌==◌, if◌then◌else◌, Option, Some, None, Result, Ok, Err, List, [], ◌∷◌, take, drop}
use Rattle.std.specs.Char.{is_ascii_digit}
use Rattle.ir_ast.specs.declared.fault.KernelStop.{KernelStop}
use Rattle.ir_ast.specs.declared.fault.KernelStop.TheVariants.{Refused, Memory}
use Rattle.ir_ast.specs.declared.fault.KernelReason.TheVariants.{K1}
use Rattle.ir_lex.specs.declared.token.TokenKind.{TokenKind}
use Rattle.ir_lex.specs.declared.token.TokenKind.TheVariants.{Word, Number, Quoted, Local, Global, Metadata, Attribute, Mark}
use Rattle.ir_lex.specs.declared.piece.Piece.{Piece}
use Rattle.ir_lex.specs.declared.piece.Piece.TheVariants.{Blank, LineEnd, Whole, Outside}
use Rattle.ir_lex.specs.Lexeme.{Lexeme}
use Rattle.ir_lex.specs.Bytes.{is_blank, is_letter, is_name_byte, is_mark_byte, is_in_line, is_in_string, run, begins_with}

-- two dots, which make `...` with one before them
abbrev pub begins_with_dots : List ℕ → Bool
begins_with_dots rest = begins_with 46 rest && begins_with 46 (drop 1 rest)

-- what a string has behind its opening quote: its inside and the closing quote; none where a newline or the end comes first
abbrev pub string_end : List ℕ → Option ℕ
string_end rest = let inside = run is_in_string rest in if begins_with 34 (drop inside rest) then Some (inside + 1) else None

-- a token of a first byte and a run of others
abbrev pub run_piece : TokenKind → (ℕ → Bool) → List ℕ → Piece
run_piece kind test rest = Whole kind (run test rest + 1)

-- the same, where the run may not be empty
abbrev pub named_piece : TokenKind → (ℕ → Bool) → List ℕ → Piece → Piece
named_piece kind test rest other = if run test rest == 0 then other else run_piece kind test rest

-- a token that ends with a string, of which so many bytes stand before its inside
abbrev pub string_piece : TokenKind → ℕ → Option ℕ → Piece → Piece
string_piece kind before None other = other
string_piece kind before (Some n) other = Whole kind (n + before)

-- `%` or `@` with a name or a string
abbrev pub sigil_piece : TokenKind → List ℕ → Piece
sigil_piece kind rest = if begins_with 34 rest then string_piece kind 2 (string_end (drop 1 rest)) Outside else named_piece kind is_name_byte rest Outside

-- a word, or `c` with a string directly behind it
abbrev pub word_piece : ℕ → List ℕ → Piece
word_piece first rest = if (first == 99) && begins_with 34 rest then string_piece Quoted 2 (string_end (drop 1 rest)) (run_piece Word is_name_byte rest) else run_piece Word is_name_byte rest

-- the word begins: a letter, or a dot that does not begin `...`
abbrev pub begins_word : ℕ → List ℕ → Bool
begins_word first rest = is_letter first || ((first == 46) && not (begins_with_dots rest))

abbrev pub front_begins_word : List ℕ → Bool
front_begins_word [] = false
front_begins_word (first ∷ rest) = begins_word first rest

-- `#` with a word or with digits
abbrev pub attribute_piece : List ℕ → Piece
attribute_piece rest = if front_begins_word rest then run_piece Attribute is_name_byte rest else named_piece Attribute is_ascii_digit rest Outside

-- what stands at the front of a text: its first byte and the rest
unfoldable pub piece_at : ℕ → List ℕ → Piece
piece_at first rest =
    if first == 10 then LineEnd
    else (if is_blank first then Blank 1
    else (if first == 59 then Blank (run is_in_line rest + 1)
    else (if begins_word first rest then word_piece first rest
    else (if first == 46 then Whole Mark 3
    else (if is_ascii_digit first then run_piece Number is_ascii_digit rest
    else (if first == 45 then named_piece Number is_ascii_digit rest Outside
    else (if first == 34 then string_piece Quoted 1 (string_end rest) Outside
    else (if first == 37 then sigil_piece Local rest
    else (if first == 64 then sigil_piece Global rest
    else (if first == 33 then named_piece Metadata is_name_byte rest (Whole Mark 1)
    else (if first == 35 then attribute_piece rest
    else (if is_mark_byte first then Whole Mark 1
    else Outside))))))))))))

abbrev pub piece_of : List ℕ → Piece
piece_of [] = Outside
piece_of (first ∷ rest) = piece_at first rest

-- the lexeme before what is read, where that is read
abbrev pub with_first : Lexeme → Result (List Lexeme) ℕ → Result (List Lexeme) ℕ
with_first first (Ok others) = Ok (first ∷ others)
with_first first (Err line) = Err line

-- the lexemes, given the piece at the front and how the text is read on: with so many more bytes passed over, and on which line
abbrev pub after_piece : Piece → ℕ → List ℕ → (ℕ → ℕ → Result (List Lexeme) ℕ) → Result (List Lexeme) ℕ
after_piece (Blank n) line bytes on = on (n - 1) line
after_piece LineEnd line bytes on = on 0 (line + 1)
after_piece (Whole kind n) line bytes on = with_first (record { kind = kind; line = line; text = take n bytes }) (on (n - 1) line)
after_piece Outside line bytes on = Err line

-- the lexemes of a text from a line on, of which so many bytes are passed over; or the line of the first byte outside them
unfoldable pub lex_from : ℕ → ℕ → List ℕ → Result (List Lexeme) ℕ
lex_from skip line [] = Ok []
lex_from (suc k) line (b ∷ rest) = lex_from k line rest
lex_from zero line (b ∷ rest) = after_piece (piece_of (b ∷ rest)) line (b ∷ rest) (λ skip next. lex_from skip next rest)

-- the lexemes of a text, or the line of the first byte outside them
unfoldable pub lex : List ℕ → Result (List Lexeme) ℕ
lex text = lex_from 0 1 text

-- why a text has no tokens: the line of the first byte outside them; memory may be refused at any text
abbrev pub IsOutside : List ℕ → KernelStop → Type 0
IsOutside text (Refused fault) = (lex text ≡ Err fault.line) × (fault.reason ≡ K1)
IsOutside text Memory = Unit {0}
