-- How a text is read: the tokens of a physical line, and the logical lines of physical lines.
use Rattle.std.specs.Prelude.{ℕ, zero, suc, ◌+◌, ◌-◌, ◌==◌, if◌then◌else◌, Option, Some, None, List, [], ◌∷◌, ◌++◌, length, take, take_while}
use Rattle.spec_lex.specs.Token.{Lexeme, is_none, open_after}
use Rattle.spec_lex.specs.Bytes.{is_blank, is_hash, is_word_byte, is_single, is_pair, begins}
use Rattle.spec_lex.specs.Lines.{Line, line_of, rows_of}
use Rattle.spec_lex.specs.declared.piece.Piece.{Piece}
use Rattle.spec_lex.specs.declared.piece.Piece.TheVariants.{Blank, Comment, Whole}
use Rattle.spec_lex.specs.declared.token.TokenKind.TheVariants.{Word, Mark, Outside}
use Rattle.spec_lex.specs.declared.reading.Reading.{Reading}

-- what stands at the front of a physical line: its first byte and the rest
unfoldable pub piece_at : ℕ → List ℕ → Piece
piece_at first rest =
    if is_blank first then Blank
    else (if is_hash first then Comment
    else (if is_word_byte first then Whole Word (length (take_while is_word_byte rest) + 1)
    else (if begins (is_pair first) rest then Whole Mark 2
    else (if is_single first then Whole Mark 1
    else Whole Outside 1))))

abbrev pub piece_of : List ℕ → Piece
piece_of [] = Blank
piece_of (first ∷ rest) = piece_at first rest

-- the tokens, given the piece at the front and how the bytes are read on with so many more passed over
abbrev pub after_piece : Piece → List ℕ → (ℕ → List Lexeme) → List Lexeme
after_piece Blank bytes on = on 0
after_piece Comment bytes on = []
after_piece (Whole kind n) bytes on = record { kind = kind; text = take n bytes } ∷ on (n - 1)

-- the tokens of these bytes, of which so many are passed over
unfoldable pub read_tokens : ℕ → List ℕ → List Lexeme
read_tokens skip [] = []
read_tokens (suc k) (b ∷ rest) = read_tokens k rest
read_tokens zero (b ∷ rest) = after_piece (piece_of (b ∷ rest)) (b ∷ rest) (λ k. read_tokens k rest)

-- the tokens of a physical line
abbrev pub row_tokens : List ℕ → List Lexeme
row_tokens row = read_tokens 0 row

-- the logical lines that are read, the one that is being read, and how many brackets are open in it
pub record State : Type 0 where
  pub found : List Line
  pub current : Line
  pub nest : ℕ

abbrev pub state_of : Reading → State
state_of r = record { found = r.found; current = line_of r.current; nest = r.nest }

-- a line of no tokens, which is none yet
abbrev pub nothing : Line
nothing = record { line = 0; blanks = []; tokens = [] }

abbrev pub whole : Line → List Line
whole l = if is_none l.tokens then [] else l ∷ []

-- the line with the tokens of a physical line behind its own, which begins there if it has none
abbrev pub goes_on : Line → ℕ → List ℕ → Line
goes_on l n row = record {
  line = if is_none l.tokens then n else l.line;
  blanks = if is_none l.tokens then take_while is_blank row else l.blanks;
  tokens = l.tokens ++ row_tokens row;
}

-- the line ends where no bracket is open
abbrev pub step_to : List Line → Line → ℕ → State
step_to found l nest = if nest == 0 then record { found = found ++ whole l; current = nothing; nest = 0 } else record { found = found; current = l; nest = nest }

-- behind one more physical line, which has this number
abbrev pub row_step : State → ℕ → List ℕ → State
row_step s n row = step_to s.found (goes_on s.current n row) (open_after s.nest (row_tokens row))

-- the logical lines behind these physical lines, the first of which has this number
unfoldable pub lines_from : State → ℕ → List (List ℕ) → List Line
lines_from s n [] = s.found ++ whole s.current
lines_from s n (row ∷ rows) = lines_from (row_step s n row) (n + 1) rows

abbrev pub start : State
start = record { found = []; current = nothing; nest = 0 }

-- the logical lines of a text
unfoldable pub read_lines : List ℕ → List Line
read_lines text = lines_from start 1 (rows_of text)

-- the physical lines that are left
abbrev pub rows_left : Option (List ℕ) → List (List ℕ)
rows_left None = []
rows_left (Some text) = rows_of text

-- how much is left to read
abbrev pub size_left : Option (List ℕ) → ℕ
size_left None = 0
size_left (Some text) = length text + 1
