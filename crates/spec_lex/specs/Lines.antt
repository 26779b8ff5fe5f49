-- The logical lines of a specification text, in the printing direction: which physical lines a list of logical lines is printed on. Every
-- text is one of exactly one list of logical lines; a byte that no token has is a token of its own kind there.
use Rattle.std.specs.Prelude.{◌≡◌, ℕ, ◌+◌, ◌≤◌, true, false, ◌⊎◌, List, [], ◌∷◌, ◌++◌, length, map, All}
use Rattle.std.specs.List.{list_all, slice_split}
use Rattle.spec_lex.specs.Token.{Lexeme, open_after}
use Rattle.spec_lex.specs.Bytes.{is_blank, is_newline, is_word_byte, is_mark, is_outside, begins}
use Rattle.spec_lex.specs.declared.token.TokenKind.{TokenKind}
use Rattle.spec_lex.specs.declared.token.TokenKind.TheVariants.{Word, Mark, Outside}
use Rattle.spec_lex.specs.declared.line.LogicalLine.{LogicalLine}

-- a logical line: its first physical line, the blanks before its first token, and its tokens
pub record Line : Type 0 where
  pub line : ℕ
  pub blanks : List ℕ
  pub tokens : List Lexeme

abbrev pub line_of : LogicalLine → Line
line_of l = record { line = l.line; blanks = l.blanks.now; tokens = l.tokens }

abbrev pub lines_of : List LogicalLine → List Line
lines_of ls = map line_of ls

-- the token ends before these bytes: the longest one is taken
abbrev pub IsToken : TokenKind → List ℕ → List ℕ → Type 0
IsToken Word text rest = (1 ≤ length text) × (list_all is_word_byte text ≡ true) × (begins is_word_byte rest ≡ false)
IsToken Mark text rest = (is_mark text ≡ true) × (begins (λ next. is_mark (text ++ next ∷ [])) rest ≡ false)
IsToken Outside text rest = (b : ℕ) × (text ≡ b ∷ []) × (is_outside b rest ≡ true)

abbrev pub AreBlanks : List ℕ → Type 0
AreBlanks bytes = list_all is_blank bytes ≡ true

-- nothing, or a comment of any bytes
abbrev pub IsComment : List ℕ → Type 0
IsComment bytes = (bytes ≡ []) ⊎ ((text : List ℕ) × (bytes ≡ 35 ∷ text))

-- the tokens stand on a physical line, with blanks before each and behind the last, and a comment behind them
abbrev pub IsPrinted : List Lexeme → List ℕ → Type 0
IsPrinted [] bytes = (blanks : List ℕ) × (rest : List ℕ) × AreBlanks blanks × IsComment rest × (bytes ≡ blanks ++ rest)
IsPrinted (t ∷ ts) bytes =
    (blanks : List ℕ) × (rest : List ℕ) × AreBlanks blanks × IsToken t.kind t.text rest × IsPrinted ts rest × (bytes ≡ blanks ++ (t.text ++ rest))

-- the tokens go on over these physical lines: one more just where a bracket is open and there is one. The last list is what follows
abbrev pub GoesOn : ℕ → List Lexeme → List (List ℕ) → List (List ℕ) → Type 0
GoesOn nest tokens [] after = (tokens ≡ []) × ((nest ≡ 0) ⊎ (after ≡ []))
GoesOn nest tokens (row ∷ rows) after =
    (1 ≤ nest) × (here : List Lexeme) × (rest : List Lexeme) × (tokens ≡ here ++ rest) × IsPrinted here row
    × GoesOn (open_after nest here) rest rows after

-- a physical line with these tokens, which has one at least, behind these blanks
abbrev pub Starts : List ℕ → List Lexeme → List ℕ → Type 0
Starts blanks [] row = ⊥
Starts blanks (t ∷ ts) row =
    (rest : List ℕ) × AreBlanks blanks × (row ≡ blanks ++ rest) × (begins is_blank rest ≡ false) × IsPrinted (t ∷ ts) rest

-- the logical lines are printed on these physical lines, the first of which has this number: lines without tokens stand before and behind
-- each
abbrev pub ArePrinted : ℕ → List Line → List (List ℕ) → Type 0
ArePrinted n [] rows = All (IsPrinted []) rows
ArePrinted n (l ∷ ls) rows =
    (empty : List (List ℕ)) × (row : List ℕ) × (more : List (List ℕ)) × (after : List (List ℕ)) × (here : List Lexeme) × (rest : List Lexeme)
    × All (IsPrinted []) empty × Starts l.blanks here row × GoesOn (open_after 0 here) rest more after
    × ArePrinted (l.line + 1 + length more) ls after
    × (rows ≡ empty ++ row ∷ (more ++ after)) × (l.line ≡ n + length empty) × (l.tokens ≡ here ++ rest)

-- the physical lines of a text
abbrev pub rows_of : List ℕ → List (List ℕ)
rows_of text = slice_split is_newline text

-- the logical lines of a text
abbrev pub AreLinesOf : List ℕ → List Line → Type 0
AreLinesOf text lines = ArePrinted 1 lines (rows_of text)
