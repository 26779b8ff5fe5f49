-- One step of the loops that read physical lines.
use Rattle.std.proofs.Common.{◌≡◌, ℕ, zero, suc, ◌+◌, ◌-◌, ◌<◌, ◌≤◌, Bool, true, false, List, [], ◌∷◌, ◌++◌, length, take, drop, refl, ap, sym, ◌∙◌, append_assoc, append-nil, arith}
use Rattle.std.proofs.Math.Seq.{take-length}
use Rattle.std.specs.List.{take_while, prefix_len}
use Rattle.std.proofs.lemmas.List.Folds.{length-prefix_len}
use Rattle.spec_lex.specs.Token.{Lexeme, token_of, open_behind, open_after}
use Rattle.spec_lex.specs.Bytes.{is_newline, is_in_row}
use Rattle.spec_lex.specs.Lines.{rows_of}
use Rattle.spec_lex.specs.Reading.{piece_of, read_tokens, after_piece, lines_from, read_lines, State, row_step, start, whole}
use Rattle.spec_lex.specs.declared.piece.Piece.{Piece}
use Rattle.spec_lex.specs.declared.piece.Piece.TheVariants.{Blank, Comment, Whole}
use Rattle.spec_lex.specs.declared.token.Token.{Token}

-- what stands behind the first physical line
abbrev pub behind_row : List ℕ → List (List ℕ)
behind_row [] = []
behind_row (newline ∷ rest) = rows_of rest

cut_at : (b : ℕ) (rest : List ℕ) (v : Bool) → is_newline b ≡ v → rows_of rest ≡ take (prefix_len is_in_row rest) rest ∷ behind_row (drop (prefix_len is_in_row rest) rest) →
    rows_of (b ∷ rest) ≡ take (prefix_len is_in_row (b ∷ rest)) (b ∷ rest) ∷ behind_row (drop (prefix_len is_in_row (b ∷ rest)) (b ∷ rest))
cut_at b rest true is parts = rw is refl
cut_at b rest false is parts = let e : 1 + prefix_len is_in_row rest ≡ suc (prefix_len is_in_row rest) = omega arith in rw (is, parts, e) refl

pub cut : (text : List ℕ) → rows_of text ≡ take (prefix_len is_in_row text) text ∷ behind_row (drop (prefix_len is_in_row text) text)
cut [] = refl
cut (b ∷ rest) = cut_at b rest (is_newline b) refl (cut rest)

pub skips : (k : ℕ) (bytes : List ℕ) → read_tokens k bytes ≡ read_tokens 0 (drop k bytes)
unfolding read_tokens
skips zero bytes = refl
skips (suc k) [] = refl
skips (suc k) (b ∷ rest) = skips k rest

pub front_is : (b : ℕ) (rest : List ℕ) (piece : Piece) → piece_of (b ∷ rest) ≡ piece → read_tokens 0 (b ∷ rest) ≡ after_piece piece (b ∷ rest) (λ k. read_tokens k rest)
unfolding read_tokens
front_is b rest piece is = ap (λ p. after_piece p (b ∷ rest) (λ k. read_tokens k rest)) is

pub reads_blank : (bytes : List ℕ) → piece_of bytes ≡ Blank → 0 < length bytes → read_tokens 0 (drop 1 bytes) ≡ read_tokens 0 bytes
reads_blank [] is some = absurd (omega arith)
reads_blank (b ∷ rest) is some = sym (front_is b rest Blank is)

pub reads_comment : (bytes : List ℕ) → piece_of bytes ≡ Comment → read_tokens 0 bytes ≡ []
reads_comment [] is = cc
reads_comment (b ∷ rest) is = front_is b rest Comment is

pub reads_token : (token : Token) (n : ℕ) (bytes : List ℕ) → piece_of bytes ≡ Whole token.kind n → 0 < n → token.text.now ≡ take n bytes →
    read_tokens 0 bytes ≡ token_of token ∷ read_tokens 0 (drop n bytes)
reads_token token n [] is some spelled = cc
reads_token token zero (b ∷ rest) is some spelled = absurd (omega arith)
reads_token token (suc m) (b ∷ rest) is some spelled =
    let e : suc m - 1 ≡ m = omega arith in
    front_is b rest (Whole token.kind (suc m)) is
    ∙ ap (λ s. record { kind = token.kind; text = s } ∷ read_tokens (suc m - 1) rest) (sym spelled)
    ∙ ap (λ k. token_of token ∷ read_tokens k rest) e
    ∙ ap (λ ts. token_of token ∷ ts) (skips m rest)

pub ends_reading : (s : State) (n : ℕ) → lines_from s n [] ≡ s.found ++ whole s.current
unfolding lines_from
ends_reading s n = refl

pub starts_reading : (text : List ℕ) → read_lines text ≡ lines_from start 1 (rows_of text)
unfolding read_lines
starts_reading text = refl

pub goes_reading : (s : State) (n : ℕ) (row : List ℕ) (rows : List (List ℕ)) → lines_from s n (row ∷ rows) ≡ lines_from (row_step s n row) (n + 1) rows
unfolding lines_from
goes_reading s n row rows = refl

pub reads_none : (bytes : List ℕ) → length bytes ≡ 0 → read_tokens 0 bytes ≡ []
unfolding read_tokens
reads_none [] none = refl
reads_none (b ∷ rest) none = absurd (omega arith)

-- where nothing is left to read, what is found is all
pub ends_tokens : (found read wanted : List Lexeme) → read ≡ [] → found ++ read ≡ wanted → found ≡ wanted
ends_tokens found read wanted none so_far = sym (append-nil found) ∙ ap (λ ts. found ++ ts) (sym none) ∙ so_far

pub ends_nest : (level nest : ℕ) (read wanted : List Lexeme) → read ≡ [] → open_after level read ≡ open_after nest wanted → level ≡ open_after nest wanted
ends_nest level nest read wanted none so_far = ap (open_after level) (sym none) ∙ so_far

-- a token moves from what is left to what is found
pub moves_token : (found read others wanted : List Lexeme) (token : Lexeme) → read ≡ token ∷ others → found ++ read ≡ wanted → (found ++ token ∷ []) ++ others ≡ wanted
moves_token found read others wanted token first so_far = append_assoc found (token ∷ []) others ∙ ap (λ ts. found ++ ts) (sym first) ∙ so_far

pub moves_nest : (level nest : ℕ) (read others wanted : List Lexeme) (token : Lexeme) → read ≡ token ∷ others → open_after level read ≡ open_after nest wanted →
    open_after (open_behind level token) others ≡ open_after nest wanted
moves_nest level nest read others wanted token first so_far = ap (open_after level) (sym first) ∙ so_far

row_at : (text row after : List ℕ) (n : ℕ) → n ≡ length (take_while is_in_row text) → row ≡ take n text → after ≡ drop n text → rows_of text ≡ row ∷ behind_row after
row_at text row after n long front back =
    let e : n ≡ prefix_len is_in_row text = long ∙ length-prefix_len is_in_row text in
    cut text ∙ ap (λ k. take k text ∷ behind_row (drop k text)) (sym e) ∙ ap (λ r. r ∷ behind_row (drop n text)) (sym front) ∙ ap (λ r. row ∷ behind_row r) (sym back)

pub last_row : (text row after : List ℕ) (n : ℕ) → n ≡ length (take_while is_in_row text) → row ≡ take n text → after ≡ drop n text → length after ≤ 0 → rows_of text ≡ row ∷ []
last_row text row [] n long front back none = row_at text row [] n long front back
last_row text row (b ∷ rest) n long front back none = absurd (omega arith)

pub first_of_rows : (text row after : List ℕ) (n : ℕ) → n ≡ length (take_while is_in_row text) → row ≡ take n text → after ≡ drop n text → 1 ≤ length after →
    rows_of text ≡ row ∷ rows_of (take (length after - 1) (drop 1 after))
first_of_rows text row [] n long front back some = absurd (omega arith)
first_of_rows text row (b ∷ rest) n long front back some =
    let e : length (b ∷ rest) - 1 ≡ length rest = omega arith in
    row_at text row (b ∷ rest) n long front back ∙ ap (λ r. row ∷ rows_of r) (sym (ap (λ k. take k rest) e ∙ take-length rest))

pub ruleset row_reading = (reads_blank, reads_comment, reads_none, ends_nest)

pub ruleset line_reading = (ends_reading, starts_reading, goes_reading)
