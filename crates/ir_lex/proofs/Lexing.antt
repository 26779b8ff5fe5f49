-- One step of the lexer, by the piece at the front of the text.
use Rattle.std.proofs.Common.{◌≡◌, ℕ, zero, suc, ◌+◌, ◌-◌, ◌<◌, List, [], ◌∷◌, ◌++◌, length, take, drop, refl, ap, sym, ◌∙◌, append_assoc, append-nil, arith}
use Rattle.std.specs.Prelude.{Result, Ok, Err}
use Rattle.ir_lex.specs.Lexeme.{Lexeme, lexeme, lexemes}
use Rattle.ir_lex.specs.Lex.{lex, lex_from, piece_of, after_piece, with_first}
use Rattle.ir_lex.specs.declared.piece.Piece.{Piece}
use Rattle.ir_lex.specs.declared.piece.Piece.TheVariants.{Blank, LineEnd, Whole, Outside}
use Rattle.ir_lex.specs.declared.token.Token.{Token}
use Rattle.ir_lex.specs.declared.token.TokenKind.{TokenKind}

-- the lexemes found so far, before those that are read from here on
abbrev pub with_front : List Lexeme → Result (List Lexeme) ℕ → Result (List Lexeme) ℕ
with_front front (Ok others) = Ok (front ++ others)
with_front front (Err line) = Err line

pub passes_over : (k line : ℕ) (bytes : List ℕ) → lex_from k line bytes ≡ lex_from 0 line (drop k bytes)
unfolding lex_from
passes_over zero line bytes = refl
passes_over (suc k) line [] = refl
passes_over (suc k) line (b ∷ rest) = passes_over k line rest

-- how the text is read on behind the piece at its front
front_is : (line b : ℕ) (rest : List ℕ) (piece : Piece) → piece_of (b ∷ rest) ≡ piece → lex_from 0 line (b ∷ rest) ≡ after_piece piece line (b ∷ rest) (λ skip next. lex_from skip next rest)
unfolding lex_from
front_is line b rest piece is = ap (λ p. after_piece p line (b ∷ rest) (λ skip next. lex_from skip next rest)) is

pub steps_blank : (n line : ℕ) (bytes : List ℕ) → piece_of bytes ≡ Blank n → 0 < n → lex_from 0 line (drop n bytes) ≡ lex_from 0 line bytes
steps_blank n line [] is some = cc
steps_blank zero line (b ∷ rest) is some = absurd (omega arith)
steps_blank (suc m) line (b ∷ rest) is some =
    let e : suc m - 1 ≡ m = omega arith in
    sym (front_is line b rest (Blank (suc m)) is ∙ ap (λ k. lex_from k line rest) e ∙ passes_over m line rest)

pub steps_line : (line : ℕ) (bytes : List ℕ) → piece_of bytes ≡ LineEnd → lex_from 0 (line + 1) (drop 1 bytes) ≡ lex_from 0 line bytes
steps_line line [] is = cc
steps_line line (b ∷ rest) is = sym (front_is line b rest LineEnd is)

pub steps_token : (kind : TokenKind) (n line : ℕ) (bytes : List ℕ) → piece_of bytes ≡ Whole kind n → 0 < n →
    with_first (record { kind = kind; line = line; text = take n bytes }) (lex_from 0 line (drop n bytes)) ≡ lex_from 0 line bytes
steps_token kind n line [] is some = cc
steps_token kind zero line (b ∷ rest) is some = absurd (omega arith)
steps_token kind (suc m) line (b ∷ rest) is some =
    let e : suc m - 1 ≡ m = omega arith in
    let first : Lexeme = record { kind = kind; line = line; text = take (suc m) (b ∷ rest) } in
    sym (front_is line b rest (Whole kind (suc m)) is ∙ ap (λ k. with_first first (lex_from k line rest)) e ∙ ap (with_first first) (passes_over m line rest))

pub steps_outside : (line : ℕ) (bytes : List ℕ) → piece_of bytes ≡ Outside → 0 < length bytes → lex_from 0 line bytes ≡ Err line
steps_outside line [] is some = absurd (omega arith)
steps_outside line (b ∷ rest) is some = front_is line b rest Outside is

front_nil : (read : Result (List Lexeme) ℕ) → with_front [] read ≡ read
front_nil (Ok others) = refl
front_nil (Err line) = refl

front_push : (front : List Lexeme) (first : Lexeme) (read : Result (List Lexeme) ℕ) → with_front (front ++ first ∷ []) read ≡ with_front front (with_first first read)
front_push front first (Ok others) = ap Ok (append_assoc front (first ∷ []) others)
front_push front first (Err line) = refl

pub lexemes-append : (ts us : List Token) → lexemes (ts ++ us) ≡ lexemes ts ++ lexemes us
lexemes-append [] us = refl
lexemes-append (t ∷ ts) us = ap (λ ls. lexeme t ∷ ls) (lexemes-append ts us)

-- what has been read so far stands before what is read from here on
pub starts : (text : List ℕ) → with_front [] (lex_from 0 1 text) ≡ lex text
unfolding lex
starts text = front_nil (lex_from 0 1 text)

pub goes_blank : (front : List Lexeme) (n line : ℕ) (bytes text : List ℕ) → piece_of bytes ≡ Blank n → 0 < n →
    with_front front (lex_from 0 line bytes) ≡ lex text → with_front front (lex_from 0 line (drop n bytes)) ≡ lex text
goes_blank front n line bytes text is some so_far = ap (with_front front) (steps_blank n line bytes is some) ∙ so_far

pub goes_line : (front : List Lexeme) (line : ℕ) (bytes text : List ℕ) → piece_of bytes ≡ LineEnd →
    with_front front (lex_from 0 line bytes) ≡ lex text → with_front front (lex_from 0 (line + 1) (drop 1 bytes)) ≡ lex text
goes_line front line bytes text is so_far = ap (with_front front) (steps_line line bytes is) ∙ so_far

pub goes_token : (found : List Token) (token : Token) (n : ℕ) (bytes text : List ℕ) → piece_of bytes ≡ Whole token.kind n → 0 < n →
    token.text.now ≡ take n bytes → with_front (lexemes found) (lex_from 0 token.line bytes) ≡ lex text →
    with_front (lexemes (found ++ token ∷ [])) (lex_from 0 token.line (drop n bytes)) ≡ lex text
goes_token found token n bytes text is some spelled so_far =
    let read : Result (List Lexeme) ℕ = lex_from 0 token.line (drop n bytes) in
    ap (λ ls. with_front ls read) (lexemes-append found (token ∷ []))
    ∙ front_push (lexemes found) (lexeme token) read
    ∙ ap (λ s. with_front (lexemes found) (with_first (record { kind = token.kind; line = token.line; text = s }) read)) spelled
    ∙ ap (with_front (lexemes found)) (steps_token token.kind n token.line bytes is some)
    ∙ so_far

pub ends : (front : List Lexeme) (line : ℕ) (bytes text : List ℕ) → length bytes ≡ 0 → with_front front (lex_from 0 line bytes) ≡ lex text → lex text ≡ Ok front
unfolding lex_from
ends front line [] text none so_far = sym so_far ∙ ap Ok (append-nil front)
ends front line (b ∷ rest) text none so_far = absurd (omega arith)

pub stops : (front : List Lexeme) (line : ℕ) (bytes text : List ℕ) → piece_of bytes ≡ Outside → 0 < length bytes →
    with_front front (lex_from 0 line bytes) ≡ lex text → lex text ≡ Err line
stops front line bytes text is some so_far = sym so_far ∙ ap (with_front front) (steps_outside line bytes is some)

pub ruleset lexing = (starts, goes_blank, goes_line, goes_token, ends, stops)
