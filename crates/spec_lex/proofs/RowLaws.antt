-- The tokens that are read of a physical line are those that it is printed from, and there are no others.
use Rattle.std.proofs.Common.{◌≡◌, ℕ, zero, suc, ◌+◌, ◌-◌, ◌<◌, ◌≤◌, Bool, true, false, not, ◌&&◌, ◌||◌, ◌⊎◌, inl, inr, List, [], ◌∷◌, ◌++◌, length, take, drop, refl, ap, sym, subst, ◌∙◌, arith}
use Rattle.std.specs.Prelude.{◌==◌, codes}
use Rattle.std.specs.List.{take_while, prefix_len, list_all}
use Rattle.std.proofs.lemmas.Bool.{eqb-true}
use Rattle.std.proofs.lemmas.List.Folds.{length-prefix_len}
use Rattle.spec_lex.specs.Token.{Lexeme}
use Rattle.spec_lex.specs.Bytes.{is_among, is_blank, is_hash, is_word_byte, is_single, is_pair, is_mark, begins, is_outside}
use Rattle.spec_lex.specs.Lines.{IsToken, AreBlanks, IsComment, IsPrinted}
use Rattle.spec_lex.specs.Reading.{piece_at, piece_of, read_tokens, row_tokens}
use Rattle.spec_lex.specs.declared.piece.Piece.{Piece}
use Rattle.spec_lex.specs.declared.piece.Piece.TheVariants.{Blank, Comment, Whole}
use Rattle.spec_lex.specs.declared.token.TokenKind.{TokenKind}
use Rattle.spec_lex.specs.declared.token.TokenKind.TheVariants.{Word, Mark, Outside}
use Rattle.spec_lex.proofs.Rows.{skips, front_is}

-- facts of tests
left_true : (a b : Bool) → (a && b) ≡ true → a ≡ true
left_true true b h = refl
left_true false b h = cc

right_true : (a b : Bool) → (a && b) ≡ true → b ≡ true
right_true true b h = h
right_true false b h = cc

either_true : (a b : Bool) → (a || b) ≡ true → (a ≡ true) ⊎ (b ≡ true)
either_true true b h = inl refl
either_true false b h = inr h

record Neither (a b : Bool) : Type 0 where
  first : a ≡ false
  second : b ≡ false

neither : (a b : Bool) → (a || b) ≡ false → Neither a b
neither true b h = cc
neither false b h = record { first = refl; second = h }

not_true : (a : Bool) → not a ≡ true → a ≡ false
not_true true h = cc
not_true false h = refl

not_both : (a : Bool) → (a ≡ true → ⊥) → a ≡ false
not_both true h = absurd (h refl)
not_both false h = refl

-- a byte that is one of these has what each of these has
abbrev EachHas : (ℕ → Type 0) → List ℕ → Type 0
EachHas P [] = Unit {0}
EachHas P (x ∷ xs) = P x × EachHas P xs

among_has : (P : ℕ → Type 0) (b : ℕ) (xs : List ℕ) → EachHas P xs → is_among xs b ≡ true → P b
among_has P b [] each h = cc
among_has P b (x ∷ xs) each h = elim (either_true (x == b) (is_among xs b) h) [ inl e ↦ subst P (eqb-true x b e) each.0 | inr others ↦ among_has P b xs each.1 others ]

-- a byte at which a token begins that is no word
record BeginsMark (b : ℕ) : Type 0 where
  blank : is_blank b ≡ false
  hash : is_hash b ≡ false
  word : is_word_byte b ≡ false

single_begins : (b : ℕ) → is_single b ≡ true → BeginsMark b
single_begins b h =
    among_has BeginsMark b (codes "=<>+-*&|^~()[],.:") (
      record { blank = refl; hash = refl; word = refl },
      (
        record { blank = refl; hash = refl; word = refl },
        (
          record { blank = refl; hash = refl; word = refl },
          (
            record { blank = refl; hash = refl; word = refl },
            (
              record { blank = refl; hash = refl; word = refl },
              (
                record { blank = refl; hash = refl; word = refl },
                (
                  record { blank = refl; hash = refl; word = refl },
                  (
                    record { blank = refl; hash = refl; word = refl },
                    (
                      record { blank = refl; hash = refl; word = refl },
                      (
                        record { blank = refl; hash = refl; word = refl },
                        (
                          record { blank = refl; hash = refl; word = refl },
                          (
                            record { blank = refl; hash = refl; word = refl },
                            (
                              record { blank = refl; hash = refl; word = refl },
                              (
                                record { blank = refl; hash = refl; word = refl },
                                (
                                  record { blank = refl; hash = refl; word = refl },
                                  (record { blank = refl; hash = refl; word = refl }, (record { blank = refl; hash = refl; word = refl }, tt)),
                                ),
                              ),
                            ),
                          ),
                        ),
                      ),
                    ),
                  ),
                ),
              ),
            ),
          ),
        ),
      ),
    )
    h

pair_begins : (b next : ℕ) → is_pair b next ≡ true → BeginsMark b
pair_begins b next h =
    elim (either_true ((next == 61) && is_among (codes "=!<>") b) ((b == next) && is_among (codes "<>") b) h) [
      | inl e ↦ among_has BeginsMark b (codes "=!<>")
          (record { blank = refl; hash = refl; word = refl }, (record { blank = refl; hash = refl; word = refl }, (record { blank = refl; hash = refl; word = refl }, (record { blank = refl; hash = refl; word = refl }, tt))))
          (right_true (next == 61) (is_among (codes "=!<>") b) e)
      | inr e ↦ among_has BeginsMark b (codes "<>") (record { blank = refl; hash = refl; word = refl }, (record { blank = refl; hash = refl; word = refl }, tt)) (right_true (b == next) (is_among (codes "<>") b) e)
    ]

-- a byte of a word is no blank and begins no comment
word_no_blank : (b : ℕ) → is_word_byte b ≡ true → is_blank b ≡ false
word_no_blank b h = not_both (is_blank b) (λ blank. let word : is_word_byte b ≡ false = among_has (λ x. is_word_byte x ≡ false) b (32 ∷ 9 ∷ 13 ∷ []) (refl, (refl, (refl, tt))) blank in cc)

word_no_hash : (b : ℕ) → is_word_byte b ≡ true → is_hash b ≡ false
word_no_hash b h = not_both (is_hash b) (λ hash. let word : is_word_byte b ≡ false = subst (λ x. is_word_byte x ≡ false) (sym (eqb-true b 35 hash)) refl in cc)

-- the longest front whose bytes pass a test
record Run (test : ℕ → Bool) (bytes : List ℕ) (n : ℕ) : Type 0 where
  pub passes : list_all test (take n bytes) ≡ true
  pub ends : begins test (drop n bytes) ≡ false

run_step : (test : ℕ → Bool) (b : ℕ) (rest : List ℕ) (v : Bool) → test b ≡ v → Run test rest (prefix_len test rest) → Run test (b ∷ rest) (prefix_len test (b ∷ rest))
run_step test b rest true is inner =
    let e : 1 + prefix_len test rest ≡ suc (prefix_len test rest) = omega arith in
    record { passes = rw (is, e) (rw is inner.passes); ends = rw (is, e) inner.ends }
run_step test b rest false is inner = record { passes = rw is refl; ends = rw is is }

run_of : (test : ℕ → Bool) (bytes : List ℕ) → Run test bytes (prefix_len test bytes)
run_of test [] = record { passes = refl; ends = refl }
run_of test (b ∷ rest) = run_step test b rest (test b) refl (run_of test rest)

-- and that one is the longest
pub run_is : (test : ℕ → Bool) (front rest : List ℕ) → list_all test front ≡ true → begins test rest ≡ false → prefix_len test (front ++ rest) ≡ length front
run_is test [] [] passes ends = refl
run_is test [] (b ∷ rest) passes ends = rw ends refl
run_is test (b ∷ front) rest passes ends =
    let one : test b ≡ true = left_true (test b) (list_all test front) passes in
    let more : prefix_len test (front ++ rest) ≡ length front = run_is test front rest (right_true (test b) (list_all test front) passes) ends in
    let e : 1 + length front ≡ suc (length front) = omega arith in
    rw one (rw more e)

take_front : (front rest : List ℕ) → take (length front) (front ++ rest) ≡ front
take_front [] rest = refl
take_front (b ∷ front) rest = ap (λ s. b ∷ s) (take_front front rest)

drop_front : (front rest : List ℕ) → drop (length front) (front ++ rest) ≡ rest
drop_front [] rest = refl
drop_front (b ∷ front) rest = drop_front front rest

take_drop : (n : ℕ) (bytes : List ℕ) → bytes ≡ take n bytes ++ drop n bytes
take_drop zero bytes = refl
take_drop (suc n) [] = refl
take_drop (suc n) (b ∷ rest) = ap (λ s. b ∷ s) (take_drop n rest)

-- the blanks that are read are those before the first token
pub blanks_are : (blanks rest : List ℕ) → AreBlanks blanks → begins is_blank rest ≡ false → take_while is_blank (blanks ++ rest) ≡ blanks
blanks_are blanks rest are ends = ap (λ n. take n (blanks ++ rest)) (run_is is_blank blanks rest are ends) ∙ take_front blanks rest

pub blanks_front : (row : List ℕ) → AreBlanks (take_while is_blank row)
blanks_front row = (run_of is_blank row).passes

pub blanks_end : (row : List ℕ) → begins is_blank (drop (prefix_len is_blank row) row) ≡ false
blanks_end row = (run_of is_blank row).ends

pub blanks_part : (row : List ℕ) → row ≡ take_while is_blank row ++ drop (prefix_len is_blank row) row
blanks_part row = take_drop (prefix_len is_blank row) row

-- what the piece at a front says of the bytes there
abbrev FrontSays : Piece → ℕ → List ℕ → Type 0
FrontSays Blank b rest = is_blank b ≡ true
FrontSays Comment b rest = b ≡ 35
FrontSays (Whole kind n) b rest = (0 < n) × IsToken kind (take n (b ∷ rest)) (drop n (b ∷ rest))

word_front : (b : ℕ) (rest : List ℕ) (n : ℕ) → is_word_byte b ≡ true → n ≡ suc (prefix_len is_word_byte rest) → FrontSays (Whole Word n) b rest
word_front b rest n word long =
    let r : Run is_word_byte rest (prefix_len is_word_byte rest) = run_of is_word_byte rest in
    let says : FrontSays (Whole Word (suc (prefix_len is_word_byte rest))) b rest = (omega arith, (omega arith, rw word r.passes, r.ends)) in
    subst (λ m. FrontSays (Whole Word m) b rest) (sym long) says

no_longer : (b c : ℕ) (rest : List ℕ) → begins (λ next. is_mark ((b ∷ c ∷ []) ++ next ∷ [])) rest ≡ false
no_longer b c [] = refl
no_longer b c (d ∷ rest) = refl

pair_front : (b : ℕ) (rest : List ℕ) → begins (is_pair b) rest ≡ true → FrontSays (Whole Mark 2) b rest
pair_front b [] pair = cc
pair_front b (c ∷ rest) pair = (omega arith, (pair, no_longer b c rest))

says_at : (b : ℕ) (rest : List ℕ) (blank hash word pair single : Bool) → is_blank b ≡ blank → is_hash b ≡ hash → is_word_byte b ≡ word →
    begins (is_pair b) rest ≡ pair → is_single b ≡ single → FrontSays (piece_at b rest) b rest
unfolding piece_at
says_at b rest true hash word pair single e1 e2 e3 e4 e5 = rw e1 e1
says_at b rest false true word pair single e1 e2 e3 e4 e5 = rw (e1, e2) (eqb-true b 35 e2)
says_at b rest false false true pair single e1 e2 e3 e4 e5 =
    rw (e1, e2, e3) (word_front b rest (length (take_while is_word_byte rest) + 1) e3 (omega (arith, length-prefix_len is_word_byte rest)))
says_at b rest false false false true single e1 e2 e3 e4 e5 = rw (e1, e2, e3, e4) (pair_front b rest e4)
says_at b rest false false false false true e1 e2 e3 e4 e5 = rw (e1, e2, e3, e4, e5) (omega arith, (e5, e4))
says_at b rest false false false false false e1 e2 e3 e4 e5 = rw (e1, e2, e3, e4, e5) (omega arith, (b, refl, rw (e1, e2, e3, e4, e5) refl))

says : (b : ℕ) (rest : List ℕ) → FrontSays (piece_at b rest) b rest
says b rest = says_at b rest (is_blank b) (is_hash b) (is_word_byte b) (begins (is_pair b) rest) (is_single b) refl refl refl refl refl

pub blank_before : (b : ℕ) (ts : List Lexeme) (bytes : List ℕ) → is_blank b ≡ true → IsPrinted ts bytes → IsPrinted ts (b ∷ bytes)
blank_before b [] bytes blank (blanks, rest, are, comment, parts) = (b ∷ blanks, rest, rw blank are, comment, ap (λ s. b ∷ s) parts)
blank_before b (t ∷ ts) bytes blank (blanks, rest, are, token, others, parts) = (b ∷ blanks, rest, rw blank are, token, others, ap (λ s. b ∷ s) parts)

pub blanks_before : (blanks : List ℕ) (ts : List Lexeme) (bytes : List ℕ) → AreBlanks blanks → IsPrinted ts bytes → IsPrinted ts (blanks ++ bytes)
blanks_before [] ts bytes are printed = printed
blanks_before (b ∷ blanks) ts bytes are printed =
    blank_before b ts (blanks ++ bytes) (left_true (is_blank b) (list_all is_blank blanks) are) (blanks_before blanks ts bytes (right_true (is_blank b) (list_all is_blank blanks) are) printed)

sound_front : (b : ℕ) (rest : List ℕ) (piece : Piece) → piece_of (b ∷ rest) ≡ piece → FrontSays piece b rest → ((k : ℕ) → IsPrinted (read_tokens k rest) (drop k rest)) →
    IsPrinted (read_tokens 0 (b ∷ rest)) (b ∷ rest)
sound_front b rest Blank is front others = subst (λ ts. IsPrinted ts (b ∷ rest)) (sym (front_is b rest Blank is)) (blank_before b (read_tokens 0 rest) rest front (others 0))
sound_front b rest Comment is front others =
    let printed : IsPrinted [] (b ∷ rest) = ([], b ∷ rest, refl, inr (rest, ap (λ x. x ∷ rest) front), refl) in
    subst (λ ts. IsPrinted ts (b ∷ rest)) (sym (front_is b rest Comment is)) printed
sound_front b rest (Whole kind zero) is front others = absurd (omega (arith, front.0))
sound_front b rest (Whole kind (suc m)) is front others =
    let e : suc m - 1 ≡ m = omega arith in
    let t : Lexeme = record { kind = kind; text = take (suc m) (b ∷ rest) } in
    let printed : IsPrinted (t ∷ read_tokens m rest) (b ∷ rest) = ([], drop m rest, refl, front.1, others m, take_drop (suc m) (b ∷ rest)) in
    subst (λ ts. IsPrinted ts (b ∷ rest)) (sym (front_is b rest (Whole kind (suc m)) is ∙ ap (λ k. t ∷ read_tokens k rest) e)) printed

sound_from : (bytes : List ℕ) (k : ℕ) → IsPrinted (read_tokens k bytes) (drop k bytes)
unfolding read_tokens
sound_from [] zero = ([], [], refl, inl refl, refl)
sound_from [] (suc k) = ([], [], refl, inl refl, refl)
sound_from (b ∷ rest) (suc k) = sound_from rest k
sound_from (b ∷ rest) zero = sound_front b rest (piece_at b rest) refl (says b rest) (λ k. sound_from rest k)

-- the tokens that are read are printed there
pub tokens_sound : (row : List ℕ) → IsPrinted (row_tokens row) row
tokens_sound row = sound_from row 0

blank_piece : (b : ℕ) (rest : List ℕ) → is_blank b ≡ true → piece_at b rest ≡ Blank
unfolding piece_at
blank_piece b rest blank = rw blank refl

comment_piece : (rest : List ℕ) → piece_at 35 rest ≡ Comment
unfolding piece_at
comment_piece rest = refl

word_piece : (b : ℕ) (more rest : List ℕ) → is_word_byte b ≡ true → list_all is_word_byte more ≡ true → begins is_word_byte rest ≡ false →
    piece_at b (more ++ rest) ≡ Whole Word (suc (length more))
unfolding piece_at
word_piece b more rest word passes ends =
    let long : prefix_len is_word_byte (more ++ rest) ≡ length more = run_is is_word_byte more rest passes ends in
    let e : length (take_while is_word_byte (more ++ rest)) + 1 ≡ suc (length more) = omega (arith, length-prefix_len is_word_byte (more ++ rest), long) in
    rw (word_no_blank b word, word_no_hash b word, word) (ap (Whole Word) e)

pair_piece : (b c : ℕ) (rest : List ℕ) → is_pair b c ≡ true → piece_at b (c ∷ rest) ≡ Whole Mark 2
unfolding piece_at
pair_piece b c rest pair = let begun = pair_begins b c pair in rw (begun.blank, begun.hash, begun.word, pair) refl

single_piece : (b : ℕ) (rest : List ℕ) → is_single b ≡ true → begins (is_pair b) rest ≡ false → piece_at b rest ≡ Whole Mark 1
unfolding piece_at
single_piece b rest single alone = let begun = single_begins b single in rw (begun.blank, begun.hash, begun.word, alone, single) refl

outside_piece : (b : ℕ) (rest : List ℕ) → is_outside b rest ≡ true → piece_at b rest ≡ Whole Outside 1
unfolding piece_at
outside_piece b rest outside =
    let n1 = neither (is_blank b) (is_hash b || (is_word_byte b || (begins (is_pair b) rest || is_single b))) (not_true _ outside) in
    let n2 = neither (is_hash b) (is_word_byte b || (begins (is_pair b) rest || is_single b)) n1.second in
    let n3 = neither (is_word_byte b) (begins (is_pair b) rest || is_single b) n2.second in
    let n4 = neither (begins (is_pair b) rest) (is_single b) n3.second in
    rw (n1.first, n2.first, n3.first, n4.first, n4.second) refl

mark_piece : (text rest : List ℕ) → is_mark text ≡ true → begins (λ next. is_mark (text ++ next ∷ [])) rest ≡ false → piece_of (text ++ rest) ≡ Whole Mark (length text)
mark_piece [] rest mark longest = cc
mark_piece (b ∷ []) rest mark longest = single_piece b rest mark longest
mark_piece (b ∷ c ∷ []) rest mark longest = pair_piece b c rest mark
mark_piece (b ∷ c ∷ d ∷ more) rest mark longest = cc

piece_is : (kind : TokenKind) (text rest : List ℕ) → IsToken kind text rest → piece_of (text ++ rest) ≡ Whole kind (length text)
piece_is Word [] rest (some, passes, ends) = absurd (omega (arith, some))
piece_is Word (b ∷ more) rest (some, passes, ends) =
    word_piece b more rest (left_true (is_word_byte b) (list_all is_word_byte more) passes) (right_true (is_word_byte b) (list_all is_word_byte more) passes) ends
piece_is Mark text rest (mark, longest) = mark_piece text rest mark longest
piece_is Outside text rest (b, is, outside) = rw is (outside_piece b rest outside)

some_byte : (kind : TokenKind) (text rest : List ℕ) → IsToken kind text rest → 1 ≤ length text
some_byte Word text rest (some, passes, ends) = some
some_byte Mark [] rest (mark, longest) = cc
some_byte Mark (b ∷ more) rest (mark, longest) = omega arith
some_byte Outside text rest (b, is, outside) = rw is (omega arith)

reads_whole : (kind : TokenKind) (n : ℕ) (bytes : List ℕ) → piece_of bytes ≡ Whole kind n → 1 ≤ n → read_tokens 0 bytes ≡ record { kind = kind; text = take n bytes } ∷ read_tokens 0 (drop n bytes)
reads_whole kind n [] is some = cc
reads_whole kind zero (b ∷ rest) is some = absurd (omega arith)
reads_whole kind (suc m) (b ∷ rest) is some =
    let e : suc m - 1 ≡ m = omega arith in
    let t : Lexeme = record { kind = kind; text = take (suc m) (b ∷ rest) } in
    front_is b rest (Whole kind (suc m)) is ∙ ap (λ k. t ∷ read_tokens k rest) e ∙ ap (λ ts. t ∷ ts) (skips m rest)

token_read : (t : Lexeme) (rest : List ℕ) → IsToken t.kind t.text rest → read_tokens 0 (t.text ++ rest) ≡ t ∷ read_tokens 0 rest
token_read t rest token =
    reads_whole t.kind (length t.text) (t.text ++ rest) (piece_is t.kind t.text rest token) (some_byte t.kind t.text rest token)
    ∙ ap (λ s. record { kind = t.kind; text = s } ∷ read_tokens 0 (drop (length t.text) (t.text ++ rest))) (take_front t.text rest)
    ∙ ap (λ s. t ∷ read_tokens 0 s) (drop_front t.text rest)

pass_blanks : (blanks bytes : List ℕ) → AreBlanks blanks → read_tokens 0 (blanks ++ bytes) ≡ read_tokens 0 bytes
pass_blanks [] bytes are = refl
pass_blanks (b ∷ blanks) bytes are =
    front_is b (blanks ++ bytes) Blank (blank_piece b (blanks ++ bytes) (left_true (is_blank b) (list_all is_blank blanks) are))
    ∙ pass_blanks blanks bytes (right_true (is_blank b) (list_all is_blank blanks) are)

comment_read : (bytes : List ℕ) → IsComment bytes → read_tokens 0 bytes ≡ []
unfolding read_tokens
comment_read bytes (inl none) = rw none refl
comment_read bytes (inr (text, is)) = rw is (front_is 35 text Comment (comment_piece text))

-- whatever tokens are printed there are those that are read
pub tokens_complete : (ts : List Lexeme) (row : List ℕ) → IsPrinted ts row → row_tokens row ≡ ts
tokens_complete [] row (blanks, rest, are, comment, parts) = ap (read_tokens 0) parts ∙ pass_blanks blanks rest are ∙ comment_read rest comment
tokens_complete (t ∷ ts) row (blanks, rest, are, token, others, parts) =
    ap (read_tokens 0) parts ∙ pass_blanks blanks (t.text ++ rest) are ∙ token_read t rest token ∙ ap (λ us. t ∷ us) (tokens_complete ts rest others)

-- the blanks at the front make no difference
pub drop_blanks : (row : List ℕ) → row_tokens (drop (prefix_len is_blank row) row) ≡ row_tokens row
drop_blanks row = sym (ap row_tokens (blanks_part row) ∙ pass_blanks (take_while is_blank row) (drop (prefix_len is_blank row) row) (blanks_front row))
