-- Words of a line that stand apart by single blanks.
use Rattle.std.proofs.Common.{◌≡◌, ℕ, Bool, true, false, not, ◌||◌, ◌==◌, cond, eqb, List, [], ◌∷◌, ◌++◌, map, refl, ◌∙◌, ap}
use Rattle.std.proofs.lemmas.Bool.{cond-false, and_parts, or_parts, not-true, not_from_false}
use Rattle.std.proofs.lemmas.List.{append_assoc}
use Rattle.std.specs.List.{list_all, flat_map}
use Rattle.hk_cnf.specs.Text.{words_of, word_before, with_first, is_blank}
use Rattle.hk_cert_lines.specs.Words.{is_spaced}
use Rattle.hk_cert_law.proofs.Lines.{is_inner, is_one_line, all_append, all_weaker}

-- neither a blank nor a newline
abbrev pub is_black : ℕ → Bool
is_black b = not (is_blank false b || b == 10)

-- one such byte or more
abbrev pub is_token : List ℕ → Bool
is_token [] = false
is_token (b ∷ word) = list_all is_black (b ∷ word)

-- the line has these words, with single blanks between them
pub record Spells (line : List ℕ) (ws : List (List ℕ)) : Type 0 where
  pub inner : is_one_line line ≡ true
  pub spaced : is_spaced true line ≡ true
  pub words : words_of false line ≡ ws

no_blank : (b : ℕ) → is_black b ≡ true → is_blank false b ≡ false
no_blank b h = (or_parts (is_blank false b) (eqb b 10) (not-true (is_blank false b || eqb b 10) h)).0

no_end : (b : ℕ) → is_black b ≡ true → is_inner b ≡ true
no_end b h = not_from_false (eqb b 10) (or_parts (is_blank false b) (eqb b 10) (not-true (is_blank false b || eqb b 10) h)).1

pub token_inner : (word : List ℕ) → is_token word ≡ true → is_one_line word ≡ true
token_inner [] h = refl
token_inner (b ∷ word) h = all_weaker is_black is_inner no_end (b ∷ word) h

-- ---- blanks

-- the byte is no blank: what follows is as if it stood alone
spaced_black : (behind : Bool) (b : ℕ) (rest : List ℕ) → is_black b ≡ true → is_spaced behind (b ∷ rest) ≡ is_spaced false rest
spaced_black behind b rest h =
    cond-false (is_blank false b) (cond behind false (cond (eqb b 32) (is_spaced true rest) false)) (is_spaced false rest) (no_blank b h)

spaced_run : (word rest : List ℕ) → list_all is_black word ≡ true → is_spaced false (word ++ 32 ∷ rest) ≡ is_spaced true rest
spaced_run [] rest h = refl
spaced_run (b ∷ word) rest h =
    let parts = and_parts (is_black b) (list_all is_black word) h in
    spaced_black false b (word ++ 32 ∷ rest) parts.0 ∙ spaced_run word rest parts.1

spaced_end : (word : List ℕ) → list_all is_black word ≡ true → is_spaced false word ≡ true
spaced_end [] h = refl
spaced_end (b ∷ word) h =
    let parts = and_parts (is_black b) (list_all is_black word) h in
    spaced_black false b word parts.0 ∙ spaced_end word parts.1

-- ---- words

words_run : (b : ℕ) (word rest : List ℕ) → list_all is_black (b ∷ word) ≡ true → words_of false (b ∷ word ++ 32 ∷ rest) ≡ (b ∷ word) ∷ words_of false rest
words_run b [] rest h =
    let parts = and_parts (is_black b) true h in
    cond-false (is_blank false b) (words_of false (32 ∷ rest)) (word_before false b (32 ∷ rest) (words_of false (32 ∷ rest))) (no_blank b parts.0)
words_run b (c ∷ word) rest h =
    let parts = and_parts (is_black b) (list_all is_black (c ∷ word)) h in
    let next = and_parts (is_black c) (list_all is_black word) parts.1 in
    cond-false (is_blank false b) (words_of false (c ∷ word ++ 32 ∷ rest)) (word_before false b (c ∷ word ++ 32 ∷ rest) (words_of false (c ∷ word ++ 32 ∷ rest))) (no_blank b parts.0)
    ∙ (cond-false (is_blank false c) ((b ∷ []) ∷ words_of false (c ∷ word ++ 32 ∷ rest)) (with_first b (words_of false (c ∷ word ++ 32 ∷ rest))) (no_blank c next.0)
    ∙ ap (with_first b) (words_run c word rest parts.1))

words_last : (b : ℕ) (word : List ℕ) → list_all is_black (b ∷ word) ≡ true → words_of false (b ∷ word) ≡ (b ∷ word) ∷ []
words_last b [] h =
    let parts = and_parts (is_black b) true h in
    cond-false (is_blank false b) [] (word_before false b [] []) (no_blank b parts.0)
words_last b (c ∷ word) h =
    let parts = and_parts (is_black b) (list_all is_black (c ∷ word)) h in
    let next = and_parts (is_black c) (list_all is_black word) parts.1 in
    cond-false (is_blank false b) (words_of false (c ∷ word)) (word_before false b (c ∷ word) (words_of false (c ∷ word))) (no_blank b parts.0)
    ∙ (cond-false (is_blank false c) ((b ∷ []) ∷ words_of false (c ∷ word)) (with_first b (words_of false (c ∷ word))) (no_blank c next.0)
    ∙ ap (with_first b) (words_last c word parts.1))

pub word_put : (word rest : List ℕ) → is_token word ≡ true → words_of false (word ++ 32 ∷ rest) ≡ word ∷ words_of false rest
word_put [] rest h = absurd (cc h)
word_put (b ∷ word) rest h = words_run b word rest h

pub word_last : (word : List ℕ) → is_token word ≡ true → words_of false word ≡ word ∷ []
word_last [] h = absurd (cc h)
word_last (b ∷ word) h = words_last b word h

-- ---- lines of words

spaced_put : (word rest : List ℕ) → is_token word ≡ true → is_spaced true (word ++ 32 ∷ rest) ≡ is_spaced true rest
spaced_put [] rest h = absurd (cc h)
spaced_put (b ∷ word) rest h =
    let parts = and_parts (is_black b) (list_all is_black word) h in
    spaced_black true b (word ++ 32 ∷ rest) parts.0 ∙ spaced_run word rest parts.1

spaced_last : (word : List ℕ) → is_token word ≡ true → is_spaced true word ≡ true
spaced_last [] h = absurd (cc h)
spaced_last (b ∷ word) h =
    let parts = and_parts (is_black b) (list_all is_black word) h in
    spaced_black true b word parts.0 ∙ spaced_end word parts.1

-- one word
pub spells_last : (word : List ℕ) → is_token word ≡ true → Spells word (word ∷ [])
spells_last word h = record { inner = token_inner word h; spaced = spaced_last word h; words = word_last word h }

-- a word and a blank before a line of words
pub spells_put : (word line : List ℕ) (words : List (List ℕ)) → is_token word ≡ true → Spells line words → Spells (word ++ 32 ∷ line) (word ∷ words)
spells_put word line words h s = record {
  inner = all_append is_inner word (32 ∷ line) (token_inner word h) s.inner;
  spaced = spaced_put word line h ∙ s.spaced;
  words = word_put word line h ∙ ap (λ ws. word ∷ ws) s.words;
}

-- words with a blank behind each
abbrev pub apart : List ℕ → List ℕ
apart word = word ++ 32 ∷ []

pub words_apart : {X : Type 0} (f : X → List ℕ) (xs : List X) (rest : List ℕ) → list_all (λ x. is_token (f x)) xs ≡ true
    → words_of false (flat_map (λ x. apart (f x)) xs ++ rest) ≡ map f xs ++ words_of false rest
words_apart f [] rest h = refl
words_apart f (x ∷ xs) rest h =
    let parts = and_parts (is_token (f x)) (list_all (λ x. is_token (f x)) xs) h in
    ap (words_of false) (append_assoc (apart (f x)) (flat_map (λ x. apart (f x)) xs) rest ∙ append_assoc (f x) (32 ∷ []) (flat_map (λ x. apart (f x)) xs ++ rest))
    ∙ word_put (f x) (flat_map (λ x. apart (f x)) xs ++ rest) parts.0
    ∙ ap (λ ws. f x ∷ ws) (words_apart f xs rest parts.1)

pub inner_apart : {X : Type 0} (f : X → List ℕ) (xs : List X) → list_all (λ x. is_token (f x)) xs ≡ true → is_one_line (flat_map (λ x. apart (f x)) xs) ≡ true
inner_apart f [] h = refl
inner_apart f (x ∷ xs) h =
    let parts = and_parts (is_token (f x)) (list_all (λ x. is_token (f x)) xs) h in
    all_append is_inner (apart (f x)) (flat_map (λ x. apart (f x)) xs) (all_append is_inner (f x) (32 ∷ []) (token_inner (f x) parts.0) refl) (inner_apart f xs parts.1)
