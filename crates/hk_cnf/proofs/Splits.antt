-- The first line of a text, the first word of a line, and the digits of a word.
use Rattle.std.proofs.Common.{◌≡◌, ℕ, zero, suc, ◌+◌, ◌*◌, ◌-◌, ◌<◌, ◌≤◌, Bool, true, false, not, ◌&&◌, cond, eqb, leb, List, [], ◌∷◌, ◌++◌, length, take, drop, get_or, Some, None, refl, sym, ◌∙◌, ap, subst, inl, inr, arith}
use Rattle.std.proofs.lemmas.Bool.{and_left, and_right, and_from, lt-leb, le-leb, cond-true, cond-false}
use Rattle.std.proofs.lemmas.List.{take_more, take_all, nil_from_length, length-drop}
use Rattle.std.proofs.lemmas.Int.Digits.{digits_value_more}
use Rattle.std.proofs.lemmas.Str.Parse.{digits_value-take-le}
use Rattle.std.specs.List.{prefix_len}
use Rattle.std.specs.Char.{is_ascii_digit, digit_value}
use Rattle.std.specs.Str.{all_ascii_digits}
use Rattle.std.specs.Str.Parse.{digits_value}
use Rattle.hk_cnf.specs.Text.{with_first, lines_of, is_blank, word_before, words_of, is_numeral, natural_of, Refuses}

-- the bytes before the first newline, and what follows it
pub line_size : List ℕ → ℕ
line_size text = prefix_len (λ b. not (eqb b 10)) text

suc-is : (n : ℕ) → 1 + n ≡ suc n
suc-is n = omega arith

pub lines-split : (text : List ℕ) → 0 < length text → lines_of text ≡ take (prefix_len (λ b. not (eqb b 10)) text) text ∷ lines_of (drop 1 (drop (prefix_len (λ b. not (eqb b 10)) text) text))
lines-split [] h = absurd (omega arith)
lines-split (b ∷ text) h = pick text (eqb b 10) (λ k. lines-split text k)
  where
    pick : (rest : List ℕ) (s : Bool) → (0 < length rest → lines_of rest ≡ take (prefix_len (λ b. not (eqb b 10)) rest) rest ∷ lines_of (drop 1 (drop (prefix_len (λ b. not (eqb b 10)) rest) rest))) →
        cond s ([] ∷ lines_of rest) (with_first b (lines_of rest)) ≡ take (cond (not s) (1 + prefix_len (λ b. not (eqb b 10)) rest) 0) (b ∷ rest) ∷ lines_of (drop 1 (drop (cond (not s) (1 + prefix_len (λ b. not (eqb b 10)) rest) 0) (b ∷ rest)))
    pick rest true go = refl
    pick [] false go = refl
    pick (c ∷ rest) false go =
        rw (suc-is (prefix_len (λ b. not (eqb b 10)) (c ∷ rest))) (ap (with_first b) (go (omega arith)))

pub words-skip : (returns : Bool) (line : List ℕ) → words_of returns line ≡ words_of returns (drop (prefix_len (is_blank returns) line) line)
words-skip returns [] = refl
words-skip returns (b ∷ line) = pick (is_blank returns b) refl (words-skip returns line)
  where
    pick : (s : Bool) → is_blank returns b ≡ s → words_of returns line ≡ words_of returns (drop (prefix_len (is_blank returns) line) line) →
        words_of returns (b ∷ line) ≡ words_of returns (drop (cond s (1 + prefix_len (is_blank returns) line) 0) (b ∷ line))
    pick true e r = ap (λ x. cond x (words_of returns line) (word_before returns b line (words_of returns line))) e ∙ rw (suc-is (prefix_len (is_blank returns) line)) r
    pick false e r = refl

-- a word at the front
word-split : (returns : Bool) (b : ℕ) (line : List ℕ) → is_blank returns b ≡ false → words_of returns (b ∷ line) ≡ take (suc (prefix_len (λ c. not (is_blank returns c)) line)) (b ∷ line) ∷ words_of returns (drop (suc (prefix_len (λ c. not (is_blank returns c)) line)) (b ∷ line))
word-split returns b [] e = ap (λ x. cond x (words_of returns []) (word_before returns b [] (words_of returns []))) e
word-split returns b (c ∷ line) e =
    ap (λ x. cond x (words_of returns (c ∷ line)) (word_before returns b (c ∷ line) (words_of returns (c ∷ line)))) e
    ∙ pick (is_blank returns c) refl (word-split returns c line)
  where
    pick : (s : Bool) → is_blank returns c ≡ s →
        (is_blank returns c ≡ false → words_of returns (c ∷ line) ≡ take (suc (prefix_len (λ c. not (is_blank returns c)) line)) (c ∷ line) ∷ words_of returns (drop (suc (prefix_len (λ c. not (is_blank returns c)) line)) (c ∷ line))) →
        cond s ((b ∷ []) ∷ words_of returns (c ∷ line)) (with_first b (words_of returns (c ∷ line)))
        ≡ take (suc (cond (not s) (1 + prefix_len (λ c. not (is_blank returns c)) line) 0)) (b ∷ c ∷ line) ∷ words_of returns (drop (suc (cond (not s) (1 + prefix_len (λ c. not (is_blank returns c)) line) 0)) (b ∷ c ∷ line))
    pick true s go = refl
    pick false s go = rw (suc-is (prefix_len (λ c. not (is_blank returns c)) line)) (ap (with_first b) (go s))

-- the first word of a line, after its blanks
pub words-split : (returns : Bool) (line : List ℕ) → 0 < length (drop (prefix_len (is_blank returns) line) line) →
    words_of returns line ≡ take (prefix_len (λ c. not (is_blank returns c)) (drop (prefix_len (is_blank returns) line) line)) (drop (prefix_len (is_blank returns) line) line)
    ∷ words_of returns (drop (prefix_len (λ c. not (is_blank returns c)) (drop (prefix_len (is_blank returns) line) line)) (drop (prefix_len (is_blank returns) line) line))
words-split returns [] h = absurd (omega arith)
words-split returns (b ∷ line) h = pick (is_blank returns b) refl (words-split returns line) h
  where
    pick : (s : Bool) → is_blank returns b ≡ s →
        (0 < length (drop (prefix_len (is_blank returns) line) line) →
        words_of returns line ≡ take (prefix_len (λ c. not (is_blank returns c)) (drop (prefix_len (is_blank returns) line) line)) (drop (prefix_len (is_blank returns) line) line)
        ∷ words_of returns (drop (prefix_len (λ c. not (is_blank returns c)) (drop (prefix_len (is_blank returns) line) line)) (drop (prefix_len (is_blank returns) line) line))) →
        0 < length (drop (cond s (1 + prefix_len (is_blank returns) line) 0) (b ∷ line)) →
        words_of returns (b ∷ line) ≡ take (prefix_len (λ c. not (is_blank returns c)) (drop (cond s (1 + prefix_len (is_blank returns) line) 0) (b ∷ line))) (drop (cond s (1 + prefix_len (is_blank returns) line) 0) (b ∷ line))
        ∷ words_of returns (drop (prefix_len (λ c. not (is_blank returns c)) (drop (cond s (1 + prefix_len (is_blank returns) line) 0) (b ∷ line))) (drop (cond s (1 + prefix_len (is_blank returns) line) 0) (b ∷ line)))
    pick true e go lt =
        let n : 1 + prefix_len (is_blank returns) line ≡ suc (prefix_len (is_blank returns) line) = suc-is (prefix_len (is_blank returns) line) in
        ap (λ x. cond x (words_of returns line) (word_before returns b line (words_of returns line))) e
        ∙ rw n (go (subst (λ k. 0 < length (drop k (b ∷ line))) n lt))
    pick false e go lt =
        let n : cond (not (is_blank returns b)) (1 + prefix_len (λ c. not (is_blank returns c)) line) 0 ≡ suc (prefix_len (λ c. not (is_blank returns c)) line) =
        ap (λ x. cond (not x) (1 + prefix_len (λ c. not (is_blank returns c)) line) 0) e ∙ suc-is (prefix_len (λ c. not (is_blank returns c)) line) in
        rw n (word-split returns b line e)

-- numbers
digits-front : (p q : List ℕ) → all_ascii_digits (p ++ q) ≡ (all_ascii_digits p && all_ascii_digits q)
digits-front [] q = refl
digits-front (b ∷ p) q = ap (λ x. is_ascii_digit b && x) (digits-front p q) ∙ assoc (is_ascii_digit b) (all_ascii_digits p) (all_ascii_digits q)
  where
    assoc : (x y z : Bool) → x && (y && z) ≡ x && y && z
    assoc true y z = refl
    assoc false y z = refl

numeral-is : (word : List ℕ) → 0 < length word → is_numeral word ≡ all_ascii_digits word
numeral-is [] h = absurd (omega arith)
numeral-is (b ∷ word) h = refl

digits-at : (word : List ℕ) (i : ℕ) → i < length word → is_ascii_digit (get_or word i 0) ≡ false → all_ascii_digits word ≡ false
digits-at [] i h e = absurd (omega arith)
digits-at (b ∷ word) zero h e = and_left (is_ascii_digit b) (all_ascii_digits word) e
digits-at (b ∷ word) (suc i) h e = and_right (is_ascii_digit b) (all_ascii_digits word) (digits-at word i (omega arith) e)

natural-none : (most : ℕ) (word : List ℕ) → is_numeral word && leb (digits_value 10 word) most ≡ false → None ≡ natural_of most word
natural-none most word h = sym (cond-false (is_numeral word && leb (digits_value 10 word) most) (Some (digits_value 10 word)) None h)

-- a byte that is refused
pub natural-refused : (most : ℕ) (word : List ℕ) (i v : ℕ) → i < length word → v ≡ digits_value 10 (take i word) → Refuses v (get_or word i 0) most → None ≡ natural_of most word
natural-refused most word i v h e (inl n) =
    natural-none most word (and_left (is_numeral word) (leb (digits_value 10 word) most) (numeral-is word (omega (arith, h)) ∙ digits-at word i h n))
natural-refused most word i v h e (inr n) =
    let more : digits_value 10 (take (i + 1) word) ≡ digits_value 10 (take i word) * 10 + digit_value (get_or word i 0) = digits_value_more 10 word i h in
    let le : digits_value 10 (take (i + 1) word) ≤ digits_value 10 word = digits_value-take-le 10 word (i + 1) (omega arith) in
    let lt : most < digits_value 10 word = omega (arith, more, le, n, e) in
    natural-none most word (and_right (is_numeral word) (leb (digits_value 10 word) most) (lt-leb (digits_value 10 word) most lt))

pub natural-more : (most : ℕ) (word : List ℕ) (i v w : ℕ) → i < length word → all_ascii_digits (take i word) ≡ true → v ≡ digits_value 10 (take i word) → is_ascii_digit (get_or word i 0) ≡ true → w ≡ v * 10 + digit_value (get_or word i 0) → (all_ascii_digits (take (i + 1) word) ≡ true) × (w ≡ digits_value 10 (take (i + 1) word))
natural-more most word i v w h d e b f = (
  ap all_ascii_digits (take_more word i 0 h) ∙ (digits-front (take i word) (get_or word i 0 ∷ []) ∙ and_from (all_ascii_digits (take i word)) (is_ascii_digit (get_or word i 0) && true) d (and_from (is_ascii_digit (get_or word i 0)) true b refl)),
  (let more : digits_value 10 (take (i + 1) word) ≡ digits_value 10 (take i word) * 10 + digit_value (get_or word i 0) = digits_value_more 10 word i h in omega (arith, more, e, f)),
)

pub natural-all : (most : ℕ) (word : List ℕ) (i v : ℕ) → 0 < length word → length word ≤ i → all_ascii_digits (take i word) ≡ true → v ≡ digits_value 10 (take i word) → v ≤ most → Some v ≡ natural_of most word
natural-all most word i v n h d e le =
    let all : take i word ≡ word = take_all i word h in
    let value : v ≡ digits_value 10 word = e ∙ ap (digits_value 10) all in
    ap Some value ∙ sym (cond-true (is_numeral word && leb (digits_value 10 word) most) (Some (digits_value 10 word)) None
    (and_from (is_numeral word) (leb (digits_value 10 word) most) (numeral-is word n ∙ (ap all_ascii_digits (sym all) ∙ d)) (le-leb (digits_value 10 word) most (omega (arith, value, le)))))

pub prefix-within : {X : Type 0} (p : X → Bool) (xs : List X) → prefix_len p xs ≤ length xs
prefix-within p [] = omega arith
prefix-within p (x ∷ xs) = pick (p x) (prefix-within p xs)
  where
    pick : (b : Bool) → prefix_len p xs ≤ length xs → cond b (1 + prefix_len p xs) 0 ≤ suc (length xs)
    pick true h = omega (arith, h)
    pick false h = omega arith

-- the first line as the code cuts it
pub first-line : (text line rest after : List ℕ) (n : ℕ) → 0 < length text → n ≡ prefix_len (λ b. not (eqb b 10)) text → line ≡ take n text → rest ≡ drop n text → after ≡ drop 1 rest → lines_of text ≡ line ∷ lines_of after
first-line text line rest after n h e l r a =
    let k : prefix_len (λ b. not (eqb b 10)) text ≡ n = sym e in
    lines-split text h
    ∙ (ap (λ k. take k text ∷ lines_of (drop 1 (drop k text))) k
    ∙ (ap (λ x. x ∷ lines_of (drop 1 (drop n text))) (sym l)
    ∙ ap (λ x. line ∷ lines_of x) (ap (drop 1) (sym r) ∙ sym a)))

pub drop-nil : (rest : List ℕ) → length rest < 1 → rest ≡ drop 1 rest
drop-nil [] h = refl
drop-nil (b ∷ rest) h = absurd (omega arith)

-- the first word as the code cuts it
pub no-word : (returns : Bool) (line rest : List ℕ) (n : ℕ) → n ≡ prefix_len (is_blank returns) line → rest ≡ drop n line → length rest ≡ 0 → words_of returns line ≡ []
no-word returns line rest n e r z =
    let nil : drop (prefix_len (is_blank returns) line) line ≡ [] = ap (λ k. drop k line) (sym e) ∙ (sym r ∙ nil_from_length rest z) in
    words-skip returns line ∙ ap (words_of returns) nil

pub first-word : (returns : Bool) (line rest word after : List ℕ) (n k : ℕ) → n ≡ prefix_len (is_blank returns) line → rest ≡ drop n line → 0 < length rest → k ≡ prefix_len (λ c. not (is_blank returns c)) rest → word ≡ take k rest → after ≡ drop k rest → words_of returns line ≡ word ∷ words_of returns after
first-word returns line rest word after n k e r z f w a =
    let same : drop (prefix_len (is_blank returns) line) line ≡ rest = ap (λ k. drop k line) (sym e) ∙ sym r in
    let lt : 0 < length (drop (prefix_len (is_blank returns) line) line) = subst (λ x. 0 < length x) (sym same) z in
    words-split returns line lt
    ∙ (ap (λ x. take (prefix_len (λ c. not (is_blank returns c)) x) x ∷ words_of returns (drop (prefix_len (λ c. not (is_blank returns c)) x) x)) same
    ∙ (ap (λ k. take k rest ∷ words_of returns (drop k rest)) (sym f)
    ∙ (ap (λ x. x ∷ words_of returns (drop k rest)) (sym w) ∙ ap (λ x. word ∷ words_of returns x) (sym a))))

word-positive : (returns : Bool) (line : List ℕ) → 0 < length (drop (prefix_len (is_blank returns) line) line) → 0 < prefix_len (λ c. not (is_blank returns c)) (drop (prefix_len (is_blank returns) line) line)
word-positive returns [] h = h
word-positive returns (b ∷ line) h = pick (is_blank returns b) refl (word-positive returns line) h
  where
    pick : (s : Bool) → is_blank returns b ≡ s →
        (0 < length (drop (prefix_len (is_blank returns) line) line) → 0 < prefix_len (λ c. not (is_blank returns c)) (drop (prefix_len (is_blank returns) line) line)) →
        0 < length (drop (cond s (1 + prefix_len (is_blank returns) line) 0) (b ∷ line)) → 0 < prefix_len (λ c. not (is_blank returns c)) (drop (cond s (1 + prefix_len (is_blank returns) line) 0) (b ∷ line))
    pick true e go lt =
        let n : 1 + prefix_len (is_blank returns) line ≡ suc (prefix_len (is_blank returns) line) = suc-is (prefix_len (is_blank returns) line) in
        rw n (go (subst (λ k. 0 < length (drop k (b ∷ line))) n lt))
    pick false e go lt =
        let n : cond (not (is_blank returns b)) (1 + prefix_len (λ c. not (is_blank returns c)) line) 0 ≡ suc (prefix_len (λ c. not (is_blank returns c)) line) =
        ap (λ x. cond (not x) (1 + prefix_len (λ c. not (is_blank returns c)) line) 0) e ∙ suc-is (prefix_len (λ c. not (is_blank returns c)) line) in
        rw n (omega arith)

pub word-shorter : (returns : Bool) (line rest after : List ℕ) (n k : ℕ) → n ≡ prefix_len (is_blank returns) line → rest ≡ drop n line → 0 < length rest → k ≡ prefix_len (λ c. not (is_blank returns c)) rest → after ≡ drop k rest → length after < length line
word-shorter returns line rest after n k e r z f a =
    let same : drop (prefix_len (is_blank returns) line) line ≡ rest = ap (λ k. drop k line) (sym e) ∙ sym r in
    let pos : 0 < prefix_len (λ c. not (is_blank returns c)) rest = subst (λ x. 0 < prefix_len (λ c. not (is_blank returns c)) x) same (word-positive returns line (subst (λ x. 0 < length x) (sym same) z)) in
    let l : length rest ≡ length line - n = ap length r ∙ length-drop n line in
    let m : length after ≡ length rest - k = ap length a ∙ length-drop k rest in
    omega (arith, pos, l, m, z, f)

pub not-numeral : (word : List ℕ) (i : ℕ) → i < length word → is_ascii_digit (get_or word i 0) ≡ false → false ≡ is_numeral word
not-numeral word i h e = sym (numeral-is word (omega (arith, h)) ∙ digits-at word i h e)

pub digits-more : (word : List ℕ) (i : ℕ) → i < length word → all_ascii_digits (take i word) ≡ true → is_ascii_digit (get_or word i 0) ≡ true → all_ascii_digits (take (i + 1) word) ≡ true
digits-more word i h d b =
    ap all_ascii_digits (take_more word i 0 h) ∙ (digits-front (take i word) (get_or word i 0 ∷ []) ∙ and_from (all_ascii_digits (take i word)) (is_ascii_digit (get_or word i 0) && true) d (and_from (is_ascii_digit (get_or word i 0)) true b refl))
