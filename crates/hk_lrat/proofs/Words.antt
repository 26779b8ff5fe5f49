-- Words of digits at the front of a line.
use Rattle.std.proofs.Common.{◌≡◌, ℕ, suc, ◌+◌, ◌-◌, ◌<◌, ◌≤◌, ◌^◌, Bool, true, false, not, ◌&&◌, ◌||◌, cond, eqb, leb, List, [], ◌∷◌, ◌++◌, length, take, drop, get_or, pos, Some, None, refl, sym, ◌∙◌, ap, subst, arith}
use Rattle.std.proofs.lemmas.Bool.{false≢true, and_parts, and_from, cond-true, cond-false, leb-true, eqb-true}
use Rattle.std.proofs.lemmas.List.{take-append-drop, take_all, length-append}
use Rattle.std.proofs.lemmas.List.Sums.{prefix_len_is}
use Rattle.std.specs.List.{list_all, prefix_len}
use Rattle.std.proofs.lemmas.Str.{digit_value_digit}
use Rattle.std.specs.Char.{is_ascii_digit, digit_value}
use Rattle.std.specs.Str.{all_ascii_digits}
use Rattle.std.specs.Str.Parse.{digits_value}
use Rattle.memchr.specs.Find.{IsFirstByte, is_byte}
use Rattle.hk_cnf.specs.Text.{with_first, is_blank, with_sign, word_before, words_of, natural_of}
use Rattle.hk_cnf.proofs.Splits.{natural-all}
use Rattle.hk_lrat.specs.LogText.{is_end, hint_in}
use Rattle.hk_lrat.specs.declared.token.Token.TheVariants.{End, Natural, Minus}
use Rattle.hk_lrat.specs.Tokens.{ends_word, IsNumber, IsToken}

-- a word that ends where a blank stands, or at the end
word-joined : (b : ℕ) (w rest : List ℕ) → is_blank false b ≡ false → list_all (λ c. not (is_blank false c)) w ≡ true → ends_word rest ≡ true → words_of false (b ∷ w ++ rest) ≡ (b ∷ w) ∷ words_of false rest
word-joined b [] [] h all e = cond-false (is_blank false b) (words_of false []) (word_before false b [] (words_of false [])) h
word-joined b [] (c ∷ rest) h all e =
    cond-false (is_blank false b) (words_of false (c ∷ rest)) (word_before false b (c ∷ rest) (words_of false (c ∷ rest))) h
    ∙ cond-true (is_blank false c) ((b ∷ []) ∷ words_of false (c ∷ rest)) (with_first b (words_of false (c ∷ rest))) e
word-joined b (c ∷ w) rest h all e =
    let parts = and_parts (not (is_blank false c)) (list_all (λ c. not (is_blank false c)) w) all in
    let blank : is_blank false c ≡ false = unblank (is_blank false c) parts.0 in
    cond-false (is_blank false b) (words_of false (c ∷ w ++ rest)) (word_before false b (c ∷ w ++ rest) (words_of false (c ∷ w ++ rest))) h
    ∙ (cond-false (is_blank false c) ((b ∷ []) ∷ words_of false (c ∷ w ++ rest)) (with_first b (words_of false (c ∷ w ++ rest))) blank
    ∙ ap (with_first b) (word-joined c w rest blank parts.1 e))
  where
    unblank : (s : Bool) → not s ≡ true → s ≡ false
    unblank true h = absurd (false≢true h)
    unblank false h = refl

apart : (b k : ℕ) → 48 ≤ b → k < 48 → eqb b k ≡ false
apart b k h lt = pick (eqb b k) refl
  where
    pick : (s : Bool) → eqb b k ≡ s → s ≡ false
    pick false e = refl
    pick true e = let same : b ≡ k = eqb-true b k e in absurd (omega (arith, same, h, lt))

digit-blank : (b : ℕ) → is_ascii_digit b ≡ true → is_blank false b ≡ false
digit-blank b h =
    let low : 48 ≤ b = leb-true 48 b (and_parts (leb 48 b) (leb b 57) h).0 in
    ap (λ s. s || (eqb b 9 || (false && eqb b 13))) (apart b 32 low (omega arith)) ∙ ap (λ s. s || (false && eqb b 13)) (apart b 9 low (omega arith))

digits-blank : (w : List ℕ) → all_ascii_digits w ≡ true → list_all (λ c. not (is_blank false c)) w ≡ true
digits-blank [] h = refl
digits-blank (b ∷ w) h =
    let parts = and_parts (is_ascii_digit b) (all_ascii_digits w) h in
    and_from (not (is_blank false b)) (list_all (λ c. not (is_blank false c)) w) (ap not (digit-blank b parts.0)) (digits-blank w parts.1)

-- a number's word is no lone 0
zero-apart : (n : ℕ) → 0 < n → natural_of (2 ^ 63 - 1) (48 ∷ []) ≡ Some n → ⊥
zero-apart n h e =
    let zero-is : Some 0 ≡ Some n = e in
    let same : 0 ≡ n = cc in
    omega (arith, same, h)

number-word : (w : List ℕ) (n : ℕ) → natural_of (2 ^ 63 - 1) w ≡ Some n → 0 < n → is_end w ≡ false
number-word [] n e h = refl
number-word (b ∷ []) n e h = pick (eqb b 48) refl
  where
    pick : (s : Bool) → eqb b 48 ≡ s → s && true ≡ false
    pick false k = refl
    pick true k = absurd (zero-apart n h (subst (λ b. natural_of (2 ^ 63 - 1) (b ∷ []) ≡ Some n) (eqb-true b 48 k) e))
number-word (b ∷ c ∷ w) n e h = none (eqb b 48)
  where
    none : (s : Bool) → s && false ≡ false
    none true = refl
    none false = refl

-- a number at the front is the first word
no-number : (n : ℕ) → natural_of (2 ^ 63 - 1) [] ≡ Some n → ⊥
no-number n e =
    let none-is : None ≡ Some n = e in
    cc

natural-at : (w line rest : List ℕ) (n : ℕ) → line ≡ w ++ rest → all_ascii_digits w ≡ true → natural_of (2 ^ 63 - 1) w ≡ Some n → 0 < n → n < 2 ^ 63 → ends_word rest ≡ true → IsToken line rest (Natural n)
natural-at [] line rest n parts digits value positive small ends = absurd (no-number n value)
natural-at (b ∷ w) line rest n parts digits value positive small ends =
    let each = and_parts (is_ascii_digit b) (all_ascii_digits w) digits in
    let low : 48 ≤ b = leb-true 48 b (and_parts (leb 48 b) (leb b 57) each.0).0 in
    let words : words_of false line ≡ (b ∷ w) ∷ words_of false rest = ap (words_of false) parts ∙ word-joined b w rest (digit-blank b each.0) (digits-blank w each.1) ends in
    let number : hint_in (b ∷ w) ≡ Some (pos n) = ap (λ s. with_sign s (natural_of (2 ^ 63 - 1) (cond s w (b ∷ w)))) (apart b 45 low (omega arith)) ∙ ap (with_sign false) value in
    record {
      word = b ∷ w;
      words = words;
      says = record { ending = number-word (b ∷ w) n value positive; id = value; number = number; small = small };
    }

pub natural-token : (line rest : List ℕ) (n : ℕ) → IsNumber line rest n → IsToken line rest (Natural n)
natural-token line rest n h = natural-at h.word line rest n h.parts h.digits h.value h.positive h.small h.ends

minus-token : (line rest : List ℕ) (n : ℕ) → IsNumber line rest n → IsToken (45 ∷ line) rest (Minus n)
minus-token line rest n h =
    record {
      word = 45 ∷ h.word;
      words = ap (λ l. words_of false (45 ∷ l)) h.parts ∙ word-joined 45 h.word rest refl (digits-blank h.word h.digits) h.ends;
      says = record { ending = refl; id = refl; number = ap (with_sign true) h.value; small = h.small };
    }

end-token : (rest : List ℕ) → ends_word rest ≡ true → IsToken (48 ∷ rest) rest End
end-token rest h =
    record {
      word = 48 ∷ [];
      words = word-joined 48 [] rest refl refl h;
      says = record { ending = refl; id = refl; number = refl; small = omega arith };
    }

shorter-at : (w line rest : List ℕ) (n : ℕ) → line ≡ w ++ rest → natural_of (2 ^ 63 - 1) w ≡ Some n → length rest < length line
shorter-at [] line rest n parts value = absurd (no-number n value)
shorter-at (b ∷ w) line rest n parts value =
    let size : length line ≡ suc (length w + length rest) = ap length parts ∙ ap suc (length-append w rest) in
    omega (arith, size)

pub number-shorter : (line rest : List ℕ) (n : ℕ) → IsNumber line rest n → length rest < length line
number-shorter line rest n h = shorter-at h.word line rest n h.parts h.value

-- the digits that were read
whole-number : (w : List ℕ) (v : ℕ) → all_ascii_digits w ≡ true → v ≡ digits_value 10 w → v ≤ 2 ^ 63 - 1 → 0 < v → natural_of (2 ^ 63 - 1) w ≡ Some v
whole-number [] v d e small positive =
    let none : v ≡ 0 = e in
    absurd (omega (arith, none, positive))
whole-number (b ∷ w) v d e small positive =
    let all : take (length (b ∷ w)) (b ∷ w) ≡ b ∷ w = take_all (length (b ∷ w)) (b ∷ w) (omega arith) in
    sym (natural-all (2 ^ 63 - 1) (b ∷ w) (length (b ∷ w)) v (omega arith) (omega arith) (ap all_ascii_digits all ∙ d) (e ∙ ap (digits_value 10) (sym all)) small)

pub number-read : (line rest : List ℕ) (i v : ℕ) → all_ascii_digits (take i line) ≡ true → v ≡ digits_value 10 (take i line) → v ≤ 2 ^ 63 - 1 → rest ≡ drop i line → 0 < v → ends_word rest ≡ true → IsNumber line rest v
number-read line rest i v d e small r positive ends =
    record {
      word = take i line;
      parts = sym (take-append-drop i line) ∙ ap (λ x. take i line ++ x) (sym r);
      digits = d;
      value = whole-number (take i line) v d e small positive;
      positive = positive;
      small = omega (arith, small);
      ends = ends;
    }

-- a digit more
pub digit-is : (b d : ℕ) → is_ascii_digit b ≡ true → d ≡ b - 48 → d ≡ digit_value b
digit-is b d h e =
    let parts = and_parts (leb 48 b) (leb b 57) h in
    let low : 48 ≤ b = leb-true 48 b parts.0 in
    let high : b ≤ 57 = leb-true b 57 parts.1 in
    let value = digit_value_digit b (low, high) in
    omega (arith, e, low, value)

pub digit-small : (b d : ℕ) → is_ascii_digit b ≡ true → d ≡ b - 48 → d ≤ 9
digit-small b d h e =
    let high : b ≤ 57 = leb-true b 57 (and_parts (leb 48 b) (leb b 57) h).1 in
    omega (arith, e, high)

-- a byte at the front
front-byte : (line : List ℕ) (b : ℕ) → 1 ≤ length line → get_or line 0 0 ≡ b → line ≡ b ∷ take (length line - 1) (drop 1 line)
front-byte [] b h e = absurd (omega (arith, h))
front-byte (x ∷ line) b h e =
    let all : take (length line) line ≡ line = take_all (length line) line (omega arith) in
    let one : length (x ∷ line) - 1 ≡ length line = omega arith in
    ap (λ y. y ∷ line) e ∙ (ap (λ l. b ∷ l) (sym all) ∙ ap (λ n. b ∷ take n line) (sym one))

pub end-at : (line : List ℕ) → 1 ≤ length line → get_or line 0 0 ≡ 48 → ends_word (take (length line - 1) (drop 1 line)) ≡ true → IsToken line (take (length line - 1) (drop 1 line)) End
end-at line h e ends = subst (λ l. IsToken l (take (length line - 1) (drop 1 line)) End) (sym (front-byte line 48 h e)) (end-token (take (length line - 1) (drop 1 line)) ends)

pub minus-at : (line rest : List ℕ) (n : ℕ) → 1 ≤ length line → get_or line 0 0 ≡ 45 → IsNumber (take (length line - 1) (drop 1 line)) rest n → IsToken line rest (Minus n)
minus-at line rest n h e found = subst (λ l. IsToken l rest (Minus n)) (sym (front-byte line 45 h e)) (minus-token (take (length line - 1) (drop 1 line)) rest n found)

-- the place of the first newline
pub found-line : (text : List ℕ) (n : ℕ) → IsFirstByte (is_byte 10) text (Some n) → n ≡ prefix_len (λ b. not (eqb b 10)) text
found-line text n h =
    sym (prefix_len_is (λ b. not (eqb b 10)) text n 0 (omega (arith, h.0.high)) (λ k lt. passes (eqb (get_or text k 0) 10) (h.0.before k (omega arith) lt)) (λ lt. ap not h.1))
  where
    passes : (s : Bool) → (s ≡ true → ⊥) → not s ≡ true
    passes true h = absurd (h refl)
    passes false h = refl

pub whole-line : (text : List ℕ) → IsFirstByte (is_byte 10) text None → length text ≡ prefix_len (λ b. not (eqb b 10)) text
whole-line text h =
    sym (prefix_len_is (λ b. not (eqb b 10)) text (length text) 0 (omega arith) (λ k lt. passes (eqb (get_or text k 0) 10) (h k (omega arith) lt)) (λ lt. absurd (omega (arith, lt))))
  where
    passes : (s : Bool) → (s ≡ true → ⊥) → not s ≡ true
    passes true h = absurd (h refl)
    passes false h = refl
