-- A written clause list is read back as the same list.
use Rattle.std.proofs.Common.{◌≡◌, ◌≢◌, ℕ, zero, suc, ◌+◌, ◌-◌, ◌^◌, ◌<◌, ◌≤◌, true, false, ◌&&◌, ◌||◌, cond, eqb, leb, List, [], ◌∷◌, ◌++◌, map, length, get_or, ℤ, pos, negsuc, Some, None, Result, Ok, Err, IfOk, refl, sym, ◌∙◌, ap, subst, arith}
use Rattle.std.proofs.lemmas.Bool.{ne_eqb, eq-eqb, or_from, and_from, cond-true, cond-false, le-leb}
use Rattle.std.proofs.lemmas.List.{append_assoc, append-nil}
use Rattle.std.proofs.lemmas.List.Elements.{All-nil, All-cons, All-head, All-tail, All-append, All-from_get_or, All-weaker}
use Rattle.std.proofs.lemmas.Str.Parse.{IsNumeralModel, numerals_by_value, tells_all_ascii_digits, digit_at}
use Rattle.std.proofs.lemmas.Fmt.{decimal_is_IsNumeral, digits_decimal, digits_value-decimal, decimal_nonempty}
use Rattle.std.specs.Int.{IsInRange}
use Rattle.std.specs.List.{All, flat_map, list_all}
use Rattle.std.specs.Str.{all_ascii_digits}
use Rattle.std.specs.Str.Parse.{digits_value}
use Rattle.std.specs.Fmt.{decimal, signed_decimal}
use Rattle.hk_cnf.specs.Literal.{IsWithin}
use Rattle.hk_cnf.specs.Clauses.{Clauses, AreWithin}
use Rattle.hk_cnf.specs.Partial.{Partial}
use Rattle.hk_cnf.specs.Text.{with_first, lines_of, is_blank, word_before, words_of, is_numeral, natural_of, is_minus, unsigned, with_sign, number_in}
use Rattle.hk_cnf.specs.declared.dimacs_read.CnfReason.TheVariants.{C1, C3}
use Rattle.hk_cnf.specs.Dimacs.{is_nil, is_comment, is_skipped, is_number, pair_of, header_of, with_number, at_number, with_words, with_line, Fault, at_line, from_body, at_header, from_top, dimacs_of}
use Rattle.hk_cnf.specs.DimacsText.{literal_text, clause_text, list_text}

-- a byte that is no newline and no `c`
pub record Plain (b : ℕ) : Type 0 where
  pub no_end : eqb b 10 ≡ false
  pub no_c : eqb b 99 ≡ false

-- a byte of a word
pub record Black (b : ℕ) : Type 0 where
  pub plain : Plain b
  pub no_blank : is_blank true b ≡ false

digit-black : (b : ℕ) → 48 ≤ b → b ≤ 57 → Black b
digit-black b lo hi =
    record {
      plain = record { no_end = ne_eqb b 10 (λ e. omega (arith, lo, e)); no_c = ne_eqb b 99 (λ e. omega (arith, hi, e)) };
      no_blank = or_from (eqb b 32) (eqb b 9 || (true && eqb b 13)) (ne_eqb b 32 (λ e. omega (arith, lo, e)))
          (or_from (eqb b 9) (true && eqb b 13) (ne_eqb b 9 (λ e. omega (arith, lo, e))) (ne_eqb b 13 (λ e. omega (arith, lo, e))));
    }

digits-black : (n : ℕ) → n < 2 ^ 64 → All Black (decimal n)
digits-black n h =
    All-from_get_or Black (decimal n) 0 (λ i lt. let r : IsInRange 48 57 (get_or (decimal n) i 0) = digit_at (decimal n) i (decimal_is_IsNumeral n h).0.1 lt in digit-black (get_or (decimal n) i 0) r.0 r.1)

numerals : IsNumeralModel (λ ds. all_ascii_digits ds ≡ true) (digits_value 10)
numerals = numerals_by_value (λ ds. all_ascii_digits ds ≡ true) tells_all_ascii_digits

-- lines and words of a text that begins with a line or a word
lines-put : (line rest : List ℕ) → All (λ b. eqb b 10 ≡ false) line → lines_of (line ++ 10 ∷ rest) ≡ line ∷ lines_of rest
lines-put [] rest h = refl
lines-put (b ∷ line) rest h =
    cond-false (eqb b 10) ([] ∷ lines_of (line ++ 10 ∷ rest)) (with_first b (lines_of (line ++ 10 ∷ rest))) (All-head (λ b. eqb b 10 ≡ false) b line h)
    ∙ ap (with_first b) (lines-put line rest (All-tail (λ b. eqb b 10 ≡ false) b line h))

words-put : (b : ℕ) (word rest : List ℕ) → All Black (b ∷ word) → words_of true (b ∷ word ++ 32 ∷ rest) ≡ (b ∷ word) ∷ words_of true rest
words-put b [] rest h =
    cond-false (is_blank true b) (words_of true (32 ∷ rest)) (word_before true b (32 ∷ rest) (words_of true (32 ∷ rest))) (All-head Black b [] h).no_blank
words-put b (c ∷ word) rest h =
    cond-false (is_blank true b) (words_of true (c ∷ word ++ 32 ∷ rest)) (word_before true b (c ∷ word ++ 32 ∷ rest) (words_of true (c ∷ word ++ 32 ∷ rest))) (All-head Black b (c ∷ word) h).no_blank
    ∙ (cond-false (is_blank true c) ((b ∷ []) ∷ words_of true (c ∷ word ++ 32 ∷ rest)) (with_first b (words_of true (c ∷ word ++ 32 ∷ rest))) (All-head Black c word (All-tail Black b (c ∷ word) h)).no_blank
    ∙ ap (with_first b) (words-put c word rest (All-tail Black b (c ∷ word) h)))

words-end : (b : ℕ) (word : List ℕ) → All Black (b ∷ word) → words_of true (b ∷ word) ≡ (b ∷ word) ∷ []
words-end b [] h = cond-false (is_blank true b) [] (word_before true b [] []) (All-head Black b [] h).no_blank
words-end b (c ∷ word) h =
    cond-false (is_blank true b) (words_of true (c ∷ word)) (word_before true b (c ∷ word) (words_of true (c ∷ word))) (All-head Black b (c ∷ word) h).no_blank
    ∙ (cond-false (is_blank true c) ((b ∷ []) ∷ words_of true (c ∷ word)) (with_first b (words_of true (c ∷ word))) (All-head Black c word (All-tail Black b (c ∷ word) h)).no_blank
    ∙ ap (with_first b) (words-end c word (All-tail Black b (c ∷ word) h)))

word-put : (word rest : List ℕ) → 0 < length word → All Black word → words_of true (word ++ 32 ∷ rest) ≡ word ∷ words_of true rest
word-put [] rest n h = absurd (omega arith)
word-put (b ∷ word) rest n h = words-put b word rest h

word-end : (word : List ℕ) → 0 < length word → All Black word → words_of true word ≡ word ∷ []
word-end [] n h = absurd (omega arith)
word-end (b ∷ word) n h = words-end b word h

-- numbers in decimal
numeral-true : (ds : List ℕ) → 0 < length ds → all_ascii_digits ds ≡ true → is_numeral ds ≡ true
numeral-true [] n h = absurd (omega arith)
numeral-true (b ∷ ds) n h = h

no-sign : (ds : List ℕ) → 0 < length ds → All Black ds → 48 ≤ get_or ds 0 0 → (is_minus ds ≡ false) × (unsigned ds ≡ ds)
no-sign [] n h lo = absurd (omega arith)
no-sign (b ∷ ds) n h lo = let e : eqb b 45 ≡ false = ne_eqb b 45 (λ e. omega (arith, lo, e)) in (e, cond-false (eqb b 45) ds (b ∷ ds) e)

natural-decimal : (most n : ℕ) → n ≤ most → n < 2 ^ 64 → natural_of most (decimal n) ≡ Some n
natural-decimal most n le h =
    let v : digits_value 10 (decimal n) ≡ n = digits_value-decimal numerals n h in
    let t : is_numeral (decimal n) ≡ true = numeral-true (decimal n) (decimal_nonempty n h) (digits_decimal numerals n h) in
    cond-true (is_numeral (decimal n) && leb (digits_value 10 (decimal n)) most) (Some (digits_value 10 (decimal n))) None
    (and_from (is_numeral (decimal n)) (leb (digits_value 10 (decimal n)) most) t (le-leb (digits_value 10 (decimal n)) most (omega (arith, v, le))))
    ∙ ap Some v

first-digit : (n : ℕ) → n < 2 ^ 64 → 48 ≤ get_or (decimal n) 0 0
first-digit n h = (digit_at (decimal n) 0 (decimal_is_IsNumeral n h).0.1 (decimal_nonempty n h)).0

-- what the reader needs of a literal's word
pub record IsWord (vars : ℕ) (l : ℤ) : Type 0 where
  pub some : 0 < length (signed_decimal l)
  pub black : All Black (signed_decimal l)
  pub number : is_number (signed_decimal l) ≡ true
  pub value : number_in vars (signed_decimal l) ≡ Some l
  pub nonzero : l ≢ pos 0

word-of : (vars : ℕ) (l : ℤ) → vars < 2 ^ 63 → IsWithin vars l → IsWord vars l
word-of vars (pos zero) few w = absurd (w.literal.nonzero refl)
word-of vars (pos (suc n)) few w =
    let b : n < vars = w.below in
    let h : suc n < 2 ^ 64 = omega (arith, b, few) in
    let s = no-sign (decimal (suc n)) (decimal_nonempty (suc n) h) (digits-black (suc n) h) (first-digit (suc n) h) in
    record {
      some = decimal_nonempty (suc n) h;
      black = digits-black (suc n) h;
      number = ap is_numeral s.1 ∙ numeral-true (decimal (suc n)) (decimal_nonempty (suc n) h) (digits_decimal numerals (suc n) h);
      value = ap (λ x. with_sign x (natural_of vars (unsigned (decimal (suc n))))) s.0 ∙ (ap (λ x. with_sign false (natural_of vars x)) s.1 ∙ ap (with_sign false) (natural-decimal vars (suc n) (omega (arith, b)) h));
      nonzero = λ e. cc;
    }
word-of vars (negsuc n) few w =
    let b : n < vars = w.below in
    let h : suc n < 2 ^ 64 = omega (arith, b, few) in
    record {
      some = omega arith;
      black = All-cons Black 45 (decimal (suc n)) (record { plain = record { no_end = refl; no_c = refl }; no_blank = refl }) (digits-black (suc n) h);
      number = numeral-true (decimal (suc n)) (decimal_nonempty (suc n) h) (digits_decimal numerals (suc n) h);
      value = ap (with_sign true) (natural-decimal vars (suc n) (omega (arith, b)) h);
      nonzero = λ e. cc;
    }

-- a clause's line without its newline
abbrev line_of : List ℤ → List ℕ
line_of c = flat_map literal_text c ++ 48 ∷ []

zero-black : Black 48
zero-black = record { plain = record { no_end = refl; no_c = refl }; no_blank = refl }

line-plain : (vars : ℕ) (c : List ℤ) → vars < 2 ^ 63 → All (IsWithin vars) c → All Plain (line_of c)
line-plain vars [] few w = All-cons Plain 48 [] zero-black.plain (All-nil Plain)
line-plain vars (l ∷ c) few w =
    let i : IsWord vars l = word-of vars l few (All-head (IsWithin vars) l c w) in
    subst (All Plain) (sym (append_assoc (literal_text l) (flat_map literal_text c) (48 ∷ [])))
    (All-append Plain (literal_text l) (line_of c)
    (All-append Plain (signed_decimal l) (32 ∷ []) (All-weaker Black Plain (λ b k. k.plain) (signed_decimal l) i.black) (All-cons Plain 32 [] (record { no_end = refl; no_c = refl }) (All-nil Plain)))
    (line-plain vars c few (All-tail (IsWithin vars) l c w)))

line-words : (vars : ℕ) (c : List ℤ) → vars < 2 ^ 63 → All (IsWithin vars) c → words_of true (line_of c) ≡ map signed_decimal c ++ (48 ∷ []) ∷ []
line-words vars [] few w = refl
line-words vars (l ∷ c) few w =
    let i : IsWord vars l = word-of vars l few (All-head (IsWithin vars) l c w) in
    ap (words_of true) (append_assoc (literal_text l) (flat_map literal_text c) (48 ∷ []) ∙ append_assoc (signed_decimal l) (32 ∷ []) (line_of c))
    ∙ (word-put (signed_decimal l) (line_of c) i.some i.black
    ∙ ap (λ ws. signed_decimal l ∷ ws) (line-words vars c few (All-tail (IsWithin vars) l c w)))

numbers-true : (vars : ℕ) (c : List ℤ) → vars < 2 ^ 63 → All (IsWithin vars) c → list_all is_number (map signed_decimal c ++ (48 ∷ []) ∷ []) ≡ true
numbers-true vars [] few w = refl
numbers-true vars (l ∷ c) few w =
    and_from (is_number (signed_decimal l)) (list_all is_number (map signed_decimal c ++ (48 ∷ []) ∷ [])) (word-of vars l few (All-head (IsWithin vars) l c w)).number (numbers-true vars c few (All-tail (IsWithin vars) l c w))

with-literal : (p : Partial) (l : ℤ) → l ≢ pos 0 → with_number p l ≡ record p { begun = p.begun ++ l ∷ [] }
with-literal p (pos zero) n = absurd (n refl)
with-literal p (pos (suc k)) n = refl
with-literal p (negsuc k) n = refl

zero-word : (vars : ℕ) → number_in vars (48 ∷ []) ≡ Some (pos 0)
zero-word vars = ap (with_sign false) (cond-true (true && leb (digits_value 10 (48 ∷ [])) vars) (Some (digits_value 10 (48 ∷ []))) None (le-leb 0 vars (omega arith)))

words-read : (c : List ℤ) (p : Partial) → p.vars < 2 ^ 63 → All (IsWithin p.vars) c → with_words p (map signed_decimal c ++ (48 ∷ []) ∷ []) ≡ Ok (record { vars = p.vars; clauses = p.clauses ++ (p.begun ++ c) ∷ []; begun = [] })
words-read [] p few w =
    ap (λ o. at_number o (λ z. with_words (with_number p z) [])) (zero-word p.vars)
    ∙ ap (λ b. Ok (record { vars = p.vars; clauses = p.clauses ++ b ∷ []; begun = [] })) (sym (append-nil p.begun))
words-read (l ∷ c) p few w =
    let i : IsWord p.vars l = word-of p.vars l few (All-head (IsWithin p.vars) l c w) in
    let q : Partial = record p { begun = p.begun ++ l ∷ [] } in
    ap (λ o. at_number o (λ z. with_words (with_number p z) (map signed_decimal c ++ (48 ∷ []) ∷ []))) i.value
    ∙ (ap (λ x. with_words x (map signed_decimal c ++ (48 ∷ []) ∷ [])) (with-literal p l i.nonzero)
    ∙ (words-read c q few (All-tail (IsWithin p.vars) l c w)
    ∙ ap (λ b. Ok (record { vars = p.vars; clauses = p.clauses ++ b ∷ []; begun = [] })) (append_assoc p.begun (l ∷ []) c)))

not-comment : (line : List ℕ) → All Plain line → is_comment line ≡ false
not-comment [] h = refl
not-comment (b ∷ line) h = (All-head Plain b line h).no_c

nil-push : {X : Type 0} (xs : List X) (x : X) → is_nil (xs ++ x ∷ []) ≡ false
nil-push [] x = refl
nil-push (y ∷ xs) x = refl

line-read : (c : List ℤ) (p : Partial) → p.vars < 2 ^ 63 → All (IsWithin p.vars) c → p.begun ≡ [] → with_line p (line_of c) ≡ Ok (record { vars = p.vars; clauses = p.clauses ++ c ∷ []; begun = [] })
line-read c p few w e =
    let ws : words_of true (line_of c) ≡ map signed_decimal c ++ (48 ∷ []) ∷ [] = line-words p.vars c few w in
    let skip : is_skipped (line_of c) ≡ false = or_from (is_comment (line_of c)) (is_nil (words_of true (line_of c))) (not-comment (line_of c) (line-plain p.vars c few w)) (ap is_nil ws ∙ nil-push (map signed_decimal c) (48 ∷ [])) in
    let all : list_all is_number (words_of true (line_of c)) ≡ true = ap (list_all is_number) ws ∙ numbers-true p.vars c few w in
    cond-false (is_skipped (line_of c)) (Ok p) (cond (list_all is_number (words_of true (line_of c))) (with_words p (words_of true (line_of c))) (Err C1)) skip
    ∙ (cond-true (list_all is_number (words_of true (line_of c))) (with_words p (words_of true (line_of c))) (Err C1) all
    ∙ (ap (with_words p) ws ∙ (words-read c p few w ∙ ap (λ b. Ok (record { vars = p.vars; clauses = p.clauses ++ (b ++ c) ∷ []; begun = [] })) e)))

body-read : (n count vars : ℕ) (done cs : List (List ℤ)) → vars < 2 ^ 63 → AreWithin vars cs → length (done ++ cs) ≡ count → from_body n count (record { vars = vars; clauses = done; begun = [] }) (lines_of (flat_map clause_text cs)) ≡ Ok (record { vars = vars; clauses = done ++ cs })
body-read n count vars done [] few w e =
    let l : length done ≡ count = ap length (sym (append-nil done)) ∙ e in
    cond-true (eqb (length done) count) (Ok (record { vars = vars; clauses = done })) (Err (n, C3)) (eq-eqb (length done) count l)
    ∙ ap (λ x. Ok (record { vars = vars; clauses = x })) (sym (append-nil done))
body-read n count vars done (c ∷ cs) few w e =
    let wc : All (IsWithin vars) c = All-head (λ c. All (IsWithin vars) c) c cs w in
    let p : Partial = record { vars = vars; clauses = done; begun = [] } in
    let q : Partial = record { vars = vars; clauses = done ++ c ∷ []; begun = [] } in
    let shape : flat_map clause_text (c ∷ cs) ≡ line_of c ++ 10 ∷ flat_map clause_text cs =
    ap (λ x. x ++ flat_map clause_text cs) (sym (append_assoc (flat_map literal_text c) (48 ∷ []) (10 ∷ []))) ∙ append_assoc (line_of c) (10 ∷ []) (flat_map clause_text cs) in
    let lines : lines_of (flat_map clause_text (c ∷ cs)) ≡ line_of c ∷ lines_of (flat_map clause_text cs) =
    ap lines_of shape ∙ lines-put (line_of c) (flat_map clause_text cs) (All-weaker Plain (λ b. eqb b 10 ≡ false) (λ b k. k.no_end) (line_of c) (line-plain vars c few wc)) in
    ap (from_body n count p) lines
    ∙ (ap (λ r. at_line (n + 1) r (λ x. from_body (n + 1) count x (lines_of (flat_map clause_text cs)))) (line-read c p few wc refl)
    ∙ (body-read (n + 1) count vars (done ++ c ∷ []) cs few (All-tail (λ c. All (IsWithin vars) c) c cs w) (ap length (append_assoc done (c ∷ []) cs) ∙ e)
    ∙ ap (λ x. Ok (record { vars = vars; clauses = x })) (append_assoc done (c ∷ []) cs)))

-- the header without its newline
abbrev front : List ℕ
front = 112 ∷ 32 ∷ 99 ∷ 110 ∷ 102 ∷ 32 ∷ []

abbrev header_line : ℕ → ℕ → List ℕ
header_line vars count = front ++ decimal vars ++ 32 ∷ [] ++ decimal count

header-shape : (vars count : ℕ) → header_line vars count ≡ front ++ (decimal vars ++ 32 ∷ decimal count)
header-shape vars count = append_assoc (front ++ decimal vars) (32 ∷ []) (decimal count) ∙ append_assoc front (decimal vars) (32 ∷ decimal count)

decimal-no_end : (n : ℕ) → n < 2 ^ 64 → All (λ b. eqb b 10 ≡ false) (decimal n)
decimal-no_end n h = All-weaker Black (λ b. eqb b 10 ≡ false) (λ b k. k.plain.no_end) (decimal n) (digits-black n h)

front-no_end : All (λ b. eqb b 10 ≡ false) front
front-no_end =
    All-cons (λ b. eqb b 10 ≡ false) 112 (32 ∷ 99 ∷ 110 ∷ 102 ∷ 32 ∷ []) refl
    (All-cons (λ b. eqb b 10 ≡ false) 32 (99 ∷ 110 ∷ 102 ∷ 32 ∷ []) refl
    (All-cons (λ b. eqb b 10 ≡ false) 99 (110 ∷ 102 ∷ 32 ∷ []) refl
    (All-cons (λ b. eqb b 10 ≡ false) 110 (102 ∷ 32 ∷ []) refl
    (All-cons (λ b. eqb b 10 ≡ false) 102 (32 ∷ []) refl
    (All-cons (λ b. eqb b 10 ≡ false) 32 [] refl (All-nil (λ b. eqb b 10 ≡ false)))))))

header-no_end : (vars count : ℕ) → vars < 2 ^ 64 → count < 2 ^ 64 → All (λ b. eqb b 10 ≡ false) (header_line vars count)
header-no_end vars count v c =
    All-append (λ b. eqb b 10 ≡ false) (front ++ decimal vars ++ 32 ∷ []) (decimal count)
    (All-append (λ b. eqb b 10 ≡ false) (front ++ decimal vars) (32 ∷ [])
    (All-append (λ b. eqb b 10 ≡ false) front (decimal vars) front-no_end (decimal-no_end vars v))
    (All-cons (λ b. eqb b 10 ≡ false) 32 [] refl (All-nil (λ b. eqb b 10 ≡ false))))
    (decimal-no_end count c)

front-words : (rest : List ℕ) → words_of true (front ++ rest) ≡ (112 ∷ []) ∷ (99 ∷ 110 ∷ 102 ∷ []) ∷ words_of true rest
front-words rest = refl

header-words : (vars count : ℕ) → vars < 2 ^ 64 → count < 2 ^ 64 → words_of true (header_line vars count) ≡ (112 ∷ []) ∷ (99 ∷ 110 ∷ 102 ∷ []) ∷ decimal vars ∷ decimal count ∷ []
header-words vars count v c =
    ap (words_of true) (header-shape vars count)
    ∙ (front-words (decimal vars ++ 32 ∷ decimal count)
    ∙ ap (λ ws. (112 ∷ []) ∷ (99 ∷ 110 ∷ 102 ∷ []) ∷ ws)
    (word-put (decimal vars) (decimal count) (decimal_nonempty vars v) (digits-black vars v)
    ∙ ap (λ ws. decimal vars ∷ ws) (word-end (decimal count) (decimal_nonempty count c) (digits-black count c))))

header-read : (vars count : ℕ) → vars < 2 ^ 63 → count < 2 ^ 64 → header_of ((112 ∷ []) ∷ (99 ∷ 110 ∷ 102 ∷ []) ∷ decimal vars ∷ decimal count ∷ []) ≡ Some (vars, count)
header-read vars count v c =
    ap (λ o. pair_of o (natural_of (2 ^ 64 - 1) (decimal count))) (natural-decimal (2 ^ 63 - 1) vars (omega (arith, v)) (omega (arith, v)))
    ∙ ap (pair_of (Some vars)) (natural-decimal (2 ^ 64 - 1) count (omega (arith, c)) c)

top-read : (line : List ℕ) (lines ws : List (List ℕ)) (h : ℕ × ℕ) → is_comment line ≡ false → words_of true line ≡ ws → is_nil ws ≡ false → header_of ws ≡ Some h → from_top 0 (line ∷ lines) ≡ from_body 1 h.1 (record { vars = h.0; clauses = []; begun = [] }) lines
top-read line lines ws h c e n f =
    let next : ℕ × ℕ → Result Clauses Fault = λ h. from_body 1 h.1 (record { vars = h.0; clauses = []; begun = [] }) lines in
    cond-false (is_skipped line) (from_top 1 lines) (at_header 1 (header_of (words_of true line)) next) (or_from (is_comment line) (is_nil (words_of true line)) c (ap is_nil e ∙ n))
    ∙ ap (λ o. at_header 1 o next) (ap header_of e ∙ f)

-- the written text is read as the list
pub list-read : (list : Clauses) → list.vars < 2 ^ 63 → length list.clauses < 2 ^ 64 → AreWithin list.vars list.clauses → dimacs_of (list_text list) ≡ Ok list
list-read list few count w =
    let vars : list.vars < 2 ^ 64 = omega (arith, few) in
    let line : List ℕ = header_line list.vars (length list.clauses) in
    let rest : List ℕ = flat_map clause_text list.clauses in
    ap (from_top 0) (ap lines_of (append_assoc line (10 ∷ []) rest) ∙ lines-put line rest (header-no_end list.vars (length list.clauses) vars count))
    ∙ (top-read line (lines_of rest) ((112 ∷ []) ∷ (99 ∷ 110 ∷ 102 ∷ []) ∷ decimal list.vars ∷ decimal (length list.clauses) ∷ []) (list.vars, length list.clauses) refl (header-words list.vars (length list.clauses) vars count) refl (header-read list.vars (length list.clauses) few count)
    ∙ body-read 1 (length list.clauses) list.vars [] list.clauses few w refl)

pub if-ok : {T E : Type 0} (r : Result T E) (P Q : T → Type 0) → ((x : T) → P x → Q x) → IfOk r P → IfOk r Q
if-ok (Ok x) P Q f h = f x h
if-ok (Err e) P Q f h = tt
