-- The names that lines define are words, as the tokens of their text are.
use Rattle.std.proofs.Common.{◌≡◌, ℕ, ◌+◌, ◌≤◌, length, Bool, true, false, not, ◌&&◌, ◌||◌, eqb, List, [], ◌∷◌, map, inl, inr, refl, sym, ◌∙◌, ap, subst, arith}
use Rattle.std.proofs.lemmas.Bool.{and_from, and_parts, cases_Bool, eqb-true, leb-true, not-true, not_from_false, or_cases, or_from, or_parts}
use Rattle.std.specs.Prelude.{◌⊎◌, codes, nat_le}
use Rattle.std.specs.Char.{is_ascii_alphabetic, is_ascii_digit}
use Rattle.std.specs.List.{list_all, list_any}
use Rattle.spec_ast.specs.Raw as raw
use Rattle.spec_ast.specs.Raw.{Item, field_line, def_line}
use Rattle.spec_lex.specs.Bytes as bytes
use Rattle.spec_lex.specs.Lines.{ArePrinted, GoesOn, IsPrinted, IsToken, Line, Starts}
use Rattle.spec_lex.specs.Token.{Lexeme, open_after}
use Rattle.spec_lex.specs.declared.token.TokenKind.{TokenKind}
use Rattle.spec_lex.specs.declared.token.TokenKind.TheVariants.{Word, Mark, Outside}
use Rattle.spec_expr.specs.Words as words
use Rattle.spec_read.specs.Laws.{IsSpecOf}
use Rattle.spec_read.specs.Items.{SpellsItem}
use Rattle.spec_read.specs.Places.{Place, nowhere}
use Rattle.spec_read.specs.Texts.{SpellsLines, place_behind, place_of}
use Rattle.hk_cert_lines.specs.Words.{is_word_byte, is_word, is_name, begins_name, is_keyword}
use Rattle.hk_cert_law.specs.Spelled.{IsSpelled, AreSpelled}
use Rattle.hk_cert_law.proofs.Each.{Each, each_append}
use Rattle.hk_cert_law.proofs.Lines.{all_weaker}

-- a text that begins as a name is a word
abbrev pub Wordy : List ℕ → Type 0
Wordy text = words.begins_name text ≡ true → list_all is_word_byte text ≡ true

-- ---- bytes

turned : (u l d s : Bool) → (((u || l) || d) || s) ≡ true → (((d || u) || l) || s) ≡ true
turned u l true s h = refl
turned true l false s h = refl
turned false true false s h = refl
turned false false false s h = h

same_byte : (b : ℕ) → bytes.is_word_byte b ≡ true → is_word_byte b ≡ true
same_byte b h = turned (nat_le 65 b && nat_le b 90) (nat_le 97 b && nat_le b 122) (is_ascii_digit b) (eqb b 95) h

abbrev leads : ℕ → Bool
leads b = is_ascii_alphabetic b || eqb b 95

-- one of these bytes, none of which leads a name, leads none
among_not : (bytes : List ℕ) (b : ℕ) → list_any (λ y. eqb y b) bytes ≡ true → list_all (λ y. not (leads y)) bytes ≡ true → leads b ≡ false
among_not [] b h all = absurd (cc h)
among_not (y ∷ bytes) b h all = by (or_cases (eqb y b) (list_any (λ y. eqb y b) bytes) h) (and_parts (not (leads y)) (list_all (λ y. not (leads y)) bytes) all) (λ rest others. among_not bytes b rest others)
  where
    by : ((eqb y b ≡ true) ⊎ (list_any (λ y. eqb y b) bytes ≡ true)) → (not (leads y) ≡ true) × (list_all (λ y. not (leads y)) bytes ≡ true)
        → (list_any (λ y. eqb y b) bytes ≡ true → list_all (λ y. not (leads y)) bytes ≡ true → leads b ≡ false) → leads b ≡ false
    by (inl e) parts next = ap leads (sym (eqb-true y b e)) ∙ not-true (leads y) parts.0
    by (inr e) parts next = next e parts.1

-- ---- tokens

no_lead : (b : ℕ) (rest : List ℕ) → leads b ≡ false → Wordy (b ∷ rest)
no_lead b rest none h = absurd (cc (none, h))

pair_not : (b next : ℕ) → bytes.is_pair b next ≡ true → leads b ≡ false
pair_not b next h = by (or_cases (eqb next 61 && bytes.is_among (codes "=!<>") b) (eqb b next && bytes.is_among (codes "<>") b) h)
  where
    by : ((eqb next 61 && bytes.is_among (codes "=!<>") b) ≡ true) ⊎ ((eqb b next && bytes.is_among (codes "<>") b) ≡ true) → leads b ≡ false
    by (inl e) = among_not (codes "=!<>") b (and_parts (eqb next 61) (bytes.is_among (codes "=!<>") b) e).1 refl
    by (inr e) = among_not (codes "<>") b (and_parts (eqb b next) (bytes.is_among (codes "<>") b) e).1 refl

mark_good : (text : List ℕ) → bytes.is_mark text ≡ true → Wordy text
mark_good [] h = absurd (cc h)
mark_good (b ∷ []) h = no_lead b [] (among_not (codes "=<>+-*&|^~()[],.:") b h refl)
mark_good (b ∷ next ∷ []) h = no_lead b (next ∷ []) (pair_not b next h)
mark_good (b ∷ next ∷ c ∷ rest) h = absurd (cc h)

outside_good : (b : ℕ) (rest : List ℕ) → bytes.is_outside b rest ≡ true → leads b ≡ false
outside_good b rest h =
    let a = (or_parts (bytes.is_blank b) (bytes.is_hash b || (bytes.is_word_byte b || (bytes.begins (bytes.is_pair b) rest || bytes.is_single b))) (not-true _ h)).1 in
    let c = (or_parts (bytes.is_hash b) (bytes.is_word_byte b || (bytes.begins (bytes.is_pair b) rest || bytes.is_single b)) a).1 in
    let d = (or_parts (bytes.is_word_byte b) (bytes.begins (bytes.is_pair b) rest || bytes.is_single b) c).0 in
    let e = or_parts (is_ascii_alphabetic b || is_ascii_digit b) (eqb b 95) d in
    or_from (is_ascii_alphabetic b) (eqb b 95) (or_parts (is_ascii_alphabetic b) (is_ascii_digit b) e.0).0 e.1

token_good : (kind : TokenKind) (text rest : List ℕ) → IsToken kind text rest → Wordy text
token_good Word text rest h begun = all_weaker bytes.is_word_byte is_word_byte same_byte text h.1
token_good Mark text rest h begun = mark_good text h.0 begun
token_good Outside text rest h begun = subst Wordy (sym h.1) (no_lead h.0 [] (outside_good h.0 rest h.2)) begun

abbrev AreWordy : List Lexeme → Type 0
AreWordy tokens = Each (λ t. Wordy t.text) tokens

-- ---- lines

printed_good : (tokens : List Lexeme) (row : List ℕ) → IsPrinted tokens row → AreWordy tokens
printed_good [] row h = tt
printed_good (t ∷ ts) row h = (token_good t.kind t.text h.1 h.3, printed_good ts h.1 h.4)

goes_on_good : (nest : ℕ) (tokens : List Lexeme) (rows after : List (List ℕ)) → GoesOn nest tokens rows after → AreWordy tokens
goes_on_good nest tokens [] after h = subst AreWordy (sym h.0) tt
goes_on_good nest tokens (row ∷ rows) after h =
    subst AreWordy (sym h.3) (each_append (λ t. Wordy t.text) h.1 h.2 (printed_good h.1 row h.4) (goes_on_good (open_after nest h.1) h.2 rows after h.5))

starts_good : (blanks : List ℕ) (tokens : List Lexeme) (row : List ℕ) → Starts blanks tokens row → AreWordy tokens
starts_good blanks [] row h = absurd h
starts_good blanks (t ∷ ts) row h = printed_good (t ∷ ts) h.0 h.4

lines_good : (n : ℕ) (ls : List Line) (rows : List (List ℕ)) → ArePrinted n ls rows → Each (λ (l : Line). AreWordy l.tokens) ls
lines_good n [] rows h = tt
lines_good n (l ∷ ls) rows h =
    (subst AreWordy (sym h.12) (each_append (λ t. Wordy t.text) h.4 h.5 (starts_good l.blanks h.4 h.1 h.7) (goes_on_good (open_after 0 h.4) h.5 h.2 h.3 h.8)), lines_good (l.line + 1 + length h.2) ls h.3 h.9)

-- ---- names

no_digit : (b : ℕ) → leads b ≡ true → is_ascii_digit b ≡ false
no_digit b h = pick (cases_Bool (is_ascii_digit b))
  where
    high : is_ascii_digit b ≡ true → leads b ≡ false
    high e =
        let range = and_parts (nat_le 48 b) (nat_le b 57) e in
        let most : b ≤ 57 = leb-true b 57 range.1 in
        pick_false (cases_Bool (leads b)) most
      where
        upper : (nat_le 65 b && nat_le b 90) ≡ true → 65 ≤ b
        upper f = leb-true 65 b (and_parts (nat_le 65 b) (nat_le b 90) f).0

        lower : (nat_le 97 b && nat_le b 122) ≡ true → 65 ≤ b
        lower f = let l : 97 ≤ b = leb-true 97 b (and_parts (nat_le 97 b) (nat_le b 122) f).0 in omega (arith, l)

        line : eqb b 95 ≡ true → 65 ≤ b
        line f = let l : b ≡ 95 = eqb-true b 95 f in omega (arith, l)

        letter : (((nat_le 65 b && nat_le b 90) ≡ true) ⊎ ((nat_le 97 b && nat_le b 122) ≡ true)) → 65 ≤ b
        letter (inl f) = upper f
        letter (inr f) = lower f

        least : ((is_ascii_alphabetic b ≡ true) ⊎ (eqb b 95 ≡ true)) → 65 ≤ b
        least (inl f) = letter (or_cases (nat_le 65 b && nat_le b 90) (nat_le 97 b && nat_le b 122) f)
        least (inr f) = line f

        pick_false : ((leads b ≡ true) ⊎ (leads b ≡ false)) → b ≤ 57 → leads b ≡ false
        pick_false (inr f) most = f
        pick_false (inl f) most = let l : 65 ≤ b = least (or_cases (is_ascii_alphabetic b) (eqb b 95) f) in absurd (omega (arith, l, most))

    pick : ((is_ascii_digit b ≡ true) ⊎ (is_ascii_digit b ≡ false)) → is_ascii_digit b ≡ false
    pick (inr e) = e
    pick (inl e) = let f = high e in absurd (cc (f, h))

name_good : (x : List ℕ) → words.is_name x ≡ true → Wordy x → is_name x ≡ true
name_good [] h wordy = absurd (cc h)
name_good (b ∷ rest) h wordy =
    let parts = and_parts (words.begins_name (b ∷ rest)) (not (words.is_keyword (b ∷ rest))) h in
    and_from (is_word (b ∷ rest)) (begins_name (b ∷ rest) && not (is_keyword (b ∷ rest))) (wordy parts.0)
    (and_from (begins_name (b ∷ rest)) (not (is_keyword (b ∷ rest))) (not_from_false (is_ascii_digit b) (no_digit b parts.0)) parts.1)

heads : (a b : List ℕ) (xs ys : List (List ℕ)) → (a ∷ xs) ≡ (b ∷ ys) → (a ≡ b) × (xs ≡ ys)
heads a b xs ys e = (cc e, cc e)

first_good : (tokens : List Lexeme) (x : List ℕ) (rest : List (List ℕ)) → AreWordy tokens → map (λ t. t.text) tokens ≡ x ∷ rest → Wordy x
first_good [] x rest good e = absurd (cc e)
first_good (t ∷ ts) x rest good e = subst Wordy (heads t.text x (map (λ t. t.text) ts) rest e).0 good.0

second_good : (tokens : List Lexeme) (a x : List ℕ) (rest : List (List ℕ)) → AreWordy tokens → map (λ t. t.text) tokens ≡ a ∷ x ∷ rest → Wordy x
second_good [] a x rest good e = absurd (cc e)
second_good (t ∷ ts) a x rest good e = first_good ts x rest good.1 (heads t.text a (map (λ t. t.text) ts) (x ∷ rest) e).1

item_spelled : (place : Place) (item : Item) (tokens : List Lexeme) → AreWordy tokens → SpellsItem place item (map (λ t. t.text) tokens) → IsSpelled item
item_spelled place (def_line x xs) tokens good h = name_good x h.3 (second_good tokens (codes "def") x _ good h.6)
item_spelled place (field_line x [] s) tokens good h = name_good x h.2 (first_good tokens x _ good h.4)
item_spelled place (field_line x (k ∷ ks) s) tokens good h = name_good x h.3 (first_good tokens x _ good h.6)
item_spelled place item tokens good h = tt

all_spelled : (place : Place) (ls : List Line) (raws : List raw.Line) → Each (λ (l : Line). AreWordy l.tokens) ls → SpellsLines place ls raws → AreSpelled raws
all_spelled place [] raws good h = subst AreSpelled (sym h) tt
all_spelled place (l ∷ ls) raws good h =
    subst AreSpelled (sym h.5) (item_spelled (place_of place l) h.0 l.tokens good.0 h.2.spelled, all_spelled (place_behind place l h.0) ls h.1 good.1 h.4)

-- the lines of a text define names that are spelled
pub text_spelled : (text : List ℕ) (raws : List raw.Line) → IsSpecOf text raws → AreSpelled raws
text_spelled text raws h = all_spelled nowhere h.0 raws (lines_good 1 h.0 _ h.1) h.3
