-- Two names that are shown as one are one.
use Rattle.std.proofs.Common.{◌≡◌, ℕ, ◌-◌, ◌/◌, ◌%◌, ◌<◌, Bool, true, false, not, cond, eqb, List, [], ◌∷◌, ◌++◌, length, map, get_or, refl, sym, ◌∙◌, ap, arith}
use Rattle.std.proofs.lemmas.Bool.{agree_below_at, eqb-true, not-false, or_parts}
use Rattle.std.proofs.lemmas.List.{append_assoc}
use Rattle.std.proofs.lemmas.List.Elements.{All-head, All-tail}
use Rattle.std.proofs.lemmas.Slice.Eq.{bytes_eq-Decides}
use Rattle.std.specs.Prelude.{bytes_eq, codes, slice_index, if◌then◌else◌, nat_lt}
use Rattle.std.specs.List.{All, AllByRecursion, IsDistinct, flat_map, list_all}
use Rattle.ir_ast.specs.Program.{GlobalView}
use Rattle.hk_rows.specs.Texts.{escaped, hex_digits, is_plain, name_text, needs_quotes, quoted}
use Rattle.hk_cert_law.proofs.Digits.{IsByte}

-- ---- digits

abbrev digit : ℕ → ℕ
digit d = slice_index (codes "0123456789ABCDEF") d

abbrev value : ℕ → ℕ
value b = if nat_lt b 58 then b - 48 else b - 55

valued : (d : ℕ) → d < 16 → value (digit d) ≡ d
valued d low = eqb-true (value (digit d)) d (agree_below_at (λ d. eqb (value (digit d)) d) (λ d. true) 16 d refl low)

one_digit : (c d : ℕ) → c < 16 → d < 16 → digit c ≡ digit d → c ≡ d
one_digit c d low also same = sym (valued c low) ∙ ap value same ∙ valued d also

one_byte : (x y : ℕ) → IsByte x → IsByte y → digit (x / 16) ≡ digit (y / 16) → digit (x % 16) ≡ digit (y % 16) → x ≡ y
one_byte x y small also high low =
    let first : x / 16 < 16 = omega arith in
    let second : y / 16 < 16 = omega arith in
    let third : x % 16 < 16 = omega arith in
    let fourth : y % 16 < 16 = omega arith in
    let h : x / 16 ≡ y / 16 = one_digit (x / 16) (y / 16) first second high in
    let l : x % 16 ≡ y % 16 = one_digit (x % 16) (y % 16) third fourth low in
    omega (arith, h, l)

-- ---- escapes

plain_clash : (x c : ℕ) → is_plain x ≡ true → is_plain c ≡ false → x ≡ c → ⊥
plain_clash x c p q e = let f : is_plain x ≡ is_plain c = ap is_plain e in cc

heads : (x y : ℕ) (a b : List ℕ) → (x ∷ a) ≡ (y ∷ b) → (x ≡ y) × (a ≡ b)
heads x y a b e = (cc e, cc e)

module _ (x y : ℕ) (small : IsByte x) (also : IsByte y) (a b : List ℕ) where
  escapes_by : (p q : Bool) → is_plain x ≡ p → is_plain y ≡ q → cond p (x ∷ []) (92 ∷ hex_digits (codes "0123456789ABCDEF") x) ++ a ≡ cond q (y ∷ []) (92 ∷ hex_digits (codes "0123456789ABCDEF") y) ++ b → (x ≡ y) × (a ≡ b)
  escapes_by true true p q e = heads x y a b e
  escapes_by true false p q e = absurd (plain_clash x 92 p refl (heads x 92 a (digit (y / 16) ∷ digit (y % 16) ∷ b) e).0)
  escapes_by false true p q e = absurd (plain_clash y 92 q refl (heads y 92 b (digit (x / 16) ∷ digit (x % 16) ∷ a) (sym e)).0)
  escapes_by false false p q e =
      let first = heads 92 92 (digit (x / 16) ∷ digit (x % 16) ∷ a) (digit (y / 16) ∷ digit (y % 16) ∷ b) e in
      let second = heads (digit (x / 16)) (digit (y / 16)) (digit (x % 16) ∷ a) (digit (y % 16) ∷ b) first.1 in
      let third = heads (digit (x % 16)) (digit (y % 16)) a b second.1 in
      (one_byte x y small also second.0 third.0, third.1)

  escapes_same : escaped x ++ a ≡ escaped y ++ b → (x ≡ y) × (a ≡ b)
  escapes_same e = escapes_by (is_plain x) (is_plain y) refl refl e

-- no escape is the closing quote
no_end : (x : ℕ) (a : List ℕ) → escaped x ++ a ≡ 34 ∷ [] → ⊥
no_end x a e = by (is_plain x) refl e
  where
    by : (p : Bool) → is_plain x ≡ p → cond p (x ∷ []) (92 ∷ hex_digits (codes "0123456789ABCDEF") x) ++ a ≡ 34 ∷ [] → ⊥
    by true p e = plain_clash x 34 p refl (heads x 34 a [] e).0
    by false p e = let f : ◌≡◌ {A = ℕ} 92 34 = ap (λ l. get_or l 0 0) e in omega (arith, f)

all_same : (a b : List ℕ) → All IsByte a → All IsByte b → flat_map escaped a ++ 34 ∷ [] ≡ flat_map escaped b ++ 34 ∷ [] → a ≡ b
all_same [] [] p q e = refl
all_same [] (y ∷ b) p q e = absurd (no_end y (flat_map escaped b ++ 34 ∷ []) (sym (append_assoc (escaped y) (flat_map escaped b) (34 ∷ [])) ∙ sym e))
all_same (x ∷ a) [] p q e = absurd (no_end x (flat_map escaped a ++ 34 ∷ []) (sym (append_assoc (escaped x) (flat_map escaped a) (34 ∷ [])) ∙ e))
all_same (x ∷ a) (y ∷ b) p q e =
    let whole = sym (append_assoc (escaped x) (flat_map escaped a) (34 ∷ [])) ∙ e ∙ append_assoc (escaped y) (flat_map escaped b) (34 ∷ []) in
    let parts = escapes_same x y (All-head IsByte x a p) (All-head IsByte y b q) (flat_map escaped a ++ 34 ∷ []) (flat_map escaped b ++ 34 ∷ []) whole in
    let rest = all_same a b (All-tail IsByte x a p) (All-tail IsByte y b q) parts.1 in
    ap (λ z. z ∷ a) parts.0 ∙ ap (λ l. y ∷ l) rest

-- ---- names

-- a name that needs no quotes does not begin with one
no_quote : (name rest : List ℕ) → needs_quotes name ≡ false → name ≡ 34 ∷ rest → ⊥
no_quote name rest h e =
    let plain : list_all is_plain name ≡ true = not-false (list_all is_plain name) (or_parts (eqb (length name) 0) (not (list_all is_plain name)) h).1 in
    let same : list_all is_plain name ≡ false = ap (list_all is_plain) e in
    cc

pub one_name : (a b : List ℕ) → All IsByte a → All IsByte b → name_text a ≡ name_text b → a ≡ b
one_name a b p q e = by (needs_quotes a) (needs_quotes b) refl refl e
  where
    by : (s t : Bool) → needs_quotes a ≡ s → needs_quotes b ≡ t → cond s (quoted a) a ≡ cond t (quoted b) b → a ≡ b
    by true true s t e = all_same a b p q (heads 34 34 (flat_map escaped a ++ 34 ∷ []) (flat_map escaped b ++ 34 ∷ []) e).1
    by true false s t e = absurd (no_quote b (flat_map escaped a ++ 34 ∷ []) t (sym e))
    by false true s t e = absurd (no_quote a (flat_map escaped b ++ 34 ∷ []) s e)
    by false false s t e = e

differ : (a b : List ℕ) → All IsByte a → All IsByte b → bytes_eq a b ≡ false → bytes_eq (name_text a) (name_text b) ≡ false
differ a b p q h = by (bytes_eq (name_text a) (name_text b)) refl
  where
    by : (t : Bool) → bytes_eq (name_text a) (name_text b) ≡ t → t ≡ false
    by true e =
        let same : name_text a ≡ name_text b = (bytes_eq-Decides (name_text a) (name_text b)).0 e in
        let equal : bytes_eq a b ≡ true = (bytes_eq-Decides a b).1 (one_name a b p q same) in
        absurd (cc (equal, h))
    by false e = refl

all_differ : (a : List ℕ) (globals : List (List ℕ × GlobalView)) → All IsByte a → All (λ g. All IsByte g.1.name) globals → AllByRecursion (λ y. bytes_eq a y ≡ false) (map (λ g. g.1.name) globals)
    → AllByRecursion (λ y. bytes_eq (name_text a) y ≡ false) (map (λ g. name_text g.1.name) globals)
all_differ a [] p all h = tt
all_differ a (g ∷ globals) p all h =
    (differ a g.1.name p (All-head (λ g. All IsByte g.1.name) g globals all) h.0, all_differ a globals p (All-tail (λ g. All IsByte g.1.name) g globals all) h.1)

-- names that differ are shown as names that differ
pub shown_distinct : (globals : List (List ℕ × GlobalView)) → All (λ g. All IsByte g.1.name) globals → IsDistinct bytes_eq (map (λ g. g.1.name) globals) → IsDistinct bytes_eq (map (λ g. name_text g.1.name) globals)
unfolding IsDistinct
shown_distinct [] all h = tt
shown_distinct (g ∷ globals) all h = (
  all_differ g.1.name globals (All-head (λ g. All IsByte g.1.name) g globals all) (All-tail (λ g. All IsByte g.1.name) g globals all) h.0,
  shown_distinct globals (All-tail (λ g. All IsByte g.1.name) g globals all) h.1,
)
