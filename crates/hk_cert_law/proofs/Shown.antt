-- Names of globals, as they are shown.
use Rattle.std.proofs.Common.{◌≡◌, ℕ, zero, suc, ◌/◌, ◌%◌, Bool, true, false, not, ◌&&◌, ◌||◌, eqb, List, [], ◌∷◌, length, get_or, refl, ap}
use Rattle.std.proofs.lemmas.Bool.{and_from, and_parts, cond_both, not-true, not-false, not_from_false, or_from, or_parts, ne_eqb}
use Rattle.std.specs.Prelude.{codes, slice_index}
use Rattle.std.specs.List.{list_all, flat_map}
use Rattle.hk_rows.specs.Texts.{hex_digits, is_plain, escaped, needs_quotes, quoted, name_text}
use Rattle.hk_cert_law.proofs.Lines.{is_inner, is_one_line, all_append, all_weaker}

-- neither a newline nor the sign behind a name
abbrev pub is_shown : ℕ → Bool
is_shown b = not (eqb b 10 || eqb b 43)

pub shown_line : (text : List ℕ) → list_all is_shown text ≡ true → is_one_line text ≡ true
shown_line text h = all_weaker is_shown is_inner (λ b p. not_from_false (eqb b 10) (or_parts (eqb b 10) (eqb b 43) (not-true (eqb b 10 || eqb b 43) p)).0) text h

no_plain : (b c : ℕ) → is_plain b ≡ true → is_plain c ≡ false → eqb b c ≡ false
no_plain b c h n = ne_eqb b c (λ e. let f : is_plain b ≡ is_plain c = ap is_plain e in absurd (cc (h, f, n)))

plain_shown : (b : ℕ) → is_plain b ≡ true → is_shown b ≡ true
plain_shown b h = not_from_false (eqb b 10 || eqb b 43) (or_from (eqb b 10) (eqb b 43) (no_plain b 10 h refl) (no_plain b 43 h refl))

-- an element of a list of such bytes, or 0
shown_at : (bytes : List ℕ) (k : ℕ) → list_all is_shown bytes ≡ true → is_shown (get_or bytes k 0) ≡ true
shown_at [] k h = refl
shown_at (b ∷ bytes) zero h = (and_parts (is_shown b) (list_all is_shown bytes) h).0
shown_at (b ∷ bytes) (suc k) h = shown_at bytes k (and_parts (is_shown b) (list_all is_shown bytes) h).1

digits_shown : (b : ℕ) → list_all is_shown (92 ∷ hex_digits (codes "0123456789ABCDEF") b) ≡ true
digits_shown b =
    let digits = codes "0123456789ABCDEF" in
    and_from (is_shown (slice_index digits (b / 16))) (is_shown (slice_index digits (b % 16)) && true) (shown_at digits (b / 16) refl)
    (and_from (is_shown (slice_index digits (b % 16))) true (shown_at digits (b % 16) refl) refl)

escaped_shown : (b : ℕ) → list_all is_shown (escaped b) ≡ true
escaped_shown b =
    cond_both (is_plain b) (b ∷ []) (92 ∷ hex_digits (codes "0123456789ABCDEF") b) (λ t. list_all is_shown t ≡ true) (λ h. and_from (is_shown b) true (plain_shown b h) refl) (λ h. digits_shown b)

all_escaped : (name : List ℕ) → list_all is_shown (flat_map escaped name) ≡ true
all_escaped [] = refl
all_escaped (b ∷ name) = all_append is_shown (escaped b) (flat_map escaped name) (escaped_shown b) (all_escaped name)

pub name_shown : (name : List ℕ) → list_all is_shown (name_text name) ≡ true
name_shown name =
    cond_both (needs_quotes name) (quoted name) name (λ t. list_all is_shown t ≡ true)
    (λ h. all_append is_shown (34 ∷ flat_map escaped name) (34 ∷ []) (all_escaped name) refl)
    (λ h. all_weaker is_plain is_shown plain_shown name (plain_name h))
  where
    plain_name : needs_quotes name ≡ false → list_all is_plain name ≡ true
    plain_name h = not-false (list_all is_plain name) (or_parts (eqb (length name) 0) (not (list_all is_plain name)) h).1
