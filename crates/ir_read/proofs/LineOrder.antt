-- The tokens of a text stand in the order of their lines, and its items begin on lines of their own.
use Rattle.std.proofs.Common.{◌≡◌, ◌<◌, ◌≤◌, ◌+◌, ◌-◌, ℕ, zero, suc, Bool, true, false, ◌||◌, ◌==◌, if◌then◌else◌, Result, Ok, Err, List, [], ◌∷◌, take, drop, refl, sym, ap, subst, add-one, arith}
use Rattle.std.proofs.lemmas.Bool.{eqb-false, eq-eqb}
use Rattle.ir_lex.specs.Lexeme.{Lexeme}
use Rattle.ir_lex.specs.Lex.{after_piece, with_first, lex_from, lex, piece_of}
use Rattle.ir_lex.specs.Cut.{scan_at, scan_after, goes_on, one_more, stretch_from, stretch_of, cut_from, cut}
use Rattle.ir_read.specs.LineOrder.{Climbs, Rises}
use Rattle.ir_lex.specs.declared.piece.Piece.{Piece}
use Rattle.ir_lex.specs.declared.piece.Piece.TheVariants.{Blank, LineEnd, Whole, Outside}
use Rattle.ir_lex.specs.declared.cut.Scan.{Scan}

-- ---- tokens

climbs-less : (n m : ℕ) (ts : List Lexeme) → n ≤ m → Climbs m ts → Climbs n ts
climbs-less n m [] less h = h
climbs-less n m (t ∷ ts) less h = (omega (arith, less, h.0), h.1)

ok_is : {a b : List Lexeme} → ◌≡◌ {A = Result (List Lexeme) ℕ} (Ok a) (Ok b) → a ≡ b
ok_is {a} e = ap (λ o. value a o) e
  where
    value : List Lexeme → Result (List Lexeme) ℕ → List Lexeme
    value a (Ok b) = b
    value a (Err line) = a

first_climbs : (n : ℕ) (t : Lexeme) (r : Result (List Lexeme) ℕ) (ts : List Lexeme) → n ≤ t.line → ((us : List Lexeme) → r ≡ Ok us → Climbs t.line us) → with_first t r ≡ Ok ts → Climbs n ts
first_climbs n t (Ok others) ts less h e = subst (Climbs n) (ok_is e) (less, h others refl)
first_climbs n t (Err line) ts less h e = absurd cc

piece_climbs : (p : Piece) (line : ℕ) (bytes : List ℕ) (on : ℕ → ℕ → Result (List Lexeme) ℕ) (ts : List Lexeme) → ((skip next : ℕ) (us : List Lexeme) → on skip next ≡ Ok us → Climbs next us)
    → after_piece p line bytes on ≡ Ok ts → Climbs line ts
piece_climbs (Blank n) line bytes on ts h e = h (n - 1) line ts e
piece_climbs LineEnd line bytes on ts h e = climbs-less line (line + 1) ts (omega arith) (h 0 (line + 1) ts e)
piece_climbs (Whole kind n) line bytes on ts h e =
    first_climbs line (record { kind = kind; line = line; text = take n bytes }) (on (n - 1) line) ts (omega arith) (λ us. h (n - 1) line us) e
piece_climbs Outside line bytes on ts h e = absurd cc

lexed_climb : (skip line : ℕ) (bytes : List ℕ) (ts : List Lexeme) → lex_from skip line bytes ≡ Ok ts → Climbs line ts
unfolding lex_from
lexed_climb skip line [] ts e = subst (Climbs line) (ok_is e) tt
lexed_climb (suc k) line (b ∷ rest) ts e = lexed_climb k line rest ts e
lexed_climb zero line (b ∷ rest) ts e =
    piece_climbs (piece_of (b ∷ rest)) line (b ∷ rest) (λ skip next. lex_from skip next rest) ts (λ skip next us f. lexed_climb skip next rest us f) e

-- ---- items

-- behind an item the first token stands on a later line
abbrev Behind : ℕ → List Lexeme → Type 0
Behind line [] = Unit {0}
Behind line (t ∷ ts) = (line < t.line) × Climbs t.line ts

behind-less : (n m : ℕ) (ts : List Lexeme) → n ≤ m → Behind m ts → Behind n ts
behind-less n m [] less h = h
behind-less n m (t ∷ ts) less h = (omega (arith, less, h.0), h.1)

or_false : (a b : Bool) → (a || b) ≡ false → a ≡ false
or_false true b e = e
or_false false b e = refl

stretch_behind : (scan : Scan) (line : ℕ) (ts : List Lexeme) → Climbs line ts → Behind line (drop (stretch_from scan line ts).count ts)
stretch_behind scan line [] h = tt
stretch_behind scan line (t ∷ ts) h = by ((t.line == line) || goes_on scan.extent scan.brackets) refl (stretch_behind (scan_after scan t) t.line ts h.1)
  where
    by : (b : Bool) → ((t.line == line) || goes_on scan.extent scan.brackets) ≡ b → Behind t.line (drop (stretch_from (scan_after scan t) t.line ts).count ts)
        → Behind line (drop (if b then one_more (stretch_from (scan_after scan t) t.line ts) else record { count = 0; closed = true }).count (t ∷ ts))
    by true e rest =
        let k = (stretch_from (scan_after scan t) t.line ts).count in
        subst (λ n. Behind line (drop n (t ∷ ts))) (sym (add-one k)) (behind-less line t.line (drop k ts) h.0 rest)
    by false e rest =
        let apart = eqb-false t.line line (or_false (t.line == line) (goes_on scan.extent scan.brackets) e) in
        (grind (arith, h.0, apart), h.1)

-- the first token always belongs to its item
first_counts : (t : Lexeme) (ts : List Lexeme) → (stretch_of (t ∷ ts)).count ≡ suc (stretch_from (scan_after (scan_at (t ∷ ts)) t) t.line ts).count
first_counts t ts = by (t.line == t.line) (eq-eqb t.line t.line refl)
  where
    by : (b : Bool) → b ≡ true → (if b || goes_on (scan_at (t ∷ ts)).extent (scan_at (t ∷ ts)).brackets then one_more (stretch_from (scan_after (scan_at (t ∷ ts)) t) t.line ts) else record { count = 0; closed = true }).count
        ≡ suc (stretch_from (scan_after (scan_at (t ∷ ts)) t) t.line ts).count
    by true e = add-one (stretch_from (scan_after (scan_at (t ∷ ts)) t) t.line ts).count
    by false e = absurd cc

one_less : (k n : ℕ) → n ≡ suc k → k ≡ n - 1
one_less k n e = omega (arith, e)

cuts_rise : (skip line : ℕ) (ts : List Lexeme) → Behind line (drop skip ts) → Rises line (cut_from skip ts)
unfolding cut_from
cuts_rise skip line [] h = tt
cuts_rise (suc k) line (t ∷ ts) h = cuts_rise k line ts h
cuts_rise zero line (t ∷ ts) h = (
  h.0,
  cuts_rise ((stretch_of (t ∷ ts)).count - 1) t.line ts
      (subst (λ n. Behind t.line (drop n ts)) (one_less (stretch_from (scan_after (scan_at (t ∷ ts)) t) t.line ts).count (stretch_of (t ∷ ts)).count (first_counts t ts))
      (stretch_behind (scan_after (scan_at (t ∷ ts)) t) t.line ts h.1)),
)

-- the items of a text begin on lines of their own, in their order
pub items_rise : (text : List ℕ) (ts : List Lexeme) → lex text ≡ Ok ts → Rises 0 (cut ts)
unfolding lex cut
items_rise text ts e = cuts_rise 0 0 ts (first ts (lexed_climb 0 1 text ts e))
  where
    first : (us : List Lexeme) → Climbs 1 us → Behind 0 us
    first [] h = tt
    first (t ∷ us) h = (omega (arith, h.0), h.1)
