-- The logical lines that are read of physical lines are those that they are printed from, and there are no others.
use Rattle.std.proofs.Common.{◌≡◌, ℕ, zero, suc, ◌+◌, ◌≤◌, true, false, ◌⊎◌, inl, inr, List, [], ◌∷◌, ◌++◌, length, drop, refl, ap, sym, subst, ◌∙◌, append_assoc, append-nil, arith}
use Rattle.std.specs.Prelude.{◌==◌, All}
use Rattle.std.specs.List.{take_while, prefix_len}
use Rattle.std.proofs.lemmas.Bool.{eq-eqb, ne_eqb}
use Rattle.spec_lex.specs.Token.{Lexeme, is_none, open_after}
use Rattle.spec_lex.specs.Bytes.{is_blank}
use Rattle.spec_lex.specs.Lines.{Line, IsPrinted, GoesOn, Starts, ArePrinted, AreLinesOf, rows_of}
use Rattle.spec_lex.specs.Reading.{row_tokens, nothing, whole, goes_on, step_to, lines_from, read_lines}
use Rattle.spec_lex.proofs.RowLaws.{tokens_sound, tokens_complete, blanks_are, blanks_front, blanks_end, blanks_part, blanks_before, drop_blanks}

abbrev from : List Line → Line → ℕ → ℕ → List (List ℕ) → List Line
from found current nest n rows = lines_from (record { found = found; current = current; nest = nest }) n rows

-- a line that ends with a physical line, and one that goes on
ends : (found : List Line) (l : Line) (n : ℕ) (nest : ℕ) (rows : List (List ℕ)) → nest ≡ 0 → lines_from (step_to found l nest) n rows ≡ from (found ++ whole l) nothing 0 n rows
ends found l n nest rows none = let e : (nest == 0) ≡ true = eq-eqb nest 0 none in rw e refl

stays : (found : List Line) (l : Line) (n : ℕ) (nest : ℕ) (rows : List (List ℕ)) → 1 ≤ nest → lines_from (step_to found l nest) n rows ≡ from found l nest n rows
stays found l n nest rows some = let e : (nest == 0) ≡ false = ne_eqb nest 0 (λ none. omega (arith, none, some)) in rw e refl

next : (found : List Line) (l : Line) (nest n : ℕ) (row : List ℕ) (rows : List (List ℕ)) →
    from found l nest n (row ∷ rows) ≡ lines_from (step_to found (goes_on l n row) (open_after nest (row_tokens row))) (n + 1) rows
unfolding lines_from
next found l nest n row rows = refl

last : (found : List Line) (l : Line) (nest n : ℕ) → from found l nest n [] ≡ found ++ whole l
unfolding lines_from
last found l nest n = refl

none_or_some : (n : ℕ) → (n ≡ 0) ⊎ (1 ≤ n)
none_or_some zero = inl refl
none_or_some (suc n) = inr (omega arith)

-- the lines that are found stay in front
found_first : (found : List Line) (l : Line) (nest n : ℕ) (rows : List (List ℕ)) → from found l nest n rows ≡ found ++ from [] l nest n rows
found_first found l nest n [] = last found l nest n ∙ ap (λ ls. found ++ ls) (sym (last [] l nest n))
found_first found l nest n (row ∷ rows) =
    let k : ℕ = open_after nest (row_tokens row) in
    let m : Line = goes_on l n row in
    elim (none_or_some k) [
      | inl none ↦
          next found l nest n row rows ∙ ends found m (n + 1) k rows none ∙ found_first (found ++ whole m) nothing 0 (n + 1) rows
          ∙ append_assoc found (whole m) (from [] nothing 0 (n + 1) rows)
          ∙ ap (λ ls. found ++ ls) (sym (next [] l nest n row rows ∙ ends [] m (n + 1) k rows none ∙ found_first (whole m) nothing 0 (n + 1) rows))
      | inr some ↦
          next found l nest n row rows ∙ stays found m (n + 1) k rows some ∙ found_first found m k (n + 1) rows
          ∙ ap (λ ls. found ++ ls) (sym (next [] l nest n row rows ∙ stays [] m (n + 1) k rows some))
    ]

-- a line that ends with a physical line stands before the lines of the others
line_ends : (l : Line) (nest n : ℕ) (row : List ℕ) (rows : List (List ℕ)) → open_after nest (row_tokens row) ≡ 0 →
    from [] l nest n (row ∷ rows) ≡ whole (goes_on l n row) ++ from [] nothing 0 (n + 1) rows
line_ends l nest n row rows none =
    next [] l nest n row rows ∙ ends [] (goes_on l n row) (n + 1) (open_after nest (row_tokens row)) rows none ∙ found_first (whole (goes_on l n row)) nothing 0 (n + 1) rows

line_stays : (l : Line) (nest n : ℕ) (row : List ℕ) (rows : List (List ℕ)) → 1 ≤ open_after nest (row_tokens row) →
    from [] l nest n (row ∷ rows) ≡ from [] (goes_on l n row) (open_after nest (row_tokens row)) (n + 1) rows
line_stays l nest n row rows some = next [] l nest n row rows ∙ stays [] (goes_on l n row) (n + 1) (open_after nest (row_tokens row)) rows some

-- with more tokens behind its own
abbrev more_of : Line → List Lexeme → Line
more_of l ts = record { line = l.line; blanks = l.blanks; tokens = l.tokens ++ ts }

-- a line with a token
abbrev HasToken : Line → Type 0
HasToken l = is_none l.tokens ≡ false

still_some : (ts us : List Lexeme) → is_none ts ≡ false → is_none (ts ++ us) ≡ false
still_some [] us some = cc
still_some (t ∷ ts) us some = refl

further : (l : Line) (n : ℕ) (row : List ℕ) → HasToken l → goes_on l n row ≡ more_of l (row_tokens row)
further l n row some = rw some refl

whole_some : (l : Line) → HasToken l → whole l ≡ l ∷ []
whole_some l some = rw some refl

whole_none : (l : Line) → l.tokens ≡ [] → whole l ≡ []
whole_none l none = rw none refl

all_cons : (P : List ℕ → Type 0) (x : List ℕ) (xs : List (List ℕ)) → P x → All P xs → All P (x ∷ xs)
all_cons P x xs first others zero d within = first
all_cons P x xs first others (suc k) d within = others k d (omega (arith, within))

all_none : (P : List ℕ → Type 0) → All P []
all_none P k d within = absurd (omega (arith, within))

printed_ahead : (ls : List Line) (n : ℕ) (row : List ℕ) (rows : List (List ℕ)) → IsPrinted [] row → ArePrinted (n + 1) ls rows → ArePrinted n ls (row ∷ rows)
printed_ahead [] n row rows first others = all_cons (IsPrinted []) row rows first others
printed_ahead (l ∷ ls) n row rows first (empty, begun, more, after, here, rest, empties, starts, goes, others, parts, place, tokens) =
    (row ∷ empty, begun, more, after, here, rest, all_cons (IsPrinted []) row empty first empties, starts, goes, others, ap (λ s. row ∷ s) parts, omega (arith, place), tokens)

-- what a line that is open goes on with: further physical lines, and the lines behind those
record Going (l : Line) (nest n : ℕ) (rows : List (List ℕ)) : Type 0 where
  more : List (List ℕ)
  after : List (List ℕ)
  rest : List Lexeme
  ls : List Line
  parts : rows ≡ more ++ after
  goes : GoesOn nest rest more after
  others : ArePrinted (n + length more) ls after
  read : from [] l nest n rows ≡ more_of l rest ∷ ls

starts_at : (t : Lexeme) (ts : List Lexeme) (row : List ℕ) → row_tokens row ≡ t ∷ ts → Starts (take_while is_blank row) (t ∷ ts) row
starts_at t ts row is =
    let stripped : List ℕ = drop (prefix_len is_blank row) row in
    (stripped, blanks_front row, blanks_part row, blanks_end row, subst (λ us. IsPrinted us stripped) (drop_blanks row ∙ is) (tokens_sound stripped))

idle_row : (row : List ℕ) (rows : List (List ℕ)) (n : ℕ) (here : List Lexeme) → row_tokens row ≡ here → ArePrinted (n + 1) (from [] nothing 0 (n + 1) rows) rows →
    ((l : Line) (nest : ℕ) → 1 ≤ nest → HasToken l → Going l nest (n + 1) rows) → ArePrinted n (from [] nothing 0 n (row ∷ rows)) (row ∷ rows)
idle_row row rows n [] is others going =
    let none : open_after 0 (row_tokens row) ≡ 0 = ap (open_after 0) is in
    let read : from [] nothing 0 n (row ∷ rows) ≡ from [] nothing 0 (n + 1) rows =
    line_ends nothing 0 n row rows none ∙ ap (λ ls. ls ++ from [] nothing 0 (n + 1) rows) (whole_none (goes_on nothing n row) is) in
    subst (λ ls. ArePrinted n ls (row ∷ rows)) (sym read) (printed_ahead (from [] nothing 0 (n + 1) rows) n row rows (subst (λ ts. IsPrinted ts row) is (tokens_sound row)) others)
idle_row row rows n (t ∷ ts) is others going =
    let l : Line = goes_on nothing n row in
    let some : HasToken l = rw is refl in
    let k : ℕ = open_after 0 (row_tokens row) in
    elim (none_or_some k) [
      | inl none ↦
          let read : from [] nothing 0 n (row ∷ rows) ≡ l ∷ from [] nothing 0 (n + 1) rows =
          line_ends nothing 0 n row rows none ∙ ap (λ ls. ls ++ from [] nothing 0 (n + 1) rows) (whole_some l some) in
          let e : n + 1 ≡ n + 1 + 0 = omega arith in
          let printed : ArePrinted n (l ∷ from [] nothing 0 (n + 1) rows) (row ∷ rows) = (
            [],
            row,
            [],
            rows,
            t ∷ ts,
            [],
            all_none (IsPrinted []),
            starts_at t ts row is,
            (refl, inl (sym (ap (open_after 0) is) ∙ none)),
            subst (λ m. ArePrinted m (from [] nothing 0 (n + 1) rows) rows) e others,
            refl,
            omega arith,
            is ∙ sym (append-nil (t ∷ ts)),
          ) in
          subst (λ ls. ArePrinted n ls (row ∷ rows)) (sym read) printed
      | inr open_here ↦
          let g : Going l k (n + 1) rows = going l k open_here some in
          let read : from [] nothing 0 n (row ∷ rows) ≡ more_of l g.rest ∷ g.ls = line_stays nothing 0 n row rows open_here ∙ g.read in
          let printed : ArePrinted n (more_of l g.rest ∷ g.ls) (row ∷ rows) = (
            [],
            row,
            g.more,
            g.after,
            t ∷ ts,
            g.rest,
            all_none (IsPrinted []),
            starts_at t ts row is,
            subst (λ us. GoesOn (open_after 0 us) g.rest g.more g.after) is g.goes,
            g.others,
            ap (λ s. row ∷ s) g.parts,
            omega arith,
            ap (λ us. us ++ g.rest) is,
          ) in
          subst (λ ls. ArePrinted n ls (row ∷ rows)) (sym read) printed
    ]

open_row : (l : Line) (nest n : ℕ) (row : List ℕ) (rows : List (List ℕ)) → 1 ≤ nest → HasToken l → ArePrinted (n + 1) (from [] nothing 0 (n + 1) rows) rows →
    ((m : Line) (k : ℕ) → 1 ≤ k → HasToken m → Going m k (n + 1) rows) → Going l nest n (row ∷ rows)
open_row l nest n row rows deep some others going =
    let here : List Lexeme = row_tokens row in
    let m : Line = more_of l here in
    let k : ℕ = open_after nest here in
    let has : HasToken m = still_some l.tokens here some in
    elim (none_or_some k) [
      | inl none ↦ record {
        more = row ∷ [];
        after = rows;
        rest = here;
        ls = from [] nothing 0 (n + 1) rows;
        parts = refl;
        goes = (deep, here, [], sym (append-nil here), tokens_sound row, (refl, inl none));
        others = others;
        read = line_ends l nest n row rows none ∙ ap (λ a. whole a ++ from [] nothing 0 (n + 1) rows) (further l n row some)
            ∙ ap (λ ls. ls ++ from [] nothing 0 (n + 1) rows) (whole_some m has);
      }
      | inr open_here ↦
          let g : Going m k (n + 1) rows = going m k open_here has in
          let e : n + 1 + length g.more ≡ n + length (row ∷ g.more) = omega arith in
          record {
            more = row ∷ g.more;
            after = g.after;
            rest = here ++ g.rest;
            ls = g.ls;
            parts = ap (λ s. row ∷ s) g.parts;
            goes = (deep, here, g.rest, refl, tokens_sound row, g.goes);
            others = subst (λ a. ArePrinted a g.ls g.after) e g.others;
            read = line_stays l nest n row rows open_here ∙ ap (λ a. from [] a k (n + 1) rows) (further l n row some) ∙ g.read
                ∙ ap (λ ts. record { line = l.line; blanks = l.blanks; tokens = ts } ∷ g.ls) (append_assoc l.tokens here g.rest);
          }
    ]

-- both at once, by the physical lines that are left
record Sound (rows : List (List ℕ)) : Type 0 where
  idle : (n : ℕ) → ArePrinted n (from [] nothing 0 n rows) rows
  going : (l : Line) (nest n : ℕ) → 1 ≤ nest → HasToken l → Going l nest n rows

sound_end : (l : Line) (nest n : ℕ) → HasToken l → Going l nest n []
sound_end l nest n some = record {
  more = [];
  after = [];
  rest = [];
  ls = [];
  parts = refl;
  goes = (refl, inr refl);
  others = all_none (IsPrinted []);
  read = last [] l nest n ∙ whole_some l some ∙ ap (λ ts. record { line = l.line; blanks = l.blanks; tokens = ts } ∷ []) (sym (append-nil l.tokens));
}

sound : (rows : List (List ℕ)) → Sound rows
sound [] = record {
  idle = λ n. subst (λ ls. ArePrinted n ls []) (sym (last [] nothing 0 n)) (all_none (IsPrinted []));
  going = λ l nest n deep some. sound_end l nest n some;
}
sound (row ∷ rows) =
    let inner : Sound rows = sound rows in
    record {
      idle = λ n. idle_row row rows n (row_tokens row) refl (inner.idle (n + 1)) (λ l nest deep some. inner.going l nest (n + 1) deep some);
      going = λ l nest n deep some. open_row l nest n row rows deep some (inner.idle (n + 1)) (λ m k deeper has. inner.going m k (n + 1) deeper has);
    }

empty_row : (n : ℕ) (row : List ℕ) (rows : List (List ℕ)) → IsPrinted [] row → from [] nothing 0 n (row ∷ rows) ≡ from [] nothing 0 (n + 1) rows
empty_row n row rows printed =
    let is : row_tokens row ≡ [] = tokens_complete [] row printed in
    line_ends nothing 0 n row rows (ap (open_after 0) is) ∙ ap (λ ls. ls ++ from [] nothing 0 (n + 1) rows) (whole_none (goes_on nothing n row) is)

empty_rows : (empty rows : List (List ℕ)) (n : ℕ) → All (IsPrinted []) empty → from [] nothing 0 n (empty ++ rows) ≡ from [] nothing 0 (n + length empty) rows
empty_rows [] rows n all = let e : n ≡ n + 0 = omega arith in ap (λ m. from [] nothing 0 m rows) e
empty_rows (row ∷ empty) rows n all =
    let e : n + 1 + length empty ≡ n + length (row ∷ empty) = omega arith in
    empty_row n row (empty ++ rows) (all 0 [] (omega arith))
    ∙ empty_rows empty rows (n + 1) (λ k d within. all (suc k) d (omega (arith, within)))
    ∙ ap (λ m. from [] nothing 0 m rows) e

-- a line that is done, before what follows
done_line : (l : Line) (rest : List Lexeme) (n : ℕ) (after : List (List ℕ)) → HasToken l → rest ≡ [] →
    whole l ++ from [] nothing 0 n after ≡ more_of l rest ∷ from [] nothing 0 (n + 0) after
done_line l rest n after some none =
    let e : n ≡ n + 0 = omega arith in
    ap (λ ls. ls ++ from [] nothing 0 n after) (whole_some l some)
    ∙ ap (λ ts. record { line = l.line; blanks = l.blanks; tokens = ts } ∷ from [] nothing 0 n after) (sym (ap (λ ts. l.tokens ++ ts) none ∙ append-nil l.tokens))
    ∙ ap (λ m. more_of l rest ∷ from [] nothing 0 m after) e

goes_end : (l : Line) (rest : List Lexeme) (nest n : ℕ) (after : List (List ℕ)) → HasToken l → rest ≡ [] → (nest ≡ 0) ⊎ (after ≡ []) →
    lines_from (step_to [] l nest) n after ≡ more_of l rest ∷ from [] nothing 0 (n + 0) after
goes_end l rest nest n after some none (inl shut) = ends [] l n nest after shut ∙ found_first (whole l) nothing 0 n after ∙ done_line l rest n after some none
goes_end l rest nest n after some none (inr over) =
    elim (none_or_some nest) [
      | inl shut ↦ ends [] l n nest after shut ∙ found_first (whole l) nothing 0 n after ∙ done_line l rest n after some none
      | inr deep ↦
          stays [] l n nest after deep ∙ ap (from [] l nest n) over ∙ last [] l nest n ∙ sym (append-nil (whole l))
          ∙ ap (λ ls. whole l ++ ls) (sym (last [] nothing 0 n)) ∙ ap (λ rows. whole l ++ from [] nothing 0 n rows) (sym over) ∙ done_line l rest n after some none
    ]

goes_complete : (more : List (List ℕ)) (l : Line) (rest : List Lexeme) (nest n : ℕ) (after : List (List ℕ)) → GoesOn nest rest more after → HasToken l →
    lines_from (step_to [] l nest) n (more ++ after) ≡ more_of l rest ∷ from [] nothing 0 (n + length more) after
goes_complete [] l rest nest n after (none, which) some = goes_end l rest nest n after some none which
goes_complete (row ∷ more) l rest nest n after (deep, here, others, parts, printed, goes) some =
    let is : row_tokens row ≡ here = tokens_complete here row printed in
    let e : n + 1 + length more ≡ n + length (row ∷ more) = omega arith in
    stays [] l n nest (row ∷ (more ++ after)) deep
    ∙ next [] l nest n row (more ++ after)
    ∙ ap (λ a. lines_from (step_to [] a (open_after nest (row_tokens row))) (n + 1) (more ++ after)) (further l n row some)
    ∙ ap (λ ts. lines_from (step_to [] (more_of l ts) (open_after nest ts)) (n + 1) (more ++ after)) is
    ∙ goes_complete more (more_of l here) others (open_after nest here) (n + 1) after goes (still_some l.tokens here some)
    ∙ ap (λ ts. record { line = l.line; blanks = l.blanks; tokens = ts } ∷ from [] nothing 0 (n + 1 + length more) after) (append_assoc l.tokens here others ∙ sym (ap (λ ts. l.tokens ++ ts) parts))
    ∙ ap (λ m. more_of l rest ∷ from [] nothing 0 m after) e

-- the line that begins on a physical line
begins_line : (n : ℕ) (blanks : List ℕ) (here : List Lexeme) (row : List ℕ) → Starts blanks here row →
    (goes_on nothing n row ≡ record { line = n; blanks = blanks; tokens = here }) × (is_none here ≡ false) × (row_tokens row ≡ here)
begins_line n blanks [] row starts = absurd starts
begins_line n blanks (t ∷ ts) row (rest, are, parts, ends_here, printed) =
    let is : row_tokens row ≡ t ∷ ts = tokens_complete (t ∷ ts) row (subst (IsPrinted (t ∷ ts)) (sym parts) (blanks_before blanks (t ∷ ts) rest are printed)) in
    let front : take_while is_blank row ≡ blanks = ap (take_while is_blank) parts ∙ blanks_are blanks rest are ends_here in
    (ap (λ ts. record { line = n; blanks = take_while is_blank row; tokens = ts }) is ∙ ap (λ s. record { line = n; blanks = s; tokens = t ∷ ts }) front, refl, is)

complete : (ls : List Line) (n : ℕ) (rows : List (List ℕ)) → ArePrinted n ls rows → from [] nothing 0 n rows ≡ ls
complete [] n rows all =
    ap (from [] nothing 0 n) (sym (append-nil rows)) ∙ empty_rows rows [] n all ∙ last [] nothing 0 (n + length rows)
complete (l ∷ ls) n rows (empty, row, more, after, here, rest, empties, starts, goes, others, parts, place, tokens) =
    let m : ℕ = n + length empty in
    let begun = begins_line m l.blanks here row starts in
    let opened : Line = record { line = m; blanks = l.blanks; tokens = here } in
    ap (from [] nothing 0 n) parts
    ∙ empty_rows empty (row ∷ (more ++ after)) n empties
    ∙ next [] nothing 0 m row (more ++ after)
    ∙ ap (λ a. lines_from (step_to [] a (open_after 0 (row_tokens row))) (m + 1) (more ++ after)) begun.0
    ∙ ap (λ ts. lines_from (step_to [] opened (open_after 0 ts)) (m + 1) (more ++ after)) begun.2
    ∙ goes_complete more opened rest (open_after 0 here) (m + 1) after goes begun.1
    ∙ ap (λ ts. record { line = m; blanks = l.blanks; tokens = ts } ∷ from [] nothing 0 (m + 1 + length more) after) (sym tokens)
    ∙ ap (λ k. record { line = k; blanks = l.blanks; tokens = l.tokens } ∷ from [] nothing 0 (k + 1 + length more) after) (sym place)
    ∙ ap (λ os. l ∷ os) (complete ls (l.line + 1 + length more) after others)

pub lines_sound : (text : List ℕ) → AreLinesOf text (read_lines text)
unfolding read_lines
lines_sound text = (sound (rows_of text)).idle 1

pub lines_complete : (text : List ℕ) (ls : List Line) → AreLinesOf text ls → read_lines text ≡ ls
unfolding read_lines
lines_complete text ls printed = complete ls 1 (rows_of text) printed
