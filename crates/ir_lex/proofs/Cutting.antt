-- One step of the cut into items.
use Rattle.std.proofs.Common.{◌≡◌, ℕ, zero, suc, ◌+◌, ◌-◌, ◌<◌, ◌≤◌, length-drop, Bool, true, false, ◌||◌, List, [], ◌∷◌, ◌++◌, length, get_or, take, drop, refl, ap, sym, ◌∙◌, append_assoc, append-nil, arith}
use Rattle.std.proofs.lemmas.Bool.{eq-eqb}
use Rattle.std.proofs.lemmas.List.{drop-drop}
use Rattle.std.specs.Prelude.{◌==◌, cond}
use Rattle.ir_lex.specs.Lexeme.{Lexeme, lexeme, lexemes}
use Rattle.ir_lex.specs.Cut.{Cut, cut, cut_from, first_cut, cut_of, cuts_of, stretch_from, stretch_of, scan_at, scan_after, goes_on, one_more}
use Rattle.ir_lex.specs.declared.token.Token.{Token}
use Rattle.ir_lex.specs.declared.cut.Scan.{Scan}
use Rattle.ir_lex.specs.declared.cut.Stretch.{Stretch}
use Rattle.ir_lex.specs.declared.cut.Item.{Item}

-- so many tokens before those of a stretch
abbrev pub ahead : ℕ → Stretch → Stretch
ahead n s = record { count = s.count + n; closed = s.closed }

length-lexemes : (ts : List Token) → length (lexemes ts) ≡ length ts
length-lexemes [] = refl
length-lexemes (t ∷ ts) = ap suc (length-lexemes ts)

pub drop-lexemes : (n : ℕ) (ts : List Token) → lexemes (drop n ts) ≡ drop n (lexemes ts)
drop-lexemes zero ts = refl
drop-lexemes (suc n) [] = refl
drop-lexemes (suc n) (t ∷ ts) = drop-lexemes n ts

pub take-lexemes : (n : ℕ) (ts : List Token) → lexemes (take n ts) ≡ take n (lexemes ts)
take-lexemes zero ts = refl
take-lexemes (suc n) [] = refl
take-lexemes (suc n) (t ∷ ts) = ap (λ ls. lexeme t ∷ ls) (take-lexemes n ts)

goes : (b : Bool) (s : Stretch) (n : ℕ) → s.count ≤ n → (cond b (one_more s) (record { count = 0; closed = true })).count ≤ suc n
goes true s n within = omega (arith, within)
goes false s n within = omega arith

taken : (b c : Bool) (s : Stretch) → b ≡ true → 0 < (cond (b || c) (one_more s) (record { count = 0; closed = true })).count
taken true c s is = omega arith
taken false c s is = cc

stretch-within : (scan : Scan) (line : ℕ) (ts : List Lexeme) → (stretch_from scan line ts).count ≤ length ts
stretch-within scan line [] = omega arith
stretch-within scan line (t ∷ ts) =
    goes ((t.line == line) || goes_on scan.extent scan.brackets) (stretch_from (scan_after scan t) t.line ts) (length ts) (stretch-within (scan_after scan t) t.line ts)

-- the first item has a token, and no more than there are
pub stretch-bounds : (ts : List Token) → 0 < length ts → (0 < (stretch_of (lexemes ts)).count) × ((stretch_of (lexemes ts)).count ≤ length ts)
stretch-bounds [] some = absurd (omega arith)
stretch-bounds (t ∷ ts) some =
    let scan : Scan = scan_at (lexemes (t ∷ ts)) in
    let others : Stretch = stretch_from (scan_after scan (lexeme t)) t.line (lexemes ts) in
    let within = stretch-within scan t.line (lexemes (t ∷ ts)) in
    (taken (t.line == t.line) (goes_on scan.extent scan.brackets) others (eq-eqb t.line t.line refl), omega (arith, within, length-lexemes ts))

pub ruleset stretching = (stretch-bounds)

passes_over : (k : ℕ) (ts : List Lexeme) → cut_from k ts ≡ cut_from 0 (drop k ts)
unfolding cut_from
passes_over zero ts = refl
passes_over (suc k) [] = refl
passes_over (suc k) (t ∷ ts) = passes_over k ts

-- the first item stands before the others
cut_steps : (n : ℕ) (closed : Bool) (t : Lexeme) (ts : List Lexeme) → record { count = n; closed = closed } ≡ stretch_of (t ∷ ts) → 0 < n →
    cut_from 0 (t ∷ ts) ≡ record { line = t.line; lexemes = take n (t ∷ ts); closed = closed } ∷ cut_from 0 (drop n (t ∷ ts))
unfolding cut_from
cut_steps zero closed t ts is some = absurd (omega arith)
cut_steps (suc m) closed t ts is some =
    let e : suc m - 1 ≡ m = omega arith in
    ap (λ s. first_cut s t ts ∷ cut_from (s.count - 1) ts) (sym is)
    ∙ ap (λ cs. first_cut (record { count = suc m; closed = closed }) t ts ∷ cs) (ap (λ k. cut_from k ts) e ∙ passes_over m ts)

cuts-append : (xs ys : List Item) → cuts_of (xs ++ ys) ≡ cuts_of xs ++ cuts_of ys
cuts-append [] ys = refl
cuts-append (x ∷ xs) ys = ap (λ cs. cut_of x ∷ cs) (cuts-append xs ys)

pub starts_cut : (ts : List Lexeme) → [] ++ cut_from 0 ts ≡ cut ts
unfolding cut
starts_cut ts = refl

-- the item that was found goes behind those found so far
pub goes_cut : (found : List Item) (item : Item) (first : Token) (n : ℕ) (rest : List Token) (whole : List Cut) →
    record { count = n; closed = item.closed } ≡ stretch_of (lexemes rest) → 0 < n → item.line ≡ (get_or rest 0 first).line → item.tokens.now ≡ take n rest →
    0 < length rest → cuts_of found ++ cut_from 0 (lexemes rest) ≡ whole →
    cuts_of (found ++ item ∷ []) ++ cut_from 0 (lexemes (drop n rest)) ≡ whole
goes_cut found item first n [] whole is some line parts more so_far = absurd (omega arith)
goes_cut found item first n (t ∷ rest) whole is some line parts more so_far =
    let ts : List Lexeme = lexemes (t ∷ rest) in
    let same : cut_of item ≡ record { line = t.line; lexemes = take n ts; closed = item.closed } =
    ap (λ l. record { line = l; lexemes = lexemes item.tokens.now; closed = item.closed }) line
    ∙ ap (λ ls. record { line = t.line; lexemes = ls; closed = item.closed }) (ap lexemes parts ∙ take-lexemes n (t ∷ rest)) in
    ap (λ cs. cs ++ cut_from 0 (lexemes (drop n (t ∷ rest)))) (cuts-append found (item ∷ []))
    ∙ append_assoc (cuts_of found) (cut_of item ∷ []) (cut_from 0 (lexemes (drop n (t ∷ rest))))
    ∙ ap (λ ls. cuts_of found ++ cut_of item ∷ cut_from 0 ls) (drop-lexemes n (t ∷ rest))
    ∙ ap (λ c. cuts_of found ++ c ∷ cut_from 0 (drop n ts)) same
    ∙ ap (λ cs. cuts_of found ++ cs) (sym (cut_steps n item.closed (lexeme t) (lexemes rest) is some))
    ∙ so_far

pub ends_cut : (found : List Item) (rest : List Token) (whole : List Cut) → length rest ≡ 0 → cuts_of found ++ cut_from 0 (lexemes rest) ≡ whole → cuts_of found ≡ whole
unfolding cut_from
ends_cut found [] whole none so_far = sym (append-nil (cuts_of found)) ∙ so_far
ends_cut found (t ∷ rest) whole none so_far = absurd (omega arith)

pub none_left : (n : ℕ) (ts : List Token) → length ts ≤ n → length (drop n ts) ≡ 0
none_left n ts all = let e = length-drop n ts in omega (arith, e)

pub drop_on : (at n : ℕ) (ts : List Token) → drop (at + n) ts ≡ drop n (drop at ts)
drop_on at n ts = sym (drop-drop n at ts)
