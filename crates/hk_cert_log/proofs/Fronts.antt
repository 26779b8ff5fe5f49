-- Lines at the front of a text.
use Rattle.std.proofs.Common.{◌≡◌, ◌<◌, ◌≤◌, ℕ, suc, ◌+◌, ◌-◌, Bool, true, false, not, ◌&&◌, cond, eqb, List, [], ◌∷◌, ◌++◌, length, take, drop, get_or, refl, sym, ◌∙◌, ap, subst, arith, append_assoc, length-append, length-drop}
use Rattle.std.proofs.lemmas.Bool.{and_from}
use Rattle.std.proofs.lemmas.List.{take_more, take_all, drop_all, drop-drop}
use Rattle.std.proofs.lemmas.List.Folds.{list_all-append}
use Rattle.std.proofs.lemmas.List.Sums.{prefix_len_stops, prefix_len-le-length}
use Rattle.std.proofs.Math.Seq.{take-add}
use Rattle.std.specs.List.{list_all, prefix_len}
use Rattle.std.proofs.lemmas.Bool.{eqb-true}
use Rattle.hk_cnf.specs.Text.{with_first, lines_of}
use Rattle.hk_cnf.proofs.Splits.{lines-split}
use Rattle.hk_lrat.specs.LogText.{is_skipped}
use Rattle.hk_cert_log.specs.Extents.{IsClosed, IsRowEnd, IsOver, AreLines}

-- ---- closed texts

closed-nil : IsClosed []
closed-nil more = refl

closed-append : (f g : List ℕ) → IsClosed f → IsClosed g → IsClosed (f ++ g)
closed-append f g first second more =
    ap lines_of (append_assoc f g more)
    ∙ (first (g ++ more)
    ∙ (ap (λ l. lines_of f ++ l) (second more)
    ∙ (sym (append_assoc (lines_of f) (lines_of g) (lines_of more)) ∙ ap (λ l. l ++ lines_of more) (sym (first g)))))

-- a list of lines that is not empty
record Begins (lines : List (List ℕ)) : Type 0 where
  head : List ℕ
  tail : List (List ℕ)
  is : lines ≡ head ∷ tail

ended-some : (line : List ℕ) → Begins (lines_of (line ++ 10 ∷ []))
ended-some [] = record { head = []; tail = []; is = refl }
ended-some (b ∷ line) = pick (eqb b 10) (ended-some line)
  where
    pick : (s : Bool) → Begins (lines_of (line ++ 10 ∷ [])) → Begins (cond s ([] ∷ lines_of (line ++ 10 ∷ [])) (with_first b (lines_of (line ++ 10 ∷ []))))
    pick true h = record { head = []; tail = lines_of (line ++ 10 ∷ []); is = refl }
    pick false h = record { head = b ∷ h.head; tail = h.tail; is = ap (with_first b) h.is }

ended-closed : (line : List ℕ) → IsClosed (line ++ 10 ∷ [])
ended-closed [] more = refl
ended-closed (b ∷ line) more = pick (eqb b 10) (ended-some line) (ended-closed line more)
  where
    pick : (s : Bool) → Begins (lines_of (line ++ 10 ∷ [])) → lines_of ((line ++ 10 ∷ []) ++ more) ≡ lines_of (line ++ 10 ∷ []) ++ lines_of more
        → cond s ([] ∷ lines_of ((line ++ 10 ∷ []) ++ more)) (with_first b (lines_of ((line ++ 10 ∷ []) ++ more)))
        ≡ cond s ([] ∷ lines_of (line ++ 10 ∷ [])) (with_first b (lines_of (line ++ 10 ∷ []))) ++ lines_of more
    pick true h e = ap (λ l. [] ∷ l) e
    pick false h e =
        ap (with_first b) e
        ∙ subst (λ l. with_first b (l ++ lines_of more) ≡ with_first b l ++ lines_of more) (sym h.is) refl

-- ---- the first line

abbrev pub line_size : List ℕ → ℕ
line_size text = prefix_len (λ b. not (eqb b 10)) text

suc-is : (n : ℕ) → 1 + n ≡ suc n
suc-is n = omega arith

whole-ended : (text : List ℕ) → lines_of (take (prefix_len (λ b. not (eqb b 10)) text) text ++ 10 ∷ []) ≡ take (prefix_len (λ b. not (eqb b 10)) text) text ∷ []
whole-ended [] = refl
whole-ended (b ∷ text) = pick (eqb b 10) refl (whole-ended text)
  where
    pick : (s : Bool) → eqb b 10 ≡ s
        → lines_of (take (prefix_len (λ b. not (eqb b 10)) text) text ++ 10 ∷ []) ≡ take (prefix_len (λ b. not (eqb b 10)) text) text ∷ []
        → lines_of (take (cond (not s) (1 + prefix_len (λ b. not (eqb b 10)) text) 0) (b ∷ text) ++ 10 ∷ []) ≡ take (cond (not s) (1 + prefix_len (λ b. not (eqb b 10)) text) 0) (b ∷ text) ∷ []
    pick true e h = refl
    pick false e h =
        rw (suc-is (prefix_len (λ b. not (eqb b 10)) text))
        (ap (λ s. cond s ([] ∷ lines_of (take (prefix_len (λ b. not (eqb b 10)) text) text ++ 10 ∷ [])) (with_first b (lines_of (take (prefix_len (λ b. not (eqb b 10)) text) text ++ 10 ∷ [])))) e
        ∙ ap (with_first b) h)

newline-at : (text : List ℕ) → prefix_len (λ b. not (eqb b 10)) text < length text → get_or text (prefix_len (λ b. not (eqb b 10)) text) 0 ≡ 10
newline-at text within = eqb-true (get_or text (prefix_len (λ b. not (eqb b 10)) text) 0) 10 (stopped (eqb (get_or text (prefix_len (λ b. not (eqb b 10)) text) 0) 10) (prefix_len_stops (λ b. not (eqb b 10)) text 0 within))
  where
    stopped : (s : Bool) → not s ≡ false → s ≡ true
    stopped true h = refl
    stopped false h = sym h

pub no-line : (text : List ℕ) → length text ≡ 0 → IsOver (lines_of text)
no-line [] h = tt
no-line (b ∷ text) h = absurd (omega (arith, h))

pub line-skipped : (text : List ℕ) (n : ℕ) → 0 < length text → n ≡ prefix_len (λ b. not (eqb b 10)) text → is_skipped (take n text) ≡ true → IsOver (lines_of text)
line-skipped text n some is skipped =
    subst IsOver (sym (lines-split text some)) (subst (λ k. is_skipped (take k text) ≡ true) is skipped)

-- a line that ends with a newline
pub row-ended : (text : List ℕ) (n : ℕ) → 0 < length text → n ≡ prefix_len (λ b. not (eqb b 10)) text → n < length text → is_skipped (take n text) ≡ false → IsRowEnd text (n + 1)
row-ended text n some is within kept =
    let inside = subst (λ k. k < length text) is within in
    let byte = subst (λ k. get_or text k 0 ≡ 10) (sym is) (newline-at text inside) in
    let cut : take (n + 1) text ≡ take n text ++ 10 ∷ [] = take_more text n 0 within ∙ ap (λ b. take n text ++ b ∷ []) byte in
    record {
      line = take n text;
      some = omega arith;
      within = omega (arith, within);
      whole = ap lines_of cut ∙ subst (λ k. lines_of (take k text ++ 10 ∷ []) ≡ take k text ∷ []) (sym is) (whole-ended text);
      parts = subst (λ k. lines_of text ≡ take k text ∷ lines_of (drop 1 (drop k text))) (sym is) (lines-split text some) ∙ ap (λ l. take n text ∷ lines_of l) (drop-drop 1 n text);
      kept = kept;
      closed = λ _. subst IsClosed (sym cut) (ended-closed (take n text));
    }

-- the last line, which lacks it
pub row-last : (text : List ℕ) (n : ℕ) → 0 < length text → n ≡ prefix_len (λ b. not (eqb b 10)) text → length text ≤ n → is_skipped (take n text) ≡ false → IsRowEnd text n
row-last text n some is past kept =
    let small = subst (λ k. k ≤ length text) (sym is) (prefix_len-le-length (λ b. not (eqb b 10)) text) in
    let nothing : drop n text ≡ [] = drop_all n text past in
    let split = subst (λ k. lines_of text ≡ take k text ∷ lines_of (drop 1 (drop k text))) (sym is) (lines-split text some) in
    let one : lines_of text ≡ take n text ∷ [] = split ∙ ap (λ l. take n text ∷ lines_of (drop 1 l)) nothing in
    record {
      line = take n text;
      some = omega (arith, some, past);
      within = small;
      whole = ap lines_of (take_all n text past) ∙ one;
      parts = one ∙ ap (λ l. take n text ∷ lines_of l) (sym nothing);
      kept = kept;
      closed = λ below. absurd (omega (arith, below, past));
    }

-- ---- many lines

pub no-lines : (text : List ℕ) → AreLines text 0 0
no-lines text = record { within = omega arith; parts = refl; count = refl; kept = refl; closed = λ _. closed-nil }

pub one-more : (text : List ℕ) (rows end n : ℕ) → AreLines text rows end → IsRowEnd (drop end text) n → AreLines text (rows + 1) (end + n)
one-more text rows end n lines next =
    let size : length (drop end text) ≡ length text - end = length-drop end text in
    let inside : end < length text = omega (arith, size, next.some, next.within) in
    let cut : take (end + n) text ≡ take end text ++ take n (drop end text) = take-add end n text in
    let rest : drop n (drop end text) ≡ drop (end + n) text = drop-drop n end text in
    let first = lines.closed inside in
    let all : lines_of (take (end + n) text) ≡ lines_of (take end text) ++ next.line ∷ [] = ap lines_of cut ∙ (first (take n (drop end text)) ∙ ap (λ l. lines_of (take end text) ++ l) next.whole) in
    record {
      within = omega (arith, size, next.within, lines.within);
      parts =
          lines.parts
          ∙ (ap (λ l. lines_of (take end text) ++ l) (next.parts ∙ ap (λ l. next.line ∷ lines_of l) rest)
          ∙ (sym (append_assoc (lines_of (take end text)) (next.line ∷ []) (lines_of (drop (end + n) text)))
          ∙ ap (λ l. l ++ lines_of (drop (end + n) text)) (sym all)));
      count = ap length all ∙ (length-append (lines_of (take end text)) (next.line ∷ []) ∙ ap (λ k. k + 1) lines.count);
      kept =
          ap (list_all (λ line. not (is_skipped line))) all
          ∙ (list_all-append (λ line. not (is_skipped line)) (lines_of (take end text)) (next.line ∷ [])
          ∙ and_from (list_all (λ line. not (is_skipped line)) (lines_of (take end text))) (not (is_skipped next.line) && true) lines.kept (and_from (not (is_skipped next.line)) true (ap not next.kept) refl));
      closed = λ below. subst IsClosed (sym cut) (closed-append (take end text) (take n (drop end text)) first (next.closed (omega (arith, size, below))));
    }
