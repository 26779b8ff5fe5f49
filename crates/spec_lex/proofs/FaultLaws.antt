-- The fault that is found is that of the first line which fails, and its line is one of the text.
use Rattle.std.proofs.Common.{◌≡◌, ℕ, zero, suc, ◌+◌, ◌≤◌, Bool, true, false, ◌⊎◌, inl, inr, List, [], ◌∷◌, ◌++◌, length, length-append, refl, ap, sym, subst, ◌∙◌, arith}
use Rattle.std.specs.Prelude.{Some, None}
use Rattle.spec_ast.specs.declared.fault.SpecReason.{SpecReason}
use Rattle.spec_ast.specs.declared.fault.SpecReason.TheVariants.{S1, S2}
use Rattle.spec_ast.specs.declared.fault.SpecFault.{SpecFault}
use Rattle.spec_lex.specs.Lines.{Line, ArePrinted, AreLinesOf, rows_of}
use Rattle.spec_lex.specs.Faults.{is_s1, is_s2, IsCleanLine, AreClean, Falls, IsFirstFault, reason_of, or_later, first_fault}

all_cons : (l : Line) (ls : List Line) → IsCleanLine l → AreClean ls → AreClean (l ∷ ls)
all_cons l ls first others zero d within = first
all_cons l ls first others (suc k) d within = others k d (omega (arith, within))

all_none : AreClean []
all_none k d within = absurd (omega (arith, within))

all_tail : (l : Line) (ls : List Line) → AreClean (l ∷ ls) → AreClean ls
all_tail l ls all k d within = all (suc k) d (omega (arith, within))

clean_reason : (l : Line) → IsCleanLine l → reason_of l ≡ None
clean_reason l clean = rw (clean.tokens, clean.indentation) refl

falls_reason : (l : Line) (r : SpecReason) → Falls l r → reason_of l ≡ Some r
falls_reason l S1 falls = rw falls refl
falls_reason l S2 (tokens, falls) = rw (tokens, falls) refl
falls_reason l _ falls = absurd falls

abbrev Told : Line → Type 0
Told l = ((reason_of l ≡ None) × IsCleanLine l) ⊎ ((r : SpecReason) × (reason_of l ≡ Some r) × Falls l r)

told_by : (l : Line) (a b : Bool) → is_s1 l ≡ a → is_s2 l ≡ b → Told l
told_by l true b e1 e2 = inr (S1, rw e1 refl, e1)
told_by l false true e1 e2 = inr (S2, rw (e1, e2) refl, (e1, e2))
told_by l false false e1 e2 = inl (rw (e1, e2) refl, record { tokens = e1; indentation = e2 })

told : (l : Line) → Told l
told l = told_by l (is_s1 l) (is_s2 l) refl refl

pub clean_none : (ls : List Line) → AreClean ls → first_fault ls ≡ None
clean_none [] all = refl
clean_none (l ∷ ls) all = ap (λ r. or_later l.line r (first_fault ls)) (clean_reason l (all 0 l (omega arith))) ∙ clean_none ls (all_tail l ls all)

pub none_clean : (ls : List Line) → first_fault ls ≡ None → AreClean ls
none_clean [] none = all_none
none_clean (l ∷ ls) none =
    elim (told l) [
      | inl (is, clean) ↦ all_cons l ls clean (none_clean ls (sym (ap (λ r. or_later l.line r (first_fault ls)) is) ∙ none))
      | inr (r, is, falls) ↦ let some : Some (record { line = l.line; reason = r }) ≡ first_fault (l ∷ ls) = sym (ap (λ o. or_later l.line o (first_fault ls)) is) in absurd cc
    ]

some_is : (a b : SpecFault) → Some a ≡ Some b → a ≡ b
some_is a b e = cc

pub fault_first : (ls : List Line) (fault : SpecFault) → first_fault ls ≡ Some fault → IsFirstFault ls fault
fault_first [] fault is = cc
fault_first (l ∷ ls) fault found =
    elim (told l) [
      | inl (is, clean) ↦
          let inner : IsFirstFault ls fault = fault_first ls fault (sym (ap (λ r. or_later l.line r (first_fault ls)) is) ∙ found) in
          record {
            before = l ∷ inner.before;
            failing = inner.failing;
            after = inner.after;
            parts = ap (λ s. l ∷ s) inner.parts;
            earlier = all_cons l inner.before clean inner.earlier;
            place = inner.place;
            falls = inner.falls;
          }
      | inr (r, is, falls) ↦
          let same : record { line = l.line; reason = r } ≡ fault = some_is (record { line = l.line; reason = r }) fault (sym (ap (λ o. or_later l.line o (first_fault ls)) is) ∙ found) in
          record {
            before = [];
            failing = l;
            after = ls;
            parts = refl;
            earlier = all_none;
            place = ap (λ f. f.line) same;
            falls = subst (λ f. Falls l f.reason) same falls;
          }
    ]

first_at : (before after : List Line) (l : Line) (fault : SpecFault) → AreClean before → l.line ≡ fault.line → Falls l fault.reason →
    first_fault (before ++ l ∷ after) ≡ Some fault
first_at [] after l fault earlier place falls =
    ap (λ r. or_later l.line r (first_fault after)) (falls_reason l fault.reason falls) ∙ ap (λ n. Some (record { line = n; reason = fault.reason })) place
first_at (b ∷ before) after l fault earlier place falls =
    ap (λ r. or_later b.line r (first_fault (before ++ l ∷ after))) (clean_reason b (earlier 0 b (omega arith)))
    ∙ first_at before after l fault (all_tail b before earlier) place falls

pub first_found : (ls : List Line) (fault : SpecFault) → IsFirstFault ls fault → first_fault ls ≡ Some fault
first_found ls fault first = ap first_fault first.parts ∙ first_at first.before first.after first.failing fault first.earlier first.place first.falls

-- a line has the number of one of the physical lines
line_within : (before after : List Line) (l : Line) (n : ℕ) (rows : List (List ℕ)) → ArePrinted n (before ++ l ∷ after) rows → (n ≤ l.line) × (l.line + 1 ≤ n + length rows)
line_within [] after l n rows (empty, row, more, behind, here, rest, empties, starts, goes, others, parts, place, tokens) =
    let long : length rows ≡ length empty + length (row ∷ (more ++ behind)) = ap length parts ∙ length-append empty (row ∷ (more ++ behind)) in
    (omega (arith, place), omega (arith, place, long))
line_within (b ∷ before) after l n rows (empty, row, more, behind, here, rest, empties, starts, goes, others, parts, place, tokens) =
    let long : length rows ≡ length empty + length (row ∷ (more ++ behind)) = ap length parts ∙ length-append empty (row ∷ (more ++ behind)) in
    let more_long : length (more ++ behind) ≡ length more + length behind = length-append more behind in
    let inner = line_within before after l (b.line + 1 + length more) behind others in
    (omega (arith, inner.0, place), omega (arith, inner.1, place, long, more_long))

pub fault_within : (text : List ℕ) (ls : List Line) (fault : SpecFault) → AreLinesOf text ls → IsFirstFault ls fault → (1 ≤ fault.line) × (fault.line ≤ length (rows_of text))
fault_within text ls fault printed first =
    let inner = line_within first.before first.after first.failing 1 (rows_of text) (subst (λ s. ArePrinted 1 s (rows_of text)) first.parts printed) in
    (omega (arith, inner.0, first.place), omega (arith, inner.1, first.place))
