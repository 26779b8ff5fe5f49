-- The line of a fault is one of the text.
use Rattle.std.proofs.Common.{◌≡◌, ℕ, ◌+◌, ◌≤◌, inl, inr, List, [], ◌∷◌, ◌++◌, length, length-append, refl, ap, subst, ◌∙◌, arith}
use Rattle.std.specs.Prelude.{Result, Ok, Err, IfErr}
use Rattle.spec_ast.specs.declared.fault.SpecReason.{SpecReason}
use Rattle.spec_ast.specs.declared.fault.SpecFault.{SpecFault}
use Rattle.spec_ast.specs.declared.fault.SpecStop.{SpecStop}
use Rattle.spec_ast.specs.declared.fault.SpecStop.TheVariants.{Refused, Memory}
use Rattle.spec_ast.specs.declared.raw.RawSpec.{RawSpec}
use Rattle.spec_lex.specs.Lines.{Line, ArePrinted, AreLinesOf, rows_of}
use Rattle.spec_lex.specs.Answers.{IsLineOf}
use Rattle.spec_lex.proofs.FaultLaws.{fault_within}
use Rattle.spec_read.specs.Places.{Place, nowhere}
use Rattle.spec_read.specs.Texts.{place_behind, FailsAt}
use Rattle.spec_read.specs.Laws.{FailsText}
use Rattle.spec_read.specs.Told.{IsAnswer}

-- the line that fails, among the others
record Placed (ls : List Line) (line : ℕ) : Type 0 where
  before : List Line
  failing : Line
  after : List Line
  parts : ls ≡ before ++ failing ∷ after
  place : failing.line ≡ line

placed : (ls : List Line) (place : Place) (line : ℕ) (reason : SpecReason) → FailsAt place ls line reason → Placed ls line
placed [] place line reason fails = absurd fails
placed (l ∷ ls) place line reason (inl (at, fault)) = record { before = []; failing = l; after = ls; parts = refl; place = at }
placed (l ∷ ls) place line reason (inr (item, spelled, fine, later)) =
    let p = placed ls (place_behind place l item) line reason later in
    record { before = l ∷ p.before; failing = p.failing; after = p.after; parts = ap (λ s. l ∷ s) p.parts; place = p.place }

-- a line that is printed has the number of one of the physical lines
line_within : (before after : List Line) (l : Line) (n : ℕ) (rows : List (List ℕ)) → ArePrinted n (before ++ l ∷ after) rows → (n ≤ l.line) × (l.line + 1 ≤ n + length rows)
line_within [] after l n rows (empty, row, more, behind, here, rest, empties, starts, goes, others, parts, place, tokens) =
    let long : length rows ≡ length empty + length (row ∷ (more ++ behind)) = ap length parts ∙ length-append empty (row ∷ (more ++ behind)) in
    (omega (arith, place), omega (arith, place, long))
line_within (b ∷ before) after l n rows (empty, row, more, behind, here, rest, empties, starts, goes, others, parts, place, tokens) =
    let long : length rows ≡ length empty + length (row ∷ (more ++ behind)) = ap length parts ∙ length-append empty (row ∷ (more ++ behind)) in
    let more_long : length (more ++ behind) ≡ length more + length behind = length-append more behind in
    let inner = line_within before after l (b.line + 1 + length more) behind others in
    (omega (arith, inner.0, place), omega (arith, inner.1, place, long, more_long))

placed_within : (text : List ℕ) (ls : List Line) (line : ℕ) → AreLinesOf text ls → Placed ls line → (1 ≤ line) × (line ≤ length (rows_of text))
placed_within text ls line printed p =
    let inner = line_within p.before p.after p.failing 1 (rows_of text) (subst (λ s. ArePrinted 1 s (rows_of text)) p.parts printed) in
    (omega (arith, inner.0, p.place), omega (arith, inner.1, p.place))

fails_within : (text : List ℕ) (fault : SpecFault) → FailsText text fault → (1 ≤ fault.line) × (fault.line ≤ length (rows_of text))
fails_within text fault (ls, are, inl first) = fault_within text ls fault are first
fails_within text fault (ls, are, inr (clean, fails)) = placed_within text ls fault.line are (placed ls nowhere fault.line fault.reason fails)

pub answer_within : (text : List ℕ) (r : Result RawSpec SpecStop) → IsAnswer text r → IfErr r (IsLineOf text)
answer_within text (Ok spec) is = tt
answer_within text (Err (Refused fault)) is = fails_within text fault is
answer_within text (Err Memory) is = tt
