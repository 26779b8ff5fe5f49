-- The answers for lines, one behind the other.
use Rattle.std.proofs.Common.{◌≡◌, ℕ, zero, suc, ◌+◌, ◌<◌, ◌≤◌, List, [], ◌∷◌, ◌++◌, length, drop, get_or, refl, sym, ap, subst, ◌∙◌, append_assoc, append-nil, drop-cons, add-one, arith}
use Rattle.std.specs.Prelude.{Option, Some, None, option_map, Result, Ok, Err}
use Rattle.std.proofs.lemmas.List.{map-append}
use Rattle.spec_ast.specs.declared.fault.SpecFault.{SpecFault}
use Rattle.spec_ast.specs.declared.fault.SpecStop.{SpecStop}
use Rattle.spec_ast.specs.declared.fault.SpecStop.TheVariants.{Refused, Memory}
use Rattle.spec_ast.specs.Raw as raw
use Rattle.spec_ast.specs.Raw.{Item, def_line}
use Rattle.spec_ast.specs.View.{view_item, view_line, view_lines}
use Rattle.spec_ast.specs.declared.raw.RawItem.{RawItem}
use Rattle.spec_ast.specs.declared.raw.RawLine.{RawLine}
use Rattle.spec_lex.specs.Lines.{Line, line_of, lines_of}
use Rattle.spec_lex.specs.declared.line.LogicalLine.{LogicalLine}
use Rattle.spec_expr.specs.Words.{Text}
use Rattle.spec_read.specs.Places.{Function, Place}
use Rattle.spec_read.specs.ItemReading.{at_end, plain, def_with}
use Rattle.spec_read.specs.declared.section.Section.{Section}
use Rattle.spec_read.specs.declared.section.Section.TheVariants.{Nowhere}
use Rattle.spec_read.specs.Sections.{body_section, section_of, section_at, next_section}
use Rattle.spec_read.specs.LineReading.{line_read, put_first, line_then, lines_read, put_all, Tells, GoesOn}
use Rattle.spec_read.specs.Told.{LineTold, IsLineAnswer}
use Rattle.spec_read.proofs.LineTold.{line_told}

told_at : (section : Section) (place : Place) (l : Line) (after : List Line) (r : Result Item SpecFault) → section_of place ≡ section → line_read section l after ≡ r → LineTold place l after r
told_at section place l after r is reads = subst (LineTold place l after) (ap (λ s. line_read s l after) is ∙ reads) (line_told place l after)

pub line_answer : (section : Section) (l : Line) (after : List Line) (r : Result RawItem SpecStop) → Tells view_item r (line_read section l after) → (place : Place) → section_of place ≡ section → IsLineAnswer place l after r
line_answer section l after (Ok item) tells place is = told_at section place l after (Ok (view_item item)) is tells
line_answer section l after (Err (Refused fault)) tells place is = told_at section place l after (Err fault) is tells
line_answer section l after (Err Memory) tells place is = tt

-- ---- heads of functions

pub def_ended : (x : Text) (xs : List Text) (o : Option Function) (s : Section) (ts : List Text) → Some s ≡ option_map body_section o → def_with x xs o ts ≡ at_end (plain (def_line x xs)) ts
def_ended x xs None s ts is = absurd cc
def_ended x xs (Some f) s ts is = refl

pub def_none : (x : Text) (xs : List Text) (o : Option Function) (ts : List Text) → None ≡ option_map body_section o → def_with x xs o ts ≡ None
def_none x xs None ts is = refl
def_none x xs (Some f) ts is = absurd cc

-- ---- one line more

put_one : (front : List raw.Line) (l : raw.Line) (r : Result (List raw.Line) SpecFault) → put_all (front ++ l ∷ []) r ≡ put_all front (put_first l r)
put_one front l (Ok ls) = ap Ok (append_assoc front (l ∷ []) ls)
put_one front l (Err fault) = refl

lines_step : (s : Section) (l : Line) (ls : List Line) → lines_read s (l ∷ ls) ≡ line_then l.line (line_read s l ls) (λ item. lines_read (next_section (section_at s l) item) ls)
unfolding lines_read
lines_step s l ls = refl

lines_none : (s : Section) → lines_read s [] ≡ Ok []
unfolding lines_read
lines_none s = refl

pub put_views : (found new : List RawLine) (l : RawLine) → new ≡ found ++ l ∷ [] → view_lines new ≡ view_lines found ++ view_line l ∷ []
put_views found new l is = ap view_lines is ∙ map-append view_line found (l ∷ [])

pub line_put : (old new : List raw.Line) (s next : Section) (l : Line) (ls : List Line) (item : Item) → line_read s l ls ≡ Ok item → next ≡ next_section (section_at s l) item →
    new ≡ old ++ record { line = l.line; item = item } ∷ [] → put_all new (lines_read next ls) ≡ put_all old (lines_read s (l ∷ ls))
line_put old new s next l ls item reads is puts =
    let on : Item → Result (List raw.Line) SpecFault = λ item. lines_read (next_section (section_at s l) item) ls in
    ap (λ xs. put_all xs (lines_read next ls)) puts ∙ put_one old (record { line = l.line; item = item }) (lines_read next ls)
    ∙ ap (λ n. put_all old (put_first (record { line = l.line; item = item }) (lines_read n ls))) is
    ∙ sym (ap (put_all old) (lines_step s l ls ∙ ap (λ r. line_then l.line r on) reads))

pub line_stops : {A : Type 0} (view : A → Item) (old new : List raw.Line) (s : Section) (l : Line) (ls : List Line) (stop : SpecStop) → Tells view (Err stop) (line_read s l ls) → GoesOn old new s (l ∷ ls) ls (Err stop)
line_stops view old new s l ls (Refused fault) tells = lines_step s l ls ∙ ap (λ r. line_then l.line r (λ item. lines_read (next_section (section_at s l) item) ls)) tells
line_stops view old new s l ls Memory tells = tt

-- ---- the lines of a text

put_none : (r : Result (List raw.Line) SpecFault) → put_all [] r ≡ r
put_none (Ok ls) = refl
put_none (Err fault) = refl

pub lines_begin : (found : List RawLine) (ls : List LogicalLine) → found ≡ [] → put_all (view_lines found) (lines_read Nowhere (lines_of ls)) ≡ lines_read Nowhere (lines_of ls)
lines_begin found ls none = ap (λ fs. put_all (view_lines fs) (lines_read Nowhere (lines_of ls))) none ∙ put_none (lines_read Nowhere (lines_of ls))

pub at_line : (ls : List LogicalLine) (i : ℕ) (d : LogicalLine) → i < length ls → lines_of (drop i ls) ≡ line_of (get_or ls i d) ∷ lines_of (drop (i + 1) ls)
at_line ls i d within = ap lines_of (drop-cons ls i d within) ∙ ap (λ n. line_of (get_or ls i d) ∷ lines_of (drop n ls)) (sym (add-one i))

pub lines_next : (old new : List raw.Line) (s next : Section) (ls : List LogicalLine) (i : ℕ) (d : LogicalLine) (after : List LogicalLine) (whole : Result (List raw.Line) SpecFault) → i < length ls → after ≡ drop (i + 1) ls →
    put_all old (lines_read s (lines_of (drop i ls))) ≡ whole → GoesOn old new s (line_of (get_or ls i d) ∷ lines_of after) (lines_of after) (Ok next) →
    put_all new (lines_read next (lines_of (drop (i + 1) ls))) ≡ whole
lines_next old new s next ls i d after whole within is left goes =
    ap (λ us. put_all new (lines_read next (lines_of us))) (sym is) ∙ goes
    ∙ ap (λ us. put_all old (lines_read s (line_of (get_or ls i d) ∷ lines_of us))) is
    ∙ sym (ap (λ us. put_all old (lines_read s us)) (at_line ls i d within)) ∙ left

pub lines_stop : {A : Type 0} (view : A → List raw.Line) (old new : List raw.Line) (s : Section) (ls : List LogicalLine) (i : ℕ) (d : LogicalLine) (after : List LogicalLine) (whole : Result (List raw.Line) SpecFault) (stop : SpecStop) → i < length ls →
    after ≡ drop (i + 1) ls → put_all old (lines_read s (lines_of (drop i ls))) ≡ whole → GoesOn old new s (line_of (get_or ls i d) ∷ lines_of after) (lines_of after) (Err stop) → Tells view (Err stop) whole
lines_stop view old new s ls i d after whole (Refused fault) within is left goes =
    sym left
    ∙ ap (put_all old)
    (ap (lines_read s) (at_line ls i d within) ∙ sym (ap (λ us. lines_read s (line_of (get_or ls i d) ∷ lines_of us)) is) ∙ goes)
lines_stop view old new s ls i d after whole Memory within is left goes = tt

none_left : (ls : List LogicalLine) (i : ℕ) → length ls ≤ i → drop i ls ≡ []
none_left [] zero out = refl
none_left [] (suc i) out = refl
none_left (l ∷ ls) zero out = absurd (omega (arith, out))
none_left (l ∷ ls) (suc i) out = none_left ls i (omega (arith, out))

pub lines_end : (found : List raw.Line) (s : Section) (ls : List LogicalLine) (i : ℕ) (whole : Result (List raw.Line) SpecFault) → length ls ≤ i → put_all found (lines_read s (lines_of (drop i ls))) ≡ whole → whole ≡ Ok found
lines_end found s ls i whole out left =
    sym left ∙ ap (λ us. put_all found (lines_read s (lines_of us))) (none_left ls i out) ∙ ap (put_all found) (lines_none s) ∙ ap Ok (append-nil found)
