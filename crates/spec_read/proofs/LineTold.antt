-- What is read of a line is what it spells, and of the lines of a text what they spell; a fault is that of the first line that fails.
use Rattle.std.proofs.Common.{◌≡◌, ℕ, ◌+◌, ◌≤◌, ◌<◌, max, Bool, true, false, inl, inr, Some, None, List, [], ◌∷◌, length, refl, sym, ap, subst, ◌∙◌, arith}
use Rattle.std.specs.Prelude.{Option, option_map, Result, Ok, Err, if◌then◌else◌, ◌&&◌, not, nat_le}
use Rattle.std.proofs.lemmas.Bool.{leb-false, leb-true, eqb-true, eq-eqb}
use Rattle.spec_ast.specs.declared.fault.SpecReason.TheVariants.{S3}
use Rattle.spec_ast.specs.declared.fault.SpecFault.{SpecFault}
use Rattle.spec_ast.specs.Raw as raw
use Rattle.spec_ast.specs.Raw.{Item, class_line, def_line, return_line, end_line}
use Rattle.spec_lex.specs.Token.{Lexeme, open_behind, open_after}
use Rattle.spec_lex.specs.Lines.{Line}
use Rattle.spec_expr.specs.Words.{Text}
use Rattle.spec_expr.specs.Grown.{Grown, built, too_deep}
use Rattle.spec_expr.proofs.Parts.{left_true, right_true, not_true}
use Rattle.spec_read.specs.Places.{Function, Place, top, class_body, body_of, nowhere, equivalence, invariant, property, handler, function_of}
use Rattle.spec_read.specs.Items.{SpellsItem}
use Rattle.spec_read.specs.ItemReading.{assigned_at, item_at, limited_item}
use Rattle.spec_read.specs.Texts.{texts, is_indented, deepest, body_place, place_of, place_behind, within_place, behind, has_return, is_def, SpellsLine, IsS4}
use Rattle.spec_read.specs.Sections.{body_section, section_of, place_for, section_at, or_nowhere, within_section, next_section}
use Rattle.spec_read.specs.LineReading.{closes, fails, kept_whole, words_read, line_read, put_first, line_then, lines_read}
use Rattle.spec_read.specs.Told.{LineTold, TextTold}
use Rattle.spec_read.proofs.ItemComplete.{item_there, one_item}
use Rattle.spec_read.proofs.BodySound.{item_sound}
use Rattle.spec_read.proofs.ItemDepth.{deep_is_no_def, too_deep_is, kept_is}

-- ---- brackets

record Closed (nest : ℕ) (ts : List Lexeme) : Type 0 where
  closed : open_after nest ts ≡ 0
  few : deepest nest ts ≤ 256

closed_by : (nest : ℕ) (t : Lexeme) (ts : List Lexeme) (p : Bool) → nest ≤ 256 → nat_le (open_behind nest t) 256 ≡ p → (closes (open_behind nest t) ts ≡ true → open_behind nest t ≤ 256 → Closed (open_behind nest t) ts) →
    (if p then closes (open_behind nest t) ts else false) ≡ true → Closed nest (t ∷ ts)
closed_by nest t ts true low is others h =
    let c = others h (leb-true (open_behind nest t) 256 is) in
    let few : deepest (open_behind nest t) ts ≤ 256 = c.few in
    record { closed = c.closed; few = omega (arith, low, few) }
closed_by nest t ts false low is others h = absurd cc

closes_sound : (nest : ℕ) (ts : List Lexeme) → nest ≤ 256 → closes nest ts ≡ true → Closed nest ts
closes_sound nest [] low h = record { closed = eqb-true nest 0 h; few = low }
closes_sound nest (t ∷ ts) low h = closed_by nest t ts (nat_le (open_behind nest t) 256) low refl (λ more less. closes_sound (open_behind nest t) ts less more) h

deepest_over : (nest : ℕ) (ts : List Lexeme) → nest ≤ deepest nest ts
deepest_over nest [] = omega arith
deepest_over nest (t ∷ ts) = omega arith

open_by : (nest : ℕ) (t : Lexeme) (ts : List Lexeme) (p : Bool) → nat_le (open_behind nest t) 256 ≡ p → ((closes (open_behind nest t) ts ≡ false) → Closed (open_behind nest t) ts → ⊥) →
    (if p then closes (open_behind nest t) ts else false) ≡ false → Closed nest (t ∷ ts) → ⊥
open_by nest t ts true is others h c =
    let few : max nest (deepest (open_behind nest t) ts) ≤ 256 = c.few in
    others h (record { closed = c.closed; few = omega (arith, few) })
open_by nest t ts false is others h c =
    let few : max nest (deepest (open_behind nest t) ts) ≤ 256 = c.few in
    let large : 256 < open_behind nest t = leb-false (open_behind nest t) 256 is in
    let over : open_behind nest t ≤ deepest (open_behind nest t) ts = deepest_over (open_behind nest t) ts in
    absurd (omega (arith, few, large, over))

closes_complete : (nest : ℕ) (ts : List Lexeme) → closes nest ts ≡ false → Closed nest ts → ⊥
closes_complete nest [] h c = let both : true ≡ false = sym (eq-eqb nest 0 c.closed) ∙ h in absurd cc
closes_complete nest (t ∷ ts) h c = open_by nest t ts (nat_le (open_behind nest t) 256) refl (closes_complete (open_behind nest t) ts) h c

-- ---- places

same_function : (most n : ℕ) (f : Function) (ts : List Text) → item_at most n (place_for (section_of (body_of f))) ts ≡ item_at most n (body_of f) ts
unfolding item_at assigned_at
same_function most n equivalence ts = refl
same_function most n (invariant x) [] = refl
same_function most n (invariant x) (t ∷ ts) = refl
same_function most n (property x) [] = refl
same_function most n (property x) (t ∷ ts) = refl
same_function most n handler ts = refl

same_at : (most n : ℕ) (place : Place) (ts : List Text) → item_at most n (place_for (section_of place)) ts ≡ item_at most n place ts
same_at most n top ts = refl
same_at most n class_body ts = refl
same_at most n (body_of f) ts = same_function most n f ts
same_at most n nowhere ts = refl

placed_by : (most n : ℕ) (place : Place) (ts : List Text) (p : Bool) → item_at most n (place_for (if p then section_of place else section_of top)) ts ≡ item_at most n (if p then place else top) ts
placed_by most n place ts true = same_at most n place ts
placed_by most n place ts false = refl

placed : (most n : ℕ) (place : Place) (l : Line) (ts : List Text) → item_at most n (place_for (section_at (section_of place) l)) ts ≡ item_at most n (place_of place l) ts
placed most n place l ts = placed_by most n place ts (is_indented l)

section_place : (p : Bool) (place : Place) → (if p then section_of place else section_of top) ≡ section_of (if p then place else top)
section_place true place = refl
section_place false place = refl

within_next : (place : Place) → section_of (within_place place) ≡ within_section (section_of place)
within_next top = refl
within_next class_body = refl
within_next (body_of equivalence) = refl
within_next (body_of (invariant x)) = refl
within_next (body_of (property x)) = refl
within_next (body_of handler) = refl
within_next nowhere = refl

defined_next : (o : Option Function) → section_of (body_place o) ≡ or_nowhere (option_map body_section o)
defined_next None = refl
defined_next (Some f) = refl

item_next : (place : Place) (item : Item) → section_of (behind place item) ≡ next_section (section_of place) item
item_next place (class_line x) = refl
item_next place (def_line x xs) = defined_next (function_of x xs)
item_next place (return_line e) = refl
item_next place (end_line e c r) = refl
item_next place _ = within_next place

pub next_place : (place : Place) (l : Line) (item : Item) → next_section (section_at (section_of place) l) item ≡ section_of (place_behind place l item)
next_place place l item = ap (λ s. next_section s item) (section_place (is_indented l) place) ∙ sym (item_next (place_of place l) item)

-- ---- one line

spelled : (place : Place) (l : Line) (after : List Line) (item : Item) → closes 0 l.tokens ≡ true → SpellsItem (place_of place l) item (texts l) → (is_def item ≡ true → has_return after ≡ true) → SpellsLine place l after item
spelled place l after item closed spells returns =
    let c = closes_sound 0 l.tokens (omega arith) closed in
    record { closed = c.closed; few = c.few; spelled = spells; returns = returns }

-- the item that is read there, with the others that it needs
record Read (place : Place) (l : Line) (item : Item) : Type 0 where
  closed : closes 0 l.tokens ≡ true
  spells : SpellsItem (place_of place l) item (texts l)

def_needs : (d r : Bool) → (d && not r) ≡ false → d ≡ true → r ≡ true
def_needs true true h is = refl
def_needs true false h is = absurd cc
def_needs false r h is = absurd cc

body_by : (place : Place) (l : Line) (after : List Line) (item : Item) (p : Bool) → Read place l item → (IsS4 item → ⊥) → (is_def item && not (has_return after)) ≡ p →
    LineTold place l after (if p then fails l S3 else Ok item)
body_by place l after item true got fine is = (
  refl,
  λ other s.
      let same : item ≡ other = one_item (place_of place l) item other (texts l) got.spells s.spelled in
      let has : has_return after ≡ true = s.returns (ap is_def (sym same) ∙ left_true (is_def item) (not (has_return after)) is) in
      let none : has_return after ≡ false = not_true (has_return after) (right_true (is_def item) (not (has_return after)) is) in
      let both : true ≡ false = sym has ∙ none in
      absurd cc,
)
body_by place l after item false got fine is = (spelled place l after item got.closed got.spells (def_needs (is_def item) (has_return after) is), fine)

grown_told : (place : Place) (l : Line) (after : List Line) (item : Item) (g : Grown Item) → Read place l item → g ≡ limited_item 100 item → LineTold place l after (kept_whole l (Some g) after)
grown_told place l after item (built other d) got is =
    let k = kept_is item other d is in
    let same : Read place l other = subst (Read place l) k.same got in
    let fine : IsS4 other → ⊥ = subst (λ j. IsS4 j → ⊥) k.same k.fine in
    body_by place l after other (is_def other && not (has_return after)) same fine refl
grown_told place l after item too_deep got is =
    let no_def : is_def item ≡ false = deep_is_no_def item is in
    (refl, (item, spelled place l after item got.closed got.spells (λ def. let both : true ≡ false = sym def ∙ no_def in absurd cc), too_deep_is item is))

words_by : (place : Place) (l : Line) (after : List Line) (o : Option (Grown Item)) → closes 0 l.tokens ≡ true → item_at 100 (length (texts l) + 1) (place_of place l) (texts l) ≡ o →
    LineTold place l after (kept_whole l o after)
words_by place l after None closed is = (
  refl,
  λ item s.
      let there : item_at 100 (length (texts l) + 1) (place_of place l) (texts l) ≡ Some (limited_item 100 item) = item_there 100 (length (texts l) + 1) (place_of place l) item (texts l) s.spelled (omega arith) in
      let both : None ≡ Some (limited_item 100 item) = sym is ∙ there in
      absurd cc,
)
words_by place l after (Some g) closed is =
    let f = item_sound 100 (length (texts l) + 1) (place_of place l) (texts l) g is in
    grown_told place l after f.item g (record { closed = closed; spells = f.spelled }) f.grown

words_told : (place : Place) (l : Line) (after : List Line) → closes 0 l.tokens ≡ true → LineTold place l after (words_read (section_at (section_of place) l) l after)
words_told place l after closed =
    words_by place l after (item_at 100 (length (texts l) + 1) (place_for (section_at (section_of place) l)) (texts l)) closed (sym (placed 100 (length (texts l) + 1) place l (texts l)))

line_by : (place : Place) (l : Line) (after : List Line) (p : Bool) → closes 0 l.tokens ≡ p → LineTold place l after (if p then words_read (section_at (section_of place) l) l after else fails l S3)
line_by place l after true is = words_told place l after is
line_by place l after false is = (refl, λ item s. closes_complete 0 l.tokens is (record { closed = s.closed; few = s.few }))

pub line_told : (place : Place) (l : Line) (after : List Line) → LineTold place l after (line_read (section_of place) l after)
line_told place l after = line_by place l after (closes 0 l.tokens) refl

-- ---- the lines of a text

rest_told : (place : Place) (l : Line) (ls : List Line) (item : Item) (r : Result (List raw.Line) SpecFault) → SpellsLine place l ls item → (IsS4 item → ⊥) → TextTold (place_behind place l item) ls r →
    TextTold place (l ∷ ls) (put_first (record { line = l.line; item = item }) r)
rest_told place l ls item (Ok raws) spells fine others = (item, raws, spells, fine, others, refl)
rest_told place l ls item (Err fault) spells fine others = inr (item, spells, fine, others)

then_told : (place : Place) (l : Line) (ls : List Line) (r : Result Item SpecFault) (on : Item → Result (List raw.Line) SpecFault) → LineTold place l ls r → ((item : Item) → TextTold (place_behind place l item) ls (on item)) →
    TextTold place (l ∷ ls) (line_then l.line r on)
then_told place l ls (Ok item) on told others = rest_told place l ls item (on item) told.0 told.1 (others item)
then_told place l ls (Err fault) on told others = inl (sym told.0, told.1)

pub lines_told : (ls : List Line) (place : Place) → TextTold place ls (lines_read (section_of place) ls)
unfolding lines_read
lines_told [] place = refl
lines_told (l ∷ ls) place =
    then_told place l ls (line_read (section_of place) l ls) (λ item. lines_read (next_section (section_at (section_of place) l) item) ls) (line_told place l ls)
    (λ item. subst (λ s. TextTold (place_behind place l item) ls (lines_read s ls)) (sym (next_place place l item)) (lines_told ls (place_behind place l item)))
