-- What is read of an item at its place.
use Rattle.std.proofs.Common.{◌≡◌, ℕ, Bool, true, false, inl, inr, Result, Ok, Err, IfOk, List}
use Rattle.ir_ast.specs.declared.fault.KernelReason.TheVariants.{K2, K3}
use Rattle.ir_lex.specs.Lexeme.{Lexeme}
use Rattle.ir_lex.specs.Drop.{is_dropped_item, remaining}
use Rattle.ir_lex.specs.Tok.{toks}
use Rattle.ir_lex.specs.Items.{Top, label_item, instr_item, close_item, SpellsTop, holds_left_out}
use Rattle.ir_ast.specs.ProgramView.{view_op}
use Rattle.ir_body.specs.declared.item.BodyItem.{BodyItem}
use Rattle.ir_body.specs.declared.item.BodyItem.TheVariants.{Label, Instr, Close, Ignored}
use Rattle.ir_body.specs.Items.{IsRead, NothingSpells}
use Rattle.ir_top.specs.declared.item.TopItem.{TopItem}
use Rattle.ir_top.specs.TopView.{view_top}
use Rattle.ir_read.specs.Reads.{Reads, Refuses, IsTop, IsInner}
use Rattle.ir_read.specs.View.{view_reading, HasLine, IsDropped}
use Rattle.ir_read.specs.declared.reading.Reading.{Reading}
use Rattle.ir_read.specs.declared.reading.Reading.TheVariants.{Passed, Range, Top as TopRead, Label as LabelRead, Instr as InstrRead, Close as CloseRead, Refused}

pub dropped_reads : (inside : Bool) (ts : List Lexeme) (r : Reading) → IsDropped ts r → Reads inside (view_reading r) ts
dropped_reads inside ts Passed h = h
dropped_reads inside ts (Range name numbers) h = h
dropped_reads inside ts (TopRead top) h = absurd h
dropped_reads inside ts (LabelRead name) h = absurd h
dropped_reads inside ts (InstrRead i) h = absurd h
dropped_reads inside ts CloseRead h = absurd h
dropped_reads inside ts (Refused reason) h = absurd h

pub dropped_line : (ts : List Lexeme) (r : Reading) (line : ℕ) → IsDropped ts r → HasLine r line
dropped_line ts Passed line h = tt
dropped_line ts (Range name numbers) line h = tt
dropped_line ts (TopRead top) line h = absurd h
dropped_line ts (LabelRead name) line h = absurd h
dropped_line ts (InstrRead i) line h = absurd h
dropped_line ts CloseRead line h = absurd h
dropped_line ts (Refused reason) line h = absurd h

pub dropped_all_read : {E : Type 0} → (inside : Bool) (ts : List Lexeme) (r : Result Reading E) → IfOk r (IsDropped ts) → IfOk r (λ x. Reads inside (view_reading x) ts)
dropped_all_read inside ts (Ok r) h = dropped_reads inside ts r h
dropped_all_read inside ts (Err e) h = tt

pub dropped_all_line : {E : Type 0} → (ts : List Lexeme) (r : Result Reading E) (line : ℕ) → IfOk r (IsDropped ts) → IfOk r (λ x. HasLine x line)
dropped_all_line ts (Ok r) line h = dropped_line ts r line h
dropped_all_line ts (Err e) line h = tt

never_both : {A : Type 0} → (b : Bool) → b ≡ true → b ≡ false → A
never_both b e f = absurd cc

pub inner_read : (ts : List Lexeme) (item : BodyItem) → is_dropped_item ts ≡ false → IsRead ts item → IsInner ts
inner_read ts (Label name) kept h = (label_item name, h)
inner_read ts (Instr i) kept h = (instr_item i.result (view_op i.op), h)
inner_read ts Close kept h = (close_item, h)
inner_read ts Ignored kept h = never_both (is_dropped_item ts) h kept

pub top_read : (ts : List Lexeme) (top : TopItem) → is_dropped_item ts ≡ false → SpellsTop (view_top top) (toks (remaining ts)) → IsTop ts
top_read ts top kept h = (view_top top, (kept, h))

pub no_top : (ts : List Lexeme) → ((top : Top) → SpellsTop top (toks (remaining ts)) → ⊥) → IsTop ts → ⊥
no_top ts none (top, (kept, h)) = none top h

pub no_inner : (ts : List Lexeme) → NothingSpells ts → IsInner ts → ⊥
no_inner ts none (inner, h) = none.none inner h

pub inner_misplaced : (ts : List Lexeme) → is_dropped_item ts ≡ false → (IsTop ts → ⊥) → IsInner ts → Refuses false ts K2
inner_misplaced ts kept none is = (kept, none, inl is)

pub inner_unspelled : (ts : List Lexeme) → is_dropped_item ts ≡ false → (IsTop ts → ⊥) → holds_left_out (remaining ts) ≡ false → Refuses false ts K2
inner_unspelled ts kept none holds = (kept, none, inr holds)

pub inner_left_out : (ts : List Lexeme) → is_dropped_item ts ≡ false → (IsTop ts → ⊥) → NothingSpells ts → holds_left_out (remaining ts) ≡ true → Refuses false ts K3
inner_left_out ts kept none unread holds = (kept, none, no_inner ts unread, holds)
