-- What an answer says, from what is read.
use Rattle.std.proofs.Common.{◌≡◌, ℕ, Bool, true, false, Some, None, List, sym, ◌∙◌}
use Rattle.std.specs.Prelude.{Result, Ok, Err, IfOk, IfErr}
use Rattle.ir_lex.specs.Lexeme.{Lexeme}
use Rattle.ir_lex.specs.Drop.{is_dropped_item, remaining}
use Rattle.ir_lex.specs.Tok.{toks}
use Rattle.ir_lex.specs.Items.{Inner, label_item, instr_item, close_item, ReadsInner}
use Rattle.ir_ast.specs.ProgramView.{view_op}
use Rattle.ir_body.specs.Items.{IsAtLine, NothingSpells, IsIgnored, IsTree, IsRead, IsFault, Kept, Refused, Answers}
use Rattle.ir_body.specs.declared.fault.ItemFault.{ItemFault}
use Rattle.ir_body.specs.declared.fault.ItemFault.TheVariants.{NotSpelled, OutOfProfile, Memory}
use Rattle.ir_body.specs.declared.item.BodyItem.{BodyItem}
use Rattle.ir_body.specs.declared.item.BodyItem.TheVariants.{Label, Instr, Close, Ignored}
use Rattle.ir_body.proofs.InnerLaws.{inner_sound, inner_complete}

spelled_of_kept : (ts : List Lexeme) (inner : Inner) → Kept ts inner → ReadsInner inner ts
spelled_of_kept ts inner k = (k.0, inner_sound (toks (remaining ts)) inner k.1)

pub answer_read : (ts : List Lexeme) (line : ℕ) (result : Result BodyItem ItemFault) → Answers ts line result → IfOk result (IsRead ts)
answer_read ts line (Ok (Label name)) a = spelled_of_kept ts (label_item name) a
answer_read ts line (Ok (Instr instr)) a = spelled_of_kept ts (instr_item instr.result (view_op instr.op)) a.0
answer_read ts line (Ok Close) a = spelled_of_kept ts close_item a
answer_read ts line (Ok Ignored) a = a
answer_read ts line (Err fault) a = tt

both_ways : (b : Bool) → b ≡ true → b ≡ false → ⊥
both_ways b holds fails = let e : true ≡ false = sym holds ∙ fails in cc

pub answer_ignored : (ts : List Lexeme) (line : ℕ) (result : Result BodyItem ItemFault) → Answers ts line result → is_dropped_item ts ≡ true → IsIgnored result
answer_ignored ts line (Ok (Label name)) a dropped = both_ways (is_dropped_item ts) dropped a.0
answer_ignored ts line (Ok (Instr instr)) a dropped = both_ways (is_dropped_item ts) dropped a.0.0
answer_ignored ts line (Ok Close) a dropped = both_ways (is_dropped_item ts) dropped a.0
answer_ignored ts line (Ok Ignored) a dropped = tt
answer_ignored ts line (Err NotSpelled) a dropped = both_ways (is_dropped_item ts) dropped a.0
answer_ignored ts line (Err OutOfProfile) a dropped = both_ways (is_dropped_item ts) dropped a.0
answer_ignored ts line (Err Memory) a dropped = tt

same_tree : (ts : List Lexeme) (inner other : Inner) → ReadsInner inner ts → Kept ts other → Some other ≡ Some inner
same_tree ts inner other r k = sym k.1 ∙ inner_complete inner (toks (remaining ts)) r.1

none_some : (inner : Inner) → None ≡ Some inner → ⊥
none_some inner e = cc

refuted : (ts : List Lexeme) (holds : Bool) (inner : Inner) → Refused ts holds → ReadsInner inner ts → ⊥
refuted ts holds inner f r = none_some inner (sym f.1 ∙ inner_complete inner (toks (remaining ts)) r.1)

pub answer_spelled : (ts : List Lexeme) (line : ℕ) (result : Result BodyItem ItemFault) → Answers ts line result → (inner : Inner) → ReadsInner inner ts → IsTree inner result
answer_spelled ts line (Ok (Label name)) a inner r = same_tree ts inner (label_item name) r a
answer_spelled ts line (Ok (Instr instr)) a inner r = same_tree ts inner (instr_item instr.result (view_op instr.op)) r a.0
answer_spelled ts line (Ok Close) a inner r = same_tree ts inner close_item r a
answer_spelled ts line (Ok Ignored) a inner r = absurd (both_ways (is_dropped_item ts) a r.0)
answer_spelled ts line (Err NotSpelled) a inner r = refuted ts false inner a r
answer_spelled ts line (Err OutOfProfile) a inner r = refuted ts true inner a r
answer_spelled ts line (Err Memory) a inner r = tt

pub answer_line : (ts : List Lexeme) (line : ℕ) (result : Result BodyItem ItemFault) → Answers ts line result → IfOk result (IsAtLine line)
answer_line ts line (Ok (Label name)) a = tt
answer_line ts line (Ok (Instr instr)) a = a.1
answer_line ts line (Ok Close) a = tt
answer_line ts line (Ok Ignored) a = tt
answer_line ts line (Err fault) a = tt

nothing : (ts : List Lexeme) (holds : Bool) → Refused ts holds → NothingSpells ts
nothing ts holds f = record { kept = f.0; none = λ inner r. refuted ts holds inner f r }

pub answer_fault : (ts : List Lexeme) (line : ℕ) (result : Result BodyItem ItemFault) → Answers ts line result → IfErr result (IsFault ts)
answer_fault ts line (Ok item) a = tt
answer_fault ts line (Err NotSpelled) a = (nothing ts false a, a.2)
answer_fault ts line (Err OutOfProfile) a = (nothing ts true a, a.2)
answer_fault ts line (Err Memory) a = tt
