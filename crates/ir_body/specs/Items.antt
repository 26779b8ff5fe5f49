-- Items of bodies: what is read, and what an answer says.
use Rattle.std.specs.Prelude.{◌≡◌, ℕ, Bool, true, false, ◌&&◌, if◌then◌else◌, Option, Some, None, Result, Ok, Err, List, [], ◌∷◌}
use Rattle.ir_ast.specs.ProgramView.{view_op}
use Rattle.ir_lex.specs.Lexeme.{Lexeme}
use Rattle.ir_lex.specs.Drop.{label_kind, is_dropped_item, remaining}
use Rattle.ir_lex.specs.Names.{plain_name}
use Rattle.ir_lex.specs.Tok.{Tok, toks}
use Rattle.ir_lex.specs.Items.{Inner, label_item, instr_item, close_item, ReadsInner, holds_left_out}
use Rattle.ir_lex.specs.declared.token.TokenKind.{TokenKind}
use Rattle.ir_lex.specs.declared.token.TokenKind.TheVariants.{Word, Local}
use Rattle.ir_part.specs.Reader.{Reader, ◌>>=◌}
use Rattle.ir_part.specs.Fronts.{is_this_mark, after_mark, local_at}
use Rattle.ir_body.specs.Words.{operation_of}
use Rattle.ir_body.specs.Rows.{read_operation, sets_of, allows}
use Rattle.ir_body.specs.declared.fault.ItemFault.{ItemFault}
use Rattle.ir_body.specs.declared.fault.ItemFault.TheVariants.{NotSpelled, OutOfProfile, Memory}
use Rattle.ir_body.specs.declared.item.BodyItem.{BodyItem}
use Rattle.ir_body.specs.declared.item.BodyItem.TheVariants.{Label, Instr, Close, Ignored}
use Rattle.ir_body.specs.declared.inner.Tree.{Tree}
use Rattle.ir_body.specs.declared.operation.Operation.{Operation}

-- ---- what is read

-- `}`
abbrev pub is_close : List Tok → Bool
is_close [] = false
is_close (t ∷ []) = is_this_mark 125 t
is_close (t ∷ u ∷ ts) = false

-- a word, digits or a string with `:`
abbrev pub is_label : List Tok → Bool
is_label [] = false
is_label (t ∷ []) = false
is_label (t ∷ u ∷ []) = label_kind t.0 t.1 && is_this_mark 58 u
is_label (t ∷ u ∷ v ∷ ts) = false

abbrev pub label_of : List Tok → Option Inner
label_of [] = None
label_of (t ∷ ts) = Some (label_item (plain_name t.1))

abbrev pub is_local_kind : TokenKind → Bool
is_local_kind Local = true
is_local_kind _ = false

-- `%NAME =`
abbrev pub begins_setting : List Tok → Bool
begins_setting [] = false
begins_setting (t ∷ []) = false
begins_setting (t ∷ u ∷ ts) = is_local_kind t.0 && is_this_mark 61 u

-- the register that is set, where one is
abbrev pub setting_at : Reader (Option (List ℕ))
setting_at ts = if begins_setting ts then (local_at ts >>= (λ x. after_mark 61 x.1 >>= (λ rest. Some (Some x.0, rest)))) else Some (None, ts)

abbrev pub instr_by : Option (List ℕ) → Option Operation → List Tok → Option Inner
instr_by result None ts = None
instr_by result (Some operation) ts = if allows (sets_of operation) result then (read_operation operation ts >>= (λ act. Some (instr_item result act))) else None

abbrev pub instr_front : Option (List ℕ) → TokenKind → List ℕ → List Tok → Option Inner
instr_front result Word text ts = instr_by result (operation_of text) ts
instr_front result _ text ts = None

-- an instruction that sets this register, or none
abbrev pub instr_at : Option (List ℕ) → List Tok → Option Inner
instr_at result [] = None
instr_at result (t ∷ ts) = instr_front result t.0 t.1 ts

unfoldable pub inner_at : List Tok → Option Inner
inner_at ts = if is_close ts then Some close_item else (if is_label ts then label_of ts else (setting_at ts >>= (λ set. instr_at set.0 set.1)))

-- ---- what an answer says

abbrev pub inner_of : Tree → Inner
inner_of (Tree.Label name) = label_item name
inner_of (Tree.Instr register op) = instr_item register (view_op op)
inner_of Tree.Close = close_item

-- the tree of an item that is not dropped
abbrev pub tree_of : BodyItem → Option Inner
tree_of (Label name) = Some (label_item name)
tree_of (Instr instr) = Some (instr_item instr.result (view_op instr.op))
tree_of Close = Some close_item
tree_of Ignored = None

-- the line of an instruction
abbrev pub IsAtLine : ℕ → BodyItem → Type 0
IsAtLine line (Label name) = Unit {0}
IsAtLine line (Instr instr) = instr.line ≡ line
IsAtLine line Close = Unit {0}
IsAtLine line Ignored = Unit {0}

-- nothing spells the item, which is not dropped
pub record NothingSpells (ts : List Lexeme) : Type 0 where
  pub kept : is_dropped_item ts ≡ false
  pub none : (inner : Inner) → ReadsInner inner ts → ⊥

-- an answer about a dropped item, or want of memory
abbrev pub IsIgnored : Result BodyItem ItemFault → Type 0
IsIgnored (Ok (Label name)) = ⊥
IsIgnored (Ok (Instr instr)) = ⊥
IsIgnored (Ok Close) = ⊥
IsIgnored (Ok Ignored) = Unit {0}
IsIgnored (Err NotSpelled) = ⊥
IsIgnored (Err OutOfProfile) = ⊥
IsIgnored (Err Memory) = Unit {0}

-- this tree, or want of memory
abbrev pub IsTree : Inner → Result BodyItem ItemFault → Type 0
IsTree inner (Ok item) = tree_of item ≡ Some inner
IsTree inner (Err NotSpelled) = ⊥
IsTree inner (Err OutOfProfile) = ⊥
IsTree inner (Err Memory) = Unit {0}

-- what an item that is read is: a tree that the remaining tokens spell, or a dropped one
abbrev pub IsRead : List Lexeme → BodyItem → Type 0
IsRead ts (Label name) = ReadsInner (label_item name) ts
IsRead ts (Instr instr) = ReadsInner (instr_item instr.result (view_op instr.op)) ts
IsRead ts Close = ReadsInner close_item ts
IsRead ts Ignored = is_dropped_item ts ≡ true

-- why an item is not read
abbrev pub IsFault : List Lexeme → ItemFault → Type 0
IsFault ts NotSpelled = NothingSpells ts × (holds_left_out (remaining ts) ≡ false)
IsFault ts OutOfProfile = NothingSpells ts × (holds_left_out (remaining ts) ≡ true)
IsFault ts Memory = Unit {0}

-- ---- the same by what is read

abbrev pub fault_by : Bool → ItemFault
fault_by true = OutOfProfile
fault_by false = NotSpelled

abbrev pub Kept : List Lexeme → Inner → Type 0
Kept ts inner = (is_dropped_item ts ≡ false) × (inner_at (toks (remaining ts)) ≡ Some inner)

abbrev pub Refused : List Lexeme → Bool → Type 0
Refused ts holds = (is_dropped_item ts ≡ false) × (inner_at (toks (remaining ts)) ≡ None) × (holds_left_out (remaining ts) ≡ holds)

abbrev pub Answers : List Lexeme → ℕ → Result BodyItem ItemFault → Type 0
Answers ts line (Ok (Label name)) = Kept ts (label_item name)
Answers ts line (Ok (Instr instr)) = Kept ts (instr_item instr.result (view_op instr.op)) × (instr.line ≡ line)
Answers ts line (Ok Close) = Kept ts close_item
Answers ts line (Ok Ignored) = is_dropped_item ts ≡ true
Answers ts line (Err NotSpelled) = Refused ts false
Answers ts line (Err OutOfProfile) = Refused ts true
Answers ts line (Err Memory) = Unit {0}
