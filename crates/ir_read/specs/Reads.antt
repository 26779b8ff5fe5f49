-- What an item is read as, at a place outside of bodies or inside of one.
use Rattle.std.specs.Prelude.{◌≡◌, ℕ, ℤ, Bool, true, false, ◌⊎◌, List}
use Rattle.ir_ast.specs.Plain.{Ty}
use Rattle.ir_ast.specs.declared.fault.KernelReason.{KernelReason}
use Rattle.ir_ast.specs.declared.fault.KernelReason.TheVariants.{K2, K3}
use Rattle.ir_lex.specs.Lexeme.{Lexeme}
use Rattle.ir_lex.specs.Drop.{is_dropped_item, remaining}
use Rattle.ir_lex.specs.Tok.{toks}
use Rattle.ir_lex.specs.Items.{Top, Inner, ReadsTop, ReadsInner, SpellsRangeItem, holds_left_out}

pub data Reading : Type 0 where
  passed : Reading  -- it is dropped
  ranged : List ℕ → List (Ty × ℤ) → Reading  -- it is dropped, and kept as a range
  top_of : Top → Reading
  inner_of : Inner → Reading
  refused : KernelReason → Reading  -- no production of its place spells it

-- some production spells the item: outside of bodies; in a body
abbrev pub IsTop : List Lexeme → Type 0
IsTop ts = (top : Top) × ReadsTop top ts

abbrev pub IsInner : List Lexeme → Type 0
IsInner ts = (inner : Inner) × ReadsInner inner ts

-- a production of its own place spells the item; one of the other place does
abbrev pub IsInPlace : Bool → List Lexeme → Type 0
IsInPlace false ts = IsTop ts
IsInPlace true ts = IsInner ts

abbrev pub IsOutOfPlace : Bool → List Lexeme → Type 0
IsOutOfPlace false ts = IsInner ts
IsOutOfPlace true ts = IsTop ts

-- why an item that is not dropped is refused at its place: it is out of place or of no production; of no production, with a token of
-- what is left out
abbrev pub Refuses : Bool → List Lexeme → KernelReason → Type 0
Refuses inside ts K2 = (is_dropped_item ts ≡ false) × (IsInPlace inside ts → ⊥) × (IsOutOfPlace inside ts ⊎ (holds_left_out (remaining ts) ≡ false))
Refuses inside ts K3 = (is_dropped_item ts ≡ false) × (IsInPlace inside ts → ⊥) × (IsOutOfPlace inside ts → ⊥) × (holds_left_out (remaining ts) ≡ true)
Refuses inside ts _ = ⊥

abbrev pub Reads : Bool → Reading → List Lexeme → Type 0
Reads inside passed ts = (is_dropped_item ts ≡ true) × ((name : List ℕ) → (numbers : List (Ty × ℤ)) → SpellsRangeItem name numbers (toks ts) → ⊥)
Reads inside (ranged name numbers) ts = (is_dropped_item ts ≡ true) × SpellsRangeItem name numbers (toks ts)
Reads inside (top_of top) ts = (inside ≡ false) × ReadsTop top ts
Reads inside (inner_of inner) ts = (inside ≡ true) × ReadsInner inner ts
Reads inside (refused reason) ts = Refuses inside ts reason
