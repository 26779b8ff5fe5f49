-- What stands behind the head of a function.
use Rattle.std.specs.Prelude.{ℕ, Bool, false, not, ◌&&◌, ◌||◌, if◌then◌else◌, List, [], ◌∷◌}
use Rattle.ir_lex.specs.Lexeme.{Lexeme}
use Rattle.ir_lex.specs.Marks.{is_mark}
use Rattle.ir_lex.specs.Cut.{Cut, begins_define}
use Rattle.ir_lex.specs.Drop.{is_dropped_item, is_label, remaining}

abbrev pub is_only_mark : ℕ → List Lexeme → Bool
is_only_mark byte [] = false
is_only_mark byte (t ∷ []) = is_mark byte t
is_only_mark byte (t ∷ u ∷ ts) = false

-- what remains of the item is `}`
abbrev pub is_close : List Lexeme → Bool
is_close ts = not (is_dropped_item ts) && is_only_mark 125 (remaining ts)

-- some of these items closes a body
abbrev pub holds_close : List Cut → Bool
holds_close [] = false
holds_close (c ∷ cs) = is_close c.lexemes || holds_close cs

-- what remains of the item is neither a label nor `}`
abbrev pub begins_block : List Lexeme → Bool
begins_block ts = not (is_label (remaining ts)) && not (is_only_mark 125 (remaining ts))

-- the first of these items that is not dropped begins a block that has no label
abbrev pub begins_unlabelled : List Cut → Bool
begins_unlabelled [] = false
begins_unlabelled (c ∷ cs) = if is_dropped_item c.lexemes then begins_unlabelled cs else begins_block c.lexemes

-- the item ends: its brackets are closed, and where it is a `define` some item behind it closes the body
abbrev pub ends : Cut → List Cut → Bool
ends c after = c.closed && (not (begins_define c.lexemes) || holds_close after)
