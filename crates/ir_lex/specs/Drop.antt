-- What an item carries no meaning in, and is dropped: whole items, and tokens of the others.
use Rattle.std.specs.Prelude.{ℕ, zero, suc, ◌+◌, ◌-◌, Bool, true, false, not, ◌&&◌, ◌||◌, ◌==◌, if◌then◌else◌, Option, Some, None, option_map, List, [], ◌∷◌, ◌++◌, take, drop, length, codes, bytes_eq, nat_eq, nat_lt}
use Rattle.std.specs.List.{starts_with}
use Rattle.std.specs.Char.{is_ascii_digit}
use Rattle.ir_lex.specs.Bytes.{run, begins_with}
use Rattle.ir_lex.specs.Lexeme.{Lexeme}
use Rattle.ir_lex.specs.Marks.{is_word, is_mark, front_passes}
use Rattle.ir_lex.specs.Cut.{open_after, is_none_open, closes, takes_parentheses}
use Rattle.ir_lex.specs.Names.{sigil_name}
use Rattle.ir_lex.specs.declared.token.TokenKind.{TokenKind}
use Rattle.ir_lex.specs.declared.token.TokenKind.TheVariants.{Word, Number, Quoted, Global, Metadata, Attribute}
use Rattle.ir_lex.specs.declared.whole.Note.{Note}
use Rattle.ir_lex.specs.declared.whole.Note.TheVariants.{Whole, Comma, Kind}
use Rattle.ir_lex.specs.declared.drops.Front.{Front}
use Rattle.ir_lex.specs.declared.drops.Front.TheVariants.{Kept, Dropped, Unclosed}

-- ---- the tokens that the rules name

abbrev pub are_digits : List ℕ → Bool
are_digits bytes = run is_ascii_digit bytes == length bytes

-- digits, a string without `c`, `#N`, `!N`, a metadata name, a global name
abbrev pub digits_kind : TokenKind → List ℕ → Bool
digits_kind Number text = not (begins_with 45 text)
digits_kind _ text = false

abbrev pub is_digits : Lexeme → Bool
is_digits t = digits_kind t.kind t.text

abbrev pub begins_digits : List Lexeme → Bool
begins_digits ts = front_passes is_digits ts

abbrev pub string_kind : TokenKind → List ℕ → Bool
string_kind Quoted text = begins_with 34 text
string_kind _ text = false

abbrev pub is_string : Lexeme → Bool
is_string t = string_kind t.kind t.text

abbrev pub attribute_kind : TokenKind → Bool
attribute_kind Attribute = true
attribute_kind _ = false

abbrev pub is_attribute_number : Lexeme → Bool
is_attribute_number t = attribute_kind t.kind && are_digits (drop 1 t.text)

abbrev pub metadata_kind : TokenKind → Bool
metadata_kind Metadata = true
metadata_kind _ = false

abbrev pub is_metadata : Lexeme → Bool
is_metadata t = metadata_kind t.kind

abbrev pub is_metadata_number : Lexeme → Bool
is_metadata_number t = metadata_kind t.kind && are_digits (drop 1 t.text)

abbrev pub global_kind : TokenKind → Bool
global_kind Global = true
global_kind _ = false

-- ---- label items, which are kept as they are

abbrev pub label_kind : TokenKind → List ℕ → Bool
label_kind Word text = true
label_kind Number text = not (begins_with 45 text)
label_kind Quoted text = begins_with 34 text
label_kind _ text = false

-- a word, digits or a string with `:`
abbrev pub begins_label : List Lexeme → Bool
begins_label [] = false
begins_label (t ∷ []) = false
begins_label (t ∷ u ∷ ts) = label_kind t.kind t.text && is_mark 58 u

-- ---- dropped tokens

abbrev pub is_linkage : Lexeme → Bool
is_linkage t = is_word (codes "private") t || is_word (codes "internal") t || is_word (codes "available_externally") t || is_word (codes "common") t

abbrev pub is_weak_linkage : Lexeme → Bool
is_weak_linkage t = is_word (codes "linkonce") t || is_word (codes "linkonce_odr") t || is_word (codes "weak") t || is_word (codes "weak_odr") t

abbrev pub is_visibility : Lexeme → Bool
is_visibility t = is_word (codes "hidden") t || is_word (codes "protected") t || is_word (codes "dso_local") t || is_word (codes "dso_preemptable") t || is_word (codes "unnamed_addr") t || is_word (codes "local_unnamed_addr") t

abbrev pub is_call_word : Lexeme → Bool
is_call_word t = is_word (codes "tail") t || is_word (codes "notail") t || is_word (codes "musttail") t || is_word (codes "fastcc") t || is_word (codes "ccc") t

abbrev pub is_value_attribute : Lexeme → Bool
is_value_attribute t = is_word (codes "noundef") t || is_word (codes "zeroext") t || is_word (codes "signext") t || is_word (codes "inreg") t || is_word (codes "returned") t || is_word (codes "immarg") t

abbrev pub is_pointer_attribute : Lexeme → Bool
is_pointer_attribute t = is_word (codes "noalias") t || is_word (codes "nonnull") t || is_word (codes "nocapture") t || is_word (codes "nofree") t

abbrev pub is_effect_attribute : Lexeme → Bool
is_effect_attribute t = is_word (codes "readonly") t || is_word (codes "readnone") t || is_word (codes "writeonly") t || is_word (codes "nounwind") t

abbrev pub is_dropped_word : Lexeme → Bool
is_dropped_word t = is_linkage t || is_weak_linkage t || is_visibility t || is_call_word t || is_value_attribute t || is_pointer_attribute t || is_effect_attribute t

-- `section STRING`, and `!KIND !N` for every kind but `range`: these take a comma before them along
abbrev pub is_dropped_pair : Lexeme → Lexeme → Bool
is_dropped_pair t u = (is_word (codes "section") t && is_string u) || (is_metadata t && not (bytes_eq t.text (codes "!range")) && is_metadata_number u)

abbrev pub pairs_dropped : Lexeme → List Lexeme → Bool
pairs_dropped t [] = false
pairs_dropped t (u ∷ ts) = is_dropped_pair t u

abbrev pub begins_dropped_pair : List Lexeme → Bool
begins_dropped_pair [] = false
begins_dropped_pair (t ∷ ts) = pairs_dropped t ts

-- how many tokens stand up to the one that closes all brackets, given those that are open
abbrev pub group_length : List ℕ → List Lexeme → Option ℕ
group_length open_marks [] = None
group_length open_marks (t ∷ ts) = if is_none_open (open_after open_marks t) then Some 1 else option_map (λ n. n + 1) (group_length (open_after open_marks t) ts)

-- a word with its parentheses; where they never close, no more of the item is dropped
abbrev pub dropped_group : Option ℕ → Front
dropped_group (Some n) = Dropped (n + 1)
dropped_group None = Unclosed

-- what of the front is dropped, behind a comma or not
abbrev pub front_from : Bool → Lexeme → List Lexeme → Front
front_from after_comma t ts =
    if is_mark 44 t && begins_dropped_pair ts then Dropped 3
    else (if pairs_dropped t ts then Dropped 2
    else (if is_dropped_word t || is_attribute_number t then Dropped 1
    else (if is_word (codes "align") t && not after_comma && begins_digits ts then Dropped 2
    else (if takes_parentheses t && front_passes (is_mark 40) ts then dropped_group (group_length [] ts)
    else Kept))))

abbrev pub front_of : Bool → List Lexeme → Front
front_of after_comma [] = Kept
front_of after_comma (t ∷ ts) = front_from after_comma t ts

abbrev pub after_front : Front → Lexeme → List Lexeme → (ℕ → Bool → List Lexeme) → List Lexeme
after_front Kept t ts on = t ∷ on 0 (is_mark 44 t)
after_front (Dropped n) t ts on = on (n - 1) false
after_front Unclosed t ts on = t ∷ ts

-- the tokens that remain, behind a comma or not, where so many are passed over
unfoldable pub remaining_from : ℕ → Bool → List Lexeme → List Lexeme
remaining_from skip after_comma [] = []
remaining_from (suc k) after_comma (t ∷ ts) = remaining_from k after_comma ts
remaining_from zero after_comma (t ∷ ts) = after_front (front_from after_comma t ts) t ts (λ skip comma. remaining_from skip comma ts)

abbrev pub label_length : List Lexeme → ℕ
label_length ts = if begins_label ts then 2 else 0

-- the tokens of an item that remain; the name and the `:` of a label stay as they are
unfoldable pub remaining : List Lexeme → List Lexeme
remaining ts = take (label_length ts) ts ++ remaining_from 0 false (drop (label_length ts) ts)

-- a label: NAME and `:` alone
abbrev pub is_label : List Lexeme → Bool
is_label [] = false
is_label (t ∷ []) = false
is_label (t ∷ u ∷ []) = label_kind t.kind t.text && is_mark 58 u
is_label (t ∷ u ∷ v ∷ ts) = false

-- ---- dropped items: each is dropped only where the whole of it has the form

-- a token that passes the test, and behind it what passes the other one
abbrev pub behind : (Lexeme → Bool) → (List Lexeme → Bool) → List Lexeme → Bool
behind test on [] = false
behind test on (t ∷ ts) = test t && on ts

-- how many tokens stand up to the one that closes all brackets, given those that are open; none where a closing mark does not fit
abbrev pub balanced_length : List ℕ → List Lexeme → Option ℕ
balanced_length open_marks [] = None
balanced_length open_marks (t ∷ ts) =
    if not (closes open_marks t) then None
    else (if is_none_open (open_after open_marks t) then Some 1
    else option_map (λ n. n + 1) (balanced_length (open_after open_marks t) ts))

abbrev pub ends_with : Option ℕ → List Lexeme → Bool
ends_with (Some n) ts = n == length ts
ends_with None ts = false

-- a bracket that this mark opens, tokens with balanced brackets, and the mark that closes it
abbrev pub is_group : ℕ → List Lexeme → Bool
is_group byte ts = front_passes (is_mark byte) ts && ends_with (balanced_length [] ts) ts

-- a string alone
abbrev pub is_only_string : List Lexeme → Bool
is_only_string [] = false
is_only_string (t ∷ []) = is_string t
is_only_string (t ∷ u ∷ ts) = false

-- `= STRING`
abbrev pub is_assigned_string : List Lexeme → Bool
is_assigned_string ts = behind (is_mark 61) is_only_string ts

-- `source_filename = STRING`, `target triple = STRING`
abbrev pub is_named_string : List Lexeme → Bool
is_named_string ts =
    behind (is_word (codes "source_filename")) is_assigned_string ts
    || behind (is_word (codes "target")) (behind (is_word (codes "triple")) is_assigned_string) ts

-- `attributes #N = { .. }`
abbrev pub is_attributes_item : List Lexeme → Bool
is_attributes_item ts = behind (is_word (codes "attributes")) (behind is_attribute_number (behind (is_mark 61) (is_group 123))) ts

-- `!` with a word
abbrev pub is_metadata_word : Lexeme → Bool
is_metadata_word t = is_metadata t && not (are_digits (drop 1 t.text))

-- `!{ .. }`, `!WORD( .. )`
abbrev pub is_plain_node : List Lexeme → Bool
is_plain_node ts = behind (is_mark 33) (is_group 123) ts || behind is_metadata_word (is_group 40) ts

-- the same, with `distinct` or not
abbrev pub is_node : List Lexeme → Bool
is_node ts = is_plain_node ts || behind (is_word (codes "distinct")) is_plain_node ts

-- `!NAME = NODE`
abbrev pub is_metadata_item : List Lexeme → Bool
is_metadata_item ts = behind is_metadata (behind (is_mark 61) is_node) ts

-- `#dbg_WORD`
abbrev pub is_debug_word : Lexeme → Bool
is_debug_word t = attribute_kind t.kind && (starts_with nat_eq t.text (codes "#dbg_") && nat_lt 5 (length t.text))

-- `#dbg_WORD( .. )`
abbrev pub is_debug_record : List Lexeme → Bool
is_debug_record ts = behind is_debug_word (is_group 40) ts

-- `#N` and `, !KIND !N`, read token by token
abbrev pub note_after : Note → Lexeme → Option Note
note_after Whole t = if is_attribute_number t then Some Whole else (if is_mark 44 t then Some Comma else None)
note_after Comma t = if is_metadata_word t then Some Kind else None
note_after Kind t = if is_metadata_number t then Some Whole else None

abbrev pub is_whole : Note → Bool
is_whole Whole = true
is_whole _ = false

abbrev pub notes_on : Option Note → (Note → Bool) → Bool
notes_on (Some note) on = on note
notes_on None on = false

abbrev pub notes_from : List Lexeme → Note → Bool
notes_from [] note = is_whole note
notes_from (t ∷ ts) note = notes_on (note_after note t) (notes_from ts)

-- nothing but notes
abbrev pub are_notes : List Lexeme → Bool
are_notes ts = notes_from ts Whole

abbrev pub notes_behind : Option ℕ → List Lexeme → Bool
notes_behind (Some n) ts = are_notes (drop n ts)
notes_behind None ts = false

-- `( .. )`, and behind it notes alone
abbrev pub is_noted_group : List Lexeme → Bool
is_noted_group ts = front_passes (is_mark 40) ts && notes_behind (balanced_length [] ts) ts

-- a name that begins with `llvm.dbg.`
abbrev pub is_debug_name : Lexeme → Bool
is_debug_name t = global_kind t.kind && starts_with nat_eq (sigil_name t.text) (codes "llvm.dbg.")

-- `call void @llvm.dbg.NAME( .. )`
abbrev pub is_debug_call : List Lexeme → Bool
is_debug_call ts = behind (is_word (codes "call")) (behind (is_word (codes "void")) (behind is_debug_name is_noted_group)) ts

-- the same, with `tail` or not
abbrev pub calls_debug : List Lexeme → Bool
calls_debug ts = is_debug_call ts || behind (is_word (codes "tail")) is_debug_call ts

-- the item is dropped whole
unfoldable pub is_dropped_item : List Lexeme → Bool
is_dropped_item ts = is_named_string ts || is_attributes_item ts || is_metadata_item ts || is_debug_record ts || calls_debug ts
