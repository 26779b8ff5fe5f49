-- What stands at the front of a list of tokens: a mark, a word, a name.
use Rattle.std.specs.Prelude.{ℕ, Bool, true, false, ◌&&◌, if◌then◌else◌, Option, Some, None, List, [], ◌∷◌, codes, bytes_eq}
use Rattle.ir_lex.specs.Marks.{is_word_kind, is_mark_kind, is_byte}
use Rattle.ir_lex.specs.Names.{sigil_name}
use Rattle.ir_lex.specs.Tok.{Tok}
use Rattle.ir_lex.specs.declared.token.TokenKind.{TokenKind}
use Rattle.ir_lex.specs.declared.token.TokenKind.TheVariants.{Local, Global}
use Rattle.ir_part.specs.Reader.{Reader, ◌>>=◌}

abbrev pub is_this_mark : ℕ → Tok → Bool
is_this_mark byte t = is_mark_kind t.0 && is_byte byte t.1

abbrev pub is_this_word : List ℕ → Tok → Bool
is_this_word text t = is_word_kind t.0 && bytes_eq t.1 text

-- the tokens behind this mark
abbrev pub after_mark : ℕ → List Tok → Option (List Tok)
after_mark byte [] = None
after_mark byte (t ∷ ts) = if is_this_mark byte t then Some ts else None

-- the tokens behind this word
abbrev pub after_word : List ℕ → List Tok → Option (List Tok)
after_word text [] = None
after_word text (t ∷ ts) = if is_this_word text t then Some ts else None

-- whether this word stands there, and the tokens behind it
abbrev pub flag_at : List ℕ → Reader Bool
flag_at text [] = Some (false, [])
flag_at text (t ∷ ts) = if is_this_word text t then Some (true, ts) else Some (false, t ∷ ts)

abbrev pub local_front : TokenKind → List ℕ → Reader (List ℕ)
local_front Local text ts = Some (sigil_name text, ts)
local_front _ text ts = None

-- `%NAME`
abbrev pub local_at : Reader (List ℕ)
local_at [] = None
local_at (t ∷ ts) = local_front t.0 t.1 ts

abbrev pub global_front : TokenKind → List ℕ → Reader (List ℕ)
global_front Global text ts = Some (sigil_name text, ts)
global_front _ text ts = None

-- `@NAME`
abbrev pub global_at : Reader (List ℕ)
global_at [] = None
global_at (t ∷ ts) = global_front t.0 t.1 ts

-- `label %NAME`
abbrev pub label_at : Reader (List ℕ)
label_at ts = after_word (codes "label") ts >>= local_at
