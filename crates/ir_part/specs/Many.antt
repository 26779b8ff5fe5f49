-- Lists of parts: one behind the other up to a stop, and with a comma between them.
use Rattle.std.specs.Prelude.{ℕ, zero, suc, ◌+◌, Bool, true, false, if◌then◌else◌, Option, Some, None, List, [], ◌∷◌, ◌++◌, length}
use Rattle.ir_lex.specs.Tok.{Tok}
use Rattle.ir_part.specs.Reader.{Reader, ◌>>=◌}
use Rattle.ir_part.specs.Fronts.{is_this_mark, after_mark}

-- this mark is at the front
abbrev pub is_closed : ℕ → List Tok → Bool
is_closed byte [] = false
is_closed byte (t ∷ ts) = is_this_mark byte t

-- no token is left
abbrev pub is_ended : List Tok → Bool
is_ended [] = true
is_ended (t ∷ ts) = false

-- the element before the others
abbrev pub with_first : {A : Type 0} → A → Option (List A × List Tok) → Option (List A × List Tok)
with_first x None = None
with_first x (Some read) = Some (x ∷ read.0, read.1)

-- the elements before the others
abbrev pub with_front : {A : Type 0} → List A → Option (List A × List Tok) → Option (List A × List Tok)
with_front xs None = None
with_front xs (Some read) = Some (xs ++ read.0, read.1)

-- elements up to the stop, fewer than so many
unfoldable pub many_from : {A : Type 0} → (List Tok → Bool) → Reader A → ℕ → Reader (List A)
many_from stop item zero ts = None
many_from stop item (suc n) ts = if stop ts then Some ([], ts) else (item ts >>= (λ first. with_first first.0 (many_from stop item n first.1)))

-- elements up to the stop; each takes a token at least
abbrev pub many : {A : Type 0} → (List Tok → Bool) → Reader A → Reader (List A)
many stop item ts = many_from stop item (length ts + 1) ts

-- one element, and further ones up to the stop
abbrev pub some : {A : Type 0} → (List Tok → Bool) → Reader A → Reader A → Reader (List A)
some stop item further ts = item ts >>= (λ first. with_first first.0 (many stop further first.1))

abbrev pub behind_comma : {A : Type 0} → Reader A → Reader A
behind_comma item ts = after_mark 44 ts >>= item

-- elements with a comma between them up to a closing mark: none, or some
abbrev pub separated_by : {A : Type 0} → Reader A → ℕ → Option (List Tok) → Reader (List A)
separated_by item close (Some rest) ts = Some ([], rest)
separated_by item close None ts = some (is_closed close) item (behind_comma item) ts >>= (λ read. after_mark close read.1 >>= (λ rest. Some (read.0, rest)))

-- the same, with what stands behind the closing mark
abbrev pub separated : {A : Type 0} → Reader A → ℕ → Reader (List A)
separated item close ts = separated_by item close (after_mark close ts) ts
