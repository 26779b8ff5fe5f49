-- Parameters up to a `)`. Numbers count from 0, and a parameter without a name takes the next one.
use Rattle.std.specs.Prelude.{ℕ, zero, suc, ◌+◌, if◌then◌else◌, Some, None, List, [], ◌∷◌, length, decimal}
use Rattle.ir_ast.specs.Plain.{Ty}
use Rattle.ir_lex.specs.Names.{sigil_name}
use Rattle.ir_lex.specs.Tok.{Tok}
use Rattle.ir_lex.specs.Items.{number_after}
use Rattle.ir_lex.specs.declared.token.TokenKind.{TokenKind}
use Rattle.ir_lex.specs.declared.token.TokenKind.TheVariants.{Local}
use Rattle.ir_part.specs.Reader.{Reader, ◌>>=◌}
use Rattle.ir_part.specs.Fronts.{after_mark}
use Rattle.ir_part.specs.Many.{is_closed, with_first}
use Rattle.ir_part.specs.Types.{type_at}

abbrev pub name_front : ℕ → TokenKind → List ℕ → List Tok → List Tok → List ℕ × List Tok
name_front next Local text rest ts = (sigil_name text, rest)
name_front next _ text rest ts = (decimal next, ts)

-- `%NAME`, or the next number where none stands there
abbrev pub name_at : ℕ → List Tok → List ℕ × List Tok
name_at next [] = (decimal next, [])
name_at next (t ∷ ts) = name_front next t.0 t.1 ts (t ∷ ts)

-- `T [%NAME]`
abbrev pub parameter_at : ℕ → Reader (Ty × List ℕ)
parameter_at next ts = type_at ts >>= (λ over. Some ((over.0, (name_at next over.1).0), (name_at next over.1).1))

-- further parameters, each behind a comma, up to a `)`; fewer than so many
unfoldable pub more_from : ℕ → ℕ → Reader (List (Ty × List ℕ))
more_from zero next ts = None
more_from (suc n) next ts =
    if is_closed 41 ts then Some ([], ts)
    else (after_mark 44 ts >>= (λ us. parameter_at next us >>= (λ p. with_first p.0 (more_from n (number_after next p.0.1) p.1))))

abbrev pub some_parameters : Reader (List (Ty × List ℕ))
some_parameters ts = parameter_at 0 ts >>= (λ p. with_first p.0 (more_from (length p.1 + 1) (number_after 0 p.0.1) p.1))

-- none, or some
abbrev pub parameters_at : Reader (List (Ty × List ℕ))
parameters_at ts = if is_closed 41 ts then Some ([], ts) else some_parameters ts
