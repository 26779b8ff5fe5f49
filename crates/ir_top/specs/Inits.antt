-- Initialisers at the front, with at most 100 in one another.
use Rattle.std.specs.Prelude.{ℕ, zero, suc, true, false, if◌then◌else◌, Some, None, List, [], ◌∷◌, map, drop, codes, bytes_eq}
use Rattle.ir_ast.specs.Plain.{Ty, Ini, Inis, zero_init, number_init, truth_init, bytes_init, array_init, structure_init, packed_init, pointer_init, no_inits, init_and}
use Rattle.ir_ast.specs.View.{view_type, view_init}
use Rattle.ir_ast.specs.declared.types.IrType.{IrType}
use Rattle.ir_ast.specs.declared.global.Init.{Init}
use Rattle.ir_lex.specs.Bytes.{begins_with}
use Rattle.ir_lex.specs.Names.{unescaped, inside_of}
use Rattle.ir_lex.specs.Decimal.{number_of}
use Rattle.ir_lex.specs.declared.token.TokenKind.{TokenKind}
use Rattle.ir_lex.specs.declared.token.TokenKind.TheVariants.{Word, Number, Quoted, Global, Mark}
use Rattle.ir_part.specs.Reader.{Reader, ◌>>=◌}
use Rattle.ir_part.specs.Fronts.{after_mark}
use Rattle.ir_part.specs.Many.{separated}
use Rattle.ir_part.specs.Types.{type_at}
use Rattle.ir_top.specs.Combine.{both}

-- the parts as a list of pairs
abbrev pub inits_from : List (Ty × Ini) → Inis
inits_from [] = no_inits
inits_from (i ∷ is) = init_and i.0 i.1 (inits_from is)

abbrev pub view_pairs : List (IrType × Init) → List (Ty × Ini)
view_pairs pairs = map (λ p. (view_type p.0, view_init p.1)) pairs

abbrev pub init_word : List ℕ → Reader Ini
init_word text ts =
    if bytes_eq text (codes "zeroinitializer") then Some (zero_init, ts)
    else (if bytes_eq text (codes "true") then Some (truth_init true, ts)
    else (if bytes_eq text (codes "false") then Some (truth_init false, ts)
    else (if bytes_eq text (codes "null") then Some (pointer_init, ts)
    else None)))

-- `T INIT`, given the reader of the initialiser
abbrev pub pair_at : Reader Ini → Reader (Ty × Ini)
pair_at inner = both type_at inner

-- `[ T INIT , .. ]`, `{ T INIT , .. }` and `<{ T INIT , .. }>` behind their first mark
abbrev pub array_at : Reader Ini → Reader Ini
array_at inner ts = separated (pair_at inner) 93 ts >>= (λ parts. Some (array_init (inits_from parts.0), parts.1))

abbrev pub struct_at : Reader Ini → Reader Ini
struct_at inner ts = separated (pair_at inner) 125 ts >>= (λ parts. Some (structure_init (inits_from parts.0), parts.1))

abbrev pub packed_at : Reader Ini → Reader Ini
packed_at inner ts = after_mark 123 ts >>= (λ us. separated (pair_at inner) 125 us >>= (λ parts. after_mark 62 parts.1 >>= (λ vs. Some (packed_init (inits_from parts.0), vs))))

abbrev pub init_mark : Reader Ini → List ℕ → Reader Ini
init_mark inner text ts =
    if bytes_eq text (codes "[") then array_at inner ts
    else (if bytes_eq text (codes "{") then struct_at inner ts
    else (if bytes_eq text (codes "<") then packed_at inner ts
    else None))

abbrev pub init_text : List ℕ → Reader Ini
init_text text ts = if begins_with 99 text then Some (bytes_init (unescaped (inside_of (drop 1 text))), ts) else None

abbrev pub init_number : List ℕ → Reader Ini
init_number text ts = number_of text >>= (λ n. Some (number_init n, ts))

abbrev pub init_front : Reader Ini → TokenKind → List ℕ → Reader Ini
init_front inner Word text ts = init_word text ts
init_front inner Number text ts = init_number text ts
init_front inner Quoted text ts = init_text text ts
init_front inner Global text ts = Some (pointer_init, ts)
init_front inner Mark text ts = init_mark inner text ts
init_front inner _ text ts = None

-- one level, given the reader of the parts
abbrev pub init_step : Reader Ini → Reader Ini
init_step inner [] = None
init_step inner (t ∷ ts) = init_front inner t.0 t.1 ts

-- an initialiser with at most so many in one another, this one counted
unfoldable pub init_within : ℕ → Reader Ini
init_within zero ts = None
init_within (suc d) ts = init_step (init_within d) ts

-- an initialiser of a production
unfoldable pub init_at : Reader Ini
init_at ts = init_within 100 ts
