-- Productions read part by part.
use Rattle.std.specs.Prelude.{ℕ, Bool, true, false, not, ◌&&◌, Option, Some, None, List, [], ◌∷◌, codes, bytes_eq}
use Rattle.ir_ast.specs.Program.{Act}
use Rattle.ir_ast.specs.declared.instr.Predicate.{Predicate}
use Rattle.ir_lex.specs.Decimal.{width_of}
use Rattle.ir_lex.specs.Tok.{Tok}
use Rattle.ir_lex.specs.Parts.{Part, sign, key, may, width, over, returned, callee, register, predicate, target, part, bit, place, width_value, width_pair, typed, typed_pair, twice, alignment, access, arms, offsets, arguments, choices, Got, AllGot}
use Rattle.ir_lex.specs.Rows.{Sets, does, might, never, Row, wrapping, exacting, simple, disjoining, comparing, selecting, truncating, zero_extending, sign_extending, freezing, joining, reserving, loading, storing, addressing, calling, extracting, going, branching, switching, returning_nothing, returning, unreached}
use Rattle.ir_part.specs.Reader.{Reader, ◌>>=◌, ended}
use Rattle.ir_part.specs.Fronts.{after_mark, after_word, flag_at, global_at, label_at}
use Rattle.ir_part.specs.Numbers.{count_at, width_at, align_at}
use Rattle.ir_part.specs.Types.{type_at, result_at}
use Rattle.ir_part.specs.Operands.{typed_at}
use Rattle.ir_body.specs.Words.{predicate_of}
use Rattle.ir_body.specs.Parts.{register_at, predicate_at, bit_at, place_at, width_value_at, width_pair_at, typed_pair_at, twice_at, access_at, arms_at, offsets_at, arguments_at, choices_at}
use Rattle.ir_body.specs.declared.operation.Operation.{Operation}
use Rattle.ir_body.specs.declared.operation.Operation.TheVariants.{Wrapping, Exacting, Simple, Or, Icmp, Select, Trunc, Zext, Sext, Freeze, Phi, Alloca, Load, Store, GetElementPtr, Call, ExtractValue, Br, Switch, Ret, Unreachable}

abbrev pub read_part : (p : Part) → Reader (Got p)
read_part (sign byte) ts = after_mark byte ts >>= (λ rest. Some (tt, rest))
read_part (key text) ts = after_word text ts >>= (λ rest. Some (tt, rest))
read_part (may text) ts = flag_at text ts
read_part width ts = width_at ts
read_part over ts = type_at ts
read_part returned ts = result_at ts
read_part callee ts = global_at ts
read_part register ts = register_at ts
read_part predicate ts = predicate_at ts
read_part target ts = label_at ts
read_part part ts = count_at ts
read_part bit ts = bit_at ts
read_part place ts = place_at ts
read_part width_value ts = width_value_at ts
read_part width_pair ts = width_pair_at ts
read_part typed ts = typed_at ts
read_part typed_pair ts = typed_pair_at ts
read_part twice ts = twice_at ts
read_part alignment ts = align_at ts
read_part access ts = access_at ts
read_part arms ts = arms_at ts
read_part offsets ts = offsets_at ts
read_part arguments ts = arguments_at ts
read_part choices ts = choices_at ts

abbrev pub read_all : (ps : List Part) → Reader (AllGot ps)
read_all [] ts = Some (tt, ts)
read_all (p ∷ ps) ts = read_part p ts >>= (λ x. read_all ps x.1 >>= (λ others. Some ((x.0, others.0), others.1)))

-- the parts of a row up to the end, and the instruction that they make
unfoldable pub read_row : Row → List Tok → Option Act
read_row row ts = read_all row.parts ts >>= (λ got. ended got.1 >>= (λ end. row.build got.0))

abbrev pub read_br : Option (List Tok) → List Tok → Option Act
read_br (Some rest) ts = read_row going ts
read_br None ts = read_row branching ts

abbrev pub read_ret : Option (List Tok) → List Tok → Option Act
read_ret (Some rest) ts = read_row returning_nothing ts
read_ret None ts = read_row returning ts

-- what stands behind the word of an operation, up to the end
abbrev pub read_operation : Operation → List Tok → Option Act
read_operation (Wrapping kind) ts = read_row (wrapping kind) ts
read_operation (Exacting kind) ts = read_row (exacting kind) ts
read_operation (Simple kind) ts = read_row (simple kind) ts
read_operation Or ts = read_row disjoining ts
read_operation Icmp ts = read_row comparing ts
read_operation Select ts = read_row selecting ts
read_operation Trunc ts = read_row truncating ts
read_operation Zext ts = read_row zero_extending ts
read_operation Sext ts = read_row sign_extending ts
read_operation Freeze ts = read_row freezing ts
read_operation Phi ts = read_row joining ts
read_operation Alloca ts = read_row reserving ts
read_operation Load ts = read_row loading ts
read_operation Store ts = read_row storing ts
read_operation GetElementPtr ts = read_row addressing ts
read_operation Call ts = read_row calling ts
read_operation ExtractValue ts = read_row extracting ts
read_operation Br ts = read_br (after_word (codes "label") ts) ts
read_operation Switch ts = read_row switching ts
read_operation Ret ts = read_ret (after_word (codes "void") ts) ts
read_operation Unreachable ts = read_row unreached ts

-- whether an operation sets a register
abbrev pub sets_of : Operation → Sets
sets_of Store = never
sets_of Call = might
sets_of Br = never
sets_of Switch = never
sets_of Ret = never
sets_of Unreachable = never
sets_of _ = does

abbrev pub allows : Sets → Option (List ℕ) → Bool
allows does (Some name) = true
allows does None = false
allows might result = true
allows never (Some name) = false
allows never None = true

-- ---- what a part is told from

-- no part at the front begins with this word
abbrev pub is_no_type : List ℕ → Option ℕ → Bool
is_no_type word (Some w) = false
is_no_type word None = not (bytes_eq word (codes "ptr"))

abbrev pub is_no_predicate : Option Predicate → Bool
is_no_predicate (Some p) = false
is_no_predicate None = true

abbrev pub never_first : List ℕ → List Part → Bool
never_first word (may other ∷ ps) = not (bytes_eq other word) && never_first word ps
never_first word (predicate ∷ ps) = is_no_predicate (predicate_of word)
never_first word (width_pair ∷ ps) = is_no_type word (width_of word)
never_first word (width_value ∷ ps) = is_no_type word (width_of word)
never_first word (over ∷ ps) = is_no_type word (width_of word)
never_first word _ = false

abbrev pub is_last : List Part → Bool
is_last [] = true
is_last (p ∷ ps) = false

-- each optional part is told from what can stand behind it
abbrev pub is_ready : List Part → Bool
is_ready [] = true
is_ready (may word ∷ ps) = bytes_eq word word && never_first word ps && is_ready ps
is_ready (alignment ∷ ps) = is_last ps
is_ready (access ∷ ps) = is_last ps
is_ready (arms ∷ ps) = is_last ps
is_ready (offsets ∷ ps) = is_last ps
is_ready (p ∷ ps) = is_ready ps
