-- The operation of a word has the row of the word.
use Rattle.std.proofs.Common.{◌≡◌, ℕ, true, Option, Some, None, List, [], ◌∷◌, ◌++◌, refl, ◌∙◌, ap, inl, inr, append_assoc, lit<}
use Rattle.std.specs.Prelude.{codes, Any}
use Rattle.ir_ast.specs.Plain.{integer}
use Rattle.ir_ast.specs.Program.{Act}
use Rattle.ir_ast.specs.declared.instr.BinaryKind.TheVariants.{Add, Sub, Mul, Shl, Udiv, Sdiv, Lshr, Ashr, Urem, Srem, And, Xor}
use Rattle.ir_lex.specs.Decimal.{width_of}
use Rattle.ir_lex.specs.Tok.{Tok, mark}
use Rattle.ir_lex.specs.Rows.{Row, rows, wrapping, exacting, simple, disjoining, comparing, selecting, truncating, zero_extending, sign_extending, freezing, joining, reserving, loading, storing, addressing, calling, extracting, going, branching, switching, returning_nothing, returning, unreached}
use Rattle.ir_part.specs.Fronts.{after_word}
use Rattle.ir_part.specs.Types.{type_at, type_within}
use Rattle.ir_part.proofs.TypeLaws.{no_word}
use Rattle.ir_body.specs.Words.{predicate_of, unsigned_of, signed_of, or_else, memory_words, arithmetic_words, value_words, control_words, bit_words, memory_of, arithmetic_of, value_of, control_of, bit_of, rarer_of, operation_of}
use Rattle.ir_body.specs.Rows.{read_row, read_br, read_ret, read_operation, sets_of, is_ready}
use Rattle.ir_body.specs.declared.operation.Operation.{Operation}
use Rattle.ir_body.specs.declared.operation.Operation.TheVariants.{Wrapping, Exacting, Simple, Or, Icmp, Select, Trunc, Zext, Sext, Freeze, Phi, Alloca, Load, Store, GetElementPtr, Call, ExtractValue, Br, Switch, Ret, Unreachable}
use Rattle.ir_body.proofs.WordLaws.{Each, lookup_holds, either}
use Rattle.ir_body.proofs.RowLaws.{row_sound}

-- ---- what an operation reads, a row of its word reads

abbrev pub RowReads : List ℕ → Operation → List Tok → Act → List ℕ × Row → Type 0
RowReads text operation ts act row = (text ≡ row.0) × (row.1.sets ≡ sets_of operation) × (read_row row.1 ts ≡ Some act)

abbrev pub HasRow : List ℕ → Operation → Type 0
HasRow text operation = (ts : List Tok) (act : Act) → read_operation operation ts ≡ Some act → Any (RowReads text operation ts act) rows

br_by : (o : Option (List Tok)) (ts : List Tok) (act : Act) → read_br o ts ≡ Some act → Any (RowReads (codes "br") Br ts act) rows
br_by (Some rest) ts act h = (26, (codes "br", going), lit< tt, refl, (refl, refl, h))
br_by None ts act h = (27, (codes "br", branching), lit< tt, refl, (refl, refl, h))

br_row : HasRow (codes "br") Br
br_row ts act h = br_by (after_word (codes "label") ts) ts act h

ret_by : (o : Option (List Tok)) (ts : List Tok) (act : Act) → read_ret o ts ≡ Some act → Any (RowReads (codes "ret") Ret ts act) rows
ret_by (Some rest) ts act h = (29, (codes "ret", returning_nothing), lit< tt, refl, (refl, refl, h))
ret_by None ts act h = (30, (codes "ret", returning), lit< tt, refl, (refl, refl, h))

ret_row : HasRow (codes "ret") Ret
ret_row ts act h = ret_by (after_word (codes "void") ts) ts act h

memory_rows : Each HasRow memory_words
memory_rows = ((λ ts act h. (21, (codes "load", loading), lit< tt, refl, (refl, refl, h))), ((λ ts act h. (22, (codes "store", storing), lit< tt, refl, (refl, refl, h))), ((λ ts act h. (23, (codes "getelementptr", addressing), lit< tt, refl, (refl, refl, h))), ((λ ts act h. (20, (codes "alloca", reserving), lit< tt, refl, (refl, refl, h))), ((λ ts act h. (24, (codes "call", calling), lit< tt, refl, (refl, refl, h))), ((λ ts act h. (25, (codes "extractvalue", extracting), lit< tt, refl, (refl, refl, h))), tt))))))

arithmetic_rows : Each HasRow arithmetic_words
arithmetic_rows = ((λ ts act h. (0, (codes "add", wrapping Add), lit< tt, refl, (refl, refl, h))), ((λ ts act h. (1, (codes "sub", wrapping Sub), lit< tt, refl, (refl, refl, h))), ((λ ts act h. (2, (codes "mul", wrapping Mul), lit< tt, refl, (refl, refl, h))), ((λ ts act h. (3, (codes "shl", wrapping Shl), lit< tt, refl, (refl, refl, h))), ((λ ts act h. (4, (codes "udiv", exacting Udiv), lit< tt, refl, (refl, refl, h))), ((λ ts act h. (5, (codes "sdiv", exacting Sdiv), lit< tt, refl, (refl, refl, h))), ((λ ts act h. (6, (codes "lshr", exacting Lshr), lit< tt, refl, (refl, refl, h))), ((λ ts act h. (7, (codes "ashr", exacting Ashr), lit< tt, refl, (refl, refl, h))), tt))))))))

value_rows : Each HasRow value_words
value_rows = ((λ ts act h. (13, (codes "icmp", comparing), lit< tt, refl, (refl, refl, h))), ((λ ts act h. (14, (codes "select", selecting), lit< tt, refl, (refl, refl, h))), ((λ ts act h. (15, (codes "trunc", truncating), lit< tt, refl, (refl, refl, h))), ((λ ts act h. (16, (codes "zext", zero_extending), lit< tt, refl, (refl, refl, h))), ((λ ts act h. (17, (codes "sext", sign_extending), lit< tt, refl, (refl, refl, h))), ((λ ts act h. (18, (codes "freeze", freezing), lit< tt, refl, (refl, refl, h))), ((λ ts act h. (19, (codes "phi", joining), lit< tt, refl, (refl, refl, h))), tt)))))))

control_rows : Each HasRow control_words
control_rows = (br_row, (ret_row, ((λ ts act h. (28, (codes "switch", switching), lit< tt, refl, (refl, refl, h))), ((λ ts act h. (31, (codes "unreachable", unreached), lit< tt, refl, (refl, refl, h))), tt))))

bit_rows : Each HasRow bit_words
bit_rows = ((λ ts act h. (8, (codes "urem", simple Urem), lit< tt, refl, (refl, refl, h))), ((λ ts act h. (9, (codes "srem", simple Srem), lit< tt, refl, (refl, refl, h))), ((λ ts act h. (10, (codes "and", simple And), lit< tt, refl, (refl, refl, h))), ((λ ts act h. (11, (codes "xor", simple Xor), lit< tt, refl, (refl, refl, h))), ((λ ts act h. (12, (codes "or", disjoining), lit< tt, refl, (refl, refl, h))), tt)))))

pub operation_found : (text : List ℕ) (operation : Operation) → operation_of text ≡ Some operation → HasRow text operation
unfolding operation_of memory_of arithmetic_of value_of control_of bit_of
operation_found text operation h =
    elim (either (memory_of text) (or_else (arithmetic_of text) (rarer_of text)) operation h) [
      | inl a ↦ lookup_holds HasRow memory_words text operation memory_rows a
      | inr a ↦ elim (either (arithmetic_of text) (rarer_of text) operation a) [
        | inl b ↦ lookup_holds HasRow arithmetic_words text operation arithmetic_rows b
        | inr b ↦ elim (either (value_of text) (or_else (control_of text) (bit_of text)) operation b) [
          | inl c ↦ lookup_holds HasRow value_words text operation value_rows c
          | inr c ↦ elim (either (control_of text) (bit_of text) operation c) [
            | inl d ↦ lookup_holds HasRow control_words text operation control_rows d
            | inr d ↦ lookup_holds HasRow bit_words text operation bit_rows d
          ]
        ]
      ]
    ]

-- ---- what a row reads, the operation of its word reads

pub record Ready (row : List ℕ × Row) : Type 0 where
  pub operation : Operation
  pub is : operation_of row.0 ≡ Some operation
  pub sets : sets_of operation ≡ row.1.sets
  pub ready : is_ready row.1.parts ≡ true
  pub no_colon : read_row row.1 (mark 58 ∷ []) ≡ None
  pub reads : (ts : List Tok) (act : Act) → read_row row.1 ts ≡ Some act → read_operation operation ts ≡ Some act

abbrev pub EachReady : List (List ℕ × Row) → Type 0
EachReady [] = Unit {0}
EachReady (row ∷ others) = Ready row × EachReady others

-- a branch to one block begins with `label`, one to two with a type
going_read : (ts : List Tok) (act : Act) → read_row going ts ≡ Some act → read_operation Br ts ≡ Some act
going_read ts act h =
    let m = row_sound going ts act h in
    let t = m.spelled.2 in
    let is : after_word (codes "label") ts ≡ Some (t.0 ++ m.spelled.1) = ap (after_word (codes "label")) (m.spelled.4 ∙ ap (λ us. us ++ m.spelled.1) t.2) in
    ap (λ o. read_br o ts) is ∙ h

label_is_no_width : width_of (codes "label") ≡ None
unfolding width_of
label_is_no_width = refl

void_is_no_width : width_of (codes "void") ≡ None
unfolding width_of
void_is_no_width = refl

branching_read : (ts : List Tok) (act : Act) → read_row branching ts ≡ Some act → read_operation Br ts ≡ Some act
branching_read ts act h =
    let m = row_sound branching ts act h in
    let t = m.spelled.2 in
    let none : after_word (codes "label") ts ≡ None =
    ap (after_word (codes "label")) (m.spelled.4 ∙ ap (λ us. us ++ m.spelled.1) t.4 ∙ append_assoc t.0 t.1 m.spelled.1)
    ∙ no_word (codes "label") label_is_no_width refl (integer 1) t.0 (t.1 ++ m.spelled.1) t.2.0 in
    ap (λ o. read_br o ts) none ∙ h

nothing_read : (ts : List Tok) (act : Act) → read_row returning_nothing ts ≡ Some act → read_operation Ret ts ≡ Some act
nothing_read ts act h =
    let m = row_sound returning_nothing ts act h in
    let is : after_word (codes "void") ts ≡ Some m.spelled.1 = ap (after_word (codes "void")) (m.spelled.4 ∙ ap (λ us. us ++ m.spelled.1) m.spelled.2) in
    ap (λ o. read_ret o ts) is ∙ h

returning_read : (ts : List Tok) (act : Act) → read_row returning ts ≡ Some act → read_operation Ret ts ≡ Some act
returning_read ts act h =
    let m = row_sound returning ts act h in
    let t = m.spelled.2 in
    let none : after_word (codes "void") ts ≡ None =
    ap (after_word (codes "void")) (m.spelled.4 ∙ ap (λ us. us ++ m.spelled.1) t.4 ∙ append_assoc t.0 t.1 m.spelled.1)
    ∙ no_word (codes "void") void_is_no_width refl m.got.0.0 t.0 (t.1 ++ m.spelled.1) t.2.0 in
    ap (λ o. read_ret o ts) none ∙ h

ready_add : Ready (codes "add", wrapping Add)
unfolding operation_of memory_of arithmetic_of value_of control_of bit_of read_row type_at type_within width_of
ready_add = record { operation = Wrapping Add; is = refl; sets = refl; ready = refl; no_colon = refl; reads = λ ts act h. h }

ready_sub : Ready (codes "sub", wrapping Sub)
unfolding operation_of memory_of arithmetic_of value_of control_of bit_of read_row type_at type_within width_of
ready_sub = record { operation = Wrapping Sub; is = refl; sets = refl; ready = refl; no_colon = refl; reads = λ ts act h. h }

ready_mul : Ready (codes "mul", wrapping Mul)
unfolding operation_of memory_of arithmetic_of value_of control_of bit_of read_row type_at type_within width_of
ready_mul = record { operation = Wrapping Mul; is = refl; sets = refl; ready = refl; no_colon = refl; reads = λ ts act h. h }

ready_shl : Ready (codes "shl", wrapping Shl)
unfolding operation_of memory_of arithmetic_of value_of control_of bit_of read_row type_at type_within width_of
ready_shl = record { operation = Wrapping Shl; is = refl; sets = refl; ready = refl; no_colon = refl; reads = λ ts act h. h }

ready_udiv : Ready (codes "udiv", exacting Udiv)
unfolding operation_of memory_of arithmetic_of value_of control_of bit_of read_row type_at type_within width_of
ready_udiv = record { operation = Exacting Udiv; is = refl; sets = refl; ready = refl; no_colon = refl; reads = λ ts act h. h }

ready_sdiv : Ready (codes "sdiv", exacting Sdiv)
unfolding operation_of memory_of arithmetic_of value_of control_of bit_of read_row type_at type_within width_of
ready_sdiv = record { operation = Exacting Sdiv; is = refl; sets = refl; ready = refl; no_colon = refl; reads = λ ts act h. h }

ready_lshr : Ready (codes "lshr", exacting Lshr)
unfolding operation_of memory_of arithmetic_of value_of control_of bit_of read_row type_at type_within width_of
ready_lshr = record { operation = Exacting Lshr; is = refl; sets = refl; ready = refl; no_colon = refl; reads = λ ts act h. h }

ready_ashr : Ready (codes "ashr", exacting Ashr)
unfolding operation_of memory_of arithmetic_of value_of control_of bit_of read_row type_at type_within width_of
ready_ashr = record { operation = Exacting Ashr; is = refl; sets = refl; ready = refl; no_colon = refl; reads = λ ts act h. h }

ready_urem : Ready (codes "urem", simple Urem)
unfolding operation_of memory_of arithmetic_of value_of control_of bit_of read_row type_at type_within width_of
ready_urem = record { operation = Simple Urem; is = refl; sets = refl; ready = refl; no_colon = refl; reads = λ ts act h. h }

ready_srem : Ready (codes "srem", simple Srem)
unfolding operation_of memory_of arithmetic_of value_of control_of bit_of read_row type_at type_within width_of
ready_srem = record { operation = Simple Srem; is = refl; sets = refl; ready = refl; no_colon = refl; reads = λ ts act h. h }

ready_and : Ready (codes "and", simple And)
unfolding operation_of memory_of arithmetic_of value_of control_of bit_of read_row type_at type_within width_of
ready_and = record { operation = Simple And; is = refl; sets = refl; ready = refl; no_colon = refl; reads = λ ts act h. h }

ready_xor : Ready (codes "xor", simple Xor)
unfolding operation_of memory_of arithmetic_of value_of control_of bit_of read_row type_at type_within width_of
ready_xor = record { operation = Simple Xor; is = refl; sets = refl; ready = refl; no_colon = refl; reads = λ ts act h. h }

ready_or : Ready (codes "or", disjoining)
unfolding operation_of memory_of arithmetic_of value_of control_of bit_of read_row type_at type_within width_of
ready_or = record { operation = Or; is = refl; sets = refl; ready = refl; no_colon = refl; reads = λ ts act h. h }

ready_icmp : Ready (codes "icmp", comparing)
unfolding predicate_of unsigned_of signed_of operation_of memory_of arithmetic_of value_of control_of bit_of read_row type_at type_within width_of
ready_icmp = record { operation = Icmp; is = refl; sets = refl; ready = refl; no_colon = refl; reads = λ ts act h. h }

ready_select : Ready (codes "select", selecting)
unfolding operation_of memory_of arithmetic_of value_of control_of bit_of read_row type_at type_within width_of
ready_select = record { operation = Select; is = refl; sets = refl; ready = refl; no_colon = refl; reads = λ ts act h. h }

ready_trunc : Ready (codes "trunc", truncating)
unfolding operation_of memory_of arithmetic_of value_of control_of bit_of read_row type_at type_within width_of
ready_trunc = record { operation = Trunc; is = refl; sets = refl; ready = refl; no_colon = refl; reads = λ ts act h. h }

ready_zext : Ready (codes "zext", zero_extending)
unfolding operation_of memory_of arithmetic_of value_of control_of bit_of read_row type_at type_within width_of
ready_zext = record { operation = Zext; is = refl; sets = refl; ready = refl; no_colon = refl; reads = λ ts act h. h }

ready_sext : Ready (codes "sext", sign_extending)
unfolding operation_of memory_of arithmetic_of value_of control_of bit_of read_row type_at type_within width_of
ready_sext = record { operation = Sext; is = refl; sets = refl; ready = refl; no_colon = refl; reads = λ ts act h. h }

ready_freeze : Ready (codes "freeze", freezing)
unfolding operation_of memory_of arithmetic_of value_of control_of bit_of read_row type_at type_within width_of
ready_freeze = record { operation = Freeze; is = refl; sets = refl; ready = refl; no_colon = refl; reads = λ ts act h. h }

ready_phi : Ready (codes "phi", joining)
unfolding operation_of memory_of arithmetic_of value_of control_of bit_of read_row type_at type_within width_of
ready_phi = record { operation = Phi; is = refl; sets = refl; ready = refl; no_colon = refl; reads = λ ts act h. h }

ready_alloca : Ready (codes "alloca", reserving)
unfolding operation_of memory_of arithmetic_of value_of control_of bit_of read_row type_at type_within width_of
ready_alloca = record { operation = Alloca; is = refl; sets = refl; ready = refl; no_colon = refl; reads = λ ts act h. h }

ready_load : Ready (codes "load", loading)
unfolding operation_of memory_of arithmetic_of value_of control_of bit_of read_row type_at type_within width_of
ready_load = record { operation = Load; is = refl; sets = refl; ready = refl; no_colon = refl; reads = λ ts act h. h }

ready_store : Ready (codes "store", storing)
unfolding operation_of memory_of arithmetic_of value_of control_of bit_of read_row type_at type_within width_of
ready_store = record { operation = Store; is = refl; sets = refl; ready = refl; no_colon = refl; reads = λ ts act h. h }

ready_getelementptr : Ready (codes "getelementptr", addressing)
unfolding operation_of memory_of arithmetic_of value_of control_of bit_of read_row type_at type_within width_of
ready_getelementptr = record { operation = GetElementPtr; is = refl; sets = refl; ready = refl; no_colon = refl; reads = λ ts act h. h }

ready_call : Ready (codes "call", calling)
unfolding operation_of memory_of arithmetic_of value_of control_of bit_of read_row type_at type_within width_of
ready_call = record { operation = Call; is = refl; sets = refl; ready = refl; no_colon = refl; reads = λ ts act h. h }

ready_extractvalue : Ready (codes "extractvalue", extracting)
unfolding operation_of memory_of arithmetic_of value_of control_of bit_of read_row type_at type_within width_of
ready_extractvalue = record { operation = ExtractValue; is = refl; sets = refl; ready = refl; no_colon = refl; reads = λ ts act h. h }

ready_going : Ready (codes "br", going)
unfolding operation_of memory_of arithmetic_of value_of control_of bit_of read_row type_at type_within width_of
ready_going = record { operation = Br; is = refl; sets = refl; ready = refl; no_colon = refl; reads = going_read }

ready_branching : Ready (codes "br", branching)
unfolding operation_of memory_of arithmetic_of value_of control_of bit_of read_row type_at type_within width_of
ready_branching = record { operation = Br; is = refl; sets = refl; ready = refl; no_colon = refl; reads = branching_read }

ready_switch : Ready (codes "switch", switching)
unfolding operation_of memory_of arithmetic_of value_of control_of bit_of read_row type_at type_within width_of
ready_switch = record { operation = Switch; is = refl; sets = refl; ready = refl; no_colon = refl; reads = λ ts act h. h }

ready_returning_nothing : Ready (codes "ret", returning_nothing)
unfolding operation_of memory_of arithmetic_of value_of control_of bit_of read_row type_at type_within width_of
ready_returning_nothing = record { operation = Ret; is = refl; sets = refl; ready = refl; no_colon = refl; reads = nothing_read }

ready_returning : Ready (codes "ret", returning)
unfolding operation_of memory_of arithmetic_of value_of control_of bit_of read_row type_at type_within width_of
ready_returning = record { operation = Ret; is = refl; sets = refl; ready = refl; no_colon = refl; reads = returning_read }

ready_unreachable : Ready (codes "unreachable", unreached)
unfolding operation_of memory_of arithmetic_of value_of control_of bit_of read_row type_at type_within width_of
ready_unreachable = record { operation = Unreachable; is = refl; sets = refl; ready = refl; no_colon = refl; reads = λ ts act h. h }

pub all_ready : EachReady rows
all_ready = (ready_add, (ready_sub, (ready_mul, (ready_shl, (ready_udiv, (ready_sdiv, (ready_lshr, (ready_ashr, (ready_urem, (ready_srem, (ready_and, (ready_xor, (ready_or, (ready_icmp, (ready_select, (ready_trunc, (ready_zext, (ready_sext, (ready_freeze, (ready_phi, (ready_alloca, (ready_load, (ready_store, (ready_getelementptr, (ready_call, (ready_extractvalue, (ready_going, (ready_branching, (ready_switch, (ready_returning_nothing, (ready_returning, (ready_unreachable, tt))))))))))))))))))))))))))))))))
