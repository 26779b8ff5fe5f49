-- The productions of a body, in one table: the word of the operation, the parts behind it, and the instruction that they make. A row
-- makes none where its notes are broken.
use Rattle.std.specs.Prelude.{◌≡◌, ℕ, Bool, true, false, not, ◌&&◌, ◌||◌, nat_lt, nat_le, Option, Some, None, if◌then◌else◌, List, [], ◌∷◌, ◌++◌, codes, Any}
use Rattle.ir_ast.specs.Plain.{Ty, nothing, integer, pointer, form}
use Rattle.ir_ast.specs.Program.{Act, binary, compare, select, convert, freeze, phi, slot, load, store, offset, call, extract, goto, branch, switch, give, unreachable}
use Rattle.ir_ast.specs.declared.instr.BinaryKind.{BinaryKind}
use Rattle.ir_ast.specs.declared.instr.BinaryKind.TheVariants.{Add, Sub, Mul, Shl, Udiv, Sdiv, Lshr, Ashr, Urem, Srem, And, Xor, Or}
use Rattle.ir_ast.specs.declared.instr.Predicate.{Predicate}
use Rattle.ir_ast.specs.declared.instr.Predicate.TheVariants.{Sgt, Sge, Slt, Sle}
use Rattle.ir_ast.specs.declared.instr.ConvertKind.TheVariants.{Trunc, Zext, Sext}
use Rattle.ir_lex.specs.Tok.{Tok, word, mark, IsLocal}
use Rattle.ir_lex.specs.ValueSpelling.{no_flags, offset_flags, is_bounded}
use Rattle.ir_lex.specs.Parts.{Part, sign, key, may, width, over, returned, callee, register, predicate, target, part, bit, place, width_value, width_pair, typed, typed_pair, twice, alignment, access, arms, offsets, arguments, choices, AllGot, SpellsAll}

-- ---- the notes

-- `iN` or `ptr`
abbrev pub is_scalar : Ty → Bool
is_scalar (integer w) = true
is_scalar pointer = true
is_scalar _ = false

abbrev pub is_pointer_type : Ty → Bool
is_pointer_type pointer = true
is_pointer_type _ = false

abbrev pub is_signed : Predicate → Bool
is_signed Sgt = true
is_signed Sge = true
is_signed Slt = true
is_signed Sle = true
is_signed _ = false

abbrev pub where_holds : Bool → Act → Option Act
where_holds holds act = if holds then Some act else None

-- ---- the rows

-- whether the item sets a register: it does, it may, it does not
pub data Sets : Type 0 where
  does : Sets
  might : Sets
  never : Sets

pub record Row : Type 0 where
  pub sets : Sets
  pub parts : List Part
  pub build : AllGot parts → Option Act

-- [nuw] [nsw] iN V , V
abbrev pub wrapping : BinaryKind → Row
wrapping kind = record {
  sets = does;
  parts = may (codes "nuw") ∷ may (codes "nsw") ∷ width_pair ∷ [];
  build = λ got. Some (binary kind (record no_flags { nuw = got.0; nsw = got.1.0 }) got.1.1.0.0 got.1.1.0.1 got.1.1.0.2);
}

-- [exact] iN V , V
abbrev pub exacting : BinaryKind → Row
exacting kind = record {
  sets = does;
  parts = may (codes "exact") ∷ width_pair ∷ [];
  build = λ got. Some (binary kind (record no_flags { exact = got.0 }) got.1.0.0 got.1.0.1 got.1.0.2);
}

-- iN V , V
abbrev pub simple : BinaryKind → Row
simple kind = record {
  sets = does;
  parts = width_pair ∷ [];
  build = λ got. Some (binary kind no_flags got.0.0 got.0.1 got.0.2);
}

-- [disjoint] iN V , V
abbrev pub disjoining : Row
disjoining = record {
  sets = does;
  parts = may (codes "disjoint") ∷ width_pair ∷ [];
  build = λ got. Some (binary Or (record no_flags { disjoint = got.0 }) got.1.0.0 got.1.0.1 got.1.0.2);
}

-- [samesign] P T V , V: T is iN or ptr, and for ptr P is none of the four signed ones, and there is no `samesign`
abbrev pub comparing : Row
comparing = record {
  sets = does;
  parts = may (codes "samesign") ∷ predicate ∷ typed_pair ∷ [];
  build = λ got. where_holds (is_scalar got.1.1.0.0 && not (is_pointer_type got.1.1.0.0 && (got.0 || is_signed got.1.0))) (compare got.0 got.1.0 got.1.1.0.0 got.1.1.0.1 got.1.1.0.2);
}

-- i1 V , T V , T V
abbrev pub selecting : Row
selecting = record {
  sets = does;
  parts = bit ∷ sign 44 ∷ twice ∷ [];
  build = λ got. Some (select got.0 got.1.1.0.0 got.1.1.0.1 got.1.1.0.2);
}

-- iN V to iM: narrower, with [nuw] [nsw]; wider, with [nneg]; wider
abbrev pub truncating : Row
truncating = record {
  sets = does;
  parts = may (codes "nuw") ∷ may (codes "nsw") ∷ width_value ∷ key (codes "to") ∷ width ∷ [];
  build = λ got. where_holds (nat_lt got.1.1.1.1.0 got.1.1.0.0) (convert Trunc (record no_flags { nuw = got.0; nsw = got.1.0 }) got.1.1.0.0 got.1.1.1.1.0 got.1.1.0.1);
}

abbrev pub zero_extending : Row
zero_extending = record {
  sets = does;
  parts = may (codes "nneg") ∷ width_value ∷ key (codes "to") ∷ width ∷ [];
  build = λ got. where_holds (nat_lt got.1.0.0 got.1.1.1.0) (convert Zext (record no_flags { nneg = got.0 }) got.1.0.0 got.1.1.1.0 got.1.0.1);
}

abbrev pub sign_extending : Row
sign_extending = record {
  sets = does;
  parts = width_value ∷ key (codes "to") ∷ width ∷ [];
  build = λ got. where_holds (nat_lt got.0.0 got.1.1.0) (convert Sext no_flags got.0.0 got.1.1.0 got.0.1);
}

-- T V
abbrev pub freezing : Row
freezing = record {
  sets = does;
  parts = typed ∷ [];
  build = λ got. Some (freeze got.0.0 got.0.1);
}

-- T [ V , %b ] , ..
abbrev pub joining : Row
joining = record {
  sets = does;
  parts = arms ∷ [];
  build = λ got. Some (phi got.0.0 got.0.1);
}

-- T [, align n]: T is iN or ptr
abbrev pub reserving : Row
reserving = record {
  sets = does;
  parts = over ∷ alignment ∷ [];
  build = λ got. where_holds (is_scalar got.0) (slot got.0 got.1.0);
}

-- T , ptr V [, align n] [, !range !N]
abbrev pub loading : Row
loading = record {
  sets = does;
  parts = over ∷ sign 44 ∷ place ∷ access ∷ [];
  build = λ got. Some (load got.0 got.1.1.0 got.1.1.1.0.0 got.1.1.1.0.1);
}

-- T V , ptr V [, align n]
abbrev pub storing : Row
storing = record {
  sets = never;
  parts = typed ∷ sign 44 ∷ place ∷ alignment ∷ [];
  build = λ got. Some (store got.0.0 got.0.1 got.1.1.0 got.1.1.1.0);
}

-- [inbounds [nuw]] T , ptr V , iN V , ..
abbrev pub addressing : Row
addressing = record {
  sets = does;
  parts = may (codes "inbounds") ∷ may (codes "nuw") ∷ over ∷ sign 44 ∷ place ∷ offsets ∷ [];
  build = λ got. where_holds (is_bounded got.0 got.1.0) (offset (form (offset_flags got.0 got.1.0) got.1.1.0 got.1.1.1.1.0 got.1.1.1.1.1.0));
}

-- R @NAME ( T V , .. )
abbrev pub calling : Row
calling = record {
  sets = might;
  parts = returned ∷ callee ∷ arguments ∷ [];
  build = λ got. Some (call got.0 got.1.0 got.1.1.0);
}

-- { iN , i1 } %y , n: n is 0 or 1
abbrev pub extracting : Row
extracting = record {
  sets = does;
  parts = sign 123 ∷ width ∷ sign 44 ∷ key (codes "i1") ∷ sign 125 ∷ register ∷ sign 44 ∷ part ∷ [];
  build = λ got. where_holds (nat_le got.1.1.1.1.1.1.1.0 1) (extract got.1.0 got.1.1.1.1.1.0 got.1.1.1.1.1.1.1.0);
}

-- L
abbrev pub going : Row
going = record {
  sets = never;
  parts = target ∷ [];
  build = λ got. Some (goto got.0);
}

-- i1 V , L , L
abbrev pub branching : Row
branching = record {
  sets = never;
  parts = bit ∷ sign 44 ∷ target ∷ sign 44 ∷ target ∷ [];
  build = λ got. Some (branch got.0 got.1.1.0 got.1.1.1.1.0);
}

-- iN V , L [ iN number , L .. ]
abbrev pub switching : Row
switching = record {
  sets = never;
  parts = choices ∷ [];
  build = λ got. Some (switch got.0.0 got.0.1 got.0.2 got.0.3);
}

-- void
abbrev pub returning_nothing : Row
returning_nothing = record {
  sets = never;
  parts = key (codes "void") ∷ [];
  build = λ got. Some (give nothing None);
}

-- T V
abbrev pub returning : Row
returning = record {
  sets = never;
  parts = typed ∷ [];
  build = λ got. Some (give got.0.0 (Some got.0.1));
}

abbrev pub unreached : Row
unreached = record {
  sets = never;
  parts = [];
  build = λ got. Some unreachable;
}

-- ---- the table

abbrev pub rows : List (List ℕ × Row)
rows =
    (codes "add", wrapping Add) ∷ (codes "sub", wrapping Sub) ∷ (codes "mul", wrapping Mul) ∷ (codes "shl", wrapping Shl)
    ∷ (codes "udiv", exacting Udiv) ∷ (codes "sdiv", exacting Sdiv) ∷ (codes "lshr", exacting Lshr) ∷ (codes "ashr", exacting Ashr)
    ∷ (codes "urem", simple Urem) ∷ (codes "srem", simple Srem) ∷ (codes "and", simple And) ∷ (codes "xor", simple Xor)
    ∷ (codes "or", disjoining)
    ∷ (codes "icmp", comparing)
    ∷ (codes "select", selecting)
    ∷ (codes "trunc", truncating) ∷ (codes "zext", zero_extending) ∷ (codes "sext", sign_extending)
    ∷ (codes "freeze", freezing)
    ∷ (codes "phi", joining)
    ∷ (codes "alloca", reserving)
    ∷ (codes "load", loading)
    ∷ (codes "store", storing)
    ∷ (codes "getelementptr", addressing)
    ∷ (codes "call", calling)
    ∷ (codes "extractvalue", extracting)
    ∷ (codes "br", going) ∷ (codes "br", branching)
    ∷ (codes "switch", switching)
    ∷ (codes "ret", returning_nothing) ∷ (codes "ret", returning) ∷ (codes "unreachable", unreached)
    ∷ []

-- ---- what spells an instruction

-- `%x =`, where there is a register
abbrev pub SpellsSetting : Sets → Option (List ℕ) → List Tok → Type 0
SpellsSetting never None ts = ts ≡ []
SpellsSetting never (Some name) ts = ⊥
SpellsSetting might None ts = ts ≡ []
SpellsSetting might (Some name) ts = (register : List Tok) × IsLocal name register × (ts ≡ register ++ mark 61 ∷ [])
SpellsSetting does None ts = ⊥
SpellsSetting does (Some name) ts = (register : List Tok) × IsLocal name register × (ts ≡ register ++ mark 61 ∷ [])

-- the tokens spell this instruction by this row
abbrev pub SpellsRow : List ℕ × Row → Option (List ℕ) → Act → List Tok → Type 0
SpellsRow row result act ts =
    (setting : List Tok) × (rest : List Tok) × (got : AllGot row.1.parts)
    × SpellsSetting row.1.sets result setting × SpellsAll row.1.parts got rest × (row.1.build got ≡ Some act)
    × (ts ≡ setting ++ word row.0 ∷ rest)

-- the tokens spell this instruction
unfoldable pub SpellsInstr : Option (List ℕ) → Act → List Tok → Type 0
SpellsInstr result act ts = Any (λ row. SpellsRow row result act ts) rows
