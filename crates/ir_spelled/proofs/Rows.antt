-- What the rows of the productions give: a comparison of integers has a width, and a phi an arm.
use Rattle.std.proofs.Common.{◌≡◌, ◌<◌, ◌++◌, ℕ, zero, suc, Bool, true, false, not, ◌&&◌, ◌||◌, nat_lt, nat_le, codes, if◌then◌else◌, Option, Some, None, List, [], ◌∷◌, length, slice_index_or, refl, sym, ap, subst, ◌∙◌, arith}
use Rattle.std.proofs.lemmas.List.{append-nil}
use Rattle.ir_ast.specs.Plain.{Ty, nothing, integer, pointer, array, structure, packed, named, opaque, Val, form}
use Rattle.ir_ast.specs.Program.{Act, binary, compare, convert, slot, offset, extract, InstrView}
use Rattle.ir_ast.specs.declared.instr.BinaryKind.TheVariants.{Add, Sub, Mul, Shl, Udiv, Sdiv, Lshr, Ashr, Urem, Srem, And, Xor}
use Rattle.ir_ast.specs.declared.instr.ConvertKind.TheVariants.{Trunc, Zext, Sext}
use Rattle.ir_lex.specs.Tok.{Tok, word}
use Rattle.ir_lex.specs.ValueSpelling.{no_flags, offset_flags, is_bounded}
use Rattle.ir_lex.specs.Parts.{AllGot, SpellsPair, SpellsArms}
use Rattle.ir_lex.specs.Rows as rows
use Rattle.ir_lex.specs.Rows.{Row, does, SpellsSetting, SpellsRow, SpellsInstr, where_holds}
use Rattle.ir_read.proofs.Noted.{IsKept, spelled_is_kept}
use Rattle.ir_type.specs.Shape.{is_width, sets_its_own}
use Rattle.ir_typed.specs.Spelled.{has_width, is_some_arm, is_spelled}

-- ---- rows

abbrev IsGood : List ℕ × Row → Type 0
IsGood row = (result : Option (List ℕ)) (act : Act) (ts : List Tok) → SpellsRow row result act ts → is_spelled act ≡ true

-- what a row makes, where it makes something
abbrev fits : Option Act → Bool
fits None = true
fits (Some act) = is_spelled act

tested : (holds : Bool) (act : Act) → is_spelled act ≡ true → fits (where_holds holds act) ≡ true
tested true act is = is
tested false act is = refl

-- whatever its parts stand for
plain : (text : List ℕ) (row : Row) → ((got : AllGot row.parts) → fits (row.build got) ≡ true) → IsGood (text, row)
plain text row all result act ts (setting, rest, got, s, spelled, built, parts) = subst (λ o. fits o ≡ true) built (all got)

-- ---- comparisons

-- operands that are compared spell a remainder too, whose note has the width
remainder_is : (w : ℕ) (a b : Val) (result : Option (List ℕ)) (setting ts : List Tok) → SpellsSetting does result setting → SpellsPair (integer w) a b ts
    → SpellsInstr result (binary Urem no_flags w a b) (setting ++ word (codes "urem") ∷ ts)
unfolding SpellsInstr
remainder_is w a b result setting ts s pair =
    (8, (codes "urem", rows.simple Urem), omega arith, refl, (setting, ts, ((w, a, b), tt), s, (ts, [], pair, refl, sym (append-nil ts)), refl, refl))

first_is : (a b : Bool) → (a && b) ≡ true → a ≡ true
first_is true b h = refl
first_is false b h = search h

compared_width : (w : ℕ) (a b : Val) (result : Option (List ℕ)) (setting ts : List Tok) → SpellsSetting does result setting → SpellsPair (integer w) a b ts → is_width w ≡ true
compared_width w a b result setting ts s pair =
    let it = spelled_is_kept 0 result (binary Urem no_flags w a b) (setting ++ word (codes "urem") ∷ ts) (remainder_is w a b result setting ts s pair) in
    first_is (is_width w) (sets_its_own (record { line = 0; result = result; act = binary Urem no_flags w a b })) it

pair_width : (t : Ty) (a b : Val) (result : Option (List ℕ)) (setting ts : List Tok) → SpellsSetting does result setting → SpellsPair t a b ts → has_width t ≡ true
pair_width nothing a b result setting ts s pair = refl
pair_width (integer w) a b result setting ts s pair = compared_width w a b result setting ts s pair
pair_width pointer a b result setting ts s pair = refl
pair_width (array n t) a b result setting ts s pair = refl
pair_width (structure parts) a b result setting ts s pair = refl
pair_width (packed parts) a b result setting ts s pair = refl
pair_width (named name) a b result setting ts s pair = refl
pair_width opaque a b result setting ts s pair = refl

comparing : (text : List ℕ) → IsGood (text, rows.comparing)
comparing text result act ts (setting, rest, got, s, spelled, built, parts) =
    subst (λ o. fits o ≡ true) built
    (tested (rows.is_scalar got.1.1.0.0 && not (rows.is_pointer_type got.1.1.0.0 && (got.0 || rows.is_signed got.1.0))) (compare got.0 got.1.0 got.1.1.0.0 got.1.1.0.1 got.1.1.0.2) (pair_width got.1.1.0.0 got.1.1.0.1 got.1.1.0.2 result setting _ s spelled.3.3.2))

-- ---- phis

arms_are : (t : Ty) (arms : List (Val × List ℕ)) (ts : List Tok) → SpellsArms t arms ts → is_some_arm arms ≡ true
arms_are t [] ts h = absurd h
arms_are t (arm ∷ others) ts h = refl

joining : (text : List ℕ) → IsGood (text, rows.joining)
joining text result act ts (setting, rest, got, s, spelled, built, parts) = subst (λ o. fits o ≡ true) built (arms_are got.0.0 got.0.1 _ spelled.2.3)

-- ---- the table

abbrev EachGood : List (List ℕ × Row) → Type 0
EachGood [] = Unit {0}
EachGood (row ∷ others) = IsGood row × EachGood others

good_at : (xs : List (List ℕ × Row)) (i : ℕ) (x : List ℕ × Row) → EachGood xs → i < length xs → slice_index_or xs i x ≡ x → IsGood x
good_at [] i x each below is = absurd (omega (arith, below))
good_at (y ∷ xs) zero x each below is = subst IsGood is each.0
good_at (y ∷ xs) (suc i) x each below is = good_at xs i x each.1 (omega (arith, below)) is

each_good : EachGood rows.rows
each_good = (plain (codes "add") (rows.wrapping Add) (λ got. refl), (plain (codes "sub") (rows.wrapping Sub) (λ got. refl), (plain (codes "mul") (rows.wrapping Mul) (λ got. refl), (plain (codes "shl") (rows.wrapping Shl) (λ got. refl), (plain (codes "udiv") (rows.exacting Udiv) (λ got. refl), (plain (codes "sdiv") (rows.exacting Sdiv) (λ got. refl), (plain (codes "lshr") (rows.exacting Lshr) (λ got. refl), (plain (codes "ashr") (rows.exacting Ashr) (λ got. refl), (plain (codes "urem") (rows.simple Urem) (λ got. refl), (plain (codes "srem") (rows.simple Srem) (λ got. refl), (plain (codes "and") (rows.simple And) (λ got. refl), (plain (codes "xor") (rows.simple Xor) (λ got. refl), (plain (codes "or") rows.disjoining (λ got. refl), (comparing (codes "icmp"), (plain (codes "select") rows.selecting (λ got. refl), (plain (codes "trunc") rows.truncating (λ got. tested (nat_lt got.1.1.1.1.0 got.1.1.0.0) (convert Trunc (record no_flags { nuw = got.0; nsw = got.1.0 }) got.1.1.0.0 got.1.1.1.1.0 got.1.1.0.1) refl), (plain (codes "zext") rows.zero_extending (λ got. tested (nat_lt got.1.0.0 got.1.1.1.0) (convert Zext (record no_flags { nneg = got.0 }) got.1.0.0 got.1.1.1.0 got.1.0.1) refl), (plain (codes "sext") rows.sign_extending (λ got. tested (nat_lt got.0.0 got.1.1.0) (convert Sext no_flags got.0.0 got.1.1.0 got.0.1) refl), (plain (codes "freeze") rows.freezing (λ got. refl), (joining (codes "phi"), (plain (codes "alloca") rows.reserving (λ got. tested (rows.is_scalar got.0) (slot got.0 got.1.0) refl), (plain (codes "load") rows.loading (λ got. refl), (plain (codes "store") rows.storing (λ got. refl), (plain (codes "getelementptr") rows.addressing (λ got. tested (is_bounded got.0 got.1.0) (offset (form (offset_flags got.0 got.1.0) got.1.1.0 got.1.1.1.1.0 got.1.1.1.1.1.0)) refl), (plain (codes "call") rows.calling (λ got. refl), (plain (codes "extractvalue") rows.extracting (λ got. tested (nat_le got.1.1.1.1.1.1.1.0 1) (extract got.1.0 got.1.1.1.1.1.0 got.1.1.1.1.1.1.1.0) refl), (plain (codes "br") rows.going (λ got. refl), (plain (codes "br") rows.branching (λ got. refl), (plain (codes "switch") rows.switching (λ got. refl), (plain (codes "ret") rows.returning_nothing (λ got. refl), (plain (codes "ret") rows.returning (λ got. refl), (plain (codes "unreachable") rows.unreached (λ got. refl), tt))))))))))))))))))))))))))))))))

-- what a text spells is spelled
pub instr_is : (result : Option (List ℕ)) (act : Act) (ts : List Tok) → SpellsInstr result act ts → is_spelled act ≡ true
unfolding SpellsInstr
instr_is result act ts h = good_at rows.rows h.0 h.1 each_good h.2 h.3 result act ts h.4
