-- What the rows of the productions give: an instruction keeps the notes of its production, and sets a register where its row says so.
use Rattle.std.proofs.Common.{◌≡◌, ◌≤◌, ◌<◌, ◌+◌, ◌-◌, ◌*◌, ℕ, zero, suc, Bool, true, false, ◌&&◌, ◌||◌, ◌==◌, not, nat_le, nat_lt, codes, if◌then◌else◌, Option, Some, None, is_some, unwrap_or, drop, List, [], ◌∷◌, length, slice_index_or, refl, sym, ap, subst, ◌∙◌, arith}
use Rattle.std.specs.Bool.{beq}
use Rattle.std.specs.Char.{is_ascii_digit}
use Rattle.std.proofs.lemmas.Bool.{leb-true, le-leb, eqb-true, eqb-false}
use Rattle.ir_ast.specs.Plain.{Ty, nothing, integer, pointer, array, structure, packed, named, opaque, Val}
use Rattle.ir_ast.specs.Program.{Act, InstrView}
use Rattle.ir_ast.specs.declared.instr.BinaryKind.{BinaryKind}
use Rattle.ir_ast.specs.declared.instr.BinaryKind.TheVariants.{Add, Sub, Mul, Shl, Udiv, Sdiv, Lshr, Ashr, Urem, Srem, And, Xor}
use Rattle.ir_ast.specs.declared.instr.Predicate.TheVariants.{Eq, Ne, Ugt, Uge, Ult, Ule, Sgt, Sge, Slt, Sle}
use Rattle.ir_ast.specs.declared.instr.Predicate.{Predicate}
use Rattle.ir_lex.specs.Bytes.{begins_with}
use Rattle.ir_lex.specs.Drop.{are_digits}
use Rattle.ir_lex.specs.Decimal.{digits_from, digits_value, are_some_digits, width_of}
use Rattle.ir_lex.specs.Tok.{Tok}
use Rattle.ir_lex.specs.TypeSpelling.{Spells}
use Rattle.ir_lex.specs.Parts.{SpellsTyped, SpellsPair}
use Rattle.ir_lex.specs.ValueSpelling.{is_bounded}
use Rattle.ir_lex.specs.Rows as rows
use Rattle.ir_lex.specs.Rows.{Row, Sets, does, might, never, SpellsSetting, SpellsRow, SpellsInstr, where_holds}
use Rattle.ir_type.specs.Shape.{keeps_notes, sets_its_own, is_width, is_signed}
use Rattle.ir_type.specs.Whole.{is_scalar, is_pointer, is_void}

abbrev pub instr : ℕ → Option (List ℕ) → Act → InstrView
instr line result act = record { line = line; result = result; act = act }

abbrev pub IsKept : ℕ → Option (List ℕ) → Act → Type 0
IsKept line result act = (keeps_notes act && sets_its_own (instr line result act)) ≡ true

-- ---- truth values and options

both : (a b : Bool) → a ≡ true → b ≡ true → (a && b) ≡ true
both true true p q = refl
both true false p q = q
both false b p q = p

split : (a b : Bool) → (a && b) ≡ true → (a ≡ true) × (b ≡ true)
split true b h = (refl, h)
split false b h = search h

some_is : {A : Type 0} {a b : A} → ◌≡◌ {A = Option A} (Some a) (Some b) → a ≡ b
some_is {A} {a} h = ap (λ o. unwrap_or o a) h

chosen : {A : Type 0} (b : Bool) (x y : A) → ◌≡◌ {A = Option A} (if b then Some x else None) (Some y) → (b ≡ true) × (x ≡ y)
chosen true x y h = (refl, some_is h)
chosen false x y h = search h

no : false ≡ true → ⊥
no e = cc

-- ---- widths

at_least : (before : ℕ) (ds : List ℕ) → before ≤ digits_from before ds
at_least before [] = omega arith
at_least before (d ∷ ds) = let rest = at_least (before * 10 + (d - 48)) ds in omega (arith, rest)

digit_from : (d : ℕ) → is_ascii_digit d ≡ true → (d == 48) ≡ false → 1 ≤ d - 48
digit_from d digit differs =
    let range = leb-true 48 d (split (nat_le 48 d) (nat_le d 57) digit).0 in
    let apart = eqb-false d 48 differs in
    grind (arith, range, apart)

first_digit : (ds : List ℕ) → are_some_digits ds ≡ true → begins_with 48 ds ≡ false → 1 ≤ digits_value ds
first_digit [] some differs = absurd (no some)
first_digit (d ∷ ds) some differs = by (is_ascii_digit d) refl some
  where
    by : (b : Bool) → is_ascii_digit d ≡ b → are_digits (d ∷ ds) ≡ true → 1 ≤ digits_value (d ∷ ds)
    by true digit some = let first = digit_from d digit differs in let more = at_least (0 * 10 + (d - 48)) ds in omega (arith, first, more)
    by false digit some = absurd (empty (rw digit at some))
      where
        empty : (0 == suc (length ds)) ≡ true → ⊥
        empty e = let same = eqb-true 0 (suc (length ds)) e in omega (arith, same)

-- the width of a spelled integer
width_is : (w : ℕ) (ts : List Tok) → Spells (integer w) ts → is_width w ≡ true
unfolding width_of
width_is w ts (text, known, at) =
    let c = chosen (begins_with 105 text && are_some_digits (drop 1 text) && not (begins_with 48 (drop 1 text)) && nat_le (digits_value (drop 1 text)) 64) (digits_value (drop 1 text)) w known in
    let ds = drop 1 text in
    let first = split (begins_with 105 text && are_some_digits ds && not (begins_with 48 ds)) (nat_le (digits_value ds) 64) c.0 in
    let second = split (begins_with 105 text && are_some_digits ds) (not (begins_with 48 ds)) first.0 in
    let third = split (begins_with 105 text) (are_some_digits ds) second.0 in
    let some = first_digit ds third.1 (un_not (begins_with 48 ds) second.1) in
    subst (λ n. is_width n ≡ true) c.1 (both (nat_le 1 (digits_value ds)) (nat_le (digits_value ds) 64) (le-leb 1 (digits_value ds) some) first.1)
  where
    un_not : (b : Bool) → not b ≡ true → b ≡ false
    un_not true h = sym h
    un_not false h = refl

-- ---- registers

own_does : (result : Option (List ℕ)) (ts : List Tok) → SpellsSetting does result ts → beq (is_some result) true ≡ true
own_does None ts s = absurd s
own_does (Some name) ts s = refl

own_never : (result : Option (List ℕ)) (ts : List Tok) → SpellsSetting never result ts → beq (is_some result) false ≡ true
own_never None ts s = refl
own_never (Some name) ts s = absurd s

-- ---- rows

abbrev pub IsGood : List ℕ × Row → Type 0
IsGood row = (line : ℕ) (result : Option (List ℕ)) (act : Act) (ts : List Tok) → SpellsRow row result act ts → IsKept line result act

-- the width of a pair and of one operand
pair_width : (w : ℕ) (a b : Val) (ts : List Tok) → SpellsPair (integer w) a b ts → is_width w ≡ true
pair_width w a b ts s = width_is w s.2.0 s.2.2.0

typed_width : (w : ℕ) (v : Val) (ts : List Tok) → SpellsTyped (integer w) v ts → is_width w ≡ true
typed_width w v ts s = width_is w s.0 s.2.0

-- a row that sets a register, and one that sets none
kept_does : (line : ℕ) (result : Option (List ℕ)) (act made : Act) (notes : Bool) (ts : List Tok) → ◌≡◌ {A = Option Act} (Some made) (Some act) → SpellsSetting does result ts
    → notes ≡ true → ((notes && beq (is_some result) true) ≡ true → IsKept line result made) → IsKept line result act
kept_does line result act made notes ts built s kept whole = subst (IsKept line result) (some_is built) (whole (both notes (beq (is_some result) true) kept (own_does result ts s)))

kept_never : (line : ℕ) (result : Option (List ℕ)) (act made : Act) (notes : Bool) (ts : List Tok) → ◌≡◌ {A = Option Act} (Some made) (Some act) → SpellsSetting never result ts
    → notes ≡ true → ((notes && beq (is_some result) false) ≡ true → IsKept line result made) → IsKept line result act
kept_never line result act made notes ts built s kept whole = subst (IsKept line result) (some_is built) (whole (both notes (beq (is_some result) false) kept (own_never result ts s)))

where_is : (holds : Bool) (made act : Act) → where_holds holds made ≡ Some act → (holds ≡ true) × (made ≡ act)
where_is holds made act h = chosen holds made act h

wrapping : (text : List ℕ) (kind : BinaryKind) → IsGood (text, rows.wrapping kind)
wrapping text kind line result act ts (setting, rest, got, s, spelled, built, parts) =
    kept_does line result act _ (is_width got.1.1.0.0) setting built s (pair_width _ _ _ _ spelled.3.3.2) (λ h. h)

exacting : (text : List ℕ) (kind : BinaryKind) → IsGood (text, rows.exacting kind)
exacting text kind line result act ts (setting, rest, got, s, spelled, built, parts) =
    kept_does line result act _ (is_width got.1.0.0) setting built s (pair_width _ _ _ _ spelled.3.2) (λ h. h)

simple : (text : List ℕ) (kind : BinaryKind) → IsGood (text, rows.simple kind)
simple text kind line result act ts (setting, rest, got, s, spelled, built, parts) =
    kept_does line result act _ (is_width got.0.0) setting built s (pair_width _ _ _ _ spelled.2) (λ h. h)

disjoining : (text : List ℕ) → IsGood (text, rows.disjoining)
disjoining text line result act ts (setting, rest, got, s, spelled, built, parts) =
    kept_does line result act _ (is_width got.1.0.0) setting built s (pair_width _ _ _ _ spelled.3.2) (λ h. h)

-- the tests of the rows are those of the notes
scalar_same : (t : Ty) → rows.is_scalar t ≡ is_scalar t
scalar_same nothing = refl
scalar_same (integer w) = refl
scalar_same pointer = refl
scalar_same (array n t) = refl
scalar_same (structure ts) = refl
scalar_same (packed ts) = refl
scalar_same (named x) = refl
scalar_same opaque = refl

pointer_same : (t : Ty) → rows.is_pointer_type t ≡ is_pointer t
pointer_same nothing = refl
pointer_same (integer w) = refl
pointer_same pointer = refl
pointer_same (array n t) = refl
pointer_same (structure ts) = refl
pointer_same (packed ts) = refl
pointer_same (named x) = refl
pointer_same opaque = refl

signed_same : (p : Predicate) → rows.is_signed p ≡ is_signed p
signed_same Eq = refl
signed_same Ne = refl
signed_same Ugt = refl
signed_same Uge = refl
signed_same Ult = refl
signed_same Ule = refl
signed_same Sgt = refl
signed_same Sge = refl
signed_same Slt = refl
signed_same Sle = refl

comparing : (text : List ℕ) → IsGood (text, rows.comparing)
comparing text line result act ts (setting, rest, got, s, spelled, built, parts) =
    let t = got.1.1.0.0 in
    let w = where_is (rows.is_scalar t && not (rows.is_pointer_type t && (got.0 || rows.is_signed got.1.0))) _ act built in
    let notes : (is_scalar t && not (is_pointer t && (got.0 || is_signed got.1.0))) ≡ true =
    sym (λ i. scalar_same t i && not (pointer_same t i && (got.0 || signed_same got.1.0 i))) ∙ w.0 in
    kept_does line result act _ (is_scalar t && not (is_pointer t && (got.0 || is_signed got.1.0))) setting (ap Some w.1) s notes (λ h. h)

selecting : (text : List ℕ) → IsGood (text, rows.selecting)
selecting text line result act ts (setting, rest, got, s, spelled, built, parts) = kept_does line result act _ true setting built s refl (λ h. h)

truncating : (text : List ℕ) → IsGood (text, rows.truncating)
truncating text line result act ts (setting, rest, got, s, spelled, built, parts) =
    let from = got.1.1.0.0 in
    let to = got.1.1.1.1.0 in
    let w = where_is (nat_lt to from) _ act built in
    let widths = both (is_width from) (is_width to) (typed_width _ _ _ spelled.3.3.2) (width_is _ _ spelled.3.3.3.3.2.0) in
    kept_does line result act _ ((is_width from && is_width to) && nat_lt to from) setting (ap Some w.1) s
    (both (is_width from && is_width to) (nat_lt to from) widths w.0) (λ h. h)

zero_extending : (text : List ℕ) → IsGood (text, rows.zero_extending)
zero_extending text line result act ts (setting, rest, got, s, spelled, built, parts) =
    let from = got.1.0.0 in
    let to = got.1.1.1.0 in
    let w = where_is (nat_lt from to) _ act built in
    let widths = both (is_width from) (is_width to) (typed_width _ _ _ spelled.3.2) (width_is _ _ spelled.3.3.3.2.0) in
    kept_does line result act _ ((is_width from && is_width to) && nat_lt from to) setting (ap Some w.1) s
    (both (is_width from && is_width to) (nat_lt from to) widths w.0) (λ h. h)

sign_extending : (text : List ℕ) → IsGood (text, rows.sign_extending)
sign_extending text line result act ts (setting, rest, got, s, spelled, built, parts) =
    let from = got.0.0 in
    let to = got.1.1.0 in
    let w = where_is (nat_lt from to) _ act built in
    let widths = both (is_width from) (is_width to) (typed_width _ _ _ spelled.2) (width_is _ _ spelled.3.3.2.0) in
    kept_does line result act _ ((is_width from && is_width to) && nat_lt from to) setting (ap Some w.1) s
    (both (is_width from && is_width to) (nat_lt from to) widths w.0) (λ h. h)

freezing : (text : List ℕ) → IsGood (text, rows.freezing)
freezing text line result act ts (setting, rest, got, s, spelled, built, parts) = kept_does line result act _ true setting built s refl (λ h. h)

joining : (text : List ℕ) → IsGood (text, rows.joining)
joining text line result act ts (setting, rest, got, s, spelled, built, parts) = kept_does line result act _ true setting built s refl (λ h. h)

reserving : (text : List ℕ) → IsGood (text, rows.reserving)
reserving text line result act ts (setting, rest, got, s, spelled, built, parts) =
    let w = where_is (rows.is_scalar got.0) _ act built in
    kept_does line result act _ (is_scalar got.0) setting (ap Some w.1) s (sym (scalar_same got.0) ∙ w.0) (λ h. h)

loading : (text : List ℕ) → IsGood (text, rows.loading)
loading text line result act ts (setting, rest, got, s, spelled, built, parts) = kept_does line result act _ true setting built s refl (λ h. h)

storing : (text : List ℕ) → IsGood (text, rows.storing)
storing text line result act ts (setting, rest, got, s, spelled, built, parts) = kept_never line result act _ true setting built s refl (λ h. h)

addressing : (text : List ℕ) → IsGood (text, rows.addressing)
addressing text line result act ts (setting, rest, got, s, spelled, built, parts) =
    let w = where_is (is_bounded got.0 got.1.0) _ act built in
    kept_does line result act _ true setting (ap Some w.1) s refl (λ h. h)

calling : (text : List ℕ) → IsGood (text, rows.calling)
calling text line result act ts (setting, rest, got, s, spelled, built, parts) = subst (IsKept line result) (some_is built) refl

extracting : (text : List ℕ) → IsGood (text, rows.extracting)
extracting text line result act ts (setting, rest, got, s, spelled, built, parts) =
    let w = where_is (nat_le got.1.1.1.1.1.1.1.0 1) _ act built in
    kept_does line result act _ (is_width got.1.0 && nat_le got.1.1.1.1.1.1.1.0 1) setting (ap Some w.1) s
    (both (is_width got.1.0) (nat_le got.1.1.1.1.1.1.1.0 1) (width_is _ _ spelled.3.2.0) w.0) (λ h. h)

going : (text : List ℕ) → IsGood (text, rows.going)
going text line result act ts (setting, rest, got, s, spelled, built, parts) = kept_never line result act _ true setting built s refl (λ h. h)

branching : (text : List ℕ) → IsGood (text, rows.branching)
branching text line result act ts (setting, rest, got, s, spelled, built, parts) = kept_never line result act _ true setting built s refl (λ h. h)

switching : (text : List ℕ) → IsGood (text, rows.switching)
switching text line result act ts (setting, rest, got, s, spelled, built, parts) =
    kept_never line result act _ (is_width got.0.0) setting built s (typed_width _ _ _ spelled.2.3) (λ h. h)

returning_nothing : (text : List ℕ) → IsGood (text, rows.returning_nothing)
returning_nothing text line result act ts (setting, rest, got, s, spelled, built, parts) = kept_never line result act _ true setting built s refl (λ h. h)

or_true : (b : Bool) → (b || true) ≡ true
or_true true = refl
or_true false = refl

returning : (text : List ℕ) → IsGood (text, rows.returning)
returning text line result act ts (setting, rest, got, s, spelled, built, parts) =
    kept_never line result act _ (is_void got.0.0 || true) setting built s (or_true (is_void got.0.0)) (λ h. h)

unreached : (text : List ℕ) → IsGood (text, rows.unreached)
unreached text line result act ts (setting, rest, got, s, spelled, built, parts) = kept_never line result act _ true setting built s refl (λ h. h)

-- ---- the table

abbrev EachGood : List (List ℕ × Row) → Type 0
EachGood [] = Unit {0}
EachGood (row ∷ others) = IsGood row × EachGood others

good_at : (xs : List (List ℕ × Row)) (i : ℕ) (x : List ℕ × Row) → EachGood xs → i < length xs → slice_index_or xs i x ≡ x → IsGood x
good_at [] i x each below is = absurd (omega (arith, below))
good_at (y ∷ xs) zero x each below is = subst IsGood is each.0
good_at (y ∷ xs) (suc i) x each below is = good_at xs i x each.1 (omega (arith, below)) is

each_good : EachGood rows.rows
each_good = (
  wrapping (codes "add") Add,
  (
    wrapping (codes "sub") Sub,
    (
      wrapping (codes "mul") Mul,
      (
        wrapping (codes "shl") Shl,
        (
          exacting (codes "udiv") Udiv,
          (
            exacting (codes "sdiv") Sdiv,
            (
              exacting (codes "lshr") Lshr,
              (
                exacting (codes "ashr") Ashr,
                (
                  simple (codes "urem") Urem,
                  (
                    simple (codes "srem") Srem,
                    (
                      simple (codes "and") And,
                      (
                        simple (codes "xor") Xor,
                        (
                          disjoining (codes "or"),
                          (
                            comparing (codes "icmp"),
                            (
                              selecting (codes "select"),
                              (
                                truncating (codes "trunc"),
                                (
                                  zero_extending (codes "zext"),
                                  (
                                    sign_extending (codes "sext"),
                                    (
                                      freezing (codes "freeze"),
                                      (
                                        joining (codes "phi"),
                                        (
                                          reserving (codes "alloca"),
                                          (
                                            loading (codes "load"),
                                            (
                                              storing (codes "store"),
                                              (
                                                addressing (codes "getelementptr"),
                                                (
                                                  calling (codes "call"),
                                                  (
                                                    extracting (codes "extractvalue"),
                                                    (
                                                      going (codes "br"),
                                                      (
                                                        branching (codes "br"),
                                                        (
                                                          switching (codes "switch"),
                                                          (
                                                            returning_nothing (codes "ret"),
                                                            (
                                                              returning (codes "ret"),
                                                              (unreached (codes "unreachable"), tt),
                                                            ),
                                                          ),
                                                        ),
                                                      ),
                                                    ),
                                                  ),
                                                ),
                                              ),
                                            ),
                                          ),
                                        ),
                                      ),
                                    ),
                                  ),
                                ),
                              ),
                            ),
                          ),
                        ),
                      ),
                    ),
                  ),
                ),
              ),
            ),
          ),
        ),
      ),
    ),
  ),
)

-- what is spelled is kept
pub spelled_is_kept : (line : ℕ) (result : Option (List ℕ)) (act : Act) (ts : List Tok) → SpellsInstr result act ts → IsKept line result act
unfolding SpellsInstr
spelled_is_kept line result act ts h = good_at rows.rows h.0 h.1 each_good h.2 h.3 line result act ts h.4
