-- The bytes of the objects that are read: as many as each object has, each below 256, those of a constant being its initial ones.
use Rattle.std.proofs.Common.{◌≡◌, ◌<◌, ◌≤◌, ℕ, zero, suc, ◌+◌, ◌-◌, ◌*◌, ◌/◌, ◌%◌, ◌^◌, min, Bool, true, false, ◌&&◌, if◌then◌else◌, List, [], ◌∷◌, ◌++◌, length, map, Option, Some, None, Result, Ok, Err, refl, sym, ap, ◌∙◌, subst, append_assoc, append-nil, arith}
use Rattle.std.specs.Prelude.{nat_lt, nat_le, ◌==◌, All, codes, slice_index}
use Rattle.std.specs.List.{range_with_len}
use Rattle.std.specs.Char.{is_ascii_digit}
use Rattle.std.proofs.lemmas.Bool.{ltb-true, ltb-false, leb-true, eqb-true, and_parts}
use Rattle.std.proofs.lemmas.List.{length-append, length-map}
use Rattle.std.proofs.lemmas.List.FromFn.{length-range_with_len}
use Rattle.std.proofs.lemmas.List.Elements.{All-nil, All-cons, All-head, All-tail, All-map, All-append}
use Rattle.ir_ast.specs.Program.{GlobalView}
use Rattle.ir_layout.specs.declared.object.Object.{Object}
use Rattle.spec_tree.specs.Shapes.{IsMemory}
use Rattle.hk_cnf.specs.Text.{natural_of}
use Rattle.hk_rows.specs.Texts.{name_text}
use Rattle.hk_case.specs.Obligations.{IsConstantKept}
use Rattle.hk_cert_lines.specs.declared.reason.CertReason.{CertReason}
use Rattle.hk_cert_lines.specs.declared.reason.CertReason.TheVariants.{Q1, Q2}
use Rattle.hk_cert_lines.specs.Words.{behind}
use Rattle.hk_cert_lines.specs.Blocks.{digits_of, behind_digits, row_front, is_row, is_placed, row_placed, row_with, row_at, hex_value, hex_byte_at, hex_bytes}
use Rattle.hk_cert.specs.Steps.{Place, Reading}
use Rattle.hk_cert.specs.States.{zeros, padded, with_row, at_row, while_front, rows_from, object_at, memory_from}
use Rattle.hk_claims.proofs.Followed.{place, ok_is, guarded, followed, total}

-- ---- the offset and the digits of a row

pub record IsRow (next size : ℕ) (row : ℕ × List ℕ) : Type 0 where
  pub behind : next ≤ row.0
  pub inside : row.0 < size
  pub digits : length row.1 ≡ 2 * min 16 (size - row.0)

placed_so : (next size : ℕ) (hex : List ℕ) (offset : ℕ) → next ≤ offset → is_placed size offset hex ≡ true → IsRow next size (offset, hex)
placed_so next size hex offset past h =
    let a = and_parts (offset % 16 == 0) (nat_lt offset size && length hex == 2 * min 16 (size - offset)) h in
    let b = and_parts (nat_lt offset size) (length hex == 2 * min 16 (size - offset)) a.1 in
    record { behind = past; inside = ltb-true offset size b.0; digits = eqb-true (length hex) (2 * min 16 (size - offset)) b.1 }

row_placed_was : (next size : ℕ) (hex : List ℕ) (found : Option ℕ) (row : ℕ × List ℕ) → row_placed next size hex found ≡ Ok row → IsRow next size row
row_placed_was next size hex None row h = cc
row_placed_was next size hex (Some offset) row h = inner (nat_lt offset next) (is_placed size offset hex) refl refl h
  where
    inner : (late placed : Bool) → nat_lt offset next ≡ late → is_placed size offset hex ≡ placed → (if late then Err Q1 else (if placed then Ok (offset, hex) else Err Q2)) ≡ Ok row → IsRow next size row
    inner true placed late_is placed_is h = cc
    inner false true late_is placed_is h =
        let is : (offset, hex) ≡ row = cc in
        subst (λ (z : ℕ × List ℕ). IsRow next size z) is (placed_so next size hex offset (ltb-false offset next late_is) placed_is)
    inner false false late_is placed_is h = cc

row_with_was : (next size : ℕ) (offset : List ℕ) (hex : Option (List ℕ)) (row : ℕ × List ℕ) → row_with next size offset hex ≡ Ok row → IsRow next size row
row_with_was next size offset None row h = cc
row_with_was next size offset (Some hex) row h =
    row_placed_was next size hex (natural_of (2 ^ 64 - 1) offset) row (guarded (is_row offset hex) (row_placed next size hex (natural_of (2 ^ 64 - 1) offset)) Q1 row h).1

row_was : (next size : ℕ) (rest : List ℕ) (row : ℕ × List ℕ) → row_at next size rest ≡ Ok row → IsRow next size row
row_was next size rest row h = row_with_was next size (digits_of rest) (behind (codes ": ") (behind_digits rest)) row h

-- ---- bytes

abbrev pub Bytes : List ℕ → Type 0
Bytes bytes = All (λ b. b < 256) bytes

digit_below : (b : ℕ) → hex_value b < 16
digit_below b = inner (is_ascii_digit b) (nat_le 97 b && nat_le b 102) refl refl
  where
    inner : (digit letter : Bool) → is_ascii_digit b ≡ digit → (nat_le 97 b && nat_le b 102) ≡ letter → (if digit then b - 48 else (if letter then b - 87 else 0)) < 16
    inner true letter d l =
        let p = and_parts (nat_le 48 b) (nat_le b 57) d in
        omega (arith, leb-true b 57 p.1)
    inner false true d l =
        let p = and_parts (nat_le 97 b) (nat_le b 102) l in
        omega (arith, leb-true b 102 p.1)
    inner false false d l = omega arith

byte_below : (hex : List ℕ) (k : ℕ) → hex_byte_at hex k < 256
byte_below hex k = omega (arith, digit_below (slice_index hex (2 * k)), digit_below (slice_index hex (2 * k + 1)))

all_below : (hex ks : List ℕ) → All (λ k. hex_byte_at hex k < 256) ks
all_below hex [] = All-nil (λ k. hex_byte_at hex k < 256)
all_below hex (k ∷ ks) = All-cons (λ k. hex_byte_at hex k < 256) k ks (byte_below hex k) (all_below hex ks)

hex_below : (hex : List ℕ) → Bytes (hex_bytes hex)
hex_below hex = All-map (λ b. b < 256) (hex_byte_at hex) (range_with_len 0 (length hex / 2)) (all_below hex (range_with_len 0 (length hex / 2)))

hex_many : (hex : List ℕ) → length (hex_bytes hex) ≡ length hex / 2
hex_many hex = length-map (range_with_len 0 (length hex / 2)) (hex_byte_at hex) ∙ length-range_with_len 0 (length hex / 2)

all_zero : (ks : List ℕ) → All (λ k. 0 < 256) ks
all_zero [] = All-nil (λ k. 0 < 256)
all_zero (k ∷ ks) = All-cons (λ k. 0 < 256) k ks (omega arith) (all_zero ks)

zeros_many : (n : ℕ) → length (zeros n) ≡ n
zeros_many n = length-map (range_with_len 0 n) (λ k. 0) ∙ length-range_with_len 0 n

zeros_below : (n : ℕ) → Bytes (zeros n)
zeros_below n = All-map (λ b. b < 256) (λ k. 0) (range_with_len 0 n) (all_zero (range_with_len 0 n))

padded_many : (n : ℕ) (bytes : List ℕ) → length bytes ≤ n → length (padded n bytes) ≡ n
padded_many n bytes few = omega (arith, length-append bytes (zeros (n - length bytes)), zeros_many (n - length bytes), few)

padded_below : (n : ℕ) (bytes : List ℕ) → Bytes bytes → Bytes (padded n bytes)
padded_below n bytes below = All-append (λ b. b < 256) bytes (zeros (n - length bytes)) below (zeros_below (n - length bytes))

-- bytes within a size
pub record IsFront (size : ℕ) (bytes : List ℕ) : Type 0 where
  pub few : length bytes ≤ size
  pub below : Bytes bytes

row_more : (size : ℕ) (bytes : List ℕ) (row : ℕ × List ℕ) → IsFront size bytes → IsRow (length bytes) size row → IsFront size (with_row bytes row)
row_more size bytes row front is =
    let a = length-append (padded row.0 bytes) (hex_bytes row.1) in
    let b = padded_many row.0 bytes is.behind in
    let c = hex_many row.1 in
    record {
      few = within (length (with_row bytes row)) (length (padded row.0 bytes)) (length (hex_bytes row.1)) row.0 size (length row.1) a b c is.inside is.digits;
      below = All-append (λ b. b < 256) (padded row.0 bytes) (hex_bytes row.1) (padded_below row.0 bytes front.below) (hex_below row.1);
    }
  where
    within : (all front hex offset size digits : ℕ) → all ≡ front + hex → front ≡ offset → hex ≡ digits / 2 → offset < size → digits ≡ 2 * min 16 (size - offset) → all ≤ size
    within all front hex offset size digits a b c inside d = omega arith

pub record Filled (size : ℕ) (y : List ℕ × Place) : Type 0 where
  pub many : length y.0 ≡ size
  pub below : Bytes y.0

row_turn : (size n : ℕ) (bytes : List ℕ) (end : List ℕ × Place) (front : Option (List ℕ)) (next : ℕ × List ℕ → Reading (List ℕ)) (y : List ℕ × Place)
    → Filled size end → ((row : ℕ × List ℕ) → IsRow (length bytes) size row → next row ≡ Ok y → Filled size y)
    → while_front front (Ok end) (λ rest. at_row n (row_at (length bytes) size rest) next) ≡ Ok y → Filled size y
row_turn size n bytes end None next y ends more h = subst (λ (z : List ℕ × Place). Filled size z) (ok_is end y h) ends
row_turn size n bytes end (Some rest) next y ends more h = inner (row_at (length bytes) size rest) refl h
  where
    inner : (r : Result (ℕ × List ℕ) CertReason) → row_at (length bytes) size rest ≡ r → at_row n r next ≡ Ok y → Filled size y
    inner (Ok row) is h = more row (row_was (length bytes) size rest row is) h
    inner (Err reason) is h = cc

rows_were : (shown : List ℕ) (size : ℕ) (bytes : List ℕ) (n : ℕ) (lines : List (List ℕ)) (y : List ℕ × Place) → IsFront size bytes → rows_from shown size bytes n lines ≡ Ok y → Filled size y
rows_were shown size bytes n [] y front h =
    subst (λ (z : List ℕ × Place). Filled size z) (ok_is (padded size bytes, place n []) y h)
    (record { many = padded_many size bytes front.few; below = padded_below size bytes front.below })
rows_were shown size bytes n (line ∷ behind) y front h =
    row_turn size n bytes (padded size bytes, place n (line ∷ behind)) (row_front shown line) (λ row. rows_from shown size (with_row bytes row) (n + 1) behind) y
    (record { many = padded_many size bytes front.few; below = padded_below size bytes front.below })
    (λ row is again. rows_were shown size (with_row bytes row) (n + 1) behind y (row_more size bytes row front is) again) h

kept_turn : (n left : ℕ) (end : List ℕ × Place) (front : Option (List ℕ)) (row : List ℕ → Result (ℕ × List ℕ) CertReason) (next : ℕ × List ℕ → Reading (List ℕ)) (y : List ℕ × Place)
    → total end.1 ≡ n + left → ((r : ℕ × List ℕ) → next r ≡ Ok y → total y.1 ≡ n + left) → while_front front (Ok end) (λ rest. at_row n (row rest) next) ≡ Ok y → total y.1 ≡ n + left
kept_turn n left end None row next y ends more h = sym (ap (λ (z : List ℕ × Place). total z.1) (ok_is end y h)) ∙ ends
kept_turn n left end (Some rest) row next y ends more h = inner (row rest) h
  where
    inner : (r : Result (ℕ × List ℕ) CertReason) → at_row n r next ≡ Ok y → total y.1 ≡ n + left
    inner (Ok r) h = more r h
    inner (Err reason) h = cc

-- whatever was read before, no line is lost
rows_kept : (shown : List ℕ) (size : ℕ) (bytes : List ℕ) (n : ℕ) (lines : List (List ℕ)) (y : List ℕ × Place) → rows_from shown size bytes n lines ≡ Ok y → total y.1 ≡ n + length lines
rows_kept shown size bytes n [] y h = sym (ap (λ (z : List ℕ × Place). total z.1) (ok_is (padded size bytes, place n []) y h))
rows_kept shown size bytes n (line ∷ behind) y h =
    kept_turn n (length (line ∷ behind)) (padded size bytes, place n (line ∷ behind)) (row_front shown line) (row_at (length bytes) size) (λ row. rows_from shown size (with_row bytes row) (n + 1) behind) y refl
    (λ row again. let k = rows_kept shown size (with_row bytes row) (n + 1) behind y again in omega (arith, k)) h

-- ---- an object

pub record Read (initial : List ℕ) (constant : Bool) (p : Place) (y : List ℕ × Place) : Type 0 where
  pub many : length y.0 ≡ length initial
  pub below : Bytes y.0
  pub same : constant ≡ true → y.0 ≡ initial

object_was : (name initial : List ℕ) (constant : Bool) (p : Place) (y : List ℕ × Place) → Bytes initial
    → (if constant then Ok (initial, p) else rows_from name (length initial) [] p.next p.lines) ≡ Ok y → Read initial constant p y
object_was name initial true p y below h =
    subst (λ (z : List ℕ × Place). Read initial true p z) (ok_is (initial, p) y h) (record { many = refl; below = below; same = λ _. refl })
object_was name initial false p y below h =
    let b = rows_were name (length initial) [] p.next p.lines y (record { few = omega arith; below = All-nil (λ b. b < 256) }) h in
    record { many = b.many; below = b.below; same = λ e. cc }

object_kept : (name initial : List ℕ) (constant : Bool) (p : Place) (y : List ℕ × Place) → (if constant then Ok (initial, p) else rows_from name (length initial) [] p.next p.lines) ≡ Ok y → total y.1 ≡ total p
object_kept name initial true p y h = sym (ap (λ (z : List ℕ × Place). total z.1) (ok_is (initial, p) y h))
object_kept name initial false p y h = rows_kept name (length initial) [] p.next p.lines y h

-- ---- a memory

-- what is known of the objects of these globals
pub record AreThose (globals : List (List ℕ × GlobalView)) (objects : List Object) : Type 0 where
  pub constants : map (λ o. o.constant) objects ≡ map (λ g. g.1.constant) globals
  pub sizes : map (λ o. length o.bytes) objects ≡ map (λ o. o.size) objects
  pub bytes : All Bytes (map (λ o. o.bytes) objects)

pub record Memories (memory : List (List ℕ)) (objects : List Object) (p : Place) (y : List (List ℕ) × Place) : Type 0 where
  pub news : List (List ℕ)
  pub are : y.0 ≡ memory ++ news
  pub sizes : IsMemory (map (λ o. o.size) objects) news
  pub constants : IsConstantKept objects news

kept_more : (o : Object) (objects : List Object) (bytes : List ℕ) (memory : List (List ℕ)) → (o.constant ≡ true → bytes ≡ o.bytes) → IsConstantKept objects memory → IsConstantKept (o ∷ objects) (bytes ∷ memory)
kept_more o objects bytes memory here more zero x found constant =
    let is : o ≡ x = cc in
    ap Some (here (ap (λ (z : Object). z.constant) is ∙ constant) ∙ ap (λ (z : Object). z.bytes) is)
kept_more o objects bytes memory here more (suc k) x found constant = more k x found constant

pub memory_was : (memory : List (List ℕ)) (globals : List (List ℕ × GlobalView)) (objects : List Object) (p : Place) (y : List (List ℕ) × Place) → AreThose globals objects
    → memory_from memory globals (map (λ o. o.bytes) objects) p ≡ Ok y → Memories memory objects p y
memory_was memory [] [] p y those h =
    subst (λ (z : List (List ℕ) × Place). Memories memory [] p z) (ok_is (memory, p) y h)
    (record { news = []; are = sym (append-nil memory); sizes = refl; constants = λ k o found _. cc })
memory_was memory [] (o ∷ objects) p y those h =
    let e : o.constant ∷ map (λ x. x.constant) objects ≡ [] = those.constants in
    cc
memory_was memory (g ∷ globals) [] p y those h =
    let e : [] ≡ g.1.constant ∷ map (λ x. x.1.constant) globals = those.constants in
    cc
memory_was memory (g ∷ globals) (o ∷ objects) p y those h =
    let c : o.constant ∷ map (λ x. x.constant) objects ≡ g.1.constant ∷ map (λ x. x.1.constant) globals = those.constants in
    let s : length o.bytes ∷ map (λ x. length x.bytes) objects ≡ o.size ∷ map (λ x. x.size) objects = those.sizes in
    let c_head : o.constant ≡ g.1.constant = cc in
    let c_tail : map (λ x. x.constant) objects ≡ map (λ x. x.1.constant) globals = cc in
    let s_head : length o.bytes ≡ o.size = cc in
    let s_tail : map (λ x. length x.bytes) objects ≡ map (λ x. x.size) objects = cc in
    let f = followed (object_at g.1 o.bytes p) (λ object q. memory_from (memory ++ object ∷ []) globals (map (λ x. x.bytes) objects) q) y h in
    let one = object_was (name_text g.1.name) o.bytes g.1.constant p f.before (All-head Bytes o.bytes (map (λ x. x.bytes) objects) those.bytes) f.first in
    let rest = memory_was (memory ++ f.before.0 ∷ []) globals objects f.before.1 y
    (record { constants = c_tail; sizes = s_tail; bytes = All-tail Bytes o.bytes (map (λ x. x.bytes) objects) those.bytes }) f.after in
    record {
      news = f.before.0 ∷ rest.news;
      are = rest.are ∙ append_assoc memory (f.before.0 ∷ []) rest.news;
      sizes = ((one.many ∙ s_head, one.below), rest.sizes);
      constants = kept_more o objects f.before.0 rest.news (λ e. one.same (sym c_head ∙ e)) rest.constants;
    }

pub memory_kept : (memory : List (List ℕ)) (globals : List (List ℕ × GlobalView)) (initial : List (List ℕ)) (p : Place) (y : List (List ℕ) × Place) → memory_from memory globals initial p ≡ Ok y → total y.1 ≡ total p
memory_kept memory [] initial p y h = sym (ap (λ (z : List (List ℕ) × Place). total z.1) (ok_is (memory, p) y h))
memory_kept memory (g ∷ globals) [] p y h = sym (ap (λ (z : List (List ℕ) × Place). total z.1) (ok_is (memory, p) y h))
memory_kept memory (g ∷ globals) (bytes ∷ initial) p y h =
    let f = followed (object_at g.1 bytes p) (λ object q. memory_from (memory ++ object ∷ []) globals initial q) y h in
    let one : total f.before.1 ≡ total p = object_kept (name_text g.1.name) bytes g.1.constant p f.before f.first in
    let rest : total y.1 ≡ total f.before.1 = memory_kept (memory ++ f.before.0 ∷ []) globals initial f.before.1 y f.after in
    rest ∙ one
