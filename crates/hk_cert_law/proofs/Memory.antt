-- The objects of a machine state are read back.
use Rattle.std.proofs.Common.{◌≡◌, ℕ, zero, suc, ◌+◌, ◌*◌, ◌^◌, ◌<◌, ◌≤◌, Bool, true, false, cond, eqb, List, [], ◌∷◌, ◌++◌, length, map, drop, Ok, refl, sym, ◌∙◌, ap, subst, arith}
use Rattle.std.proofs.lemmas.Bool.{cond_both}
use Rattle.std.proofs.lemmas.Grind.{div_ceil_times}
use Rattle.std.proofs.lemmas.List.{append_assoc, append-nil}
use Rattle.std.proofs.lemmas.List.Elements.{All-take, All-drop}
use Rattle.std.specs.Prelude.{bytes_eq}
use Rattle.std.specs.Int.{div_ceil}
use Rattle.std.specs.List.{All, IsDistinct, AllByRecursion, enumerate_from, flat_map, list_all, range_with_len}
use Rattle.hk_cnf.specs.Text.{lines_of}
use Rattle.ir_ast.specs.Program.{GlobalView}
use Rattle.ir_layout.specs.Bytes.{object_of}
use Rattle.hk_rows.specs.Texts.{name_text}
use Rattle.hk_rows.specs.Rows.{row_line, row_of, global_text, object_text}
use Rattle.hk_cert_lines.specs.Blocks.{behind_in, row_front}
use Rattle.hk_cert.specs.States.{rows_from, object_at, memory_from}
use Rattle.hk_cert_law.proofs.Digits.{IsByte}
use Rattle.hk_cert_law.proofs.Fronts.{blank_missing}
use Rattle.hk_cert_law.proofs.Rests.{IsNot, line_is_not, outer_is_not}
use Rattle.hk_cert_law.proofs.Rows.{one_row, other_row, rows_walk}
use Rattle.hk_cert_law.proofs.Shown.{is_shown, name_shown}
use Rattle.hk_cert_law.proofs.States.{IsOuter, unequal}
use Rattle.hk_cert_law.proofs.Takes.{Takes, then_takes, none_takes}

-- no row of a global that is shown so stands next
abbrev pub NoRow : List ℕ → List ℕ → Type 0
NoRow shown rest = IsNot (row_front shown) (lines_of rest)

-- bytes of an object: those of a constant are its initial ones
pub record IsKept (g : GlobalView) (initial bytes : List ℕ) : Type 0 where
  pub long : length bytes ≡ length initial
  pub bounded : All IsByte bytes
  pub few : length bytes < 2 ^ 64
  pub constant : g.constant ≡ true → bytes ≡ initial

object_take : (g : GlobalView) (initial bytes : List ℕ) → IsKept g initial bytes → Takes (NoRow (name_text g.name)) (object_text g bytes) (object_at g initial) bytes
object_take g initial bytes h = by g.constant h.constant
  where
    by : (c : Bool) → (c ≡ true → bytes ≡ initial) → Takes (NoRow (name_text g.name)) (cond c [] (global_text g.name bytes)) (λ p. cond c (Ok (initial, p)) (rows_from (name_text g.name) (length initial) [] p.next p.lines)) bytes
    by true same = none_takes (NoRow (name_text g.name)) (λ p. Ok (initial, p)) bytes (λ p. ap (λ l. Ok (l, p)) (sym (same refl)))
    by false same = record {
      takes = λ n rest ahead.
          let bounds = div_ceil_times (length bytes) 16 (omega arith) in
          let most : length bytes ≤ 16 * (0 + div_ceil (length bytes) 16) = omega (arith, bounds.0) in
          let least : 16 * (0 + div_ceil (length bytes) 16) < length bytes + 16 = omega (arith, bounds.1) in
          ap (λ k. rows_from (name_text g.name) k [] n (lines_of (global_text g.name bytes ++ rest))) (sym h.long)
          ∙ rows_walk g.name bytes h.bounded h.few (div_ceil (length bytes) 16) 0 0 n [] rest (record { joined = refl }) most least ahead;
    }

-- the rows of one global are none of another
module _ (other : List ℕ) (spelled : list_all is_shown other ≡ true) where
  rows_not : (name bytes : List ℕ) (small : All IsByte bytes) (few : length bytes < 2 ^ 64) → (other ≡ name_text name → ⊥) → (m k : ℕ) (rest : List ℕ) → 16 * (k + m) < length bytes + 16 → NoRow other rest
      → NoRow other (flat_map (one_row name bytes small few) (range_with_len k m) ++ rest)
  rows_not name bytes small few differ zero k rest least ahead = ahead
  rows_not name bytes small few differ (suc m) k rest least ahead =
      let row = row_of bytes k in
      let others = flat_map (one_row name bytes small few) (range_with_len (k + 1) m) in
      let next = rows_not name bytes small few differ m (k + 1) rest (omega (arith, least)) ahead in
      cond_both (list_all (λ b. eqb b 0) row) [] (row_line name (16 * k) row) (λ text. NoRow other ((text ++ others) ++ rest)) (λ zero_is. next)
      (λ some_is.
      let text = row_line name (16 * k) row in
      let in_range : 16 * k < 2 ^ 64 = omega (arith, least, few) in
      let says = other_row name (16 * k) row in_range (All-take IsByte 16 (drop (16 * k) bytes) (All-drop IsByte (16 * k) bytes small)) other spelled differ in
      subst (NoRow other) (sym (append_assoc text others rest)) (line_is_not text (row_front other) (others ++ rest) says))

  object_not : (g : GlobalView) (initial bytes : List ℕ) → IsKept g initial bytes → (other ≡ name_text g.name → ⊥) → (rest : List ℕ) → NoRow other rest → NoRow other (object_text g bytes ++ rest)
  object_not g initial bytes h differ rest ahead =
      let bounds = div_ceil_times (length bytes) 16 (omega arith) in
      let least : 16 * (0 + div_ceil (length bytes) 16) < length bytes + 16 = omega (arith, bounds.1) in
      cond_both g.constant [] (global_text g.name bytes) (λ text. NoRow other (text ++ rest)) (λ constant. ahead)
      (λ mutable. rows_not g.name bytes h.bounded h.few differ (div_ceil (length bytes) 16) 0 rest least ahead)

  none_outer : (rest : List ℕ) → IsOuter rest → NoRow other rest
  none_outer rest h = outer_is_not (row_front other) rest refl (λ b text e. ap (λ o. behind_in (43 ∷ []) (behind_in other o)) (blank_missing (32 ∷ 64 ∷ []) b text e)) h

-- the bytes of each object
abbrev pub AreKept : List (List ℕ × GlobalView) → List (List ℕ) → List (List ℕ) → Type 0
AreKept [] initial memory = memory ≡ []
AreKept (g ∷ globals) [] memory = ⊥
AreKept (g ∷ globals) (i ∷ initial) [] = ⊥
AreKept (g ∷ globals) (i ∷ initial) (bytes ∷ memory) = IsKept g.1 i bytes × AreKept globals initial memory

abbrev pub shown_names : List (List ℕ × GlobalView) → List (List ℕ)
shown_names globals = map (λ g. name_text g.1.name) globals

-- what stands at a place, and behind it
stands : (memory : List (List ℕ)) (k : ℕ) (bytes : List ℕ) (rest : List (List ℕ)) → drop k memory ≡ bytes ∷ rest → (object_of memory k ≡ bytes) × (drop (k + 1) memory ≡ rest)
stands [] zero bytes rest e = absurd (cc e)
stands [] (suc k) bytes rest e = absurd (cc e)
stands (b ∷ memory) zero bytes rest e = (cc e, cc e)
stands (b ∷ memory) (suc k) bytes rest e =
    let next = stands memory k bytes rest e in
    let more : suc k + 1 ≡ suc (k + 1) = omega arith in
    (next.0, ap (λ n. drop n (b ∷ memory)) more ∙ next.1)

module _ (memory : List (List ℕ)) where
  abbrev pub object_lines : ℕ × (List ℕ × GlobalView) → List ℕ
  object_lines e = object_text e.1.1 (object_of memory e.0)

  objects_not : (other : List ℕ) → list_all is_shown other ≡ true → (globals : List (List ℕ × GlobalView)) (initial left : List (List ℕ)) (k : ℕ) (rest : List ℕ) → AreKept globals initial left → drop k memory ≡ left
      → AllByRecursion (λ y. bytes_eq other y ≡ false) (shown_names globals) → IsOuter rest → NoRow other (flat_map object_lines (enumerate_from k globals) ++ rest)
  objects_not other spelled [] initial left k rest kept is differ outer = none_outer other spelled rest outer
  objects_not other spelled (g ∷ globals) [] left k rest kept is differ outer = absurd kept
  objects_not other spelled (g ∷ globals) (i ∷ initial) [] k rest kept is differ outer = absurd kept
  objects_not other spelled (g ∷ globals) (i ∷ initial) (bytes ∷ left) k rest kept is differ outer =
      let at = stands memory k bytes left is in
      let others = flat_map object_lines (enumerate_from (k + 1) globals) in
      let next = objects_not other spelled globals initial left (k + 1) rest kept.1 at.1 differ.1 outer in
      let here = object_not other spelled g.1 i bytes kept.0 (unequal other (name_text g.1.name) differ.0) (others ++ rest) next in
      subst (NoRow other) (sym (append_assoc (object_lines (k, g)) others rest)) (subst (λ b. NoRow other (object_text g.1 b ++ (others ++ rest))) (sym at.0) here)

  pub memory_take : (globals : List (List ℕ × GlobalView)) (initial left before : List (List ℕ)) (k : ℕ) → AreKept globals initial left → drop k memory ≡ left → IsDistinct bytes_eq (shown_names globals)
      → Takes IsOuter (flat_map object_lines (enumerate_from k globals)) (memory_from before globals initial) (before ++ left)
  unfolding IsDistinct
  memory_take [] initial left before k kept is differ =
      subst (λ l. Takes IsOuter [] (memory_from before [] initial) (before ++ l)) (sym kept)
      (none_takes IsOuter (memory_from before [] initial) (before ++ []) (λ p. ap (λ l. Ok (l, p)) (sym (append-nil before))))
  memory_take (g ∷ globals) [] left before k kept is differ = absurd kept
  memory_take (g ∷ globals) (i ∷ initial) [] before k kept is differ = absurd kept
  memory_take (g ∷ globals) (i ∷ initial) (bytes ∷ left) before k kept is differ =
      let at = stands memory k bytes left is in
      let others = flat_map object_lines (enumerate_from (k + 1) globals) in
      let next = memory_take globals initial left (before ++ bytes ∷ []) (k + 1) kept.1 at.1 differ.1 in
      let first = subst (λ b. Takes (NoRow (name_text g.1.name)) (object_text g.1 b) (object_at g.1 i) bytes) (sym at.0) (object_take g.1 i bytes kept.0) in
      subst (λ l. Takes IsOuter (object_lines (k, g) ++ others) (memory_from before (g ∷ globals) (i ∷ initial)) l) (append_assoc before (bytes ∷ []) left)
      (then_takes (NoRow (name_text g.1.name)) IsOuter (object_lines (k, g)) others (object_at g.1 i) (λ object q. memory_from (before ++ object ∷ []) globals initial q) bytes ((before ++ bytes ∷ []) ++ left)
      first next (λ rest outer. objects_not (name_text g.1.name) (name_shown g.1.name) globals initial left (k + 1) rest kept.1 at.1 differ.0 outer))
