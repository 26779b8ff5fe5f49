-- The fields of an abstract state are read back.
use Rattle.std.proofs.Common.{◌≡◌, ℕ, ◌+◌, ◌^◌, ◌<◌, ◌≤◌, true, false, eqb, List, [], ◌∷◌, ◌++◌, length, map, Ok, refl, sym, ◌∙◌, ap, subst, arith}
use Rattle.std.proofs.lemmas.Bool.{cond_both}
use Rattle.std.proofs.lemmas.List.{append_assoc, append-nil}
use Rattle.std.proofs.lemmas.List.Elements.{All-head, All-tail}
use Rattle.std.proofs.lemmas.Slice.Eq.{bytes_eq-Decides}
use Rattle.std.specs.Prelude.{bytes_eq}
use Rattle.std.specs.List.{All, IsDistinct, AllByRecursion, enumerate_from, flat_map, zip}
use Rattle.hk_cnf.specs.Text.{lines_of}
use Rattle.spec_tree.specs.Plain.{Field}
use Rattle.spec_tree.specs.Sorted.{IsFieldSort, sort_of, product, key_sizes}
use Rattle.spec_tree.specs.Shapes.{AreEntries, IsState}
use Rattle.spec_tree.specs.Value.{tuple_at}
use Rattle.hk_verdict.specs.Entries.{entry_line, field_text}
use Rattle.hk_cert_lines.specs.Words.{is_name}
use Rattle.hk_cert_lines.specs.Blocks.{behind_in, mark_of, entry_front}
use Rattle.hk_cert.specs.States.{zeros, entries_from, field_at, state_from}
use Rattle.hk_cert_law.proofs.Arguments.{narrow_number}
use Rattle.hk_cert_law.proofs.Entries.{one_text, other_says, positive_by, tuple_numbers, entries_walk}
use Rattle.hk_cert_law.proofs.Fronts.{blank_missing}
use Rattle.hk_cert_law.proofs.Indices.{tuple_long}
use Rattle.hk_cert_law.proofs.Rests.{IsNot, line_is_not, is_outer, outer_is_not}
use Rattle.hk_cert_law.proofs.Takes.{Takes, then_takes, none_takes}

-- no entry of this field stands next
abbrev pub NoEntry : Field → List ℕ → Type 0
NoEntry f rest = IsNot (entry_front f.name f.keys) (lines_of rest)

abbrev pub IsOuter : List ℕ → Type 0
IsOuter rest = is_outer rest ≡ true

field_take : (f : Field) → IsFieldSort (sort_of f) → is_name f.name ≡ true → (entries : List ℕ) → AreEntries (sort_of f) entries → Takes (NoEntry f) (field_text [] f entries) (field_at f) entries
field_take f sort named entries h = record {
  takes = λ n rest ahead.
      ap (λ k. entries_from f (zeros k) 0 n (lines_of (field_text [] f entries ++ rest))) (sym h.0)
      ∙ entries_walk f sort named entries [] 0 0 n rest refl (omega (arith, h.0)) h.1 (omega arith) ahead;
}

pub unequal : (a b : List ℕ) → bytes_eq a b ≡ false → a ≡ b → ⊥
unequal a b differ same = let equal : bytes_eq a b ≡ true = (bytes_eq-Decides a b).1 same in cc

-- the entries of one field are none of another
module _ (f : Field) (spelled : is_name f.name ≡ true) where
  one_not : (g : Field) (sort : IsFieldSort (sort_of g)) (named : is_name g.name ≡ true) → (f.name ≡ g.name → ⊥) → (xs : List ℕ) (place : ℕ) (rest : List ℕ) → place + length xs ≤ product (key_sizes g.keys) → All (λ x. x < 2 ^ g.width) xs
      → NoEntry f rest → NoEntry f (flat_map (one_text g sort named) (enumerate_from place xs) ++ rest)
  one_not g sort named differ [] place rest within small ahead = ahead
  one_not g sort named differ (x ∷ xs) place rest within small ahead =
      let others = flat_map (one_text g sort named) (enumerate_from (place + 1) xs) in
      let next = one_not g sort named differ xs (place + 1) rest (omega (arith, within)) (All-tail (λ x. x < 2 ^ g.width) x xs small) ahead in
      let indices = tuple_at (key_sizes g.keys) place in
      cond_both (eqb x 0) [] (entry_line [] g.name indices x) (λ text. NoEntry f ((text ++ others) ++ rest)) (λ zero_is. next)
      (λ some_is.
      let text = entry_line [] g.name indices x in
      let fits = All-head (λ x. x < 2 ^ g.width) x xs small in
      let inside : place < product (key_sizes g.keys) = omega (arith, within) in
      let numbers = tuple_numbers g.keys g.width place place x sort.wide inside sort.small (omega arith) (positive_by x some_is) fits in
      let says = other_says g.name g.keys named indices (tuple_long g.keys place) numbers x (narrow_number g.width x sort.wide fits) f.name f.keys spelled differ in
      subst (NoEntry f) (sym (append_assoc text others rest)) (line_is_not text (entry_front f.name f.keys) (others ++ rest) says))

  ahead_outer : (rest : List ℕ) → IsOuter rest → NoEntry f rest
  ahead_outer rest h =
      outer_is_not (entry_front f.name f.keys) rest refl (λ b text e. ap (λ o. behind_in (mark_of f.keys) (behind_in f.name o)) (blank_missing (32 ∷ []) b text e)) h

  fields_not : (gs : List Field) (state : List (List ℕ)) (rest : List ℕ) → All (λ g. IsFieldSort (sort_of g)) gs → All (λ g. is_name g.name ≡ true) gs → AllByRecursion (λ y. bytes_eq f.name y ≡ false) (map (λ g. g.name) gs)
      → IsState (map sort_of gs) state → IsOuter rest → NoEntry f (flat_map (λ e. field_text [] e.0 e.1) (zip gs state) ++ rest)
  fields_not [] state rest sorts names differ shape outer = ahead_outer rest outer
  fields_not (g ∷ gs) [] rest sorts names differ shape outer = absurd shape
  fields_not (g ∷ gs) (entries ∷ state) rest sorts names differ shape outer =
      let others = flat_map (λ (e : Field × List ℕ). field_text [] e.0 e.1) (zip gs state) in
      let next = fields_not gs state rest (All-tail (λ g. IsFieldSort (sort_of g)) g gs sorts) (All-tail (λ g. is_name g.name ≡ true) g gs names) differ.1 shape.1 outer in
      subst (NoEntry f) (sym (append_assoc (field_text [] g entries) others rest))
      (one_not g (All-head (λ g. IsFieldSort (sort_of g)) g gs sorts) (All-head (λ g. is_name g.name ≡ true) g gs names) (unequal f.name g.name differ.0) entries 0 (others ++ rest) (omega (arith, shape.0.0)) shape.0.1 next)

pub state_take : (fs : List Field) (state before : List (List ℕ)) → All (λ g. IsFieldSort (sort_of g)) fs → All (λ g. is_name g.name ≡ true) fs → IsDistinct bytes_eq (map (λ g. g.name) fs) → IsState (map sort_of fs) state
    → Takes IsOuter (flat_map (λ e. field_text [] e.0 e.1) (zip fs state)) (state_from before fs) (before ++ state)
unfolding IsDistinct
state_take [] state before sorts names differ shape =
    subst (λ es. Takes IsOuter [] (state_from before []) (before ++ es)) (sym shape)
    (none_takes IsOuter (state_from before []) (before ++ []) (λ p. ap (λ es. Ok (es, p)) (sym (append-nil before))))
state_take (f ∷ fs) [] before sorts names differ shape = absurd shape
state_take (f ∷ fs) (entries ∷ state) before sorts names differ shape =
    let others = flat_map (λ (e : Field × List ℕ). field_text [] e.0 e.1) (zip fs state) in
    let sort = All-head (λ g. IsFieldSort (sort_of g)) f fs sorts in
    let name = All-head (λ g. is_name g.name ≡ true) f fs names in
    let rest_sorts = All-tail (λ g. IsFieldSort (sort_of g)) f fs sorts in
    let rest_names = All-tail (λ g. is_name g.name ≡ true) f fs names in
    let next = state_take fs state (before ++ entries ∷ []) rest_sorts rest_names differ.1 shape.1 in
    subst (λ es. Takes IsOuter (field_text [] f entries ++ others) (state_from before (f ∷ fs)) es) (append_assoc before (entries ∷ []) state)
    (then_takes (NoEntry f) IsOuter (field_text [] f entries) others (field_at f) (λ entries q. state_from (before ++ entries ∷ []) fs q) entries ((before ++ entries ∷ []) ++ state)
    (field_take f sort name entries shape.0) next (λ rest outer. fields_not f name fs state rest rest_sorts rest_names differ.0 shape.1 outer))
