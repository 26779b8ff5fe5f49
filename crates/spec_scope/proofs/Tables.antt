-- Look-ups in tables whose keys are words behind references.
use Rattle.std.proofs.Common.{◌≡◌, ℕ, Bool, true, false, not, cond, List, [], ◌∷◌, ◌++◌, map, length, take, position, bytes_eq, Option, Some, None, is_some, if◌then◌else◌, zero, suc, refl, sym, ap, ◌∙◌}
use Rattle.std.specs.List.{prefix_len, list_any}
use Rattle.std.specs.Map.{lookup}
use Rattle.spec_scope.specs.Scope.{meaning_of, with_name, place_in, with_field}
use Rattle.spec_scope.specs.Words.{words, pairs, place_by}
use Rattle.spec_scope.specs.Fields.{view_row}
use Rattle.spec_scope.specs.declared.meaning.Meaning.{Meaning}
use Rattle.spec_scope.specs.declared.sorts.FieldRow.{FieldRow}
use denote.Ref.{Bor}

prefix_len-map : {X Y : Type 0} (p : Y → Bool) (f : X → Y) (xs : List X) → prefix_len p (map f xs) ≡ prefix_len (λ x. p (f x)) xs
prefix_len-map p f [] = refl
prefix_len-map p f (x ∷ xs) = rw (prefix_len-map p f xs) refl

length-map : {X Y : Type 0} (f : X → Y) (xs : List X) → length (map f xs) ≡ length xs
length-map f [] = refl
length-map f (x ∷ xs) = rw (length-map f xs) refl

position-map : {X Y : Type 0} (p : Y → Bool) (f : X → Y) (xs : List X) → position p (map f xs) ≡ position (λ x. p (f x)) xs
position-map p f xs = rw (prefix_len-map (λ y. not (p y)) f xs, length-map f xs) refl

list_any-map : {X Y : Type 0} (p : Y → Bool) (f : X → Y) (xs : List X) → list_any p (map f xs) ≡ list_any (λ x. p (f x)) xs
list_any-map p f [] = refl
list_any-map p f (x ∷ xs) = rw (list_any-map p f xs) refl

-- ---- words

pub length_words : (ws : List (Bor (List ℕ))) → length (words ws) ≡ length ws
length_words ws = length-map (λ (w : Bor (List ℕ)). w.now) ws

pub place_words : (n : List ℕ) (ws : List (Bor (List ℕ))) → position (bytes_eq n) (words ws) ≡ position (λ w. bytes_eq n w.now) ws
place_words n ws = position-map (bytes_eq n) (λ (w : Bor (List ℕ)). w.now) ws

pub among_words : (n : List ℕ) (ws : List (Bor (List ℕ))) → list_any (bytes_eq n) (words ws) ≡ list_any (λ w. bytes_eq n w.now) ws
among_words n ws = list_any-map (bytes_eq n) (λ (w : Bor (List ℕ)). w.now) ws

pub words_push : (ws : List (Bor (List ℕ))) (w : Bor (List ℕ)) → words (ws ++ w ∷ []) ≡ words ws ++ w.now ∷ []
words_push [] w = refl
words_push (v ∷ ws) w = ap (λ xs. v.now ∷ xs) (words_push ws w)

pub words_take : (n : ℕ) (ws : List (Bor (List ℕ))) → words (take n ws) ≡ take n (words ws)
words_take zero ws = refl
words_take (suc n) [] = refl
words_take (suc n) (w ∷ ws) = ap (λ xs. w.now ∷ xs) (words_take n ws)

-- ---- names with meanings

pub meaning_pairs : (n : List ℕ) (es : List (Bor (List ℕ) × Meaning)) → meaning_of (pairs es) n ≡ lookup (λ (k : Bor (List ℕ)). bytes_eq n k.now) es
meaning_pairs n [] = refl
meaning_pairs n (e ∷ es) = ap (λ o. cond (bytes_eq n e.0.now) (Some e.1) o) (meaning_pairs n es)

pairs_push : (es : List (Bor (List ℕ) × Meaning)) (k : Bor (List ℕ)) (v : Meaning) → pairs (es ++ (k, v) ∷ []) ≡ pairs es ++ (k.now, v) ∷ []
pairs_push [] k v = refl
pairs_push (e ∷ es) k v = ap (λ xs. (e.0.now, e.1) ∷ xs) (pairs_push es k v)

-- a name that is not there is put behind the others
pub added : (es after : List (Bor (List ℕ) × Meaning)) (k : Bor (List ℕ)) (v : Meaning) → lookup (λ (w : Bor (List ℕ)). bytes_eq k.now w.now) es ≡ None → after ≡ es ++ (k, v) ∷ []
    → pairs after ≡ with_name (pairs es) k.now v
added es after k v none put = ap pairs put ∙ pairs_push es k v
    ∙ sym (ap (λ o. if is_some o then pairs es else pairs es ++ (k.now, v) ∷ []) (meaning_pairs k.now es ∙ none))

pub none_is : {X : Type 0} (o : Option X) → is_some o ≡ false → o ≡ None
none_is None h = refl
none_is (Some x) h = search h

-- ---- fields

names_of_rows : (es : List (Bor (List ℕ) × FieldRow)) → map (λ d. d.name) (map view_row es) ≡ map (λ (k : Bor (List ℕ)). k.now) (map (λ e. e.0) es)
names_of_rows [] = refl
names_of_rows (e ∷ es) = ap (λ ns. e.0.now ∷ ns) (names_of_rows es)

pub place_rows : (x : List ℕ) (es : List (Bor (List ℕ) × FieldRow)) → place_in (map view_row es) x ≡ place_by x es
place_rows x es = ap (position (bytes_eq x)) (names_of_rows es) ∙ position-map (bytes_eq x) (λ (k : Bor (List ℕ)). k.now) (map (λ e. e.0) es)

rows_push : (es : List (Bor (List ℕ) × FieldRow)) (k : Bor (List ℕ)) (v : FieldRow) → map view_row (es ++ (k, v) ∷ []) ≡ map view_row es ++ view_row (k, v) ∷ []
rows_push [] k v = refl
rows_push (e ∷ es) k v = ap (λ xs. view_row e ∷ xs) (rows_push es k v)

pub field_kept : (es : List (Bor (List ℕ) × FieldRow)) (k : Bor (List ℕ)) (v : FieldRow) (o : Option ℕ) → o ≡ place_by k.now es → is_some o ≡ true
    → map view_row es ≡ with_field (map view_row es) (view_row (k, v))
field_kept es k v o is some = rw (place_rows k.now es, sym is, some) refl

pub field_added : (es after : List (Bor (List ℕ) × FieldRow)) (k : Bor (List ℕ)) (v : FieldRow) (o : Option ℕ) → o ≡ place_by k.now es → is_some o ≡ false → after ≡ es ++ (k, v) ∷ []
    → map view_row after ≡ with_field (map view_row es) (view_row (k, v))
field_added es after k v o is none put = rw (place_rows k.now es, sym is, none) (ap (map view_row) put ∙ rows_push es k v)
