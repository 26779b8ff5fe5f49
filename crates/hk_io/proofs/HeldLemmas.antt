-- Files by name: what is found, and what a save leaves.
use Rattle.std.proofs.Common.{◌≡◌, ◌≢◌, ◌+◌, ◌-◌, ◌≤◌, ℕ, suc, Bool, true, false, cond, List, [], ◌∷◌, ◌++◌, None, Some, map, slice_set, slice_index_or, arith, ap, sym, ◌∙◌, refl, unwrap_or}
use Rattle.std.proofs.lemmas.Slice.Eq.{bytes_eq-Decides}
use Rattle.std.proofs.lemmas.List.{map-set, map-append}
use Rattle.std.proofs.Math.ListN.{get_or-map}
use Rattle.std.specs.List.{find, position_from}
use Rattle.std.specs.Map.{lookup}
use Rattle.std.specs.Option.{option_map}
use Rattle.std.specs.Str.{bytes_eq}
use Rattle.hk_io.specs.Held.{Files, held_under, with_file}

-- the test by which a file is looked for
abbrev pub is_named : List ℕ → List ℕ × List ℕ → Bool
is_named name file = bytes_eq file.0 name

-- The file that is found has the bytes under the name.
pub lookup_found : {A : Type 0} (f : A → List ℕ × List ℕ) (name : List ℕ) (files : List A) → lookup (λ other. bytes_eq other name) (map f files) ≡ option_map (λ file. (f file).1) (find (λ file. bytes_eq (f file).0 name) files)
lookup_found f name [] = refl
lookup_found f name (file ∷ files) =
    elim (bytes_eq (f file).0 name) as (λ b. cond b (Some (f file).1) (lookup (λ other. bytes_eq other name) (map f files)) ≡ option_map (λ other. (f other).1) (cond b (Some file) (find (λ other. bytes_eq (f other).0 name) files)))
    [ true ↦ refl | false ↦ lookup_found f name files ]

placed_at : (name bytes : List ℕ) (file : List ℕ × List ℕ) (files : Files) (k i : ℕ) (d : List ℕ × List ℕ) (b : Bool) → (position_from (is_named name) (k + 1) files ≡ Some i → (k + 1 ≤ i) × (slice_set files (i - (k + 1)) ((slice_index_or files (i - (k + 1)) d).0, bytes) ≡ with_file files name bytes)) → cond b (Some k) (position_from (is_named name) (k + 1) files) ≡ Some i → (k ≤ i) × (slice_set (file ∷ files) (i - k) ((slice_index_or (file ∷ files) (i - k) d).0, bytes) ≡ cond b ((file.0, bytes) ∷ files) (file ∷ with_file files name bytes))
placed_at name bytes file files k i d true step e =
    let same : k ≡ i = ap (λ place. unwrap_or place k) e in
    let none : i - k ≡ 0 = omega (arith, same) in
    (omega (arith, same), rw none refl)
placed_at name bytes file files k i d false step e =
    let rest = step e in
    let one : i - k ≡ suc (i - (k + 1)) = omega (arith, rest.0) in
    (omega (arith, rest.0), rw one (ap (λ fs. file ∷ fs) rest.1))

-- A place that is found holds the file that a save replaces.
placed : (name bytes : List ℕ) (files : Files) (k i : ℕ) (d : List ℕ × List ℕ) → position_from (is_named name) k files ≡ Some i → (k ≤ i) × (slice_set files (i - k) ((slice_index_or files (i - k) d).0, bytes) ≡ with_file files name bytes)
placed name bytes [] k i d e = cc
placed name bytes (file ∷ files) k i d e = placed_at name bytes file files k i d (bytes_eq file.0 name) (placed name bytes files (k + 1) i d) e

added_at : (name bytes : List ℕ) (file : List ℕ × List ℕ) (files : Files) (k : ℕ) (b : Bool) → (position_from (is_named name) (k + 1) files ≡ None → files ++ (name, bytes) ∷ [] ≡ with_file files name bytes) → cond b (Some k) (position_from (is_named name) (k + 1) files) ≡ None → file ∷ (files ++ (name, bytes) ∷ []) ≡ cond b ((file.0, bytes) ∷ files) (file ∷ with_file files name bytes)
added_at name bytes file files k true step e = cc
added_at name bytes file files k false step e = ap (λ fs. file ∷ fs) (step e)

-- Where no place is found, a save adds a file.
pub added : (name bytes : List ℕ) (files : Files) (k : ℕ) → position_from (is_named name) k files ≡ None → files ++ (name, bytes) ∷ [] ≡ with_file files name bytes
added name bytes [] k e = refl
added name bytes (file ∷ files) k e = added_at name bytes file files k (bytes_eq file.0 name) (added name bytes files (k + 1)) e

-- The place of a name is the same among the files' plain pairs.
pub place_map : {A : Type 0} (f : A → List ℕ × List ℕ) (name : List ℕ) (files : List A) (k : ℕ) → position_from (is_named name) k (map f files) ≡ position_from (λ file. bytes_eq (f file).0 name) k files
place_map f name [] k = refl
place_map f name (file ∷ files) k = ap (cond (bytes_eq (f file).0 name) (Some k)) (place_map f name files (k + 1))

-- A file whose bytes are replaced where its name was found.
pub replaced : {A : Type 0} (f : A → List ℕ × List ℕ) (files : List A) (name bytes : List ℕ) (place : ℕ) (x d : A) → position_from (λ file. bytes_eq (f file).0 name) 0 files ≡ Some place → f x ≡ ((f (slice_index_or files place d)).0, bytes) → map f (slice_set files place x) ≡ with_file (map f files) name bytes
replaced f files name bytes place x d at is =
    let found = placed name bytes (map f files) 0 place (f d) (place_map f name files 0 ∙ at) in
    let from : place - 0 ≡ place = omega arith in
    let result : slice_set (map f files) place ((slice_index_or (map f files) place (f d)).0, bytes) ≡ with_file (map f files) name bytes = rw (sym from) found.1 in
    map-set f files place x ∙ ap (slice_set (map f files) place) (is ∙ ap (λ file. (file.0, bytes)) (sym (get_or-map f files place d))) ∙ result

-- A file that is added where its name was not found.
pub appended : {A : Type 0} (f : A → List ℕ × List ℕ) (files : List A) (name bytes : List ℕ) (x : A) → position_from (λ file. bytes_eq (f file).0 name) 0 files ≡ None → f x ≡ (name, bytes) → map f (files ++ x ∷ []) ≡ with_file (map f files) name bytes
appended f files name bytes x at is =
    map-append f files (x ∷ []) ∙ ap (λ file. map f files ++ file ∷ []) is ∙ added name bytes (map f files) 0 (place_map f name files 0 ∙ at)

not_true : (b : Bool) → (b ≡ true → ⊥) → b ≡ false
not_true true apart = absurd (apart refl)
not_true false apart = refl

bytes_apart : (name other : List ℕ) → other ≢ name → bytes_eq name other ≡ false
bytes_apart name other apart = not_true _ (λ same. apart (sym ((bytes_eq-Decides name other).0 same)))

named_apart : (found name other : List ℕ) → bytes_eq found name ≡ true → other ≢ name → bytes_eq found other ≡ false
named_apart found name other e apart = bytes_apart found other (λ same. apart (same ∙ (bytes_eq-Decides found name).0 e))

with_file_same_at : (file : List ℕ × List ℕ) (files : Files) (name bytes : List ℕ) (b : Bool) → bytes_eq file.0 name ≡ b → held_under (Some (with_file files name bytes)) name ≡ Some bytes → held_under (Some (cond b ((file.0, bytes) ∷ files) (file ∷ with_file files name bytes))) name ≡ Some bytes
with_file_same_at file files name bytes true e step = rw e refl
with_file_same_at file files name bytes false e step = rw e step

-- What a name holds once it has been saved.
pub with_file_same : (files : Files) (name bytes : List ℕ) → held_under (Some (with_file files name bytes)) name ≡ Some bytes
with_file_same [] name bytes = rw ((bytes_eq-Decides name name).1 refl) refl
with_file_same (file ∷ files) name bytes = with_file_same_at file files name bytes (bytes_eq file.0 name) refl (with_file_same files name bytes)

with_file_other_at : (file : List ℕ × List ℕ) (files : Files) (name bytes other : List ℕ) → other ≢ name → (b : Bool) → bytes_eq file.0 name ≡ b → held_under (Some (with_file files name bytes)) other ≡ held_under (Some files) other → held_under (Some (cond b ((file.0, bytes) ∷ files) (file ∷ with_file files name bytes))) other ≡ held_under (Some (file ∷ files)) other
with_file_other_at file files name bytes other apart true e step = rw (named_apart file.0 name other e apart) refl
with_file_other_at file files name bytes other apart false e step = ap (cond (bytes_eq file.0 other) (Some file.1)) step

-- What other names hold stays.
pub with_file_other : (files : Files) (name bytes other : List ℕ) → other ≢ name → held_under (Some (with_file files name bytes)) other ≡ held_under (Some files) other
with_file_other [] name bytes other apart = rw (bytes_apart name other apart) refl
with_file_other (file ∷ files) name bytes other apart = with_file_other_at file files name bytes other apart (bytes_eq file.0 name) refl (with_file_other files name bytes other apart)
