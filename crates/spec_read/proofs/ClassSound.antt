-- The lines that are read behind a class are spelled there.
use Rattle.std.proofs.Common.{◌≡◌, Bool, true, false, Some, None, List, [], ◌∷◌, ◌++◌, refl, ap, ◌∙◌, append-nil}
use Rattle.std.specs.Prelude.{Option, if◌then◌else◌, ◌&&◌, bytes_eq, codes}
use Rattle.spec_ast.specs.declared.raw.RawSort.{RawSort}
use Rattle.spec_ast.specs.Raw.{Item, field_line}
use Rattle.spec_expr.specs.Words.{Text, is_name}
use Rattle.spec_expr.specs.Grown.{Grown}
use Rattle.spec_expr.specs.Reading.{past}
use Rattle.spec_expr.proofs.Parts.{same_text, past_is}
use Rattle.spec_read.specs.Places.{class_body}
use Rattle.spec_read.specs.Items.{SpellsSort, SpellsKeys, SpellsItem}
use Rattle.spec_read.specs.ItemReading.{follows, at_end, plain, sort_at, keys_at, map_from, field_from, class_at}
use Rattle.spec_read.proofs.SortSound.{sort_sound, keys_sound}
use Rattle.spec_read.proofs.TopSound.{FoundItem, moved, follows_is, at_end_is}

mapped : (x : Text) (keys : List RawSort) (s : RawSort) (front inner : List Text) → is_name x ≡ true → SpellsKeys keys front → SpellsSort s inner →
    SpellsItem class_body (field_line x keys s) (x ∷ codes "=" ∷ codes "Map" ∷ codes "(" ∷ (front ++ codes "," ∷ (inner ++ codes ")" ∷ [])))
mapped x [] s front inner name are spelled = absurd are
mapped x (k ∷ ks) s front inner name are spelled = (front, inner, refl, name, are, spelled, refl)

map_sound : (x : Text) (ts : List Text) (g : Grown Item) → is_name x ≡ true → map_from x ts ≡ Some g → FoundItem class_body (x ∷ codes "=" ∷ codes "Map" ∷ codes "(" ∷ ts) g
map_sound x ts g name h =
    let a = follows_is (keys_at ts) (λ keys rest. past (codes ",") rest (λ rest. follows (sort_at rest) (λ s rest. past (codes ")") rest (λ rest. at_end (plain (field_line x keys s)) rest)))) g h in
    let f = keys_sound ts a.value a.rest a.read in
    let b = past_is (codes ",") a.rest (λ rest. follows (sort_at rest) (λ s rest. past (codes ")") rest (λ rest. at_end (plain (field_line x a.value s)) rest))) g a.on_is in
    let c = follows_is (sort_at b.rest) (λ s rest. past (codes ")") rest (λ rest. at_end (plain (field_line x a.value s)) rest)) g b.on_is in
    let k = sort_sound b.rest c.value c.rest c.read in
    let d = past_is (codes ")") c.rest (λ rest. at_end (plain (field_line x a.value c.value)) rest) g c.on_is in
    let e = at_end_is (plain (field_line x a.value c.value)) d.rest g d.on_is in
    let found : FoundItem class_body (x ∷ codes "=" ∷ codes "Map" ∷ codes "(" ∷ (f.front ++ codes "," ∷ (k.front ++ codes ")" ∷ []))) g = record {
      item = field_line x a.value c.value;
      spelled = mapped x a.value c.value f.front k.front name f.spelled k.spelled;
      grown = λ most. e.value;
    } in
    moved class_body (x ∷ codes "=" ∷ codes "Map" ∷ codes "(" ∷ ts) (x ∷ codes "=" ∷ codes "Map" ∷ codes "(" ∷ (f.front ++ codes "," ∷ (k.front ++ codes ")" ∷ []))) g
    (ap (λ r. x ∷ codes "=" ∷ codes "Map" ∷ codes "(" ∷ r)
    (f.parts ∙ ap (λ r. f.front ++ r) (b.parts ∙ ap (λ r. codes "," ∷ r) (k.parts ∙ ap (λ r. k.front ++ r) (d.parts ∙ ap (λ r. codes ")" ∷ r) e.none)))))
    found

scalar_sound : (x : Text) (ts : List Text) (g : Grown Item) → is_name x ≡ true → follows (sort_at ts) (λ s rest. at_end (plain (field_line x [] s)) rest) ≡ Some g →
    FoundItem class_body (x ∷ codes "=" ∷ ts) g
scalar_sound x ts g name h =
    let a = follows_is (sort_at ts) (λ s rest. at_end (plain (field_line x [] s)) rest) g h in
    let f = sort_sound ts a.value a.rest a.read in
    let e = at_end_is (plain (field_line x [] a.value)) a.rest g a.on_is in
    record {
      item = field_line x [] a.value;
      spelled = (f.front, refl, name, f.spelled, ap (λ r. x ∷ codes "=" ∷ r) (f.parts ∙ ap (λ r. f.front ++ r) e.none ∙ append-nil f.front));
      grown = λ most. e.value;
    }

field_by : (x t u : Text) (us : List Text) (g : Grown Item) (p q : Bool) → is_name x ≡ true → bytes_eq u (codes "(") ≡ p → bytes_eq t (codes "Map") ≡ q →
    ◌≡◌ {A = Option (Grown Item)} (if p && q then map_from x us else follows (sort_at (t ∷ u ∷ us)) (λ s rest. at_end (plain (field_line x [] s)) rest)) (Some g) →
    FoundItem class_body (x ∷ codes "=" ∷ t ∷ u ∷ us) g
field_by x t u us g true true name round map h =
    moved class_body (x ∷ codes "=" ∷ t ∷ u ∷ us) (x ∷ codes "=" ∷ codes "Map" ∷ codes "(" ∷ us) g
    (ap (λ w. x ∷ codes "=" ∷ w ∷ u ∷ us) (same_text t (codes "Map") map) ∙ ap (λ w. x ∷ codes "=" ∷ codes "Map" ∷ w ∷ us) (same_text u (codes "(") round))
    (map_sound x us g name h)
field_by x t u us g true false name round map h = scalar_sound x (t ∷ u ∷ us) g name h
field_by x t u us g false q name round map h = scalar_sound x (t ∷ u ∷ us) g name h

field_from_sound : (x : Text) (ts : List Text) (g : Grown Item) → is_name x ≡ true → field_from x ts ≡ Some g → FoundItem class_body (x ∷ codes "=" ∷ ts) g
field_from_sound x [] g name h = absurd cc
field_from_sound x (t ∷ []) g name h = scalar_sound x (t ∷ []) g name h
field_from_sound x (t ∷ u ∷ us) g name h = field_by x t u us g (bytes_eq u (codes "(")) (bytes_eq t (codes "Map")) name refl refl h

named_by : (t : Text) (ts : List Text) (g : Grown Item) (p : Bool) → is_name t ≡ p → ◌≡◌ {A = Option (Grown Item)} (if p then past (codes "=") ts (field_from t) else None) (Some g) → FoundItem class_body (t ∷ ts) g
named_by t ts g true name h =
    let a = past_is (codes "=") ts (field_from t) g h in moved class_body (t ∷ ts) (t ∷ codes "=" ∷ a.rest) g (ap (λ r. t ∷ r) a.parts) (field_from_sound t a.rest g name a.on_is)
named_by t ts g false name h = absurd cc

pub class_sound : (ts : List Text) (g : Grown Item) → class_at ts ≡ Some g → FoundItem class_body ts g
class_sound [] g h = absurd cc
class_sound (t ∷ ts) g h = named_by t ts g (is_name t) refl h
