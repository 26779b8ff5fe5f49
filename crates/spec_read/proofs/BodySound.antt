-- The lines that are read in the body of a function are spelled there, and so are those at every place.
use Rattle.std.proofs.Common.{◌≡◌, ℕ, max, ◌⊎◌, inl, inr, Bool, true, false, Some, None, List, [], ◌∷◌, ◌++◌, refl, sym, ap, subst, ◌∙◌, append-nil}
use Rattle.std.specs.Prelude.{Option, if◌then◌else◌, bytes_eq, codes}
use Rattle.spec_ast.specs.Raw.{Tree, Item, let_line, var_line, copy_line, write_line, return_line, end_line}
use Rattle.spec_expr.specs.Words.{Text, is_name}
use Rattle.spec_expr.specs.Spelling.{SpellsExpr}
use Rattle.spec_expr.specs.Grown.{Grown, lift, join, limited}
use Rattle.spec_expr.specs.Reading.{past, name_at, arguments_at, expr_at}
use Rattle.spec_expr.proofs.Parts.{some_is, same_text, past_is}
use Rattle.spec_expr.proofs.Sound.{arguments_sound, name_sound}
use Rattle.spec_expr.proofs.LevelSound.{expr_sound}
use Rattle.spec_read.specs.Places.{Function, Place, top, class_body, body_of, nowhere, is_handler}
use Rattle.spec_read.specs.Items.{SpellsItem}
use Rattle.spec_read.specs.ItemReading.{follows, at_end, or_else, plain, sort_at, same_depth, expr_end, let_from, var_from, copy_from, assigned_at, write_value, write_from, result_from, return_from, statement_from, body_at, item_at, limited_item}
use Rattle.spec_read.proofs.SortSound.{sort_sound}
use Rattle.spec_read.proofs.TopSound.{FoundItem, follows_is, at_end_is, top_sound}
use Rattle.spec_read.proofs.ClassSound.{class_sound}

-- the line that is read, up to a depth
pub record FoundLine (most : ℕ) (place : Place) (ts : List Text) (g : Grown Item) : Type 0 where
  pub item : Item
  pub spelled : SpellsItem place item ts
  pub grown : g ≡ limited_item most item

found_line : (most : ℕ) (place : Place) (ts : List Text) (g : Grown Item) → FoundItem place ts g → FoundLine most place ts g
found_line most place ts g f = record { item = f.item; spelled = f.spelled; grown = f.grown most }

moved_line : (most : ℕ) (place : Place) (ts us : List Text) (g : Grown Item) → ts ≡ us → FoundLine most place us g → FoundLine most place ts g
moved_line most place ts us g is found = subst (λ ws. FoundLine most place ws g) (sym is) found

-- ---- an expression up to the end of the line

record Ends (most : ℕ) (item : Grown Tree → Grown Item) (ts : List Text) (g : Grown Item) : Type 0 where
  e : Tree
  spelled : SpellsExpr e ts
  grown : g ≡ item (limited most e)

end_sound : (most n : ℕ) (item : Grown Tree → Grown Item) (ts : List Text) (g : Grown Item) → expr_end most n item ts ≡ Some g → Ends most item ts g
end_sound most n item ts g h =
    let a = follows_is (expr_at most n ts) (λ e rest. at_end (item e) rest) g h in
    let f = expr_sound most n ts a.value a.rest a.read in
    let d = at_end_is (item a.value) a.rest g a.on_is in
    record { e = f.e; spelled = subst (SpellsExpr f.e) (sym (f.parts ∙ ap (λ r. f.front ++ r) d.none ∙ append-nil f.front)) f.spelled; grown = d.value ∙ ap item f.grown }

-- ---- behind `NAME =`

record Else {A : Type 0} (o p : Option A) (r : A) : Type 0 where
  either : (o ≡ Some r) ⊎ (p ≡ Some r)

else_is : {A : Type 0} (o p : Option A) (r : A) → or_else o p ≡ Some r → Else o p r
else_is None p r h = record { either = inr h }
else_is (Some a) p r h = record { either = inl h }

let_sound : (most n : ℕ) (f : Function) (x : Text) (ts : List Text) (g : Grown Item) → is_name x ≡ true → let_from most n x ts ≡ Some g → FoundLine most (body_of f) (x ∷ codes "=" ∷ ts) g
let_sound most n f x ts g name h =
    let d = end_sound most n (lift most (let_line x) same_depth) ts g h in record { item = let_line x d.e; spelled = (ts, tt, name, d.spelled, refl); grown = d.grown }

var_by : (most : ℕ) (f : Function) (x t : Text) (ts : List Text) (g : Grown Item) (p : Bool) → is_name x ≡ true → bytes_eq t (codes "Var") ≡ p →
    ◌≡◌ {A = Option (Grown Item)} (if p then past (codes "(") ts (λ rest. follows (sort_at rest) (λ s rest. past (codes ")") rest (λ rest. at_end (plain (var_line x s)) rest))) else None) (Some g) →
    FoundLine most (body_of f) (x ∷ codes "=" ∷ t ∷ ts) g
var_by most f x t ts g true name is h =
    let a = past_is (codes "(") ts (λ rest. follows (sort_at rest) (λ s rest. past (codes ")") rest (λ rest. at_end (plain (var_line x s)) rest))) g h in
    let b = follows_is (sort_at a.rest) (λ s rest. past (codes ")") rest (λ rest. at_end (plain (var_line x s)) rest)) g a.on_is in
    let k = sort_sound a.rest b.value b.rest b.read in
    let c = past_is (codes ")") b.rest (λ rest. at_end (plain (var_line x b.value)) rest) g b.on_is in
    let d = at_end_is (plain (var_line x b.value)) c.rest g c.on_is in
    record {
      item = var_line x b.value;
      spelled = (
        k.front,
        tt,
        name,
        k.spelled,
        ap (λ w. x ∷ codes "=" ∷ w ∷ ts) (same_text t (codes "Var") is)
            ∙ ap (λ r. x ∷ codes "=" ∷ codes "Var" ∷ r) (a.parts ∙ ap (λ r. codes "(" ∷ r) (k.parts ∙ ap (λ r. k.front ++ r) (c.parts ∙ ap (λ r. codes ")" ∷ r) d.none))),
      );
      grown = d.value;
    }
var_by most f x t ts g false name is h = absurd cc

var_sound : (most : ℕ) (f : Function) (x : Text) (ts : List Text) (g : Grown Item) → is_name x ≡ true → var_from x ts ≡ Some g → FoundLine most (body_of f) (x ∷ codes "=" ∷ ts) g
var_sound most f x [] g name h = absurd cc
var_sound most f x (t ∷ ts) g name h = var_by most f x t ts g (bytes_eq t (codes "Var")) name refl h

copy_by : (most : ℕ) (f : Function) (x : Text) (ts : List Text) (g : Grown Item) (p : Bool) → is_name x ≡ true → is_handler f ≡ p →
    ◌≡◌ {A = Option (Grown Item)}
    (if p then follows (name_at ts) (λ s rest. past (codes ".") rest (λ rest. past (codes "copy") rest (λ rest. past (codes "(") rest (λ rest. past (codes ")") rest (λ rest. at_end (plain (copy_line x s)) rest))))) else None)
    (Some g) →
    FoundLine most (body_of f) (x ∷ codes "=" ∷ ts) g
copy_by most f x ts g true name handler h =
    let a = follows_is (name_at ts) (λ s rest. past (codes ".") rest (λ rest. past (codes "copy") rest (λ rest. past (codes "(") rest (λ rest. past (codes ")") rest (λ rest. at_end (plain (copy_line x s)) rest))))) g h in
    let k = name_sound ts a.value a.rest a.read in
    let b = past_is (codes ".") a.rest (λ rest. past (codes "copy") rest (λ rest. past (codes "(") rest (λ rest. past (codes ")") rest (λ rest. at_end (plain (copy_line x a.value)) rest)))) g a.on_is in
    let c = past_is (codes "copy") b.rest (λ rest. past (codes "(") rest (λ rest. past (codes ")") rest (λ rest. at_end (plain (copy_line x a.value)) rest))) g b.on_is in
    let d = past_is (codes "(") c.rest (λ rest. past (codes ")") rest (λ rest. at_end (plain (copy_line x a.value)) rest)) g c.on_is in
    let e = past_is (codes ")") d.rest (λ rest. at_end (plain (copy_line x a.value)) rest) g d.on_is in
    let z = at_end_is (plain (copy_line x a.value)) e.rest g e.on_is in
    record {
      item = copy_line x a.value;
      spelled = (
        handler,
        name,
        k.name,
        ap (λ r. x ∷ codes "=" ∷ r)
            (k.parts ∙ ap (λ r. a.value ∷ r) (b.parts ∙ ap (λ r. codes "." ∷ r) (c.parts ∙ ap (λ r. codes "copy" ∷ r) (d.parts ∙ ap (λ r. codes "(" ∷ r) (e.parts ∙ ap (λ r. codes ")" ∷ r) z.none))))),
      );
      grown = z.value;
    }
copy_by most f x ts g false name handler h = absurd cc

assigned_sound : (most n : ℕ) (f : Function) (x : Text) (ts : List Text) (g : Grown Item) → is_name x ≡ true → assigned_at most n f x ts ≡ Some g → FoundLine most (body_of f) (x ∷ codes "=" ∷ ts) g
unfolding assigned_at
assigned_sound most n f x ts g name h =
    let a = else_is (let_from most n x ts) (or_else (var_from x ts) (copy_from f x ts)) g h in
    elim a.either [
      | inl l ↦ let_sound most n f x ts g name l
      | inr r ↦
          let b = else_is (var_from x ts) (copy_from f x ts) g r in
          elim b.either [
            | inl l ↦ var_sound most f x ts g name l
            | inr r ↦ copy_by most f x ts g (is_handler f) name refl r
          ]
    ]

-- ---- writes

keyed_by : (most n : ℕ) (f : Function) (c x t : Text) (ts : List Text) (g : Grown Item) (p : Bool) → is_handler f ≡ true → is_name c ≡ true → is_name x ≡ true → bytes_eq t (codes "[") ≡ p →
    ◌≡◌ {A = Option (Grown Item)} (if p
    then follows (arguments_at most (expr_at most n) (codes "]") ts)
    (λ es rest. past (codes "=") rest (λ rest. expr_end most n (join most (λ at e. write_line c x (Some at) e) max es) rest))
    else None) (Some g) →
    FoundLine most (body_of f) (c ∷ codes "." ∷ x ∷ t ∷ ts) g
keyed_by most n f c x t ts g true handler copied name opens h =
    let a = follows_is (arguments_at most (expr_at most n) (codes "]") ts) (λ es rest. past (codes "=") rest (λ rest. expr_end most n (join most (λ at e. write_line c x (Some at) e) max es) rest)) g h in
    let k = arguments_sound most (expr_at most n) (expr_sound most n) (codes "]") ts a.value a.rest a.read in
    let b = past_is (codes "=") a.rest (λ rest. expr_end most n (join most (λ at e. write_line c x (Some at) e) max a.value) rest) g a.on_is in
    let d = end_sound most n (join most (λ at e. write_line c x (Some at) e) max a.value) b.rest g b.on_is in
    record {
      item = write_line c x (Some k.es) d.e;
      spelled = (
        k.front,
        b.rest,
        handler,
        copied,
        name,
        k.spelled,
        d.spelled,
        ap (λ w. c ∷ codes "." ∷ x ∷ w ∷ ts) (same_text t (codes "[") opens) ∙ ap (λ r. c ∷ codes "." ∷ x ∷ codes "[" ∷ r) (k.parts ∙ ap (λ r. k.front ++ r) b.parts),
      );
      grown = d.grown ∙ ap (λ es. join most (λ at e. write_line c x (Some at) e) max es (limited most d.e)) k.grown;
    }
keyed_by most n f c x t ts g false handler copied name opens h = absurd cc

value_by : (most n : ℕ) (f : Function) (c x t : Text) (ts : List Text) (g : Grown Item) (p : Bool) → is_handler f ≡ true → is_name c ≡ true → is_name x ≡ true → bytes_eq t (codes "=") ≡ p →
    ◌≡◌ {A = Option (Grown Item)} (if p then expr_end most n (lift most (write_line c x None) same_depth) ts
    else (if bytes_eq t (codes "[")
    then follows (arguments_at most (expr_at most n) (codes "]") ts)
    (λ es rest. past (codes "=") rest (λ rest. expr_end most n (join most (λ at e. write_line c x (Some at) e) max es) rest))
    else None)) (Some g) →
    FoundLine most (body_of f) (c ∷ codes "." ∷ x ∷ t ∷ ts) g
value_by most n f c x t ts g true handler copied name is h =
    let d = end_sound most n (lift most (write_line c x None) same_depth) ts g h in
    record { item = write_line c x None d.e; spelled = (ts, handler, copied, name, d.spelled, ap (λ w. c ∷ codes "." ∷ x ∷ w ∷ ts) (same_text t (codes "=") is)); grown = d.grown }
value_by most n f c x t ts g false handler copied name is h = keyed_by most n f c x t ts g (bytes_eq t (codes "[")) handler copied name refl h

value_sound : (most n : ℕ) (f : Function) (c x : Text) (ts : List Text) (g : Grown Item) → is_handler f ≡ true → is_name c ≡ true → is_name x ≡ true → write_value most n c x ts ≡ Some g →
    FoundLine most (body_of f) (c ∷ codes "." ∷ x ∷ ts) g
value_sound most n f c x [] g handler copied name h = absurd cc
value_sound most n f c x (t ∷ ts) g handler copied name h = value_by most n f c x t ts g (bytes_eq t (codes "=")) handler copied name refl h

write_by : (most n : ℕ) (f : Function) (c : Text) (ts : List Text) (g : Grown Item) (p : Bool) → is_name c ≡ true → is_handler f ≡ p →
    ◌≡◌ {A = Option (Grown Item)} (if p then follows (name_at ts) (write_value most n c) else None) (Some g) → FoundLine most (body_of f) (c ∷ codes "." ∷ ts) g
write_by most n f c ts g true name handler h =
    let a = follows_is (name_at ts) (write_value most n c) g h in
    let k = name_sound ts a.value a.rest a.read in
    moved_line most (body_of f) (c ∷ codes "." ∷ ts) (c ∷ codes "." ∷ a.value ∷ a.rest) g (ap (λ r. c ∷ codes "." ∷ r) k.parts) (value_sound most n f c a.value a.rest g handler name k.name a.on_is)
write_by most n f c ts g false name handler h = absurd cc

-- ---- returns

result_by : (most n : ℕ) (f : Function) (e : Tree) (inner : List Text) (s t : Text) (ts : List Text) (g : Grown Item) (p : Bool) → is_handler f ≡ true → SpellsExpr e inner → is_name s ≡ true → bytes_eq t (codes ",") ≡ p →
    ◌≡◌ {A = Option (Grown Item)} (if p then expr_end most n (join most (λ x r. end_line x s (Some r)) max (limited most e)) ts else None) (Some g) →
    FoundLine most (body_of f) (codes "return" ∷ (inner ++ codes "," ∷ s ∷ t ∷ ts)) g
result_by most n f e inner s t ts g true handler spelled name is h =
    let d = end_sound most n (join most (λ x r. end_line x s (Some r)) max (limited most e)) ts g h in
    record {
      item = end_line e s (Some d.e);
      spelled = (inner, ts, handler, spelled, name, d.spelled, ap (λ w. codes "return" ∷ (inner ++ codes "," ∷ s ∷ w ∷ ts)) (same_text t (codes ",") is));
      grown = d.grown;
    }
result_by most n f e inner s t ts g false handler spelled name is h = absurd cc

result_sound : (most n : ℕ) (f : Function) (e : Tree) (inner : List Text) (s : Text) (ts : List Text) (g : Grown Item) → is_handler f ≡ true → SpellsExpr e inner → is_name s ≡ true →
    result_from most n (limited most e) s ts ≡ Some g → FoundLine most (body_of f) (codes "return" ∷ (inner ++ codes "," ∷ s ∷ ts)) g
result_sound most n f e inner s [] g handler spelled name h = record {
  item = end_line e s None;
  spelled = (inner, handler, spelled, name, refl);
  grown = sym (some_is (lift most (λ x. end_line x s None) same_depth (limited most e)) g h);
}
result_sound most n f e inner s (t ∷ ts) g handler spelled name h = result_by most n f e inner s t ts g (bytes_eq t (codes ",")) handler spelled name refl h

return_by : (most n : ℕ) (f : Function) (ts : List Text) (g : Grown Item) (p : Bool) → is_handler f ≡ p →
    ◌≡◌ {A = Option (Grown Item)} (if p then follows (expr_at most n ts) (λ e rest. past (codes ",") rest (λ rest. follows (name_at rest) (result_from most n e))) else expr_end most n (lift most return_line same_depth) ts) (Some g) →
    FoundLine most (body_of f) (codes "return" ∷ ts) g
return_by most n f ts g true handler h =
    let a = follows_is (expr_at most n ts) (λ e rest. past (codes ",") rest (λ rest. follows (name_at rest) (result_from most n e))) g h in
    let k = expr_sound most n ts a.value a.rest a.read in
    let b = past_is (codes ",") a.rest (λ rest. follows (name_at rest) (result_from most n a.value)) g a.on_is in
    let c = follows_is (name_at b.rest) (result_from most n a.value) g b.on_is in
    let s = name_sound b.rest c.value c.rest c.read in
    moved_line most (body_of f) (codes "return" ∷ ts) (codes "return" ∷ (k.front ++ codes "," ∷ c.value ∷ c.rest)) g
    (ap (λ r. codes "return" ∷ r) (k.parts ∙ ap (λ r. k.front ++ r) (b.parts ∙ ap (λ r. codes "," ∷ r) s.parts)))
    (result_sound most n f k.e k.front c.value c.rest g handler k.spelled s.name (ap (λ e. result_from most n e c.value c.rest) (sym k.grown) ∙ c.on_is))
return_by most n f ts g false handler h =
    let d = end_sound most n (lift most return_line same_depth) ts g h in record { item = return_line d.e; spelled = (ts, handler, d.spelled, refl); grown = d.grown }

-- ---- the first words

dot_by : (most n : ℕ) (f : Function) (x t : Text) (ts : List Text) (g : Grown Item) (p : Bool) → is_name x ≡ true → bytes_eq t (codes ".") ≡ p →
    ◌≡◌ {A = Option (Grown Item)} (if p then write_from most n f x ts else None) (Some g) → FoundLine most (body_of f) (x ∷ t ∷ ts) g
dot_by most n f x t ts g true name dot h =
    moved_line most (body_of f) (x ∷ t ∷ ts) (x ∷ codes "." ∷ ts) g (ap (λ w. x ∷ w ∷ ts) (same_text t (codes ".") dot)) (write_by most n f x ts g (is_handler f) name refl h)
dot_by most n f x t ts g false name dot h = absurd cc

statement_by : (most n : ℕ) (f : Function) (x t : Text) (ts : List Text) (g : Grown Item) (p : Bool) → is_name x ≡ true → bytes_eq t (codes "=") ≡ p →
    ◌≡◌ {A = Option (Grown Item)} (if p then assigned_at most n f x ts else (if bytes_eq t (codes ".") then write_from most n f x ts else None)) (Some g) → FoundLine most (body_of f) (x ∷ t ∷ ts) g
statement_by most n f x t ts g true name is h =
    moved_line most (body_of f) (x ∷ t ∷ ts) (x ∷ codes "=" ∷ ts) g (ap (λ w. x ∷ w ∷ ts) (same_text t (codes "=") is)) (assigned_sound most n f x ts g name h)
statement_by most n f x t ts g false name is h = dot_by most n f x t ts g (bytes_eq t (codes ".")) name refl h

statement_sound : (most n : ℕ) (f : Function) (x : Text) (ts : List Text) (g : Grown Item) → is_name x ≡ true → statement_from most n f x ts ≡ Some g → FoundLine most (body_of f) (x ∷ ts) g
statement_sound most n f x [] g name h = absurd cc
statement_sound most n f x (t ∷ ts) g name h = statement_by most n f x t ts g (bytes_eq t (codes "=")) name refl h

body_by : (most n : ℕ) (f : Function) (t : Text) (ts : List Text) (g : Grown Item) (p q : Bool) → bytes_eq t (codes "return") ≡ p → is_name t ≡ q →
    ◌≡◌ {A = Option (Grown Item)} (if p then return_from most n f ts else (if q then statement_from most n f t ts else None)) (Some g) → FoundLine most (body_of f) (t ∷ ts) g
body_by most n f t ts g true q is name h =
    moved_line most (body_of f) (t ∷ ts) (codes "return" ∷ ts) g (ap (λ w. w ∷ ts) (same_text t (codes "return") is)) (return_by most n f ts g (is_handler f) refl h)
body_by most n f t ts g false true is name h = statement_sound most n f t ts g name h
body_by most n f t ts g false false is name h = absurd cc

body_sound : (most n : ℕ) (f : Function) (ts : List Text) (g : Grown Item) → body_at most n f ts ≡ Some g → FoundLine most (body_of f) ts g
body_sound most n f [] g h = absurd cc
body_sound most n f (t ∷ ts) g h = body_by most n f t ts g (bytes_eq t (codes "return")) (is_name t) refl refl h

pub item_sound : (most n : ℕ) (place : Place) (ts : List Text) (g : Grown Item) → item_at most n place ts ≡ Some g → FoundLine most place ts g
unfolding item_at
item_sound most n top ts g h = found_line most top ts g (top_sound ts g h)
item_sound most n class_body ts g h = found_line most class_body ts g (class_sound ts g h)
item_sound most n (body_of f) ts g h = body_sound most n f ts g h
item_sound most n nowhere ts g h = absurd cc
