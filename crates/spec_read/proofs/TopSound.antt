-- The lines that are read without indentation are spelled there.
use Rattle.std.proofs.Common.{◌≡◌, ℕ, inl, inr, Bool, true, false, Some, None, List, [], ◌∷◌, ◌++◌, refl, sym, ap, subst, ◌∙◌, append-nil}
use Rattle.std.specs.Prelude.{Option, ℤ, pos, neg_ℤ, if◌then◌else◌, bytes_eq, codes}
use Rattle.spec_ast.specs.Raw.{Item, sort_line, constant_line, hook_line, class_line, def_line}
use Rattle.spec_expr.specs.Words.{Text, is_name, number_of}
use Rattle.spec_expr.specs.Grown.{Grown}
use Rattle.spec_expr.specs.Reading.{past, name_at}
use Rattle.spec_expr.proofs.Parts.{same_text, past_is}
use Rattle.spec_expr.proofs.Sound.{name_sound}
use Rattle.spec_read.specs.Places.{Function, Place, top, function_of}
use Rattle.spec_read.specs.Items.{SpellsItem}
use Rattle.spec_read.specs.ItemReading.{follows, at_end, plain, new_sort_at, constant_of, top_from, class_from, parameters_at, def_with, def_from, top_at, limited_item}
use Rattle.spec_read.proofs.SortSound.{new_sound, parameters_sound}

pub record Follows {A B : Type 0} (o : Option (A × List Text)) (on : A → List Text → Option B) (r : B) : Type 0 where
  pub value : A
  pub rest : List Text
  pub read : o ≡ Some (value, rest)
  pub on_is : on value rest ≡ Some r

pub follows_is : {A B : Type 0} (o : Option (A × List Text)) (on : A → List Text → Option B) (r : B) → follows o on ≡ Some r → Follows o on r
follows_is None on r h = absurd cc
follows_is (Some got) on r h = record { value = got.0; rest = got.1; read = refl; on_is = h }

pub record Ended {A : Type 0} (a : A) (ts : List Text) (r : A) : Type 0 where
  pub value : r ≡ a
  pub none : ts ≡ []

pub at_end_is : {A : Type 0} (a : A) (ts : List Text) (r : A) → at_end a ts ≡ Some r → Ended a ts r
at_end_is a [] r h = record { value = cc; none = refl }
at_end_is a (t ∷ ts) r h = absurd cc

-- the line that is read
pub record FoundItem (place : Place) (ts : List Text) (g : Grown Item) : Type 0 where
  pub item : Item
  pub spelled : SpellsItem place item ts
  pub grown : (most : ℕ) → g ≡ limited_item most item

pub moved : (place : Place) (ts us : List Text) (g : Grown Item) → ts ≡ us → FoundItem place us g → FoundItem place ts g
moved place ts us g is found = subst (λ ws. FoundItem place ws g) (sym is) found

record Constant (x : Text) (sign : ℕ → ℤ) (o : Option ℕ) (ts : List Text) (g : Grown Item) : Type 0 where
  n : ℕ
  is : o ≡ Some n
  none : ts ≡ []
  value : g ≡ plain (constant_line x (sign n))

constant_is : (x : Text) (sign : ℕ → ℤ) (o : Option ℕ) (ts : List Text) (g : Grown Item) → constant_of x sign o ts ≡ Some g → Constant x sign o ts g
constant_is x sign None ts g h = absurd cc
constant_is x sign (Some n) ts g h = let e = at_end_is (plain (constant_line x (sign n))) ts g h in record { n = n; is = refl; none = e.none; value = e.value }

round_by : (x t u : Text) (us : List Text) (g : Grown Item) (p : Bool) → is_name x ≡ true → bytes_eq u (codes "(") ≡ true → bytes_eq t (codes "Hook") ≡ p →
    ◌≡◌ {A = Option (Grown Item)} (if p then past (codes ")") us (λ rest. at_end (plain (hook_line x)) rest) else follows (new_sort_at t us) (λ s rest. at_end (plain (sort_line x s)) rest)) (Some g) →
    FoundItem top (x ∷ codes "=" ∷ t ∷ u ∷ us) g
round_by x t u us g true name round hook h =
    let a = past_is (codes ")") us (λ rest. at_end (plain (hook_line x)) rest) g h in
    let e = at_end_is (plain (hook_line x)) a.rest g a.on_is in
    record {
      item = hook_line x;
      spelled = (
        refl,
        name,
        ap (λ w. x ∷ codes "=" ∷ w ∷ u ∷ us) (same_text t (codes "Hook") hook) ∙ ap (λ w. x ∷ codes "=" ∷ codes "Hook" ∷ w ∷ us) (same_text u (codes "(") round)
            ∙ ap (λ r. x ∷ codes "=" ∷ codes "Hook" ∷ codes "(" ∷ r) (a.parts ∙ ap (λ r. codes ")" ∷ r) e.none),
      );
      grown = λ most. e.value;
    }
round_by x t u us g false name round hook h =
    let a = follows_is (new_sort_at t us) (λ s rest. at_end (plain (sort_line x s)) rest) g h in
    let f = new_sound t us a.value a.rest a.read in
    let e = at_end_is (plain (sort_line x a.value)) a.rest g a.on_is in
    record {
      item = sort_line x a.value;
      spelled = (
        t ∷ codes "(" ∷ f.front,
        refl,
        name,
        f.spelled,
        ap (λ w. x ∷ codes "=" ∷ t ∷ w ∷ us) (same_text u (codes "(") round) ∙ ap (λ r. x ∷ codes "=" ∷ t ∷ codes "(" ∷ r) (f.parts ∙ ap (λ r. f.front ++ r) e.none ∙ append-nil f.front),
      );
      grown = λ most. e.value;
    }

minus_by : (x t u : Text) (us : List Text) (g : Grown Item) (p : Bool) → is_name x ≡ true → bytes_eq t (codes "-") ≡ p →
    ◌≡◌ {A = Option (Grown Item)} (if p then constant_of x (λ n. neg_ℤ (pos n)) (number_of u) us else None) (Some g) → FoundItem top (x ∷ codes "=" ∷ t ∷ u ∷ us) g
minus_by x t u us g true name minus h =
    let c = constant_is x (λ n. neg_ℤ (pos n)) (number_of u) us g h in
    record {
      item = constant_line x (neg_ℤ (pos c.n));
      spelled = (c.n, u, refl, name, c.is, inr (refl, ap (λ w. x ∷ codes "=" ∷ w ∷ u ∷ us) (same_text t (codes "-") minus) ∙ ap (λ r. x ∷ codes "=" ∷ codes "-" ∷ u ∷ r) c.none));
      grown = λ most. c.value;
    }
minus_by x t u us g false name minus h = absurd cc

value_by : (x t u : Text) (us : List Text) (g : Grown Item) (p : Bool) → is_name x ≡ true → bytes_eq u (codes "(") ≡ p →
    ◌≡◌ {A = Option (Grown Item)} (if p
    then (if bytes_eq t (codes "Hook") then past (codes ")") us (λ rest. at_end (plain (hook_line x)) rest) else follows (new_sort_at t us) (λ s rest. at_end (plain (sort_line x s)) rest))
    else (if bytes_eq t (codes "-") then constant_of x (λ n. neg_ℤ (pos n)) (number_of u) us else None)) (Some g) → FoundItem top (x ∷ codes "=" ∷ t ∷ u ∷ us) g
value_by x t u us g true name round h = round_by x t u us g (bytes_eq t (codes "Hook")) name round refl h
value_by x t u us g false name round h = minus_by x t u us g (bytes_eq t (codes "-")) name refl h

top_from_sound : (x : Text) (ts : List Text) (g : Grown Item) → is_name x ≡ true → top_from x ts ≡ Some g → FoundItem top (x ∷ codes "=" ∷ ts) g
top_from_sound x [] g name h = absurd cc
top_from_sound x (t ∷ []) g name h =
    let c = constant_is x pos (number_of t) [] g h in record { item = constant_line x (pos c.n); spelled = (c.n, t, refl, name, c.is, inl (refl, refl)); grown = λ most. c.value }
top_from_sound x (t ∷ u ∷ us) g name h = value_by x t u us g (bytes_eq u (codes "(")) name refl h

-- ---- classes

based_by : (x t : Text) (ts : List Text) (g : Grown Item) (p : Bool) → is_name x ≡ true → bytes_eq t (codes "(") ≡ p →
    ◌≡◌ {A = Option (Grown Item)} (if p then follows (name_at ts) (λ base rest. past (codes ")") rest (λ rest. past (codes ":") rest (λ rest. at_end (plain (class_line x)) rest))) else None) (Some g) →
    FoundItem top (codes "class" ∷ x ∷ t ∷ ts) g
based_by x t ts g true name round h =
    let a = follows_is (name_at ts) (λ base rest. past (codes ")") rest (λ rest. past (codes ":") rest (λ rest. at_end (plain (class_line x)) rest))) g h in
    let f = name_sound ts a.value a.rest a.read in
    let b = past_is (codes ")") a.rest (λ rest. past (codes ":") rest (λ rest. at_end (plain (class_line x)) rest)) g a.on_is in
    let c = past_is (codes ":") b.rest (λ rest. at_end (plain (class_line x)) rest) g b.on_is in
    let e = at_end_is (plain (class_line x)) c.rest g c.on_is in
    record {
      item = class_line x;
      spelled = (
        refl,
        name,
        inr (
          a.value,
          f.name,
          ap (λ w. codes "class" ∷ x ∷ w ∷ ts) (same_text t (codes "(") round)
              ∙ ap (λ r. codes "class" ∷ x ∷ codes "(" ∷ r) (f.parts ∙ ap (λ r. a.value ∷ r) (b.parts ∙ ap (λ r. codes ")" ∷ r) (c.parts ∙ ap (λ r. codes ":" ∷ r) e.none))),
        ),
      );
      grown = λ most. e.value;
    }
based_by x t ts g false name round h = absurd cc

class_by : (x t : Text) (ts : List Text) (g : Grown Item) (p : Bool) → is_name x ≡ true → bytes_eq t (codes ":") ≡ p →
    ◌≡◌ {A = Option (Grown Item)} (if p then at_end (plain (class_line x)) ts
    else (if bytes_eq t (codes "(") then follows (name_at ts) (λ base rest. past (codes ")") rest (λ rest. past (codes ":") rest (λ rest. at_end (plain (class_line x)) rest))) else None)) (Some g) →
    FoundItem top (codes "class" ∷ x ∷ t ∷ ts) g
class_by x t ts g true name colon h =
    let e = at_end_is (plain (class_line x)) ts g h in
    record {
      item = class_line x;
      spelled = (refl, name, inl (ap (λ w. codes "class" ∷ x ∷ w ∷ ts) (same_text t (codes ":") colon) ∙ ap (λ r. codes "class" ∷ x ∷ codes ":" ∷ r) e.none));
      grown = λ most. e.value;
    }
class_by x t ts g false name colon h = based_by x t ts g (bytes_eq t (codes "(")) name refl h

class_from_sound : (x : Text) (ts : List Text) (g : Grown Item) → is_name x ≡ true → class_from x ts ≡ Some g → FoundItem top (codes "class" ∷ x ∷ ts) g
class_from_sound x [] g name h = absurd cc
class_from_sound x (t ∷ ts) g name h = class_by x t ts g (bytes_eq t (codes ":")) name refl h

-- ---- functions

record Def (x : Text) (xs : List Text) (o : Option Function) (ts : List Text) (g : Grown Item) : Type 0 where
  f : Function
  is : o ≡ Some f
  none : ts ≡ []
  value : g ≡ plain (def_line x xs)

def_is : (x : Text) (xs : List Text) (o : Option Function) (ts : List Text) (g : Grown Item) → def_with x xs o ts ≡ Some g → Def x xs o ts g
def_is x xs None ts g h = absurd cc
def_is x xs (Some f) ts g h = let e = at_end_is (plain (def_line x xs)) ts g h in record { f = f; is = refl; none = e.none; value = e.value }

def_from_sound : (x : Text) (ts : List Text) (g : Grown Item) → is_name x ≡ true → def_from x ts ≡ Some g → FoundItem top (codes "def" ∷ x ∷ ts) g
def_from_sound x ts g name h =
    let a = past_is (codes "(") ts (λ rest. follows (parameters_at rest) (λ xs rest. past (codes ":") rest (λ rest. def_with x xs (function_of x xs) rest))) g h in
    let b = follows_is (parameters_at a.rest) (λ xs rest. past (codes ":") rest (λ rest. def_with x xs (function_of x xs) rest)) g a.on_is in
    let f = parameters_sound a.rest b.value b.rest b.read in
    let c = past_is (codes ":") b.rest (λ rest. def_with x b.value (function_of x b.value) rest) g b.on_is in
    let d = def_is x b.value (function_of x b.value) c.rest g c.on_is in
    record {
      item = def_line x b.value;
      spelled = (
        f.front,
        d.f,
        refl,
        name,
        d.is,
        f.spelled,
        ap (λ r. codes "def" ∷ x ∷ r) (a.parts ∙ ap (λ r. codes "(" ∷ r) (f.parts ∙ ap (λ r. f.front ++ r) (c.parts ∙ ap (λ r. codes ":" ∷ r) d.none))),
      );
      grown = λ most. d.value;
    }

-- ---- the first word

named_by : (t : Text) (ts : List Text) (g : Grown Item) (p : Bool) → is_name t ≡ p → ◌≡◌ {A = Option (Grown Item)} (if p then past (codes "=") ts (top_from t) else None) (Some g) → FoundItem top (t ∷ ts) g
named_by t ts g true name h =
    let a = past_is (codes "=") ts (top_from t) g h in moved top (t ∷ ts) (t ∷ codes "=" ∷ a.rest) g (ap (λ r. t ∷ r) a.parts) (top_from_sound t a.rest g name a.on_is)
named_by t ts g false name h = absurd cc

top_by : (t : Text) (ts : List Text) (g : Grown Item) (p q : Bool) → bytes_eq t (codes "class") ≡ p → bytes_eq t (codes "def") ≡ q →
    ◌≡◌ {A = Option (Grown Item)} (if p then follows (name_at ts) class_from else (if q then follows (name_at ts) def_from else (if is_name t then past (codes "=") ts (top_from t) else None))) (Some g) →
    FoundItem top (t ∷ ts) g
top_by t ts g true q class def h =
    let a = follows_is (name_at ts) class_from g h in
    let f = name_sound ts a.value a.rest a.read in
    moved top (t ∷ ts) (codes "class" ∷ a.value ∷ a.rest) g (ap (λ w. w ∷ ts) (same_text t (codes "class") class) ∙ ap (λ r. codes "class" ∷ r) f.parts) (class_from_sound a.value a.rest g f.name a.on_is)
top_by t ts g false true class def h =
    let a = follows_is (name_at ts) def_from g h in
    let f = name_sound ts a.value a.rest a.read in
    moved top (t ∷ ts) (codes "def" ∷ a.value ∷ a.rest) g (ap (λ w. w ∷ ts) (same_text t (codes "def") def) ∙ ap (λ r. codes "def" ∷ r) f.parts) (def_from_sound a.value a.rest g f.name a.on_is)
top_by t ts g false false class def h = named_by t ts g (is_name t) refl h

pub top_sound : (ts : List Text) (g : Grown Item) → top_at ts ≡ Some g → FoundItem top ts g
top_sound [] g h = absurd cc
top_sound (t ∷ ts) g h = top_by t ts g (bytes_eq t (codes "class")) (bytes_eq t (codes "def")) refl refl h
