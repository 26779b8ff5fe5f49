-- What stands at the front where it is read, and that it is read where it stands.
use Rattle.std.proofs.Common.{◌≡◌, ℕ, Bool, true, false, ◌==◌, Option, Some, None, List, [], ◌∷◌, ◌++◌, refl, sym, ◌∙◌, ap, ◌⊎◌, inl, inr}
use Rattle.std.specs.Prelude.{if◌then◌else◌, codes, bytes_eq}
use Rattle.std.specs.Cmp.Lexicographic.{same_text}
use Rattle.std.proofs.lemmas.Bool.{eqb-true}
use Rattle.ir_lex.specs.Names.{sigil_name}
use Rattle.ir_lex.specs.Decimal.{width_of, count_of, number_of}
use Rattle.ir_lex.specs.Tok.{Tok, word, mark, IsLocal, IsGlobal, IsLabel}
use Rattle.ir_lex.specs.ValueSpelling.{IsNumber}
use Rattle.ir_lex.specs.declared.token.TokenKind.{TokenKind}
use Rattle.ir_lex.specs.declared.token.TokenKind.TheVariants.{Word, Number, Quoted, Local, Global, Metadata, Attribute, Mark}
use Rattle.ir_part.specs.Reader.{◌>>=◌, IsSound, IsComplete}
use Rattle.ir_part.specs.Fronts.{is_this_mark, is_this_word, after_mark, after_word, local_at, global_at, label_at}
use Rattle.ir_part.specs.Numbers.{count_at, number_at, width_at}
use Rattle.ir_part.specs.Laws.{IsCount, IsWidth}

-- ---- steps

pub some_is : {A : Type 0} {x y : A} → Some x ≡ Some y → x ≡ y
some_is h = cc

-- what a step gave, and what the rest then gives
pub record Bound {A B : Type 0} (o : Option A) (f : A → Option B) (b : B) : Type 0 where
  pub value : A
  pub was : o ≡ Some value
  pub rest : f value ≡ Some b

pub bound : {A B : Type 0} (o : Option A) (f : A → Option B) (b : B) → (o >>= f) ≡ Some b → Bound o f b
bound None f b h = cc
bound (Some a) f b h = record { value = a; was = refl; rest = h }

-- the branch that was taken
pub if_some : {A : Type 0} (b : Bool) (x y : Option A) (r : A) → (if b then x else y) ≡ Some r → ((b ≡ true) × (x ≡ Some r)) ⊎ ((b ≡ false) × (y ≡ Some r))
if_some true x y r h = inl (refl, h)
if_some false x y r h = inr (refl, h)

pub text_is : (text other : List ℕ) → bytes_eq text other ≡ true → text ≡ other
text_is text other e = same_text text other (sym e)

-- ---- marks and words

byte_is : (b byte : ℕ) → (b == byte) ≡ true → b ≡ byte
byte_is b byte e = eqb-true b byte e

pub mark_is : (byte : ℕ) (t : Tok) → is_this_mark byte t ≡ true → t ≡ mark byte
mark_is byte (Word, text) e = cc
mark_is byte (Number, text) e = cc
mark_is byte (Quoted, text) e = cc
mark_is byte (Local, text) e = cc
mark_is byte (Global, text) e = cc
mark_is byte (Metadata, text) e = cc
mark_is byte (Attribute, text) e = cc
mark_is byte (Mark, []) e = cc
mark_is byte (Mark, b ∷ []) e = ap mark (byte_is b byte e)
mark_is byte (Mark, b ∷ c ∷ text) e = cc

pub word_is : (text : List ℕ) (t : Tok) → is_this_word text t ≡ true → t ≡ word text
word_is text (Word, other) e = ap word (text_is other text e)
word_is text (Number, other) e = cc
word_is text (Quoted, other) e = cc
word_is text (Local, other) e = cc
word_is text (Global, other) e = cc
word_is text (Metadata, other) e = cc
word_is text (Attribute, other) e = cc
word_is text (Mark, other) e = cc

pub after_mark_is : (byte : ℕ) (ts rest : List Tok) → after_mark byte ts ≡ Some rest → ts ≡ mark byte ∷ rest
after_mark_is byte [] rest h = cc
after_mark_is byte (t ∷ ts) rest h =
    elim (if_some (is_this_mark byte t) (Some ts) None rest h) [
      | inl p ↦ (let head = mark_is byte t p.0 in let tail : ts ≡ rest = some_is p.1 in ap (λ u. u ∷ ts) head ∙ ap (λ us. mark byte ∷ us) tail)
      | inr p ↦ (let wrong = p.1 in cc)
    ]

pub after_word_is : (text : List ℕ) (ts rest : List Tok) → after_word text ts ≡ Some rest → ts ≡ word text ∷ rest
after_word_is text [] rest h = cc
after_word_is text (t ∷ ts) rest h =
    elim (if_some (is_this_word text t) (Some ts) None rest h) [
      | inl p ↦ (let head = word_is text t p.0 in let tail : ts ≡ rest = some_is p.1 in ap (λ u. u ∷ ts) head ∙ ap (λ us. word text ∷ us) tail)
      | inr p ↦ (let wrong = p.1 in cc)
    ]

-- ---- one token

-- a thing that one token spells, by its text
abbrev pub IsOne : {A : Type 0} → TokenKind → (List ℕ → A → Type 0) → A → List Tok → Type 0
IsOne kind P x ts = (text : List ℕ) × P text x × (ts ≡ (kind, text) ∷ [])

pub count_sound : IsSound IsCount count_at
count_sound [] x rest h = cc
count_sound ((Number, text) ∷ ts) x rest h =
    let b = bound (count_of text) (λ n. Some (n, ts)) (x, rest) h in
    let e : (b.value, ts) ≡ (x, rest) = some_is b.rest in
    record { front = (Number, text) ∷ []; spelled = (text, b.was ∙ ap (λ p. Some p.0) e, refl); parts = ap (λ p. (Number, text) ∷ p.1) e }
count_sound ((Word, text) ∷ ts) x rest h = cc
count_sound ((Quoted, text) ∷ ts) x rest h = cc
count_sound ((Local, text) ∷ ts) x rest h = cc
count_sound ((Global, text) ∷ ts) x rest h = cc
count_sound ((Metadata, text) ∷ ts) x rest h = cc
count_sound ((Attribute, text) ∷ ts) x rest h = cc
count_sound ((Mark, text) ∷ ts) x rest h = cc

pub count_complete : IsComplete IsCount count_at
count_complete n front rest s = ap (λ us. count_at (us ++ rest)) s.2 ∙ ap (λ o. o >>= (λ m. Some (m, rest))) s.1

pub number_sound : IsSound IsNumber number_at
number_sound [] x rest h = cc
number_sound ((Number, text) ∷ ts) x rest h =
    let b = bound (number_of text) (λ n. Some (n, ts)) (x, rest) h in
    let e : (b.value, ts) ≡ (x, rest) = some_is b.rest in
    record { front = (Number, text) ∷ []; spelled = (text, b.was ∙ ap (λ p. Some p.0) e, refl); parts = ap (λ p. (Number, text) ∷ p.1) e }
number_sound ((Word, text) ∷ ts) x rest h = cc
number_sound ((Quoted, text) ∷ ts) x rest h = cc
number_sound ((Local, text) ∷ ts) x rest h = cc
number_sound ((Global, text) ∷ ts) x rest h = cc
number_sound ((Metadata, text) ∷ ts) x rest h = cc
number_sound ((Attribute, text) ∷ ts) x rest h = cc
number_sound ((Mark, text) ∷ ts) x rest h = cc

pub number_complete : IsComplete IsNumber number_at
number_complete n front rest s = ap (λ us. number_at (us ++ rest)) s.2 ∙ ap (λ o. o >>= (λ m. Some (m, rest))) s.1

pub width_sound : IsSound IsWidth width_at
width_sound [] x rest h = cc
width_sound ((Word, text) ∷ ts) x rest h =
    let b = bound (width_of text) (λ n. Some (n, ts)) (x, rest) h in
    let e : (b.value, ts) ≡ (x, rest) = some_is b.rest in
    record { front = word text ∷ []; spelled = (text, b.was ∙ ap (λ p. Some p.0) e, refl); parts = ap (λ p. word text ∷ p.1) e }
width_sound ((Number, text) ∷ ts) x rest h = cc
width_sound ((Quoted, text) ∷ ts) x rest h = cc
width_sound ((Local, text) ∷ ts) x rest h = cc
width_sound ((Global, text) ∷ ts) x rest h = cc
width_sound ((Metadata, text) ∷ ts) x rest h = cc
width_sound ((Attribute, text) ∷ ts) x rest h = cc
width_sound ((Mark, text) ∷ ts) x rest h = cc

pub width_complete : IsComplete IsWidth width_at
width_complete n front rest s = ap (λ us. width_at (us ++ rest)) s.2 ∙ ap (λ o. o >>= (λ m. Some (m, rest))) s.1

pub local_sound : IsSound IsLocal local_at
local_sound [] x rest h = cc
local_sound ((Local, text) ∷ ts) x rest h =
    let e : (sigil_name text, ts) ≡ (x, rest) = some_is h in
    record { front = (Local, text) ∷ []; spelled = (text, ap (λ p. p.0) e, refl); parts = ap (λ p. (Local, text) ∷ p.1) e }
local_sound ((Word, text) ∷ ts) x rest h = cc
local_sound ((Number, text) ∷ ts) x rest h = cc
local_sound ((Quoted, text) ∷ ts) x rest h = cc
local_sound ((Global, text) ∷ ts) x rest h = cc
local_sound ((Metadata, text) ∷ ts) x rest h = cc
local_sound ((Attribute, text) ∷ ts) x rest h = cc
local_sound ((Mark, text) ∷ ts) x rest h = cc

pub local_complete : IsComplete IsLocal local_at
local_complete name front rest s = ap (λ us. local_at (us ++ rest)) s.2 ∙ ap (λ x. Some (x, rest)) s.1

pub global_sound : IsSound IsGlobal global_at
global_sound [] x rest h = cc
global_sound ((Global, text) ∷ ts) x rest h =
    let e : (sigil_name text, ts) ≡ (x, rest) = some_is h in
    record { front = (Global, text) ∷ []; spelled = (text, ap (λ p. p.0) e, refl); parts = ap (λ p. (Global, text) ∷ p.1) e }
global_sound ((Word, text) ∷ ts) x rest h = cc
global_sound ((Number, text) ∷ ts) x rest h = cc
global_sound ((Quoted, text) ∷ ts) x rest h = cc
global_sound ((Local, text) ∷ ts) x rest h = cc
global_sound ((Metadata, text) ∷ ts) x rest h = cc
global_sound ((Attribute, text) ∷ ts) x rest h = cc
global_sound ((Mark, text) ∷ ts) x rest h = cc

pub global_complete : IsComplete IsGlobal global_at
global_complete name front rest s = ap (λ us. global_at (us ++ rest)) s.2 ∙ ap (λ x. Some (x, rest)) s.1

pub label_sound : IsSound IsLabel label_at
label_sound ts x rest h =
    let b = bound (after_word (codes "label") ts) local_at (x, rest) h in
    let p = after_word_is (codes "label") ts b.value b.was in
    let s = local_sound b.value x rest b.rest in
    record { front = word (codes "label") ∷ s.front; spelled = (s.front, s.spelled, refl); parts = p ∙ ap (λ us. word (codes "label") ∷ us) s.parts }

pub label_complete : IsComplete IsLabel label_at
label_complete name front rest s = ap (λ us. label_at (us ++ rest)) s.2 ∙ local_complete name s.0 rest s.1
