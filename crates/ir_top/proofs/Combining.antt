-- What stands one behind the other is read exactly where it is spelled, given that each thing is.
use Rattle.std.proofs.Common.{◌≡◌, ℕ, Bool, true, Option, Some, None, List, [], ◌∷◌, ◌++◌, refl, sym, ◌∙◌, ap, subst, append_assoc, append-nil}
use Rattle.std.specs.Prelude.{if◌then◌else◌}
use Rattle.ir_lex.specs.Tok.{Tok, word, mark}
use Rattle.ir_part.specs.Reader.{Reader, ◌>>=◌, IsSound, IsComplete, ended}
use Rattle.ir_part.specs.Fronts.{after_mark, after_word, is_this_mark, is_this_word}
use Rattle.ir_part.specs.Laws.{IsExact}
use Rattle.ir_part.proofs.Fronts.{bound, some_is, after_mark_is, after_word_is}
use Rattle.ir_top.specs.Combine.{both, Both, sign, IsSign, key, IsKey, whole, IsWhole}

pub both_sound : {A B : Type 0} (S : A → List Tok → Type 0) (T : B → List Tok → Type 0) (p : Reader A) (q : Reader B) → IsSound S p → IsSound T q → IsSound (Both S T) (both p q)
both_sound {A} {B} S T p q s t ts x rest h =
    let a = bound (p ts) (λ (a : A × List Tok). q a.1 >>= (λ (b : B × List Tok). Some ((a.0, b.0), b.1))) (x, rest) h in
    let b = bound (q a.value.1) (λ (b : B × List Tok). Some ((a.value.0, b.0), b.1)) (x, rest) a.rest in
    let e : ((a.value.0, b.value.0), b.value.1) ≡ (x, rest) = some_is b.rest in
    let first = s ts a.value.0 a.value.1 a.was in
    let second = t a.value.1 b.value.0 b.value.1 b.was in
    record {
      front = first.front ++ second.front;
      spelled = subst (λ y. Both S T y (first.front ++ second.front)) (ap (λ r. r.0) e) (first.front, second.front, first.spelled, second.spelled, refl);
      parts = first.parts ∙ ap (λ us. first.front ++ us) (second.parts ∙ ap (λ r. second.front ++ r.1) e) ∙ sym (append_assoc first.front second.front rest);
    }

-- the second behind the first
both_by : {A B : Type 0} (p : Reader A) (q : Reader B) (ts us rest : List Tok) (a : A) (b : B) → p ts ≡ Some (a, us) → q us ≡ Some (b, rest) → both p q ts ≡ Some ((a, b), rest)
both_by {A} {B} p q ts us rest a b h i =
    ap (λ (o : Option (A × List Tok)). o >>= (λ (x : A × List Tok). q x.1 >>= (λ (y : B × List Tok). Some ((x.0, y.0), y.1)))) h
    ∙ ap (λ (o : Option (B × List Tok)). o >>= (λ (y : B × List Tok). Some ((a, y.0), y.1))) i

pub both_complete : {A B : Type 0} (S : A → List Tok → Type 0) (T : B → List Tok → Type 0) (p : Reader A) (q : Reader B) → IsComplete S p → IsComplete T q → IsComplete (Both S T) (both p q)
both_complete S T p q s t x front rest h =
    let shape : front ++ rest ≡ h.0 ++ (h.1 ++ rest) = ap (λ us. us ++ rest) h.4 ∙ append_assoc h.0 h.1 rest in
    ap (both p q) shape ∙ both_by p q (h.0 ++ (h.1 ++ rest)) (h.1 ++ rest) rest x.0 x.1 (s x.0 h.0 (h.1 ++ rest) h.2) (t x.1 h.1 rest h.3)

pub exact_both : {A B : Type 0} (S : A → List Tok → Type 0) (T : B → List Tok → Type 0) (p : Reader A) (q : Reader B) → IsExact S p → IsExact T q → IsExact (Both S T) (both p q)
exact_both S T p q s t = record { sound = both_sound S T p q s.sound t.sound; complete = both_complete S T p q s.complete t.complete }

pub whole_of : {A : Type 0} (S : A → List Tok → Type 0) (p : Reader A) → IsExact S p → IsWhole S p
whole_of S p s = record { sound = s.sound; complete = λ x front h. ap p (sym (append-nil front)) ∙ s.complete x front [] h }

pub whole_both : {A B : Type 0} (S : A → List Tok → Type 0) (T : B → List Tok → Type 0) (p : Reader A) (q : Reader B) → IsExact S p → IsWhole T q → IsWhole (Both S T) (both p q)
whole_both S T p q s t = record {
  sound = both_sound S T p q s.sound t.sound;
  complete = λ x front h. ap (both p q) h.4 ∙ both_by p q (h.0 ++ h.1) h.1 [] x.0 x.1 (s.complete x.0 h.0 h.1 h.2) (t.complete x.1 h.1 h.3);
}

pub exact_sign : (byte : ℕ) → is_this_mark byte (mark byte) ≡ true → IsExact (IsSign byte) (sign byte)
exact_sign byte same = record {
  sound = λ ts x rest h.
      let b = bound (after_mark byte ts) (λ (us : List Tok). Some (tt, us)) (x, rest) h in
      let e : (tt, b.value) ≡ (x, rest) = some_is b.rest in
      record { front = mark byte ∷ []; spelled = refl; parts = after_mark_is byte ts b.value b.was ∙ ap (λ r. mark byte ∷ r.1) e };
  complete = λ x front rest h.
      ap (λ us. sign byte (us ++ rest)) h ∙ ap (λ (b : Bool). (if b then Some rest else None) >>= (λ (us : List Tok). Some (tt, us))) same;
}

pub exact_key : (text : List ℕ) → is_this_word text (word text) ≡ true → IsExact (IsKey text) (key text)
exact_key text same = record {
  sound = λ ts x rest h.
      let b = bound (after_word text ts) (λ (us : List Tok). Some (tt, us)) (x, rest) h in
      let e : (tt, b.value) ≡ (x, rest) = some_is b.rest in
      record { front = word text ∷ []; spelled = refl; parts = after_word_is text ts b.value b.was ∙ ap (λ r. word text ∷ r.1) e };
  complete = λ x front rest h.
      ap (λ us. key text (us ++ rest)) h ∙ ap (λ (b : Bool). (if b then Some rest else None) >>= (λ (us : List Tok). Some (tt, us))) same;
}

ended_is : (ts : List Tok) (u : Unit {0}) → ended ts ≡ Some u → ts ≡ []
ended_is [] u h = refl
ended_is (t ∷ ts) u h = cc

-- what is read of all tokens is spelled by them, and the other way round
pub all_sound : {A : Type 0} (S : A → List Tok → Type 0) (p : Reader A) → IsWhole S p → (ts : List Tok) (x : A) → whole p ts ≡ Some x → S x ts
all_sound {A} S p s ts x h =
    let a = bound (p ts) (λ (a : A × List Tok). ended a.1 >>= (λ (none : Unit {0}). Some a.0)) x h in
    let b = bound (ended a.value.1) (λ (none : Unit {0}). Some a.value.0) x a.rest in
    let takes = s.sound ts a.value.0 a.value.1 a.was in
    let e : ts ≡ takes.front = takes.parts ∙ ap (λ us. takes.front ++ us) (ended_is a.value.1 b.value b.was) ∙ append-nil takes.front in
    subst (λ (y : A). S y ts) (some_is b.rest) (subst (λ us. S a.value.0 us) (sym e) takes.spelled)

pub all_complete : {A : Type 0} (S : A → List Tok → Type 0) (p : Reader A) → IsWhole S p → (ts : List Tok) (x : A) → S x ts → whole p ts ≡ Some x
all_complete {A} S p s ts x h = ap (λ (o : Option (A × List Tok)). o >>= (λ (a : A × List Tok). ended a.1 >>= (λ (none : Unit {0}). Some a.0))) (s.complete x ts h)
