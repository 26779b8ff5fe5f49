-- What the words of comparisons stand for.
use Rattle.std.proofs.Common.{◌≡◌, ℕ, Option, Some, None, List, [], ◌∷◌, refl, sym, subst, ◌⊎◌, inl, inr}
use Rattle.std.specs.Prelude.{bytes_eq}
use Rattle.ir_ast.specs.declared.instr.Predicate.{Predicate}
use Rattle.ir_ast.specs.declared.instr.Predicate.TheVariants.{Eq, Ne, Ugt, Uge, Ult, Ule, Sgt, Sge, Slt, Sle}
use Rattle.ir_lex.specs.Parts.{predicate_word}
use Rattle.ir_part.proofs.Fronts.{some_is, if_some, text_is}
use Rattle.ir_body.specs.Words.{lookup, or_else, unsigned_words, signed_words, unsigned_of, signed_of, predicate_of}

-- each entry of a table has the property
abbrev pub Each : {A : Type 0} → (List ℕ → A → Type 0) → List (List ℕ × A) → Type 0
Each P [] = Unit {0}
Each P (e ∷ es) = P e.0 e.1 × Each P es

pub lookup_holds : {A : Type 0} (P : List ℕ → A → Type 0) (es : List (List ℕ × A)) (text : List ℕ) (a : A) → Each P es → lookup es text ≡ Some a → P text a
lookup_holds P [] text a each h = cc
lookup_holds P (e ∷ es) text a each h =
    elim (if_some (bytes_eq text e.0) (Some e.1) (lookup es text) a h) [
      | inl p ↦ (let same : e.1 ≡ a = some_is p.1 in subst (λ x. P text x) same (subst (λ t. P t e.1) (sym (text_is text e.0 p.0)) each.0))
      | inr p ↦ lookup_holds P es text a each.1 p.1
    ]

pub either : {A : Type 0} (o other : Option A) (a : A) → or_else o other ≡ Some a → (o ≡ Some a) ⊎ (other ≡ Some a)
either (Some b) other a h = inl h
either None other a h = inr h

abbrev IsWordOf : List ℕ → Predicate → Type 0
IsWordOf text p = text ≡ predicate_word p

pub predicate_found : (text : List ℕ) (p : Predicate) → predicate_of text ≡ Some p → text ≡ predicate_word p
unfolding predicate_of unsigned_of signed_of
predicate_found text p h =
    elim (either (lookup unsigned_words text) (lookup signed_words text) p h) [
      | inl u ↦ lookup_holds IsWordOf unsigned_words text p (refl, (refl, (refl, (refl, (refl, (refl, tt)))))) u
      | inr s ↦ lookup_holds IsWordOf signed_words text p (refl, (refl, (refl, (refl, tt)))) s
    ]

pub predicate_there : (p : Predicate) → predicate_of (predicate_word p) ≡ Some p
unfolding predicate_of unsigned_of signed_of
predicate_there Eq = refl
predicate_there Ne = refl
predicate_there Ugt = refl
predicate_there Uge = refl
predicate_there Ult = refl
predicate_there Ule = refl
predicate_there Sgt = refl
predicate_there Sge = refl
predicate_there Slt = refl
predicate_there Sle = refl
