-- A token list spells at most one type, and where a type ends is settled by its tokens.
use Rattle.std.proofs.Common.{◌≡◌, ℕ, List, [], ◌∷◌, ◌++◌, refl, sym, ◌∙◌, ap, append_assoc, arith}
use Rattle.std.specs.Prelude.{Option, Some, None, codes, if◌then◌else◌, ◌==◌, slice_index}
use Rattle.ir_ast.specs.Plain.{Ty, Tys, nothing, integer, pointer, array, structure, packed, named, opaque, no_types, type_and}
use Rattle.ir_lex.specs.Tok.{Tok, word, mark}
use Rattle.ir_lex.specs.Decimal.{width_of, count_of}
use Rattle.ir_lex.specs.Names.{sigil_name}
use Rattle.ir_lex.specs.TypeSpelling.{Spells, SpellsParts, SpellsMore}
use Rattle.ir_lex.specs.declared.token.TokenKind.{TokenKind}
use Rattle.ir_lex.specs.declared.token.TokenKind.TheVariants.{Word, Number, Local, Mark}

-- which production a first token belongs to
abbrev mark_class : List ℕ → ℕ
mark_class [] = 0
mark_class (b ∷ ys) = if b == 91 then 4 else (if b == 123 then 5 else (if b == 60 then 6 else 0))

abbrev word_class : Option ℕ → ℕ
word_class None = 2
word_class (Some w) = 1

abbrev kind_class : TokenKind → List ℕ → ℕ
kind_class Word text = word_class (width_of text)
kind_class Local text = 3
kind_class Mark text = mark_class text
kind_class _ text = 0

abbrev class : List Tok → ℕ
class [] = 0
class (t ∷ ts) = kind_class t.0 t.1

abbrev class_of : Ty → ℕ
class_of nothing = 7
class_of (integer w) = 1
class_of pointer = 2
class_of (named name) = 3
class_of (array n t) = 4
class_of (structure parts) = 5
class_of (packed parts) = 6
class_of opaque = 7

some_class : (text : List ℕ) (w : ℕ) → width_of text ≡ Some w → word_class (width_of text) ≡ 1
some_class text w is = ap word_class is

ptr_class : word_class (width_of (codes "ptr")) ≡ 2
unfolding width_of
ptr_class = refl

class_is : (t : Ty) (ts rest : List Tok) → Spells t ts → class (ts ++ rest) ≡ class_of t
class_is nothing ts rest s = absurd s
class_is (integer w) ts rest s = ap (λ us. class (us ++ rest)) s.2 ∙ some_class s.0 w s.1
class_is pointer ts rest s = ap (λ us. class (us ++ rest)) s ∙ ptr_class
class_is (array n t) ts rest s = ap (λ us. class (us ++ rest)) s.4
class_is (structure parts) ts rest s = ap (λ us. class (us ++ rest)) s.2
class_is (packed parts) ts rest s = ap (λ us. class (us ++ rest)) s.2
class_is (named name) ts rest s = ap (λ us. class (us ++ rest)) s.2
class_is opaque ts rest s = absurd s

-- ---- tokens apart

pub cons_head : (a b : Tok) (xs ys : List Tok) → a ∷ xs ≡ b ∷ ys → a ≡ b
cons_head a b xs ys e = cc

pub cons_tail : (a b : Tok) (xs ys : List Tok) → a ∷ xs ≡ b ∷ ys → xs ≡ ys
cons_tail a b xs ys e = cc

some_same : (a b : ℕ) → Some a ≡ Some b → a ≡ b
some_same a b e = cc

-- two texts with one tail are told apart by what they spell
pub same_value : (read : List ℕ → Option ℕ) (a b : List ℕ) (m n : ℕ) → read a ≡ Some m → read b ≡ Some n → a ≡ b → m ≡ n
same_value read a b m n is was e = some_same m n (sym is ∙ ap read e ∙ was)

-- a first token that belongs to no type
no_class : (t : Ty) → class_of t ≡ 0 → ⊥
no_class nothing e = cc
no_class (integer w) e = cc
no_class pointer e = cc
no_class (named name) e = cc
no_class (array n t) e = cc
no_class (structure parts) e = cc
no_class (packed parts) e = cc
no_class opaque e = cc

byte_of : Tok → ℕ
byte_of t = slice_index t.1 0

same_class : (t u : Ty) (ts us after behind : List Tok) → Spells t ts → Spells u us → ts ++ after ≡ us ++ behind → class_of t ≡ class_of u
same_class t u ts us after behind s r e = sym (class_is t ts after s) ∙ ap class e ∙ class_is u us behind r

-- the same tokens with what spells each written out
exchange : (ts us xs ys after behind : List Tok) → ts ≡ xs → us ≡ ys → ts ++ after ≡ us ++ behind → xs ++ after ≡ ys ++ behind
exchange ts us xs ys after behind s r e = sym (ap (λ x. x ++ after) s) ∙ e ∙ ap (λ x. x ++ behind) r

regroup : (xs ys cs ds after behind : List Tok) → (xs ++ ys) ++ after ≡ (cs ++ ds) ++ behind → xs ++ (ys ++ after) ≡ cs ++ (ds ++ behind)
regroup xs ys cs ds after behind e = sym (append_assoc xs ys after) ∙ e ∙ append_assoc cs ds behind

-- the closing mark belongs to no type, and is no comma
closed_early : (u : Ty) (first rest after behind : List Tok) → Spells u first → mark 125 ∷ after ≡ (first ++ rest) ++ behind → ⊥
closed_early u first rest after behind s e = no_class u (sym (class_is u first (rest ++ behind) s) ∙ sym (ap class (append_assoc first rest behind)) ∙ sym (ap class e))

no_comma : (xs ys : List Tok) → mark 125 ∷ xs ≡ mark 44 ∷ ys → ⊥
unfolding byte_of
no_comma xs ys e =
    let bytes : 125 ≡ 44 = ap byte_of (cons_head (mark 125) (mark 44) xs ys e) in
    omega (arith, bytes)

mutual
  type_front : (t u : Ty) (ts us after behind : List Tok) → Spells t ts → Spells u us → ts ++ after ≡ us ++ behind → class_of t ≡ class_of u → (t ≡ u) × (after ≡ behind)
  type_front nothing u ts us after behind s r e c = absurd s
  type_front opaque u ts us after behind s r e c = absurd s
  type_front (integer w) (integer v) ts us after behind s r e c =
      let e' = exchange ts us (word s.0 ∷ []) (word r.0 ∷ []) after behind s.2 r.2 e in
      let text = ap (λ p. p.1) (cons_head (word s.0) (word r.0) after behind e') in
      (ap integer (same_value width_of s.0 r.0 w v s.1 r.1 text), cons_tail (word s.0) (word r.0) after behind e')
  type_front (integer w) u ts us after behind s r e c = absurd (omega arith)
  type_front pointer pointer ts us after behind s r e c =
      (refl, cons_tail (word (codes "ptr")) (word (codes "ptr")) after behind (exchange ts us (word (codes "ptr") ∷ []) (word (codes "ptr") ∷ []) after behind s r e))
  type_front pointer u ts us after behind s r e c = absurd (omega arith)
  type_front (named x) (named y) ts us after behind s r e c =
      let e' = exchange ts us ((Local, s.0) ∷ []) ((Local, r.0) ∷ []) after behind s.2 r.2 e in
      let text = ap (λ p. p.1) (cons_head (Local, s.0) (Local, r.0) after behind e') in
      (ap named (sym s.1 ∙ ap sigil_name text ∙ r.1), cons_tail (Local, s.0) (Local, r.0) after behind e')
  type_front (named x) u ts us after behind s r e c = absurd (omega arith)
  type_front (array n t) (array m u) ts us after behind s r e c =
      let e0 = exchange ts us (mark 91 ∷ (Number, s.0) ∷ word (codes "x") ∷ (s.1 ++ mark 93 ∷ [])) (mark 91 ∷ (Number, r.0) ∷ word (codes "x") ∷ (r.1 ++ mark 93 ∷ [])) after behind s.4 r.4 e in
      let e1 = cons_tail (mark 91) (mark 91) ((Number, s.0) ∷ word (codes "x") ∷ ((s.1 ++ mark 93 ∷ []) ++ after)) ((Number, r.0) ∷ word (codes "x") ∷ ((r.1 ++ mark 93 ∷ []) ++ behind)) e0 in
      let text = ap (λ p. p.1) (cons_head (Number, s.0) (Number, r.0) (word (codes "x") ∷ ((s.1 ++ mark 93 ∷ []) ++ after)) (word (codes "x") ∷ ((r.1 ++ mark 93 ∷ []) ++ behind)) e1) in
      let e2 = cons_tail (Number, s.0) (Number, r.0) (word (codes "x") ∷ ((s.1 ++ mark 93 ∷ []) ++ after)) (word (codes "x") ∷ ((r.1 ++ mark 93 ∷ []) ++ behind)) e1 in
      let e3 = regroup s.1 (mark 93 ∷ []) r.1 (mark 93 ∷ []) after behind (cons_tail (word (codes "x")) (word (codes "x")) ((s.1 ++ mark 93 ∷ []) ++ after) ((r.1 ++ mark 93 ∷ []) ++ behind) e2) in
      let inner = type_front t u s.1 r.1 (mark 93 ∷ after) (mark 93 ∷ behind) s.3 r.3 e3 (same_class t u s.1 r.1 (mark 93 ∷ after) (mark 93 ∷ behind) s.3 r.3 e3) in
      (ap (λ k. array k t) (same_value count_of s.0 r.0 n m s.2 r.2 text) ∙ ap (array m) inner.0, cons_tail (mark 93) (mark 93) after behind inner.1)
  type_front (array n t) u ts us after behind s r e c = absurd (omega arith)
  type_front (structure ps) (structure qs) ts us after behind s r e c =
      let e0 = exchange ts us (mark 123 ∷ (s.0 ++ mark 125 ∷ [])) (mark 123 ∷ (r.0 ++ mark 125 ∷ [])) after behind s.2 r.2 e in
      let e1 = cons_tail (mark 123) (mark 123) ((s.0 ++ mark 125 ∷ []) ++ after) ((r.0 ++ mark 125 ∷ []) ++ behind) e0 in
      let inner = parts_front ps qs s.0 r.0 after behind s.1 r.1 (regroup s.0 (mark 125 ∷ []) r.0 (mark 125 ∷ []) after behind e1) in
      (ap structure inner.0, inner.1)
  type_front (structure ps) u ts us after behind s r e c = absurd (omega arith)
  type_front (packed ps) (packed qs) ts us after behind s r e c =
      let e0 = exchange ts us (mark 60 ∷ mark 123 ∷ (s.0 ++ mark 125 ∷ mark 62 ∷ [])) (mark 60 ∷ mark 123 ∷ (r.0 ++ mark 125 ∷ mark 62 ∷ [])) after behind s.2 r.2 e in
      let e1 = cons_tail (mark 60) (mark 60) (mark 123 ∷ ((s.0 ++ mark 125 ∷ mark 62 ∷ []) ++ after)) (mark 123 ∷ ((r.0 ++ mark 125 ∷ mark 62 ∷ []) ++ behind)) e0 in
      let e2 = cons_tail (mark 123) (mark 123) ((s.0 ++ mark 125 ∷ mark 62 ∷ []) ++ after) ((r.0 ++ mark 125 ∷ mark 62 ∷ []) ++ behind) e1 in
      let inner = parts_front ps qs s.0 r.0 (mark 62 ∷ after) (mark 62 ∷ behind) s.1 r.1 (regroup s.0 (mark 125 ∷ mark 62 ∷ []) r.0 (mark 125 ∷ mark 62 ∷ []) after behind e2) in
      (ap packed inner.0, cons_tail (mark 62) (mark 62) after behind inner.1)
  type_front (packed ps) u ts us after behind s r e c = absurd (omega arith)

  parts_front : (ps qs : Tys) (ts us after behind : List Tok) → SpellsParts ps ts → SpellsParts qs us → ts ++ mark 125 ∷ after ≡ us ++ mark 125 ∷ behind → (ps ≡ qs) × (after ≡ behind)
  parts_front no_types no_types ts us after behind s r e =
      (refl, cons_tail (mark 125) (mark 125) after behind (exchange ts us [] [] (mark 125 ∷ after) (mark 125 ∷ behind) s r e))
  parts_front no_types (type_and u qs) ts us after behind s r e =
      absurd (closed_early u r.0 r.1 after (mark 125 ∷ behind) r.2 (exchange ts us [] (r.0 ++ r.1) (mark 125 ∷ after) (mark 125 ∷ behind) s r.4 e))
  parts_front (type_and t ps) no_types ts us after behind s r e =
      absurd (closed_early t s.0 s.1 behind (mark 125 ∷ after) s.2 (sym (exchange ts us (s.0 ++ s.1) [] (mark 125 ∷ after) (mark 125 ∷ behind) s.4 r e)))
  parts_front (type_and t ps) (type_and u qs) ts us after behind s r e =
      let e0 = regroup s.0 s.1 r.0 r.1 (mark 125 ∷ after) (mark 125 ∷ behind) (exchange ts us (s.0 ++ s.1) (r.0 ++ r.1) (mark 125 ∷ after) (mark 125 ∷ behind) s.4 r.4 e) in
      let first = type_front t u s.0 r.0 (s.1 ++ mark 125 ∷ after) (r.1 ++ mark 125 ∷ behind) s.2 r.2 e0 (same_class t u s.0 r.0 (s.1 ++ mark 125 ∷ after) (r.1 ++ mark 125 ∷ behind) s.2 r.2 e0) in
      let others = more_front ps qs s.1 r.1 after behind s.3 r.3 first.1 in
      (ap (λ v. type_and v ps) first.0 ∙ ap (type_and u) others.0, others.1)

  more_front : (ps qs : Tys) (ts us after behind : List Tok) → SpellsMore ps ts → SpellsMore qs us → ts ++ mark 125 ∷ after ≡ us ++ mark 125 ∷ behind → (ps ≡ qs) × (after ≡ behind)
  more_front no_types no_types ts us after behind s r e =
      (refl, cons_tail (mark 125) (mark 125) after behind (exchange ts us [] [] (mark 125 ∷ after) (mark 125 ∷ behind) s r e))
  more_front no_types (type_and u qs) ts us after behind s r e =
      absurd (no_comma after ((r.0 ++ r.1) ++ mark 125 ∷ behind) (exchange ts us [] (mark 44 ∷ (r.0 ++ r.1)) (mark 125 ∷ after) (mark 125 ∷ behind) s r.4 e))
  more_front (type_and t ps) no_types ts us after behind s r e =
      absurd (no_comma behind ((s.0 ++ s.1) ++ mark 125 ∷ after) (sym (exchange ts us (mark 44 ∷ (s.0 ++ s.1)) [] (mark 125 ∷ after) (mark 125 ∷ behind) s.4 r e)))
  more_front (type_and t ps) (type_and u qs) ts us after behind s r e =
      let e0 = exchange ts us (mark 44 ∷ (s.0 ++ s.1)) (mark 44 ∷ (r.0 ++ r.1)) (mark 125 ∷ after) (mark 125 ∷ behind) s.4 r.4 e in
      let e1 = regroup s.0 s.1 r.0 r.1 (mark 125 ∷ after) (mark 125 ∷ behind) (cons_tail (mark 44) (mark 44) ((s.0 ++ s.1) ++ mark 125 ∷ after) ((r.0 ++ r.1) ++ mark 125 ∷ behind) e0) in
      let first = type_front t u s.0 r.0 (s.1 ++ mark 125 ∷ after) (r.1 ++ mark 125 ∷ behind) s.2 r.2 e1 (same_class t u s.0 r.0 (s.1 ++ mark 125 ∷ after) (r.1 ++ mark 125 ∷ behind) s.2 r.2 e1) in
      let others = more_front ps qs s.1 r.1 after behind s.3 r.3 first.1 in
      (ap (λ v. type_and v ps) first.0 ∙ ap (type_and u) others.0, others.1)

-- a type and what stands behind it are settled by the tokens
pub type_at_front : (t u : Ty) (ts us after behind : List Tok) → Spells t ts → Spells u us → ts ++ after ≡ us ++ behind → (t ≡ u) × (after ≡ behind)
type_at_front t u ts us after behind s r e = type_front t u ts us after behind s r e (same_class t u ts us after behind s r e)

-- a token list spells at most one type
pub spells_one_type : (t u : Ty) (ts : List Tok) → Spells t ts → Spells u ts → t ≡ u
spells_one_type t u ts s r = (type_at_front t u ts ts [] [] s r refl).0
