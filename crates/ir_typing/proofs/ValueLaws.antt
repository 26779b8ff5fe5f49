-- Operands are told to be the same exactly where they are by their values.
use Rattle.std.proofs.Common.{◌≡◌, ℕ, ℤ, pos, Bool, true, false, ◌&&◌, Option, None, List, [], ◌∷◌, suc, length, refl, sym, ◌∙◌, ap, subst, int_eq}
use Rattle.std.specs.Bool.{beq, Decides, MatchBool}
use Rattle.std.specs.Prelude.{bytes_eq}
use Rattle.std.specs.Cmp.Lexicographic.{same_text}
use Rattle.std.proofs.lemmas.Bool.{eqb-true, eq-eqb}
use Rattle.std.proofs.lemmas.Bool.Decides.{Decides-int_eq}
use Rattle.std.proofs.lemmas.Slice.Eq.{bytes_eq-Decides}
use Rattle.ir_ast.specs.Plain.{Ty, nothing, integer, pointer, array, structure, packed, named, opaque, Val, Form, Indices, local, global, number, null, poison, address, form, no_indices, index_and}
use Rattle.ir_ast.specs.View.{view_type, view_operand, view_indices}
use Rattle.ir_ast.specs.declared.types.IrType.{IrType}
use Rattle.ir_ast.specs.declared.operand.Operand.{Operand}
use Rattle.ir_ast.specs.declared.operand.Flags.{Flags}
use Rattle.ir_type.specs.Whole.{Types, meant}
use Rattle.ir_whole.specs.Questions.{width_of}
use Rattle.ir_typing.specs.Fits.{modulo}
use Rattle.ir_typing.specs.Same.{same_type, same_flags, same_number, same_operand, same_form, same_indices}
use Rattle.ir_typing.specs.Values.{number_at, by_value, form_by_value, indices_by_value}
use Rattle.ir_typing.proofs.SameLaw.{same_is, both_true, both_hold}

-- ---- flags

bit_found : (a b : Bool) → beq a b ≡ true → a ≡ b
bit_found true true h = refl
bit_found true false h = cc
bit_found false true h = cc
bit_found false false h = refl

bit_self : (a : Bool) → beq a a ≡ true
bit_self true = refl
bit_self false = refl

abbrev pub flags_of : Bool → Bool → Bool → Bool → Bool → Bool → Flags
flags_of a b c d e f = record { nuw = a; nsw = b; exact = c; disjoint = d; nneg = e; inbounds = f }

flags_found : (f g : Flags) → same_flags f g ≡ true → f ≡ g
flags_found f g h =
    let p5 = both_true (beq f.nuw g.nuw && beq f.nsw g.nsw && beq f.exact g.exact && beq f.disjoint g.disjoint && beq f.nneg g.nneg) (beq f.inbounds g.inbounds) h in
    let p4 = both_true (beq f.nuw g.nuw && beq f.nsw g.nsw && beq f.exact g.exact && beq f.disjoint g.disjoint) (beq f.nneg g.nneg) p5.0 in
    let p3 = both_true (beq f.nuw g.nuw && beq f.nsw g.nsw && beq f.exact g.exact) (beq f.disjoint g.disjoint) p4.0 in
    let p2 = both_true (beq f.nuw g.nuw && beq f.nsw g.nsw) (beq f.exact g.exact) p3.0 in
    let p1 = both_true (beq f.nuw g.nuw) (beq f.nsw g.nsw) p2.0 in
    ap (λ x. flags_of x f.nsw f.exact f.disjoint f.nneg f.inbounds) (bit_found f.nuw g.nuw p1.0)
    ∙ ap (λ x. flags_of g.nuw x f.exact f.disjoint f.nneg f.inbounds) (bit_found f.nsw g.nsw p1.1)
    ∙ ap (λ x. flags_of g.nuw g.nsw x f.disjoint f.nneg f.inbounds) (bit_found f.exact g.exact p2.1)
    ∙ ap (λ x. flags_of g.nuw g.nsw g.exact x f.nneg f.inbounds) (bit_found f.disjoint g.disjoint p3.1)
    ∙ ap (λ x. flags_of g.nuw g.nsw g.exact g.disjoint x f.inbounds) (bit_found f.nneg g.nneg p4.1)
    ∙ ap (λ x. flags_of g.nuw g.nsw g.exact g.disjoint g.nneg x) (bit_found f.inbounds g.inbounds p5.1)

flags_self : (f : Flags) → same_flags f f ≡ true
flags_self f =
    both_hold (beq f.nuw f.nuw && beq f.nsw f.nsw && beq f.exact f.exact && beq f.disjoint f.disjoint && beq f.nneg f.nneg) (beq f.inbounds f.inbounds)
    (both_hold (beq f.nuw f.nuw && beq f.nsw f.nsw && beq f.exact f.exact && beq f.disjoint f.disjoint) (beq f.nneg f.nneg)
    (both_hold (beq f.nuw f.nuw && beq f.nsw f.nsw && beq f.exact f.exact) (beq f.disjoint f.disjoint)
    (both_hold (beq f.nuw f.nuw && beq f.nsw f.nsw) (beq f.exact f.exact)
    (both_hold (beq f.nuw f.nuw) (beq f.nsw f.nsw) (bit_self f.nuw) (bit_self f.nsw)) (bit_self f.exact)) (bit_self f.disjoint)) (bit_self f.nneg)) (bit_self f.inbounds)

flags_same : (f g : Flags) → f ≡ g → same_flags f g ≡ true
flags_same f g e = ap (same_flags f) (sym e) ∙ flags_self f

-- ---- numbers

-- what a number stands for at a place of a type
abbrev pub value_at : Ty → ℤ → ℤ
value_at (integer w) n = pos (modulo w n)
value_at _ n = n

stays_number : (t : Ty) (n : ℤ) → number_at t n ≡ number (value_at t n)
stays_number (integer w) n = refl
stays_number nothing n = refl
stays_number pointer n = refl
stays_number (array k t) n = refl
stays_number (structure ts) n = refl
stays_number (packed ts) n = refl
stays_number (named x) n = refl
stays_number opaque n = refl

plain_law : (m n : ℤ) → Decides (int_eq m n) (number m ≡ number n)
plain_law m n = (λ h. ap number ((Decides-int_eq m n).0 h), λ e. let same : m ≡ n = cc in (Decides-int_eq m n).1 same)

number_law : (t : Ty) (m n : ℤ) → Decides (same_number (width_of t) m n) (number_at t m ≡ number_at t n)
number_law (integer w) m n = (λ h. ap (λ k. number (pos k)) (eqb-true (modulo w m) (modulo w n) h), λ e. let same : modulo w m ≡ modulo w n = cc in eq-eqb (modulo w m) (modulo w n) same)
number_law nothing m n = plain_law m n
number_law pointer m n = plain_law m n
number_law (array k t) m n = plain_law m n
number_law (structure ts) m n = plain_law m n
number_law (packed ts) m n = plain_law m n
number_law (named x) m n = plain_law m n
number_law opaque m n = plain_law m n

-- ---- operands

-- where two things differ
differ : {P : Type 0} → (P → ⊥) → Decides false P
differ never = (λ h. absurd cc, λ p. absurd (never p))

no_number : (t : Ty) (n : ℤ) (v : Val) → ((m : ℤ) → v ≡ number m → ⊥) → v ≡ number_at t n → ⊥
no_number t n v never e = never (value_at t n) (e ∙ stays_number t n)

text_law : (make : List ℕ → Val) → ((x y : List ℕ) → make x ≡ make y → x ≡ y) → (x y : List ℕ) → Decides (bytes_eq x y) (make x ≡ make y)
text_law make one x y = (λ h. ap make (same_text x y (sym h)), λ e. (bytes_eq-Decides x y).1 (one x y e))

module _ (types : Types) where
  form_from : (flags others : Flags) (over t : Ty) (base b : Val) (is js : Indices)
      → Decides (same_operand types None base b) (by_value types pointer base ≡ by_value types pointer b)
      → Decides (same_indices types is js) (indices_by_value types is ≡ indices_by_value types js)
      → Decides (same_form types (form flags over base is) (form others t b js)) (form_by_value types (form flags over base is) ≡ form_by_value types (form others t b js))
  form_from flags others over t base b is js base_law rest_law = (found, told)
    where
      found : same_form types (form flags over base is) (form others t b js) ≡ true → form_by_value types (form flags over base is) ≡ form_by_value types (form others t b js)
      found h =
          let p2 = both_true (same_flags flags others && same_type over t && same_operand types None base b) (same_indices types is js) h in
          let p1 = both_true (same_flags flags others && same_type over t) (same_operand types None base b) p2.0 in
          let p0 = both_true (same_flags flags others) (same_type over t) p1.0 in
          ap (λ x. form x over (by_value types pointer base) (indices_by_value types is)) (flags_found flags others p0.0)
          ∙ ap (λ x. form others x (by_value types pointer base) (indices_by_value types is)) ((same_is over t).0 p0.1)
          ∙ ap (λ x. form others t x (indices_by_value types is)) (base_law.0 p1.1)
          ∙ ap (form others t (by_value types pointer b)) (rest_law.0 p2.1)

      told : form_by_value types (form flags over base is) ≡ form_by_value types (form others t b js) → same_form types (form flags over base is) (form others t b js) ≡ true
      told e =
          let words : flags ≡ others = cc in
          let spelled : over ≡ t = cc in
          let bases : by_value types pointer base ≡ by_value types pointer b = cc in
          let rests : indices_by_value types is ≡ indices_by_value types js = cc in
          both_hold (same_flags flags others && same_type over t && same_operand types None base b) (same_indices types is js)
          (both_hold (same_flags flags others && same_type over t) (same_operand types None base b)
          (both_hold (same_flags flags others) (same_type over t) (flags_same flags others words) ((same_is over t).1 spelled)) (base_law.1 bases)) (rest_law.1 rests)

  indices_from : (t u : Ty) (v w : Val) (is js : Indices)
      → Decides (same_operand types (width_of (meant types t)) v w) (by_value types (meant types t) v ≡ by_value types (meant types t) w)
      → Decides (same_indices types is js) (indices_by_value types is ≡ indices_by_value types js)
      → Decides (same_indices types (index_and t v is) (index_and u w js)) (indices_by_value types (index_and t v is) ≡ indices_by_value types (index_and u w js))
  indices_from t u v w is js one_law rest_law = (found, told)
    where
      found : same_indices types (index_and t v is) (index_and u w js) ≡ true → indices_by_value types (index_and t v is) ≡ indices_by_value types (index_and u w js)
      found h =
          let p1 = both_true (same_type t u && same_operand types (width_of (meant types t)) v w) (same_indices types is js) h in
          let p0 = both_true (same_type t u) (same_operand types (width_of (meant types t)) v w) p1.0 in
          ap (λ x. index_and t x (indices_by_value types is)) (one_law.0 p0.1)
          ∙ ap (λ x. index_and x (by_value types (meant types x) w) (indices_by_value types is)) ((same_is t u).0 p0.0)
          ∙ ap (index_and u (by_value types (meant types u) w)) (rest_law.0 p1.1)

      told : indices_by_value types (index_and t v is) ≡ indices_by_value types (index_and u w js) → same_indices types (index_and t v is) (index_and u w js) ≡ true
      told e =
          let spelled : t ≡ u = cc in
          let values : by_value types (meant types t) v ≡ by_value types (meant types u) w = cc in
          let one : by_value types (meant types t) v ≡ by_value types (meant types t) w = values ∙ sym (ap (λ x. by_value types (meant types x) w) spelled) in
          let rests : indices_by_value types is ≡ indices_by_value types js = cc in
          both_hold (same_type t u && same_operand types (width_of (meant types t)) v w) (same_indices types is js)
          (both_hold (same_type t u) (same_operand types (width_of (meant types t)) v w) ((same_is t u).1 spelled) (one_law.1 one)) (rest_law.1 rests)

mutual
  operand_law : (types : Types) (t : Ty) (v u : Val) → Decides (same_operand types (width_of t) v u) (by_value types t v ≡ by_value types t u)
  operand_law types t (local x) (local y) = text_law local (λ x y e. cc) x y
  operand_law types t (local x) (number n) = differ (no_number t n (local x) (λ m e. cc))
  operand_law types t (local x) u = differ (λ e. cc)
  operand_law types t (global x) (global y) = text_law global (λ x y e. cc) x y
  operand_law types t (global x) (number n) = differ (no_number t n (global x) (λ m e. cc))
  operand_law types t (global x) u = differ (λ e. cc)
  operand_law types t (number m) (number n) = number_law t m n
  operand_law types t (number m) (local y) = differ (λ e. no_number t m (local y) (λ m e. cc) (sym e))
  operand_law types t (number m) (global y) = differ (λ e. no_number t m (global y) (λ m e. cc) (sym e))
  operand_law types t (number m) null = differ (λ e. no_number t m null (λ m e. cc) (sym e))
  operand_law types t (number m) poison = differ (λ e. no_number t m poison (λ m e. cc) (sym e))
  operand_law types t (number m) (address g) = differ (λ e. no_number t m (address (form_by_value types g)) (λ m e. cc) (sym e))
  operand_law types t null null = (λ h. refl, λ e. refl)
  operand_law types t null (number n) = differ (no_number t n null (λ m e. cc))
  operand_law types t null u = differ (λ e. cc)
  operand_law types t poison poison = (λ h. refl, λ e. refl)
  operand_law types t poison (number n) = differ (no_number t n poison (λ m e. cc))
  operand_law types t poison u = differ (λ e. cc)
  operand_law types t (address f) (address g) =
      let law = form_law types f g in
      (λ h. ap address (law.0 h), λ e. let same : form_by_value types f ≡ form_by_value types g = cc in law.1 same)
  operand_law types t (address f) (number n) = differ (no_number t n (address (form_by_value types f)) (λ m e. cc))
  operand_law types t (address f) u = differ (λ e. cc)

  form_law : (types : Types) (f g : Form) → Decides (same_form types f g) (form_by_value types f ≡ form_by_value types g)
  form_law types (form flags over base is) (form others t b js) =
      form_from types flags others over t base b is js (operand_law types pointer base b) (indices_law types is js)

  indices_law : (types : Types) (is js : Indices) → Decides (same_indices types is js) (indices_by_value types is ≡ indices_by_value types js)
  indices_law types no_indices no_indices = (λ h. refl, λ e. refl)
  indices_law types no_indices (index_and u w js) = differ (λ e. cc)
  indices_law types (index_and t v is) no_indices = differ (λ e. cc)
  indices_law types (index_and t v is) (index_and u w js) = indices_from types t u v w is js (operand_law types (meant types t) v w) (indices_law types is js)

matched : {P : Type 0} (b : Bool) → Decides b P → MatchBool b P (P → ⊥)
matched true law = law.0 refl
matched false law = λ p. let wrong : false ≡ true = law.1 p in cc

pub value_told : (types : Types) (t : Ty) (v u : Val) (w : Option ℕ) (r : Bool) → w ≡ width_of t → r ≡ same_operand types w v u
    → MatchBool r (by_value types t v ≡ by_value types t u) (by_value types t v ≡ by_value types t u → ⊥)
value_told types t v u w r width e =
    matched r (subst (λ b. Decides b (by_value types t v ≡ by_value types t u)) (sym (e ∙ ap (λ w. same_operand types w v u) width)) (operand_law types t v u))

-- ---- lists of indices

and_false : (b : Bool) → (b && false) ≡ false
and_false true = refl
and_false false = refl

-- lists of two lengths are not the same
pub other_count : (types : Types) (is js : List (IrType × Operand)) → (length is ≡ length js → ⊥) → false ≡ same_indices types (view_indices is) (view_indices js)
other_count types [] [] never = absurd (never refl)
other_count types [] (j ∷ js) never = refl
other_count types (i ∷ is) [] never = refl
other_count types (i ∷ is) (j ∷ js) never =
    let rest = other_count types is js (λ e. never (ap suc e)) in
    let here : Bool = same_type (view_type i.0) (view_type j.0) && same_operand types (width_of (meant types (view_type i.0))) (view_operand i.1) (view_operand j.1) in
    sym (ap (λ b. here && b) (sym rest) ∙ and_false here)
