-- Initialisers against types by number.
use Rattle.std.proofs.Common.{◌≡◌, ℕ, zero, suc, ◌+◌, ◌-◌, ◌<◌, ◌≤◌, Bool, true, false, ◌&&◌, ◌==◌, not, Option, Some, None, is_some, is_none, option_map, List, [], ◌∷◌, length, get_or, drop, drop-cons, add-one, refl, sym, ◌∙◌, ap, arith}
use Rattle.ir_ast.specs.Plain.{Ty, Tys, nothing, integer, pointer, array, structure, packed, named, opaque, no_types, type_and, Inis, bytes_init, array_init, structure_init, packed_init, no_inits}
use Rattle.std.proofs.Common.{rules}
use Rattle.std.proofs.lemmas.Bool.{ne_eqb}
use Rattle.ir_ast.specs.View.{view_type, view_init, view_inits, view_init_list}
use Rattle.ir_ast.specs.declared.types.IrType.{IrType}
use Rattle.ir_ast.specs.declared.global.Init.{Init}
use Rattle.ir_ast.specs.declared.global.InitList.{InitList}
use Rattle.ir_ast.specs.declared.global.ByteList.{ByteList}
use Rattle.ir_ast.specs.declared.global.Init.TheVariants.{Bytes, rolls-Bytes}
use Rattle.ir_ast.specs.declared.global.Init.TheFolds.{fold-roll-Init, fold_out-InitList}
use Rattle.ir_type.specs.Whole.{Types, meant, is_same}
use Rattle.ir_whole.specs.Questions.{width_of, element_of, field_in, field_of}
use Rattle.ir_typing.specs.Fits.{init_fits, elements_fit, fields_fit}
use Rattle.ir_typing.specs.Initial.{is_plain_struct, is_packed_struct, fields_in, behind, array_fits, bytes_by}
use Rattle.ir_typing.specs.Same.{same_type}
use Rattle.ir_typing.proofs.SameLaw.{same_is}

-- a type that is spelled as a known one
pub known_is : (types : Types) (k o t : Ty) → is_same (meant types k) t ≡ true → same_type k o ≡ true → true ≡ is_same (meant types o) t
known_is types k o t known same = sym known ∙ ap (λ x. is_same (meant types x) t) ((same_is k o).0 same)

pub width_told : (t : Ty) (w : ℕ) (o : Option ℕ) → o ≡ width_of t → (v : ℕ) → o ≡ Some v → (v == w) ≡ is_same t (integer w)
width_told (integer u) w o e v is = let same : v ≡ u = cc in ap (λ x. x == w) same
width_told nothing w o e v is = absurd cc
width_told pointer w o e v is = absurd cc
width_told (array n t) w o e v is = absurd cc
width_told (structure ts) w o e v is = absurd cc
width_told (packed ts) w o e v is = absurd cc
width_told (named x) w o e v is = absurd cc
width_told opaque w o e v is = absurd cc

pub array_told : (types : Types) (t : Ty) (is : Inis) → array_fits types (element_of t) is ≡ init_fits types t (array_init is)
array_told types nothing is = refl
array_told types (integer w) is = refl
array_told types pointer is = refl
array_told types (array n t) is = refl
array_told types (structure ts) is = refl
array_told types (packed ts) is = refl
array_told types (named x) is = refl
array_told types opaque is = refl

pub bytes_told : (types : Types) (t : Ty) (bs : List ℕ) (o : Option (ℕ × Ty)) → o ≡ element_of t → bytes_by o bs ≡ init_fits types t (bytes_init bs)
bytes_told types nothing bs o e = ap (λ o. bytes_by o bs) e
bytes_told types (integer w) bs o e = ap (λ o. bytes_by o bs) e
bytes_told types pointer bs o e = ap (λ o. bytes_by o bs) e
bytes_told types (array n t) bs o e = ap (λ o. bytes_by o bs) e
bytes_told types (structure ts) bs o e = ap (λ o. bytes_by o bs) e
bytes_told types (packed ts) bs o e = ap (λ o. bytes_by o bs) e
bytes_told types (named x) bs o e = ap (λ o. bytes_by o bs) e
bytes_told types opaque bs o e = ap (λ o. bytes_by o bs) e

pub struct_told : (types : Types) (t : Ty) (is : Inis) → (is_plain_struct t && fields_fit types (fields_in t) is) ≡ init_fits types t (structure_init is)
struct_told types nothing is = refl
struct_told types (integer w) is = refl
struct_told types pointer is = refl
struct_told types (array n t) is = refl
struct_told types (structure ts) is = refl
struct_told types (packed ts) is = refl
struct_told types (named x) is = refl
struct_told types opaque is = refl

pub packed_told : (types : Types) (t : Ty) (is : Inis) → (is_packed_struct t && fields_fit types (fields_in t) is) ≡ init_fits types t (packed_init is)
packed_told types nothing is = refl
packed_told types (integer w) is = refl
packed_told types pointer is = refl
packed_told types (array n t) is = refl
packed_told types (structure ts) is = refl
packed_told types (packed ts) is = refl
packed_told types (named x) is = refl
packed_told types opaque is = refl

-- ---- fields by their places

pub field_told : (t : Ty) (k : ℕ) → field_of k t ≡ field_in k (fields_in t)
field_told nothing k = refl
field_told (integer w) k = refl
field_told pointer k = refl
field_told (array n t) k = refl
field_told (structure ts) k = refl
field_told (packed ts) k = refl
field_told (named x) k = refl
field_told opaque k = refl

pub behind_field : (k : ℕ) (ts : Tys) (t : Ty) → field_in k ts ≡ Some t → behind k ts ≡ type_and t (behind (suc k) ts)
behind_field k no_types t e = absurd cc
behind_field zero (type_and u ts) t e = let same : u ≡ t = cc in ap (λ x. type_and x ts) same
behind_field (suc k) (type_and u ts) t e = behind_field k ts t e

pub behind_all : (k : ℕ) (ts : Tys) → field_in k ts ≡ None → behind k ts ≡ no_types
behind_all zero no_types e = refl
behind_all (suc k) no_types e = refl
behind_all zero (type_and u ts) e = absurd cc
behind_all (suc k) (type_and u ts) e = behind_all k ts e

-- ---- lists of parts

pub bytes_seen : (l : ByteList) → view_init (Bytes l) ≡ bytes_init l.items.items
bytes_seen l = rw (← rolls-Bytes l) (search (rules, fold-roll-Init))

pub inits_is : (l : InitList) → view_init_list l ≡ view_inits l.items.items
inits_is l = search (rules, fold_out-InitList)

pub part_at : {X : Type 0} (items : List X) (k : ℕ) (part : X) → part ≡ get_or items k part → k < length items → drop k items ≡ part ∷ drop (k + 1) items
part_at items k part e l = drop-cons items k part l ∙ ap (λ x. x ∷ drop (suc k) items) (sym e) ∙ ap (λ q. part ∷ drop q items) (sym (add-one k))

pub drop_end : {X : Type 0} (items : List X) (k : ℕ) → length items ≤ k → drop k items ≡ []
drop_end [] zero l = refl
drop_end [] (suc k) l = refl
drop_end (x ∷ items) zero l = absurd (omega (arith, l))
drop_end (x ∷ items) (suc k) l = drop_end items k (omega (arith, l))

pub field_there : (t u : Ty) (k : ℕ) (o : Option Ty) → u ≡ t → o ≡ field_of k u → field_in k (fields_in t) ≡ o
field_there t u k o e is = sym (is ∙ ap (field_of k) e ∙ field_told t k)

pub told_none : (f : ℕ → Ty) (o : Option ℕ) (r : Bool) → is_some o ≡ not r → r ≡ is_none (option_map f o)
told_none f None true e = refl
told_none f None false e = e
told_none f (Some x) true e = e
told_none f (Some x) false e = refl

module _ (types : Types) where
  pub elements_start : (n : ℕ) (t : Ty) (l : InitList) (items : List (IrType × Init)) → items ≡ l.items.items → elements_fit types n t (view_inits items) ≡ elements_fit types n t (view_init_list l)
  elements_start n t l items e = ap (λ is. elements_fit types n t (view_inits is)) e ∙ ap (elements_fit types n t) (sym (inits_is l))

  pub fields_start : (ts : Tys) (l : InitList) (items : List (IrType × Init)) → items ≡ l.items.items → fields_fit types ts (view_inits items) ≡ fields_fit types ts (view_init_list l)
  fields_start ts l items e = ap (λ is. fields_fit types ts (view_inits is)) e ∙ ap (fields_fit types ts) (sym (inits_is l))

  -- the element at a place, where it fits
  pub elements_more : (n : ℕ) (t : Ty) (items : List (IrType × Init)) (k : ℕ) (part : IrType × Init) (same fits : Bool) → drop k items ≡ part ∷ drop (k + 1) items → (n ≡ 0 → ⊥)
      → same ≡ is_same (meant types (view_type part.0)) t → same ≡ true → fits ≡ init_fits types t (view_init part.1) → fits ≡ true
      → elements_fit types (n - 1) t (view_inits (drop (k + 1) items)) ≡ elements_fit types n t (view_inits (drop k items))
  elements_more n t items k part same fits at some is yes_same goes yes_fits =
      let zero_not : (n == 0) ≡ false = ne_eqb n 0 some in
      sym (ap (λ is. elements_fit types n t (view_inits is)) at
      ∙ ap (λ b. not b && is_same (meant types (view_type part.0)) t && init_fits types t (view_init part.1) && elements_fit types (n - 1) t (view_inits (drop (k + 1) items))) zero_not
      ∙ ap (λ b. b && init_fits types t (view_init part.1) && elements_fit types (n - 1) t (view_inits (drop (k + 1) items))) (sym is ∙ yes_same)
      ∙ ap (λ b. b && elements_fit types (n - 1) t (view_inits (drop (k + 1) items))) (sym goes ∙ yes_fits))

  -- a field at a place
  field_at : (ts : Tys) (t : Ty) (items : List (IrType × Init)) (k p : ℕ) (part : IrType × Init) → drop k items ≡ part ∷ drop (k + 1) items → field_in p ts ≡ Some t
      → fields_fit types (behind p ts) (view_inits (drop k items))
      ≡ (is_same (meant types (view_type part.0)) t && init_fits types t (view_init part.1) && fields_fit types (behind (suc p) ts) (view_inits (drop (k + 1) items)))
  field_at ts t items k p part at there =
      ap (λ us. fields_fit types us (view_inits (drop k items))) (behind_field p ts t there)
      ∙ ap (λ is. fields_fit types (type_and t (behind (suc p) ts)) (view_inits is)) at

  pub fields_more : (ts : Tys) (t : Ty) (items : List (IrType × Init)) (k p : ℕ) (part : IrType × Init) (same fits : Bool) → drop k items ≡ part ∷ drop (k + 1) items → field_in p ts ≡ Some t
      → same ≡ is_same (meant types (view_type part.0)) t → same ≡ true → fits ≡ init_fits types t (view_init part.1) → fits ≡ true
      → fields_fit types (behind (p + 1) ts) (view_inits (drop (k + 1) items)) ≡ fields_fit types (behind p ts) (view_inits (drop k items))
  fields_more ts t items k p part same fits at there is yes_same goes yes_fits =
      let turn : suc p ≡ p + 1 = sym (add-one p) in
      sym (field_at ts t items k p part at there
      ∙ ap (λ b. b && init_fits types t (view_init part.1) && fields_fit types (behind (suc p) ts) (view_inits (drop (k + 1) items))) (sym is ∙ yes_same)
      ∙ ap (λ b. b && fields_fit types (behind (suc p) ts) (view_inits (drop (k + 1) items))) (sym goes ∙ yes_fits)
      ∙ ap (λ q. fields_fit types (behind q ts) (view_inits (drop (k + 1) items))) turn)

  pub fields_other : (ts : Tys) (t : Ty) (items : List (IrType × Init)) (k p : ℕ) (part : IrType × Init) (same : Bool) → drop k items ≡ part ∷ drop (k + 1) items → field_in p ts ≡ Some t
      → same ≡ is_same (meant types (view_type part.0)) t → same ≡ false
      → false ≡ fields_fit types (behind p ts) (view_inits (drop k items))
  fields_other ts t items k p part same at there is wrong =
      sym (field_at ts t items k p part at there
      ∙ ap (λ b. b && init_fits types t (view_init part.1) && fields_fit types (behind (suc p) ts) (view_inits (drop (k + 1) items))) (sym is ∙ wrong))

  pub fields_misfit : (ts : Tys) (t : Ty) (items : List (IrType × Init)) (k p : ℕ) (part : IrType × Init) (same fits : Bool) → drop k items ≡ part ∷ drop (k + 1) items → field_in p ts ≡ Some t
      → same ≡ is_same (meant types (view_type part.0)) t → same ≡ true → fits ≡ init_fits types t (view_init part.1) → fits ≡ false
      → false ≡ fields_fit types (behind p ts) (view_inits (drop k items))
  fields_misfit ts t items k p part same fits at there is yes_same goes wrong =
      sym (field_at ts t items k p part at there
      ∙ ap (λ b. b && init_fits types t (view_init part.1) && fields_fit types (behind (suc p) ts) (view_inits (drop (k + 1) items))) (sym is ∙ yes_same)
      ∙ ap (λ b. b && fields_fit types (behind (suc p) ts) (view_inits (drop (k + 1) items))) (sym goes ∙ wrong))

  -- a part too many
  pub fields_over : (ts : Tys) (items : List (IrType × Init)) (k p : ℕ) (part : IrType × Init) → drop k items ≡ part ∷ drop (k + 1) items → field_in p ts ≡ None
      → false ≡ fields_fit types (behind p ts) (view_inits (drop k items))
  fields_over ts items k p part at gone =
      sym (ap (λ us. fields_fit types us (view_inits (drop k items))) (behind_all p ts gone)
      ∙ ap (λ is. fields_fit types no_types (view_inits is)) at)

  -- no part is left
  pub fields_end : (ts : Tys) (p : ℕ) (o : Option Ty) → o ≡ field_in p ts → is_none o ≡ fields_fit types (behind p ts) no_inits
  fields_end ts p None e = sym (ap (λ us. fields_fit types us no_inits) (behind_all p ts (sym e)))
  fields_end ts p (Some t) e = sym (ap (λ us. fields_fit types us no_inits) (behind_field p ts t (sym e)))
