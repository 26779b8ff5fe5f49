-- The registers that an instruction uses where it stands are set, and its operands are ready.
use Rattle.std.proofs.Common.{◌≡◌, ◌⊎◌, inl, inr, ℕ, zero, suc, Bool, true, false, ◌&&◌, not, Option, Some, None, List, [], ◌∷◌, ◌++◌, map, refl, sym, ◌∙◌, ap, subst, arith}
use Rattle.std.specs.Prelude.{Contains, flat_map, is_some}
use Rattle.std.specs.List.{list_all}
use Rattle.std.proofs.lemmas.List.Concat.{flat_map-append}
use Rattle.std.proofs.lemmas.List.Elements.{Contains-append_cases}
use Rattle.ir_ast.specs.Plain.{Ty, integer, pointer, structure, no_types, type_and, Val, Form, Indices, local, global, number, null, poison, address, form, no_indices, index_and}
use Rattle.ir_ast.specs.Program as plain
use Rattle.ir_ast.specs.Program.{Act, InstrView, BlockView, FunctionView, ModuleView}
use Rattle.ir_type.specs.Names.{entry_of, leaves_of, form_leaves_of, index_leaves_of, local_name, locals_in, globals_in}
use Rattle.ir_type.specs.Rows.{operands, source, values, used, targets, arm_blocks}
use Rattle.ir_type.specs.Shape.{keeps_notes}
use Rattle.ir_type.specs.Whole.{meant, is_scalar, is_same, has_odd, whole}
use Rattle.ir_type.specs.Whole as types
use Rattle.ir_typing.specs.Intrinsics.{number_and_bit}
use Rattle.ir_typing.specs.Known.{is_known, knows_range, knows_callee}
use Rattle.ir_typing.specs.Registers.{Kind, value_of, slot_of, pair_of, block_of, registers_of}
use Rattle.ir_typing.specs.Fits.{Scope, scope_of, fits, form_fits, indices_fit, fits_kind, steps_over, is_integer, operands_fit, further, is_phi, is_pair, pair_at, access_by, access_fits, slot_at, is_align, range_fits}
use Rattle.ir_check.specs.Paths.{Use, uses}
use Rattle.ir_check.specs.Checked.{IsChecked}
use Rattle.ir_check.specs.Rules.{IsPointerAccess}
use Rattle.ir_check.proofs.Undefined.{Contains-map, of_map, in_flat_map}
use Rattle.ir_machine.specs.Values.{Registers}
use Rattle.ir_kernel.specs.Typed.{IsReady}
use Rattle.ir_kernel.specs.Steps.{IsFit}
use Rattle.ir_kernel.proofs.InstrFacts.{instr_is_fit}
use Rattle.ir_kernel.proofs.LoadTypes.{left_of, right_of, slot_of_kind}
use Rattle.ir_typed.proofs.RegisterKinds.{is_used, is_two, HoldsUsed}
use Rattle.ir_typed.proofs.Standing.{IsAt}

-- ---- tests over lists

pub each_true : {A : Type 0} (test : A → Bool) (xs : List A) → list_all test xs ≡ true → (x : A) → Contains xs x → test x ≡ true
each_true test [] all x (k, l, e) = absurd (omega (arith, l))
each_true test (y ∷ xs) all x c = by (each_true test xs (right_of (test y) (list_all test xs) all) x) (Contains-append_cases (y ∷ []) xs x c)
  where
    own : Contains (y ∷ []) x → test x ≡ true
    own (zero, l, e) = subst (λ z. test z ≡ true) e (left_of (test y) (list_all test xs) all)
    own (suc k, l, e) = absurd (omega (arith, l))

    by : (Contains xs x → test x ≡ true) → Contains (y ∷ []) x ⊎ Contains xs x → test x ≡ true
    by rest (inl d) = own d
    by rest (inr d) = rest d

only : {A : Type 0} {x y : A} → Contains (x ∷ []) y → x ≡ y
only (zero, l, e) = e
only (suc k, l, e) = absurd (omega (arith, l))

none_there : {A B : Type 0} {x : A} → Contains [] x → B
none_there (k, l, e) = absurd (omega (arith, l))

-- ---- what operands name can be used

scalar_back : (t over : Ty) → is_scalar t ≡ true → is_same over t ≡ true → is_scalar over ≡ true
scalar_back (integer w) (integer u) s h = refl
scalar_back pointer pointer s h = refl
scalar_back (integer w) over s h = absurd cc
scalar_back pointer over s h = absurd cc
scalar_back t over s h = absurd cc

value_used : (t : Ty) (kind : Kind) → fits_kind t (Some kind) ≡ true → is_used kind ≡ true
value_used t (value_of over) e = scalar_back t over (left_of (is_scalar t) (is_same over t) e) (right_of (is_scalar t) (is_same over t) e)
value_used t (slot_of over) e = refl
value_used t (pair_of over) e = absurd cc

no_more : {A : Type 0} (b : Bool) → (b && false) ≡ true → A
no_more true e = absurd cc
no_more false e = absurd cc

pair_used : (w : ℕ) (t : Ty) → is_same t (number_and_bit w) ≡ true → is_two t ≡ true
pair_used w (structure (type_and t (type_and u no_types))) e = refl
pair_used w (structure no_types) e = absurd cc
pair_used w (structure (type_and t no_types)) e = no_more (is_same t (integer w)) e
pair_used w (structure (type_and t (type_and u (type_and r ts)))) e = no_more (is_same u (integer 1)) (right_of (is_same t (integer w)) (is_same u (integer 1) && false) e)
pair_used w t e = absurd cc

module _ (m : ModuleView) (f : FunctionView) where
  abbrev s : Scope
  s = scope_of m f

  abbrev pub IsUsable : Val → Type 0
  IsUsable v = (x : List ℕ) (kind : Kind) → Contains (locals_in v) x → entry_of x s.registers ≡ Some kind → is_used kind ≡ true

  -- the same of several operands
  abbrev AreUsable : List Val → Type 0
  AreUsable leaves = (x : List ℕ) (kind : Kind) → Contains (flat_map local_name leaves) x → entry_of x s.registers ≡ Some kind → is_used kind ≡ true

  locals_joined : (us vs : List Val) → flat_map local_name (us ++ vs) ≡ flat_map local_name us ++ flat_map local_name vs
  locals_joined us vs = flat_map-append local_name us vs

  joined : (us vs : List Val) → AreUsable us → AreUsable vs → AreUsable (us ++ vs)
  joined us vs a b x kind c e = by (Contains-append_cases (flat_map local_name us) (flat_map local_name vs) x (subst (λ xs. Contains xs x) (locals_joined us vs) c))
    where
      by : Contains (flat_map local_name us) x ⊎ Contains (flat_map local_name vs) x → is_used kind ≡ true
      by (inl d) = a x kind d e
      by (inr d) = b x kind d e

  register_usable : (t : Ty) (x : List ℕ) → fits_kind t (entry_of x s.registers) ≡ true → IsUsable (local x)
  register_usable t x h y kind c e = value_used t kind (ap (fits_kind t) (sym e ∙ ap (λ z. entry_of z s.registers) (sym (only c))) ∙ h)

  mutual
    fits_usable : (t : Ty) (v : Val) → fits s t v ≡ true → AreUsable (leaves_of v)
    fits_usable t (local x) e = register_usable t x e
    fits_usable t (global x) e = λ y kind c g. none_there c
    fits_usable t (number n) e = λ y kind c g. none_there c
    fits_usable t null e = λ y kind c g. none_there c
    fits_usable t poison e = λ y kind c g. none_there c
    fits_usable t (address a) e = form_usable a (right_of (types.is_pointer t) (form_fits s a) e)

    form_usable : (a : Form) → form_fits s a ≡ true → AreUsable (form_leaves_of a)
    form_usable (form flags over base is) e =
        let three = left_of (fits s pointer base && indices_fit s is && not (has_odd (meant m.types over))) (steps_over (whole m.types over) is) e in
        let two = left_of (fits s pointer base && indices_fit s is) (not (has_odd (meant m.types over))) three in
        joined (leaves_of base) (index_leaves_of is) (fits_usable pointer base (left_of (fits s pointer base) (indices_fit s is) two)) (indices_usable is (right_of (fits s pointer base) (indices_fit s is) two))

    indices_usable : (is : Indices) → indices_fit s is ≡ true → AreUsable (index_leaves_of is)
    indices_usable no_indices e = λ y kind c g. none_there c
    indices_usable (index_and t v is) e =
        let two = left_of (is_integer (meant m.types t) && fits s (meant m.types t) v) (indices_fit s is) e in
        joined (leaves_of v) (index_leaves_of is) (fits_usable (meant m.types t) v (right_of (is_integer (meant m.types t)) (fits s (meant m.types t) v) two))
        (indices_usable is (right_of (is_integer (meant m.types t) && fits s (meant m.types t) v) (indices_fit s is) e))

  access_usable : (t : Ty) (target : Val) (o : Option Ty) → slot_at s target ≡ o → access_by s t target o ≡ true → IsUsable target
  access_usable t target None h e =
      let two = left_of (fits s pointer target && is_scalar t) (not (types.is_odd t)) e in
      fits_usable pointer target (left_of (fits s pointer target) (is_scalar t) two)
  access_usable t (local x) (Some over) h e = λ y kind c g. ap is_used (is y kind (only c) g)
    where
      one : (k l : Kind) → Some k ≡ Some l → k ≡ l
      one k l e = cc

      is : (y : List ℕ) (kind : Kind) → x ≡ y → entry_of y s.registers ≡ Some kind → kind ≡ slot_of over
      is y kind same g = one kind (slot_of over) (sym g ∙ ap (λ z. entry_of z s.registers) (sym same) ∙ slot_of_kind (entry_of x s.registers) over h)
  access_usable t target (Some over) h e = absurd cc

  pair_usable : (w : ℕ) (v : Val) → pair_at s w v ≡ true → IsUsable v
  pair_usable w (local x) h = λ y kind c e. by kind (ap (is_pair w) (sym e ∙ ap (λ z. entry_of z s.registers) (sym (only c))) ∙ h)
    where
      by : (kind : Kind) → is_pair w (Some kind) ≡ true → is_used kind ≡ true
      by (pair_of t) e = pair_used w t e
      by kind e = absurd cc
  pair_usable w v h = absurd cc

  source_usable : (phis has : Bool) (a : Act) → further m.types m f phis has a ≡ true → (v : Val) → Contains (source a) v → IsUsable v
  source_usable phis has (plain.load over target align range) e v c =
      let fit = left_of (access_fits s over target align) (range_fits m.types m over range) e in
      subst IsUsable (only c) (access_usable (meant m.types over) target (slot_at s target) refl (right_of (is_align align) (access_by s (meant m.types over) target (slot_at s target)) fit))
  source_usable phis has (plain.store over value target align) e v c =
      subst IsUsable (only c) (access_usable (meant m.types over) target (slot_at s target) refl (right_of (is_align align) (access_by s (meant m.types over) target (slot_at s target)) e))
  source_usable phis has (plain.extract w from part) e v c = subst IsUsable (only c) (pair_usable w from e)
  source_usable phis has a e v c = none_there c

  pub values_usable : (phis has : Bool) (a : Act) → operands_fit s a ≡ true → further m.types m f phis has a ≡ true → (v : Val) → Contains (values a) v → IsUsable v
  values_usable phis has a fit more v c = by (Contains-append_cases (map (λ (p : Ty × Val). p.1) (operands a)) (source a) v c)
    where
      by : Contains (map (λ (p : Ty × Val). p.1) (operands a)) v ⊎ Contains (source a) v → IsUsable v
      by (inl d) =
          let p = of_map (λ (p : Ty × Val). p.1) (operands a) v d in
          subst IsUsable p.2 (fits_usable (meant m.types p.0.0) p.0.1 (each_true (λ (p : Ty × Val). fits s (meant m.types p.0) p.1) (operands a) fit p.0 p.1))
      by (inr d) = source_usable phis has a more v d

  -- ---- globals that are named are known

  pub globals_known : (a : Act) → is_known m f a ≡ true → (v : Val) → Contains (values a) v → (x : List ℕ) → Contains (globals_in v) x → is_some (entry_of x m.globals) ≡ true
  globals_known a e v c x d =
      let one = list_all (λ x. is_some (entry_of x (registers_of f))) (used a) in
      let two = list_all (λ x. is_some (entry_of x m.globals)) (flat_map globals_in (values a)) in
      let three = list_all (λ x. is_some (block_of f x)) (targets a) in
      let four = list_all (λ x. is_some (block_of f x)) (arm_blocks a) in
      let five : (one && two && three && four && knows_range m a) ≡ true = left_of (one && two && three && four && knows_range m a) (knows_callee m a) e in
      let last_four : (one && two && three && four) ≡ true = left_of (one && two && three && four) (knows_range m a) five in
      let first : (one && two) ≡ true = left_of (one && two) three (left_of (one && two && three) four last_four) in
      each_true (λ x. is_some (entry_of x m.globals)) (flat_map globals_in (values a)) (right_of one two first) x (in_flat_map globals_in (values a) v x c d)

-- what is known of an instruction at hand
pub record IsAtHand (m : ModuleView) (f : FunctionView) (rs : Registers) (a : Act) : Type 0 where
  pub noted : keeps_notes a ≡ true
  pub known : is_known m f a ≡ true
  pub fitting : operands_fit (scope_of m f) a ≡ true
  pub phis : Bool
  pub has : Bool
  pub more : further m.types m f phis has a ≡ true
  pub inside : IsPointerAccess (scope_of m f) a → ⊥
  pub ready : (v : Val) → Contains (values a) v → IsReady m f rs v

-- ---- operands where they stand

uses_here : (f : FunctionView) (b : BlockView) (before : List InstrView) (a : Act) → is_phi a ≡ false → uses f b before a ≡ map (λ x. record { register = x; block = b.name; behind = before }) (used a)
uses_here f b before (plain.phi over arms) e = absurd cc
uses_here f b before a e = refl

module _ (m : ModuleView) (checked : IsChecked m) (f : FunctionView) (b : BlockView) (before : List InstrView) (i : InstrView) (after : List InstrView) (rs : Registers) (at : IsAt m f b before i after rs) where
  pub fit : IsFit m f before i
  fit = instr_is_fit m checked f b before after i at.own at.within at.parts

  pub fit_operands : operands_fit (scope_of m f) i.act ≡ true
  fit_operands = left_of (operands_fit (scope_of m f) i.act) (further m.types m f (list_all (λ i. is_phi i.act) before) (is_some i.result) i.act) fit.fitting

  pub fit_further : further m.types m f (list_all (λ i. is_phi i.act) before) (is_some i.result) i.act ≡ true
  fit_further = right_of (operands_fit (scope_of m f) i.act) (further m.types m f (list_all (λ i. is_phi i.act) before) (is_some i.result) i.act) fit.fitting

  used_here : (x : List ℕ) → Contains (used i.act) x → HoldsUsed m f rs x
  used_here x c =
      let make : List ℕ → Use = λ x. record { register = x; block = b.name; behind = before } in
      let listed : Contains (uses f b before i.act) (make x) = subst (λ us. Contains us (make x)) (sym (uses_here f b before i.act at.plain)) (Contains-map make (used i.act) x c) in
      at.set x (checked.set f at.own b before after i (make x) at.within at.parts listed at.entry at.left at.first at.walk)

  pub ready : (v : Val) → Contains (values i.act) v → IsReady m f rs v
  ready v c = record {
    set = λ x d k kind p e. used_here x (in_flat_map locals_in (values i.act) v x c d) k kind p e
        (values_usable m f (list_all (λ i. is_phi i.act) before) (is_some i.result) i.act fit_operands fit_further v c x kind d e);
    known = λ x d. globals_known m f i.act fit.known v c x d;
  }

  pub at_hand : IsAtHand m f rs i.act
  at_hand = record {
    noted = fit.noted;
    known = fit.known;
    fitting = fit_operands;
    phis = list_all (λ (i : InstrView). is_phi i.act) before;
    has = is_some i.result;
    more = fit_further;
    inside = fit.inside;
    ready = ready;
  }
