-- The phis at the head of a block: all are read, and each gives its register a value of its type.
use Rattle.std.proofs.Common.{◌≡◌, ◌⊎◌, inl, inr, ℕ, zero, suc, ◌<◌, Bool, true, false, Option, Some, None, List, [], ◌∷◌, ◌++◌, length, map, refl, sym, ◌∙◌, ap, subst, arith}
use Rattle.std.specs.Prelude.{Contains, option_to_list, is_some, slice_set}
use Rattle.std.specs.List.{AllByRecursion}
use Rattle.std.proofs.lemmas.List.{append-nil, append_assoc, length-set}
use Rattle.std.proofs.lemmas.List.Elements.{Contains-append_cases}
use Rattle.ir_ast.specs.Plain.{Ty, Val}
use Rattle.ir_ast.specs.Program as plain
use Rattle.ir_ast.specs.Program.{Act, phi, InstrView, BlockView, FunctionView, ModuleView}
use Rattle.ir_ast.specs.declared.instr.Predicate.{Predicate}
use Rattle.ir_type.specs.Whole.{meant, is_pointer}
use Rattle.ir_type.proofs.Places.{some_same}
use Rattle.ir_typing.specs.Intrinsics.{intrinsic_of}
use Rattle.ir_typing.specs.Places.{register_names}
use Rattle.ir_typing.specs.Registers as registers
use Rattle.ir_typing.specs.Registers.{Kind, kind_of}
use Rattle.ir_typing.specs.Fits.{whole_kind, is_phi}
use Rattle.ir_check.specs.Paths.{results}
use Rattle.ir_value.specs.declared.intrinsics.OverflowKind.{OverflowKind}
use Rattle.ir_value.specs.declared.intrinsics.PairKind.{PairKind}
use Rattle.ir_value.specs.declared.value.Value.{Value}
use Rattle.ir_code.specs.declared.act.Act as code
use Rattle.ir_code.specs.declared.act.Span.{Span}
use Rattle.ir_code.specs.declared.act.Step.{Step}
use Rattle.ir_machine.specs.declared.state.Held.TheVariants as held
use Rattle.ir_machine.specs.declared.state.Head.TheVariants as head
use Rattle.ir_machine.specs.Values.{Registers, value_of}
use Rattle.ir_machine.specs.Step.{head_of, staged, staged_on, arm_value, phi_of, set_all}
use Rattle.ir_resolve.specs.Operands.{width_in, input_of}
use Rattle.ir_resolve.specs.Acts.{act_of, compare_by, load_by, store_by, call_by, intrinsic_act, overflow_act, other_act, pair_act, assume_act, overflow_kind, pair_kind, body_place, extract_of, register_place, slot_place, spans_of, number_width}
use Rattle.ir_resolve.specs.Resolved.{result_place, step_of}
use Rattle.ir_walk.specs.Walk.{Memory}
use Rattle.ir_kernel.specs.Typed.{is_of, is_held, IsValueOf}
use Rattle.ir_typed.proofs.RegisterKinds.{HoldsUsed, IsPlaced, set_holds}
use Rattle.ir_typed.proofs.BlockNames.{HasArm}

-- ---- what is no phi ends the head

abbrev IsBody : code.Act → Type 0
IsBody a = (memory : Memory) (rs : Registers) (from : ℕ) (r : Option ℕ) → head_of memory rs from r a ≡ head.Ends

module _ (m : ModuleView) (f : FunctionView) where
  compare_ends : (samesign : Bool) (p : Predicate) (w : Option ℕ) (pointers : Bool) (a b : Val) → IsBody (compare_by m f samesign p w pointers a b)
  compare_ends samesign p (Some w) pointers a b = λ memory rs from r. refl
  compare_ends samesign p None true a b = λ memory rs from r. refl
  compare_ends samesign p None false a b = λ memory rs from r. refl

  load_ends : (t : Ty) (target : Val) (align : ℕ) (spans : Option (List Span)) (slot : Option ℕ) → IsBody (load_by m f t target align spans slot)
  load_ends t target align spans None = λ memory rs from r. refl
  load_ends t target align spans (Some k) = λ memory rs from r. refl

  store_ends : (t : Ty) (v target : Val) (align : ℕ) (slot : Option ℕ) → IsBody (store_by m f t v target align slot)
  store_ends t v target align None = λ memory rs from r. refl
  store_ends t v target align (Some k) = λ memory rs from r. refl

  part_ends : (o : Option ℕ) (part : ℕ) → IsBody (extract_of o part)
  part_ends None part = λ memory rs from r. refl
  part_ends (Some k) part = λ memory rs from r. refl

  overflow_ends : (kind : OverflowKind × Bool) (arguments : List (Ty × Val)) → IsBody (overflow_act m f kind arguments)
  overflow_ends kind [] = λ memory rs from r. refl
  overflow_ends kind (a ∷ []) = λ memory rs from r. refl
  overflow_ends kind (a ∷ b ∷ []) = λ memory rs from r. refl
  overflow_ends kind (a ∷ b ∷ c ∷ rest) = λ memory rs from r. refl

  pair_ends : (kind : PairKind) (arguments : List (Ty × Val)) → IsBody (pair_act m f kind arguments)
  pair_ends kind [] = λ memory rs from r. refl
  pair_ends kind (a ∷ []) = λ memory rs from r. refl
  pair_ends kind (a ∷ b ∷ []) = λ memory rs from r. refl
  pair_ends kind (a ∷ b ∷ c ∷ rest) = λ memory rs from r. refl

  assume_ends : (arguments : List (Ty × Val)) → IsBody (assume_act m f arguments)
  assume_ends [] = λ memory rs from r. refl
  assume_ends (c ∷ []) = λ memory rs from r. refl
  assume_ends (c ∷ d ∷ rest) = λ memory rs from r. refl

  other_ends : (kind : Option PairKind) (arguments : List (Ty × Val)) → IsBody (other_act m f kind arguments)
  other_ends None arguments = assume_ends arguments
  other_ends (Some kind) arguments = pair_ends kind arguments

  intrinsic_ends : (kind : Option (OverflowKind × Bool)) (name : List ℕ) (arguments : List (Ty × Val)) → IsBody (intrinsic_act m f kind name arguments)
  intrinsic_ends None name arguments = other_ends (pair_kind name) arguments
  intrinsic_ends (Some kind) name arguments = overflow_ends kind arguments

  call_ends : (name : List ℕ) (arguments : List (Ty × Val)) (body : Option ℕ) (listed : Bool) → IsBody (call_by m f name arguments body listed)
  call_ends name arguments (Some k) listed = λ memory rs from r. refl
  call_ends name arguments None true = intrinsic_ends (overflow_kind name) name arguments
  call_ends name arguments None false = λ memory rs from r. refl

  plain_ends : (a : Act) → is_phi a ≡ false → IsBody (act_of m f a)
  plain_ends (plain.phi over arms) e = absurd cc
  plain_ends (plain.compare samesign p over a b) e = compare_ends samesign p (width_in m over) (is_pointer (meant m.types over)) a b
  plain_ends (plain.load over target align range) e = load_ends (meant m.types over) target align (spans_of m (number_width (meant m.types over)) range) (slot_place f target)
  plain_ends (plain.store over v target align) e = store_ends (meant m.types over) v target align (slot_place f target)
  plain_ends (plain.call over name arguments) e = call_ends name arguments (body_place m name) (is_some (intrinsic_of name))
  plain_ends (plain.extract w from part) e = part_ends (register_place f from) part
  plain_ends (plain.give over None) e = λ memory rs from r. refl
  plain_ends (plain.give over (Some v)) e = λ memory rs from r. refl
  plain_ends a e = λ memory rs from r. refl

-- ---- what phis read

-- the phi has this register, and a value of its type
pub record IsReadBy (m : ModuleView) (f : FunctionView) (i : InstrView) (p : ℕ × Value) : Type 0 where
  pub name : List ℕ
  pub result : i.result ≡ Some name
  pub over : Ty
  pub placed : IsPlaced m f name (registers.value_of over)
  pub at : placed.place ≡ p.0
  pub holds : is_of (meant m.types over) p.1 ≡ true

abbrev pub AreReadBy : ModuleView → FunctionView → List InstrView → List (ℕ × Value) → Type 0
AreReadBy m f [] [] = Unit
AreReadBy m f (i ∷ is) (p ∷ ps) = IsReadBy m f i p × AreReadBy m f is ps
AreReadBy m f _ _ = ⊥

pub as_many : (m : ModuleView) (f : FunctionView) (is : List InstrView) (ps : List (ℕ × Value)) → AreReadBy m f is ps → length ps ≡ length is
as_many m f [] [] r = refl
as_many m f (i ∷ is) (p ∷ ps) r = let n = as_many m f is ps r.1 in omega (arith, n)
as_many m f [] (p ∷ ps) r = absurd r
as_many m f (i ∷ is) [] r = absurd r

-- the value of the edge's arm
pub record HasValue (m : ModuleView) (f : FunctionView) (memory : Memory) (rs : Registers) (from : ℕ) (i : InstrView) : Type 0 where
  pub name : List ℕ
  pub result : i.result ≡ Some name
  pub over : Ty
  pub arms : List (Val × List ℕ)
  pub act : i.act ≡ plain.phi over arms
  pub placed : IsPlaced m f name (registers.value_of over)
  pub arm : HasArm m f (width_in m over) from arms
  pub value : IsValueOf (meant m.types over) (value_of memory rs (input_of m f (width_in m over) arm.arm.0))

pub record IsStaged (m : ModuleView) (f : FunctionView) (memory : Memory) (rs : Registers) (from : ℕ) (phis : List InstrView) (steps : List Step) (found : List (ℕ × Value)) : Type 0 where
  pub pairs : List (ℕ × Value)
  pub read : AreReadBy m f phis pairs
  pub is : staged memory rs from steps found ≡ Some (found ++ pairs)

module _ (m : ModuleView) (f : FunctionView) (memory : Memory) (rs : Registers) (from : ℕ) where
  record Reads (i : InstrView) : Type 0 where
    pub place : ℕ
    pub value : Value
    pub is : head_of memory rs from (result_place f i.result) (act_of m f i.act) ≡ head.Reads place value
    pub read : IsReadBy m f i (place, value)

  reads : (i : InstrView) → HasValue m f memory rs from i → Reads i
  reads i h = by (value_of memory rs (input_of m f (width_in m h.over) h.arm.arm.0)) refl h.value
    where
      by : (o : Option Value) → value_of memory rs (input_of m f (width_in m h.over) h.arm.arm.0) ≡ o → IsValueOf (meant m.types h.over) o → Reads i
      by None e x = absurd x
      by (Some v) e x = record {
        place = h.placed.place;
        value = v;
        is = ap (λ a. head_of memory rs from (result_place f i.result) (act_of m f a)) h.act
            ∙ ap (λ o. phi_of (result_place f i.result) (arm_value memory rs o)) h.arm.is
            ∙ ap (λ o. phi_of (result_place f i.result) o) e
            ∙ ap (λ o. phi_of o (Some v)) (ap (result_place f) h.result ∙ h.placed.at);
        read = record { name = h.name; result = h.result; over = h.over; placed = h.placed; at = refl; holds = x };
      }

  pub phis_staged : (phis : List InstrView) (next : InstrView) (rest : List InstrView) (found : List (ℕ × Value)) → AllByRecursion (HasValue m f memory rs from) phis → is_phi next.act ≡ false
      → IsStaged m f memory rs from phis (map (step_of m f) (phis ++ next ∷ rest)) found
  phis_staged [] next rest found all ends = record {
    pairs = [];
    read = tt;
    is = ap (λ h. staged_on h found (staged memory rs from (map (step_of m f) rest))) (plain_ends m f next.act ends memory rs from (result_place f next.result)) ∙ ap Some (sym (append-nil found));
  }
  phis_staged (i ∷ phis) next rest found all ends =
      let r = reads i all.0 in
      let more = phis_staged phis next rest (found ++ (r.place, r.value) ∷ []) all.1 ends in
      record {
        pairs = (r.place, r.value) ∷ more.pairs;
        read = (r.read, more.read);
        is = ap (λ h. staged_on h found (staged memory rs from (map (step_of m f) (phis ++ next ∷ rest)))) r.is ∙ more.is ∙ ap Some (append_assoc found ((r.place, r.value) ∷ []) more.pairs);
      }

-- ---- what they set

module _ (m : ModuleView) (f : FunctionView) where
  pub set_length : (ps : List (ℕ × Value)) (rs : Registers) → length (set_all ps rs) ≡ length rs
  set_length [] rs = refl
  set_length (p ∷ ps) rs = set_length ps (slice_set rs p.0 (Some (held.Value p.1))) ∙ length-set rs p.0 (Some (held.Value p.1))

  one_set : (i : InstrView) (p : ℕ × Value) (rs : Registers) → length rs ≡ length (register_names f) → IsReadBy m f i p → (x : List ℕ) → HoldsUsed m f rs x ⊎ (i.result ≡ Some x)
      → HoldsUsed m f (slice_set rs p.0 (Some (held.Value p.1))) x
  one_set i p rs count r x which =
      set_holds m f rs r.name x p.0 (held.Value p.1) (r.placed.at ∙ ap Some r.at) (subst (λ k. k < length rs) r.at (subst (λ n. r.placed.place < n) (sym count) r.placed.below))
      (λ kind e u. subst (λ k. is_held k (held.Value p.1) ≡ true) (one (whole_kind m.types (registers.value_of r.over)) kind (sym r.placed.found ∙ e)) r.holds) (named which)
    where
      one : (k l : Kind) → Some k ≡ Some l → k ≡ l
      one k l e = cc

      named : HoldsUsed m f rs x ⊎ (i.result ≡ Some x) → HoldsUsed m f rs x ⊎ (r.name ≡ x)
      named (inl h) = inl h
      named (inr e) = inr (some_same r.name x (sym r.result ∙ e))

  pub all_set : (phis : List InstrView) (ps : List (ℕ × Value)) (rs : Registers) → length rs ≡ length (register_names f) → AreReadBy m f phis ps → (x : List ℕ) → HoldsUsed m f rs x ⊎ Contains (results phis) x
      → HoldsUsed m f (set_all ps rs) x
  all_set [] [] rs count read x (inl h) = h
  all_set [] [] rs count read x (inr (k, l, e)) = absurd (omega (arith, l))
  all_set (i ∷ phis) (p ∷ ps) rs count read x which =
      let more = slice_set rs p.0 (Some (held.Value p.1)) in
      all_set phis ps more (length-set rs p.0 (Some (held.Value p.1)) ∙ count) read.1 x (next which)
    where
      own : (o : Option (List ℕ)) → Contains (option_to_list o) x → o ≡ Some x
      own None (k, l, e) = absurd (omega (arith, l))
      own (Some y) (zero, l, e) = ap Some e
      own (Some y) (suc k, l, e) = absurd (omega (arith, l))

      apart : Contains (option_to_list i.result) x ⊎ Contains (results phis) x → HoldsUsed m f (slice_set rs p.0 (Some (held.Value p.1))) x ⊎ Contains (results phis) x
      apart (inl c) = inl (one_set i p rs count read.0 x (inr (own i.result c)))
      apart (inr c) = inr c

      next : HoldsUsed m f rs x ⊎ Contains (results (i ∷ phis)) x → HoldsUsed m f (slice_set rs p.0 (Some (held.Value p.1))) x ⊎ Contains (results phis) x
      next (inl h) = inl (one_set i p rs count read.0 x (inl h))
      next (inr c) = apart (Contains-append_cases (option_to_list i.result) (results phis) x c)
  all_set [] (p ∷ ps) rs count read x which = absurd read
  all_set (i ∷ phis) [] rs count read x which = absurd read
