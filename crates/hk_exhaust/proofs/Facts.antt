-- What a kernel, a specification that fits it and an obligation of a handler give.
use Rattle.std.proofs.Common.{◌≡◌, ◌+◌, ◌<◌, ◌↔◌, ◌^◌, ℕ, zero, suc, Bool, true, false, Option, Some, None, List, [], ◌∷◌, ◌++◌, length, map, get_or, refl, sym, ap, ◌∙◌, subst, arith, rules}
use Rattle.std.specs.Prelude.{All, slice_get, slice_index_or, IsTrue, nat_eq, if◌then◌else◌}
use Rattle.std.proofs.lemmas.List.{length-map}
use Rattle.std.proofs.lemmas.List.FromFn.{get_or-range_with_len, length-range_with_len}
use Rattle.std.proofs.lemmas.List.Elements.{All-nil, All-cons, All-head, All-tail, All-map, All-append}
use Rattle.ir_ast.specs.Program.{GlobalView, ModuleView}
use Rattle.ir_layout.specs.declared.object.Object.{Object}
use Rattle.ir_layout.specs.Layouts.{LayoutView, IsLayoutOf}
use Rattle.ir_layout.specs.Sizes.{object_size}
use Rattle.spec_tree.specs.Plain as plain
use Rattle.spec_tree.specs.Shapes.{IsMemory}
use Rattle.spec_tree.specs.View.{view_spec, view_named, view_field, view_transition}
use Rattle.spec_tree.specs.declared.spec.Spec.{Spec}
use Rattle.spec_tree.specs.declared.spec.Transition.{Transition}
use Rattle.spec_tree.specs.Meaning.{abstraction, field_entries}
use Rattle.ir_check.specs.Checked.{IsChecked}
use Rattle.ir_kernel.proofs.InitLaws.{inits_fit}
use Rattle.spec_names.specs.Kernel.{Global}
use Rattle.spec_kernel.specs.View.{global_of}
use Rattle.spec_kernel.specs.Fit.{FitsModule}
use Rattle.hk_case.specs.declared.Obligation.{Obligation}
use Rattle.hk_case.specs.declared.Obligation.TheVariants.{Undefined, Invariant, State, ResultValue, Property}
use Rattle.hk_case.specs.declared.Case.{Case}
use Rattle.hk_case.specs.declared.Case.TheVariants.{Machine, Abstract}
use Rattle.hk_case.specs.Obligations.{places, obligations_of, result_owed, IsObligation, IsCase, case_bits}
use Rattle.hk_case.specs.Violation.{Violates}
use Rattle.ir_sound.specs.Shapes.{sizes_of}
use Rattle.hk_exhaust.specs.Answers.{Tells, Finds, FindsAmong}
use Rattle.hk_exhaust.specs.Handlers.{IsOwed, HasShape}
use Rattle.hk_exhaust.proofs.Telling.{all_there}
use Rattle.hk_exhaust.proofs.Coding.{case_numbered}

-- ---- obligations

all_places : {X : Type 0} (xs : List X) → All (λ k. k < length xs) (places xs)
all_places xs k d low =
    let within : k < length xs = omega (arith, low, length-range_with_len 0 (length xs)) in
    let e : get_or (places xs) k d ≡ 0 + k = get_or-range_with_len 0 (length xs) k d within in
    omega (arith, within, e)

result_fits : (s : Spec) (w : ℕ) → All (IsOwed s) (result_owed w)
result_fits s w = by (nat_eq w 0)
  where
    by : (b : Bool) → All (IsOwed s) (if b then [] else ResultValue ∷ [])
    by true = All-nil (IsOwed s)
    by false = All-cons (IsOwed s) ResultValue [] tt (All-nil (IsOwed s))

all_owed : (s : Spec) (t : plain.Transition) → All (IsOwed s) (obligations_of (view_spec s) t)
all_owed s t =
    let v = view_spec s in
    let P = IsOwed s in
    let i : All P (map Invariant (places v.invariants)) = All-map P Invariant (places v.invariants) (λ k d low. omega (arith, all_places v.invariants k d low, length-map s.invariants view_named)) in
    let f : All P (map State (places v.fields)) = All-map P State (places v.fields) (λ k d low. omega (arith, all_places v.fields k d low, length-map s.fields view_field)) in
    let p : All P (map Property (places v.properties)) = All-map P Property (places v.properties) (λ k d low. omega (arith, all_places v.properties k d low, length-map s.properties view_named)) in
    All-append P (Undefined ∷ map Invariant (places v.invariants) ++ map State (places v.fields) ++ result_owed t.result_width) (map Property (places v.properties))
    (All-append P (Undefined ∷ map Invariant (places v.invariants) ++ map State (places v.fields)) (result_owed t.result_width)
    (All-append P (Undefined ∷ map Invariant (places v.invariants)) (map State (places v.fields)) (All-cons P Undefined (map Invariant (places v.invariants)) tt i) f)
    (result_fits s t.result_width)) p

pub owed_by : (s : Spec) (t : plain.Transition) (o : Obligation) → IsObligation (view_spec s) t o → IsOwed s o
owed_by s t o h = all_there (IsOwed s) (obligations_of (view_spec s) t) h.0 o h.1 (all_owed s t)

-- ---- objects

sizes_seen : (m : ModuleView) (gs : List (List ℕ × GlobalView)) → map (λ (g : Global). g.size) (map (global_of m.types) gs) ≡ map (λ (g : List ℕ × GlobalView). object_size m.types g.1) gs
sizes_seen m [] = refl
sizes_seen m (g ∷ gs) = ap (λ l. object_size m.types g.1 ∷ l) (sizes_seen m gs)

pub objects_are : (m : ModuleView) (s : plain.Spec) (l : LayoutView) → FitsModule m s → IsLayoutOf m l → s.objects ≡ map (λ (o : Object). o.size) l.objects
objects_are m s l fits laid = fits.objects ∙ sizes_seen m m.globals ∙ sym laid.sizes

pub objects_counted : (m : ModuleView) (s : plain.Spec) (l : LayoutView) → FitsModule m s → IsLayoutOf m l → length l.objects ≡ length s.objects
objects_counted m s l fits laid = sym (ap length (objects_are m s l fits laid) ∙ length-map l.objects _)

-- ---- shapes

pub shape_of_case : (s : Spec) (t : Transition) (objects : List Object) (o : Obligation) (c : Case) → s.objects ≡ map (λ (p : Object). p.size) objects → IsCase objects (view_spec s) (view_transition t) o c → HasShape s t o c
shape_of_case s t objects (Property p) (Abstract state args) e h = h
shape_of_case s t objects (Property p) (Machine memory args) e h = h
shape_of_case s t objects Undefined (Abstract state args) e h = h
shape_of_case s t objects Undefined (Machine memory args) e h = (subst (λ ns. IsMemory ns memory) (sym e) h.0.sizes, h.1)
shape_of_case s t objects (Invariant i) (Abstract state args) e h = h
shape_of_case s t objects (Invariant i) (Machine memory args) e h = (subst (λ ns. IsMemory ns memory) (sym e) h.0.sizes, h.1)
shape_of_case s t objects (State f) (Abstract state args) e h = h
shape_of_case s t objects (State f) (Machine memory args) e h = (subst (λ ns. IsMemory ns memory) (sym e) h.0.sizes, h.1)
shape_of_case s t objects ResultValue (Abstract state args) e h = h
shape_of_case s t objects ResultValue (Machine memory args) e h = (subst (λ ns. IsMemory ns memory) (sym e) h.0.sizes, h.1)

pub tells_exactly : (b : Bool) (P : Type 0) → Tells b P → IsTrue b ↔ P
tells_exactly true P h = ((λ e. h), (λ p. search rules))
tells_exactly false P h = ((λ e. let f : false ≡ true = search rules in cc), (λ p. absurd (h p)))

-- ---- memories

pub memory_long : (ns : List ℕ) (memory : List (List ℕ)) → IsMemory ns memory → length memory ≡ length ns
memory_long [] memory h = ap length h
memory_long (n ∷ ns) [] h = absurd h
memory_long (n ∷ ns) (bytes ∷ memory) h = omega (arith, memory_long ns memory h.1)

pub long_after : (memory after : List (List ℕ)) → sizes_of after ≡ sizes_of memory → length after ≡ length memory
long_after memory after e = sym (length-map after _) ∙ ap length e ∙ length-map memory _

pub memory_after : (ns : List ℕ) (memory after : List (List ℕ)) → IsMemory ns memory → sizes_of after ≡ sizes_of memory → All (λ o. All (λ b. b < 256) o) after → IsMemory ns after
memory_after [] memory [] h e a = refl
memory_after [] memory (o ∷ after) h e a =
    let n : length (o ∷ after) ≡ length memory = long_after memory (o ∷ after) e in
    absurd (omega (arith, n, ap length h))
memory_after (n ∷ ns) [] after h e a = absurd h
memory_after (n ∷ ns) (bytes ∷ memory) [] h e a = cc
memory_after (n ∷ ns) (bytes ∷ memory) (o ∷ after) h e a =
    let s : length o ∷ sizes_of after ≡ length bytes ∷ sizes_of memory = e in
    let head : length o ≡ length bytes = cc in
    let tail : sizes_of after ≡ sizes_of memory = cc in
    ((head ∙ h.0.0, All-head (λ x. All (λ b. b < 256) x) o after a), memory_after ns memory after h.1 tail (All-tail (λ x. All (λ b. b < 256) x) o after a))

-- ---- the objects of a layout

one_object : (o p : Object) → o.size ≡ p.size → o.align ≡ p.align → o.constant ≡ p.constant → o.bytes ≡ p.bytes → o ≡ p
one_object o p size align constant bytes =
    ap (λ x. record o { size = x }) size ∙ ap (λ x. record o { size = p.size; align = x }) align
    ∙ ap (λ x. record o { size = p.size; align = p.align; constant = x }) constant ∙ ap (λ x. record o { size = p.size; align = p.align; constant = p.constant; bytes = x }) bytes

same_objects : (os ps : List Object) → map (λ o. o.size) os ≡ map (λ o. o.size) ps → map (λ o. o.align) os ≡ map (λ o. o.align) ps → map (λ o. o.constant) os ≡ map (λ o. o.constant) ps → map (λ o. o.bytes) os ≡ map (λ o. o.bytes) ps → os ≡ ps
same_objects [] [] s a c b = refl
same_objects [] (p ∷ ps) s a c b = cc
same_objects (o ∷ os) [] s a c b = cc
same_objects (o ∷ os) (p ∷ ps) s a c b =
    let s0 : o.size ≡ p.size = cc in
    let s1 : map (λ (x : Object). x.size) os ≡ map (λ (x : Object). x.size) ps = cc in
    let a0 : o.align ≡ p.align = cc in
    let a1 : map (λ (x : Object). x.align) os ≡ map (λ (x : Object). x.align) ps = cc in
    let c0 : o.constant ≡ p.constant = cc in
    let c1 : map (λ (x : Object). x.constant) os ≡ map (λ (x : Object). x.constant) ps = cc in
    let b0 : o.bytes ≡ p.bytes = cc in
    let b1 : map (λ (x : Object). x.bytes) os ≡ map (λ (x : Object). x.bytes) ps = cc in
    ap (λ x. x ∷ os) (one_object o p s0 a0 c0 b0) ∙ ap (λ xs. p ∷ xs) (same_objects os ps s1 a1 c1 b1)

pub one_layout : (m : ModuleView) (l k : LayoutView) → IsChecked m → IsLayoutOf m l → IsLayoutOf m k → l.objects ≡ k.objects
one_layout m l k checked a b =
    same_objects l.objects k.objects (a.sizes ∙ sym b.sizes) (a.aligns ∙ sym b.aligns) (a.constants ∙ sym b.constants) (a.bytes (inits_fit m checked) ∙ sym (b.bytes (inits_fit m checked)))

pub entries_there : (s : plain.Spec) (memory : List (List ℕ)) (f : ℕ) (entries : List ℕ) → f < length s.fields → ((d : plain.Field) → slice_get s.fields f ≡ Some d → entries ≡ field_entries s memory d) → entries ≡ slice_index_or (abstraction s memory) f []
entries_there s memory f entries low h = go s.fields f low h
  where
    go : (fs : List plain.Field) (k : ℕ) → k < length fs → ((d : plain.Field) → slice_get fs k ≡ Some d → entries ≡ field_entries s memory d) → entries ≡ slice_index_or (map (field_entries s memory) fs) k []
    go [] k low h = absurd (omega (arith, low))
    go (d ∷ fs) zero low h = h d refl
    go (d ∷ fs) (suc k) low h = go fs k (omega (arith, low)) h

-- ---- what a search among all numbers finds

pub finds_in_all : (m : ModuleView) (os : List Object) (s : plain.Spec) (t : plain.Transition) (o : Obligation) (count : ℕ) (found : Option Case) → count ≡ 2 ^ case_bits os s t o → FindsAmong m os s t o count found → Finds m os s t o found
finds_in_all m os s t o count (Some c) e h = h
finds_in_all m os s t o count None e h = λ c shape violated.
    let n = case_numbered os s t o c shape in
    h n.number (subst (λ k. n.number < k) (sym e) n.small) (subst (Violates m s t o) (sym n.is) violated)
