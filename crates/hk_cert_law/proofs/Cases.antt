-- The state block of a case is read back.
use Rattle.std.proofs.Common.{◌≡◌, ℕ, suc, ◌^◌, ◌<◌, true, List, [], ◌∷◌, length, map, Some, Ok, refl, sym, ◌∙◌, subst, arith}
use Rattle.std.proofs.lemmas.List.Elements.{All-head, All-tail}
use Rattle.std.specs.List.{All}
use Rattle.ir_ast.specs.Program.{GlobalView, ModuleView}
use Rattle.ir_layout.specs.declared.object.Object.{Object}
use Rattle.spec_tree.specs.Plain.{Field, Transition, Spec}
use Rattle.spec_tree.specs.Sorted.{IsWidth, IsFieldSort, IsField, IsWellSorted, sort_of, field_sorts}
use Rattle.spec_tree.specs.Shapes.{AreNumbers, IsMemory, IsState}
use Rattle.hk_case.specs.declared.Obligation.{Obligation}
use Rattle.hk_case.specs.declared.Obligation.TheVariants.{Undefined, Invariant, State, ResultValue, Property}
use Rattle.hk_case.specs.declared.Case.{Case}
use Rattle.hk_case.specs.declared.Case.TheVariants.{Machine, Abstract}
use Rattle.hk_case.specs.Obligations.{IsConstantKept, IsMachineState, IsCase}
use Rattle.hk_rows.specs.Rows.{memory_text}
use Rattle.hk_verdict.specs.Entries.{entries_text}
use Rattle.hk_verdict.specs.Report.{args_text, case_text}
use Rattle.hk_cert.specs.States.{args_from, memory_from, state_from, machine_at, abstract_at, case_at}
use Rattle.hk_cert.specs.Steps.{and_then}
use Rattle.hk_cert_law.specs.Names.{HasNames}
use Rattle.hk_cert_law.proofs.Placed.{IsPlaced}
use Rattle.hk_cert_law.proofs.Arguments.{args_take}
use Rattle.hk_cert_law.proofs.Memory.{IsKept, AreKept, memory_take}
use Rattle.hk_cert_law.proofs.States.{IsOuter, state_take}
use Rattle.hk_cert_law.proofs.Takes.{Takes, AnyText, then_takes, with_value}

-- ---- the objects of a machine state are those of the layout

-- the initial bytes of objects
abbrev pub initial_of : List Object → List (List ℕ)
initial_of objects = map (λ o. o.bytes) objects

tail_same : {A B C : Type 0} (f : A → C) (g : B → C) (a : A) (b : B) (xs : List A) (ys : List B) → map f (a ∷ xs) ≡ map g (b ∷ ys) → (f a ≡ g b) × (map f xs ≡ map g ys)
tail_same f g a b xs ys e = (cc e, cc e)

one_kept : (g : GlobalView) (o : Object) (bytes : List ℕ) → o.constant ≡ g.constant → length o.bytes ≡ o.size → o.size < 2 ^ 64 → length bytes ≡ o.size → All (λ b. b < 256) bytes → (o.constant ≡ true → bytes ≡ o.bytes) → IsKept g o.bytes bytes
one_kept g o bytes constant shape small long bound kept = record {
  long = long ∙ sym shape;
  bounded = bound;
  few = subst (λ n. n < 2 ^ 64) (sym long) small;
  constant = λ c. kept (constant ∙ c);
}

kept : (globals : List (List ℕ × GlobalView)) (objects : List Object) (memory : List (List ℕ)) → map (λ o. o.constant) objects ≡ map (λ (g : List ℕ × GlobalView). g.1.constant) globals
    → map (λ (o : Object). length o.bytes) objects ≡ map (λ o. o.size) objects → All (λ o. o.size < 2 ^ 64) objects → IsMemory (map (λ o. o.size) objects) memory → IsConstantKept objects memory → AreKept globals (initial_of objects) memory
kept [] [] memory constants shapes small sizes fixed = sizes
kept [] (o ∷ objects) memory constants shapes small sizes fixed = absurd (cc constants)
kept (g ∷ globals) [] memory constants shapes small sizes fixed = absurd (cc constants)
kept (g ∷ globals) (o ∷ objects) [] constants shapes small sizes fixed = absurd sizes
kept (g ∷ globals) (o ∷ objects) (bytes ∷ memory) constants shapes small sizes fixed =
    let c = tail_same (λ (o : Object). o.constant) (λ (g : List ℕ × GlobalView). g.1.constant) o g objects globals constants in
    let s = tail_same (λ (o : Object). length o.bytes) (λ (o : Object). o.size) o o objects objects shapes in (
      one_kept g.1 o bytes c.0 s.0 (All-head (λ (o : Object). o.size < 2 ^ 64) o objects small) sizes.0.0 sizes.0.1 (λ is. held bytes o.bytes (fixed 0 o refl is)),
      kept globals objects memory c.1 s.1 (All-tail (λ (o : Object). o.size < 2 ^ 64) o objects small) sizes.1 (λ k x at is. fixed (suc k) x at is),
    )
  where
    held : (a b : List ℕ) → Some a ≡ Some b → a ≡ b
    held a b e = cc

-- ---- cases

module _ (m : ModuleView) (objects : List Object) (s : Spec) (placed : IsPlaced m objects) (names : HasNames s) (sorted : IsWellSorted s) (t : Transition) (widths : All IsWidth t.widths) (few : length t.widths < 2 ^ 64) where
  args_taken : (args : List ℕ) → AreNumbers t.widths args → Takes AnyText (args_text args) (args_from [] 0 t.widths) args
  args_taken args numbers = args_take t.widths args [] 0 numbers widths (omega (arith, few))

  machine_take : (memory : List (List ℕ)) (args : List ℕ) → IsMachineState objects memory → AreNumbers t.widths args
      → Takes IsOuter (case_text m s (Machine memory args)) (machine_at m (initial_of objects) t.widths) (Machine memory args)
  machine_take memory args state numbers =
      let stands = kept m.globals objects memory placed.constants placed.shapes placed.sizes state.sizes state.constants in
      then_takes AnyText IsOuter (args_text args) (memory_text m.globals memory) (args_from [] 0 t.widths)
      (λ args q. and_then (memory_from [] m.globals (initial_of objects) q) (λ memory r. Ok (Machine memory args, r))) args (Machine memory args)
      (args_taken args numbers)
      (with_value IsOuter (memory_text m.globals memory) (memory_from [] m.globals (initial_of objects)) (λ memory. Machine memory args) memory (memory_take memory m.globals (initial_of objects) memory [] 0 stands refl placed.names))
      (λ rest ahead. tt)

  sorts : (fs : List Field) → All (IsField s) fs → All (λ f. IsFieldSort (sort_of f)) fs
  sorts fs all = λ k d low. (all k d low).sort

  abstract_take : (state : List (List ℕ)) (args : List ℕ) → IsState (field_sorts s) state → AreNumbers t.widths args
      → Takes IsOuter (case_text m s (Abstract state args)) (abstract_at s t.widths) (Abstract state args)
  abstract_take state args shape numbers =
      then_takes AnyText IsOuter (args_text args) (entries_text [] s state) (args_from [] 0 t.widths)
      (λ args q. and_then (state_from [] s.fields q) (λ state r. Ok (Abstract state args, r))) args (Abstract state args)
      (args_taken args numbers)
      (with_value IsOuter (entries_text [] s state) (state_from [] s.fields) (λ state. Abstract state args) state (state_take s.fields state [] (sorts s.fields sorted.fields) names.fields names.own_fields shape))
      (λ rest ahead. tt)

  pub case_take : (o : Obligation) (case : Case) → IsCase objects s t o case → Takes IsOuter (case_text m s case) (case_at m (initial_of objects) s t o) case
  case_take (Property p) (Abstract state args) h = abstract_take state args h.0 h.1
  case_take (Property p) (Machine memory args) h = absurd h
  case_take Undefined (Machine memory args) h = machine_take memory args h.0 h.1
  case_take (Invariant i) (Machine memory args) h = machine_take memory args h.0 h.1
  case_take (State f) (Machine memory args) h = machine_take memory args h.0 h.1
  case_take ResultValue (Machine memory args) h = machine_take memory args h.0 h.1
  case_take Undefined (Abstract state args) h = absurd h
  case_take (Invariant i) (Abstract state args) h = absurd h
  case_take (State f) (Abstract state args) h = absurd h
  case_take ResultValue (Abstract state args) h = absurd h
