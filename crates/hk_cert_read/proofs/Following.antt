-- Readers of many parts: one part on, and at the end.
use Rattle.std.proofs.Common.{◌≡◌, ◌≤◌, ◌<◌, ℕ, zero, suc, ◌+◌, ◌-◌, add-one, min, Bool, List, [], ◌∷◌, ◌++◌, length, map, drop, drop-cons, get_or, Some, Ok, refl, sym, ◌∙◌, ap, arith}
use Rattle.std.specs.Prelude.{slice_get, option_map}
use Rattle.std.proofs.lemmas.List.{drop_more, length-drop}
use Rattle.std.proofs.lemmas.Option.{get_or_from_slice_get, slice_get_within}
use Rattle.ir_ast.specs.Program.{GlobalView, ModuleView}
use Rattle.ir_ast.specs.ProgramView.{view_entries}
use Rattle.ir_layout.specs.Bytes.{object_of}
use Rattle.ir_layout.specs.declared.object.Object.{Object}
use Rattle.spec_tree.specs.Plain.{Field, Transition, Spec}
use Rattle.spec_state.proofs.Turns.{part_at, drop_end}
use Rattle.hk_proof.specs.declared.Proof.{Proof}
use Rattle.hk_case.specs.declared.Obligation.{Obligation}
use Rattle.hk_cert_text.specs.declared.entry.Entry.{Entry}
use Rattle.hk_cert.specs.Steps.{Place, and_then}
use Rattle.hk_cert.specs.States.{object_at, memory_from, field_at, state_from}
use Rattle.hk_cert.specs.Reading.{entry_at, entries_from}
use Rattle.hk_cert_read.specs.Proving.{proved_by, proofs_by}

-- ---- what is left of a list

pub there : {X : Type 0} (xs : List X) (k : ℕ) → k < length xs → (x : X) × (slice_get xs k ≡ Some x)
there [] k low = absurd (omega (arith, low))
there (x ∷ xs) zero low = (x, refl)
there (x ∷ xs) (suc k) low = there xs k (omega (arith, low))

pub left_at : {X : Type 0} (xs : List X) (k : ℕ) (x : X) → slice_get xs k ≡ Some x → drop k xs ≡ x ∷ drop (k + 1) xs
left_at xs k x found = drop_more xs k x (slice_get_within xs k x found) ∙ ap (λ y. y ∷ drop (k + 1) xs) (get_or_from_slice_get xs k x x found)

-- ---- proofs

module _ (wide : Obligation → Bool) (s : Spec) (proofs : List Proof) (p : Place) where
  pub proofs_step : (left : List Obligation) (o : Obligation) (behind : List Obligation) → left ≡ o ∷ behind
      → proofs_by wide s proofs left p ≡ and_then (proved_by wide s o p) (λ proof q. proofs_by wide s (proofs ++ proof ∷ []) behind q)
  proofs_step left o behind is = ap (λ l. proofs_by wide s proofs l p) is

  pub proofs_end : (left : List Obligation) → left ≡ [] → proofs_by wide s proofs left p ≡ Ok (proofs, p)
  proofs_end left is = ap (λ l. proofs_by wide s proofs l p) is

-- ---- objects

module _ (memory : List (List ℕ)) (p : Place) where
  pub memory_step : (globals : List (List ℕ × GlobalView)) (g : List ℕ × GlobalView) (more : List (List ℕ × GlobalView)) (initial : List (List ℕ)) (bytes : List ℕ) (rest : List (List ℕ)) → globals ≡ g ∷ more → initial ≡ bytes ∷ rest
      → memory_from memory globals initial p ≡ and_then (object_at g.1 bytes p) (λ object q. memory_from (memory ++ object ∷ []) more rest q)
  memory_step globals g more initial bytes rest first second = ap (λ l. memory_from memory l initial p) first ∙ ap (λ l. memory_from memory (g ∷ more) l p) second

  pub memory_end : (globals : List (List ℕ × GlobalView)) (initial : List (List ℕ)) → min (length globals) (length initial) ≡ 0 → memory_from memory globals initial p ≡ Ok (memory, p)
  memory_end [] initial none = refl
  memory_end (g ∷ globals) [] none = refl
  memory_end (g ∷ globals) (bytes ∷ initial) none = absurd (omega (arith, none))

-- the entry at a place of a table, seen as plain data
pub entry_left : {E V : Type 0} (view : E → V) (entries : List (List ℕ × E)) (k : ℕ) (e : E) → option_map (λ entry. entry.1) (slice_get entries k) ≡ Some e
    → (name : List ℕ) × (drop k (view_entries view entries) ≡ (name, view e) ∷ drop (suc k) (view_entries view entries))
entry_left view [] k e h = cc
entry_left view (x ∷ es) zero e h = let is : x.1 ≡ e = cc in (x.0, ap (λ y. (x.0, view y) ∷ view_entries view es) is)
entry_left view (x ∷ es) (suc k) e h = entry_left view es k e h

pub memory_turn : {E : Type 0} (view : E → GlobalView) (memory initial : List (List ℕ)) (entries : List (List ℕ × E)) (k : ℕ) (g : E) (bytes : List ℕ) (p : Place) → k < length initial
    → option_map (λ entry. entry.1) (slice_get entries k) ≡ Some g → bytes ≡ object_of initial k
    → memory_from memory (drop k (view_entries view entries)) (drop k initial) p
    ≡ and_then (object_at (view g) bytes p) (λ object q. memory_from (memory ++ object ∷ []) (drop (k + 1) (view_entries view entries)) (drop (k + 1) initial) q)
memory_turn view memory initial entries k g bytes p low found is =
    let e = entry_left view entries k g found in
    memory_step memory p (drop k (view_entries view entries)) (e.0, view g) (drop (k + 1) (view_entries view entries)) (drop k initial) bytes (drop (k + 1) initial)
    (e.1 ∙ ap (λ n. (e.0, view g) ∷ drop n (view_entries view entries)) (sym (add-one k)))
    (drop-cons initial k [] low ∙ (ap (λ b. b ∷ drop (suc k) initial) (sym is) ∙ ap (λ n. bytes ∷ drop n initial) (sym (add-one k))))

pub memory_done : (memory initial : List (List ℕ)) (globals : List (List ℕ × GlobalView)) (k : ℕ) (p : Place) → min (length globals) (length initial) ≤ k
    → memory_from memory (drop k globals) (drop k initial) p ≡ Ok (memory, p)
memory_done memory initial globals k p past =
    let a = length-drop k globals in
    let b = length-drop k initial in
    memory_end memory p (drop k globals) (drop k initial) (omega (arith, a, b, past))

-- ---- fields

module _ (state : List (List ℕ)) (p : Place) where
  pub state_step : (left : List Field) (f : Field) (behind : List Field) → left ≡ f ∷ behind
      → state_from state left p ≡ and_then (field_at f p) (λ entries q. state_from (state ++ entries ∷ []) behind q)
  state_step left f behind is = ap (λ l. state_from state l p) is

  pub state_end : (left : List Field) → left ≡ [] → state_from state left p ≡ Ok (state, p)
  state_end left is = ap (λ l. state_from state l p) is

pub state_turn : {F : Type 0} (view : F → Field) (state : List (List ℕ)) (fields : List F) (i : ℕ) (f : F) (p : Place) → f ≡ get_or fields i f → i < length fields
    → state_from state (map view (drop i fields)) p ≡ and_then (field_at (view f) p) (λ entries q. state_from (state ++ entries ∷ []) (map view (drop (i + 1) fields)) q)
state_turn view state fields i f p is low = state_step state p (map view (drop i fields)) (view f) (map view (drop (i + 1) fields)) (ap (map view) (part_at fields i f is low))

pub state_done : {F : Type 0} (view : F → Field) (state : List (List ℕ)) (fields : List F) (i : ℕ) (p : Place) → length fields ≤ i → state_from state (map view (drop i fields)) p ≡ Ok (state, p)
state_done view state fields i p past = ap (λ l. state_from state (map view l) p) (drop_end fields i past)

-- ---- handlers

module _ (m : ModuleView) (objects : List Object) (s : Spec) (entries : List Entry) (p : Place) where
  pub entries_step : (left : List Transition) (t : Transition) (behind : List Transition) → left ≡ t ∷ behind
      → entries_from m objects s entries left p ≡ and_then (entry_at m objects s t p) (λ e q. entries_from m objects s (entries ++ e ∷ []) behind q)
  entries_step left t behind is = ap (λ l. entries_from m objects s entries l p) is

  pub entries_end : (left : List Transition) → left ≡ [] → entries_from m objects s entries left p ≡ Ok (entries, p)
  entries_end left is = ap (λ l. entries_from m objects s entries l p) is
