-- Where edges and calls go forward, a walk comes to an end.
use Rattle.std.proofs.Common.{◌≡◌, ◌≢◌, ℕ, zero, suc, ◌+◌, ◌<◌, ◌≤◌, ◌==◌, if◌then◌else◌, Bool, true, false, List, [], ◌∷◌, ◌++◌, length, drop, take, take-append-drop, slice_index_or, Contains, refl, sym, ap, ◌∙◌, subst, append_assoc, arith}
use Rattle.std.proofs.lemmas.Bool.{false≢true, eqb-false}
use Rattle.std.proofs.lemmas.List.Elements.{Contains-append_right}
use Rattle.ir_code.specs.declared.program.Code.{Code}
use Rattle.ir_code.specs.declared.program.Program.{Program}
use Rattle.ir_value.specs.declared.value.Value.{Value}
use Rattle.std.specs.Prelude.{Option, Some, None}
use Rattle.ir_machine.specs.declared.state.End.{End}
use Rattle.ir_machine.specs.declared.state.End.TheVariants.{Returned, Stuck, Unfinished, Lost}
use Rattle.ir_machine.specs.Values.{Registers}
use Rattle.ir_machine.specs.Step.{steps_of, staged, run, start}
use Rattle.ir_walk.specs.Walk.{Memory, Flow, Goes, Back, Stops, Callee, on_entry, walk_steps, visit, visit_all, walk, end_of, end_of_walk}
use Rattle.ir_walk.specs.LoopFree.{body_of, HasEdge, HasCall, IsLoopFree, AreLengths}
use Rattle.ir_walk.proofs.Through.{head_in, Holds, HoldsOf, steps_hold}
use Rattle.ir_walk.proofs.Runs.{run_is_walk}

-- the walk ended, or goes to one of these blocks
abbrev IsAhead : List ℕ → Flow → Type 0
IsAhead order (Goes to position rs memory) = Contains order to
IsAhead order (Back v memory) = Unit
IsAhead order (Stops end) = end ≢ Unfinished

abbrev is_unfinished : End → Bool
is_unfinished Unfinished = true
is_unfinished end = false

another : (end : End) → is_unfinished end ≡ false → end ≢ Unfinished
another end other e = false≢true (sym other ∙ ap is_unfinished e)

none_in : (x : ℕ) → Contains [] x → ⊥
none_in x i = absurd (omega (arith, i.1))

-- a block that is not the first of these is behind it
in_rest : (b to : ℕ) (order : List ℕ) (k : ℕ) → k < length (b ∷ order) → slice_index_or (b ∷ order) k to ≡ to → (to ≡ b → ⊥) → Contains order to
in_rest b to order zero below is other = absurd (other (sym is))
in_rest b to order (suc k) below is other = (k, omega (arith, below), is)

in_whole : {X : Type 0} (xs : List X) (p : ℕ) (x : X) → Contains (drop p xs) x → Contains xs x
in_whole xs p x i = subst (λ l. Contains l x) (take-append-drop p xs) (Contains-append_right (take p xs) (drop p xs) x i)

holds_at : (order : List ℕ) → Holds (IsAhead order)
holds_at order = record {
  lost = another Lost refl;
  stuck = λ r line. another (Stuck r line) refl;
  back = λ v memory. tt;
}

entry_ahead : (order : List ℕ) (to : ℕ) (rs : Registers) (memory : Memory) (o : Option (List (ℕ × Value))) → Contains order to → IsAhead order (on_entry to rs memory o)
entry_ahead order to rs memory None i = another Lost refl
entry_ahead order to rs memory (Some ps) i = i

callee_ahead : (order : List ℕ) (flow : Flow) → IsAhead [] flow → HoldsOf (IsAhead order) flow
callee_ahead order (Goes to p rs memory) i = absurd (none_in to i)
callee_ahead order (Back v memory) i = tt
callee_ahead order (Stops end) i = i

module _ (P : Program) (W : Callee) (f : ℕ) (whole : List ℕ)
    (edges : (k j : ℕ) (before after : List ℕ) → whole ≡ before ++ k ∷ after → HasEdge P f k j → Contains after j)
    (calls : (k g : ℕ) → Contains whole k → HasCall P f k g → (rs : Registers) (memory : Memory) → IsAhead [] (W g rs memory)) where
  steps_ahead : (before after : List ℕ) (b p : ℕ) (rs : Registers) (memory : Memory) → whole ≡ before ++ b ∷ after
      → IsAhead after (walk_steps W P f b (drop p (steps_of P f b)) rs memory)
  steps_ahead before after b p rs memory e =
      let ss = steps_of P f b in
      let listed : Contains whole b = subst (λ l. Contains l b) (sym e) (Contains-append_right before (b ∷ after) b (head_in b after)) in
      steps_hold (IsAhead after) (holds_at after) W P f b (drop p ss)
      (λ s to in_ss in_targets rs' memory'. entry_ahead after to rs' memory' (staged memory' rs' b (steps_of P f to) [])
      (edges b to before after e (s, in_whole ss p s in_ss, in_targets)))
      (λ s g in_ss in_callees rs' memory'. callee_ahead after (W g rs' memory') (calls b g listed (s, in_whole ss p s in_ss, in_callees) rs' memory'))
      rs memory

  placed_ahead : (before after : List ℕ) (b to p : ℕ) (rs : Registers) (memory : Memory) (t : Bool) → to == b ≡ t → whole ≡ before ++ b ∷ after
      → Contains (b ∷ after) to
      → IsAhead after (if t then walk_steps W P f b (drop p (steps_of P f b)) rs memory else Goes to p rs memory)
  placed_ahead before after b to p rs memory true is e i = steps_ahead before after b p rs memory e
  placed_ahead before after b to p rs memory false is e i = in_rest b to after i.0 i.1 i.2 (eqb-false to b is)

  visit_ahead : (before after : List ℕ) (b : ℕ) (flow : Flow) → whole ≡ before ++ b ∷ after → IsAhead (b ∷ after) flow → IsAhead after (visit W P f b flow)
  visit_ahead before after b (Goes to p rs memory) e i = placed_ahead before after b to p rs memory (to == b) refl e i
  visit_ahead before after b (Back v memory) e i = tt
  visit_ahead before after b (Stops end) e i = i

  all_ahead : (order before : List ℕ) (flow : Flow) → whole ≡ before ++ order → IsAhead order flow → IsAhead [] (visit_all W P f order flow)
  all_ahead [] before flow e i = i
  all_ahead (b ∷ order) before flow e i =
      let more : whole ≡ (before ++ b ∷ []) ++ order = e ∙ sym (append_assoc before (b ∷ []) order) in
      all_ahead order (before ++ b ∷ []) (visit W P f b flow) more (visit_ahead before order b flow e i)

walk_ahead : (P : Program) (order : ℕ → List ℕ) (depth : ℕ → ℕ) → IsLoopFree P order depth → (n f : ℕ) → 0 < length (body_of P f) → depth f < n
    → (rs : Registers) (memory : Memory) → IsAhead [] (walk P order n f rs memory)
walk_ahead P order depth free zero f body deep rs memory = absurd (omega (arith, deep))
walk_ahead P order depth free (suc n) f body deep rs memory =
    all_ahead P (walk P order n) f (order f) (free.forward f)
    (λ k g listed has rs' memory'. walk_ahead P order depth free n g (free.called f k g listed has) (omega (arith, free.falls f k g listed has, deep)) rs' memory')
    (order f) [] (Goes 0 0 rs memory) refl (free.first f body)

ended : (flow : Flow) → IsAhead [] flow → end_of flow ≢ Unfinished
ended (Goes to p rs memory) i = absurd (none_in to i)
ended (Back v memory) i = another (Returned v memory) refl
ended (Stops end) i = i

pub walk_has_end : (P : Program) (order : ℕ → List ℕ) (depth : ℕ → ℕ) → IsLoopFree P order depth → (n f : ℕ) (rs : Registers) (memory : Memory)
    → 0 < length (body_of P f) → depth f < n → end_of (walk P order n f rs memory) ≢ Unfinished
walk_has_end P order depth free n f rs memory body deep = ended (walk P order n f rs memory) (walk_ahead P order depth free n f body deep rs memory)

pub run_is_end : (P : Program) (order : ℕ → List ℕ) (depth E : ℕ → ℕ) → IsLoopFree P order depth → AreLengths P E
    → (n f most : ℕ) (c : Code) (arguments : List ℕ) (memory : Memory) → 0 < length (body_of P f) → depth f < n → E f ≤ most
    → run P most (start c f arguments memory) ≡ end_of_walk P order n c f arguments memory
run_is_end P order depth E free lengths n f most c arguments memory body deep more =
    let rs = (start c f arguments memory).top.registers in
    run_is_walk P order E free.orders lengths n f most rs memory (walk_has_end P order depth free n f rs memory body deep) more

pub run_has_end : (P : Program) (order : ℕ → List ℕ) (depth E : ℕ → ℕ) → IsLoopFree P order depth → AreLengths P E
    → (f most : ℕ) (c : Code) (arguments : List ℕ) (memory : Memory) → 0 < length (body_of P f) → E f ≤ most
    → run P most (start c f arguments memory) ≢ Unfinished
run_has_end P order depth E free lengths f most c arguments memory body more e =
    let n = depth f + 1 in
    let rs = (start c f arguments memory).top.registers in
    let deep : depth f < n = omega (arith) in
    walk_has_end P order depth free n f rs memory body deep (sym (run_is_end P order depth E free lengths n f most c arguments memory body deep more) ∙ e)
