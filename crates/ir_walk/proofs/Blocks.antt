-- Blocks in their order, and calls in their places, are steps of the machine.
use Rattle.std.proofs.Common.{◌≡◌, ◌≢◌, ℕ, zero, suc, ◌+◌, ◌≤◌, ◌==◌, if◌then◌else◌, eqb-true, Bool, true, false, List, [], ◌∷◌, drop, sum_by, Contains, refl, sym, ap, ◌∙◌, subst, arith}
use Rattle.std.proofs.lemmas.Bool.{false≢true}
use Rattle.std.proofs.lemmas.List.{drop-drop}
use Rattle.std.proofs.lemmas.List.Sums.{sum_by-cons, sum_by-take-drop}
use Rattle.ir_code.specs.declared.act.Step.{Step}
use Rattle.ir_code.specs.declared.program.Program.{Program}
use Rattle.ir_machine.specs.declared.state.Frame.{Frame}
use Rattle.ir_machine.specs.declared.state.Machine.{Machine}
use Rattle.ir_machine.specs.declared.state.End.{End}
use Rattle.ir_machine.specs.declared.state.End.TheVariants.{Unfinished}
use Rattle.ir_machine.specs.Values.{Registers}
use Rattle.ir_machine.specs.Step.{steps_of}
use Rattle.ir_walk.specs.Walk.{Memory, Flow, Goes, Back, Stops, Callee, walk_steps, visit, visit_all, walk}
use Rattle.ir_walk.specs.LoopFree.{weight, weight_of, ends_behind, ends_in_terminator}
use Rattle.ir_walk.proofs.Comes.{Leads, IsFine, AreCalled, standing, at_once, comes_on, longer, got_here, step_here}
use Rattle.ir_walk.proofs.Acts.{act_leads}
use Rattle.ir_walk.proofs.Through.{head_in, tail_in}
use Rattle.ir_walk.proofs.Entries.{Enters, steps_enter}

leads_longer : (P : Program) (f : ℕ) (below : List Frame) (m : Machine) (a b : ℕ) (flow : Flow) → a ≤ b → Leads P f below m a flow → Leads P f below m b flow
leads_longer P f below m a b flow more l = record { from = l.from; comes = longer P m a b _ more l.comes }

-- the weights of the blocks of an order
abbrev pub order_weight : (ℕ → ℕ) → Program → ℕ → List ℕ → ℕ
order_weight E P f order = sum_by (λ b. weight_of E (steps_of P f b)) order

module _ (P : Program) (E : ℕ → ℕ) (W : Callee) (called : AreCalled P E W) (f : ℕ) (below : List Frame) where
  steps_lead : (b from p : ℕ) (rs : Registers) (memory : Memory) (ss : List Step) → drop p (steps_of P f b) ≡ ss → ends_in_terminator ss ≡ true
      → IsFine (walk_steps W P f b ss rs memory) → Leads P f below (standing f from b p rs memory below) (weight_of E ss) (walk_steps W P f b ss rs memory)
  steps_lead b from p rs memory [] e ends fine = absurd (false≢true ends)
  steps_lead b from p rs memory (s ∷ ss) e ends fine =
      let next : drop (p + 1) (steps_of P f b) ≡ ss = sym (drop-drop 1 p (steps_of P f b)) ∙ ap (λ l. drop 1 l) e in
      let l = act_leads P f from b p rs memory below s (walk_steps W P f b ss) (weight_of E ss) W E (got_here (steps_of P f b) p s ss e) s.act called
      (step_here P f from b p rs memory below s ss e) fine
      (λ inner rs' memory' fine'. steps_lead b from (p + 1) rs' memory' ss next (subst (λ t. ends_behind t ss ≡ true) inner ends) fine') in
      leads_longer P f below _ (weight E s.act + weight_of E ss) (weight_of E (s ∷ ss)) _ (omega (arith, sum_by-cons (λ s'. weight E s'.act) s ss)) l

  module _ (m : Machine) where
    -- the walk of a block from a place of it on
    place_leads : (b p most : ℕ) (rs : Registers) (memory : Memory) → ends_in_terminator (drop p (steps_of P f b)) ≡ true
        → IsFine (walk_steps W P f b (drop p (steps_of P f b)) rs memory) → Leads P f below m most (Goes b p rs memory)
        → Leads P f below m (most + weight_of E (steps_of P f b)) (walk_steps W P f b (drop p (steps_of P f b)) rs memory)
    place_leads b p most rs memory ends fine l =
        let ss = steps_of P f b in
        let on = steps_lead b l.from p rs memory (drop p ss) refl ends fine in
        let less = sum_by-take-drop (λ s. weight E s.act) ss p in
        record {
          from = on.from;
          comes = longer P m (most + weight_of E (drop p ss)) (most + weight_of E ss) _ (omega (arith, less))
              (comes_on P m (standing f l.from b p rs memory below) most (weight_of E (drop p ss)) _ l.comes on.comes);
        }

    placed : (b to p most : ℕ) (rs : Registers) (memory : Memory) (t : Bool) → to == b ≡ t → ends_in_terminator (steps_of P f b) ≡ true
        → Enters P f (Goes to p rs memory)
        → IsFine (if t then walk_steps W P f b (drop p (steps_of P f b)) rs memory else Goes to p rs memory) → Leads P f below m most (Goes to p rs memory)
        → Leads P f below m (most + weight_of E (steps_of P f b)) (if t then walk_steps W P f b (drop p (steps_of P f b)) rs memory else Goes to p rs memory)
    placed b to p most rs memory true e ends enters fine l =
        let same : to ≡ b = eqb-true to b e in
        let entered = subst (λ k. Enters P f (Goes k p rs memory)) same enters in
        place_leads b p most rs memory (entered ends) fine (subst (λ k. Leads P f below m most (Goes k p rs memory)) same l)
    placed b to p most rs memory false e ends enters fine l = leads_longer P f below m most (most + weight_of E (steps_of P f b)) _ (omega arith) l

    visit_leads : (b most : ℕ) (flow : Flow) → ends_in_terminator (steps_of P f b) ≡ true → Enters P f flow → IsFine (visit W P f b flow)
        → Leads P f below m most flow → Leads P f below m (most + weight_of E (steps_of P f b)) (visit W P f b flow)
    visit_leads b most (Goes to p rs memory) ends enters fine l = placed b to p most rs memory (to == b) refl ends enters fine l
    visit_leads b most (Back v memory) ends enters fine l = leads_longer P f below m most (most + weight_of E (steps_of P f b)) _ (omega arith) l
    visit_leads b most (Stops end) ends enters fine l = leads_longer P f below m most (most + weight_of E (steps_of P f b)) _ (omega arith) l

    entered_or : (b to p : ℕ) (rs : Registers) (memory : Memory) (t : Bool) → Enters P f (Goes to p rs memory)
        → Enters P f (if t then walk_steps W P f b (drop p (steps_of P f b)) rs memory else Goes to p rs memory)
    entered_or b to p rs memory true enters = steps_enter W P f b (drop p (steps_of P f b)) rs memory
    entered_or b to p rs memory false enters = enters

    visit_enters : (b : ℕ) (flow : Flow) → Enters P f flow → Enters P f (visit W P f b flow)
    visit_enters b (Goes to p rs memory) enters = entered_or b to p rs memory (to == b) enters
    visit_enters b (Back v memory) enters = tt
    visit_enters b (Stops end) enters = tt

    stays : (order : List ℕ) (end : End) → IsFine (visit_all W P f order (Stops end)) → end ≢ Unfinished
    stays [] end fine = fine
    stays (b ∷ order) end fine = stays order end fine

    fine_before : (order : List ℕ) (flow : Flow) → IsFine (visit_all W P f order flow) → IsFine flow
    fine_before order (Goes to p rs memory) fine = tt
    fine_before order (Back v memory) fine = tt
    fine_before order (Stops end) fine = stays order end fine

    order_leads : (order : List ℕ) (most : ℕ) (flow : Flow) → ((k : ℕ) → Contains order k → ends_in_terminator (steps_of P f k) ≡ true)
        → Enters P f flow → IsFine (visit_all W P f order flow) → Leads P f below m most flow
        → Leads P f below m (most + order_weight E P f order) (visit_all W P f order flow)
    order_leads [] most flow ends enters fine l = leads_longer P f below m most (most + order_weight E P f []) flow (omega arith) l
    order_leads (b ∷ order) most flow ends enters fine l =
        let w = weight_of E (steps_of P f b) in
        let next = visit W P f b flow in
        let visited = visit_leads b most flow (ends b (head_in b order)) enters (fine_before order next fine) l in
        let rest = order_leads order (most + w) next (λ k i. ends k (tail_in b order k i)) (visit_enters b flow enters) fine visited in
        let sum = sum_by-cons (λ k. weight_of E (steps_of P f k)) b order in
        leads_longer P f below m (most + w + order_weight E P f order) (most + order_weight E P f (b ∷ order)) _ (omega (arith, sum)) rest

-- at each depth of calls the walk is steps of the machine
pub walk_leads : (P : Program) (E : ℕ → ℕ) (order : ℕ → List ℕ) → ((f k : ℕ) → Contains (order f) k → ends_in_terminator (steps_of P f k) ≡ true)
    → ((f : ℕ) → order_weight E P f (order f) ≤ E f) → (n : ℕ) → AreCalled P E (walk P order n)
walk_leads P E order ends few zero f rs memory below fine = absurd (fine refl)
walk_leads P E order ends few (suc n) f rs memory below fine =
    let begin = standing f 0 0 0 rs memory below in
    let here : Leads P f below begin 0 (Goes 0 0 rs memory) = record { from = 0; comes = at_once P begin } in
    let l = order_leads P E (walk P order n) (walk_leads P E order ends few n) f below begin (order f) 0 (Goes 0 0 rs memory) (ends f) (λ e. e) fine here in
    leads_longer P f below begin (0 + order_weight E P f (order f)) (E f) _ (omega (arith, few f)) l
