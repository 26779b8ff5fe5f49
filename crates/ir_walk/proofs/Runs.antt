-- A run of at least the expanded length is the walk.
use Rattle.std.proofs.Common.{◌≡◌, ◌≢◌, ℕ, ◌+◌, ◌-◌, ◌≤◌, List, [], refl, subst, arith}
use Rattle.ir_code.specs.declared.program.Program.{Program}
use Rattle.ir_machine.specs.declared.state.Machine.{Machine}
use Rattle.ir_machine.specs.declared.state.End.{End}
use Rattle.ir_machine.specs.declared.state.End.TheVariants.{Unfinished}
use Rattle.ir_machine.specs.declared.state.Next.TheVariants.{Ended}
use Rattle.ir_machine.specs.Values.{Registers}
use Rattle.ir_machine.specs.Step.{run}
use Rattle.ir_walk.specs.Walk.{Memory, Flow, Goes, Back, Stops, walk, end_of, begins}
use Rattle.ir_walk.specs.LoopFree.{AreOrders, AreLengths}
use Rattle.ir_walk.proofs.Comes.{Comes, Leads, IsFine}
use Rattle.ir_walk.proofs.Blocks.{walk_leads}
use Rattle.ir_walk.proofs.Weights.{order_weighs}

ends_by : (P : Program) (m : Machine) (few most : ℕ) (end : End) → Comes P m few (Ended end) → few ≤ most → run P most m ≡ end
ends_by P m few most end x more =
    let same : x.steps + (most - x.steps) ≡ most = omega (arith, x.few, more) in
    subst (λ j. run P j m ≡ end) same (x.by (most - x.steps))

leads_to_end : (P : Program) (f : ℕ) (m : Machine) (few most : ℕ) (flow : Flow) → Leads P f [] m few flow → few ≤ most
    → end_of flow ≢ Unfinished → run P most m ≡ end_of flow
leads_to_end P f m few most (Goes to p rs memory) l more fine = absurd (fine refl)
leads_to_end P f m few most (Back v memory) l more fine = ends_by P m few most _ l.comes more
leads_to_end P f m few most (Stops end) l more fine = ends_by P m few most _ l.comes more

fine_end : (flow : Flow) → end_of flow ≢ Unfinished → IsFine flow
fine_end (Goes to p rs memory) fine = tt
fine_end (Back v memory) fine = tt
fine_end (Stops end) fine = fine

pub run_is_walk : (P : Program) (order : ℕ → List ℕ) (E : ℕ → ℕ) → AreOrders P order → AreLengths P E
    → (n f most : ℕ) (rs : Registers) (memory : Memory) → end_of (walk P order n f rs memory) ≢ Unfinished → E f ≤ most
    → run P most (begins f rs memory) ≡ end_of (walk P order n f rs memory)
run_is_walk P order E orders lengths n f most rs memory fine more =
    let flow = walk P order n f rs memory in
    let l = walk_leads P E order orders.ends (λ g. order_weighs P E g (order g) (orders.once g) lengths) n f rs memory [] (fine_end flow fine) in
    leads_to_end P f (begins f rs memory) (E f) most flow l more fine
