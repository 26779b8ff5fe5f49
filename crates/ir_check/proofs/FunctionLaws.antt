-- The check of one function, and of all functions by their places.
use Rattle.std.proofs.Common.{◌≡◌, ◌⊎◌, inl, inr, ℕ, ◌+◌, ◌<◌, ◌≤◌, Bool, true, false, ◌&&◌, Option, Some, None, List, [], ◌∷◌, ◌++◌, length, refl, sym, ◌∙◌, ap, subst, arith}
use Rattle.std.specs.Prelude.{◌↔◌, IsTrue, MatchBool, slice_get, slice_index_or, bytes_eq, flat_map, option_to_list}
use Rattle.std.specs.List.{All, IsDistinct}
use Rattle.std.proofs.lemmas.Bool.{false≢true, cases_lt}
use Rattle.std.proofs.lemmas.List.{append-nil, get_or_append_left}
use Rattle.std.proofs.Math.Seq.{get_or-append_seam}
use Rattle.std.proofs.lemmas.List.Elements.{All-weaker}
use Rattle.ir_ast.specs.Table.{names_of}
use Rattle.ir_ast.specs.declared.fault.KernelFault.{KernelFault}
use Rattle.ir_ast.specs.declared.fault.KernelReason.{KernelReason}
use Rattle.ir_ast.specs.Program.{InstrView, BlockView, FunctionView, GlobalView, ModuleView}
use Rattle.hk_graph.specs.Sorted.{IsOrder, flag_of}
use Rattle.hk_flow.specs.Onward as flow
use Rattle.hk_flow.specs.Onward.{AreClear}
use Rattle.hk_flow.specs.Sums.{told}
use Rattle.ir_type.specs.Items.{IsFunction}
use Rattle.ir_type.specs.Shape.{keeps_notes, sets_its_own, IsShapedBody, IsShaped}
use Rattle.ir_type.proofs.Places.{some_same}
use Rattle.ir_typing.specs.Registers.{blocks_of}
use Rattle.ir_check.specs.Paths.{FallsK10}
use Rattle.ir_check.specs.Graphs.{named_blocks, block_graph, LeadsBack, HasNoOrder, IsOnward, SaysCalls, SaysLength}
use Rattle.ir_check.specs.Rules.{GlobalFalls}
use Rattle.ir_check.specs.Least.{Faults, IsLeast, Either, least_of}
use Rattle.ir_check.specs.ItemFaults.{ItemFaults, AreCalls}
use Rattle.ir_check.specs.Parts.{AmongFirst, AmongAll, HeadFaults, BodyFaults, FunctionFaultsAt, GlobalFaultsAt, AreNotedIn, AreNoted}
use Rattle.ir_check.specs.Checked.{IsForward, OrdersFirst}
use Rattle.ir_check.proofs.BlockOrders.{onward_forward, onward_falls, no_order_falls}
use Rattle.ir_check.proofs.OrderFacts.{looping, onward}
use Rattle.ir_check.proofs.SiteLaws.{contains_at}
use Rattle.ir_check.proofs.PartLaws.{least_more, least_all, least_at, place_below}

-- ---- the order of its blocks

pub clear_says : (graph : List (List ℕ)) (nodes : List ℕ) (cyclic : List Bool) (r : Bool) → IsOrder graph nodes cyclic → (IsTrue r ↔ AreClear cyclic) → (LeadsBack graph → ⊥)
    → MatchBool r (AreClear cyclic × (LeadsBack graph → ⊥)) (HasNoOrder graph)
clear_says graph nodes cyclic true o h ahead = (h.0 refl, ahead)
clear_says graph nodes cyclic false o h ahead = looping graph nodes cyclic o (λ clear. false≢true (h.1 clear))

module _ (f : FunctionView) (graph : List (List ℕ)) (is : graph ≡ block_graph f) (distinct : IsDistinct bytes_eq (names_of (named_blocks f))) where
  pub straight : (nodes places : List ℕ) (cyclic : List Bool) → IsOrder graph nodes cyclic → AreClear cyclic → (LeadsBack graph → ⊥) → flow.IsForward graph places → IsOnward (block_graph f) places
  straight nodes places cyclic o clear ahead forward = subst (λ g. IsOnward g places) is (onward graph nodes places cyclic o clear forward ahead)

  pub straight_forward : (nodes places : List ℕ) (cyclic : List Bool) → IsOrder graph nodes cyclic → AreClear cyclic → (LeadsBack graph → ⊥) → flow.IsForward graph places → IsForward f places
  straight_forward nodes places cyclic o clear ahead forward = onward_forward f distinct places (straight nodes places cyclic o clear ahead forward)

  pub straight_falls : (nodes places : List ℕ) (cyclic : List Bool) → IsOrder graph nodes cyclic → AreClear cyclic → (LeadsBack graph → ⊥) → flow.IsForward graph places → FallsK10 f → ⊥
  straight_falls nodes places cyclic o clear ahead forward = onward_falls f distinct places (straight nodes places cyclic o clear ahead forward)

  pub falls_looping : HasNoOrder graph → FallsK10 f
  falls_looping h = no_order_falls f distinct (subst HasNoOrder is h)

-- ---- its shape

and_left : (a b : Bool) → (a && b) ≡ true → a ≡ true
and_left true b e = refl
and_left false b e = absurd cc

pub noted_body : (m : ModuleView) (f : FunctionView) → IsShaped m → IsFunction m f → AreNoted (blocks_of f)
noted_body m f shaped own = by (shaped.bodies f own)
  where
    none : AreNoted []
    none k d l = absurd (omega arith)

    own_blocks : (o : Option (List BlockView)) → f.body ≡ o → blocks_of f ≡ flat_map (λ (bs : List BlockView). bs) (option_to_list o)
    own_blocks o e = ap (λ (o : Option (List BlockView)). flat_map (λ (bs : List BlockView). bs) (option_to_list o)) e

    note : (i : InstrView) → (keeps_notes i.act && sets_its_own i) ≡ true → keeps_notes i.act ≡ true
    note i e = and_left (keeps_notes i.act) (sets_its_own i) e

    notes : (b : BlockView) → All (λ (i : InstrView). (keeps_notes i.act && sets_its_own i) ≡ true) b.instrs → AreNotedIn b.instrs
    notes b all = All-weaker (λ (i : InstrView). (keeps_notes i.act && sets_its_own i) ≡ true) (λ (i : InstrView). keeps_notes i.act ≡ true) note b.instrs all

    by : (f.body ≡ None) ⊎ ((b : BlockView) × (rest : List BlockView) × IsShapedBody f b rest) → AreNoted (blocks_of f)
    by (inl e) = subst AreNoted (sym (own_blocks None e)) none
    by (inr (b, rest, s)) =
        subst AreNoted (sym (own_blocks (Some (b ∷ rest)) s.body ∙ append-nil (b ∷ rest)))
        (All-weaker (λ (b : BlockView). All (λ (i : InstrView). (keeps_notes i.act && sets_its_own i) ≡ true) b.instrs) (λ (b : BlockView). AreNotedIn b.instrs) notes (b ∷ rest) s.noted)

pub function_there : (m : ModuleView) (p : ℕ) (x : List ℕ) (f : FunctionView) → slice_get m.functions p ≡ Some (x, f) → IsFunction m f
function_there m p x f there = (x, contains_at m.functions p (x, f) there)

-- a function stands under its own name
pub named_there : (m : ModuleView) (p : ℕ) (x : List ℕ) (f : FunctionView) → IsShaped m → slice_get m.functions p ≡ Some (x, f) → slice_get m.functions p ≡ Some (f.name, f)
named_there m p x f shaped there =
    let row : List ℕ → List ℕ × FunctionView = λ y. (y, f) in
    there ∙ ap (λ y. Some (row y)) (sym (shaped.named x f (contains_at m.functions p (x, f) there)))

pub calls_are : (m : ModuleView) (cyclic : List Bool) (lengths : List (Option ℕ)) (n : ℕ) → length m.functions ≡ n → ((p : ℕ) → p < n → SaysCalls m (flag_of cyclic p) p)
    → ((p : ℕ) → p < n → SaysLength m (told lengths p) p) → AreCalls m cyclic lengths
calls_are m cyclic lengths n count cycles totals = record {
  cycles = λ p l. cycles p (subst (λ k. p < k) count l);
  totals = λ p l. totals p (subst (λ k. p < k) count l);
}

-- ---- all functions

pub function_at : (m : ModuleView) (p : ℕ) (x : List ℕ) (f : FunctionView) (o : Option KernelFault) → slice_get m.functions p ≡ Some (x, f) → IsLeast (Either (HeadFaults m f) (BodyFaults m f)) o
    → IsLeast (FunctionFaultsAt m p) o
function_at m p x f o there least =
    let P : List ℕ × FunctionView → Faults = λ e. Either (HeadFaults m e.1) (BodyFaults m e.1) in
    least_at P m.functions p (x, f) o there least

pub function_next : (m : ModuleView) (k : ℕ) (a one next : Option KernelFault) → IsLeast (AmongFirst (FunctionFaultsAt m) k) a → IsLeast (FunctionFaultsAt m k) one → next ≡ least_of a one
    → IsLeast (AmongFirst (FunctionFaultsAt m) (k + 1)) next
function_next m k a one next first least next_is = subst (IsLeast (AmongFirst (FunctionFaultsAt m) (k + 1))) (sym next_is) (least_more (FunctionFaultsAt m) k a one first least)

pub functions_done : (m : ModuleView) (k : ℕ) (o : Option KernelFault) → length m.functions ≤ k → IsLeast (AmongFirst (FunctionFaultsAt m) k) o → IsLeast (AmongAll (FunctionFaultsAt m)) o
functions_done m k o most first = least_all (FunctionFaultsAt m) k o below first
  where
    below : (j : ℕ) (l : ℕ) (r : KernelReason) → FunctionFaultsAt m j l r → j < k
    below j l r p = let inside = place_below (λ (e : List ℕ × FunctionView). Either (HeadFaults m e.1) (BodyFaults m e.1)) m.functions j l r p in omega arith

pub global_at : (m : ModuleView) (p : ℕ) (x : List ℕ) (g : GlobalView) (o : Option KernelFault) → slice_get m.globals p ≡ Some (x, g) → IsLeast (ItemFaults (GlobalFalls m g) g.line) o → IsLeast (GlobalFaultsAt m p) o
global_at m p x g o there least =
    let P : List ℕ × GlobalView → Faults = λ e. ItemFaults (GlobalFalls m e.1) e.1.line in
    least_at P m.globals p (x, g) o there least

pub global_next : (m : ModuleView) (k : ℕ) (a one next : Option KernelFault) → IsLeast (AmongFirst (GlobalFaultsAt m) k) a → IsLeast (GlobalFaultsAt m k) one → next ≡ least_of a one
    → IsLeast (AmongFirst (GlobalFaultsAt m) (k + 1)) next
global_next m k a one next first least next_is = subst (IsLeast (AmongFirst (GlobalFaultsAt m) (k + 1))) (sym next_is) (least_more (GlobalFaultsAt m) k a one first least)

pub globals_done : (m : ModuleView) (k : ℕ) (o : Option KernelFault) → length m.globals ≤ k → IsLeast (AmongFirst (GlobalFaultsAt m) k) o → IsLeast (AmongAll (GlobalFaultsAt m)) o
globals_done m k o most first = least_all (GlobalFaultsAt m) k o below first
  where
    below : (j : ℕ) (l : ℕ) (r : KernelReason) → GlobalFaultsAt m j l r → j < k
    below j l r p = let inside = place_below (λ (e : List ℕ × GlobalView). ItemFaults (GlobalFalls m e.1) e.1.line) m.globals j l r p in omega arith

-- ---- their orders

read_first : (xs : List (List ℕ)) (x : List ℕ) (p : ℕ) → p < length xs → slice_index_or (xs ++ x ∷ []) p [] ≡ slice_index_or xs p []
read_first xs x p l = get_or_append_left xs (x ∷ []) [] p l

read_last : (xs : List (List ℕ)) (x : List ℕ) (p : ℕ) → p ≡ length xs → slice_index_or (xs ++ x ∷ []) p [] ≡ x
read_last xs x p l = ap (λ n. slice_index_or (xs ++ x ∷ []) n []) l ∙ get_or-append_seam xs x [] []

pub orders_more : (m : ModuleView) (k : ℕ) (e : List ℕ × FunctionView) (orders next : List (List ℕ)) (order : List ℕ) → length orders ≡ k → slice_get m.functions k ≡ Some e → OrdersFirst m k orders
    → ((FallsK10 e.1 → ⊥) → IsForward e.1 order) → next ≡ orders ++ order ∷ [] → OrdersFirst m (k + 1) next
orders_more m k e orders next order count there first own is p d below at straight = by (cases_lt p k)
  where
    by : (p < k) ⊎ (k ≤ p) → IsForward d.1 (slice_index_or next p [])
    by (inl l) = subst (IsForward d.1) (sym (ap (λ xs. slice_index_or xs p []) is ∙ read_first orders order p (subst (λ n. p < n) (sym count) l))) (first p d l at straight)
    by (inr l) =
        let same : p ≡ k = omega arith in
        let one : e ≡ d = some_same e d (sym there ∙ ap (slice_get m.functions) (sym same) ∙ at) in
        subst (IsForward d.1) (sym (ap (λ xs. slice_index_or xs p []) is ∙ read_last orders order p (same ∙ sym count)))
        (subst (λ (b : List ℕ × FunctionView). (FallsK10 b.1 → ⊥) → IsForward b.1 order) one own straight)
