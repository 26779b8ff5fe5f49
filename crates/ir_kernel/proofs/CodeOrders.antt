-- Edges of the code go forward in the orders of the functions, and calls go to functions with a body.
use Rattle.std.proofs.Common.{◌≡◌, ◌≢◌, ◌⊎◌, inl, inr, ℕ, zero, suc, ◌<◌, Bool, true, false, ◌&&◌, Option, Some, None, List, [], ◌∷◌, ◌++◌, length, map, take, refl, sym, ◌∙◌, ap, subst, arith}
use Rattle.std.specs.Prelude.{Contains, AllPairs, slice_get, flat_map, is_some, unwrap_or, position, bytes_eq}
use Rattle.std.specs.List.{list_all}
use Rattle.std.proofs.lemmas.Bool.{cases_Bool}
use Rattle.std.proofs.lemmas.List.{length-map}
use Rattle.std.proofs.lemmas.Option.{get_or_from_slice_get}
use Rattle.ir_ast.specs.Program.{Act, InstrView, BlockView, FunctionView, ModuleView}
use Rattle.ir_ast.specs.Table.{names_of, place_of}
use Rattle.ir_type.specs.Items.{instr_item, IsItem, K8}
use Rattle.ir_type.specs.Names.{entry_of, globals_in}
use Rattle.ir_type.specs.Rows as rows
use Rattle.ir_type.specs.Rows.{used, values, arm_blocks}
use Rattle.ir_type.specs.Shape.{Ends}
use Rattle.ir_type.proofs.Places.{at_place, no_place, same_second}
use Rattle.ir_typing.specs.Known.{is_known, knows_range, knows_callee}
use Rattle.ir_typing.specs.Places.{block_names}
use Rattle.ir_typing.specs.Registers.{blocks_of, block_of, registers_of}
use Rattle.ir_check.specs.Checked.{IsForward, IsChecked}
use Rattle.ir_check.specs.Graphs.{next_names, NameLeads, named, named_blocks, block_targets}
use Rattle.ir_check.proofs.BlockOrders as orders
use Rattle.ir_check.proofs.EdgeLaws.{block_entry, edge_from}
use Rattle.ir_check.proofs.NamedGraph.{exists_at}
use Rattle.ir_check.proofs.PartLaws.{split_at, get_of}
use Rattle.ir_check.proofs.FunctionLaws.{function_there}
use Rattle.ir_check.proofs.SiteLaws.{contains_at}
use Rattle.ir_check.proofs.Undefined.{of_map, in_flat_map}
use Rattle.ir_check.proofs.UseLaws.{block_at}
use Rattle.ir_code.specs.declared.act.Step.{Step}
use Rattle.ir_machine.specs.Step.{steps_of}
use Rattle.ir_resolve.specs.Acts.{act_of, block_place}
use Rattle.ir_resolve.specs.Resolved.{step_of, program_of}
use Rattle.ir_walk.specs.LoopFree.{targets, callees, is_terminator, ends_behind, ends_in_terminator, HasEdge, HasCall, IsLoopFree, AreLengths, body_of}
use Rattle.ir_walk.proofs.Weights.{length_falls}
use Rattle.ir_kernel.specs.Orders as places
use Rattle.ir_kernel.specs.Orders.{IsOrderAt}
use Rattle.ir_kernel.proofs.CodeActs.{targets_are, ends_as, function_place, called_by_name}
use Rattle.ir_kernel.proofs.CodePlaces.{step_there, steps_there, body_there, body_none, placed, IsBody, body_shaped, has_blocks, with_body, blocks_differ}

-- ---- names that are known

and_left : (a b : Bool) → (a && b) ≡ true → a ≡ true
and_left true b e = refl
and_left false b e = absurd cc

and_right : (a b : Bool) → (a && b) ≡ true → b ≡ true
and_right true b e = e
and_right false b e = absurd cc

each_passes : (test : List ℕ → Bool) (xs : List (List ℕ)) → list_all test xs ≡ true → (x : List ℕ) → Contains xs x → test x ≡ true
each_passes test [] all x (k, l, e) = absurd (omega (arith, l))
each_passes test (y ∷ xs) all x (zero, l, e) = subst (λ z. test z ≡ true) e (and_left (test y) (list_all test xs) all)
each_passes test (y ∷ xs) all x (suc k, l, e) = each_passes test xs (and_right (test y) (list_all test xs) all) x (k, omega (arith, l), e)

abbrev three : ModuleView → FunctionView → Act → Bool
three m f a =
    list_all (λ x. is_some (entry_of x (registers_of f))) (used a) && list_all (λ x. is_some (entry_of x m.globals)) (flat_map globals_in (values a))
    && list_all (λ x. is_some (block_of f x)) (rows.targets a)

target_known : (m : ModuleView) (f : FunctionView) (a : Act) (x : List ℕ) → is_known m f a ≡ true → Contains (rows.targets a) x → is_some (block_of f x) ≡ true
target_known m f a x e c =
    let arms = list_all (λ x. is_some (block_of f x)) (arm_blocks a) in
    let five : (three m f a && arms && knows_range m a) ≡ true = and_left (three m f a && arms && knows_range m a) (knows_callee m a) e in
    let four : (three m f a && arms) ≡ true = and_left (three m f a && arms) (knows_range m a) five in
    let front = list_all (λ x. is_some (entry_of x (registers_of f))) (used a) && list_all (λ x. is_some (entry_of x m.globals)) (flat_map globals_in (values a)) in
    each_passes (λ x. is_some (block_of f x)) (rows.targets a) (and_right front (list_all (λ x. is_some (block_of f x)) (rows.targets a)) (and_left (three m f a) arms four)) x c

block_found : (f : FunctionView) (x : List ℕ) → is_some (block_of f x) ≡ true → (q : ℕ) × (place_of x (named_blocks f) ≡ Some q)
block_found f x e = by (place_of x (named_blocks f)) refl
  where
    clash : false ≡ true → ⊥
    clash e = cc

    by : (o : Option ℕ) → place_of x (named_blocks f) ≡ o → (q : ℕ) × (place_of x (named_blocks f) ≡ Some q)
    by (Some q) h = (q, h)
    by None h = absurd (clash (sym (ap is_some (no_place (named_blocks f) x h)) ∙ ap is_some (block_entry f x) ∙ e))

names_are : (bs : List BlockView) → map (λ (b : BlockView). b.name) bs ≡ names_of (named bs)
names_are [] = refl
names_are (b ∷ bs) = ap (λ ns. b.name ∷ ns) (names_are bs)

place_is : (f : FunctionView) (x : List ℕ) (q : ℕ) → place_of x (named_blocks f) ≡ Some q → block_place f x ≡ q
place_is f x q h =
    ap (λ (o : Option ℕ). unwrap_or o (length (block_names f))) (ap (position (bytes_eq x)) (names_are (blocks_of f)) ∙ h)

-- ---- last instructions

last_ends : (m : ModuleView) (f : FunctionView) (t : Bool) (before : List InstrView) (last : InstrView) → is_terminator (step_of m f last).act ≡ true
    → ends_behind t (map (step_of m f) (before ++ last ∷ [])) ≡ true
last_ends m f t [] last e = e
last_ends m f t (i ∷ before) last e = last_ends m f (is_terminator (step_of m f i).act) before last e

block_ends : (m : ModuleView) (f : FunctionView) (b : BlockView) → Ends b → ends_in_terminator (map (step_of m f) b.instrs) ≡ true
block_ends m f b (before, last, is, ends, only) =
    ap (λ is. ends_in_terminator (map (step_of m f) is)) is ∙ last_ends m f false before last (ends_as m f last ends)

in_empty : {A : Type 0} (xs : List ℕ) (k : ℕ) → xs ≡ [] → Contains xs k → A
in_empty [] k e (n, l, s) = absurd (omega (arith, l))
in_empty (x ∷ xs) k e c = absurd cc

empty_split : {A : Type 0} (before after : List ℕ) (k : ℕ) → before ++ k ∷ after ≡ [] → A
empty_split [] after k e = absurd cc
empty_split (x ∷ before) after k e = absurd cc

module _ (m : ModuleView) (checked : IsChecked m) (order : ℕ → List ℕ) (are : places.AreOrders m order) where
  order_at : (p : ℕ) (e : List ℕ × FunctionView) → slice_get m.functions p ≡ Some e → IsForward e.1 (order p)
  order_at p e h = subst (λ o. IsOrderAt o (order p)) h (are p)

  order_none : (p : ℕ) → slice_get m.functions p ≡ None → order p ≡ []
  order_none p h = subst (λ o. IsOrderAt o (order p)) h (are p)

  once : (p : ℕ) → AllPairs (λ k j. k ≢ j) (order p)
  once p = by (slice_get m.functions p) refl
    where
      by : (o : Option (List ℕ × FunctionView)) → slice_get m.functions p ≡ o → AllPairs (λ k j. k ≢ j) (order p)
      by (Some e) h = (order_at p e h).once
      by None h = λ i j d before below. let n = ap length (order_none p h) in absurd (omega (arith, below, n))

  -- the function of which a block is in order
  in_order : (p k : ℕ) → Contains (order p) k → (e : List ℕ × FunctionView) × (slice_get m.functions p ≡ Some e) × (k < length (blocks_of e.1))
  in_order p k c = by (slice_get m.functions p) refl
    where
      by : (o : Option (List ℕ × FunctionView)) → slice_get m.functions p ≡ o → (e : List ℕ × FunctionView) × (slice_get m.functions p ≡ Some e) × (k < length (blocks_of e.1))
      by None h = in_empty (order p) k (order_none p h) c
      by (Some e) h = (e, h, subst (λ j. j < length (blocks_of e.1)) c.2 ((order_at p e h).within c.0 k c.1))

  ends : (p k : ℕ) → Contains (order p) k → ends_in_terminator (steps_of (program_of m) p k) ≡ true
  ends p k c =
      let o = in_order p k c in
      let b = exists_at (blocks_of o.0.1) k o.2 in
      let body = body_shaped m p o.0 checked.shaped o.1 (with_body o.0.1 k o.2) in
      let there : slice_get (body.first ∷ body.rest) k ≡ Some b.0 = subst (λ bs. slice_get bs k ≡ Some b.0) body.blocks b.1 in
      let below : k < length (body.first ∷ body.rest) = subst (λ n. k < n) (ap length body.blocks) o.2 in
      let own : Ends b.0 = subst Ends (get_or_from_slice_get (body.first ∷ body.rest) k b.0 b.0 there) (body.shaped.ended k b.0 below) in
      ap ends_in_terminator (steps_there m p k o.0 b.0 o.1 b.1) ∙ block_ends m o.0.1 b.0 own

  first : (p : ℕ) → 0 < length (body_of (program_of m) p) → Contains (order p) 0
  first p l = by (slice_get m.functions p) refl
    where
      by : (o : Option (List ℕ × FunctionView)) → slice_get m.functions p ≡ o → Contains (order p) 0
      by None h = let n = ap length (body_none m p h) in absurd (omega (arith, l, n))
      by (Some e) h =
          let n : length (body_of (program_of m) p) ≡ length (blocks_of e.1) = ap length (body_there m p e h) ∙ length-map (blocks_of e.1) _ in
          (order_at p e h).each 0 (subst (λ k. 0 < k) n l)

  -- an instruction of a checked kernel spells names that are known
  known : (p : ℕ) (e : List ℕ × FunctionView) (b : BlockView) (i : InstrView) → slice_get m.functions p ≡ Some e → IsBody e.1 → Contains (blocks_of e.1) b → Contains b.instrs i
      → is_known m e.1 i.act ≡ true
  known p (x, f) b i there body in_body c =
      let place = get_of b.instrs i c in
      let s = split_at b.instrs place.0 i place.1 in
      let item : IsItem m (instr_item f b (take place.0 b.instrs) i) =
      (function_there m p x f there, body.first ∷ body.rest, body.shaped.body, subst (λ bs. Contains bs b) body.blocks in_body, s.0, s.1) in
      pick (take place.0 b.instrs) item (cases_Bool (is_known m f i.act))
    where
      pick : (before : List InstrView) → IsItem m (instr_item f b before i) → (is_known m f i.act ≡ true) ⊎ (is_known m f i.act ≡ false) → is_known m f i.act ≡ true
      pick before item (inl t) = t
      pick before item (inr e) = absurd (checked.well_formed (instr_item f b before i) item K8 e)

  forward : (p k j : ℕ) (before after : List ℕ) → order p ≡ before ++ k ∷ after → HasEdge (program_of m) p k j → Contains after j
  forward p k j before after is (s, in_steps, in_targets) =
      let o = step_there m p k s in_steps in
      let f = o.entry.1 in
      let a = o.block in
      let code : Contains (targets (act_of m f o.instr.act)) j = subst (λ (s : Step). Contains (targets s.act) j) (sym o.is) in_targets in
      let x = of_map (block_place f) (rows.targets o.instr.act) j (subst (λ ts. Contains ts j) (targets_are m f o.instr.act) code) in
      let a_in : Contains (blocks_of f) a = contains_at (blocks_of f) k a o.at in
      let some = with_body f a_in.0 a_in.1 in
      let body = body_shaped m p o.entry checked.shaped o.there some in
      let differ = blocks_differ f body in
      let seen = known p o.entry a o.instr o.there body a_in o.among in
      let q = block_found f x.0 (target_known m f o.instr.act x.0 seen x.1) in
      let at = block_at (blocks_of f) x.0 q.0 q.1 in
      let place : q.0 ≡ j = sym (place_is f x.0 q.0 q.1) ∙ x.2 in
      let to : slice_get (blocks_of f) j ≡ Some at.0 = subst (λ n. slice_get (blocks_of f) n ≡ Some at.0) place at.1 in
      let spelled : Contains (block_targets a) at.0.name = subst (λ y. Contains (block_targets a) y) (sym at.2) (in_flat_map (λ i. rows.targets i.act) a.instrs o.instr x.0 o.among x.1) in
      let found = at_place (named_blocks f) a.name k (orders.block_place f differ k a o.at) in
      let same : found.0 ≡ a = same_block f a.name found.0 a (sym found.1.there ∙ orders.block_there f differ k a o.at) in
      let entry : entry_of a.name (named_blocks f) ≡ Some a = found.1.found ∙ ap Some same in
      let leads : NameLeads block_targets (named_blocks f) a.name at.0.name = subst (λ o. Contains (next_names block_targets o) at.0.name) (sym entry) spelled in
      (order_at p o.entry o.there).forward before after k j a at.0 is o.at to (edge_from f a.name at.0.name leads)
    where
      same_block : (f : FunctionView) (x : List ℕ) (a b : BlockView) → ◌≡◌ {A = Option (List ℕ × BlockView)} (Some (x, a)) (Some (x, b)) → a ≡ b
      same_block f x a b e = same_second {A = List ℕ} {B = BlockView} (x, a) (x, b) e

  called : (p k g : ℕ) → HasCall (program_of m) p k g → 0 < length (body_of (program_of m) g)
  called p k g (s, in_steps, in_callees) =
      let o = step_there m p k s in_steps in
      let code : Contains (callees (act_of m o.entry.1 o.instr.act)) g = subst (λ (s : Step). Contains (callees s.act) g) (sym o.is) in_callees in
      let c = called_by_name m o.entry.1 o.instr.act g code in
      let at = placed m c.name c.body in
      subst (λ n. 0 < length (body_of (program_of m) n)) c.place (has_blocks m (function_place m c.name) (c.name, at.called) checked.shaped at.there at.body)

  pub loop_free : (E : ℕ → ℕ) → AreLengths (program_of m) E → IsLoopFree (program_of m) order E
  loop_free E lengths = record {
    orders = record { once = once; ends = ends };
    first = first;
    forward = forward;
    called = λ p k g listed has. called p k g has;
    falls = λ p k g listed has. length_falls (program_of m) E lengths p k g has;
  }
