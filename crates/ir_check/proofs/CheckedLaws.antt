-- What no fault says of a module: what is kept of its functions, and the facts that it carries.
use Rattle.std.proofs.Common.{◌≡◌, ◌⊎◌, inl, inr, ℕ, zero, suc, ◌<◌, ◌≤◌, eqb, Bool, true, false, Option, Some, None, List, [], ◌∷◌, length, map, take, refl, sym, ◌∙◌, ap, subst, arith}
use Rattle.std.specs.Prelude.{Contains, slice_get, slice_index_or, flat_map, option_to_list, bytes_eq, sum, count_by, unwrap_or, is_some, option_and_then, if◌then◌else◌}
use Rattle.std.proofs.lemmas.Bool.{cases_Bool, cases_lt, eqb-true, eqb-false}
use Rattle.std.proofs.lemmas.List.{append-nil}
use Rattle.std.proofs.lemmas.List.Elements.{Contains-append_right}
use Rattle.std.proofs.lemmas.Slice.Eq.{bytes_eq-Decides}
use Rattle.ir_ast.specs.Plain.{Val}
use Rattle.ir_ast.specs.Program.{InstrView, BlockView, FunctionView, ModuleView}
use Rattle.ir_ast.specs.Table.{place_of}
use Rattle.hk_graph.specs.Walks.{Leads, IsOnCycle}
use Rattle.hk_flow.specs.Sums.{told}
use Rattle.ir_type.specs.Rows.{callees}
use Rattle.ir_type.specs.Items.{function_item, instr_item, IsItem, IsFunction, K10, K11, K12, K14, K15}
use Rattle.ir_type.specs.Shape.{IsShaped}
use Rattle.ir_type.specs.Names.{entry_of}
use Rattle.ir_type.proofs.Places.{at_place, no_place, get_below, some_same}
use Rattle.ir_typing.specs.Registers.{blocks_of, function_of}
use Rattle.ir_check.specs.Paths.{targets_of, set_along, HasCall, body_of, weight, IsLength}
use Rattle.ir_check.specs.Arms.{times, FallsK15}
use Rattle.ir_check.specs.Graphs.{SaysLength, name_of_entry}
use Rattle.ir_ast.specs.declared.fault.KernelFault.{KernelFault}
use Rattle.ir_check.specs.Answers.{IsRefusal, find_body}
use Rattle.ir_check.specs.ItemFaults.{AreCalls}
use Rattle.ir_check.specs.Rules.{FallsByCheck, IsWellFormed}
use Rattle.ir_check.specs.Least.{IsLeast, AllFaults}
use Rattle.ir_check.proofs.FirstFault.{least_is_free, least_is_first}
use Rattle.ir_check.specs.Checked.{IsForward, AreSet, AreCounted, AreLengths, IsChecked, AreOrders, length_at, AreTold, IsKept, OrdersFirst, IsKeptWhere}
use Rattle.ir_check.proofs.Lengths.{same_weights, one_length}
use Rattle.ir_check.proofs.NamedGraph.{mapped_at}
use Rattle.ir_check.proofs.SiteLaws.{contains_at, get_at}
use Rattle.std.proofs.lemmas.Option.{get_or_from_slice_get}
use Rattle.ir_check.proofs.PartLaws.{split_at, get_of}
use Rattle.ir_check.proofs.FunctionLaws.{function_there}

-- ---- lists

contains_or : (r : List ℕ) (xs : List (List ℕ)) → Contains xs r ⊎ (Contains xs r → ⊥)
contains_or r [] = inr none
  where
    none : Contains [] r → ⊥
    none (k, l, e) = omega arith
contains_or r (x ∷ xs) = by (cases_Bool (bytes_eq r x)) (contains_or r xs)
  where
    clash : true ≡ false → ⊥
    clash e = cc

    by : (bytes_eq r x ≡ true) ⊎ (bytes_eq r x ≡ false) → Contains xs r ⊎ (Contains xs r → ⊥) → Contains (x ∷ xs) r ⊎ (Contains (x ∷ xs) r → ⊥)
    by (inl t) rest = inl (0, omega arith, sym ((bytes_eq-Decides r x).0 t))
    by (inr f) (inl c) = inl (Contains-append_right (x ∷ []) xs r c)
    by (inr f) (inr n) = inr other
      where
        other : Contains (x ∷ xs) r → ⊥
        other (zero, l, e) = clash (sym ((bytes_eq-Decides r x).1 (sym e)) ∙ f)
        other (suc k, l, e) = n (k, omega arith, e)

in_body : (o : Option (List BlockView)) (b : BlockView) → Contains (flat_map (λ (blocks : List BlockView). blocks) (option_to_list o)) b → (blocks : List BlockView) × (o ≡ Some blocks) × Contains blocks b
in_body None b (k, l, e) = absurd (omega arith)
in_body (Some bs) b c = (bs, refl, subst (λ (ys : List BlockView). Contains ys b) (append-nil bs) c)

-- what calls something is a function
calls_from : (m : ModuleView) (g h : List ℕ) → HasCall m g h → (p : ℕ) × (place_of g m.functions ≡ Some p)
calls_from m g h c = by (place_of g m.functions) refl
  where
    body_is : (o : Option FunctionView) → function_of m g ≡ o → Contains (flat_map (λ (i : InstrView). callees i.act) (flat_map (λ (b : BlockView). b.instrs) (flat_map blocks_of (option_to_list o)))) h
    body_is o e = subst (λ (o : Option FunctionView). Contains (flat_map (λ (i : InstrView). callees i.act) (flat_map (λ (b : BlockView). b.instrs) (flat_map blocks_of (option_to_list o)))) h) e c

    none : Contains [] h → ⊥
    none (k, l, e) = omega arith

    by : (o : Option ℕ) → place_of g m.functions ≡ o → (p : ℕ) × (place_of g m.functions ≡ Some p)
    by (Some p) e = (p, e)
    by None e = absurd (none (body_is None (no_place m.functions g e)))

module _ (m : ModuleView) (shaped : IsShaped m) (formed : IsWellFormed m) where
  -- ---- what is kept

  pub orders_kept : (n : ℕ) (orders : List (List ℕ)) → length m.functions ≤ n → OrdersFirst m n orders → AreOrders m orders
  orders_kept n orders most first p (x, f) there =
      let below = get_below m.functions p (x, f) there in
      first p (x, f) (omega arith) there (λ falls. formed (function_item f) (function_there m p x f there) K10 falls)

  no_cycle : (g : List ℕ) → IsOnCycle (HasCall m) g → ⊥
  no_cycle g (h, call, leads) =
      let p = calls_from m g h call in
      let at = at_place m.functions g p.0 p.1 in
      let own = contains_at m.functions p.0 (g, at.0) at.1.there in
      formed (function_item at.0) (g, own) K11 (subst (IsOnCycle (HasCall m)) (sym (shaped.named g at.0 own)) (h, call, leads))

  pub told_kept : (cyclic : List Bool) (lengths : List (Option ℕ)) → AreCalls m cyclic lengths → AreTold m lengths
  told_kept cyclic lengths calls p (x, f) there = by (told lengths p) refl (calls.totals p (get_below m.functions p (x, f) there))
    where
      first : List ℕ × FunctionView → List ℕ
      first e = e.0

      named : name_of_entry m.functions p ≡ x
      named = mapped_at first m.functions p [] (x, f) there

      own_name : f.name ≡ x
      own_name = shaped.named x f (contains_at m.functions p (x, f) there)

      with : (o : Option ℕ) → told lengths p ≡ o → (n : ℕ) → o ≡ Some n → IsLength m x n → IsLength m x (length_at lengths p)
      with o e n s h = subst (IsLength m x) (sym (ap (λ (o : Option ℕ). unwrap_or o 0) (e ∙ s))) h

      by : (o : Option ℕ) → told lengths p ≡ o → SaysLength m o p → IsLength m x (length_at lengths p)
      by None e (g, leads, cycle) = absurd (no_cycle g cycle)
      by (Some n) e (t, is, cut) = pick (cases_lt 100000 t)
        where
          mine : IsLength m x t
          mine = subst (λ y. IsLength m y t) named is

          pick : (100000 < t) ⊎ (t ≤ 100000) → IsLength m x (length_at lengths p)
          pick (inl l) = absurd (formed (function_item f) (function_there m p x f there) K14 (t, subst (λ y. IsLength m y t) (sym own_name) mine, l))
          pick (inr l) =
              let same : t ≡ n = omega arith in
              with (Some n) e n refl (subst (IsLength m x) same mine)

  -- ---- what it carries

  set_on_paths : (f : FunctionView) → IsFunction m f → AreSet f
  set_on_paths f own b before after i u at parts used x left entry w = pick (contains_or u.register (set_along f left u.behind))
    where
      pick : Contains (set_along f left u.behind) u.register ⊎ (Contains (set_along f left u.behind) u.register → ⊥) → Contains (set_along f left u.behind) u.register
      pick (inl c) = c
      pick (inr none) =
          let body = in_body f.body b at in
          absurd (formed (instr_item f b before i) (own, body.0, body.1, body.2, after, parts) K12 (u, used, (x, entry, left, w, none)))

  counted_arms : (f : FunctionView) → IsFunction m f → AreCounted f
  counted_arms f own b i over arms at here is x = pick (cases_Bool (eqb named edges))
    where
      named : ℕ
      named = count_by (λ (arm : Val × List ℕ). bytes_eq x arm.1) arms

      edges : ℕ
      edges = times b.name (targets_of f x)

      place : (k : ℕ) × (slice_get b.instrs k ≡ Some i)
      place = get_of b.instrs i here

      item : IsItem m (instr_item f b (take place.0 b.instrs) i)
      item = let body = in_body f.body b at in let s = split_at b.instrs place.0 i place.1 in (own, body.0, body.1, body.2, s.0, s.1)

      pick : (eqb named edges ≡ true) ⊎ (eqb named edges ≡ false) → named ≡ edges
      pick (inl e) = eqb-true named edges e
      pick (inr e) =
          absurd (formed (instr_item f b (take place.0 b.instrs) i) item K15 (subst (FallsK15 m.types f b) (sym is) (λ meets. eqb-false named edges e (meets.count x))))

  -- ---- lengths

  module _ (lengths : List (Option ℕ)) (told_are : AreTold m lengths) where
    abbrev at_option : Option ℕ → ℕ
    at_option None = 0
    at_option (Some p) = length_at lengths p

    abbrev by_name : List ℕ → ℕ
    by_name g = at_option (place_of g m.functions)

    no_body : (g : List ℕ) → place_of g m.functions ≡ None → body_of m g ≡ []
    no_body g e = ap (λ (o : Option FunctionView). flat_map (λ (b : BlockView). b.instrs) (flat_map blocks_of (option_to_list o))) (no_place m.functions g e)

    -- each name has its length: 0 where it is that of no function
    has_length : (g : List ℕ) → IsLength m g (by_name g)
    has_length g = by (place_of g m.functions) refl
      where
        none : Contains [] g → ⊥
        none (k, l, e) = omega arith

        by : (o : Option ℕ) → place_of g m.functions ≡ o → IsLength m g (at_option o)
        by (Some p) e = let s = at_place m.functions g p e in told_are p (g, s.0) s.1.there
        by None e = record { length_of = λ x. 0; sums = sums; is = refl }
          where
            sums : (h : List ℕ) → Leads (HasCall m) g h → 0 ≡ sum (map (weight (λ x. 0)) (body_of m h))
            sums h ([], same) = ap (λ (is : List InstrView). sum (map (weight (λ x. 0)) is)) (sym (ap (body_of m) (sym same) ∙ no_body g e))
            sums h (x ∷ left, (same, y, call, w)) =
                let p = calls_from m x y call in
                absurd (clash (sym e ∙ ap (λ z. place_of z m.functions) same ∙ p.1))
              where
                clash : {k : ℕ} → None ≡ Some k → ⊥
                clash e = cc

    lengths_add : AreLengths m by_name
    lengths_add g =
        let own = has_length g in
        sym own.is ∙ own.sums g ([], refl) ∙ same_weights own.length_of by_name (body_of m g) (λ h c. one_length m h (own.length_of h) (by_name h) (from own h c) (has_length h))
      where
        from : (own : IsLength m g (by_name g)) (h : List ℕ) → HasCall m g h → IsLength m h (own.length_of h)
        from own h c = record { length_of = own.length_of; sums = λ k (left, w). own.sums k (g ∷ left, (refl, h, c, w)); is = refl }

    pub checked_facts : IsChecked m
    checked_facts = record { shaped = shaped; well_formed = formed; set = set_on_paths; counted = counted_arms; lengths = (by_name, lengths_add) }

pub kept_checked : (m : ModuleView) (orders : List (List ℕ)) (lengths : List (Option ℕ)) → IsKept m orders lengths → IsChecked m
kept_checked m orders lengths kept = checked_facts m kept.shaped kept.well_formed lengths kept.lengths_are

pub kept_where : (m : ModuleView) (orders : List (List ℕ)) (cyclic : List Bool) (lengths : List (Option ℕ)) → IsShaped m → length m.functions ≤ length orders → OrdersFirst m (length orders) orders
    → AreCalls m cyclic lengths → IsKeptWhere m orders lengths
kept_where m orders cyclic lengths shaped count first calls formed = record {
  shaped = shaped;
  well_formed = formed;
  count = count;
  orders_are = orders_kept m shaped formed (length orders) orders count first;
  lengths_are = told_kept m shaped formed cyclic lengths calls;
}

-- ---- answers of the code

pub refused : (m : ModuleView) (o : Option KernelFault) (f : KernelFault) → IsLeast (AllFaults (FallsByCheck m) m) o → o ≡ Some f → IsRefusal m f
refused m o f least some = least_is_first (FallsByCheck m) m f (subst (IsLeast (AllFaults (FallsByCheck m) m)) some least)

pub formed : (m : ModuleView) (o : Option KernelFault) → IsLeast (AllFaults (FallsByCheck m) m) o → o ≡ None → IsWellFormed m
formed m o least none = least_is_free (FallsByCheck m) m (subst (IsLeast (AllFaults (FallsByCheck m) m)) none least)

pub order_told : (m : ModuleView) (orders : List (List ℕ)) (lengths : List (Option ℕ)) → IsKept m orders lengths → (p : ℕ) (order : List ℕ) (e : List ℕ × FunctionView) → order ≡ slice_index_or orders p order
    → slice_get m.functions p ≡ Some e → IsForward e.1 order
order_told m orders lengths kept p order e is there =
    let below = get_below m.functions p e there in
    let count = kept.count in
    let inside : p < length orders = omega arith in
    subst (IsForward e.1) (get_or_from_slice_get orders p order [] (get_at orders p order inside (sym is))) (kept.orders_are p e there)

pub found_body : (functions : List (List ℕ × FunctionView)) (x y : List ℕ) (p : ℕ) (f : FunctionView) (b : Bool) → place_of x functions ≡ Some p → slice_get functions p ≡ Some (y, f) → b ≡ is_some f.body
    → (if b then Some p else None) ≡ find_body functions x
found_body functions x y p f b place there is =
    let s = at_place functions x p place in
    let mine : List ℕ × FunctionView = (y, f) in
    let found : List ℕ × FunctionView = (x, s.0) in
    let second : List ℕ × FunctionView → FunctionView = λ e. e.1 in
    let same : f ≡ s.0 = ap second (some_same mine found (sym there ∙ s.1.there)) in
    let body : FunctionView → Option (List BlockView) = λ f. f.body in
    ap (λ t. if t then Some p else None) (is ∙ ap (λ (f : FunctionView). is_some f.body) same ∙ ap (λ (o : Option FunctionView). is_some (option_and_then body o)) (sym s.1.found))
    ∙ ap (λ (o : Option ℕ). if is_some (option_and_then body (entry_of x functions)) then o else None) (sym place)

pub no_body_found : (functions : List (List ℕ × FunctionView)) (x : List ℕ) → place_of x functions ≡ None → None ≡ find_body functions x
no_body_found functions x none =
    let body : FunctionView → Option (List BlockView) = λ f. f.body in
    sym (ap (λ (o : Option FunctionView). if is_some (option_and_then body o) then place_of x functions else None) (no_place functions x none))
