-- Jumps: a block is entered behind its phis.
use Rattle.std.proofs.Common.{◌≡◌, ◌⊎◌, inl, inr, ℕ, true, false, ◌||◌, not, Option, Some, None, List, [], ◌∷◌, ◌++◌, map, refl, sym, ◌∙◌, ap, subst, arith}
use Rattle.std.specs.Prelude.{Contains, flat_map, is_some, slice_get}
use Rattle.std.specs.List.{AllByRecursion, list_all}
use Rattle.std.specs.Bool.{beq}
use Rattle.std.proofs.lemmas.List.{append-nil}
use Rattle.std.proofs.lemmas.List.Concat.{flat_map-append}
use Rattle.std.proofs.lemmas.List.Elements.{Contains-append_left, Contains-append_right, Contains-append_cases}
use Rattle.ir_ast.specs.Plain.{Ty, Val}
use Rattle.ir_ast.specs.Program as plain
use Rattle.ir_ast.specs.Program.{Act, InstrView, BlockView, FunctionView, ModuleView}
use Rattle.hk_graph.specs.Walks.{Walks}
use Rattle.ir_type.specs.Names.{locals_in}
use Rattle.ir_type.specs.Rows.{operands, values, targets}
use Rattle.ir_type.specs.Shape.{is_last, is_call, sets_none}
use Rattle.ir_type.specs.Whole.{meant}
use Rattle.ir_typing.specs.Registers as registers
use Rattle.ir_typing.specs.Registers.{Kind, kind_of, blocks_of}
use Rattle.ir_typing.specs.Fits.{scope_of, fits, operands_fit, further, is_phi}
use Rattle.ir_check.specs.Paths.{HasEdge, Use, uses, set_along, results, instrs_of, parameter_names}
use Rattle.ir_check.specs.Checked.{IsChecked}
use Rattle.ir_check.proofs.SiteLaws.{contains_at}
use Rattle.ir_check.proofs.Undefined.{Contains-map, in_flat_map}
use Rattle.ir_machine.specs.declared.state.Machine.{Machine}
use Rattle.ir_machine.specs.Values.{Registers}
use Rattle.ir_machine.specs.Step.{entered, jump, steps_of}
use Rattle.ir_resolve.specs.Operands.{width_in}
use Rattle.ir_resolve.specs.Acts.{block_place}
use Rattle.ir_resolve.specs.Resolved.{step_of, program_of}
use Rattle.ir_kernel.specs.Typed.{IsReady}
use Rattle.ir_kernel.proofs.CodePlaces.{steps_there}
use Rattle.ir_kernel.proofs.InstrFacts.{instr_is_fit}
use Rattle.ir_kernel.proofs.LoadTypes.{left_of, right_of}
use Rattle.ir_kernel.proofs.OperandTypes.{operand_holds}
use Rattle.ir_typed.proofs.RegisterKinds.{HoldsUsed, result_placed}
use Rattle.ir_typed.proofs.Standing.{IsAt, one_on, block_ends}
use Rattle.ir_typed.proofs.Using.{each_true, fit, values_usable, globals_known}
use Rattle.ir_typed.proofs.Keeping.{IsTyped, NextFits, no_more, in_block, sets_in}
use Rattle.ir_typed.proofs.BlockNames.{block_known, targets_known, own_instrs, own_place, edge_to, named_so, arm_of_edge, IsHeaded, block_headed, nothing_behind}
use Rattle.ir_typed.proofs.Heads.{HasValue, IsStaged, as_many, phis_staged, set_length, all_set}

walks_on : (f : FunctionView) (left : List (List ℕ)) (a b y : List ℕ) → Walks (HasEdge f) a left b → HasEdge f b y → Walks (HasEdge f) a (left ++ b ∷ []) y
walks_on f [] a b y e r = (e, y, r, refl)
walks_on f (x ∷ left) a b y (e, z, s, w) r = (e, z, s, walks_on f left z b y w r)

module _ (m : ModuleView) (checked : IsChecked m) (whole : FunctionView) (c : Machine) (typed : IsTyped m whole c) where
  abbrev f : FunctionView
  f = typed.top.function

  abbrev rs : Registers
  rs = c.top.registers

  abbrev i : InstrView
  i = typed.top.instr

  abbrev b : BlockView
  b = typed.top.block

  abbrev at : IsAt m f b typed.top.before i typed.top.after rs
  at = typed.top.at

  module _ (ends : is_last i ≡ true) (no_kind : kind_of i.act ≡ None) where
    last : b.instrs ≡ typed.top.before ++ i ∷ []
    last =
        let e = block_ends f at.body b at.within in
        let none = nothing_behind typed.top.before i typed.top.after e.0 e.1 (sym at.parts ∙ e.2) ends e.4 in
        at.parts ∙ ap (λ after. typed.top.before ++ i ∷ after) none

    -- all that is set along the path to the end of the block
    at_end : (x : List ℕ) → Contains (set_along f at.left (instrs_of f b.name)) x → HoldsUsed m f rs x
    at_end x d =
        no_more m checked f b typed.top.before i typed.top.after rs at no_kind x
        (subst (λ is. Contains (set_along f at.left is) x) (own_instrs f at.body c.top.block b typed.top.at_block ∙ last) d)

    module _ (place : ℕ) (into : BlockView) (is : slice_get (blocks_of f) place ≡ Some into) (edge : HasEdge f b.name into.name) where
      within : Contains (blocks_of f) into
      within = contains_at (blocks_of f) place into is

      -- ---- the phis

      value_there : (before : List InstrView) (p : InstrView) (after : List InstrView) → into.instrs ≡ before ++ p ∷ after → is_phi p.act ≡ true → HasValue m f c.memory rs c.top.block p
      value_there before p after parts e = by p.act refl
        where
          among : Contains into.instrs p
          among = subst (λ is. Contains is p) (sym parts) (Contains-append_right before (p ∷ after) p (0, omega arith, refl))

          clash : {A : Type 0} → true ≡ false → A
          clash e = absurd cc

          with_name : (over : Ty) (arms : List (Val × List ℕ)) → p.act ≡ plain.phi over arms → (o : Option (List ℕ)) → p.result ≡ o → HasValue m f c.memory rs c.top.block p
          with_name over arms act None r =
              let own = sets_in f at.body into p within among in
              clash (sym own ∙ ap (λ (a : Act). is_call a || beq (is_some p.result) (not (sets_none a || is_last (record p { act = a })))) act ∙ ap (λ (o : Option (List ℕ)). beq (is_some o) true) r)
          with_name over arms act (Some x) r =
              let good = instr_is_fit m checked f into before after p at.own within parts in
              let own = own_place f at.body c.top.block b typed.top.at_block in
              let arm = arm_of_edge m f at.body (width_in m over) c.top.block b into arms typed.top.at_block (checked.counted f at.own into p over arms within among act) edge own in
              let from : arm.arm.1 ≡ b.name = named_so f at.body c.top.block b typed.top.at_block arm.arm.1 arm.from in
              let fitting = left_of (operands_fit (scope_of m f) p.act) (further m.types m f (list_all (λ i. is_phi i.act) before) (is_some p.result) p.act) good.fitting in
              let more = right_of (operands_fit (scope_of m f) p.act) (further m.types m f (list_all (λ i. is_phi i.act) before) (is_some p.result) p.act) good.fitting in
              let listed : Contains (operands p.act) (over, arm.arm.0) =
              subst (λ (a : Act). Contains (operands a) (over, arm.arm.0)) (sym act) (Contains-map (λ (a : Val × List ℕ). (over, a.0)) arms arm.arm arm.among) in
              let valued : Contains (values p.act) arm.arm.0 = Contains-append_left (map (λ (q : Ty × Val). q.1) (operands p.act)) _ arm.arm.0 (Contains-map (λ (q : Ty × Val). q.1) (operands p.act) (over, arm.arm.0) listed) in
              let make : Val × List ℕ → List ℕ → Use = λ a x. record { register = x; block = a.1; behind = instrs_of f a.1 } in
              let set : (y : List ℕ) → Contains (locals_in arm.arm.0) y → HoldsUsed m f rs y = λ y d.
              let used_there : Contains (uses f into before p.act) (make arm.arm y) =
              subst (λ (a : Act). Contains (uses f into before a) (make arm.arm y)) (sym act)
              (in_flat_map (λ (a : Val × List ℕ). map (make a) (locals_in a.0)) arms arm.arm (make arm.arm y) arm.among (Contains-map (make arm.arm) (locals_in arm.arm.0) y d)) in
              let told = checked.set f at.own into before after p (make arm.arm y) within parts used_there at.entry at.left at.first (subst (λ z. Walks (HasEdge f) at.entry at.left z) (sym from) at.walk) in
              at_end y (subst (λ z. Contains (set_along f at.left (instrs_of f z)) y) from told) in
              let ready : IsReady m f rs arm.arm.0 = record {
                set = λ y d k kind q g. set y d k kind q g (values_usable m f (list_all (λ i. is_phi i.act) before) (is_some p.result) p.act fitting more arm.arm.0 valued y kind d g);
                known = λ y d. globals_known m f p.act good.known arm.arm.0 valued y d;
              } in
              record {
                name = x;
                result = r;
                over = over;
                arms = arms;
                act = act;
                placed = result_placed m f into p x (registers.value_of over) at.body within among r (ap kind_of act);
                arm = arm;
                value = operand_holds m f c.memory rs (meant m.types over) arm.arm.0 ready (each_true (λ (q : Ty × Val). fits (scope_of m f) (meant m.types q.0) q.1) (operands p.act) fitting (over, arm.arm.0) listed);
              }

          by : (a : Act) → p.act ≡ a → HasValue m f c.memory rs c.top.block p
          by (plain.phi over arms) act = with_name over arms act p.result refl
          by a act = clash (sym e ∙ ap is_phi act)

      values_there : (front phis : List InstrView) (next : InstrView) (rest : List InstrView) → into.instrs ≡ front ++ (phis ++ next ∷ rest) → AllByRecursion (λ (i : InstrView). is_phi i.act ≡ true) phis
          → AllByRecursion (HasValue m f c.memory rs c.top.block) phis
      values_there front [] next rest parts all = tt
      values_there front (p ∷ phis) next rest parts all = (
        value_there front p (phis ++ next ∷ rest) parts all.0,
        values_there (front ++ p ∷ []) phis next rest (parts ∙ one_on front (phis ++ next ∷ rest) p) all.1,
      )

      -- ---- the block is entered

      head_of_it : IsHeaded into.instrs
      head_of_it = block_headed into (block_ends f at.body into within)

      phis_read : IsStaged m f c.memory rs c.top.block head_of_it.phis (steps_of (program_of m) c.top.function place) []
      phis_read =
          let h = head_of_it in
          subst (λ ss. IsStaged m f c.memory rs c.top.block h.phis ss [])
          (ap (map (step_of m f)) (sym h.parts) ∙ sym (steps_there m c.top.function place (typed.top.name, f) into typed.top.there is))
          (phis_staged m f c.memory rs c.top.block h.phis h.next h.rest [] (values_there [] h.phis h.next h.rest h.parts h.all) h.plain)

      set_behind : (x : List ℕ) → Contains (set_along f (at.left ++ b.name ∷ []) head_of_it.phis) x → HoldsUsed m f rs x ⊎ Contains (results head_of_it.phis) x
      set_behind x d =
          let G : List ℕ → List (List ℕ) = λ x. results (instrs_of f x) in
          by (Contains-append_cases (parameter_names f ++ flat_map G (at.left ++ b.name ∷ [])) (results head_of_it.phis) x d)
        where
          at_front : Contains (parameter_names f ++ flat_map (λ x. results (instrs_of f x)) at.left) x → HoldsUsed m f rs x
          at_front d = at.set x (Contains-append_left (parameter_names f ++ flat_map (λ x. results (instrs_of f x)) at.left) (results typed.top.before) x d)

          left_cases : Contains (flat_map (λ x. results (instrs_of f x)) at.left) x ⊎ Contains (results (instrs_of f b.name) ++ []) x → HoldsUsed m f rs x
          left_cases (inl d) = at_front (Contains-append_right (parameter_names f) (flat_map (λ x. results (instrs_of f x)) at.left) x d)
          left_cases (inr d) =
              at_end x (Contains-append_right (parameter_names f ++ flat_map (λ x. results (instrs_of f x)) at.left) (results (instrs_of f b.name)) x (subst (λ xs. Contains xs x) (append-nil (results (instrs_of f b.name))) d))

          front_cases : Contains (parameter_names f) x ⊎ Contains (flat_map (λ x. results (instrs_of f x)) (at.left ++ b.name ∷ [])) x → HoldsUsed m f rs x
          front_cases (inl d) = at_front (Contains-append_left (parameter_names f) (flat_map (λ x. results (instrs_of f x)) at.left) x d)
          front_cases (inr d) =
              left_cases (Contains-append_cases (flat_map (λ x. results (instrs_of f x)) at.left) (results (instrs_of f b.name) ++ []) x
              (subst (λ xs. Contains xs x) (flat_map-append (λ x. results (instrs_of f x)) at.left (b.name ∷ [])) d))

          by : Contains (parameter_names f ++ flat_map (λ x. results (instrs_of f x)) (at.left ++ b.name ∷ [])) x ⊎ Contains (results head_of_it.phis) x → HoldsUsed m f rs x ⊎ Contains (results head_of_it.phis) x
          by (inl d) = inl (front_cases (Contains-append_cases (parameter_names f) (flat_map (λ x. results (instrs_of f x)) (at.left ++ b.name ∷ [])) x d))
          by (inr d) = inr d

      enters : NextFits m whole (jump (program_of m) c place)
      enters =
          let h = head_of_it in
          let r = phis_read in
          subst (λ o. NextFits m whole (entered c place o)) (sym r.is)
          (record {
            bytes = typed.bytes;
            top = record {
              name = typed.top.name;
              function = f;
              there = typed.top.there;
              block = into;
              at_block = is;
              before = h.phis;
              instr = h.next;
              after = h.rest;
              position = as_many m f h.phis r.pairs r.read;
              at = record {
                own = at.own;
                body = at.body;
                within = within;
                parts = h.parts;
                plain = h.plain;
                count = set_length m f r.pairs rs ∙ at.count;
                entry = at.entry;
                first = at.first;
                left = at.left ++ b.name ∷ [];
                walk = walks_on f at.left at.entry b.name into.name at.walk edge;
                set = λ x d. all_set m f h.phis r.pairs rs at.count r.read x (set_behind x d);
              };
            };
            below = typed.below;
          })

    -- ---- a jump to a target of the instruction

    pub jump_fits : (y : List ℕ) → Contains (targets i.act) y → NextFits m whole (jump (program_of m) c (block_place f y))
    jump_fits y d =
        let good = fit m checked f b typed.top.before i typed.top.after rs at in
        let q = block_known f y (targets_known m f i.act good.known y d) in
        let edge = edge_to f at.body c.top.block b typed.top.at_block i y (in_block m checked f b typed.top.before i typed.top.after rs at) d in
        subst (λ n. NextFits m whole (jump (program_of m) c n)) (sym q.is) (enters q.place q.block q.at (subst (λ z. HasEdge f b.name z) (sym q.named) edge))
