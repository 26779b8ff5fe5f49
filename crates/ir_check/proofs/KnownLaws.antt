-- An instruction whose names are known uses registers that are set somewhere, and its arms name blocks.
use Rattle.std.proofs.Common.{◌≡◌, ◌⊎◌, inl, inr, ℕ, zero, suc, Bool, true, false, ◌&&◌, Option, Some, None, List, [], ◌∷◌, map, refl, sym, ◌∙◌, ap, subst, arith}
use Rattle.std.specs.Prelude.{flat_map, option_to_list, is_some, bytes_eq, Contains}
use Rattle.std.specs.List.{IsDistinct, list_all}
use Rattle.std.proofs.lemmas.List.Elements.{Contains-append_cases}
use Rattle.ir_ast.specs.Plain.{Ty}
use Rattle.ir_ast.specs.Program.{Act, InstrView, BlockView, FunctionView, ModuleView}
use Rattle.ir_ast.specs.Table.{names_of, place_of}
use Rattle.ir_type.specs.Names.{entry_of, globals_in}
use Rattle.ir_type.specs.Rows.{used, values, targets, arm_blocks}
use Rattle.ir_type.proofs.Places.{at_place, no_place, place_there}
use Rattle.ir_typing.specs.Registers.{Kind, kind_of, set_by, registers_of, blocks_of, block_of}
use Rattle.ir_typing.specs.Known.{is_known, knows_range, knows_callee}
use Rattle.ir_check.specs.Graphs.{named_blocks}
use Rattle.ir_check.specs.Sites.{sites_of, IsSited}
use Rattle.ir_check.specs.declared.sites.Site.{Site}
use Rattle.ir_check.proofs.EdgeLaws.{block_entry}
use Rattle.ir_check.proofs.SiteLaws.{get_at, contains_at, site_of_set, site_of_parameter}
use Rattle.ir_check.proofs.Undefined.{of_map, of_flat_map, Contains-map}

and_left : (a b : Bool) → (a && b) ≡ true → a ≡ true
and_left true b e = refl
and_left false b e = absurd cc

and_right : (a b : Bool) → (a && b) ≡ true → b ≡ true
and_right true b e = e
and_right false b e = absurd cc

each_known : (test : List ℕ → Bool) (xs : List (List ℕ)) → list_all test xs ≡ true → (x : List ℕ) → Contains xs x → test x ≡ true
each_known test [] all x (k, l, e) = absurd (omega (arith, l))
each_known test (y ∷ xs) all x (zero, l, e) = subst (λ z. test z ≡ true) e (and_left (test y) (list_all test xs) all)
each_known test (y ∷ xs) all x (suc k, l, e) = each_known test xs (and_right (test y) (list_all test xs) all) x (k, omega (arith, l), e)

-- what is found has a place
found_place : {E : Type 0} (entries : List (List ℕ × E)) (x : List ℕ) → is_some (entry_of x entries) ≡ true → (n : ℕ) × (place_of x entries ≡ Some n)
found_place entries x e = pick (place_of x entries) refl
  where
    pick : (o : Option ℕ) → place_of x entries ≡ o → (n : ℕ) × (place_of x entries ≡ Some n)
    pick (Some n) p = (n, p)
    pick None p = absurd (clash (ap is_some (sym (no_place entries x p)) ∙ e))
      where
        clash : false ≡ true → ⊥
        clash e = cc

-- the tests of names, one kind each
abbrev knows_registers : FunctionView → Act → Bool
knows_registers f act = list_all (λ x. is_some (entry_of x (registers_of f))) (used act)

abbrev knows_globals : ModuleView → Act → Bool
knows_globals m act = list_all (λ x. is_some (entry_of x m.globals)) (flat_map globals_in (values act))

abbrev knows_targets : FunctionView → Act → Bool
knows_targets f act = list_all (λ x. is_some (block_of f x)) (targets act)

abbrev knows_arms : FunctionView → Act → Bool
knows_arms f act = list_all (λ x. is_some (block_of f x)) (arm_blocks act)

module _ (f : FunctionView) (once : IsDistinct bytes_eq (names_of (sites_of f))) where
  -- an entry of the sites has a place
  site_place : (x : List ℕ) (o : Option Site) → Contains {X = List ℕ × Option Site} (sites_of f) (x, o) → (n : ℕ) × (place_of x (sites_of f) ≡ Some n)
  site_place x o (k, l, e) =
      let row : List ℕ × Option Site = (x, o) in
      (k, place_there (sites_of f) x o k once (get_at (sites_of f) k row l e))

  set_place : (b : BlockView) (i : InstrView) (x : List ℕ) → Contains (blocks_of f) b → Contains b.instrs i → i.result ≡ Some x → (n : ℕ) × (place_of x (sites_of f) ≡ Some n)
  set_place b i x (p, l, e) (k, n, g) set =
      site_place x (Some (record { block = p; place = k }))
      (site_of_set f p k x (record { block = b; there = get_at (blocks_of f) p b l e; sets = record { instr = i; there = get_at b.instrs k i n g; result = set } }))

  in_option_list : {A : Type 0} (o : Option A) (x : A) → Contains (option_to_list o) x → o ≡ Some x
  in_option_list None x (k, l, e) = absurd (omega (arith, l))
  in_option_list (Some y) x (zero, l, e) = ap Some e
  in_option_list (Some y) x (suc k, l, e) = absurd (omega (arith, l))

  register_place : (x : List ℕ) (kind : Kind) → Contains {X = List ℕ × Kind} (registers_of f) (x, kind) → (n : ℕ) × (place_of x (sites_of f) ≡ Some n)
  register_place x kind c =
      let row : List ℕ × Kind = (x, kind) in
      pick (Contains-append_cases (map (λ p. (p.1, Kind.value_of p.0)) f.parameters) (flat_map (λ b. flat_map set_by b.instrs) (blocks_of f)) row c)
    where
      pick : Contains {X = List ℕ × Kind} (map (λ p. (p.1, Kind.value_of p.0)) f.parameters) (x, kind) ⊎ Contains {X = List ℕ × Kind} (flat_map (λ b. flat_map set_by b.instrs) (blocks_of f)) (x, kind)
          → (n : ℕ) × (place_of x (sites_of f) ≡ Some n)
      pick (inl d) =
          let row_of : Ty × List ℕ → List ℕ × Kind = λ p. (p.1, Kind.value_of p.0) in
          let first : List ℕ × Kind → List ℕ = λ r. r.0 in
          let name : Ty × List ℕ → List ℕ = λ p. p.1 in
          let p = of_map row_of f.parameters (x, kind) d in
          let named : Contains (map name f.parameters) x = subst (Contains (map name f.parameters)) (ap first p.2) (Contains-map name f.parameters p.0 p.1) in
          site_place x None (site_of_parameter f x named)
      pick (inr d) =
          let first : List ℕ × Kind → List ℕ = λ r. r.0 in
          let rows_of : BlockView → List (List ℕ × Kind) = λ b. flat_map set_by b.instrs in
          let b = of_flat_map rows_of (blocks_of f) (x, kind) d in
          let i = of_flat_map set_by b.0.instrs (x, kind) b.2 in
          let kinds_of : List ℕ → List (List ℕ × Kind) = λ y. map (λ k. (y, k)) (option_to_list (kind_of i.0.act)) in
          let y = of_flat_map kinds_of (option_to_list i.0.result) (x, kind) i.2 in
          let kind_at : Kind → List ℕ × Kind = λ k. (y.0, k) in
          let k = of_map kind_at (option_to_list (kind_of i.0.act)) (x, kind) y.2 in
          let set : i.0.result ≡ Some x = in_option_list i.0.result y.0 y.1 ∙ ap Some (ap first k.2) in
          set_place b.0 i.0 x b.1 i.1 set

  pub known_sited : (m : ModuleView) (act : Act) → is_known m f act ≡ true → IsSited f act
  known_sited m act e = record { registers = registers; blocks = blocks }
    where
      five : (knows_registers f act && knows_globals m act && knows_targets f act && knows_arms f act && knows_range m act) ≡ true
      five = and_left (knows_registers f act && knows_globals m act && knows_targets f act && knows_arms f act && knows_range m act) (knows_callee m act) e

      four : (knows_registers f act && knows_globals m act && knows_targets f act && knows_arms f act) ≡ true
      four = and_left (knows_registers f act && knows_globals m act && knows_targets f act && knows_arms f act) (knows_range m act) five

      arms_known : knows_arms f act ≡ true
      arms_known = and_right (knows_registers f act && knows_globals m act && knows_targets f act) (knows_arms f act) four

      registers_known : knows_registers f act ≡ true
      registers_known =
          and_left (knows_registers f act) (knows_globals m act)
          (and_left (knows_registers f act && knows_globals m act) (knows_targets f act)
          (and_left (knows_registers f act && knows_globals m act && knows_targets f act) (knows_arms f act) four))

      registers : (x : List ℕ) → Contains (used act) x → (n : ℕ) × (place_of x (sites_of f) ≡ Some n)
      registers x c =
          let some : is_some (entry_of x (registers_of f)) ≡ true = each_known (λ x. is_some (entry_of x (registers_of f))) (used act) registers_known x c in
          let n = found_place (registers_of f) x some in
          let at = at_place (registers_of f) x n.0 n.1 in
          let row : List ℕ × Kind = (x, at.0) in
          register_place x at.0 (contains_at (registers_of f) n.0 row at.1.there)

      blocks : (x : List ℕ) → Contains (arm_blocks act) x → (q : ℕ) × (place_of x (named_blocks f) ≡ Some q)
      blocks x c =
          let some : is_some (block_of f x) ≡ true = each_known (λ x. is_some (block_of f x)) (arm_blocks act) arms_known x c in
          found_place (named_blocks f) x (ap is_some (block_entry f x) ∙ some)
