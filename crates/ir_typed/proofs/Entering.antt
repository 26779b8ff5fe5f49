-- A function begins: its parameters are set, and its first block has no phi.
use Rattle.std.proofs.Common.{◌≡◌, inr, ℕ, zero, suc, ◌+◌, ◌-◌, ◌<◌, true, false, Some, option_map, List, [], ◌∷◌, ◌++◌, length, map, refl, sym, ◌∙◌, ap, subst, arith}
use Rattle.std.specs.Prelude.{Contains, flat_map, is_some, bytes_eq, slice_get, count_by}
use Rattle.std.specs.List.{AllByRecursion}
use Rattle.std.proofs.lemmas.List.{append-nil, length-append, length-map}
use Rattle.std.proofs.lemmas.Option.{slice_get-map}
use Rattle.std.proofs.lemmas.Slice.Eq.{bytes_eq-Decides}
use Rattle.ir_ast.specs.Plain.{Ty, Val}
use Rattle.ir_ast.specs.Program as plain
use Rattle.ir_ast.specs.Program.{Act, InstrView, BlockView, FunctionView, ModuleView}
use Rattle.ir_type.specs.Items.{IsFunction, function_item, K10}
use Rattle.ir_type.specs.Whole.{Types, meant}
use Rattle.ir_type.proofs.Places.{place_there, some_same}
use Rattle.ir_typing.specs.Registers as registers
use Rattle.ir_typing.specs.Registers.{Kind, set_by, blocks_of, registers_of}
use Rattle.ir_typing.specs.Places.{register_names}
use Rattle.ir_typing.specs.Fits.{is_phi}
use Rattle.ir_check.specs.Arms.{MeetsCounts}
use Rattle.ir_check.specs.Paths.{HasEdge, targets_of, parameter_names, set_along}
use Rattle.ir_check.specs.Checked.{IsChecked}
use Rattle.ir_check.proofs.PartLaws.{get_of}
use Rattle.ir_check.proofs.SiteLaws.{contains_at}
use Rattle.ir_check.proofs.Undefined.{of_map}
use Rattle.ir_machine.specs.Values.{Registers, held_at}
use Rattle.ir_machine.specs.Step.{unset, first_registers, begun}
use Rattle.ir_resolve.specs.Resolved.{code_of}
use Rattle.ir_kernel.specs.Typed.{IsSetTo}
use Rattle.ir_kernel.proofs.CodePlaces.{IsBody, body_shaped}
use Rattle.ir_typed.specs.Spelled.{is_some_arm, is_spelled, AreSpelled}
use Rattle.ir_typed.proofs.RegisterKinds.{HoldsUsed, registers_differ, row_placed}
use Rattle.ir_typed.proofs.Standing.{IsFrame, block_ends}
use Rattle.ir_typed.proofs.BlockNames.{counted, exists, IsHeaded, block_headed}

-- ---- arguments in the registers of parameters

abbrev pub AreSetTo : Types → List (Ty × List ℕ) → Registers → Type 0
AreSetTo types [] [] = Unit
AreSetTo types (p ∷ ps) (r ∷ rs) = IsSetTo (registers.value_of (meant types p.0)) r × AreSetTo types ps rs
AreSetTo types _ _ = ⊥

set_count : (types : Types) (ps : List (Ty × List ℕ)) (rs : Registers) → AreSetTo types ps rs → length rs ≡ length ps
set_count types [] [] a = refl
set_count types (p ∷ ps) (r ∷ rs) a = let n = set_count types ps rs a.1 in omega (arith, n)
set_count types [] (r ∷ rs) a = absurd a
set_count types (p ∷ ps) [] a = absurd a

set_at : (types : Types) (ps : List (Ty × List ℕ)) (rs more : Registers) (k : ℕ) (p : Ty × List ℕ) → AreSetTo types ps rs → slice_get ps k ≡ Some p → IsSetTo (registers.value_of (meant types p.0)) (held_at (rs ++ more) k)
set_at types [] rs more k p a e = absurd cc
set_at types (q ∷ ps) (r ∷ rs) more zero p a e = subst (λ (p : Ty × List ℕ). IsSetTo (registers.value_of (meant types p.0)) r) (some_same q p e) a.0
set_at types (q ∷ ps) (r ∷ rs) more (suc k) p a e = set_at types ps rs more k p a.1 e
set_at types (q ∷ ps) [] more k p a e = absurd a

unset_count : (n : ℕ) → length (unset n) ≡ n
unset_count zero = refl
unset_count (suc n) = let r = unset_count n in omega (arith, r)

get_left : {A : Type 0} (xs ys : List A) (k : ℕ) (x : A) → slice_get xs k ≡ Some x → slice_get (xs ++ ys) k ≡ Some x
get_left [] ys k x e = absurd cc
get_left (y ∷ xs) ys zero x e = e
get_left (y ∷ xs) ys (suc k) x e = get_left xs ys k x e

module _ (m : ModuleView) (checked : IsChecked m) (spelled : AreSpelled m) (k : ℕ) (name : List ℕ) (f : FunctionView) (there : slice_get m.functions k ≡ Some (name, f)) (some : is_some f.body ≡ true) where
  body : IsBody f
  body = body_shaped m k (name, f) checked.shaped there some

  own : IsFunction m f
  own = (name, contains_at m.functions k (name, f) there)

  within : Contains (blocks_of f) body.first
  within = subst (λ (bs : List BlockView). Contains bs body.first) (sym body.blocks) (0, omega arith, refl)

  -- no phi stands in the first block: no edge leads to it
  no_phi : (p : InstrView) → Contains body.first.instrs p → is_phi p.act ≡ true → ⊥
  no_phi p c e = by p.act refl
    where
      clash : true ≡ false → ⊥
      clash e = cc

      some_edge : (arms : List (Val × List ℕ)) → is_some_arm arms ≡ true → MeetsCounts f body.first arms → ⊥
      some_edge [] s counts = clash (sym s)
      some_edge (a ∷ arms) s counts =
          let one = counted (λ (arm : Val × List ℕ). bytes_eq a.1 arm.1) (a ∷ arms) a (0, omega arith, refl) ((bytes_eq-Decides a.1 a.1).1 refl) in
          let edges : 0 < count_by (bytes_eq body.first.name) (targets_of f a.1) = subst (λ n. 0 < n) (counts a.1) one in
          let y = exists (bytes_eq body.first.name) (targets_of f a.1) edges in
          let edge : HasEdge f a.1 body.first.name = subst (λ z. HasEdge f a.1 z) (sym ((bytes_eq-Decides body.first.name y.0).0 y.2)) y.1 in
          checked.well_formed (function_item f) own K10 (inr (a.1, body.first.name, edge, (body.first, body.rest, body.blocks, refl)))

      by : (a : Act) → p.act ≡ a → ⊥
      by (plain.phi over arms) act = some_edge arms (sym (ap is_spelled act) ∙ spelled f body.first p own within c) (checked.counted f own body.first p over arms within c act)
      by a act = clash (sym e ∙ ap is_phi act)

  -- the parameters are set
  parameters_hold : (rs : Registers) → AreSetTo m.types f.parameters rs → (more : Registers) (x : List ℕ) → Contains (parameter_names f) x → HoldsUsed m f (rs ++ more) x
  parameters_hold rs set more x c j kind q e used =
      let row : Ty × List ℕ → List ℕ × Kind = λ p. (p.1, registers.value_of p.0) in
      let p = of_map (λ (p : Ty × List ℕ). p.1) f.parameters x c in
      let at = get_of f.parameters p.0 p.1 in
      let stands : slice_get {X = List ℕ × Kind} (registers_of f) at.0 ≡ Some (x, registers.value_of p.0.0) =
      get_left (map row f.parameters) (flat_map (λ (b : BlockView). flat_map set_by b.instrs) (blocks_of f)) at.0 (x, registers.value_of p.0.0)
      (slice_get-map row f.parameters at.0 ∙ ap (option_map row) at.1 ∙ ap (λ (z : List ℕ). Some (z, registers.value_of p.0.0)) p.2) in
      let differ = registers_differ f body in
      let placed = row_placed m f x (registers.value_of p.0.0) at.0 differ stands in
      let place : at.0 ≡ j = number (sym (place_there (registers_of f) x (registers.value_of p.0.0) at.0 differ stands) ∙ q) in
      let same : registers.value_of (meant m.types p.0.0) ≡ kind = one (registers.value_of (meant m.types p.0.0)) kind (sym placed.found ∙ e) in
      subst (λ n. IsSetTo kind (held_at (rs ++ more) n)) place
      (subst (λ kind. IsSetTo kind (held_at (rs ++ more) at.0)) same (set_at m.types f.parameters rs more at.0 p.0 set at.1))
    where
      one : (k l : Kind) → Some k ≡ Some l → k ≡ l
      one k l e = cc

      number : {a b : ℕ} → Some a ≡ Some b → a ≡ b
      number e = cc

  as_many : (rs : Registers) → AreSetTo m.types f.parameters rs → length (first_registers (code_of m f) rs) ≡ length (register_names f)
  as_many rs set =
      let row : Ty × List ℕ → List ℕ × Kind = λ p. (p.1, registers.value_of p.0) in
      let rest = flat_map (λ (b : BlockView). flat_map set_by b.instrs) (blocks_of f) in
      let n = set_count m.types f.parameters rs set in
      let u = unset_count (length (register_names f) - length f.parameters) in
      let both : length (rs ++ unset (length (register_names f) - length f.parameters)) ≡ length rs + length (unset (length (register_names f) - length f.parameters)) = length-append rs (unset (length (register_names f) - length f.parameters)) in
      let names : length (register_names f) ≡ length (registers_of f) = length-map (registers_of f) _ in
      let rows : length (registers_of f) ≡ length (map row f.parameters) + length rest = length-append (map row f.parameters) rest in
      let first : length (map row f.parameters) ≡ length f.parameters = length-map f.parameters row in
      omega (arith, n, u, both, names, rows, first)

  abbrev Begins : Registers → Type 0
  Begins rs = (fr : IsFrame m (begun k (code_of m f) rs)) × (fr.function ≡ f)

  entry_frame : (rs : Registers) → AreSetTo m.types f.parameters rs → (h : IsHeaded body.first.instrs) → Begins rs
  entry_frame rs set h = by h.phis h.parts h.all
    where
      names_only : (x : List ℕ) → Contains (set_along f [] []) x → Contains (parameter_names f) x
      names_only x c =
          subst (λ xs. Contains xs x) (append-nil (parameter_names f)) (subst (λ xs. Contains xs x) (append-nil (parameter_names f ++ [])) c)

      by : (phis : List InstrView) → body.first.instrs ≡ phis ++ h.next ∷ h.rest → AllByRecursion (λ (i : InstrView). is_phi i.act ≡ true) phis → Begins rs
      by (p ∷ phis) parts all = absurd (no_phi p (subst (λ is. Contains is p) (sym parts) (0, omega arith, refl)) all.0)
      by [] parts all = (
        record {
          name = name;
          function = f;
          there = there;
          block = body.first;
          at_block = ap (λ (bs : List BlockView). slice_get bs 0) body.blocks;
          before = [];
          instr = h.next;
          after = h.rest;
          position = refl;
          at = record {
            own = own;
            body = body;
            within = within;
            parts = parts;
            plain = h.plain;
            count = as_many rs set;
            entry = body.first.name;
            first = (body.first, body.rest, body.blocks, refl);
            left = [];
            walk = refl;
            set = λ x c. parameters_hold rs set (unset (length (register_names f) - length f.parameters)) x (names_only x c);
          };
        },
        refl,
      )

  pub begun_frame : (rs : Registers) → AreSetTo m.types f.parameters rs → (fr : IsFrame m (begun k (code_of m f) rs)) × (fr.function ≡ f)
  begun_frame rs set = entry_frame rs set (block_headed body.first (block_ends f body body.first within))
