-- Where a frame of a checked kernel stands, and that it moves on behind an instruction that does not end its block.
use Rattle.std.proofs.Common.{◌≡◌, ℕ, ◌+◌, Bool, true, false, ◌&&◌, Some, option_map, List, [], ◌∷◌, ◌++◌, length, refl, sym, ◌∙◌, ap, subst, arith}
use Rattle.std.specs.Prelude.{Contains, slice_get, slice_index_or, is_some}
use Rattle.std.specs.List.{list_all}
use Rattle.std.proofs.lemmas.List.Elements.{All-contains}
use Rattle.std.proofs.lemmas.Option.{slice_get-map}
use Rattle.ir_ast.specs.Program.{Act, phi, InstrView, BlockView, FunctionView, ModuleView}
use Rattle.hk_graph.specs.Walks.{Walks}
use Rattle.ir_type.specs.Items.{IsFunction}
use Rattle.ir_type.specs.Shape.{is_last, Ends}
use Rattle.ir_typing.specs.Registers.{blocks_of}
use Rattle.ir_typing.specs.Places.{register_names}
use Rattle.ir_typing.specs.Fits.{scope_of, operands_fit, further, is_phi}
use Rattle.ir_check.specs.Paths.{HasEdge, IsEntry, set_along}
use Rattle.ir_check.specs.Checked.{IsChecked}
use Rattle.ir_code.specs.declared.act.Step.{Step}
use Rattle.ir_machine.specs.declared.state.Frame.{Frame}
use Rattle.ir_machine.specs.Values.{Registers}
use Rattle.ir_machine.specs.Step.{step_at, behind}
use Rattle.ir_resolve.specs.Resolved.{step_of, program_of}
use Rattle.ir_kernel.proofs.CodePlaces.{IsBody, steps_there}
use Rattle.ir_kernel.proofs.InstrFacts.{instr_is_fit}
use Rattle.ir_kernel.proofs.LoadTypes.{right_of}
use Rattle.ir_typed.proofs.RegisterKinds.{HoldsUsed}

-- ---- an instruction of a block, and the registers when it is reached along a path from the first block

pub record IsAt (m : ModuleView) (f : FunctionView) (b : BlockView) (before : List InstrView) (i : InstrView) (after : List InstrView) (rs : Registers) : Type 0 where
  pub own : IsFunction m f
  pub body : IsBody f
  pub within : Contains (blocks_of f) b
  pub parts : b.instrs ≡ before ++ i ∷ after
  pub plain : is_phi i.act ≡ false
  pub count : length rs ≡ length (register_names f)
  pub entry : List ℕ
  pub first : IsEntry f entry
  pub left : List (List ℕ)
  pub walk : Walks (HasEdge f) entry left b.name
  pub set : (x : List ℕ) → Contains (set_along f left before) x → HoldsUsed m f rs x

pub record IsFrame (m : ModuleView) (fr : Frame) : Type 0 where
  pub name : List ℕ
  pub function : FunctionView
  pub there : slice_get m.functions fr.function ≡ Some (name, function)
  pub block : BlockView
  pub at_block : slice_get (blocks_of function) fr.block ≡ Some block
  pub before : List InstrView
  pub instr : InstrView
  pub after : List InstrView
  pub position : fr.position ≡ length before
  pub at : IsAt m function block before instr after fr.registers

-- ---- lists

pub get_middle : {A : Type 0} (xs ys : List A) (x : A) → slice_get (xs ++ x ∷ ys) (length xs) ≡ Some x
get_middle [] ys x = refl
get_middle (y ∷ xs) ys x = get_middle xs ys x

pub one_on : {A : Type 0} (xs ys : List A) (x : A) → xs ++ x ∷ ys ≡ (xs ++ x ∷ []) ++ ys
one_on [] ys x = refl
one_on (y ∷ xs) ys x = ap (λ zs. y ∷ zs) (one_on xs ys x)

pub one_longer : {A : Type 0} (xs : List A) (x : A) → length (xs ++ x ∷ []) ≡ length xs + 1
one_longer [] x = refl
one_longer (y ∷ xs) x = let r = one_longer xs x in omega (arith, r)

pub all_phis : (before : List InstrView) (i : InstrView) (after : List InstrView) → is_phi i.act ≡ false → list_all (λ (i : InstrView). is_phi i.act) (before ++ i ∷ after) ≡ false
all_phis [] i after e = ap (λ b. b && list_all (λ (i : InstrView). is_phi i.act) after) e
all_phis (j ∷ before) i after e = by (is_phi j.act) (all_phis before i after e)
  where
    by : (b : Bool) → list_all (λ (i : InstrView). is_phi i.act) (before ++ i ∷ after) ≡ false → (b && list_all (λ (i : InstrView). is_phi i.act) (before ++ i ∷ after)) ≡ false
    by true h = h
    by false h = refl

-- the last of a block is the one that ends it
last_of : (before : List InstrView) (i : InstrView) (front : List InstrView) (last : InstrView) → before ++ i ∷ [] ≡ front ++ last ∷ [] → i ≡ last
last_of [] i [] last e = ap (λ (is : List InstrView). slice_index_or is 0 last) e
last_of [] i (k ∷ front) last e =
    let n = ap length e in
    let l = one_longer front last in
    absurd (omega (arith, n, l))
last_of (j ∷ before) i [] last e =
    let n = ap length e in
    let l = one_longer before i in
    absurd (omega (arith, n, l))
last_of (j ∷ before) i (k ∷ front) last e = last_of before i front last (ap (λ (is : List InstrView). tail is) e)
  where
    tail : List InstrView → List InstrView
    tail [] = []
    tail (x ∷ xs) = xs

pub block_ends : (f : FunctionView) → IsBody f → (b : BlockView) → Contains (blocks_of f) b → Ends b
block_ends f body b within =
    All-contains Ends (body.first ∷ body.rest) b body.shaped.ended (subst (λ (bs : List BlockView). Contains bs b) body.blocks within)

-- ---- the next instruction

pub phi_follows : (m : ModuleView) → IsChecked m → (f : FunctionView) (b : BlockView) (before after : List InstrView) (i : InstrView) → IsFunction m f → Contains (blocks_of f) b → b.instrs ≡ before ++ i ∷ after
    → list_all (λ (i : InstrView). is_phi i.act) before ≡ false → is_phi i.act ≡ false
phi_follows m checked f b before after i own within parts none = by i.act refl
  where
    clash : {A : Type 0} → false ≡ true → A
    clash e = absurd cc

    fitting : (operands_fit (scope_of m f) i.act && further m.types m f (list_all (λ i. is_phi i.act) before) (is_some i.result) i.act) ≡ true
    fitting = (instr_is_fit m checked f b before after i own within parts).fitting

    by : (a : Act) → i.act ≡ a → is_phi i.act ≡ false
    by (phi over arms) e =
        let told = right_of (operands_fit (scope_of m f) i.act) (further m.types m f (list_all (λ i. is_phi i.act) before) (is_some i.result) i.act) fitting in
        clash (sym none ∙ sym (ap (further m.types m f (list_all (λ i. is_phi i.act) before) (is_some i.result)) e) ∙ told)
    by a e = ap is_phi e

pub record MovesOn (m : ModuleView) (f : FunctionView) (b : BlockView) (before : List InstrView) (i : InstrView) (rs : Registers) : Type 0 where
  pub next : InstrView
  pub rest : List InstrView
  pub at : IsAt m f b (before ++ i ∷ []) next rest rs

module _ (m : ModuleView) (checked : IsChecked m) where
  pub moves_on : (f : FunctionView) (b : BlockView) (before : List InstrView) (i : InstrView) (after : List InstrView) (rs more : Registers) (at : IsAt m f b before i after rs) → is_last i ≡ false
      → length more ≡ length (register_names f) → ((x : List ℕ) → Contains (set_along f at.left (before ++ i ∷ [])) x → HoldsUsed m f more x) → MovesOn m f b before i more
  moves_on f b before i after rs more at not_last count set = by after at.parts
    where
      clash : {A : Type 0} → false ≡ true → A
      clash e = absurd cc

      by : (after : List InstrView) → b.instrs ≡ before ++ i ∷ after → MovesOn m f b before i more
      by [] parts =
          let ends = block_ends f at.body b at.within in
          let same = last_of before i ends.0 ends.1 (sym parts ∙ ends.2) in
          clash (sym not_last ∙ ap is_last same ∙ ends.3)
      by (j ∷ rest) parts =
          let further_on : b.instrs ≡ (before ++ i ∷ []) ++ j ∷ rest = parts ∙ one_on before (j ∷ rest) i in
          record {
            next = j;
            rest = rest;
            at = record {
              own = at.own;
              body = at.body;
              within = at.within;
              parts = further_on;
              plain = phi_follows m checked f b (before ++ i ∷ []) rest j at.own at.within further_on (all_phis before i [] at.plain);
              count = count;
              entry = at.entry;
              first = at.first;
              left = at.left;
              walk = at.walk;
              set = set;
            };
          }

  -- ---- frames

  pub step_is : (fr : Frame) (is : IsFrame m fr) → step_at (program_of m) fr ≡ Some (step_of m is.function is.instr)
  step_is fr is =
      ap (λ (ss : List Step). slice_get ss fr.position) (steps_there m fr.function fr.block (is.name, is.function) is.block is.there is.at_block)
      ∙ slice_get-map (step_of m is.function) is.block.instrs fr.position
      ∙ ap (option_map (step_of m is.function)) (ap (λ k. slice_get is.block.instrs k) is.position ∙ ap (λ (xs : List InstrView). slice_get xs (length is.before)) is.at.parts ∙ get_middle is.before is.after is.instr)

  abbrev pub frame_moves : (fr : Frame) (is : IsFrame m fr) (more : Registers) → MovesOn m is.function is.block is.before is.instr more → IsFrame m (behind fr more)
  frame_moves fr is more on = record {
    name = is.name;
    function = is.function;
    there = is.there;
    block = is.block;
    at_block = is.at_block;
    before = is.before ++ is.instr ∷ [];
    instr = on.next;
    after = on.rest;
    position = ap (λ n. n + 1) is.position ∙ sym (one_longer is.before is.instr);
    at = on.at;
  }
