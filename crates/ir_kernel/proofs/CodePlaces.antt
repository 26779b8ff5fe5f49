-- The code of a module by places: which instructions stand where, and which function a name calls.
use Rattle.std.proofs.Common.{◌≡◌, ◌⊎◌, inl, inr, ℕ, ◌<◌, true, false, Option, Some, None, option_map, List, [], ◌∷◌, ◌++◌, length, map, refl, sym, ◌∙◌, ap, subst, arith}
use Rattle.std.specs.Prelude.{Contains, slice_get, flat_map, option_to_list, option_and_then, is_some, unwrap_or, bytes_eq}
use Rattle.std.specs.List.{IsDistinct, AllByRecursion}
use Rattle.std.proofs.lemmas.List.{append-nil, length-map}
use Rattle.std.proofs.lemmas.Option.{slice_get-map}
use Rattle.ir_ast.specs.Program.{InstrView, BlockView, FunctionView, ModuleView}
use Rattle.ir_ast.specs.Table.{names_of, place_of}
use Rattle.ir_type.specs.Shape.{IsShaped, IsShapedBody}
use Rattle.ir_type.proofs.Places.{at_place, no_place, place_there, same_second}
use Rattle.ir_typing.specs.Registers.{blocks_of, function_of, has_body}
use Rattle.ir_code.specs.declared.act.Step.{Step}
use Rattle.ir_machine.specs.Step.{blocks_in, steps_in, steps_of}
use Rattle.ir_resolve.specs.Resolved.{step_of, block_of, code_of, program_of}
use Rattle.ir_walk.specs.LoopFree.{body_of}
use Rattle.ir_check.specs.Graphs.{named, named_blocks}
use Rattle.ir_check.proofs.SiteLaws.{contains_at}
use Rattle.ir_check.proofs.Undefined.{of_map}
use Rattle.ir_kernel.proofs.CodeActs.{function_place}

none_in : {A B : Type 0} (xs : List A) (x : A) → xs ≡ [] → Contains xs x → B
none_in [] x e (k, l, s) = absurd (omega (arith, l))
none_in (y ∷ xs) x e c = absurd cc

-- ---- where instructions stand

-- the instruction of which this is the step
pub record IsStepAt (m : ModuleView) (p k : ℕ) (s : Step) : Type 0 where
  pub entry : List ℕ × FunctionView
  pub there : slice_get m.functions p ≡ Some entry
  pub block : BlockView
  pub at : slice_get (blocks_of entry.1) k ≡ Some block
  pub instr : InstrView
  pub among : Contains block.instrs instr
  pub is : step_of m entry.1 instr ≡ s

module _ (m : ModuleView) where
  abbrev code : List ℕ × FunctionView → Rattle.ir_code.specs.declared.program.Code.Code
  code e = code_of m e.1

  pub code_at : (p : ℕ) (o : Option (List ℕ × FunctionView)) → slice_get m.functions p ≡ o → slice_get (program_of m).functions p ≡ option_map code o
  code_at p o h = slice_get-map code m.functions p ∙ ap (option_map code) h

  pub body_there : (p : ℕ) (e : List ℕ × FunctionView) → slice_get m.functions p ≡ Some e → body_of (program_of m) p ≡ map (block_of m e.1) (blocks_of e.1)
  body_there p e h = ap blocks_in (code_at p (Some e) h)

  pub body_none : (p : ℕ) → slice_get m.functions p ≡ None → body_of (program_of m) p ≡ []
  body_none p h = ap blocks_in (code_at p None h)

  steps_by : (p k : ℕ) (e : List ℕ × FunctionView) (o : Option BlockView) → slice_get m.functions p ≡ Some e → slice_get (blocks_of e.1) k ≡ o
      → steps_of (program_of m) p k ≡ steps_in (option_map (block_of m e.1) o)
  steps_by p k e o h at =
      ap (λ bs. steps_in (slice_get bs k)) (body_there p e h)
      ∙ ap steps_in (slice_get-map (block_of m e.1) (blocks_of e.1) k ∙ ap (option_map (block_of m e.1)) at)

  pub steps_there : (p k : ℕ) (e : List ℕ × FunctionView) (b : BlockView) → slice_get m.functions p ≡ Some e → slice_get (blocks_of e.1) k ≡ Some b
      → steps_of (program_of m) p k ≡ map (step_of m e.1) b.instrs
  steps_there p k e b h at = steps_by p k e (Some b) h at

  pub step_there : (p k : ℕ) (s : Step) → Contains (steps_of (program_of m) p k) s → IsStepAt m p k s
  step_there p k s c = by (slice_get m.functions p) refl
    where
      in_block : (e : List ℕ × FunctionView) (o : Option BlockView) → slice_get m.functions p ≡ Some e → slice_get (blocks_of e.1) k ≡ o → IsStepAt m p k s
      in_block e None h at = none_in (steps_of (program_of m) p k) s (steps_by p k e None h at) c
      in_block e (Some b) h at =
          let r = of_map (step_of m e.1) b.instrs s (subst (λ ss. Contains ss s) (steps_there p k e b h at) c) in
          record { entry = e; there = h; block = b; at = at; instr = r.0; among = r.1; is = r.2 }

      by : (o : Option (List ℕ × FunctionView)) → slice_get m.functions p ≡ o → IsStepAt m p k s
      by None h = none_in (steps_of (program_of m) p k) s (ap (λ bs. steps_in (slice_get bs k)) (body_none p h)) c
      by (Some e) h = in_block e (slice_get (blocks_of e.1) k) h refl

-- ---- functions by name

-- the function that is called by a name, at its place
pub record IsPlaced (m : ModuleView) (name : List ℕ) : Type 0 where
  pub called : FunctionView
  pub there : slice_get m.functions (function_place m name) ≡ Some (name, called)
  pub body : is_some called.body ≡ true

pub placed : (m : ModuleView) (name : List ℕ) → has_body m name ≡ true → IsPlaced m name
placed m name e = by (place_of name m.functions) refl
  where
    by : (o : Option ℕ) → place_of name m.functions ≡ o → IsPlaced m name
    by None h = absurd (clash (sym (ap (λ (o : Option FunctionView). is_some (option_and_then (λ (f : FunctionView). f.body) o)) (no_place m.functions name h)) ∙ e))
      where
        clash : false ≡ true → ⊥
        clash e = cc
    by (Some p) h =
        let s = at_place m.functions name p h in record {
          called = s.0;
          there = ap (λ (o : Option ℕ). slice_get m.functions (unwrap_or o 0)) h ∙ s.1.there;
          body = ap (λ (o : Option FunctionView). is_some (option_and_then (λ (f : FunctionView). f.body) o)) (sym s.1.found) ∙ e;
        }

pub own_function : (m : ModuleView) (p : ℕ) (e : List ℕ × FunctionView) → IsDistinct bytes_eq (names_of m.functions) → slice_get m.functions p ≡ Some e → function_of m e.0 ≡ Some e.1
own_function m p (x, f) distinct h =
    let s = at_place m.functions x p (place_there m.functions x f p distinct h) in
    s.1.found ∙ ap Some (same_second {A = List ℕ} {B = FunctionView} (x, s.0) (x, f) (sym s.1.there ∙ h))

-- ---- shapes of bodies

-- the blocks of a body, at least one
pub record IsBody (f : FunctionView) : Type 0 where
  pub first : BlockView
  pub rest : List BlockView
  pub blocks : blocks_of f ≡ first ∷ rest
  pub shaped : IsShapedBody f first rest

pub body_shaped : (m : ModuleView) (p : ℕ) (e : List ℕ × FunctionView) → IsShaped m → slice_get m.functions p ≡ Some e → is_some e.1.body ≡ true → IsBody e.1
body_shaped m p (x, f) shaped h some = by (shaped.bodies f (x, contains_at m.functions p (x, f) h))
  where
    clash : is_some f.body ≡ false → ⊥
    clash e = cc

    by : (f.body ≡ None) ⊎ ((b : BlockView) × (rest : List BlockView) × IsShapedBody f b rest) → IsBody f
    by (inl none) = absurd (clash (ap is_some none))
    by (inr (b, rest, s)) = record {
      first = b;
      rest = rest;
      blocks = ap (λ (o : Option (List BlockView)). flat_map (λ (bs : List BlockView). bs) (option_to_list o)) s.body ∙ append-nil (b ∷ rest);
      shaped = s;
    }

pub has_blocks : (m : ModuleView) (p : ℕ) (e : List ℕ × FunctionView) → IsShaped m → slice_get m.functions p ≡ Some e → is_some e.1.body ≡ true → 0 < length (body_of (program_of m) p)
has_blocks m p e shaped h some =
    let b = body_shaped m p e shaped h some in
    let n : length (body_of (program_of m) p) ≡ length (blocks_of e.1) = ap length (body_there m p e h) ∙ length-map (blocks_of e.1) (block_of m e.1) in
    let k = ap length b.blocks in
    omega (arith, n, k)

-- what has a block has a body
pub with_body : (f : FunctionView) (k : ℕ) → k < length (blocks_of f) → is_some f.body ≡ true
with_body f k l = by f.body refl
  where
    by : (o : Option (List BlockView)) → f.body ≡ o → is_some f.body ≡ true
    by None h =
        let n = ap (λ (o : Option (List BlockView)). length (flat_map (λ (bs : List BlockView). bs) (option_to_list o))) h in
        absurd (omega (arith, l, n))
    by (Some bs) h = ap is_some h

-- ---- names of blocks differ

distinct_rest : (xs ys : List (List ℕ)) → IsDistinct bytes_eq (xs ++ ys) → IsDistinct bytes_eq ys
unfolding IsDistinct
distinct_rest [] ys d = d
distinct_rest (x ∷ xs) ys d = distinct_rest xs ys d.1

all_rest : (P : List ℕ → Type 0) (xs ys : List (List ℕ)) → AllByRecursion P (xs ++ ys) → AllByRecursion P ys
all_rest P [] ys a = a
all_rest P (x ∷ xs) ys a = all_rest P xs ys a.1

abbrev site_names : BlockView → List (List ℕ)
site_names b = b.name ∷ flat_map (λ (i : InstrView). option_to_list i.result) b.instrs

all_named : (P : List ℕ → Type 0) (bs : List BlockView) → AllByRecursion P (flat_map site_names bs) → AllByRecursion P (names_of (named bs))
all_named P [] a = tt
all_named P (b ∷ bs) a = (a.0, all_named P bs (all_rest P (flat_map (λ (i : InstrView). option_to_list i.result) b.instrs) (flat_map site_names bs) a.1))

distinct_named : (bs : List BlockView) → IsDistinct bytes_eq (flat_map site_names bs) → IsDistinct bytes_eq (names_of (named bs))
unfolding IsDistinct
distinct_named [] d = tt
distinct_named (b ∷ bs) d = (
  all_named (λ y. bytes_eq b.name y ≡ false) bs (all_rest (λ y. bytes_eq b.name y ≡ false) (flat_map (λ (i : InstrView). option_to_list i.result) b.instrs) (flat_map site_names bs) d.0),
  distinct_named bs (distinct_rest (flat_map (λ (i : InstrView). option_to_list i.result) b.instrs) (flat_map site_names bs) d.1),
)

pub blocks_differ : (f : FunctionView) → IsBody f → IsDistinct bytes_eq (names_of (named_blocks f))
blocks_differ f b =
    subst (λ bs. IsDistinct bytes_eq (names_of (named bs))) (sym b.blocks)
    (distinct_named (b.first ∷ b.rest) (distinct_rest (map (λ p. p.1) f.parameters) (flat_map site_names (b.first ∷ b.rest)) b.shaped.distinct))
