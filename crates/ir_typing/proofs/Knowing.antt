-- The names of an instruction's operands, part by part.
use Rattle.std.proofs.Common.{◌≡◌, ℕ, Bool, true, false, ◌&&◌, is_some, List, [], ◌∷◌, ◌++◌, map, refl, sym, ◌∙◌, ap, append_assoc}
use Rattle.std.specs.Prelude.{flat_map}
use Rattle.std.specs.List.{list_all}
use Rattle.std.proofs.lemmas.List.Folds.{list_all-append}
use Rattle.ir_ast.specs.Plain.{Ty, Val, Form, Indices, local, global, number, null, poison, address, form, no_indices, index_and}
use Rattle.ir_ast.specs.Program.{FunctionView, ModuleView}
use Rattle.ir_ast.specs.View.{view_operand}
use Rattle.ir_ast.specs.ProgramView.{view_arms, view_typed}
use Rattle.ir_ast.specs.declared.types.IrType.{IrType}
use Rattle.ir_ast.specs.declared.operand.Operand.{Operand}
use Rattle.ir_type.specs.Names.{entry_of, leaves_of, form_leaves_of, index_leaves_of, local_name, global_name, locals_in, globals_in}
use Rattle.ir_typing.specs.Registers.{registers_of}
use Rattle.ir_typing.specs.Knows.{knows, knows_form, knows_indices}

pub phi_values : (k : Val → Bool) (over : Ty) (arms : List (Operand × List ℕ))
    → list_all k (map (λ (p : Ty × Val). p.1) (map (λ (arm : Val × List ℕ). (over, arm.0)) (view_arms arms)) ++ []) ≡ list_all (λ a. k (view_operand a.0)) arms
phi_values k over [] = refl
phi_values k over (a ∷ arms) = ap (λ b. k (view_operand a.0) && b) (phi_values k over arms)

pub call_values : (k : Val → Bool) (arguments : List (IrType × Operand)) → list_all k (map (λ (p : Ty × Val). p.1) (view_typed arguments) ++ []) ≡ list_all (λ a. k (view_operand a.1)) arguments
call_values k [] = refl
call_values k (a ∷ arguments) = ap (λ b. k (view_operand a.1) && b) (call_values k arguments)

-- ---- one walk for registers and globals

swap : (a b c d : Bool) → ((a && b) && (c && d)) ≡ ((a && c) && (b && d))
swap true b true d = refl
swap true true false d = refl
swap true false false d = refl
swap false b c d = refl

module _ (m : ModuleView) (f : FunctionView) where
  abbrev register : List ℕ → Bool
  register x = is_some (entry_of x (registers_of f))

  abbrev object : List ℕ → Bool
  object x = is_some (entry_of x m.globals)

  abbrev both : List Val → Bool
  both vs = list_all (λ x. is_some (entry_of x (registers_of f))) (flat_map local_name vs) && list_all (λ x. is_some (entry_of x m.globals)) (flat_map global_name vs)

  both_front : (vs ws : List Val) → both (vs ++ ws) ≡ (both vs && both ws)
  both_front vs ws =
      ap (λ xs. list_all register xs && list_all object (flat_map global_name (vs ++ ws))) (flat_map_front local_name vs ws)
      ∙ ap (λ xs. list_all register (flat_map local_name vs ++ flat_map local_name ws) && list_all object xs) (flat_map_front global_name vs ws)
      ∙ ap (λ b. b && list_all object (flat_map global_name vs ++ flat_map global_name ws)) (list_all-append register (flat_map local_name vs) (flat_map local_name ws))
      ∙ ap (λ b. (list_all register (flat_map local_name vs) && list_all register (flat_map local_name ws)) && b) (list_all-append object (flat_map global_name vs) (flat_map global_name ws))
      ∙ swap (list_all register (flat_map local_name vs)) (list_all register (flat_map local_name ws)) (list_all object (flat_map global_name vs)) (list_all object (flat_map global_name ws))
    where
      flat_map_front : (g : Val → List (List ℕ)) (vs ws : List Val) → flat_map g (vs ++ ws) ≡ flat_map g vs ++ flat_map g ws
      flat_map_front g [] ws = refl
      flat_map_front g (v ∷ vs) ws = ap (λ xs. g v ++ xs) (flat_map_front g vs ws) ∙ sym (append_assoc (g v) (flat_map g vs) (flat_map g ws))

  and_true : (b : Bool) → (b && true) ≡ b
  and_true true = refl
  and_true false = refl

  mutual
    knows_leaves : (v : Val) → both (leaves_of v) ≡ knows m f v
    knows_leaves (local x) = and_true (register x && true) ∙ and_true (register x)
    knows_leaves (global x) = and_true (object x)
    knows_leaves (number n) = refl
    knows_leaves null = refl
    knows_leaves poison = refl
    knows_leaves (address a) = knows_form_leaves a

    knows_form_leaves : (a : Form) → both (form_leaves_of a) ≡ knows_form m f a
    knows_form_leaves (form flags over base indices) =
        both_front (leaves_of base) (index_leaves_of indices)
        ∙ ap (λ b. b && both (index_leaves_of indices)) (knows_leaves base) ∙ ap (λ b. knows m f base && b) (knows_index_leaves indices)

    knows_index_leaves : (is : Indices) → both (index_leaves_of is) ≡ knows_indices m f is
    knows_index_leaves no_indices = refl
    knows_index_leaves (index_and t v is) =
        both_front (leaves_of v) (index_leaves_of is)
        ∙ ap (λ b. b && both (index_leaves_of is)) (knows_leaves v) ∙ ap (λ b. knows m f v && b) (knows_index_leaves is)

  -- all registers and all globals of some operands
  pub all_known : (vs : List Val) → (list_all (λ x. is_some (entry_of x (registers_of f))) (flat_map locals_in vs) && list_all (λ x. is_some (entry_of x m.globals)) (flat_map globals_in vs)) ≡ list_all (knows m f) vs
  all_known [] = refl
  all_known (v ∷ vs) =
      ap (λ b. b && list_all object (globals_in v ++ flat_map globals_in vs)) (list_all-append register (locals_in v) (flat_map locals_in vs))
      ∙ ap (λ b. (list_all register (locals_in v) && list_all register (flat_map locals_in vs)) && b) (list_all-append object (globals_in v) (flat_map globals_in vs))
      ∙ swap (list_all register (locals_in v)) (list_all register (flat_map locals_in vs)) (list_all object (globals_in v)) (list_all object (flat_map globals_in vs))
      ∙ ap (λ b. b && (list_all register (flat_map locals_in vs) && list_all object (flat_map globals_in vs))) (knows_leaves v)
      ∙ ap (λ b. knows m f v && b) (all_known vs)
