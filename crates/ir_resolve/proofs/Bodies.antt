-- Functions with a body by their places.
use Rattle.std.proofs.Common.{◌≡◌, ℕ, zero, suc, false, Option, Some, None, option_map, is_some, List, [], ◌∷◌, map, refl, sym, ◌∙◌, ap}
use Rattle.std.specs.Prelude.{slice_get, slice_index_or, option_and_then}
use Rattle.ir_ast.specs.Program.{FunctionView}
use Rattle.ir_ast.specs.ProgramView.{view_module, view_function, view_entries, view_blocks}
use Rattle.ir_ast.specs.Table.{place_of}
use Rattle.ir_ast.specs.declared.instr.Function.{Function}
use Rattle.ir_ast.specs.declared.module.Module.{Module}
use Rattle.ir_type.proofs.Views.{place_viewed}
use Rattle.ir_typing.specs.Intrinsics.{Intrinsic}
use Rattle.ir_resolve.specs.Acts.{where_true, bodies_of, body_place}

body_flag : (entries : List (List ℕ × Function)) (p : ℕ) (f : Function) → option_map (λ (e : List ℕ × Function). e.1) (slice_get entries p) ≡ Some f
    → slice_index_or (map (λ (e : List ℕ × FunctionView). is_some e.1.body) (view_entries view_function entries)) p false ≡ is_some f.body
body_flag [] p f e = absurd cc
body_flag (x ∷ xs) zero f e = seen view_blocks x.1.body ∙ ap (λ (g : Function). is_some g.body) (same x.1 f e)
  where
    seen : {A B : Type 0} (g : A → B) (o : Option A) → is_some (option_map g o) ≡ is_some o
    seen g None = refl
    seen g (Some y) = refl

    same : {A : Type 0} (a b : A) → Some a ≡ Some b → a ≡ b
    same a b e = cc
body_flag (x ∷ xs) (suc p) f e = body_flag xs p f e

-- the place, where the body at it is one
pub flag_there : (m : Module) (p : ℕ) (f : Function) → option_map (λ (e : List ℕ × Function). e.1) (slice_get m.functions p) ≡ Some f
    → slice_index_or (bodies_of (view_module m)) p false ≡ is_some f.body
flag_there m p f e = body_flag m.functions p f e

pub body_there : (m : Module) (x : List ℕ) (p : ℕ) → place_of x m.functions ≡ Some p → where_true (bodies_of (view_module m)) p ≡ body_place (view_module m) x
body_there m x p e = ap (option_and_then (where_true (bodies_of (view_module m)))) (sym (place_viewed view_function m.functions x ∙ e))

pub no_function : (m : Module) (x : List ℕ) → place_of x m.functions ≡ None → None ≡ body_place (view_module m) x
no_function m x e = ap (option_and_then (where_true (bodies_of (view_module m)))) (sym (place_viewed view_function m.functions x ∙ e))

pub listed_is : {A : Type 0} (o : Option A) (i : Option Intrinsic) (see : A → Intrinsic) → option_map see o ≡ i → is_some o ≡ is_some i
listed_is o i see e = seen o ∙ ap is_some e
  where
    seen : (o : Option _) → is_some o ≡ is_some (option_map see o)
    seen None = refl
    seen (Some y) = refl
