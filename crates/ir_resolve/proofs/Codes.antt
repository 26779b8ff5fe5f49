-- Functions and objects by their places.
use Rattle.std.proofs.Common.{◌≡◌, ◌≤◌, ◌+◌, ℕ, zero, suc, Option, Some, None, option_map, List, [], ◌∷◌, ◌++◌, length, map, drop, refl, sym, ◌∙◌, ap, subst, add-one}
use Rattle.std.specs.Prelude.{slice_get, unwrap_or}
use Rattle.std.proofs.lemmas.List.{append_assoc, append-nil, drop_all}
use Rattle.ir_ast.specs.Program.{BlockView, FunctionView, GlobalView, ModuleView}
use Rattle.ir_ast.specs.ProgramView.{view_module, view_function, view_global, view_entries}
use Rattle.ir_ast.specs.declared.instr.Function.{Function}
use Rattle.ir_ast.specs.declared.global.GlobalItem.{GlobalItem}
use Rattle.ir_ast.specs.declared.module.Module.{Module}
use Rattle.ir_layout.specs.Sizes.{object_align}
use Rattle.ir_typing.specs.Registers.{blocks_of}
use Rattle.ir_typing.specs.Places.{register_names}
use Rattle.ir_code.specs.declared.program.Code.{Code}
use Rattle.ir_resolve.specs.declared.local.Local.{Local}
use Rattle.ir_resolve.specs.Locals.{IsLocalOf}
use Rattle.ir_resolve.specs.Resolved.{block_of, code_of, object_of, program_of}

pub local_moved : (f g : FunctionView) (l : Local) → IsLocalOf f l → g ≡ f → IsLocalOf g l
local_moved f g l is same = subst (λ h. IsLocalOf h l) (sym same) is

pub parameters_seen : (f : Function) → length f.parameters.items.items ≡ length (view_function f).parameters
parameters_seen f = sym (same_length _ f.parameters.items.items)
  where
    same_length : {A B : Type 0} (g : A → B) (xs : List A) → length (map g xs) ≡ length xs
    same_length g [] = refl
    same_length g (x ∷ xs) = ap suc (same_length g xs)

made : (c : Code) (parameters registers : ℕ) (blocks : List _) → c.parameters ≡ parameters → c.registers ≡ registers → c.blocks ≡ blocks → c ≡ record { parameters = parameters; registers = registers; blocks = blocks }
made c parameters registers blocks a b d =
    ap (λ x. record { parameters = x; registers = c.registers; blocks = c.blocks }) a
    ∙ ap (λ x. record { parameters = parameters; registers = x; blocks = c.blocks }) b
    ∙ ap (λ x. record { parameters = parameters; registers = registers; blocks = x }) d

pub code_is : (m : ModuleView) (f g : FunctionView) (l : Local) (c : Code) (bs : List BlockView) → g ≡ f → c.parameters ≡ length f.parameters → IsLocalOf g l → c.registers ≡ l.registers → c.blocks ≡ map (block_of m g) bs → bs ≡ blocks_of f
    → c ≡ code_of m f
code_is m f g l c bs same parameters is registers blocks all =
    made c _ _ _ parameters
    (registers ∙ is.registers ∙ ap (λ h. length (register_names h)) same)
    (blocks ∙ ap (λ h. map (block_of m h) bs) same ∙ ap (map (block_of m f)) all)

viewed : {E V : Type 0} (view : E → V) (o : Option (List ℕ × E)) (e : E) → option_map (λ entry. entry.1) o ≡ Some e
    → option_map {T = List ℕ × V} {U = V} (λ entry. entry.1) (option_map (λ entry. (entry.0, view entry.1)) o) ≡ Some (view e)
viewed view None e there = absurd cc
viewed view (Some entry) e there = ap (option_map view) there

-- what is made of the entry at a place stands at it
made_there : {E V C : Type 0} (view : E → V) (make : V → C) (table : List (List ℕ × E)) (place : ℕ) (e : E) → option_map (λ entry. entry.1) (slice_get table place) ≡ Some e
    → slice_get (map (λ (x : List ℕ × V). make x.1) (view_entries view table)) place ≡ Some (make (view e))
made_there view make [] place e there = absurd cc
made_there {E} view make (x ∷ table) zero e there = ap (λ o. Some (make (view (unwrap_or o x.1)))) there
made_there view make (x ∷ table) (suc place) e there = made_there view make table place e there

pub code_there : (m : Module) (place : ℕ) (f : Function) (c : Code) → option_map (λ (entry : List ℕ × Function). entry.1) (slice_get m.functions place) ≡ Some f → c ≡ code_of (view_module m) (view_function f)
    → slice_get (program_of (view_module m)).functions place ≡ Some c
code_there m place f c there is = made_there view_function (code_of (view_module m)) m.functions place f there ∙ ap Some (sym is)

pub object_there : (m : Module) (place : ℕ) (g : GlobalItem) (align : ℕ) → option_map (λ (entry : List ℕ × GlobalItem). entry.1) (slice_get m.globals place) ≡ Some g
    → slice_get (map (λ (e : List ℕ × GlobalView). object_align (view_module m).types e.1) (view_module m).globals) place ≡ Some align
    → slice_get (program_of (view_module m)).objects place ≡ Some (record { constant = g.constant; align = align })
object_there m place g align there is =
    made_there view_global (object_of (view_module m)) m.globals place g there
    ∙ ap (λ o. Some (record { constant = g.constant; align = unwrap_or o 0 })) (sym (made_there view_global (object_align (view_module m).types) m.globals place g there) ∙ is)

-- ---- one more of a list, by its place

drop_here : {X : Type 0} (xs : List X) (i : ℕ) (x : X) → slice_get xs i ≡ Some x → drop i xs ≡ x ∷ drop (suc i) xs
drop_here [] i x there = absurd cc
drop_here (y ∷ ys) zero x there = ap (λ o. unwrap_or o y ∷ ys) there
drop_here (y ∷ ys) (suc i) x there = drop_here ys i x there

pub one_more : {X : Type 0} (xs whole : List X) (i : ℕ) (x : X) → slice_get whole i ≡ Some x → xs ++ drop i whole ≡ whole → (xs ++ x ∷ []) ++ drop (i + 1) whole ≡ whole
one_more xs whole i x there so_far =
    append_assoc xs (x ∷ []) (drop (i + 1) whole)
    ∙ ap (λ j. xs ++ x ∷ drop j whole) (add-one i)
    ∙ ap (λ ys. xs ++ ys) (sym (drop_here whole i x there))
    ∙ so_far

pub no_more : {X : Type 0} (xs whole : List X) (i : ℕ) → length whole ≤ i → xs ++ drop i whole ≡ whole → xs ≡ whole
no_more xs whole i past so_far = sym (append-nil xs) ∙ ap (λ ys. xs ++ ys) (sym (drop_all i whole past)) ∙ so_far
