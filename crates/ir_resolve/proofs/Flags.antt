-- Which registers hold addresses of slots, in text order.
use Rattle.std.proofs.Common.{◌≡◌, suc, ℕ, Bool, false, Option, Some, None, option_map, List, [], ◌∷◌, ◌++◌, length, map, replicate, refl, sym, ◌∙◌, ap}
use Rattle.std.specs.Prelude.{flat_map, option_to_list}
use Rattle.ir_ast.specs.Plain.{Ty}
use Rattle.ir_ast.specs.View.{view_type}
use Rattle.ir_ast.specs.Program.{InstrView, BlockView, FunctionView}
use Rattle.ir_ast.specs.ProgramView.{view_instr, view_block, view_function}
use Rattle.ir_ast.specs.declared.types.IrType.{IrType}
use Rattle.ir_ast.specs.declared.instr.Instr.{Instr}
use Rattle.ir_ast.specs.declared.instr.Block.{Block}
use Rattle.ir_ast.specs.declared.instr.Function.{Function}
use Rattle.ir_typing.specs.Registers.{Kind, value_of, kind_of, set_by, registers_of, blocks_of}
use Rattle.ir_resolve.specs.declared.local.Local.{Local}
use Rattle.ir_resolve.specs.Acts.{is_slot, slots_of}
use Rattle.ir_resolve.specs.Locals.{set_flags, instr_flags, block_flags, IsLocalOf}

set_some : (x : List ℕ) (o : Option Kind) → option_to_list (option_map is_slot o) ≡ map (λ (r : List ℕ × Kind). is_slot r.1) (map (λ kind. (x, kind)) (option_to_list o) ++ [])
set_some x None = refl
set_some x (Some k) = refl

pub set_is : (i : InstrView) (o : Option Bool) (x : List ℕ) → i.result ≡ Some x → o ≡ option_map is_slot (kind_of i.act) → option_to_list o ≡ set_flags i
set_is i o x named e =
    ap option_to_list e ∙ set_some x (kind_of i.act)
    ∙ ap (λ (r : Option (List ℕ)). map (λ (r : List ℕ × Kind). is_slot r.1) (flat_map (λ x. map (λ kind. (x, kind)) (option_to_list (kind_of i.act))) (option_to_list r))) (sym named)

abbrev flags : List (List ℕ × Kind) → List Bool
flags rs = map (λ r. is_slot r.1) rs

flags_append : (xs ys : List (List ℕ × Kind)) → flags (xs ++ ys) ≡ flags xs ++ flags ys
flags_append [] ys = refl
flags_append (x ∷ xs) ys = ap (λ zs. is_slot x.1 ∷ zs) (flags_append xs ys)

instrs_are : (is : List Instr) → instr_flags is ≡ flags (flat_map set_by (map view_instr is))
instrs_are [] = refl
instrs_are (i ∷ is) = ap (λ zs. set_flags (view_instr i) ++ zs) (instrs_are is) ∙ sym (flags_append (set_by (view_instr i)) (flat_map set_by (map view_instr is)))

blocks_are : (bs : List Block) → block_flags bs ≡ flags (flat_map (λ (b : BlockView). flat_map set_by b.instrs) (map view_block bs))
blocks_are [] = refl
blocks_are (b ∷ bs) =
    ap (λ zs. zs ++ block_flags bs) (instrs_are b.instrs.items.items)
    ∙ ap (λ zs. flags (flat_map set_by (map view_instr b.instrs.items.items)) ++ zs) (blocks_are bs)
    ∙ sym (flags_append (flat_map set_by (map view_instr b.instrs.items.items)) (flat_map (λ (b : BlockView). flat_map set_by b.instrs) (map view_block bs)))

parameters_are : (ps : List (IrType × List ℕ)) → replicate (length ps) false ≡ flags (map (λ (p : Ty × List ℕ). (p.1, value_of p.0)) (map (λ (p : IrType × List ℕ). (view_type p.0, p.1)) ps))
parameters_are [] = refl
parameters_are (p ∷ ps) = ap (λ zs. false ∷ zs) (parameters_are ps)

pub all_slots : (f : Function) (first all : List Bool) (bs : List Block) → first ≡ replicate (length f.parameters.items.items) false → all ≡ first ++ block_flags bs → map view_block bs ≡ blocks_of (view_function f)
    → all ≡ slots_of (view_function f)
all_slots f first all bs e same blocks =
    same
    ∙ ap (λ xs. xs ++ block_flags bs) (e ∙ parameters_are f.parameters.items.items)
    ∙ ap (λ xs. flags parameters ++ xs) (blocks_are bs ∙ ap (λ bs. flags (flat_map (λ (b : BlockView). flat_map set_by b.instrs) bs)) blocks)
    ∙ sym (flags_append parameters (flat_map (λ (b : BlockView). flat_map set_by b.instrs) (blocks_of (view_function f))))
  where
    parameters : List (List ℕ × Kind)
    parameters = map (λ p. (p.1, value_of p.0)) (view_function f).parameters

same_length : {A B : Type 0} (g : A → B) (xs : List A) → length (map g xs) ≡ length xs
same_length g [] = refl
same_length g (x ∷ xs) = ap suc (same_length g xs)

pub counted : (f : FunctionView) (l : Local) (bs : List Block) → l.slots.items ≡ slots_of f → l.registers ≡ length l.slots.items → l.blocks ≡ length bs → map view_block bs ≡ blocks_of f → IsLocalOf f l
counted f l bs slots registers blocks same = record {
  slots = slots;
  registers = registers ∙ ap length slots ∙ same_length (λ (r : List ℕ × Kind). is_slot r.1) (registers_of f) ∙ sym (same_length (λ (r : List ℕ × Kind). r.0) (registers_of f));
  blocks = blocks ∙ sym (same_length view_block bs) ∙ ap length same ∙ sym (same_length (λ (b : BlockView). b.name) (blocks_of f));
}
