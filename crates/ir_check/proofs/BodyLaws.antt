-- The least fault of a body, instruction by instruction and block by block.
use Rattle.std.proofs.Common.{◌≡◌, ℕ, ◌+◌, ◌<◌, ◌≤◌, Bool, Option, Some, List, length, take, sym, ◌∙◌, ap, subst, arith}
use Rattle.std.specs.Prelude.{◌&&◌, slice_get}
use Rattle.std.specs.List.{list_all}
use Rattle.ir_ast.specs.declared.fault.KernelFault.{KernelFault}
use Rattle.ir_ast.specs.declared.fault.KernelReason.{KernelReason}
use Rattle.ir_ast.specs.Program.{InstrView, BlockView, FunctionView, ModuleView}
use Rattle.ir_typing.specs.Registers.{blocks_of}
use Rattle.ir_typing.specs.Fits.{is_phi}
use Rattle.ir_check.specs.Rules.{InstrFalls}
use Rattle.ir_check.specs.Least.{Faults, IsLeast, least_of}
use Rattle.ir_check.specs.ItemFaults.{IsLeastReason, ItemFaults, on_line}
use Rattle.ir_check.specs.Parts.{AmongFirst, AmongAll, InstrFaultsAt, BlockFaultsAt, BodyFaults}
use Rattle.ir_check.proofs.ItemLaws.{item_least}
use Rattle.ir_check.proofs.PartLaws.{least_more, least_all, least_at, place_below}
use Rattle.ir_check.proofs.Taken.{list_all_next}

module _ (m : ModuleView) (f : FunctionView) where
  pub instr_next : (b : BlockView) (k : ℕ) (i : InstrView) (a one next : Option KernelFault) (reason : Option KernelReason) → slice_get b.instrs k ≡ Some i
      → IsLeast (AmongFirst (InstrFaultsAt m f b) k) a → IsLeastReason (InstrFalls m f b (take k b.instrs) i) reason → one ≡ on_line i.line reason → next ≡ least_of a one
      → IsLeast (AmongFirst (InstrFaultsAt m f b) (k + 1)) next
  instr_next b k i a one next reason there first least one_is next_is =
      let P : InstrView → Faults = λ i. ItemFaults (InstrFalls m f b (take k b.instrs) i) i.line in
      subst (IsLeast (AmongFirst (InstrFaultsAt m f b) (k + 1))) (sym (next_is ∙ ap (least_of a) one_is))
      (least_more (InstrFaultsAt m f b) k a (on_line i.line reason) first (least_at P b.instrs k i (on_line i.line reason) there (item_least (InstrFalls m f b (take k b.instrs) i) i.line reason least)))

  pub instrs_done : (at : ℕ) (b : BlockView) (k : ℕ) (o : Option KernelFault) → slice_get (blocks_of f) at ≡ Some b → length b.instrs ≤ k → IsLeast (AmongFirst (InstrFaultsAt m f b) k) o
      → IsLeast (BlockFaultsAt m f at) o
  instrs_done at b k o there most first =
      let P : BlockView → Faults = λ b. AmongAll (InstrFaultsAt m f b) in
      least_at P (blocks_of f) at b o there (least_all (InstrFaultsAt m f b) k o below first)
    where
      below : (j : ℕ) (l : ℕ) (r : KernelReason) → InstrFaultsAt m f b j l r → j < k
      below j l r p = let inside = place_below (λ (i : InstrView). ItemFaults (InstrFalls m f b (take j b.instrs) i) i.line) b.instrs j l r p in omega arith

  pub block_next : (k : ℕ) (a one next : Option KernelFault) → IsLeast (AmongFirst (BlockFaultsAt m f) k) a → IsLeast (BlockFaultsAt m f k) one → next ≡ least_of a one
      → IsLeast (AmongFirst (BlockFaultsAt m f) (k + 1)) next
  block_next k a one next first least next_is = subst (IsLeast (AmongFirst (BlockFaultsAt m f) (k + 1))) (sym next_is) (least_more (BlockFaultsAt m f) k a one first least)

  pub blocks_done : (k : ℕ) (o : Option KernelFault) → length (blocks_of f) ≤ k → IsLeast (AmongFirst (BlockFaultsAt m f) k) o → IsLeast (BodyFaults m f) o
  blocks_done k o most first = least_all (BlockFaultsAt m f) k o below first
    where
      below : (j : ℕ) (l : ℕ) (r : KernelReason) → BlockFaultsAt m f j l r → j < k
      below j l r p = let inside = place_below (λ (b : BlockView). AmongAll (InstrFaultsAt m f b)) (blocks_of f) j l r p in omega arith

pub phis_next : (is : List InstrView) (k : ℕ) (i : InstrView) (phis own next : Bool) → slice_get is k ≡ Some i → phis ≡ list_all (λ i. is_phi i.act) (take k is) → own ≡ is_phi i.act → next ≡ (phis && own)
    → next ≡ list_all (λ i. is_phi i.act) (take (k + 1) is)
phis_next is k i phis own next there so_far mine next_is =
    let test : InstrView → Bool = λ i. is_phi i.act in
    next_is ∙ ap (λ b. b && own) so_far ∙ ap (λ b. list_all test (take k is) && b) mine ∙ sym (list_all_next test is k i there)
