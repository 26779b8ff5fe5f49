-- A state that follows a walk follows it still as the list of terms grows.
use Rattle.std.proofs.Common.{ℕ, List, sym, subst}
use Rattle.hk_term.specs.Meaning.{Reading}
use Rattle.hk_term.specs.declared.node.Node.{Node}
use Rattle.ir_code.specs.declared.program.Program.{Program}
use Rattle.ir_walk.specs.Walk.{Behind}
use Rattle.hk_symvalue.specs.Growth.{Extends}
use Rattle.hk_symmem.specs.Guarded.{MemoryView, IsOver, memory_at}
use Rattle.hk_symexec.specs.declared.exec.Exec.{Exec}
use Rattle.hk_symexec.specs.Seen.{Seen, IsExec, seen}
use Rattle.hk_symexec.specs.Tracks.{Ending, Tracks}
use Rattle.hk_symexec.proofs.Kept.{seen_kept, memory_kept}

module _ (old new : List Node) (grown : Extends old new) (P : Program) (f : ℕ) (m : MemoryView) (over : IsOver old m) (v : Reading) (go : Behind) (e : Ending) where
  pub memory_carried : (s : Seen) → Tracks P f s (memory_at old m v) go e → Tracks P f s (memory_at new m v) go e
  memory_carried s h = subst (λ k. Tracks P f s k go e) (sym (memory_kept old new grown m over v)) h

  pub carried : (x : Exec) → IsExec old x → Tracks P f (seen old v x) (memory_at old m v) go e → Tracks P f (seen new v x) (memory_at new m v) go e
  carried x i h = memory_carried (seen new v x) (subst (λ s. Tracks P f s (memory_at old m v) go e) (sym (seen_kept old new grown x i v)) h)
