-- A longer list of terms holds a memory as well, and it is the same memory.
use Rattle.std.specs.Prelude.{◌≡◌, List}
use Rattle.std.proofs.Common.{subst, sym}
use Rattle.hk_term.specs.Meaning.{Reading}
use Rattle.hk_term.specs.declared.node.Node.{Node}
use Rattle.hk_symmem.specs.Guarded as memory
use Rattle.hk_symmem.specs.Guarded.{MemoryView, memory_at}
use Rattle.hk_symmem.proofs.Laws.{over_grows, memory_grows}
use Rattle.spec_tree.specs.Plain.{Spec}
use Rattle.spec_tree.specs.Shapes.{IsMemory}
use Rattle.hk_symexpr.specs.Sources.{Keeps}
use Rattle.hk_symspec.specs.Standing.{IsKernelOver}

pub keeps_memories : (old new : List Node) → Keeps old new → memory.Keeps old new
keeps_memories old new k = record { longer = k.longer; widths = k.widths; values = k.values }

pub memory_kept : (s : Spec) (m : MemoryView) (old new : List Node) → IsKernelOver s old m → Keeps old new → (v : Reading) → memory_at new m v ≡ memory_at old m v
memory_kept s m old new o k v = memory_grows old new m (keeps_memories old new k) o.over v

pub kernel_kept : (s : Spec) (m : MemoryView) (old new : List Node) → IsKernelOver s old m → Keeps old new → IsKernelOver s new m
kernel_kept s m old new o k =
    record {
      over = over_grows old new m (keeps_memories old new k) o.over;
      whole = λ v. subst (IsMemory s.objects) (sym (memory_kept s m old new o k v)) (o.whole v);
    }
