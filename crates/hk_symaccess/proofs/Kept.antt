-- Memories over longer lists of terms, and their objects.
use Rattle.std.proofs.Common.{◌≡◌, ◌<◌, ℕ, zero, suc, false, List, [], ◌∷◌, length, refl, sym, ◌∙◌, subst, arith}
use Rattle.std.specs.Prelude.{slice_get, Some}
use Rattle.std.proofs.lemmas.Bool.{true≢false}
use Rattle.hk_term.specs.Meaning.{Reading}
use Rattle.hk_term.specs.declared.node.Node.{Node}
use Rattle.ir_layout.specs.declared.object.Object as laid
use Rattle.ir_code.specs.declared.program.Object.{Object}
use Rattle.ir_machine.specs.Values.{object_at}
use Rattle.hk_symvalue.specs.Growth.{Extends}
use Rattle.hk_symmem.specs.Origins.{Origin, fixed, cells, AreOriginsOf}
use Rattle.hk_symmem.specs.Guarded.{MemoryView, memory_at, IsOver, IsMutable, Keeps}
use Rattle.hk_symmem.proofs.Laws.{over_grows, memory_grows}
use Rattle.hk_symaccess.specs.Accesses.{AreOf, FitsMemory}

keeps : (old new : List Node) → Extends old new → Keeps old new
keeps old new e = record { longer = e.longer; widths = e.widths; values = e.values }

pub over_kept : (old new : List Node) (m : MemoryView) → Extends old new → IsOver old m → IsOver new m
over_kept old new m e o = over_grows old new m (keeps old new e) o

pub memory_kept : (old new : List Node) (m : MemoryView) → Extends old new → IsOver old m → (v : Reading) → memory_at new m v ≡ memory_at old m v
memory_kept old new m e o v = memory_grows old new m (keeps old new e) o v

pub head_is : {A : Type 0} (x y : A) (xs ys : List A) → x ∷ xs ≡ y ∷ ys → x ≡ y
head_is x y xs ys e = cc

pub tail_is : {A : Type 0} (x y : A) (xs ys : List A) → x ∷ xs ≡ y ∷ ys → xs ≡ ys
tail_is x y xs ys e = cc

-- an object that is no constant may be written
mutable_at : (layout : List laid.Object) (origins : List Origin) (objects : List Object) (k : ℕ) → AreOriginsOf layout origins → AreOf layout objects → k < length layout
    → (object_at objects k).constant ≡ false → (size : ℕ) × (cell : ℕ) × (slice_get origins k ≡ Some (cells size cell))
mutable_at [] xs objects k a p l c = absurd (omega (arith, l))
mutable_at (o ∷ os) [] objects k a p l c = absurd a
mutable_at (o ∷ os) (x ∷ xs) [] k a p l c = absurd (cc)
mutable_at (o ∷ os) (fixed b ∷ xs) (q ∷ qs) zero a p l c = absurd (true≢false (sym a.0.0 ∙ head_is _ _ _ _ p ∙ c))
mutable_at (o ∷ os) (cells n z ∷ xs) (q ∷ qs) zero a p l c = (n, z, refl)
mutable_at (o ∷ os) (x ∷ xs) (q ∷ qs) (suc k) a p l c = mutable_at os xs qs k a.1 (tail_is _ _ _ _ p) (omega (arith, l)) c

pub mutable : (layout : List laid.Object) (objects : List Object) (m : MemoryView) (k : ℕ) → AreOriginsOf layout m.origins → AreOf layout objects → k < length layout
    → (object_at objects k).constant ≡ false → IsMutable m k
mutable layout objects m k a p l c = mutable_at layout m.origins objects k a p l c

-- a write leaves the objects of a memory
pub fits_kept : (layout : List laid.Object) (objects : List Object) (old new : MemoryView) → new.origins ≡ old.origins → FitsMemory layout objects old → FitsMemory layout objects new
fits_kept layout objects old new e f = record { origins = subst (AreOriginsOf layout) (sym e) f.origins; whole = f.whole; program = f.program }
