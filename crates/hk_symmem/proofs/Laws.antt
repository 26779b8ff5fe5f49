-- What upper crates need of memories: a longer list of terms keeps them.
use Rattle.std.proofs.Common.{◌≡◌, ℕ, List, [], ◌∷◌, refl, ◌∙◌, ap, arith}
use Rattle.std.specs.Prelude.{if◌then◌else◌, nat_eq}
use Rattle.std.specs.List.{All}
use Rattle.std.proofs.lemmas.List.Elements.{All-head, All-tail}
use Rattle.hk_term.specs.Meaning.{Reading, value}
use Rattle.hk_term.specs.declared.node.Node.{Node}
use Rattle.hk_symmem.specs.declared.write.GuardedWrite.{GuardedWrite}
use Rattle.hk_symmem.specs.Guarded.{MemoryView, with_bytes, after_write, after_writes, written, memory_at, IsWriteOver, IsOver, Keeps}
use Rattle.hk_symmem.specs.Origins.{start_memory}

pub write_kept : (old new : List Node) (w : GuardedWrite) → Keeps old new → IsWriteOver old w → IsWriteOver new w
write_kept old new w k o = record {
  guard = omega (arith, o.guard, k.longer);
  truth = k.widths w.guard o.guard ∙ o.truth;
  offset = omega (arith, o.offset, k.longer);
  address = k.widths w.offset o.offset ∙ o.address;
  value = omega (arith, o.value, k.longer);
  bytes = o.bytes;
  number = k.widths w.value o.value ∙ o.number;
}

pub over_grows : (old new : List Node) (m : MemoryView) → Keeps old new → IsOver old m → IsOver new m
over_grows old new m k o = record { writes = λ i d l j e n. write_kept old new _ k (o.writes i d l j e n) }

-- what a write leaves is as before
pub after_write_kept : (old new : List Node) (v : Reading) (w : GuardedWrite) (bytes : List ℕ) → Keeps old new → IsWriteOver old w
    → after_write new v w bytes ≡ after_write old v w bytes
after_write_kept old new v w bytes k o =
    ap (λ g. if nat_eq g 1 then with_bytes w.bytes (value new w.offset v) (value new w.value v) bytes else bytes) (k.values w.guard o.guard v)
    ∙ ap (λ p. if nat_eq (value old w.guard v) 1 then with_bytes w.bytes p (value new w.value v) bytes else bytes) (k.values w.offset o.offset v)
    ∙ ap (λ x. if nat_eq (value old w.guard v) 1 then with_bytes w.bytes (value old w.offset v) x bytes else bytes) (k.values w.value o.value v)

pub after_writes_kept : (old new : List Node) (v : Reading) (ws : List GuardedWrite) (bytes : List ℕ) → Keeps old new → All (IsWriteOver old) ws
    → after_writes new v ws bytes ≡ after_writes old v ws bytes
after_writes_kept old new v [] bytes k o = refl
after_writes_kept old new v (w ∷ ws) bytes k o =
    after_writes_kept old new v ws (after_write new v w bytes) k (All-tail (IsWriteOver old) w ws o)
    ∙ ap (after_writes old v ws) (after_write_kept old new v w bytes k (All-head (IsWriteOver old) w ws o))

written_kept : (old new : List Node) (v : Reading) (rows : List (List GuardedWrite)) (memory : List (List ℕ)) → Keeps old new
    → All (λ ws. All (IsWriteOver old) ws) rows → written new v rows memory ≡ written old v rows memory
written_kept old new v [] memory k o = refl
written_kept old new v (ws ∷ rows) [] k o = refl
written_kept old new v (ws ∷ rows) (bytes ∷ memory) k o =
    ap (λ b. b ∷ written new v rows memory) (after_writes_kept old new v ws bytes k (All-head (λ r. All (IsWriteOver old) r) ws rows o))
    ∙ ap (λ m. after_writes old v ws bytes ∷ m) (written_kept old new v rows memory k (All-tail (λ r. All (IsWriteOver old) r) ws rows o))

-- the memory is as before under each reading
pub memory_grows : (old new : List Node) (m : MemoryView) → Keeps old new → IsOver old m → (v : Reading) → memory_at new m v ≡ memory_at old m v
memory_grows old new m k o v = written_kept old new v m.writes (start_memory m.origins v.entry) k o.writes

pub memories_kept : (old new : List Node) → Keeps old new → (m : MemoryView) → IsOver old m → IsOver new m × ((v : Reading) → memory_at new m v ≡ memory_at old m v)
memories_kept old new k m o = (over_grows old new m k o, memory_grows old new m k o)
