-- What stays as the list of terms grows.
use Rattle.std.proofs.Common.{◌≡◌, ℕ, zero, suc, if◌then◌else◌, nat_eq, Option, Some, None, List, [], ◌∷◌, refl, sym, ap, ◌∙◌, subst, arith}
use Rattle.hk_term.specs.Meaning.{Reading}
use Rattle.hk_term.specs.declared.node.Node.{Node}
use Rattle.ir_machine.specs.declared.state.Held.TheVariants as held
use Rattle.ir_machine.specs.Values.{Registers}
use Rattle.hk_symvalue.specs.declared.value.SymValue.{SymValue}
use Rattle.hk_symvalue.specs.Growth.{Extends}
use Rattle.hk_symvalue.specs.Meaning.{IsTruth, IsWord, IsSym, is_true, meaning, stands_for}
use Rattle.hk_symmem.specs.Guarded.{MemoryView, memory_at, IsOver}
use Rattle.hk_symmem.proofs.Laws.{over_grows, memory_grows}
use Rattle.hk_symstep.specs.declared.state.SymHeld.{SymHeld}
use Rattle.hk_symstep.specs.declared.state.SymHeld.TheVariants.{Value, Pair, Slot}
use Rattle.hk_symstep.specs.Held.{held_meaning, place_meaning, value_meaning, IsHeld, IsPlace, IsOperand}
use Rattle.hk_symstep.specs.Files.{File, place_at, IsFile, registers_of, Covers, IsWithin}

module _ (old new : List Node) (e : Extends old new) where
  truth_kept : (a : ℕ) → IsTruth old a → IsTruth new a
  truth_kept a h = (omega (arith, h.0, e.longer), e.widths a h.0 ∙ h.1)

  word_kept : (w a : ℕ) → IsWord old w a → IsWord new w a
  word_kept w a h = (omega (arith, h.0, e.longer), e.widths a h.0 ∙ h.1)

  pub sym_kept : (s : SymValue) → IsSym old s → IsSym new s
  sym_kept s h = record { poison = truth_kept s.poison h.poison; base = word_kept 64 s.base h.base; bits = omega (arith, h.bits, e.longer) }

  pub held_kept : (h : SymHeld) → IsHeld old h → IsHeld new h
  held_kept (Value s) h = sym_kept s h
  held_kept (Pair p) h = (sym_kept p.number h.0, sym_kept p.overflow h.1)
  held_kept (Slot s) h = (truth_kept s.filled h.0, sym_kept s.stored h.1)

  place_kept : (p : Option SymHeld) → IsPlace old p → IsPlace new p
  place_kept None h = tt
  place_kept (Some x) h = held_kept x h

  pub operand_kept : (s : Option SymValue) → IsOperand old s → IsOperand new s
  operand_kept None h = tt
  operand_kept (Some s) h = sym_kept s h

  pub file_kept : (file : File) → IsFile old file → IsFile new file
  file_kept file h = λ k. place_kept (place_at file k) (h k)

  pub over_kept : (m : MemoryView) → IsOver old m → IsOver new m
  over_kept m h = over_grows old new m (record { longer = e.longer; widths = e.widths; values = e.values }) h

  pub memory_kept : (m : MemoryView) → IsOver old m → (v : Reading) → memory_at new m v ≡ memory_at old m v
  memory_kept m h v = memory_grows old new m (record { longer = e.longer; widths = e.widths; values = e.values }) h v

  module _ (v : Reading) where
    pub true_same : (a : ℕ) → IsTruth old a → is_true new a v ≡ is_true old a v
    true_same a h = ap (λ n. nat_eq n 1) (e.values a h.0 v)

    pub meaning_same : (s : SymValue) → IsSym old s → meaning new s v ≡ meaning old s v
    meaning_same s h =
        (λ i. stands_for (true_same s.poison h.poison i) (e.values s.base h.base.0 v i) (e.values s.bits h.bits v i))

    pub held_same : (h : SymHeld) → IsHeld old h → held_meaning new v h ≡ held_meaning old v h
    held_same (Value s) h = ap held.Value (meaning_same s h)
    held_same (Pair p) h = (λ i. held.Pair (meaning_same p.number h.0 i) (meaning_same p.overflow h.1 i))
    held_same (Slot s) h = (λ i. held.Slot s.align (if true_same s.filled h.0 i then Some (meaning_same s.stored h.1 i) else None))

    pub place_same : (p : Option SymHeld) → IsPlace old p → place_meaning new v p ≡ place_meaning old v p
    place_same None h = refl
    place_same (Some x) h = ap Some (held_same x h)

    pub operand_same : (s : Option SymValue) → IsOperand old s → value_meaning new v s ≡ value_meaning old v s
    operand_same None h = refl
    operand_same (Some s) h = ap Some (meaning_same s h)

    pub registers_same : (file : File) → IsFile old file → registers_of new v file ≡ registers_of old v file
    registers_same [] h = refl
    registers_same (x ∷ xs) h = (λ i. place_same x (h zero) i ∷ registers_same xs (λ k. h (suc k)) i)

    pub covers_kept : (file : File) (rs : Registers) → IsFile old file → Covers old v file rs → Covers new v file rs
    covers_kept file rs h c = subst (IsWithin rs) (sym (registers_same file h)) c
