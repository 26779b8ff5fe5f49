-- What a state shows stays as the list of terms grows.
use Rattle.std.proofs.Common.{◌≡◌, ℕ, suc, if◌then◌else◌, nat_eq, Option, Some, None, List, [], ◌∷◌, slice_index_or, refl, sym, ap, ◌∙◌, arith}
use Rattle.std.specs.List.{All}
use Rattle.std.proofs.lemmas.List.Elements.{All-head, All-tail}
use Rattle.hk_term.specs.Meaning.{Reading, value}
use Rattle.hk_term.specs.declared.node.Node.{Node}
use Rattle.ir_machine.specs.declared.state.Held.TheVariants as held
use Rattle.hk_symvalue.specs.declared.value.SymValue.{SymValue}
use Rattle.hk_symvalue.specs.Growth.{Extends}
use Rattle.hk_symvalue.specs.Meaning.{IsTruth, IsWord, IsSym, is_true, meaning, stands_for}
use Rattle.hk_symstep.specs.declared.state.SymHeld.{SymHeld}
use Rattle.hk_symstep.specs.declared.state.SymHeld.TheVariants.{Value, Pair, Slot}
use Rattle.hk_symstep.specs.Held.{held_meaning, place_meaning, value_meaning, IsHeld, IsPlace, IsOperand}
use Rattle.hk_symstep.specs.Files.{File, place_at, IsFile, registers_of}
use Rattle.hk_symmem.specs.Guarded.{MemoryView, Keeps, IsOver, memory_at}
use Rattle.hk_symmem.proofs.Laws.{memories_kept}
use Rattle.hk_symexec.specs.declared.exec.Exec.{Exec}
use Rattle.hk_symexec.specs.Seen.{Seen, entries_seen, seen, IsExec}

module _ (old new : List Node) (grown : Extends old new) where
  pub truth_kept : (t : ℕ) → IsTruth old t → IsTruth new t
  truth_kept t h = (omega (arith, h.0, grown.longer), grown.widths t h.0 ∙ h.1)

  pub true_kept : (t : ℕ) → IsTruth old t → (v : Reading) → is_true new t v ≡ is_true old t v
  true_kept t h v = ap (λ n. nat_eq n 1) (grown.values t h.0 v)

  pub word_kept : (w t : ℕ) → IsWord old w t → IsWord new w t
  word_kept w t h = (omega (arith, h.0, grown.longer), grown.widths t h.0 ∙ h.1)

  pub sym_kept : (s : SymValue) → IsSym old s → IsSym new s
  sym_kept s h = record { poison = truth_kept s.poison h.poison; base = word_kept 64 s.base h.base; bits = omega (arith, h.bits, grown.longer) }

  pub meaning_kept : (s : SymValue) → IsSym old s → (v : Reading) → meaning new s v ≡ meaning old s v
  meaning_kept s h v =
      ap (λ b. stands_for b (value new s.base v) (value new s.bits v)) (true_kept s.poison h.poison v)
      ∙ ap (λ b. stands_for (is_true old s.poison v) b (value new s.bits v)) (grown.values s.base h.base.0 v)
      ∙ ap (λ b. stands_for (is_true old s.poison v) (value old s.base v) b) (grown.values s.bits h.bits v)

  pub held_kept : (h : SymHeld) → IsHeld old h → IsHeld new h
  held_kept (Value s) i = sym_kept s i
  held_kept (Pair p) i = (sym_kept p.number i.0, sym_kept p.overflow i.1)
  held_kept (Slot s) i = (truth_kept s.filled i.0, sym_kept s.stored i.1)

  pub held_same : (h : SymHeld) → IsHeld old h → (v : Reading) → held_meaning new v h ≡ held_meaning old v h
  held_same (Value s) i v = ap held.Value (meaning_kept s i v)
  held_same (Pair p) i v = ap (λ a. held.Pair a (meaning new p.overflow v)) (meaning_kept p.number i.0 v) ∙ ap (held.Pair (meaning old p.number v)) (meaning_kept p.overflow i.1 v)
  held_same (Slot s) i v =
      ap (λ b. held.Slot s.align (if b then Some (meaning new s.stored v) else None)) (true_kept s.filled i.0 v)
      ∙ ap (λ x. held.Slot s.align (if is_true old s.filled v then Some x else None)) (meaning_kept s.stored i.1 v)

  pub place_kept : (p : Option SymHeld) → IsPlace old p → IsPlace new p
  place_kept None i = tt
  place_kept (Some h) i = held_kept h i

  pub place_same : (p : Option SymHeld) → IsPlace old p → (v : Reading) → place_meaning new v p ≡ place_meaning old v p
  place_same None i v = refl
  place_same (Some h) i v = ap Some (held_same h i v)

  pub file_kept : (file : File) → IsFile old file → IsFile new file
  file_kept file i k = place_kept (place_at file k) (i k)

  pub registers_kept : (file : File) → IsFile old file → (v : Reading) → registers_of new v file ≡ registers_of old v file
  registers_kept [] i v = refl
  registers_kept (p ∷ ps) i v =
      ap (λ q. q ∷ registers_of new v ps) (place_same p (i 0) v) ∙ ap (λ qs. place_meaning old v p ∷ qs) (registers_kept ps (λ k. i (suc k)) v)

  pub operand_kept : (s : Option SymValue) → IsOperand old s → IsOperand new s
  operand_kept None i = tt
  operand_kept (Some s) i = sym_kept s i

  pub operand_same : (s : Option SymValue) → IsOperand old s → (v : Reading) → value_meaning new v s ≡ value_meaning old v s
  operand_same None i v = refl
  operand_same (Some s) i v = ap Some (meaning_kept s i v)

  pub truths_kept : (es : List ℕ) → All (λ k. IsTruth old k) es → All (λ k. IsTruth new k) es
  truths_kept es a k d l = truth_kept (slice_index_or es k d) (a k d l)

  pub entries_kept : (es : List ℕ) → All (λ k. IsTruth old k) es → (v : Reading) → entries_seen new v es ≡ entries_seen old v es
  entries_kept [] a v = refl
  entries_kept (e ∷ es) a v =
      ap (λ q. q ∷ entries_seen new v es) (true_kept e (All-head (IsTruth old) e es a) v) ∙ ap (λ qs. is_true old e v ∷ qs) (entries_kept es (All-tail (IsTruth old) e es a) v)

  pub exec_kept : (x : Exec) → IsExec old x → IsExec new x
  exec_kept x i = record {
    guard = truth_kept x.guard i.guard;
    entries = truths_kept x.entries i.entries;
    file = file_kept x.file i.file;
    back = truth_kept x.back i.back;
    valued = truth_kept x.valued i.valued;
    value = operand_kept x.value i.value;
    stuck = truth_kept x.stuck i.stuck;
  }

  pub seen_kept : (x : Exec) → IsExec old x → (v : Reading) → seen new v x ≡ seen old v x
  seen_kept x i v j = record {
    guard = true_kept x.guard i.guard v j;
    entries = entries_kept x.entries i.entries v j;
    registers = registers_kept x.file i.file v j;
    back = true_kept x.back i.back v j;
    valued = true_kept x.valued i.valued v j;
    value = operand_same x.value i.value v j;
    stuck = true_kept x.stuck i.stuck v j;
  }

  -- one register file in place of another
  pub seen_with_file : (x : Exec) (file : File) → IsExec old x → (v : Reading) → seen new v (record x { file = file }) ≡ record (seen old v x) { registers = registers_of new v file }
  seen_with_file x file i v = ap {A = Seen} (λ s. record s { registers = registers_of new v file }) (seen_kept x i v)

  keeps : Keeps old new
  keeps = record { longer = grown.longer; widths = grown.widths; values = grown.values }

  pub over_kept : (m : MemoryView) → IsOver old m → IsOver new m
  over_kept m o = (memories_kept old new keeps m o).0

  pub memory_kept : (m : MemoryView) → IsOver old m → (v : Reading) → memory_at new m v ≡ memory_at old m v
  memory_kept m o = (memories_kept old new keeps m o).1

  -- a state by its parts, where the entries and the registers are as before
  pub seen_by : (x : Exec) → IsExec old x → (v : Reading) → (y : Exec) (s : Seen) → y.entries ≡ x.entries → y.file ≡ x.file
      → s.entries ≡ entries_seen old v x.entries → s.registers ≡ registers_of old v x.file
      → is_true new y.guard v ≡ s.guard → is_true new y.back v ≡ s.back → is_true new y.valued v ≡ s.valued → value_meaning new v y.value ≡ s.value → is_true new y.stuck v ≡ s.stuck
      → seen new v y ≡ s
  seen_by x i v y s same_entries same_file entries registers guard back valued value stuck j = record {
    guard = guard j;
    entries = (ap (entries_seen new v) same_entries ∙ entries_kept x.entries i.entries v ∙ sym entries) j;
    registers = (ap (registers_of new v) same_file ∙ registers_kept x.file i.file v ∙ sym registers) j;
    back = back j;
    valued = valued j;
    value = value j;
    stuck = stuck j;
  }
