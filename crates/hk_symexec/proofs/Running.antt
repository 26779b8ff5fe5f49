-- Instructions and blocks one after the other.
use Rattle.std.proofs.Common.{◌≡◌, ◌<◌, ◌≤◌, ◌+◌, ◌-◌, ℕ, zero, suc, Some, List, [], ◌∷◌, take, length, slice_get, slice_index_or, refl, sym, ap, ◌∙◌, subst, arith}
use Rattle.std.specs.Option.{unwrap_or}
use Rattle.std.proofs.lemmas.Option.{none-some}
use Rattle.hk_term.specs.Meaning.{Reading}
use Rattle.hk_term.specs.declared.node.Node.{Node}
use Rattle.ir_layout.specs.declared.object.Object as laid
use Rattle.ir_code.specs.declared.act.Step.{Step}
use Rattle.ir_code.specs.declared.program.Object.{Object}
use Rattle.ir_code.specs.declared.program.Program.{Program}
use Rattle.ir_machine.specs.Values.{Registers}
use Rattle.ir_walk.specs.Walk.{Memory, Behind, Callee, Goes, walk_act, walk_steps, visit, visit_all, walk}
use Rattle.hk_symvalue.specs.Growth.{Extends}
use Rattle.hk_symvalue.proofs.Frames.{followed}
use Rattle.hk_symmem.specs.Origins.{AreOriginsOf}
use Rattle.hk_symmem.specs.Guarded.{MemoryView, IsOver, memory_at}
use Rattle.hk_symaccess.specs.Accesses.{FitsMemory}
use Rattle.hk_symexec.specs.declared.exec.Exec.{Exec}
use Rattle.hk_symexec.specs.Seen.{Seen, IsExec, seen}
use Rattle.hk_symexec.specs.Tracks.{Ending, On, along, IsFine, Tracks, Rests}
use Rattle.hk_symexec.proofs.Visiting.{visited_more}

-- a memory of the same objects
pub fits_kept : (layout : List laid.Object) (objects : List Object) (m n : MemoryView) → FitsMemory layout objects m → n.origins ≡ m.origins → FitsMemory layout objects n
fits_kept layout objects m n h same = record { origins = subst (AreOriginsOf layout) (sym same) h.origins; whole = h.whole; program = h.program }

-- instructions that were executed, and those that are left
pub record Stepping (W : Callee) (P : Program) (f b : ℕ) (first now : List Node) (m n : MemoryView) (x y : Exec) (steps rest : List Step) : Type 0 where
  pub frame : Extends first now
  pub origins : n.origins ≡ m.origins
  pub state : IsExec now y
  pub over : IsOver now n
  pub tracks : (v : Reading) (e : Ending) → Tracks P f (seen first v x) (memory_at first m v) (walk_steps W P f b steps) e → Tracks P f (seen now v y) (memory_at now n v) (walk_steps W P f b rest) e

pub stepping_on : (W : Callee) (P : Program) (f b : ℕ) (first now new : List Node) (m n k : MemoryView) (x y z : Exec) (steps rest : List Step) (s : Step)
    → Stepping W P f b first now m n x y steps (s ∷ rest) → Extends now new → k.origins ≡ n.origins → IsExec new z → IsOver new k
    → ((v : Reading) (go : Behind) (e : Ending) → Tracks P f (seen now v y) (memory_at now n v) (λ rs c. walk_act W P f b s rs c go s.act) e → Tracks P f (seen new v z) (memory_at new k v) go e)
    → Stepping W P f b first new m k x z steps rest
stepping_on W P f b first now new m n k x y z steps rest s so grown same state over next = record {
  frame = followed first now new so.frame grown;
  origins = same ∙ so.origins;
  state = state;
  over = over;
  tracks = λ v e h. next v (walk_steps W P f b rest) e (so.tracks v e h);
}

-- blocks that were visited
pub record Touring (W : Callee) (P : Program) (f : ℕ) (first now : List Node) (m n : MemoryView) (x y : Exec) (done : List ℕ) : Type 0 where
  pub frame : Extends first now
  pub origins : n.origins ≡ m.origins
  pub state : IsExec now y
  pub over : IsOver now n
  pub rests : (v : Reading) (e : Ending) → Rests P f (seen first v x) (memory_at first m v) e → Rests P f (seen now v y) (memory_at now n v) (along (visit_all W P f done) e)

pub touring_on : (W : Callee) (P : Program) (f : ℕ) (first now new : List Node) (m n k : MemoryView) (x y z : Exec) (order : List ℕ) (i b d : ℕ)
    → Touring W P f first now m n x y (take i order) → i < length order → b ≡ slice_index_or order i d → Extends now new → k.origins ≡ n.origins → IsExec new z → IsOver new k
    → ((v : Reading) (e : Ending) → Rests P f (seen now v y) (memory_at now n v) e → Rests P f (seen new v z) (memory_at new k v) (along (visit W P f b) e))
    → Touring W P f first new m k x z (take (i + 1) order)
touring_on W P f first now new m n k x y z order i b d so l is grown same state over next = record {
  frame = followed first now new so.frame grown;
  origins = same ∙ so.origins;
  state = state;
  over = over;
  rests = λ v e h.
      subst (Rests P f (seen new v z) (memory_at new k v))
      (ap (λ c. along (visit W P f c) (along (visit_all W P f (take i order)) e)) is ∙ visited_more W P f i order d e l)
      (next v (along (visit_all W P f (take i order)) e) (so.rests v e h));
}

-- a function that may be called deeper
pub walk_deeper : (P : Program) (order : ℕ → List ℕ) (n f : ℕ) (rs : Registers) (memory : Memory) → 0 < n → walk P order n f rs memory ≡ visit_all (walk P order (n - 1)) P f (order f) (Goes 0 0 rs memory)
walk_deeper P order zero f rs memory l = absurd (omega (arith, l))
walk_deeper P order (suc n) f rs memory l = ap (λ k. visit_all (walk P order k) P f (order f) (Goes 0 0 rs memory)) same
  where
    same : n ≡ suc n - 1
    same = omega arith

-- at no depth nothing is claimed
pub no_depth : (P : Program) (order : ℕ → List ℕ) (n f : ℕ) (rs : Registers) (memory : Memory) (s : Seen) (c : Memory) → n ≡ 0 → Rests P f s c (On (walk P order n f rs memory))
unfolding Tracks
no_depth P order n f rs memory s c none fine = absurd (subst (λ k. IsFine (On (walk P order k f rs memory))) none fine)

pub take_all : (i : ℕ) (xs : List ℕ) → length xs ≤ i → take i xs ≡ xs
take_all zero [] l = refl
take_all (suc i) [] l = refl
take_all zero (x ∷ xs) l = absurd (omega (arith, l))
take_all (suc i) (x ∷ xs) l = ap (λ ys. x ∷ ys) (take_all i xs (omega (arith, l)))

pub got_or : {X : Type 0} (xs : List X) (i : ℕ) (x d : X) → slice_get xs i ≡ Some x → slice_index_or xs i d ≡ x
got_or [] zero x d e = absurd (none-some x e)
got_or [] (suc i) x d e = absurd (none-some x e)
got_or (y ∷ ys) zero x d e = ap (λ o. unwrap_or o y) e
got_or (y ∷ ys) (suc i) x d e = got_or ys i x d e
