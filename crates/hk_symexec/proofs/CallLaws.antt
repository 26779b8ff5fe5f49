-- A call follows its walk, from what its parts promise.
use Rattle.std.proofs.Common.{◌≡◌, ℕ, Bool, true, false, Some, List, length, refl, sym, ap, ◌∙◌, subst}
use Rattle.std.proofs.lemmas.Bool.{false≢true}
use Rattle.hk_term.specs.Meaning.{Reading}
use Rattle.hk_term.specs.declared.node.Node.{Node}
use Rattle.ir_value.specs.declared.value.Value.{Value}
use Rattle.ir_code.specs.declared.act.Step.{Step}
use Rattle.ir_code.specs.declared.program.Program.{Program}
use Rattle.ir_machine.specs.declared.state.Computed.{Computed}
use Rattle.ir_machine.specs.declared.state.Computed.TheVariants as computed
use Rattle.ir_machine.specs.declared.state.Held.TheVariants as held
use Rattle.ir_machine.specs.Values.{Registers}
use Rattle.ir_machine.specs.Step.{with_result}
use Rattle.ir_walk.specs.LoopFree.{body_of}
use Rattle.ir_walk.specs.Walk.{Memory, Behind, Callee, Goes, on_back, on_passed}
use Rattle.hk_symvalue.specs.Growth.{Extends}
use Rattle.hk_symvalue.specs.Meaning.{is_true}
use Rattle.hk_symvalue.proofs.Frames.{followed}
use Rattle.hk_symmem.specs.Guarded.{MemoryView, IsOver, memory_at}
use Rattle.hk_symstep.specs.Held.{value_meaning}
use Rattle.hk_symstep.specs.Steps.{AnswersPasses}
use Rattle.hk_symstep.specs.Files.{File, IsWithin, Covers, registers_of}
use Rattle.hk_symexec.specs.declared.exec.Exec.{Exec}
use Rattle.hk_symexec.specs.Seen.{IsExec, seen, called, returned}
use Rattle.hk_symexec.specs.Tracks.{Ending, Off, On, IsFineFlow, Splits, Tracks, Rests}
use Rattle.hk_symexec.proofs.Kept.{seen_kept, memory_kept}
use Rattle.hk_symexec.proofs.Visiting.{calls}
use Rattle.hk_symexec.proofs.PhiLaws.{covers_kept}

-- a call whose arguments pass leads to the function, and else sticks
pub passed_splits : (W : Callee) (s : Step) (g : ℕ) (rs : Registers) (memory : Memory) (go : Behind) (first : Registers) (b : Bool) (c : Computed) → AnswersPasses b c
    → IsFineFlow (on_passed W s g rs memory go first c) → Splits b (on_passed W s g rs memory go first c) (on_back s rs go (W g first memory))
passed_splits W s g rs memory go first b (computed.Sets h) a fine = absurd a
passed_splits W s g rs memory go first false computed.Passes a fine = refl
passed_splits W s g rs memory go first true computed.Passes a fine = absurd (false≢true (sym a))
passed_splits W s g rs memory go first true (computed.Sticks r) a fine = (r, s.line, refl)
passed_splits W s g rs memory go first false (computed.Sticks r) a fine = absurd (false≢true a)
passed_splits W s g rs memory go first b computed.Lost a fine = absurd fine

-- t3: the registers of the function are made; t4: it begins; t5: it came to its end; t6: the caller goes on
pub call_follows : (W : Callee) (P : Program) (f g : ℕ) (t3 t4 t5 t6 : List Node) (m0 m1 : MemoryView) (v : Reading) (step : Step) (go : Behind) (e : Ending) (first : Registers → Registers)
    (known begun after made : Exec) (file : File)
    → Extends t3 t4 → Extends t4 t5 → Extends t5 t6 → IsExec t3 known → IsOver t3 m0 → IsOver t5 m1
    → seen t4 v begun ≡ called (length (body_of P g)) (registers_of t3 v file) (seen t3 v known)
    → ((rs : Registers) → Covers t3 v known.file rs → IsWithin (first rs) (registers_of t3 v file))
    → ((k : Bool) (m : Memory) → Rests P g (seen t4 v begun) (memory_at t4 m0 v) (Off k m) → Rests P g (seen t5 v after) (memory_at t5 m1 v) (Off k m))
    → ((rs : Registers) (m : Memory) → Rests P g (seen t4 v begun) (memory_at t4 m0 v) (On (Goes 0 0 rs m)) → Rests P g (seen t5 v after) (memory_at t5 m1 v) (On (W g rs m)))
    → seen t6 v made ≡ returned (seen t5 v after) (registers_of t6 v made.file) (seen t5 v known)
    → ((rs : Registers) → is_true t5 after.valued v ≡ false → Covers t5 v known.file rs → Covers t6 v made.file rs)
    → ((rs : Registers) (w : Value) → is_true t5 after.valued v ≡ true → value_meaning t5 v after.value ≡ Some w → Covers t5 v known.file rs → Covers t6 v made.file (with_result step.result (held.Value w) rs))
    → Tracks P f (seen t3 v known) (memory_at t3 m0 v) (λ rs m. on_back step rs go (W g (first rs) m)) e
    → Tracks P f (seen t6 v made) (memory_at t6 m1 v) go e
call_follows W P f g t3 t4 t5 t6 m0 m1 v step go e first known begun after made file e34 e45 e56 i o3 o5 begins arguments absent walked resumes kept set h =
    let e35 = followed t3 t4 t5 e34 e45 in
    let same = seen_kept t3 t5 e35 known i v in
    let mem34 = memory_kept t3 t4 e34 m0 o3 v in
    subst (λ k. Tracks P f (seen t6 v made) k go e) (sym (memory_kept t5 t6 e56 m1 o5 v))
    (subst (λ s. Tracks P f s (memory_at t5 m1 v) go e) (sym (resumes ∙ ap (returned (seen t5 v after) (registers_of t6 v made.file)) same))
    (calls W P f g (seen t3 v known) (seen t5 v after) (memory_at t3 m0 v) (memory_at t5 m1 v) step go e first (registers_of t3 v file) (registers_of t6 v made.file)
    (λ on rs w. arguments rs w)
    (λ k m r. absent k m (subst (λ x. Rests P g (seen t4 v begun) x (Off k m)) (sym mem34) (subst (λ s. Rests P g s (memory_at t3 m0 v) (Off k m)) (sym begins) r)))
    (λ rs m r. walked rs m (subst (λ x. Rests P g (seen t4 v begun) x (On (Goes 0 0 rs m))) (sym mem34) (subst (λ s. Rests P g s (memory_at t3 m0 v) (On (Goes 0 0 rs m))) (sym begins) r)))
    (λ off rs w. kept rs off (covers_kept t3 t5 e35 known.file i.file v rs w))
    (λ on x q rs w. set rs x on q (covers_kept t3 t5 e35 known.file i.file v rs w))
    h))
