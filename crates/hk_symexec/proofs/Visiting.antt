-- How a state follows the blocks of a walk, and a call.
use Rattle.std.proofs.Common.{◌≡◌, ◌≢◌, ◌⊎◌, inl, inr, ◌<◌, ◌≤◌, ◌+◌, ℕ, zero, suc, Bool, true, false, not, ◌&&◌, if◌then◌else◌, nat_eq, Option, Some, None, List, [], ◌∷◌, ◌++◌, length, drop, take, replicate, slice_index_or, slice_set, refl, sym, ap, ◌∙◌, subst, arith}
use Rattle.std.proofs.lemmas.List.{get_or-set_same, get_or-set_other, length-set, get_or-replicate, length-replicate}
use Rattle.std.proofs.lemmas.Option.{slice_get_past}
use Rattle.std.proofs.lemmas.Bool.{false≢true}
use Rattle.std.proofs.lemmas.Bool.Decides.{eqb_tells}
use Rattle.std.proofs.Math.Seq.{take-suc}
use Rattle.ir_value.specs.declared.value.Value.{Value}
use Rattle.ir_code.specs.declared.act.Step.{Step}
use Rattle.ir_code.specs.declared.act.Act.{Act}
use Rattle.ir_code.specs.declared.act.Act.TheVariants as act
use Rattle.ir_code.specs.declared.program.Program.{Program}
use Rattle.ir_machine.specs.declared.state.End.TheVariants.{Returned, Stuck, Lost, Unfinished}
use Rattle.ir_machine.specs.declared.state.Held.TheVariants as held
use Rattle.ir_machine.specs.Values.{Registers}
use Rattle.ir_machine.specs.Step.{steps_in, steps_of, with_result}
use Rattle.ir_walk.specs.LoopFree.{body_of}
use Rattle.ir_walk.specs.Walk.{Flow, Goes, Back, Stops, Memory, Behind, Callee, on_back, walk_act, walk_steps, visit, visit_all}
use Rattle.hk_symstep.specs.Files.{IsWithin}
use Rattle.hk_symexec.specs.Seen.{Seen, entered, called, returned}
use Rattle.hk_symexec.specs.Tracks.{Ending, Off, On, along, IsFineFlow, IsFine, Phase, Absent, Here, Going, Came, Halted, is_here, goes_to, is_back, is_phi, heads_in, heads, Shows, IsEntry, HoldsBack, Stands, Tracks, nothing, Rests}
use Rattle.hk_symexec.proofs.Following.{Somewhere, elsewhere, off}

and_false : (b : Bool) → (b && false) ≡ false
and_false true = refl
and_false false = refl

and_true : (b : Bool) → (b && true) ≡ b
and_true true = refl
and_true false = refl

abbrev is_on : Ending → Bool
is_on (Off stuck m) = false
is_on (On flow) = true

abbrev is_cons : List Step → Bool
is_cons [] = false
is_cons (s ∷ ss) = true

-- ---- blocks

-- where instructions at the begin of a block do not lose the run, no phi is among them
at_begin : (W : Callee) (P : Program) (f b : ℕ) (ss : List Step) (rs : Registers) (memory : Memory) → IsFineFlow (walk_steps W P f b ss rs memory) → heads_in ss ≡ 0
at_begin W P f b [] rs memory fine = refl
at_begin W P f b (s ∷ ss) rs memory fine = by s.act fine
  where
    by : (a : Act) → IsFineFlow (walk_act W P f b s rs memory (walk_steps W P f b ss) a) → (if is_phi a then suc (heads_in ss) else 0) ≡ 0
    by (act.Phi arms) fine = absurd fine
    by a fine = refl

fine_before : (W : Callee) (P : Program) (f b : ℕ) (e : Ending) → IsFine (along (visit W P f b) e) → IsFine e
fine_before W P f b (Off stuck memory) fine = tt
fine_before W P f b (On (Goes to position rs memory)) fine = tt
fine_before W P f b (On (Back x memory)) fine = tt
fine_before W P f b (On (Stops end)) fine = fine

module _ (W : Callee) (P : Program) (f b : ℕ) (s : Seen) (memory : Memory) (e : Ending) where
  abbrev here_after : Behind
  here_after = walk_steps W P f b (drop (heads P f b) (steps_of P f b))

  abbrev after : Ending
  after = along (visit W P f b) e

  stays : (p : Phase) → b < length s.entries → is_here p ≡ false → goes_to b p ≡ false → Shows (length (body_of P f)) s p → Shows (length (body_of P f)) (entered b s) p
  stays p l h g sh = record {
    size = length-set s.entries b false ∙ sh.size;
    guard = sh.entries b (subst (λ n. b < n) sh.size l) ∙ g ∙ sym h;
    entries = λ k i. by k i (eqb_tells k b);
    back = sh.back;
    valued = sh.valued;
    stuck = sh.stuck;
  }
    where
      by : (k : ℕ) → k < length (body_of P f) → ((nat_eq k b ≡ true) × (k ≡ b)) ⊎ ((nat_eq k b ≡ false) × (k ≢ b)) → slice_index_or (slice_set s.entries b false) k false ≡ goes_to k p
      by k i (inl (q, same)) =
          ap (λ j. slice_index_or (slice_set s.entries b false) j false) same ∙ get_or-set_same s.entries b false false l ∙ sym g ∙ ap (λ j. goes_to j p) (sym same)
      by k i (inr (q, other)) = get_or-set_other s.entries b k false false other ∙ sh.entries k i

  turns : (to : ℕ) → b < length s.entries → to ≡ b → Shows (length (body_of P f)) s (Going to) → Shows (length (body_of P f)) (entered b s) Here
  turns to l same sh = record {
    size = length-set s.entries b false ∙ sh.size;
    guard = sh.entries b (subst (λ n. b < n) sh.size l) ∙ is_same (eqb_tells b to);
    entries = λ k i. by k i (eqb_tells k b);
    back = sh.back;
    valued = sh.valued;
    stuck = sh.stuck;
  }
    where
      is_same : ((nat_eq b to ≡ true) × (b ≡ to)) ⊎ ((nat_eq b to ≡ false) × (b ≢ to)) → nat_eq b to ≡ true
      is_same (inl (q, _)) = q
      is_same (inr (q, other)) = absurd (other (sym same))

      apart : (k : ℕ) → k ≢ b → ((nat_eq k to ≡ true) × (k ≡ to)) ⊎ ((nat_eq k to ≡ false) × (k ≢ to)) → nat_eq k to ≡ false
      apart k other (inl (_, equal)) = absurd (other (equal ∙ same))
      apart k other (inr (q, _)) = q

      by : (k : ℕ) → k < length (body_of P f) → ((nat_eq k b ≡ true) × (k ≡ b)) ⊎ ((nat_eq k b ≡ false) × (k ≢ b)) → slice_index_or (slice_set s.entries b false) k false ≡ false
      by k i (inl (q, equal)) = ap (λ j. slice_index_or (slice_set s.entries b false) j false) equal ∙ get_or-set_same s.entries b false false l
      by k i (inr (q, other)) = get_or-set_other s.entries b k false false other ∙ sh.entries k i ∙ apart k other (eqb_tells k to)

  -- the walk of the block, from either place of entry
  from_entry : (position : ℕ) (rs : Registers) → IsEntry P f b position → IsFineFlow (walk_steps W P f b (drop position (steps_of P f b)) rs memory)
      → walk_steps W P f b (drop position (steps_of P f b)) rs memory ≡ here_after rs memory
  from_entry position rs (inl same) fine = ap (λ k. walk_steps W P f b (drop k (steps_of P f b)) rs memory) same
  from_entry position rs (inr none) fine =
      let begins : IsFineFlow (walk_steps W P f b (steps_of P f b) rs memory) = subst (λ k. IsFineFlow (walk_steps W P f b (drop k (steps_of P f b)) rs memory)) none fine in
      ap (λ k. walk_steps W P f b (drop k (steps_of P f b)) rs memory) (none ∙ sym (at_begin W P f b (steps_of P f b) rs memory begins))

  goes_here : b < length s.entries → (to position : ℕ) (rs : Registers) → Shows (length (body_of P f)) s (Going to) → IsWithin rs s.registers → IsEntry P f to position
      → e ≡ On (Goes to position rs memory) → IsFine after → ((nat_eq to b ≡ true) × (to ≡ b)) ⊎ ((nat_eq to b ≡ false) × (to ≢ b)) → Somewhere P f (entered b s) memory here_after after
  goes_here l to position rs sh w i q fine (inl (t, same)) =
      let r : after ≡ On (walk_steps W P f b (drop position (steps_of P f b)) rs memory) =
      ap (along (visit W P f b)) q ∙ ap (λ c. On (if c then walk_steps W P f b (drop position (steps_of P f b)) rs memory else Goes to position rs memory)) t in
      (Here, turns to l same sh, (rs, w, r ∙ ap On (from_entry position rs (subst (λ k. IsEntry P f k position) same i) (subst IsFine r fine))))
  goes_here l to position rs sh w i q fine (inr (t, other)) =
      let r : after ≡ On (Goes to position rs memory) =
      ap (along (visit W P f b)) q ∙ ap (λ c. On (if c then walk_steps W P f b (drop position (steps_of P f b)) rs memory else Goes to position rs memory)) t in
      (Going to, stays (Going to) l refl (apart (eqb_tells b to)) sh, (rs, position, w, i, r))
    where
      apart : ((nat_eq b to ≡ true) × (b ≡ to)) ⊎ ((nat_eq b to ≡ false) × (b ≢ to)) → nat_eq b to ≡ false
      apart (inl (_, equal)) = absurd (other (sym equal))
      apart (inr (q, _)) = q

  pub begins : b < length s.entries → Rests P f s memory e → Tracks P f (entered b s) memory here_after after
  unfolding Tracks
  begins l h fine = by (h (fine_before W P f b e fine))
    where
      by : Somewhere P f s memory nothing e → Somewhere P f (entered b s) memory here_after after
      by (Absent k, sh, q) = (Absent k, stays (Absent k) l refl refl sh, ap (along (visit W P f b)) q)
      by (Here, sh, (rs, w, q)) = absurd (subst IsFine (ap (along (visit W P f b)) q) fine)
      by (Going to, sh, (rs, position, w, i, q)) = goes_here l to position rs sh w i q fine (eqb_tells to b)
      by (Came x, sh, (v, q)) = (Came x, stays (Came x) l refl refl sh, (v, ap (along (visit W P f b)) q))
      by (Halted, sh, (r, line, q)) = (Halted, stays Halted l refl refl sh, (r, line, ap (along (visit W P f b)) q))

  -- a block that the run does not go to
  pub passes_by : ((to : ℕ) → Shows (length (body_of P f)) s (Going to) → to ≡ b → (position : ℕ) (rs : Registers) → IsFineFlow (walk_steps W P f b (drop position (steps_of P f b)) rs memory) → ⊥)
      → Rests P f s memory e → Rests P f s memory after
  unfolding Tracks
  passes_by never h fine = by (h (fine_before W P f b e fine))
    where
      goes : (to position : ℕ) (rs : Registers) → Shows (length (body_of P f)) s (Going to) → IsWithin rs s.registers → IsEntry P f to position
          → e ≡ On (Goes to position rs memory) → ((nat_eq to b ≡ true) × (to ≡ b)) ⊎ ((nat_eq to b ≡ false) × (to ≢ b)) → Somewhere P f s memory nothing after
      goes to position rs sh w i q (inl (t, same)) =
          let r : after ≡ On (walk_steps W P f b (drop position (steps_of P f b)) rs memory) =
          ap (along (visit W P f b)) q ∙ ap (λ c. On (if c then walk_steps W P f b (drop position (steps_of P f b)) rs memory else Goes to position rs memory)) t in
          absurd (never to sh same position rs (subst IsFine r fine))
      goes to position rs sh w i q (inr (t, other)) =
          let r : after ≡ On (Goes to position rs memory) =
          ap (along (visit W P f b)) q ∙ ap (λ c. On (if c then walk_steps W P f b (drop position (steps_of P f b)) rs memory else Goes to position rs memory)) t in
          (Going to, sh, (rs, position, w, i, r))

      by : Somewhere P f s memory nothing e → Somewhere P f s memory nothing after
      by (Absent k, sh, q) = (Absent k, sh, ap (along (visit W P f b)) q)
      by (Here, sh, (rs, w, q)) = absurd (subst IsFine (ap (along (visit W P f b)) q) fine)
      by (Going to, sh, (rs, position, w, i, q)) = goes to position rs sh w i q (eqb_tells to b)
      by (Came x, sh, (v, q)) = (Came x, sh, (v, ap (along (visit W P f b)) q))
      by (Halted, sh, (r, line, q)) = (Halted, sh, (r, line, ap (along (visit W P f b)) q))

  pub passes_closed : b < length s.entries → slice_index_or s.entries b false ≡ false → Rests P f s memory e → Rests P f s memory after
  passes_closed l closed h = passes_by never h
    where
      is_same : (to : ℕ) → to ≡ b → ((nat_eq b to ≡ true) × (b ≡ to)) ⊎ ((nat_eq b to ≡ false) × (b ≢ to)) → nat_eq b to ≡ true
      is_same to same (inl (q, _)) = q
      is_same to same (inr (q, other)) = absurd (other (sym same))

      never : (to : ℕ) → Shows (length (body_of P f)) s (Going to) → to ≡ b → (position : ℕ) (rs : Registers) → IsFineFlow (walk_steps W P f b (drop position (steps_of P f b)) rs memory) → ⊥
      never to sh same position rs fine = off (sym closed ∙ sh.entries b (subst (λ n. b < n) sh.size l) ∙ is_same to same (eqb_tells b to))

  pub passes_beyond : length s.entries ≤ b → Rests P f s memory e → Rests P f s memory after
  passes_beyond l h = passes_by never h
    where
      dropped : (k : ℕ) (ss : List Step) → ss ≡ [] → drop k ss ≡ []
      dropped zero ss q = q
      dropped (suc k) [] q = refl
      dropped (suc k) (x ∷ ss) q = absurd (cons_not_nil q)
        where
          cons_not_nil : x ∷ ss ≡ [] → ⊥
          cons_not_nil q = false≢true (sym (ap is_cons q))

      never : (to : ℕ) → Shows (length (body_of P f)) s (Going to) → to ≡ b → (position : ℕ) (rs : Registers) → IsFineFlow (walk_steps W P f b (drop position (steps_of P f b)) rs memory) → ⊥
      never to sh same position rs fine =
          let none : steps_of P f b ≡ [] = ap steps_in (slice_get_past (body_of P f) b (subst (λ n. n ≤ b) sh.size l)) in
          subst (λ ss. IsFineFlow (walk_steps W P f b ss rs memory)) (dropped position (steps_of P f b) none) fine

-- the instructions of a block are at their end
pub ends : (W : Callee) (P : Program) (f b : ℕ) (s : Seen) (memory : Memory) (e : Ending) → Tracks P f s memory (walk_steps W P f b []) e → Rests P f s memory e
ends W P f b s memory e h = h

visit_more : (W : Callee) (P : Program) (f b : ℕ) (xs : List ℕ) (flow : Flow) → visit_all W P f (xs ++ b ∷ []) flow ≡ visit W P f b (visit_all W P f xs flow)
visit_more W P f b [] flow = refl
visit_more W P f b (x ∷ xs) flow = visit_more W P f b xs (visit W P f x flow)

-- one block more of the order
pub visited_more : (W : Callee) (P : Program) (f i : ℕ) (order : List ℕ) (d : ℕ) (e : Ending) → i < length order
    → along (visit W P f (slice_index_or order i d)) (along (visit_all W P f (take i order)) e) ≡ along (visit_all W P f (take (i + 1) order)) e
visited_more W P f i order d e l = by e
  where
    next : i + 1 ≡ suc i
    next = omega arith

    more : take (i + 1) order ≡ take i order ++ slice_index_or order i d ∷ []
    more = ap (λ k. take k order) next ∙ take-suc order i d l

    by : (e : Ending) → along (visit W P f (slice_index_or order i d)) (along (visit_all W P f (take i order)) e) ≡ along (visit_all W P f (take (i + 1) order)) e
    by (Off stuck memory) = refl
    by (On flow) = ap On (sym (ap (λ xs. visit_all W P f xs flow) more ∙ visit_more W P f (slice_index_or order i d) (take i order) flow))

-- ---- what a function comes to

abbrev memory_in : Ending → Memory → Memory
memory_in (Off stuck m) d = m
memory_in (On (Goes to position rs m)) d = m
memory_in (On (Back x m)) d = m
memory_in (On (Stops end)) d = d

abbrev value_in : Ending → Option Value
value_in (Off stuck m) = None
value_in (On (Goes to position rs m)) = None
value_in (On (Back x m)) = x
value_in (On (Stops end)) = None

abbrev pub phase_at : Ending → Phase
phase_at (Off stuck m) = Absent stuck
phase_at (On (Goes to position rs m)) = Going to
phase_at (On (Back x m)) = Came x
phase_at (On (Stops end)) = Halted

module _ (P : Program) (g : ℕ) (s : Seen) (memory : Memory) where
  phase_is : (e : Ending) (p : Phase) → IsFine e → Stands P g s.registers s.value memory nothing p e → phase_at e ≡ p
  phase_is e (Absent k) fine q = ap phase_at q
  phase_is e Here fine (rs, w, q) = absurd (subst IsFine q fine)
  phase_is e (Going to) fine (rs, position, w, i, q) = ap phase_at q
  phase_is e (Came x) fine (v, q) = ap phase_at q
  phase_is e Halted fine (r, line, q) = ap phase_at q

  pub rests_shows : (e : Ending) → Rests P g s memory e → IsFine e → Shows (length (body_of P g)) s (phase_at e)
  unfolding Tracks
  rests_shows e h fine = by (h fine)
    where
      by : Somewhere P g s memory nothing e → Shows (length (body_of P g)) s (phase_at e)
      by (p, sh, st) = subst (Shows (length (body_of P g)) s) (sym (phase_is e p fine st)) sh

  pub rests_off : (k : Bool) (m : Memory) → Rests P g s memory (Off k m) → memory ≡ m
  unfolding Tracks
  rests_off k m h = by (h tt)
    where
      by : Somewhere P g s memory nothing (Off k m) → memory ≡ m
      by (Absent j, sh, q) = sym (ap (λ e. memory_in e m) q)
      by (Here, sh, (rs, w, q)) = off (ap (λ e. is_on e) q)
      by (Going to, sh, (rs, position, w, i, q)) = off (ap (λ e. is_on e) q)
      by (Came x, sh, (v, q)) = off (ap (λ e. is_on e) q)
      by (Halted, sh, (r, line, q)) = off (ap (λ e. is_on e) q)

  pub rests_back : (x : Option Value) (m : Memory) → Rests P g s memory (On (Back x m)) → HoldsBack s.value x × (memory ≡ m)
  unfolding Tracks
  rests_back x m h = by (h tt)
    where
      by : Somewhere P g s memory nothing (On (Back x m)) → HoldsBack s.value x × (memory ≡ m)
      by (Absent j, sh, q) = off (ap (λ e. not (is_on e)) q)
      by (Here, sh, (rs, w, q)) = off (ap (λ e. not (is_back (phase_at e))) q)
      by (Going to, sh, (rs, position, w, i, q)) = off (ap (λ e. not (is_back (phase_at e))) q)
      by (Came y, sh, (v, q)) = (subst (HoldsBack s.value) (sym (ap value_in q)) v, sym (ap (λ e. memory_in e m) q))
      by (Halted, sh, (r, line, q)) = off (ap (λ e. not (is_back (phase_at e))) q)

-- ---- calls

entries_called : (n k : ℕ) (b : Bool) → k < n → slice_index_or (slice_set (replicate n false) 0 b) k false ≡ (nat_eq k 0 && b)
entries_called n k b l = by (eqb_tells k 0)
  where
    long : length (replicate n false) ≡ n
    long = length-replicate n false

    by : ((nat_eq k 0 ≡ true) × (k ≡ 0)) ⊎ ((nat_eq k 0 ≡ false) × (k ≢ 0)) → slice_index_or (slice_set (replicate n false) 0 b) k false ≡ (nat_eq k 0 && b)
    by (inl (q, same)) =
        ap (λ j. slice_index_or (slice_set (replicate n false) 0 b) j false) same ∙ get_or-set_same (replicate n false) 0 b false (omega (arith, l, same, long)) ∙ ap (λ t. t && b) (sym q)
    by (inr (q, other)) = get_or-set_other (replicate n false) 0 k b false other ∙ get_or-replicate n k false false l ∙ ap (λ t. t && b) (sym q)

module _ (P : Program) (g : ℕ) (s : Seen) (memory : Memory) (regs : Registers) where
  abbrev blocks : ℕ
  blocks = length (body_of P g)

  abbrev begun : Seen
  begun = called blocks regs s

  shows_absent : s.guard ≡ false → Shows blocks begun (Absent s.stuck)
  shows_absent h = record {
    size = length-set (replicate blocks false) 0 s.guard ∙ length-replicate blocks false;
    guard = refl;
    entries = λ k l. entries_called blocks k s.guard l ∙ ap (λ b. nat_eq k 0 && b) h ∙ and_false (nat_eq k 0);
    back = refl;
    valued = refl;
    stuck = refl;
  }

  shows_going : s.guard ≡ true → s.stuck ≡ false → Shows blocks begun (Going 0)
  shows_going h quiet = record {
    size = length-set (replicate blocks false) 0 s.guard ∙ length-replicate blocks false;
    guard = refl;
    entries = λ k l. entries_called blocks k s.guard l ∙ ap (λ b. nat_eq k 0 && b) h ∙ and_true (nat_eq k 0);
    back = refl;
    valued = refl;
    stuck = quiet;
  }

  pub rests_absent : s.guard ≡ false → Rests P g begun memory (Off s.stuck memory)
  unfolding Tracks
  rests_absent h fine = (Absent s.stuck, shows_absent h, refl)

  pub rests_going : (rs : Registers) → s.guard ≡ true → s.stuck ≡ false → IsWithin rs regs → Rests P g begun memory (On (Goes 0 0 rs memory))
  unfolding Tracks
  rests_going rs h quiet w fine = (Going 0, shows_going h quiet, (rs, 0, w, inr refl, refl))

module _ (W : Callee) (P : Program) (f g : ℕ) (s after : Seen) (memory behind : Memory) (step : Step) (go : Behind) (e : Ending) (first : Registers → Registers) (regs new : Registers) where
  -- a function that is called follows its walk, so its caller does
  pub calls : (s.guard ≡ true → (rs : Registers) → IsWithin rs s.registers → IsWithin (first rs) regs)
      → ((k : Bool) (m : Memory) → Rests P g (called (length (body_of P g)) regs s) memory (Off k m) → Rests P g after behind (Off k m))
      → ((rs : Registers) (m : Memory) → Rests P g (called (length (body_of P g)) regs s) memory (On (Goes 0 0 rs m)) → Rests P g after behind (On (W g rs m)))
      → (after.valued ≡ false → (rs : Registers) → IsWithin rs s.registers → IsWithin rs new)
      → (after.valued ≡ true → (x : Value) → after.value ≡ Some x → (rs : Registers) → IsWithin rs s.registers → IsWithin (with_result step.result (held.Value x) rs) new)
      → Tracks P f s memory (λ rs m. on_back step rs go (W g (first rs) m)) e → Tracks P f (returned after new s) behind go e
  unfolding Tracks
  calls arguments absent walked kept set h fine = by (h fine)
    where
      one : Behind
      one = λ rs m. on_back step rs go (W g (first rs) m)

      away : (p : Phase) → is_here p ≡ false → Shows (length (body_of P f)) s p → Stands P f s.registers s.value memory one p e → Somewhere P f (returned after new s) behind go e
      away p n sh st =
          let r : Rests P g after behind (Off s.stuck memory) = absent s.stuck memory (rests_absent P g s memory regs (sh.guard ∙ n)) in
          let d : Shows (length (body_of P g)) after (Absent s.stuck) = rests_shows P g after behind (Off s.stuck memory) r tt in (
            p,
            record {
              size = sh.size;
              guard = d.back ∙ sym n;
              entries = sh.entries;
              back = sh.back;
              valued = sh.valued;
              stuck = d.stuck ∙ sh.stuck;
            },
            subst (λ m. Stands P f new s.value m go p e) (sym (rests_off P g after behind s.stuck memory r))
                (elsewhere P f s.registers new s.value s.value memory one go p e n (kept d.valued) (λ w q. q) st),
          )

      at : (rs : Registers) → Shows (length (body_of P f)) s Here → IsWithin rs s.registers → (F : Flow) → Rests P g after behind (On F) → e ≡ On (on_back step rs go F) → Somewhere P f (returned after new s) behind go e
      at rs sh w (Goes to position rs' m) r q = absurd (subst IsFine q fine)
      at rs sh w (Back None m) r q =
          let d : Shows (length (body_of P g)) after (Came None) = rests_shows P g after behind (On (Back None m)) r tt in
          let kept_back : HoldsBack after.value None × (behind ≡ m) = rests_back P g after behind None m r in (
            Here,
            record { size = sh.size; guard = d.back; entries = sh.entries; back = sh.back; valued = sh.valued; stuck = d.stuck },
            (rs, kept d.valued rs w, q ∙ ap (λ m'. On (go rs m')) (sym kept_back.1)),
          )
      at rs sh w (Back (Some x) m) r q =
          let d : Shows (length (body_of P g)) after (Came (Some x)) = rests_shows P g after behind (On (Back (Some x) m)) r tt in
          let kept_back : HoldsBack after.value (Some x) × (behind ≡ m) = rests_back P g after behind (Some x) m r in (
            Here,
            record { size = sh.size; guard = d.back; entries = sh.entries; back = sh.back; valued = sh.valued; stuck = d.stuck },
            (with_result step.result (held.Value x) rs, set d.valued x kept_back.0 rs w, q ∙ ap (λ m'. On (go (with_result step.result (held.Value x) rs) m')) (sym kept_back.1)),
          )
      at rs sh w (Stops (Stuck reason line)) r q =
          let d : Shows (length (body_of P g)) after Halted = rests_shows P g after behind (On (Stops (Stuck reason line))) r tt in (
            Halted,
            record { size = sh.size; guard = d.back; entries = sh.entries; back = sh.back; valued = sh.valued; stuck = d.stuck },
            (reason, line, q),
          )
      at rs sh w (Stops Lost) r q = absurd (subst IsFine q fine)
      at rs sh w (Stops Unfinished) r q = absurd (subst IsFine q fine)
      at rs sh w (Stops (Returned x m)) r q = absurd (subst IsFine q fine)

      by : Somewhere P f s memory one e → Somewhere P f (returned after new s) behind go e
      by (Absent k, sh, st) = away (Absent k) refl sh st
      by (Here, sh, (rs, w, q)) = at rs sh w (W g (first rs) memory) (walked (first rs) memory (rests_going P g s memory regs (first rs) sh.guard sh.stuck (arguments sh.guard rs w))) q
      by (Going to, sh, st) = away (Going to) refl sh st
      by (Came x, sh, st) = away (Came x) refl sh st
      by (Halted, sh, st) = away Halted refl sh st
