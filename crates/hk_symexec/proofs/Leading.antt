-- What branches, switches, returns and stores come to, told by terms.
use Rattle.std.proofs.Common.{◌≡◌, ◌≢◌, ◌⊎◌, inl, inr, ◌-◌, ◌==◌, ◌&&◌, ℕ, Bool, true, false, if◌then◌else◌, nat_eq, Option, Some, None, List, [], ◌∷◌, refl, sym, ap, ◌∙◌, subst}
use Rattle.std.specs.Option.{unwrap_or}
use Rattle.std.proofs.lemmas.Option.{none-some}
use Rattle.std.proofs.lemmas.Bool.Decides.{eqb_tells}
use Rattle.hk_term.specs.Meaning.{Reading, value}
use Rattle.hk_term.specs.declared.node.Node.{Node}
use Rattle.ir_value.specs.declared.value.Value.{Value}
use Rattle.ir_value.specs.declared.value.Value.TheVariants.{Number, Null, Address}
use Rattle.ir_value.specs.declared.value.StuckReason.TheVariants as u
use Rattle.ir_code.specs.declared.act.Case.{Case}
use Rattle.ir_code.specs.declared.act.Step.{Step}
use Rattle.ir_code.specs.declared.act.Act.{Act}
use Rattle.ir_code.specs.declared.act.Act.TheVariants as act
use Rattle.ir_code.specs.declared.program.Program.{Program}
use Rattle.ir_machine.specs.declared.state.Target.TheVariants as target
use Rattle.ir_machine.specs.declared.state.Written.{Written}
use Rattle.ir_machine.specs.declared.state.Written.TheVariants as written
use Rattle.hk_symaccess.specs.Accesses.{Stores}
use Rattle.std.proofs.lemmas.Bool.{false≢true}
use Rattle.ir_machine.specs.Values.{Registers, computed}
use Rattle.ir_machine.specs.Step.{branch_to, switch_to, case_of, steps_of, staged, set_all}
use Rattle.ir_walk.specs.Walk.{Memory, Behind, Callee, Flow, walk_act, on_computed, on_entry, on_jump, on_target, on_value, on_store, Back}
use Rattle.hk_symvalue.specs.Growth.{Extends}
use Rattle.hk_symvalue.specs.Meaning.{IsTruth, stands_for, is_true}
use Rattle.hk_symstep.specs.Files.{IsWithin, Covers, registers_of}
use Rattle.hk_symexec.specs.declared.phis.Phi.{Phi}
use Rattle.hk_symexec.specs.Phis.{phis_meaning}
use Rattle.hk_symvalue.proofs.Frames.{followed}
use Rattle.hk_symmem.specs.Guarded.{MemoryView, IsOver, memory_at}
use Rattle.hk_symexec.specs.declared.exec.Exec.{Exec}
use Rattle.hk_symexec.specs.Seen.{IsExec, seen, left_where}
use Rattle.hk_symexec.specs.Tracks.{Ending, is_computed, IsFineFlow, Splits, Tracks}
use Rattle.hk_symexec.proofs.Following.{tracks_as, leaves}
use Rattle.hk_symexec.proofs.Carrying.{carried}
use Rattle.hk_symexec.proofs.Kept.{true_kept, registers_kept, memory_kept}

some_is : {X : Type 0} (x y : X) → Some x ≡ Some y → x ≡ y
some_is x y e = ap (λ o. unwrap_or o x) e

-- ---- operands

pub no_operand : (o : Option Value) → ((x : Value) → o ≡ Some x → None ≡ Some x) → o ≡ None
no_operand None h = refl
no_operand (Some x) h = absurd (none-some x (h x refl))

pub an_operand : (o : Option Value) (w : Value) → ((x : Value) → o ≡ Some x → Some w ≡ Some x) → (o ≡ None) ⊎ (o ≡ Some w)
an_operand None w h = inl refl
an_operand (Some x) w h = inr (sym (h x refl))

-- an operation on an operand is that on its symbolic value, where it is not lost
pub on_operand : (F : Option Value → Flow) → (IsFineFlow (F None) → ⊥) → (o : Option Value) (w : Value) → ((x : Value) → o ≡ Some x → Some w ≡ Some x) → IsFineFlow (F o) → F o ≡ F (Some w)
on_operand F lost o w h fine = by (an_operand o w h)
  where
    by : (o ≡ None) ⊎ (o ≡ Some w) → F o ≡ F (Some w)
    by (inl q) = absurd (lost (subst (λ k. IsFineFlow (F k)) q fine))
    by (inr q) = ap F q

pub off_operand : (F : Option Value → Flow) → (IsFineFlow (F None) → ⊥) → (o : Option Value) → ((x : Value) → o ≡ Some x → None ≡ Some x) → IsFineFlow (F o) → ⊥
off_operand F lost o h fine = lost (subst (λ k. IsFineFlow (F k)) (no_operand o h) fine)

-- ---- branches and switches

pub same_test : (a b : ℕ) → nat_eq a b ≡ nat_eq b a
same_test a b = by (eqb_tells a b) (eqb_tells b a)
  where
    by : ((nat_eq a b ≡ true) × (a ≡ b)) ⊎ ((nat_eq a b ≡ false) × (a ≢ b)) → ((nat_eq b a ≡ true) × (b ≡ a)) ⊎ ((nat_eq b a ≡ false) × (b ≢ a)) → nat_eq a b ≡ nat_eq b a
    by (inl (p, x)) (inl (q, y)) = p ∙ sym q
    by (inl (p, x)) (inr (q, y)) = absurd (y (sym x))
    by (inr (p, x)) (inl (q, y)) = absurd (x (sym y))
    by (inr (p, x)) (inr (q, y)) = p ∙ sym q

module _ (P : Program) (f from line : ℕ) (rs : Registers) (memory : Memory) where
  pub branch_splits : (taken other : ℕ) (b : Bool) (base bits : ℕ) → IsFineFlow (on_target P f from line rs memory (branch_to (Some (stands_for b base bits)) taken other))
      → Splits b (on_target P f from line rs memory (branch_to (Some (stands_for b base bits)) taken other)) (if nat_eq bits 0 then on_jump P f from other rs memory else on_jump P f from taken rs memory)
  branch_splits taken other true base bits fine = (u.U3, line, refl)
  branch_splits taken other false base bits fine = by (nat_eq base 0) (nat_eq base 1) (nat_eq bits 0) (nat_eq bits 1) refl refl fine
    where
      by : (z o m k : Bool) → (nat_eq bits 0 ≡ m) → (nat_eq bits 1 ≡ k)
          → IsFineFlow (on_target P f from line rs memory (branch_to (Some (if z then Number bits else (if o then Null else Address (base - 2) bits))) taken other))
          → on_target P f from line rs memory (branch_to (Some (if z then Number bits else (if o then Null else Address (base - 2) bits))) taken other) ≡ (if m then on_jump P f from other rs memory else on_jump P f from taken rs memory)
      by true o true k p q fine = ap (λ t. on_target P f from line rs memory (if t then target.To other else (if nat_eq bits 1 then target.To taken else target.Lost))) p
      by true o false true p q fine =
          ap (λ t. on_target P f from line rs memory (if t then target.To other else (if nat_eq bits 1 then target.To taken else target.Lost))) p
          ∙ ap (λ t. on_target P f from line rs memory (if t then target.To taken else target.Lost)) q
      by true o false false p q fine =
          absurd (subst IsFineFlow
          (ap (λ t. on_target P f from line rs memory (if t then target.To other else (if nat_eq bits 1 then target.To taken else target.Lost))) p
          ∙ ap (λ t. on_target P f from line rs memory (if t then target.To taken else target.Lost)) q) fine)
      by false true m k p q fine = absurd fine
      by false false m k p q fine = absurd fine

  pub switch_splits : (cases : List Case) (default : ℕ) (b : Bool) (base bits : ℕ) → IsFineFlow (on_target P f from line rs memory (switch_to (Some (stands_for b base bits)) cases default))
      → Splits b (on_target P f from line rs memory (switch_to (Some (stands_for b base bits)) cases default)) (on_jump P f from (case_of bits cases default) rs memory)
  switch_splits cases default true base bits fine = (u.U3, line, refl)
  switch_splits cases default false base bits fine = by (nat_eq base 0) (nat_eq base 1) fine
    where
      by : (z o : Bool) → IsFineFlow (on_target P f from line rs memory (switch_to (Some (if z then Number bits else (if o then Null else Address (base - 2) bits))) cases default))
          → on_target P f from line rs memory (switch_to (Some (if z then Number bits else (if o then Null else Address (base - 2) bits))) cases default) ≡ on_jump P f from (case_of bits cases default) rs memory
      by true o fine = refl
      by false true fine = absurd fine
      by false false fine = absurd fine

-- ---- cases one after the other

pub record Casing (P : Program) (f from : ℕ) (first now : List Node) (m : MemoryView) (x y : Exec) (bits : ℕ) (cases rest : List Case) (default : ℕ) : Type 0 where
  pub frame : Extends first now
  pub state : IsExec now y
  pub over : IsOver now m
  pub tracks : (v : Reading) (e : Ending) → Tracks P f (seen first v x) (memory_at first m v) (λ rs k. on_jump P f from (case_of (value first bits v) cases default) rs k) e
      → Tracks P f (seen now v y) (memory_at now m v) (λ rs k. on_jump P f from (case_of (value first bits v) rest default) rs k) e

pub casing_on : (P : Program) (f from : ℕ) (first now mid new : List Node) (m : MemoryView) (x y z : Exec) (bits hit : ℕ) (cases rest : List Case) (c : Case) (default : ℕ)
    → Casing P f from first now m x y bits cases (c ∷ rest) default → Extends now mid → Extends mid new → IsExec new z → IsOver new m
    → ((v : Reading) → is_true mid hit v ≡ nat_eq (value first bits v) c.number)
    → ((v : Reading) (go : Behind) (e : Ending) → Tracks P f (seen mid v y) (memory_at mid m v) (λ rs k. if is_true mid hit v then on_jump P f from c.block rs k else go rs k) e → Tracks P f (seen new v z) (memory_at new m v) go e)
    → Casing P f from first new m x z bits cases rest default
casing_on P f from first now mid new m x y z bits hit cases rest c default s grown further within over test jumps = record {
  frame = followed first now new s.frame (followed now mid new grown further);
  state = within;
  over = over;
  tracks = λ v e h.
      jumps v (λ rs k. on_jump P f from (case_of (value first bits v) rest default) rs k) e
      (tracks_as P f (seen mid v y) (memory_at mid m v) (λ rs k. on_jump P f from (case_of (value first bits v) (c ∷ rest) default) rs k)
      (λ rs k. if is_true mid hit v then on_jump P f from c.block rs k else on_jump P f from (case_of (value first bits v) rest default) rs k) e
      (λ rs g w fine. chosen v rs (memory_at mid m v))
      (carried now mid grown P f m s.over v (λ rs k. on_jump P f from (case_of (value first bits v) (c ∷ rest) default) rs k) e y s.state (s.tracks v e h)));
}
  where
    chosen : (v : Reading) (rs : Registers) (k : Memory) → on_jump P f from (case_of (value first bits v) (c ∷ rest) default) rs k
        ≡ (if is_true mid hit v then on_jump P f from c.block rs k else on_jump P f from (case_of (value first bits v) rest default) rs k)
    chosen v rs k = by (c.number == value first bits v) ∙ ap (λ b. if b then on_jump P f from c.block rs k else on_jump P f from (case_of (value first bits v) rest default) rs k) (sym (test v ∙ same_test (value first bits v) c.number))
      where
        by : (b : Bool) → on_jump P f from (if b then c.block else case_of (value first bits v) rest default) rs k ≡ (if b then on_jump P f from c.block rs k else on_jump P f from (case_of (value first bits v) rest default) rs k)
        by true = refl
        by false = refl

-- ---- jumps

-- where no phi is read on any path, a run that would leave is lost
pub jump_lost : (P : Program) (f from to : ℕ) (rs : Registers) (memory : Memory) (b : Bool) (next : Flow)
    → ((ps : List (ℕ × Value)) → staged memory rs from (steps_of P f to) [] ≡ Some ps → None ≡ Some ps)
    → IsFineFlow (if b then on_jump P f from to rs memory else next) → (if b then on_jump P f from to rs memory else next) ≡ next
jump_lost P f from to rs memory false next none fine = refl
jump_lost P f from to rs memory true next none fine = by (staged memory rs from (steps_of P f to) []) refl fine
  where
    by : (o : Option (List (ℕ × Value))) → staged memory rs from (steps_of P f to) [] ≡ o → IsFineFlow (on_entry to rs memory o) → on_entry to rs memory (staged memory rs from (steps_of P f to) []) ≡ next
    by None q fine = absurd fine
    by (Some ps) q fine = absurd (none-some ps (none ps q))

module _ (P : Program) (f from to : ℕ) (t0 t1 t2 : List Node) (grown : Extends t0 t1) (m : MemoryView) (over : IsOver t0 m) (v : Reading) (x y : Exec) (state : IsExec t0 x)
    (condition : ℕ) (truth : IsTruth t0 condition) (go : Behind) (e : Ending) where
  pub jump_none : ((rs : Registers) (ps : List (ℕ × Value)) → Covers t0 v x.file rs → staged (memory_at t0 m v) rs from (steps_of P f to) [] ≡ Some ps → None ≡ Some ps)
      → Tracks P f (seen t0 v x) (memory_at t0 m v) (λ rs k. if is_true t0 condition v then on_jump P f from to rs k else go rs k) e
      → Tracks P f (seen t1 v x) (memory_at t1 m v) go e
  jump_none none h =
      carried t0 t1 grown P f m over v go e x state
      (tracks_as P f (seen t0 v x) (memory_at t0 m v) (λ rs k. if is_true t0 condition v then on_jump P f from to rs k else go rs k) go e
      (λ rs g w fine. jump_lost P f from to rs (memory_at t0 m v) (is_true t0 condition v) (go rs (memory_at t0 m v)) (λ ps q. none rs ps w q) fine) h)

  pub jump_follows : (phis : List Phi)
      → ((rs : Registers) (ps : List (ℕ × Value)) → Covers t0 v x.file rs → staged (memory_at t0 m v) rs from (steps_of P f to) [] ≡ Some ps → Some (phis_meaning t1 v phis) ≡ Some ps)
      → seen t2 v y ≡ left_where (is_true t1 condition v) to (registers_of t2 v y.file) (seen t1 v x)
      → ((rs : Registers) → (is_true t1 x.guard v && is_true t1 condition v) ≡ true → Covers t1 v x.file rs → Covers t2 v y.file (set_all (phis_meaning t1 v phis) rs))
      → ((rs : Registers) → (is_true t1 x.guard v && is_true t1 condition v) ≡ false → Covers t1 v x.file rs → Covers t2 v y.file rs)
      → Tracks P f (seen t0 v x) (memory_at t0 m v) (λ rs k. if is_true t0 condition v then on_jump P f from to rs k else go rs k) e
      → Tracks P f (seen t2 v y) (memory_at t1 m v) go e
  jump_follows phis covered same here away h =
      let moved = carried t0 t1 grown P f m over v (λ rs k. if is_true t0 condition v then on_jump P f from to rs k else go rs k) e x state h in
      let told = subst (λ b. Tracks P f (seen t1 v x) (memory_at t1 m v) (λ rs k. if b then on_jump P f from to rs k else go rs k) e) (sym (true_kept t0 t1 grown condition truth v)) moved in
      subst (λ s. Tracks P f s (memory_at t1 m v) go e) (sym same)
      (leaves P f from to (seen t1 v x) (memory_at t1 m v) go e (is_true t1 condition v) (registers_of t2 v y.file)
      (λ off rs w. away rs off w)
      (λ on rs w ps q. subst (λ l. IsWithin (set_all l rs) (registers_of t2 v y.file))
      (some_is (phis_meaning t1 v phis) ps (covered rs ps (subst (IsWithin rs) (registers_kept t0 t1 grown x.file state.file v) w) (subst (λ k. staged k rs from (steps_of P f to) [] ≡ Some ps) (memory_kept t0 t1 grown m over v) q)))
      (here rs on w))
      told)

-- ---- returns and stores

pub value_splits : (line : ℕ) (memory : Memory) (b : Bool) (base bits : ℕ) → Splits b (on_value line memory (Some (stands_for b base bits))) (Back (Some (stands_for b base bits)) memory)
value_splits line memory true base bits = (u.U10, line, refl)
value_splits line memory false base bits = by (nat_eq base 0) (nat_eq base 1)
  where
    by : (z o : Bool) → on_value line memory (Some (if z then Number bits else (if o then Null else Address (base - 2) bits))) ≡ Back (Some (if z then Number bits else (if o then Null else Address (base - 2) bits))) memory
    by true o = refl
    by false true = refl
    by false false = refl

pub store_splits : (line bytes : ℕ) (rs : Registers) (old new : Memory) (go : Behind) (b : Bool) (w : Written) → Stores b new old bytes w → IsFineFlow (on_store line bytes rs old go w)
    → Splits b (on_store line bytes rs old go w) (go rs new)
store_splits line bytes rs old new go false (written.Puts o x n) (q, same) fine = ap (go rs) (sym same)
store_splits line bytes rs old new go true (written.Puts o x n) (q, same) fine = absurd (false≢true (sym q))
store_splits line bytes rs old new go true (written.Sticks r) a fine = (r, line, refl)
store_splits line bytes rs old new go false (written.Sticks r) a fine = absurd (false≢true a)
store_splits line bytes rs old new go b written.Lost a fine = absurd fine

-- ---- instructions that only compute

pub computed_act : (W : Callee) (P : Program) (f b : ℕ) (s : Step) (rs : Registers) (memory : Memory) (go : Behind) (a : Act) → is_computed a ≡ true
    → walk_act W P f b s rs memory go a ≡ on_computed s rs memory go (computed memory P.objects rs a)
computed_act W P f b s rs memory go (act.Store bytes align value address) h = absurd (false≢true h)
computed_act W P f b s rs memory go (act.StoreSlot align value slot) h = absurd (false≢true h)
computed_act W P f b s rs memory go (act.Goto to) h = absurd (false≢true h)
computed_act W P f b s rs memory go (act.Branch c taken other) h = absurd (false≢true h)
computed_act W P f b s rs memory go (act.Switch w on cases default) h = absurd (false≢true h)
computed_act W P f b s rs memory go (act.Call g arguments) h = absurd (false≢true h)
computed_act W P f b s rs memory go (act.Return value) h = absurd (false≢true h)
computed_act W P f b s rs memory go act.Unreachable h = absurd (false≢true h)
computed_act W P f b s rs memory go a h = refl
