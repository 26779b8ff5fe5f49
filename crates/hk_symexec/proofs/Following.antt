-- How a state follows a walk as operations change both: laws on plain data.
use Rattle.std.proofs.Common.{◌≡◌, ◌≢◌, ◌⊎◌, inl, inr, ◌<◌, ◌+◌, ℕ, suc, Bool, true, false, not, ◌&&◌, ◌||◌, if◌then◌else◌, nat_eq, Option, Some, None, List, [], ◌∷◌, ◌++◌, length, slice_index_or, slice_set, refl, sym, ap, ◌∙◌, subst, arith}
use Rattle.std.proofs.lemmas.List.{get_or-set_same, get_or-set_other, length-set}
use Rattle.std.proofs.lemmas.Bool.{false≢true}
use Rattle.std.proofs.lemmas.Bool.Decides.{eqb_tells}
use Rattle.ir_value.specs.declared.value.Value.{Value}
use Rattle.ir_code.specs.declared.act.Step.{Step}
use Rattle.ir_code.specs.declared.act.Act.{Act}
use Rattle.ir_code.specs.declared.act.Act.TheVariants as act
use Rattle.ir_code.specs.declared.program.Program.{Program}
use Rattle.ir_machine.specs.Values.{Registers}
use Rattle.ir_machine.specs.declared.state.Head.{Head}
use Rattle.ir_machine.specs.declared.state.Head.TheVariants as head
use Rattle.ir_machine.specs.Step.{steps_of, arm_from, arm_value, phi_of, head_of, staged_on, staged, set_all}
use Rattle.std.specs.Option.{unwrap_or}
use Rattle.std.proofs.lemmas.Option.{none-some}
use Rattle.std.proofs.Common.{length-append}
use Rattle.ir_walk.specs.LoopFree.{body_of}
use Rattle.ir_walk.specs.Walk.{Back, Memory, Behind, on_entry, on_jump}
use Rattle.hk_symstep.specs.Files.{IsWithin}
use Rattle.hk_symexec.specs.Seen.{Seen, stuck_where, left_where, back_without, back_with}
use Rattle.hk_symexec.specs.Tracks.{Ending, On, IsFineFlow, IsFine, Phase, Absent, Here, Going, Came, Halted, is_here, is_phi, heads_in, heads, Shows, Stands, Tracks, Splits}

or_false : (b : Bool) → (b || false) ≡ b
or_false true = refl
or_false false = refl

or_true : (b : Bool) → (b || true) ≡ true
or_true true = refl
or_true false = refl

-- ---- where the run is

abbrev pub Somewhere : Program → ℕ → Seen → Memory → Behind → Ending → Type 0
Somewhere P f s memory go e = (p : Phase) × Shows (length (body_of P f)) s p × Stands P f s.registers s.value memory go p e

-- the instructions behind count where the run is here alone
pub elsewhere : (P : Program) (f : ℕ) (regs new : Registers) (x y : Option Value) (memory : Memory) (one go : Behind) (p : Phase) (e : Ending) → is_here p ≡ false
    → ((rs : Registers) → IsWithin rs regs → IsWithin rs new) → ((w : Value) → x ≡ Some w → y ≡ Some w)
    → Stands P f regs x memory one p e → Stands P f new y memory go p e
elsewhere P f regs new x y memory one go (Absent k) e h keep hold st = st
elsewhere P f regs new x y memory one go Here e h keep hold st = absurd (false≢true (sym h))
elsewhere P f regs new x y memory one go (Going to) e h keep hold (rs, position, w, i, q) = (rs, position, keep rs w, i, q)
elsewhere P f regs new x y memory one go (Came None) e h keep hold st = st
elsewhere P f regs new x y memory one go (Came (Some w)) e h keep hold st = (hold w st.0, st.1)
elsewhere P f regs new x y memory one go Halted e h keep hold st = st

-- ---- other instructions behind

pub tracks_as : (P : Program) (f : ℕ) (s : Seen) (memory : Memory) (one go : Behind) (e : Ending)
    → ((rs : Registers) → s.guard ≡ true → IsWithin rs s.registers → IsFineFlow (one rs memory) → one rs memory ≡ go rs memory)
    → Tracks P f s memory one e → Tracks P f s memory go e
unfolding Tracks
tracks_as P f s memory one go e same h fine = by (h fine)
  where
    by : Somewhere P f s memory one e → Somewhere P f s memory go e
    by (Absent k, sh, st) = (Absent k, sh, st)
    by (Here, sh, (rs, w, q)) = (Here, sh, (rs, w, q ∙ ap On (same rs sh.guard w (subst IsFine q fine))))
    by (Going to, sh, st) = (Going to, sh, st)
    by (Came x, sh, st) = (Came x, sh, st)
    by (Halted, sh, st) = (Halted, sh, st)

-- ---- stuck where a condition holds

stuck_off : (n : ℕ) (s : Seen) (b : Bool) (p : Phase) → is_here p ≡ false → Shows n s p → Shows n (stuck_where b s) p
stuck_off n s b p h sh = record {
  size = sh.size;
  guard = ap (λ g. g && not b) (sh.guard ∙ h) ∙ sym h;
  entries = sh.entries;
  back = sh.back;
  valued = sh.valued;
  stuck = ap (λ g. s.stuck || (g && b)) (sh.guard ∙ h) ∙ or_false s.stuck ∙ sh.stuck;
}

pub sticks : (P : Program) (f : ℕ) (s : Seen) (memory : Memory) (one go : Behind) (e : Ending) (b : Bool)
    → ((rs : Registers) → s.guard ≡ true → IsWithin rs s.registers → IsFineFlow (one rs memory) → Splits b (one rs memory) (go rs memory))
    → Tracks P f s memory one e → Tracks P f (stuck_where b s) memory go e
unfolding Tracks
sticks P f s memory one go e b split h fine = by (h fine)
  where
    at : (b : Bool) (rs : Registers) → Shows (length (body_of P f)) s Here → IsWithin rs s.registers → e ≡ On (one rs memory) → Splits b (one rs memory) (go rs memory)
        → Somewhere P f (stuck_where b s) memory go e
    at true rs sh w q (reason, line, same) = (
      Halted,
      record {
        size = sh.size;
        guard = ap (λ g. g && false) sh.guard;
        entries = sh.entries;
        back = sh.back;
        valued = sh.valued;
        stuck = ap (λ g. s.stuck || (g && true)) sh.guard ∙ or_true s.stuck;
      },
      (reason, line, q ∙ ap On same),
    )
    at false rs sh w q same = (
      Here,
      record {
        size = sh.size;
        guard = ap (λ g. g && true) sh.guard;
        entries = sh.entries;
        back = sh.back;
        valued = sh.valued;
        stuck = ap (λ g. s.stuck || (g && false)) sh.guard ∙ or_false s.stuck ∙ sh.stuck;
      },
      (rs, w, q ∙ ap On same),
    )

    by : Somewhere P f s memory one e → Somewhere P f (stuck_where b s) memory go e
    by (Absent k, sh, st) = (Absent k, stuck_off (length (body_of P f)) s b (Absent k) refl sh, st)
    by (Here, sh, (rs, w, q)) = at b rs sh w q (split rs sh.guard w (subst IsFine q fine))
    by (Going to, sh, st) = (Going to, stuck_off (length (body_of P f)) s b (Going to) refl sh, st)
    by (Came x, sh, st) = (Came x, stuck_off (length (body_of P f)) s b (Came x) refl sh, st)
    by (Halted, sh, st) = (Halted, stuck_off (length (body_of P f)) s b Halted refl sh, st)

-- ---- registers that are set where the run is here

pub sets : (P : Program) (f : ℕ) (s : Seen) (memory : Memory) (one go : Behind) (e : Ending) (new : Registers) (change : Registers → Registers)
    → (s.guard ≡ true → (rs : Registers) → IsWithin rs s.registers → IsWithin (change rs) new)
    → (s.guard ≡ false → (rs : Registers) → IsWithin rs s.registers → IsWithin rs new)
    → ((rs : Registers) → one rs memory ≡ go (change rs) memory)
    → Tracks P f s memory one e → Tracks P f (record s { registers = new }) memory go e
unfolding Tracks
sets P f s memory one go e new change set keep same h fine = by (h fine)
  where
    shown : (p : Phase) → Shows (length (body_of P f)) s p → Shows (length (body_of P f)) (record s { registers = new }) p
    shown p sh = record { size = sh.size; guard = sh.guard; entries = sh.entries; back = sh.back; valued = sh.valued; stuck = sh.stuck }

    away : (p : Phase) → is_here p ≡ false → Shows (length (body_of P f)) s p → Stands P f s.registers s.value memory one p e → Somewhere P f (record s { registers = new }) memory go e
    away p n sh st = (p, shown p sh, elsewhere P f s.registers new s.value s.value memory one go p e n (keep (sh.guard ∙ n)) (λ w q. q) st)

    by : Somewhere P f s memory one e → Somewhere P f (record s { registers = new }) memory go e
    by (Absent k, sh, st) = away (Absent k) refl sh st
    by (Here, sh, (rs, w, q)) = (Here, shown Here sh, (change rs, set sh.guard rs w, q ∙ ap On (same rs)))
    by (Going to, sh, st) = away (Going to) refl sh st
    by (Came x, sh, st) = away (Came x) refl sh st
    by (Halted, sh, st) = away Halted refl sh st

-- ---- a memory that is written where the run is here

pub off : {A : Type 0} → false ≡ true → A
off q = absurd (false≢true q)

here_only : (P : Program) (f : ℕ) (s : Seen) (memory new : Memory) (one : Behind) (e : Ending) → s.guard ≡ true
    → Tracks P f s memory one e → Tracks P f s new (λ rs m. one rs memory) e
unfolding Tracks
here_only P f s memory new one e g h fine = by (h fine)
  where
    by : Somewhere P f s memory one e → Somewhere P f s new (λ rs m. one rs memory) e
    by (Absent k, sh, st) = off (sym sh.guard ∙ g)
    by (Here, sh, st) = (Here, sh, st)
    by (Going to, sh, st) = off (sym sh.guard ∙ g)
    by (Came x, sh, st) = off (sym sh.guard ∙ g)
    by (Halted, sh, st) = off (sym sh.guard ∙ g)

pub writes : (P : Program) (f : ℕ) (s : Seen) (memory new : Memory) (one go : Behind) (e : Ending) (b : Bool)
    → (s.guard ≡ false → new ≡ memory)
    → (s.guard ≡ true → (rs : Registers) → IsWithin rs s.registers → IsFineFlow (one rs memory) → Splits b (one rs memory) (go rs new))
    → Tracks P f s memory one e → Tracks P f (stuck_where b s) new go e
writes P f s memory new one go e b kept split h = by s.guard refl
  where
    by : (g : Bool) → s.guard ≡ g → Tracks P f (stuck_where b s) new go e
    by true q = sticks P f s new (λ rs m. one rs memory) go e b (λ rs g w fine. split g rs w fine) (moved h)
      where
        moved : Tracks P f s memory one e → Tracks P f s new (λ rs m. one rs memory) e
        moved h = here_only P f s memory new one e q h
    by false q = sticks P f s new one go e b (λ rs g w fine. off (sym q ∙ g)) (subst (λ m. Tracks P f s m one e) (sym (kept q)) h)

-- ---- the run leaves for a block

marked : (es : List Bool) (to k : ℕ) (b : Bool) → k < length es → slice_index_or (slice_set es to (slice_index_or es to false || b)) k false ≡ (slice_index_or es k false || (nat_eq k to && b))
marked es to k b l = by (eqb_tells k to)
  where
    by : ((nat_eq k to ≡ true) × (k ≡ to)) ⊎ ((nat_eq k to ≡ false) × (k ≢ to)) → slice_index_or (slice_set es to (slice_index_or es to false || b)) k false ≡ (slice_index_or es k false || (nat_eq k to && b))
    by (inl (q, same)) =
        ap (λ j. slice_index_or (slice_set es to (slice_index_or es to false || b)) j false) same
        ∙ get_or-set_same es to (slice_index_or es to false || b) false (subst (λ j. j < length es) same l)
        ∙ ap (λ j. slice_index_or es j false || b) (sym same) ∙ ap (λ t. slice_index_or es k false || (t && b)) (sym q)
    by (inr (q, other)) =
        get_or-set_other es to k (slice_index_or es to false || b) false other
        ∙ sym (or_false (slice_index_or es k false)) ∙ ap (λ t. slice_index_or es k false || (t && b)) (sym q)

and_false : (b : Bool) → (b && false) ≡ false
and_false true = refl
and_false false = refl

and_true : (b : Bool) → (b && true) ≡ b
and_true true = refl
and_true false = refl

unmarked : (es : List Bool) (to k : ℕ) (b : Bool) → b ≡ false → k < length es → slice_index_or (slice_set es to (slice_index_or es to false || b)) k false ≡ slice_index_or es k false
unmarked es to k b q l = marked es to k b l ∙ ap (λ t. slice_index_or es k false || (nat_eq k to && t)) q ∙ ap (λ t. slice_index_or es k false || t) (and_false (nat_eq k to)) ∙ or_false (slice_index_or es k false)

some_is : {X : Type 0} (x y : X) → Some x ≡ Some y → x ≡ y
some_is x y e = ap (λ o. unwrap_or o x) e

abbrev is_ends : Head → Bool
is_ends head.Ends = true
is_ends h = false

phi_not_ends : (k : Option ℕ) (v : Option Value) → phi_of k v ≡ head.Ends → ⊥
phi_not_ends (Some k) (Some v) e = off (ap is_ends e)
phi_not_ends (Some k) None e = off (ap is_ends e)
phi_not_ends None (Some v) e = off (ap is_ends e)
phi_not_ends None None e = off (ap is_ends e)

-- as many phis are staged as stand at the head
pub heads_staged : (memory : Memory) (rs : Registers) (from : ℕ) (ss : List Step) (found ps : List (ℕ × Value)) → staged memory rs from ss found ≡ Some ps → length ps ≡ length found + heads_in ss
heads_staged memory rs from [] found ps q = sym (ap length (some_is found ps q)) ∙ omega arith
heads_staged memory rs from (s ∷ ss) found ps q = by (λ more e. heads_staged memory rs from ss more ps e) s.act (head_of memory rs from s.result s.act) refl q
  where
    by : ((more : List (ℕ × Value)) → staged memory rs from ss more ≡ Some ps → length ps ≡ length more + heads_in ss) → (a : Act) (h : Head) → head_of memory rs from s.result a ≡ h → staged_on h found (staged memory rs from ss) ≡ Some ps → length ps ≡ length found + (if is_phi a then suc (heads_in ss) else 0)
    by deeper (act.Phi arms) head.Ends e q = absurd (phi_not_ends s.result (arm_value memory rs (arm_from from arms)) e)
    by deeper (act.Phi arms) head.Lost e q = absurd (none-some ps q)
    by deeper (act.Phi arms) (head.Reads k v) e q =
        let more : length (found ++ (k, v) ∷ []) ≡ length found + 1 = length-append found ((k, v) ∷ []) in
        deeper (found ++ (k, v) ∷ []) q ∙ omega (arith, more)
    by deeper a h e q = sym (ap length (some_is found ps (subst (λ k. staged_on k found (staged memory rs from ss) ≡ Some ps) (sym e) q))) ∙ omega arith

-- where a condition holds the run leaves for a block, behind whose phis registers are as told
module _ (P : Program) (f from to : ℕ) (s : Seen) (memory : Memory) (go : Behind) (e : Ending) (b : Bool) (new : Registers)
    (keep : (s.guard && b) ≡ false → (rs : Registers) → IsWithin rs s.registers → IsWithin rs new)
    (enter : (s.guard && b) ≡ true → (rs : Registers) → IsWithin rs s.registers → (ps : List (ℕ × Value)) → staged memory rs from (steps_of P f to) [] ≡ Some ps → IsWithin (set_all ps rs) new) where
  abbrev blocks : ℕ
  blocks = length (body_of P f)

  abbrev left : Seen
  left = left_where b to new s

  not_left : (p : Phase) → s.guard ≡ is_here p → (s.guard && b) ≡ false → (k : ℕ) → k < length s.entries → slice_index_or left.entries k false ≡ slice_index_or s.entries k false
  not_left p g h k l = unmarked s.entries to k (s.guard && b) h l

  stays : (p : Phase) → (s.guard && b) ≡ false → (s.guard && not b) ≡ is_here p → Shows blocks s p → Shows blocks left p
  stays p h g sh = record {
    size = length-set s.entries to (slice_index_or s.entries to false || (s.guard && b)) ∙ sh.size;
    guard = g;
    entries = λ k l. unmarked s.entries to k (s.guard && b) h (subst (λ n. k < n) (sym sh.size) l) ∙ sh.entries k l;
    back = sh.back;
    valued = sh.valued;
    stuck = sh.stuck;
  }

  away : (p : Phase) → is_here p ≡ false → Shows blocks s p → Stands P f s.registers s.value memory (λ rs m. if b then on_jump P f from to rs m else go rs m) p e → Somewhere P f left memory go e
  away p n sh st =
      let q : s.guard ≡ false = sh.guard ∙ n in (
        p,
        stays p (ap (λ g. g && b) q) (ap (λ g. g && not b) q ∙ sym n) sh,
        elsewhere P f s.registers new s.value s.value memory (λ rs m. if b then on_jump P f from to rs m else go rs m) go p e n (keep (ap (λ g. g && b) q)) (λ w q. q) st,
      )

  goes : (g : s.guard ≡ true) → Shows blocks s Here → b ≡ true → Shows blocks left (Going to)
  goes g sh q = record {
    size = length-set s.entries to (slice_index_or s.entries to false || (s.guard && b)) ∙ sh.size;
    guard = ap (λ x. s.guard && not x) q ∙ and_false s.guard;
    entries = λ k l.
        marked s.entries to k (s.guard && b) (subst (λ n. k < n) (sym sh.size) l)
        ∙ ap (λ x. x || (nat_eq k to && (s.guard && b))) (sh.entries k l)
        ∙ ap (λ x. nat_eq k to && x) (ap (λ x. x && b) g ∙ q) ∙ and_true (nat_eq k to);
    back = sh.back;
    valued = sh.valued;
    stuck = sh.stuck;
  }

  at : (c : Bool) → b ≡ c → Shows blocks s Here → (rs : Registers) → IsWithin rs s.registers → e ≡ On (if c then on_jump P f from to rs memory else go rs memory) → IsFine e → Somewhere P f left memory go e
  at false q sh rs w same fine =
      let h : (s.guard && b) ≡ false = ap (λ x. s.guard && x) q ∙ and_false s.guard in
      (Here, stays Here h (ap (λ x. s.guard && not x) q ∙ and_true s.guard ∙ sh.guard) sh, (rs, keep h rs w, same))
  at true q sh rs w same fine = by (staged memory rs from (steps_of P f to) []) refl same
    where
      by : (o : Option (List (ℕ × Value))) → staged memory rs from (steps_of P f to) [] ≡ o → e ≡ On (on_entry to rs memory o) → Somewhere P f left memory go e
      by None r same = absurd (subst IsFine same fine)
      by (Some ps) r same = (
        Going to,
        goes sh.guard sh q,
        (set_all ps rs, length ps, enter (ap (λ x. x && b) sh.guard ∙ q) rs w ps r, inl (heads_staged memory rs from (steps_of P f to) [] ps r ∙ none (heads P f to)), same),
      )
        where
          none : (n : ℕ) → 0 + n ≡ n
          none n = omega arith

  pub leaves : Tracks P f s memory (λ rs m. if b then on_jump P f from to rs m else go rs m) e → Tracks P f (left_where b to new s) memory go e
  unfolding Tracks
  leaves h fine = by (h fine)
    where
      by : Somewhere P f s memory (λ rs m. if b then on_jump P f from to rs m else go rs m) e → Somewhere P f left memory go e
      by (Absent k, sh, st) = away (Absent k) refl sh st
      by (Here, sh, (rs, w, q)) = at b refl sh rs w q fine
      by (Going k, sh, st) = away (Going k) refl sh st
      by (Came x, sh, st) = away (Came x) refl sh st
      by (Halted, sh, st) = away Halted refl sh st

-- ---- the run comes back

pub comes_back : (P : Program) (f : ℕ) (s : Seen) (memory : Memory) (one go : Behind) (e : Ending)
    → ((rs : Registers) → one rs memory ≡ Back None memory)
    → Tracks P f s memory one e → Tracks P f (back_without s) memory go e
unfolding Tracks
comes_back P f s memory one go e same h fine = by (h fine)
  where
    away : (p : Phase) → is_here p ≡ false → Shows (length (body_of P f)) s p → Stands P f s.registers s.value memory one p e → Somewhere P f (back_without s) memory go e
    away p n sh st = (
      p,
      record {
        size = sh.size;
        guard = sym n;
        entries = sh.entries;
        back = ap (λ g. s.back || g) (sh.guard ∙ n) ∙ or_false s.back ∙ sh.back;
        valued = sh.valued;
        stuck = sh.stuck;
      },
      elsewhere P f s.registers s.registers s.value s.value memory one go p e n (λ rs w. w) (λ w q. q) st,
    )

    by : Somewhere P f s memory one e → Somewhere P f (back_without s) memory go e
    by (Absent k, sh, st) = away (Absent k) refl sh st
    by (Here, sh, (rs, w, q)) = (
      Came None,
      record {
        size = sh.size;
        guard = refl;
        entries = sh.entries;
        back = ap (λ g. s.back || g) sh.guard ∙ or_true s.back;
        valued = sh.valued;
        stuck = sh.stuck;
      },
      (tt, q ∙ ap On (same rs)),
    )
    by (Going to, sh, st) = away (Going to) refl sh st
    by (Came x, sh, st) = away (Came x) refl sh st
    by (Halted, sh, st) = away Halted refl sh st

pub comes_with : (P : Program) (f : ℕ) (s : Seen) (memory : Memory) (one go : Behind) (e : Ending) (held : Option Value) (x : Value)
    → ((rs : Registers) → one rs memory ≡ Back (Some x) memory)
    → (s.guard ≡ true → held ≡ Some x)
    → (s.guard ≡ false → (w : Value) → s.value ≡ Some w → held ≡ Some w)
    → Tracks P f s memory one e → Tracks P f (back_with held s) memory go e
unfolding Tracks
comes_with P f s memory one go e held x same now kept h fine = by (h fine)
  where
    away : (p : Phase) → is_here p ≡ false → Shows (length (body_of P f)) s p → Stands P f s.registers s.value memory one p e → Somewhere P f (back_with held s) memory go e
    away p n sh st = (
      p,
      record {
        size = sh.size;
        guard = sym n;
        entries = sh.entries;
        back = ap (λ g. s.back || g) (sh.guard ∙ n) ∙ or_false s.back ∙ sh.back;
        valued = ap (λ g. s.valued || g) (sh.guard ∙ n) ∙ or_false s.valued ∙ sh.valued;
        stuck = sh.stuck;
      },
      elsewhere P f s.registers s.registers s.value held memory one go p e n (λ rs w. w) (kept (sh.guard ∙ n)) st,
    )

    by : Somewhere P f s memory one e → Somewhere P f (back_with held s) memory go e
    by (Absent k, sh, st) = away (Absent k) refl sh st
    by (Here, sh, (rs, w, q)) = (
      Came (Some x),
      record {
        size = sh.size;
        guard = refl;
        entries = sh.entries;
        back = ap (λ g. s.back || g) sh.guard ∙ or_true s.back;
        valued = ap (λ g. s.valued || g) sh.guard ∙ or_true s.valued;
        stuck = sh.stuck;
      },
      (now sh.guard, q ∙ ap On (same rs)),
    )
    by (Going to, sh, st) = away (Going to) refl sh st
    by (Came y, sh, st) = away (Came y) refl sh st
    by (Halted, sh, st) = away Halted refl sh st
