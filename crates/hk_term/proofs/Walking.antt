-- The steps of a computation of a term.
use Rattle.std.proofs.Common.{◌≡◌, ◌≢◌, ℕ, zero, suc, ◌+◌, ◌*◌, ◌-◌, ◌<◌, ◌≤◌, ◌⊎◌, Bool, true, false, cond, nat_eq, List, [], ◌∷◌, length, slice_index, slice_set, arith, refl, sym, ◌∙◌, ap, subst, inl, inr}
use Rattle.std.proofs.Common.{get_or-set_other, get_or-set_same}
use Rattle.std.proofs.Math.Nat.{mul-le-mul_right}
use Rattle.std.proofs.lemmas.Bool.{eqb-true, eq-eqb, ne_eqb}
use Rattle.std.proofs.lemmas.Bool.Decides.{eqb_tells}
use Rattle.hk_term.specs.declared.node.Node.{Node}
use Rattle.hk_term.specs.Meaning.{Reading, value}
use Rattle.hk_term.specs.Walk.{Known, IsTimed, Keeps, Path, top, up, Standing, weight}

-- ---- one write

pub record Wrote (xs : List ℕ) (i v : ℕ) (xs' : List ℕ) : Type 0 where
  pub there : (k : ℕ) → k ≡ i → slice_index xs' k ≡ v
  pub elsewhere : (k : ℕ) → k ≢ i → slice_index xs' k ≡ slice_index xs k

pub wrote : (xs : List ℕ) (i v : ℕ) → i < length xs → Wrote xs i v (slice_set xs i v)
wrote xs i v h = record {
  there = λ k e. subst (λ j. slice_index (slice_set xs i v) j ≡ v) (sym e) (get_or-set_same xs i v 0 h);
  elsewhere = λ k ne. get_or-set_other xs i k v 0 ne;
}

-- a place is the written one, or another
at_or : (k i : ℕ) → (k ≡ i) ⊎ (k ≢ i)
at_or k i = by (eqb_tells k i)
  where
    by : ((nat_eq k i ≡ true) × (k ≡ i)) ⊎ ((nat_eq k i ≡ false) × (k ≢ i)) → (k ≡ i) ⊎ (k ≢ i)
    by (inl p) = inl p.1
    by (inr p) = inr p.1

-- ---- what is kept

pub keeps-refl : (from base : ℕ) (values marks : List ℕ) → Keeps from base values marks values marks
keeps-refl from base values marks = record { numbers = λ k h. refl; marked = λ k h l. refl; old = λ k h l. (refl, refl) }

pub keeps-trans : (from base : ℕ) (vs ms vs' ms' vs'' ms'' : List ℕ) → Keeps from base vs ms vs' ms' → Keeps from base vs' ms' vs'' ms'' → Keeps from base vs ms vs'' ms''
keeps-trans from base vs ms vs' ms' vs'' ms'' a b = record {
  numbers = λ k h. b.numbers k h ∙ a.numbers k h;
  marked = λ k h l.
      let first = a.marked k h l in
      b.marked k h (omega (arith, first)) ∙ first;
  old = λ k h l.
      let last = b.old k h l in
      let first = a.old k (omega (arith, last.0)) (omega (arith, last.0)) in
      (last.0 ∙ first.0, last.1 ∙ first.1);
}

pub keeps-less : (from base from' base' : ℕ) (vs ms vs' ms' : List ℕ) → Keeps from base vs ms vs' ms' → from ≤ from' → base' ≤ base → Keeps from' base' vs ms vs' ms'
keeps-less from base from' base' vs ms vs' ms' a f b = record {
  numbers = λ k h. a.numbers k (omega arith);
  marked = λ k h l. a.marked k (omega arith) (omega arith);
  old = λ k h l. a.old k h (omega arith);
}

-- ---- the way up

pub path-most : (vs ms : List ℕ) (t k : ℕ) → Path vs ms t k → k ≤ t
path-most vs ms t k (top k' e m n) = omega (arith, e)
path-most vs ms t k (up k' next h m n p) = let rest = path-most vs ms t next p in omega (arith, h, rest)

pub path-keeps : (vs ms vs' ms' : List ℕ) (t a : ℕ) → ((k : ℕ) → a ≤ k → slice_index ms k ≡ 0 → (slice_index vs' k ≡ slice_index vs k) × (slice_index ms' k ≡ 0)) → (k : ℕ) → a ≤ k → Path vs ms t k → Path vs' ms' t k
path-keeps vs ms vs' ms' t a same k h (top k' e m n) = let s = same k h m in top k e s.1 (s.0 ∙ n)
path-keeps vs ms vs' ms' t a same k h (up k' next l m n p) =
    let s = same k h m in
    up k next l s.1 (s.0 ∙ n) (path-keeps vs ms vs' ms' t a same next (omega (arith, h, l)) p)

-- ---- what is left to do

bit_most : (b : Bool) → cond b 0 1 ≤ 1
bit_most true = omega arith
bit_most false = omega arith

pub weight-most : (s : ℕ) (ms ms' : List ℕ) → length ms' ≡ length ms → ((k : ℕ) → slice_index ms k ≡ s → slice_index ms' k ≡ s) → weight s ms' ≤ weight s ms
weight-most s [] [] e h = omega arith
weight-most s [] (m' ∷ ms') e h = absurd (omega arith)
weight-most s (m ∷ ms) [] e h = absurd (omega arith)
weight-most s (m ∷ ms) (m' ∷ ms') e h =
    let rest : weight s ms' ≤ weight s ms = weight-most s ms ms' (omega arith) (λ k. h (suc k)) in
    let bit : cond (nat_eq m' s) 0 1 ≤ cond (nat_eq m s) 0 1 = bits (nat_eq m s) refl in
    omega (arith, rest, bit)
  where
    bits : (b : Bool) → nat_eq m s ≡ b → cond (nat_eq m' s) 0 1 ≤ cond (nat_eq m s) 0 1
    bits true q =
        let now : nat_eq m' s ≡ true = eq-eqb m' s (h 0 (eqb-true m s q)) in
        subst (λ c. cond c 0 1 ≤ cond (nat_eq m s) 0 1) (sym now) (omega arith)
    bits false q = subst (λ c. cond (nat_eq m' s) 0 1 ≤ cond c 0 1) (sym q) (bit_most (nat_eq m' s))

pub weight-falls : (s : ℕ) (ms ms' : List ℕ) (f : ℕ) → length ms' ≡ length ms → f < length ms → slice_index ms f ≢ s → slice_index ms' f ≡ s → ((k : ℕ) → f < k → slice_index ms k ≡ s → slice_index ms' k ≡ s) → weight s ms' < weight s ms
weight-falls s [] ms' f e l n d h = absurd (omega arith)
weight-falls s (m ∷ ms) [] f e l n d h = absurd (omega arith)
weight-falls s (m ∷ ms) (m' ∷ ms') zero e l n d h =
    let rest : weight s ms' ≤ weight s ms = weight-most s ms ms' (omega arith) (λ k. h (suc k) (omega arith)) in
    let was : ◌≡◌ {A = ℕ} (cond (nat_eq m s) 0 1) 1 = ap (λ b. cond b 0 1) (ne_eqb m s n) in
    let is : ◌≡◌ {A = ℕ} (cond (nat_eq m' s) 0 1) 0 = ap (λ b. cond b 0 1) (eq-eqb m' s d) in
    omega (arith, rest, was, is)
weight-falls s (m ∷ ms) (m' ∷ ms') (suc f) e l n d h =
    let rest : weight s ms' < weight s ms = weight-falls s ms ms' f (omega arith) (omega arith) n d (λ k j. h (suc k) (omega arith)) in
    omega (arith, rest, bit_most (nat_eq m' s))

-- a step down from a term that waits, or up from one that is done
pub further : (w w' t at at' : ℕ) → w' ≤ w → at' < at → w' * (t + 1) + at' < w * (t + 1) + at
further w w' t at at' h l = omega (arith, mul-le-mul_right (t + 1) h, l)

pub done_more : (w w' t at at' : ℕ) → w' < w → at' ≤ t → w' * (t + 1) + at' < w * (t + 1) + at
done_more w w' t at at' h l =
    let next : suc w' ≤ w = omega arith in
    omega (arith, mul-le-mul_right (t + 1) next, l)

-- ---- the first step: t waits for its parts

module _ (nodes : List Node) (r : Reading) (stamp t : ℕ) (some : 1 ≤ stamp) (vs ms vs' ms' : List ℕ) where
  pub start-standing : (clock : ℕ) → Known nodes r stamp vs ms → IsTimed ms clock → stamp ≤ clock → Wrote vs t t vs' → Wrote ms t 0 ms' → Standing nodes r stamp t vs' ms' clock t
  start-standing clock known timed past number mark = record {
    at_most = omega arith;
    known = λ k d. still k (at_or k t) d;
    stands = inr (top t refl (mark.there t refl) (number.there t refl));
    timed = λ k. in_time k (at_or k t);
    past = past;
  }
    where
      still : (k : ℕ) → (k ≡ t) ⊎ (k ≢ t) → slice_index ms' k ≡ stamp → slice_index vs' k ≡ value nodes k r
      still k (inl e) d = absurd (let zero_mark = mark.there k e in omega arith)
      still k (inr ne) d = number.elsewhere k ne ∙ known k (sym (mark.elsewhere k ne) ∙ d)

      in_time : (k : ℕ) → (k ≡ t) ⊎ (k ≢ t) → slice_index ms' k ≤ clock
      in_time k (inl e) = let zero_mark = mark.there k e in omega arith
      in_time k (inr ne) = let same = mark.elsewhere k ne in omega (arith, timed k)

  -- the numbers and marks of other terms stay
  pub write-keeps : (c at : ℕ) → c ≤ t → Wrote vs c at vs' → Wrote ms c 0 ms' → Keeps (t + 1) (stamp - 1) vs ms vs' ms'
  write-keeps c at most number mark = record {
    numbers = λ k h. number.elsewhere k (λ e. omega arith);
    marked = λ k h l. mark.elsewhere k (λ e. omega arith);
    old = λ k h l. kept k h (at_or k c);
  }
    where
      kept : (k : ℕ) → 0 < slice_index ms' k → (k ≡ c) ⊎ (k ≢ c) → (slice_index ms' k ≡ slice_index ms k) × (slice_index vs' k ≡ slice_index vs k)
      kept k h (inl e) = absurd (let zero_mark = mark.there k e in omega arith)
      kept k h (inr ne) = (mark.elsewhere k ne, number.elsewhere k ne)

  -- ---- a step down: a part waits for its parts
  pub push-standing : (clock at c : ℕ) → Standing nodes r stamp t vs ms clock at → slice_index ms t ≢ stamp → c < at → Wrote vs c at vs' → Wrote ms c 0 ms' → Standing nodes r stamp t vs' ms' clock c
  push-standing clock at c s going less number mark = record {
    at_most = omega (arith, s.at_most, less);
    known = λ k d. known k (at_or k c) d;
    stands = inr (way s.stands);
    timed = λ k. in_time k (at_or k c);
    past = s.past;
  }
    where
      known : (k : ℕ) → (k ≡ c) ⊎ (k ≢ c) → slice_index ms' k ≡ stamp → slice_index vs' k ≡ value nodes k r
      known k (inl e) d = absurd (let zero_mark = mark.there k e in omega arith)
      known k (inr ne) d = number.elsewhere k ne ∙ s.known k (sym (mark.elsewhere k ne) ∙ d)

      in_time : (k : ℕ) → (k ≡ c) ⊎ (k ≢ c) → slice_index ms' k ≤ clock
      in_time k (inl e) = let zero_mark = mark.there k e in omega arith
      in_time k (inr ne) = let same = mark.elsewhere k ne in omega (arith, s.timed k)

      way : (slice_index ms t ≡ stamp) ⊎ (Path vs ms t at) → Path vs' ms' t c
      way (inl d) = absurd (going d)
      way (inr p) =
          up c at less (mark.there c refl) (number.there c refl)
          (path-keeps vs ms vs' ms' t at (λ k h m. (number.elsewhere k (λ e. omega arith), mark.elsewhere k (λ e. omega arith) ∙ m)) at (omega arith) p)

  pub push-weight : (c : ℕ) → length ms' ≡ length ms → slice_index ms c ≢ stamp → Wrote ms c 0 ms' → weight stamp ms' ≤ weight stamp ms
  push-weight c e waits mark = weight-most stamp ms ms' e (λ k d. mark.elsewhere k (λ q. waits (ap (λ j. slice_index ms j) (sym q) ∙ d)) ∙ d)

-- ---- a step up: a term is done, after what its computation changed

module _ (nodes : List Node) (r : Reading) (stamp t : ℕ) (some : 1 ≤ stamp) (vs ms vs₁ ms₁ vs' ms' : List ℕ) where
  pub pop-standing : (clock clock₁ at number : ℕ) → Standing nodes r stamp t vs ms clock at → slice_index ms t ≢ stamp → Keeps at stamp vs ms vs₁ ms₁ → IsTimed ms₁ clock₁ → stamp ≤ clock₁ → number ≡ value nodes at r → Wrote vs₁ at number vs' → Wrote ms₁ at stamp ms' → Standing nodes r stamp t vs' ms' clock₁ (slice_index vs₁ at)
  pop-standing clock clock₁ at number s going keeps timed past is wrote_number mark = way s.stands
    where
      known : (k : ℕ) → (k ≡ at) ⊎ (k ≢ at) → slice_index ms' k ≡ stamp → slice_index vs' k ≡ value nodes k r
      known k (inl e) d = wrote_number.there k e ∙ is ∙ ap (λ j. value nodes j r) (sym e)
      known k (inr ne) d =
          let here : slice_index ms₁ k ≡ stamp = sym (mark.elsewhere k ne) ∙ d in
          let was = keeps.old k (omega (arith, here)) (omega (arith, here)) in
          wrote_number.elsewhere k ne ∙ was.1 ∙ s.known k (sym was.0 ∙ here)

      in_time : (k : ℕ) → (k ≡ at) ⊎ (k ≢ at) → slice_index ms' k ≤ clock₁
      in_time k (inl e) = let its = mark.there k e in omega arith
      in_time k (inr ne) = let same = mark.elsewhere k ne in omega (arith, timed k)

      left : (a : ℕ) → at < a → (k : ℕ) → a ≤ k → slice_index ms k ≡ 0 → (slice_index vs' k ≡ slice_index vs k) × (slice_index ms' k ≡ 0)
      left a l k h m = (wrote_number.elsewhere k (λ e. omega arith) ∙ keeps.numbers k (omega arith), mark.elsewhere k (λ e. omega arith) ∙ keeps.marked k (omega arith) (omega (arith, m)) ∙ m)

      stand : (a : ℕ) → slice_index vs₁ at ≡ a → a ≤ t → (slice_index ms' t ≡ stamp) ⊎ (Path vs' ms' t a) → Standing nodes r stamp t vs' ms' clock₁ (slice_index vs₁ at)
      stand a e most stands = subst (Standing nodes r stamp t vs' ms' clock₁) (sym e) (record {
        at_most = most;
        known = λ k d. known k (at_or k at) d;
        stands = stands;
        timed = λ k. in_time k (at_or k at);
        past = past;
      })

      way : (slice_index ms t ≡ stamp) ⊎ (Path vs ms t at) → Standing nodes r stamp t vs' ms' clock₁ (slice_index vs₁ at)
      way (inl d) = absurd (going d)
      way (inr (top k e m n)) = stand at (keeps.numbers at (omega arith) ∙ n) s.at_most (inl (mark.there t (sym e)))
      way (inr (up k next h m n p)) =
          stand next (keeps.numbers at (omega arith) ∙ n) (path-most vs ms t next p)
          (inr (path-keeps vs ms vs' ms' t next (left next h) next (omega arith) p))

  pub pop-keeps : (at number : ℕ) → at ≤ t → Keeps at stamp vs ms vs₁ ms₁ → Wrote vs₁ at number vs' → Wrote ms₁ at stamp ms' → Keeps (t + 1) (stamp - 1) vs ms vs' ms'
  pop-keeps at number most keeps wrote_number mark = record {
    numbers = λ k h. wrote_number.elsewhere k (λ e. omega arith) ∙ keeps.numbers k (omega arith);
    marked = λ k h l. mark.elsewhere k (λ e. omega arith) ∙ keeps.marked k (omega arith) (omega arith);
    old = λ k h l. kept k h l (at_or k at);
  }
    where
      kept : (k : ℕ) → 0 < slice_index ms' k → slice_index ms' k ≤ stamp - 1 → (k ≡ at) ⊎ (k ≢ at) → (slice_index ms' k ≡ slice_index ms k) × (slice_index vs' k ≡ slice_index vs k)
      kept k h l (inl e) = absurd (let its = mark.there k e in omega arith)
      kept k h l (inr ne) =
          let same = mark.elsewhere k ne in
          let was = keeps.old k (omega (arith, same)) (omega (arith, same)) in
          (same ∙ was.0, wrote_number.elsewhere k ne ∙ was.1)

  pub pop-weight : (at : ℕ) → length ms' ≡ length ms → at < length ms → slice_index ms at ≢ stamp → Keeps at stamp vs ms vs₁ ms₁ → Wrote ms₁ at stamp ms' → weight stamp ms' < weight stamp ms
  pop-weight at e l open_at keeps mark =
      weight-falls stamp ms ms' at e l open_at (mark.there at refl)
      (λ k h d. mark.elsewhere k (λ q. omega arith) ∙ keeps.marked k (omega arith) (omega (arith, d)) ∙ d)

-- a term that a computation stands at is not done while t is not
pub standing-open : (nodes : List Node) (r : Reading) (stamp t : ℕ) (vs ms : List ℕ) (clock at : ℕ) → 1 ≤ stamp → Standing nodes r stamp t vs ms clock at → slice_index ms t ≢ stamp → slice_index ms at ≢ stamp
standing-open nodes r stamp t vs ms clock at some s going d = by s.stands
  where
    waits : (k : ℕ) → Path vs ms t k → slice_index ms k ≡ 0
    waits k (top k' e m n) = m
    waits k (up k' next h m n p) = m

    by : (slice_index ms t ≡ stamp) ⊎ (Path vs ms t at) → ⊥
    by (inl e) = going e
    by (inr p) = let zero_mark = waits at p in omega (arith, d)
