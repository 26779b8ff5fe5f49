-- Clauses that come under watch, and the ends at which nothing was left to do.
use Rattle.std.proofs.Common.{◌≡◌, ◌≢◌, ◌⊎◌, ℕ, ◌+◌, ◌-◌, ◌*◌, ◌<◌, ◌≤◌, Bool, true, false, List, [], ◌∷◌, ◌++◌, length, take, drop, min, get_or, ℤ, pos, neg_ℤ, Option, Some, None, MatchOption, IfSome, refl, sym, ◌∙◌, ap, subst, inl, inr, arith, length-append}
use Rattle.std.proofs.lemmas.Bool.{cases_lt, false_from_ne_true}
use Rattle.std.proofs.lemmas.List.{take_all, length-take, length-take-le, get_or_default, get_or-take, get_or_append_left, get_or-append-add, length_push, take-append-drop, take-take, take-append-le, take_more}
use Rattle.std.proofs.Math.ListN.{length-set}
use Rattle.std.proofs.lemmas.List.Elements.{All-weaker, All-push, All-nil, All-take}
use Rattle.std.proofs.lemmas.List.Quantifiers.{all_pairs_push}
use Rattle.std.specs.List.{All, AllPairs}
use Rattle.std.specs.Ordering.{int_eq}
use Rattle.hk_cnf.specs.Literal.{IsWithin, place_of, code_of, has}
use Rattle.hk_cnf.proofs.Members.{int_eq-is, int_eq-not, all-has}
use Rattle.hk_cnf.specs.Clauses.{AreWithin}
use Rattle.hk_cnf.proofs.Tells.{hint-false}
use Rattle.hk_cdcl.specs.Records.{text_at, pair_at, Pair}
use Rattle.hk_cdcl.specs.Watches.{Plain, with_watch, with_both, Watch, watches_of, AreCleared, IsSame}
use Rattle.hk_cdcl.specs.declared.watched.Watched.{Watched}
use Rattle.hk_cdcl.specs.Fresh.{AreQuiet}
use Rattle.hk_cdcl.specs.Path.{Path, IsPath, Extends, lit_at}
use Rattle.hk_cdcl.specs.Propagation.{Grown, IsConflict}
use Rattle.hk_cdcl.specs.Watching.{clause_no, Lists, IsWatch, IsPair, IsOpen, Rests, AreWatched, AreTexts, AreResting, IsAttached, Watching, Fits, Propagating, IsBeside, IsFront, IsEnded, EndsMore, Begins}
use Rattle.hk_cdcl.proofs.Places.{has-place, at-take, apart-consistent, place_of-neg}
use Rattle.hk_cdcl.proofs.Extending.{extends-longer}
use Rattle.hk_cdcl.proofs.Leveling.{has-longer}
use Rattle.hk_cdcl.proofs.Relisting.{lists-same, lists-other, lists-push, lists-last}
use Rattle.hk_cdcl.proofs.Resting.{watched-append, resting-append, resting-quiet}
use Rattle.hk_cdcl.proofs.Moving.{front-left, other-within, code-inside, members-nonzero}

-- the ends up to one that is at most the bound
pub until : (ends : List ℕ) (count bound : ℕ) → AllPairs (λ d e. d < e) ends → count ≤ length ends → 0 < count → get_or ends (count - 1) 0 ≤ bound → All (λ e. e ≤ bound) (take count ends)
until ends count bound rising inside some le = λ k d b.
    let n : length (take count ends) ≡ count = length-take-le count ends inside in
    let c : k < count = omega (arith, b, n) in
    pick k d c (cases_lt k (count - 1))
  where
    last : (d : ℕ) → get_or ends (count - 1) d ≡ get_or ends (count - 1) 0
    last d = get_or_default ends (count - 1) d 0 (omega (arith, inside, some))

    pick : (k d : ℕ) → k < count → (k < count - 1) ⊎ (count - 1 ≤ k) → get_or (take count ends) k d ≤ bound
    pick k d c (inl l) =
        let s : get_or (take count ends) k d ≡ get_or ends k d = get_or-take count ends k d c in
        let r : get_or ends k d < get_or ends (count - 1) d = rising k (count - 1) d l (omega (arith, inside, some)) in
        let e : get_or ends (count - 1) d ≡ get_or ends (count - 1) 0 = last d in
        omega (arith, s, r, e, le)
    pick k d c (inr g) =
        let s : get_or (take count ends) k d ≡ get_or ends k d = get_or-take count ends k d c in
        let i : k ≡ count - 1 = omega (arith, g, c) in
        let t : get_or ends k d ≡ get_or ends (count - 1) d = ap (λ j. get_or ends j d) i in
        let e : get_or ends (count - 1) d ≡ get_or ends (count - 1) 0 = last d in
        omega (arith, s, t, e, le)

pub found-within : (vars : ℕ) (o : Option ℤ) (c : List ℤ) (l : ℤ) (P : Type 0) → MatchOption o P (IsBeside c l) → All (IsWithin vars) c → IfSome o (IsWithin vars)
found-within vars None c l P h w = tt
found-within vars (Some x) c l P h w = all-has (IsWithin vars) c x w h.member

pub found-all : (o : Option ℤ) (c : List ℤ) (l : ℤ) (n : ℕ) → length c ≤ n → MatchOption o (All (λ x. l ≡ x) (take n c)) (IsBeside c l) → MatchOption o (All (λ x. l ≡ x) c) (IsBeside c l)
found-all None c l n le h = subst (All (λ x. l ≡ x)) (take_all n c le) h
found-all (Some x) c l n le h = h

-- at the ends before the other literal became false the clause rests
pub ended-lone : (p : Path) (c : List ℤ) (first second : ℤ) (ends new : List ℕ) (count place : ℕ) → IsPath p → has p.lits first ≡ true → IsBeside c first second → ((n : ℕ) → n < length p.lits → place_of (lit_at p.lits n) ≡ place_of second → place ≡ n) → new ≡ take count ends → All (λ e. e ≤ place) (take count ends) → All (λ e. e ≤ length p.lits) ends → IsEnded new p.lits c (record { first = first; second = second })
ended-lone p c first second ends new count place path h b at is low inside =
    record { each = subst (All (λ e. Rests (take e p.lits) (take e p.lits) c (record { first = first; second = second }))) (sym is) (λ i d lt. inl (opens (get_or (take count ends) i d) (low i d lt) (All-take (λ e. e ≤ length p.lits) count ends inside i d lt))) }
  where
    first-left : has p.lits (neg_ℤ first) ≡ false
    first-left = false_from_ne_true (has p.lits (neg_ℤ first)) (λ e. apart-consistent p.vars p.lits first path.within path.apart h e)

    second-left : (e : ℕ) → e ≤ place → e ≤ length p.lits → has (take e p.lits) (neg_ℤ second) ≡ false
    second-left e a b = false_from_ne_true (has (take e p.lits) (neg_ℤ second)) (λ t.
        let m : (m : ℕ) × (m < e) × (lit_at p.lits m ≡ neg_ℤ second) = at-take p.lits e (neg_ℤ second) b (has-place (take e p.lits) (neg_ℤ second) t) in
        let lt : m.0 < e = m.1 in
        let s : place ≡ m.0 = at m.0 (omega (arith, lt, b)) (ap place_of m.2 ∙ place_of-neg second) in
        omega (arith, lt, s, a))

    opens : (e : ℕ) → e ≤ place → e ≤ length p.lits → IsOpen (take e p.lits) (record { first = first; second = second })
    opens e a k = record { apart = b.other; first_left = front-left p.lits e (neg_ℤ first) k first-left; second_left = second-left e a k }

-- a watch came
push-lists : (lists : List (List Watch)) (l : ℤ) (w : Watch) → l ≢ pos 0 → code_of l < length lists → (m : ℤ) (k : ℕ) → m ≢ pos 0 → Lists (watches_of lists m) 0 k → Lists (watches_of (with_watch lists l w) m) 0 k
push-lists lists l w lz lt m k mz r = pick (int_eq m l) refl
  where
    pick : (b : Bool) → int_eq m l ≡ b → Lists (watches_of (with_watch lists l w) m) 0 k
    pick true e =
        let s : m ≡ l = int_eq-is m l e in
        subst (λ x. Lists (watches_of (with_watch lists l w) x) 0 k) (sym s) (subst (λ ws. Lists ws 0 k) (sym (lists-same lists l (watches_of lists l ++ w ∷ []) lt)) (lists-push (watches_of lists l) w 0 k (subst (λ x. Lists (watches_of lists x) 0 k) s r)))
    pick false e = subst (λ ws. Lists ws 0 k) (sym (lists-other lists l m (watches_of lists l ++ w ∷ []) lz mz (int_eq-not m l e))) r

push-last : (lists : List (List Watch)) (l : ℤ) (w : Watch) → code_of l < length lists → Lists (watches_of (with_watch lists l w) l) 0 w.clause
push-last lists l w lt = subst (λ ws. Lists ws 0 w.clause) (sym (lists-same lists l (watches_of lists l ++ w ∷ []) lt)) (lists-last (watches_of lists l) w)

push-watches : (clauses : List (List ℤ)) (count : ℕ) (lists : List (List Watch)) (l : ℤ) (w : Watch) → l ≢ pos 0 → code_of l < length lists → IsWatch clauses count l w → ((m : ℤ) → m ≢ pos 0 → All (IsWatch clauses count m) (watches_of lists m)) → (m : ℤ) → m ≢ pos 0 → All (IsWatch clauses count m) (watches_of (with_watch lists l w) m)
push-watches clauses count lists l w lz lt iw all m mz = pick (int_eq m l) refl
  where
    pick : (b : Bool) → int_eq m l ≡ b → All (IsWatch clauses count m) (watches_of (with_watch lists l w) m)
    pick true e =
        let s : m ≡ l = int_eq-is m l e in
        subst (λ x. All (IsWatch clauses count x) (watches_of (with_watch lists l w) x)) (sym s) (subst (All (IsWatch clauses count l)) (sym (lists-same lists l (watches_of lists l ++ w ∷ []) lt)) (All-push (IsWatch clauses count l) (watches_of lists l) w (all l lz) iw))
    pick false e = subst (All (IsWatch clauses count m)) (sym (lists-other lists l m (watches_of lists l ++ w ∷ []) lz mz (int_eq-not m l e))) (all m mz)

watch-more : (clauses : List (List ℤ)) (count : ℕ) (l : ℤ) (w : Watch) → IsWatch clauses count l w → IsWatch clauses (count + 1) l w
watch-more clauses count l w h = record { inside = let b : w.clause < count = h.inside in omega (arith, b); member = h.member; binary = h.binary }

flip : (c : List ℤ) (a b : ℤ) → All (λ x. (b ≡ x) ⊎ (a ≡ x)) c → All (λ x. (a ≡ x) ⊎ (b ≡ x)) c
flip c a b h = All-weaker (λ x. (b ≡ x) ⊎ (a ≡ x)) (λ x. (a ≡ x) ⊎ (b ≡ x)) (λ x k. pick x k) c h
  where
    pick : (x : ℤ) → (b ≡ x) ⊎ (a ≡ x) → (a ≡ x) ⊎ (b ≡ x)
    pick x (inl e) = inr e
    pick x (inr e) = inl e

-- what the next clause is watched by
pub record Attaches (clauses : List (List ℤ)) (lists : List (List Watch)) (k : ℕ) (first second : ℤ) (binary : Bool) : Type 0 where
  pub inside : k < length clauses
  pub first_member : has (clause_no clauses k) first ≡ true
  pub second_member : has (clause_no clauses k) second ≡ true
  pub first_nonzero : first ≢ pos 0
  pub second_nonzero : second ≢ pos 0
  pub first_inside : code_of first < length lists
  pub second_inside : code_of second < length lists
  pub only : binary ≡ true → All (λ x. (second ≡ x) ⊎ (first ≡ x)) (clause_no clauses k)

pair-last : (pairs : List Pair) (pair : Pair) → pair_at (pairs ++ pair ∷ []) (length pairs) ≡ pair
pair-last pairs pair = ap (λ i. get_or (pairs ++ pair ∷ []) i (record { first = pos 0; second = pos 0 })) (omega arith) ∙ get_or-append-add pairs (pair ∷ []) 0 (record { first = pos 0; second = pos 0 })

pair-first : (pairs : List Pair) (pair : Pair) (k : ℕ) → k < length pairs → pair_at (pairs ++ pair ∷ []) k ≡ pair_at pairs k
pair-first pairs pair k lt = get_or_append_left pairs (pair ∷ []) (record { first = pos 0; second = pos 0 }) k lt

pub watched-attached : (clauses : List (List ℤ)) (lists : List (List Watch)) (pairs : List Pair) (ends : List ℕ) (lits : List ℤ) (first second : ℤ) (binary : Bool) → ((j : ℕ) → j < length pairs → (x : ℤ) → has (clause_no clauses j) x ≡ true → x ≢ pos 0) → AreWatched clauses lists pairs ends lits → Attaches clauses lists (length pairs) first second binary → IsEnded ends lits (clause_no clauses (length pairs)) (record { first = first; second = second }) → AreWatched clauses (with_both lists first second (length pairs) binary) (pairs ++ (record { first = first; second = second }) ∷ []) ends lits
watched-attached clauses lists pairs ends lits first second binary members h a e =
    record {
      count = let b : length pairs < length clauses = a.inside in omega (arith, b, long);
      watches = λ m mz. subst (λ i. All (IsWatch clauses i m) (watches_of (with_both lists first second (length pairs) binary) m)) (sym long) (watches m mz);
      paired = λ j b. paired j b (cases_lt j (length pairs));
      rising = h.rising;
      inside = h.inside;
      ended = λ j b i d lt. ended j b i d lt (cases_lt j (length pairs));
    }
  where
    pair : Pair
    pair = record { first = first; second = second }

    one : Watch
    one = record { blocker = second; clause = length pairs; binary = binary }

    two : Watch
    two = record { blocker = first; clause = length pairs; binary = binary }

    mid : List (List Watch)
    mid = with_watch lists first one

    long : length (pairs ++ (record { first = first; second = second }) ∷ []) ≡ length pairs + 1
    long = length_push pairs pair

    mid-inside : code_of second < length (with_watch lists first (record { blocker = second; clause = length pairs; binary = binary }))
    mid-inside = let n : length (with_watch lists first one) ≡ length lists = length-set lists (code_of first) (watches_of lists first ++ one ∷ []) in let b : code_of second < length lists = a.second_inside in omega (arith, n, b)

    is-one : IsWatch clauses (length pairs + 1) first (record { blocker = second; clause = length pairs; binary = binary })
    is-one = record { inside = omega arith; member = a.second_member; binary = a.only }

    is-two : IsWatch clauses (length pairs + 1) second (record { blocker = first; clause = length pairs; binary = binary })
    is-two = record { inside = omega arith; member = a.first_member; binary = λ b. flip (clause_no clauses (length pairs)) first second (a.only b) }

    watches : (m : ℤ) → m ≢ pos 0 → All (IsWatch clauses (length pairs + 1) m) (watches_of (with_both lists first second (length pairs) binary) m)
    watches m mz = push-watches clauses (length pairs + 1) mid second two a.second_nonzero mid-inside is-two
        (push-watches clauses (length pairs + 1) lists first one a.first_nonzero a.first_inside is-one (λ z zz. All-weaker (IsWatch clauses (length pairs) z) (IsWatch clauses (length pairs + 1) z) (λ w k. watch-more clauses (length pairs) z w k) (watches_of lists z) (h.watches z zz))) m mz

    keeps : (m : ℤ) (k : ℕ) → m ≢ pos 0 → Lists (watches_of lists m) 0 k → Lists (watches_of (with_both lists first second (length pairs) binary) m) 0 k
    keeps m k mz r = push-lists mid second two a.second_nonzero mid-inside m k mz (push-lists lists first one a.first_nonzero a.first_inside m k mz r)

    last : IsPair clauses (with_both lists first second (length pairs) binary) (length pairs) (record { first = first; second = second })
    last = record {
      first = a.first_member;
      second = a.second_member;
      first_listed = push-lists mid second two a.second_nonzero mid-inside first (length pairs) a.first_nonzero (push-last lists first one a.first_inside);
      second_listed = push-last mid second two mid-inside;
    }

    at-last : (j : ℕ) → j < length (pairs ++ (record { first = first; second = second }) ∷ []) → length pairs ≤ j → length pairs ≡ j
    at-last j b le = omega (arith, b, long, le)

    paired : (j : ℕ) → j < length (pairs ++ (record { first = first; second = second }) ∷ []) → (j < length pairs) ⊎ (length pairs ≤ j) → IsPair clauses (with_both lists first second (length pairs) binary) j (pair_at (pairs ++ (record { first = first; second = second }) ∷ []) j)
    paired j b (inl lt) =
        let p : IsPair clauses lists j (pair_at pairs j) = h.paired j lt in
        subst (IsPair clauses (with_both lists first second (length pairs) binary) j) (sym (pair-first pairs pair j lt)) (record {
          first = p.first;
          second = p.second;
          first_listed = keeps (pair_at pairs j).first j (members j lt (pair_at pairs j).first p.first) p.first_listed;
          second_listed = keeps (pair_at pairs j).second j (members j lt (pair_at pairs j).second p.second) p.second_listed;
        })
    paired j b (inr le) =
        subst (λ i. IsPair clauses (with_both lists first second (length pairs) binary) i (pair_at (pairs ++ (record { first = first; second = second }) ∷ []) i)) (at-last j b le)
        (subst (IsPair clauses (with_both lists first second (length pairs) binary) (length pairs)) (sym (pair-last pairs pair)) last)

    ended : (j : ℕ) → j < length (pairs ++ (record { first = first; second = second }) ∷ []) → (i d : ℕ) → i < length ends → (j < length pairs) ⊎ (length pairs ≤ j) → Rests (take (get_or ends i d) lits) (take (get_or ends i d) lits) (clause_no clauses j) (pair_at (pairs ++ (record { first = first; second = second }) ∷ []) j)
    ended j b i d lt (inl l) = subst (Rests (take (get_or ends i d) lits) (take (get_or ends i d) lits) (clause_no clauses j)) (sym (pair-first pairs pair j l)) (h.ended j l i d lt)
    ended j b i d lt (inr le) =
        subst (λ x. Rests (take (get_or ends i d) lits) (take (get_or ends i d) lits) (clause_no clauses x) (pair_at (pairs ++ (record { first = first; second = second }) ∷ []) x)) (at-last j b le)
        (subst (Rests (take (get_or ends i d) lits) (take (get_or ends i d) lits) (clause_no clauses (length pairs))) (sym (pair-last pairs pair)) (e.each i d lt))

pub resting-attached : (clauses : List (List ℤ)) (pairs : List Pair) (lits : List ℤ) (head : ℕ) (pair : Pair) → AreResting clauses pairs lits head → Rests (take head lits) lits (clause_no clauses (length pairs)) pair → AreResting clauses (pairs ++ pair ∷ []) lits head
resting-attached clauses pairs lits head pair h r = record { each = λ j b. pick j b (cases_lt j (length pairs)) }
  where
    pick : (j : ℕ) → j < length (pairs ++ pair ∷ []) → (j < length pairs) ⊎ (length pairs ≤ j) → Rests (take head lits) lits (clause_no clauses j) (pair_at (pairs ++ pair ∷ []) j)
    pick j b (inl lt) = subst (Rests (take head lits) lits (clause_no clauses j)) (sym (pair-first pairs pair j lt)) (h.each j lt)
    pick j b (inr le) =
        let s : length pairs ≡ j = let n : length (pairs ++ pair ∷ []) ≡ length pairs + 1 = length_push pairs pair in omega (arith, b, n, le) in
        subst (λ x. Rests (take head lits) lits (clause_no clauses x) (pair_at (pairs ++ pair ∷ []) x)) s (subst (Rests (take head lits) lits (clause_no clauses (length pairs))) (sym (pair-last pairs pair)) r)

-- fewer ends
pub watched-front : (clauses : List (List ℤ)) (lists : List (List Watch)) (pairs : List Pair) (ends new : List ℕ) (lits : List ℤ) → IsFront ends new → AreWatched clauses lists pairs ends lits → AreWatched clauses lists pairs new lits
watched-front clauses lists pairs ends new lits f h =
    subst (λ es. AreWatched clauses lists pairs es lits) (sym f.is) (record {
      count = h.count;
      watches = h.watches;
      paired = h.paired;
      rising = λ i j d lt b.
          let bj : j < length ends = within j b in
          let jn : j < f.count = under j b in
          let x : get_or (take f.count ends) i d ≡ get_or ends i d = get_or-take f.count ends i d (omega (arith, lt, jn)) in
          let y : get_or (take f.count ends) j d ≡ get_or ends j d = get_or-take f.count ends j d jn in
          let r : get_or ends i d < get_or ends j d = h.rising i j d lt bj in
          omega (arith, x, y, r);
      inside = All-take (λ e. e ≤ length lits) f.count ends h.inside;
      ended = λ k b. All-take (λ e. Rests (take e lits) (take e lits) (clause_no clauses k) (pair_at pairs k)) f.count ends (h.ended k b);
    })
  where
    within : (j : ℕ) → j < length (take f.count ends) → j < length ends
    within j b = grind (arith, length-take)

    under : (j : ℕ) → j < length (take f.count ends) → j < f.count
    under j b = grind (arith, length-take)

-- the last end
last-at : (ends : List ℕ) (d : ℕ) → 0 < length ends → get_or ends (length ends - 1) d ≡ get_or ends (length ends - 1) 0
last-at ends d some = get_or_default ends (length ends - 1) d 0 (omega (arith, some))

rests-whole : (lits : List ℤ) (n : ℕ) (c : List ℤ) (pair : Pair) → n ≤ length lits → Rests (take n lits) (take n lits) c pair → Rests (take n lits) lits c pair
rests-whole lits n c pair le (inl o) = inl o
rests-whole lits n c pair le (inr t) = inr (record { literal = t.literal; member = t.member; holds = subst (λ ls. has ls t.literal ≡ true) (take_all (length lits) lits (omega arith)) (has-longer lits n (length lits) t.literal le (omega arith) t.holds) })

pub begins-last : (clauses : List (List ℤ)) (w : Watched) (lits : List ℤ) (start : ℕ) → 0 < length w.ends.items → start ≡ get_or w.ends.items (length w.ends.items - 1) 0 → Fits w clauses lits → Begins clauses w lits start
begins-last clauses w lits start some e f =
    let h : AreWatched clauses w.watches.lists w.watches.pairs w.ends.items lits = (f some).watched in
    let i : length w.ends.items - 1 < length w.ends.items = omega (arith, some) in
    record {
      inside = subst (λ n. n ≤ length lits) (sym e) (h.inside (length w.ends.items - 1) 0 i);
      watching = f some;
      resting = record {
        each = λ k b. subst (λ n. Rests (take n lits) lits (clause_no clauses k) (pair_at w.watches.pairs k)) (sym e)
            (rests-whole lits (get_or w.ends.items (length w.ends.items - 1) 0) (clause_no clauses k) (pair_at w.watches.pairs k) (h.inside (length w.ends.items - 1) 0 i) (h.ended k b (length w.ends.items - 1) 0 i));
      };
    }

pub begins-none : (clauses : List (List ℤ)) (w u : Watched) (lits : List ℤ) → AreCleared w.watches.lists u.watches.lists → u.watches.pairs ≡ [] → u.watches.texts ≡ [] → u.ends.items ≡ [] → Begins clauses u lits 0
begins-none clauses w u lits c e t f =
    record {
      inside = omega arith;
      watching = record {
        texts = subst (AreTexts clauses) (sym t) (record { is = refl });
        watched = subst (λ ps. AreWatched clauses u.watches.lists ps u.ends.items lits) (sym e) (subst (λ es. AreWatched clauses u.watches.lists [] es lits) (sym f) (record {
          count = omega arith;
          watches = λ l nz. subst (All (IsWatch clauses 0 l)) (sym (c.none (code_of l))) (All-nil (IsWatch clauses 0 l));
          paired = λ k lt. absurd (omega (arith, lt));
          rising = λ i j d a b. absurd (omega (arith, b));
          inside = All-nil (λ n. n ≤ length lits);
          ended = λ k lt. absurd (omega (arith, lt));
        }));
      };
      resting = record { each = λ k lt. absurd (none k lt) };
    }
  where
    none : (k : ℕ) → k < length u.watches.pairs → ⊥
    none k lt = let n : length u.watches.pairs ≡ 0 = ap length e in omega (arith, lt, n)

-- a front of the trail was seen
pub fits-front : (w : Watched) (clauses : List (List ℤ)) (lits : List ℤ) (n : ℕ) → Fits w clauses (take n lits) → Fits w clauses lits
fits-front w clauses lits n f = λ some. record { watched = subst (AreWatched clauses w.watches.lists w.watches.pairs w.ends.items) (take-append-drop n lits) (watched-append clauses w.watches.lists w.watches.pairs w.ends.items (take n lits) (drop n lits) (f some).watched); texts = (f some).texts }

-- an end more
pub watched-end : (clauses : List (List ℤ)) (lists : List (List Watch)) (pairs : List Pair) (ends new : List ℕ) (lits : List ℤ) → AreWatched clauses lists pairs ends lits → AreResting clauses pairs lits (length lits) → EndsMore ends new (length lits) → AreWatched clauses lists pairs new lits
watched-end clauses lists pairs ends new lits h r (inl e) = subst (λ es. AreWatched clauses lists pairs es lits) (sym e) h
watched-end clauses lists pairs ends new lits h r (inr (e, above)) =
    subst (λ es. AreWatched clauses lists pairs es lits) (sym e) (record {
      count = h.count;
      watches = h.watches;
      paired = h.paired;
      rising = all_pairs_push (λ d n. d < n) ends (length lits) h.rising (λ k d lt. below k d lt (cases_lt k (length ends - 1)));
      inside = All-push (λ n. n ≤ length lits) ends (length lits) h.inside (omega arith);
      ended = λ k b. All-push (λ n. Rests (take n lits) (take n lits) (clause_no clauses k) (pair_at pairs k)) ends (length lits) (h.ended k b)
          (subst (λ f. Rests (take (length lits) lits) f (clause_no clauses k) (pair_at pairs k)) (sym (take_all (length lits) lits (omega arith))) (r.each k b));
    })
  where
    below : (k d : ℕ) → k < length ends → (k < length ends - 1) ⊎ (length ends - 1 ≤ k) → get_or ends k d < length lits
    below k d lt (inl l) =
        let a : get_or ends k d < get_or ends (length ends - 1) d = h.rising k (length ends - 1) d l (omega (arith, lt)) in
        let b : get_or ends (length ends - 1) d ≡ get_or ends (length ends - 1) 0 = last-at ends d (omega (arith, lt)) in
        let c : get_or ends (length ends - 1) 0 < length lits = above (omega (arith, lt)) in
        omega (arith, a, b, c)
    below k d lt (inr g) =
        let i : k ≡ length ends - 1 = omega (arith, lt, g) in
        let s : get_or ends k d ≡ get_or ends (length ends - 1) d = ap (λ j. get_or ends j d) i in
        let b : get_or ends (length ends - 1) d ≡ get_or ends (length ends - 1) 0 = last-at ends d (omega (arith, lt)) in
        let c : get_or ends (length ends - 1) 0 < length lits = above (omega (arith, lt)) in
        omega (arith, s, b, c)

-- a shorter trail
pub fits-cut : (w u : Watched) (clauses : List (List ℤ)) (lits : List ℤ) (n count : ℕ) → u.watches ≡ w.watches → u.ends.items ≡ take count w.ends.items → (AllPairs (λ d e. d < e) w.ends.items → All (λ e. e ≤ n) (take count w.ends.items)) → Fits w clauses lits → Fits u clauses (take n lits)
fits-cut w u clauses lits n count ew ee low f = λ some.
    record {
      watched = subst (λ (ws : Plain). AreWatched clauses ws.lists ws.pairs u.ends.items (take n lits)) (sym ew) (subst (λ es. AreWatched clauses w.watches.lists w.watches.pairs es (take n lits)) (sym ee) (shorter (f (more some)).watched));
      texts = subst (λ (ws : Plain). AreTexts clauses ws.texts) (sym ew) (f (more some)).texts;
    }
  where
    more : 0 < length u.ends.items → 0 < length w.ends.items
    more some = let e : length u.ends.items ≡ length (take count w.ends.items) = ap length ee in grind (arith, length-take)

    shorter : AreWatched clauses w.watches.lists w.watches.pairs w.ends.items lits → AreWatched clauses w.watches.lists w.watches.pairs (take count w.ends.items) (take n lits)
    shorter h =
        let g : AreWatched clauses w.watches.lists w.watches.pairs (take count w.ends.items) lits = watched-front clauses w.watches.lists w.watches.pairs w.ends.items (take count w.ends.items) lits (record { count = count; is = refl }) h in
        record {
          count = g.count;
          watches = g.watches;
          paired = g.paired;
          rising = g.rising;
          inside = λ k d lt. let a : get_or (take count w.ends.items) k d ≤ n = low h.rising k d lt in let b : get_or (take count w.ends.items) k d ≤ length lits = g.inside k d lt in let m : length (take n lits) ≡ min n (length lits) = length-take n lits in omega (arith, a, b, m);
          ended = λ k b i d lt. subst (λ t. Rests t t (clause_no clauses k) (pair_at w.watches.pairs k)) (sym (take-take (get_or (take count w.ends.items) i d) n lits (low h.rising i d lt))) (g.ended k b i d lt);
        }

-- the records of the first clauses have their literals, as clauses come
texts-few : (clauses texts : List (List ℤ)) → AreTexts clauses texts → length texts ≤ length clauses
texts-few clauses texts h = let n : length texts ≡ min (length texts) (length clauses) = ap length h.is ∙ length-take (length texts) clauses in omega (arith, n)

texts-grown : (old new texts : List (List ℤ)) → Grown old new → AreTexts old texts → AreTexts new texts
texts-grown old new texts g h = record { is = h.is ∙ (sym (take-append-le (length texts) old g.more (texts-few old texts h)) ∙ ap (λ cs. take (length texts) cs) (sym g.is)) }

texts-push : (clauses texts : List (List ℤ)) (k : ℕ) → k ≡ length texts → k < length clauses → AreTexts clauses texts → AreTexts clauses (texts ++ clause_no clauses k ∷ [])
texts-push clauses texts k e lt h =
    record {
      is = ap (λ ts. ts ++ clause_no clauses k ∷ []) (h.is ∙ ap (λ n. take n clauses) (sym e))
          ∙ (sym (take_more clauses k [] lt) ∙ ap (λ n. take n clauses) (let n : length (texts ++ clause_no clauses k ∷ []) ≡ length texts + 1 = length_push texts (clause_no clauses k) in omega (arith, n, e)));
    }

pub text-is : (clauses texts : List (List ℤ)) (k : ℕ) → k < length texts → AreTexts clauses texts → text_at texts k ≡ clause_no clauses k
text-is clauses texts k lt h = ap (λ ts. get_or ts k []) h.is ∙ get_or-take (length texts) clauses k [] lt

-- more clauses, and more lists
pub fits-grown : (w u : Watched) (old new : List (List ℤ)) (lits : List ℤ) → IsSame w.watches.lists u.watches.lists → u.watches.pairs ≡ w.watches.pairs → u.watches.texts ≡ w.watches.texts → u.ends.items ≡ w.ends.items → Grown old new → Fits w old lits → Fits u new lits
fits-grown w u old new lits s ep et ee g f = λ some.
    let h : Watching old w lits = f (subst (λ es. 0 < length es) ee some) in
    record {
      watched = subst (λ ps. AreWatched new u.watches.lists ps u.ends.items lits) (sym ep) (subst (λ es. AreWatched new u.watches.lists w.watches.pairs es lits) (sym ee) (grown h.watched));
      texts = subst (AreTexts new) (sym et) (texts-grown old new w.watches.texts g h.texts);
    }
  where
    same : (k : ℕ) → k < length old → clause_no new k ≡ clause_no old k
    same k lt = ap (λ cs. get_or cs k []) g.is ∙ get_or_append_left old g.more [] k lt

    longer : length old ≤ length new
    longer = let n : length new ≡ length old + length g.more = ap length g.is ∙ length-append old g.more in omega (arith, n)

    listed : (l : ℤ) (k : ℕ) → Lists (watches_of w.watches.lists l) 0 k → Lists (watches_of u.watches.lists l) 0 k
    listed l k r = subst (λ ws. Lists ws 0 k) (sym (s.same l)) r

    grown : AreWatched old w.watches.lists w.watches.pairs w.ends.items lits → AreWatched new u.watches.lists w.watches.pairs w.ends.items lits
    grown h =
        record {
          count = let c : length w.watches.pairs ≤ length old = h.count in omega (arith, c, longer);
          watches = λ l nz. subst (All (IsWatch new (length w.watches.pairs) l)) (sym (s.same l)) (All-weaker (IsWatch old (length w.watches.pairs) l) (IsWatch new (length w.watches.pairs) l) (λ x k. watch h l x k) (watches_of w.watches.lists l) (h.watches l nz));
          paired = λ k b.
              let p : IsPair old w.watches.lists k (pair_at w.watches.pairs k) = h.paired k b in
              let e : clause_no new k ≡ clause_no old k = same k (let c : length w.watches.pairs ≤ length old = h.count in omega (arith, b, c)) in
              record {
                first = ap (λ c. has c (pair_at w.watches.pairs k).first) e ∙ p.first;
                second = ap (λ c. has c (pair_at w.watches.pairs k).second) e ∙ p.second;
                first_listed = listed (pair_at w.watches.pairs k).first k p.first_listed;
                second_listed = listed (pair_at w.watches.pairs k).second k p.second_listed;
              };
          rising = h.rising;
          inside = h.inside;
          ended = λ k b i d lt. subst (λ c. Rests (take (get_or w.ends.items i d) lits) (take (get_or w.ends.items i d) lits) c (pair_at w.watches.pairs k)) (sym (same k (let c : length w.watches.pairs ≤ length old = h.count in omega (arith, b, c)))) (h.ended k b i d lt);
        }
      where
        watch : AreWatched old w.watches.lists w.watches.pairs w.ends.items lits → (l : ℤ) (x : Watch) → IsWatch old (length w.watches.pairs) l x → IsWatch new (length w.watches.pairs) l x
        watch h l x k =
            let e : clause_no new x.clause ≡ clause_no old x.clause = same x.clause (let c : length w.watches.pairs ≤ length old = h.count in let b : x.clause < length w.watches.pairs = k.inside in omega (arith, b, c)) in
            record {
              inside = k.inside;
              member = ap (λ c. has c x.blocker) e ∙ k.member;
              binary = λ t. subst (All (λ y. (x.blocker ≡ y) ⊎ (l ≡ y))) (sym e) (k.binary t);
            }

-- what a clause is attached by
pub attaches-of : (clauses : List (List ℤ)) (vars : ℕ) (w : Watched) (p : Path) (head k : ℕ) (first second : ℤ) (binary : Bool) → AreWithin vars clauses → p.vars ≡ vars → Propagating clauses w p head → k < length clauses → has (clause_no clauses k) first ≡ true → has (clause_no clauses k) second ≡ true → (binary ≡ true → All (λ x. (second ≡ x) ⊎ (first ≡ x)) (clause_no clauses k)) → Attaches clauses w.watches.lists k first second binary
attaches-of clauses vars w p head k first second binary within ev h lt a b only =
    let wa : IsWithin p.vars first = other-within clauses vars k p first ev within lt a in
    let wb : IsWithin p.vars second = other-within clauses vars k p second ev within lt b in
    record {
      inside = lt;
      first_member = a;
      second_member = b;
      first_nonzero = wa.literal.nonzero;
      second_nonzero = wb.literal.nonzero;
      first_inside = code-inside p.vars w.watches.lists first wa h.sized;
      second_inside = code-inside p.vars w.watches.lists second wb h.sized;
      only = only;
    }

pub propagating-attached : (clauses : List (List ℤ)) (vars : ℕ) (w u : Watched) (p : Path) (head k : ℕ) (first second : ℤ) (at : IsAttached (clause_no clauses k) w.watches u.watches first second) → k ≡ length w.watches.pairs → AreWithin vars clauses → Propagating clauses w p head → Attaches clauses w.watches.lists k first second at.binary → IsFront w.ends.items u.ends.items → IsEnded u.ends.items p.lits (clause_no clauses k) (record { first = first; second = second }) → Rests (take head p.lits) p.lits (clause_no clauses k) (record { first = first; second = second }) → Propagating clauses u p head
propagating-attached clauses vars w u p head k first second at ek within h a front ended rests =
    record {
      sized = let s : 2 * p.vars ≤ length w.watches.lists = h.sized in omega (arith, s, long);
      inside = h.inside;
      watching = record {
        watched = subst (λ ws. AreWatched clauses ws u.watches.pairs u.ends.items p.lits) (sym at.lists) (subst (λ ps. AreWatched clauses (with_both w.watches.lists first second (length w.watches.pairs) at.binary) ps u.ends.items p.lits) (sym at.pairs)
            (watched-attached clauses w.watches.lists w.watches.pairs u.ends.items p.lits first second at.binary (members-nonzero vars clauses (length w.watches.pairs) within h.watching.watched.count)
            (watched-front clauses w.watches.lists w.watches.pairs w.ends.items u.ends.items p.lits front h.watching.watched) (subst (λ i. Attaches clauses w.watches.lists i first second at.binary) ek a)
            (subst (λ i. IsEnded u.ends.items p.lits (clause_no clauses i) (record { first = first; second = second })) ek ended)));
        texts = subst (AreTexts clauses) (sym at.texts) (texts-push clauses w.watches.texts k (ek ∙ sym at.count) a.inside h.watching.texts);
      };
      resting = subst (λ ps. AreResting clauses ps p.lits head) (sym at.pairs) (resting-attached clauses w.watches.pairs p.lits head (record { first = first; second = second }) h.resting (subst (λ i. Rests (take head p.lits) p.lits (clause_no clauses i) (record { first = first; second = second })) ek rests));
    }
  where
    one : Watch
    one = record { blocker = second; clause = length w.watches.pairs; binary = at.binary }

    long : length u.watches.lists ≡ length w.watches.lists
    long = ap length at.lists ∙ (length-set (with_watch w.watches.lists first one) (code_of second) (watches_of (with_watch w.watches.lists first one) second ++ (record { blocker = first; clause = length w.watches.pairs; binary = at.binary }) ∷ []) ∙ length-set w.watches.lists (code_of first) (watches_of w.watches.lists first ++ one ∷ []))

pub front-whole : (ends : List ℕ) → IsFront ends ends
front-whole ends = record { count = length ends; is = sym (take_all (length ends) ends (omega arith)) }

-- two literals that are not false rest at each end
pub open-ended : (lits c : List ℤ) (ends : List ℕ) (first second : ℤ) → first ≢ second → has lits (neg_ℤ first) ≡ false → has lits (neg_ℤ second) ≡ false → All (λ e. e ≤ length lits) ends → IsEnded ends lits c (record { first = first; second = second })
open-ended lits c ends first second d a b inside =
    record { each = λ i d' lt. inl (record { apart = d; first_left = front-left lits (get_or ends i d') (neg_ℤ first) (inside i d' lt) a; second_left = front-left lits (get_or ends i d') (neg_ℤ second) (inside i d' lt) b }) }

pub open-rests : (lits c : List ℤ) (head : ℕ) (first second : ℤ) → head ≤ length lits → first ≢ second → has lits (neg_ℤ first) ≡ false → has lits (neg_ℤ second) ≡ false → Rests (take head lits) lits c (record { first = first; second = second })
open-rests lits c head first second le d a b = inl (record { apart = d; first_left = front-left lits head (neg_ℤ first) le a; second_left = front-left lits head (neg_ℤ second) le b })

-- as the trail grows
pub propagating-extends : (clauses : List (List ℤ)) (w : Watched) (p q : Path) (head : ℕ) → Propagating clauses w p head → Extends clauses p q → Propagating clauses w q head
propagating-extends clauses w p q head h e =
    record {
      sized = subst (λ v. 2 * v ≤ length w.watches.lists) (sym e.vars) h.sized;
      inside = let g : length p.lits ≤ length q.lits = extends-longer clauses p q e in let b : head ≤ length p.lits = h.inside in omega (arith, b, g);
      watching = record { watched = subst (AreWatched clauses w.watches.lists w.watches.pairs w.ends.items) (sym e.lits) (watched-append clauses w.watches.lists w.watches.pairs w.ends.items p.lits e.more h.watching.watched); texts = h.watching.texts };
      resting = subst (λ ls. AreResting clauses w.watches.pairs ls head) (sym e.lits) (resting-append clauses w.watches.pairs p.lits e.more head h.inside h.resting);
    }

-- a clause of which one literal alone was left
pub propagating-lone : (clauses : List (List ℤ)) (vars : ℕ) (w v u : Watched) (p q : Path) (head k : ℕ) (first second : ℤ) → k ≡ length w.watches.pairs → AreWithin vars clauses → p.vars ≡ vars → Propagating clauses w p head → k < length clauses → Extends clauses p q → has q.lits first ≡ true → has (clause_no clauses k) first ≡ true → has (clause_no clauses k) second ≡ true → v.watches ≡ w.watches → IsFront w.ends.items v.ends.items → (AllPairs (λ d e. d < e) w.ends.items → All (λ e. e ≤ length q.lits) w.ends.items → IsEnded v.ends.items q.lits (clause_no clauses k) (record { first = first; second = second })) → IsAttached (clause_no clauses k) v.watches u.watches first second → u.ends ≡ v.ends → Propagating clauses u q head
propagating-lone clauses vars w v u p q head k first second ek within ev h lt e holds a b vw vf ended at ue =
    let hq : Propagating clauses w q head = propagating-extends clauses w p q head h e in
    let am : IsAttached (clause_no clauses k) w.watches u.watches first second = subst (λ (ws : Plain). IsAttached (clause_no clauses k) ws u.watches first second) vw at in
    propagating-attached clauses vars w u q head k first second am ek within hq
    (attaches-of clauses vars w q head k first second am.binary within (e.vars ∙ ev) hq lt a b am.only)
    (subst (λ es. IsFront w.ends.items (es).items) (sym ue) vf)
    (subst (λ es. IsEnded (es).items q.lits (clause_no clauses k) (record { first = first; second = second })) (sym ue) (ended hq.watching.watched.rising hq.watching.watched.inside))
    (inr (record { literal = first; member = a; holds = holds }))

-- the next clause is false
pub next-false : (clauses : List (List ℤ)) (lits : List ℤ) (k : ℕ) → k < length clauses → All (λ x. has lits (neg_ℤ x) ≡ true) (clause_no clauses k) → IsConflict clauses lits k
next-false clauses lits k lt h = record { inside = lt; falsified = hint-false (has lits) (clause_no clauses k) h }

pub propagating-begins : (clauses : List (List ℤ)) (w : Watched) (p : Path) (start : ℕ) → Begins clauses w p.lits start → 2 * p.vars ≤ length w.watches.lists → Propagating clauses w p start
propagating-begins clauses w p start h s = record { sized = s; inside = h.inside; watching = h.watching; resting = h.resting }

pub ended-quiet : (clauses : List (List ℤ)) (w u : Watched) (p : Path) → IsPath p → Propagating clauses w p (length p.lits) → length clauses ≤ length w.watches.pairs → u.watches ≡ w.watches → EndsMore w.ends.items u.ends.items (length p.lits) → Watching clauses u p.lits × AreQuiet (has p.lits) clauses
ended-quiet clauses w u p path h all ew ee = (
  record {
    watched = subst (λ (ws : Plain). AreWatched clauses ws.lists ws.pairs u.ends.items p.lits) (sym ew) (watched-end clauses w.watches.lists w.watches.pairs w.ends.items u.ends.items p.lits h.watching.watched h.resting ee);
    texts = subst (λ (ws : Plain). AreTexts clauses ws.texts) (sym ew) h.watching.texts;
  },
  resting-quiet clauses w.watches.lists w.watches.pairs w.ends.items p (length p.lits) path h.watching.watched h.resting (omega arith) all,
)
