-- Clauses that rest, as the trail grows and as watches move.
use Rattle.std.proofs.Common.{◌≡◌, ◌≢◌, ◌⊎◌, ℕ, ◌+◌, ◌<◌, ◌≤◌, Bool, true, false, ◌||◌, List, [], ◌++◌, length, take, get_or, ℤ, neg_ℤ, refl, sym, ◌∙◌, ap, subst, inl, inr, arith, length-append}
use Rattle.std.proofs.lemmas.Bool.{cases_eq, false≢true, false_from_ne_true, or_cases}
use Rattle.std.proofs.lemmas.List.{take-append-le, take_all, get_or_default}
use Rattle.std.proofs.lemmas.List.Elements.{All-weaker}
use Rattle.std.specs.List.{All}
use Rattle.std.specs.Ordering.{int_eq}
use Rattle.hk_cnf.specs.declared.hint.Hint.TheVariants.{Other}
use Rattle.hk_cnf.specs.Literal.{IsWithin, has}
use Rattle.hk_cnf.specs.Hint.{hint_of}
use Rattle.hk_cnf.proofs.Members.{has-left, int_eq-is}
use Rattle.hk_cnf.proofs.Tells.{hint-single, hint-false, hint-several}
use Rattle.hk_cdcl.specs.Records.{pair_at, Pair}
use Rattle.hk_cdcl.specs.Watches.{Watch, watches_of, watch_at}
use Rattle.hk_cdcl.specs.Fresh.{AreQuiet}
use Rattle.hk_cdcl.specs.Path.{Path, IsPath, AreApart, Extends, with_step, lit_at}
use Rattle.hk_cdcl.specs.Propagation.{IsConflict}
use Rattle.hk_cdcl.specs.Watching.{clause_no, Lists, IsOpen, IsTrueIn, Rests, AreWatched, AreResting, AreLater, IsAtHead}
use Rattle.hk_cdcl.proofs.Places.{has-more, apart-consistent, neg-neg}
use Rattle.hk_cdcl.proofs.Extending.{extends-unit}

-- a literal that all others leave alone is false too, or can be made true
pub implied-conflict : (clauses : List (List ℤ)) (lits : List ℤ) (place : ℕ) (l : ℤ) → place < length clauses → All (λ x. (l ≡ x) ⊎ (has lits (neg_ℤ x) ≡ true)) (clause_no clauses place) → has lits (neg_ℤ l) ≡ true → IsConflict clauses lits place
implied-conflict clauses lits place l inside others e =
    record {
      inside = inside;
      falsified = hint-false (has lits) (clause_no clauses place) (All-weaker (λ x. (l ≡ x) ⊎ (has lits (neg_ℤ x) ≡ true)) (λ x. has lits (neg_ℤ x) ≡ true) (λ x k. pick x k) (clause_no clauses place) others);
    }
  where
    pick : (x : ℤ) → (l ≡ x) ⊎ (has lits (neg_ℤ x) ≡ true) → has lits (neg_ℤ x) ≡ true
    pick x (inl s) = subst (λ y. has lits (neg_ℤ y) ≡ true) s e
    pick x (inr h) = h

pub implied-step : (clauses : List (List ℤ)) (p : Path) (place : ℕ) (l : ℤ) → place < length clauses → has (clause_no clauses place) l ≡ true → All (λ x. (l ≡ x) ⊎ (has p.lits (neg_ℤ x) ≡ true)) (clause_no clauses place) → has p.lits l ≡ false → has p.lits (neg_ℤ l) ≡ false → Extends clauses p (with_step p l (place + 1))
implied-step clauses p place l inside member others a b =
    extends-unit clauses p place l inside (hint-single (has p.lits) l (clause_no clauses place) (record { member = member; others = others; not_true = a; not_false = b }))

-- more literals
pub true-append : (lits more c : List ℤ) → IsTrueIn lits c → IsTrueIn (lits ++ more) c
true-append lits more c h = record { literal = h.literal; member = h.member; holds = has-left lits more h.literal h.holds }

pub rests-append : (seen lits more c : List ℤ) (pair : Pair) → Rests seen lits c pair → Rests seen (lits ++ more) c pair
rests-append seen lits more c pair (inl o) = inl o
rests-append seen lits more c pair (inr h) = inr (true-append lits more c h)

pub resting-append : (clauses : List (List ℤ)) (pairs : List Pair) (lits more : List ℤ) (head : ℕ) → head ≤ length lits → AreResting clauses pairs lits head → AreResting clauses pairs (lits ++ more) head
resting-append clauses pairs lits more head le h =
    record {
      each = λ k lt. subst (λ f. Rests f (lits ++ more) (clause_no clauses k) (pair_at pairs k)) (sym (take-append-le head lits more le))
          (rests-append (take head lits) lits more (clause_no clauses k) (pair_at pairs k) (h.each k lt));
    }

pub later-append : (clauses : List (List ℤ)) (lists : List (List Watch)) (pairs : List Pair) (lits more : List ℤ) (head : ℕ) (l : ℤ) (from : ℕ) → head < length lits → AreLater clauses lists pairs lits head l from → AreLater clauses lists pairs (lits ++ more) head l from
later-append clauses lists pairs lits more head l from lt h = record { each = λ k b. pick k (h.each k b) }
  where
    pick : (k : ℕ) → Rests (take (head + 1) lits) lits (clause_no clauses k) (pair_at pairs k) ⊎ Lists (watches_of lists l) from k → Rests (take (head + 1) (lits ++ more)) (lits ++ more) (clause_no clauses k) (pair_at pairs k) ⊎ Lists (watches_of lists l) from k
    pick k (inl r) = inl (subst (λ f. Rests f (lits ++ more) (clause_no clauses k) (pair_at pairs k)) (sym (take-append-le (head + 1) lits more (omega (arith, lt)))) (rests-append (take (head + 1) lits) lits more (clause_no clauses k) (pair_at pairs k) r))
    pick k (inr r) = inr r

pub watched-append : (clauses : List (List ℤ)) (lists : List (List Watch)) (pairs : List Pair) (ends : List ℕ) (lits more : List ℤ) → AreWatched clauses lists pairs ends lits → AreWatched clauses lists pairs ends (lits ++ more)
watched-append clauses lists pairs ends lits more h =
    record {
      count = h.count;
      watches = h.watches;
      paired = h.paired;
      rising = h.rising;
      inside = λ i d lt. let b : get_or ends i d ≤ length lits = h.inside i d lt in let n : length (lits ++ more) ≡ length lits + length more = length-append lits more in omega (arith, b, n);
      ended = λ k b i d lt. subst (λ f. Rests f f (clause_no clauses k) (pair_at pairs k)) (sym (take-append-le (get_or ends i d) lits more (h.inside i d lt))) (h.ended k b i d lt);
    }

-- where a clause that was looked at is true
pub later-stays : (clauses : List (List ℤ)) (lists : List (List Watch)) (pairs : List Pair) (lits : List ℤ) (head : ℕ) (l : ℤ) (from : ℕ) → IsTrueIn lits (clause_no clauses (watch_at (watches_of lists l) from).clause) → AreLater clauses lists pairs lits head l from → AreLater clauses lists pairs lits head l (from + 1)
later-stays clauses lists pairs lits head l from t h = record { each = λ k b. pick k (h.each k b) }
  where
    place : (k : ℕ) → (r : Lists (watches_of lists l) from k) → (r.place ≡ from) ⊎ (r.place ≢ from) → Rests (take (head + 1) lits) lits (clause_no clauses k) (pair_at pairs k) ⊎ Lists (watches_of lists l) (from + 1) k
    place k r (inl e) = inl (inr (subst (λ i. IsTrueIn lits (clause_no clauses i)) (ap (λ i. (watch_at (watches_of lists l) i).clause) (sym e) ∙ r.is) t))
    place k r (inr d) = inr (record { place = r.place; after = let a : from ≤ r.place = r.after in omega (arith, a, d); inside = r.inside; is = r.is })

    pick : (k : ℕ) → Rests (take (head + 1) lits) lits (clause_no clauses k) (pair_at pairs k) ⊎ Lists (watches_of lists l) from k → Rests (take (head + 1) lits) lits (clause_no clauses k) (pair_at pairs k) ⊎ Lists (watches_of lists l) (from + 1) k
    pick k (inl r) = inl r
    pick k (inr r) = place k r (cases_eq r.place from)

-- before the first watch of l is looked at: a clause that does not rest behind `head` watches l
pub has-head : (lits : List ℤ) (head : ℕ) (x : ℤ) → head < length lits → has (take head lits) x ≡ false → has (take (head + 1) lits) x ≡ true → x ≡ lit_at lits head
has-head lits head x lt a b = pick (or_cases (has (take head lits) x) (int_eq x (lit_at lits head) || false) (sym (has-more lits head x lt) ∙ b))
  where
    pick : (has (take head lits) x ≡ true) ⊎ ((int_eq x (lit_at lits head) || false) ≡ true) → x ≡ lit_at lits head
    pick (inl e) = absurd (false≢true (sym a ∙ e))
    pick (inr e) = choose (or_cases (int_eq x (lit_at lits head)) false e)
      where
        choose : (int_eq x (lit_at lits head) ≡ true) ⊎ (false ≡ true) → x ≡ lit_at lits head
        choose (inl f) = int_eq-is x (lit_at lits head) f
        choose (inr f) = absurd (false≢true f)

pub neg-same : (k l : ℤ) → neg_ℤ k ≡ neg_ℤ l → k ≡ l
neg-same k l e = sym (neg-neg k) ∙ (ap neg_ℤ e ∙ neg-neg l)

pub later-begins : (clauses : List (List ℤ)) (lists : List (List Watch)) (pairs : List Pair) (ends : List ℕ) (lits : List ℤ) (head : ℕ) (l : ℤ) → AreWatched clauses lists pairs ends lits → AreResting clauses pairs lits head → IsAtHead lits head l → AreLater clauses lists pairs lits head l 0
later-begins clauses lists pairs ends lits head l h r at = record { each = λ k b. pick k b (r.each k b) }
  where
    listed : (k : ℕ) (x : ℤ) → neg_ℤ x ≡ lit_at lits head → Lists (watches_of lists x) 0 k → Lists (watches_of lists l) 0 k
    listed k x e w = subst (λ y. Lists (watches_of lists y) 0 k) (neg-same x l (e ∙ at.is)) w

    two : (k : ℕ) → (b : k < length pairs) → IsOpen (take head lits) (pair_at pairs k) → (u v : Bool) → has (take (head + 1) lits) (neg_ℤ (pair_at pairs k).first) ≡ u → has (take (head + 1) lits) (neg_ℤ (pair_at pairs k).second) ≡ v → Rests (take (head + 1) lits) lits (clause_no clauses k) (pair_at pairs k) ⊎ Lists (watches_of lists l) 0 k
    two k b o true v e f = inr (listed k (pair_at pairs k).first (has-head lits head (neg_ℤ (pair_at pairs k).first) at.inside o.first_left e) (h.paired k b).first_listed)
    two k b o false true e f = inr (listed k (pair_at pairs k).second (has-head lits head (neg_ℤ (pair_at pairs k).second) at.inside o.second_left f) (h.paired k b).second_listed)
    two k b o false false e f = inl (inl (record { apart = o.apart; first_left = e; second_left = f }))

    pick : (k : ℕ) → k < length pairs → Rests (take head lits) lits (clause_no clauses k) (pair_at pairs k) → Rests (take (head + 1) lits) lits (clause_no clauses k) (pair_at pairs k) ⊎ Lists (watches_of lists l) 0 k
    pick k b (inl o) = two k b o (has (take (head + 1) lits) (neg_ℤ (pair_at pairs k).first)) (has (take (head + 1) lits) (neg_ℤ (pair_at pairs k).second)) refl refl
    pick k b (inr t) = inl (inr t)

-- behind the last watch of l all clauses rest
pub later-ends : (clauses : List (List ℤ)) (lists : List (List Watch)) (pairs : List Pair) (lits : List ℤ) (head : ℕ) (l : ℤ) (from : ℕ) → length (watches_of lists l) ≤ from → AreLater clauses lists pairs lits head l from → AreResting clauses pairs lits (head + 1)
later-ends clauses lists pairs lits head l from le h = record { each = λ k b. pick k (h.each k b) }
  where
    pick : (k : ℕ) → Rests (take (head + 1) lits) lits (clause_no clauses k) (pair_at pairs k) ⊎ Lists (watches_of lists l) from k → Rests (take (head + 1) lits) lits (clause_no clauses k) (pair_at pairs k)
    pick k (inl r) = r
    pick k (inr r) = let a : from ≤ r.place = r.after in let b : r.place < length (watches_of lists l) = r.inside in absurd (omega (arith, a, b, le))

-- a clause that rests leaves nothing to do
pub rests-quiet : (vars : ℕ) (lits c : List ℤ) (pair : Pair) → All (IsWithin vars) lits → AreApart lits → has c pair.first ≡ true → has c pair.second ≡ true → Rests lits lits c pair → hint_of (has lits) c ≡ Other
rests-quiet vars lits c pair w apart a b (inl o) =
    hint-several (has lits) c (record { one = pair.first; two = pair.second; one_member = a; two_member = b; one_left = o.first_left; two_left = o.second_left; no_unit = inr o.apart })
rests-quiet vars lits c pair w apart a b (inr t) =
    let left : has lits (neg_ℤ t.literal) ≡ false = false_from_ne_true (has lits (neg_ℤ t.literal)) (λ e. apart-consistent vars lits t.literal w apart t.holds e) in
    hint-several (has lits) c (record { one = t.literal; two = t.literal; one_member = t.member; two_member = t.member; one_left = left; two_left = left; no_unit = inl t.holds })

pub resting-quiet : (clauses : List (List ℤ)) (lists : List (List Watch)) (pairs : List Pair) (ends : List ℕ) (p : Path) (head : ℕ) → IsPath p → AreWatched clauses lists pairs ends p.lits → AreResting clauses pairs p.lits head → length p.lits ≤ head → length clauses ≤ length pairs → AreQuiet (has p.lits) clauses
resting-quiet clauses lists pairs ends p head path h r le all = λ k d lt.
    let b : k < length pairs = omega (arith, lt, all) in
    let q : hint_of (has p.lits) (clause_no clauses k) ≡ Other = rests-quiet p.vars p.lits (clause_no clauses k) (pair_at pairs k) path.within path.apart (h.paired k b).first (h.paired k b).second
    (subst (λ f. Rests f p.lits (clause_no clauses k) (pair_at pairs k)) (take_all head p.lits le) (r.each k b)) in
    ap (hint_of (has p.lits)) (default-is k d lt) ∙ q
  where
    default-is : (k : ℕ) (d : List ℤ) → k < length clauses → get_or clauses k d ≡ get_or clauses k []
    default-is k d lt = get_or_default clauses k d [] lt
