-- A clause that is watched elsewhere.
use Rattle.std.proofs.Common.{◌≡◌, ◌≢◌, ◌⊎◌, ℕ, ◌+◌, ◌*◌, ◌<◌, ◌≤◌, Bool, true, false, List, [], ◌∷◌, ◌++◌, length, take, set, get_or, ℤ, pos, neg_ℤ, refl, sym, ◌∙◌, ap, subst, inl, inr, arith}
use Rattle.std.proofs.lemmas.Bool.{cases_eq, false≢true, false_from_ne_true}
use Rattle.std.proofs.lemmas.List.{take_all, get_or-set_same, get_or-set_other, get_or_append_left}
use Rattle.std.proofs.Math.ListN.{length-set}
use Rattle.std.proofs.lemmas.List.Elements.{All-weaker}
use Rattle.std.specs.List.{All}
use Rattle.hk_cnf.specs.Literal.{IsWithin, code_of, has}
use Rattle.hk_cnf.specs.Clauses.{AreWithin}
use Rattle.hk_cnf.proofs.Members.{all-has}
use Rattle.hk_cdcl.specs.Looking.{IsOther, IsOtherOf}
use Rattle.hk_cdcl.specs.Records.{pair_at, Pair}
use Rattle.hk_cdcl.specs.Watches.{IsMoved, Watch, watches_of, watch_at}
use Rattle.hk_cdcl.specs.declared.watched.Watched.{Watched}
use Rattle.hk_cdcl.specs.Path.{Path, IsPath, Extends, lit_at}
use Rattle.hk_cdcl.specs.Watching.{clause_no, Lists, IsWatch, IsPair, IsOpen, IsTrueIn, Rests, AreWatched, AreTexts, AreResting, AreLater, IsAtHead, Moves, Propagating, Turning, Visited, Settled, Fewer}
use Rattle.hk_cdcl.specs.Propagation.{IsConflict}
use Rattle.hk_cdcl.specs.declared.watched.Visit.{Visit}
use Rattle.hk_cdcl.specs.declared.watched.Visit.TheVariants.{Stays, Goes, Stops, Wants}
use Rattle.hk_cdcl.proofs.Places.{neg-neg, within-neg, has-member, code_of-below}
use Rattle.hk_cdcl.proofs.Extending.{extends-longer}
use Rattle.hk_cdcl.proofs.Leveling.{has-longer}
use Rattle.hk_cdcl.proofs.Resting.{has-head, neg-same, watched-append, resting-append, later-append, later-stays, later-begins, later-ends}
use Rattle.hk_cdcl.proofs.Relisting.{moved-lists, moved-watches, lists-last, length-removed}

pub front-left : (lits : List ℤ) (n : ℕ) (x : ℤ) → n ≤ length lits → has lits x ≡ false → has (take n lits) x ≡ false
front-left lits n x le h = false_from_ne_true (has (take n lits) x) (λ e. false≢true (sym h ∙ whole e))
  where
    whole : has (take n lits) x ≡ true → has lits x ≡ true
    whole e = subst (λ ls. has ls x ≡ true) (take_all (length lits) lits (omega arith)) (has-longer lits n (length lits) x le (omega arith) e)

other-left : (f : List ℤ) (pair : Pair) (l other : ℤ) → IsOtherOf pair l other → IsOpen f pair → has f (neg_ℤ other) ≡ false
other-left f pair l other o h = pick o.is
  where
    pick : ((pair.first ≡ l) × (pair.second ≡ other)) ⊎ ((pair.first ≡ other) × (pair.second ≡ l)) → has f (neg_ℤ other) ≡ false
    pick (inl (a, b)) = ap (λ x. has f (neg_ℤ x)) (sym b) ∙ h.second_left
    pick (inr (a, b)) = ap (λ x. has f (neg_ℤ x)) (sym a) ∙ h.first_left

open-moved : (f : List ℤ) (next other : ℤ) → other ≢ next → has f (neg_ℤ next) ≡ false → has f (neg_ℤ other) ≡ false → IsOpen f (record { first = next; second = other })
open-moved f next other d a b = record { apart = λ e. d (sym e); first_left = a; second_left = b }

rests-moved : (f lits c : List ℤ) (pair : Pair) (l other next : ℤ) → IsOtherOf pair l other → other ≢ next → has f (neg_ℤ next) ≡ false → Rests f lits c pair → Rests f lits c (record { first = next; second = other })
rests-moved f lits c pair l other next o d n (inl h) = inl (open-moved f next other d n (other-left f pair l other o h))
rests-moved f lits c pair l other next o d n (inr h) = inr h

pair-same : (pairs : List Pair) (k : ℕ) (pair : Pair) → k < length pairs → pair_at (set pairs k pair) k ≡ pair
pair-same pairs k pair lt = get_or-set_same pairs k pair (record { first = pos 0; second = pos 0 }) lt

pair-other : (pairs : List Pair) (k j : ℕ) (pair : Pair) → j ≢ k → pair_at (set pairs k pair) j ≡ pair_at pairs j
pair-other pairs k j pair d = get_or-set_other pairs k j pair (record { first = pos 0; second = pos 0 }) d

other-member : (clauses : List (List ℤ)) (lists : List (List Watch)) (pairs : List Pair) (l : ℤ) (k : ℕ) (other : ℤ) → IsPair clauses lists k (pair_at pairs k) → IsOtherOf (pair_at pairs k) l other → (has (clause_no clauses k) other ≡ true) × Lists (watches_of lists other) 0 k
other-member clauses lists pairs l k other p o = pick o.is
  where
    pick : (((pair_at pairs k).first ≡ l) × ((pair_at pairs k).second ≡ other)) ⊎ (((pair_at pairs k).first ≡ other) × ((pair_at pairs k).second ≡ l)) → (has (clause_no clauses k) other ≡ true) × Lists (watches_of lists other) 0 k
    pick (inl (a, b)) = (ap (has (clause_no clauses k)) (sym b) ∙ p.second, subst (λ x. Lists (watches_of lists x) 0 k) b p.second_listed)
    pick (inr (a, b)) = (ap (has (clause_no clauses k)) (sym a) ∙ p.first, subst (λ x. Lists (watches_of lists x) 0 k) a p.first_listed)

pub watched-moved : (clauses : List (List ℤ)) (lists new : List (List Watch)) (pairs : List Pair) (ends : List ℕ) (lits : List ℤ) (l : ℤ) (n k : ℕ) (next other : ℤ) (w : Watch) → l ≢ pos 0 → ((j : ℕ) → j < length pairs → (x : ℤ) → has (clause_no clauses j) x ≡ true → x ≢ pos 0) → AreWatched clauses lists pairs ends lits → IsMoved lists new l n next w → Moves clauses lists pairs lits l n k next other w → AreWatched clauses new (set pairs k (record { first = next; second = other })) ends lits
watched-moved clauses lists new pairs ends lits l n k next other w lz members h mv m =
    record {
      count = let c : length pairs ≤ length clauses = h.count in omega (arith, c, long);
      watches = λ z nz. subst (λ i. All (IsWatch clauses i z) (watches_of new z)) (sym long) (moved-watches clauses (length pairs) lists new l n next w mv m.place m.nonzero lz isw h.watches z nz);
      paired = λ j b. paired j (omega (arith, b, long)) (cases_eq j k);
      rising = h.rising;
      inside = h.inside;
      ended = λ j b i d lt. ended j (omega (arith, b, long)) i d lt (cases_eq j k);
    }
  where
    pair : Pair
    pair = record { first = next; second = other }

    long : length (set pairs k (record { first = next; second = other })) ≡ length pairs
    long = length-set pairs k (record { first = next; second = other })

    om : (has (clause_no clauses k) other ≡ true) × Lists (watches_of lists other) 0 k
    om = other-member clauses lists pairs l k other (h.paired k m.inside) m.pair

    other-nonzero : other ≢ pos 0
    other-nonzero = members k m.inside other om.0

    isw : IsWatch clauses (length pairs) next w
    isw = record {
      inside = subst (λ i. i < length pairs) (sym m.is_clause) m.inside;
      member = ap (λ i. has (clause_no clauses i) w.blocker) m.is_clause ∙ (ap (has (clause_no clauses k)) m.is_blocker ∙ om.0);
      binary = λ e. absurd (false≢true (sym m.is_long ∙ e));
    }

    new-pair : IsPair clauses new k (record { first = next; second = other })
    new-pair = record {
      first = m.found.member;
      second = om.0;
      first_listed = subst (λ ws. Lists ws 0 k) (sym mv.to) (subst (Lists (watches_of lists next ++ w ∷ []) 0) m.is_clause (lists-last (watches_of lists next) w));
      second_listed = moved-lists lists new l n next w mv m.place other k 0 other-nonzero (inr (λ e. m.pair.apart (sym e))) (omega arith) om.1;
    }

    listed : (j : ℕ) → j ≢ k → (x : ℤ) → x ≢ pos 0 → Lists (watches_of lists x) 0 j → Lists (watches_of new x) 0 j
    listed j d x z r = moved-lists lists new l n next w mv m.place x j 0 z (inl (λ e. d (sym e ∙ m.clause))) (omega arith) r

    paired : (j : ℕ) → j < length pairs → (j ≡ k) ⊎ (j ≢ k) → IsPair clauses new j (pair_at (set pairs k (record { first = next; second = other })) j)
    paired j b (inl e) = subst (λ i. IsPair clauses new i (pair_at (set pairs k (record { first = next; second = other })) i)) (sym e) (subst (IsPair clauses new k) (sym (pair-same pairs k pair m.inside)) new-pair)
    paired j b (inr d) =
        let p : IsPair clauses lists j (pair_at pairs j) = h.paired j b in
        subst (IsPair clauses new j) (sym (pair-other pairs k j pair d)) (record {
          first = p.first;
          second = p.second;
          first_listed = listed j d (pair_at pairs j).first (members j b (pair_at pairs j).first p.first) p.first_listed;
          second_listed = listed j d (pair_at pairs j).second (members j b (pair_at pairs j).second p.second) p.second_listed;
        })

    ended : (j : ℕ) → j < length pairs → (i d : ℕ) → i < length ends → (j ≡ k) ⊎ (j ≢ k) → Rests (take (get_or ends i d) lits) (take (get_or ends i d) lits) (clause_no clauses j) (pair_at (set pairs k (record { first = next; second = other })) j)
    ended j b i d lt (inl e) =
        subst (λ x. Rests (take (get_or ends i d) lits) (take (get_or ends i d) lits) (clause_no clauses x) (pair_at (set pairs k (record { first = next; second = other })) x)) (sym e)
        (subst (Rests (take (get_or ends i d) lits) (take (get_or ends i d) lits) (clause_no clauses k)) (sym (pair-same pairs k pair m.inside))
        (rests-moved (take (get_or ends i d) lits) (take (get_or ends i d) lits) (clause_no clauses k) (pair_at pairs k) l other next m.pair m.found.other (front-left lits (get_or ends i d) (neg_ℤ next) (h.inside i d lt) m.found.left) (h.ended k m.inside i d lt)))
    ended j b i d lt (inr e) = subst (Rests (take (get_or ends i d) lits) (take (get_or ends i d) lits) (clause_no clauses j)) (sym (pair-other pairs k j pair e)) (h.ended j b i d lt)

pub resting-moved : (clauses : List (List ℤ)) (lists : List (List Watch)) (pairs : List Pair) (lits : List ℤ) (head : ℕ) (l : ℤ) (n k : ℕ) (next other : ℤ) (w : Watch) → head ≤ length lits → AreResting clauses pairs lits head → Moves clauses lists pairs lits l n k next other w → AreResting clauses (set pairs k (record { first = next; second = other })) lits head
resting-moved clauses lists pairs lits head l n k next other w le h m = record { each = λ j b. pick j (omega (arith, b, long)) (cases_eq j k) }
  where
    pair : Pair
    pair = record { first = next; second = other }

    long : length (set pairs k (record { first = next; second = other })) ≡ length pairs
    long = length-set pairs k (record { first = next; second = other })

    pick : (j : ℕ) → j < length pairs → (j ≡ k) ⊎ (j ≢ k) → Rests (take head lits) lits (clause_no clauses j) (pair_at (set pairs k (record { first = next; second = other })) j)
    pick j b (inl e) =
        subst (λ x. Rests (take head lits) lits (clause_no clauses x) (pair_at (set pairs k (record { first = next; second = other })) x)) (sym e)
        (subst (Rests (take head lits) lits (clause_no clauses k)) (sym (pair-same pairs k pair m.inside))
        (rests-moved (take head lits) lits (clause_no clauses k) (pair_at pairs k) l other next m.pair m.found.other (front-left lits head (neg_ℤ next) le m.found.left) (h.each k m.inside)))
    pick j b (inr e) = subst (Rests (take head lits) lits (clause_no clauses j)) (sym (pair-other pairs k j pair e)) (h.each j b)

pub later-moved : (clauses : List (List ℤ)) (lists new : List (List Watch)) (pairs : List Pair) (lits : List ℤ) (head : ℕ) (l : ℤ) (n k : ℕ) (next other : ℤ) (w : Watch) → IsAtHead lits head l → AreResting clauses pairs lits head → AreLater clauses lists pairs lits head l n → IsMoved lists new l n next w → Moves clauses lists pairs lits l n k next other w → AreLater clauses new (set pairs k (record { first = next; second = other })) lits head l n
later-moved clauses lists new pairs lits head l n k next other w at r h mv m = record { each = λ j b. pick j (omega (arith, b, long)) (cases_eq j k) }
  where
    pair : Pair
    pair = record { first = next; second = other }

    long : length (set pairs k (record { first = next; second = other })) ≡ length pairs
    long = length-set pairs k (record { first = next; second = other })

    behind : (b : Bool) → has (take (head + 1) lits) (neg_ℤ other) ≡ b → has (take head lits) (neg_ℤ other) ≡ false → has (take (head + 1) lits) (neg_ℤ other) ≡ false
    behind false e a = e
    behind true e a = absurd (m.pair.apart (sym (neg-same other l (has-head lits head (neg_ℤ other) at.inside a e ∙ at.is))))

    here : Rests (take head lits) lits (clause_no clauses k) (pair_at pairs k) → Rests (take (head + 1) lits) lits (clause_no clauses k) (record { first = next; second = other })
    here (inl o) = inl (open-moved (take (head + 1) lits) next other m.found.other (front-left lits (head + 1) (neg_ℤ next) (let b : head < length lits = at.inside in omega (arith, b)) m.found.left) (behind (has (take (head + 1) lits) (neg_ℤ other)) refl (other-left (take head lits) (pair_at pairs k) l other m.pair o)))
    here (inr t) = inr t

    away : (j : ℕ) → j ≢ k → Rests (take (head + 1) lits) lits (clause_no clauses j) (pair_at pairs j) ⊎ Lists (watches_of lists l) n j → Rests (take (head + 1) lits) lits (clause_no clauses j) (pair_at pairs j) ⊎ Lists (watches_of new l) n j
    away j d (inl x) = inl x
    away j d (inr x) = inr (moved-lists lists new l n next w mv m.place l j n at.nonzero (inl (λ e. d (sym e ∙ m.clause))) (omega arith) x)

    pick : (j : ℕ) → j < length pairs → (j ≡ k) ⊎ (j ≢ k) → Rests (take (head + 1) lits) lits (clause_no clauses j) (pair_at (set pairs k (record { first = next; second = other })) j) ⊎ Lists (watches_of new l) n j
    pick j b (inl e) =
        subst (λ x. Rests (take (head + 1) lits) lits (clause_no clauses x) (pair_at (set pairs k (record { first = next; second = other })) x) ⊎ Lists (watches_of new l) n x) (sym e)
        (inl (subst (Rests (take (head + 1) lits) lits (clause_no clauses k)) (sym (pair-same pairs k pair m.inside)) (here (r.each k m.inside))))
    pick j b (inr d) = subst (λ p. Rests (take (head + 1) lits) lits (clause_no clauses j) p ⊎ Lists (watches_of new l) n j) (sym (pair-other pairs k j pair d)) (away j d (h.each j b))

-- a literal of a clause is not zero
pub member-nonzero : (vars : ℕ) (clauses : List (List ℤ)) (k : ℕ) (x : ℤ) → AreWithin vars clauses → k < length clauses → has (clause_no clauses k) x ≡ true → IsWithin vars x
member-nonzero vars clauses k x w lt h = all-has (IsWithin vars) (clause_no clauses k) x (w k [] lt) h

pub members-nonzero : (vars : ℕ) (clauses : List (List ℤ)) (count : ℕ) → AreWithin vars clauses → count ≤ length clauses → (j : ℕ) → j < count → (x : ℤ) → has (clause_no clauses j) x ≡ true → x ≢ pos 0
members-nonzero vars clauses count w le j lt x h = (member-nonzero vars clauses j x w (omega (arith, lt, le)) h).literal.nonzero

-- a turn goes on
pub turning-extends : (clauses : List (List ℤ)) (w : Watched) (p q : Path) (head : ℕ) (l : ℤ) (from : ℕ) → Turning clauses w p head l from → Extends clauses p q → Turning clauses w q head l from
turning-extends clauses w p q head l from t e =
    record {
      propagating = record {
        sized = subst (λ v. 2 * v ≤ length w.watches.lists) (sym e.vars) t.propagating.sized;
        inside = let g : length p.lits ≤ length q.lits = extends-longer clauses p q e in let b : head ≤ length p.lits = t.propagating.inside in omega (arith, b, g);
        watching = record { watched = subst (AreWatched clauses w.watches.lists w.watches.pairs w.ends.items) (sym e.lits) (watched-append clauses w.watches.lists w.watches.pairs w.ends.items p.lits e.more t.propagating.watching.watched); texts = t.propagating.watching.texts };
        resting = subst (λ ls. AreResting clauses w.watches.pairs ls head) (sym e.lits) (resting-append clauses w.watches.pairs p.lits e.more head t.propagating.inside t.propagating.resting);
      };
      at = record {
        inside = let g : length p.lits ≤ length q.lits = extends-longer clauses p q e in let b : head < length p.lits = t.at.inside in omega (arith, b, g);
        is = ap (λ ls. lit_at ls head) e.lits ∙ (get_or_append_left p.lits e.more (pos 0) head t.at.inside ∙ t.at.is);
        nonzero = t.at.nonzero;
      };
      later = subst (λ ls. AreLater clauses w.watches.lists w.watches.pairs ls head l from) (sym e.lits) (later-append clauses w.watches.lists w.watches.pairs p.lits e.more head l from t.at.inside t.later);
    }

pub turning-stays : (clauses : List (List ℤ)) (w : Watched) (p : Path) (head : ℕ) (l : ℤ) (from : ℕ) → Turning clauses w p head l from → IsTrueIn p.lits (clause_no clauses (watch_at (watches_of w.watches.lists l) from).clause) → Turning clauses w p head l (from + 1)
turning-stays clauses w p head l from t h = record { propagating = t.propagating; at = t.at; later = later-stays clauses w.watches.lists w.watches.pairs p.lits head l from h t.later }

pub turning-goes : (clauses : List (List ℤ)) (vars : ℕ) (w u : Watched) (p : Path) (head : ℕ) (l : ℤ) (from k : ℕ) (next other : ℤ) (x : Watch) → AreWithin vars clauses → Turning clauses w p head l from → u.ends ≡ w.ends → u.watches.pairs ≡ set w.watches.pairs k (record { first = next; second = other }) → length u.watches.lists ≡ length w.watches.lists → u.watches.texts ≡ w.watches.texts → IsMoved w.watches.lists u.watches.lists l from next x → Moves clauses w.watches.lists w.watches.pairs p.lits l from k next other x → Turning clauses u p head l from
turning-goes clauses vars w u p head l from k next other x within t ee ep el et mv m =
    record {
      propagating = record {
        sized = let s : 2 * p.vars ≤ length w.watches.lists = t.propagating.sized in omega (arith, s, el);
        inside = t.propagating.inside;
        watching = record {
          watched = subst (λ es. AreWatched clauses u.watches.lists u.watches.pairs (es).items p.lits) (sym ee) (subst (λ ps. AreWatched clauses u.watches.lists ps w.ends.items p.lits) (sym ep)
              (watched-moved clauses w.watches.lists u.watches.lists w.watches.pairs w.ends.items p.lits l from k next other x t.at.nonzero (members-nonzero vars clauses (length w.watches.pairs) within t.propagating.watching.watched.count) t.propagating.watching.watched mv m));
          texts = subst (AreTexts clauses) (sym et) t.propagating.watching.texts;
        };
        resting = subst (λ ps. AreResting clauses ps p.lits head) (sym ep) (resting-moved clauses w.watches.lists w.watches.pairs p.lits head l from k next other x t.propagating.inside t.propagating.resting m);
      };
      at = t.at;
      later = subst (λ ps. AreLater clauses u.watches.lists ps p.lits head l from) (sym ep) (later-moved clauses w.watches.lists u.watches.lists w.watches.pairs p.lits head l from k next other x t.at t.propagating.resting t.later mv m);
    }

-- the watch that is looked at, and the literal that became false
pub watch-is : (clauses : List (List ℤ)) (w : Watched) (p : Path) (head : ℕ) (l : ℤ) (from : ℕ) → Turning clauses w p head l from → from < length (watches_of w.watches.lists l) → IsWatch clauses (length w.watches.pairs) l (watch_at (watches_of w.watches.lists l) from)
watch-is clauses w p head l from t lt = t.propagating.watching.watched.watches l t.at.nonzero from (record { blocker = pos 0; clause = 0; binary = false }) lt

pub watch-inside : (clauses : List (List ℤ)) (w : Watched) (p : Path) (head : ℕ) (l : ℤ) (from : ℕ) → Turning clauses w p head l from → from < length (watches_of w.watches.lists l) → (watch_at (watches_of w.watches.lists l) from).clause < length clauses
watch-inside clauses w p head l from t lt =
    let a : (watch_at (watches_of w.watches.lists l) from).clause < length w.watches.pairs = (watch-is clauses w p head l from t lt).inside in
    let b : length w.watches.pairs ≤ length clauses = t.propagating.watching.watched.count in
    omega (arith, a, b)

pub blocker-within : (clauses : List (List ℤ)) (w : Watched) (p : Path) (head : ℕ) (l : ℤ) (from : ℕ) → Turning clauses w p head l from → from < length (watches_of w.watches.lists l) → AreWithin p.vars clauses → IsWithin p.vars (watch_at (watches_of w.watches.lists l) from).blocker
blocker-within clauses w p head l from t lt within = member-nonzero p.vars clauses (watch_at (watches_of w.watches.lists l) from).clause (watch_at (watches_of w.watches.lists l) from).blocker within (watch-inside clauses w p head l from t lt) (watch-is clauses w p head l from t lt).member

pub head-false : (lits : List ℤ) (head : ℕ) (l : ℤ) → IsAtHead lits head l → has lits (neg_ℤ l) ≡ true
head-false lits head l at = has-member lits head (neg_ℤ l) at.inside at.is

pub binary-others : (lits : List ℤ) (c : List ℤ) (l b : ℤ) → has lits (neg_ℤ l) ≡ true → All (λ x. (b ≡ x) ⊎ (l ≡ x)) c → All (λ x. (b ≡ x) ⊎ (has lits (neg_ℤ x) ≡ true)) c
binary-others lits c l b h all = All-weaker (λ x. (b ≡ x) ⊎ (l ≡ x)) (λ x. (b ≡ x) ⊎ (has lits (neg_ℤ x) ≡ true)) (λ x k. pick x k) c all
  where
    pick : (x : ℤ) → (b ≡ x) ⊎ (l ≡ x) → (b ≡ x) ⊎ (has lits (neg_ℤ x) ≡ true)
    pick x (inl e) = inl e
    pick x (inr e) = inr (subst (λ y. has lits (neg_ℤ y) ≡ true) e h)

pub head-within : (p : Path) (head : ℕ) (l : ℤ) → IsPath p → IsAtHead p.lits head l → IsWithin p.vars l
head-within p head l path at = subst (IsWithin p.vars) (neg-neg l) (within-neg p.vars (neg_ℤ l) (subst (IsWithin p.vars) at.is (path.within head (pos 0) at.inside)))

pub code-inside : (vars : ℕ) (lists : List (List Watch)) (l : ℤ) → IsWithin vars l → 2 * vars ≤ length lists → code_of l < length lists
code-inside vars lists l w s = let b : code_of l < 2 * vars = code_of-below vars l w in omega (arith, b, s)

-- a clause that was looked at is true or false
pub visited-settled : (clauses : List (List ℤ)) (w : Watched) (p q : Path) (head : ℕ) (l : ℤ) (from k : ℕ) (r : Visit) → Turning clauses w p head l from → Extends clauses p q → (watch_at (watches_of w.watches.lists l) from).clause ≡ k → Settled clauses q.lits k r → Visited clauses w q head l from r
visited-settled clauses w p q head l from k Stays t e is h = turning-stays clauses w q head l from (turning-extends clauses w p q head l from t e) (subst (λ i. IsTrueIn q.lits (clause_no clauses i)) (sym is) h)
visited-settled clauses w p q head l from k Goes t e is h = absurd h
visited-settled clauses w p q head l from k (Stops j) t e is h = ((turning-extends clauses w p q head l from t e).propagating.watching, subst (IsConflict clauses q.lits) (sym h.0) h.1)
visited-settled clauses w p q head l from k Wants t e is h = absurd h

pub fewer-settled : (clauses : List (List ℤ)) (lists : List (List Watch)) (lits : List ℤ) (l : ℤ) (k : ℕ) (r : Visit) → Settled clauses lits k r → Fewer lists lists l r
fewer-settled clauses lists lits l k Stays h = refl
fewer-settled clauses lists lits l k Goes h = absurd h
fewer-settled clauses lists lits l k (Stops j) h = tt
fewer-settled clauses lists lits l k Wants h = tt

pub fewer-moved : (lists new : List (List Watch)) (l : ℤ) (n : ℕ) (next : ℤ) (w : Watch) → n < length (watches_of lists l) → IsMoved lists new l n next w → length (watches_of new l) + 1 ≡ length (watches_of lists l)
fewer-moved lists new l n next w lt h = ap (λ (ws : List Watch). length ws + 1) h.from ∙ length-removed (watches_of lists l) n (watch_at (watches_of lists l) n) lt

-- the same of a watch that was read
pub read-within : (clauses : List (List ℤ)) (vars : ℕ) (w : Watched) (p : Path) (head : ℕ) (l : ℤ) (from : ℕ) (x : Watch) → Turning clauses w p head l from → from < length (watches_of w.watches.lists l) → p.vars ≡ vars → AreWithin vars clauses → x ≡ watch_at (watches_of w.watches.lists l) from → IsWithin p.vars x.blocker
read-within clauses vars w p head l from x t lt ev within e = subst (λ (y : Watch). IsWithin p.vars y.blocker) (sym e) (blocker-within clauses w p head l from t lt (subst (λ n. AreWithin n clauses) (sym ev) within))

pub read-stays : (clauses : List (List ℤ)) (w : Watched) (p : Path) (head : ℕ) (l : ℤ) (from : ℕ) (x : Watch) → Turning clauses w p head l from → from < length (watches_of w.watches.lists l) → x ≡ watch_at (watches_of w.watches.lists l) from → has p.lits x.blocker ≡ true → Turning clauses w p head l (from + 1)
read-stays clauses w p head l from x t lt e h =
    turning-stays clauses w p head l from t (record {
      literal = x.blocker;
      member = ap (has (clause_no clauses (watch_at (watches_of w.watches.lists l) from).clause)) (ap (λ (y : Watch). y.blocker) e) ∙ (watch-is clauses w p head l from t lt).member;
      holds = h;
    })

pub read-others : (clauses : List (List ℤ)) (w : Watched) (p : Path) (head : ℕ) (l : ℤ) (from : ℕ) (x : Watch) → Turning clauses w p head l from → from < length (watches_of w.watches.lists l) → x ≡ watch_at (watches_of w.watches.lists l) from → x.binary ≡ true → All (λ y. (x.blocker ≡ y) ⊎ (has p.lits (neg_ℤ y) ≡ true)) (clause_no clauses x.clause)
read-others clauses w p head l from x t lt e b =
    let s : IsWatch clauses (length w.watches.pairs) l x = subst (λ (y : Watch). IsWatch clauses (length w.watches.pairs) l y) (sym e) (watch-is clauses w p head l from t lt) in
    binary-others p.lits (clause_no clauses x.clause) l x.blocker (head-false p.lits head l t.at) (s.binary b)

-- the other watched literal of the clause that is looked at
pub read-other : (clauses : List (List ℤ)) (w : Watched) (p : Path) (head : ℕ) (l : ℤ) (from k : ℕ) (other : ℤ) → Turning clauses w p head l from → k < length w.watches.pairs → IsOtherOf (pair_at w.watches.pairs k) l other → has (clause_no clauses k) other ≡ true
read-other clauses w p head l from k other t lt o = (other-member clauses w.watches.lists w.watches.pairs l k other (t.propagating.watching.watched.paired k lt) o).0

pub read-inside : (clauses : List (List ℤ)) (w : Watched) (p : Path) (head : ℕ) (l : ℤ) (from k : ℕ) → Turning clauses w p head l from → from < length (watches_of w.watches.lists l) → (watch_at (watches_of w.watches.lists l) from).clause ≡ k → k < length w.watches.pairs
read-inside clauses w p head l from k t lt e = subst (λ i. i < length w.watches.pairs) e (watch-is clauses w p head l from t lt).inside

pub read-inside-all : (clauses : List (List ℤ)) (w : Watched) (p : Path) (head : ℕ) (l : ℤ) (from k : ℕ) → Turning clauses w p head l from → from < length (watches_of w.watches.lists l) → (watch_at (watches_of w.watches.lists l) from).clause ≡ k → k < length clauses
read-inside-all clauses w p head l from k t lt e = subst (λ i. i < length clauses) e (watch-inside clauses w p head l from t lt)

pub other-within : (clauses : List (List ℤ)) (vars k : ℕ) (p : Path) (x : ℤ) → p.vars ≡ vars → AreWithin vars clauses → k < length clauses → has (clause_no clauses k) x ≡ true → IsWithin p.vars x
other-within clauses vars k p x e w lt h = member-nonzero p.vars clauses k x (subst (λ n. AreWithin n clauses) (sym e) w) lt h

-- a literal that is not false is not the one that became false
pub left-apart : (lits : List ℤ) (head : ℕ) (l next : ℤ) → IsAtHead lits head l → has lits (neg_ℤ next) ≡ false → next ≢ l
left-apart lits head l next at h e = false≢true (sym h ∙ (ap (λ x. has lits (neg_ℤ x)) e ∙ head-false lits head l at))

-- the move of `rewatch`
pub moves-of : (clauses : List (List ℤ)) (w : Watched) (p : Path) (head : ℕ) (l : ℤ) (from k : ℕ) (next other : ℤ) → Turning clauses w p head l from → from < length (watches_of w.watches.lists l) → (watch_at (watches_of w.watches.lists l) from).clause ≡ k → IsOtherOf (pair_at w.watches.pairs k) l other → IsOther p.lits (clause_no clauses k) other next → IsWithin p.vars next → Moves clauses w.watches.lists w.watches.pairs p.lits l from k next other (record { blocker = other; clause = k; binary = false })
moves-of clauses w p head l from k next other t lt e o f wn =
    record {
      place = lt;
      clause = e;
      inside = read-inside clauses w p head l from k t lt e;
      pair = o;
      found = f;
      nonzero = wn.literal.nonzero;
      apart = left-apart p.lits head l next t.at f.left;
      is_clause = refl;
      is_blocker = refl;
      is_long = refl;
    }

-- a turn begins, and ends
pub turning-begins : (clauses : List (List ℤ)) (w : Watched) (p : Path) (head : ℕ) (l : ℤ) → Propagating clauses w p head → head < length p.lits → l ≡ neg_ℤ (lit_at p.lits head) → l ≢ pos 0 → Turning clauses w p head l 0
turning-begins clauses w p head l h lt e nz =
    record {
      propagating = h;
      at = at;
      later = later-begins clauses w.watches.lists w.watches.pairs w.ends.items p.lits head l h.watching.watched h.resting at;
    }
  where
    at : IsAtHead p.lits head l
    at = record { inside = lt; is = sym (neg-neg (lit_at p.lits head)) ∙ ap neg_ℤ (sym e); nonzero = nz }

pub turning-ends : (clauses : List (List ℤ)) (w : Watched) (p : Path) (head : ℕ) (l : ℤ) (from : ℕ) → Turning clauses w p head l from → length (watches_of w.watches.lists l) ≤ from → Propagating clauses w p (head + 1)
turning-ends clauses w p head l from t le =
    record {
      sized = t.propagating.sized;
      inside = let b : head < length p.lits = t.at.inside in omega (arith, b);
      watching = t.propagating.watching;
      resting = later-ends clauses w.watches.lists w.watches.pairs p.lits head l from le t.later;
    }

pub propagating-whole : (clauses : List (List ℤ)) (w : Watched) (p : Path) (head n : ℕ) → Propagating clauses w p head → n ≡ length p.lits → n ≤ head → Propagating clauses w p (length p.lits)
propagating-whole clauses w p head n h e le = subst (Propagating clauses w p) (let b : head ≤ length p.lits = h.inside in omega (arith, b, e, le)) h
