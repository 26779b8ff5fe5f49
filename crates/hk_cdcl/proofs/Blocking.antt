-- A watch that stays, with another literal that blocks it; and the search for a literal that is not false.
use Rattle.std.proofs.Common.{◌≡◌, ◌≢◌, ◌⊎◌, ℕ, ◌+◌, ◌*◌, ◌<◌, ◌≤◌, Bool, true, false, List, Option, None, Some, MatchOption, length, take, set, ℤ, pos, neg_ℤ, refl, sym, ◌∙◌, ap, subst, inl, inr, arith}
use Rattle.std.proofs.lemmas.Bool.{cases_eq, cases_lt, false≢true}
use Rattle.std.proofs.lemmas.List.{get_or_default, get_or-set_same, get_or-set_other}
use Rattle.std.proofs.Math.ListN.{length-set}
use Rattle.std.proofs.lemmas.List.Elements.{All-set}
use Rattle.std.specs.List.{All}
use Rattle.std.specs.Ordering.{int_eq}
use Rattle.hk_cnf.specs.Literal.{code_of, has}
use Rattle.hk_cnf.specs.Clauses.{AreWithin}
use Rattle.hk_cnf.proofs.Members.{int_eq-is, int_eq-not}
use Rattle.hk_cdcl.specs.Looking.{IsLeftAt, AreFalseBetween, IsOther, IsOtherOf}
use Rattle.hk_cdcl.specs.Records.{pair_at, Pair}
use Rattle.hk_cdcl.specs.Watches.{Watch, watches_of, watch_at}
use Rattle.hk_cdcl.specs.declared.watched.Watched.{Watched}
use Rattle.hk_cdcl.specs.Path.{Path, IsPath, lit_at}
use Rattle.hk_cdcl.specs.Watching.{clause_no, Lists, IsWatch, IsPair, Rests, AreWatched, AreTexts, AreResting, AreLater, Moves, Turning, Fewer}
use Rattle.hk_cdcl.specs.declared.watched.Visit.{Visit}
use Rattle.hk_cdcl.specs.declared.watched.Visit.TheVariants.{Stays, Goes, Stops, Wants}
use Rattle.hk_cdcl.proofs.Places.{has-member}
use Rattle.hk_cdcl.proofs.Relisting.{lists-same, lists-other}
use Rattle.hk_cdcl.proofs.Moving.{members-nonzero, turning-stays, moves-of, other-within, read-inside, read-inside-all, read-other, code-inside, head-within}

-- what writing a watch needs: it names the same clause, which has the literal that blocks
pub record Blocks (clauses : List (List ℤ)) (lists : List (List Watch)) (count : ℕ) (l : ℤ) (n k : ℕ) (w : Watch) : Type 0 where
  pub list : code_of l < length lists
  pub nonzero : l ≢ pos 0
  pub place : n < length (watches_of lists l)
  pub clause : (watch_at (watches_of lists l) n).clause ≡ k
  pub inside : k < count
  pub is_clause : w.clause ≡ k
  pub member : has (clause_no clauses k) w.blocker ≡ true
  pub is_long : w.binary ≡ false

-- the lists with the watch written
abbrev pub written : List (List Watch) → ℤ → ℕ → Watch → List (List Watch)
written lists l n w = set lists (code_of l) (set (watches_of lists l) n w)

-- a list names the same clauses
list-written : (ws : List Watch) (n from k : ℕ) (w : Watch) → n < length ws → (watch_at ws n).clause ≡ w.clause → Lists ws from k → Lists (set ws n w) from k
list-written ws n from k w lt e h =
    record {
      place = h.place;
      after = h.after;
      inside = let s : length (set ws n w) ≡ length ws = length-set ws n w in let b : h.place < length ws = h.inside in omega (arith, s, b);
      is = pick (cases_eq h.place n);
    }
  where
    pick : (h.place ≡ n) ⊎ (h.place ≢ n) → (watch_at (set ws n w) h.place).clause ≡ k
    pick (inl s) =
        ap (λ i. (watch_at (set ws n w) i).clause) s ∙ (ap (λ (x : Watch). x.clause) (get_or-set_same ws n w (record { blocker = pos 0; clause = 0; binary = false }) lt) ∙ (sym e ∙ (ap (λ i. (watch_at ws i).clause) (sym s) ∙ h.is)))
    pick (inr d) = ap (λ (x : Watch). x.clause) (get_or-set_other ws n h.place w (record { blocker = pos 0; clause = 0; binary = false }) d) ∙ h.is

-- a literal is this one or another
two : (m l : ℤ) → (m ≡ l) ⊎ (m ≢ l)
two m l = pick (int_eq m l) refl
  where
    pick : (b : Bool) → int_eq m l ≡ b → (m ≡ l) ⊎ (m ≢ l)
    pick true e = inl (int_eq-is m l e)
    pick false e = inr (int_eq-not m l e)

written-lists : (clauses : List (List ℤ)) (lists : List (List Watch)) (count : ℕ) (l m : ℤ) (n from k j : ℕ) (w : Watch) → Blocks clauses lists count l n k w → m ≢ pos 0 → Lists (watches_of lists m) from j → Lists (watches_of (written lists l n w) m) from j
written-lists clauses lists count l m n from k j w b z h = pick (two m l)
  where
    pick : (m ≡ l) ⊎ (m ≢ l) → Lists (watches_of (written lists l n w) m) from j
    pick (inl e) =
        subst (λ x. Lists (watches_of (written lists l n w) x) from j) (sym e) (subst (λ ws. Lists ws from j) (sym (lists-same lists l (set (watches_of lists l) n w) b.list))
        (list-written (watches_of lists l) n from j w b.place (b.clause ∙ sym b.is_clause) (subst (λ x. Lists (watches_of lists x) from j) e h)))
    pick (inr d) = subst (λ ws. Lists ws from j) (sym (lists-other lists l m (set (watches_of lists l) n w) b.nonzero z d)) h

written-watches : (clauses : List (List ℤ)) (lists : List (List Watch)) (count : ℕ) (l m : ℤ) (n k : ℕ) (w : Watch) → Blocks clauses lists count l n k w → m ≢ pos 0 → All (IsWatch clauses count m) (watches_of lists m) → All (IsWatch clauses count m) (watches_of (written lists l n w) m)
written-watches clauses lists count l m n k w b z h = pick (two m l)
  where
    isw : IsWatch clauses count l w
    isw = record {
      inside = subst (λ i. i < count) (sym b.is_clause) b.inside;
      member = ap (λ i. has (clause_no clauses i) w.blocker) b.is_clause ∙ b.member;
      binary = λ e. absurd (false≢true (sym b.is_long ∙ e));
    }

    pick : (m ≡ l) ⊎ (m ≢ l) → All (IsWatch clauses count m) (watches_of (written lists l n w) m)
    pick (inl e) =
        subst (λ x. All (IsWatch clauses count x) (watches_of (written lists l n w) x)) (sym e) (subst (All (IsWatch clauses count l)) (sym (lists-same lists l (set (watches_of lists l) n w) b.list))
        (All-set (IsWatch clauses count l) (watches_of lists l) n w isw (subst (λ x. All (IsWatch clauses count x) (watches_of lists x)) e h)))
    pick (inr d) = subst (All (IsWatch clauses count m)) (sym (lists-other lists l m (set (watches_of lists l) n w) b.nonzero z d)) h

watched-written : (clauses : List (List ℤ)) (lists : List (List Watch)) (pairs : List Pair) (ends : List ℕ) (lits : List ℤ) (l : ℤ) (n k : ℕ) (w : Watch) → ((j : ℕ) → j < length pairs → (x : ℤ) → has (clause_no clauses j) x ≡ true → x ≢ pos 0) → AreWatched clauses lists pairs ends lits → Blocks clauses lists (length pairs) l n k w → AreWatched clauses (written lists l n w) pairs ends lits
watched-written clauses lists pairs ends lits l n k w members h b =
    record {
      count = h.count;
      watches = λ m z. written-watches clauses lists (length pairs) l m n k w b z (h.watches m z);
      paired = λ j lt. pair j lt (h.paired j lt);
      rising = h.rising;
      inside = h.inside;
      ended = h.ended;
    }
  where
    pair : (j : ℕ) → j < length pairs → IsPair clauses lists j (pair_at pairs j) → IsPair clauses (written lists l n w) j (pair_at pairs j)
    pair j lt p =
        record {
          first = p.first;
          second = p.second;
          first_listed = written-lists clauses lists (length pairs) l (pair_at pairs j).first n 0 k j w b (members j lt (pair_at pairs j).first p.first) p.first_listed;
          second_listed = written-lists clauses lists (length pairs) l (pair_at pairs j).second n 0 k j w b (members j lt (pair_at pairs j).second p.second) p.second_listed;
        }

later-written : (clauses : List (List ℤ)) (lists : List (List Watch)) (pairs : List Pair) (lits : List ℤ) (head : ℕ) (l : ℤ) (n from k : ℕ) (w : Watch) → AreLater clauses lists pairs lits head l from → Blocks clauses lists (length pairs) l n k w → AreLater clauses (written lists l n w) pairs lits head l from
later-written clauses lists pairs lits head l n from k w h b = record { each = λ j lt. pick j (h.each j lt) }
  where
    pick : (j : ℕ) → Rests (take (head + 1) lits) lits (clause_no clauses j) (pair_at pairs j) ⊎ Lists (watches_of lists l) from j → Rests (take (head + 1) lits) lits (clause_no clauses j) (pair_at pairs j) ⊎ Lists (watches_of (written lists l n w) l) from j
    pick j (inl r) = inl r
    pick j (inr r) = inr (written-lists clauses lists (length pairs) l l n from k j w b b.nonzero r)

-- a turn goes on
pub turning-written : (clauses : List (List ℤ)) (vars : ℕ) (w u : Watched) (p : Path) (head : ℕ) (l : ℤ) (n from k : ℕ) (x : Watch) → AreWithin vars clauses → Turning clauses w p head l from → Blocks clauses w.watches.lists (length w.watches.pairs) l n k x → u.ends ≡ w.ends → u.watches.pairs ≡ w.watches.pairs → u.watches.texts ≡ w.watches.texts → u.watches.lists ≡ written w.watches.lists l n x → Turning clauses u p head l from
turning-written clauses vars w u p head l n from k x within t b ee ep et ew =
    record {
      propagating = record {
        sized = let s : 2 * p.vars ≤ length w.watches.lists = t.propagating.sized in let e : length u.watches.lists ≡ length w.watches.lists = ap (λ (ls : List (List Watch)). length ls) ew ∙ length-set w.watches.lists (code_of l) (set (watches_of w.watches.lists l) n x) in omega (arith, s, e);
        inside = t.propagating.inside;
        watching = record {
          watched = subst (λ es. AreWatched clauses u.watches.lists u.watches.pairs (es).items p.lits) (sym ee) (subst (λ ps. AreWatched clauses u.watches.lists ps w.ends.items p.lits) (sym ep) (subst (λ ls. AreWatched clauses ls w.watches.pairs w.ends.items p.lits) (sym ew)
              (watched-written clauses w.watches.lists w.watches.pairs w.ends.items p.lits l n k x (members-nonzero vars clauses (length w.watches.pairs) within t.propagating.watching.watched.count) t.propagating.watching.watched b)));
          texts = subst (AreTexts clauses) (sym et) t.propagating.watching.texts;
        };
        resting = subst (λ ps. AreResting clauses ps p.lits head) (sym ep) t.propagating.resting;
      };
      at = t.at;
      later = subst (λ ps. AreLater clauses u.watches.lists ps p.lits head l from) (sym ep) (subst (λ ls. AreLater clauses ls w.watches.pairs p.lits head l from) (sym ew) (later-written clauses w.watches.lists w.watches.pairs p.lits head l n from k x t.later b));
    }

-- the watch that was written names the clause
pub written-clause : (clauses : List (List ℤ)) (w u : Watched) (count : ℕ) (l : ℤ) (n k : ℕ) (x : Watch) → Blocks clauses w.watches.lists count l n k x → u.watches.lists ≡ written w.watches.lists l n x → (watch_at (watches_of u.watches.lists l) n).clause ≡ k
written-clause clauses w u count l n k x b ew =
    ap (λ (ls : List (List Watch)). (watch_at (watches_of ls l) n).clause) ew ∙ (ap (λ (ws : List Watch). (watch_at ws n).clause) (lists-same w.watches.lists l (set (watches_of w.watches.lists l) n x) b.list) ∙ (ap (λ (y : Watch). y.clause) (get_or-set_same (watches_of w.watches.lists l) n x (record { blocker = pos 0; clause = 0; binary = false }) b.place) ∙ b.is_clause))

-- the list is as long as before
pub written-length : (clauses : List (List ℤ)) (w u : Watched) (count : ℕ) (l : ℤ) (n k : ℕ) (x : Watch) → Blocks clauses w.watches.lists count l n k x → u.watches.lists ≡ written w.watches.lists l n x → length (watches_of u.watches.lists l) ≡ length (watches_of w.watches.lists l)
written-length clauses w u count l n k x b ew =
    ap (λ (ls : List (List Watch)). length (watches_of ls l)) ew ∙ (ap (λ (ws : List Watch). length ws) (lists-same w.watches.lists l (set (watches_of w.watches.lists l) n x) b.list) ∙ length-set (watches_of w.watches.lists l) n x)

-- the literal's watch at a place was written
pub record Blocked (clauses : List (List ℤ)) (w u : Watched) (l : ℤ) (n k : ℕ) (x : Watch) : Type 0 where
  pub blocks : Blocks clauses w.watches.lists (length w.watches.pairs) l n k x
  pub ends : u.ends ≡ w.ends
  pub pairs : u.watches.pairs ≡ w.watches.pairs
  pub texts : u.watches.texts ≡ w.watches.texts
  pub watches : u.watches.lists ≡ written w.watches.lists l n x

pub blocked-of : (clauses : List (List ℤ)) (w u : Watched) (p : Path) (head : ℕ) (l : ℤ) (n : ℕ) (x : Watch) → IsPath p → Turning clauses w p head l n → n < length (watches_of w.watches.lists l) → (watch_at (watches_of w.watches.lists l) n).clause ≡ x.clause → x.binary ≡ false → has (clause_no clauses x.clause) x.blocker ≡ true → u.ends ≡ w.ends → u.watches.pairs ≡ w.watches.pairs → u.watches.texts ≡ w.watches.texts → u.watches.lists ≡ written w.watches.lists l n x → Blocked clauses w u l n x.clause x
blocked-of clauses w u p head l n x path t lt e long m ee ep et ew =
    record {
      blocks = record {
        list = code-inside p.vars w.watches.lists l (head-within p head l path t.at) t.propagating.sized;
        nonzero = t.at.nonzero;
        place = lt;
        clause = e;
        inside = read-inside clauses w p head l n x.clause t lt e;
        is_clause = refl;
        member = m;
        is_long = long;
      };
      ends = ee;
      pairs = ep;
      texts = et;
      watches = ew;
    }

pub turning-blocked : (clauses : List (List ℤ)) (vars : ℕ) (w u : Watched) (p : Path) (head : ℕ) (l : ℤ) (n k : ℕ) (x : Watch) → AreWithin vars clauses → Turning clauses w p head l n → Blocked clauses w u l n k x → Turning clauses u p head l n
turning-blocked clauses vars w u p head l n k x within t b = turning-written clauses vars w u p head l n n k x within t b.blocks b.ends b.pairs b.texts b.watches

pub clause-blocked : (clauses : List (List ℤ)) (w u : Watched) (l : ℤ) (n k : ℕ) (x : Watch) → Blocked clauses w u l n k x → (watch_at (watches_of u.watches.lists l) n).clause ≡ k
clause-blocked clauses w u l n k x b = written-clause clauses w u (length w.watches.pairs) l n k x b.blocks b.watches

pub length-blocked : (clauses : List (List ℤ)) (w u : Watched) (l : ℤ) (n k : ℕ) (x : Watch) → Blocked clauses w u l n k x → length (watches_of u.watches.lists l) ≡ length (watches_of w.watches.lists l)
length-blocked clauses w u l n k x b = written-length clauses w u (length w.watches.pairs) l n k x b.blocks b.watches

-- where the literal that blocks is true, the watch is done with
pub stays-blocked : (clauses : List (List ℤ)) (vars : ℕ) (w u : Watched) (p : Path) (head : ℕ) (l : ℤ) (n k : ℕ) (x : Watch) → AreWithin vars clauses → Turning clauses w p head l n → Blocked clauses w u l n k x → has p.lits x.blocker ≡ true → Turning clauses u p head l (n + 1)
stays-blocked clauses vars w u p head l n k x within t b h =
    turning-stays clauses u p head l n (turning-blocked clauses vars w u p head l n k x within t b) (record {
      literal = x.blocker;
      member = ap (λ i. has (clause_no clauses i) x.blocker) (clause-blocked clauses w u l n k x b) ∙ b.blocks.member;
      holds = h;
    })

-- the list is shorter after a look than before the watch was written
pub fewer-blocked : (clauses : List (List ℤ)) (w u : Watched) (new : List (List Watch)) (l : ℤ) (n k : ℕ) (x : Watch) (r : Visit) → Blocked clauses w u l n k x → Fewer u.watches.lists new l r → Fewer w.watches.lists new l r
fewer-blocked clauses w u new l n k x r b h = pick r h
  where
    pick : (r : Visit) → Fewer u.watches.lists new l r → Fewer w.watches.lists new l r
    pick Stays f = f ∙ length-blocked clauses w u l n k x b
    pick Goes f = f ∙ length-blocked clauses w u l n k x b
    pick (Stops j) f = tt
    pick Wants f = tt

-- the other watched literal is one of the clause
pub other-read-member : (clauses : List (List ℤ)) (w : Watched) (p : Path) (head : ℕ) (l : ℤ) (n k : ℕ) (other : ℤ) → Turning clauses w p head l n → n < length (watches_of w.watches.lists l) → (watch_at (watches_of w.watches.lists l) n).clause ≡ k → IsOtherOf (pair_at w.watches.pairs k) l other → has (clause_no clauses k) other ≡ true
other-read-member clauses w p head l n k other t lt e o = read-other clauses w p head l n k other t (read-inside clauses w p head l n k t lt e) o

-- what goes on after the watch was written
pub moves-blocked : (clauses : List (List ℤ)) (vars : ℕ) (w u : Watched) (p : Path) (head : ℕ) (l : ℤ) (n k : ℕ) (next other : ℤ) (x y : Watch) → AreWithin vars clauses → p.vars ≡ vars → Turning clauses w p head l n → Blocked clauses w u l n k x → IsOtherOf (pair_at w.watches.pairs k) l other → IsOther p.lits (clause_no clauses k) other next → y ≡ record { blocker = other; clause = k; binary = false } → Moves clauses u.watches.lists u.watches.pairs p.lits l n y.clause next y.blocker y
moves-blocked clauses vars w u p head l n k next other x y within ev t b o f e =
    subst (λ (z : Watch). Moves clauses u.watches.lists u.watches.pairs p.lits l n z.clause next z.blocker z) (sym e)
    (moves-of clauses u p head l n k next other (turning-blocked clauses vars w u p head l n k x within t b) lt (clause-blocked clauses w u l n k x b)
    (subst (λ ps. IsOtherOf (pair_at ps k) l other) (sym b.pairs) o) f (other-within clauses vars k p next ev within (read-inside-all clauses w p head l n k t b.blocks.place b.blocks.clause) f.member))
  where
    lt : n < length (watches_of u.watches.lists l)
    lt = let s : length (watches_of u.watches.lists l) ≡ length (watches_of w.watches.lists l) = length-blocked clauses w u l n k x b in let a : n < length (watches_of w.watches.lists l) = b.blocks.place in omega (arith, s, a)

-- the clause that goes on is one of the list
pub moves-inside : (clauses : List (List ℤ)) (w : Watched) (p : Path) (head : ℕ) (l : ℤ) (n k : ℕ) (next other : ℤ) (x : Watch) → Turning clauses w p head l n → Moves clauses w.watches.lists w.watches.pairs p.lits l n k next other x → k < length clauses
moves-inside clauses w p head l n k next other x t m =
    let a : k < length w.watches.pairs = m.inside in
    let b : length w.watches.pairs ≤ length clauses = t.propagating.watching.watched.count in
    omega (arith, a, b)

-- a search over both parts of a clause found nothing
pub false-all : (lits c : List ℤ) (k : ℤ) (start : ℕ) → AreFalseBetween lits c k start (length c) → AreFalseBetween lits c k 0 start → All (λ x. (k ≡ x) ⊎ (has lits (neg_ℤ x) ≡ true)) c
false-all lits c k start back front = λ n d lt. subst (λ x. (k ≡ x) ⊎ (has lits (neg_ℤ x) ≡ true)) (get_or_default c n (pos 0) d lt) (pick n lt (cases_lt n start))
  where
    pick : (n : ℕ) → n < length c → (n < start) ⊎ (start ≤ n) → (k ≡ lit_at c n) ⊎ (has lits (neg_ℤ (lit_at c n)) ≡ true)
    pick n lt (inl b) = front n (omega arith) b
    pick n lt (inr b) = back n b lt

pub found-before : (lits c : List ℤ) (k : ℤ) (start : ℕ) (r : Option ℕ) → AreFalseBetween lits c k start (length c) → MatchOption r (AreFalseBetween lits c k 0 start) (IsLeftAt lits c k) → MatchOption r (All (λ x. (k ≡ x) ⊎ (has lits (neg_ℤ x) ≡ true)) c) (IsLeftAt lits c k)
found-before lits c k start None back h = false-all lits c k start back h
found-before lits c k start (Some n) back h = h

-- one place more
pub false-more : (lits c : List ℤ) (k : ℤ) (from to : ℕ) → AreFalseBetween lits c k from to → (k ≡ lit_at c to) ⊎ (has lits (neg_ℤ (lit_at c to)) ≡ true) → AreFalseBetween lits c k from (to + 1)
false-more lits c k from to h last = λ n a b. pick n a b (cases_eq n to)
  where
    pick : (n : ℕ) → from ≤ n → n < to + 1 → (n ≡ to) ⊎ (n ≢ to) → (k ≡ lit_at c n) ⊎ (has lits (neg_ℤ (lit_at c n)) ≡ true)
    pick n a b (inl e) = subst (λ i. (k ≡ lit_at c i) ⊎ (has lits (neg_ℤ (lit_at c i)) ≡ true)) (sym e) last
    pick n a b (inr d) = h n a (omega (arith, b, d))

-- the literal that was found is another one of the clause that is not false
pub left-other : (lits c : List ℤ) (k x : ℤ) (n : ℕ) → IsLeftAt lits c k n → x ≡ lit_at c n → IsOther lits c k x
left-other lits c k x n h e =
    record {
      member = has-member c n x h.inside (sym e);
      left = ap (λ y. has lits (neg_ℤ y)) e ∙ h.left;
      other = λ d. h.other (d ∙ e);
    }

-- fewer places
pub false-until : (lits c : List ℤ) (k : ℤ) (from at to : ℕ) → AreFalseBetween lits c k from at → to ≤ at → AreFalseBetween lits c k from to
false-until lits c k from at to h le = λ n a b. h n a (omega (arith, b, le))
