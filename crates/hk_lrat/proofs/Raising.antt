-- Raised logs are accepted over longer lists.
use Rattle.std.proofs.Common.{◌≡◌, ℕ, zero, suc, ◌+◌, ◌<◌, ◌≤◌, Bool, true, false, not, ◌&&◌, cond, eqb, ltb, List, [], ◌∷◌, ◌++◌, length, map, ℤ, pos, negsuc, Option, Some, None, ◌⊎◌, inl, inr, refl, sym, ◌∙◌, ap, subst, arith, length-append}
use Rattle.std.proofs.lemmas.Bool.{cond-true, cond-false, cases_lt, false≢true, lt-ltb, le-ltb, and_parts, and_from, not_from_false, ne_eqb, eq-eqb}
use Rattle.std.proofs.lemmas.Bool.Decides.{Decides-eqb, Decides-ltb}
use Rattle.std.proofs.lemmas.List.Elements.{All-head, All-tail, All-cons, All-nil, All-weaker, All-push}
use Rattle.std.specs.List.{All, list_all}
use Rattle.hk_cnf.specs.Literal.{denied}
use Rattle.hk_cnf.specs.Hint.{hint_of, with_true}
use Rattle.hk_cnf.specs.declared.hint.Hint.{Hint}
use Rattle.hk_cnf.specs.declared.hint.Hint.TheVariants.{False, Unit as OneLeft, Other}
use Rattle.hk_cnf.specs.Clauses.{Clauses}
use Rattle.hk_lrat.specs.declared.log.LratRow.{LratRow}
use Rattle.hk_lrat.specs.declared.log.LratRow.TheVariants.{Add, Delete}
use Rattle.hk_lrat.specs.declared.log.RowReason.TheVariants.{L1, L2}
use Rattle.hk_lrat.proofs.Sound.{IsAccepted, accepted}
use Rattle.hk_lrat.specs.Log.{State, Live, numbered, start, clause_of, is_within, has_both, at_clause, at_hint, follow, add_fault, after_row}
use Rattle.hk_lrat.specs.Refutes.{AreAccepted}
use Rattle.hk_lrat.specs.Raised.{raised_id, raised, is_addition, IsLonger}

-- both states at corresponding rows
pub record IsRaised (from by : ℕ) (s t : State) : Type 0 where
  pub vars : s.vars ≤ t.vars
  pub reached : from ≤ s.last
  pub last : t.last ≡ s.last + by
  pub ids : All (λ e. e.0 ≤ t.last) t.live
  pub named : (id : ℕ) (c : List ℤ) → clause_of s.live id ≡ Some c → clause_of t.live (raised_id from by id) ≡ Some c

raised-over : (from by id : ℕ) → from < id → raised_id from by id ≡ id + by
raised-over from by id lt = cond-true (ltb from id) (id + by) id (lt-ltb from id lt)

-- hints that are followed
follow-raised : (from by : ℕ) (live more : Live) (truth : ℤ → Bool) (hs : List ℕ) → ((id : ℕ) (c : List ℤ) → clause_of live id ≡ Some c → clause_of more (raised_id from by id) ≡ Some c) → follow live truth hs ≡ None → follow more truth (map (raised_id from by) hs) ≡ None
follow-raised from by live more truth [] named h = h
follow-raised from by live more truth (id ∷ hs) named h = pick (λ t. follow-raised from by live more t hs named) (clause_of live id) refl h
  where
    hint : ((t : ℤ → Bool) → follow live t hs ≡ None → follow more t (map (raised_id from by) hs) ≡ None) → (k : Hint) → at_hint k (λ l. follow live (with_true l truth) hs) ≡ None → at_hint k (λ l. follow more (with_true l truth) (map (raised_id from by) hs)) ≡ None
    hint rest False e = refl
    hint rest (OneLeft l) e = rest (with_true l truth) e
    hint rest Other e = absurd cc

    pick : ((t : ℤ → Bool) → follow live t hs ≡ None → follow more t (map (raised_id from by) hs) ≡ None) → (o : Option (List ℤ)) → clause_of live id ≡ o → at_clause o (λ c. at_hint (hint_of truth c) (λ l. follow live (with_true l truth) hs)) ≡ None → follow more truth (raised_id from by id ∷ map (raised_id from by) hs) ≡ None
    pick rest None e k = absurd cc
    pick rest (Some c) e k = ap (λ o. at_clause o (λ d. at_hint (hint_of truth d) (λ l. follow more (with_true l truth) (map (raised_id from by) hs)))) (named id c e) ∙ hint rest (hint_of truth c) k

-- more clauses at the end
clause-left : (live more : Live) (id : ℕ) (c : List ℤ) → clause_of live id ≡ Some c → clause_of (live ++ more) id ≡ Some c
clause-left [] more id c h = absurd (none-some h)
  where
    none-some : None ≡ Some c → ⊥
    none-some x = cc
clause-left (e ∷ live) more id c h = pick (λ k. clause-left live more id c k) (eqb e.0 id) refl
  where
    pick : (clause_of live id ≡ Some c → clause_of (live ++ more) id ≡ Some c) → (b : Bool) → eqb e.0 id ≡ b → clause_of (e ∷ (live ++ more)) id ≡ Some c
    pick rest true q = cond-true (eqb e.0 id) (Some e.1) (clause_of (live ++ more) id) q ∙ (sym (cond-true (eqb e.0 id) (Some e.1) (clause_of live id) q) ∙ h)
    pick rest false q = cond-false (eqb e.0 id) (Some e.1) (clause_of (live ++ more) id) q ∙ rest (sym (cond-false (eqb e.0 id) (Some e.1) (clause_of live id) q) ∙ h)

clause-right : (live more : Live) (id : ℕ) → clause_of live id ≡ None → clause_of (live ++ more) id ≡ clause_of more id
clause-right [] more id h = refl
clause-right (e ∷ live) more id h = pick (λ k. clause-right live more id k) (eqb e.0 id) refl
  where
    some-none : Some e.1 ≡ None → ⊥
    some-none x = cc

    pick : (clause_of live id ≡ None → clause_of (live ++ more) id ≡ clause_of more id) → (b : Bool) → eqb e.0 id ≡ b → clause_of (e ∷ (live ++ more)) id ≡ clause_of more id
    pick rest true q = absurd (some-none (sym (cond-true (eqb e.0 id) (Some e.1) (clause_of live id) q) ∙ h))
    pick rest false q = cond-false (eqb e.0 id) (Some e.1) (clause_of (live ++ more) id) q ∙ rest (sym (cond-false (eqb e.0 id) (Some e.1) (clause_of live id) q) ∙ h)

-- an id over all others names nothing
clause-over : (live : Live) (n id : ℕ) → All (λ e. e.0 ≤ n) live → n < id → clause_of live id ≡ None
clause-over [] n id h lt = refl
clause-over (e ∷ live) n id h lt =
    let a : e.0 ≤ n = All-head (λ (x : ℕ × List ℤ). x.0 ≤ n) e live h in
    cond-false (eqb e.0 id) (Some e.1) (clause_of live id) (ne_eqb e.0 id (λ q. omega (arith, a, lt, q))) ∙ clause-over live n id (All-tail (λ (x : ℕ × List ℤ). x.0 ≤ n) e live h) lt

-- a named id is one of them
clause-under : (live : Live) (n id : ℕ) (c : List ℤ) → All (λ e. e.0 ≤ n) live → clause_of live id ≡ Some c → id ≤ n
clause-under live n id c h e = pick (cases_lt n id)
  where
    none-some : None ≡ Some c → ⊥
    none-some x = cc

    pick : (n < id) ⊎ (id ≤ n) → id ≤ n
    pick (inl lt) = absurd (none-some (sym (clause-over live n id h lt) ∙ e))
    pick (inr le) = le

numbered-append : (n : ℕ) (cs ds : List (List ℤ)) → numbered n (cs ++ ds) ≡ numbered n cs ++ numbered (n + length cs) ds
numbered-append n [] ds = ap (λ k. numbered k ds) (omega arith)
numbered-append n (c ∷ cs) ds = ap (λ es. (n, c) ∷ es) (numbered-append (n + 1) cs ds ∙ ap (λ k. numbered (n + 1) cs ++ numbered k ds) (omega arith))

numbered-ids : (n m : ℕ) (cs : List (List ℤ)) → n + length cs ≤ m + 1 → All (λ e. e.0 ≤ m) (numbered n cs)
numbered-ids n m [] le = All-nil (λ (e : ℕ × List ℤ). e.0 ≤ m)
numbered-ids n m (c ∷ cs) le = All-cons (λ (e : ℕ × List ℤ). e.0 ≤ m) (n, c) (numbered (n + 1) cs) (omega (arith, le)) (numbered-ids (n + 1) m cs (omega (arith, le)))

start-raised : (from by : ℕ) (list longer : Clauses) → length list.clauses ≡ from → IsLonger list longer by → IsRaised from by (start list) (start longer)
start-raised from by list longer e l =
    record {
      vars = l.vars;
      reached = omega (arith, e);
      last = long;
      ids = numbered-ids 1 (length longer.clauses) longer.clauses (omega arith);
      named = λ id c h. ap (clause_of (numbered 1 longer.clauses)) (under id c h) ∙ (ap (λ cs. clause_of (numbered 1 cs) id) l.is
          ∙ (ap (λ es. clause_of es id) (numbered-append 1 list.clauses l.more) ∙ clause-left (numbered 1 list.clauses) (numbered (1 + length list.clauses) l.more) id c h));
    }
  where
    long : length longer.clauses ≡ length list.clauses + by
    long = ap length l.is ∙ (length-append list.clauses l.more ∙ ap (λ n. length list.clauses + n) l.count)

    under : (id : ℕ) (c : List ℤ) → clause_of (numbered 1 list.clauses) id ≡ Some c → raised_id from by id ≡ id
    under id c h =
        let a : id ≤ length list.clauses = clause-under (numbered 1 list.clauses) (length list.clauses) id c (numbered-ids 1 (length list.clauses) list.clauses (omega arith)) h in
        cond-false (ltb from id) (id + by) id (le-ltb from id (omega (arith, a, e)))

within-more : (v w : ℕ) (c : List ℤ) → v ≤ w → list_all (is_within v) c ≡ true → list_all (is_within w) c ≡ true
within-more v w [] le h = refl
within-more v w (l ∷ c) le h =
    let p : (is_within v l ≡ true) × (list_all (is_within v) c ≡ true) = and_parts (is_within v l) (list_all (is_within v) c) h in
    and_from (is_within w l) (list_all (is_within w) c) (one l p.0) (within-more v w c le p.1)
  where
    one : (x : ℤ) → is_within v x ≡ true → is_within w x ≡ true
    one (pos zero) e = e
    one (pos (suc n)) e = lt-ltb n w (let a : n < v = (Decides-ltb n v).0 e in omega (arith, a, le))
    one (negsuc n) e = lt-ltb n w (let a : n < v = (Decides-ltb n v).0 e in omega (arith, a, le))

added-raised : (from by : ℕ) (s t : State) (id : ℕ) (c : List ℤ) (hints : List ℕ) → IsRaised from by s t → add_fault s id c hints ≡ None → (add_fault t (raised_id from by id) c (map (raised_id from by) hints) ≡ None) × (s.last < id)
added-raised from by s t id c hints r h = (
  cond-true (list_all (is_within t.vars) c && not (has_both c)) (cond (ltb t.last (raised_id from by id)) (follow t.live (denied c) (map (raised_id from by) hints)) (Some L2)) (Some L1)
      (and_from (list_all (is_within t.vars) c) (not (has_both c)) (within-more s.vars t.vars c r.vars a.within) (not_from_false (has_both c) a.not_both))
      ∙ (cond-true (ltb t.last (raised_id from by id)) (follow t.live (denied c) (map (raised_id from by) hints)) (Some L2) (lt-ltb t.last (raised_id from by id) over)
      ∙ follow-raised from by s.live t.live (denied c) hints r.named a.derived),
  later,
)
  where
    a : IsAccepted s id c hints
    a = accepted s id c hints h

    later : s.last < id
    later = (Decides-ltb s.last id).0 (accepted s id c hints h).later

    over : t.last < raised_id from by id
    over = let e : raised_id from by id ≡ id + by = raised-over from by id (let b : from ≤ s.last = r.reached in omega (arith, b, later)) in let l : t.last ≡ s.last + by = r.last in omega (arith, e, l, later)

after-raised : (from by : ℕ) (s t : State) (id : ℕ) (c : List ℤ) (hints : List ℕ) → IsRaised from by s t → s.last < id → IsRaised from by (after_row s (Add id c hints)) (after_row t (Add (raised_id from by id) c (map (raised_id from by) hints)))
after-raised from by s t id c hints r later =
    record {
      vars = r.vars;
      reached = let b : from ≤ s.last = r.reached in omega (arith, b, later);
      last = is;
      ids = All-push (λ (e : ℕ × List ℤ). e.0 ≤ raised_id from by id) t.live (raised_id from by id, c)
          (All-weaker (λ (e : ℕ × List ℤ). e.0 ≤ t.last) (λ (e : ℕ × List ℤ). e.0 ≤ raised_id from by id) (λ e b. omega (arith, b, over)) t.live r.ids) (omega arith);
      named = λ i d h. pick i d (clause_of s.live i) refl h;
    }
  where
    is : raised_id from by id ≡ id + by
    is = raised-over from by id (let b : from ≤ s.last = r.reached in omega (arith, b, later))

    over : t.last < raised_id from by id
    over = let l : t.last ≡ s.last + by = r.last in omega (arith, is, l, later)

    last : (i : ℕ) (d : List ℤ) (b : Bool) → eqb id i ≡ b → cond b (Some c) None ≡ Some d → clause_of (t.live ++ (raised_id from by id, c) ∷ []) (raised_id from by i) ≡ Some d
    last i d true e q =
        subst (λ x. clause_of (t.live ++ (raised_id from by id, c) ∷ []) (raised_id from by x) ≡ Some d) ((Decides-eqb id i).0 e)
        (clause-right t.live ((raised_id from by id, c) ∷ []) (raised_id from by id) (clause-over t.live t.last (raised_id from by id) r.ids over)
        ∙ (cond-true (eqb (raised_id from by id) (raised_id from by id)) (Some c) None (eq-eqb (raised_id from by id) (raised_id from by id) refl) ∙ q))
    last i d false e q = absurd (none-some q)
      where
        none-some : None ≡ Some d → ⊥
        none-some x = cc

    pick : (i : ℕ) (d : List ℤ) (o : Option (List ℤ)) → clause_of s.live i ≡ o → clause_of (s.live ++ (id, c) ∷ []) i ≡ Some d → clause_of (t.live ++ (raised_id from by id, c) ∷ []) (raised_id from by i) ≡ Some d
    pick i d (Some x) e h =
        clause-left t.live ((raised_id from by id, c) ∷ []) (raised_id from by i) d (r.named i d (e ∙ (sym (clause-left s.live ((id, c) ∷ []) i x e) ∙ h)))
    pick i d None e h = last i d (eqb id i) refl (sym (clause-right s.live ((id, c) ∷ []) i e) ∙ h)

-- all rows
rows-raised : (from by : ℕ) (s t : State) (log : List LratRow) → IsRaised from by s t → All (λ row. is_addition row ≡ true) log → AreAccepted s log → AreAccepted t (raised from by log)
rows-raised from by s t [] r a h = tt
rows-raised from by s t (Add id c hints ∷ log) r a h =
    let p : (add_fault t (raised_id from by id) c (map (raised_id from by) hints) ≡ None) × (s.last < id) = added-raised from by s t id c hints r h.0 in
    (p.0, rows-raised from by (after_row s (Add id c hints)) (after_row t (Add (raised_id from by id) c (map (raised_id from by) hints))) log (after-raised from by s t id c hints r p.1) (All-tail (λ row. is_addition row ≡ true) (Add id c hints) log a) h.1)
rows-raised from by s t (Delete ids ∷ log) r a h = absurd (false≢true (All-head (λ row. is_addition row ≡ true) (Delete ids) log a))

pub log-raised : (list longer : Clauses) (log : List LratRow) (from by : ℕ) → length list.clauses ≡ from → IsLonger list longer by → All (λ row. is_addition row ≡ true) log → AreAccepted (start list) log → AreAccepted (start longer) (raised from by log)
log-raised list longer log from by e l a h = rows-raised from by (start list) (start longer) log (start-raised from by list longer e l) a h
