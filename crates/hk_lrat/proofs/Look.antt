-- Looking up an id in the checker's table, and deleting there, against the live clauses that it stands for.
use Rattle.std.proofs.Common.{◌≡◌, ◌≢◌, ◌⊎◌, ℕ, zero, suc, ◌+◌, ◌-◌, ◌<◌, ◌≤◌, Bool, true, false, not, ◌&&◌, ◌||◌, cond, eqb, List, [], ◌∷◌, ◌++◌, map, length, take, drop, set, get_or, slice_range, ℤ, Some, None, refl, sym, ◌∙◌, ap, subst, inl, inr, arith}
use Rattle.std.proofs.lemmas.Bool.{false≢true, cases_lt, cond-true, cond-false, ne_eqb, eq-eqb}
use Rattle.std.proofs.lemmas.List.{get_or_default, length-map, get_or-map, map-id, map-append, take-append-le, drop_at, take_all}
use Rattle.std.proofs.lemmas.Slice.{between_is}
use Rattle.std.proofs.lemmas.List.Elements.{All-head, All-tail, All-map, All-filter, filter-append}
use Rattle.std.proofs.lemmas.List.Folds.{list_any-append}
use Rattle.std.specs.List.{All, AllWithin, HoldsAt, filter, list_any, list_all}
use Rattle.hk_lrat.specs.declared.table.Entry.{Entry}
use Rattle.hk_lrat.specs.Entries.{entry_of, live_of, IsRising, IsEntry, is_live_at, dead_at, dead_in}
use Rattle.hk_lrat.specs.Log.{clause_of, is_live, without}

-- halving: what lies below a place whose id is too small, and above one whose id is too great
pub low-more : (table : List Entry) (id m n : ℕ) → IsRising table → m < length table → HoldsAt (λ e. e.id ≡ n) table m → n < id → AllWithin (λ e. e.id < id) table 0 (m + 1)
low-more table id m n up b at lt = λ k d lo hi. pick k d (cases_lt k m) hi
  where
    pick : (k : ℕ) (d : Entry) → (k < m) ⊎ (m ≤ k) → k < m + 1 → (get_or table k d).id < id
    pick k d (inl h) hi = let r : (get_or table k d).id < (get_or table m d).id = up k m d h b in let e : (get_or table m d).id ≡ n = at d in omega (arith, r, e, lt)
    pick k d (inr h) hi = let e : (get_or table m d).id ≡ n = at d in let same : m ≡ k = omega (arith, h, hi) in subst (λ i. (get_or table i d).id < id) same (omega (arith, e, lt))

pub high-more : (table : List Entry) (id m n : ℕ) → IsRising table → HoldsAt (λ e. e.id ≡ n) table m → id < n → AllWithin (λ e. id < e.id) table m (length table)
high-more table id m n up at lt = λ k d lo hi. pick k d (cases_lt m k) lo hi
  where
    pick : (k : ℕ) (d : Entry) → (m < k) ⊎ (k ≤ m) → m ≤ k → k < length table → id < (get_or table k d).id
    pick k d (inl h) lo hi = let r : (get_or table m d).id < (get_or table k d).id = up m k d h hi in let e : (get_or table m d).id ≡ n = at d in omega (arith, r, e, lt)
    pick k d (inr h) lo hi = let e : (get_or table m d).id ≡ n = at d in let same : m ≡ k = omega (arith, h, lo) in subst (λ i. id < (get_or table i d).id) same (omega (arith, e, lt))

rising-tail : (e : Entry) (t : List Entry) → IsRising (e ∷ t) → IsRising t
rising-tail e t up = λ i j d lt b. up (suc i) (suc j) d (omega arith) (omega arith)

-- the ids behind the first are greater
rising-head : (e : Entry) (t : List Entry) → IsRising (e ∷ t) → All (λ x. e.id < x.id) t
rising-head e t up = λ k d lt. up zero (suc k) d (omega arith) (omega arith)

rising-others : (e : Entry) (t : List Entry) (id : ℕ) → IsRising (e ∷ t) → e.id ≡ id → All (λ x. x.id ≢ id) t
rising-others e t id up at = λ k d lt same. let h : e.id < (get_or t k d).id = rising-head e t up k d lt in omega (arith, h, same, at)

-- an id that no entry has names no live clause
pub clause_of-absent : (lits : List ℤ) (t : List Entry) (id : ℕ) → All (λ e. e.id ≢ id) t → clause_of (live_of lits t) id ≡ None
clause_of-absent lits [] id h = refl
clause_of-absent lits (e ∷ t) id h = pick e.live (clause_of-absent lits t id (All-tail (λ x. x.id ≢ id) e t h))
  where
    pick : (b : Bool) → clause_of (live_of lits t) id ≡ None → clause_of (map (entry_of lits) (cond b (e ∷ filter (λ x. x.live) t) (filter (λ x. x.live) t))) id ≡ None
    pick true r = cond-false (eqb e.id id) (Some (entry_of lits e).1) (clause_of (live_of lits t) id) (ne_eqb e.id id (All-head (λ x. x.id ≢ id) e t h)) ∙ r
    pick false r = r

-- the entry of an id has its clause, if it is live
pub clause_of-found : (lits : List ℤ) (t : List Entry) (id i : ℕ) (d : Entry) → IsRising t → i < length t → (get_or t i d).id ≡ id → clause_of (live_of lits t) id ≡ cond (get_or t i d).live (Some (entry_of lits (get_or t i d)).1) None
clause_of-found lits [] id i d up lt at = absurd (omega arith)
clause_of-found lits (e ∷ t) id zero d up lt at = pick e.live
  where
    pick : (b : Bool) → clause_of (map (entry_of lits) (cond b (e ∷ filter (λ x. x.live) t) (filter (λ x. x.live) t))) id ≡ cond b (Some (entry_of lits e).1) None
    pick true = cond-true (eqb e.id id) (Some (entry_of lits e).1) (clause_of (live_of lits t) id) (eq-eqb e.id id at)
    pick false = clause_of-absent lits t id (rising-others e t id up at)
clause_of-found lits (e ∷ t) id (suc i) d up lt at = pick e.live (clause_of-found lits t id i d (rising-tail e t up) (omega arith) at)
  where
    less : e.id ≢ id
    less = λ same. let h : e.id < (get_or t i d).id = rising-head e t up i d (omega arith) in omega (arith, h, same, at)

    pick : (b : Bool) → clause_of (live_of lits t) id ≡ cond (get_or t i d).live (Some (entry_of lits (get_or t i d)).1) None → clause_of (map (entry_of lits) (cond b (e ∷ filter (λ x. x.live) t) (filter (λ x. x.live) t))) id ≡ cond (get_or t i d).live (Some (entry_of lits (get_or t i d)).1) None
    pick true r = cond-false (eqb e.id id) (Some (entry_of lits e).1) (clause_of (live_of lits t) id) (ne_eqb e.id id less) ∙ r
    pick false r = r

-- the same for the test alone
pub is_live-same : (lits : List ℤ) (t : List Entry) (id : ℕ) → is_live (live_of lits t) id ≡ is_live_at t id
is_live-same lits [] id = refl
is_live-same lits (e ∷ t) id = pick e.live (is_live-same lits t id)
  where
    pick : (b : Bool) → is_live (live_of lits t) id ≡ is_live_at t id → is_live (map (entry_of lits) (cond b (e ∷ filter (λ x. x.live) t) (filter (λ x. x.live) t))) id ≡ (b && eqb e.id id) || is_live_at t id
    pick true r = ap (λ b. eqb e.id id || b) r
    pick false r = r

pub is_live-absent : (t : List Entry) (id : ℕ) → All (λ e. e.id ≢ id) t → is_live_at t id ≡ false
is_live-absent [] id h = refl
is_live-absent (e ∷ t) id h =
    let n : eqb e.id id ≡ false = ne_eqb e.id id (All-head (λ x. x.id ≢ id) e t h) in
    pick e.live (eqb e.id id) n (is_live-absent t id (All-tail (λ x. x.id ≢ id) e t h))
  where
    pick : (b s : Bool) → s ≡ false → is_live_at t id ≡ false → (b && s) || is_live_at t id ≡ false
    pick true true n r = absurd (false≢true (sym n))
    pick true false n r = r
    pick false s n r = r

pub is_live-found : (t : List Entry) (id i : ℕ) (d : Entry) → IsRising t → i < length t → (get_or t i d).id ≡ id → is_live_at t id ≡ (get_or t i d).live
is_live-found [] id i d up lt at = absurd (omega arith)
is_live-found (e ∷ t) id zero d up lt at = pick e.live (eqb e.id id) (eq-eqb e.id id at) (is_live-absent t id (rising-others e t id up at))
  where
    pick : (b s : Bool) → s ≡ true → is_live_at t id ≡ false → (b && s) || is_live_at t id ≡ b
    pick true true n r = refl
    pick true false n r = absurd (false≢true n)
    pick false s n r = r
is_live-found (e ∷ t) id (suc i) d up lt at = pick e.live (eqb e.id id) (ne_eqb e.id id less) (is_live-found t id i d (rising-tail e t up) (omega arith) at)
  where
    less : e.id ≢ id
    less = λ same. let h : e.id < (get_or t i d).id = rising-head e t up i d (omega arith) in omega (arith, h, same, at)

    pick : (b s : Bool) → s ≡ false → is_live_at t id ≡ (get_or t i d).live → (b && s) || is_live_at t id ≡ (get_or t i d).live
    pick true true n r = absurd (false≢true (sym n))
    pick true false n r = r
    pick false s n r = r

-- deleting an id that no entry has changes nothing
pub dead-absent : (t : List Entry) (id : ℕ) → All (λ e. e.id ≢ id) t → map (dead_at id) t ≡ t
dead-absent [] id h = refl
dead-absent (e ∷ t) id h =
    ap (λ x. x ∷ map (dead_at id) t) (cond-false (eqb e.id id) (record e { live = false }) e (ne_eqb e.id id (All-head (λ x. x.id ≢ id) e t h)))
    ∙ ap (λ xs. e ∷ xs) (dead-absent t id (All-tail (λ x. x.id ≢ id) e t h))

-- deleting at the place of an id
pub dead-found : (t : List Entry) (id i : ℕ) (d : Entry) → IsRising t → i < length t → (get_or t i d).id ≡ id → set t i (record (get_or t i d) { live = false }) ≡ map (dead_at id) t
dead-found [] id i d up lt at = absurd (omega arith)
dead-found (e ∷ t) id zero d up lt at =
    ap (λ x. x ∷ t) (sym (cond-true (eqb e.id id) (record e { live = false }) e (eq-eqb e.id id at)))
    ∙ ap (λ xs. dead_at id e ∷ xs) (sym (dead-absent t id (rising-others e t id up at)))
dead-found (e ∷ t) id (suc i) d up lt at =
    let less : e.id ≢ id = (λ same. let h : e.id < (get_or t i d).id = rising-head e t up i d (omega arith) in omega (arith, h, same, at)) in
    ap (λ x. x ∷ set t i (record (get_or t i d) { live = false })) (sym (cond-false (eqb e.id id) (record e { live = false }) e (ne_eqb e.id id less)))
    ∙ ap (λ xs. dead_at id e ∷ xs) (dead-found t id i d (rising-tail e t up) (omega arith) at)

or-false : (b : Bool) → b || false ≡ b
or-false true = refl
or-false false = refl

cond-same : {A : Type 0} (b : Bool) (x : A) → cond b x x ≡ x
cond-same true x = refl
cond-same false x = refl

-- one id more
pub dead_in-more : (t : List Entry) (ids : List ℕ) (id : ℕ) → map (dead_at id) (map (dead_in ids) t) ≡ map (dead_in (ids ++ id ∷ [])) t
dead_in-more [] ids id = refl
dead_in-more (e ∷ t) ids id =
    ap (λ x. x ∷ map (dead_at id) (map (dead_in ids) t)) (one (list_any (λ i. eqb e.id i) ids) (list_any (λ i. eqb e.id i) (ids ++ id ∷ [])) (list_any-append (λ i. eqb e.id i) ids (id ∷ [])))
    ∙ ap (λ xs. dead_in (ids ++ id ∷ []) e ∷ xs) (dead_in-more t ids id)
  where
    one : (b s : Bool) → s ≡ (b || (eqb e.id id || false)) → dead_at id (cond b (record e { live = false }) e) ≡ cond s (record e { live = false }) e
    one true s h = cond-same (eqb e.id id) (record e { live = false }) ∙ sym (cond-true s (record e { live = false }) e h)
    one false s h = ap (λ x. cond x (record e { live = false }) e) (sym (h ∙ or-false (eqb e.id id)))

-- the live clauses after a deletion
pub live_of-dead : (lits : List ℤ) (t : List Entry) (ids : List ℕ) → live_of lits (map (dead_in ids) t) ≡ without ids (live_of lits t)
live_of-dead lits [] ids = refl
live_of-dead lits (e ∷ t) ids = pick (list_any (λ i. eqb e.id i) ids) refl (live_of-dead lits t ids)
  where
    dropped : list_any (λ i. eqb e.id i) ids ≡ true → (l : Bool) → without ids (map (entry_of lits) (cond l (e ∷ filter (λ x. x.live) t) (filter (λ x. x.live) t))) ≡ without ids (live_of lits t)
    dropped is true = ap (λ x. cond (not x) (entry_of lits e ∷ without ids (live_of lits t)) (without ids (live_of lits t))) is
    dropped is false = refl

    kept : list_any (λ i. eqb e.id i) ids ≡ false → live_of lits (map (dead_in ids) t) ≡ without ids (live_of lits t) → (l : Bool) → map (entry_of lits) (cond l (e ∷ filter (λ x. x.live) (map (dead_in ids) t)) (filter (λ x. x.live) (map (dead_in ids) t))) ≡ without ids (map (entry_of lits) (cond l (e ∷ filter (λ x. x.live) t) (filter (λ x. x.live) t)))
    kept is r true = ap (λ x. entry_of lits e ∷ x) r ∙ sym (ap (λ x. cond (not x) (entry_of lits e ∷ without ids (live_of lits t)) (without ids (live_of lits t))) is)
    kept is r false = r

    pick : (b : Bool) → list_any (λ i. eqb e.id i) ids ≡ b → live_of lits (map (dead_in ids) t) ≡ without ids (live_of lits t) → live_of lits (map (dead_in ids) (e ∷ t)) ≡ without ids (live_of lits (e ∷ t))
    pick true is r = ap (λ x. live_of lits (x ∷ map (dead_in ids) t)) (cond-true (list_any (λ i. eqb e.id i) ids) (record e { live = false }) e is) ∙ (r ∙ sym (dropped is e.live))
    pick false is r = ap (λ x. live_of lits (x ∷ map (dead_in ids) t)) (cond-false (list_any (λ i. eqb e.id i) ids) (record e { live = false }) e is) ∙ kept is r e.live

-- what the code reads past the end of a table
abbrev pub no_entry : Entry
no_entry = record { id = 0; start = 0; end = 0; live = false }

id-at : (table : List Entry) (m : ℕ) → m < length table → HoldsAt (λ e. e.id ≡ (get_or table m no_entry).id) table m
id-at table m b = λ d. ap (λ e. e.id) (get_or_default table m d no_entry b)

pub low-at : (table : List Entry) (id m : ℕ) → IsRising table → m < length table → (get_or table m no_entry).id < id → AllWithin (λ e. e.id < id) table 0 (m + 1)
low-at table id m up b lt = low-more table id m (get_or table m no_entry).id up b (id-at table m b) lt

pub high-at : (table : List Entry) (id m : ℕ) → IsRising table → m < length table → id ≤ (get_or table m no_entry).id → ((get_or table m no_entry).id ≡ id → ⊥) → AllWithin (λ e. id < e.id) table m (length table)
high-at table id m up b le ne = let lt : id < (get_or table m no_entry).id = omega (arith, le, ne) in high-more table id m (get_or table m no_entry).id up (id-at table m b) lt

-- the entries after a deletion: the ids and the parts stay
pub All-dead : (P : Entry → Type 0) (ids : List ℕ) (t : List Entry) → ((e : Entry) → P e → P (record e { live = false })) → All P t → All P (map (dead_in ids) t)
All-dead P ids t keeps h = All-map P (dead_in ids) t (λ k d lt. one (get_or t k d) (list_any (λ i. eqb (get_or t k d).id i) ids) (h k d lt))
  where
    one : (e : Entry) (b : Bool) → P e → P (cond b (record e { live = false }) e)
    one e true p = keeps e p
    one e false p = p

id-dead : (ids : List ℕ) (e : Entry) → (dead_in ids e).id ≡ e.id
id-dead ids e = one (list_any (λ i. eqb e.id i) ids)
  where
    one : (b : Bool) → (cond b (record e { live = false }) e).id ≡ e.id
    one true = refl
    one false = refl

pub rising-dead : (ids : List ℕ) (t : List Entry) → IsRising t → IsRising (map (dead_in ids) t)
rising-dead ids t up = λ i j d lt b.
    let n : length (map (dead_in ids) t) ≡ length t = length-map t (dead_in ids) in
    let bj : j < length t = omega (arith, n, b) in
    let bi : i < length t = omega (arith, lt, bj) in
    let ei : (get_or (map (dead_in ids) t) i d).id ≡ (get_or t i d).id = ap (λ e. e.id) (get_or-map (dead_in ids) t i d d bi) ∙ id-dead ids (get_or t i d) in
    let ej : (get_or (map (dead_in ids) t) j d).id ≡ (get_or t j d).id = ap (λ e. e.id) (get_or-map (dead_in ids) t j d d bj) ∙ id-dead ids (get_or t j d) in
    let h : (get_or t i d).id < (get_or t j d).id = up i j d lt bj in
    omega (arith, ei, ej, h)

pub dead-none : (t : List Entry) → map (dead_in []) t ≡ t
dead-none t = map-id t

pub all_live-same : (lits : List ℤ) (t : List Entry) (ids : List ℕ) → list_all (is_live (live_of lits t)) ids ≡ list_all (is_live_at t) ids
all_live-same lits t [] = refl
all_live-same lits t (id ∷ ids) = ap (λ b. b && list_all (is_live (live_of lits t)) ids) (is_live-same lits t id) ∙ ap (λ b. is_live_at t id && b) (all_live-same lits t ids)

-- more literals at the end leave a part as it was, and a clause more is the last
range-append : (lits more : List ℤ) (s e : ℕ) → s ≤ e → e ≤ length lits → slice_range (lits ++ more) s e ≡ slice_range lits s e
range-append lits more s e a b =
    between_is (lits ++ more) s e ∙ (ap (drop s) (take-append-le e lits more b) ∙ sym (between_is lits s e))

entries-append : (lits more : List ℤ) (t : List Entry) → All (IsEntry (length lits)) t → map (entry_of (lits ++ more)) t ≡ map (entry_of lits) t
entries-append lits more [] h = refl
entries-append lits more (e ∷ t) h =
    let i : IsEntry (length lits) e = All-head (IsEntry (length lits)) e t h in
    ap (λ c. (e.id, c) ∷ map (entry_of (lits ++ more)) t) (range-append lits more e.start e.end i.rising i.inside)
    ∙ ap (λ es. entry_of lits e ∷ es) (entries-append lits more t (All-tail (IsEntry (length lits)) e t h))

range-whole : (lits more : List ℤ) (s e : ℕ) → s ≡ length lits → e ≡ length lits + length more → slice_range (lits ++ more) s e ≡ more
range-whole lits more s e a b = ap (take (e - s)) (drop_at lits more s (sym a)) ∙ take_all (e - s) more (omega (arith, a, b))

pub live_of-push : (lits more : List ℤ) (t : List Entry) (e : Entry) → All (IsEntry (length lits)) t → e.live ≡ true → e.start ≡ length lits → e.end ≡ length lits + length more → live_of (lits ++ more) (t ++ e ∷ []) ≡ live_of lits t ++ (e.id, more) ∷ []
live_of-push lits more t e h l a b =
    ap (map (entry_of (lits ++ more))) (filter-append (λ x. x.live) t (e ∷ []))
    ∙ (map-append (entry_of (lits ++ more)) (filter (λ x. x.live) t) (filter (λ x. x.live) (e ∷ []))
    ∙ (ap (λ es. es ++ map (entry_of (lits ++ more)) (filter (λ x. x.live) (e ∷ []))) (entries-append lits more (filter (λ x. x.live) t) (All-filter (λ x. x.live) (IsEntry (length lits)) t h))
    ∙ (ap (λ es. live_of lits t ++ map (entry_of (lits ++ more)) es) (cond-true e.live (e ∷ []) [] l)
    ∙ ap (λ c. live_of lits t ++ (e.id, c) ∷ []) (range-whole lits more e.start e.end a b))))
