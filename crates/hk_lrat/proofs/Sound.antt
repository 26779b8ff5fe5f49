-- An accepted row follows from the live clauses, and a list that a log refutes has no satisfying assignment.
use Rattle.std.proofs.Common.{◌≡◌, ◌≢◌, ◌⊎◌, ℕ, zero, suc, ◌+◌, ◌<◌, Bool, true, false, not, ◌&&◌, cond, eqb, ltb, List, [], ◌∷◌, length, get_or, ℤ, pos, negsuc, neg_ℤ, Option, Some, None, refl, sym, ◌∙◌, ap, subst, inl, inr}
use Rattle.std.proofs.lemmas.Bool.{false≢true, cases_Bool, or_cases, and_parts, not-true, not-false, not_from_true, not_from_false}
use Rattle.std.proofs.lemmas.List.Elements.{All-nil, All-cons, All-head, All-tail, All-push, All-filter}
use Rattle.std.proofs.lemmas.List.Folds.{list_any_none, list_any_at, list_all_at, Any-from_list_any}
use Rattle.std.specs.List.{All, Any, list_any, list_all}
use Rattle.std.specs.Ordering.{int_eq}
use Rattle.hk_cnf.specs.declared.hint.Hint.{Hint}
use Rattle.hk_cnf.specs.declared.hint.Hint.TheVariants.{False, Unit as OneLeft, Other}
use Rattle.hk_cnf.specs.Literal.{has, denied, value_at}
use Rattle.hk_cnf.specs.Hint.{hint_of, with_true, Single}
use Rattle.hk_cnf.specs.Clauses.{Clauses, clause_value, clauses_value, IsUnsatisfiable}
use Rattle.hk_cnf.proofs.Members.{int_eq-is, all-has}
use Rattle.hk_cnf.proofs.Tells.{tells-at}
use Rattle.hk_lrat.specs.declared.log.LratRow.{LratRow}
use Rattle.hk_lrat.specs.declared.log.LratRow.TheVariants.{Add, Delete}
use Rattle.hk_lrat.specs.declared.log.RowReason.{RowReason}
use Rattle.hk_lrat.specs.declared.log.RowReason.TheVariants.{L1, L2}
use Rattle.hk_lrat.specs.Log.{Live, State, numbered, start, clause_of, is_within, has_both, at_clause, at_hint, follow, add_fault, row_fault, after_row, is_empty_addition, after_fault, fault_from, log_fault}

-- what a test that fails at no element says of each
pub all-pass : {X : Type 0} (p : X → Bool) (xs : List X) → list_all p xs ≡ true → All (λ x. p x ≡ true) xs
all-pass {X = X} p xs h = λ k d lt. pick k d lt (cases_Bool (p (get_or xs k d)))
  where
    pick : (k : ℕ) (d : X) → k < length xs → (p (get_or xs k d) ≡ true) ⊎ (p (get_or xs k d) ≡ false) → p (get_or xs k d) ≡ true
    pick k d lt (inl e) = e
    pick k d lt (inr e) = absurd (false≢true (sym (list_all_at p xs k d lt e) ∙ h))

none-pass : {X : Type 0} (p : X → Bool) (xs : List X) → list_any p xs ≡ false → All (λ x. p x ≡ false) xs
none-pass {X = X} p xs h = λ k d lt. pick k d lt (cases_Bool (p (get_or xs k d)))
  where
    pick : (k : ℕ) (d : X) → k < length xs → (p (get_or xs k d) ≡ true) ⊎ (p (get_or xs k d) ≡ false) → p (get_or xs k d) ≡ false
    pick k d lt (inl e) = absurd (false≢true (sym h ∙ list_any_at p xs k d lt e))
    pick k d lt (inr e) = e

-- the assignment makes these literals true
pub record Under (a : List Bool) (truth : ℤ → Bool) : Type 0 where
  pub holds : (l : ℤ) → truth l ≡ true → value_at a l ≡ true

-- the assignment makes each live clause true
pub record AllTrue (a : List Bool) (live : Live) : Type 0 where
  pub each : All (λ e. clause_value a e.1 ≡ true) live

neg-true : (a : List Bool) (l : ℤ) → value_at a (neg_ℤ l) ≡ true → value_at a l ≡ false
neg-true a (pos zero) h = refl
neg-true a (pos (suc n)) h = not-true (get_or a n false) h
neg-true a (negsuc n) h = not_from_true (get_or a n false) h

neg-false : (a : List Bool) (l : ℤ) → l ≢ pos 0 → value_at a (neg_ℤ l) ≡ false → value_at a l ≡ true
neg-false a (pos zero) n h = absurd (n refl)
neg-false a (pos (suc n)) z h = not-false (get_or a n false) h
neg-false a (negsuc n) z h = not_from_false (get_or a n false) h

clause_of-true : (a : List Bool) (live : Live) (id : ℕ) (c : List ℤ) → All (λ e. clause_value a e.1 ≡ true) live → clause_of live id ≡ Some c → clause_value a c ≡ true
clause_of-true a [] id c h e = absurd cc
clause_of-true a (x ∷ live) id c h e = pick (clause_of-true a live id c (All-tail (λ y. clause_value a y.1 ≡ true) x live h)) (eqb x.0 id) e
  where
    pick : (clause_of live id ≡ Some c → clause_value a c ≡ true) → (b : Bool) → cond b (Some x.1) (clause_of live id) ≡ Some c → clause_value a c ≡ true
    pick rest true s = let same : x.1 ≡ c = cc in subst (λ d. clause_value a d ≡ true) same (All-head (λ y. clause_value a y.1 ≡ true) x live h)
    pick rest false s = rest s

-- a clause whose literals are all false is false
false-refutes : (a : List Bool) (t : ℤ → Bool) (c : List ℤ) → Under a t → All (λ x. t (neg_ℤ x) ≡ true) c → clause_value a c ≡ true → ⊥
false-refutes a t c u h v =
    false≢true (sym (list_any_none (value_at a) c (λ k d lt. neg-true a (get_or c k d) (u.holds (neg_ℤ (get_or c k d)) (h k d lt)))) ∙ v)

-- a unit clause makes its literal true
single-true : (a : List Bool) (t : ℤ → Bool) (l : ℤ) (c : List ℤ) → Under a t → Single t l c → clause_value a c ≡ true → value_at a l ≡ true
single-true a t l c u s v = pick (Any-from_list_any (value_at a) c v)
  where
    pick : Any (λ x. value_at a x ≡ true) c → value_at a l ≡ true
    pick (k, x, lt, at, h) = choose (s.others k x lt)
      where
        choose : (l ≡ get_or c k x) ⊎ (t (neg_ℤ (get_or c k x)) ≡ true) → value_at a l ≡ true
        choose (inl e) = ap (value_at a) (e ∙ at) ∙ h
        choose (inr e) = absurd (false≢true (sym (neg-true a (get_or c k x) (u.holds (neg_ℤ (get_or c k x)) e)) ∙ (ap (value_at a) at ∙ h)))

Under-with_true : (a : List Bool) (t : ℤ → Bool) (l : ℤ) → Under a t → value_at a l ≡ true → Under a (with_true l t)
Under-with_true a t l u v = record { holds = λ k e. pick k (or_cases (int_eq k l) (t k) e) }
  where
    pick : (k : ℤ) → (int_eq k l ≡ true) ⊎ (t k ≡ true) → value_at a k ≡ true
    pick k (inl e) = ap (value_at a) (int_eq-is k l e) ∙ v
    pick k (inr e) = u.holds k e

-- hints that end in a false clause leave no assignment
follow-refutes : (a : List Bool) (live : Live) (t : ℤ → Bool) (hs : List ℕ) → AllTrue a live → Under a t → follow live t hs ≡ None → ⊥
follow-refutes a live t [] h u e = cc
follow-refutes a live t (x ∷ hs) h u e = found (λ s v. follow-refutes a live s hs h v) (clause_of live x) refl e
  where
    found : (go : (s : ℤ → Bool) → Under a s → follow live s hs ≡ None → ⊥) → (o : Option (List ℤ)) → clause_of live x ≡ o → at_clause o (λ c. at_hint (hint_of t c) (λ l. follow live (with_true l t) hs)) ≡ None → ⊥
    found go None at n = cc
    found go (Some c) at n = told (hint_of t c) refl n
      where
        v : clause_value a c ≡ true
        v = clause_of-true a live x c h.each at

        told : (k : Hint) → hint_of t c ≡ k → at_hint k (λ l. follow live (with_true l t) hs) ≡ None → ⊥
        told False is m = false-refutes a t c u (tells-at t c False is) v
        told (OneLeft l) is m = go (with_true l t) (Under-with_true a t l u (single-true a t l c u (tells-at t c (OneLeft l) is) v)) m
        told Other is m = cc

-- an accepted clause is true where the live clauses are
pub follow-implies : (a : List Bool) (live : Live) (vars : ℕ) (c : List ℤ) (hs : List ℕ) → AllTrue a live → list_all (is_within vars) c ≡ true → follow live (denied c) hs ≡ None → clause_value a c ≡ true
follow-implies a live vars c hs h w e = pick (cases_Bool (clause_value a c))
  where
    not_zero : has c (pos 0) ≡ true → ⊥
    not_zero m = false≢true (all-has (λ l. is_within vars l ≡ true) c (pos 0) (all-pass (is_within vars) c w) m)

    under : clause_value a c ≡ false → (l : ℤ) → denied c l ≡ true → value_at a l ≡ true
    under f (pos zero) m = absurd (not_zero m)
    under f (pos (suc n)) m = neg-false a (pos (suc n)) (λ z. cc) (all-has (λ l. value_at a l ≡ false) c (negsuc n) (none-pass (value_at a) c f) m)
    under f (negsuc n) m = neg-false a (negsuc n) (λ z. cc) (all-has (λ l. value_at a l ≡ false) c (pos (suc n)) (none-pass (value_at a) c f) m)

    pick : (clause_value a c ≡ true) ⊎ (clause_value a c ≡ false) → clause_value a c ≡ true
    pick (inl v) = v
    pick (inr f) = absurd (follow-refutes a live (denied c) hs h (record { holds = under f }) e)

-- what no fault of an addition says
pub record IsAccepted (s : State) (id : ℕ) (c : List ℤ) (hints : List ℕ) : Type 0 where
  pub within : list_all (is_within s.vars) c ≡ true
  pub not_both : has_both c ≡ false
  pub later : ltb s.last id ≡ true
  pub derived : follow s.live (denied c) hints ≡ None

pub accepted : (s : State) (id : ℕ) (c : List ℤ) (hints : List ℕ) → add_fault s id c hints ≡ None → IsAccepted s id c hints
accepted s id c hints e = first (list_all (is_within s.vars) c && not (has_both c)) refl e
  where
    second : list_all (is_within s.vars) c && not (has_both c) ≡ true → (b : Bool) → ltb s.last id ≡ b → cond b (follow s.live (denied c) hints) (Some L2) ≡ None → IsAccepted s id c hints
    second w true l n =
        let p : (list_all (is_within s.vars) c ≡ true) × (not (has_both c) ≡ true) = and_parts (list_all (is_within s.vars) c) (not (has_both c)) w in
        record { within = p.0; not_both = not-true (has_both c) p.1; later = l; derived = n }
    second w false l n = absurd cc

    first : (b : Bool) → list_all (is_within s.vars) c && not (has_both c) ≡ b → cond b (cond (ltb s.last id) (follow s.live (denied c) hints) (Some L2)) (Some L1) ≡ None → IsAccepted s id c hints
    first true w n = second w (ltb s.last id) refl n
    first false w n = absurd cc

added-true : (a : List Bool) (s : State) (id : ℕ) (c : List ℤ) (hints : List ℕ) → AllTrue a s.live → add_fault s id c hints ≡ None → clause_value a c ≡ true
added-true a s id c hints h e =
    let p : IsAccepted s id c hints = accepted s id c hints e in
    follow-implies a s.live s.vars c hints h p.within p.derived

-- an accepted row keeps the live clauses true
pub row-keeps : (a : List Bool) (s : State) (row : LratRow) → AllTrue a s.live → row_fault s row ≡ None → AllTrue a (after_row s row).live
row-keeps a s (Add id c hints) h e = record { each = All-push (λ x. clause_value a x.1 ≡ true) s.live (id, c) h.each (added-true a s id c hints h e) }
row-keeps a s (Delete ids) h e = record { each = All-filter (λ x. not (list_any (λ id. eqb x.0 id) ids)) (λ x. clause_value a x.1 ≡ true) s.live h.each }

-- an accepted empty clause leaves no assignment
empty-refutes : (a : List Bool) (s : State) (row : LratRow) → AllTrue a s.live → row_fault s row ≡ None → is_empty_addition row ≡ true → ⊥
empty-refutes a s (Add id [] hints) h e t = false≢true (added-true a s id [] hints h e)
empty-refutes a s (Add id (l ∷ c) hints) h e t = false≢true t
empty-refutes a s (Delete ids) h e t = false≢true t

fault_from-sound : (a : List Bool) (s : State) (n : ℕ) (rows : List LratRow) → AllTrue a s.live → fault_from s n rows ≡ None → ⊥
fault_from-sound a s n [] h e = cc
fault_from-sound a s n (row ∷ rows) h e = pick (λ t. fault_from-sound a (after_row s row) (n + 1) rows t) (row_fault s row) refl (is_empty_addition row) refl e
  where
    pick : (AllTrue a (after_row s row).live → fault_from (after_row s row) (n + 1) rows ≡ None → ⊥) → (o : Option RowReason) → row_fault s row ≡ o → (b : Bool) → is_empty_addition row ≡ b → after_fault o (n + 1) b (fault_from (after_row s row) (n + 1) rows) ≡ None → ⊥
    pick go (Some r) o b is m = cc
    pick go None o true is m = empty-refutes a s row h o is
    pick go None o false is m = go (row-keeps a s row h o) m

numbered-true : (a : List Bool) (n : ℕ) (cs : List (List ℤ)) → All (λ c. clause_value a c ≡ true) cs → All (λ e. clause_value a e.1 ≡ true) (numbered n cs)
numbered-true a n [] h = All-nil (λ e. clause_value a e.1 ≡ true)
numbered-true a n (c ∷ cs) h = All-cons (λ e. clause_value a e.1 ≡ true) (n, c) (numbered (n + 1) cs) (All-head (λ d. clause_value a d ≡ true) c cs h) (numbered-true a (n + 1) cs (All-tail (λ d. clause_value a d ≡ true) c cs h))

-- a list that a log refutes is unsatisfiable
pub log_fault-sound : (list : Clauses) (rows : List LratRow) → log_fault list rows ≡ None → IsUnsatisfiable list
log_fault-sound list rows e = λ a len. pick a (cases_Bool (clauses_value a list.clauses))
  where
    pick : (a : List Bool) → (clauses_value a list.clauses ≡ true) ⊎ (clauses_value a list.clauses ≡ false) → clauses_value a list.clauses ≡ false
    pick a (inl t) = absurd (fault_from-sound a (start list) 0 rows (record { each = numbered-true a 1 list.clauses (all-pass (clause_value a) list.clauses t) }) e)
    pick a (inr f) = f
