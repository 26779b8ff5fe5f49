-- The search goes on by rows, and a list that grows at its end.
use Rattle.std.proofs.Common.{◌≡◌, ℕ, suc, ◌+◌, ◌-◌, ◌<◌, ◌≤◌, ◌^◌, true, false, cond, ltb, List, [], ◌∷◌, ◌++◌, length, map, take, drop, get_or, ℤ, refl, sym, ◌∙◌, ap, subst, arith, append_assoc, length-append}
use Rattle.std.proofs.lemmas.Bool.{cond-true, lt-ltb}
use Rattle.std.proofs.lemmas.List.{append-nil, take_more, length-drop, get_or-drop}
use Rattle.std.proofs.lemmas.List.Elements.{All-cons, All-nil, All-weaker}
use Rattle.std.specs.List.{All}
use Rattle.hk_cnf.specs.Clauses.{Clauses}
use Rattle.hk_lrat.specs.declared.log.LratRow.{LratRow}
use Rattle.hk_lrat.specs.declared.log.LratRow.TheVariants.{Add, Delete}
use Rattle.hk_lrat.specs.Log.{is_empty_addition}
use Rattle.hk_lrat.specs.Raised.{raised_id, raised, is_addition, Fits, RowFits, IsLonger}
use Rattle.hk_lrat.proofs.Raising.{log-raised}
use Rattle.hk_cdcl.specs.declared.search.Search.{Search}
use Rattle.hk_cdcl.specs.Fresh.{AreFresh, additions}
use Rattle.hk_cdcl.specs.Searching.{AreOrdered, IsLogged}
use Rattle.hk_cdcl.specs.States.{Grows}

-- nothing came
pub grows-same : (s t : Search) → t.clauses ≡ s.clauses → t.log ≡ s.log → Grows s t
grows-same s t ec el =
    record {
      more = [];
      log = el ∙ sym (append-nil s.log);
      clauses = ap (λ (c : Clauses). c.clauses) ec ∙ sym (append-nil s.clauses.clauses);
      fresh = tt;
      logged = λ given h. subst (λ c. IsLogged given c t.log) (sym ec) (subst (IsLogged given s.clauses) (sym el) h);
    }

pub additions-append : (log more : List LratRow) → additions (log ++ more) ≡ additions log ++ additions more
additions-append [] more = refl
additions-append (Add id c hints ∷ log) more = ap (λ x. c ∷ x) (additions-append log more)
additions-append (Delete ids ∷ log) more = additions-append log more

fresh-append : (before cs ds : List (List ℤ)) → AreFresh before cs → AreFresh (before ++ cs) ds → AreFresh before (cs ++ ds)
fresh-append before [] ds h k = subst (λ b. AreFresh b ds) (append-nil before) k
fresh-append before (c ∷ cs) ds h k = (h.0, fresh-append (before ++ c ∷ []) cs ds h.1 (subst (λ b. AreFresh b ds) (sym (append_assoc before (c ∷ []) cs)) k))

-- one after the other
pub grows-then : (s t u : Search) → Grows s t → Grows t u → Grows s u
grows-then s t u g h =
    record {
      more = g.more ++ h.more;
      log = h.log ∙ (ap (λ l. l ++ h.more) g.log ∙ append_assoc s.log g.more h.more);
      clauses = h.clauses ∙ (ap (λ cs. cs ++ additions h.more) g.clauses ∙ (append_assoc s.clauses.clauses (additions g.more) (additions h.more) ∙ ap (λ cs. s.clauses.clauses ++ cs) (sym (additions-append g.more h.more))));
      fresh = subst (AreFresh s.clauses.clauses) (sym (additions-append g.more h.more)) (fresh-append s.clauses.clauses (additions g.more) (additions h.more) g.fresh (subst (λ cs. AreFresh cs (additions h.more)) g.clauses h.fresh));
      logged = λ given k. h.logged given (g.logged given k);
    }

pub drop-front : (xs ys : List (List ℤ)) → drop (length xs) (xs ++ ys) ≡ ys
drop-front [] ys = refl
drop-front (x ∷ xs) ys = drop-front xs ys

pub take-front : (xs ys : List (List ℤ)) → take (length xs) (xs ++ ys) ≡ xs
take-front [] ys = refl
take-front (x ∷ xs) ys = ap (λ zs. x ∷ zs) (take-front xs ys)

-- the same with another trail
pub grows-with : (s t u : Search) → Grows s t → u.clauses ≡ t.clauses → u.log ≡ t.log → Grows s u
grows-with s t u g ec el = grows-then s t u g (grows-same t u ec el)

-- raised rows have the same clauses
additions-raised : (from by : ℕ) (log : List LratRow) → additions (raised from by log) ≡ additions log
additions-raised from by [] = refl
additions-raised from by (Add id c hints ∷ log) = ap (λ x. c ∷ x) (additions-raised from by log)
additions-raised from by (Delete ids ∷ log) = additions-raised from by log

-- an id is raised by no more than this
raised-most : (from by m id : ℕ) → from ≤ m → id ≤ m → raised_id from by id ≤ m + by
raised-most from by m id le h = pick (ltb from id)
  where
    pick : (b : _) → cond b (id + by) id ≤ m + by
    pick true = omega (arith, h)
    pick false = omega (arith, h)

hints-raised : (from by m : ℕ) (hints : List ℕ) → from ≤ m → All (λ h. h ≤ m) hints → All (λ h. h ≤ m + by) (map (raised_id from by) hints)
hints-raised from by m [] le h = All-nil (λ x. x ≤ m + by)
hints-raised from by m (x ∷ hints) le h =
    All-cons (λ y. y ≤ m + by) (raised_id from by x) (map (raised_id from by) hints) (raised-most from by m x le (h 0 0 (omega arith))) (hints-raised from by m hints le (λ k d lt. h (suc k) d (omega (arith, lt))))

-- and stay in order
ordered-raised : (from by m : ℕ) (log : List LratRow) → from ≤ m → AreOrdered m log → AreOrdered (m + by) (raised from by log)
ordered-raised from by m [] le h = tt
ordered-raised from by m (Add id c hints ∷ log) le h =
    let e : id ≡ m + 1 = h.0 in
    let r : raised_id from by id ≡ id + by = cond-true (ltb from id) (id + by) id (lt-ltb from id (omega (arith, e, le))) in
    (omega (arith, r, e), hints-raised from by m hints le h.1, subst (λ n. AreOrdered n (raised from by log)) (omega arith) (ordered-raised from by (m + 1) log (omega (arith, le)) h.2))
ordered-raised from by m (Delete ids ∷ log) le h = absurd h

not-empty-raised : (from by : ℕ) (log : List LratRow) → All (λ row. is_empty_addition row ≡ false) log → All (λ row. is_empty_addition row ≡ false) (raised from by log)
not-empty-raised from by [] h = h
not-empty-raised from by (Add id c hints ∷ log) h =
    All-cons (λ row. is_empty_addition row ≡ false) (Add (raised_id from by id) c (map (raised_id from by) hints)) (raised from by log) (h 0 (Add id c hints) (omega arith)) (not-empty-raised from by log (λ k d lt. h (suc k) d (omega (arith, lt))))
not-empty-raised from by (Delete ids ∷ log) h =
    All-cons (λ row. is_empty_addition row ≡ false) (Delete (map (raised_id from by) ids)) (raised from by log) refl (not-empty-raised from by log (λ k d lt. h (suc k) d (omega (arith, lt))))

ordered-additions : (m : ℕ) (log : List LratRow) → AreOrdered m log → All (λ row. is_addition row ≡ true) log
ordered-additions m [] h = All-nil (λ row. is_addition row ≡ true)
ordered-additions m (Add id c hints ∷ log) h = All-cons (λ row. is_addition row ≡ true) (Add id c hints) log refl (ordered-additions (m + 1) log h.2)
ordered-additions m (Delete ids ∷ log) h = absurd h

-- their ids are below the number of clauses
pub ordered-fits : (from by m most : ℕ) (log : List LratRow) → AreOrdered m log → m + length log ≤ most → most + by < 2 ^ 64 → All (RowFits from by) log
ordered-fits from by m most [] h le few = All-nil (RowFits from by)
ordered-fits from by m most (Add id c hints ∷ log) h le few =
    let e : id ≡ m + 1 = h.0 in
    let b : m + suc (length log) ≤ most = le in
    All-cons (RowFits from by) (Add id c hints) log
    ((λ lt. omega (arith, e, b, few)), All-weaker (λ x. x ≤ m) (Fits from by) (λ x k lt. omega (arith, k, b, few)) hints h.1)
    (ordered-fits from by (m + 1) most log h.2 (omega (arith, b)) few)
ordered-fits from by m most (Delete ids ∷ log) h le few = absurd h

-- over a list that begins with the given one
pub logged-raised : (given clauses longer new : Clauses) (log : List LratRow) → IsLogged given clauses log → IsLonger given longer (length longer.clauses - length given.clauses) → new ≡ record { vars = longer.vars; clauses = longer.clauses ++ drop (length given.clauses) clauses.clauses } → IsLogged longer new (raised (length given.clauses) (length longer.clauses - length given.clauses) log)
logged-raised given clauses longer new log h l e =
    record {
      vars = ap (λ (c : Clauses). c.vars) e;
      grown = ap (λ (c : Clauses). c.clauses) e ∙ ap (λ cs. longer.clauses ++ cs) (ap (drop (length given.clauses)) h.grown ∙ (drop-front given.clauses (additions log) ∙ sym (additions-raised (length given.clauses) (length longer.clauses - length given.clauses) log)));
      accepted = log-raised given longer log (length given.clauses) (length longer.clauses - length given.clauses) refl l (ordered-additions (length given.clauses) log h.ordered) h.accepted;
      ordered = subst (λ n. AreOrdered n (raised (length given.clauses) (length longer.clauses - length given.clauses) log)) long (ordered-raised (length given.clauses) (length longer.clauses - length given.clauses) (length given.clauses) log (omega arith) h.ordered);
      not_empty = not-empty-raised (length given.clauses) (length longer.clauses - length given.clauses) log h.not_empty;
    }
  where
    long : length given.clauses + (length longer.clauses - length given.clauses) ≡ length longer.clauses
    long =
        let n : length longer.clauses ≡ length given.clauses + length l.more = ap length l.is ∙ length-append given.clauses l.more in
        omega (arith, n)

-- one clause more behind the list
pub joined-more : (list own : List (List ℤ)) (from i : ℕ) (c d : List ℤ) → from ≤ i → i < length own → c ≡ get_or own i d → (list ++ take (i - from) (drop from own)) ++ c ∷ [] ≡ list ++ take ((i + 1) - from) (drop from own)
joined-more list own from i c d le lt e =
    append_assoc list (take (i - from) (drop from own)) (c ∷ [])
    ∙ ap (λ cs. list ++ cs) (sym (ap (λ n. take n (drop from own)) next ∙ (take_more (drop from own) (i - from) d inside ∙ ap (λ x. take (i - from) (drop from own) ++ x ∷ []) here)))
  where
    next : (i + 1) - from ≡ (i - from) + 1
    next = omega (arith, le)

    inside : i - from < length (drop from own)
    inside = let n : length (drop from own) ≡ length own - from = length-drop from own in omega (arith, n, le, lt)

    here : get_or (drop from own) (i - from) d ≡ c
    here = get_or-drop from own (i - from) d ∙ (ap (λ n. get_or own n d) (omega (arith, le)) ∙ sym e)
