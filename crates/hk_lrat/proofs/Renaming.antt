-- A log is judged over renamed variables as over the variables themselves.
use Rattle.std.proofs.Common.{◌≡◌, ℕ, suc, ◌+◌, Bool, true, false, not, ◌&&◌, ◌||◌, if◌then◌else◌, nat_lt, ◌==◌, List, [], ◌∷◌, ◌++◌, length, map, ℤ, neg_ℤ, Option, Some, None, refl, sym, ◌∙◌, ap}
use Rattle.std.specs.List.{list_all, list_any, fold}
use Rattle.std.specs.Ordering.{int_eq}
use Rattle.hk_cnf.specs.declared.hint.Hint.{Hint}
use Rattle.hk_cnf.specs.declared.hint.Hint.TheVariants.{False, Unit as OneLeft, Other}
use Rattle.hk_cnf.specs.Literal.{has, denied}
use Rattle.hk_cnf.specs.Hint.{hint_of, with_open, with_literal, with_true}
use Rattle.hk_cnf.specs.Clauses.{Clauses}
use Rattle.hk_lrat.specs.declared.log.LratRow.{LratRow}
use Rattle.hk_lrat.specs.declared.log.LratRow.TheVariants.{Add, Delete}
use Rattle.hk_lrat.specs.declared.log.RowReason.{RowReason}
use Rattle.hk_lrat.specs.declared.log.RowReason.TheVariants.{L1, L2, L3}
use Rattle.hk_lrat.specs.Ranks.{renamed_row}
use Rattle.hk_lrat.specs.Log.{Live, State, numbered, clause_of, is_within, has_both, at_clause, at_hint, follow, add_fault, is_live, delete_fault, without, is_nil, after_fault, fault_from, log_fault}

-- a function that tells literals apart, keeps negations, and takes the first few variables to the first many
pub record Renames (f : ℤ → ℤ) (few many : ℕ) : Type 0 where
  pub same : (a b : ℤ) → int_eq (f a) (f b) ≡ int_eq a b
  pub negated : (a : ℤ) → f (neg_ℤ a) ≡ neg_ℤ (f a)
  pub within : (a : ℤ) → is_within many (f a) ≡ is_within few a

abbrev renamed_entry : (ℤ → ℤ) → ℕ × List ℤ → ℕ × List ℤ
renamed_entry f e = (e.0, map f e.1)

abbrev renamed_live : (ℤ → ℤ) → Live → Live
renamed_live f live = map (renamed_entry f) live

abbrev renamed_hint : (ℤ → ℤ) → Hint → Hint
renamed_hint f False = False
renamed_hint f (OneLeft l) = OneLeft (f l)
renamed_hint f Other = Other

abbrev renamed_clause : (ℤ → ℤ) → Option (List ℤ) → Option (List ℤ)
renamed_clause f None = None
renamed_clause f (Some c) = Some (map f c)

-- two sets hold the same of each literal and its new name
abbrev Agree : (ℤ → ℤ) → (ℤ → Bool) → (ℤ → Bool) → Type 0
Agree f t u = (l : ℤ) → u (f l) ≡ t l

has-same : (f : ℤ → ℤ) (few many : ℕ) → Renames f few many → (c : List ℤ) (l : ℤ) → has (map f c) (f l) ≡ has c l
has-same f few many r [] l = refl
has-same f few many r (x ∷ c) l = ap (λ b. b || has (map f c) (f l)) (r.same l x) ∙ ap (λ b. int_eq l x || b) (has-same f few many r c l)

has-negated : (f : ℤ → ℤ) (few many : ℕ) → Renames f few many → (c : List ℤ) (l : ℤ) → has (map f c) (neg_ℤ (f l)) ≡ has c (neg_ℤ l)
has-negated f few many r c l = ap (λ k. has (map f c) k) (sym (r.negated l)) ∙ has-same f few many r c (neg_ℤ l)

both-same : (f : ℤ → ℤ) (few many : ℕ) → Renames f few many → (c : List ℤ) → has_both (map f c) ≡ has_both c
both-same f few many r [] = refl
both-same f few many r (l ∷ c) = ap (λ b. b || has_both (map f c)) (has-negated f few many r c l) ∙ ap (λ b. has c (neg_ℤ l) || b) (both-same f few many r c)

within-same : (f : ℤ → ℤ) (few many : ℕ) → Renames f few many → (c : List ℤ) → list_all (is_within many) (map f c) ≡ list_all (is_within few) c
within-same f few many r [] = refl
within-same f few many r (l ∷ c) = ap (λ b. b && list_all (is_within many) (map f c)) (r.within l) ∙ ap (λ b. is_within few l && b) (within-same f few many r c)

-- a choice whose test and whose sides are renamed
choice-same : (f : ℤ → ℤ) (a b : Bool) (x y : Hint) (z : Hint) → b ≡ a → z ≡ renamed_hint f y → (if b then renamed_hint f x else z) ≡ renamed_hint f (if a then x else y)
choice-same f a b x y z e g = ap (λ d. if d then renamed_hint f x else z) e ∙ ap (λ w. if a then renamed_hint f x else w) g ∙ pick a
  where
    pick : (d : Bool) → (if d then renamed_hint f x else renamed_hint f y) ≡ renamed_hint f (if d then x else y)
    pick true = refl
    pick false = refl

open-same : (f : ℤ → ℤ) (few many : ℕ) → Renames f few many → (t u : ℤ → Bool) → Agree f t u → (h : Hint) (l : ℤ) → with_open u (renamed_hint f h) (f l) ≡ renamed_hint f (with_open t h l)
open-same f few many r t u a False l = choice-same f (t l) (u (f l)) Other (OneLeft l) (OneLeft (f l)) (a l) refl
open-same f few many r t u a (OneLeft k) l = choice-same f (int_eq k l) (int_eq (f k) (f l)) (OneLeft k) Other Other (r.same k l) refl
open-same f few many r t u a Other l = refl

literal-same : (f : ℤ → ℤ) (few many : ℕ) → Renames f few many → (t u : ℤ → Bool) → Agree f t u → (h : Hint) (l : ℤ) → with_literal u (renamed_hint f h) (f l) ≡ renamed_hint f (with_literal t h l)
literal-same f few many r t u a h l =
    choice-same f (t (neg_ℤ l)) (u (neg_ℤ (f l))) h (with_open t h l) (with_open u (renamed_hint f h) (f l)) (ap u (sym (r.negated l)) ∙ a (neg_ℤ l)) (open-same f few many r t u a h l)

fold-same : (f : ℤ → ℤ) (few many : ℕ) → Renames f few many → (t u : ℤ → Bool) → Agree f t u → (h : Hint) (c : List ℤ) → fold (with_literal u) (renamed_hint f h) (map f c) ≡ renamed_hint f (fold (with_literal t) h c)
fold-same f few many r t u a h [] = refl
fold-same f few many r t u a h (l ∷ c) = ap (λ g. fold (with_literal u) g (map f c)) (literal-same f few many r t u a h l) ∙ fold-same f few many r t u a (with_literal t h l) c

hint-same : (f : ℤ → ℤ) (few many : ℕ) → Renames f few many → (t u : ℤ → Bool) → Agree f t u → (c : List ℤ) → hint_of u (map f c) ≡ renamed_hint f (hint_of t c)
hint-same f few many r t u a c = fold-same f few many r t u a False c

clause-same : (f : ℤ → ℤ) (live : Live) (id : ℕ) → clause_of (renamed_live f live) id ≡ renamed_clause f (clause_of live id)
clause-same f [] id = refl
clause-same f (e ∷ live) id = pick (e.0 == id) (clause-same f live id)
  where
    pick : (d : Bool) → clause_of (renamed_live f live) id ≡ renamed_clause f (clause_of live id) → (if d then Some (map f e.1) else clause_of (renamed_live f live) id) ≡ renamed_clause f (if d then Some e.1 else clause_of live id)
    pick true h = refl
    pick false h = h

-- one literal more in both sets
agree-more : (f : ℤ → ℤ) (few many : ℕ) → Renames f few many → (t u : ℤ → Bool) → Agree f t u → (l : ℤ) → Agree f (with_true l t) (with_true (f l) u)
agree-more f few many r t u a l k = ap (λ b. b || u (f k)) (r.same k l) ∙ ap (λ b. int_eq k l || b) (a k)

-- what follows a hint clause
hint-next : (f : ℤ → ℤ) (h : Hint) (m n : ℤ → Option RowReason) → ((l : ℤ) → n (f l) ≡ m l) → at_hint (renamed_hint f h) n ≡ at_hint h m
hint-next f False m n e = refl
hint-next f (OneLeft l) m n e = e l
hint-next f Other m n e = refl

clause-next : (f : ℤ → ℤ) (o : Option (List ℤ)) (m n : List ℤ → Option RowReason) → ((c : List ℤ) → n (map f c) ≡ m c) → at_clause (renamed_clause f o) n ≡ at_clause o m
clause-next f None m n e = refl
clause-next f (Some c) m n e = e c

follow-same : (f : ℤ → ℤ) (few many : ℕ) → Renames f few many → (live : Live) (t u : ℤ → Bool) → Agree f t u → (hs : List ℕ) → follow (renamed_live f live) u hs ≡ follow live t hs
follow-same f few many r live t u a [] = refl
follow-same f few many r live t u a (h ∷ hs) =
    ap (λ o. at_clause o (λ c. at_hint (hint_of u c) (λ l. follow (renamed_live f live) (with_true l u) hs))) (clause-same f live h)
    ∙ clause-next f (clause_of live h) (λ c. at_hint (hint_of t c) (λ l. follow live (with_true l t) hs)) (λ c. at_hint (hint_of u c) (λ l. follow (renamed_live f live) (with_true l u) hs))
    (λ c. ap (λ g. at_hint g (λ l. follow (renamed_live f live) (with_true l u) hs)) (hint-same f few many r t u a c)
    ∙ hint-next f (hint_of t c) (λ l. follow live (with_true l t) hs) (λ l. follow (renamed_live f live) (with_true l u) hs)
    (λ l. follow-same f few many r live (with_true l t) (with_true (f l) u) (agree-more f few many r t u a l) hs))

abbrev renamed_state : (ℤ → ℤ) → ℕ → ℕ → Live → State
renamed_state f many last live = record { vars = many; last = last; live = renamed_live f live }

abbrev own_state : ℕ → ℕ → Live → State
own_state few last live = record { vars = few; last = last; live = live }

add-same : (f : ℤ → ℤ) (few many : ℕ) → Renames f few many → (last : ℕ) (live : Live) (id : ℕ) (c : List ℤ) (hints : List ℕ) → add_fault (renamed_state f many last live) id (map f c) hints ≡ add_fault (own_state few last live) id c hints
add-same f few many r last live id c hints =
    ap (λ b. told b (has_both (map f c)) (follow (renamed_live f live) (denied (map f c)) hints)) (within-same f few many r c)
    ∙ ap (λ b. told (list_all (is_within few) c) b (follow (renamed_live f live) (denied (map f c)) hints)) (both-same f few many r c)
    ∙ ap (λ o. told (list_all (is_within few) c) (has_both c) o) (follow-same f few many r live (denied c) (denied (map f c)) (has-negated f few many r c) hints)
  where
    told : Bool → Bool → Option RowReason → Option RowReason
    told a b o = if a && not b then (if nat_lt last id then o else Some L2) else Some L1

live-same : (f : ℤ → ℤ) (live : Live) (id : ℕ) → is_live (renamed_live f live) id ≡ is_live live id
live-same f [] id = refl
live-same f (e ∷ live) id = ap (λ b. (e.0 == id) || b) (live-same f live id)

delete-same : (f : ℤ → ℤ) (live : Live) (ids : List ℕ) → list_all (is_live (renamed_live f live)) ids ≡ list_all (is_live live) ids
delete-same f live [] = refl
delete-same f live (id ∷ ids) = ap (λ b. b && list_all (is_live (renamed_live f live)) ids) (live-same f live id) ∙ ap (λ b. is_live live id && b) (delete-same f live ids)

without-same : (f : ℤ → ℤ) (ids : List ℕ) (live : Live) → without ids (renamed_live f live) ≡ renamed_live f (without ids live)
without-same f ids [] = refl
without-same f ids (e ∷ live) = pick (not (list_any (λ id. e.0 == id) ids)) (without-same f ids live)
  where
    pick : (d : Bool) → without ids (renamed_live f live) ≡ renamed_live f (without ids live) → (if d then renamed_entry f e ∷ without ids (renamed_live f live) else without ids (renamed_live f live)) ≡ renamed_live f (if d then e ∷ without ids live else without ids live)
    pick true h = ap (λ l. renamed_entry f e ∷ l) h
    pick false h = h

push-same : (f : ℤ → ℤ) (live : Live) (id : ℕ) (c : List ℤ) → renamed_live f live ++ (id, map f c) ∷ [] ≡ renamed_live f (live ++ (id, c) ∷ [])
push-same f [] id c = refl
push-same f (e ∷ live) id c = ap (λ l. renamed_entry f e ∷ l) (push-same f live id c)

nil-same : (f : ℤ → ℤ) (c : List ℤ) → is_nil (map f c) ≡ is_nil c
nil-same f [] = refl
nil-same f (l ∷ c) = refl

from-same : (f : ℤ → ℤ) (few many : ℕ) → Renames f few many → (last : ℕ) (live : Live) (n : ℕ) (rows : List LratRow) → fault_from (renamed_state f many last live) n (map (renamed_row f) rows) ≡ fault_from (own_state few last live) n rows
from-same f few many r last live n [] = refl
from-same f few many r last live n (Add id c hints ∷ rows) =
    ap (λ o. after_fault o (n + 1) (is_nil (map f c)) (fault_from (record { vars = many; last = id; live = renamed_live f live ++ (id, map f c) ∷ [] }) (n + 1) (map (renamed_row f) rows))) (add-same f few many r last live id c hints)
    ∙ ap (λ b. after_fault (add_fault (own_state few last live) id c hints) (n + 1) b (fault_from (record { vars = many; last = id; live = renamed_live f live ++ (id, map f c) ∷ [] }) (n + 1) (map (renamed_row f) rows))) (nil-same f c)
    ∙ ap (λ g. after_fault (add_fault (own_state few last live) id c hints) (n + 1) (is_nil c) g)
    (ap (λ l. fault_from (record { vars = many; last = id; live = l }) (n + 1) (map (renamed_row f) rows)) (push-same f live id c) ∙ from-same f few many r id (live ++ (id, c) ∷ []) (n + 1) rows)
from-same f few many r last live n (Delete ids ∷ rows) =
    ap (λ b. after_fault (deleted b) (n + 1) false (fault_from (record { vars = many; last = last; live = without ids (renamed_live f live) }) (n + 1) (map (renamed_row f) rows))) (delete-same f live ids)
    ∙ ap (λ g. after_fault (delete_fault (own_state few last live) ids) (n + 1) false g)
    (ap (λ l. fault_from (record { vars = many; last = last; live = l }) (n + 1) (map (renamed_row f) rows)) (without-same f ids live) ∙ from-same f few many r last (without ids live) (n + 1) rows)
  where
    deleted : Bool → Option RowReason
    deleted b = if b then None else Some L3

numbered-same : (f : ℤ → ℤ) (n : ℕ) (cs : List (List ℤ)) → numbered n (map (map f) cs) ≡ renamed_live f (numbered n cs)
numbered-same f n [] = refl
numbered-same f n (c ∷ cs) = ap (λ l. (n, map f c) ∷ l) (numbered-same f (n + 1) cs)

count-same : {X Y : Type 0} (g : X → Y) (xs : List X) → length (map g xs) ≡ length xs
count-same g [] = refl
count-same g (x ∷ xs) = ap suc (count-same g xs)

-- the list and the log are those of the renamed ones
pub log-same : (f : ℤ → ℤ) (list made : Clauses) (rows ranked : List LratRow) → Renames f made.vars list.vars → map (map f) made.clauses ≡ list.clauses → map (renamed_row f) ranked ≡ rows → log_fault made ranked ≡ log_fault list rows
log-same f list made rows ranked r cs rs =
    sym (ap (λ k. fault_from (record { vars = list.vars; last = length k; live = numbered 1 k }) 0 rows) (sym cs)
    ∙ ap (λ k. fault_from (record { vars = list.vars; last = length (map (map f) made.clauses); live = numbered 1 (map (map f) made.clauses) }) 0 k) (sym rs)
    ∙ ap (λ k. fault_from (record { vars = list.vars; last = k; live = numbered 1 (map (map f) made.clauses) }) 0 (map (renamed_row f) ranked)) (count-same (map f) made.clauses)
    ∙ ap (λ k. fault_from (record { vars = list.vars; last = length made.clauses; live = k }) 0 (map (renamed_row f) ranked)) (numbered-same f 1 made.clauses)
    ∙ from-same f made.vars list.vars r (length made.clauses) (numbered 1 made.clauses) 0 ranked)
