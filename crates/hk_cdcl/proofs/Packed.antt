-- Records in a row of words.
use Rattle.std.proofs.Common.{◌≡◌, ◌≢◌, ◌⊎◌, ℕ, ◌+◌, ◌-◌, ◌<◌, ◌≤◌, Bool, true, false, List, [], ◌∷◌, ◌++◌, map, length, take, drop, set, get_or, ℤ, pos, refl, sym, ◌∙◌, ap, subst, inl, inr, arith, append_assoc}
use Rattle.std.specs.Prelude.{suc, nat_eq, if◌then◌else◌}
use Rattle.std.proofs.lemmas.Bool.{eqb-true, eq-eqb, ne_eqb, cases_eq, cases_lt, cases_order}
use Rattle.std.proofs.lemmas.List.{get_or_default, get_or-map, get_or-set_same, get_or-set_other, get_or_append_left, get_or-append-add, get_or_at, get_or_push, drop-set-lt, drop-set-add, take-set-le, drop-append-le, take-append-le, drop-drop, drop_at, take_all, length-map, length-drop, length-append, length-take-le, length_push, ext_get_or, map_push}
use Rattle.std.proofs.Math.ListN.{length-set}
use Rattle.std.specs.List.{All}
use Rattle.hk_cnf.specs.Literal.{code_of}
use Rattle.hk_cdcl.specs.declared.records.Records.TheInside.{Inside}
use Rattle.hk_cdcl.specs.Packing.{word, pair_of, codes_of, text_of, view_of, IsRecord, ArePacked, IsPacked}
use Rattle.hk_cdcl.specs.Records.{lit_of, Pair, Recorded, pair_at, text_at, place_in}
use Rattle.hk_cdcl.proofs.Codes.{lit-code, lits-back}

abbrev pub paired : ℕ → ℕ → Pair
paired a b = record { first = lit_of a; second = lit_of b }

abbrev pub shown : List ℕ → List Pair → List (List ℤ) → Recorded
shown starts pairs texts = record { starts = starts; pairs = pairs; texts = texts }

-- a start that is found is the one that was looked for
pub place-is : (starts : List ℕ) (t : ℕ) → place_in starts t < length starts → word starts (place_in starts t) ≡ t
place-is [] t lt = absurd (omega (arith, lt))
place-is (s ∷ ss) t lt = at (place-is ss t) (nat_eq s t) refl lt
  where
    at : (place_in ss t < length ss → word ss (place_in ss t) ≡ t) → (b : Bool) → nat_eq s t ≡ b → (if b then 0 else suc (place_in ss t)) < suc (length ss) → word (s ∷ ss) (if b then 0 else suc (place_in ss t)) ≡ t
    at go true e h = eqb-true s t e
    at go false e h = go (omega (arith, h))

-- a start more
pub place-last : (starts : List ℕ) (s : ℕ) → All (λ x. x < s) starts → place_in (starts ++ s ∷ []) s ≡ length starts
place-last [] s h = ap (λ b. if b then 0 else suc (place_in [] s)) (eq-eqb s s refl)
place-last (x ∷ xs) s h =
    ap (λ b. if b then 0 else suc (place_in (xs ++ s ∷ []) s)) (ne_eqb x s (λ e. let lt : x < s = h 0 x (omega arith) in omega (arith, e, lt)))
    ∙ ap suc (place-last xs s (λ k d lt. h (suc k) d (omega (arith, lt))))

pub place-kept : (starts : List ℕ) (s t : ℕ) → place_in starts t < length starts → place_in (starts ++ s ∷ []) t ≡ place_in starts t
place-kept [] s t lt = absurd (omega (arith, lt))
place-kept (x ∷ xs) s t lt = at (place-kept xs s t) (nat_eq x t) lt
  where
    at : (place_in xs t < length xs → place_in (xs ++ s ∷ []) t ≡ place_in xs t) → (b : Bool) → (if b then 0 else suc (place_in xs t)) < suc (length xs) → (if b then 0 else suc (place_in (xs ++ s ∷ []) t)) ≡ (if b then 0 else suc (place_in xs t))
    at go true h = refl
    at go false h = ap suc (go (omega (arith, h)))

-- where the record begins that is looked at
pub record StandsAt (r : Inside) (v : Recorded) (start : ℕ) : Type 0 where
  pub inside : start + 5 + word r.words.items (start + 3) ≤ length r.words.items
  pub resume : word r.words.items (start + 2) ≤ word r.words.items (start + 3)
  pub clause : word r.words.items (start + 4) ≡ place_in v.starts start
  pub pair : pair_at v.pairs (place_in v.starts start) ≡ pair_of r.words.items start
  pub text : text_at v.texts (place_in v.starts start) ≡ text_of r.words.items start

stands-there : (r : Inside) (start : ℕ) → IsPacked r → place_in r.starts.items start < length r.starts.items → StandsAt r (view_of r) start
stands-there r start h lt =
    let at : word r.starts.items (place_in r.starts.items start) ≡ start = place-is r.starts.items start lt in
    let it : IsRecord r.words.items (word r.starts.items (place_in r.starts.items start)) (place_in r.starts.items start) = h.each (place_in r.starts.items start) lt in
    record {
      inside = subst (λ s. s + 5 + word r.words.items (s + 3) ≤ length r.words.items) at it.inside;
      resume = subst (λ s. word r.words.items (s + 2) ≤ word r.words.items (s + 3)) at it.resume;
      clause = ap (λ s. word r.words.items (s + 4)) (sym at) ∙ it.clause;
      pair = get_or-map (pair_of r.words.items) r.starts.items (place_in r.starts.items start) 0 (record { first = pos 0; second = pos 0 }) lt ∙ ap (pair_of r.words.items) at;
      text = get_or-map (text_of r.words.items) r.starts.items (place_in r.starts.items start) 0 [] lt ∙ ap (text_of r.words.items) at;
    }

pub stands : (r : Inside) (v : Recorded) (start : ℕ) → view_of r ≡ v → IsPacked r → place_in v.starts start < length v.starts → StandsAt r v start
stands r v start e h lt = subst (λ (x : Recorded). place_in x.starts start < length x.starts → StandsAt r x start) e (stands-there r start h) lt

-- a row with the same record there, but for what is watched
pub record Keeps (words new : List ℕ) (s : ℕ) : Type 0 where
  pub len : word new (s + 3) ≡ word words (s + 3)
  pub clause : word new (s + 4) ≡ word words (s + 4)
  pub codes : codes_of new s ≡ codes_of words s

-- a place of the row lies in the head of one record alone
record Lies (words : List ℕ) (s i : ℕ) : Type 0 where
  side : (i < s + 5) ⊎ (s + 5 + word words (s + 3) ≤ i)
  not_len : s + 3 ≢ i
  not_clause : s + 4 ≢ i

keeps-set : (words : List ℕ) (s i a : ℕ) → Lies words s i → Keeps words (set words i a) s
keeps-set words s i a h =
    record {
      len = len;
      clause = get_or-set_other words i (s + 4) a 0 h.not_clause;
      codes = ap (λ n. take n (drop (s + 5) (set words i a))) len ∙ pick h.side;
    }
  where
    len : word (set words i a) (s + 3) ≡ word words (s + 3)
    len = get_or-set_other words i (s + 3) a 0 h.not_len

    pick : (i < s + 5) ⊎ (s + 5 + word words (s + 3) ≤ i) → take (word words (s + 3)) (drop (s + 5) (set words i a)) ≡ codes_of words s
    pick (inl b) = ap (take (word words (s + 3))) (drop-set-lt (s + 5) words i a b)
    pick (inr b) =
        ap (λ j. take (word words (s + 3)) (drop (s + 5) (set words j a))) (behind b)
        ∙ (ap (take (word words (s + 3))) (drop-set-add (s + 5) words (i - (s + 5)) a) ∙ take-set-le (word words (s + 3)) (drop (s + 5) words) (i - (s + 5)) a (omega (arith, b)))
      where
        behind : s + 5 + word words (s + 3) ≤ i → i ≡ s + 5 + (i - (s + 5))
        behind b = omega (arith, b)

-- the same of two rows one after the other
keeps-then : (a b c : List ℕ) (s : ℕ) → Keeps a b s → Keeps b c s → Keeps a c s
keeps-then a b c s h g = record { len = g.len ∙ h.len; clause = g.clause ∙ h.clause; codes = g.codes ∙ h.codes }

-- how far the records of two clauses lie apart
lies : (words starts : List ℕ) (m k i : ℕ) → ArePacked words starts → m < length starts → k < length starts → word starts m ≤ i → i < word starts m + 3 → Lies words (word starts k) i
lies words starts m k i h lm lk a b = pick (cases_order k m)
  where
    pick : (k ≡ m) ⊎ ((k < m) ⊎ (m < k)) → Lies words (word starts k) i
    pick (inl e) =
        let s : word starts k ≡ word starts m = ap (word starts) e in
        record { side = inl (omega (arith, s, b)); not_len = λ x. omega (arith, s, b, x); not_clause = λ x. omega (arith, s, b, x) }
    pick (inr (inl lt)) =
        let g : word starts k + 5 + word words (word starts k + 3) ≤ word starts m = h.apart k m lt lm in
        record { side = inr (omega (arith, g, a)); not_len = λ x. omega (arith, g, a, x); not_clause = λ x. omega (arith, g, a, x) }
    pick (inr (inr gt)) =
        let g : word starts m + 5 + word words (word starts m + 3) ≤ word starts k = h.apart m k gt lk in
        record { side = inl (omega (arith, g, b)); not_len = λ x. omega (arith, g, b, x); not_clause = λ x. omega (arith, g, b, x) }

-- heads of other records are not written
other-head : (words starts : List ℕ) (m k i j : ℕ) → ArePacked words starts → m < length starts → k < length starts → word starts m ≤ i → i < word starts m + 3 → j < 3 → (k ≢ m) ⊎ (i ≢ word starts m + j) → word starts k + j ≢ i
other-head words starts m k i j h lm lk a b c d x = pick (cases_order k m) d
  where
    pick : (k ≡ m) ⊎ ((k < m) ⊎ (m < k)) → (k ≢ m) ⊎ (i ≢ word starts m + j) → ⊥
    pick (inl e) (inl n) = n e
    pick (inl e) (inr n) = n (sym x ∙ ap (λ q. word starts q + j) e)
    pick (inr (inl lt)) n = let g : word starts k + 5 + word words (word starts k + 3) ≤ word starts m = h.apart k m lt lm in omega (arith, g, a, c, x)
    pick (inr (inr gt)) n = let g : word starts m + 5 + word words (word starts m + 3) ≤ word starts k = h.apart m k gt lk in omega (arith, g, b, x)

packed-kept : (words new starts : List ℕ) → ArePacked words starts → length new ≡ length words → ((k : ℕ) → k < length starts → Keeps words new (word starts k)) → ((k : ℕ) → k < length starts → word new (word starts k + 2) ≤ word words (word starts k + 3)) → ArePacked new starts
packed-kept words new starts h n keeps resumes =
    record {
      each = λ k lt.
          let it : IsRecord words (word starts k) k = h.each k lt in
          let same : Keeps words new (word starts k) = keeps k lt in
          record {
            resume = subst (λ x. word new (word starts k + 2) ≤ x) (sym same.len) (resumes k lt);
            inside = let a : word starts k + 5 + word words (word starts k + 3) ≤ length words = it.inside in let e : word new (word starts k + 3) ≡ word words (word starts k + 3) = same.len in omega (arith, a, e, n);
            clause = same.clause ∙ it.clause;
          };
      apart = λ j k lt lk.
          let a : word starts j + 5 + word words (word starts j + 3) ≤ word starts k = h.apart j k lt lk in
          let e : word new (word starts j + 3) ≡ word words (word starts j + 3) = (keeps j (omega (arith, lt, lk))).len in
          omega (arith, a, e);
    }

-- a list of what two functions make that agree on it
map-agree : {B : Type 0} (f g : ℕ → B) (xs : List ℕ) → ((k : ℕ) → k < length xs → f (word xs k) ≡ g (word xs k)) → map f xs ≡ map g xs
map-agree f g [] h = refl
map-agree f g (x ∷ xs) h = ap (λ y. y ∷ map f xs) (h 0 (omega arith)) ∙ ap (λ ys. g x ∷ ys) (map-agree f g xs (λ k lt. h (suc k) (omega (arith, lt))))

texts-kept : (words new starts : List ℕ) → ((k : ℕ) → k < length starts → Keeps words new (word starts k)) → map (text_of new) starts ≡ map (text_of words) starts
texts-kept words new starts keeps = map-agree (text_of new) (text_of words) starts (λ k lt. ap (map lit_of) (keeps k lt).codes)

-- the place at which a search ended is written
resumed-packed : (words starts : List ℕ) (m at : ℕ) → ArePacked words starts → m < length starts → at ≤ word words (word starts m + 3) → ArePacked (set words (word starts m + 2) at) starts
resumed-packed words starts m at h lm le =
    packed-kept words (set words (word starts m + 2) at) starts h (length-set words (word starts m + 2) at)
    (λ k lk. keeps-set words (word starts k) (word starts m + 2) at (lies words starts m k (word starts m + 2) h lm lk (omega arith) (omega arith)))
    (λ k lk. pick k lk (cases_eq k m))
  where
    inside : word starts m + 2 < length words
    inside = let a : word starts m + 5 + word words (word starts m + 3) ≤ length words = (h.each m lm).inside in omega (arith, a)

    pick : (k : ℕ) → k < length starts → (k ≡ m) ⊎ (k ≢ m) → word (set words (word starts m + 2) at) (word starts k + 2) ≤ word words (word starts k + 3)
    pick k lk (inl e) =
        subst (λ q. word (set words (word starts m + 2) at) (word starts q + 2) ≤ word words (word starts q + 3)) (sym e)
        (subst (λ x. x ≤ word words (word starts m + 3)) (sym (get_or-set_same words (word starts m + 2) at 0 inside)) le)
    pick k lk (inr d) =
        subst (λ x. x ≤ word words (word starts k + 3)) (sym (get_or-set_other words (word starts m + 2) (word starts k + 2) at 0 (other-head words starts m k (word starts m + 2) 2 h lm lk (omega arith) (omega arith) (omega arith) (inl d)))) (h.each k lk).resume

resumed-pairs : (words starts : List ℕ) (m at : ℕ) → ArePacked words starts → m < length starts → map (pair_of (set words (word starts m + 2) at)) starts ≡ map (pair_of words) starts
resumed-pairs words starts m at h lm = map-agree (pair_of (set words (word starts m + 2) at)) (pair_of words) starts (λ k lk. same k lk)
  where
    same : (k : ℕ) → k < length starts → pair_of (set words (word starts m + 2) at) (word starts k) ≡ pair_of words (word starts k)
    same k lk =
        let a : word (set words (word starts m + 2) at) (word starts k) ≡ word words (word starts k) = get_or-set_other words (word starts m + 2) (word starts k) at 0 (λ e. other-head words starts m k (word starts m + 2) 0 h lm lk (omega arith) (omega arith) (omega arith) (inr (λ x. omega (arith, x))) (omega (arith, e))) in
        let b : word (set words (word starts m + 2) at) (word starts k + 1) ≡ word words (word starts k + 1) = get_or-set_other words (word starts m + 2) (word starts k + 1) at 0 (other-head words starts m k (word starts m + 2) 1 h lm lk (omega arith) (omega arith) (omega arith) (inr (λ x. omega (arith, x)))) in
        ap (λ x. paired x (word (set words (word starts m + 2) at) (word starts k + 1))) a
        ∙ ap (λ x. paired (word words (word starts k)) x) b

resumed-texts : (words starts : List ℕ) (m at : ℕ) → ArePacked words starts → m < length starts → map (text_of (set words (word starts m + 2) at)) starts ≡ map (text_of words) starts
resumed-texts words starts m at h lm = texts-kept words (set words (word starts m + 2) at) starts (λ k lk. keeps-set words (word starts k) (word starts m + 2) at (lies words starts m k (word starts m + 2) h lm lk (omega arith) (omega arith)))

-- both watched literals are written
abbrev pub rewritten : List ℕ → ℕ → ℕ → ℕ → List ℕ
rewritten words s a b = set (set words s a) (s + 1) b

rewritten-keeps : (words starts : List ℕ) (m k a b : ℕ) → ArePacked words starts → m < length starts → k < length starts → Keeps words (rewritten words (word starts m) a b) (word starts k)
rewritten-keeps words starts m k a b h lm lk =
    let one : Keeps words (set words (word starts m) a) (word starts k) = keeps-set words (word starts k) (word starts m) a (lies words starts m k (word starts m) h lm lk (omega arith) (omega arith)) in
    let l : Lies words (word starts k) (word starts m + 1) = lies words starts m k (word starts m + 1) h lm lk (omega arith) (omega arith) in
    keeps-then words (set words (word starts m) a) (rewritten words (word starts m) a b) (word starts k) one
    (keeps-set (set words (word starts m) a) (word starts k) (word starts m + 1) b (record { side = subst (λ n. (word starts m + 1 < word starts k + 5) ⊎ (word starts k + 5 + n ≤ word starts m + 1)) (sym one.len) l.side; not_len = l.not_len; not_clause = l.not_clause }))

rewritten-other : (words : List ℕ) (s a b i : ℕ) → i ≢ s → i ≢ s + 1 → word (rewritten words s a b) i ≡ word words i
rewritten-other words s a b i c d = get_or-set_other (set words s a) (s + 1) i b 0 d ∙ get_or-set_other words s i a 0 c

rewritten-packed : (words starts : List ℕ) (m a b : ℕ) → ArePacked words starts → m < length starts → ArePacked (rewritten words (word starts m) a b) starts
rewritten-packed words starts m a b h lm =
    packed-kept words (rewritten words (word starts m) a b) starts h (length-set (set words (word starts m) a) (word starts m + 1) b ∙ length-set words (word starts m) a)
    (λ k lk. rewritten-keeps words starts m k a b h lm lk)
    (λ k lk.
    let one : word starts k + 2 ≢ word starts m = other-head words starts m k (word starts m) 2 h lm lk (omega arith) (omega arith) (omega arith) (inr (λ x. omega (arith, x))) in
    let two : word starts k + 2 ≢ word starts m + 1 = other-head words starts m k (word starts m + 1) 2 h lm lk (omega arith) (omega arith) (omega arith) (inr (λ x. omega (arith, x))) in
    subst (λ x. x ≤ word words (word starts k + 3)) (sym (rewritten-other words (word starts m) a b (word starts k + 2) one two)) (h.each k lk).resume)

rewritten-pair : (words starts : List ℕ) (m a b k : ℕ) → ArePacked words starts → m < length starts → k < length starts → k ≢ m → pair_of (rewritten words (word starts m) a b) (word starts k) ≡ pair_of words (word starts k)
rewritten-pair words starts m a b k h lm lk d =
    let one : word (rewritten words (word starts m) a b) (word starts k) ≡ word words (word starts k) = rewritten-other words (word starts m) a b (word starts k)
    (λ e. other-head words starts m k (word starts m) 0 h lm lk (omega arith) (omega arith) (omega arith) (inl d) (omega (arith, e)))
    (λ e. other-head words starts m k (word starts m + 1) 0 h lm lk (omega arith) (omega arith) (omega arith) (inl d) (omega (arith, e))) in
    let two : word (rewritten words (word starts m) a b) (word starts k + 1) ≡ word words (word starts k + 1) = rewritten-other words (word starts m) a b (word starts k + 1)
    (other-head words starts m k (word starts m) 1 h lm lk (omega arith) (omega arith) (omega arith) (inl d))
    (other-head words starts m k (word starts m + 1) 1 h lm lk (omega arith) (omega arith) (omega arith) (inl d)) in
    ap (λ x. paired x (word (rewritten words (word starts m) a b) (word starts k + 1))) one
    ∙ ap (λ x. paired (word words (word starts k)) x) two

rewritten-same : (words starts : List ℕ) (m a b : ℕ) → ArePacked words starts → m < length starts → pair_of (rewritten words (word starts m) a b) (word starts m) ≡ record { first = lit_of a; second = lit_of b }
rewritten-same words starts m a b h lm =
    let i : word starts m + 5 + word words (word starts m + 3) ≤ length words = (h.each m lm).inside in
    let n : length (set words (word starts m) a) ≡ length words = length-set words (word starts m) a in
    let one : word (rewritten words (word starts m) a b) (word starts m) ≡ a = get_or-set_other (set words (word starts m) a) (word starts m + 1) (word starts m) b 0 (λ e. omega (arith, e)) ∙ get_or-set_same words (word starts m) a 0 (omega (arith, i)) in
    let two : word (rewritten words (word starts m) a b) (word starts m + 1) ≡ b = get_or-set_same (set words (word starts m) a) (word starts m + 1) b 0 (omega (arith, i, n)) in
    ap (λ x. paired x (word (rewritten words (word starts m) a b) (word starts m + 1))) one
    ∙ ap (λ x. paired a x) two

rewritten-pairs : (words starts : List ℕ) (m a b : ℕ) → ArePacked words starts → m < length starts → map (pair_of (rewritten words (word starts m) a b)) starts ≡ set (map (pair_of words) starts) m (record { first = lit_of a; second = lit_of b })
rewritten-pairs words starts m a b h lm =
    ext_get_or (record { first = pos 0; second = pos 0 }) (map (pair_of (rewritten words (word starts m) a b)) starts) (set (map (pair_of words) starts) m (record { first = lit_of a; second = lit_of b })) (n ∙ sym o) (λ k lk. at k (subst (λ i. k < i) n lk) (cases_eq k m))
  where
    n : length (map (pair_of (rewritten words (word starts m) a b)) starts) ≡ length starts
    n = length-map starts (pair_of (rewritten words (word starts m) a b))

    p : length (map (pair_of words) starts) ≡ length starts
    p = length-map starts (pair_of words)

    o : length (set (map (pair_of words) starts) m (record { first = lit_of a; second = lit_of b })) ≡ length starts
    o = length-set (map (pair_of words) starts) m (record { first = lit_of a; second = lit_of b }) ∙ p

    at : (k : ℕ) → k < length starts → (k ≡ m) ⊎ (k ≢ m) → get_or (map (pair_of (rewritten words (word starts m) a b)) starts) k (record { first = pos 0; second = pos 0 }) ≡ get_or (set (map (pair_of words) starts) m (record { first = lit_of a; second = lit_of b })) k (record { first = pos 0; second = pos 0 })
    at k lk (inl e) =
        get_or-map (pair_of (rewritten words (word starts m) a b)) starts k 0 (record { first = pos 0; second = pos 0 }) lk
        ∙ (ap (λ q. pair_of (rewritten words (word starts m) a b) (word starts q)) e ∙ (rewritten-same words starts m a b h lm
        ∙ (sym (get_or-set_same (map (pair_of words) starts) m (record { first = lit_of a; second = lit_of b }) (record { first = pos 0; second = pos 0 }) (omega (arith, lm, p)))
        ∙ ap (λ q. get_or (set (map (pair_of words) starts) m (record { first = lit_of a; second = lit_of b })) q (record { first = pos 0; second = pos 0 })) (sym e))))
    at k lk (inr d) =
        get_or-map (pair_of (rewritten words (word starts m) a b)) starts k 0 (record { first = pos 0; second = pos 0 }) lk
        ∙ (rewritten-pair words starts m a b k h lm lk d
        ∙ (sym (get_or-map (pair_of words) starts k 0 (record { first = pos 0; second = pos 0 }) lk)
        ∙ sym (get_or-set_other (map (pair_of words) starts) m k (record { first = lit_of a; second = lit_of b }) (record { first = pos 0; second = pos 0 }) d)))

rewritten-texts : (words starts : List ℕ) (m a b : ℕ) → ArePacked words starts → m < length starts → map (text_of (rewritten words (word starts m) a b)) starts ≡ map (text_of words) starts
rewritten-texts words starts m a b h lm = texts-kept words (rewritten words (word starts m) a b) starts (λ k lk. rewritten-keeps words starts m k a b h lm lk)

-- what a state shows once its words are others
show : (n r : Inside) (words : List ℕ) (pairs : List Pair) (texts : List (List ℤ)) → n.words.items ≡ words → n.starts.items ≡ r.starts.items → map (pair_of words) r.starts.items ≡ pairs → map (text_of words) r.starts.items ≡ texts → view_of n ≡ shown r.starts.items pairs texts
show n r words pairs texts ew es ep et =
    ap (λ ws. shown n.starts.items (map (pair_of ws) n.starts.items) (map (text_of ws) n.starts.items)) ew
    ∙ (ap (λ ss. shown ss (map (pair_of words) ss) (map (text_of words) ss)) es
    ∙ (ap (λ ps. shown r.starts.items ps (map (text_of words) r.starts.items)) ep ∙ ap (λ ts. shown r.starts.items pairs ts) et))

pub codes-length : (words : List ℕ) (s : ℕ) → s + 5 + word words (s + 3) ≤ length words → length (codes_of words s) ≡ word words (s + 3)
codes-length words s le =
    length-take-le (word words (s + 3)) (drop (s + 5) words) (let n : length (drop (s + 5) words) ≡ length words - (s + 5) = length-drop (s + 5) words in omega (arith, n, le))

pub text-length : (words : List ℕ) (s : ℕ) → s + 5 + word words (s + 3) ≤ length words → length (text_of words s) ≡ word words (s + 3)
text-length words s le = length-map (codes_of words s) lit_of ∙ codes-length words s le

-- the state after a search
pub resumed : (r n : Inside) (start at : ℕ) → IsPacked r → place_in r.starts.items start < length r.starts.items → at < length (text_at (view_of r).texts (place_in r.starts.items start)) → n.words.items ≡ set r.words.items (start + 2) at → n.starts.items ≡ r.starts.items → IsPacked n × (view_of n ≡ view_of r)
resumed r n start at h lt b ew es = (packs, same)
  where
    m : ℕ
    m = place_in r.starts.items start

    is : word r.starts.items (place_in r.starts.items start) ≡ start
    is = place-is r.starts.items start lt

    e : n.words.items ≡ set r.words.items (word r.starts.items (place_in r.starts.items start) + 2) at
    e = ew ∙ ap (λ s. set r.words.items (s + 2) at) (sym is)

    st : StandsAt r (view_of r) start
    st = stands-there r start h lt

    le : at ≤ word r.words.items (word r.starts.items (place_in r.starts.items start) + 3)
    le =
        let k : length (text_at (view_of r).texts (place_in r.starts.items start)) ≡ word r.words.items (start + 3) = ap length st.text ∙ text-length r.words.items start st.inside in
        subst (λ s. at ≤ word r.words.items (s + 3)) (sym is) (omega (arith, b, k))

    packs : IsPacked n
    packs = subst (λ ws. ArePacked ws n.starts.items) (sym e) (subst (λ ss. ArePacked (set r.words.items (word r.starts.items m + 2) at) ss) (sym es) (resumed-packed r.words.items r.starts.items m at h lt le))

    same : view_of n ≡ view_of r
    same = show n r (set r.words.items (word r.starts.items m + 2) at) (map (pair_of r.words.items) r.starts.items) (map (text_of r.words.items) r.starts.items) e es (resumed-pairs r.words.items r.starts.items m at h lt) (resumed-texts r.words.items r.starts.items m at h lt)

-- the state after the clause is watched by others
pub rewritten-both : (r n : Inside) (start a b : ℕ) → IsPacked r → place_in r.starts.items start < length r.starts.items → n.words.items ≡ rewritten r.words.items start a b → n.starts.items ≡ r.starts.items → IsPacked n × (view_of n ≡ shown r.starts.items (set (map (pair_of r.words.items) r.starts.items) (place_in r.starts.items start) (record { first = lit_of a; second = lit_of b })) (map (text_of r.words.items) r.starts.items))
rewritten-both r n start a b h lt ew es = (packs, same)
  where
    m : ℕ
    m = place_in r.starts.items start

    e : n.words.items ≡ rewritten r.words.items (word r.starts.items (place_in r.starts.items start)) a b
    e = ew ∙ ap (λ s. rewritten r.words.items s a b) (sym (place-is r.starts.items start lt))

    packs : IsPacked n
    packs = subst (λ ws. ArePacked ws n.starts.items) (sym e) (subst (λ ss. ArePacked (rewritten r.words.items (word r.starts.items m) a b) ss) (sym es) (rewritten-packed r.words.items r.starts.items m a b h lt))

    same : view_of n ≡ shown r.starts.items (set (map (pair_of r.words.items) r.starts.items) (place_in r.starts.items start) (record { first = lit_of a; second = lit_of b })) (map (text_of r.words.items) r.starts.items)
    same = show n r (rewritten r.words.items (word r.starts.items m) a b) (set (map (pair_of r.words.items) r.starts.items) m (record { first = lit_of a; second = lit_of b })) (map (text_of r.words.items) r.starts.items) e es (rewritten-pairs r.words.items r.starts.items m a b h lt) (rewritten-texts r.words.items r.starts.items m a b h lt)

-- words come at the end
keeps-append : (words more : List ℕ) (s : ℕ) → s + 5 + word words (s + 3) ≤ length words → Keeps words (words ++ more) s
keeps-append words more s le =
    record {
      len = len;
      clause = get_or_append_left words more 0 (s + 4) (omega (arith, le));
      codes = ap (λ n. take n (drop (s + 5) (words ++ more))) len ∙ (ap (take (word words (s + 3))) (drop-append-le (s + 5) words more (omega (arith, le)))
          ∙ take-append-le (word words (s + 3)) (drop (s + 5) words) more (let n : length (drop (s + 5) words) ≡ length words - (s + 5) = length-drop (s + 5) words in omega (arith, n, le)));
    }
  where
    len : word (words ++ more) (s + 3) ≡ word words (s + 3)
    len = get_or_append_left words more 0 (s + 3) (omega (arith, le))

pair-append : (words more : List ℕ) (s : ℕ) → s + 5 + word words (s + 3) ≤ length words → pair_of (words ++ more) s ≡ pair_of words s
pair-append words more s le =
    ap (λ x. paired x (word (words ++ more) (s + 1))) (get_or_append_left words more 0 s (omega (arith, le)))
    ∙ ap (λ x. paired (word words s) x) (get_or_append_left words more 0 (s + 1) (omega (arith, le)))

record-append : (words more : List ℕ) (s k : ℕ) → IsRecord words s k → IsRecord (words ++ more) s k
record-append words more s k h =
    let g : Keeps words (words ++ more) s = keeps-append words more s h.inside in
    record {
      resume = subst (λ x. word (words ++ more) (s + 2) ≤ x) (sym g.len) (subst (λ x. x ≤ word words (s + 3)) (sym (get_or_append_left words more 0 (s + 2) (let a : s + 5 + word words (s + 3) ≤ length words = h.inside in omega (arith, a)))) h.resume);
      inside = let a : s + 5 + word words (s + 3) ≤ length words = h.inside in let e : word (words ++ more) (s + 3) ≡ word words (s + 3) = g.len in let n : length (words ++ more) ≡ length words + length more = length-append words more in omega (arith, a, e, n);
      clause = g.clause ∙ h.clause;
    }

-- a record
abbrev pub fresh_record : ℕ → ℕ → ℕ → ℕ → List ℕ → List ℕ
fresh_record a b n k codes = a ∷ b ∷ 0 ∷ n ∷ k ∷ codes

record Made (words : List ℕ) (a b n k : ℕ) (codes : List ℕ) : Type 0 where
  first : word (words ++ fresh_record a b n k codes) (length words) ≡ a
  second : word (words ++ fresh_record a b n k codes) (length words + 1) ≡ b
  resume : word (words ++ fresh_record a b n k codes) (length words + 2) ≡ 0
  len : word (words ++ fresh_record a b n k codes) (length words + 3) ≡ n
  clause : word (words ++ fresh_record a b n k codes) (length words + 4) ≡ k
  rest : drop (length words + 5) (words ++ fresh_record a b n k codes) ≡ codes

made : (words : List ℕ) (a b n k : ℕ) (codes : List ℕ) → Made words a b n k codes
made words a b n k codes =
    record {
      first = get_or_at words a (b ∷ 0 ∷ n ∷ k ∷ codes) 0 (length words) refl;
      second = get_or-append-add words (fresh_record a b n k codes) 1 0;
      resume = get_or-append-add words (fresh_record a b n k codes) 2 0;
      len = get_or-append-add words (fresh_record a b n k codes) 3 0;
      clause = get_or-append-add words (fresh_record a b n k codes) 4 0;
      rest = sym (drop-drop 5 (length words) (words ++ fresh_record a b n k codes)) ∙ ap (drop 5) (drop_at words (fresh_record a b n k codes) (length words) refl);
    }

record-made : (words : List ℕ) (a b k : ℕ) (codes : List ℕ) → IsRecord (words ++ fresh_record a b (length codes) k codes) (length words) k
record-made words a b k codes =
    let m : Made words a b (length codes) k codes = made words a b (length codes) k codes in
    let r : word (words ++ fresh_record a b (length codes) k codes) (length words + 2) ≡ 0 = m.resume in
    let l : word (words ++ fresh_record a b (length codes) k codes) (length words + 3) ≡ length codes = m.len in
    let n : length (words ++ fresh_record a b (length codes) k codes) ≡ length words + length (fresh_record a b (length codes) k codes) = length-append words (fresh_record a b (length codes) k codes) in
    record { resume = omega (arith, r); inside = omega (arith, l, n); clause = m.clause }

text-made : (words : List ℕ) (a b k : ℕ) (lits : List ℤ) → All (λ l. l ≢ pos 0) lits → text_of (words ++ fresh_record a b (length (map code_of lits)) k (map code_of lits)) (length words) ≡ lits
text-made words a b k lits nz =
    let m : Made words a b (length (map code_of lits)) k (map code_of lits) = made words a b (length (map code_of lits)) k (map code_of lits) in
    ap (map lit_of) (ap (λ n. take n (drop (length words + 5) (words ++ fresh_record a b (length (map code_of lits)) k (map code_of lits)))) m.len
    ∙ (ap (take (length (map code_of lits))) m.rest ∙ take_all (length (map code_of lits)) (map code_of lits) (omega arith)))
    ∙ lits-back lits nz

abbrev both : ℤ → ℤ → Pair
both a b = record { first = a; second = b }

pair-made : (words : List ℕ) (first second : ℤ) (k : ℕ) (codes : List ℕ) → first ≢ pos 0 → second ≢ pos 0 → pair_of (words ++ fresh_record (code_of first) (code_of second) (length codes) k codes) (length words) ≡ record { first = first; second = second }
pair-made words first second k codes fz sz =
    let m : Made words (code_of first) (code_of second) (length codes) k codes = made words (code_of first) (code_of second) (length codes) k codes in
    ap (λ x. paired x (word (words ++ fresh_record (code_of first) (code_of second) (length codes) k codes) (length words + 1))) m.first
    ∙ (ap (λ x. paired (code_of first) x) m.second ∙ (ap (λ l. both l (lit_of (code_of second))) (lit-code first fz) ∙ ap (λ l. both first l) (lit-code second sz)))

packed-push : (words more starts : List ℕ) → ArePacked words starts → IsRecord (words ++ more) (length words) (length starts) → ArePacked (words ++ more) (starts ++ length words ∷ [])
packed-push words more starts h new =
    record {
      each = λ k lt. each k (cases_lt k (length starts)) lt;
      apart = λ i j lt lj. apart i j lt lj (cases_lt j (length starts));
    }
  where
    count : length (starts ++ length words ∷ []) ≡ length starts + 1
    count = length_push starts (length words)

    early : (k : ℕ) → k < length starts → word (starts ++ length words ∷ []) k ≡ word starts k
    early k lt = get_or_append_left starts (length words ∷ []) 0 k lt

    late : (k : ℕ) → k ≡ length starts → word (starts ++ length words ∷ []) k ≡ length words
    late k e = get_or_push starts (length words) 0 k (sym e)

    each : (k : ℕ) → (k < length starts) ⊎ (length starts ≤ k) → k < length (starts ++ length words ∷ []) → IsRecord (words ++ more) (word (starts ++ length words ∷ []) k) k
    each k (inl lt) b = subst (λ s. IsRecord (words ++ more) s k) (sym (early k lt)) (record-append words more (word starts k) k (h.each k lt))
    each k (inr le) b =
        let e : k ≡ length starts = omega (arith, le, b, count) in
        subst (λ s. IsRecord (words ++ more) s k) (sym (late k e)) (subst (IsRecord (words ++ more) (length words)) (sym e) new)

    apart : (i j : ℕ) → i < j → j < length (starts ++ length words ∷ []) → (j < length starts) ⊎ (length starts ≤ j) → word (starts ++ length words ∷ []) i + 5 + word (words ++ more) (word (starts ++ length words ∷ []) i + 3) ≤ word (starts ++ length words ∷ []) j
    apart i j lt lj side =
        let li : i < length starts = omega (arith, lt, lj, count) in
        let it : IsRecord words (word starts i) i = h.each i li in
        let g : Keeps words (words ++ more) (word starts i) = keeps-append words more (word starts i) it.inside in
        subst (λ s. s + 5 + word (words ++ more) (s + 3) ≤ word (starts ++ length words ∷ []) j) (sym (early i li))
        (subst (λ x. word starts i + 5 + x ≤ word (starts ++ length words ∷ []) j) (sym g.len) (pick it.inside side))
      where
        pick : word starts i + 5 + word words (word starts i + 3) ≤ length words → (j < length starts) ⊎ (length starts ≤ j) → word starts i + 5 + word words (word starts i + 3) ≤ word (starts ++ length words ∷ []) j
        pick b (inl l) = subst (λ s. word starts i + 5 + word words (word starts i + 3) ≤ s) (sym (early j l)) (h.apart i j lt l)
        pick b (inr le) = subst (λ s. word starts i + 5 + word words (word starts i + 3) ≤ s) (sym (late j (omega (arith, le, lj, count)))) b

-- the state after a clause came
abbrev more_of : Inside → List ℤ → ℤ → ℤ → List ℕ
more_of r lits first second = fresh_record (code_of first) (code_of second) (length (map code_of lits)) (length r.starts.items) (map code_of lits)

pub pushed-both : (r n : Inside) (lits : List ℤ) (first second : ℤ) → IsPacked r → All (λ l. l ≢ pos 0) lits → first ≢ pos 0 → second ≢ pos 0 → n.words.items ≡ r.words.items ++ (code_of first ∷ code_of second ∷ 0 ∷ length lits ∷ length r.starts.items ∷ []) ++ map code_of lits → n.starts.items ≡ r.starts.items ++ length r.words.items ∷ [] → IsPacked n × (view_of n ≡ shown (r.starts.items ++ length r.words.items ∷ []) (map (pair_of r.words.items) r.starts.items ++ (record { first = first; second = second }) ∷ []) (map (text_of r.words.items) r.starts.items ++ lits ∷ []))
pushed-both r n lits first second h nz fz sz ew es = (packs, same)
  where
    e : n.words.items ≡ r.words.items ++ fresh_record (code_of first) (code_of second) (length (map code_of lits)) (length r.starts.items) (map code_of lits)
    e = ew ∙ (append_assoc r.words.items (code_of first ∷ code_of second ∷ 0 ∷ length lits ∷ length r.starts.items ∷ []) (map code_of lits)
        ∙ ap (λ k. r.words.items ++ fresh_record (code_of first) (code_of second) k (length r.starts.items) (map code_of lits)) (sym (length-map lits code_of)))

    packs : IsPacked n
    packs = subst (λ ws. ArePacked ws n.starts.items) (sym e) (subst (ArePacked (r.words.items ++ (more_of r lits first second))) (sym es) (packed-push r.words.items (more_of r lits first second) r.starts.items h (record-made r.words.items (code_of first) (code_of second) (length r.starts.items) (map code_of lits))))

    pairs : map (pair_of (r.words.items ++ (more_of r lits first second))) (r.starts.items ++ length r.words.items ∷ []) ≡ map (pair_of r.words.items) r.starts.items ++ (record { first = first; second = second }) ∷ []
    pairs = map_push (pair_of (r.words.items ++ (more_of r lits first second))) r.starts.items (length r.words.items)
        ∙ (ap (λ ps. ps ++ pair_of (r.words.items ++ (more_of r lits first second)) (length r.words.items) ∷ []) (map-agree (pair_of (r.words.items ++ (more_of r lits first second))) (pair_of r.words.items) r.starts.items (λ k lt. pair-append r.words.items (more_of r lits first second) (word r.starts.items k) (h.each k lt).inside))
        ∙ ap (λ p. map (pair_of r.words.items) r.starts.items ++ p ∷ []) (pair-made r.words.items first second (length r.starts.items) (map code_of lits) fz sz))

    texts : map (text_of (r.words.items ++ (more_of r lits first second))) (r.starts.items ++ length r.words.items ∷ []) ≡ map (text_of r.words.items) r.starts.items ++ lits ∷ []
    texts = map_push (text_of (r.words.items ++ (more_of r lits first second))) r.starts.items (length r.words.items)
        ∙ (ap (λ ts. ts ++ text_of (r.words.items ++ (more_of r lits first second)) (length r.words.items) ∷ []) (texts-kept r.words.items (r.words.items ++ (more_of r lits first second)) r.starts.items (λ k lt. keeps-append r.words.items (more_of r lits first second) (word r.starts.items k) (h.each k lt).inside))
        ∙ ap (λ t. map (text_of r.words.items) r.starts.items ++ t ∷ []) (text-made r.words.items (code_of first) (code_of second) (length r.starts.items) lits nz))

    same : view_of n ≡ shown (r.starts.items ++ length r.words.items ∷ []) (map (pair_of r.words.items) r.starts.items ++ (record { first = first; second = second }) ∷ []) (map (text_of r.words.items) r.starts.items ++ lits ∷ [])
    same =
        ap (λ ws. shown n.starts.items (map (pair_of ws) n.starts.items) (map (text_of ws) n.starts.items)) e
        ∙ (ap (λ ss. shown ss (map (pair_of (r.words.items ++ (more_of r lits first second))) ss) (map (text_of (r.words.items ++ (more_of r lits first second))) ss)) es
        ∙ (ap (λ ps. shown (r.starts.items ++ length r.words.items ∷ []) ps (map (text_of (r.words.items ++ (more_of r lits first second))) (r.starts.items ++ length r.words.items ∷ []))) pairs
        ∙ ap (λ ts. shown (r.starts.items ++ length r.words.items ∷ []) (map (pair_of r.words.items) r.starts.items ++ (record { first = first; second = second }) ∷ []) ts) texts))

-- all records begin before the end of the row
pub starts-below : (words starts : List ℕ) → ArePacked words starts → All (λ s. s < length words) starts
starts-below words starts h = λ k d lt.
    let a : word starts k + 5 + word words (word starts k + 3) ≤ length words = (h.each k lt).inside in
    subst (λ s. s < length words) (get_or_default starts k 0 d lt) (omega (arith, a))

pub resumed-as : (r n : Inside) (v : Recorded) (start at : ℕ) → view_of r ≡ v → IsPacked r → place_in v.starts start < length v.starts → at < length (text_at v.texts (place_in v.starts start)) → n.words.items ≡ set r.words.items (start + 2) at → n.starts.items ≡ r.starts.items → IsPacked n × (view_of n ≡ v)
resumed-as r n v start at e h lt b ew es = subst (λ (x : Recorded). place_in x.starts start < length x.starts → at < length (text_at x.texts (place_in x.starts start)) → IsPacked n × (view_of n ≡ x)) e (λ l k. resumed r n start at h l k ew es) lt b

pub rewritten-as : (r n : Inside) (v : Recorded) (start a b : ℕ) → view_of r ≡ v → IsPacked r → place_in v.starts start < length v.starts → n.words.items ≡ rewritten r.words.items start a b → n.starts.items ≡ r.starts.items → IsPacked n × (view_of n ≡ record v { pairs = set v.pairs (place_in v.starts start) (record { first = lit_of a; second = lit_of b }) })
rewritten-as r n v start a b e h lt ew es =
    subst (λ (x : Recorded). place_in x.starts start < length x.starts → IsPacked n × (view_of n ≡ shown x.starts (set x.pairs (place_in x.starts start) (record { first = lit_of a; second = lit_of b })) x.texts)) e (λ l. rewritten-both r n start a b h l ew es) lt

pub pushed-as : (r n : Inside) (v : Recorded) (lits : List ℤ) (first second : ℤ) (s : ℕ) → view_of r ≡ v → IsPacked r → All (λ l. l ≢ pos 0) lits → first ≢ pos 0 → second ≢ pos 0 → s ≡ length r.words.items → n.words.items ≡ r.words.items ++ (code_of first ∷ code_of second ∷ 0 ∷ length lits ∷ length r.starts.items ∷ []) ++ map code_of lits → n.starts.items ≡ r.starts.items ++ s ∷ [] → IsPacked n × (view_of n ≡ record { starts = v.starts ++ s ∷ []; pairs = v.pairs ++ (record { first = first; second = second }) ∷ []; texts = v.texts ++ lits ∷ [] })
pushed-as r n v lits first second s e h nz fz sz l ew es =
    subst (λ (x : Recorded). IsPacked n × (view_of n ≡ shown (x.starts ++ s ∷ []) (x.pairs ++ (record { first = first; second = second }) ∷ []) (x.texts ++ lits ∷ []))) e
    (subst (λ k. IsPacked n × (view_of n ≡ shown (r.starts.items ++ k ∷ []) (map (pair_of r.words.items) r.starts.items ++ (record { first = first; second = second }) ∷ []) (map (text_of r.words.items) r.starts.items ++ lits ∷ []))) (sym l)
    (pushed-both r n lits first second h nz fz sz ew (es ∙ ap (λ k. r.starts.items ++ k ∷ []) l)))
