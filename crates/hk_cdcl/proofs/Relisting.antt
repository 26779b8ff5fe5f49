-- A watch that moves from one literal's list to another's.
use Rattle.std.proofs.Common.{◌≡◌, ◌≢◌, ◌⊎◌, ℕ, ◌+◌, ◌-◌, ◌<◌, ◌≤◌, Bool, true, false, List, [], ◌∷◌, ◌++◌, length, take, set, get_or, ℤ, pos, refl, sym, ◌∙◌, ap, subst, inl, inr, arith}
use Rattle.std.proofs.lemmas.Bool.{cases_eq}
use Rattle.std.proofs.lemmas.List.{length-take-le, get_or_default, get_or-set_same, get_or-set_other, get_or-take, get_or_append_left, get_or-append-add, length_push}
use Rattle.std.proofs.Math.ListN.{length-set}
use Rattle.std.proofs.lemmas.List.Elements.{All-take, All-set, All-push}
use Rattle.std.specs.List.{All, swap_remove}
use Rattle.std.specs.Ordering.{int_eq}
use Rattle.hk_cnf.specs.Literal.{code_of}
use Rattle.hk_cnf.proofs.Members.{int_eq-is, int_eq-not}
use Rattle.hk_cdcl.specs.Watches.{IsMoved, Watch, watches_of, watch_at}
use Rattle.hk_cdcl.specs.Watching.{Lists, IsWatch}
use Rattle.hk_cdcl.proofs.Places.{code_of-same}

-- one literal's list is written
pub lists-same : (lists : List (List Watch)) (l : ℤ) (ws : List Watch) → code_of l < length lists → watches_of (set lists (code_of l) ws) l ≡ ws
lists-same lists l ws lt = get_or-set_same lists (code_of l) ws [] lt

pub lists-other : (lists : List (List Watch)) (l m : ℤ) (ws : List Watch) → l ≢ pos 0 → m ≢ pos 0 → m ≢ l → watches_of (set lists (code_of l) ws) m ≡ watches_of lists m
lists-other lists l m ws a b d = get_or-set_other lists (code_of l) (code_of m) ws [] (λ e. d (code_of-same m l b a e))

-- a watch more
pub lists-push : (ws : List Watch) (w : Watch) (from k : ℕ) → Lists ws from k → Lists (ws ++ w ∷ []) from k
lists-push ws w from k h =
    record {
      place = h.place;
      after = h.after;
      inside = let b : h.place < length ws = h.inside in let n : length (ws ++ w ∷ []) ≡ length ws + 1 = length_push ws w in omega (arith, b, n);
      is = ap (λ (x : Watch). x.clause) (get_or_append_left ws (w ∷ []) (record { blocker = pos 0; clause = 0; binary = false }) h.place h.inside) ∙ h.is;
    }

pub lists-last : (ws : List Watch) (w : Watch) → Lists (ws ++ w ∷ []) 0 w.clause
lists-last ws w =
    record {
      place = length ws + 0;
      after = omega arith;
      inside = let n : length (ws ++ w ∷ []) ≡ length ws + 1 = length_push ws w in omega (arith, n);
      is = ap (λ (x : Watch). x.clause) (get_or-append-add ws (w ∷ []) 0 (record { blocker = pos 0; clause = 0; binary = false }));
    }

-- a watch less: those of other clauses stay
pub length-removed : (ws : List Watch) (n : ℕ) (d : Watch) → n < length ws → length (swap_remove ws n d) + 1 ≡ length ws
length-removed ws n d lt =
    let m : length (set ws n (get_or ws (length ws - 1) d)) ≡ length ws = length-set ws n (get_or ws (length ws - 1) d) in
    let t : length (take (length ws - 1) (set ws n (get_or ws (length ws - 1) d))) ≡ length ws - 1 = length-take-le (length ws - 1) (set ws n (get_or ws (length ws - 1) d)) (omega (arith, m)) in
    omega (arith, t, lt)

lists-removed : (ws : List Watch) (n from k : ℕ) (d : Watch) → n < length ws → from ≤ n → (watch_at ws n).clause ≢ k → Lists ws from k → Lists (swap_remove ws n d) from k
lists-removed ws n from k d lt le other h = pick (cases_eq h.place (length ws - 1))
  where
    m : length (set ws n (get_or ws (length ws - 1) d)) ≡ length ws
    m = length-set ws n (get_or ws (length ws - 1) d)

    short : length (swap_remove ws n d) ≡ length ws - 1
    short = length-take-le (length ws - 1) (set ws n (get_or ws (length ws - 1) d)) (omega (arith, m))

    differs : n ≢ h.place
    differs e = other (ap (λ i. (watch_at ws i).clause) e ∙ h.is)

    at : (i : ℕ) → i < length ws - 1 → watch_at (swap_remove ws n d) i ≡ watch_at (set ws n (get_or ws (length ws - 1) d)) i
    at i b = get_or-take (length ws - 1) (set ws n (get_or ws (length ws - 1) d)) i (record { blocker = pos 0; clause = 0; binary = false }) b

    pick : (h.place ≡ length ws - 1) ⊎ (h.place ≢ length ws - 1) → Lists (swap_remove ws n d) from k
    pick (inl e) =
        let b : n < length ws - 1 = let i : h.place < length ws = h.inside in omega (arith, lt, e, differs) in
        record {
          place = n;
          after = le;
          inside = omega (arith, b, short);
          is = ap (λ (x : Watch). x.clause) (at n b ∙ (get_or-set_same ws n (get_or ws (length ws - 1) d) (record { blocker = pos 0; clause = 0; binary = false }) lt
              ∙ (get_or_default ws (length ws - 1) d (record { blocker = pos 0; clause = 0; binary = false }) (omega (arith, lt)) ∙ ap (watch_at ws) (sym e)))) ∙ h.is;
        }
    pick (inr e) =
        let b : h.place < length ws - 1 = let i : h.place < length ws = h.inside in omega (arith, i, e) in
        record {
          place = h.place;
          after = h.after;
          inside = omega (arith, b, short);
          is = ap (λ (x : Watch). x.clause) (at h.place b ∙ get_or-set_other ws n h.place (get_or ws (length ws - 1) d) (record { blocker = pos 0; clause = 0; binary = false }) (λ s. differs (sym s))) ∙ h.is;
        }

all-removed : (P : Watch → Type 0) (ws : List Watch) (n : ℕ) (d : Watch) → n < length ws → All P ws → All P (swap_remove ws n d)
all-removed P ws n d lt h =
    All-take P (length ws - 1) (set ws n (get_or ws (length ws - 1) d)) (All-set P ws n (get_or ws (length ws - 1) d) (h (length ws - 1) d (omega (arith, lt))) h)

-- the lists after a watch moved from l to next
abbrev pub moved : List (List Watch) → ℤ → ℕ → ℤ → Watch → List (List Watch)
moved lists l n next w =
    set (set lists (code_of next) (watches_of lists next ++ w ∷ [])) (code_of l) (swap_remove (watches_of (set lists (code_of next) (watches_of lists next ++ w ∷ [])) l) n (watch_at (watches_of (set lists (code_of next) (watches_of lists next ++ w ∷ [])) l) n))

pub moved-is : (lists : List (List Watch)) (l : ℤ) (n : ℕ) (next : ℤ) (w : Watch) → l ≢ pos 0 → next ≢ pos 0 → next ≢ l → code_of l < length lists → code_of next < length lists → IsMoved lists (moved lists l n next w) l n next w
moved-is lists l n next w a b d li ni =
    record {
      from = lists-same mid l (swap_remove (watches_of mid l) n (watch_at (watches_of mid l) n)) (omega (arith, li, long)) ∙ ap (λ ws. swap_remove ws n (watch_at ws n)) same;
      to = lists-other mid l next (swap_remove (watches_of mid l) n (watch_at (watches_of mid l) n)) a b d ∙ lists-same lists next (watches_of lists next ++ w ∷ []) ni;
      others = λ m z c e. lists-other mid l m (swap_remove (watches_of mid l) n (watch_at (watches_of mid l) n)) a z c ∙ lists-other lists next m (watches_of lists next ++ w ∷ []) b z e;
    }
  where
    mid : List (List Watch)
    mid = set lists (code_of next) (watches_of lists next ++ w ∷ [])

    long : length (set lists (code_of next) (watches_of lists next ++ w ∷ [])) ≡ length lists
    long = length-set lists (code_of next) (watches_of lists next ++ w ∷ [])

    same : watches_of (set lists (code_of next) (watches_of lists next ++ w ∷ [])) l ≡ watches_of lists l
    same = lists-other lists next l (watches_of lists next ++ w ∷ []) b a (λ e. d (sym e))

-- a literal is one of the two or another
three : (m l next : ℤ) → (m ≡ l) ⊎ ((m ≡ next) ⊎ ((m ≢ l) × (m ≢ next)))
three m l next = pick (int_eq m l) refl
  where
    second : m ≢ l → (b : Bool) → int_eq m next ≡ b → (m ≡ l) ⊎ ((m ≡ next) ⊎ ((m ≢ l) × (m ≢ next)))
    second d true e = inr (inl (int_eq-is m next e))
    second d false e = inr (inr (d, int_eq-not m next e))

    pick : (b : Bool) → int_eq m l ≡ b → (m ≡ l) ⊎ ((m ≡ next) ⊎ ((m ≢ l) × (m ≢ next)))
    pick true e = inl (int_eq-is m l e)
    pick false e = second (int_eq-not m l e) (int_eq m next) refl

-- the lists still name what they named, but for the clause that moved
pub moved-lists : (lists new : List (List Watch)) (l : ℤ) (n : ℕ) (next : ℤ) (w : Watch) → IsMoved lists new l n next w → n < length (watches_of lists l) → (m : ℤ) (k from : ℕ) → m ≢ pos 0 → ((watch_at (watches_of lists l) n).clause ≢ k) ⊎ (m ≢ l) → (from ≤ n) → Lists (watches_of lists m) from k → Lists (watches_of new m) from k
moved-lists lists new l n next w h lt m k from z why le r = pick (three m l next)
  where
    here : m ≡ l → ((watch_at (watches_of lists l) n).clause ≢ k) ⊎ (m ≢ l) → Lists (watches_of new m) from k
    here e (inl c) =
        subst (λ x. Lists (watches_of new x) from k) (sym e) (subst (λ ws. Lists ws from k) (sym h.from) (lists-removed (watches_of lists l) n from k (watch_at (watches_of lists l) n) lt le c (subst (λ x. Lists (watches_of lists x) from k) e r)))
    here e (inr d) = absurd (d e)

    pick : (m ≡ l) ⊎ ((m ≡ next) ⊎ ((m ≢ l) × (m ≢ next))) → Lists (watches_of new m) from k
    pick (inl e) = here e why
    pick (inr (inl e)) = subst (λ x. Lists (watches_of new x) from k) (sym e) (subst (λ ws. Lists ws from k) (sym h.to) (lists-push (watches_of lists next) w from k (subst (λ x. Lists (watches_of lists x) from k) e r)))
    pick (inr (inr (a, b))) = subst (λ ws. Lists ws from k) (sym (h.others m z a b)) r

pub moved-watches : (clauses : List (List ℤ)) (count : ℕ) (lists new : List (List Watch)) (l : ℤ) (n : ℕ) (next : ℤ) (w : Watch) → IsMoved lists new l n next w → n < length (watches_of lists l) → next ≢ pos 0 → l ≢ pos 0 → IsWatch clauses count next w → ((m : ℤ) → m ≢ pos 0 → All (IsWatch clauses count m) (watches_of lists m)) → (m : ℤ) → m ≢ pos 0 → All (IsWatch clauses count m) (watches_of new m)
moved-watches clauses count lists new l n next w h lt nz lz iw all m z = pick (three m l next)
  where
    pick : (m ≡ l) ⊎ ((m ≡ next) ⊎ ((m ≢ l) × (m ≢ next))) → All (IsWatch clauses count m) (watches_of new m)
    pick (inl e) = subst (λ x. All (IsWatch clauses count x) (watches_of new x)) (sym e) (subst (All (IsWatch clauses count l)) (sym h.from) (all-removed (IsWatch clauses count l) (watches_of lists l) n (watch_at (watches_of lists l) n) lt (all l lz)))
    pick (inr (inl e)) = subst (λ x. All (IsWatch clauses count x) (watches_of new x)) (sym e) (subst (All (IsWatch clauses count next)) (sym h.to) (All-push (IsWatch clauses count next) (watches_of lists next) w (all next nz) iw))
    pick (inr (inr (a, b))) = subst (All (IsWatch clauses count m)) (sym (h.others m z a b)) (all m z)
