-- Watches as they are kept and as contracts see them.
use Rattle.std.proofs.Common.{◌≡◌, ◌≢◌, ◌⊎◌, ℕ, ◌+◌, ◌-◌, ◌<◌, ◌≤◌, ◌^◌, Bool, true, false, List, [], ◌∷◌, ◌++◌, map, length, take, set, get_or, ℤ, pos, refl, sym, ◌∙◌, ap, subst, inl, inr, arith}
use Rattle.std.specs.Prelude.{suc, nat_le, if◌then◌else◌}
use Rattle.std.proofs.lemmas.Bool.{cases_lt, le-leb, lt-leb}
use Rattle.std.proofs.lemmas.List.{get_or_default, get_or-map, get_or_past, length-map, get_or-set_other, map-set, map_push, take-map}
use Rattle.std.specs.List.{All, swap_remove}
use Rattle.hk_cnf.specs.Literal.{code_of}
use Rattle.hk_cdcl.specs.declared.lists.Slot.{Slot}
use Rattle.hk_cdcl.specs.declared.watches.Watches.TheInside.{Inside}
use Rattle.hk_cdcl.specs.Plain.{view_of}
use Rattle.hk_cdcl.specs.Records.{lit_of, Recorded, pair_at, text_at, place_in}
use Rattle.hk_cdcl.specs.Slots.{slots_of, slot_at, IsLonger, AreEmpty}
use Rattle.hk_cdcl.specs.Watches.{Watch, Plain, clause_in, plain_of, plain_lists, watches_of, watch_at, with_watch, with_both, IsMoved, IsSame, AreCleared}
use Rattle.hk_cdcl.proofs.Codes.{code-lit, lit-code, lit-nonzero}
use Rattle.hk_cdcl.proofs.Packed.{place-last, place-kept}
use Rattle.hk_cdcl.proofs.Relisting.{moved, moved-is}

-- a list as it is shown
pub shown-at : (starts : List ℕ) (lists : List (List Slot)) (n : ℕ) → get_or (plain_lists starts lists) n [] ≡ map (plain_of starts) (slots_of lists n)
shown-at starts lists n = pick (cases_lt n (length lists))
  where
    pick : (n < length lists) ⊎ (length lists ≤ n) → get_or (plain_lists starts lists) n [] ≡ map (plain_of starts) (slots_of lists n)
    pick (inl lt) = get_or-map (map (plain_of starts)) lists n [] [] lt
    pick (inr le) =
        let k : length (plain_lists starts lists) ≡ length lists = length-map lists (map (plain_of starts)) in
        get_or_past (plain_lists starts lists) n [] (omega (arith, k, le)) ∙ sym (ap (map (plain_of starts)) (get_or_past lists n [] le))

pub shown-of : (starts : List ℕ) (lists : List (List Slot)) (code : ℕ) → watches_of (plain_lists starts lists) (lit_of code) ≡ map (plain_of starts) (slots_of lists code)
shown-of starts lists code = ap (λ i. get_or (plain_lists starts lists) i []) (code-lit code) ∙ shown-at starts lists code

pub shown-length : (starts : List ℕ) (lists : List (List Slot)) (code : ℕ) → length (watches_of (plain_lists starts lists) (lit_of code)) ≡ length (slots_of lists code)
shown-length starts lists code = ap (λ (ws : List Watch). length ws) (shown-of starts lists code) ∙ length-map (slots_of lists code) (plain_of starts)

pub shown-count : (starts : List ℕ) (lists : List (List Slot)) → length (plain_lists starts lists) ≡ length lists
shown-count starts lists = length-map lists (map (plain_of starts))

pub shown-watch : (starts : List ℕ) (lists : List (List Slot)) (code n : ℕ) → n < length (slots_of lists code) → watch_at (watches_of (plain_lists starts lists) (lit_of code)) n ≡ plain_of starts (slot_at (slots_of lists code) n)
shown-watch starts lists code n lt =
    ap (λ (ws : List Watch). watch_at ws n) (shown-of starts lists code) ∙ get_or-map (plain_of starts) (slots_of lists code) n (record { blocker = 0; target = 0 }) (record { blocker = pos 0; clause = 0; binary = false }) lt

-- a list is written
written-shown : (starts : List ℕ) (lists : List (List Slot)) (code : ℕ) (slots : List Slot) → plain_lists starts (set lists code slots) ≡ set (plain_lists starts lists) (code_of (lit_of code)) (map (plain_of starts) slots)
written-shown starts lists code slots = map-set (map (plain_of starts)) lists code slots ∙ ap (λ i. set (plain_lists starts lists) i (map (plain_of starts) slots)) (sym (code-lit code))

pub set-shown : (starts : List ℕ) (lists : List (List Slot)) (code n : ℕ) (slot : Slot) → plain_lists starts (set lists code (set (slots_of lists code) n slot)) ≡ set (plain_lists starts lists) (code_of (lit_of code)) (set (watches_of (plain_lists starts lists) (lit_of code)) n (plain_of starts slot))
set-shown starts lists code n slot =
    written-shown starts lists code (set (slots_of lists code) n slot)
    ∙ ap (λ ws. set (plain_lists starts lists) (code_of (lit_of code)) ws) (map-set (plain_of starts) (slots_of lists code) n slot ∙ ap (λ ws. set ws n (plain_of starts slot)) (sym (shown-of starts lists code)))

pub push-shown : (starts : List ℕ) (lists : List (List Slot)) (code : ℕ) (slot : Slot) → plain_lists starts (set lists code (slots_of lists code ++ slot ∷ [])) ≡ with_watch (plain_lists starts lists) (lit_of code) (plain_of starts slot)
push-shown starts lists code slot =
    written-shown starts lists code (slots_of lists code ++ slot ∷ [])
    ∙ ap (λ ws. set (plain_lists starts lists) (code_of (lit_of code)) ws) (map_push (plain_of starts) (slots_of lists code) slot ∙ ap (λ ws. ws ++ plain_of starts slot ∷ []) (sym (shown-of starts lists code)))

removed-slots : (f : Slot → Watch) (ss : List Slot) (n : ℕ) (d : Slot) → n < length ss → map f (swap_remove ss n d) ≡ swap_remove (map f ss) n (f d)
removed-slots f ss n d lt =
    sym (take-map f (length ss - 1) (set ss n (get_or ss (length ss - 1) d)))
    ∙ (ap (take (length ss - 1)) (map-set f ss n (get_or ss (length ss - 1) d) ∙ ap (set (map f ss) n) (sym (get_or-map f ss (length ss - 1) d (f d) (omega (arith, lt)))))
    ∙ ap (λ m. take (m - 1) (set (map f ss) n (get_or (map f ss) (m - 1) (f d)))) (sym (length-map ss f)))

pub remove-shown : (starts : List ℕ) (lists : List (List Slot)) (code n : ℕ) → n < length (slots_of lists code) → plain_lists starts (set lists code (swap_remove (slots_of lists code) n (slot_at (slots_of lists code) n))) ≡ set (plain_lists starts lists) (code_of (lit_of code)) (swap_remove (watches_of (plain_lists starts lists) (lit_of code)) n (watch_at (watches_of (plain_lists starts lists) (lit_of code)) n))
remove-shown starts lists code n lt =
    written-shown starts lists code (swap_remove (slots_of lists code) n (slot_at (slots_of lists code) n))
    ∙ ap (λ ws. set (plain_lists starts lists) (code_of (lit_of code)) ws)
    (removed-slots (plain_of starts) (slots_of lists code) n (slot_at (slots_of lists code) n) lt
    ∙ (ap (λ w. swap_remove (map (plain_of starts) (slots_of lists code)) n w) (sym (shown-watch starts lists code n lt)) ∙ ap (λ (ws : List Watch). swap_remove ws n (watch_at (watches_of (plain_lists starts lists) (lit_of code)) n)) (sym (shown-of starts lists code))))

-- the clause of a target, which a record or a binary clause has
pub target-long : (starts : List ℕ) (t : ℕ) → nat_le (2 ^ 31) t ≡ false → clause_in starts t ≡ place_in starts t
target-long starts t e = ap (λ b. if b then t - 2 ^ 31 else place_in starts t) e

pub target-binary : (starts : List ℕ) (t : ℕ) → nat_le (2 ^ 31) t ≡ true → clause_in starts t ≡ t - 2 ^ 31
target-binary starts t e = ap (λ b. if b then t - 2 ^ 31 else place_in starts t) e

target-kept : (starts : List ℕ) (s t : ℕ) → clause_in starts t < length starts → clause_in (starts ++ s ∷ []) t ≡ clause_in starts t
target-kept starts s t lt = pick (nat_le (2 ^ 31) t) lt
  where
    pick : (b : Bool) → (if b then t - 2 ^ 31 else place_in starts t) < length starts → (if b then t - 2 ^ 31 else place_in (starts ++ s ∷ []) t) ≡ (if b then t - 2 ^ 31 else place_in starts t)
    pick true h = refl
    pick false h = place-kept starts s t h

map-agree : {A B : Type 0} (f g : A → B) (xs : List A) → All (λ x. f x ≡ g x) xs → map f xs ≡ map g xs
map-agree f g [] h = refl
map-agree f g (x ∷ xs) h = ap (λ y. y ∷ map f xs) (h 0 x (omega arith)) ∙ ap (λ ys. g x ∷ ys) (map-agree f g xs (λ k d lt. h (suc k) d (omega (arith, lt))))

abbrev made-watch : ℤ → Bool → ℕ → Watch
made-watch blocker binary clause = record { blocker = blocker; clause = clause; binary = binary }

slot-kept : (starts : List ℕ) (s : ℕ) (slot : Slot) → clause_in starts slot.target < length starts → plain_of (starts ++ s ∷ []) slot ≡ plain_of starts slot
slot-kept starts s slot lt = ap (made-watch (lit_of slot.blocker) (nat_le (2 ^ 31) slot.target)) (target-kept starts s slot.target lt)

-- what is shown stays, as a clause comes
pub grown-shown : (starts : List ℕ) (s : ℕ) (lists : List (List Slot)) → ((l : ℤ) → l ≢ pos 0 → All (λ (w : Watch). w.clause < length starts) (watches_of (plain_lists starts lists) l)) → plain_lists (starts ++ s ∷ []) lists ≡ plain_lists starts lists
grown-shown starts s lists named =
    map-agree (map (plain_of (starts ++ s ∷ []))) (map (plain_of starts)) lists
    (λ n d lt. map-agree (plain_of (starts ++ s ∷ [])) (plain_of starts) (get_or lists n d) (λ i e b. slot-kept starts s (get_or (get_or lists n d) i e) (inside n d lt i e b)))
  where
    inside : (n : ℕ) (d : List Slot) → n < length lists → (i : ℕ) (e : Slot) → i < length (get_or lists n d) → clause_in starts (get_or (get_or lists n d) i e).target < length starts
    inside n d lt i e b =
        let same : watches_of (plain_lists starts lists) (lit_of n) ≡ map (plain_of starts) (get_or lists n d) = shown-of starts lists n ∙ ap (map (plain_of starts)) (get_or_default lists n [] d lt) in
        let all : All (λ (w : Watch). w.clause < length starts) (map (plain_of starts) (get_or lists n d)) = subst (All (λ (w : Watch). w.clause < length starts)) same (named (lit_of n) (nonzero n)) in
        subst (λ (w : Watch). w.clause < length starts) (get_or-map (plain_of starts) (get_or lists n d) i e (plain_of starts e) b) (all i (plain_of starts e) (let k : length (map (plain_of starts) (get_or lists n d)) ≡ length (get_or lists n d) = length-map (get_or lists n d) (plain_of starts) in omega (arith, b, k)))
      where
        nonzero : (n : ℕ) → lit_of n ≢ pos 0
        nonzero n = lit-nonzero n

-- the watches of the clause that came
pub slot-new : (starts : List ℕ) (s : ℕ) (binary : Bool) (blocker : ℤ) (slot : Slot) → All (λ x. x < s) starts → s < 2 ^ 31 → blocker ≢ pos 0 → slot.blocker ≡ code_of blocker → slot.target ≡ (if binary then 2 ^ 31 + length starts else s) → plain_of (starts ++ s ∷ []) slot ≡ record { blocker = blocker; clause = length starts; binary = binary }
slot-new starts s binary blocker slot fresh low z eb et =
    ap (λ l. made-watch l (nat_le (2 ^ 31) slot.target) (clause_in (starts ++ s ∷ []) slot.target)) (ap lit_of eb ∙ lit-code blocker z)
    ∙ (ap (λ b. made-watch blocker b (clause_in (starts ++ s ∷ []) slot.target)) (tested binary et) ∙ ap (made-watch blocker binary) (names binary et))
  where
    tested : (b : Bool) → slot.target ≡ (if b then 2 ^ 31 + length starts else s) → nat_le (2 ^ 31) slot.target ≡ b
    tested true e = le-leb (2 ^ 31) slot.target (omega (arith, e))
    tested false e = lt-leb (2 ^ 31) slot.target (omega (arith, e, low))

    names : (b : Bool) → slot.target ≡ (if b then 2 ^ 31 + length starts else s) → clause_in (starts ++ s ∷ []) slot.target ≡ length starts
    names true e = target-binary (starts ++ s ∷ []) slot.target (tested true e) ∙ omega (arith, e)
    names false e = target-long (starts ++ s ∷ []) slot.target (tested false e) ∙ (ap (place_in (starts ++ s ∷ [])) e ∙ place-last starts s fresh)

-- the state as it is kept and as it is shown
abbrev pub shown-by : Recorded → List (List Slot) → Plain
shown-by r lists = record { lists = plain_lists r.starts lists; pairs = r.pairs; texts = r.texts; starts = r.starts }

abbrev with-lists : Recorded → List (List Watch) → Plain
with-lists r lists = record { lists = lists; pairs = r.pairs; texts = r.texts; starts = r.starts }

set-there : (w n : Inside) (code place : ℕ) (slot : Slot) → n.lists ≡ set w.lists code (set (slots_of w.lists code) place slot) → n.records ≡ w.records → view_of n ≡ with-lists w.records (set (plain_lists w.records.starts w.lists) (code_of (lit_of code)) (set (watches_of (plain_lists w.records.starts w.lists) (lit_of code)) place (plain_of w.records.starts slot)))
set-there w n code place slot el er = ap (λ r. shown-by r n.lists) er ∙ (ap (λ ls. shown-by w.records ls) el ∙ ap (with-lists w.records) (set-shown w.records.starts w.lists code place slot))

pub set-as : (w n : Inside) (v : Plain) (code place : ℕ) (slot : Slot) → view_of w ≡ v → n.lists ≡ set w.lists code (set (slots_of w.lists code) place slot) → n.records ≡ w.records → view_of n ≡ record v { lists = set v.lists (code_of (lit_of code)) (set (watches_of v.lists (lit_of code)) place (plain_of v.starts slot)) }
set-as w n v code place slot e el er =
    subst (λ (x : Plain). view_of n ≡ record x { lists = set x.lists (code_of (lit_of code)) (set (watches_of x.lists (lit_of code)) place (plain_of x.starts slot)) }) e (set-there w n code place slot el er)

-- a watch moved
moved-shown : (starts : List ℕ) (lists mid new : List (List Slot)) (code place next : ℕ) (slot : Slot) → mid ≡ set lists next (slots_of lists next ++ slot ∷ []) → new ≡ set mid code (swap_remove (slots_of mid code) place (slot_at (slots_of mid code) place)) → place < length (slots_of mid code) → plain_lists starts new ≡ moved (plain_lists starts lists) (lit_of code) place (lit_of next) (plain_of starts slot)
moved-shown starts lists mid new code place next slot em en lt =
    ap (plain_lists starts) en ∙ (remove-shown starts mid code place lt
    ∙ ap (λ (ls : List (List Watch)). set ls (code_of (lit_of code)) (swap_remove (watches_of ls (lit_of code)) place (watch_at (watches_of ls (lit_of code)) place))) (ap (plain_lists starts) em ∙ push-shown starts lists next slot))

rewatch-there : (w n : Inside) (code place next : ℕ) (slot : Slot) (mid : List (List Slot)) → code < length (view_of w).lists → next < length (view_of w).lists → lit_of next ≢ lit_of code → place < length (watches_of (view_of w).lists (lit_of code)) → mid ≡ set w.lists next (slots_of w.lists next ++ slot ∷ []) → n.lists ≡ set mid code (swap_remove (slots_of mid code) place (slot_at (slots_of mid code) place)) → n.records.starts ≡ w.records.starts → IsMoved (view_of w).lists (view_of n).lists (lit_of code) place (lit_of next) (plain_of w.records.starts slot)
rewatch-there w n code place next slot mid lc ln d lt em en es =
    subst (λ new. IsMoved (plain_lists w.records.starts w.lists) new (lit_of code) place (lit_of next) (plain_of w.records.starts slot))
    (sym (ap (λ ss. plain_lists ss n.lists) es ∙ moved-shown w.records.starts w.lists mid n.lists code place next slot em en inside))
    (moved-is (plain_lists w.records.starts w.lists) (lit_of code) place (lit_of next) (plain_of w.records.starts slot) (lit-nonzero code) (lit-nonzero next) d (below code lc) (below next ln))
  where
    below : (k : ℕ) → k < length (plain_lists w.records.starts w.lists) → code_of (lit_of k) < length (plain_lists w.records.starts w.lists)
    below k b = subst (λ i. i < length (plain_lists w.records.starts w.lists)) (sym (code-lit k)) b

    apart : code ≢ next
    apart e = d (ap lit_of (sym e))

    inside : place < length (slots_of mid code)
    inside =
        let k : length (watches_of (plain_lists w.records.starts w.lists) (lit_of code)) ≡ length (slots_of w.lists code) = shown-length w.records.starts w.lists code in
        let m : length (slots_of mid code) ≡ length (slots_of w.lists code) = ap (λ (ls : List (List Slot)). length (slots_of ls code)) em ∙ ap (λ (ss : List Slot). length ss) (get_or-set_other w.lists next code (slots_of w.lists next ++ slot ∷ []) [] apart) in
        omega (arith, lt, k, m)

pub rewatch-as : (w n : Inside) (v : Plain) (code place next : ℕ) (slot : Slot) (mid : List (List Slot)) → view_of w ≡ v → code < length v.lists → next < length v.lists → lit_of next ≢ lit_of code → place < length (watches_of v.lists (lit_of code)) → mid ≡ set w.lists next (slots_of w.lists next ++ slot ∷ []) → n.lists ≡ set mid code (swap_remove (slots_of mid code) place (slot_at (slots_of mid code) place)) → n.records.starts ≡ w.records.starts → IsMoved v.lists (view_of n).lists (lit_of code) place (lit_of next) (plain_of v.starts slot)
rewatch-as w n v code place next slot mid e lc ln d lt em en es =
    subst (λ (x : Plain). code < length x.lists → next < length x.lists → place < length (watches_of x.lists (lit_of code)) → IsMoved x.lists (view_of n).lists (lit_of code) place (lit_of next) (plain_of x.starts slot)) e
    (λ a b c. rewatch-there w n code place next slot mid a b d c em en es) lc ln lt

-- all lists are empty, and empty ones come
pub cleared-as : (w n : Inside) (v : Plain) → view_of w ≡ v → AreEmpty w.lists n.lists → AreCleared v.lists (view_of n).lists
cleared-as w n v e h = subst (λ (x : Plain). AreCleared x.lists (view_of n).lists) e (record {
  count = shown-count n.records.starts n.lists ∙ (h.count ∙ sym (shown-count w.records.starts w.lists));
  none = λ k. shown-at n.records.starts n.lists k ∙ ap (map (plain_of n.records.starts)) (h.none k);
})

pub widened-as : (w n : Inside) (v : Plain) → view_of w ≡ v → IsLonger w.lists n.lists → n.records ≡ w.records → IsSame v.lists (view_of n).lists
widened-as w n v e h er =
    subst (λ (x : Plain). IsSame x.lists (view_of n).lists) e
    (subst (λ (r : Recorded). IsSame (plain_lists w.records.starts w.lists) (plain_lists r.starts n.lists)) (sym er) (record {
      more = let a : length (plain_lists w.records.starts w.lists) ≡ length w.lists = shown-count w.records.starts w.lists in let b : length (plain_lists w.records.starts n.lists) ≡ length n.lists = shown-count w.records.starts n.lists in let m : length w.lists ≤ length n.lists = h.more in omega (arith, a, b, m);
      same = λ l. shown-at w.records.starts n.lists (code_of l) ∙ (ap (map (plain_of w.records.starts)) (h.same (code_of l)) ∙ sym (shown-at w.records.starts w.lists (code_of l)));
    }))

-- the record of a clause that is not binary
pub long-start : (w : Inside) (v : Plain) (t : ℕ) → view_of w ≡ v → nat_le (2 ^ 31) t ≡ false → clause_in v.starts t < length v.starts → place_in w.records.starts t < length w.records.starts
long-start w v t e long lt = subst (λ k. k < length w.records.starts) (target-long w.records.starts t long) (subst (λ (x : Plain). clause_in x.starts t < length x.starts) (sym e) lt)

pub long-place : (w : Inside) (v : Plain) (t : ℕ) → view_of w ≡ v → nat_le (2 ^ 31) t ≡ false → place_in w.records.starts t ≡ clause_in v.starts t
long-place w v t e long = sym (target-long w.records.starts t long) ∙ ap (λ (x : Plain). clause_in x.starts t) e

pub long-pair : (w : Inside) (v : Plain) (t : ℕ) → view_of w ≡ v → nat_le (2 ^ 31) t ≡ false → pair_at w.records.pairs (place_in w.records.starts t) ≡ pair_at v.pairs (clause_in v.starts t)
long-pair w v t e long = ap (pair_at w.records.pairs) (sym (target-long w.records.starts t long)) ∙ ap (λ (x : Plain). pair_at x.pairs (clause_in x.starts t)) e

pub long-text : (w : Inside) (v : Plain) (t : ℕ) → view_of w ≡ v → nat_le (2 ^ 31) t ≡ false → text_at w.records.texts (place_in w.records.starts t) ≡ text_at v.texts (clause_in v.starts t)
long-text w v t e long = ap (text_at w.records.texts) (sym (target-long w.records.starts t long)) ∙ ap (λ (x : Plain). text_at x.texts (clause_in x.starts t)) e

-- both watches of the clause that came
attached-there : (w n : Inside) (s one two : ℕ) (first second : ℤ) (binary : Bool) (a b : Slot) (mid : List (List Slot)) → ((l : ℤ) → l ≢ pos 0 → All (λ (x : Watch). x.clause < length w.records.starts) (watches_of (plain_lists w.records.starts w.lists) l)) → All (λ x. x < s) w.records.starts → s < 2 ^ 31 → first ≢ pos 0 → second ≢ pos 0 → one ≡ code_of first → two ≡ code_of second → a.blocker ≡ two → b.blocker ≡ one → a.target ≡ (if binary then 2 ^ 31 + length w.records.starts else s) → b.target ≡ (if binary then 2 ^ 31 + length w.records.starts else s) → mid ≡ set w.lists one (slots_of w.lists one ++ a ∷ []) → n.lists ≡ set mid two (slots_of mid two ++ b ∷ []) → n.records.starts ≡ w.records.starts ++ s ∷ [] → (view_of n).lists ≡ with_both (plain_lists w.records.starts w.lists) first second (length w.records.starts) binary
attached-there w n s one two first second binary a b mid named fresh low fz sz e1 e2 ab bb at bt em en es =
    ap (λ ss. plain_lists ss n.lists) es
    ∙ (ap (plain_lists (w.records.starts ++ s ∷ [])) en
    ∙ (push-shown (w.records.starts ++ s ∷ []) mid two b
    ∙ (ap (λ (ls : List (List Watch)). with_watch ls (lit_of two) (plain_of (w.records.starts ++ s ∷ []) b)) (ap (plain_lists (w.records.starts ++ s ∷ [])) em ∙ (push-shown (w.records.starts ++ s ∷ []) w.lists one a ∙ ap (λ (ls : List (List Watch)). with_watch ls (lit_of one) (plain_of (w.records.starts ++ s ∷ []) a)) (grown-shown w.records.starts s w.lists named)))
    ∙ (ap (λ (x : Watch). with_watch (with_watch (plain_lists w.records.starts w.lists) (lit_of one) x) (lit_of two) (plain_of (w.records.starts ++ s ∷ []) b)) (slot-new w.records.starts s binary second a fresh low sz (ab ∙ e2) at)
    ∙ (ap (λ (x : Watch). with_watch (with_watch (plain_lists w.records.starts w.lists) (lit_of one) (record { blocker = second; clause = length w.records.starts; binary = binary })) (lit_of two) x) (slot-new w.records.starts s binary first b fresh low fz (bb ∙ e1) bt)
    ∙ (ap (λ l. with_watch (with_watch (plain_lists w.records.starts w.lists) l (record { blocker = second; clause = length w.records.starts; binary = binary })) (lit_of two) (record { blocker = first; clause = length w.records.starts; binary = binary })) (ap lit_of e1 ∙ lit-code first fz)
    ∙ ap (λ l. with_watch (with_watch (plain_lists w.records.starts w.lists) first (record { blocker = second; clause = length w.records.starts; binary = binary })) l (record { blocker = first; clause = length w.records.starts; binary = binary })) (ap lit_of e2 ∙ lit-code second sz)))))))

pub attached-as : (w n : Inside) (v : Plain) (s one two : ℕ) (first second : ℤ) (binary : Bool) (a b : Slot) (mid : List (List Slot)) → view_of w ≡ v → length v.pairs ≡ length v.starts → ((l : ℤ) → l ≢ pos 0 → All (λ (x : Watch). x.clause < length v.pairs) (watches_of v.lists l)) → All (λ x. x < s) w.records.starts → s < 2 ^ 31 → first ≢ pos 0 → second ≢ pos 0 → one ≡ code_of first → two ≡ code_of second → a.blocker ≡ two → b.blocker ≡ one → a.target ≡ (if binary then 2 ^ 31 + length w.records.starts else s) → b.target ≡ (if binary then 2 ^ 31 + length w.records.starts else s) → mid ≡ set w.lists one (slots_of w.lists one ++ a ∷ []) → n.lists ≡ set mid two (slots_of mid two ++ b ∷ []) → n.records.starts ≡ w.records.starts ++ s ∷ [] → (view_of n).lists ≡ with_both v.lists first second (length v.pairs) binary
attached-as w n v s one two first second binary a b mid e ep named fresh low fz sz e1 e2 ab bb at bt em en es =
    subst (λ (x : Plain). length x.pairs ≡ length x.starts → ((l : ℤ) → l ≢ pos 0 → All (λ (y : Watch). y.clause < length x.pairs) (watches_of x.lists l)) → (view_of n).lists ≡ with_both x.lists first second (length x.pairs) binary) e
    (λ k m. subst (λ (c : ℕ). (view_of n).lists ≡ with_both (plain_lists w.records.starts w.lists) first second c binary) (sym k)
    (attached-there w n s one two first second binary a b mid (λ l nz. subst (λ (c : ℕ). All (λ (y : Watch). y.clause < c) (watches_of (plain_lists w.records.starts w.lists) l)) k (m l nz)) fresh low fz sz e1 e2 ab bb at bt em en es))
    ep named
