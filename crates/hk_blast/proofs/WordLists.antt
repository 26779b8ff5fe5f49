-- Entries of tables, and what is found in a table as it grows and is cut.
use Rattle.std.proofs.Common.{◌≡◌, ◌⊎◌, inl, inr, ℕ, zero, suc, ◌<◌, ◌≤◌, Bool, true, false, cond, nat_eq, List, [], ◌∷◌, ◌++◌, length, take, drop, map, ℤ, Option, Some, None, refl, sym, ◌∙◌, ap, subst, arith, length-take}
use Rattle.std.specs.Prelude.{slice_get, unwrap_or, option_map, is_some}
use Rattle.std.specs.List.{All}
use Rattle.std.specs.Map.{lookup}
use Rattle.std.proofs.lemmas.Option.{none-some, same_Some, slice_get_within}
use Rattle.std.proofs.lemmas.Bool.{eqb-true, eq-eqb, ne_eqb}
use Rattle.std.proofs.lemmas.List.{take-append-drop, take-take, append-nil}
use Rattle.std.proofs.lemmas.List.Elements.{All-nil, All-append, All-map}
use Rattle.std.proofs.lemmas.Grind.{flat_map-append}
use Rattle.hk_term.specs.declared.node.Node.{Node}
use Rattle.hk_cnf.specs.Literal.{place_of}
use Rattle.hk_blast.specs.Blasted.{Words, word_in, HasWord, IsMissing, is_input, is_input_at, places_of, input_places}

-- a word that is found is found behind more entries
pub found : (t : ℕ) (xs ys : Words) (w : List ℤ) → lookup (nat_eq t) xs ≡ Some w → lookup (nat_eq t) (xs ++ ys) ≡ Some w
found t [] ys w h = absurd (none-some w h)
found t (x ∷ xs) ys w h = pick (nat_eq t x.0) refl h (found t xs ys w)
  where
    pick : (b : Bool) → nat_eq t x.0 ≡ b → cond (nat_eq t x.0) (Some x.1) (lookup (nat_eq t) xs) ≡ Some w
        → (lookup (nat_eq t) xs ≡ Some w → lookup (nat_eq t) (xs ++ ys) ≡ Some w) → cond (nat_eq t x.0) (Some x.1) (lookup (nat_eq t) (xs ++ ys)) ≡ Some w
    pick true e k go = ap (λ c. cond c (Some x.1) (lookup (nat_eq t) (xs ++ ys))) e ∙ (sym (ap (λ c. cond c (Some x.1) (lookup (nat_eq t) xs)) e) ∙ k)
    pick false e k go = ap (λ c. cond c (Some x.1) (lookup (nat_eq t) (xs ++ ys))) e ∙ go (sym (ap (λ c. cond c (Some x.1) (lookup (nat_eq t) xs)) e) ∙ k)

-- a term that is missing is looked for behind
pub missed : (t : ℕ) (xs ys : Words) → lookup (nat_eq t) xs ≡ None → lookup (nat_eq t) (xs ++ ys) ≡ lookup (nat_eq t) ys
missed t [] ys h = refl
missed t (x ∷ xs) ys h = pick (nat_eq t x.0) refl h (missed t xs ys)
  where
    pick : (b : Bool) → nat_eq t x.0 ≡ b → cond (nat_eq t x.0) (Some x.1) (lookup (nat_eq t) xs) ≡ None
        → (lookup (nat_eq t) xs ≡ None → lookup (nat_eq t) (xs ++ ys) ≡ lookup (nat_eq t) ys) → cond (nat_eq t x.0) (Some x.1) (lookup (nat_eq t) (xs ++ ys)) ≡ lookup (nat_eq t) ys
    pick true e k go = absurd (none-some x.1 (sym k ∙ ap (λ c. cond c (Some x.1) (lookup (nat_eq t) xs)) e))
    pick false e k go = ap (λ c. cond c (Some x.1) (lookup (nat_eq t) (xs ++ ys))) e ∙ go (sym (ap (λ c. cond c (Some x.1) (lookup (nat_eq t) xs)) e) ∙ k)

-- a term has a word, or is missing
pub cases_word : (o : Option (List ℤ)) → ((w : List ℤ) × (o ≡ Some w)) ⊎ (o ≡ None)
cases_word None = inr refl
cases_word (Some w) = inl (w, refl)

has_word : (o : Option (List ℤ)) → is_some o ≡ true → (w : List ℤ) × (o ≡ Some w)
has_word None h = absurd (bad h)
  where
    bad : false ≡ true → ⊥
    bad e = cc
has_word (Some w) h = (w, refl)

pub word_of : (t : ℕ) (table : Words) → HasWord table t → (w : List ℤ) × (lookup (nat_eq t) table ≡ Some w)
word_of t table h = has_word (lookup (nat_eq t) table) h

pub has_from : (t : ℕ) (table : Words) (w : List ℤ) → lookup (nat_eq t) table ≡ Some w → HasWord table t
has_from t table w e = ap is_some e

pub has_more : (t : ℕ) (xs ys : Words) → HasWord xs t → HasWord (xs ++ ys) t
has_more t xs ys h = let w : (w : List ℤ) × (lookup (nat_eq t) xs ≡ Some w) = word_of t xs h in has_from t (xs ++ ys) w.0 (found t xs ys w.0 w.1)

pub word_more : (t : ℕ) (xs ys : Words) → HasWord xs t → word_in (xs ++ ys) t ≡ word_in xs t
word_more t xs ys h =
    let w : (w : List ℤ) × (lookup (nat_eq t) xs ≡ Some w) = word_of t xs h in
    ap (λ o. unwrap_or o []) (found t xs ys w.0 w.1) ∙ sym (ap (λ o. unwrap_or o []) w.1)

pub has_here : (t : ℕ) (xs : Words) (w : List ℤ) → IsMissing xs t → lookup (nat_eq t) (xs ++ (t, w) ∷ []) ≡ Some w
has_here t xs w h = missed t xs ((t, w) ∷ []) h ∙ ap (λ c. cond c (Some w) None) (same t)
  where
    same : (n : ℕ) → nat_eq n n ≡ true
    same n = eq-eqb n n refl

pub missing_here : (k t : ℕ) (xs : Words) (w : List ℤ) → IsMissing xs k → (k ≡ t → ⊥) → IsMissing (xs ++ (t, w) ∷ []) k
missing_here k t xs w h d = missed k xs ((t, w) ∷ []) h ∙ ap (λ c. cond c (Some w) None) (ne_eqb k t d)

-- nothing else has a word
pub only_here : (k t : ℕ) (xs : Words) (w : List ℤ) → HasWord (xs ++ (t, w) ∷ []) k → (HasWord xs k) ⊎ (k ≡ t)
only_here k t xs w h = pick (cases_word (lookup (nat_eq k) xs))
  where
    last : (b : Bool) → nat_eq k t ≡ b → is_some (cond (nat_eq k t) (Some w) None) ≡ true → k ≡ t
    last true e g = eqb-true k t e
    last false e g = let f : false ≡ true = sym (ap (λ c. is_some (cond c (Some w) None)) e) ∙ g in cc

    pick : ((u : List ℤ) × (lookup (nat_eq k) xs ≡ Some u)) ⊎ (lookup (nat_eq k) xs ≡ None) → (HasWord xs k) ⊎ (k ≡ t)
    pick (inl (u, e)) = inl (has_from k xs u e)
    pick (inr e) = inr (last (nat_eq k t) refl (sym (ap is_some (missed k xs ((t, w) ∷ []) e)) ∙ h))

-- a front of a table
pub word_front : (t n : ℕ) (xs : Words) → HasWord (take n xs) t → word_in xs t ≡ word_in (take n xs) t
word_front t n xs h = ap (λ ys. word_in ys t) (sym (take-append-drop n xs)) ∙ word_more t (take n xs) (drop n xs) h

-- a word that is found has its entry
pub entry_of : (t : ℕ) (xs : Words) (w : List ℤ) → lookup (nat_eq t) xs ≡ Some w → (i : ℕ) × (slice_get xs i ≡ Some (t, w))
entry_of t [] w h = absurd (none-some w h)
entry_of t (x ∷ xs) w h = pick (nat_eq t x.0) refl h (entry_of t xs w)
  where
    pick : (b : Bool) → nat_eq t x.0 ≡ b → cond (nat_eq t x.0) (Some x.1) (lookup (nat_eq t) xs) ≡ Some w
        → (lookup (nat_eq t) xs ≡ Some w → (i : ℕ) × (slice_get xs i ≡ Some (t, w))) → (i : ℕ) × (slice_get (x ∷ xs) i ≡ Some (t, w))
    pick true e k go =
        let key : t ≡ x.0 = eqb-true t x.0 e in
        let word : x.1 ≡ w = same_Some x.1 w (sym (ap (λ c. cond c (Some x.1) (lookup (nat_eq t) xs)) e) ∙ k) in
        (0, λ j. Some (sym key j, word j))
    pick false e k go = let r : (i : ℕ) × (slice_get xs i ≡ Some (t, w)) = go (sym (ap (λ c. cond c (Some x.1) (lookup (nat_eq t) xs)) e) ∙ k) in (suc r.0, r.1)

-- an entry of a front is an entry there
pub get_more : {A : Type 0} (xs ys : List A) (i : ℕ) (e : A) → slice_get xs i ≡ Some e → slice_get (xs ++ ys) i ≡ Some e
get_more [] ys i e h = absurd (none-some e h)
get_more (x ∷ xs) ys zero e h = h
get_more (x ∷ xs) ys (suc i) e h = get_more xs ys i e h

pub get_front : {A : Type 0} (n : ℕ) (xs : List A) (i : ℕ) (e : A) → slice_get (take n xs) i ≡ Some e → slice_get xs i ≡ Some e
get_front n xs i e h = subst (λ ys. slice_get ys i ≡ Some e) (take-append-drop n xs) (get_more (take n xs) (drop n xs) i e h)

pub front_front : {A : Type 0} (n : ℕ) (xs : List A) (i : ℕ) (e : A) → slice_get (take n xs) i ≡ Some e → take i (take n xs) ≡ take i xs
front_front n xs i e h =
    let b : i < length (take n xs) = slice_get_within (take n xs) i e h in
    shorter i n xs (omega (arith, b, length-take n xs))
  where
    shorter : {A : Type 0} (i j : ℕ) (zs : List A) → i ≤ j → take i (take j zs) ≡ take i zs
    shorter i j zs l = grind (arith, take-take)

-- an entry of a table with one more is earlier, or the last
pub get_push : {A : Type 0} (xs : List A) (x : A) (i : ℕ) (e : A) → slice_get (xs ++ x ∷ []) i ≡ Some e
    → ((slice_get xs i ≡ Some e) × (take i (xs ++ x ∷ []) ≡ take i xs)) ⊎ ((take i (xs ++ x ∷ []) ≡ xs) × (x ≡ e))
get_push [] x zero e h = inr (refl, same_Some x e h)
get_push [] x (suc i) e h = absurd (none-some e h)
get_push (y ∷ xs) x zero e h = inl (h, refl)
get_push (y ∷ xs) x (suc i) e h = pick (get_push xs x i e h)
  where
    pick : ((slice_get xs i ≡ Some e) × (take i (xs ++ x ∷ []) ≡ take i xs)) ⊎ ((take i (xs ++ x ∷ []) ≡ xs) × (x ≡ e))
        → ((slice_get (y ∷ xs) (suc i) ≡ Some e) × (take (suc i) ((y ∷ xs) ++ x ∷ []) ≡ take (suc i) (y ∷ xs))) ⊎ ((take (suc i) ((y ∷ xs) ++ x ∷ []) ≡ y ∷ xs) × (x ≡ e))
    pick (inl p) = inl (p.0, ap (λ zs. y ∷ zs) p.1)
    pick (inr p) = inr (ap (λ zs. y ∷ zs) p.0, p.1)

-- the places of the inputs of a table with one more entry
pub places-push : (nodes : List Node) (xs : Words) (e : ℕ × List ℤ) → input_places nodes (xs ++ e ∷ []) ≡ input_places nodes xs ++ places_of nodes e
places-push nodes xs e =
    flat_map-append (places_of nodes) xs (e ∷ []) ∙ ap (λ ps. input_places nodes xs ++ ps) (append-nil (places_of nodes e))

pub is_input-at : (nodes : List Node) (t : ℕ) (n : Node) → slice_get nodes t ≡ Some n → is_input_at nodes t ≡ is_input n
is_input-at nodes t n h = ap (λ o. unwrap_or (option_map is_input o) false) h

-- what holds of the places of the literals of each input's word
pub places-all : (P : ℕ → Type 0) (nodes : List Node) (xs : Words) → ((i : ℕ) (e : ℕ × List ℤ) → slice_get xs i ≡ Some e → is_input_at nodes e.0 ≡ true → All (λ l. P (place_of l)) e.1) → All P (input_places nodes xs)
places-all P nodes [] h = All-nil P
places-all P nodes (x ∷ xs) h =
    All-append P (places_of nodes x) (input_places nodes xs) (pick (is_input_at nodes x.0) refl) (places-all P nodes xs (λ i e. h (suc i) e))
  where
    pick : (b : Bool) → is_input_at nodes x.0 ≡ b → All P (cond (is_input_at nodes x.0) (map place_of x.1) [])
    pick true e = subst (λ c. All P (cond c (map place_of x.1) [])) (sym e) (All-map P place_of x.1 (h 0 x refl e))
    pick false e = subst (λ c. All P (cond c (map place_of x.1) [])) (sym e) (All-nil P)
