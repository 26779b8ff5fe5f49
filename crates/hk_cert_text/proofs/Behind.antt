-- One element's text behind those of the elements before it, and elements of two lists side by side.
use Rattle.std.proofs.Common.{ℕ, zero, suc, ◌≡◌, ◌≤◌, ◌<◌, ◌+◌, List, [], ◌∷◌, ◌++◌, min, map, length, length-append, take, get_or, ap, sym, ◌∙◌, arith, refl, append_assoc}
use Rattle.std.proofs.lemmas.List.{append-nil, take_more, take_all, length-map}
use Rattle.std.proofs.lemmas.List.Concat.{flat_map-append}
use Rattle.std.proofs.lemmas.Slice.Zip.{length-zip, get_or-zip}
use Rattle.std.specs.List.{flat_map, zip}
use Rattle.spec_tree.specs.Plain.{Spec, Transition}
use Rattle.hk_case.specs.declared.Obligation.{Obligation}
use Rattle.hk_case.specs.declared.Obligation.TheVariants.{Undefined, Invariant, State, ResultValue, Property}
use Rattle.hk_verdict.specs.Report.{named_rejection, rejection_line}
use Rattle.hk_cert_text.specs.Certificate.{kind_of, subject_of}

pub flat_next : {X : Type 0} (f : X → List ℕ) (xs : List X) (i j : ℕ) (d x : X) → i < length xs → x ≡ get_or xs i d → j ≡ i + 1 → flat_map f (take j xs) ≡ flat_map f (take i xs) ++ f x
flat_next f xs i j d x within is next =
    ap (λ k. flat_map f (take k xs)) next ∙ ap (flat_map f) (take_more xs i d within) ∙ flat_map-append f (take i xs) (get_or xs i d ∷ [])
    ∙ ap (λ l. flat_map f (take i xs) ++ l) (append-nil (f (get_or xs i d)) ∙ ap f (sym is))

pub adds_next : {X : Type 0} (f : X → List ℕ) (xs : List X) (i j : ℕ) (d x : X) (s a b : List ℕ) → i < length xs → x ≡ get_or xs i d → j ≡ i + 1
    → a ≡ s ++ flat_map f (take i xs) → b ≡ a ++ f x → b ≡ s ++ flat_map f (take j xs)
adds_next f xs i j d x s a b within is next first second =
    second ∙ ap (λ l. l ++ f x) first ∙ append_assoc s (flat_map f (take i xs)) (f x) ∙ ap (λ l. s ++ l) (sym (flat_next f xs i j d x within is next))

pub adds_all : {X : Type 0} (f : X → List ℕ) (xs : List X) (i : ℕ) (s a : List ℕ) → length xs ≤ i → a ≡ s ++ flat_map f (take i xs) → a ≡ s ++ flat_map f xs
adds_all f xs i s a past first = first ∙ ap (λ l. s ++ flat_map f l) (take_all i xs past)

pub one_longer : {X : Type 0} (xs : List X) (x : X) → length (xs ++ x ∷ []) ≡ length xs + 1
one_longer xs x = omega (arith, length-append xs (x ∷ []))

pub pair_within : {K V : Type 0} (ks : List K) (vs : List V) (i : ℕ) → i < length ks → i < length vs → i < length (zip ks vs)
pair_within ks vs i first second = omega (arith, first, second, length-zip ks vs)

pub pairs_end : {K V : Type 0} (ks : List K) (vs : List V) (i : ℕ) → i ≡ min (length ks) (length vs) → length (zip ks vs) ≤ i
pairs_end ks vs i is = omega (arith, is, length-zip ks vs)

pub pair_at : {K V : Type 0} (ks : List K) (vs : List V) (i : ℕ) (k : K) (v : V) → i < length ks → i < length vs → k ≡ get_or ks i k → v ≡ get_or vs i v → (k, v) ≡ get_or (zip ks vs) i (k, v)
pair_at ks vs i k v first second key value =
    ap (λ a. (a, v)) key ∙ ap (λ b. (get_or ks i k, b)) value ∙ sym (get_or-zip ks vs i (k, v) first second)

pub viewed : {K W : Type 0} (view : K → W) (ks : List K) (i : ℕ) (k : K) → view (get_or ks i k) ≡ get_or (map view ks) i (view k)
viewed view [] i k = refl
viewed view (x ∷ ks) zero k = refl
viewed view (x ∷ ks) (suc i) k = viewed view ks i k

-- what is said of the second parts may be said of their images
pub zipped : {K V W B : Type 0} (f : K × W → List B) (g : V → W) (ks : List K) (vs : List V) → flat_map (λ e. f (e.0, g e.1)) (zip ks vs) ≡ flat_map f (zip ks (map g vs))
zipped f g [] vs = refl
zipped f g (k ∷ ks) [] = refl
zipped f g (k ∷ ks) (v ∷ vs) = ap (λ l. f (k, g v) ++ l) (zipped f g ks vs)

pub zipped_all : {K V W B : Type 0} (f : K × W → List B) (g : V → W) (ks : List K) (vs : List V) (s a : List B) → a ≡ s ++ flat_map (λ e. f (e.0, g e.1)) (zip ks vs) → a ≡ s ++ flat_map f (zip ks (map g vs))
zipped_all f g ks vs s a h = h ∙ ap (λ l. s ++ l) (zipped f g ks vs)

pub mapped_within : {K W V : Type 0} (view : K → W) (ks : List K) (vs : List V) (i : ℕ) → i < length ks → i < length vs → i < length (zip (map view ks) vs)
mapped_within view ks vs i first second = omega (arith, first, second, length-zip (map view ks) vs, length-map ks view)

pub mapped_end : {K W V : Type 0} (view : K → W) (ks : List K) (vs : List V) (i : ℕ) → i ≡ min (length ks) (length vs) → length (zip (map view ks) vs) ≤ i
mapped_end view ks vs i is = omega (arith, is, length-zip (map view ks) vs, length-map ks view)

pub mapped_at : {K W V : Type 0} (view : K → W) (ks : List K) (vs : List V) (i : ℕ) (k : K) (v : V) → i < length ks → i < length vs → k ≡ get_or ks i k → v ≡ get_or vs i v
    → (view k, v) ≡ get_or (zip (map view ks) vs) i (view k, v)
mapped_at view ks vs i k v first second key value =
    pair_at (map view ks) vs i (view k) v (omega (arith, first, length-map ks view)) second (ap view key ∙ viewed view ks i k) value

-- the line of a rejection, by the word of its obligation
pub rejected : (s : Spec) (t : Transition) (o : Obligation) → rejection_line s t o ≡ named_rejection t.name (kind_of o) (subject_of s o)
rejected s t Undefined = refl
rejected s t (Invariant i) = refl
rejected s t (State f) = refl
rejected s t ResultValue = refl
rejected s t (Property p) = refl
