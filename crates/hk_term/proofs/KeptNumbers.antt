-- What a room knows, and what it keeps when a list changes.
use Rattle.std.proofs.Common.{◌≡◌, ◌≢◌, ℕ, zero, suc, ◌+◌, ◌<◌, ◌≤◌, ◌⊎◌, ◌++◌, Bool, true, false, cond, nat_eq, List, [], ◌∷◌, length, slice_index, get_or, take, take_all, replicate, Some, None, arith, refl, sym, ◌∙◌, ap, subst, inl, inr}
use Rattle.std.specs.Prelude.{Option, Result, Ok, Err, OnErr}
use Rattle.std.specs.List.{slice_get}
use Rattle.std.proofs.lemmas.Bool.{eqb-true, eq-eqb, cases_lt}
use Rattle.std.proofs.lemmas.List.{length-replicate, get_or-replicate}
use Rattle.hk_term.specs.declared.node.Node.{Node}
use Rattle.hk_term.specs.Shape.{Grows}
use Rattle.hk_term.specs.Meaning.{Reading, value}
use Rattle.hk_term.specs.Walk.{Known, IsFresh}
use Rattle.hk_term.specs.Room.{known_numbers, IsRoom, IsFor}
use Rattle.hk_term.proofs.TermLists.{value-grows}

pub length-known_numbers : (s : ℕ) (vs ms : List ℕ) → length ms ≤ length vs → length (known_numbers s vs ms) ≡ length ms
length-known_numbers s vs [] h = refl
length-known_numbers s [] (m ∷ ms) h = absurd (omega arith)
length-known_numbers s (v ∷ vs) (m ∷ ms) h = ap suc (length-known_numbers s vs ms (omega arith))

-- more numbers without marks change nothing
pub known_numbers-append : (s : ℕ) (vs more ms : List ℕ) → length ms ≤ length vs → known_numbers s (vs ++ more) ms ≡ known_numbers s vs ms
known_numbers-append s [] more [] h = refl
known_numbers-append s (v ∷ vs) more [] h = refl
known_numbers-append s [] more (m ∷ ms) h = absurd (omega arith)
known_numbers-append s (v ∷ vs) more (m ∷ ms) h =
    ap (λ l. cond (nat_eq m s) (Some v) None ∷ l) (known_numbers-append s vs more ms (omega arith))

known_here : (b : Bool) (v n : ℕ) → ◌≡◌ {A = Option (Option ℕ)} (Some (cond b (Some v) None)) (Some (Some n)) → (b ≡ true) × (v ≡ n)
known_here true v n e = (refl, cc)
known_here false v n e = cc

known_at : (s : ℕ) (vs ms : List ℕ) (k n : ℕ) → slice_get (known_numbers s vs ms) k ≡ Some (Some n) → (slice_index ms k ≡ s) × (slice_index vs k ≡ n)
known_at s vs [] k n e = cc
known_at s [] (m ∷ ms) k n e = cc
known_at s (v ∷ vs) (m ∷ ms) zero n e =
    let p = known_here (nat_eq m s) v n e in
    (eqb-true m s p.0, p.1)
known_at s (v ∷ vs) (m ∷ ms) (suc k) n e = known_at s vs ms k n e

known_is : (s : ℕ) (vs ms : List ℕ) (k : ℕ) → 1 ≤ s → length ms ≤ length vs → slice_index ms k ≡ s → slice_get (known_numbers s vs ms) k ≡ Some (Some (slice_index vs k))
known_is s vs [] k some h e = absurd (omega arith)
known_is s [] (m ∷ ms) k some h e = absurd (omega arith)
known_is s (v ∷ vs) (m ∷ ms) zero some h e = ap (λ b. Some (cond b (Some v) None)) (eq-eqb m s e)
known_is s (v ∷ vs) (m ∷ ms) (suc k) some h e = known_is s vs ms k some (omega arith) e

-- ---- the room's view, and what its marks say

pub known_of : (nodes : List Node) (r : Reading) (s clock : ℕ) (vs ms : List ℕ) → IsRoom s clock vs ms → IsFor nodes r (known_numbers s vs ms) → Known nodes r s vs ms
known_of nodes r s clock vs ms room is k e = is.known k (slice_index vs k) (known_is s vs ms k room.some room.each e)

pub size_of : (nodes : List Node) (r : Reading) (s clock : ℕ) (vs ms : List ℕ) → IsRoom s clock vs ms → IsFor nodes r (known_numbers s vs ms) → length ms ≡ length nodes
size_of nodes r s clock vs ms room is = sym (length-known_numbers s vs ms room.each) ∙ is.size

pub for_of : (nodes : List Node) (r : Reading) (s : ℕ) (vs ms : List ℕ) → length ms ≤ length vs → length ms ≡ length nodes → Known nodes r s vs ms → IsFor nodes r (known_numbers s vs ms)
for_of nodes r s vs ms each size known = record {
  size = length-known_numbers s vs ms each ∙ size;
  known = λ k n e. let p = known_at s vs ms k n e in sym p.1 ∙ known k p.0;
}

-- a number other than 0 stands within a list
within : (xs : List ℕ) (k s : ℕ) → 1 ≤ s → slice_index xs k ≡ s → k < length xs
within [] k s some e = absurd (omega arith)
within (x ∷ xs) zero s some e = omega arith
within (x ∷ xs) (suc k) s some e = let rest = within xs k s some e in omega (arith, rest)

-- ---- no number is known

pub new_for : (nodes : List Node) (r : Reading) (vs ms : List ℕ) (n : ℕ) → vs ≡ replicate n 0 → ms ≡ replicate n 0 → n ≡ length nodes → IsFor nodes r (known_numbers 1 vs ms)
new_for nodes r vs ms n numbers marks size =
    let many : length ms ≡ n = ap length marks ∙ length-replicate {A = ℕ} n 0 in
    for_of nodes r 1 vs ms (omega (arith, many, ap length numbers, length-replicate {A = ℕ} n 0)) (many ∙ size)
    (λ k e.
    let low : k < n = omega (arith, within ms k 1 (omega arith) e, many) in
    absurd (let zero_mark : slice_index ms k ≡ 0 = ap (λ l. slice_index l k) marks ∙ get_or-replicate n k 0 0 low in omega arith))

pub begun_for : (nodes : List Node) (r : Reading) (s : ℕ) (vs ms : List ℕ) → length ms ≤ length vs → length ms ≡ length nodes → IsFresh ms s → IsFor nodes r (known_numbers s vs ms)
begun_for nodes r s vs ms each size fresh = for_of nodes r s vs ms each size (λ k e. absurd (fresh k e))

-- ---- a list that changed

either_grows : (old new : List Node) (k : ℕ) (r : Reading) → (Grows old new) ⊎ (Grows new old) → k < length old → k < length new → value new k r ≡ value old k r
either_grows old new k r (inl g) h l = ap (λ ns. value ns k r) g.is ∙ value-grows old g.more k r h
either_grows old new k r (inr g) h l = sym (ap (λ ns. value ns k r) g.is ∙ value-grows new g.more k r l)

-- the marks at another length, and the numbers at no shorter one
pub record Resized (vs ms vs' ms' : List ℕ) (len : ℕ) : Type 0 where
  pub each : length ms ≤ length vs
  pub each' : length ms' ≤ length vs'
  pub size : length ms' ≡ len
  pub marks : (k d : ℕ) → k < len → k < length ms → get_or ms' k d ≡ get_or ms k d
  pub none : (k d : ℕ) → length ms ≤ k → k < len → get_or ms' k d ≡ 0
  pub numbers : (k d : ℕ) → k < length vs → get_or vs' k d ≡ get_or vs k d

pub resized_for : (old new : List Node) (r : Reading) (s : ℕ) (vs ms vs' ms' : List ℕ) → 1 ≤ s → Resized vs ms vs' ms' (length new) → (Grows old new) ⊎ (Grows new old) → IsFor old r (known_numbers s vs ms) → IsFor new r (known_numbers s vs' ms')
resized_for old new r s vs ms vs' ms' some re g is = for_of new r s vs' ms' re.each' re.size (λ k e. known k e (cases_lt k (length ms)))
  where
    known : (k : ℕ) → slice_index ms' k ≡ s → (k < length ms) ⊎ (length ms ≤ k) → slice_index vs' k ≡ value new k r
    known k e (inl low) =
        let here : k < length new = omega (arith, within ms' k s some e, re.size) in
        let mark : slice_index ms k ≡ s = sym (re.marks k 0 here low) ∙ e in
        let size : length ms ≡ length old = sym (length-known_numbers s vs ms re.each) ∙ is.size in
        re.numbers k 0 (omega (arith, low, re.each)) ∙ is.known k (slice_index vs k) (known_is s vs ms k some re.each mark)
        ∙ sym (either_grows old new k r g (omega (arith, low, size)) here)
    known k e (inr high) =
        let here : k < length new = omega (arith, within ms' k s some e, re.size) in
        absurd (let zero_mark = re.none k 0 high here in omega arith)

-- the elements of a vector that were lent as a slice
pub lent_for : (nodes : List Node) (r : Reading) (s : ℕ) (vs ms vs' ms' : List ℕ) → vs' ≡ vs → ms' ≡ ms → IsFor nodes r (known_numbers s vs ms) → IsFor nodes r (known_numbers s vs' ms')
lent_for nodes r s vs ms vs' ms' numbers marks is =
    subst (λ l. IsFor nodes r (known_numbers s l ms')) (sym numbers) (subst (λ l. IsFor nodes r (known_numbers s vs l)) (sym marks) is)

pub resized_same : (s : ℕ) (vs ms vs' ms' : List ℕ) (n m : ℕ) → length ms ≤ length vs → length vs ≤ n → vs' ≡ take n vs ++ replicate m 0 → ms' ≡ ms → known_numbers s vs' ms' ≡ known_numbers s vs ms
resized_same s vs ms vs' ms' n m each wide numbers marks =
    (λ i. known_numbers s (numbers i) (marks i)) ∙ ap (λ l. known_numbers s (l ++ replicate m 0) ms) (take_all n vs wide)
    ∙ known_numbers-append s vs (replicate m 0) ms each

-- what holds whatever a call answers
pub on_err : {T E P : Type 0} (r : Result T E) → P → OnErr r P
on_err (Ok x) p = tt
on_err (Err e) p = p
