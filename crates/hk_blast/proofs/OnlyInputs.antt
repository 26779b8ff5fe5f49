-- Fresh variables are made for the bits of inputs alone: there are no more variables that no gate fixes than these bits.
use Rattle.std.proofs.Common.{◌≡◌, ◌⊎◌, inl, inr, ℕ, zero, suc, ◌+◌, ◌<◌, ◌≤◌, Bool, true, false, ◌||◌, cond, eqb, List, [], ◌∷◌, ◌++◌, length, map, reverse, ℤ, refl, sym, ◌∙◌, ap, subst, arith}
use Rattle.std.specs.Prelude.{slice_get, Some}
use Rattle.std.specs.List.{All, Contains}
use Rattle.std.proofs.Math.Seq.{get_or-append_seam, take-append_seam}
use Rattle.std.proofs.lemmas.Bool.{cases_lt, cases_eq, eq-eqb, ne_eqb}
use Rattle.std.proofs.lemmas.Option.{slice_get-get_or}
use Rattle.std.proofs.lemmas.List.{append_assoc, append-nil, length-append, length-reverse}
use Rattle.std.proofs.lemmas.List.Elements.{All-head, All-tail, Contains-append_right}
use Rattle.std.proofs.lemmas.Grind.{flat_map-append}
use Rattle.hk_term.specs.declared.node.Node.{Node}
use Rattle.hk_cnf.specs.Literal.{place_of}
use Rattle.hk_cnf.specs.Circuit.{Gate, Circuit, gate_value, variable}
use Rattle.hk_cnf.specs.CircuitParts.{InOrder, IsCircuit}
use Rattle.hk_cnf.specs.CircuitGrowth.{inputs_of}
use Rattle.hk_cnf.specs.Determined.{is_output}
use Rattle.hk_cnf.proofs.Determination.{is_output-later, is_output-reverse}
use Rattle.hk_cnf.proofs.Running.{place_of-variable}
use Rattle.hk_cnf.proofs.Unfixed.{unfixed, unfixed-value}
use Rattle.hk_blast.specs.Blasted.{Words, is_input_at, places_of, input_places, variables_from, Lengthens, IsFree, IsBlasted, AreBlasted, AddsInputs}
use Rattle.hk_blast.proofs.WordLists.{places-push, is_input-at}
use Rattle.hk_blast.proofs.BlastedLaws.{places-each}
use Rattle.hk_blast.proofs.Unfixed.{inputs-unfixed}

-- how many numbers below n fail the test
abbrev failing : (ℕ → Bool) → ℕ → ℕ
failing f zero = 0
failing f (suc n) = failing f n + cond (f n) 0 1

at-most : (b : Bool) → cond b 0 1 ≤ 1
at-most true = omega arith
at-most false = omega arith

failing-next : (f : ℕ → Bool) (n : ℕ) → f n ≡ false → failing f (suc n) ≡ failing f n + 1
failing-next f n e = ap (λ b. failing f n + cond b 0 1) e

failing-le : (f : ℕ → Bool) (m n : ℕ) → m ≤ n → failing f m ≤ failing f n
failing-le f m zero l = let e : m ≡ 0 = omega (arith, l) in omega (arith, ap (failing f) e)
failing-le f m (suc n) l = pick (cases_lt m (suc n)) (λ b. failing-le f m n b)
  where
    pick : (m < suc n) ⊎ (suc n ≤ m) → (m ≤ n → failing f m ≤ failing f n) → failing f m ≤ failing f (suc n)
    pick (inl b) go = omega (arith, go (omega (arith, b)))
    pick (inr b) go = let e : m ≡ suc n = omega (arith, l, b) in omega (arith, ap (failing f) e)

-- what fails the one test fails the other
failing-more : (f g : ℕ → Bool) (n : ℕ) → ((q : ℕ) → q < n → f q ≡ false → g q ≡ false) → failing f n ≤ failing g n
failing-more f g zero h = omega arith
failing-more f g (suc n) h = omega (arith, failing-more f g n (λ q b e. h q (omega (arith, b)) e), own (f n) refl)
  where
    own : (b : Bool) → f n ≡ b → cond (f n) 0 1 ≤ cond (g n) 0 1
    own true e = omega (arith, ap {B = ℕ} (λ b. cond b 0 1) e)
    own false e = omega (arith, at-most (f n), ap {B = ℕ} (λ b. cond b 0 1) (h n (omega arith) e))

-- one more number passes
failing-before : (f : ℕ → Bool) (o n : ℕ) → n ≤ o → failing (λ q. eqb q o || f q) n ≡ failing f n
failing-before f o zero l = refl
failing-before f o (suc n) l = omega (
  arith,
  failing-before f o n (omega (arith, l)),
  ap {B = ℕ} (λ b. cond (b || f n) 0 1) (ne_eqb n o (λ e. absurd (omega (arith, e, l)))),
)

failing-behind : (f : ℕ → Bool) (o n : ℕ) → f o ≡ false → o < n → failing (λ q. eqb q o || f q) n + 1 ≡ failing f n
failing-behind f o zero e l = absurd (omega (arith, l))
failing-behind f o (suc n) e l = pick (cases_lt o n) (λ b. failing-behind f o n e b)
  where
    pick : (o < n) ⊎ (n ≤ o) → (o < n → failing (λ q. eqb q o || f q) n + 1 ≡ failing f n) → failing (λ q. eqb q o || f q) (suc n) + 1 ≡ failing f (suc n)
    pick (inl b) go = omega (arith, go b, ap {B = ℕ} (λ x. cond (x || f n) 0 1) (ne_eqb n o (λ k. absurd (omega (arith, k, b)))))
    pick (inr b) go =
        let k : n ≡ o = omega (arith, l, b) in
        omega (arith, failing-before f o n b, ap {B = ℕ} (λ x. cond (x || f n) 0 1) (eq-eqb n o k), ap {B = ℕ} (λ x. cond x 0 1) (ap f k ∙ e))

-- each gate fixes a variable of its own
outputs : (gs : List Gate) (n m : ℕ) → InOrder n gs → n ≤ m → failing (is_output gs) m + length gs ≡ m
outputs [] n m o l = none m
  where
    none : (m : ℕ) → failing (is_output []) m + 0 ≡ m
    none zero = refl
    none (suc m) = omega (arith, none m)
outputs (g ∷ gs) n m o l =
    omega (
      arith,
      outputs gs g.1.output m o.2 (omega (arith, o.0, l)),
      failing-behind (is_output gs) g.1.output m (is_output-later gs g.1.output g.1.output o.2 (omega arith)) (omega (arith, o.0, l)),
    )

unfixed-count : (c : Circuit) → IsCircuit c → failing (is_output c.gates) c.vars + length c.gates ≡ c.vars
unfixed-count c h = omega (arith, outputs (reverse c.gates) c.vars c.vars h.in_order (omega arith), ap (λ f. failing f c.vars) same, length-reverse c.gates)
  where
    same : is_output (reverse c.gates) ≡ is_output c.gates
    same = λ i q. is_output-reverse c.gates q i

-- from a number on, each larger than the one before
abbrev Rise : ℕ → List ℕ → Type 0
Rise m [] = Unit {0}
Rise m (x ∷ xs) = (m ≤ x) × Rise (suc x) xs

rise-from : (m n : ℕ) (xs : List ℕ) → m ≤ n → Rise n xs → Rise m xs
rise-from m n [] l h = tt
rise-from m n (x ∷ xs) l h = (omega (arith, l, h.0), h.1)

rise-join : (m n : ℕ) (xs ys : List ℕ) → m ≤ n → Rise m xs → All (λ p. p < n) xs → Rise n ys → Rise m (xs ++ ys)
rise-join m n [] ys l h a k = rise-from m n ys l k
rise-join m n (x ∷ xs) ys l h a k = (h.0, rise-join (suc x) n xs ys (All-head (λ p. p < n) x xs a) h.1 (All-tail (λ p. p < n) x xs a) k)

rise-rest : (m n : ℕ) (xs ys : List ℕ) → Rise m (xs ++ ys) → All (λ p. n ≤ p) ys → Rise n ys
rise-rest m n [] [] h a = tt
rise-rest m n [] (y ∷ ys) h a = (All-head (λ p. n ≤ p) y ys a, h.1)
rise-rest m n (x ∷ xs) ys h a = rise-rest (suc x) n xs ys h.1 a

all-rest : (P : ℕ → Type 0) (xs ys : List ℕ) → All P (xs ++ ys) → All P ys
all-rest P [] ys h = h
all-rest P (x ∷ xs) ys h = all-rest P xs ys (All-tail P x (xs ++ ys) h)

-- numbers that fail the test leave room for as many
room : (f : ℕ → Bool) (m n : ℕ) (xs : List ℕ) → m ≤ n → Rise m xs → All (λ p. p < n) xs → All (λ p. f p ≡ false) xs → failing f m + length xs ≤ failing f n
room f m n [] l h b e = omega (arith, failing-le f m n l)
room f m n (x ∷ xs) l h b e =
    omega (
      arith,
      failing-le f m x h.0,
      failing-next f x (All-head (λ p. f p ≡ false) x xs e),
      room f (suc x) n xs (All-head (λ p. p < n) x xs b) h.1 (All-tail (λ p. p < n) x xs b) (All-tail (λ p. f p ≡ false) x xs e),
    )

-- one more number that fails the test is among them, or there is room for it too
among : (f : ℕ → Bool) (p m n : ℕ) (xs : List ℕ) → m ≤ p → p < n → f p ≡ false → Rise m xs → All (λ p. p < n) xs → All (λ p. f p ≡ false) xs → (Contains xs p) ⊎ (failing f m + length xs + 1 ≤ failing f n)
among f p m n [] l u k h b e = inr (omega (arith, failing-le f m p l, failing-next f p k, failing-le f (suc p) n u))
among f p m n (x ∷ xs) l u k h b e =
    pick (cases_lt p x) (cases_eq p x) (λ c. among f p (suc x) n xs c u k h.1 (All-tail (λ p. p < n) x xs b) (All-tail (λ p. f p ≡ false) x xs e))
  where
    after : (Contains xs p) ⊎ (failing f (suc x) + length xs + 1 ≤ failing f n) → (Contains (x ∷ xs) p) ⊎ (failing f m + length (x ∷ xs) + 1 ≤ failing f n)
    after (inl c) = inl (Contains-append_right (x ∷ []) xs p c)
    after (inr c) = inr (omega (arith, failing-le f m x h.0, failing-next f x (All-head (λ p. f p ≡ false) x xs e), c))

    pick : (p < x) ⊎ (x ≤ p) → (p ≡ x) ⊎ (p ≡ x → ⊥) → (suc x ≤ p → (Contains xs p) ⊎ (failing f (suc x) + length xs + 1 ≤ failing f n)) → (Contains (x ∷ xs) p) ⊎ (failing f m + length (x ∷ xs) + 1 ≤ failing f n)
    pick (inl c) s go = inr (omega (arith, failing-le f m p l, failing-next f p k, room f (suc p) n (x ∷ xs) u (c, h.1) b e))
    pick (inr c) (inl s) go = inl (0, omega arith, sym s)
    pick (inr c) (inr s) go = after (go (above (cases_lt x p)))
      where
        above : (x < p) ⊎ (p ≤ x) → suc x ≤ p
        above (inl d) = d
        above (inr d) = absurd (s (omega (arith, c, d)))

rise-variables : (s n : ℕ) → Rise s (map place_of (variables_from s n))
rise-variables s zero = tt
rise-variables s (suc n) =
    (omega (arith, place_of-variable s), subst (λ x. Rise (suc x) (map place_of (variables_from (suc s) n))) (sym (place_of-variable s)) (rise-variables (suc s) n))

-- each input's bits are later than those of all inputs before it
places-rise : (nodes : List Node) (c : Circuit) (front more : Words) → AreBlasted nodes c (front ++ more) → Rise 0 (input_places nodes front) → Rise 0 (input_places nodes (front ++ more))
places-rise nodes c front [] h r = subst (λ xs. Rise 0 (input_places nodes xs)) (sym (append-nil front)) r
places-rise nodes c front (e ∷ more) h r =
    subst (λ xs. Rise 0 (input_places nodes xs)) (append_assoc front (e ∷ []) more)
    (places-rise nodes c (front ++ e ∷ []) more (subst (AreBlasted nodes c) (sym (append_assoc front (e ∷ []) more)) h)
    (subst (Rise 0) (sym (places-push nodes front e)) (next (is_input_at nodes e.0) refl)))
  where
    at : slice_get (front ++ e ∷ more) (length front) ≡ Some e
    at = slice_get-get_or (front ++ e ∷ more) (length front) e (omega (arith, length-append front (e ∷ more))) ∙ ap Some (get_or-append_seam front e more e)

    row : IsBlasted nodes c front e.0 e.1
    row = subst (λ before. IsBlasted nodes c before e.0 e.1) (take-append_seam front (e ∷ more)) (h (length front) e at)

    own : is_input_at nodes e.0 ≡ true → Rise 0 (input_places nodes front ++ map place_of e.1)
    own b =
        let free : IsFree nodes c front e.1 = row.free (sym (is_input-at nodes e.0 row.node row.at) ∙ b) in
        rise-join 0 free.start (input_places nodes front) (map place_of e.1) (omega arith) r free.later
        (subst (λ ls. Rise free.start (map place_of ls)) (sym free.is) (rise-variables free.start (length e.1)))

    next : (b : Bool) → is_input_at nodes e.0 ≡ b → Rise 0 (input_places nodes front ++ places_of nodes e)
    next true b = subst (λ x. Rise 0 (input_places nodes front ++ cond x (map place_of e.1) [])) (sym b) (own b)
    next false b =
        subst (λ x. Rise 0 (input_places nodes front ++ cond x (map place_of e.1) [])) (sym b) (subst (Rise 0) (sym (append-nil (input_places nodes front))) r)

-- the second circuit has the first one's variables that no gate fixes, and as many more as the new inputs have bits: it has no others
pub only-inputs : (nodes : List Node) (c d : Circuit) (old new : Words) → IsCircuit c → IsCircuit d → ((l : ℤ) → place_of l < c.vars → (v : ℕ → Bool) → gate_value d l v ≡ gate_value c l v)
    → AreBlasted nodes d new → Lengthens nodes c.vars old new → AddsInputs nodes c d old new
    → (p : ℕ) → c.vars ≤ p → p < d.vars → is_output d.gates p ≡ false → Contains (input_places nodes new) p
unfolding inputs_of
only-inputs nodes c d old new hc hd same h adds counts p l u e = pick (among f p c.vars d.vars more l u e rises below free)
  where
    f : ℕ → Bool
    f = is_output d.gates

    more : List ℕ
    more = input_places nodes adds.more

    split : input_places nodes new ≡ input_places nodes old ++ more
    split = ap (input_places nodes) adds.is ∙ flat_map-append (places_of nodes) old adds.more

    rises : Rise c.vars more
    rises = rise-rest 0 c.vars (input_places nodes old) more (subst (Rise 0) split (places-rise nodes d [] new h tt)) adds.fresh

    behind : (P : ℕ → Type 0) → All P (input_places nodes new) → All P more
    behind P a = all-rest P (input_places nodes old) more (subst (All P) split a)

    below : All (λ q. q < d.vars) more
    below = behind (λ q. q < d.vars) (places-each nodes d new (λ q. q < d.vars) h (λ q b _. b))

    free : All (λ q. f q ≡ false) more
    free = behind (λ q. f q ≡ false) (inputs-unfixed nodes d new hd h)

    stays : (q : ℕ) → q < c.vars → is_output c.gates q ≡ false → is_output d.gates q ≡ false
    stays q b k = unfixed d q hd (λ v. same (variable q) (subst (λ x. x < c.vars) (sym (place_of-variable q)) b) v ∙ unfixed-value c q k v)

    pick : (Contains more p) ⊎ (failing f c.vars + length more + 1 ≤ failing f d.vars) → Contains (input_places nodes new) p
    pick (inl k) = subst (λ xs. Contains xs p) (sym split) (Contains-append_right (input_places nodes old) more p k)
    pick (inr k) =
        absurd (omega (
          arith,
          k,
          counts,
          ap length split,
          length-append (input_places nodes old) more,
          unfixed-count c hc,
          unfixed-count d hd,
          failing-more (is_output c.gates) f c.vars stays,
        ))
