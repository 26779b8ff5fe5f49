-- All tuples of bound variables are all index tuples, and what suits goes on to suit under each.
use Rattle.std.proofs.Common.{◌≡◌, ◌<◌, ◌≤◌, ◌+◌, ◌++◌, ◌&&◌, ℕ, zero, suc, Bool, true, false, List, [], ◌∷◌, length, map, refl, sym, ap, subst, ◌∙◌, arith, All, nat_eq, length-append}
use Rattle.std.specs.Prelude.{not, ◌||◌}
use Rattle.std.specs.List.{list_all, list_any, flat_map}
use Rattle.std.proofs.lemmas.List.Elements.{All-head, All-tail}
use Rattle.std.proofs.lemmas.Bool.Decides.{nat_tests}
use Rattle.hk_term.specs.Meaning as term
use Rattle.hk_term.specs.Meaning.{Reading, with_var, every_below, every_tuple}
use Rattle.hk_term.specs.declared.node.Node.{Node}
use Rattle.spec_tree.specs.Plain.{Tree}
use Rattle.spec_tree.specs.Sorted.{Context, with_bounds}
use Rattle.spec_tree.specs.Value.{Env, below, tuples, binding, holds, value}
use Rattle.spec_tree.specs.Shapes.{AreBelow}
use Rattle.spec_tree.proofs.Entries.{all_below}
use Rattle.hk_symexpr.specs.Sources.{Source, Agrees}
use Rattle.hk_symexpr.specs.Scope.{Scope, entered}
use Rattle.hk_symexpr.specs.Naming.{Suits, bounds_at, bounds_from, variables_from}
use Rattle.hk_symexpr.specs.Made.{IsTermOf}

-- ---- lists

and_true : (b : Bool) → (b && true) ≡ b
and_true true = refl
and_true false = refl

and_assoc : (a b c : Bool) → ((a && b) && c) ≡ (a && (b && c))
and_assoc true b c = refl
and_assoc false b c = refl

all_append : {X : Type 0} (p : X → Bool) (xs ys : List X) → list_all p (xs ++ ys) ≡ (list_all p xs && list_all p ys)
all_append p [] ys = refl
all_append p (x ∷ xs) ys = ap (λ b. p x && b) (all_append p xs ys) ∙ sym (and_assoc (p x) (list_all p xs) (list_all p ys))

all_map : {X Y : Type 0} (p : Y → Bool) (f : X → Y) (xs : List X) → list_all p (map f xs) ≡ list_all (λ x. p (f x)) xs
all_map p f [] = refl
all_map p f (x ∷ xs) = ap (λ b. p (f x) && b) (all_map p f xs)

all_flat : {X Y : Type 0} (p : Y → Bool) (f : X → List Y) (xs : List X) → list_all p (flat_map f xs) ≡ list_all (λ x. list_all p (f x)) xs
all_flat p f [] = refl
all_flat p f (x ∷ xs) = all_append p (f x) (flat_map f xs) ∙ ap (λ b. list_all p (f x) && b) (all_flat p f xs)

pub all_same : {X : Type 0} (P : X → Type 0) (p q : X → Bool) → ((x : X) → P x → p x ≡ q x) → (xs : List X) → All P xs → list_all p xs ≡ list_all q xs
all_same P p q same [] h = refl
all_same P p q same (x ∷ xs) h =
    ap (λ b. b && list_all p xs) (same x (All-head P x xs h)) ∙ ap (λ b. q x && b) (all_same P p q same xs (All-tail P x xs h))

one_any : (b a s : Bool) → not a ≡ s → not (not b && a) ≡ (b || s)
one_any true a s h = refl
one_any false a s h = h

pub none_any : {X : Type 0} (p : X → Bool) (xs : List X) → not (list_all (λ x. not (p x)) xs) ≡ list_any p xs
none_any p [] = refl
none_any p (x ∷ xs) = one_any (p x) (list_all (λ y. not (p y)) xs) (list_any p xs) (none_any p xs)

-- ---- tuples

-- these numbers for the variables from one on
abbrev pub with_vars : Reading → ℕ → List ℕ → Reading
with_vars v id [] = v
with_vars v id (n ∷ ns) = with_vars (with_var v id n) (id + 1) ns

every_below_is : (n : ℕ) (p : ℕ → Bool) → every_below n p ≡ list_all p (below n)
every_below_is zero p = refl
every_below_is (suc n) p = ap (λ b. b && p n) (every_below_is n p) ∙ sym (all_append p (below n) (n ∷ []) ∙ ap (λ b. list_all p (below n) && b) (and_true (p n)))

pub every_tuple_is : (id : ℕ) (sizes : List ℕ) (p : Reading → Bool) (v : Reading) → every_tuple (bounds_from id sizes) p v ≡ list_all (λ t. p (with_vars v id t)) (tuples sizes)
every_tuple_is id [] p v = sym (and_true (p v))
every_tuple_is id (n ∷ ns) p v =
    (λ i. every_below n (λ k. every_tuple_is (id + 1) ns p (with_var v id k) i))
    ∙ every_below_is n (λ k. list_all (λ t. p (with_vars (with_var v id k) (id + 1) t)) (tuples ns))
    ∙ sym (all_flat (λ t. p (with_vars v id t)) (λ i. map (λ t. i ∷ t) (tuples ns)) (below n)
    ∙ (λ j. list_all (λ k. all_map (λ t. p (with_vars v id t)) (λ t. k ∷ t) (tuples ns) j) (below n)))

with_vars_entry : (v : Reading) (id : ℕ) (t : List ℕ) → (with_vars v id t).entry ≡ v.entry
with_vars_entry v id [] = refl
with_vars_entry v id (n ∷ ns) = with_vars_entry (with_var v id n) (id + 1) ns

other_var : (v : Reading) (id n j : ℕ) → j < id → (with_var v id n).var j ≡ v.var j
other_var v id n j low = grind (arith, nat_tests)

same_var : (v : Reading) (id n : ℕ) → (with_var v id n).var id ≡ n
same_var v id n = grind (arith, nat_tests)

with_vars_low : (v : Reading) (id : ℕ) (t : List ℕ) (j : ℕ) → j < id → (with_vars v id t).var j ≡ v.var j
with_vars_low v id [] j low = refl
with_vars_low v id (n ∷ ns) j low = with_vars_low (with_var v id n) (id + 1) ns j (omega (arith, low)) ∙ other_var v id n j low

pub with_vars_agree : (v : Reading) (id : ℕ) (t : List ℕ) → Agrees id v (with_vars v id t)
with_vars_agree v id t = record { entry = with_vars_entry v id t; var = with_vars_low v id t }

pub variables_are : (sizes t : List ℕ) → AreBelow sizes t → (id : ℕ) (v : Reading) → variables_from id sizes (with_vars v id t) ≡ t
variables_are [] t h id v = sym h
variables_are (n ∷ ns) [] h id v = absurd h
variables_are (n ∷ ns) (k ∷ ks) h id v =
    λ i. (with_vars_low (with_var v id k) (id + 1) ks id (omega arith) ∙ same_var v id k) i ∷ variables_are ns ks h.1 (id + 1) (with_var v id k) i

pub variables_agree : (sizes : List ℕ) (id limit : ℕ) (v u : Reading) → id + length sizes ≤ limit → Agrees limit v u → variables_from id sizes u ≡ variables_from id sizes v
variables_agree [] id limit v u h a = refl
variables_agree (n ∷ ns) id limit v u h a = λ i. a.var id (omega (arith, h)) i ∷ variables_agree ns (id + 1) limit v u (omega (arith, h)) a i

shifted : (a b : ℕ) → a + 1 + b ≡ a + suc b
shifted a b = omega arith

bounds_more : (nodes : List Node) (keys : List ℕ) (id : ℕ) (sizes more : List ℕ) (v : Reading) → length keys ≤ length sizes → bounds_at nodes keys id (sizes ++ more) v ≡ bounds_at nodes keys id sizes v ++ variables_from (id + length sizes) more v
bounds_more nodes [] id [] more v h = ap (λ q. variables_from q more v) (sym (omega arith))
bounds_more nodes [] id (n ∷ ns) more v h =
    ap (λ l. v.var id ∷ l) (bounds_more nodes [] (id + 1) ns more v (omega arith) ∙ ap (λ q. variables_from (id + 1) ns v ++ variables_from q more v) (shifted id (length ns)))
bounds_more nodes (k ∷ ks) id [] more v h = absurd (omega (arith, h))
bounds_more nodes (k ∷ ks) id (n ∷ ns) more v h =
    ap (λ l. term.value nodes k v ∷ l) (bounds_more nodes ks (id + 1) ns more v (omega (arith, h)) ∙ ap (λ q. bounds_at nodes ks (id + 1) ns v ++ variables_from q more v) (shifted id (length ns)))

below_more : (sizes t more u : List ℕ) → AreBelow sizes t → AreBelow more u → AreBelow (sizes ++ more) (t ++ u)
below_more [] t more u h g = subst (λ l. AreBelow more (l ++ u)) (sym h) g
below_more (n ∷ ns) [] more u h g = absurd h
below_more (n ∷ ns) (k ∷ ks) more u h g = (h.0, below_more ns ks more u h.1 g)

-- behind the variables of a quantifier, with numbers below their sizes
pub suits_entered : (source : Reading → Source) (c : Context) (nodes : List Node) (s : Scope) (v : Reading) (env : Env) (sizes t : List ℕ) → length s.keys ≤ length s.sizes → AreBelow sizes t → Suits source c nodes s v env
    → Suits source (with_bounds c sizes) nodes (entered s sizes) (with_vars v (s.base + length s.sizes) t) (binding env t)
suits_entered source c nodes s v env sizes t keys each h =
    let first : ℕ = s.base + length s.sizes in
    λ u a.
    let less : s.base + length s.sizes ≤ s.base + length (s.sizes ++ sizes) = omega (arith, length-append s.sizes sizes) in
    let more : first + length sizes ≤ s.base + length (s.sizes ++ sizes) = omega (arith, length-append s.sizes sizes) in
    let w = with_vars v first t in
    let b = with_vars_agree v first t in
    let here : Agrees first v u = record { entry = a.entry ∙ b.entry; var = λ id low. a.var id (omega (arith, low, less)) ∙ b.var id low } in
    let r = h u here in
    record {
      read = r.read;
      memory = r.memory;
      args = r.args;
      locals = r.locals;
      bounds =
          ap (λ l. l ++ t) r.bounds
          ∙ ap (λ l. bounds_at nodes s.keys s.base s.sizes u ++ l) (sym (variables_agree sizes first (s.base + length (s.sizes ++ sizes)) w u more a ∙ variables_are sizes t each first v))
          ∙ sym (bounds_more nodes s.keys s.base s.sizes sizes u keys);
      below = below_more s.sizes env.bounds sizes t r.below each;
      known = r.known;
    }

truth_is : (n : ℕ) → n < 2 → nat_eq n 1 ≡ holds n
truth_is zero h = refl
truth_is (suc zero) h = refl
truth_is (suc (suc n)) h = absurd (omega (arith, h))

-- the truths of a body under the tuples of its variables
pub every_is : (source : Reading → Source) (c : Context) (old : List Node) (s : Scope) (new : List Node) (body : ℕ) (sizes : List ℕ) (e : Tree) → length s.keys ≤ length s.sizes → ((v : Reading) → term.value new body v < 2)
    → IsTermOf source (with_bounds c sizes) old (entered s sizes) new body e → (v : Reading) (env : Env) → Suits source c old s v env
    → every_tuple (bounds_from (s.base + length s.sizes) sizes) (λ u. nat_eq (term.value new body u) 1) v ≡ list_all (λ t. holds (value (with_bounds c sizes) (binding env t) e)) (tuples sizes)
every_is source c old s new body sizes e keys small h v env suits =
    let first : ℕ = s.base + length s.sizes in
    every_tuple_is first sizes (λ u. nat_eq (term.value new body u) 1) v
    ∙ all_same (AreBelow sizes) (λ t. nat_eq (term.value new body (with_vars v first t)) 1) (λ t. holds (value (with_bounds c sizes) (binding env t) e))
    (λ t each. truth_is (term.value new body (with_vars v first t)) (small (with_vars v first t))
    ∙ ap holds (h.value_is (with_vars v first t) (binding env t) (suits_entered source c old s v env sizes t keys each suits)))
    (tuples sizes) (all_below sizes)
