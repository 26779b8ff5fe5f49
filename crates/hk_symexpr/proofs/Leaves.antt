-- The terms of names and variables.
use Rattle.std.proofs.Common.{◌≡◌, ◌<◌, ◌≤◌, ◌+◌, ◌-◌, ◌%◌, ◌^◌, ℕ, zero, suc, List, [], ◌∷◌, Some, length, map, refl, sym, ap, subst, ◌∙◌, arith, All, get_or, mod-eq_of_lt}
use Rattle.std.specs.Prelude.{slice_get, slice_index}
use Rattle.std.proofs.lemmas.List.{get_or-map}
use Rattle.std.proofs.Math.Nat.{pow-le-pow_right}
use Rattle.hk_term.specs.Shape.{width}
use Rattle.hk_term.specs.Meaning as term
use Rattle.hk_term.specs.Meaning.{Reading}
use Rattle.hk_term.specs.declared.node.Node.{Node}
use Rattle.spec_tree.specs.Plain.{Tree, argument, local, bound}
use Rattle.spec_tree.specs.Sorted.{Context}
use Rattle.spec_tree.specs.Value.{Env, value}
use Rattle.spec_tree.specs.Shapes.{AreBelow}
use Rattle.hk_symexpr.specs.Sources.{Source, Keeps}
use Rattle.hk_symexpr.specs.Scope.{Scope}
use Rattle.hk_symexpr.specs.Naming.{IsNamed, AreNames, Suits, bounds_at, variables_from, context_of, name_values, AreLimited}
use Rattle.hk_symexpr.specs.Made.{IsTermOf}
use Rattle.hk_symexpr.specs.declared.names.NamedTerm.{NamedTerm}
use Rattle.hk_symexpr.proofs.Suiting.{read_here, limits_kept}

no_name : NamedTerm
no_name = record { term = 0; width = 0 }

value_at : (nodes : List Node) (names : List NamedTerm) (k r : ℕ) (v : Reading) → k < length names → ((d : NamedTerm) → r ≡ (get_or names k d).term) → term.value nodes r v ≡ slice_index (name_values nodes names v) k
value_at nodes names k r v low is = ap (λ q. term.value nodes q v) (is no_name) ∙ sym (get_or-map (λ (a : NamedTerm). term.value nodes a.term v) names k no_name 0 low)

width_at : (nodes : List Node) (names : List NamedTerm) (k r : ℕ) → All (IsNamed nodes) names → k < length names → ((d : NamedTerm) → r ≡ (get_or names k d).term) → width nodes r ≡ slice_index (map (λ a. a.width) names) k
width_at nodes names k r h low is =
    ap (λ q. width nodes q) (is no_name) ∙ (h k no_name low).width_is ∙ sym (get_or-map (λ (a : NamedTerm). a.width) names k no_name 0 low)

within_at : (nodes : List Node) (names : List NamedTerm) (k r : ℕ) → All (IsNamed nodes) names → k < length names → ((d : NamedTerm) → r ≡ (get_or names k d).term) → r < length nodes
within_at nodes names k r h low is = subst (λ q. q < length nodes) (sym (is no_name)) (h k no_name low).within

pub argument_is : (nodes : List Node) (s : Scope) (k r : ℕ) → AreNames nodes s → k < length s.args → ((d : NamedTerm) → r ≡ (get_or s.args k d).term) → (source : Reading → Source) (c : Context) → IsTermOf source (context_of c s) nodes s nodes r (argument k)
argument_is nodes s k r h low is source c =
    record {
      within = within_at nodes s.args k r h.args low is;
      width_is = width_at nodes s.args k r h.args low is;
      value_is = λ v env suits. value_at nodes s.args k r v low is ∙ ap (λ l. slice_index l k) (sym (read_here source (context_of c s) nodes s v env suits).args);
    }

pub local_is : (nodes : List Node) (s : Scope) (k r : ℕ) → AreNames nodes s → k < length s.locals → ((d : NamedTerm) → r ≡ (get_or s.locals k d).term) → (source : Reading → Source) (c : Context) → IsTermOf source (context_of c s) nodes s nodes r (local k)
local_is nodes s k r h low is source c =
    record {
      within = within_at nodes s.locals k r h.locals low is;
      width_is = width_at nodes s.locals k r h.locals low is;
      value_is = λ v env suits. value_at nodes s.locals k r v low is ∙ ap (λ l. slice_index l k) (sym (read_here source (context_of c s) nodes s v env suits).locals);
    }

-- ---- variables

key_at : (nodes : List Node) (keys : List ℕ) (id : ℕ) (sizes : List ℕ) (v : Reading) (k : ℕ) → k < length keys → length keys ≤ length sizes → slice_index (bounds_at nodes keys id sizes v) k ≡ term.value nodes (get_or keys k 0) v
key_at nodes [] id sizes v k low few = absurd (omega (arith, low))
key_at nodes (a ∷ keys) id [] v k low few = absurd (omega (arith, few))
key_at nodes (a ∷ keys) id (n ∷ ns) v zero low few = refl
key_at nodes (a ∷ keys) id (n ∷ ns) v (suc k) low few = key_at nodes keys (id + 1) ns v k (omega (arith, low)) (omega (arith, few))

free_at : (id : ℕ) (sizes : List ℕ) (v : Reading) (k : ℕ) → k < length sizes → slice_index (variables_from id sizes v) k ≡ v.var (id + k)
free_at id [] v k low = absurd (omega (arith, low))
free_at id (n ∷ ns) v zero low = let e : id ≡ id + 0 = omega arith in ap v.var e
free_at id (n ∷ ns) v (suc k) low = let e : id + 1 + k ≡ id + suc k = omega arith in free_at (id + 1) ns v k (omega (arith, low)) ∙ ap v.var e

variable_at : (nodes : List Node) (keys : List ℕ) (id : ℕ) (sizes : List ℕ) (v : Reading) (k : ℕ) → length keys ≤ k → k < length sizes → slice_index (bounds_at nodes keys id sizes v) k ≡ v.var (id + k)
variable_at nodes [] id sizes v k high low = free_at id sizes v k low
variable_at nodes (a ∷ keys) id [] v k high low = absurd (omega (arith, low))
variable_at nodes (a ∷ keys) id (n ∷ ns) v zero high low = absurd (omega (arith, high))
variable_at nodes (a ∷ keys) id (n ∷ ns) v (suc k) high low =
    let e : id + 1 + k ≡ id + suc k = omega arith in variable_at nodes keys (id + 1) ns v k (omega (arith, high)) (omega (arith, low)) ∙ ap v.var e

pub below_at : (sizes is : List ℕ) (k n : ℕ) → AreBelow sizes is → slice_get sizes k ≡ Some n → slice_index is k < n
below_at [] is k n h g = cc
below_at (m ∷ ms) [] k n h g = absurd h
below_at (m ∷ ms) (i ∷ is) zero n h g = let e : m ≡ n = cc in subst (λ q. i < q) e h.0
below_at (m ∷ ms) (i ∷ is) (suc k) n h g = below_at ms is k n h.1 g

-- one less than its size is the most that a variable has
pub below_most : (sizes is : List ℕ) (k : ℕ) → AreBelow sizes is → slice_index is k ≤ slice_index sizes k - 1
below_most [] is k h = subst (λ l. slice_index l k ≤ 0 - 1) (sym h) (omega arith)
below_most (m ∷ ms) [] k h = absurd h
below_most (m ∷ ms) (i ∷ is) zero h = omega (arith, h.0)
below_most (m ∷ ms) (i ∷ is) (suc k) h = below_most ms is k h.1

pub size_there : (sizes : List ℕ) (k n : ℕ) → slice_get sizes k ≡ Some n → k < length sizes
size_there [] k n h = cc
size_there (m ∷ ms) zero n h = omega arith
size_there (m ∷ ms) (suc k) n h = omega (arith, size_there ms k n h)

pub key_is : (source : Reading → Source) (c : Context) (nodes new : List Node) (s : Scope) (k w size r : ℕ) → length s.keys ≤ length s.sizes → slice_get s.sizes k ≡ Some size → size ≤ 2 ^ w → k < length s.keys
    → r < length new → width new r ≡ w → ((v : Reading) → term.value nodes (get_or s.keys k 0) v < 2 ^ w → term.value new r v ≡ term.value nodes (get_or s.keys k 0) v) → IsTermOf source (context_of c s) nodes s new r (bound k w)
key_is source c nodes new s k w size r few there fits low within wide is =
    record {
      within = within;
      width_is = wide;
      value_is = λ v env suits.
          let h = read_here source (context_of c s) nodes s v env suits in
          let e : slice_index env.bounds k ≡ term.value nodes (get_or s.keys k 0) v = ap (λ l. slice_index l k) h.bounds ∙ key_at nodes s.keys s.base s.sizes v k low few in
          let b : slice_index env.bounds k < size = below_at s.sizes env.bounds k size h.below there in
          is v (omega (arith, sym e, b, fits)) ∙ sym e;
    }

pub variable_is : (source : Reading → Source) (c : Context) (nodes new : List Node) (s : Scope) (k w size r id : ℕ) → slice_get s.sizes k ≡ Some size → size ≤ 2 ^ w → length s.keys ≤ k → id ≡ s.base + k
    → r < length new → width new r ≡ w → ((v : Reading) → v.var id < 2 ^ w → term.value new r v ≡ v.var id) → IsTermOf source (context_of c s) nodes s new r (bound k w)
variable_is source c nodes new s k w size r id there fits high same within wide is =
    record {
      within = within;
      width_is = wide;
      value_is = λ v env suits.
          let h = read_here source (context_of c s) nodes s v env suits in
          let e : slice_index env.bounds k ≡ v.var id = ap (λ l. slice_index l k) h.bounds ∙ variable_at nodes s.keys s.base s.sizes v k high (size_there s.sizes k size there) ∙ ap v.var (sym same) in
          let b : slice_index env.bounds k < size = below_at s.sizes env.bounds k size h.below there in
          is v (omega (arith, sym e, b, fits)) ∙ sym e;
    }

-- ---- how great a number may be

pub bound_most : (source : Reading → Source) (c : Context) (old new : List Node) (s : Scope) (r : ℕ) (e : Tree) (k w most : ℕ) → e ≡ bound k w → most ≡ slice_index s.sizes k - 1 → IsTermOf source (context_of c s) old s new r e
    → (v : Reading) (env : Env) → Suits source (context_of c s) old s v env → term.value new r v ≤ most
bound_most source c old new s r e k w most is most_is h v env suits =
    let has : term.value new r v ≡ slice_index env.bounds k = h.value_is v env suits ∙ ap (value (context_of c s) env) is in
    let few : slice_index env.bounds k ≤ slice_index s.sizes k - 1 = below_most s.sizes env.bounds k (read_here source (context_of c s) old s v env suits).below in
    omega (arith, has, few, most_is)

pub known_most_kept : (source : Reading → Source) (c : Context) (old new : List Node) (s : Scope) → Keeps old new → AreNames old s → (v : Reading) (env : Env) → Suits source (context_of c s) old s v env → AreLimited new s.known v
known_most_kept source c old new s keeps names v env suits = limits_kept old new keeps s.known names.known v (read_here source (context_of c s) old s v env suits).known

pub at_key : (old new : List Node) (a b w r : ℕ) → a ≡ b → ((v : Reading) → term.value old a v < 2 ^ w → term.value new r v ≡ term.value old a v) → (v : Reading) → term.value old b v < 2 ^ w → term.value new r v ≡ term.value old b v
at_key old new a b w r e h = let P : ℕ → Type 0 = λ q. (v : Reading) → term.value old q v < 2 ^ w → term.value new r v ≡ term.value old q v in subst P e h

-- a variable of 64 bits, cut to a width that has its number
pub cut_is : (mid new : List Node) (wide r w id : ℕ) → w ≤ 64 → ((v : Reading) → term.value mid wide v ≡ v.var id % 2 ^ 64) → ((v : Reading) → term.value mid wide v < 2 ^ w → term.value new r v ≡ term.value mid wide v)
    → (v : Reading) → v.var id < 2 ^ w → term.value new r v ≡ v.var id
cut_is mid new wide r w id few is cut v low =
    let room : 2 ^ w ≤ 2 ^ 64 = pow-le-pow_right {n = 2} (omega arith) {i = w} {j = 64} few in
    let same : term.value mid wide v ≡ v.var id = is v ∙ mod-eq_of_lt (omega (arith, low, room)) in
    cut v (omega (arith, same, low)) ∙ same
