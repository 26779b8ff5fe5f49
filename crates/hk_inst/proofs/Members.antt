-- Entries of tables, members of lists, and the nodes that tests find.
use Rattle.std.proofs.Common.{◌≡◌, ◌⊎◌, inl, inr, ℕ, zero, suc, ◌<◌, ◌≤◌, Bool, true, false, ◌&&◌, ◌||◌, cond, nat_eq, List, [], ◌∷◌, ◌++◌, ℤ, Option, Some, None, refl, sym, ◌∙◌, ap, subst, arith}
use Rattle.std.specs.Prelude.{slice_get, is_some}
use Rattle.std.specs.List.{All, Contains, list_all, flat_map}
use Rattle.std.specs.Map.{lookup}
use Rattle.std.specs.Cmp.Lexicographic.{pointwise, pointwise_decides}
use Rattle.std.proofs.lemmas.Bool.{eqb-true, eq-eqb, cases_lt}
use Rattle.std.proofs.lemmas.Option.{slice_get-get_or, slice_get_within, get_or_from_slice_get}
use Rattle.std.proofs.lemmas.List.Elements.{Contains-append_left, Contains-append_right, Contains-append_cases}
use Rattle.hk_term.specs.Shape.{IsDistinct}
use Rattle.hk_term.specs.declared.bounds.Bound.{Bound}
use Rattle.hk_term.specs.declared.node.Node.{Node}
use Rattle.hk_term.specs.declared.node.Node.TheVariants.{Const, Var, Select, Unary, Binary, Choose, Resize, ForAll}
use Rattle.hk_blast.specs.Blasted.{Words, HasWord}
use Rattle.hk_blast.proofs.WordLists.{cases_word, missed, has_from, has_more}
use Rattle.hk_inst.specs.declared.instance.Instance.{Instance}
use Rattle.hk_inst.specs.declared.instance.Instance.TheVariants.{Pair, Tuple}
use Rattle.hk_inst.specs.Inputs.{is_variable, is_read_at, is_select, is_quantifier, IsNumbering}
use Rattle.hk_inst.specs.Inputs.IsNumbering.{none, step}
use Rattle.hk_inst.specs.Truths.{same_instance, is_among}
use Rattle.hk_inst.proofs.Tuples.{clash, both-first, both-second}

-- ---- tables

pub has-head : (e : ℕ × List ℤ) (es : Words) → HasWord (e ∷ es) e.0
has-head e es = ap (λ b. is_some (cond b (Some e.1) (lookup (nat_eq e.0) es))) (eq-eqb e.0 e.0 refl)

pub has-tail : (e : ℕ × List ℤ) (es : Words) (t : ℕ) → HasWord es t → HasWord (e ∷ es) t
has-tail e es t h = by (nat_eq t e.0) refl
  where
    by : (b : Bool) → nat_eq t e.0 ≡ b → is_some (cond (nat_eq t e.0) (Some e.1) (lookup (nat_eq t) es)) ≡ true
    by true c = ap (λ b. is_some (cond b (Some e.1) (lookup (nat_eq t) es))) c
    by false c = ap (λ b. is_some (cond b (Some e.1) (lookup (nat_eq t) es))) c ∙ h

pub has-cases : (e : ℕ × List ℤ) (es : Words) (t : ℕ) → HasWord (e ∷ es) t → (t ≡ e.0) ⊎ (HasWord es t)
has-cases e es t h = by (nat_eq t e.0) refl
  where
    by : (b : Bool) → nat_eq t e.0 ≡ b → (t ≡ e.0) ⊎ (HasWord es t)
    by true c = inl (eqb-true t e.0 c)
    by false c = inr (sym (ap (λ b. is_some (cond b (Some e.1) (lookup (nat_eq t) es))) c) ∙ h)

pub has-either : (xs ys : Words) (t : ℕ) → HasWord (xs ++ ys) t → (HasWord xs t) ⊎ (HasWord ys t)
has-either xs ys t h = by (cases_word (lookup (nat_eq t) xs))
  where
    by : ((w : List ℤ) × (lookup (nat_eq t) xs ≡ Some w)) ⊎ (lookup (nat_eq t) xs ≡ None) → (HasWord xs t) ⊎ (HasWord ys t)
    by (inl p) = inl (has_from t xs p.0 p.1)
    by (inr e) = inr (sym (ap is_some (missed t xs ys e)) ∙ h)

pub has-behind : (xs ys : Words) (t : ℕ) → HasWord ys t → HasWord (xs ++ ys) t
has-behind [] ys t h = h
has-behind (x ∷ xs) ys t h = has-tail x (xs ++ ys) t (has-behind xs ys t h)

-- ---- members

pub contains-cases : {X : Type 0} (x : X) (xs : List X) (y : X) → Contains (x ∷ xs) y → (x ≡ y) ⊎ (Contains xs y)
contains-cases x xs y (zero, l, e) = inl e
contains-cases x xs y (suc k, l, e) = inr (k, omega (arith, l), e)

pub contains-head : {X : Type 0} (x : X) (xs : List X) → Contains (x ∷ xs) x
contains-head x xs = (0, omega arith, refl)

pub contains-tail : {X : Type 0} (x : X) (xs : List X) (y : X) → Contains xs y → Contains (x ∷ xs) y
contains-tail x xs y (k, l, e) = (suc k, omega (arith, l), e)

pub of-all : {X : Type 0} (P : X → Type 0) (xs : List X) (x : X) → All P xs → Contains xs x → P x
of-all P xs x all (k, l, e) = subst P e (all k x l)

pub at-place : {X : Type 0} (xs : List X) (x : X) → Contains xs x → (k : ℕ) × (slice_get xs k ≡ Some x)
at-place xs x (k, l, e) = (k, slice_get-get_or xs k x l ∙ ap Some e)

pub all-members : {X : Type 0} (p : X → Bool) (xs : List X) (x : X) → list_all p xs ≡ true → Contains xs x → p x ≡ true
all-members p [] x e (k, l, d) = absurd (omega arith)
all-members p (y ∷ xs) x e c = by (contains-cases y xs x c) (λ d. all-members p xs x (both-second (p y) (list_all p xs) e) d)
  where
    by : (y ≡ x) ⊎ (Contains xs x) → (Contains xs x → p x ≡ true) → p x ≡ true
    by (inl d) go = ap p (sym d) ∙ both-first (p y) (list_all p xs) e
    by (inr d) go = go d

pub all-from-members : {X : Type 0} (p : X → Bool) (xs : List X) → ((x : X) → Contains xs x → p x ≡ true) → list_all p xs ≡ true
all-from-members p [] h = refl
all-from-members p (x ∷ xs) h = ap (λ b. b && list_all p xs) (h x (contains-head x xs)) ∙ all-from-members p xs (λ y c. h y (contains-tail x xs y c))

-- ---- nodes

pub node-once : (nodes : List Node) → IsDistinct nodes → (s t : ℕ) (n : Node) → slice_get nodes s ≡ Some n → slice_get nodes t ≡ Some n → s ≡ t
node-once nodes d s t n a b = by (cases_lt s t) (cases_lt t s)
  where
    by : (s < t) ⊎ (t ≤ s) → (t < s) ⊎ (s ≤ t) → s ≡ t
    by (inl l) o = absurd (d s t l (slice_get_within nodes t n b) (a ∙ sym b))
    by (inr l) (inl m) = absurd (d t s m (slice_get_within nodes s n a) (b ∙ sym a))
    by (inr l) (inr m) = omega (arith, l, m)

pub variable-node : (o : Option Node) (id : ℕ) → is_variable o id ≡ true → (size : ℕ) × (o ≡ Some (Var size id))
variable-node None id e = clash (sym e)
variable-node (Some (Const w n)) id e = clash (sym e)
variable-node (Some (Var w i)) id e = (w, ap (λ j. Some (Var w j)) (eqb-true i id e))
variable-node (Some (Select a w i)) id e = clash (sym e)
variable-node (Some (Unary k a)) id e = clash (sym e)
variable-node (Some (Binary k a b)) id e = clash (sym e)
variable-node (Some (Choose c a b)) id e = clash (sym e)
variable-node (Some (Resize k to a)) id e = clash (sym e)
variable-node (Some (ForAll b a)) id e = clash (sym e)

pub read-node : (o : Option Node) (f : ℕ → ℕ) (array place : ℕ) → is_read_at o f array place ≡ true → (size : ℕ) × (i : ℕ) × (o ≡ Some (Select array size i)) × (f i ≡ place)
read-node None f array place e = clash (sym e)
read-node (Some (Const w n)) f array place e = clash (sym e)
read-node (Some (Var w i)) f array place e = clash (sym e)
read-node (Some (Select a w i)) f array place e = (w, i, ap (λ b. Some (Select b w i)) (eqb-true a array (both-first (nat_eq a array) (nat_eq (f i) place) e)), eqb-true (f i) place (both-second (nat_eq a array) (nat_eq (f i) place) e))
read-node (Some (Unary k a)) f array place e = clash (sym e)
read-node (Some (Binary k a b)) f array place e = clash (sym e)
read-node (Some (Choose c a b)) f array place e = clash (sym e)
read-node (Some (Resize k to a)) f array place e = clash (sym e)
read-node (Some (ForAll b a)) f array place e = clash (sym e)

pub select-node : (o : Option Node) → is_select o ≡ true → (array : ℕ) × (size : ℕ) × (i : ℕ) × (o ≡ Some (Select array size i))
select-node None e = clash (sym e)
select-node (Some (Const w n)) e = clash (sym e)
select-node (Some (Var w i)) e = clash (sym e)
select-node (Some (Select a w i)) e = (a, w, i, refl)
select-node (Some (Unary k a)) e = clash (sym e)
select-node (Some (Binary k a b)) e = clash (sym e)
select-node (Some (Choose c a b)) e = clash (sym e)
select-node (Some (Resize k to a)) e = clash (sym e)
select-node (Some (ForAll b a)) e = clash (sym e)

-- the index of a read, and the variables and the body of a quantifier
abbrev pub index_of : Option Node → ℕ
index_of (Some (Select a w i)) = i
index_of _ = 0

abbrev pub bound_of : Option Node → List Bound
bound_of (Some (ForAll b a)) = b
bound_of _ = []

abbrev pub body_of : Option Node → ℕ
body_of (Some (ForAll b a)) = a
body_of _ = 0

-- ---- instances

pub instance-same : (i j : Instance) → same_instance i j ≡ true → i ≡ j
instance-same (Pair a b) (Pair c d) e = λ t. Pair (eqb-true a c (both-first (nat_eq a c) (nat_eq b d) e) t) (eqb-true b d (both-second (nat_eq a c) (nat_eq b d) e) t)
instance-same (Pair a b) (Tuple k ks) e = clash (sym e)
instance-same (Tuple k ks) (Pair a b) e = clash (sym e)
instance-same (Tuple k ks) (Tuple j js) e =
    λ t. Tuple (eqb-true k j (both-first (nat_eq k j) (pointwise nat_eq ks js) e) t)
    ((pointwise_decides (λ x y. (eqb-true x y, eq-eqb x y)) ks js).0 (both-second (nat_eq k j) (pointwise nat_eq ks js) e) t)

pub among-contains : (instances : List Instance) (i : Instance) → is_among instances i ≡ true → Contains instances i
among-contains [] i e = clash (sym e)
among-contains (j ∷ js) i e = by (same_instance i j) refl (among-contains js i)
  where
    by : (b : Bool) → same_instance i j ≡ b → (is_among js i ≡ true → Contains js i) → Contains (j ∷ js) i
    by true c go = (0, omega arith, sym (instance-same i j c))
    by false c go = contains-tail j js i (go (sym (ap (λ b. b || is_among js i) c) ∙ e))

-- ---- numbers

pub numbered-all : (nodes : List Node) (kind : Option Node → Bool) {steps : List Words} {terms : List ℕ} → IsNumbering nodes kind steps terms → (t : ℕ) → HasWord (flat_map (λ s. s) steps) t → kind (slice_get nodes t) ≡ true → Contains terms t
numbered-all nodes kind none t h k = clash (sym h)
numbered-all nodes kind (step {entries = entries} {steps = steps} {first = first} {terms = terms} now later) t h k = by (has-either entries (flat_map (λ s. s) steps) t h) (λ g. numbered-all nodes kind later t g k)
  where
    by : (HasWord entries t) ⊎ (HasWord (flat_map (λ s. s) steps) t) → (HasWord (flat_map (λ s. s) steps) t → Contains terms t) → Contains (first ++ terms) t
    by (inl g) go = Contains-append_left first terms t (now.all t g k)
    by (inr g) go = Contains-append_right first terms t (go g)

pub numbered-are : (nodes : List Node) (kind : Option Node → Bool) {steps : List Words} {terms : List ℕ} → IsNumbering nodes kind steps terms → (t : ℕ) → Contains terms t → HasWord (flat_map (λ s. s) steps) t
numbered-are nodes kind none t (k, l, e) = absurd (omega (arith, l))
numbered-are nodes kind (step {entries = entries} {steps = steps} {first = first} {terms = terms} now later) t c = by (Contains-append_cases first terms t c) (numbered-are nodes kind later t)
  where
    by : (Contains first t) ⊎ (Contains terms t) → (Contains terms t → HasWord (flat_map (λ s. s) steps) t) → HasWord (entries ++ flat_map (λ s. s) steps) t
    by (inl d) go = has_more t entries (flat_map (λ s. s) steps) (now.are t d).0
    by (inr d) go = has-behind entries (flat_map (λ s. s) steps) t (go d)

pub member-at : {X : Type 0} (xs : List X) (k : ℕ) (x : X) → slice_get xs k ≡ Some x → Contains xs x
member-at xs k x e = (k, slice_get_within xs k x e, get_or_from_slice_get xs k x x e)

pub numbered-kind : (nodes : List Node) (kind : Option Node → Bool) {steps : List Words} {terms : List ℕ} → IsNumbering nodes kind steps terms → (t : ℕ) → Contains terms t → kind (slice_get nodes t) ≡ true
numbered-kind nodes kind none t (k, l, e) = absurd (omega (arith, l))
numbered-kind nodes kind (step {first = first} {terms = terms} now later) t c = by (Contains-append_cases first terms t c) (numbered-kind nodes kind later t)
  where
    by : (Contains first t) ⊎ (Contains terms t) → (Contains terms t → kind (slice_get nodes t) ≡ true) → kind (slice_get nodes t) ≡ true
    by (inl d) go = (now.are t d).1
    by (inr d) go = go d

pub quantifier-node : (o : Option Node) → is_quantifier o ≡ true → (bound : List Bound) × (inner : ℕ) × (o ≡ Some (ForAll bound inner))
quantifier-node None e = clash (sym e)
quantifier-node (Some (Const w n)) e = clash (sym e)
quantifier-node (Some (Var w i)) e = clash (sym e)
quantifier-node (Some (Select a w i)) e = clash (sym e)
quantifier-node (Some (Unary k a)) e = clash (sym e)
quantifier-node (Some (Binary k a b)) e = clash (sym e)
quantifier-node (Some (Choose c a b)) e = clash (sym e)
quantifier-node (Some (Resize k to a)) e = clash (sym e)
quantifier-node (Some (ForAll b a)) e = (b, a, refl)
