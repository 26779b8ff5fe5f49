-- Where each variable and each array is read at one width, every truth value may be the goal of a question.
use Rattle.std.proofs.Common.{◌≡◌, ◌≢◌, ◌+◌, ◌<◌, ◌≤◌, ℕ, zero, suc, Bool, true, false, if◌then◌else◌, List, [], ◌∷◌, length, Some, refl, sym, ap, ◌∙◌, subst, arith}
use Rattle.std.specs.Prelude.{slice_get, nat_eq}
use Rattle.std.proofs.lemmas.Bool.{eq-eqb, eqb-true}
use Rattle.hk_term.specs.Shape.{width, NodeFits}
use Rattle.hk_term.specs.Tables.{number_at}
use Rattle.hk_term.specs.declared.node.Node.{Node}
use Rattle.hk_term.specs.declared.node.Node.TheVariants.{Const, Var, Select, Unary, Binary, Choose, Resize, ForAll}
use Rattle.hk_copy.specs.Reach.{Reads, own, under, Frees, itself, within, IsAsked, IsVariable}
use Rattle.hk_inst.specs.Growing.{IsGoal}
use Rattle.hk_oblig.specs.Uniform.{IsUniform, IsVarAt, IsReadAt, AreWidths, Goes}

-- ---- goals

var_there : (nodes : List Node) (k size id : ℕ) (n : Node) → slice_get nodes k ≡ Some n → IsVariable size id n → IsVarAt nodes k id size
var_there nodes k size id (Var w i) g h = g ∙ (λ j. Some (Var (h.0 j) (h.1 j)))
var_there nodes k size id (Const w n) g h = absurd h
var_there nodes k size id (Select array w index) g h = absurd h
var_there nodes k size id (Unary kind a) g h = absurd h
var_there nodes k size id (Binary kind a b) g h = absurd h
var_there nodes k size id (Choose c a b) g h = absurd h
var_there nodes k size id (Resize kind to a) g h = absurd h
var_there nodes k size id (ForAll bound body) g h = absurd h

read_there : (nodes : List Node) (k array size : ℕ) (n : Node) → slice_get nodes k ≡ Some n → IsAsked (λ a s. (a ≡ array) × (s ≡ size)) (λ b. ⊥) n → IsReadAt nodes k array size
read_there nodes k array size (Select a w index) g h = (index, g ∙ (λ j. Some (Select (h.0 j) (h.1 j) index)))
read_there nodes k array size (Const w n) g h = absurd h
read_there nodes k array size (Var w i) g h = absurd h
read_there nodes k array size (Unary kind a) g h = absurd h
read_there nodes k array size (Binary kind a b) g h = absurd h
read_there nodes k array size (Choose c a b) g h = absurd h
read_there nodes k array size (Resize kind to a) g h = absurd h
read_there nodes k array size (ForAll bound body) g h = absurd h

-- a free variable of a term, and a read of a term, is a node of the list
free_there : (nodes : List Node) (size id t : ℕ) → Frees nodes size id t → (k : ℕ) × IsVarAt nodes k id size
free_there nodes size id t (itself n g h) = (t, var_there nodes t size id n g h)
free_there nodes size id t (within n a g b p f) = free_there nodes size id a f

reach_there : (nodes : List Node) (array size t : ℕ) → Reads nodes array size t → (k : ℕ) × IsReadAt nodes k array size
reach_there nodes array size t (own n g h) = (t, read_there nodes t array size n g h)
reach_there nodes array size t (under n a g p f) = reach_there nodes array size a f

pub goal_fits : (nodes : List Node) (goal : ℕ) → IsUniform nodes → width nodes goal ≡ 1 → IsGoal nodes goal
goal_fits nodes goal h one = record {
  truth = one;
  one_width = λ id size other a b.
      let j = free_there nodes size id goal a in let k = free_there nodes other id goal b in
      h.variables j.0 k.0 id size other j.1 k.1;
  one_size = λ array size other a b.
      let j = reach_there nodes array size goal a in let k = reach_there nodes array other goal b in
      h.arrays j.0 k.0 array size other j.1 k.1;
}

-- ---- tables

below : (k count : ℕ) → k < count + 1 → nat_eq k count ≡ false → k < count
below k count low e =
    let other : k ≢ count = λ same. let t : true ≡ false = sym (eq-eqb k count same) ∙ e in cc in
    omega (arith, low, other)

found_below : {X : Type 0} (xs : List X) (k : ℕ) (x : X) → slice_get xs k ≡ Some x → k < length xs
found_below [] zero x g = cc
found_below [] (suc k) x g = cc
found_below (y ∷ xs) zero x g = omega arith
found_below (y ∷ xs) (suc k) x g = let low = found_below xs k x g in omega (arith, low)

-- no node so far
pub none_yet : (reads : ℕ → ℕ → ℕ → Type 0) → AreWidths reads 0 []
none_yet reads = record { known = λ k name size low r. absurd (omega (arith, low)); read = λ name h. absurd (h refl) }

-- a node that reads no name
pub same_widths : (reads : ℕ → ℕ → ℕ → Type 0) (count : ℕ) (table : List (ℕ × ℕ)) → AreWidths reads count table → ((name size : ℕ) → reads count name size → ⊥) → AreWidths reads (count + 1) table
same_widths reads count table h never = record {
  known = λ k name size low r. earlier k name size low r (nat_eq k count) refl;
  read = λ name some. let r = h.read name some in (r.0, omega (arith, r.1), r.2);
}
  where
    earlier : (k name size : ℕ) → k < count + 1 → reads k name size → (b : Bool) → nat_eq k count ≡ b → (number_at table name ≡ size) × (0 < size)
    earlier k name size low r true e = absurd (never name size (subst (λ j. reads j name size) (eqb-true k count e) r))
    earlier k name size low r false e = h.known k name size (below k count low e) r

-- a node that reads one name at one width
pub record ReadsOne (reads : ℕ → ℕ → ℕ → Type 0) (count name size : ℕ) : Type 0 where
  pub itself : reads count name size
  pub only : (n m : ℕ) → reads count n m → (n ≡ name) × (m ≡ size)
  pub wide : 0 < size

pub more_widths : (reads : ℕ → ℕ → ℕ → Type 0) (count name size : ℕ) (old new : List (ℕ × ℕ)) → AreWidths reads count old → ReadsOne reads count name size
    → ((k : ℕ) → number_at new k ≡ (if nat_eq k name then size else number_at old k)) → (number_at old name ≢ 0 → number_at old name ≡ size) → AreWidths reads (count + 1) new
more_widths reads count name size old new h o same kept = record {
  known = λ k n m low r. by k n m low r (nat_eq k count) refl;
  read = λ n some. from n some (nat_eq n name) refl;
}
  where
    set : (n : ℕ) (b : Bool) → nat_eq n name ≡ b → number_at new n ≡ (if b then size else number_at old n)
    set n b e = same n ∙ ap (λ c. if c then size else number_at old n) e

    before : (n m : ℕ) (b : Bool) → nat_eq n name ≡ b → number_at old n ≡ m → 0 < m → number_at new n ≡ m
    before n m false e f low = set n false e ∙ f
    before n m true e f low =
        let is : number_at old name ≡ m = ap (number_at old) (sym (eqb-true n name e)) ∙ f in
        set n true e ∙ sym (kept (λ z. omega (arith, z, is, low))) ∙ is

    by : (k n m : ℕ) → k < count + 1 → reads k n m → (b : Bool) → nat_eq k count ≡ b → (number_at new n ≡ m) × (0 < m)
    by k n m low r true e =
        let t = o.only n m (subst (λ j. reads j n m) (eqb-true k count e) r) in
        (set n true (eq-eqb n name t.0) ∙ sym t.1, subst (λ q. 0 < q) (sym t.1) o.wide)
    by k n m low r false e =
        let t = h.known k n m (below k count low e) r in
        (before n m (nat_eq n name) refl t.0 t.1, t.1)

    from : (n : ℕ) → number_at new n ≢ 0 → (b : Bool) → nat_eq n name ≡ b → (k : ℕ) × (k < count + 1) × reads k n (number_at new n)
    from n some true e =
        let here : reads count n size = subst (λ q. reads count q size) (sym (eqb-true n name e)) o.itself in
        (count, omega arith, subst (λ q. reads count n q) (sym (set n true e)) here)
    from n some false e =
        let r = h.read n (λ z. some (set n false e ∙ z)) in
        (r.0, omega (arith, r.1), subst (λ q. reads r.0 n q) (sym (set n false e)) r.2)

-- a node that reads a name at another width than an earlier one
pub at_odds : (reads : ℕ → ℕ → ℕ → Type 0) (count name size : ℕ) (old : List (ℕ × ℕ)) → AreWidths reads count old → reads count name size
    → number_at old name ≢ 0 → number_at old name ≢ size → ((k j n a b : ℕ) → reads k n a → reads j n b → a ≡ b) → ⊥
at_odds reads count name size old h there some apart one =
    let r = h.read name some in
    apart (one r.0 count name (number_at old name) size r.2 there)

-- ---- the whole list

pub whole : (nodes : List Node) (count : ℕ) (variables arrays : List (ℕ × ℕ)) → length nodes ≤ count → AreWidths (IsVarAt nodes) count variables → AreWidths (IsReadAt nodes) count arrays → IsUniform nodes
whole nodes count variables arrays all v a = record {
  variables = λ k j id size other r s. sym (v.known k id size (inside k (Var size id) r) r).0 ∙ (v.known j id other (inside j (Var other id) s) s).0;
  arrays = λ k j array size other r s. sym (a.known k array size (inside k (Select array size r.0) r.1) r).0 ∙ (a.known j array other (inside j (Select array other s.0) s.1) s).0;
}
  where
    inside : (k : ℕ) (n : Node) → slice_get nodes k ≡ Some n → k < count
    inside k n g = let low = found_below nodes k n g in omega (arith, low, all)

pub at_end : (nodes : List Node) (count : ℕ) (variables arrays : List (ℕ × ℕ)) → length nodes ≤ count → Goes nodes count variables arrays true → IsUniform nodes
at_end nodes count variables arrays all g = whole nodes count variables arrays all g.0 g.1

pub at_start : (nodes : List Node) → Goes nodes 0 [] [] true
at_start nodes = (none_yet (IsVarAt nodes), none_yet (IsReadAt nodes))

-- ---- one node more

-- a node that reads neither a variable nor an array
abbrev pub IsPlain : Node → Type 0
IsPlain (Var w id) = ⊥
IsPlain (Select array w index) = ⊥
IsPlain n = Unit {0}

no_var : (nodes : List Node) (k : ℕ) (n : Node) → slice_get nodes k ≡ Some n → IsPlain n → (id size : ℕ) → IsVarAt nodes k id size → ⊥
no_var nodes k n g plain id size r = let e : n ≡ Var size id = cc in subst IsPlain e plain

no_read : (nodes : List Node) (k : ℕ) (n : Node) → slice_get nodes k ≡ Some n → IsPlain n → (array size : ℕ) → IsReadAt nodes k array size → ⊥
no_read nodes k n g plain array size r = let q : slice_get nodes k ≡ Some (Select array size r.0) = r.1 in let e : n ≡ Select array size r.0 = cc in subst IsPlain e plain

pub plain_goes : (nodes : List Node) (place : ℕ) (n : Node) (variables arrays : List (ℕ × ℕ)) → slice_get nodes place ≡ Some n → IsPlain n → Goes nodes place variables arrays true → Goes nodes (place + 1) variables arrays true
plain_goes nodes place n variables arrays g plain h =
    (same_widths (IsVarAt nodes) place variables h.0 (no_var nodes place n g plain), same_widths (IsReadAt nodes) place arrays h.1 (no_read nodes place n g plain))

-- what a table says of a name that is put in
pub record Agrees (old new : List (ℕ × ℕ)) (name size : ℕ) (b : Bool) : Type 0 where
  pub same : b ≡ true → (k : ℕ) → number_at new k ≡ (if nat_eq k name then size else number_at old k)
  pub kept : b ≡ true → number_at old name ≢ 0 → number_at old name ≡ size
  pub other : b ≡ false → number_at old name ≢ 0
  pub apart : b ≡ false → number_at old name ≢ size

one_var : (nodes : List Node) (place size id : ℕ) → slice_get nodes place ≡ Some (Var size id) → 1 ≤ size → ReadsOne (IsVarAt nodes) place id size
one_var nodes place size id g wide = record { itself = g; only = only; wide = omega (arith, wide) }
  where
    only : (n m : ℕ) → IsVarAt nodes place n m → (n ≡ id) × (m ≡ size)
    only n m r = let e : Var m n ≡ Var size id = cc in let a : n ≡ id = cc in let b : m ≡ size = cc in (a, b)

one_read : (nodes : List Node) (place size array index : ℕ) → slice_get nodes place ≡ Some (Select array size index) → 1 ≤ size → ReadsOne (IsReadAt nodes) place array size
one_read nodes place size array index g wide = record { itself = (index, g); only = only; wide = omega (arith, wide) }
  where
    only : (n m : ℕ) → IsReadAt nodes place n m → (n ≡ array) × (m ≡ size)
    only n m r = let q : slice_get nodes place ≡ Some (Select n m r.0) = r.1 in let e : Select n m r.0 ≡ Select array size index = cc in let a : n ≡ array = cc in let b : m ≡ size = cc in (a, b)

pub var_goes : (nodes : List Node) (place size id : ℕ) (variables arrays new : List (ℕ × ℕ)) (b : Bool) → slice_get nodes place ≡ Some (Var size id) → 1 ≤ size
    → Agrees variables new id size b → Goes nodes place variables arrays true → Goes nodes (place + 1) new arrays b
var_goes nodes place size id variables arrays new true g wide a h = (
  more_widths (IsVarAt nodes) place id size variables new h.0 (one_var nodes place size id g wide) (a.same refl) (a.kept refl),
  same_widths (IsReadAt nodes) place arrays h.1 (λ array m r. let q : slice_get nodes place ≡ Some (Select array m r.0) = r.1 in let e : Var size id ≡ Select array m r.0 = cc in cc),
)
var_goes nodes place size id variables arrays new false g wide a h = λ u. at_odds (IsVarAt nodes) place id size variables h.0 g (a.other refl) (a.apart refl) (λ k j n x y r s. u.variables k j n x y r s)

pub read_goes : (nodes : List Node) (place size array index : ℕ) (variables arrays new : List (ℕ × ℕ)) (b : Bool) → slice_get nodes place ≡ Some (Select array size index) → 1 ≤ size
    → Agrees arrays new array size b → Goes nodes place variables arrays true → Goes nodes (place + 1) variables new b
read_goes nodes place size array index variables arrays new true g wide a h = (
  same_widths (IsVarAt nodes) place variables h.0 (λ id m r. let e : Select array size index ≡ Var m id = cc in cc),
  more_widths (IsReadAt nodes) place array size arrays new h.1 (one_read nodes place size array index g wide) (a.same refl) (a.kept refl),
)
read_goes nodes place size array index variables arrays new false g wide a h = λ u. at_odds (IsReadAt nodes) place array size arrays h.1 (index, g) (a.other refl) (a.apart refl) (λ k j n x y r s. u.arrays k j n x y r s)

-- the width that a node of a list has
pub var_wide : (len : ℕ) (w : ℕ → ℕ) (n : Node) (size id : ℕ) → NodeFits len w n → n ≡ Var size id → 1 ≤ size
var_wide len w n size id f e = let g : NodeFits len w (Var size id) = subst (NodeFits len w) e f in g.0

pub read_wide : (len : ℕ) (w : ℕ → ℕ) (n : Node) (size array index : ℕ) → NodeFits len w n → n ≡ Select array size index → 1 ≤ size
read_wide len w n size array index f e = let g : NodeFits len w (Select array size index) = subst (NodeFits len w) e f in g.0.0
