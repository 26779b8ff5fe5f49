-- What an operator makes of what its operands stand for.
use Rattle.std.proofs.Common.{◌≡◌, ℕ, true, false, Bool, Option, Some, None, List, refl, sym, ap, ◌∙◌, cond}
use Rattle.std.specs.Prelude.{◌&&◌}
use Rattle.std.proofs.lemmas.Bool.{eq-eqb, eqb-true}
use Rattle.spec_ast.specs.declared.kind.UnKind.{UnKind}
use Rattle.spec_ast.specs.declared.kind.UnKind.TheVariants.{Minus, Complement, Not}
use Rattle.spec_ast.specs.declared.kind.BinKind.{BinKind}
use Rattle.spec_ast.specs.declared.raw.RawResize.{RawResize}
use Rattle.spec_ast.specs.Raw.{Tree, literal, truth, named, read, read_at, path, unary, binary, all_of, any_of, choose, resize, sized, for_all, exists}
use Rattle.spec_tree.specs.declared.expr.ResizeKind.{ResizeKind}
use Rattle.spec_tree.specs.Plain as tree
use Rattle.spec_tree.specs.Sorted.{Class, arithmetic, equality, ordering, logic, class_of, resized_width}
use Rattle.spec_scope.specs.Scope.{Scope, first, own, un_kind, class_kind, meaning, meant_kind, resize_kind, resized_kind}
use Rattle.spec_scope.specs.Takes.{fits_resize}
use Rattle.spec_scope.specs.Taking.{chain, one, pair, same_kind, given_at, number_at, asked_un, asked, take}
use Rattle.spec_scope.specs.Free.{is_constant, is_number_un, is_arithmetic, is_free}
use Rattle.spec_scope.specs.declared.meaning.Kind.{Kind}
use Rattle.spec_scope.specs.declared.meaning.Kind.TheVariants.{Truth, Number}
use Rattle.spec_scope.specs.declared.meaning.Meaning.{Meaning}
use Rattle.spec_scope.specs.declared.meaning.Meaning.TheVariants.{Sort, Constant, Argument, Variable, Local, State, Kernel, Nothing}

abbrev Bound : Type 0
Bound = List (List ℕ)

-- ---- kinds

pub same_self : (k : Kind) → same_kind k k ≡ true
same_self Truth = refl
same_self (Number w) = eq-eqb w w refl

pub same_is : (j k : Kind) → same_kind j k ≡ true → j ≡ k
same_is Truth Truth h = refl
same_is Truth (Number w) h = absurd (cc h)
same_is (Number v) Truth h = absurd (cc h)
same_is (Number v) (Number w) h = ap Number (eqb-true v w h)

pub given_self : {A : Type 0} (k : Kind) (x : A) → given_at k k x ≡ Some x
given_self k x = rw (same_self k) refl

-- ---- unary operators

-- over a truth none stands for anything
un_none : (op : UnKind) (kind : Kind) (t : tree.Tree) → is_number_un op ≡ true → chain (asked_un op kind) (λ j. one (tree.unary op) (given_at kind Truth t)) ≡ None
un_none Not kind t h = absurd (cc h)
un_none Minus Truth t h = refl
un_none Minus (Number w) t h = refl
un_none Complement Truth t h = refl
un_none Complement (Number w) t h = refl

pub un_truth : (s : Scope) (b : Bound) (e : Tree) (op : UnKind) (t : tree.Tree) → is_number_un op ≡ true → ((kind : Kind) → take s b kind e ≡ given_at kind Truth t)
    → (kind : Kind) → take s b kind (unary op e) ≡ None
un_truth s b e op t h is kind = ap (λ o. chain (asked_un op kind) (λ j. one (tree.unary op) o)) (is kind) ∙ un_none op kind t h

un_some : (op : UnKind) (kind : Kind) (w : ℕ) (t : tree.Tree) → is_number_un op ≡ true
    → chain (asked_un op kind) (λ j. one (tree.unary op) (given_at kind (Number w) t)) ≡ given_at kind (Number w) (tree.unary op t)
un_some Not kind w t h = absurd (cc h)
un_some Minus Truth w t h = refl
un_some Minus (Number v) w t h = by (same_kind (Number v) (Number w))
  where
    by : (c : Bool) → one (tree.unary Minus) (cond c (Some t) None) ≡ cond c (Some (tree.unary Minus t)) None
    by true = refl
    by false = refl
un_some Complement Truth w t h = refl
un_some Complement (Number v) w t h = by (same_kind (Number v) (Number w))
  where
    by : (c : Bool) → one (tree.unary Complement) (cond c (Some t) None) ≡ cond c (Some (tree.unary Complement t)) None
    by true = refl
    by false = refl

un_own : (op : UnKind) (k : Option Kind) → is_number_un op ≡ true → un_kind op k ≡ k
un_own Not k h = absurd (cc h)
un_own Minus k h = refl
un_own Complement k h = refl

pub un_number : (s : Scope) (b : Bound) (e : Tree) (op : UnKind) (w : ℕ) (t : tree.Tree) → is_number_un op ≡ true → own s e ≡ Some (Number w)
    → ((kind : Kind) → take s b kind e ≡ given_at kind (Number w) t)
    → (own s (unary op e) ≡ Some (Number w)) × ((kind : Kind) → take s b kind (unary op e) ≡ given_at kind (Number w) (tree.unary op t))
un_number s b e op w t h has is =
    (un_own op (own s e) h ∙ has, λ kind. ap (λ o. chain (asked_un op kind) (λ j. one (tree.unary op) o)) (is kind) ∙ un_some op kind w t h)

-- ---- binary operators

abbrev two : BinKind → Kind → Option (tree.Tree × tree.Tree) → Option tree.Tree
two op j o = one (λ (p : tree.Tree × tree.Tree). tree.binary op p.0 p.1) o

pub arithmetic_truth : (s : Scope) (b : Bound) (a c : Tree) (op : BinKind) (x y : tree.Tree) → class_of op ≡ arithmetic
    → ((kind : Kind) → pair (take s b kind a) (take s b kind c) ≡ given_at kind Truth (x, y))
    → (kind : Kind) → take s b kind (binary op a c) ≡ None
arithmetic_truth s b a c op x y class is kind = rw class (by kind (is kind))
  where
    by : (kind : Kind) → pair (take s b kind a) (take s b kind c) ≡ given_at kind Truth (x, y)
        → chain (number_at kind kind) (λ j. one (λ (p : tree.Tree × tree.Tree). tree.binary op p.0 p.1) (pair (take s b j a) (take s b j c))) ≡ None
    by Truth e = refl
    by (Number w) e = ap (one (λ (p : tree.Tree × tree.Tree). tree.binary op p.0 p.1)) e

pub arithmetic_number : (s : Scope) (b : Bound) (a c : Tree) (op : BinKind) (w : ℕ) (x y : tree.Tree) → class_of op ≡ arithmetic → first (own s a) (own s c) ≡ Some (Number w)
    → ((kind : Kind) → pair (take s b kind a) (take s b kind c) ≡ given_at kind (Number w) (x, y))
    → (own s (binary op a c) ≡ Some (Number w)) × ((kind : Kind) → take s b kind (binary op a c) ≡ given_at kind (Number w) (tree.binary op x y))
arithmetic_number s b a c op w x y class has is = (ap (λ k. class_kind k (first (own s a) (own s c))) class ∙ has, λ kind. rw class (by kind (is kind)))
  where
    choice : (q : Bool) → one (λ (p : tree.Tree × tree.Tree). tree.binary op p.0 p.1) (cond q (Some (x, y)) None) ≡ cond q (Some (tree.binary op x y)) None
    choice true = refl
    choice false = refl

    by : (kind : Kind) → pair (take s b kind a) (take s b kind c) ≡ given_at kind (Number w) (x, y)
        → chain (number_at kind kind) (λ j. one (λ (p : tree.Tree × tree.Tree). tree.binary op p.0 p.1) (pair (take s b j a) (take s b j c))) ≡ given_at kind (Number w) (tree.binary op x y)
    by Truth e = refl
    by (Number v) e = ap (one (λ (p : tree.Tree × tree.Tree). tree.binary op p.0 p.1)) e ∙ choice (same_kind (Number v) (Number w))

-- ---- comparisons

abbrev given_truth : (kind : Kind) (x : tree.Tree) → Option tree.Tree
given_truth kind x = given_at kind Truth x

pub equality_two : (s : Scope) (b : Bound) (a c : Tree) (op : BinKind) (j : Kind) (x y : tree.Tree) → class_of op ≡ equality → first (own s a) (own s c) ≡ Some j
    → ((kind : Kind) → pair (take s b kind a) (take s b kind c) ≡ given_at kind j (x, y))
    → (own s (binary op a c) ≡ Some Truth) × ((kind : Kind) → take s b kind (binary op a c) ≡ given_at kind Truth (tree.binary op x y))
equality_two s b a c op j x y class has is = (ap (λ k. class_kind k (first (own s a) (own s c))) class, λ kind. rw (class, has) (by kind))
  where
    by : (kind : Kind) → chain (asked equality kind (Some j)) (λ i. one (λ (p : tree.Tree × tree.Tree). tree.binary op p.0 p.1) (pair (take s b i a) (take s b i c))) ≡ given_at kind Truth (tree.binary op x y)
    by Truth = ap (one (λ (p : tree.Tree × tree.Tree). tree.binary op p.0 p.1)) (is j ∙ given_self j (x, y))
    by (Number w) = refl

pub ordering_number : (s : Scope) (b : Bound) (a c : Tree) (op : BinKind) (v : ℕ) (x y : tree.Tree) → class_of op ≡ ordering → first (own s a) (own s c) ≡ Some (Number v)
    → ((kind : Kind) → pair (take s b kind a) (take s b kind c) ≡ given_at kind (Number v) (x, y))
    → (own s (binary op a c) ≡ Some Truth) × ((kind : Kind) → take s b kind (binary op a c) ≡ given_at kind Truth (tree.binary op x y))
ordering_number s b a c op v x y class has is = (ap (λ k. class_kind k (first (own s a) (own s c))) class, λ kind. rw (class, has) (by kind))
  where
    by : (kind : Kind) → chain (asked ordering kind (Some (Number v))) (λ i. one (λ (p : tree.Tree × tree.Tree). tree.binary op p.0 p.1) (pair (take s b i a) (take s b i c))) ≡ given_at kind Truth (tree.binary op x y)
    by Truth = ap (one (λ (p : tree.Tree × tree.Tree). tree.binary op p.0 p.1)) (is (Number v) ∙ given_self (Number v) (x, y))
    by (Number w) = refl

pub ordering_truth : (s : Scope) (b : Bound) (a c : Tree) (op : BinKind) → class_of op ≡ ordering → first (own s a) (own s c) ≡ Some Truth
    → (kind : Kind) → take s b kind (binary op a c) ≡ None
ordering_truth s b a c op class has kind = rw (class, has) (by kind)
  where
    by : (kind : Kind) → chain (asked ordering kind (Some Truth)) (λ i. one (λ (p : tree.Tree × tree.Tree). tree.binary op p.0 p.1) (pair (take s b i a) (take s b i c))) ≡ None
    by Truth = refl
    by (Number w) = refl

-- operands that stand for nothing, or have no width
pub two_none : (s : Scope) (b : Bound) (a c : Tree) (op : BinKind) → ((kind : Kind) → pair (take s b kind a) (take s b kind c) ≡ None) → (kind : Kind) → take s b kind (binary op a c) ≡ None
two_none s b a c op none kind = by (asked (class_of op) kind (first (own s a) (own s c)))
  where
    by : (o : Option Kind) → chain o (λ i. one (λ (p : tree.Tree × tree.Tree). tree.binary op p.0 p.1) (pair (take s b i a) (take s b i c))) ≡ None
    by None = refl
    by (Some i) = ap (one (λ (p : tree.Tree × tree.Tree). tree.binary op p.0 p.1)) (none i)

-- ---- changes of width

pub resize_truth : (s : Scope) (b : Bound) (e : Tree) (op : RawResize) → own s e ≡ Some Truth → (kind : Kind) → take s b kind (resize op e) ≡ None
resize_truth s b e op has kind = rw has refl

pub resize_over : (s : Scope) (b : Bound) (e : Tree) (op : RawResize) (w : ℕ) → own s e ≡ Some (Number w) → fits_resize (resize_kind op) w ≡ false
    → (kind : Kind) → take s b kind (resize op e) ≡ None
resize_over s b e op w has over kind = rw (has, over) refl

pub resize_none : (s : Scope) (b : Bound) (e : Tree) (op : RawResize) → own s e ≡ None → (kind : Kind) → take s b kind (resize op e) ≡ None
resize_none s b e op has kind = rw has refl

pub resize_number : (s : Scope) (b : Bound) (e : Tree) (op : RawResize) (w v : ℕ) (r : ResizeKind) (x : tree.Tree) → own s e ≡ Some (Number w)
    → fits_resize (resize_kind op) w ≡ true → r ≡ resize_kind op → v ≡ resized_width (resize_kind op) w
    → ((kind : Kind) → take s b kind e ≡ given_at kind (Number w) x)
    → (own s (resize op e) ≡ Some (Number v)) × ((kind : Kind) → take s b kind (resize op e) ≡ given_at kind (Number v) (tree.resize r x))
resize_number s b e op w v r x has fits same wide is = (
  ap (resized_kind op) has ∙ ap (λ n. Some (Number n)) (sym wide),
  λ kind. rw (has, fits, is (Number w) ∙ given_self (Number w) x, same, wide) refl,
)

-- ---- numbers and constants

free_un : (op : UnKind) (f : Bool) (k : Option Kind) → (is_number_un op && f) ≡ true → (f ≡ true → k ≡ None) → un_kind op k ≡ None
free_un Not f k h is = absurd (cc h)
free_un Minus f k h is = is h
free_un Complement f k h is = is h

pub both_true : (a b : Bool) → (a && b) ≡ true → (a ≡ true) × (b ≡ true)
both_true true true h = (refl, refl)
both_true true false h = absurd (cc h)
both_true false b h = absurd (cc h)

pub arithmetic_is : (k : Class) → is_arithmetic k ≡ true → k ≡ arithmetic
arithmetic_is arithmetic h = refl
arithmetic_is equality h = absurd (cc h)
arithmetic_is ordering h = absurd (cc h)
arithmetic_is logic h = absurd (cc h)

constant_kind : (m : Option Meaning) → is_constant m ≡ true → meant_kind m ≡ None
constant_kind (Some (Constant n)) h = refl
constant_kind (Some (Sort t)) h = absurd (cc h)
constant_kind (Some (Argument p w)) h = absurd (cc h)
constant_kind (Some (Variable w n)) h = absurd (cc h)
constant_kind (Some (Local p k r)) h = absurd (cc h)
constant_kind (Some (State t)) h = absurd (cc h)
constant_kind (Some Kernel) h = absurd (cc h)
constant_kind (Some Nothing) h = absurd (cc h)
constant_kind None h = absurd (cc h)

-- they have no width of their own
pub free_own : (s : Scope) (e : Tree) → is_free s e ≡ true → own s e ≡ None
free_own s (literal n) h = refl
free_own s (named x) h = constant_kind (meaning s x) h
free_own s (unary op a) h = free_un op (is_free s a) (own s a) h (free_own s a)
free_own s (binary op a c) h =
    let hs = both_true (is_arithmetic (class_of op)) (is_free s a && is_free s c) h in
    let gs = both_true (is_free s a) (is_free s c) hs.1 in
    rw (arithmetic_is (class_of op) hs.0, free_own s a gs.0, free_own s c gs.1) refl
free_own s (choose c a d) h =
    let gs = both_true (is_free s a) (is_free s d) h in
    rw (free_own s a gs.0, free_own s d gs.1) refl
free_own s (truth b) h = absurd (cc h)
free_own s (read o f) h = absurd (cc h)
free_own s (read_at o f es) h = absurd (cc h)
free_own s (path g steps) h = absurd (cc h)
free_own s (all_of es) h = absurd (cc h)
free_own s (any_of es) h = absurd (cc h)
free_own s (resize op a) h = absurd (cc h)
free_own s (sized n w) h = absurd (cc h)
free_own s (for_all xs a) h = absurd (cc h)
free_own s (exists xs a) h = absurd (cc h)

-- the same of a kind that is known to be a number's
pub resize_typed : (s : Scope) (b : Bound) (e : Tree) (op : RawResize) (k : Kind) (w v : ℕ) (r : ResizeKind) (x y : tree.Tree) → k ≡ Number w → y ≡ tree.resize r x
    → fits_resize (resize_kind op) w ≡ true → r ≡ resize_kind op → v ≡ resized_width (resize_kind op) w
    → (own s e ≡ Some k) × ((kind : Kind) → take s b kind e ≡ given_at kind k x)
    → (own s (resize op e) ≡ Some (Number v)) × ((kind : Kind) → take s b kind (resize op e) ≡ given_at kind (Number v) y)
resize_typed s b e op k w v r x y number same fits is wide typed =
    let done = resize_number s b e op w v r x (typed.0 ∙ ap Some number) fits is wide (λ kind. typed.1 kind ∙ ap (λ j. given_at kind j x) number) in
    (done.0, λ kind. done.1 kind ∙ ap (given_at kind (Number v)) (sym same))
