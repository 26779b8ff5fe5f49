-- An expression's own kind is a width, or a truth.
use Rattle.std.proofs.Common.{◌≡◌, ℕ, zero, suc, ◌<◌, ◌+◌, ◌*◌, ◌^◌, Bool, true, false, ◌||◌, length, Option, Some, None, List, refl, sym, ◌∙◌, ap, subst, inl, inr, arith}
use Rattle.std.specs.Prelude.{nat_lt, nat_le, option_map, slice_get, slice_index, ◌⊎◌}
use Rattle.spec_ast.specs.declared.kind.UnKind.TheVariants.{Minus, Complement, Not}
use Rattle.spec_ast.specs.Raw as raw
use Rattle.spec_ast.specs.Raw.{Tree, literal, truth, named, read, read_at, unary, binary, choose, sized, Steps, element, member}
use Rattle.spec_tree.specs.declared.expr.ResizeKind.{ResizeKind}
use Rattle.spec_tree.specs.declared.expr.ResizeKind.TheVariants.{ZeroExt, SignExt, Extract}
use Rattle.spec_tree.specs.Plain as tree
use Rattle.spec_tree.specs.Sorted.{Context, IsWidth, Class, arithmetic, equality, ordering, logic, class_of, resized_width}
use Rattle.spec_names.specs.Kernel.{Name, Shape, Parts, no_parts, part_and, Part, part_at, Global, shape_of}
use Rattle.spec_names.specs.Room.{HasLeaves, HaveLeaves}
use Rattle.spec_scope.specs.declared.meaning.Kind.{Kind}
use Rattle.spec_scope.specs.declared.meaning.Kind.TheVariants.{Truth, Number}
use Rattle.spec_scope.specs.declared.meaning.Meaning.{Meaning}
use Rattle.spec_scope.specs.declared.meaning.Meaning.TheVariants as means
use Rattle.spec_scope.specs.Scope.{is_width, Scope, meaning, first, meant_kind, class_kind, resize_kind, own}
use Rattle.spec_scope.specs.Takes.{fits_resize, index_kind, IsValue, Asks, IsPath, Takes, Leads}
use Rattle.spec_scope.specs.Tests.{somewhere, is_read, is_state_local}
use Rattle.spec_sorts.specs.Matching.{kind_width, IsKind, Matches}
use Rattle.spec_sorts.proofs.Small.{some_is, both_are, le_of, lt_of, word_width, quiet_parts, mapped}

pub width_is : (w : ℕ) → is_width w ≡ true → IsWidth w
width_is w h = let p = both_are (nat_le 1 w) (nat_le w 64) h in (le_of 1 w p.0, le_of w 64 p.1)

pub truth_kind : (kind : Kind) → kind ≡ Truth → IsKind kind
truth_kind kind e = subst IsKind (sym e) tt

pub number_kind : (kind : Kind) (w : ℕ) → kind ≡ Number w → IsWidth w → IsKind kind
number_kind kind w e is = subst IsKind (sym e) is

pub kind_number : (kind : Kind) (w : ℕ) → kind ≡ Number w → IsKind kind → IsWidth w
kind_number kind w e is = subst IsKind e is

-- ---- paths

part_leaves : (k : ℕ) (parts : Parts) (part : Part) → HaveLeaves parts → part_at k parts ≡ Some part → HasLeaves part.shape
part_leaves k no_parts part m h = cc
part_leaves zero (part_and o shape others) part m h = subst (λ (q : Part). HasLeaves q.shape) (some_is h) m.0
part_leaves (suc k) (part_and o shape others) part m h = part_leaves k others part m.1 h

pub leads_word : (s : Scope) (b : List Name) (steps : Steps) (shape : Shape) (base : ℕ) (at : tree.Steps) (size : ℕ) → HasLeaves shape → Leads s b steps shape base at size
    → (k : ℕ) × (k < 4) × (size ≡ 2 ^ k)
leads_word s b raw.no_steps shape base at size m is = subst HasLeaves is.0 m
leads_word s b (raw.step_and (element e) steps) shape base at size m is = leads_word s b steps is.2 base is.4 size (subst HasLeaves is.5 m) is.8
leads_word s b (raw.step_and (member k) steps) shape base at size m is =
    leads_word s b steps is.1.shape is.2 at size (part_leaves k is.0 is.1 (subst HasLeaves is.3 m) is.4) is.5

-- the global of a path, at its place and of its shape
pub global_of : (s : Scope) (g : Name) (place : ℕ) (shape : Shape) → IsPath s g place shape → (global : Global) × (slice_get s.kernel.globals place ≡ Some global) × (global.shape ≡ shape)
global_of s g place shape is =
    let there : shape_of s.kernel g ≡ option_map (λ (g : Global). g.shape) (slice_get s.kernel.globals place) = rw (is.placed) refl in
    let m = mapped (λ (g : Global). g.shape) (slice_get s.kernel.globals place) shape (sym there ∙ is.shaped) in
    (m.value, m.was, m.is)

-- ---- operators

pub first_is : (o p : Option Kind) (k : Kind) → first o p ≡ Some k → (o ≡ Some k) ⊎ (p ≡ Some k)
first_is None p k h = inr h
first_is (Some j) p k h = inl h

pub either : (o p : Option Kind) (j : Kind) → (o ≡ Some j → IsKind j) → (p ≡ Some j → IsKind j) → (o ≡ Some j) ⊎ (p ≡ Some j) → IsKind j
either o p j f g (inl h) = f h
either o p j f g (inr h) = g h

class_own : (cl : Class) (kind : Kind) (has : Option Kind) (j : Kind) → Asks cl kind has j → class_kind cl has ≡ Some kind → (has ≡ Some j → IsKind j) → IsKind kind
class_own arithmetic kind has j asks h on = subst IsKind asks.0 (on (h ∙ ap Some (sym asks.0)))
class_own equality kind has j asks h on = truth_kind kind asks.0
class_own ordering kind has j asks h on = truth_kind kind asks.0
class_own logic kind has j asks h on = truth_kind kind asks.0

resized_is_width : (op : ResizeKind) (w : ℕ) → fits_resize op w ≡ true → IsWidth w → IsWidth (resized_width op w)
resized_is_width (ZeroExt n) w h is = let p = le_of (w + n) 64 h in (omega (arith, is.0), p)
resized_is_width (SignExt n) w h is = let p = le_of (w + n) 64 h in (omega (arith, is.0), p)
resized_is_width (Extract high low) w h is =
    let p = both_are (nat_le low high) (nat_lt high w) h in let q = lt_of high w p.1 in (omega arith, omega (arith, q, is.1))

-- ---- names

local_free : (reading reads : Bool) → (reading ≡ true) ⊎ (reads ≡ false) → (reads ≡ false) ⊎ (reading ≡ true)
local_free reading reads (inl h) = inr h
local_free reading reads (inr h) = inl h

-- where it is free to read, or is no local name that reads, what a local name of this kind has in the context
pub local_has : (reading : Bool) (s : Scope) (b : List Name) (c : Context) (y : Name) (place : ℕ) (kind : Kind) (o : Option Kind) (reads : Bool) → Matches reading s b c
    → meaning s y ≡ Some (means.Local place o reads) → o ≡ Some kind → (reading ≡ true) ⊎ (reads ≡ false)
    → (place < length c.locals) × (slice_index c.locals place ≡ kind_width kind) × IsKind kind
local_has reading s b c y place kind o reads m e is q =
    m.locals y place kind reads (e ∙ ap (λ k. Some (means.Local place k reads)) is) (local_free reading reads q)

value_kind : (reading : Bool) (s : Scope) (b : List Name) (c : Context) (kind : Kind) (y : Name) (o : Option Meaning) (x : tree.Tree) → Matches reading s b c → meaning s y ≡ o
    → (reading ≡ true) ⊎ (is_state_local o ≡ false) → IsValue b kind y o x → meant_kind o ≡ Some kind → IsKind kind
value_kind reading s b c kind y (Some (means.Constant n)) x m e q is h = cc
value_kind reading s b c kind y (Some (means.Argument place w)) x m e q is h = number_kind kind w is.0 (m.args y place w e).2
value_kind reading s b c kind y (Some (means.Variable w n)) x m e q is h = number_kind kind w is.2 (m.variables y w n e).0
value_kind reading s b c kind y (Some (means.Local place k reads)) x m e q is h = (local_has reading s b c y place kind k reads m e is.0 q).2
value_kind reading s b c kind y (Some (means.Sort t)) x m e q is h = absurd is
value_kind reading s b c kind y (Some (means.State which)) x m e q is h = absurd is
value_kind reading s b c kind y (Some means.Kernel) x m e q is h = absurd is
value_kind reading s b c kind y (Some means.Nothing) x m e q is h = absurd is
value_kind reading s b c kind y None x m e q is h = absurd is

-- ---- expressions

pub own_kind : (reading : Bool) (s : Scope) (b : List Name) (c : Context) (kind : Kind) (e : Tree) (x : tree.Tree) → Matches reading s b c
    → (reading ≡ true) ⊎ (somewhere (is_read s) b e ≡ false) → Takes s b kind e x → own s e ≡ Some kind → IsKind kind
own_kind reading s b c kind (literal n) x m q is h = cc
own_kind reading s b c kind (truth t) x m q is h = truth_kind kind is.0
own_kind reading s b c kind (named y) x m q is h = value_kind reading s b c kind y (meaning s y) x m refl q is h
own_kind reading s b c kind (read o f) x m q is h = number_kind kind is.2.width is.5 (m.sorts f is.2 is.3.sorted).wide
own_kind reading s b c kind (read_at o f es) x m q is h = number_kind kind is.2.width is.6 (m.sorts f is.2 is.4.sorted).wide
own_kind reading s b c kind (raw.path g steps) x m q is h =
    let o = global_of s g is.0 is.1 is.5 in
    let a = m.objects is.0 o.0 o.1 in
    let k = leads_word s b steps is.1 is.2 is.3 is.4 (subst HasLeaves o.2 a.1) is.6 in
    number_kind kind (8 * is.4) is.7 (word_width is.4 k.0 k.1 k.2)
own_kind reading s b c kind (unary Not a) x m q is h = truth_kind kind is.1
own_kind reading s b c kind (unary Minus a) x m q is h = own_kind reading s b c kind a is.0 m q is.2 h
own_kind reading s b c kind (unary Complement a) x m q is h = own_kind reading s b c kind a is.0 m q is.2 h
own_kind reading s b c kind (binary op a d) x m q is h =
    let p = quiet_parts reading (somewhere (is_read s) b a) (somewhere (is_read s) b d) q in
    class_own (class_of op) kind (first (own s a) (own s d)) is.0 is.3 h
    (λ f. either (own s a) (own s d) is.0 (own_kind reading s b c is.0 a is.1 m p.0 is.4) (own_kind reading s b c is.0 d is.2 m p.1 is.5) (first_is (own s a) (own s d) is.0 f))
own_kind reading s b c kind (raw.all_of es) x m q is h = truth_kind kind is.1
own_kind reading s b c kind (raw.any_of es) x m q is h = truth_kind kind is.1
own_kind reading s b c kind (choose t a d) x m q is h =
    let p = quiet_parts reading (somewhere (is_read s) b t) (somewhere (is_read s) b a || somewhere (is_read s) b d) q in
    let r = quiet_parts reading (somewhere (is_read s) b a) (somewhere (is_read s) b d) p.1 in
    either (own s a) (own s d) kind (own_kind reading s b c kind a is.1 m r.0 is.5) (own_kind reading s b c kind d is.2 m r.1 is.6) (first_is (own s a) (own s d) kind h)
own_kind reading s b c kind (raw.resize op a) x m q is h =
    number_kind kind (resized_width (resize_kind op) is.0) is.4
    (resized_is_width (resize_kind op) is.0 is.3 (own_kind reading s b c (Number is.0) a is.1 m q is.5 is.2))
own_kind reading s b c kind (sized n w) x m q is h = number_kind kind w is.1 (width_is w (both_are (is_width w) (nat_lt n (2 ^ w)) is.0).0)
own_kind reading s b c kind (raw.for_all xs a) x m q is h = truth_kind kind is.2
own_kind reading s b c kind (raw.exists xs a) x m q is h = truth_kind kind is.2

-- an index of a path
pub index_is_kind : (reading : Bool) (s : Scope) (b : List Name) (c : Context) (e : Tree) (y : tree.Tree) (o : Option Kind) → Matches reading s b c
    → (reading ≡ true) ⊎ (somewhere (is_read s) b e ≡ false) → own s e ≡ o → Takes s b (index_kind o) e y → IsKind (index_kind o)
index_is_kind reading s b c e y None m q h is = (omega arith, omega arith)
index_is_kind reading s b c e y (Some k) m q h is = own_kind reading s b c k e y m q is h
