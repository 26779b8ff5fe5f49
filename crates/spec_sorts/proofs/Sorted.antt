-- What is taken is well sorted.
use Rattle.std.proofs.Common.{◌≡◌, ℕ, zero, suc, ◌≤◌, ◌<◌, ◌+◌, ◌-◌, ◌*◌, ◌^◌, Bool, true, false, ◌||◌, All, Option, Some, None, List, [], ◌++◌, refl, sym, ◌∙◌, ap, subst, inl, inr, arith}
use Rattle.std.specs.Prelude.{ℤ, pos, nat_lt, nat_le, ◌⊎◌}
use Rattle.std.proofs.lemmas.List.Elements.{All-head, All-tail}
use Rattle.hk_num.specs.Numbers.{number_of}
use Rattle.hk_num.proofs.Algebra.{number_below}
use Rattle.spec_ast.specs.declared.kind.UnKind.{UnKind}
use Rattle.spec_ast.specs.declared.kind.UnKind.TheVariants.{Minus, Complement, Not}
use Rattle.spec_ast.specs.Raw as raw
use Rattle.spec_ast.specs.Raw.{Tree, literal, truth, named, read, read_at, unary, binary, choose, sized, Trees, Steps, element, member}
use Rattle.spec_tree.specs.declared.expr.ResizeKind.{ResizeKind}
use Rattle.spec_tree.specs.declared.expr.ResizeKind.TheVariants.{ZeroExt, SignExt, Extract}
use Rattle.spec_tree.specs.declared.expr.StateName.{StateName}
use Rattle.spec_tree.specs.declared.expr.StateName.TheVariants.{Old, New}
use Rattle.spec_tree.specs.Plain as tree
use Rattle.spec_tree.specs.Plain.{Key}
use Rattle.spec_tree.specs.Sorted.{Context, FieldSort, no_field, IsWidth, IsIndexSort, IsSorted, AreTruths, AreIndices, AreSteps, Adds, Class, arithmetic, equality, ordering, logic, class_of, class_width, resized_width, FitsClass, reads, width_of, with_bounds}
use Rattle.spec_tree.specs.Value.{bit}
use Rattle.spec_names.specs.Kernel.{Name, Shape, Parts, no_parts, part_and, Part, part_at}
use Rattle.spec_names.specs.Room.{HasLeaves, Lies, LieAll}
use Rattle.spec_scope.specs.declared.meaning.Kind.{Kind}
use Rattle.spec_scope.specs.declared.meaning.Kind.TheVariants.{Truth, Number}
use Rattle.spec_scope.specs.declared.meaning.Meaning.{Meaning}
use Rattle.spec_scope.specs.declared.meaning.Meaning.TheVariants as means
use Rattle.spec_scope.specs.Scope.{is_width, Scope, meaning, first, resize_kind, own, bound_behind}
use Rattle.spec_scope.specs.Takes.{fits_resize, index_kind, IsLiteral, IsValue, AsksUn, Asks, AreVariables, IsRead, Takes, TakeTruths, TakeKeys, Leads}
use Rattle.spec_scope.specs.Tests.{somewhere, somewhere_among, somewhere_in, tuples_of, is_wide, is_read, is_state_local}
use Rattle.spec_sorts.specs.Matching.{kind_width, IsKind, Matches}
use Rattle.spec_sorts.proofs.Small.{some_is, neither, both_are, le_of, lt_of, quiet_parts, got}
use Rattle.spec_sorts.proofs.Bound.{variables_on, behind_is, nest_is, bound_size}
use Rattle.spec_sorts.proofs.Owned.{width_is, kind_number, leads_word, global_of, first_is, either, local_has, own_kind, index_is_kind}

bit_below : (t : Bool) → bit t < 2
bit_below true = omega arith
bit_below false = omega arith

kind_is : (kind : Kind) (w : ℕ) → kind ≡ Number w → kind_width kind ≡ w
kind_is kind w e = ap kind_width e

-- well sorted, and of the width that its place asks for
abbrev Good : Context → Kind → tree.Tree → Type 0
Good c kind x = IsSorted c x × (width_of c x ≡ kind_width kind)

good_at : (c : Context) (kind : Kind) (x q : tree.Tree) → x ≡ q → Good c kind q → Good c kind x
good_at c kind x q e g = subst (Good c kind) (sym e) g

-- ---- names

literal_good : (c : Context) (kind : Kind) (n : ℤ) (x : tree.Tree) → IsKind kind → IsLiteral kind n x → Good c kind x
literal_good c kind n x k is =
    good_at c kind x (tree.constant is.0 (number_of is.0 n)) is.3 ((kind_number kind is.0 is.1 k, number_below is.0 n), sym (kind_is kind is.0 is.1))

value_good : (reading : Bool) (s : Scope) (b : List Name) (c : Context) (kind : Kind) (y : Name) (o : Option Meaning) (x : tree.Tree) → Matches reading s b c → IsKind kind
    → meaning s y ≡ o → (reading ≡ true) ⊎ (is_state_local o ≡ false) → IsValue b kind y o x → Good c kind x
value_good reading s b c kind y (Some (means.Constant n)) x m k e q is = literal_good c kind n x k is
value_good reading s b c kind y (Some (means.Argument place w)) x m k e q is =
    let a = m.args y place w e in good_at c kind x (tree.argument place) is.1 (a.0, a.1 ∙ sym (kind_is kind w is.0))
value_good reading s b c kind y (Some (means.Variable w n)) x m k e q is =
    let v = m.variables y w n e in
    good_at c kind x (tree.bound is.0 w) is.3 ((v.0, n, bound_size reading s b c y is.0 w n m is.1 e, v.2), sym (kind_is kind w is.2))
value_good reading s b c kind y (Some (means.Local place o reads)) x m k e q is =
    let a = local_has reading s b c y place kind o reads m e is.0 q in good_at c kind x (tree.local place) is.1 (a.0, a.1)
value_good reading s b c kind y (Some (means.Sort t)) x m k e q is = absurd is
value_good reading s b c kind y (Some (means.State which)) x m k e q is = absurd is
value_good reading s b c kind y (Some means.Kernel) x m k e q is = absurd is
value_good reading s b c kind y (Some means.Nothing) x m k e q is = absurd is
value_good reading s b c kind y None x m k e q is = absurd is

-- ---- reads

allowed : (reading : Bool) → (reading ≡ true) ⊎ (true ≡ false) → reading ≡ true
allowed reading (inl h) = h
allowed true (inr h) = refl
allowed false (inr h) = cc

read_good : (reading : Bool) (s : Scope) (b : List Name) (c : Context) (kind : Kind) (o f : Name) (which : StateName) (place : ℕ) (sort : FieldSort) (at : tree.Trees)
    → Matches reading s b c → reading ≡ true → IsRead s o f which place sort → AreIndices c sort.keys at → kind ≡ Number sort.width → Good c kind (tree.entry which place at)
read_good reading s b c kind o f which place sort at m q r is e =
    let g = m.fields f place sort r.placed r.sorted in
    ((m.states q o which r.owned, sort, g, is), ap (λ (q : FieldSort). q.width) (got c.fields place sort no_field g) ∙ sym (kind_is kind sort.width e))

pub all_widths : (keys : List Key) → All (λ k. IsIndexSort k.width k.size) keys → All (λ k. IsWidth k.width) keys
all_widths keys all = λ k d h. (all k d h).0

-- ---- operators

unary_good : (c : Context) (op : UnKind) (kind : Kind) (y : tree.Tree) → AsksUn op kind → Good c kind y → Good c kind (tree.unary op y)
unary_good c Not kind y asks g = ((g.0, g.1 ∙ ap kind_width asks), g.1)
unary_good c Minus kind y asks g = ((g.0, tt), g.1)
unary_good c Complement kind y asks g = ((g.0, tt), g.1)

class_fits : (cl : Class) (kind : Kind) (has : Option Kind) (j : Kind) (w : ℕ) → Asks cl kind has j → w ≡ kind_width j → FitsClass cl w × (class_width cl w ≡ kind_width kind)
class_fits arithmetic kind has j w asks e = (tt, e ∙ ap kind_width asks.0)
class_fits equality kind has j w asks e = (tt, sym (ap kind_width asks.0))
class_fits ordering kind has j w asks e = (tt, sym (ap kind_width asks.0))
class_fits logic kind has j w asks e = (e ∙ ap kind_width asks.1, sym (ap kind_width asks.0))

asked_kind : (reading : Bool) (s : Scope) (b : List Name) (c : Context) (cl : Class) (kind j : Kind) (a d : Tree) (y z : tree.Tree) → Matches reading s b c → IsKind kind
    → (reading ≡ true) ⊎ (somewhere (is_read s) b a ≡ false) → (reading ≡ true) ⊎ (somewhere (is_read s) b d ≡ false) → Asks cl kind (first (own s a) (own s d)) j
    → Takes s b j a y → Takes s b j d z → IsKind j
asked_kind reading s b c arithmetic kind j a d y z m k p q asks f g = subst IsKind (sym asks.0) k
asked_kind reading s b c equality kind j a d y z m k p q asks f g =
    either (own s a) (own s d) j (own_kind reading s b c j a y m p f) (own_kind reading s b c j d z m q g) (first_is (own s a) (own s d) j asks.1)
asked_kind reading s b c ordering kind j a d y z m k p q asks f g =
    either (own s a) (own s d) j (own_kind reading s b c j a y m p f) (own_kind reading s b c j d z m q g) (first_is (own s a) (own s d) j asks.1)
asked_kind reading s b c logic kind j a d y z m k p q asks f g = subst IsKind (sym asks.1) tt

resize_good : (c : Context) (op : ResizeKind) (kind : Kind) (w : ℕ) (y : tree.Tree) → fits_resize op w ≡ true → kind ≡ Number (resized_width op w) → Good c (Number w) y
    → Good c kind (tree.resize op y)
resize_good c (ZeroExt n) kind w y h e g = ((g.0, rw (g.1) (le_of (w + n) 64 h)), rw (g.1) (sym (kind_is kind (w + n) e)))
resize_good c (SignExt n) kind w y h e g = ((g.0, rw (g.1) (le_of (w + n) 64 h)), rw (g.1) (sym (kind_is kind (w + n) e)))
resize_good c (Extract high low) kind w y h e g =
    let p = both_are (nat_le low high) (nat_lt high w) h in ((g.0, rw (g.1) ((le_of low high p.0, lt_of high w p.1))), sym (kind_is kind (high - low + 1) e))

-- ---- quantifiers

reads_under : (c : Context) (ns : List ℕ) (which : StateName) → reads (with_bounds c ns) which ≡ reads c which
reads_under c ns Old = refl
reads_under c ns New = refl

pub matches_under : (reading : Bool) (s : Scope) (b xs : List Name) (c : Context) (ns : List ℕ) → Matches reading s b c → AreVariables s b xs ns
    → Matches reading s (b ++ xs) (with_bounds c ns)
matches_under reading s b xs c ns m f = record {
  fields = m.fields;
  sorts = m.sorts;
  states = λ r o which e. reads_under c ns which ∙ m.states r o which e;
  rooted = m.rooted;
  objects = m.objects;
  args = m.args;
  locals = m.locals;
  variables = m.variables;
  bound = variables_on s [] b xs c.bounds ns m.bound f;
}

-- ---- paths

part_lies : (k : ℕ) (parts : Parts) (part : Part) (room : ℕ) → LieAll parts room → part_at k parts ≡ Some part → (part.offset ≤ room) × Lies part.shape (room - part.offset)
part_lies k no_parts part room m h = cc
part_lies zero (part_and o shape others) part room m h = subst (λ (q : Part). (q.offset ≤ room) × Lies q.shape (room - q.offset)) (some_is h) (m.0, m.1)
part_lies (suc k) (part_and o shape others) part room m h = part_lies k others part room m.2 h

leads_inside : (s : Scope) (b : List Name) (steps : Steps) (shape : Shape) (base : ℕ) (at : tree.Steps) (size room : ℕ) → Lies shape room → Leads s b steps shape base at size
    → (n : ℕ) → Adds at n → base + n + size ≤ room
leads_inside s b raw.no_steps shape base at size room m is n adds =
    let fit : size ≤ room = subst (λ q. Lies q room) is.0 m in let none : n ≡ 0 = subst (λ q. Adds q n) is.2 adds in omega (arith, fit, none, is.1)
leads_inside s b (raw.step_and (element e) steps) shape base at size room m is n adds =
    let a = subst (λ q. Adds q n) is.9 adds in
    let fit = subst (λ q. Lies q room) is.5 m a.0 a.2 in
    let rest : base + a.1 + size ≤ room - a.0 * is.1 = leads_inside s b steps is.2 base is.4 size (room - a.0 * is.1) fit.1 is.8 a.1 a.3 in
    omega (arith, fit.0, rest, a.4)
leads_inside s b (raw.step_and (member k) steps) shape base at size room m is n adds =
    let fit = part_lies k is.0 is.1 room (subst (λ q. Lies q room) is.3 m) is.4 in
    let rest : is.2 + n + size ≤ room - is.1.offset = leads_inside s b steps is.1.shape is.2 at size (room - is.1.offset) fit.1 is.5 n adds in
    omega (arith, fit.0, rest, is.6)

-- ---- expressions

mutual
  pub taken_sorted : (reading : Bool) (s : Scope) (b : List Name) (c : Context) (kind : Kind) (e : Tree) (x : tree.Tree) → Matches reading s b c → IsKind kind
      → somewhere (is_wide s) b e ≡ false → (reading ≡ true) ⊎ (somewhere (is_read s) b e ≡ false) → Takes s b kind e x → IsSorted c x × (width_of c x ≡ kind_width kind)
  taken_sorted reading s b c kind (literal n) x m k h q is = literal_good c kind (pos n) x k is
  taken_sorted reading s b c kind (truth t) x m k h q is =
      good_at c kind x (tree.constant 1 (bit t)) is.1 (((omega arith, omega arith), bit_below t), sym (ap kind_width is.0))
  taken_sorted reading s b c kind (named y) x m k h q is = value_good reading s b c kind y (meaning s y) x m k refl q is
  taken_sorted reading s b c kind (read o f) x m k h q is =
      good_at c kind x (tree.entry is.0 is.1 tree.no_trees) is.6
      (read_good reading s b c kind o f is.0 is.1 is.2 tree.no_trees m (allowed reading q) is.3 is.4 is.5)
  taken_sorted reading s b c kind (read_at o f es) x m k h q is =
      let free = allowed reading q in
      let keys = keys_sorted reading s b c is.2.keys es is.3 m (all_widths is.2.keys (m.sorts f is.2 is.4.sorted).keyed) h (inl free) is.5 in
      good_at c kind x (tree.entry is.0 is.1 is.3) is.7 (read_good reading s b c kind o f is.0 is.1 is.2 is.3 m free is.4 keys is.6)
  taken_sorted reading s b c kind (raw.path g steps) x m k h q is =
      let o = global_of s g is.0 is.1 is.5 in
      let a = m.objects is.0 o.0 o.1 in
      let lies = subst (λ (z : Shape). Lies z o.0.size) o.2 a.2 in
      good_at c kind x (tree.path is.0 is.2 is.3 is.4) is.8 (
        (
          m.rooted is.5.rooted,
          o.0.size,
          a.0,
          record {
            whole = leads_word s b steps is.1 is.2 is.3 is.4 (subst HasLeaves o.2 a.1) is.6;
            inside = leads_inside s b steps is.1 is.2 is.3 is.4 o.0.size lies is.6;
          },
          steps_sorted reading s b c steps is.1 is.2 is.3 is.4 m h q is.6,
        ),
        sym (kind_is kind (8 * is.4) is.7),
      )
  taken_sorted reading s b c kind (unary op a) x m k h q is =
      good_at c kind x (tree.unary op is.0) is.3 (unary_good c op kind is.0 is.1 (taken_sorted reading s b c kind a is.0 m k h q is.2))
  taken_sorted reading s b c kind (binary op a d) x m k h q is =
      let n = neither (somewhere (is_wide s) b a) (somewhere (is_wide s) b d) h in
      let p = quiet_parts reading (somewhere (is_read s) b a) (somewhere (is_read s) b d) q in
      let j = asked_kind reading s b c (class_of op) kind is.0 a d is.1 is.2 m k p.0 p.1 is.3 is.4 is.5 in
      let l = taken_sorted reading s b c is.0 a is.1 m j n.0 p.0 is.4 in
      let r = taken_sorted reading s b c is.0 d is.2 m j n.1 p.1 is.5 in
      let fit = class_fits (class_of op) kind (first (own s a) (own s d)) is.0 (width_of c is.1) is.3 l.1 in
      good_at c kind x (tree.binary op is.1 is.2) is.6 ((l.0, r.0, l.1 ∙ sym r.1, fit.0), fit.1)
  taken_sorted reading s b c kind (raw.all_of es) x m k h q is =
      good_at c kind x (tree.all_of is.0) is.3 (truths_sorted reading s b c es is.0 m h q is.2, sym (ap kind_width is.1))
  taken_sorted reading s b c kind (raw.any_of es) x m k h q is =
      good_at c kind x (tree.any_of is.0) is.3 (truths_sorted reading s b c es is.0 m h q is.2, sym (ap kind_width is.1))
  taken_sorted reading s b c kind (choose t a d) x m k h q is =
      let n = neither (somewhere (is_wide s) b t) (somewhere (is_wide s) b a || somewhere (is_wide s) b d) h in
      let o = neither (somewhere (is_wide s) b a) (somewhere (is_wide s) b d) n.1 in
      let p = quiet_parts reading (somewhere (is_read s) b t) (somewhere (is_read s) b a || somewhere (is_read s) b d) q in
      let v = quiet_parts reading (somewhere (is_read s) b a) (somewhere (is_read s) b d) p.1 in
      let g = taken_sorted reading s b c Truth t is.0 m tt n.0 p.0 is.4 in
      let l = taken_sorted reading s b c kind a is.1 m k o.0 v.0 is.5 in
      let r = taken_sorted reading s b c kind d is.2 m k o.1 v.1 is.6 in
      good_at c kind x (tree.choose is.0 is.1 is.2) is.7 ((g.0, g.1, l.0, r.0, l.1 ∙ sym r.1), l.1)
  taken_sorted reading s b c kind (raw.resize op a) x m k h q is =
      good_at c kind x (tree.resize (resize_kind op) is.1) is.6
      (resize_good c (resize_kind op) kind is.0 is.1 is.3 is.4
      (taken_sorted reading s b c (Number is.0) a is.1 m (own_kind reading s b c (Number is.0) a is.1 m q is.5 is.2) h q is.5))
  taken_sorted reading s b c kind (sized n w) x m k h q is =
      let p = both_are (is_width w) (nat_lt n (2 ^ w)) is.0 in
      good_at c kind x (tree.constant w n) is.2 ((width_is w p.0, lt_of n (2 ^ w) p.1), sym (kind_is kind w is.1))
  taken_sorted reading s b c kind (raw.for_all xs a) x m k h q is =
      let n = neither (nat_lt (2 ^ 20) (tuples_of s (bound_behind b xs))) (somewhere (is_wide s) (bound_behind b xs) a) h in
      let behind = behind_is s b xs is.0 is.3 in
      let wide = subst (λ (z : List Name). somewhere (is_wide s) z a ≡ false) behind n.1 in
      let quiet = subst (λ (z : List Name). (reading ≡ true) ⊎ (somewhere (is_read s) z a ≡ false)) behind q in
      let g = taken_sorted reading s (b ++ xs) (with_bounds c is.0) Truth a is.1 (matches_under reading s b xs c is.0 m is.3) tt wide quiet is.4 in
      good_at c kind x (tree.for_all is.0 is.1) is.5 ((nest_is reading s b xs c is.0 m is.3 n.0, g.0, g.1), sym (ap kind_width is.2))
  taken_sorted reading s b c kind (raw.exists xs a) x m k h q is =
      let n = neither (nat_lt (2 ^ 20) (tuples_of s (bound_behind b xs))) (somewhere (is_wide s) (bound_behind b xs) a) h in
      let behind = behind_is s b xs is.0 is.3 in
      let wide = subst (λ (z : List Name). somewhere (is_wide s) z a ≡ false) behind n.1 in
      let quiet = subst (λ (z : List Name). (reading ≡ true) ⊎ (somewhere (is_read s) z a ≡ false)) behind q in
      let g = taken_sorted reading s (b ++ xs) (with_bounds c is.0) Truth a is.1 (matches_under reading s b xs c is.0 m is.3) tt wide quiet is.4 in
      good_at c kind x (tree.exists is.0 is.1) is.5 ((nest_is reading s b xs c is.0 m is.3 n.0, g.0, g.1), sym (ap kind_width is.2))

  truths_sorted : (reading : Bool) (s : Scope) (b : List Name) (c : Context) (es : Trees) (xs : tree.Trees) → Matches reading s b c → somewhere_among (is_wide s) b es ≡ false
      → (reading ≡ true) ⊎ (somewhere_among (is_read s) b es ≡ false) → TakeTruths s b es xs → AreTruths c xs
  truths_sorted reading s b c raw.no_trees xs m h q is = subst (AreTruths c) (sym is) tt
  truths_sorted reading s b c (raw.tree_and e es) xs m h q is =
      let n = neither (somewhere (is_wide s) b e) (somewhere_among (is_wide s) b es) h in
      let p = quiet_parts reading (somewhere (is_read s) b e) (somewhere_among (is_read s) b es) q in
      let g = taken_sorted reading s b c Truth e is.0 m tt n.0 p.0 is.2 in
      subst (AreTruths c) (sym is.4) (g.0, g.1, truths_sorted reading s b c es is.1 m n.1 p.1 is.3)

  pub keys_sorted : (reading : Bool) (s : Scope) (b : List Name) (c : Context) (keys : List Key) (es : Trees) (xs : tree.Trees) → Matches reading s b c
      → All (λ k. IsWidth k.width) keys → somewhere_among (is_wide s) b es ≡ false → (reading ≡ true) ⊎ (somewhere_among (is_read s) b es ≡ false)
      → TakeKeys s b keys es xs → AreIndices c keys xs
  keys_sorted reading s b c keys raw.no_trees xs m k h q is = subst (AreIndices c keys) (sym is.1) is.0
  keys_sorted reading s b c keys (raw.tree_and e es) xs m k h q is =
      let n = neither (somewhere (is_wide s) b e) (somewhere_among (is_wide s) b es) h in
      let p = quiet_parts reading (somewhere (is_read s) b e) (somewhere_among (is_read s) b es) q in
      let w = subst (All (λ (k : Key). IsWidth k.width)) is.4 k in
      let g = taken_sorted reading s b c (Number is.0.width) e is.2 m (All-head (λ (k : Key). IsWidth k.width) is.0 is.1 w) n.0 p.0 is.5 in
      subst (AreIndices c keys) (sym is.7)
      (is.0, is.1, is.4, g.0, g.1, keys_sorted reading s b c is.1 es is.3 m (All-tail (λ (k : Key). IsWidth k.width) is.0 is.1 w) n.1 p.1 is.6)

  steps_sorted : (reading : Bool) (s : Scope) (b : List Name) (c : Context) (steps : Steps) (shape : Shape) (base : ℕ) (at : tree.Steps) (size : ℕ) → Matches reading s b c
      → somewhere_in (is_wide s) b steps ≡ false → (reading ≡ true) ⊎ (somewhere_in (is_read s) b steps ≡ false) → Leads s b steps shape base at size → AreSteps c at
  steps_sorted reading s b c raw.no_steps shape base at size m h q is = subst (AreSteps c) (sym is.2) tt
  steps_sorted reading s b c (raw.step_and (element e) steps) shape base at size m h q is =
      let n = neither (somewhere (is_wide s) b e) (somewhere_in (is_wide s) b steps) h in
      let p = quiet_parts reading (somewhere (is_read s) b e) (somewhere_in (is_read s) b steps) q in
      let k = index_is_kind reading s b c e is.3 (own s e) m p.0 refl is.7 in
      let g = taken_sorted reading s b c (index_kind (own s e)) e is.3 m k n.0 p.0 is.7 in
      subst (AreSteps c) (sym is.9) (g.0, steps_sorted reading s b c steps is.2 base is.4 size m n.1 p.1 is.8)
  steps_sorted reading s b c (raw.step_and (member k) steps) shape base at size m h q is = steps_sorted reading s b c steps is.1.shape is.2 at size m h q is.5
