-- What take finds, Takes says.
use Rattle.std.proofs.Common.{◌≡◌, ℕ, ◌*◌, true, Option, Some, None, List, [], ◌∷◌, ◌++◌, refl, sym, ◌∙◌, ap, subst}
use Rattle.std.specs.Prelude.{ℤ, pos, position, bytes_eq, codes}
use Rattle.std.proofs.lemmas.Bool.{eqb-true}
use Rattle.hk_num.specs.Numbers.{number_of}
use Rattle.spec_ast.specs.declared.kind.UnKind.{UnKind}
use Rattle.spec_ast.specs.declared.kind.UnKind.TheVariants.{Minus, Complement, Not}
use Rattle.spec_ast.specs.declared.raw.RawResize.{RawResize}
use Rattle.spec_ast.specs.Raw as raw
use Rattle.spec_ast.specs.Raw.{Tree, literal, truth, named, read, read_at, unary, binary, choose, sized, Trees, Steps, element, member}
use Rattle.spec_tree.specs.declared.expr.StateName.{StateName}
use Rattle.spec_tree.specs.Plain as tree
use Rattle.spec_tree.specs.Plain.{Key}
use Rattle.spec_tree.specs.Sorted.{FieldSort, Class, arithmetic, equality, ordering, logic, class_of, resized_width}
use Rattle.spec_tree.specs.Value.{bit}
use Rattle.spec_names.specs.Kernel.{Name, Shape, word, row, fields, Elements, elements_of, Parts, Part, part_at, part_of, bytes_of, global_place, shape_of}
use Rattle.spec_scope.specs.declared.meaning.Kind.{Kind}
use Rattle.spec_scope.specs.declared.meaning.Kind.TheVariants.{Truth, Number}
use Rattle.spec_scope.specs.declared.meaning.Meaning.{Meaning}
use Rattle.spec_scope.specs.declared.meaning.Meaning.TheVariants as means
use Rattle.spec_scope.specs.Scope.{Scope, meaning, field_place, field_sort, is_among, first, resize_kind, own}
use Rattle.spec_scope.specs.Takes.{is_literal, fits_resize, is_sized, index_kind, IsNumber, IsLiteral, IsValue, AsksUn, Asks, AreVariables, IsRead, IsPath, Takes, TakeTruths, TakeKeys, Leads}
use Rattle.spec_scope.specs.Taking.{same_kind, given_at, number_at, index_at, literal_at, bound_at, value_at, asked_un, asked, chain, one, pair, state_meant, variable_meant, kernel_meant, Index, sizes_of, ReadOf, read_of, PathOf, path_of, resized_at, Led, led_here, led_by, led_in, first_key, no_keys, take, take_truths, take_keys, lead}
use Rattle.spec_sorts.proofs.Small.{some_is, tested, refused, chained, single, both, joined}

same_is : (k j : Kind) → same_kind k j ≡ true → k ≡ j
same_is Truth Truth h = refl
same_is Truth (Number w) h = cc
same_is (Number v) Truth h = cc
same_is (Number v) (Number w) h = ap Number (eqb-true v w h)

given_is : {A : Type 0} → (kind has : Kind) (x y : A) → given_at kind has x ≡ Some y → (kind ≡ has) × (y ≡ x)
given_is kind has x y h = let p = tested (same_kind kind has) (Some x) y h in (same_is kind has p.0, sym (some_is p.1))

number_is : {A : Type 0} → (kind : Kind) (x y : A) → number_at kind x ≡ Some y → IsNumber kind × (y ≡ x)
number_is Truth x y h = cc
number_is (Number w) x y h = ((w, refl), sym (some_is h))

index_is : {A : Type 0} → (kind : Kind) (o : Option A) (y : A) → index_at kind o ≡ Some y → IsNumber kind × (o ≡ Some y)
index_is Truth o y h = cc
index_is (Number w) o y h = ((w, refl), h)

-- ---- names

literal_is : (kind : Kind) (n : ℤ) (x : tree.Tree) → literal_at kind n ≡ Some x → IsLiteral kind n x
literal_is Truth n x h = cc
literal_is (Number w) n x h = let p = tested (is_literal w n) (Some (tree.constant w (number_of w n))) x h in (w, refl, p.0, sym (some_is p.1))

bound_is : (b : List Name) (kind : Kind) (y : Name) (w n : ℕ) (o : Option ℕ) (x : tree.Tree) → position (bytes_eq y) b ≡ o → bound_at kind w o ≡ Some x
    → IsValue b kind y (Some (means.Variable w n)) x
bound_is b kind y w n None x e h = cc
bound_is b kind y w n (Some place) x e h = let p = given_is kind (Number w) (tree.bound place w) x h in (place, e, p.0, p.1)

value_is : (b : List Name) (kind : Kind) (y : Name) (m : Option Meaning) (x : tree.Tree) → value_at b kind y m ≡ Some x → IsValue b kind y m x
value_is b kind y (Some (means.Constant n)) x h = literal_is kind n x h
value_is b kind y (Some (means.Argument place w)) x h = given_is kind (Number w) (tree.argument place) x h
value_is b kind y (Some (means.Variable w n)) x h = bound_is b kind y w n (position (bytes_eq y) b) x refl h
value_is b kind y (Some (means.Local place (Some k) reads)) x h = let p = given_is kind k (tree.local place) x h in (ap Some (sym p.0), p.1)
value_is b kind y (Some (means.Local place None reads)) x h = cc
value_is b kind y (Some (means.Sort t)) x h = cc
value_is b kind y (Some (means.State which)) x h = cc
value_is b kind y (Some means.Kernel) x h = cc
value_is b kind y (Some means.Nothing) x h = cc
value_is b kind y None x h = cc

-- ---- operators

un_asks : (op : UnKind) (kind j : Kind) → asked_un op kind ≡ Some j → AsksUn op kind
un_asks Not kind j h = (given_is kind Truth kind j h).0
un_asks Minus kind j h = (number_is kind kind j h).0
un_asks Complement kind j h = (number_is kind kind j h).0

asks_is : (c : Class) (kind : Kind) (has : Option Kind) (j : Kind) → asked c kind has ≡ Some j → Asks c kind has j
asks_is arithmetic kind has j h = let p = number_is kind kind j h in (p.1, p.0)
asks_is equality Truth has j h = (refl, h)
asks_is equality (Number w) has j h = cc
asks_is ordering Truth (Some (Number w)) j h = (refl, h, (w, sym (some_is h)))
asks_is ordering Truth (Some Truth) j h = cc
asks_is ordering Truth None j h = cc
asks_is ordering (Number w) has j h = cc
asks_is logic Truth has j h = (refl, sym (some_is h))
asks_is logic (Number w) has j h = cc

resized_is : (op : RawResize) (kind : Kind) (o : Option Kind) (on : ℕ → Option tree.Tree) (x : tree.Tree) → resized_at op kind o on ≡ Some x
    → (w : ℕ) × (y : tree.Tree) × (o ≡ Some (Number w)) × (fits_resize (resize_kind op) w ≡ true) × (kind ≡ Number (resized_width (resize_kind op) w)) × (on w ≡ Some y)
    × (x ≡ tree.resize (resize_kind op) y)
resized_is op kind (Some (Number w)) on x h =
    let p = tested (fits_resize (resize_kind op) w)
    (chain (on w) (λ (y : tree.Tree). given_at kind (Number (resized_width (resize_kind op) w)) (tree.resize (resize_kind op) y))) x h in
    let q = chained (on w) (λ (y : tree.Tree). given_at kind (Number (resized_width (resize_kind op) w)) (tree.resize (resize_kind op) y)) x p.1 in
    let g = given_is kind (Number (resized_width (resize_kind op) w)) (tree.resize (resize_kind op) q.value) x q.rest in
    (w, q.value, refl, p.0, g.0, q.was, g.1)
resized_is op kind (Some Truth) on x h = cc
resized_is op kind None on x h = cc

-- ---- states, variables and the kernel

state_is : (m : Option Meaning) (which : StateName) → state_meant m ≡ Some which → m ≡ Some (means.State which)
state_is (Some (means.State now)) which h = ap (λ w. Some (means.State w)) (some_is h)
state_is (Some (means.Constant n)) which h = cc
state_is (Some (means.Argument place w)) which h = cc
state_is (Some (means.Variable w n)) which h = cc
state_is (Some (means.Local place k reads)) which h = cc
state_is (Some (means.Sort t)) which h = cc
state_is (Some means.Kernel) which h = cc
state_is (Some means.Nothing) which h = cc
state_is None which h = cc

variable_is : (m : Option Meaning) (v : Index) → variable_meant m ≡ Some v → m ≡ Some (means.Variable v.width v.size)
variable_is (Some (means.Variable w n)) v h = ap (λ (k : Index). Some (means.Variable k.width k.size)) (some_is h)
variable_is (Some (means.Constant n)) v h = cc
variable_is (Some (means.Argument place w)) v h = cc
variable_is (Some (means.State which)) v h = cc
variable_is (Some (means.Local place k reads)) v h = cc
variable_is (Some (means.Sort t)) v h = cc
variable_is (Some means.Kernel) v h = cc
variable_is (Some means.Nothing) v h = cc
variable_is None v h = cc

kernel_is : (m : Option Meaning) (x : Unit {0}) → kernel_meant m ≡ Some x → m ≡ Some means.Kernel
kernel_is (Some means.Kernel) x h = refl
kernel_is (Some (means.Variable w n)) x h = cc
kernel_is (Some (means.Constant n)) x h = cc
kernel_is (Some (means.Argument place w)) x h = cc
kernel_is (Some (means.State which)) x h = cc
kernel_is (Some (means.Local place k reads)) x h = cc
kernel_is (Some (means.Sort t)) x h = cc
kernel_is (Some means.Nothing) x h = cc
kernel_is None x h = cc

variables_are : (s : Scope) (b xs : List Name) (sizes : List ℕ) → sizes_of s b xs ≡ Some sizes → AreVariables s b xs sizes
variables_are s b [] sizes h = sym (some_is h)
variables_are s b (x ∷ xs) sizes h =
    let p = refused (is_among x b) (chain (variable_meant (meaning s x)) (λ (v : Index). one (λ (ns : List ℕ). v.size ∷ ns) (sizes_of s (b ++ x ∷ []) xs))) sizes h in
    let q = joined (λ (v : Index) (ns : List ℕ). v.size ∷ ns) (variable_meant (meaning s x)) (sizes_of s (b ++ x ∷ []) xs) sizes p.1 in (
      q.left.width,
      q.left.size,
      q.right,
      variable_is (meaning s x) q.left q.was_left,
      p.0,
      variables_are s (b ++ x ∷ []) xs q.right q.was_right,
      q.is,
    )

-- ---- reads and paths

read_is : (s : Scope) (o f : Name) (r : ReadOf) → read_of s o f ≡ Some r → IsRead s o f r.which r.place r.sort
read_is s o f r h =
    let t = chained (state_meant (meaning s o))
    (λ (which : StateName). chain (field_place s f) (λ (place : ℕ). one (λ (sort : FieldSort). record { which = which; place = place; sort = sort }) (field_sort s f))) r h in
    let p = chained (field_place s f) (λ (place : ℕ). one (λ (sort : FieldSort). record { which = t.value; place = place; sort = sort }) (field_sort s f)) r t.rest in
    let q = single (λ (sort : FieldSort). record { which = t.value; place = p.value; sort = sort }) (field_sort s f) r p.rest in
    record {
      owned = state_is (meaning s o) r.which (t.was ∙ ap (λ (v : ReadOf). Some v.which) (sym q.is));
      placed = p.was ∙ ap (λ (v : ReadOf). Some v.place) (sym q.is);
      sorted = q.was ∙ ap (λ (v : ReadOf). Some v.sort) (sym q.is);
    }

path_is : (s : Scope) (g : Name) (p : PathOf) → path_of s g ≡ Some p → IsPath s g p.place p.shape
path_is s g p h =
    let a = chained (kernel_meant (meaning s (codes "kernel")))
    (λ (kernel : Unit {0}). chain (global_place s.kernel g) (λ (place : ℕ). one (λ (shape : Shape). record { place = place; shape = shape }) (shape_of s.kernel g))) p h in
    let c = chained (global_place s.kernel g) (λ (place : ℕ). one (λ (shape : Shape). record { place = place; shape = shape }) (shape_of s.kernel g)) p a.rest in
    let d = single (λ (shape : Shape). record { place = c.value; shape = shape }) (shape_of s.kernel g) p c.rest in
    record {
      rooted = kernel_is (meaning s (codes "kernel")) a.value a.was;
      placed = c.was ∙ ap (λ (q : PathOf). Some q.place) (sym d.is);
      shaped = d.was ∙ ap (λ (q : PathOf). Some q.shape) (sym d.is);
    }

no_keys_are : {A : Type 0} → (keys : List Key) (x y : A) → no_keys keys x ≡ Some y → (keys ≡ []) × (y ≡ x)
no_keys_are [] x y h = (refl, sym (some_is h))
no_keys_are (key ∷ others) x y h = cc

first_is : (keys : List Key) (k : Key × List Key) → first_key keys ≡ Some k → keys ≡ k.0 ∷ k.1
first_is [] k h = cc
first_is (key ∷ others) k h = ap (λ (q : Key × List Key). q.0 ∷ q.1) (some_is h)

elements_are : (shape : Shape) (r : Elements) → elements_of shape ≡ Some r → shape ≡ row r.count r.stride r.shape
elements_are (word n) r h = cc
elements_are (fields parts) r h = cc
elements_are (row count stride inner) r h = ap (λ (q : Elements). row q.count q.stride q.shape) (some_is h)

part_is : (k : ℕ) (shape : Shape) (p : Part) → part_of k shape ≡ Some p → (parts : Parts) × (shape ≡ fields parts) × (part_at k parts ≡ Some p)
part_is k (word n) p h = cc
part_is k (fields parts) p h = (parts, refl, h)
part_is k (row count stride inner) p h = cc

here_is : (shape : Shape) (l : Led) → one led_here (bytes_of shape) ≡ Some l → (shape ≡ word l.size) × (l.base ≡ 0) × (l.at ≡ tree.no_steps)
here_is (word n) l h = let e = some_is h in (ap (λ (q : Led). word q.size) e, sym (ap (λ (q : Led). q.base) e), sym (ap (λ (q : Led). q.at) e))
here_is (fields parts) l h = cc
here_is (row count stride inner) l h = cc

-- ---- expressions

mutual
  pub found : (s : Scope) (b : List Name) (kind : Kind) (e : Tree) (x : tree.Tree) → take s b kind e ≡ Some x → Takes s b kind e x
  found s b kind (literal n) x h = literal_is kind (pos n) x h
  found s b kind (truth t) x h = given_is kind Truth (tree.constant 1 (bit t)) x h
  found s b kind (named y) x h = value_is b kind y (meaning s y) x h
  found s b kind (read o f) x h =
      let r = chained (read_of s o f)
      (λ (r : ReadOf). chain (no_keys r.sort.keys r) (λ (q : ReadOf). given_at kind (Number r.sort.width) (tree.entry r.which r.place tree.no_trees))) x h in
      let q = chained (no_keys r.value.sort.keys r.value) (λ (q : ReadOf). given_at kind (Number r.value.sort.width) (tree.entry r.value.which r.value.place tree.no_trees)) x r.rest in
      let g = given_is kind (Number r.value.sort.width) (tree.entry r.value.which r.value.place tree.no_trees) x q.rest in
      (r.value.which, r.value.place, r.value.sort, read_is s o f r.value r.was, (no_keys_are r.value.sort.keys r.value q.value q.was).0, g.0, g.1)
  found s b kind (read_at o f es) x h =
      let r = chained (read_of s o f)
      (λ (r : ReadOf). chain (take_keys s b r.sort.keys es) (λ (at : tree.Trees). given_at kind (Number r.sort.width) (tree.entry r.which r.place at))) x h in
      let q = chained (take_keys s b r.value.sort.keys es) (λ (at : tree.Trees). given_at kind (Number r.value.sort.width) (tree.entry r.value.which r.value.place at)) x r.rest in
      let g = given_is kind (Number r.value.sort.width) (tree.entry r.value.which r.value.place q.value) x q.rest in
      (r.value.which, r.value.place, r.value.sort, q.value, read_is s o f r.value r.was, keys_found s b r.value.sort.keys es q.value q.was, g.0, g.1)
  found s b kind (raw.path g steps) x h =
      let p = chained (path_of s g)
      (λ (p : PathOf). chain (lead s b steps p.shape) (λ (l : Led). given_at kind (Number (8 * l.size)) (tree.path p.place l.base l.at l.size))) x h in
      let l = chained (lead s b steps p.value.shape) (λ (l : Led). given_at kind (Number (8 * l.size)) (tree.path p.value.place l.base l.at l.size)) x p.rest in
      let q = given_is kind (Number (8 * l.value.size)) (tree.path p.value.place l.value.base l.value.at l.value.size) x l.rest in
      (p.value.place, p.value.shape, l.value.base, l.value.at, l.value.size, path_is s g p.value p.was, lead_found s b steps p.value.shape l.value l.was, q.0, q.1)
  found s b kind (unary op a) x h =
      let j = chained (asked_un op kind) (λ (j : Kind). one (tree.unary op) (take s b kind a)) x h in
      let p = single (tree.unary op) (take s b kind a) x j.rest in
      (p.value, un_asks op kind j.value j.was, found s b kind a p.value p.was, p.is)
  found s b kind (binary op a c) x h =
      let j = chained (asked (class_of op) kind (first (own s a) (own s c)))
      (λ (j : Kind). one (λ (p : tree.Tree × tree.Tree). tree.binary op p.0 p.1) (pair (take s b j a) (take s b j c))) x h in
      let p = both (λ (p : tree.Tree × tree.Tree). tree.binary op p.0 p.1) (take s b j.value a) (take s b j.value c) x j.rest in (
        j.value,
        p.left,
        p.right,
        asks_is (class_of op) kind (first (own s a) (own s c)) j.value j.was,
        found s b j.value a p.left p.was_left,
        found s b j.value c p.right p.was_right,
        p.is,
      )
  found s b kind (raw.all_of es) x h =
      let ys = chained (take_truths s b es) (λ (ys : tree.Trees). given_at kind Truth (tree.all_of ys)) x h in
      let g = given_is kind Truth (tree.all_of ys.value) x ys.rest in
      (ys.value, g.0, truths_found s b es ys.value ys.was, g.1)
  found s b kind (raw.any_of es) x h =
      let ys = chained (take_truths s b es) (λ (ys : tree.Trees). given_at kind Truth (tree.any_of ys)) x h in
      let g = given_is kind Truth (tree.any_of ys.value) x ys.rest in
      (ys.value, g.0, truths_found s b es ys.value ys.was, g.1)
  found s b kind (choose c a d) x h =
      let j = chained (number_at kind kind)
      (λ (j : Kind). chain (take s b Truth c) (λ (t : tree.Tree). one (λ (p : tree.Tree × tree.Tree). tree.choose t p.0 p.1) (pair (take s b kind a) (take s b kind d)))) x h in
      let t = chained (take s b Truth c) (λ (t : tree.Tree). one (λ (p : tree.Tree × tree.Tree). tree.choose t p.0 p.1) (pair (take s b kind a) (take s b kind d))) x j.rest in
      let p = both (λ (p : tree.Tree × tree.Tree). tree.choose t.value p.0 p.1) (take s b kind a) (take s b kind d) x t.rest in (
        t.value,
        p.left,
        p.right,
        (number_is kind kind j.value j.was).0,
        found s b Truth c t.value t.was,
        found s b kind a p.left p.was_left,
        found s b kind d p.right p.was_right,
        p.is,
      )
  found s b kind (raw.resize op a) x h =
      let r = resized_is op kind (own s a) (λ (w : ℕ). take s b (Number w) a) x h in
      (r.0, r.1, r.2, r.3, r.4, found s b (Number r.0) a r.1 r.5, r.6)
  found s b kind (sized n w) x h =
      let p = tested (is_sized n w) (given_at kind (Number w) (tree.constant w n)) x h in
      let g = given_is kind (Number w) (tree.constant w n) x p.1 in
      (p.0, g.0, g.1)
  found s b kind (raw.for_all xs a) x h =
      let n = chained (sizes_of s b xs) (λ (sizes : List ℕ). chain (take s (b ++ xs) Truth a) (λ (y : tree.Tree). given_at kind Truth (tree.for_all sizes y))) x h in
      let p = chained (take s (b ++ xs) Truth a) (λ (y : tree.Tree). given_at kind Truth (tree.for_all n.value y)) x n.rest in
      let g = given_is kind Truth (tree.for_all n.value p.value) x p.rest in
      (n.value, p.value, g.0, variables_are s b xs n.value n.was, found s (b ++ xs) Truth a p.value p.was, g.1)
  found s b kind (raw.exists xs a) x h =
      let n = chained (sizes_of s b xs) (λ (sizes : List ℕ). chain (take s (b ++ xs) Truth a) (λ (y : tree.Tree). given_at kind Truth (tree.exists sizes y))) x h in
      let p = chained (take s (b ++ xs) Truth a) (λ (y : tree.Tree). given_at kind Truth (tree.exists n.value y)) x n.rest in
      let g = given_is kind Truth (tree.exists n.value p.value) x p.rest in
      (n.value, p.value, g.0, variables_are s b xs n.value n.was, found s (b ++ xs) Truth a p.value p.was, g.1)

  truths_found : (s : Scope) (b : List Name) (es : Trees) (xs : tree.Trees) → take_truths s b es ≡ Some xs → TakeTruths s b es xs
  truths_found s b raw.no_trees xs h = sym (some_is h)
  truths_found s b (raw.tree_and e es) xs h =
      let p = joined tree.tree_and (take s b Truth e) (take_truths s b es) xs h in
      (p.left, p.right, found s b Truth e p.left p.was_left, truths_found s b es p.right p.was_right, p.is)

  pub keys_found : (s : Scope) (b : List Name) (keys : List Key) (es : Trees) (xs : tree.Trees) → take_keys s b keys es ≡ Some xs → TakeKeys s b keys es xs
  keys_found s b keys raw.no_trees xs h = no_keys_are keys tree.no_trees xs h
  keys_found s b keys (raw.tree_and e es) xs h =
      let k = chained (first_key keys)
      (λ (k : Key × List Key). chain (take s b (Number k.0.width) e) (λ (y : tree.Tree). one (tree.tree_and y) (take_keys s b k.1 es))) xs h in
      let p = joined tree.tree_and (take s b (Number k.value.0.width) e) (take_keys s b k.value.1 es) xs k.rest in (
        k.value.0,
        k.value.1,
        p.left,
        p.right,
        first_is keys k.value k.was,
        found s b (Number k.value.0.width) e p.left p.was_left,
        keys_found s b k.value.1 es p.right p.was_right,
        p.is,
      )

  lead_found : (s : Scope) (b : List Name) (steps : Steps) (shape : Shape) (l : Led) → lead s b steps shape ≡ Some l → Leads s b steps shape l.base l.at l.size
  lead_found s b raw.no_steps shape l h = here_is shape l h
  lead_found s b (raw.step_and (element e) steps) shape l h =
      let r = chained (elements_of shape)
      (λ (r : Elements). chain (index_at (index_kind (own s e)) (take s b (index_kind (own s e)) e)) (λ (y : tree.Tree). one (led_by r y) (lead s b steps r.shape))) l h in
      let p = joined (led_by r.value) (index_at (index_kind (own s e)) (take s b (index_kind (own s e)) e)) (lead s b steps r.value.shape) l r.rest in
      let k = index_is (index_kind (own s e)) (take s b (index_kind (own s e)) e) p.left p.was_left in
      let inner = lead_found s b steps r.value.shape p.right p.was_right in (
        r.value.count,
        r.value.stride,
        r.value.shape,
        p.left,
        p.right.at,
        elements_are shape r.value r.was,
        k.0,
        found s b (index_kind (own s e)) e p.left k.1,
        subst (λ (q : Led). Leads s b steps r.value.shape q.base p.right.at q.size) (sym p.is) inner,
        ap (λ (q : Led). q.at) p.is,
      )
  lead_found s b (raw.step_and (member k) steps) shape l h =
      let p = chained (part_of k shape) (λ (r : Part). one (led_in r.offset) (lead s b steps r.shape)) l h in
      let q = single (led_in p.value.offset) (lead s b steps p.value.shape) l p.rest in
      let parts = part_is k shape p.value p.was in
      let inner = lead_found s b steps p.value.shape q.value q.was in (
        parts.0,
        p.value,
        q.value.base,
        parts.1,
        parts.2,
        subst (λ (r : Led). Leads s b steps p.value.shape q.value.base r.at r.size) (sym q.is) inner,
        ap (λ (r : Led). r.base) q.is,
      )
