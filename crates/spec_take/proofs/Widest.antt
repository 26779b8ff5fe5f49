-- What stands for something at some kind stands for something at its own one, or at 64 bits where it has none.
use Rattle.std.proofs.Common.{◌≡◌, ◌⊎◌, inl, inr, ℕ, zero, suc, ◌-◌, ◌*◌, ◌^◌, ◌≤◌, Bool, true, false, ◌&&◌, nat_lt, Option, Some, None, List, ◌++◌, refl, sym, ◌∙◌, ap, subst, arith}
use Rattle.std.specs.Prelude.{ℤ, pos, negsuc, neg_ℤ, int_le, int_lt, leb, option_map, option_and_then, if◌then◌else◌, position, bytes_eq, codes}
use Rattle.std.proofs.lemmas.Bool.{cases_Bool, le-leb, leb-true, leb-false, lt-ltb, le-ltb}
use Rattle.std.proofs.Math.Pow.{pow_mono}
use Rattle.hk_num.specs.Numbers.{number_of}
use Rattle.spec_ast.specs.declared.kind.UnKind.{UnKind}
use Rattle.spec_ast.specs.declared.kind.UnKind.TheVariants.{Minus, Complement, Not}
use Rattle.spec_ast.specs.declared.kind.BinKind.{BinKind}
use Rattle.spec_ast.specs.declared.raw.RawResize.{RawResize}
use Rattle.spec_ast.specs.Raw.{Tree, literal, truth, named, read, read_at, path, unary, binary, all_of, any_of, choose, resize, sized, for_all, exists, Steps, no_steps, step_and, element, member}
use Rattle.spec_tree.specs.declared.expr.StateName.{StateName}
use Rattle.spec_tree.specs.Plain as tree
use Rattle.spec_tree.specs.Sorted.{FieldSort, Class, arithmetic, equality, ordering, logic, class_of, resized_width}
use Rattle.spec_names.specs.Kernel.{Name, Shape, Elements, Part, elements_of, part_of, bytes_of, global_place, shape_of}
use Rattle.spec_scope.specs.declared.meaning.Kind.{Kind}
use Rattle.spec_scope.specs.declared.meaning.Kind.TheVariants.{Truth, Number}
use Rattle.spec_scope.specs.declared.meaning.Meaning.{Meaning}
use Rattle.spec_scope.specs.declared.meaning.Meaning.TheVariants.{Sort, Constant, Argument, Variable, Local, State, Kernel, Nothing}
use Rattle.spec_scope.specs.Scope.{Scope, is_width, meaning, field_place, field_sort, leaf_at, first, own, meant_kind, class_kind, resize_kind, resized_kind}
use Rattle.spec_scope.specs.Takes.{is_literal, fits_resize, is_sized, index_kind}
use Rattle.spec_scope.specs.Taking.{chain, one, pair, same_kind, given_at, number_at, literal_at, bound_at, value_at, asked, resized_at, state_meant, kernel_meant, ReadOf, read_of, PathOf, path_of, Led, led_here, led_by, led_in, no_keys, index_at, sizes_of, take, take_truths, take_keys, lead}
use Rattle.spec_scope.proofs.Inferring.{same_is}
use Rattle.spec_take.specs.Fitting.{IsFitting, Stands}

abbrev Bound : Type 0
Bound = List Name

-- an expression of this own kind that stands for something at a kind
abbrev Agrees : {A : Type 0} → Option Kind → Kind → Option A → Type 0
Agrees None kind wide = (y : _) × (wide ≡ Some y)
Agrees (Some k) kind wide = kind ≡ k

agrees_one : {A B : Type 0} (f : A → B) (k : Option Kind) (kind : Kind) (wide : Option A) → Agrees k kind wide → Agrees k kind (one f wide)
agrees_one f None kind wide h = (f h.0, ap (one f) h.1)
agrees_one f (Some k) kind wide h = h

agrees_pair : {A B : Type 0} (k j : Option Kind) (kind : Kind) (v : Option A) (w : Option B) → Agrees k kind v → Agrees j kind w → Agrees (first k j) kind (pair v w)
agrees_pair (Some k) j kind v w h i = h
agrees_pair None (Some j) kind v w h i = i
agrees_pair None None kind v w h i = ((h.0, i.0), ap (λ o. pair o w) h.1 ∙ ap (pair (Some h.0)) i.1)

-- ---- kinds

given_if : {A : Type 0} (kind has : Kind) (x y : A) (c : Bool) → same_kind kind has ≡ c → (if c then Some x else None) ≡ Some y → kind ≡ has
given_if kind has x y true is h = same_is kind has is
given_if kind has x y false is h = absurd (cc h)

given_is : {A : Type 0} (kind has : Kind) (x y : A) → given_at kind has x ≡ Some y → kind ≡ has
given_is kind has x y h = given_if kind has x y (same_kind kind has) refl h

chain_given : {A B : Type 0} (kind has : Kind) (o : Option A) (f : A → B) (y : B) → chain o (λ a. given_at kind has (f a)) ≡ Some y → kind ≡ has
chain_given kind has None f y h = absurd (cc h)
chain_given kind has (Some a) f y h = given_is kind has (f a) y h

test_given : {B : Type 0} (kind has : Kind) (c : Bool) (x y : B) → (if c then given_at kind has x else None) ≡ Some y → kind ≡ has
test_given kind has true x y h = given_is kind has x y h
test_given kind has false x y h = absurd (cc h)

chains_given : {A B C : Type 0} (kind has : Kind) (o : Option A) (p : Option B) (f : A → B → C) (y : C) → chain o (λ a. chain p (λ b. given_at kind has (f a b))) ≡ Some y → kind ≡ has
chains_given kind has None p f y h = absurd (cc h)
chains_given kind has (Some a) p f y h = chain_given kind has p (f a) y h

-- ---- literals

low : (m n : ℕ) → int_le (neg_ℤ (pos m)) (pos n) ≡ true
low zero n = le-leb 0 n (omega arith)
low (suc m) n = refl

high : (m n : ℕ) → int_le (neg_ℤ (pos m)) (negsuc n) ≡ nat_lt n m
high zero n = sym (le-ltb n 0 (omega arith))
high (suc m) n = by (cases_Bool (leb n m))
  where
    by : (leb n m ≡ true) ⊎ (leb n m ≡ false) → leb n m ≡ nat_lt n (suc m)
    by (inl t) = let l = leb-true n m t in t ∙ sym (lt-ltb n (suc m) (omega (arith, l)))
    by (inr f) = let l = leb-false n m f in f ∙ sym (le-ltb n (suc m) (omega (arith, l)))

both : (a b : Bool) → (a && b) ≡ true → (a ≡ true) × (b ≡ true)
both true b h = (refl, h)
both false b h = absurd (cc h)

width_most : (w : ℕ) → is_width w ≡ true → w ≤ 64
width_most w h = grind (arith, h)

below : (m p q : ℕ) → p ≤ q → nat_lt m p ≡ true → nat_lt m q ≡ true
below m p q l h = grind (arith, l, h)

wide_literal : (w : ℕ) (n : ℤ) → is_literal w n ≡ true → is_literal 64 n ≡ true
wide_literal w (pos m) h =
    let parts = both (is_width w) (int_le (neg_ℤ (pos (2 ^ (w - 1)))) (pos m) && int_lt (pos m) (pos (2 ^ w))) h in
    let most = both (int_le (neg_ℤ (pos (2 ^ (w - 1)))) (pos m)) (int_lt (pos m) (pos (2 ^ w))) parts.1 in
    let power : 2 ^ w ≤ 2 ^ 64 = pow_mono (width_most w parts.0) in
    ap (λ b. b && int_lt (pos m) (pos (2 ^ 64))) (low (2 ^ 63) m) ∙ below m (2 ^ w) (2 ^ 64) power most.1
wide_literal w (negsuc m) h =
    let parts = both (is_width w) (int_le (neg_ℤ (pos (2 ^ (w - 1)))) (negsuc m) && true) h in
    let most = both (int_le (neg_ℤ (pos (2 ^ (w - 1)))) (negsuc m)) true parts.1 in
    let short : w - 1 ≤ 63 = (let l = width_most w parts.0 in omega (arith, l)) in
    let power : 2 ^ (w - 1) ≤ 2 ^ 63 = pow_mono short in
    ap (λ b. b && true) (high (2 ^ 63) m ∙ below m (2 ^ (w - 1)) (2 ^ 63) power (sym (high (2 ^ (w - 1)) m) ∙ most.0))

literal_if : (w : ℕ) (n : ℤ) (x : tree.Tree) (c : Bool) → is_literal w n ≡ c → (if c then Some (tree.constant w (number_of w n)) else None) ≡ Some x
    → (y : tree.Tree) × (literal_at (Number 64) n ≡ Some y)
literal_if w n x true is h = (tree.constant 64 (number_of 64 n), ap (λ c. if c then Some (tree.constant 64 (number_of 64 n)) else None) (wide_literal w n is))
literal_if w n x false is h = absurd (cc h)

literal_wide : (kind : Kind) (n : ℤ) (x : tree.Tree) → literal_at kind n ≡ Some x → (y : tree.Tree) × (literal_at (Number 64) n ≡ Some y)
literal_wide Truth n x h = absurd (cc h)
literal_wide (Number w) n x h = literal_if w n x (is_literal w n) refl h

-- ---- names

bound_agrees : (kind : Kind) (w : ℕ) (place : Option ℕ) (x : tree.Tree) → bound_at kind w place ≡ Some x → kind ≡ Number w
bound_agrees kind w None x h = absurd (cc h)
bound_agrees kind w (Some place) x h = given_is kind (Number w) (tree.bound place w) x h

name_agrees : (b : Bound) (kind : Kind) (y : Name) (m : Option Meaning) (x : tree.Tree) → value_at b kind y m ≡ Some x → Agrees (meant_kind m) kind (value_at b (Number 64) y m)
name_agrees b kind y None x h = absurd (cc h)
name_agrees b kind y (Some (Sort s)) x h = absurd (cc h)
name_agrees b kind y (Some (Constant n)) x h = literal_wide kind n x h
name_agrees b kind y (Some (Argument place w)) x h = given_is kind (Number w) (tree.argument place) x h
name_agrees b kind y (Some (Variable w n)) x h = bound_agrees kind w (position (bytes_eq y) b) x h
name_agrees b kind y (Some (Local place None reads)) x h = absurd (cc h)
name_agrees b kind y (Some (Local place (Some k) reads)) x h = given_is kind k (tree.local place) x h
name_agrees b kind y (Some (State which)) x h = absurd (cc h)
name_agrees b kind y (Some Kernel) x h = absurd (cc h)
name_agrees b kind y (Some Nothing) x h = absurd (cc h)

-- ---- reads and paths

sort_read : (st : Option StateName) (pl : Option ℕ) (fs : Option FieldSort) (r : ReadOf)
    → chain st (λ which. chain pl (λ place. one (λ sort. record { which = which; place = place; sort = sort }) fs)) ≡ Some r → fs ≡ Some r.sort
sort_read None pl fs r h = absurd (cc h)
sort_read (Some which) None fs r h = absurd (cc h)
sort_read (Some which) (Some place) None r h = absurd (cc h)
sort_read (Some which) (Some place) (Some sort) r h = ap (option_map (λ (r : ReadOf). r.sort)) h

entry_agrees : {A : Type 0} (kind : Kind) (st : Option StateName) (pl : Option ℕ) (fs : Option FieldSort) (r : Option ReadOf) (at : ReadOf → Option A) (f : ReadOf → A → tree.Tree) (x : tree.Tree) (wide : Option tree.Tree)
    → r ≡ chain st (λ which. chain pl (λ place. one (λ sort. record { which = which; place = place; sort = sort }) fs))
    → chain r (λ r. chain (at r) (λ a. given_at kind (Number r.sort.width) (f r a))) ≡ Some x → Agrees (option_map (λ sort. Number sort.width) fs) kind wide
entry_agrees kind st pl fs None at f x wide is h = absurd (cc h)
entry_agrees kind st pl fs (Some r) at f x wide is h =
    subst (λ fs. Agrees (option_map (λ (sort : FieldSort). Number sort.width) fs) kind wide) (sym (sort_read st pl fs r (sym is)))
    (chain_given kind (Number r.sort.width) (at r) (f r) x h)

leaf_end : (o : Option ℕ) (l : Led) → one led_here o ≡ Some l → o ≡ Some l.size
leaf_end None l h = absurd (cc h)
leaf_end (Some n) l h = ap (option_map (λ (l : Led). l.size)) h

leaf_element : (r : Elements) (y : tree.Tree) (q : Option Led) (leaf : Option ℕ) (l : Led) → ((l : Led) → q ≡ Some l → leaf ≡ Some l.size) → one (led_by r y) q ≡ Some l → leaf ≡ Some l.size
leaf_element r y None leaf l k h = absurd (cc h)
leaf_element r y (Some m) leaf l k h = k m refl ∙ ap (option_map (λ (l : Led). l.size)) h

leaf_member : (offset : ℕ) (q : Option Led) (leaf : Option ℕ) (l : Led) → ((l : Led) → q ≡ Some l → leaf ≡ Some l.size) → one (led_in offset) q ≡ Some l → leaf ≡ Some l.size
leaf_member offset None leaf l k h = absurd (cc h)
leaf_member offset (Some m) leaf l k h = k m refl ∙ ap (option_map (λ (l : Led). l.size)) h

leaf_elements : (o : Option Elements) (i : Option tree.Tree) (rest : Shape → Option Led) (leaf : Shape → Option ℕ) (l : Led) → ((at : Shape) (l : Led) → rest at ≡ Some l → leaf at ≡ Some l.size)
    → chain o (λ r. chain i (λ y. one (led_by r y) (rest r.shape))) ≡ Some l → option_and_then (λ r. leaf r.shape) o ≡ Some l.size
leaf_elements None i rest leaf l k h = absurd (cc h)
leaf_elements (Some r) None rest leaf l k h = absurd (cc h)
leaf_elements (Some r) (Some y) rest leaf l k h = leaf_element r y (rest r.shape) (leaf r.shape) l (k r.shape) h

leaf_parts : (o : Option Part) (rest : Shape → Option Led) (leaf : Shape → Option ℕ) (l : Led) → ((at : Shape) (l : Led) → rest at ≡ Some l → leaf at ≡ Some l.size)
    → chain o (λ r. one (led_in r.offset) (rest r.shape)) ≡ Some l → option_and_then (λ r. leaf r.shape) o ≡ Some l.size
leaf_parts None rest leaf l k h = absurd (cc h)
leaf_parts (Some r) rest leaf l k h = leaf_member r.offset (rest r.shape) (leaf r.shape) l (k r.shape) h

lead_leaf : (s : Scope) (b : Bound) (steps : Steps) (at : Shape) (l : Led) → lead s b steps at ≡ Some l → leaf_at steps at ≡ Some l.size
lead_leaf s b no_steps at l h = leaf_end (bytes_of at) l h
lead_leaf s b (step_and (element e) steps) at l h =
    leaf_elements (elements_of at) (index_at (index_kind (own s e)) (take s b (index_kind (own s e)) e)) (lead s b steps) (leaf_at steps) l (lead_leaf s b steps) h
lead_leaf s b (step_and (member k) steps) at l h = leaf_parts (part_of k at) (lead s b steps) (leaf_at steps) l (lead_leaf s b steps) h

shape_path : (ke : Option (Unit {0})) (pl : Option ℕ) (sh : Option Shape) (p : PathOf)
    → chain ke (λ kernel. chain pl (λ place. one (λ shape. record { place = place; shape = shape }) sh)) ≡ Some p → sh ≡ Some p.shape
shape_path None pl sh p h = absurd (cc h)
shape_path (Some u) None sh p h = absurd (cc h)
shape_path (Some u) (Some place) None p h = absurd (cc h)
shape_path (Some u) (Some place) (Some shape) p h = ap (option_map (λ (p : PathOf). p.shape)) h

lead_agrees : (s : Scope) (b : Bound) (kind : Kind) (g : Name) (steps : Steps) (p : PathOf) (l : Option Led) (x : tree.Tree) (wide : Option tree.Tree) → shape_of s.kernel g ≡ Some p.shape → lead s b steps p.shape ≡ l
    → chain l (λ l. given_at kind (Number (8 * l.size)) (tree.path p.place l.base l.at l.size)) ≡ Some x → Agrees (own s (path g steps)) kind wide
lead_agrees s b kind g steps p None x wide shape leads h = absurd (cc h)
lead_agrees s b kind g steps p (Some l) x wide shape leads h =
    subst (λ o. Agrees (option_map (λ n. Number (8 * n)) o) kind wide) (sym (ap (option_and_then (leaf_at steps)) shape ∙ lead_leaf s b steps p.shape l leads))
    (given_is kind (Number (8 * l.size)) (tree.path p.place l.base l.at l.size) x h)

path_agrees : (s : Scope) (b : Bound) (kind : Kind) (g : Name) (steps : Steps) (p : Option PathOf) (x : tree.Tree) (wide : Option tree.Tree) → path_of s g ≡ p
    → chain p (λ p. chain (lead s b steps p.shape) (λ l. given_at kind (Number (8 * l.size)) (tree.path p.place l.base l.at l.size))) ≡ Some x → Agrees (own s (path g steps)) kind wide
path_agrees s b kind g steps None x wide is h = absurd (cc h)
path_agrees s b kind g steps (Some p) x wide is h =
    lead_agrees s b kind g steps p (lead s b steps p.shape) x wide
    (shape_path (kernel_meant (meaning s (codes "kernel"))) (global_place s.kernel g) (shape_of s.kernel g) p is) refl h

-- ---- operators

one_some : {A B : Type 0} (f : A → B) (o : Option A) (x : B) → one f o ≡ Some x → (a : A) × (o ≡ Some a)
one_some f None x h = absurd (cc h)
one_some f (Some a) x h = (a, refl)

pair_some : {A B : Type 0} (o : Option A) (p : Option B) (x : A × B) → pair o p ≡ Some x → ((a : A) × (o ≡ Some a)) × ((b : B) × (p ≡ Some b))
pair_some None p x h = absurd (cc h)
pair_some (Some a) None x h = absurd (cc h)
pair_some (Some a) (Some b) x h = ((a, refl), (b, refl))

abbrev Agree : Scope → Bound → Tree → Type 0
Agree s b e = (kind : Kind) (x : tree.Tree) → take s b kind e ≡ Some x → Agrees (own s e) kind (take s b (Number 64) e)

two_agree : {C : Type 0} (s : Scope) (b : Bound) (kind : Kind) (a c : Tree) (f : tree.Tree × tree.Tree → C) (x : C) → Agree s b a → Agree s b c → one f (pair (take s b kind a) (take s b kind c)) ≡ Some x
    → Agrees (first (own s a) (own s c)) kind (one f (pair (take s b (Number 64) a) (take s b (Number 64) c)))
two_agree s b kind a c f x p q h =
    let both_taken = one_some f (pair (take s b kind a) (take s b kind c)) x h in
    let parts = pair_some (take s b kind a) (take s b kind c) both_taken.0 both_taken.1 in
    agrees_one f (first (own s a) (own s c)) kind (pair (take s b (Number 64) a) (take s b (Number 64) c))
    (agrees_pair (own s a) (own s c) kind (take s b (Number 64) a) (take s b (Number 64) c) (p kind parts.0.0 parts.0.1) (q kind parts.1.0 parts.1.1))

number_agrees : (s : Scope) (b : Bound) (op : UnKind) (kind : Kind) (a : Tree) (x : tree.Tree) → Agree s b a → chain (number_at kind kind) (λ j. one (tree.unary op) (take s b kind a)) ≡ Some x
    → Agrees (own s a) kind (one (tree.unary op) (take s b (Number 64) a))
number_agrees s b op Truth a x p h = absurd (cc h)
number_agrees s b op (Number w) a x p h =
    let taken = one_some (tree.unary op) (take s b (Number w) a) x h in
    agrees_one (tree.unary op) (own s a) (Number w) (take s b (Number 64) a) (p (Number w) taken.0 taken.1)

truth_asked : {B : Type 0} (kind : Kind) (f : Kind → Option B) (x : B) → chain (given_at kind Truth kind) f ≡ Some x → kind ≡ Truth
truth_asked Truth f x h = refl
truth_asked (Number w) f x h = absurd (cc h)

un_agrees : (s : Scope) (b : Bound) (op : UnKind) (a : Tree) → Agree s b a → Agree s b (unary op a)
un_agrees s b Not a p kind x h = truth_asked kind (λ j. one (tree.unary Not) (take s b kind a)) x h
un_agrees s b Minus a p kind x h = number_agrees s b Minus kind a x p h
un_agrees s b Complement a p kind x h = number_agrees s b Complement kind a x p h

class_agrees : (class : Class) (s : Scope) (b : Bound) (op : BinKind) (kind : Kind) (a c : Tree) (x : tree.Tree) → Agree s b a → Agree s b c
    → chain (asked class kind (first (own s a) (own s c))) (λ j. one (λ p. tree.binary op p.0 p.1) (pair (take s b j a) (take s b j c))) ≡ Some x
    → Agrees (class_kind class (first (own s a) (own s c))) kind
    (chain (asked class (Number 64) (first (own s a) (own s c))) (λ j. one (λ p. tree.binary op p.0 p.1) (pair (take s b j a) (take s b j c))))
class_agrees arithmetic s b op Truth a c x p q h = absurd (cc h)
class_agrees arithmetic s b op (Number w) a c x p q h = two_agree s b (Number w) a c (λ p. tree.binary op p.0 p.1) x p q h
class_agrees equality s b op Truth a c x p q h = refl
class_agrees equality s b op (Number w) a c x p q h = absurd (cc h)
class_agrees ordering s b op Truth a c x p q h = refl
class_agrees ordering s b op (Number w) a c x p q h = absurd (cc h)
class_agrees logic s b op Truth a c x p q h = refl
class_agrees logic s b op (Number w) a c x p q h = absurd (cc h)

choice_agrees : (s : Scope) (b : Bound) (kind : Kind) (t : Option tree.Tree) (a d : Tree) (x : tree.Tree) → Agree s b a → Agree s b d
    → chain (number_at kind kind) (λ j. chain t (λ t. one (λ p. tree.choose t p.0 p.1) (pair (take s b kind a) (take s b kind d)))) ≡ Some x
    → Agrees (first (own s a) (own s d)) kind (chain t (λ t. one (λ p. tree.choose t p.0 p.1) (pair (take s b (Number 64) a) (take s b (Number 64) d))))
choice_agrees s b Truth t a d x p q h = absurd (cc h)
choice_agrees s b (Number w) None a d x p q h = absurd (cc h)
choice_agrees s b (Number w) (Some t) a d x p q h = two_agree s b (Number w) a d (λ p. tree.choose t p.0 p.1) x p q h

resize_if : (kind : Kind) (c : Bool) (o : Option tree.Tree) (op : RawResize) (v : ℕ) (x : tree.Tree)
    → (if c then chain o (λ y. given_at kind (Number v) (tree.resize (resize_kind op) y)) else None) ≡ Some x → kind ≡ Number v
resize_if kind true o op v x h = chain_given kind (Number v) o (λ y. tree.resize (resize_kind op) y) x h
resize_if kind false o op v x h = absurd (cc h)

resize_agrees : (op : RawResize) (kind : Kind) (k : Option Kind) (on : ℕ → Option tree.Tree) (x : tree.Tree) (wide : Option tree.Tree) → resized_at op kind k on ≡ Some x → Agrees (resized_kind op k) kind wide
resize_agrees op kind None on x wide h = absurd (cc h)
resize_agrees op kind (Some Truth) on x wide h = absurd (cc h)
resize_agrees op kind (Some (Number w)) on x wide h = resize_if kind (fits_resize (resize_kind op) w) (on w) op (resized_width (resize_kind op) w) x h

-- ---- expressions

agrees : (s : Scope) (b : Bound) (e : Tree) → Agree s b e
agrees s b (literal n) kind x h = literal_wide kind (pos n) x h
agrees s b (truth t) kind x h = given_is kind Truth _ x h
agrees s b (named y) kind x h = name_agrees b kind y (meaning s y) x h
agrees s b (read o f) kind x h =
    entry_agrees kind (state_meant (meaning s o)) (field_place s f) (field_sort s f) (read_of s o f) (λ r. no_keys r.sort.keys r) (λ r q. tree.entry r.which r.place tree.no_trees) x _ refl h
agrees s b (read_at o f es) kind x h =
    entry_agrees kind (state_meant (meaning s o)) (field_place s f) (field_sort s f) (read_of s o f) (λ r. take_keys s b r.sort.keys es) (λ r at. tree.entry r.which r.place at) x _ refl h
agrees s b (path g steps) kind x h = path_agrees s b kind g steps (path_of s g) x _ refl h
agrees s b (unary op a) kind x h = un_agrees s b op a (agrees s b a) kind x h
agrees s b (binary op a c) kind x h = class_agrees (class_of op) s b op kind a c x (agrees s b a) (agrees s b c) h
agrees s b (all_of es) kind x h = chain_given kind Truth (take_truths s b es) (λ ys. tree.all_of ys) x h
agrees s b (any_of es) kind x h = chain_given kind Truth (take_truths s b es) (λ ys. tree.any_of ys) x h
agrees s b (choose c a d) kind x h = choice_agrees s b kind (take s b Truth c) a d x (agrees s b a) (agrees s b d) h
agrees s b (resize op a) kind x h = resize_agrees op kind (own s a) (λ w. take s b (Number w) a) x _ h
agrees s b (sized n w) kind x h = test_given kind (Number w) (is_sized n w) (tree.constant w n) x h
agrees s b (for_all xs a) kind x h = chains_given kind Truth (sizes_of s b xs) (take s (b ++ xs) Truth a) (λ sizes y. tree.for_all sizes y) x h
agrees s b (exists xs a) kind x h = chains_given kind Truth (sizes_of s b xs) (take s (b ++ xs) Truth a) (λ sizes y. tree.exists sizes y) x h

never : (s : Scope) (b : Bound) (e : Tree) (k : Option Kind) (kind : Kind) (x : tree.Tree) → take s b (index_kind k) e ≡ None → take s b kind e ≡ Some x → Agrees k kind (take s b (Number 64) e) → ⊥
never s b e None kind x h is a = cc (h, a.1)
never s b e (Some k) kind x h is a = let same = ap (λ j. take s b j e) a in cc (h, is, same)

-- what stands for nothing there stands for nothing anywhere
pub nowhere : (s : Scope) (b : Bound) (e : Tree) → take s b (index_kind (own s e)) e ≡ None → (kind : Kind) → take s b kind e ≡ None
nowhere s b e h kind = by (take s b kind e) refl
  where
    by : (o : Option tree.Tree) → take s b kind e ≡ o → o ≡ None
    by None is = refl
    by (Some x) is = absurd (never s b e (own s e) kind x h is (agrees s b e kind x is))

pub fits_there : (s : Scope) (b : Bound) (e : Tree) (kind : Kind) (r : Bool) → index_kind (own s e) ≡ kind → Stands s b kind e r → IsFitting s b e r
fits_there s b e kind true is h = record { kind = kind; stands = h.0; taken = h.1 }
fits_there s b e kind false is h = nowhere s b e (ap (λ k. take s b k e) is ∙ h)

pub fits_nowhere : (s : Scope) (b : Bound) (e : Tree) → ((b : Bound) → take s b (index_kind (own s e)) e ≡ None) → IsFitting s b e false
fits_nowhere s b e h = nowhere s b e (h b)
