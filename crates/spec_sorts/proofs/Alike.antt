-- A test of an expression's parts under other bound names that make no difference to it.
use Rattle.std.proofs.Common.{◌≡◌, ℕ, ◌*◌, ◌^◌, Bool, true, false, ◌||◌, List, [], ◌∷◌, ◌++◌, map, refl, sym, ◌∙◌, ap, mul_assoc, arith}
use Rattle.std.specs.Prelude.{if◌then◌else◌, nat_lt, bytes_eq}
use Rattle.std.proofs.lemmas.List.{map-append}
use Rattle.std.proofs.lemmas.List.Folds.{list_any-append}
use Rattle.spec_ast.specs.Raw as raw
use Rattle.spec_ast.specs.Raw.{Tree, literal, truth, named, read, read_at, unary, binary, choose, sized, Trees, Steps, element, member}
use Rattle.spec_tree.specs.Sorted.{product}
use Rattle.spec_names.specs.Kernel.{Name}
use Rattle.spec_scope.specs.Scope.{Scope, meaning, is_among, bound_behind}
use Rattle.spec_scope.specs.Tests.{somewhere, somewhere_among, somewhere_in, size_of, tuples_of, is_wide, is_read}

abbrev Test : Type 0
Test = List Name → Tree → Bool

abbrev Relation : Type 1
Relation = List Name → List Name → Type 0

abbrev Goes : Relation → Type 0
Goes R = (b d xs : List Name) → R b d → R (bound_behind b xs) (bound_behind d xs)

abbrev Same : Relation → Test → Type 0
Same R test = (b d : List Name) (e : Tree) → R b d → test b e ≡ test d e

or_same : (a c b d : Bool) → a ≡ c → b ≡ d → (a || b) ≡ (c || d)
or_same a c b d e f = rw (e, f) refl

mutual
  somewhere_same : (R : Relation) (test : Test) → Goes R → Same R test → (b d : List Name) (e : Tree) → R b d → somewhere test b e ≡ somewhere test d e
  somewhere_same R test g t b d (literal n) r = t b d (literal n) r
  somewhere_same R test g t b d (truth n) r = t b d (truth n) r
  somewhere_same R test g t b d (named x) r = t b d (named x) r
  somewhere_same R test g t b d (read o f) r = t b d (read o f) r
  somewhere_same R test g t b d (read_at o f es) r =
      or_same (test b (read_at o f es)) (test d (read_at o f es)) (somewhere_among test b es) (somewhere_among test d es) (t b d (read_at o f es) r) (among_same R test g t b d es r)
  somewhere_same R test g t b d (raw.path x steps) r =
      or_same (test b (raw.path x steps)) (test d (raw.path x steps)) (somewhere_in test b steps) (somewhere_in test d steps) (t b d (raw.path x steps) r) (in_same R test g t b d steps r)
  somewhere_same R test g t b d (unary op a) r =
      or_same (test b (unary op a)) (test d (unary op a)) (somewhere test b a) (somewhere test d a) (t b d (unary op a) r) (somewhere_same R test g t b d a r)
  somewhere_same R test g t b d (binary op a c) r =
      or_same (test b (binary op a c)) (test d (binary op a c)) (somewhere test b a || somewhere test b c) (somewhere test d a || somewhere test d c) (t b d (binary op a c) r)
      (or_same (somewhere test b a) (somewhere test d a) (somewhere test b c) (somewhere test d c) (somewhere_same R test g t b d a r) (somewhere_same R test g t b d c r))
  somewhere_same R test g t b d (raw.all_of es) r =
      or_same (test b (raw.all_of es)) (test d (raw.all_of es)) (somewhere_among test b es) (somewhere_among test d es) (t b d (raw.all_of es) r) (among_same R test g t b d es r)
  somewhere_same R test g t b d (raw.any_of es) r =
      or_same (test b (raw.any_of es)) (test d (raw.any_of es)) (somewhere_among test b es) (somewhere_among test d es) (t b d (raw.any_of es) r) (among_same R test g t b d es r)
  somewhere_same R test g t b d (choose c a e) r =
      or_same (test b (choose c a e)) (test d (choose c a e)) (somewhere test b c || (somewhere test b a || somewhere test b e)) (somewhere test d c || (somewhere test d a || somewhere test d e))
      (t b d (choose c a e) r)
      (or_same (somewhere test b c) (somewhere test d c) (somewhere test b a || somewhere test b e) (somewhere test d a || somewhere test d e) (somewhere_same R test g t b d c r)
      (or_same (somewhere test b a) (somewhere test d a) (somewhere test b e) (somewhere test d e) (somewhere_same R test g t b d a r) (somewhere_same R test g t b d e r)))
  somewhere_same R test g t b d (raw.resize op a) r =
      or_same (test b (raw.resize op a)) (test d (raw.resize op a)) (somewhere test b a) (somewhere test d a) (t b d (raw.resize op a) r) (somewhere_same R test g t b d a r)
  somewhere_same R test g t b d (sized n w) r = t b d (sized n w) r
  somewhere_same R test g t b d (raw.for_all xs a) r =
      or_same (test b (raw.for_all xs a)) (test d (raw.for_all xs a)) (somewhere test (bound_behind b xs) a) (somewhere test (bound_behind d xs) a) (t b d (raw.for_all xs a) r)
      (somewhere_same R test g t (bound_behind b xs) (bound_behind d xs) a (g b d xs r))
  somewhere_same R test g t b d (raw.exists xs a) r =
      or_same (test b (raw.exists xs a)) (test d (raw.exists xs a)) (somewhere test (bound_behind b xs) a) (somewhere test (bound_behind d xs) a) (t b d (raw.exists xs a) r)
      (somewhere_same R test g t (bound_behind b xs) (bound_behind d xs) a (g b d xs r))

  among_same : (R : Relation) (test : Test) → Goes R → Same R test → (b d : List Name) (es : Trees) → R b d → somewhere_among test b es ≡ somewhere_among test d es
  among_same R test g t b d raw.no_trees r = refl
  among_same R test g t b d (raw.tree_and e es) r =
      or_same (somewhere test b e) (somewhere test d e) (somewhere_among test b es) (somewhere_among test d es) (somewhere_same R test g t b d e r) (among_same R test g t b d es r)

  in_same : (R : Relation) (test : Test) → Goes R → Same R test → (b d : List Name) (steps : Steps) → R b d → somewhere_in test b steps ≡ somewhere_in test d steps
  in_same R test g t b d raw.no_steps r = refl
  in_same R test g t b d (raw.step_and (element e) steps) r =
      or_same (somewhere test b e) (somewhere test d e) (somewhere_in test b steps) (somewhere_in test d steps) (somewhere_same R test g t b d e r) (in_same R test g t b d steps r)
  in_same R test g t b d (raw.step_and (member k) steps) r = in_same R test g t b d steps r

-- ---- reads, whatever is bound

abbrev Any : Relation
Any b d = Unit {0}

read_same : (s : Scope) → Same Any (is_read s)
read_same s b d (literal n) r = refl
read_same s b d (truth n) r = refl
read_same s b d (named x) r = refl
read_same s b d (read o f) r = refl
read_same s b d (read_at o f es) r = refl
read_same s b d (raw.path x steps) r = refl
read_same s b d (unary op a) r = refl
read_same s b d (binary op a c) r = refl
read_same s b d (raw.all_of es) r = refl
read_same s b d (raw.any_of es) r = refl
read_same s b d (choose c a e) r = refl
read_same s b d (raw.resize op a) r = refl
read_same s b d (sized n w) r = refl
read_same s b d (raw.for_all xs a) r = refl
read_same s b d (raw.exists xs a) r = refl

pub reads_under : (s : Scope) (b d : List Name) (e : Tree) → somewhere (is_read s) b e ≡ somewhere (is_read s) d e
reads_under s b d e = somewhere_same Any (is_read s) (λ b d xs r. tt) (read_same s) b d e tt

-- ---- nests, whatever the order

-- the same names, with as many index tuples
pub record Alike (s : Scope) (b d : List Name) : Type 0 where
  pub among : (z : Name) → is_among z b ≡ is_among z d
  pub tuples : tuples_of s b ≡ tuples_of s d

product_push : (ns : List ℕ) (n : ℕ) → product (ns ++ n ∷ []) ≡ product ns * n
product_push [] n = omega arith
product_push (m ∷ ns) n = ap (λ p. m * p) (product_push ns n) ∙ sym (mul_assoc m (product ns) n)

tuples_push : (s : Scope) (b : List Name) (x : Name) → tuples_of s (b ++ x ∷ []) ≡ tuples_of s b * size_of (meaning s x)
tuples_push s b x = ap product (map-append (λ y. size_of (meaning s y)) b (x ∷ [])) ∙ product_push (map (λ y. size_of (meaning s y)) b) (size_of (meaning s x))

pushed : (s : Scope) (b d : List Name) (x : Name) → Alike s b d → Alike s (b ++ x ∷ []) (d ++ x ∷ [])
pushed s b d x a = record {
  among = λ z. list_any-append (bytes_eq z) b (x ∷ []) ∙ ap (λ (t : Bool). t || is_among z (x ∷ [])) (a.among z) ∙ sym (list_any-append (bytes_eq z) d (x ∷ []));
  tuples = tuples_push s b x ∙ ap (λ (n : ℕ). n * size_of (meaning s x)) a.tuples ∙ sym (tuples_push s d x);
}

one_behind : (s : Scope) (b d : List Name) (x : Name) (t v : Bool) → t ≡ v → Alike s b d → Alike s (if t then b else b ++ x ∷ []) (if v then d else d ++ x ∷ [])
one_behind s b d x true true e a = a
one_behind s b d x false false e a = pushed s b d x a
one_behind s b d x true false e a = cc
one_behind s b d x false true e a = cc

alike_behind : (s : Scope) → Goes (Alike s)
alike_behind s b d [] a = a
alike_behind s b d (x ∷ xs) a =
    alike_behind s (if is_among x b then b else b ++ x ∷ []) (if is_among x d then d else d ++ x ∷ []) xs (one_behind s b d x (is_among x b) (is_among x d) (a.among x) a)

wide_same : (s : Scope) → Same (Alike s) (is_wide s)
wide_same s b d (literal n) r = refl
wide_same s b d (truth n) r = refl
wide_same s b d (named x) r = refl
wide_same s b d (read o f) r = refl
wide_same s b d (read_at o f es) r = refl
wide_same s b d (raw.path x steps) r = refl
wide_same s b d (unary op a) r = refl
wide_same s b d (binary op a c) r = refl
wide_same s b d (raw.all_of es) r = refl
wide_same s b d (raw.any_of es) r = refl
wide_same s b d (choose c a e) r = refl
wide_same s b d (raw.resize op a) r = refl
wide_same s b d (sized n w) r = refl
wide_same s b d (raw.for_all xs a) r = ap (nat_lt (2 ^ 20)) (alike_behind s b d xs r).tuples
wide_same s b d (raw.exists xs a) r = ap (nat_lt (2 ^ 20)) (alike_behind s b d xs r).tuples

pub wide_under : (s : Scope) (b d : List Name) (e : Tree) → Alike s b d → somewhere (is_wide s) b e ≡ somewhere (is_wide s) d e
wide_under s b d e a = somewhere_same (Alike s) (is_wide s) (alike_behind s) (wide_same s) b d e a
