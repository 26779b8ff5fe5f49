-- The right side of an equation is well sorted over the keys of its field.
use Rattle.std.proofs.Common.{◌≡◌, ℕ, suc, Bool, true, false, ◌&&◌, ◌||◌, not, nat_eq, Option, Some, None, List, [], ◌∷◌, ◌++◌, map, length, append_assoc, append-nil, refl, sym, ◌∙◌, ap, subst, inr}
use Rattle.std.specs.Prelude.{if◌then◌else◌, bytes_eq}
use Rattle.std.specs.List.{list_all, list_any}
use Rattle.std.specs.Cmp.Lexicographic.{same_text}
use Rattle.std.proofs.lemmas.Bool.{eqb-true}
use Rattle.std.proofs.lemmas.List.Folds.{list_any-append}
use Rattle.spec_ast.specs.declared.kind.BinKind.{BinKind}
use Rattle.spec_ast.specs.declared.kind.BinKind.TheVariants.{Eq}
use Rattle.spec_ast.specs.Raw as raw
use Rattle.spec_ast.specs.Raw.{Tree, named, read, read_at, binary}
use Rattle.spec_tree.specs.Plain.{Key}
use Rattle.spec_tree.specs.Sorted.{FieldSort, key_sizes, with_bounds}
use Rattle.spec_names.specs.Kernel.{Name}
use Rattle.spec_scope.specs.declared.meaning.Kind.TheVariants.{Number}
use Rattle.spec_scope.specs.declared.meaning.Meaning.{Meaning}
use Rattle.spec_scope.specs.declared.meaning.Meaning.TheVariants as means
use Rattle.spec_scope.specs.Scope.{Scope, meaning, field_sort, is_among, bound_behind}
use Rattle.spec_scope.specs.Takes.{AreVariables}
use Rattle.spec_scope.specs.Tests.{somewhere, size_of, is_wide, is_read}
use Rattle.spec_lines.specs.Behind.{reads_state}
use Rattle.spec_lines.specs.Equations.{Equation, left_of, equated, plain_equation, equation_of, is_key, is_argument, are_no_arguments, are_arguments, is_name, are_distinct, are_listed, has_arguments, is_old, is_right, right_one, arguments_behind, key_names}
use Rattle.spec_sorts.specs.Laws.{EquationIsSorted}
use Rattle.spec_sorts.proofs.Small.{some_is, neither, both_are, tested}
use Rattle.spec_sorts.proofs.Found.{found}
use Rattle.spec_sorts.proofs.Sorted.{taken_sorted, matches_under}
use Rattle.spec_sorts.proofs.Listed.{name_is, not_not, Arranged, arranged}
use Rattle.spec_sorts.proofs.Alike.{Alike, reads_under, wide_under}

-- ---- arguments are variables of the sorts of the keys

-- the name of an argument, with the meaning that its key asks for
record Argued (s : Scope) (key : Key) (e : Tree) : Type 0 where
  name : Name
  is : e ≡ named name
  means : meaning s name ≡ Some (means.Variable key.width key.size)

key_is : (key : Key) (o : Option Meaning) → is_key key o ≡ true → o ≡ Some (means.Variable key.width key.size)
key_is key (Some (means.Variable w n)) h =
    let p = both_are (nat_eq key.width w) (nat_eq key.size n) h in
    ap (λ (k : ℕ). Some (means.Variable k n)) (sym (eqb-true key.width w p.0)) ∙ ap (λ (k : ℕ). Some (means.Variable key.width k)) (sym (eqb-true key.size n p.1))
key_is key (Some (means.Constant n)) h = cc
key_is key (Some (means.Argument place w)) h = cc
key_is key (Some (means.State which)) h = cc
key_is key (Some (means.Local place k reads)) h = cc
key_is key (Some (means.Sort t)) h = cc
key_is key (Some means.Kernel) h = cc
key_is key (Some means.Nothing) h = cc
key_is key None h = cc

argued : (s : Scope) (key : Key) (e : Tree) → is_argument s key e ≡ true → Argued s key e
argued s key (named x) h = record { name = x; is = refl; means = key_is key (meaning s x) h }
argued s key e h = cc

-- the names of arguments, with the sizes that they have
abbrev Sized : Scope → List Name → List ℕ → Type 0
Sized s [] ns = ns ≡ []
Sized s (x ∷ xs) ns = (w : ℕ) × (n : ℕ) × (others : List ℕ) × (meaning s x ≡ Some (means.Variable w n)) × Sized s xs others × (ns ≡ n ∷ others)

record Arguments (s : Scope) (keys : List Key) (es : List Tree) : Type 0 where
  names : List Name
  are : es ≡ map named names
  sized : Sized s names (key_sizes keys)

none_are : (es : List Tree) → are_no_arguments es ≡ true → es ≡ []
none_are [] h = refl
none_are (e ∷ es) h = cc

arguments_are : (s : Scope) (keys : List Key) (es : List Tree) → are_arguments s keys es ≡ true → Arguments s keys es
arguments_are s [] es h = record { names = []; are = none_are es h; sized = refl }
arguments_are s (key ∷ keys) [] h = cc
arguments_are s (key ∷ keys) (e ∷ es) h =
    let p = both_are (is_argument s key e) (are_arguments s keys es) h in
    let a = argued s key e p.0 in
    let r = arguments_are s keys es p.1 in
    record {
      names = a.name ∷ r.names;
      are = ap (λ (d : Tree). d ∷ es) a.is ∙ ap (λ (ds : List Tree). named a.name ∷ ds) r.are;
      sized = (key.width, key.size, key_sizes keys, a.means, r.sized, refl);
    }

-- ---- names of arguments

named_among : (z : Name) (xs : List Name) → list_any (is_name z) (map named xs) ≡ is_among z xs
named_among z [] = refl
named_among z (x ∷ xs) = ap (λ (t : Bool). bytes_eq z x || t) (named_among z xs)

all_named : (xs ys : List Name) → list_all (λ x. list_any (is_name x) (map named ys)) xs ≡ list_all (λ z. is_among z ys) xs
all_named [] ys = refl
all_named (x ∷ xs) ys = rw (named_among x ys, all_named xs ys) refl

named_length : (xs : List Name) → length (map named xs) ≡ length xs
named_length [] = refl
named_length (x ∷ xs) = ap suc (named_length xs)

named_behind : (b xs : List Name) → arguments_behind b (map named xs) ≡ bound_behind b xs
named_behind b [] = refl
named_behind b (x ∷ xs) = named_behind (if is_among x b then b else b ++ x ∷ []) xs

listed : (f : Name → ℕ) (xs ys : List Name) → are_listed xs (map named ys) ≡ true → (are_distinct xs ≡ true) × Arranged f xs ys
listed f xs ys h =
    let p = both_are (nat_eq (length xs) (length (map named ys))) (are_distinct xs && list_all (λ x. list_any (is_name x) (map named ys)) xs) h in
    let q = both_are (are_distinct xs) (list_all (λ x. list_any (is_name x) (map named ys)) xs) p.1 in
    let len = eqb-true (length xs) (length (map named ys)) p.0 ∙ named_length ys in
    (q.0, arranged f xs ys q.0 len (sym (all_named xs ys) ∙ q.1))

-- ---- distinct names are bound one behind the other

-- none of these is among those
abbrev Apart : List Name → List Name → Type 0
Apart ys b = (z : Name) → is_among z ys ≡ true → is_among z b ≡ false

among_rest : (z x : Name) (xs : List Name) → is_among z xs ≡ true → is_among z (x ∷ xs) ≡ true
among_rest z x xs h = rw h (or_true (bytes_eq z x))
  where
    or_true : (t : Bool) → (t || true) ≡ true
    or_true true = refl
    or_true false = refl

differs_by : (t : Bool) (z x : Name) (xs : List Name) → bytes_eq z x ≡ t → is_among x xs ≡ false → is_among z xs ≡ true → bytes_eq z x ≡ false
differs_by false z x xs e h m = e
differs_by true z x xs e h m = let same : z ≡ x = same_text z x (sym e) in absurd (apart (sym m ∙ ap (λ (y : Name). is_among y xs) same ∙ h))
  where
    apart : true ≡ false → ⊥
    apart e = cc

apart_push : (x : Name) (xs b : List Name) → is_among x xs ≡ false → Apart (x ∷ xs) b → Apart xs (b ++ x ∷ [])
apart_push x xs b h a = λ z m.
    list_any-append (bytes_eq z) b (x ∷ []) ∙ ap (λ (t : Bool). t || is_among z (x ∷ [])) (a z (among_rest z x xs m))
    ∙ ap (λ (t : Bool). t || false) (differs_by (bytes_eq z x) z x xs refl h m)

bound_apart : (x : Name) (xs b : List Name) → Apart (x ∷ xs) b → is_among x b ≡ false
bound_apart x xs b a = a x (ap (λ (t : Bool). t || is_among x xs) (name_is x))

variables_of : (s : Scope) (b xs : List Name) (ns : List ℕ) → are_distinct xs ≡ true → Apart xs b → Sized s xs ns → AreVariables s b xs ns
variables_of s b [] ns d a is = is
variables_of s b (x ∷ xs) ns d a is =
    let p = both_are (not (is_among x xs)) (are_distinct xs) d in
    let h = not_not (is_among x xs) p.0 in
    (is.0, is.1, is.2, is.3, bound_apart x xs b a, variables_of s (b ++ x ∷ []) xs is.2 p.1 (apart_push x xs b h a) is.4, is.5)

distinct_behind : (b xs : List Name) → are_distinct xs ≡ true → Apart xs b → bound_behind b xs ≡ b ++ xs
distinct_behind b [] d a = sym (append-nil b)
distinct_behind b (x ∷ xs) d a =
    let p = both_are (not (is_among x xs)) (are_distinct xs) d in
    let h = not_not (is_among x xs) p.0 in
    ap (λ (t : Bool). bound_behind (if t then b else b ++ x ∷ []) xs) (bound_apart x xs b a) ∙ distinct_behind (b ++ x ∷ []) xs p.1 (apart_push x xs b h a)
    ∙ append_assoc b (x ∷ []) xs

-- ---- equations

left_is : (xs : List Name) (a e : Tree) (q : Equation) → left_of xs a e ≡ Some q → (q.variables ≡ xs) × (q.right ≡ e)
left_is xs (read o f) e q h = let p = some_is h in (sym (ap (λ (k : Equation). k.variables) p), sym (ap (λ (k : Equation). k.right) p))
left_is xs (read_at o f es) e q h = let p = some_is h in (sym (ap (λ (k : Equation). k.variables) p), sym (ap (λ (k : Equation). k.right) p))
left_is xs a e q h = cc

equated_is : (xs : List Name) (op : BinKind) (a e : Tree) (q : Equation) → equated xs op a e ≡ Some q → (q.variables ≡ xs) × (q.right ≡ e)
equated_is xs Eq a e q h = left_is xs a e q h
equated_is xs op a e q h = cc

plain_is : (s : Scope) (b xs : List Name) (e : Tree) (q : Equation) → plain_equation xs e ≡ Some q → somewhere (is_wide s) b e ≡ false
    → (q.variables ≡ xs) × (somewhere (is_wide s) b q.right ≡ false)
plain_is s b xs (binary op a d) q h w =
    let p = equated_is xs op a d q h in
    (p.0, ap (somewhere (is_wide s) b) p.1 ∙ (neither (somewhere (is_wide s) b a) (somewhere (is_wide s) b d) w).1)
plain_is s b xs e q h w = cc

plain_narrow : (s : Scope) (e : Tree) (q : Equation) → plain_equation [] e ≡ Some q → somewhere (is_wide s) [] e ≡ false
    → somewhere (is_wide s) (bound_behind [] q.variables) q.right ≡ false
plain_narrow s e q h w =
    let p = plain_is s [] [] e q h w in ap (λ (xs : List Name). somewhere (is_wide s) (bound_behind [] xs) q.right) p.0 ∙ p.1

equation_narrow : (s : Scope) (e : Tree) (q : Equation) → equation_of e ≡ Some q → somewhere (is_wide s) [] e ≡ false
    → somewhere (is_wide s) (bound_behind [] q.variables) q.right ≡ false
equation_narrow s (raw.for_all xs a) q h w =
    let n = neither (is_wide s [] (raw.for_all xs a)) (somewhere (is_wide s) (bound_behind [] xs) a) w in
    let p = plain_is s (bound_behind [] xs) xs a q h n.1 in
    ap (λ (ys : List Name). somewhere (is_wide s) (bound_behind [] ys) q.right) p.0 ∙ p.1
equation_narrow s e q h w = plain_narrow s e q h w

right_is : (s : Scope) (o : Option Equation) (q : Equation) → right_one s o ≡ Some q → (o ≡ Some q) × (is_right s q ≡ true)
right_is s None q h = cc
right_is s (Some r) q h =
    let p = tested (is_right s r) (Some r) q h in (p.1, ap (is_right s) (sym (some_is p.1)) ∙ p.0)

-- what is known of an equation of a field of this sort
record Righted (s : Scope) (q : Equation) (sort : FieldSort) : Type 0 where
  arguments : are_arguments s sort.keys q.arguments ≡ true
  listed : are_listed q.variables q.arguments ≡ true
  quiet : somewhere (is_read s) [] q.right ≡ false

righted : (s : Scope) (q : Equation) (sort : FieldSort) → is_right s q ≡ true → field_sort s q.field ≡ Some sort → Righted s q sort
righted s q sort h f =
    let p = both_are (is_old (meaning s q.owner)) (has_arguments s q (field_sort s q.field) && not (reads_state s q.right)) h in
    let r = both_are (has_arguments s q (field_sort s q.field)) (not (reads_state s q.right)) p.1 in
    let a = both_are (are_arguments s sort.keys q.arguments) (are_listed q.variables q.arguments) (ap (has_arguments s q) (sym f) ∙ r.0) in
    record { arguments = a.0; listed = a.1; quiet = not_not (reads_state s q.right) r.1 }

-- the names that are bound at the right side of an equation, in the order of the keys
record Keyed (s : Scope) (q : Equation) (sort : FieldSort) : Type 0 where
  variables : AreVariables s [] (key_names q) (key_sizes sort.keys)
  alike : Alike s (bound_behind [] q.variables) (key_names q)

keyed : (s : Scope) (q : Equation) (sort : FieldSort) → Righted s q sort → Keyed s q sort
keyed s q sort r =
    let a = arguments_are s sort.keys q.arguments r.arguments in
    let l = listed (λ x. size_of (meaning s x)) q.variables a.names (subst (λ (es : List Tree). are_listed q.variables es ≡ true) a.are r.listed) in
    let free : (xs : List Name) → Apart xs [] = λ xs z m. refl in
    let names : key_names q ≡ a.names = ap (arguments_behind []) a.are ∙ named_behind [] a.names ∙ distinct_behind [] a.names l.1.distinct (free a.names) in
    let order : bound_behind [] q.variables ≡ q.variables = distinct_behind [] q.variables l.0 (free q.variables) in
    record {
      variables = subst (λ (xs : List Name). AreVariables s [] xs (key_sizes sort.keys)) (sym names) (variables_of s [] a.names (key_sizes sort.keys) l.1.distinct (free a.names) a.sized);
      alike = subst (λ (xs : List Name). Alike s (bound_behind [] q.variables) xs) (sym names)
          (subst (λ (xs : List Name). Alike s xs a.names) (sym order) (record { among = l.1.among; tuples = l.1.tuples }));
    }

pub equation_sorted : EquationIsSorted
equation_sorted s c e q sort y m none h w f t =
    let p = right_is s (equation_of e) q h in
    let r = righted s q sort p.1 f in
    let k = keyed s q sort r in
    let narrow = sym (wide_under s (bound_behind [] q.variables) (key_names q) q.right k.alike) ∙ equation_narrow s e q p.0 w in
    let quiet = reads_under s (key_names q) [] q.right ∙ r.quiet in
    let under = matches_under false s [] (key_names q) c (key_sizes sort.keys) m k.variables in
    taken_sorted false s (key_names q) (with_bounds c (key_sizes sort.keys)) (Number sort.width) q.right y under (m.sorts q.field sort f).wide narrow (inr quiet)
    (found s (key_names q) (Number sort.width) q.right y t)
