-- What is spelled is read there: leaves, calls, signs and operators.
use Rattle.std.proofs.Common.{◌≡◌, ℕ, zero, suc, ◌+◌, ◌-◌, ◌≤◌, ◌<◌, Bool, true, false, not, ◌⊎◌, inl, inr, List, [], ◌∷◌, ◌++◌, length, length-append, refl, ap, sym, subst, ◌∙◌, append_assoc, arith}
use Rattle.std.specs.Prelude.{Some, None, codes, bytes_eq, if◌then◌else◌}
use Rattle.spec_ast.specs.declared.kind.UnKind.{UnKind}
use Rattle.spec_ast.specs.declared.kind.UnKind.TheVariants.{Minus, Complement, Not}
use Rattle.spec_ast.specs.declared.kind.BinKind.{BinKind}
use Rattle.spec_ast.specs.declared.kind.BinKind.TheVariants.{Mul, Add, Sub, Shl, Ashr, Lshr, BitAnd, BitXor, BitOr, Udiv, Urem, Eq, Ne, Slt, Sle, Sgt, Sge, Ult, Ule, Ugt, Uge, Implies}
use Rattle.spec_ast.specs.declared.raw.RawResize.TheVariants.{ZeroExt, SignExt, Extract}
use Rattle.spec_ast.specs.Raw.{Tree, literal, truth, named, read, read_at, path, unary, binary, all_of, any_of, choose, resize, sized, for_all, exists, Trees, no_trees, tree_and, Step, element, member, Steps, no_steps, step_and}
use Rattle.spec_ast.specs.Depth.{depth, depths, step_depths}
use Rattle.spec_expr.specs.Words.{Text, is_keyword, begins_name, is_name, number_of}
use Rattle.spec_expr.specs.Spelling.{between, called, form_of, form_looseness, looseness, IsWrapped, AreJoined, IsCalled, IsStateName, Head, negation, resized, each_of, some_of, head_word, SpellsBare, SpellsAt}
use Rattle.spec_expr.specs.Grown.{Grown, lift, limited, limited_list, limited_steps}
use Rattle.spec_expr.specs.Reading.{Reader, after, past, operator_at, has_no_operator, is_free, by_operator, number_at, number_comma_at, head_at, headed_tree, CallKind, conjunction, disjunction, pair, choice, fixed, headed, call_of, one_deeper, grown_binary, grown_choice, leaf, closed_at, arguments_at, steps_at, call_at, read_from, leaf_of, number_or, grown_leaf, beside_at, unary_at, chain_at, level_at, compared_at, whole_at, expr_at}
use Rattle.spec_expr.proofs.Parts.{other_text, left_true}
use Rattle.spec_expr.proofs.GrownLaws.{bounded_lift, limited_choice}
use Rattle.spec_expr.proofs.Sound.{binary_limited}
use Rattle.spec_expr.proofs.PrimarySound.{headed_limited}
use Rattle.spec_expr.proofs.Complete.{no_operator_here, freer, freer_to, apart, goes, number_there, number_comma_there, kind_of, head_there, ReadsOn, Reads, expr_there, closed_there, AllRead, arguments_there, StepReads, AllSteps, round_free, comma_free, steps_there}

-- an operand before words that do not go on with it
chain_stops : (most : ℕ) (operand : Reader (Grown Tree)) (j m : ℕ) (g : Grown Tree) (rest : List Text) → is_free (suc j) rest ≡ true → chain_at most operand (suc j) m g rest ≡ Some (g, rest)
unfolding chain_at
chain_stops most operand j zero g rest free = refl
chain_stops most operand j (suc m) g [] free = refl
chain_stops most operand j (suc m) g (t ∷ ts) free = let none : operator_at (suc j) t ≡ None = no_operator_here j t ts free in rw none refl

pub level_up : (most : ℕ) (inner : Reader (Grown Tree)) (j : ℕ) (ts : List Text) (g : Grown Tree) (rest : List Text) → level_at most inner j ts ≡ Some (g, rest) →
    level_at most inner (suc j) ts ≡ chain_at most (level_at most inner j) (suc j) (length rest) g rest
unfolding level_at
level_up most inner j ts g rest is = goes {A = Grown Tree} {B = Grown Tree} (level_at most inner j ts) (λ a r. chain_at most (level_at most inner j) (suc j) (length r) a r) g rest is

level_to : (most : ℕ) (inner : Reader (Grown Tree)) (i d : ℕ) (ts : List Text) (g : Grown Tree) (rest : List Text) → level_at most inner i ts ≡ Some (g, rest) → is_free (d + i) rest ≡ true →
    level_at most inner (d + i) ts ≡ Some (g, rest)
level_to most inner i zero ts g rest is free = let e : i ≡ zero + i = omega arith in subst (λ k. level_at most inner k ts ≡ Some (g, rest)) e is
level_to most inner i (suc d) ts g rest is free =
    let e : suc (d + i) ≡ suc d + i = omega arith in
    let wide : is_free (suc (d + i)) rest ≡ true = subst (λ k. is_free k rest ≡ true) (sym e) free in
    let below : level_at most inner (d + i) ts ≡ Some (g, rest) = level_to most inner i d ts g rest is (freer (d + i) rest wide) in
    subst (λ k. level_at most inner k ts ≡ Some (g, rest)) e
    (level_up most inner (d + i) ts g rest below ∙ chain_stops most (level_at most inner (d + i)) (d + i) (length rest) g rest wide)

level_at_least : (most : ℕ) (inner : Reader (Grown Tree)) (i j : ℕ) (ts : List Text) (g : Grown Tree) (rest : List Text) → i ≤ j → level_at most inner i ts ≡ Some (g, rest) → is_free j rest ≡ true →
    level_at most inner j ts ≡ Some (g, rest)
level_at_least most inner i j ts g rest h is free =
    let e : (j - i) + i ≡ j = omega (arith, h) in
    subst (λ k. level_at most inner k ts ≡ Some (g, rest)) e (level_to most inner i (j - i) ts g rest is (subst (λ k. is_free k rest ≡ true) (sym e) free))

compared_stops : (most : ℕ) (operand : Reader (Grown Tree)) (g : Grown Tree) (rest : List Text) → is_free 7 rest ≡ true → compared_at most operand g rest ≡ Some (g, rest)
compared_stops most operand g [] free = refl
compared_stops most operand g (t ∷ ts) free = let none : operator_at 7 t ≡ None = no_operator_here 6 t ts free in rw none refl

whole_stops : (most : ℕ) (inner : Reader (Grown Tree)) (ts : List Text) (g : Grown Tree) (rest : List Text) → level_at most inner 6 ts ≡ Some (g, rest) → is_free 7 rest ≡ true → whole_at most inner ts ≡ Some (g, rest)
whole_stops most inner ts g rest is free =
    goes {A = Grown Tree} {B = Grown Tree} (level_at most inner 6 ts) (λ a r. compared_at most (level_at most inner 6) a r) g rest is ∙ compared_stops most (level_at most inner 6) g rest free

-- how the bare words of an expression are read
pub record Own (most : ℕ) (e : Tree) : Type 0 where
  levels : (n j : ℕ) (front rest : List Text) → j ≤ 6 → looseness e ≤ j → SpellsBare e front → length front ≤ suc n → is_free j rest ≡ true →
      level_at most (expr_at most n) j (front ++ rest) ≡ Some (limited most e, rest)
  chains : (n j : ℕ) (front rest : List Text) → suc j ≤ 6 → looseness e ≤ suc j → SpellsBare e front → length front ≤ suc n → is_free j rest ≡ true → ReadsOn most n j e front rest
  whole : (n : ℕ) (front rest : List Text) → SpellsBare e front → length front ≤ suc n → is_free 7 rest ≡ true →
      whole_at most (expr_at most n) (front ++ rest) ≡ Some (limited most e, rest)

-- an operand that more operators may follow
reads_on : (most n j : ℕ) (e : Tree) (front rest : List Text) → level_at most (expr_at most n) j (front ++ rest) ≡ Some (limited most e, rest) → ReadsOn most n j e front rest
reads_on most n j e front rest is =
    record { m = length rest; room = omega arith; read = level_up most (expr_at most n) j (front ++ rest) (limited most e) rest is }

-- in parentheses
parenthesised : (most : ℕ) (n : ℕ) (inner rest : List Text) (g : Grown Tree) → closed_at (expr_at most n) (codes ")") (inner ++ codes ")" ∷ rest) ≡ Some (g, rest) →
    level_at most (expr_at most n) 0 ((codes "(" ∷ (inner ++ codes ")" ∷ [])) ++ rest) ≡ Some (g, rest)
unfolding level_at unary_at
parenthesised most n inner rest g is = ap (closed_at (expr_at most n) (codes ")")) (append_assoc inner (codes ")" ∷ []) rest) ∙ is

-- by the number of parentheses: each is read as a primary whose inside is a whole expression
record Wrapped (most : ℕ) (e : Tree) (count : ℕ) : Type 0 where
  outer : (n : ℕ) (front rest : List Text) → IsWrapped (suc count) (SpellsBare e) front → length front ≤ suc n → is_free 0 rest ≡ true →
      level_at most (expr_at most n) 0 (front ++ rest) ≡ Some (limited most e, rest)

closing : (most n : ℕ) (g : Grown Tree) (inner rest : List Text) → expr_at most n (inner ++ codes ")" ∷ rest) ≡ Some (g, codes ")" ∷ rest) → closed_at (expr_at most n) (codes ")") (inner ++ codes ")" ∷ rest) ≡ Some (g, rest)
closing most n g inner rest is = goes {A = Grown Tree} {B = Grown Tree} (expr_at most n (inner ++ codes ")" ∷ rest)) (λ e r. past (codes ")") r (λ r. Some (e, r))) g (codes ")" ∷ rest) is

expr_step : (most n : ℕ) (ts : List Text) (r : Grown Tree × List Text) → whole_at most (expr_at most n) ts ≡ Some r → expr_at most (suc n) ts ≡ Some r
unfolding expr_at
expr_step most n ts r is = is

wrapped_in : (most : ℕ) (e : Tree) (n : ℕ) (front rest inner : List Text) → front ≡ codes "(" ∷ (inner ++ codes ")" ∷ []) → length front ≤ suc n →
    ((k : ℕ) → length inner ≤ suc k → whole_at most (expr_at most k) (inner ++ codes ")" ∷ rest) ≡ Some (limited most e, codes ")" ∷ rest)) →
    level_at most (expr_at most n) 0 (front ++ rest) ≡ Some (limited most e, rest)
wrapped_in most e zero front rest inner parts short whole =
    absurd (let size : length front ≡ suc (length (inner ++ codes ")" ∷ [])) = ap length parts in omega (arith, size, length-append inner (codes ")" ∷ []), short))
wrapped_in most e (suc k) front rest inner parts short whole =
    let size : length front ≡ suc (length (inner ++ codes ")" ∷ [])) = ap length parts in
    let inside : length (inner ++ codes ")" ∷ []) ≡ length inner + 1 = length-append inner (codes ")" ∷ []) in
    ap (λ f. level_at most (expr_at most (suc k)) 0 (f ++ rest)) parts
    ∙ parenthesised most (suc k) inner rest (limited most e)
    (closing most (suc k) (limited most e) inner rest (expr_step most k (inner ++ codes ")" ∷ rest) (limited most e, codes ")" ∷ rest) (whole k (omega (arith, size, inside, short)))))

wrapped : (most : ℕ) (e : Tree) → Own most e → (count : ℕ) → Wrapped most e count
wrapped most e own zero = record {
  outer = λ n front rest h short free.
      wrapped_in most e n front rest h.0 h.2 short (λ k fits. own.whole k h.0 (codes ")" ∷ rest) h.1 fits (round_free rest));
}
wrapped most e own (suc count) =
    let below : Wrapped most e count = wrapped most e own count in
    record {
      outer = λ n front rest h short free.
          wrapped_in most e n front rest h.0 h.2 short (λ k fits.
          whole_stops most (expr_at most k) (h.0 ++ codes ")" ∷ rest) (limited most e) (codes ")" ∷ rest)
          (level_at_least most (expr_at most k) 0 6 (h.0 ++ codes ")" ∷ rest) (limited most e) (codes ")" ∷ rest) (omega arith) (below.outer k h.0 (codes ")" ∷ rest) h.1 fits (freer_to 0 7 (codes ")" ∷ rest) (round_free rest)))
          (freer 6 (codes ")" ∷ rest) (round_free rest)))
          (round_free rest));
    }

free_front : (j : ℕ) (ts : List Text) → is_free j ts ≡ true → is_free 0 ts ≡ true
free_front j ts free = let e : j ≡ j + 0 = omega arith in freer_to 0 j ts (subst (λ k. is_free k ts ≡ true) e free)

levels_by : (most : ℕ) (e : Tree) → Own most e → (n j : ℕ) (front rest : List Text) (count : ℕ) → IsWrapped count (SpellsBare e) front → (count ≡ 0 → looseness e ≤ j) → j ≤ 6 → length front ≤ suc n → is_free j rest ≡ true →
    level_at most (expr_at most n) j (front ++ rest) ≡ Some (limited most e, rest)
levels_by most e own n j front rest zero h fits low short free = own.levels n j front rest low (fits refl) h short free
levels_by most e own n j front rest (suc count) h fits low short free =
    level_at_least most (expr_at most n) 0 j (front ++ rest) (limited most e) rest (omega arith) ((wrapped most e own count).outer n front rest h short (free_front j rest free)) free

chains_by : (most : ℕ) (e : Tree) → Own most e → (n j : ℕ) (front rest : List Text) (count : ℕ) → IsWrapped count (SpellsBare e) front → (count ≡ 0 → looseness e ≤ suc j) → suc j ≤ 6 → length front ≤ suc n → is_free j rest ≡ true →
    ReadsOn most n j e front rest
chains_by most e own n j front rest zero h fits low short free = own.chains n j front rest low (fits refl) h short free
chains_by most e own n j front rest (suc count) h fits low short free =
    reads_on most n j e front rest (level_at_least most (expr_at most n) 0 j (front ++ rest) (limited most e) rest (omega arith) ((wrapped most e own count).outer n front rest h short (free_front j rest free)) free)

whole_by : (most : ℕ) (e : Tree) → Own most e → (n : ℕ) (front rest : List Text) (count : ℕ) → IsWrapped count (SpellsBare e) front → length front ≤ suc n → is_free 7 rest ≡ true →
    whole_at most (expr_at most n) (front ++ rest) ≡ Some (limited most e, rest)
whole_by most e own n front rest zero h short free = own.whole n front rest h short free
whole_by most e own n front rest (suc count) h short free =
    whole_stops most (expr_at most n) (front ++ rest) (limited most e) rest
    (level_at_least most (expr_at most n) 0 6 (front ++ rest) (limited most e) rest (omega arith) ((wrapped most e own count).outer n front rest h short (freer_to 0 7 rest free)) (freer 6 rest free))
    free

pub reads_from : (most : ℕ) (e : Tree) → Own most e → Reads most e
reads_from most e own = record {
  levels = λ n j front rest low s short free. levels_by most e own n j front rest s.count s.wrapped s.fits low short free;
  chains = λ n j front rest low s short free. chains_by most e own n j front rest s.count s.wrapped s.fits low short free;
  whole = λ n front rest s short free. whole_by most e own n front rest s.count s.wrapped short free;
}

-- an expression that is read as an operand of a sign is read everywhere
abbrev pub Base : ℕ → Tree → Type 0
Base most e = (n : ℕ) (front rest : List Text) → SpellsBare e front → length front ≤ suc n → is_free 0 rest ≡ true → level_at most (expr_at most n) 0 (front ++ rest) ≡ Some (limited most e, rest)

pub own_base : (most : ℕ) (e : Tree) → Base most e → Own most e
own_base most e base = record {
  levels = λ n j front rest low fits h short free.
      level_at_least most (expr_at most n) 0 j (front ++ rest) (limited most e) rest (omega arith) (base n front rest h short (free_front j rest free)) free;
  chains = λ n j front rest low fits h short free.
      reads_on most n j e front rest (level_at_least most (expr_at most n) 0 j (front ++ rest) (limited most e) rest (omega arith) (base n front rest h short (free_front j rest free)) free);
  whole = λ n front rest h short free.
      whole_stops most (expr_at most n) (front ++ rest) (limited most e) rest
      (level_at_least most (expr_at most n) 0 6 (front ++ rest) (limited most e) rest (omega arith) (base n front rest h short (freer_to 0 7 rest free)) (freer 6 rest free)) free;
}

-- a word that is no sign and opens no parenthesis begins a primary
word_begins : (most n : ℕ) (t : Text) (ts : List Text) → bytes_eq t (codes "-") ≡ false → bytes_eq t (codes "~") ≡ false → bytes_eq t (codes "(") ≡ false →
    level_at most (expr_at most n) 0 (t ∷ ts) ≡ beside_at most (expr_at most n) t ts
unfolding level_at unary_at
word_begins most n t ts minus tilde round = rw (minus, tilde, round) refl

pub name_other : (x w : Text) → is_name w ≡ false → is_name x ≡ true → bytes_eq x w ≡ false
name_other x w none name = other_text x w (λ same. let n : is_name x ≡ false = subst (λ t. is_name t ≡ false) (sym same) none in cc)

pub number_other : (n : ℕ) (t w : Text) → number_of w ≡ None → number_of t ≡ Some n → bytes_eq t w ≡ false
number_other n t w none number = other_text t w (λ same. let m : number_of t ≡ None = subst (λ u. number_of u ≡ None) (sym same) none in cc)

name_begins : (most n : ℕ) (x : Text) (ts : List Text) → is_name x ≡ true → level_at most (expr_at most n) 0 (x ∷ ts) ≡ beside_at most (expr_at most n) x ts
name_begins most n x ts name = word_begins most n x ts (name_other x (codes "-") refl name) (name_other x (codes "~") refl name) (name_other x (codes "(") refl name)

leaf_stands : (most : ℕ) (inner : Reader (Grown Tree)) (t : Text) (rest : List Text) (e : Tree) → is_free 0 rest ≡ true → leaf_of t ≡ Some e → beside_at most inner t rest ≡ Some (leaf most e, rest)
leaf_stands most inner t [] e free is = ap (λ o. grown_leaf most o []) is
leaf_stands most inner t (u ∷ rest) e free is = let a = apart u rest free in rw (a.round, a.dot) (ap (λ o. grown_leaf most o (u ∷ rest)) is)

named_by : (x : Text) (b c d : Bool) → b ≡ false → c ≡ false → d ≡ true →
    number_or None (if b then Some (truth true) else (if c then Some (truth false) else (if d then Some (named x) else None))) ≡ Some (named x)
named_by x b c d e1 e2 e3 = rw (e1, e2, e3) refl

named_leaf : (x : Text) → is_name x ≡ true → leaf_of x ≡ Some (named x)
named_leaf x name =
    let begins : begins_name x ≡ true = left_true (begins_name x) (not (is_keyword x)) name in
    let true_word : bytes_eq x (codes "True") ≡ false = name_other x (codes "True") refl name in
    let false_word : bytes_eq x (codes "False") ≡ false = name_other x (codes "False") refl name in
    let none : number_of x ≡ None = rw begins refl in
    ap (λ o. number_or o (if bytes_eq x (codes "True") then Some (truth true) else (if bytes_eq x (codes "False") then Some (truth false) else (if is_name x then Some (named x) else None)))) none
    ∙ named_by x (bytes_eq x (codes "True")) (bytes_eq x (codes "False")) (is_name x) true_word false_word name

pub base_literal : (most n : ℕ) → Base most (literal n)
base_literal most n k front rest (text, is, parts) short free =
    ap (λ f. level_at most (expr_at most k) 0 (f ++ rest)) parts
    ∙ word_begins most k text rest (number_other n text (codes "-") refl is) (number_other n text (codes "~") refl is) (number_other n text (codes "(") refl is)
    ∙ leaf_stands most (expr_at most k) text rest (literal n) free
    (ap (λ o. number_or o (if bytes_eq text (codes "True") then Some (truth true) else (if bytes_eq text (codes "False") then Some (truth false) else (if is_name text then Some (named text) else None)))) is)

pub base_truth : (most : ℕ) (b : Bool) → Base most (truth b)
base_truth most true k front rest parts short free =
    ap (λ f. level_at most (expr_at most k) 0 (f ++ rest)) parts ∙ word_begins most k (codes "True") rest refl refl refl ∙ leaf_stands most (expr_at most k) (codes "True") rest (truth true) free refl
base_truth most false k front rest parts short free =
    ap (λ f. level_at most (expr_at most k) 0 (f ++ rest)) parts ∙ word_begins most k (codes "False") rest refl refl refl ∙ leaf_stands most (expr_at most k) (codes "False") rest (truth false) free refl

pub base_named : (most : ℕ) (x : Text) → Base most (named x)
base_named most x k front rest (name, parts) short free =
    ap (λ f. level_at most (expr_at most k) 0 (f ++ rest)) parts ∙ name_begins most k x rest name ∙ leaf_stands most (expr_at most k) x rest (named x) free (named_leaf x name)

pub read_stands : (most : ℕ) (inner : Reader (Grown Tree)) (s f : Text) (rest : List Text) → is_free 0 rest ≡ true → read_from most inner s f rest ≡ Some (leaf most (read s f), rest)
read_stands most inner s f [] free = refl
read_stands most inner s f (u ∷ rest) free = let a = apart u rest free in rw a.round refl

pub dotted_there : (most n : ℕ) (s f : Text) (ts : List Text) → IsStateName s → is_name f ≡ true → level_at most (expr_at most n) 0 (s ∷ codes "." ∷ f ∷ ts) ≡ read_from most (expr_at most n) s f ts
dotted_there most n s f ts (name, other) field = name_begins most n s (codes "." ∷ f ∷ ts) name ∙ rw (field, other, name) refl

pub base_read : (most : ℕ) (s f : Text) → Base most (read s f)
base_read most s f k front rest (state, field, parts) short free =
    ap (λ g. level_at most (expr_at most k) 0 (g ++ rest)) parts ∙ dotted_there most k s f rest state field ∙ read_stands most (expr_at most k) s f rest free

pub base_read_at : (most : ℕ) (s f : Text) (es : Trees) → AllRead most es → Base most (read_at s f es)
base_read_at most s f es all k front rest (inner, state, field, spelled, parts) short free =
    let size : length front ≡ suc (suc (suc (suc (length inner)))) = ap length parts in
    ap (λ g. level_at most (expr_at most k) 0 (g ++ rest)) parts
    ∙ dotted_there most k s f (codes "(" ∷ (inner ++ rest)) state field
    ∙ goes {A = Grown Trees} {B = Grown Tree} (arguments_at most (expr_at most k) (codes ")") (inner ++ rest)) (λ es r. Some (lift most (read_at s f) one_deeper es, r)) (limited_list most es) rest
    (arguments_there most (codes ")") round_free refl es all k inner rest spelled (omega (arith, size, short)))
    ∙ ap (λ g. Some (g, rest)) (bounded_lift most (read_at s f) one_deeper es (depths es) (omega arith))

pub base_path : (most : ℕ) (g : Text) (ss : Steps) → AllSteps most ss → Base most (path g ss)
base_path most g ss all k front rest (inner, name, spelled, parts) short free =
    let size : length front ≡ suc (suc (suc (length inner))) = ap length parts in
    ap (λ f. level_at most (expr_at most k) 0 (f ++ rest)) parts
    ∙ word_begins most k (codes "kernel") (codes "." ∷ g ∷ (inner ++ rest)) refl refl refl
    ∙ rw name (
    goes {A = Grown Steps} {B = Grown Tree} (steps_at most (expr_at most k) (length (inner ++ rest)) (inner ++ rest)) (λ ss r. Some (lift most (path g) one_deeper ss, r)) (limited_steps most ss) rest
    (steps_there most ss all k (length (inner ++ rest)) inner rest spelled (omega (arith, size, short)) (omega (arith, length-append inner rest)) free)
    ∙ ap (λ x. Some (x, rest)) (bounded_lift most (path g) one_deeper ss (step_depths ss) (omega arith)))

-- a call, whose word has a parenthesis behind it
call_begins : (most n : ℕ) (word : Text) (ts : List Text) (kind : CallKind) → bytes_eq word (codes "-") ≡ false → bytes_eq word (codes "~") ≡ false → bytes_eq word (codes "(") ≡ false → call_of word ≡ Some kind →
    level_at most (expr_at most n) 0 (word ∷ codes "(" ∷ ts) ≡ call_at most (expr_at most n) (Some kind) ts
call_begins most n word ts kind minus tilde round is = word_begins most n word (codes "(" ∷ ts) minus tilde round ∙ ap (λ o. call_at most (expr_at most n) o ts) is

pub base_all : (most : ℕ) (es : Trees) → AllRead most es → Base most (all_of es)
unfolding call_of
base_all most es all k front rest (inner, spelled, parts) short free =
    let size : length front ≡ suc (suc (length inner)) = ap length parts in
    ap (λ g. level_at most (expr_at most k) 0 (g ++ rest)) parts
    ∙ call_begins most k (codes "And") (inner ++ rest) conjunction refl refl refl refl
    ∙ goes {A = Grown Trees} {B = Grown Tree} (arguments_at most (expr_at most k) (codes ")") (inner ++ rest)) (λ es r. Some (lift most all_of one_deeper es, r)) (limited_list most es) rest
    (arguments_there most (codes ")") round_free refl es all k inner rest spelled (omega (arith, size, short)))
    ∙ ap (λ g. Some (g, rest)) (bounded_lift most all_of one_deeper es (depths es) (omega arith))

pub base_any : (most : ℕ) (es : Trees) → AllRead most es → Base most (any_of es)
unfolding call_of
base_any most es all k front rest (inner, spelled, parts) short free =
    let size : length front ≡ suc (suc (length inner)) = ap length parts in
    ap (λ g. level_at most (expr_at most k) 0 (g ++ rest)) parts
    ∙ call_begins most k (codes "Or") (inner ++ rest) disjunction refl refl refl refl
    ∙ goes {A = Grown Trees} {B = Grown Tree} (arguments_at most (expr_at most k) (codes ")") (inner ++ rest)) (λ es r. Some (lift most any_of one_deeper es, r)) (limited_list most es) rest
    (arguments_there most (codes ")") round_free refl es all k inner rest spelled (omega (arith, size, short)))
    ∙ ap (λ g. Some (g, rest)) (bounded_lift most any_of one_deeper es (depths es) (omega arith))

pub base_sized : (most n w : ℕ) → Base most (sized n w)
unfolding call_of
base_sized most n w k front rest (number, width, is_number, is_width, parts) short free =
    ap (λ g. level_at most (expr_at most k) 0 (g ++ rest)) parts
    ∙ call_begins most k (codes "BitVecVal") (number ∷ codes "," ∷ width ∷ codes ")" ∷ rest) fixed refl refl refl refl
    ∙ goes {A = ℕ} {B = Grown Tree} (number_comma_at (number ∷ codes "," ∷ width ∷ codes ")" ∷ rest)) (λ n r. after (number_at r) (λ w r. past (codes ")") r (λ r. Some (leaf most (sized n w), r)))) n (width ∷ codes ")" ∷ rest)
    (number_comma_there n number (width ∷ codes ")" ∷ rest) is_number)
    ∙ goes {A = ℕ} {B = Grown Tree} (number_at (width ∷ codes ")" ∷ rest)) (λ w r. past (codes ")") r (λ r. Some (leaf most (sized n w), r))) w (codes ")" ∷ rest) (number_there w width (codes ")" ∷ rest) is_width)

head_call : (head : Head) → (call_of (head_word head) ≡ Some (headed (kind_of head))) × (bytes_eq (head_word head) (codes "-") ≡ false) × (bytes_eq (head_word head) (codes "~") ≡ false) × (bytes_eq (head_word head) (codes "(") ≡ false)
unfolding call_of
head_call negation = (refl, refl, refl, refl)
head_call (resized (ZeroExt n)) = (refl, refl, refl, refl)
head_call (resized (SignExt n)) = (refl, refl, refl, refl)
head_call (resized (Extract high low)) = (refl, refl, refl, refl)
head_call (each_of xs) = (refl, refl, refl, refl)
head_call (some_of xs) = (refl, refl, refl, refl)

pub headed_there : (most : ℕ) (head : Head) (a : Tree) → Reads most a → (k : ℕ) (front rest : List Text) → IsCalled head (SpellsAt 7 a) front → length front ≤ suc k →
    level_at most (expr_at most k) 0 (front ++ rest) ≡ Some (limited most (headed_tree head a), rest)
headed_there most head a reads k front rest (first, inner, is_head, spelled, parts) short =
    let size : length front ≡ suc (suc (length (first ++ (inner ++ codes ")" ∷ [])))) = ap length parts in
    let long : length (first ++ (inner ++ codes ")" ∷ [])) ≡ length first + length (inner ++ codes ")" ∷ []) = length-append first (inner ++ codes ")" ∷ []) in
    let inside : length (inner ++ codes ")" ∷ []) ≡ length inner + 1 = length-append inner (codes ")" ∷ []) in
    let call = head_call head in
    ap (λ g. level_at most (expr_at most k) 0 (g ++ rest)) parts
    ∙ ap (λ ts. level_at most (expr_at most k) 0 (head_word head ∷ codes "(" ∷ ts)) (append_assoc first (inner ++ codes ")" ∷ []) rest ∙ ap (λ ts. first ++ ts) (append_assoc inner (codes ")" ∷ []) rest))
    ∙ call_begins most k (head_word head) (first ++ (inner ++ codes ")" ∷ rest)) (headed (kind_of head)) call.1 call.2 call.3 call.0
    ∙ goes {A = Head} {B = Grown Tree} (head_at (kind_of head) (first ++ (inner ++ codes ")" ∷ rest))) (λ head r. after (closed_at (expr_at most k) (codes ")") r) (λ a r. Some (lift most (headed_tree head) one_deeper a, r))) head (inner ++ codes ")" ∷ rest)
    (head_there head first (inner ++ codes ")" ∷ rest) is_head)
    ∙ goes {A = Grown Tree} {B = Grown Tree} (closed_at (expr_at most k) (codes ")") (inner ++ codes ")" ∷ rest)) (λ a r. Some (lift most (headed_tree head) one_deeper a, r)) (limited most a) rest
    (closed_there most a reads (codes ")") round_free k inner rest spelled (omega (arith, size, long, inside, short)))
    ∙ ap (λ g. Some (g, rest)) (headed_limited most head a)

pub base_choose : (most : ℕ) (c a b : Tree) → Reads most c → Reads most a → Reads most b → Base most (choose c a b)
unfolding call_of
base_choose most c a b rc ra rb k front rest (first, second, third, sc, sa, sb, parts) short free =
    let last : List Text = third ++ codes ")" ∷ [] in
    let middle : List Text = second ++ codes "," ∷ last in
    let size : length front ≡ suc (suc (length (first ++ codes "," ∷ middle))) = ap length parts in
    let s1 : length (first ++ codes "," ∷ middle) ≡ length first + suc (length middle) = length-append first (codes "," ∷ middle) in
    let s2 : length middle ≡ length second + suc (length last) = length-append second (codes "," ∷ last) in
    let s3 : length last ≡ length third + 1 = length-append third (codes ")" ∷ []) in
    let shape : (first ++ codes "," ∷ middle) ++ rest ≡ first ++ codes "," ∷ (second ++ codes "," ∷ (third ++ codes ")" ∷ rest)) =
    append_assoc first (codes "," ∷ middle) rest ∙ ap (λ ts. first ++ codes "," ∷ ts) (append_assoc second (codes "," ∷ last) rest ∙ ap (λ ts. second ++ codes "," ∷ ts) (append_assoc third (codes ")" ∷ []) rest)) in
    ap (λ g. level_at most (expr_at most k) 0 (g ++ rest)) parts
    ∙ ap (λ ts. level_at most (expr_at most k) 0 (codes "If" ∷ codes "(" ∷ ts)) shape
    ∙ call_begins most k (codes "If") (first ++ codes "," ∷ (second ++ codes "," ∷ (third ++ codes ")" ∷ rest))) choice refl refl refl refl
    ∙ goes {A = Grown Tree} {B = Grown Tree} (closed_at (expr_at most k) (codes ",") (first ++ codes "," ∷ (second ++ codes "," ∷ (third ++ codes ")" ∷ rest))))
    (λ c r. after (closed_at (expr_at most k) (codes ",") r) (λ a r. after (closed_at (expr_at most k) (codes ")") r) (λ b r. Some (grown_choice most c a b, r)))) (limited most c) (second ++ codes "," ∷ (third ++ codes ")" ∷ rest))
    (closed_there most c rc (codes ",") comma_free k first (second ++ codes "," ∷ (third ++ codes ")" ∷ rest)) sc (omega (arith, size, s1, short)))
    ∙ goes {A = Grown Tree} {B = Grown Tree} (closed_at (expr_at most k) (codes ",") (second ++ codes "," ∷ (third ++ codes ")" ∷ rest)))
    (λ a r. after (closed_at (expr_at most k) (codes ")") r) (λ b r. Some (grown_choice most (limited most c) a b, r))) (limited most a) (third ++ codes ")" ∷ rest)
    (closed_there most a ra (codes ",") comma_free k second (third ++ codes ")" ∷ rest) sa (omega (arith, size, s1, s2, short)))
    ∙ goes {A = Grown Tree} {B = Grown Tree} (closed_at (expr_at most k) (codes ")") (third ++ codes ")" ∷ rest)) (λ b r. Some (grown_choice most (limited most c) (limited most a) b, r)) (limited most b) rest
    (closed_there most b rb (codes ")") round_free k third rest sb (omega (arith, size, s1, s2, s3, short)))
    ∙ ap (λ g. Some (g, rest)) (limited_choice most c a b)

pub base_minus : (most : ℕ) (a : Tree) → Reads most a → Base most (unary Minus a)
unfolding level_at unary_at
base_minus most a reads k front rest (inner, spelled, parts) short free =
    let size : length front ≡ suc (length inner) = ap length parts in
    ap (λ g. level_at most (expr_at most k) 0 (g ++ rest)) parts
    ∙ goes {A = Grown Tree} {B = Grown Tree} (unary_at most (expr_at most k) (inner ++ rest)) (λ a r. Some (lift most (unary Minus) one_deeper a, r)) (limited most a) rest
    (reads.levels k 0 inner rest (omega arith) spelled (omega (arith, size, short)) free)
    ∙ ap (λ g. Some (g, rest)) (bounded_lift most (unary Minus) one_deeper a (depth a) (omega arith))

pub base_complement : (most : ℕ) (a : Tree) → Reads most a → Base most (unary Complement a)
unfolding level_at unary_at
base_complement most a reads k front rest (inner, spelled, parts) short free =
    let size : length front ≡ suc (length inner) = ap length parts in
    ap (λ g. level_at most (expr_at most k) 0 (g ++ rest)) parts
    ∙ goes {A = Grown Tree} {B = Grown Tree} (unary_at most (expr_at most k) (inner ++ rest)) (λ a r. Some (lift most (unary Complement) one_deeper a, r)) (limited most a) rest
    (reads.levels k 0 inner rest (omega arith) spelled (omega (arith, size, short)) free)
    ∙ ap (λ g. Some (g, rest)) (bounded_lift most (unary Complement) one_deeper a (depth a) (omega arith))

-- how operators are told by their marks
record ChainKind (kind : BinKind) : Type 0 where
  t : Text
  i : ℕ
  form : form_of kind ≡ between (suc i) (suc i) i t
  low : suc i ≤ 6
  operator : operator_at (suc i) t ≡ Some kind
  free : (rest : List Text) → is_free i (t ∷ rest) ≡ true

record CompareKind (kind : BinKind) : Type 0 where
  t : Text
  form : form_of kind ≡ between 7 6 6 t
  operator : operator_at 7 t ≡ Some kind
  free : (rest : List Text) → is_free 6 (t ∷ rest) ≡ true

record PairKind (kind : BinKind) : Type 0 where
  t : Text
  form : form_of kind ≡ called t
  call : call_of t ≡ Some (pair kind)
  minus : bytes_eq t (codes "-") ≡ false
  tilde : bytes_eq t (codes "~") ≡ false
  round : bytes_eq t (codes "(") ≡ false

data Told (kind : BinKind) : Type 0 where
  in_chain : ChainKind kind → Told kind
  in_comparison : CompareKind kind → Told kind
  in_call : PairKind kind → Told kind

told : (kind : BinKind) → Told kind
unfolding operator_at has_no_operator call_of
told Mul = in_chain (record { t = codes "*"; i = 0; form = refl; low = omega arith; operator = refl; free = λ rest. refl })
told Add = in_chain (record { t = codes "+"; i = 1; form = refl; low = omega arith; operator = refl; free = λ rest. refl })
told Sub = in_chain (record { t = codes "-"; i = 1; form = refl; low = omega arith; operator = refl; free = λ rest. refl })
told Shl = in_chain (record { t = codes "<<"; i = 2; form = refl; low = omega arith; operator = refl; free = λ rest. refl })
told Ashr = in_chain (record { t = codes ">>"; i = 2; form = refl; low = omega arith; operator = refl; free = λ rest. refl })
told BitAnd = in_chain (record { t = codes "&"; i = 3; form = refl; low = omega arith; operator = refl; free = λ rest. refl })
told BitXor = in_chain (record { t = codes "^"; i = 4; form = refl; low = omega arith; operator = refl; free = λ rest. refl })
told BitOr = in_chain (record { t = codes "|"; i = 5; form = refl; low = omega arith; operator = refl; free = λ rest. refl })
told Eq = in_comparison (record { t = codes "=="; form = refl; operator = refl; free = λ rest. refl })
told Ne = in_comparison (record { t = codes "!="; form = refl; operator = refl; free = λ rest. refl })
told Slt = in_comparison (record { t = codes "<"; form = refl; operator = refl; free = λ rest. refl })
told Sle = in_comparison (record { t = codes "<="; form = refl; operator = refl; free = λ rest. refl })
told Sgt = in_comparison (record { t = codes ">"; form = refl; operator = refl; free = λ rest. refl })
told Sge = in_comparison (record { t = codes ">="; form = refl; operator = refl; free = λ rest. refl })
told Lshr = in_call (record { t = codes "LShR"; form = refl; call = refl; minus = refl; tilde = refl; round = refl })
told Udiv = in_call (record { t = codes "UDiv"; form = refl; call = refl; minus = refl; tilde = refl; round = refl })
told Urem = in_call (record { t = codes "URem"; form = refl; call = refl; minus = refl; tilde = refl; round = refl })
told Ult = in_call (record { t = codes "ULT"; form = refl; call = refl; minus = refl; tilde = refl; round = refl })
told Ule = in_call (record { t = codes "ULE"; form = refl; call = refl; minus = refl; tilde = refl; round = refl })
told Ugt = in_call (record { t = codes "UGT"; form = refl; call = refl; minus = refl; tilde = refl; round = refl })
told Uge = in_call (record { t = codes "UGE"; form = refl; call = refl; minus = refl; tilde = refl; round = refl })
told Implies = in_call (record { t = codes "Implies"; form = refl; call = refl; minus = refl; tilde = refl; round = refl })

-- two operands with a mark between them
record Halves (left right : ℕ) (t : Text) (a b : Tree) (front : List Text) : Type 0 where
  fa : List Text
  fb : List Text
  sa : SpellsAt left a fa
  sb : SpellsAt right b fb
  parts : front ≡ fa ++ t ∷ fb

halves : (left right own : ℕ) (t : Text) (kind : BinKind) (a b : Tree) (front : List Text) → form_of kind ≡ between own left right t → SpellsBare (binary kind a b) front → Halves left right t a b front
halves left right own t kind a b front form h =
    let joined : AreJoined (between own left right t) (λ place. SpellsAt place a) (λ place. SpellsAt place b) front =
    subst (λ f. AreJoined f (λ place. SpellsAt place a) (λ place. SpellsAt place b) front) form h in
    record { fa = joined.0; fb = joined.1; sa = joined.2; sb = joined.3; parts = joined.4 }

chain_goes : (most : ℕ) (operand : Reader (Grown Tree)) (j m : ℕ) (g : Grown Tree) (t : Text) (ts : List Text) (kind : BinKind) (b : Grown Tree) (rest : List Text) → operator_at (suc j) t ≡ Some kind → operand ts ≡ Some (b, rest) →
    chain_at most operand (suc j) (suc m) g (t ∷ ts) ≡ chain_at most operand (suc j) m (grown_binary most kind g b) rest
unfolding chain_at
chain_goes most operand j m g t ts kind b rest is given =
    ap (λ o. by_operator o (Some (g, t ∷ ts)) (λ kind. after (operand ts) (λ b rest. chain_at most operand (suc j) m (grown_binary most kind g b) rest))) is
    ∙ goes {A = Grown Tree} {B = Grown Tree} (operand ts) (λ b rest. chain_at most operand (suc j) m (grown_binary most kind g b) rest) b rest given

chain_more : (most : ℕ) (operand : Reader (Grown Tree)) (j m : ℕ) (g : Grown Tree) (t : Text) (ts : List Text) (kind : BinKind) (b : Grown Tree) (rest : List Text) → length (t ∷ ts) ≤ m → length rest ≤ length ts →
    operator_at (suc j) t ≡ Some kind → operand ts ≡ Some (b, rest) →
    (k : ℕ) × (length rest ≤ k) × (chain_at most operand (suc j) m g (t ∷ ts) ≡ chain_at most operand (suc j) k (grown_binary most kind g b) rest)
chain_more most operand j zero g t ts kind b rest room fewer is given = absurd (omega (arith, room))
chain_more most operand j (suc m) g t ts kind b rest room fewer is given = (m, omega (arith, room, fewer), chain_goes most operand j m g t ts kind b rest is given)

-- an operator of a chain, with more operators behind it
chain_there : (most : ℕ) (kind : BinKind) (a b : Tree) → Reads most a → Reads most b → (c : ChainKind kind) → (n : ℕ) (front rest : List Text) → SpellsBare (binary kind a b) front → length front ≤ suc n →
    is_free c.i rest ≡ true → ReadsOn most n c.i (binary kind a b) front rest
chain_there most kind a b ra rb c n front rest h short free =
    let parts = halves (suc c.i) c.i (suc c.i) c.t kind a b front c.form h in
    let size : length front ≡ length (parts.fa ++ c.t ∷ parts.fb) = ap length parts.parts in
    let both : length (parts.fa ++ c.t ∷ parts.fb) ≡ length parts.fa + suc (length parts.fb) = length-append parts.fa (c.t ∷ parts.fb) in
    let first = ra.chains n c.i parts.fa (c.t ∷ (parts.fb ++ rest)) c.low parts.sa (omega (arith, size, both, short)) (c.free (parts.fb ++ rest)) in
    let second = rb.levels n c.i parts.fb rest (let low = c.low in omega (arith, low)) parts.sb (omega (arith, size, both, short)) free in
    let more = chain_more most (level_at most (expr_at most n) c.i) c.i first.m (limited most a) c.t (parts.fb ++ rest) kind (limited most b) rest first.room (omega (arith, length-append parts.fb rest)) c.operator second in
    record {
      m = more.0;
      room = more.1;
      read = ap (λ f. level_at most (expr_at most n) (suc c.i) (f ++ rest)) parts.parts
          ∙ ap (level_at most (expr_at most n) (suc c.i)) (append_assoc parts.fa (c.t ∷ parts.fb) rest)
          ∙ first.read ∙ more.2
          ∙ ap (λ g. chain_at most (level_at most (expr_at most n) c.i) (suc c.i) more.0 g rest) (binary_limited most kind a b);
    }

chain_level : (most : ℕ) (kind : BinKind) (a b : Tree) → Reads most a → Reads most b → (c : ChainKind kind) → (n : ℕ) (front rest : List Text) → SpellsBare (binary kind a b) front → length front ≤ suc n →
    is_free (suc c.i) rest ≡ true → level_at most (expr_at most n) (suc c.i) (front ++ rest) ≡ Some (limited most (binary kind a b), rest)
chain_level most kind a b ra rb c n front rest h short free =
    let on = chain_there most kind a b ra rb c n front rest h short (freer c.i rest free) in
    on.read ∙ chain_stops most (level_at most (expr_at most n) c.i) c.i on.m (limited most (binary kind a b)) rest free

chain_from : (most : ℕ) (kind : BinKind) (a b : Tree) → Reads most a → Reads most b → (c : ChainKind kind) → (n j : ℕ) (front rest : List Text) → suc c.i ≤ j → SpellsBare (binary kind a b) front → length front ≤ suc n →
    is_free j rest ≡ true → level_at most (expr_at most n) j (front ++ rest) ≡ Some (limited most (binary kind a b), rest)
chain_from most kind a b ra rb c n j front rest h1 h short free =
    let e : (j - suc c.i) + suc c.i ≡ j = omega (arith, h1) in
    level_at_least most (expr_at most n) (suc c.i) j (front ++ rest) (limited most (binary kind a b)) rest h1
    (chain_level most kind a b ra rb c n front rest h short (freer_to (suc c.i) (j - suc c.i) rest (subst (λ k. is_free k rest ≡ true) (sym e) free))) free

equal_or_more : (i j : ℕ) → i ≤ j → (i ≡ j) ⊎ (suc i ≤ j)
equal_or_more zero zero h = inl refl
equal_or_more zero (suc j) h = inr (omega arith)
equal_or_more (suc i) zero h = absurd (omega (arith, h))
equal_or_more (suc i) (suc j) h = elim (equal_or_more i j (omega (arith, h))) [ inl e ↦ inl (ap suc e) | inr more ↦ inr (omega (arith, more)) ]

own_chain : (most : ℕ) (kind : BinKind) (a b : Tree) → Reads most a → Reads most b → ChainKind kind → Own most (binary kind a b)
own_chain most kind a b ra rb c =
    let own : looseness (binary kind a b) ≡ suc c.i = ap form_looseness c.form in
    record {
      levels = λ n j front rest low fits h short free. chain_from most kind a b ra rb c n j front rest (omega (arith, own, fits)) h short free;
      chains = λ n j front rest low fits h short free.
          elim (equal_or_more c.i j (omega (arith, own, fits))) [
            | inl e ↦ subst (λ k. ReadsOn most n k (binary kind a b) front rest) e (chain_there most kind a b ra rb c n front rest h short (subst (λ k. is_free k rest ≡ true) (sym e) free))
            | inr more ↦ reads_on most n j (binary kind a b) front rest (chain_from most kind a b ra rb c n j front rest more h short free)
          ];
      whole = λ n front rest h short free.
          whole_stops most (expr_at most n) (front ++ rest) (limited most (binary kind a b)) rest
          (chain_from most kind a b ra rb c n 6 front rest c.low h short (freer 6 rest free)) free;
    }

compare_goes : (most : ℕ) (inner : Reader (Grown Tree)) (ts : List Text) (g : Grown Tree) (t : Text) (us : List Text) (kind : BinKind) (b : Grown Tree) (rest : List Text) → level_at most inner 6 ts ≡ Some (g, t ∷ us) →
    operator_at 7 t ≡ Some kind → level_at most inner 6 us ≡ Some (b, rest) → whole_at most inner ts ≡ Some (grown_binary most kind g b, rest)
compare_goes most inner ts g t us kind b rest first is second =
    goes {A = Grown Tree} {B = Grown Tree} (level_at most inner 6 ts) (λ a r. compared_at most (level_at most inner 6) a r) g (t ∷ us) first
    ∙ ap (λ o. by_operator o (Some (g, t ∷ us)) (λ kind. after (level_at most inner 6 us) (λ b rest. Some (grown_binary most kind g b, rest)))) is
    ∙ goes {A = Grown Tree} {B = Grown Tree} (level_at most inner 6 us) (λ b rest. Some (grown_binary most kind g b, rest)) b rest second

own_compare : (most : ℕ) (kind : BinKind) (a b : Tree) → Reads most a → Reads most b → CompareKind kind → Own most (binary kind a b)
own_compare most kind a b ra rb c =
    let own : looseness (binary kind a b) ≡ 7 = ap form_looseness c.form in
    record {
      levels = λ n j front rest low fits h short free. absurd (omega (arith, own, low, fits));
      chains = λ n j front rest low fits h short free. absurd (omega (arith, own, low, fits));
      whole = λ n front rest h short free.
          let parts = halves 6 6 7 c.t kind a b front c.form h in
          let size : length front ≡ length (parts.fa ++ c.t ∷ parts.fb) = ap length parts.parts in
          let both : length (parts.fa ++ c.t ∷ parts.fb) ≡ length parts.fa + suc (length parts.fb) = length-append parts.fa (c.t ∷ parts.fb) in
          ap (λ f. whole_at most (expr_at most n) (f ++ rest)) parts.parts
          ∙ ap (whole_at most (expr_at most n)) (append_assoc parts.fa (c.t ∷ parts.fb) rest)
          ∙ compare_goes most (expr_at most n) (parts.fa ++ c.t ∷ (parts.fb ++ rest)) (limited most a) c.t (parts.fb ++ rest) kind (limited most b) rest
          (ra.levels n 6 parts.fa (c.t ∷ (parts.fb ++ rest)) (omega arith) parts.sa (omega (arith, size, both, short)) (c.free (parts.fb ++ rest)))
          c.operator
          (rb.levels n 6 parts.fb rest (omega arith) parts.sb (omega (arith, size, both, short)) (freer 6 rest free))
          ∙ ap (λ g. Some (g, rest)) (binary_limited most kind a b);
    }

base_pair : (most : ℕ) (kind : BinKind) (a b : Tree) → Reads most a → Reads most b → PairKind kind → Base most (binary kind a b)
base_pair most kind a b ra rb c k front rest h short free =
    let joined : AreJoined (called c.t) (λ place. SpellsAt place a) (λ place. SpellsAt place b) front =
    subst (λ f. AreJoined f (λ place. SpellsAt place a) (λ place. SpellsAt place b) front) c.form h in
    let fa : List Text = joined.0 in
    let fb : List Text = joined.1 in
    let last : List Text = fb ++ codes ")" ∷ [] in
    let size : length front ≡ suc (suc (length (fa ++ codes "," ∷ last))) = ap length joined.4 in
    let s1 : length (fa ++ codes "," ∷ last) ≡ length fa + suc (length last) = length-append fa (codes "," ∷ last) in
    let s2 : length last ≡ length fb + 1 = length-append fb (codes ")" ∷ []) in
    let shape : (fa ++ codes "," ∷ last) ++ rest ≡ fa ++ codes "," ∷ (fb ++ codes ")" ∷ rest) =
    append_assoc fa (codes "," ∷ last) rest ∙ ap (λ ts. fa ++ codes "," ∷ ts) (append_assoc fb (codes ")" ∷ []) rest) in
    ap (λ g. level_at most (expr_at most k) 0 (g ++ rest)) joined.4
    ∙ ap (λ ts. level_at most (expr_at most k) 0 (c.t ∷ codes "(" ∷ ts)) shape
    ∙ call_begins most k c.t (fa ++ codes "," ∷ (fb ++ codes ")" ∷ rest)) (pair kind) c.minus c.tilde c.round c.call
    ∙ goes {A = Grown Tree} {B = Grown Tree} (closed_at (expr_at most k) (codes ",") (fa ++ codes "," ∷ (fb ++ codes ")" ∷ rest)))
    (λ a r. after (closed_at (expr_at most k) (codes ")") r) (λ b r. Some (grown_binary most kind a b, r))) (limited most a) (fb ++ codes ")" ∷ rest)
    (closed_there most a ra (codes ",") comma_free k fa (fb ++ codes ")" ∷ rest) joined.2 (omega (arith, size, s1, short)))
    ∙ goes {A = Grown Tree} {B = Grown Tree} (closed_at (expr_at most k) (codes ")") (fb ++ codes ")" ∷ rest)) (λ b r. Some (grown_binary most kind (limited most a) b, r)) (limited most b) rest
    (closed_there most b rb (codes ")") round_free k fb rest joined.3 (omega (arith, size, s1, s2, short)))
    ∙ ap (λ g. Some (g, rest)) (binary_limited most kind a b)

reads_binary : (most : ℕ) (kind : BinKind) (a b : Tree) → Reads most a → Reads most b → Told kind → Reads most (binary kind a b)
reads_binary most kind a b ra rb (in_chain c) = reads_from most (binary kind a b) (own_chain most kind a b ra rb c)
reads_binary most kind a b ra rb (in_comparison c) = reads_from most (binary kind a b) (own_compare most kind a b ra rb c)
reads_binary most kind a b ra rb (in_call c) = reads_from most (binary kind a b) (own_base most (binary kind a b) (base_pair most kind a b ra rb c))

reads_headed : (most : ℕ) (head : Head) (a : Tree) → Reads most a → Reads most (headed_tree head a)
reads_headed most negation a ra = reads_from most (unary Not a) (own_base most (unary Not a) (λ k front rest h short free. headed_there most negation a ra k front rest h short))
reads_headed most (resized kind) a ra = reads_from most (resize kind a) (own_base most (resize kind a) (λ k front rest h short free. headed_there most (resized kind) a ra k front rest h short))
reads_headed most (each_of xs) a ra = reads_from most (for_all xs a) (own_base most (for_all xs a) (λ k front rest h short free. headed_there most (each_of xs) a ra k front rest h short))
reads_headed most (some_of xs) a ra = reads_from most (exists xs a) (own_base most (exists xs a) (λ k front rest h short free. headed_there most (some_of xs) a ra k front rest h short))

reads_unary : (most : ℕ) (kind : UnKind) (a : Tree) → Reads most a → Reads most (unary kind a)
reads_unary most Minus a ra = reads_from most (unary Minus a) (own_base most (unary Minus a) (base_minus most a ra))
reads_unary most Complement a ra = reads_from most (unary Complement a) (own_base most (unary Complement a) (base_complement most a ra))
reads_unary most Not a ra = reads_headed most negation a ra

mutual
  pub reads : (most : ℕ) (e : Tree) → Reads most e
  reads most (literal n) = reads_from most (literal n) (own_base most (literal n) (base_literal most n))
  reads most (truth b) = reads_from most (truth b) (own_base most (truth b) (base_truth most b))
  reads most (named x) = reads_from most (named x) (own_base most (named x) (base_named most x))
  reads most (read s f) = reads_from most (read s f) (own_base most (read s f) (base_read most s f))
  reads most (read_at s f es) = reads_from most (read_at s f es) (own_base most (read_at s f es) (base_read_at most s f es (all_read most es)))
  reads most (path g steps) = reads_from most (path g steps) (own_base most (path g steps) (base_path most g steps (all_steps most steps)))
  reads most (unary kind a) = reads_unary most kind a (reads most a)
  reads most (binary kind a b) = reads_binary most kind a b (reads most a) (reads most b) (told kind)
  reads most (all_of es) = reads_from most (all_of es) (own_base most (all_of es) (base_all most es (all_read most es)))
  reads most (any_of es) = reads_from most (any_of es) (own_base most (any_of es) (base_any most es (all_read most es)))
  reads most (choose c a b) = reads_from most (choose c a b) (own_base most (choose c a b) (base_choose most c a b (reads most c) (reads most a) (reads most b)))
  reads most (resize kind a) = reads_headed most (resized kind) a (reads most a)
  reads most (sized n w) = reads_from most (sized n w) (own_base most (sized n w) (base_sized most n w))
  reads most (for_all xs a) = reads_headed most (each_of xs) a (reads most a)
  reads most (exists xs a) = reads_headed most (some_of xs) a (reads most a)

  pub all_read : (most : ℕ) (es : Trees) → AllRead most es
  all_read most no_trees = tt
  all_read most (tree_and e es) = (reads most e, all_read most es)

  all_steps : (most : ℕ) (ss : Steps) → AllSteps most ss
  all_steps most no_steps = tt
  all_steps most (step_and s ss) = (step_reads most s, all_steps most ss)

  step_reads : (most : ℕ) (s : Step) → StepReads most s
  step_reads most (element e) = reads most e
  step_reads most (member k) = tt

-- whatever words spell is what is read
pub expr_complete : (most n : ℕ) (e : Tree) (front rest : List Text) → SpellsAt 7 e front → length front < n → is_free 7 rest ≡ true → expr_at most n (front ++ rest) ≡ Some (limited most e, rest)
expr_complete most n e front rest spelled short free = expr_there most e (reads most e) n front rest spelled short free
