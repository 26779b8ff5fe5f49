-- What is spelled is read there: names, numbers, lists and leaves.
use Rattle.std.proofs.Common.{◌≡◌, ℕ, zero, suc, ◌+◌, ◌≤◌, ◌<◌, max, true, false, not, ◌||◌, List, [], ◌∷◌, ◌++◌, length, length-append, refl, ap, subst, ◌∙◌, append_assoc, arith}
use Rattle.std.specs.Prelude.{Option, Some, None, codes, bytes_eq}
use Rattle.std.proofs.lemmas.Slice.Eq.{bytes_eq-Decides}
use Rattle.spec_ast.specs.declared.kind.BinKind.{BinKind}
use Rattle.spec_ast.specs.declared.raw.RawResize.TheVariants.{ZeroExt, SignExt, Extract}
use Rattle.spec_ast.specs.Raw.{Tree, Trees, no_trees, tree_and, Step, element, member, Steps, no_steps, step_and}
use Rattle.spec_expr.specs.Words.{Text, is_name}
use Rattle.spec_expr.specs.Spelling.{AreMoreNames, AreNames, IsNumber, Head, negation, resized, each_of, some_of, SpellsBound, SpellsHead, SpellsArguments, SpellsMore, SpellsSteps, SpellsAt}
use Rattle.spec_expr.specs.Grown.{Grown, bounded, lift, join, limited, limited_list, limited_steps}
use Rattle.spec_expr.specs.Reading.{after, past, with_rest, operator_at, is_no_operator, has_no_operator, continues, is_free, number_at, number_comma_at, member_at, name_at, more_names_at, names_at, bound_at, HeadKind, negated, widened, sign_widened, cut, every, any, head_at, grown_and, closed_at, more_at, arguments_at, steps_at, chain_at, level_at, whole_at, expr_at}
use Rattle.spec_expr.proofs.Parts.{left_true, right_true, neither, not_true}
use Rattle.spec_expr.proofs.Sound.{and_limited}
use Rattle.spec_expr.proofs.PrimarySound.{element_limited, member_limited}

pub text_self : (t : Text) → bytes_eq t t ≡ true
text_self t = (bytes_eq-Decides t t).1 refl

-- words that do not go on with an expression
none_of : (o : Option BinKind) → is_no_operator o ≡ true → o ≡ None
none_of None h = refl
none_of (Some kind) h = cc

pub no_operator_here : (j : ℕ) (t : Text) (ts : List Text) → is_free (suc j) (t ∷ ts) ≡ true → operator_at (suc j) t ≡ None
unfolding has_no_operator
no_operator_here j t ts free =
    let h = left_true (is_no_operator (operator_at (suc j) t)) (has_no_operator j t) (right_true (not (continues t)) (has_no_operator (suc j) t) free) in
    none_of (operator_at (suc j) t) h

pub freer : (j : ℕ) (ts : List Text) → is_free (suc j) ts ≡ true → is_free j ts ≡ true
unfolding has_no_operator
freer j [] free = refl
freer j (t ∷ ts) free =
    let here = left_true (not (continues t)) (has_no_operator (suc j) t) free in
    let h = right_true (is_no_operator (operator_at (suc j) t)) (has_no_operator j t) (right_true (not (continues t)) (has_no_operator (suc j) t) free) in
    rw (here, h) refl

pub freer_to : (i d : ℕ) (ts : List Text) → is_free (d + i) ts ≡ true → is_free i ts ≡ true
freer_to i zero ts free = let e : zero + i ≡ i = omega arith in subst (λ k. is_free k ts ≡ true) e free
freer_to i (suc d) ts free =
    let e : suc d + i ≡ suc (d + i) = omega arith in
    freer_to i d ts (freer (d + i) ts (subst (λ k. is_free k ts ≡ true) e free))

pub record Apart (t : Text) : Type 0 where
  pub round : bytes_eq t (codes "(") ≡ false
  pub square : bytes_eq t (codes "[") ≡ false
  pub dot : bytes_eq t (codes ".") ≡ false

pub apart : (t : Text) (ts : List Text) → is_free 0 (t ∷ ts) ≡ true → Apart t
apart t ts free =
    let stops = not_true (continues t) (left_true (not (continues t)) (has_no_operator 0 t) free) in
    let first = neither (bytes_eq t (codes "(")) (bytes_eq t (codes "[") || bytes_eq t (codes ".")) stops in
    let second = neither (bytes_eq t (codes "[")) (bytes_eq t (codes ".")) first.second in
    record { round = first.first; square = second.first; dot = second.second }

-- a reading that gives this goes on from there
pub goes : {A B : Type 0} (o : Option (A × List Text)) (on : A → List Text → Option (B × List Text)) (a : A) (rest : List Text) → o ≡ Some (a, rest) → after o on ≡ on a rest
goes o on a rest is = ap (λ p. after p on) is

pub number_there : (n : ℕ) (t : Text) (rest : List Text) → IsNumber n t → number_at (t ∷ rest) ≡ Some (n, rest)
number_there n t rest is = ap (λ o. with_rest o rest) is

pub number_comma_there : (n : ℕ) (t : Text) (rest : List Text) → IsNumber n t → number_comma_at (t ∷ codes "," ∷ rest) ≡ Some (n, rest)
number_comma_there n t rest is =
    goes {A = ℕ} {B = ℕ} (number_at (t ∷ codes "," ∷ rest)) (λ n r. past (codes ",") r (λ r. Some (n, r))) n (codes "," ∷ rest) (number_there n t (codes "," ∷ rest) is)

pub name_there : (x : Text) (rest : List Text) → is_name x ≡ true → name_at (x ∷ rest) ≡ Some (x, rest)
name_there x rest is = rw is refl

more_names_there : (xs : List Text) (front rest : List Text) (m : ℕ) → AreMoreNames xs front → length front ≤ m → more_names_at m (front ++ rest) ≡ Some (xs, rest)
more_names_there [] front rest zero are short = absurd (let size : length front ≡ 1 = ap length are in omega (arith, size, short))
more_names_there [] front rest (suc m) are short = ap (λ f. more_names_at (suc m) (f ++ rest)) are
more_names_there (x ∷ xs) front rest zero (others, name, are, parts) short = absurd (let size : length front ≡ suc (suc (length others)) = ap length parts in omega (arith, size, short))
more_names_there (x ∷ xs) front rest (suc m) (others, name, are, parts) short =
    let size : length front ≡ suc (suc (length others)) = ap length parts in
    ap (λ f. more_names_at (suc m) (f ++ rest)) parts
    ∙ goes {A = Text} {B = List Text} (name_at (x ∷ (others ++ rest))) (λ x r. after (more_names_at m r) (λ xs r. Some (x ∷ xs, r))) x (others ++ rest) (name_there x (others ++ rest) name)
    ∙ goes {A = List Text} {B = List Text} (more_names_at m (others ++ rest)) (λ xs r. Some (x ∷ xs, r)) xs rest (more_names_there xs others rest m are (omega (arith, size, short)))

names_there : (xs : List Text) (front rest : List Text) → AreNames xs front → names_at (front ++ rest) ≡ Some (xs, rest)
names_there [] front rest are = absurd are
names_there (x ∷ xs) front rest (others, name, are, parts) =
    ap (λ f. names_at (f ++ rest)) parts
    ∙ goes {A = Text} {B = List Text} (name_at (x ∷ (others ++ rest))) (λ x r. after (more_names_at (length r) r) (λ xs r. Some (x ∷ xs, r))) x (others ++ rest) (name_there x (others ++ rest) name)
    ∙ goes {A = List Text} {B = List Text} (more_names_at (length (others ++ rest)) (others ++ rest)) (λ xs r. Some (x ∷ xs, r)) xs rest
    (more_names_there xs others rest (length (others ++ rest)) are (omega (arith, length-append others rest)))

bound_there : (xs : List Text) (front rest : List Text) → SpellsBound xs front → bound_at (front ++ rest) ≡ Some (xs, rest)
bound_there xs front rest (names, are, parts) =
    ap (λ f. bound_at (f ++ rest)) parts
    ∙ ap (λ r. after (names_at r) (λ xs r. past (codes ",") r (λ r. Some (xs, r)))) (append_assoc names (codes "," ∷ []) rest)
    ∙ goes {A = List Text} {B = List Text} (names_at (names ++ codes "," ∷ rest)) (λ xs r. past (codes ",") r (λ r. Some (xs, r))) xs (codes "," ∷ rest) (names_there xs names (codes "," ∷ rest) are)

abbrev pub kind_of : Head → HeadKind
kind_of negation = negated
kind_of (resized (ZeroExt n)) = widened
kind_of (resized (SignExt n)) = sign_widened
kind_of (resized (Extract high low)) = cut
kind_of (each_of xs) = every
kind_of (some_of xs) = any

pub head_there : (head : Head) (front rest : List Text) → SpellsHead head front → head_at (kind_of head) (front ++ rest) ≡ Some (head, rest)
head_there negation front rest is = ap (λ f. head_at negated (f ++ rest)) is
head_there (resized (ZeroExt n)) front rest (text, is, parts) =
    ap (λ f. head_at widened (f ++ rest)) parts
    ∙ goes {A = ℕ} {B = Head} (number_comma_at (text ∷ codes "," ∷ rest)) (λ n r. Some (resized (ZeroExt n), r)) n rest (number_comma_there n text rest is)
head_there (resized (SignExt n)) front rest (text, is, parts) =
    ap (λ f. head_at sign_widened (f ++ rest)) parts
    ∙ goes {A = ℕ} {B = Head} (number_comma_at (text ∷ codes "," ∷ rest)) (λ n r. Some (resized (SignExt n), r)) n rest (number_comma_there n text rest is)
head_there (resized (Extract high low)) front rest (hi, lo, is_high, is_low, parts) =
    ap (λ f. head_at cut (f ++ rest)) parts
    ∙ goes {A = ℕ} {B = Head} (number_comma_at (hi ∷ codes "," ∷ lo ∷ codes "," ∷ rest)) (λ high r. after (number_comma_at r) (λ low r. Some (resized (Extract high low), r))) high (lo ∷ codes "," ∷ rest)
    (number_comma_there high hi (lo ∷ codes "," ∷ rest) is_high)
    ∙ goes {A = ℕ} {B = Head} (number_comma_at (lo ∷ codes "," ∷ rest)) (λ low r. Some (resized (Extract high low), r)) low rest (number_comma_there low lo rest is_low)
head_there (each_of xs) front rest is = goes {A = List Text} {B = Head} (bound_at (front ++ rest)) (λ xs r. Some (each_of xs, r)) xs rest (bound_there xs front rest is)
head_there (some_of xs) front rest is = goes {A = List Text} {B = Head} (bound_at (front ++ rest)) (λ xs r. Some (some_of xs, r)) xs rest (bound_there xs front rest is)

-- how an expression is read: at each place below a comparison, where further operators follow, and as a whole
pub record ReadsOn (most n j : ℕ) (e : Tree) (front rest : List Text) : Type 0 where
  pub m : ℕ
  pub room : length rest ≤ m
  pub read : level_at most (expr_at most n) (suc j) (front ++ rest) ≡ chain_at most (level_at most (expr_at most n) j) (suc j) m (limited most e) rest

pub record Reads (most : ℕ) (e : Tree) : Type 0 where
  pub levels : (n j : ℕ) (front rest : List Text) → j ≤ 6 → SpellsAt j e front → length front ≤ suc n → is_free j rest ≡ true →
      level_at most (expr_at most n) j (front ++ rest) ≡ Some (limited most e, rest)
  pub chains : (n j : ℕ) (front rest : List Text) → suc j ≤ 6 → SpellsAt (suc j) e front → length front ≤ suc n → is_free j rest ≡ true → ReadsOn most n j e front rest
  pub whole : (n : ℕ) (front rest : List Text) → SpellsAt 7 e front → length front ≤ suc n → is_free 7 rest ≡ true →
      whole_at most (expr_at most n) (front ++ rest) ≡ Some (limited most e, rest)

pub expr_there : (most : ℕ) (e : Tree) → Reads most e → (n : ℕ) (front rest : List Text) → SpellsAt 7 e front → length front < n → is_free 7 rest ≡ true →
    expr_at most n (front ++ rest) ≡ Some (limited most e, rest)
unfolding expr_at
expr_there most e reads zero front rest spelled short free = absurd (omega (arith, short))
expr_there most e reads (suc n) front rest spelled short free = reads.whole n front rest spelled (omega (arith, short)) free

past_same : (g : Grown Tree) (close : Text) (rest : List Text) → ◌≡◌ {A = Option (Grown Tree × List Text)} (past close (close ∷ rest) (λ r. Some (g, r))) (Some (g, rest))
past_same g close rest = let e : bytes_eq close close ≡ true = text_self close in rw e refl

-- with the word that closes it
pub closed_there : (most : ℕ) (e : Tree) → Reads most e → (close : Text) → ((r : List Text) → is_free 7 (close ∷ r) ≡ true) → (n : ℕ) (front rest : List Text) → SpellsAt 7 e front → length front < n →
    closed_at (expr_at most n) close (front ++ close ∷ rest) ≡ Some (limited most e, rest)
closed_there most e reads close frees n front rest spelled short =
    goes {A = Grown Tree} {B = Grown Tree} (expr_at most n (front ++ close ∷ rest)) (λ e r. past close r (λ r. Some (e, r))) (limited most e) (close ∷ rest)
    (expr_there most e reads n front (close ∷ rest) spelled short (frees rest))
    ∙ past_same (limited most e) close rest

abbrev pub AllRead : ℕ → Trees → Type 0
AllRead most no_trees = Unit {0}
AllRead most (tree_and e es) = Reads most e × AllRead most es

more_free : (close : Text) → ((r : List Text) → is_free 7 (close ∷ r) ≡ true) → (es : Trees) (front rest : List Text) → SpellsMore close es front → is_free 7 (front ++ rest) ≡ true
unfolding has_no_operator operator_at
more_free close frees no_trees front rest is = ap (λ f. is_free 7 (f ++ rest)) is ∙ frees rest
more_free close frees (tree_and e es) front rest (first, others, spelled, more, parts) = ap (λ f. is_free 7 (f ++ rest)) parts

more_there : (most : ℕ) (close : Text) → ((r : List Text) → is_free 7 (close ∷ r) ≡ true) → bytes_eq (codes ",") close ≡ false → (es : Trees) → AllRead most es → (n m : ℕ) (front rest : List Text) →
    SpellsMore close es front → length front < n → length front ≤ m → more_at most (expr_at most n) close m (front ++ rest) ≡ Some (limited_list most es, rest)
more_there most close frees other no_trees all n zero front rest is short fits = absurd (let size : length front ≡ 1 = ap length is in omega (arith, size, fits))
more_there most close frees other no_trees all n (suc m) front rest is short fits =
    let e : bytes_eq close close ≡ true = text_self close in
    ap (λ f. more_at most (expr_at most n) close (suc m) (f ++ rest)) is ∙ rw e refl
more_there most close frees other (tree_and e es) all n zero front rest (first, others, spelled, more, parts) short fits =
    absurd (let size : length front ≡ suc (length (first ++ others)) = ap length parts in omega (arith, size, fits))
more_there most close frees other (tree_and e es) all n (suc m) front rest (first, others, spelled, more, parts) short fits =
    let size : length front ≡ suc (length (first ++ others)) = ap length parts in
    let both : length (first ++ others) ≡ length first + length others = length-append first others in
    ap (λ f. more_at most (expr_at most n) close (suc m) (f ++ rest)) parts
    ∙ rw other (
    ap (λ r. after (expr_at most n r) (λ x r. after (more_at most (expr_at most n) close m r) (λ xs r. Some (grown_and most x xs, r)))) (append_assoc first others rest)
    ∙ goes {A = Grown Tree} {B = Grown Trees} (expr_at most n (first ++ (others ++ rest))) (λ x r. after (more_at most (expr_at most n) close m r) (λ xs r. Some (grown_and most x xs, r))) (limited most e) (others ++ rest)
    (expr_there most e all.0 n first (others ++ rest) spelled (omega (arith, size, both, short)) (more_free close frees es others rest more))
    ∙ goes {A = Grown Trees} {B = Grown Trees} (more_at most (expr_at most n) close m (others ++ rest)) (λ xs r. Some (grown_and most (limited most e) xs, r)) (limited_list most es) rest
    (more_there most close frees other es all.1 n m others rest more (omega (arith, size, both, short)) (omega (arith, size, both, fits)))
    ∙ ap (λ g. Some (g, rest)) (and_limited most e es))

pub arguments_there : (most : ℕ) (close : Text) → ((r : List Text) → is_free 7 (close ∷ r) ≡ true) → bytes_eq (codes ",") close ≡ false → (es : Trees) → AllRead most es → (n : ℕ) (front rest : List Text) →
    SpellsArguments close es front → length front < n → arguments_at most (expr_at most n) close (front ++ rest) ≡ Some (limited_list most es, rest)
arguments_there most close frees other no_trees all n front rest spelled short = absurd spelled
arguments_there most close frees other (tree_and e es) all n front rest (first, others, spelled, more, parts) short =
    let size : length front ≡ length (first ++ others) = ap length parts in
    let both : length (first ++ others) ≡ length first + length others = length-append first others in
    ap (λ f. arguments_at most (expr_at most n) close (f ++ rest)) parts
    ∙ ap (arguments_at most (expr_at most n) close) (append_assoc first others rest)
    ∙ goes {A = Grown Tree} {B = Grown Trees} (expr_at most n (first ++ (others ++ rest))) (λ x r. after (more_at most (expr_at most n) close (length r) r) (λ xs r. Some (grown_and most x xs, r))) (limited most e) (others ++ rest)
    (expr_there most e all.0 n first (others ++ rest) spelled (omega (arith, size, both, short)) (more_free close frees es others rest more))
    ∙ goes {A = Grown Trees} {B = Grown Trees} (more_at most (expr_at most n) close (length (others ++ rest)) (others ++ rest)) (λ xs r. Some (grown_and most (limited most e) xs, r)) (limited_list most es) rest
    (more_there most close frees other es all.1 n (length (others ++ rest)) others rest more (omega (arith, size, both, short)) (omega (arith, length-append others rest)))
    ∙ ap (λ g. Some (g, rest)) (and_limited most e es)

abbrev pub StepReads : ℕ → Step → Type 0
StepReads most (element e) = Reads most e
StepReads most (member k) = Unit {0}

abbrev pub AllSteps : ℕ → Steps → Type 0
AllSteps most no_steps = Unit {0}
AllSteps most (step_and s ss) = StepReads most s × AllSteps most ss

steps_end : (most n m : ℕ) (rest : List Text) → is_free 0 rest ≡ true → steps_at most (expr_at most n) m rest ≡ Some (bounded most no_steps 0, rest)
steps_end most n zero rest free = refl
steps_end most n (suc m) [] free = refl
steps_end most n (suc m) (t ∷ ts) free = let a = apart t ts free in rw (a.square, a.dot) refl

pub square_free : (r : List Text) → is_free 7 (codes "]" ∷ r) ≡ true
unfolding has_no_operator operator_at
square_free r = refl

pub round_free : (r : List Text) → is_free 7 (codes ")" ∷ r) ≡ true
unfolding has_no_operator operator_at
round_free r = refl

pub comma_free : (r : List Text) → is_free 7 (codes "," ∷ r) ≡ true
unfolding has_no_operator operator_at
comma_free r = refl

pub steps_there : (most : ℕ) (ss : Steps) → AllSteps most ss → (n m : ℕ) (front rest : List Text) → SpellsSteps ss front → length front < n → length front ≤ m → is_free 0 rest ≡ true →
    steps_at most (expr_at most n) m (front ++ rest) ≡ Some (limited_steps most ss, rest)
steps_there most no_steps all n m front rest is short fits free = ap (λ f. steps_at most (expr_at most n) m (f ++ rest)) is ∙ steps_end most n m rest free
steps_there most (step_and (element e) ss) all n zero front rest (first, others, (inner, spelled, shape), more, parts) short fits free =
    absurd (let size : length front ≡ length (first ++ others) = ap length parts in let one : length first ≡ suc (length (inner ++ codes "]" ∷ [])) = ap length shape in omega (arith, size, one, length-append first others, fits))
steps_there most (step_and (element e) ss) all n (suc m) front rest (first, others, (inner, spelled, shape), more, parts) short fits free =
    let size : length front ≡ length (first ++ others) = ap length parts in
    let both : length (first ++ others) ≡ length first + length others = length-append first others in
    let one : length first ≡ suc (length (inner ++ codes "]" ∷ [])) = ap length shape in
    let in_one : length (inner ++ codes "]" ∷ []) ≡ length inner + 1 = length-append inner (codes "]" ∷ []) in
    ap (λ f. steps_at most (expr_at most n) (suc m) (f ++ rest)) (parts ∙ ap (λ f. f ++ others) shape)
    ∙ ap (λ r. after (closed_at (expr_at most n) (codes "]") r) (λ x r. after (steps_at most (expr_at most n) m r) (λ xs r. Some (join most (λ y ys. step_and (element y) ys) max x xs, r))))
    (append_assoc (inner ++ codes "]" ∷ []) others rest ∙ append_assoc inner (codes "]" ∷ []) (others ++ rest))
    ∙ goes {A = Grown Tree} {B = Grown Steps} (closed_at (expr_at most n) (codes "]") (inner ++ codes "]" ∷ (others ++ rest)))
    (λ x r. after (steps_at most (expr_at most n) m r) (λ xs r. Some (join most (λ y ys. step_and (element y) ys) max x xs, r))) (limited most e) (others ++ rest)
    (closed_there most e all.0 (codes "]") square_free n inner (others ++ rest) spelled (omega (arith, size, both, one, in_one, short)))
    ∙ goes {A = Grown Steps} {B = Grown Steps} (steps_at most (expr_at most n) m (others ++ rest)) (λ xs r. Some (join most (λ y ys. step_and (element y) ys) max (limited most e) xs, r)) (limited_steps most ss) rest
    (steps_there most ss all.1 n m others rest more (omega (arith, size, both, one, short)) (omega (arith, size, both, one, fits)) free)
    ∙ ap (λ g. Some (g, rest)) (element_limited most e ss)
steps_there most (step_and (member k) ss) all n zero front rest (first, others, (text, is, shape), more, parts) short fits free =
    absurd (let size : length front ≡ length (first ++ others) = ap length parts in let one : length first ≡ 2 = ap length shape in omega (arith, size, one, length-append first others, fits))
steps_there most (step_and (member k) ss) all n (suc m) front rest (first, others, (text, is, shape), more, parts) short fits free =
    let size : length front ≡ length (first ++ others) = ap length parts in
    let both : length (first ++ others) ≡ length first + length others = length-append first others in
    let one : length first ≡ 2 = ap length shape in
    ap (λ f. steps_at most (expr_at most n) (suc m) (f ++ rest)) (parts ∙ ap (λ f. f ++ others) shape)
    ∙ goes {A = ℕ} {B = Grown Steps} (member_at (text ∷ (others ++ rest))) (λ k r. after (steps_at most (expr_at most n) m r) (λ xs r. Some (lift most (step_and (member k)) (max 0) xs, r))) k (others ++ rest)
    (ap (λ o. with_rest o (others ++ rest)) is)
    ∙ goes {A = Grown Steps} {B = Grown Steps} (steps_at most (expr_at most n) m (others ++ rest)) (λ xs r. Some (lift most (step_and (member k)) (max 0) xs, r)) (limited_steps most ss) rest
    (steps_there most ss all.1 n m others rest more (omega (arith, size, both, one, short)) (omega (arith, size, both, one, fits)) free)
    ∙ ap (λ g. Some (g, rest)) (member_limited most k ss)
