-- What the reading of words, signs and operators gives is spelled there.
use Rattle.std.proofs.Common.{◌≡◌, ℕ, zero, suc, ◌+◌, ◌≤◌, Bool, true, false, ◌⊎◌, inl, inr, List, [], ◌∷◌, ◌++◌, length, refl, ap, sym, subst, ◌∙◌, append_assoc, arith}
use Rattle.std.specs.Prelude.{Option, Some, None, codes, bytes_eq, if◌then◌else◌, ◌==◌}
use Rattle.std.proofs.lemmas.Bool.{eqb-true}
use Rattle.spec_ast.specs.declared.kind.UnKind.TheVariants.{Minus, Complement}
use Rattle.spec_ast.specs.declared.kind.BinKind.{BinKind}
use Rattle.spec_ast.specs.Raw.{Tree, literal, truth, named, read, read_at, path, unary, binary, Trees, Steps}
use Rattle.spec_ast.specs.Depth.{depth, depths, step_depths}
use Rattle.spec_expr.specs.Words.{Text, is_name, number_of}
use Rattle.spec_expr.specs.Spelling.{between, form_of, form_looseness, looseness, AreJoined, SpellsBare, SpellsAt}
use Rattle.spec_expr.specs.Grown.{Grown, bounded, lift, limited}
use Rattle.spec_expr.specs.Reading.{Reader, after, lookup, operators, if_as_loose, operator_at, call_of, calls, CallKind, one_deeper, grown_binary, leaf, closed_at, arguments_at, steps_at, call_at, read_from, dotted_at, number_or, leaf_of, grown_leaf, beside_at, primary_at, unary_at, by_operator, chain_at, level_at, compared_at, whole_at, expr_at}
use Rattle.spec_expr.proofs.Parts.{same_text, some_is, same, after_is, EachEntry, looked_up}
use Rattle.spec_expr.proofs.GrownLaws.{bounded_lift}
use Rattle.spec_expr.proofs.Sound.{FoundAt, IsSound, bare, closed_sound, binary_limited, arguments_sound}
use Rattle.spec_expr.proofs.PrimarySound.{steps_sound, IsCallWord, each_call, call_sound}

abbrev Gives : Option (Grown Tree × List Text) → Grown Tree → List Text → Type 0
Gives o g rest = o ≡ Some (g, rest)

-- a leaf of one word
found_leaf : (most : ℕ) (e : Tree) (front ts rest : List Text) (g : Grown Tree) (r : List Text) → looseness e ≤ 0 → depth e ≡ 1 → SpellsBare e front → ts ≡ front ++ r →
    Gives (Some (leaf most e, r)) g rest → FoundAt most 0 ts g rest
found_leaf most e front ts rest g r tight flat spelled parts h =
    let s = same (leaf most e) g r rest h in
    record { e = e; front = front; spelled = bare 0 e front tight spelled; parts = parts ∙ ap (λ u. front ++ u) s.rest; grown = sym s.value ∙ ap (bounded most e) (sym flat) }

read_by : (most : ℕ) (inner : Reader (Grown Tree)) → IsSound most 7 inner → (s f t : Text) (ts : List Text) (g : Grown Tree) (rest : List Text) (b : Bool) → bytes_eq t (codes "(") ≡ b →
    is_name s ≡ true → bytes_eq s (codes "kernel") ≡ false → is_name f ≡ true →
    Gives (if b then after (arguments_at most inner (codes ")") ts) (λ es r. Some (lift most (read_at s f) one_deeper es, r)) else Some (leaf most (read s f), t ∷ ts)) g rest →
    FoundAt most 0 (s ∷ codes "." ∷ f ∷ t ∷ ts) g rest
read_by most inner sound s f t ts g rest true e1 state other field h =
    let a = after_is {A = Grown Trees} {B = Grown Tree} (arguments_at most inner (codes ")") ts) (λ es r. Some (lift most (read_at s f) one_deeper es, r)) (g, rest) h in
    let u = arguments_sound most inner sound (codes ")") ts a.value a.rest a.read in
    let v = same (lift most (read_at s f) one_deeper a.value) g a.rest rest a.on_is in
    let front : List Text = s ∷ codes "." ∷ f ∷ codes "(" ∷ u.front in
    record {
      e = read_at s f u.es;
      front = front;
      spelled = bare 0 (read_at s f u.es) front (omega arith) (u.front, (state, other), field, u.spelled, refl);
      parts = ap (λ w. s ∷ codes "." ∷ f ∷ w ∷ ts) (same_text t (codes "(") e1) ∙ ap (λ r. s ∷ codes "." ∷ f ∷ codes "(" ∷ r) (u.parts ∙ ap (λ r. u.front ++ r) v.rest);
      grown = sym v.value ∙ ap (lift most (read_at s f) one_deeper) u.grown ∙ bounded_lift most (read_at s f) one_deeper u.es (depths u.es) (omega arith);
    }
read_by most inner sound s f t ts g rest false e1 state other field h =
    found_leaf most (read s f) (s ∷ codes "." ∷ f ∷ []) (s ∷ codes "." ∷ f ∷ t ∷ ts) rest g (t ∷ ts) (omega arith) refl ((state, other), field, refl) refl h

read_sound : (most : ℕ) (inner : Reader (Grown Tree)) → IsSound most 7 inner → (s f : Text) (ts : List Text) (g : Grown Tree) (rest : List Text) →
    is_name s ≡ true → bytes_eq s (codes "kernel") ≡ false → is_name f ≡ true → Gives (read_from most inner s f ts) g rest → FoundAt most 0 (s ∷ codes "." ∷ f ∷ ts) g rest
read_sound most inner sound s f [] g rest state other field h =
    found_leaf most (read s f) (s ∷ codes "." ∷ f ∷ []) (s ∷ codes "." ∷ f ∷ []) rest g [] (omega arith) refl ((state, other), field, refl) refl h
read_sound most inner sound s f (t ∷ ts) g rest state other field h = read_by most inner sound s f t ts g rest (bytes_eq t (codes "(")) refl state other field h

dotted_by : (most : ℕ) (inner : Reader (Grown Tree)) → IsSound most 7 inner → (s f : Text) (ts : List Text) (g : Grown Tree) (rest : List Text) (b c d : Bool) →
    is_name f ≡ b → bytes_eq s (codes "kernel") ≡ c → is_name s ≡ d →
    Gives (if b
    then (if c then after (steps_at most inner (length ts) ts) (λ ss r. Some (lift most (path f) one_deeper ss, r))
    else (if d then read_from most inner s f ts else None))
    else None) g rest →
    FoundAt most 0 (s ∷ codes "." ∷ f ∷ ts) g rest
dotted_by most inner sound s f ts g rest true true d e1 e2 e3 h =
    let a = after_is {A = Grown Steps} {B = Grown Tree} (steps_at most inner (length ts) ts) (λ ss r. Some (lift most (path f) one_deeper ss, r)) (g, rest) h in
    let u = steps_sound most inner sound (length ts) ts a.value a.rest a.read in
    let v = same (lift most (path f) one_deeper a.value) g a.rest rest a.on_is in
    let front : List Text = codes "kernel" ∷ codes "." ∷ f ∷ u.front in
    record {
      e = path f u.ss;
      front = front;
      spelled = bare 0 (path f u.ss) front (omega arith) (u.front, e1, u.spelled, refl);
      parts = ap (λ w. w ∷ codes "." ∷ f ∷ ts) (same_text s (codes "kernel") e2) ∙ ap (λ r. codes "kernel" ∷ codes "." ∷ f ∷ r) (u.parts ∙ ap (λ r. u.front ++ r) v.rest);
      grown = sym v.value ∙ ap (lift most (path f) one_deeper) u.grown ∙ bounded_lift most (path f) one_deeper u.ss (step_depths u.ss) (omega arith);
    }
dotted_by most inner sound s f ts g rest true false true e1 e2 e3 h = read_sound most inner sound s f ts g rest e3 e2 e1 h
dotted_by most inner sound s f ts g rest true false false e1 e2 e3 h = absurd cc
dotted_by most inner sound s f ts g rest false c d e1 e2 e3 h = absurd cc

dotted_sound : (most : ℕ) (inner : Reader (Grown Tree)) → IsSound most 7 inner → (s : Text) (ts : List Text) (g : Grown Tree) (rest : List Text) →
    Gives (dotted_at most inner s ts) g rest → FoundAt most 0 (s ∷ codes "." ∷ ts) g rest
dotted_sound most inner sound s [] g rest h = absurd cc
dotted_sound most inner sound s (f ∷ ts) g rest h = dotted_by most inner sound s f ts g rest (is_name f) (bytes_eq s (codes "kernel")) (is_name s) refl refl refl h

-- the word of a leaf
leaf_by : (most : ℕ) (t : Text) (ts : List Text) (g : Grown Tree) (rest : List Text) (n : Option ℕ) (b c d : Bool) →
    number_of t ≡ n → bytes_eq t (codes "True") ≡ b → bytes_eq t (codes "False") ≡ c → is_name t ≡ d →
    Gives (grown_leaf most (number_or n (if b then Some (truth true) else (if c then Some (truth false) else (if d then Some (named t) else None)))) ts) g rest →
    FoundAt most 0 (t ∷ ts) g rest
leaf_by most t ts g rest (Some n) b c d e0 e1 e2 e3 h = found_leaf most (literal n) (t ∷ []) (t ∷ ts) rest g ts (omega arith) refl (t, e0, refl) refl h
leaf_by most t ts g rest None true c d e0 e1 e2 e3 h =
    found_leaf most (truth true) (codes "True" ∷ []) (t ∷ ts) rest g ts (omega arith) refl refl (ap (λ w. w ∷ ts) (same_text t (codes "True") e1)) h
leaf_by most t ts g rest None false true d e0 e1 e2 e3 h =
    found_leaf most (truth false) (codes "False" ∷ []) (t ∷ ts) rest g ts (omega arith) refl refl (ap (λ w. w ∷ ts) (same_text t (codes "False") e2)) h
leaf_by most t ts g rest None false false true e0 e1 e2 e3 h = found_leaf most (named t) (t ∷ []) (t ∷ ts) rest g ts (omega arith) refl (e3, refl) refl h
leaf_by most t ts g rest None false false false e0 e1 e2 e3 h = absurd cc

leaf_sound : (most : ℕ) (t : Text) (ts : List Text) (g : Grown Tree) (rest : List Text) → Gives (grown_leaf most (leaf_of t) ts) g rest → FoundAt most 0 (t ∷ ts) g rest
leaf_sound most t ts g rest h = leaf_by most t ts g rest (number_of t) (bytes_eq t (codes "True")) (bytes_eq t (codes "False")) (is_name t) refl refl refl refl h

called_sound : (most : ℕ) (inner : Reader (Grown Tree)) → IsSound most 7 inner → (word : Text) (ts : List Text) (g : Grown Tree) (rest : List Text) (o : Option CallKind) → call_of word ≡ o →
    Gives (call_at most inner o ts) g rest → FoundAt most 0 (word ∷ codes "(" ∷ ts) g rest
unfolding call_of
called_sound most inner sound word ts g rest None is h = absurd cc
called_sound most inner sound word ts g rest (Some kind) is h = call_sound most inner sound kind word (looked_up IsCallWord word kind calls each_call is) ts g rest h

beside_by : (most : ℕ) (inner : Reader (Grown Tree)) → IsSound most 7 inner → (t u : Text) (ts : List Text) (g : Grown Tree) (rest : List Text) (b c : Bool) →
    bytes_eq u (codes "(") ≡ b → bytes_eq u (codes ".") ≡ c →
    Gives (if b then call_at most inner (call_of t) ts else (if c then dotted_at most inner t ts else grown_leaf most (leaf_of t) (u ∷ ts))) g rest →
    FoundAt most 0 (t ∷ u ∷ ts) g rest
beside_by most inner sound t u ts g rest true c e1 e2 h =
    let f = called_sound most inner sound t ts g rest (call_of t) refl h in
    record { e = f.e; front = f.front; spelled = f.spelled; parts = ap (λ w. t ∷ w ∷ ts) (same_text u (codes "(") e1) ∙ f.parts; grown = f.grown }
beside_by most inner sound t u ts g rest false true e1 e2 h =
    let f = dotted_sound most inner sound t ts g rest h in
    record { e = f.e; front = f.front; spelled = f.spelled; parts = ap (λ w. t ∷ w ∷ ts) (same_text u (codes ".") e2) ∙ f.parts; grown = f.grown }
beside_by most inner sound t u ts g rest false false e1 e2 h = leaf_sound most t (u ∷ ts) g rest h

beside_sound : (most : ℕ) (inner : Reader (Grown Tree)) → IsSound most 7 inner → (t : Text) (ts : List Text) (g : Grown Tree) (rest : List Text) →
    Gives (beside_at most inner t ts) g rest → FoundAt most 0 (t ∷ ts) g rest
beside_sound most inner sound t [] g rest h = leaf_sound most t [] g rest h
beside_sound most inner sound t (u ∷ ts) g rest h = beside_by most inner sound t u ts g rest (bytes_eq u (codes "(")) (bytes_eq u (codes ".")) refl refl h

-- an expression in parentheses stands at each place
pub in_parentheses : (place : ℕ) (e : Tree) (ts : List Text) → SpellsAt 7 e ts → SpellsAt place e (codes "(" ∷ (ts ++ codes ")" ∷ []))
in_parentheses place e ts s = record { count = suc s.count; wrapped = (ts, s.wrapped, refl); fits = λ none. absurd (omega (arith, none)) }

primary_by : (most : ℕ) (inner : Reader (Grown Tree)) → IsSound most 7 inner → (t : Text) (ts : List Text) (g : Grown Tree) (rest : List Text) (b : Bool) → bytes_eq t (codes "(") ≡ b →
    Gives (if b then closed_at inner (codes ")") ts else beside_at most inner t ts) g rest → FoundAt most 0 (t ∷ ts) g rest
primary_by most inner sound t ts g rest true e1 h =
    let f = closed_sound most inner sound (codes ")") ts g rest h in
    record {
      e = f.e;
      front = codes "(" ∷ (f.front ++ codes ")" ∷ []);
      spelled = in_parentheses 0 f.e f.front f.spelled;
      parts = ap (λ w. w ∷ ts) (same_text t (codes "(") e1) ∙ ap (λ r. codes "(" ∷ r) f.parts;
      grown = f.grown;
    }
primary_by most inner sound t ts g rest false e1 h = beside_sound most inner sound t ts g rest h

primary_sound : (most : ℕ) (inner : Reader (Grown Tree)) → IsSound most 7 inner → IsSound most 0 (primary_at most inner)
primary_sound most inner sound [] g rest h = absurd cc
primary_sound most inner sound (t ∷ ts) g rest h = primary_by most inner sound t ts g rest (bytes_eq t (codes "(")) refl h

unary_by : (most : ℕ) (inner : Reader (Grown Tree)) → IsSound most 7 inner → (t : Text) (ts : List Text) (g : Grown Tree) (rest : List Text) (b c : Bool) →
    bytes_eq t (codes "-") ≡ b → bytes_eq t (codes "~") ≡ c → ((k : Grown Tree) (r : List Text) → Gives (unary_at most inner ts) k r → FoundAt most 0 ts k r) →
    Gives (if b then after (unary_at most inner ts) (λ a r. Some (lift most (unary Minus) one_deeper a, r))
    else (if c then after (unary_at most inner ts) (λ a r. Some (lift most (unary Complement) one_deeper a, r)) else primary_at most inner (t ∷ ts))) g rest →
    FoundAt most 0 (t ∷ ts) g rest
unary_by most inner sound t ts g rest true c e1 e2 others h =
    let a = after_is {A = Grown Tree} {B = Grown Tree} (unary_at most inner ts) (λ a r. Some (lift most (unary Minus) one_deeper a, r)) (g, rest) h in
    let f = others a.value a.rest a.read in
    let s = same (lift most (unary Minus) one_deeper a.value) g a.rest rest a.on_is in
    record {
      e = unary Minus f.e;
      front = codes "-" ∷ f.front;
      spelled = bare 0 (unary Minus f.e) (codes "-" ∷ f.front) (omega arith) (f.front, f.spelled, refl);
      parts = ap (λ w. w ∷ ts) (same_text t (codes "-") e1) ∙ ap (λ r. codes "-" ∷ r) (f.parts ∙ ap (λ r. f.front ++ r) s.rest);
      grown = sym s.value ∙ ap (lift most (unary Minus) one_deeper) f.grown ∙ bounded_lift most (unary Minus) one_deeper f.e (depth f.e) (omega arith);
    }
unary_by most inner sound t ts g rest false true e1 e2 others h =
    let a = after_is {A = Grown Tree} {B = Grown Tree} (unary_at most inner ts) (λ a r. Some (lift most (unary Complement) one_deeper a, r)) (g, rest) h in
    let f = others a.value a.rest a.read in
    let s = same (lift most (unary Complement) one_deeper a.value) g a.rest rest a.on_is in
    record {
      e = unary Complement f.e;
      front = codes "~" ∷ f.front;
      spelled = bare 0 (unary Complement f.e) (codes "~" ∷ f.front) (omega arith) (f.front, f.spelled, refl);
      parts = ap (λ w. w ∷ ts) (same_text t (codes "~") e2) ∙ ap (λ r. codes "~" ∷ r) (f.parts ∙ ap (λ r. f.front ++ r) s.rest);
      grown = sym s.value ∙ ap (lift most (unary Complement) one_deeper) f.grown ∙ bounded_lift most (unary Complement) one_deeper f.e (depth f.e) (omega arith);
    }
unary_by most inner sound t ts g rest false false e1 e2 others h = primary_sound most inner sound (t ∷ ts) g rest h

unary_sound : (most : ℕ) (inner : Reader (Grown Tree)) → IsSound most 7 inner → IsSound most 0 (unary_at most inner)
unfolding unary_at
unary_sound most inner sound [] g rest h = absurd cc
unary_sound most inner sound (t ∷ ts) g rest h =
    unary_by most inner sound t ts g rest (bytes_eq t (codes "-")) (bytes_eq t (codes "~")) refl refl (λ k r read. unary_sound most inner sound ts k r read) h

-- what the mark of an operator says of its kind
pub record Operator (loose : ℕ) (t : Text) (kind : BinKind) : Type 0 where
  pub left : ℕ
  pub right : ℕ
  pub form : form_of kind ≡ between loose left right t
  pub right_is : right + 1 ≡ loose
  pub left_is : ((left ≡ loose) × (loose ≤ 6)) ⊎ ((left ≡ 6) × (loose ≡ 7))

abbrev IsMark : Text → BinKind → Type 0
IsMark t kind = (loose : ℕ) × Operator loose t kind

chains : (t : Text) (kind : BinKind) (loose right : ℕ) → form_of kind ≡ between loose loose right t → right + 1 ≡ loose → loose ≤ 6 → IsMark t kind
chains t kind loose right form right_is low = (loose, record { left = loose; right = right; form = form; right_is = right_is; left_is = inl (refl, low) })

compares : (t : Text) (kind : BinKind) → form_of kind ≡ between 7 6 6 t → IsMark t kind
compares t kind form = (7, record { left = 6; right = 6; form = form; right_is = refl; left_is = inr (refl, refl) })

each_mark : EachEntry IsMark operators
each_mark = (
  chains _ _ 1 0 refl refl (omega arith),
  (
    chains _ _ 2 1 refl refl (omega arith),
    (
      chains _ _ 2 1 refl refl (omega arith),
      (
        chains _ _ 3 2 refl refl (omega arith),
        (
          chains _ _ 3 2 refl refl (omega arith),
          (
            chains _ _ 4 3 refl refl (omega arith),
            (
              chains _ _ 5 4 refl refl (omega arith),
              (
                chains _ _ 6 5 refl refl (omega arith),
                (compares _ _ refl, (compares _ _ refl, (compares _ _ refl, (compares _ _ refl, (compares _ _ refl, (compares _ _ refl, tt)))))),
              ),
            ),
          ),
        ),
      ),
    ),
  ),
)

operator_when : (loose : ℕ) (t : Text) (k kind : BinKind) (b : Bool) → (form_looseness (form_of k) == loose) ≡ b → IsMark t k → ◌≡◌ {A = Option BinKind} (if b then Some k else None) (Some kind) → Operator loose t kind
operator_when loose t k kind true e (own, mark) h =
    let is : own ≡ loose = sym (ap form_looseness mark.form) ∙ eqb-true (form_looseness (form_of k)) loose e in
    subst (λ x. Operator loose t x) (some_is k kind h) (subst (λ n. Operator n t k) is mark)
operator_when loose t k kind false e mark h = absurd cc

operator_by : (loose : ℕ) (t : Text) (kind : BinKind) (o : Option BinKind) → lookup t operators ≡ o → if_as_loose loose o ≡ Some kind → Operator loose t kind
operator_by loose t kind None is h = absurd cc
operator_by loose t kind (Some k) is h = operator_when loose t k kind (form_looseness (form_of k) == loose) refl (looked_up IsMark t k operators each_mark is) h

pub operator_is : (loose : ℕ) (t : Text) (kind : BinKind) → operator_at loose t ≡ Some kind → Operator loose t kind
unfolding operator_at
operator_is loose t kind h = operator_by loose t kind (lookup t operators) refl h

pub looser : (place more : ℕ) (e : Tree) (ts : List Text) → place ≤ more → SpellsAt place e ts → SpellsAt more e ts
looser place more e ts h s = record { count = s.count; wrapped = s.wrapped; fits = λ none. let low = s.fits none in omega (arith, h, low) }

-- two operands with a mark between them
joined_at : (loose left right : ℕ) (t : Text) (kind : BinKind) (a b : Tree) (fa fb : List Text) → form_of kind ≡ between loose left right t → SpellsAt left a fa → SpellsAt right b fb →
    SpellsAt loose (binary kind a b) (fa ++ t ∷ fb)
joined_at loose left right t kind a b fa fb form sa sb =
    let joined : AreJoined (between loose left right t) (λ place. SpellsAt place a) (λ place. SpellsAt place b) (fa ++ t ∷ fb) = (fa, fb, sa, sb, refl) in
    let own : form_looseness (form_of kind) ≡ loose = ap form_looseness form in
    bare loose (binary kind a b) (fa ++ t ∷ fb) (omega (arith, own)) (subst (λ f. AreJoined f (λ place. SpellsAt place a) (λ place. SpellsAt place b) (fa ++ t ∷ fb)) (sym form) joined)

-- no further operator: the operand is all
stops_here : (most loose : ℕ) (a : Tree) (fa ts : List Text) (k g : Grown Tree) (rest : List Text) → SpellsAt loose a fa → k ≡ limited most a → Gives (Some (k, ts)) g rest → FoundAt most loose (fa ++ ts) g rest
stops_here most loose a fa ts k g rest spelled grown h =
    let s = same k g ts rest h in
    record { e = a; front = fa; spelled = spelled; parts = ap (λ r. fa ++ r) s.rest; grown = sym s.value ∙ grown }

chain_by : (most : ℕ) (operand : Reader (Grown Tree)) (j : ℕ) → suc j ≤ 6 → IsSound most j operand → (m : ℕ) (a : Tree) (fa : List Text) (k : Grown Tree) (t : Text) (ts : List Text) (g : Grown Tree) (rest : List Text) →
    SpellsAt (suc j) a fa → k ≡ limited most a →
    ((b : Tree) (fb : List Text) (l : Grown Tree) (us : List Text) → SpellsAt (suc j) b fb → l ≡ limited most b → Gives (chain_at most operand (suc j) m l us) g rest → FoundAt most (suc j) (fb ++ us) g rest) →
    (o : Option BinKind) → operator_at (suc j) t ≡ o →
    Gives (by_operator o (Some (k, t ∷ ts)) (λ kind. after (operand ts) (λ b r. chain_at most operand (suc j) m (grown_binary most kind k b) r))) g rest →
    FoundAt most (suc j) (fa ++ t ∷ ts) g rest
chain_by most operand j low sound m a fa k t ts g rest spelled grown others None is h = stops_here most (suc j) a fa (t ∷ ts) k g rest spelled grown h
chain_by most operand j low sound m a fa k t ts g rest spelled grown others (Some kind) is h =
    let op = operator_is (suc j) t kind is in
    let u = after_is {A = Grown Tree} {B = Grown Tree} (operand ts) (λ b r. chain_at most operand (suc j) m (grown_binary most kind k b) r) (g, rest) h in
    let f = sound ts u.value u.rest u.read in
    let right : op.right ≡ j = omega (arith, op.right_is) in
    let left : op.left ≡ suc j = elim op.left_is [ inl (is_own, _) ↦ is_own | inr (_, seven) ↦ absurd (omega (arith, seven, low)) ] in
    let form : form_of kind ≡ between (suc j) (suc j) j t = op.form ∙ ap (λ n. between (suc j) n op.right t) left ∙ ap (λ n. between (suc j) (suc j) n t) right in
    let whole : SpellsAt (suc j) (binary kind a f.e) (fa ++ t ∷ f.front) = joined_at (suc j) (suc j) j t kind a f.e fa f.front form spelled f.spelled in
    let grew : grown_binary most kind k u.value ≡ limited most (binary kind a f.e) =
    ap (λ x. grown_binary most kind x u.value) grown ∙ ap (grown_binary most kind (limited most a)) f.grown ∙ binary_limited most kind a f.e in
    let inner = others (binary kind a f.e) (fa ++ t ∷ f.front) (grown_binary most kind k u.value) u.rest whole grew u.on_is in
    record {
      e = inner.e;
      front = inner.front;
      spelled = inner.spelled;
      parts = ap (λ r. fa ++ t ∷ r) f.parts ∙ sym (append_assoc fa (t ∷ f.front) u.rest) ∙ inner.parts;
      grown = inner.grown;
    }

chain_sound : (most : ℕ) (operand : Reader (Grown Tree)) (j : ℕ) → suc j ≤ 6 → IsSound most j operand → (m : ℕ) (a : Tree) (fa : List Text) (k : Grown Tree) (ts : List Text) (g : Grown Tree) (rest : List Text) →
    SpellsAt (suc j) a fa → k ≡ limited most a → Gives (chain_at most operand (suc j) m k ts) g rest → FoundAt most (suc j) (fa ++ ts) g rest
unfolding chain_at
chain_sound most operand j low sound zero a fa k ts g rest spelled grown h = stops_here most (suc j) a fa ts k g rest spelled grown h
chain_sound most operand j low sound (suc m) a fa k [] g rest spelled grown h = stops_here most (suc j) a fa [] k g rest spelled grown h
chain_sound most operand j low sound (suc m) a fa k (t ∷ ts) g rest spelled grown h =
    chain_by most operand j low sound m a fa k t ts g rest spelled grown
    (λ b fb l us sb gb read. chain_sound most operand j low sound m b fb l us g rest sb gb read) (operator_at (suc j) t) refl h

level_sound : (most : ℕ) (inner : Reader (Grown Tree)) → IsSound most 7 inner → (j : ℕ) → j ≤ 6 → IsSound most j (level_at most inner j)
unfolding level_at
level_sound most inner sound zero low ts g rest h = unary_sound most inner sound ts g rest h
level_sound most inner sound (suc j) low ts g rest h =
    let below : IsSound most j (level_at most inner j) = level_sound most inner sound j (omega arith) in
    let a = after_is {A = Grown Tree} {B = Grown Tree} (level_at most inner j ts) (λ a r. chain_at most (level_at most inner j) (suc j) (length r) a r) (g, rest) h in
    let f = below ts a.value a.rest a.read in
    let c = chain_sound most (level_at most inner j) j low below (length a.rest) f.e f.front a.value a.rest g rest (looser j (suc j) f.e f.front (omega arith) f.spelled) f.grown a.on_is in
    record { e = c.e; front = c.front; spelled = c.spelled; parts = f.parts ∙ c.parts; grown = c.grown }

compared_by : (most : ℕ) (operand : Reader (Grown Tree)) → IsSound most 6 operand → (a : Tree) (fa : List Text) (k : Grown Tree) (t : Text) (ts : List Text) (g : Grown Tree) (rest : List Text) →
    SpellsAt 6 a fa → k ≡ limited most a → (o : Option BinKind) → operator_at 7 t ≡ o →
    Gives (by_operator o (Some (k, t ∷ ts)) (λ kind. after (operand ts) (λ b r. Some (grown_binary most kind k b, r)))) g rest → FoundAt most 7 (fa ++ t ∷ ts) g rest
compared_by most operand sound a fa k t ts g rest spelled grown None is h = stops_here most 7 a fa (t ∷ ts) k g rest (looser 6 7 a fa (omega arith) spelled) grown h
compared_by most operand sound a fa k t ts g rest spelled grown (Some kind) is h =
    let op = operator_is 7 t kind is in
    let u = after_is {A = Grown Tree} {B = Grown Tree} (operand ts) (λ b r. Some (grown_binary most kind k b, r)) (g, rest) h in
    let f = sound ts u.value u.rest u.read in
    let s = same (grown_binary most kind k u.value) g u.rest rest u.on_is in
    let right : op.right ≡ 6 = omega (arith, op.right_is) in
    let left : op.left ≡ 6 = elim op.left_is [ inl (_, low) ↦ absurd (omega (arith, low)) | inr (six, _) ↦ six ] in
    let form : form_of kind ≡ between 7 6 6 t = op.form ∙ ap (λ n. between 7 n op.right t) left ∙ ap (λ n. between 7 6 n t) right in
    record {
      e = binary kind a f.e;
      front = fa ++ t ∷ f.front;
      spelled = joined_at 7 6 6 t kind a f.e fa f.front form spelled f.spelled;
      parts = ap (λ r. fa ++ t ∷ r) (f.parts ∙ ap (λ r. f.front ++ r) s.rest) ∙ sym (append_assoc fa (t ∷ f.front) rest);
      grown = sym s.value ∙ ap (λ x. grown_binary most kind x u.value) grown ∙ ap (grown_binary most kind (limited most a)) f.grown ∙ binary_limited most kind a f.e;
    }

compared_sound : (most : ℕ) (operand : Reader (Grown Tree)) → IsSound most 6 operand → (a : Tree) (fa : List Text) (k : Grown Tree) (ts : List Text) (g : Grown Tree) (rest : List Text) →
    SpellsAt 6 a fa → k ≡ limited most a → Gives (compared_at most operand k ts) g rest → FoundAt most 7 (fa ++ ts) g rest
compared_sound most operand sound a fa k [] g rest spelled grown h = stops_here most 7 a fa [] k g rest (looser 6 7 a fa (omega arith) spelled) grown h
compared_sound most operand sound a fa k (t ∷ ts) g rest spelled grown h = compared_by most operand sound a fa k t ts g rest spelled grown (operator_at 7 t) refl h

whole_sound : (most : ℕ) (inner : Reader (Grown Tree)) → IsSound most 7 inner → IsSound most 7 (whole_at most inner)
whole_sound most inner sound ts g rest h =
    let below : IsSound most 6 (level_at most inner 6) = level_sound most inner sound 6 (omega arith) in
    let a = after_is {A = Grown Tree} {B = Grown Tree} (level_at most inner 6 ts) (λ a r. compared_at most (level_at most inner 6) a r) (g, rest) h in
    let f = below ts a.value a.rest a.read in
    let c = compared_sound most (level_at most inner 6) below f.e f.front a.value a.rest g rest f.spelled f.grown a.on_is in
    record { e = c.e; front = c.front; spelled = c.spelled; parts = f.parts ∙ c.parts; grown = c.grown }

pub expr_sound : (most n : ℕ) → IsSound most 7 (expr_at most n)
unfolding expr_at
expr_sound most zero ts g rest h = absurd cc
expr_sound most (suc n) ts g rest h = whole_sound most (expr_at most n) (expr_sound most n) ts g rest h
