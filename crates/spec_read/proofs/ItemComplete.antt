-- Whatever line words spell at a place is the one that is read there; so they spell at most one.
use Rattle.std.proofs.Common.{◌≡◌, ℕ, zero, suc, ◌+◌, ◌≤◌, ◌<◌, max, Bool, true, false, inl, inr, List, [], ◌∷◌, ◌++◌, length, length-append, refl, ap, sym, ◌∙◌, append_assoc, append-nil, arith}
use Rattle.std.specs.Prelude.{Option, Some, None, pos, neg_ℤ, codes, bytes_eq, if◌then◌else◌}
use Rattle.std.proofs.lemmas.Bool.{le-leb}
use Rattle.spec_ast.specs.declared.raw.RawSort.{RawSort}
use Rattle.spec_ast.specs.declared.raw.RawSort.TheVariants.{Named, Bits, Index}
use Rattle.spec_ast.specs.Raw.{Tree, Trees, read_at, Item, sort_line, constant_line, hook_line, class_line, field_line, def_line, var_line, let_line, copy_line, write_line, return_line, end_line}
use Rattle.spec_ast.specs.Depth.{depth, depths}
use Rattle.spec_expr.specs.Words.{Text, is_name}
use Rattle.spec_expr.specs.Spelling.{IsStateName, SpellsExpr}
use Rattle.spec_expr.specs.Grown.{Grown, built, lift, join, limited, limited_list}
use Rattle.spec_expr.specs.Reading.{Reader, after, past, number_at, number_comma_at, name_at, more_at, arguments_at, grown_and, one_deeper, call_of, operator_at, unary_at, chain_at, level_at, compared_at, expr_at}
use Rattle.spec_expr.proofs.Complete.{goes, number_there, number_comma_there, name_there, arguments_there, square_free, comma_free}
use Rattle.spec_expr.proofs.LevelComplete.{name_other, number_other, all_read, expr_complete, dotted_there}
use Rattle.spec_expr.proofs.OneTree.{kept}
use Rattle.spec_expr.proofs.Parts.{same_text}
use Rattle.spec_expr.proofs.GrownLaws.{bounded_join}
use Rattle.spec_read.specs.Places.{Function, Place, top, class_body, body_of, nowhere, function_of, is_handler}
use Rattle.spec_read.specs.Items.{SpellsNewSort, SpellsSort, AreMoreSorts, SpellsKeys, AreMoreParameters, AreParameters, IsIn, IsInHandler, IsInOther, SpellsItem}
use Rattle.spec_read.specs.ItemReading.{follows, at_end, or_else, begins_round, new_sort_at, sort_at, more_sorts_at, few_keys, keys_at, more_parameters_at, parameters_at, plain, constant_of, top_from, class_from, def_with, def_from, top_at, field_from, class_at, same_depth, expr_end, let_from, var_from, copy_from, assigned_at, write_value, result_from, return_from, statement_from, body_at, item_at, limited_item}

goes_on : {A B : Type 0} (o : Option (A × List Text)) (on : A → List Text → Option B) (a : A) (rest : List Text) → o ≡ Some (a, rest) → follows o on ≡ on a rest
goes_on o on a rest is = ap (λ p. follows p on) is

new_sort_there : (s : RawSort) (front rest : List Text) → SpellsNewSort s front → sort_at (front ++ rest) ≡ Some (s, rest)
new_sort_there (Named x) front rest spelled = absurd spelled
new_sort_there (Bits n) front rest (text, is, parts) =
    ap (λ f. sort_at (f ++ rest)) parts
    ∙ goes {A = ℕ} {B = RawSort} (number_at (text ∷ codes ")" ∷ rest)) (λ n r. past (codes ")") r (λ r. Some (Bits n, r))) n (codes ")" ∷ rest) (number_there n text (codes ")" ∷ rest) is)
new_sort_there (Index w n) front rest (width, size, is_width, is_size, parts) =
    ap (λ f. sort_at (f ++ rest)) parts
    ∙ goes {A = ℕ} {B = RawSort} (number_comma_at (width ∷ codes "," ∷ size ∷ codes ")" ∷ rest)) (λ w r. after (number_at r) (λ n r. past (codes ")") r (λ r. Some (Index w n, r)))) w (size ∷ codes ")" ∷ rest)
    (number_comma_there w width (size ∷ codes ")" ∷ rest) is_width)
    ∙ goes {A = ℕ} {B = RawSort} (number_at (size ∷ codes ")" ∷ rest)) (λ n r. past (codes ")") r (λ r. Some (Index w n, r))) n (codes ")" ∷ rest) (number_there n size (codes ")" ∷ rest) is_size)

sort_there : (s : RawSort) (front rest : List Text) → SpellsSort s front → begins_round rest ≡ false → sort_at (front ++ rest) ≡ Some (s, rest)
sort_there (Named x) front rest (name, parts) other = ap (λ f. sort_at (f ++ rest)) parts ∙ rw (other, name) refl
sort_there (Bits n) front rest spelled other = new_sort_there (Bits n) front rest spelled
sort_there (Index w n) front rest spelled other = new_sort_there (Index w n) front rest spelled

more_sorts_round : (ss : List RawSort) (front rest : List Text) → AreMoreSorts ss front → begins_round (front ++ rest) ≡ false
more_sorts_round [] front rest is = ap (λ f. begins_round (f ++ rest)) is
more_sorts_round (s ∷ ss) front rest (first, others, spelled, more, parts) = ap (λ f. begins_round (f ++ rest)) parts

more_sorts_there : (ss : List RawSort) (front rest : List Text) (m : ℕ) → AreMoreSorts ss front → length front ≤ m → more_sorts_at m (front ++ rest) ≡ Some (ss, rest)
more_sorts_there [] front rest zero is short = absurd (let size : length front ≡ 1 = ap length is in omega (arith, size, short))
more_sorts_there [] front rest (suc m) is short = ap (λ f. more_sorts_at (suc m) (f ++ rest)) is
more_sorts_there (s ∷ ss) front rest zero (first, others, spelled, more, parts) short = absurd (let size : length front ≡ suc (length (first ++ others)) = ap length parts in omega (arith, size, short))
more_sorts_there (s ∷ ss) front rest (suc m) (first, others, spelled, more, parts) short =
    let size : length front ≡ suc (length (first ++ others)) = ap length parts in
    let both : length (first ++ others) ≡ length first + length others = length-append first others in
    ap (λ f. more_sorts_at (suc m) (f ++ rest)) parts
    ∙ ap (λ r. after (sort_at r) (λ s r. after (more_sorts_at m r) (λ ss r. Some (s ∷ ss, r)))) (append_assoc first others rest)
    ∙ goes {A = RawSort} {B = List RawSort} (sort_at (first ++ (others ++ rest))) (λ s r. after (more_sorts_at m r) (λ ss r. Some (s ∷ ss, r))) s (others ++ rest) (sort_there s first (others ++ rest) spelled (more_sorts_round ss others rest more))
    ∙ goes {A = List RawSort} {B = List RawSort} (more_sorts_at m (others ++ rest)) (λ ss r. Some (s ∷ ss, r)) ss rest (more_sorts_there ss others rest m more (omega (arith, size, both, short)))

-- the first word of a sort opens no parenthesis
single_key : (s : RawSort) (front rest : List Text) → SpellsSort s front → begins_round rest ≡ false → keys_at (front ++ rest) ≡ Some (s ∷ [], rest)
single_key (Named x) front rest (name, parts) other =
    let round : bytes_eq x (codes "(") ≡ false = name_other x (codes "(") refl name in
    ap (λ f. keys_at (f ++ rest)) parts ∙ rw round (goes {A = RawSort} {B = List RawSort} (sort_at (x ∷ rest)) (λ s r. Some (s ∷ [], r)) (Named x) rest (sort_there (Named x) (x ∷ []) rest (name, refl) other))
single_key (Bits n) front rest (text, is, parts) other =
    ap (λ f. keys_at (f ++ rest)) parts
    ∙ goes {A = RawSort} {B = List RawSort} (sort_at (codes "Bits" ∷ codes "(" ∷ text ∷ codes ")" ∷ rest)) (λ s r. Some (s ∷ [], r)) (Bits n) rest
    (new_sort_there (Bits n) (codes "Bits" ∷ codes "(" ∷ text ∷ codes ")" ∷ []) rest (text, is, refl))
single_key (Index w n) front rest (width, size, is_width, is_size, parts) other =
    ap (λ f. keys_at (f ++ rest)) parts
    ∙ goes {A = RawSort} {B = List RawSort} (sort_at (codes "Index" ∷ codes "(" ∷ width ∷ codes "," ∷ size ∷ codes ")" ∷ rest)) (λ s r. Some (s ∷ [], r)) (Index w n) rest
    (new_sort_there (Index w n) (codes "Index" ∷ codes "(" ∷ width ∷ codes "," ∷ size ∷ codes ")" ∷ []) rest (width, size, is_width, is_size, refl))

few_there : (s : RawSort) (ss : List RawSort) (rest : List Text) → length ss ≤ 3 → few_keys s ss rest ≡ Some (s ∷ ss, rest)
few_there s ss rest few = rw (le-leb (length ss) 3 few) refl

keys_there : (ks : List RawSort) (front rest : List Text) → SpellsKeys ks front → begins_round rest ≡ false → keys_at (front ++ rest) ≡ Some (ks, rest)
keys_there [] front rest spelled other = absurd spelled
keys_there (s ∷ ss) front rest (inl (none, spelled)) other = single_key s front rest spelled other ∙ ap (λ us. Some (s ∷ us, rest)) (sym none)
keys_there (s ∷ ss) front rest (inr (first, others, few, spelled, more, parts)) other =
    ap (λ f. keys_at (f ++ rest)) parts
    ∙ ap (λ r. after (sort_at r) (λ s r. after (more_sorts_at (length r) r) (λ ss r. few_keys s ss r))) (append_assoc first others rest)
    ∙ goes {A = RawSort} {B = List RawSort} (sort_at (first ++ (others ++ rest))) (λ s r. after (more_sorts_at (length r) r) (λ ss r. few_keys s ss r)) s (others ++ rest) (sort_there s first (others ++ rest) spelled (more_sorts_round ss others rest more))
    ∙ goes {A = List RawSort} {B = List RawSort} (more_sorts_at (length (others ++ rest)) (others ++ rest)) (λ ss r. few_keys s ss r) ss rest (more_sorts_there ss others rest (length (others ++ rest)) more (omega (arith, length-append others rest)))
    ∙ few_there s ss rest few

more_parameters_there : (xs front rest : List Text) (m : ℕ) → AreMoreParameters xs front → length front ≤ m → more_parameters_at m (front ++ rest) ≡ Some (xs, rest)
more_parameters_there [] front rest zero is short = absurd (let size : length front ≡ 1 = ap length is in omega (arith, size, short))
more_parameters_there [] front rest (suc m) is short = ap (λ f. more_parameters_at (suc m) (f ++ rest)) is
more_parameters_there (x ∷ xs) front rest zero (others, name, are, parts) short = absurd (let size : length front ≡ suc (suc (length others)) = ap length parts in omega (arith, size, short))
more_parameters_there (x ∷ xs) front rest (suc m) (others, name, are, parts) short =
    let size : length front ≡ suc (suc (length others)) = ap length parts in
    ap (λ f. more_parameters_at (suc m) (f ++ rest)) parts
    ∙ goes {A = Text} {B = List Text} (name_at (x ∷ (others ++ rest))) (λ x r. after (more_parameters_at m r) (λ xs r. Some (x ∷ xs, r))) x (others ++ rest) (name_there x (others ++ rest) name)
    ∙ goes {A = List Text} {B = List Text} (more_parameters_at m (others ++ rest)) (λ xs r. Some (x ∷ xs, r)) xs rest (more_parameters_there xs others rest m are (omega (arith, size, short)))

parameters_there : (xs front rest : List Text) → AreParameters xs front → parameters_at (front ++ rest) ≡ Some (xs, rest)
parameters_there [] front rest are = absurd are
parameters_there (x ∷ xs) front rest (others, name, are, parts) =
    ap (λ f. parameters_at (f ++ rest)) parts
    ∙ goes {A = Text} {B = List Text} (name_at (x ∷ (others ++ rest))) (λ x r. after (more_parameters_at (length r) r) (λ xs r. Some (x ∷ xs, r))) x (others ++ rest) (name_there x (others ++ rest) name)
    ∙ goes {A = List Text} {B = List Text} (more_parameters_at (length (others ++ rest)) (others ++ rest)) (λ xs r. Some (x ∷ xs, r)) xs rest (more_parameters_there xs others rest (length (others ++ rest)) are (omega (arith, length-append others rest)))

-- ---- expressions up to the end of a line, and where there are none

expr_whole : (most n : ℕ) (e : Tree) (ts : List Text) → SpellsExpr e ts → length ts < n → expr_at most n ts ≡ Some (limited most e, [])
expr_whole most n e ts spelled short = ap (expr_at most n) (sym (append-nil ts)) ∙ expr_complete most n e ts [] spelled short refl

end_there : (most n : ℕ) (item : Grown Tree → Grown Item) (e : Tree) (ts : List Text) → SpellsExpr e ts → length ts < n → expr_end most n item ts ≡ Some (item (limited most e))
end_there most n item e ts spelled short =
    goes_on {A = Grown Tree} {B = Grown Item} (expr_at most n ts) (λ e r. at_end (item e) r) (limited most e) [] (expr_whole most n e ts spelled short)

level_none : (most : ℕ) (inner : Reader (Grown Tree)) (j : ℕ) (ts : List Text) → level_at most inner 0 ts ≡ None → level_at most inner j ts ≡ None
unfolding level_at
level_none most inner zero ts none = none
level_none most inner (suc j) ts none =
    ap (λ p. after p (λ a r. chain_at most (level_at most inner j) (suc j) (length r) a r)) (level_none most inner j ts none)

expr_none : (most n : ℕ) (ts : List Text) → ((k : ℕ) → level_at most (expr_at most k) 0 ts ≡ None) → expr_at most n ts ≡ None
unfolding expr_at
expr_none most zero ts none = refl
expr_none most (suc k) ts none = ap (λ p. after p (λ a r. compared_at most (level_at most (expr_at most k) 6) a r)) (level_none most (expr_at most k) 6 ts (none k))

var_is_no_expr : (most n : ℕ) (ts : List Text) → expr_at most n (codes "Var" ∷ codes "(" ∷ ts) ≡ None
unfolding level_at unary_at call_of
var_is_no_expr most n ts = expr_none most n (codes "Var" ∷ codes "(" ∷ ts) (λ k. refl)

round_is_no_expr : (most n : ℕ) → expr_at most n (codes ")" ∷ []) ≡ None
unfolding level_at unary_at
round_is_no_expr most n = expr_none most n (codes ")" ∷ []) (λ k. refl)

abbrev copy_words : Text → List Text
copy_words s = s ∷ codes "." ∷ codes "copy" ∷ codes "(" ∷ codes ")" ∷ []

kernel_copy : (most n : ℕ) (x : Text) → let_from most n x (copy_words (codes "kernel")) ≡ None
unfolding expr_at level_at unary_at chain_at operator_at
kernel_copy most zero x = refl
kernel_copy most (suc k) x = refl

state_copy : (most n : ℕ) (x s : Text) → IsStateName s → let_from most n x (copy_words s) ≡ None
state_copy most n x s state =
    ap (λ o. follows o (λ e r. at_end (lift most (let_line x) same_depth e) r))
    (expr_none most n (copy_words s) (λ k.
    dotted_there most k s (codes "copy") (codes "(" ∷ codes ")" ∷ []) state refl
    ∙ ap (λ o. after (after o (λ e r. after (more_at most (expr_at most k) (codes ")") (length r) r) (λ es r. Some (grown_and most e es, r)))) (λ es r. Some (lift most (read_at s (codes "copy")) one_deeper es, r)))
    (round_is_no_expr most k)))

copy_is_no_expr : (most n : ℕ) (x s : Text) (b : Bool) → bytes_eq s (codes "kernel") ≡ b → is_name s ≡ true → let_from most n x (copy_words s) ≡ None
copy_is_no_expr most n x s true e name = ap (λ w. let_from most n x (copy_words w)) (same_text s (codes "kernel") e) ∙ kernel_copy most n x
copy_is_no_expr most n x s false e name = state_copy most n x s (name, e)

copy_is_no_var : (x s : Text) (ts : List Text) (b : Bool) → bytes_eq s (codes "Var") ≡ b → (if b then past (codes "(") (codes "." ∷ ts) (λ rest. follows (sort_at rest) (λ s rest. past (codes ")") rest (λ rest. at_end (plain (var_line x s)) rest))) else None) ≡ None
copy_is_no_var x s ts true e = refl
copy_is_no_var x s ts false e = refl

-- ---- places

record Body (place : Place) : Type 0 where
  f : Function
  is : place ≡ body_of f

in_body : (place : Place) → IsIn place → Body place
in_body (body_of f) h = record { f = f; is = refl }
in_body top h = absurd h
in_body class_body h = absurd h
in_body nowhere h = absurd h

record BodyOf (place : Place) (b : Bool) : Type 0 where
  f : Function
  is : place ≡ body_of f
  kind : is_handler f ≡ b

in_handler : (place : Place) → IsInHandler place → BodyOf place true
in_handler (body_of f) h = record { f = f; is = refl; kind = h }
in_handler top h = absurd h
in_handler class_body h = absurd h
in_handler nowhere h = absurd h

in_other : (place : Place) → IsInOther place → BodyOf place false
in_other (body_of f) h = record { f = f; is = refl; kind = h }
in_other top h = absurd h
in_other class_body h = absurd h
in_other nowhere h = absurd h

-- ---- a line, by its first words

top_is : (most n : ℕ) (place : Place) (ts : List Text) → place ≡ top → item_at most n place ts ≡ top_at ts
unfolding item_at
top_is most n place ts is = ap (λ p. item_at most n p ts) is

class_is : (most n : ℕ) (place : Place) (ts : List Text) → place ≡ class_body → item_at most n place ts ≡ class_at ts
unfolding item_at
class_is most n place ts is = ap (λ p. item_at most n p ts) is

body_is : (most n : ℕ) (place : Place) (f : Function) (ts : List Text) → place ≡ body_of f → item_at most n place ts ≡ body_at most n f ts
unfolding item_at
body_is most n place f ts is = ap (λ p. item_at most n p ts) is

top_by : (x : Text) (ts : List Text) (b c d : Bool) → b ≡ false → c ≡ false → d ≡ true →
    ◌≡◌ {A = Option (Grown Item)} (if b then follows (name_at ts) class_from else (if c then follows (name_at ts) def_from else (if d then past (codes "=") ts (top_from x) else None))) (past (codes "=") ts (top_from x))
top_by x ts b c d e1 e2 e3 = rw (e1, e2, e3) refl

body_by : (most n : ℕ) (f : Function) (x : Text) (ts : List Text) (b d : Bool) → b ≡ false → d ≡ true →
    ◌≡◌ {A = Option (Grown Item)} (if b then return_from most n f ts else (if d then statement_from most n f x ts else None)) (statement_from most n f x ts)
body_by most n f x ts b d e1 e2 = rw (e1, e2) refl

top_named : (x : Text) (ts : List Text) → is_name x ≡ true → top_at (x ∷ codes "=" ∷ ts) ≡ top_from x ts
top_named x ts name = top_by x (codes "=" ∷ ts) (bytes_eq x (codes "class")) (bytes_eq x (codes "def")) (is_name x) (name_other x (codes "class") refl name) (name_other x (codes "def") refl name) name

class_named : (x : Text) (ts : List Text) → is_name x ≡ true → class_at (x ∷ codes "=" ∷ ts) ≡ field_from x ts
class_named x ts name = rw name refl

body_named : (most n : ℕ) (f : Function) (x : Text) (ts : List Text) → is_name x ≡ true → body_at most n f (x ∷ ts) ≡ statement_from most n f x ts
body_named most n f x ts name = body_by most n f x ts (bytes_eq x (codes "return")) (is_name x) (name_other x (codes "return") refl name) name

sort_end : (x : Text) (s : RawSort) (ts : List Text) → SpellsNewSort s ts → top_from x ts ≡ Some (plain (sort_line x s))
sort_end x (Named y) ts spelled = absurd spelled
sort_end x (Bits n) ts (text, is, parts) =
    ap (top_from x) parts
    ∙ goes_on {A = RawSort} {B = Grown Item} (new_sort_at (codes "Bits") (text ∷ codes ")" ∷ [])) (λ s r. at_end (plain (sort_line x s)) r) (Bits n) []
    (new_sort_there (Bits n) (codes "Bits" ∷ codes "(" ∷ text ∷ codes ")" ∷ []) [] (text, is, refl))
sort_end x (Index w n) ts (width, size, is_width, is_size, parts) =
    ap (top_from x) parts
    ∙ goes_on {A = RawSort} {B = Grown Item} (new_sort_at (codes "Index") (width ∷ codes "," ∷ size ∷ codes ")" ∷ [])) (λ s r. at_end (plain (sort_line x s)) r) (Index w n) []
    (new_sort_there (Index w n) (codes "Index" ∷ codes "(" ∷ width ∷ codes "," ∷ size ∷ codes ")" ∷ []) [] (width, size, is_width, is_size, refl))

scalar_end : (x : Text) (s : RawSort) (ts : List Text) → SpellsSort s ts → field_from x ts ≡ Some (plain (field_line x [] s))
scalar_end x (Named y) ts (name, parts) =
    ap (field_from x) parts
    ∙ goes_on {A = RawSort} {B = Grown Item} (sort_at (y ∷ [])) (λ s r. at_end (plain (field_line x [] s)) r) (Named y) [] (sort_there (Named y) (y ∷ []) [] (name, refl) refl)
scalar_end x (Bits n) ts (text, is, parts) =
    ap (field_from x) parts
    ∙ goes_on {A = RawSort} {B = Grown Item} (sort_at (codes "Bits" ∷ codes "(" ∷ text ∷ codes ")" ∷ [])) (λ s r. at_end (plain (field_line x [] s)) r) (Bits n) []
    (new_sort_there (Bits n) (codes "Bits" ∷ codes "(" ∷ text ∷ codes ")" ∷ []) [] (text, is, refl))
scalar_end x (Index w n) ts (width, size, is_width, is_size, parts) =
    ap (field_from x) parts
    ∙ goes_on {A = RawSort} {B = Grown Item} (sort_at (codes "Index" ∷ codes "(" ∷ width ∷ codes "," ∷ size ∷ codes ")" ∷ [])) (λ s r. at_end (plain (field_line x [] s)) r) (Index w n) []
    (new_sort_there (Index w n) (codes "Index" ∷ codes "(" ∷ width ∷ codes "," ∷ size ∷ codes ")" ∷ []) [] (width, size, is_width, is_size, refl))

def_end : (x : Text) (xs : List Text) (f : Function) → function_of x xs ≡ Some f → def_with x xs (function_of x xs) [] ≡ Some (plain (def_line x xs))
def_end x xs f is = ap (λ o. def_with x xs o []) is

pub item_there : (most n : ℕ) (place : Place) (item : Item) (ts : List Text) → SpellsItem place item ts → length ts < n → item_at most n place ts ≡ Some (limited_item most item)
unfolding assigned_at
item_there most n place (sort_line x s) ts (inner, at, name, spelled, parts) short =
    top_is most n place ts at ∙ ap top_at parts ∙ top_named x inner name ∙ sort_end x s inner spelled
item_there most n place (constant_line x z) ts (k, text, at, name, is, inl (value, parts)) short =
    top_is most n place ts at ∙ ap top_at parts ∙ top_named x (text ∷ []) name ∙ ap (λ o. constant_of x pos o []) is ∙ ap (λ v. Some (plain (constant_line x v))) (sym value)
item_there most n place (constant_line x z) ts (k, text, at, name, is, inr (value, parts)) short =
    top_is most n place ts at ∙ ap top_at parts ∙ top_named x (codes "-" ∷ text ∷ []) name
    ∙ rw (number_other k text (codes "(") refl is) (ap (λ o. constant_of x (λ m. neg_ℤ (pos m)) o []) is ∙ ap (λ v. Some (plain (constant_line x v))) (sym value))
item_there most n place (hook_line x) ts (at, name, parts) short = top_is most n place ts at ∙ ap top_at parts ∙ top_named x (codes "Hook" ∷ codes "(" ∷ codes ")" ∷ []) name
item_there most n place (class_line x) ts (at, name, inl parts) short =
    top_is most n place ts at ∙ ap top_at parts ∙ goes_on {A = Text} {B = Grown Item} (name_at (x ∷ codes ":" ∷ [])) class_from x (codes ":" ∷ []) (name_there x (codes ":" ∷ []) name)
item_there most n place (class_line x) ts (at, name, inr (base, is_base, parts)) short =
    top_is most n place ts at ∙ ap top_at parts
    ∙ goes_on {A = Text} {B = Grown Item} (name_at (x ∷ codes "(" ∷ base ∷ codes ")" ∷ codes ":" ∷ [])) class_from x (codes "(" ∷ base ∷ codes ")" ∷ codes ":" ∷ []) (name_there x (codes "(" ∷ base ∷ codes ")" ∷ codes ":" ∷ []) name)
    ∙ goes_on {A = Text} {B = Grown Item} (name_at (base ∷ codes ")" ∷ codes ":" ∷ [])) (λ base r. past (codes ")") r (λ r. past (codes ":") r (λ r. at_end (plain (class_line x)) r))) base (codes ")" ∷ codes ":" ∷ [])
    (name_there base (codes ")" ∷ codes ":" ∷ []) is_base)
item_there most n place (field_line x [] s) ts (inner, at, name, spelled, parts) short =
    class_is most n place ts at ∙ ap class_at parts ∙ class_named x inner name ∙ scalar_end x s inner spelled
item_there most n place (field_line x (k ∷ ks) s) ts (keys, inner, at, name, are, spelled, parts) short =
    class_is most n place ts at ∙ ap class_at parts ∙ class_named x (codes "Map" ∷ codes "(" ∷ (keys ++ codes "," ∷ (inner ++ codes ")" ∷ []))) name
    ∙ goes_on {A = List RawSort} {B = Grown Item} (keys_at (keys ++ codes "," ∷ (inner ++ codes ")" ∷ []))) (λ ks r. past (codes ",") r (λ r. follows (sort_at r) (λ s r. past (codes ")") r (λ r. at_end (plain (field_line x ks s)) r))))
    (k ∷ ks) (codes "," ∷ (inner ++ codes ")" ∷ [])) (keys_there (k ∷ ks) keys (codes "," ∷ (inner ++ codes ")" ∷ [])) are refl)
    ∙ goes_on {A = RawSort} {B = Grown Item} (sort_at (inner ++ codes ")" ∷ [])) (λ s r. past (codes ")") r (λ r. at_end (plain (field_line x (k ∷ ks) s)) r)) s (codes ")" ∷ []) (sort_there s inner (codes ")" ∷ []) spelled refl)
item_there most n place (def_line x xs) ts (names, f, at, name, is, are, parts) short =
    top_is most n place ts at ∙ ap top_at parts
    ∙ goes_on {A = Text} {B = Grown Item} (name_at (x ∷ codes "(" ∷ (names ++ codes ":" ∷ []))) def_from x (codes "(" ∷ (names ++ codes ":" ∷ [])) (name_there x (codes "(" ∷ (names ++ codes ":" ∷ [])) name)
    ∙ goes_on {A = List Text} {B = Grown Item} (parameters_at (names ++ codes ":" ∷ [])) (λ xs r. past (codes ":") r (λ r. def_with x xs (function_of x xs) r)) xs (codes ":" ∷ []) (parameters_there xs names (codes ":" ∷ []) are)
    ∙ def_end x xs f is
item_there most n place (var_line x s) ts (inner, at, name, spelled, parts) short =
    let b = in_body place at in
    body_is most n place b.f ts b.is ∙ ap (body_at most n b.f) parts ∙ body_named most n b.f x (codes "=" ∷ codes "Var" ∷ codes "(" ∷ (inner ++ codes ")" ∷ [])) name
    ∙ ap (λ o. or_else (follows o (λ e r. at_end (lift most (let_line x) same_depth e) r)) (or_else (var_from x (codes "Var" ∷ codes "(" ∷ (inner ++ codes ")" ∷ []))) (copy_from b.f x (codes "Var" ∷ codes "(" ∷ (inner ++ codes ")" ∷ [])))))
    (var_is_no_expr most n (inner ++ codes ")" ∷ []))
    ∙ ap (λ o. or_else o (copy_from b.f x (codes "Var" ∷ codes "(" ∷ (inner ++ codes ")" ∷ []))))
    (goes_on {A = RawSort} {B = Grown Item} (sort_at (inner ++ codes ")" ∷ [])) (λ s r. past (codes ")") r (λ r. at_end (plain (var_line x s)) r)) s (codes ")" ∷ []) (sort_there s inner (codes ")" ∷ []) spelled refl))
item_there most n place (let_line x e) ts (inner, at, name, spelled, parts) short =
    let b = in_body place at in
    let size : length ts ≡ suc (suc (length inner)) = ap length parts in
    body_is most n place b.f ts b.is ∙ ap (body_at most n b.f) parts ∙ body_named most n b.f x (codes "=" ∷ inner) name
    ∙ ap (λ o. or_else o (or_else (var_from x inner) (copy_from b.f x inner))) (end_there most n (lift most (let_line x) same_depth) e inner spelled (omega (arith, size, short)))
item_there most n place (copy_line x s) ts (at, name, is_state, parts) short =
    let b = in_handler place at in
    let no_var : var_from x (copy_words s) ≡ None = copy_is_no_var x s (codes "copy" ∷ codes "(" ∷ codes ")" ∷ []) (bytes_eq s (codes "Var")) refl in
    body_is most n place b.f ts b.is ∙ ap (body_at most n b.f) parts ∙ body_named most n b.f x (codes "=" ∷ copy_words s) name
    ∙ ap (λ o. or_else o (or_else (var_from x (copy_words s)) (copy_from b.f x (copy_words s)))) (copy_is_no_expr most n x s (bytes_eq s (codes "kernel")) refl is_state)
    ∙ ap (λ o. or_else o (copy_from b.f x (copy_words s))) no_var
    ∙ rw b.kind (goes_on {A = Text} {B = Grown Item} (name_at (copy_words s)) (λ s r. past (codes ".") r (λ r. past (codes "copy") r (λ r. past (codes "(") r (λ r. past (codes ")") r (λ r. at_end (plain (copy_line x s)) r)))))
    s (codes "." ∷ codes "copy" ∷ codes "(" ∷ codes ")" ∷ []) (name_there s (codes "." ∷ codes "copy" ∷ codes "(" ∷ codes ")" ∷ []) is_state))
item_there most n place (write_line c f None e) ts (inner, at, name, is_field, spelled, parts) short =
    let b = in_handler place at in
    let size : length ts ≡ suc (suc (suc (suc (length inner)))) = ap length parts in
    body_is most n place b.f ts b.is ∙ ap (body_at most n b.f) parts ∙ body_named most n b.f c (codes "." ∷ f ∷ codes "=" ∷ inner) name
    ∙ rw b.kind (goes_on {A = Text} {B = Grown Item} (name_at (f ∷ codes "=" ∷ inner)) (write_value most n c) f (codes "=" ∷ inner) (name_there f (codes "=" ∷ inner) is_field)
    ∙ end_there most n (lift most (write_line c f None) same_depth) e inner spelled (omega (arith, size, short)))
item_there most n place (write_line c f (Some es) e) ts (keys, inner, at, name, is_field, are, spelled, parts) short =
    let b = in_handler place at in
    let size : length ts ≡ suc (suc (suc (suc (length (keys ++ codes "=" ∷ inner))))) = ap length parts in
    let both : length (keys ++ codes "=" ∷ inner) ≡ length keys + suc (length inner) = length-append keys (codes "=" ∷ inner) in
    body_is most n place b.f ts b.is ∙ ap (body_at most n b.f) parts ∙ body_named most n b.f c (codes "." ∷ f ∷ codes "[" ∷ (keys ++ codes "=" ∷ inner)) name
    ∙ rw b.kind (goes_on {A = Text} {B = Grown Item} (name_at (f ∷ codes "[" ∷ (keys ++ codes "=" ∷ inner))) (write_value most n c) f (codes "[" ∷ (keys ++ codes "=" ∷ inner)) (name_there f (codes "[" ∷ (keys ++ codes "=" ∷ inner)) is_field)
    ∙ goes_on {A = Grown Trees} {B = Grown Item} (arguments_at most (expr_at most n) (codes "]") (keys ++ codes "=" ∷ inner)) (λ es r. past (codes "=") r (λ r. expr_end most n (join most (λ at e. write_line c f (Some at) e) max es) r)) (limited_list most es) (codes "=" ∷ inner)
    (arguments_there most (codes "]") square_free refl es (all_read most es) n keys (codes "=" ∷ inner) are (omega (arith, size, both, short)))
    ∙ end_there most n (join most (λ at x. write_line c f (Some at) x) max (limited_list most es)) e inner spelled (omega (arith, size, both, short)))
item_there most n place (return_line e) ts (inner, at, spelled, parts) short =
    let b = in_other place at in
    let size : length ts ≡ suc (length inner) = ap length parts in
    body_is most n place b.f ts b.is ∙ ap (body_at most n b.f) parts ∙ rw b.kind (end_there most n (lift most return_line same_depth) e inner spelled (omega (arith, size, short)))
item_there most n place (end_line e s None) ts (inner, at, spelled, is_state, parts) short =
    let b = in_handler place at in
    let size : length ts ≡ suc (length (inner ++ codes "," ∷ s ∷ [])) = ap length parts in
    let both : length (inner ++ codes "," ∷ s ∷ []) ≡ length inner + 2 = length-append inner (codes "," ∷ s ∷ []) in
    body_is most n place b.f ts b.is ∙ ap (body_at most n b.f) parts
    ∙ rw b.kind (goes_on {A = Grown Tree} {B = Grown Item} (expr_at most n (inner ++ codes "," ∷ s ∷ [])) (λ e r. past (codes ",") r (λ r. follows (name_at r) (result_from most n e))) (limited most e) (codes "," ∷ s ∷ [])
    (expr_complete most n e inner (codes "," ∷ s ∷ []) spelled (omega (arith, size, both, short)) (comma_free (s ∷ [])))
    ∙ goes_on {A = Text} {B = Grown Item} (name_at (s ∷ [])) (result_from most n (limited most e)) s [] (name_there s [] is_state))
item_there most n place (end_line e s (Some r)) ts (inner, result, at, spelled, is_state, resulting, parts) short =
    let b = in_handler place at in
    let size : length ts ≡ suc (length (inner ++ codes "," ∷ s ∷ codes "," ∷ result)) = ap length parts in
    let both : length (inner ++ codes "," ∷ s ∷ codes "," ∷ result) ≡ length inner + suc (suc (suc (length result))) = length-append inner (codes "," ∷ s ∷ codes "," ∷ result) in
    body_is most n place b.f ts b.is ∙ ap (body_at most n b.f) parts
    ∙ rw b.kind (goes_on {A = Grown Tree} {B = Grown Item} (expr_at most n (inner ++ codes "," ∷ s ∷ codes "," ∷ result)) (λ e r. past (codes ",") r (λ r. follows (name_at r) (result_from most n e))) (limited most e) (codes "," ∷ s ∷ codes "," ∷ result)
    (expr_complete most n e inner (codes "," ∷ s ∷ codes "," ∷ result) spelled (omega (arith, size, both, short)) (comma_free (s ∷ codes "," ∷ result)))
    ∙ goes_on {A = Text} {B = Grown Item} (name_at (s ∷ codes "," ∷ result)) (result_from most n (limited most e)) s (codes "," ∷ result) (name_there s (codes "," ∷ result) is_state)
    ∙ end_there most n (join most (λ x y. end_line x s (Some y)) max (limited most e)) r result resulting (omega (arith, size, both, short)))

-- ---- kept whole where the limit is high enough

abbrev pub item_depth : Item → ℕ
item_depth (let_line x e) = depth e
item_depth (write_line c f None e) = depth e
item_depth (write_line c f (Some es) e) = max (depths es) (depth e)
item_depth (return_line e) = depth e
item_depth (end_line e s None) = depth e
item_depth (end_line e s (Some r)) = max (depth e) (depth r)
item_depth _ = 0

lift_kept : (most : ℕ) (f : Tree → Item) (e : Tree) → depth e ≤ most → lift most f same_depth (limited most e) ≡ built (f e) (depth e)
lift_kept most f e h = ap (lift most f same_depth) (kept most e h) ∙ rw (le-leb (depth e) most h) refl

pub kept_item : (most : ℕ) (item : Item) → item_depth item ≤ most → limited_item most item ≡ built item (item_depth item)
kept_item most (let_line x e) h = lift_kept most (let_line x) e h
kept_item most (write_line c f None e) h = lift_kept most (write_line c f None) e h
kept_item most (write_line c f (Some es) e) h =
    bounded_join most (λ (at : Trees) (x : Tree). write_line c f (Some at) x) max es (depths es) e (depth e) (omega arith) (omega arith) ∙ rw (le-leb (max (depths es) (depth e)) most h) refl
kept_item most (return_line e) h = lift_kept most return_line e h
kept_item most (end_line e s None) h = lift_kept most (λ x. end_line x s None) e h
kept_item most (end_line e s (Some r)) h =
    bounded_join most (λ (x y : Tree). end_line x s (Some y)) max e (depth e) r (depth r) (omega arith) (omega arith) ∙ rw (le-leb (max (depth e) (depth r)) most h) refl
kept_item most _ h = refl

some_is : (a b : Grown Item) → Some a ≡ Some b → a ≡ b
some_is a b h = cc

pub built_is : (i j : Item) (m n : ℕ) → built i m ≡ built j n → i ≡ j
built_is i j m n h = cc

pub one_item : (place : Place) (i j : Item) (ts : List Text) → SpellsItem place i ts → SpellsItem place j ts → i ≡ j
one_item place i j ts a b =
    let most : ℕ = item_depth i + item_depth j in
    let n : ℕ = suc (length ts) in
    let both = some_is (limited_item most i) (limited_item most j) (sym (item_there most n place i ts a (omega arith)) ∙ item_there most n place j ts b (omega arith)) in
    built_is i j (item_depth i) (item_depth j) (sym (kept_item most i (omega arith)) ∙ both ∙ kept_item most j (omega arith))
