-- Lists of elements with a comma before each: one turn of the loop is one turn of the definition.
use Rattle.std.proofs.Common.{◌≡◌, ℕ, zero, suc, ◌+◌, ◌-◌, ◌<◌, ◌≤◌, Bool, true, false, Option, Some, None, List, [], ◌∷◌, ◌++◌, length, refl, sym, ap, ◌∙◌, append_assoc, append-nil, arith}
use Rattle.std.specs.Prelude.{if◌then◌else◌, bytes_eq, codes}
use Rattle.spec_ast.specs.Raw.{Tree, Trees, no_trees}
use Rattle.spec_expr.specs.Words.{Text}
use Rattle.spec_expr.specs.Grown.{Grown, bounded}
use Rattle.spec_expr.specs.Reading.{Reader, after, name_at, more_names_at, names_at, grown_and, more_at, arguments_at}
use Rattle.spec_expr.specs.Fronts.{Fails, behind, gone_on}
use Rattle.spec_expr.specs.Many.{closed_or, many_at, listed, listed_names}
use Rattle.spec_expr.proofs.Steps.{past_step}
use Rattle.spec_expr.specs.declared.stop.PartStop.{PartStop}
use Rattle.spec_expr.specs.declared.stop.PartStop.TheVariants.{NotSpelled, Memory}

pub after_same : {A B : Type 0} (o : Option (A × List Text)) (f g : A → List Text → Option (B × List Text)) → ((a : A) (rest : List Text) → f a rest ≡ g a rest) → after o f ≡ after o g
after_same None f g same = refl
after_same (Some got) f g same = same got.0 got.1

-- ---- the lists of the definitions

pub same_turn : {A L : Type 0} (close : Text) (item : Reader A) (add : A → L → L) (end : L) (m : ℕ) (more : Reader L) (ts : List Text) (p q : Bool) →
    ((us : List Text) → more us ≡ many_at close item add end m us) →
    (if p then Some (end, ts) else (if q then after (item ts) (λ x rest. after (more rest) (λ xs rest. Some (add x xs, rest))) else None))
    ≡ closed_or (if p then Some ts else None) end
    (gone_on (if q then Some ts else None) (λ us. after (item us) (λ x rest. after (many_at close item add end m rest) (λ xs rest. Some (add x xs, rest)))))
same_turn close item add end m more ts true q same = refl
same_turn close item add end m more ts false true same =
    after_same (item ts) (λ x rest. after (more rest) (λ xs rest. Some (add x xs, rest))) (λ x rest. after (many_at close item add end m rest) (λ xs rest. Some (add x xs, rest)))
    (λ x rest. ap (λ o. after o (λ xs rest. Some (add x xs, rest))) (same rest))
same_turn close item add end m more ts false false same = refl

more_names_is : (m : ℕ) (ts : List Text) → more_names_at m ts ≡ many_at (codes "]") name_at (λ x xs. x ∷ xs) [] m ts
unfolding many_at
more_names_is zero ts = refl
more_names_is (suc m) [] = refl
more_names_is (suc m) (t ∷ ts) =
    same_turn (codes "]") name_at (λ x xs. x ∷ xs) [] m (more_names_at m) ts (bytes_eq t (codes "]")) (bytes_eq t (codes ",")) (more_names_is m)

pub names_listed : (ts : List Text) → names_at ts ≡ listed_names (codes "]") ts
names_listed ts =
    after_same (name_at ts) (λ x rest. after (more_names_at (length rest) rest) (λ xs rest. Some (x ∷ xs, rest)))
    (λ x rest. after (many_at (codes "]") name_at (λ x xs. x ∷ xs) [] (length rest) rest) (λ xs rest. Some (x ∷ xs, rest)))
    (λ x rest. ap (λ o. after o (λ xs rest. Some (x ∷ xs, rest))) (more_names_is (length rest) rest))

pub ruleset bound_steps = (past_step, names_listed)

more_is : (most : ℕ) (inner : Reader (Grown Tree)) (close : Text) (m : ℕ) (ts : List Text) → more_at most inner close m ts ≡ many_at close inner (grown_and most) (bounded most no_trees 0) m ts
unfolding many_at
more_is most inner close zero ts = refl
more_is most inner close (suc m) [] = refl
more_is most inner close (suc m) (t ∷ ts) =
    same_turn close inner (grown_and most) (bounded most no_trees 0) m (more_at most inner close m) ts (bytes_eq t close) (bytes_eq t (codes ",")) (more_is most inner close m)

pub arguments_listed : (most : ℕ) (inner : Reader (Grown Tree)) (close : Text) (ts : List Text) → arguments_at most inner close ts ≡ listed close inner (grown_and most) (bounded most no_trees 0) ts
arguments_listed most inner close ts =
    after_same (inner ts) (λ e rest. after (more_at most inner close (length rest) rest) (λ es rest. Some (grown_and most e es, rest)))
    (λ e rest. after (many_at close inner (grown_and most) (bounded most no_trees 0) (length rest) rest) (λ es rest. Some (grown_and most e es, rest)))
    (λ e rest. ap (λ o. after o (λ es rest. Some (grown_and most e es, rest))) (more_is most inner close (length rest) rest))

-- ---- the loop

many_none : {A L : Type 0} (close : Text) (item : Reader A) (add : A → L → L) (end : L) (ts : List Text) → many_at close item add end 0 ts ≡ None
unfolding many_at
many_none close item add end ts = refl

many_turn : {A L : Type 0} (close : Text) (item : Reader A) (add : A → L → L) (end : L) (m : ℕ) (ts : List Text) →
    many_at close item add end (suc m) ts ≡ closed_or (behind close ts) end
    (gone_on (behind (codes ",") ts) (λ us. after (item us) (λ x rest. after (many_at close item add end m rest) (λ xs rest. Some (add x xs, rest)))))
unfolding many_at
many_turn close item add end m ts = refl

turns_left : (most counter : ℕ) → counter < most → most - counter ≡ suc (most - (counter + 1))
turns_left most counter h = omega (arith, h)

-- what is left, put behind the elements so far, is the whole
abbrev pub ListLeft : {A L : Type 0} → Text → Reader A → (A → L → L) → L → ℕ → ℕ → (L → L) → List Text → Option (L × List Text) → Type 0
ListLeft close item add end most counter front ts whole = after (many_at close item add end (most - counter) ts) (λ xs rest. Some (front xs, rest)) ≡ whole

list_opened : {A L : Type 0} (close : Text) (item : Reader A) (add : A → L → L) (end : L) (most counter : ℕ) (front : L → L) (ts : List Text) (whole : Option (L × List Text)) (closes : Option (List Text)) → counter < most →
    ListLeft close item add end most counter front ts whole → behind close ts ≡ closes →
    whole ≡ after (closed_or closes end
    (gone_on (behind (codes ",") ts) (λ us. after (item us) (λ x rest. after (many_at close item add end (most - (counter + 1)) rest) (λ xs rest. Some (add x xs, rest)))))) (λ xs rest. Some (front xs, rest))
list_opened close item add end most counter front ts whole closes turn left is =
    let on = gone_on (behind (codes ",") ts) (λ us. after (item us) (λ x rest. after (many_at close item add end (most - (counter + 1)) rest) (λ xs rest. Some (add x xs, rest)))) in
    sym left ∙ ap (λ n. after (many_at close item add end n ts) (λ xs rest. Some (front xs, rest))) (turns_left most counter turn)
    ∙ ap (λ o. after o (λ xs rest. Some (front xs, rest))) (many_turn close item add end (most - (counter + 1)) ts)
    ∙ ap (λ o. after (closed_or o end on) (λ xs rest. Some (front xs, rest))) is

pub list_end : {A L : Type 0} (close : Text) (item : Reader A) (add : A → L → L) (end : L) (most counter : ℕ) (front : L → L) (ts : List Text) (whole : Option (L × List Text)) (us : List Text) → counter < most →
    ListLeft close item add end most counter front ts whole → behind close ts ≡ Some us → whole ≡ Some (front end, us)
list_end close item add end most counter front ts whole us turn left is = list_opened close item add end most counter front ts whole (Some us) turn left is

comma_opened : {A L : Type 0} (close : Text) (item : Reader A) (add : A → L → L) (end : L) (most counter : ℕ) (front : L → L) (ts : List Text) (whole : Option (L × List Text)) (comma : Option (List Text)) → counter < most →
    ListLeft close item add end most counter front ts whole → behind close ts ≡ None → behind (codes ",") ts ≡ comma →
    whole ≡ after (gone_on comma (λ us. after (item us) (λ x rest. after (many_at close item add end (most - (counter + 1)) rest) (λ xs rest. Some (add x xs, rest))))) (λ xs rest. Some (front xs, rest))
comma_opened close item add end most counter front ts whole comma turn left is goes =
    list_opened close item add end most counter front ts whole None turn left is
    ∙ ap (λ o. after (gone_on o (λ us. after (item us) (λ x rest. after (many_at close item add end (most - (counter + 1)) rest) (λ xs rest. Some (add x xs, rest))))) (λ xs rest. Some (front xs, rest))) goes

item_opened : {A L : Type 0} (close : Text) (item : Reader A) (add : A → L → L) (end : L) (most counter : ℕ) (front : L → L) (ts : List Text) (whole : Option (L × List Text)) (us : List Text) (read : Option (A × List Text)) → counter < most →
    ListLeft close item add end most counter front ts whole → behind close ts ≡ None → behind (codes ",") ts ≡ Some us → item us ≡ read →
    whole ≡ after (after read (λ x rest. after (many_at close item add end (most - (counter + 1)) rest) (λ xs rest. Some (add x xs, rest)))) (λ xs rest. Some (front xs, rest))
item_opened close item add end most counter front ts whole us read turn left is goes reads =
    comma_opened close item add end most counter front ts whole (Some us) turn left is goes
    ∙ ap (λ o. after (after o (λ x rest. after (many_at close item add end (most - (counter + 1)) rest) (λ xs rest. Some (add x xs, rest)))) (λ xs rest. Some (front xs, rest))) reads

added : {A L : Type 0} (add : A → L → L) (front new : L → L) (x : A) (o : Option (L × List Text)) → ((xs : L) → new xs ≡ front (add x xs)) →
    after o (λ xs rest. Some (new xs, rest)) ≡ after (after o (λ xs rest. Some (add x xs, rest))) (λ xs rest. Some (front xs, rest))
added add front new x None is = refl
added add front new x (Some got) is = ap (λ xs. Some (xs, got.1)) (is got.0)

pub list_next : {A L : Type 0} (close : Text) (item : Reader A) (add : A → L → L) (end : L) (most counter : ℕ) (front new : L → L) (ts : List Text) (whole : Option (L × List Text)) (us : List Text) (x : A) (rest : List Text) → counter < most →
    ListLeft close item add end most counter front ts whole → behind close ts ≡ None → behind (codes ",") ts ≡ Some us → item us ≡ Some (x, rest) → ((xs : L) → new xs ≡ front (add x xs)) →
    ListLeft close item add end most (counter + 1) new rest whole
list_next close item add end most counter front new ts whole us x rest turn left is goes reads more =
    added add front new x (many_at close item add end (most - (counter + 1)) rest) more
    ∙ sym (item_opened close item add end most counter front ts whole us (Some (x, rest)) turn left is goes reads)

pub comma_fails : {A L : Type 0} (close : Text) (item : Reader A) (add : A → L → L) (end : L) (most counter : ℕ) (front : L → L) (ts : List Text) (whole : Option (L × List Text)) (why : PartStop) → counter < most →
    ListLeft close item add end most counter front ts whole → behind close ts ≡ None → Fails why (behind (codes ",") ts) → Fails why whole
comma_fails close item add end most counter front ts whole NotSpelled turn left is goes = comma_opened close item add end most counter front ts whole None turn left is goes
comma_fails close item add end most counter front ts whole Memory turn left is goes = tt

pub item_fails : {A L : Type 0} (close : Text) (item : Reader A) (add : A → L → L) (end : L) (most counter : ℕ) (front : L → L) (ts : List Text) (whole : Option (L × List Text)) (us : List Text) (why : PartStop) → counter < most →
    ListLeft close item add end most counter front ts whole → behind close ts ≡ None → behind (codes ",") ts ≡ Some us → Fails why (item us) → Fails why whole
item_fails close item add end most counter front ts whole us NotSpelled turn left is goes reads = item_opened close item add end most counter front ts whole us None turn left is goes reads
item_fails close item add end most counter front ts whole us Memory turn left is goes reads = tt

pub list_out : {A L : Type 0} (close : Text) (item : Reader A) (add : A → L → L) (end : L) (most counter : ℕ) (front : L → L) (ts : List Text) (whole : Option (L × List Text)) → most ≤ counter →
    ListLeft close item add end most counter front ts whole → whole ≡ None
list_out close item add end most counter front ts whole out left =
    let e : most - counter ≡ 0 = omega (arith, out) in
    sym left ∙ ap (λ n. after (many_at close item add end n ts) (λ xs rest. Some (front xs, rest))) e ∙ ap (λ o. after o (λ xs rest. Some (front xs, rest))) (many_none close item add end ts)

-- ---- lists of names

pub name_added : (xs new : List Text) (x : Text) (ys : List Text) → new ≡ xs ++ x ∷ [] → new ++ ys ≡ xs ++ (x ∷ ys)
name_added xs new x ys is = ap (λ zs. zs ++ ys) is ∙ append_assoc xs (x ∷ []) ys

pub names_end : (close : Text) (item : Reader Text) (most counter : ℕ) (xs : List Text) (ts : List Text) (whole : Option (List Text × List Text)) (us : List Text) → counter < most →
    ListLeft close item (λ x ys. x ∷ ys) [] most counter (λ ys. xs ++ ys) ts whole → behind close ts ≡ Some us → whole ≡ Some (xs, us)
names_end close item most counter xs ts whole us turn left is =
    list_end close item (λ x ys. x ∷ ys) [] most counter (λ ys. xs ++ ys) ts whole us turn left is ∙ ap (λ ys. Some (ys, us)) (append-nil xs)

pub fails_by : {B : Type 0} (why : PartStop) (read other : Option B) → read ≡ other → Fails why other → Fails why read
fails_by NotSpelled read other is fails = is ∙ fails
fails_by Memory read other is fails = tt
