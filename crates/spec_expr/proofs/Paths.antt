-- Lists of parts that are built up to a depth, and the steps of a path.
use Rattle.std.proofs.Common.{◌≡◌, ℕ, zero, suc, ◌+◌, ◌-◌, ◌<◌, ◌≤◌, max, Bool, true, false, ◌||◌, Option, Some, None, List, [], ◌∷◌, ◌++◌, length, refl, sym, ap, ◌∙◌, arith}
use Rattle.std.specs.Prelude.{if◌then◌else◌, nat_le, bytes_eq, codes}
use Rattle.std.proofs.lemmas.Bool.{leb-false, le-leb}
use Rattle.spec_ast.specs.Raw.{Tree, Trees, no_trees, tree_and, Step, Steps, element, member, no_steps, step_and}
use Rattle.spec_ast.specs.View.{trees_of, steps_of}
use Rattle.spec_expr.specs.Words.{Text}
use Rattle.spec_expr.specs.Grown.{Grown, built, too_deep, bounded, lift, join}
use Rattle.spec_expr.specs.Reading.{Reader, after, closed_at, member_at, steps_at}
use Rattle.spec_expr.specs.PathSteps.{begins_step, grown_element, step_at, steps_behind}
use Rattle.spec_expr.specs.Fronts.{Fails, grown, IsWithin, seen, name_behind, gone_on}
use Rattle.spec_lex.specs.declared.token.Token.{Token}
use Rattle.spec_expr.specs.declared.depth.Bounded.{Bounded}
use Rattle.spec_expr.specs.declared.depth.Bounded.TheVariants.{Within, TooDeep}
use Rattle.spec_expr.specs.declared.stop.PartStop.{PartStop}
use Rattle.spec_expr.specs.declared.stop.PartStop.TheVariants.{NotSpelled, Memory}
use Rattle.spec_expr.proofs.GrownLaws.{over}
use Rattle.spec_expr.proofs.Lists.{after_same}

-- the parts before these
abbrev pub onto : {A L : Type 0} → (A → L → L) → List A → L → L
onto add [] l = l
onto add (x ∷ xs) l = add x (onto add xs l)

onto_more : {A L : Type 0} (add : A → L → L) (xs : List A) (x : A) (l : L) → onto add (xs ++ x ∷ []) l ≡ onto add xs (add x l)
onto_more add [] x l = refl
onto_more add (y ∷ ys) x l = ap (add y) (onto_more add ys x l)

pub onto_trees : (xs : List Tree) → onto tree_and xs no_trees ≡ trees_of xs
onto_trees [] = refl
onto_trees (x ∷ xs) = ap (tree_and x) (onto_trees xs)

pub onto_steps : (xs : List Step) → onto step_and xs no_steps ≡ steps_of xs
onto_steps [] = refl
onto_steps (x ∷ xs) = ap (step_and x) (onto_steps xs)

-- the list with its parts before it, up to the depth
abbrev pub grown_onto : {A L : Type 0} → ℕ → (A → L → L) → Grown (List A) → Grown L → Grown L
grown_onto most add xs l = join most (onto add) max xs l

abbrev pub grown_more : {A : Type 0} → ℕ → Grown (List A) → Grown A → Grown (List A)
grown_more most xs x = join most (λ xs x. xs ++ x ∷ []) max xs x

bounded_deep_by : {A L M : Type 0} (most : ℕ) (f : A → L → M) (a : A) (d : ℕ) (p : Bool) → join most f max (if p then built a d else too_deep) too_deep ≡ too_deep
bounded_deep_by most f a d true = refl
bounded_deep_by most f a d false = refl

left_by : {A L M : Type 0} (most : ℕ) (f : A → L → M) (a : A) (d : ℕ) (l : L) (k : ℕ) (p : Bool) → nat_le d most ≡ p → join most f max (if p then built a d else too_deep) (built l k) ≡ bounded most (f a l) (max d k)
left_by most f a d l k true e = refl
left_by most f a d l k false e = over most (f a l) (max d k) (let h : most < d = leb-false d most e in omega arith)

right_by : {A L M : Type 0} (most : ℕ) (f : A → L → M) (a : A) (d : ℕ) (l : L) (k : ℕ) (p : Bool) → nat_le k most ≡ p → join most f max (built a d) (if p then built l k else too_deep) ≡ bounded most (f a l) (max d k)
right_by most f a d l k true e = refl
right_by most f a d l k false e = over most (f a l) (max d k) (let h : most < k = leb-false k most e in omega arith)

pub grown_added : {A L : Type 0} (most : ℕ) (add : A → L → L) (xs : Grown (List A)) (x : Grown A) (l : Grown L) → grown_onto most add (grown_more most xs x) l ≡ grown_onto most add xs (join most add max x l)
grown_added most add too_deep x l = refl
grown_added most add (built xs m) too_deep l = refl
grown_added most add (built xs m) (built x n) too_deep = bounded_deep_by most (onto add) (xs ++ x ∷ []) (max m n) (nat_le (max m n) most)
grown_added most add (built xs m) (built x n) (built l k) =
    let deep : max (max m n) k ≡ max m (max n k) = omega arith in
    left_by most (onto add) (xs ++ x ∷ []) (max m n) l k (nat_le (max m n) most) refl
    ∙ ap (λ ys. bounded most ys (max (max m n) k)) (onto_more add xs x l) ∙ ap (bounded most (onto add xs (add x l))) deep
    ∙ sym (right_by most (onto add) xs m (add x l) (max n k) (nat_le (max n k) most) refl)

pub one_more : {A L : Type 0} (most : ℕ) (add : A → L → L) (xs new : Grown (List A)) (x : Grown A) → new ≡ grown_more most xs x → (l : Grown L) → grown_onto most add new l ≡ grown_onto most add xs (join most add max x l)
one_more most add xs new x is l = ap (λ ys. grown_onto most add ys l) is ∙ grown_added most add xs x l

within_is : {A : Type 0} (most : ℕ) (a : A) (d : ℕ) → d ≤ most → bounded most a d ≡ built a d
within_is most a d h = rw (le-leb d most h) refl

-- nothing more
pub grown_done : {V A L : Type 0} (most : ℕ) (add : A → L → L) (nil : L) (all : List A → L) (parts : V → List A) (list : Bounded V) → ((xs : List A) → onto add xs nil ≡ all xs) → IsWithin most list →
    grown_onto most add (grown parts list) (bounded most nil 0) ≡ grown (λ v. all (parts v)) list
grown_done most add nil all parts TooDeep is fits = refl
grown_done most add nil all parts (Within v d) is fits =
    let deep : max d 0 ≡ d = omega arith in
    right_by most (onto add) (parts v) d nil 0 (nat_le 0 most) refl ∙ ap (λ ys. bounded most ys (max d 0)) (is (parts v)) ∙ ap (bounded most (all (parts v))) deep ∙ within_is most (all (parts v)) d fits

same_bounded : {L : Type 0} (most : ℕ) (l : L) (d : ℕ) (p : Bool) → nat_le d most ≡ p → bounded most l d ≡ (if p then built l d else too_deep)
same_bounded most l d p e = ap (λ b. if b then built l d else too_deep) e

nothing_by : {A L : Type 0} (most : ℕ) (add : A → L → L) (l : L) (d : ℕ) (p : Bool) → nat_le d most ≡ p →
    join most (onto add) max (built [] 0) (if p then built l d else too_deep) ≡ (if p then built l d else too_deep)
nothing_by most add l d true e = let deep : max 0 d ≡ d = omega arith in ap (bounded most l) deep ∙ same_bounded most l d true e
nothing_by most add l d false e = refl

nothing_before : {A L : Type 0} (most : ℕ) (add : A → L → L) (x : Grown A) (l : Grown L) → grown_onto most add (built [] 0) (join most add max x l) ≡ join most add max x l
nothing_before most add too_deep l = refl
nothing_before most add (built x n) too_deep = refl
nothing_before most add (built x n) (built l k) = nothing_by most add (add x l) (max n k) (nat_le (max n k) most) refl

-- one part
pub one_first : {A L : Type 0} (most : ℕ) (add : A → L → L) (new : Grown (List A)) (x : Grown A) → new ≡ grown_more most (built [] 0) x → (l : Grown L) → grown_onto most add new l ≡ join most add max x l
one_first most add new x is l = one_more most add (built [] 0) new x is l ∙ nothing_before most add x l

-- ---- the steps of a path

element_join : (most : ℕ) (e : Grown Tree) (ss : Grown Steps) → join most (λ x xs. step_and (element x) xs) max e ss ≡ join most step_and max (grown_element e) ss
element_join most too_deep ss = refl
element_join most (built e d) too_deep = refl
element_join most (built e d) (built ss k) = refl

member_join : (most k : ℕ) (ss : Grown Steps) → lift most (step_and (member k)) (max 0) ss ≡ join most step_and max (built (member k) 0) ss
member_join most k too_deep = refl
member_join most k (built ss d) = refl

abbrev with_steps : ℕ → Reader (Grown Tree) → ℕ → Grown Step → List Text → Option (Grown Steps × List Text)
with_steps most inner m s ts = after (steps_at most inner m ts) (λ ss rest. Some (join most step_and max s ss, rest))

element_turn : (most : ℕ) (inner : Reader (Grown Tree)) (m : ℕ) (o : Option (Grown Tree × List Text)) →
    after o (λ e rest. after (steps_at most inner m rest) (λ ss rest. Some (join most (λ x xs. step_and (element x) xs) max e ss, rest)))
    ≡ after (after o (λ e rest. Some (grown_element e, rest))) (with_steps most inner m)
element_turn most inner m None = refl
element_turn most inner m (Some got) =
    after_same (steps_at most inner m got.1) (λ ss rest. Some (join most (λ x xs. step_and (element x) xs) max got.0 ss, rest)) (λ ss rest. Some (join most step_and max (grown_element got.0) ss, rest))
    (λ ss rest. ap (λ ss. Some (ss, rest)) (element_join most got.0 ss))

member_turn : (most : ℕ) (inner : Reader (Grown Tree)) (m : ℕ) (o : Option (ℕ × List Text)) →
    after o (λ k rest. after (steps_at most inner m rest) (λ ss rest. Some (lift most (step_and (member k)) (max 0) ss, rest)))
    ≡ after (after o (λ k rest. Some (built (member k) 0, rest))) (with_steps most inner m)
member_turn most inner m None = refl
member_turn most inner m (Some got) =
    after_same (steps_at most inner m got.1) (λ ss rest. Some (lift most (step_and (member got.0)) (max 0) ss, rest)) (λ ss rest. Some (join most step_and max (built (member got.0) 0) ss, rest))
    (λ ss rest. ap (λ ss. Some (ss, rest)) (member_join most got.0 ss))

step_by : (most : ℕ) (inner : Reader (Grown Tree)) (m : ℕ) (t : Text) (ts : List Text) (p q : Bool) → (p || q) ≡ true →
    (if p then after (closed_at inner (codes "]") ts) (λ e rest. after (steps_at most inner m rest) (λ ss rest. Some (join most (λ x xs. step_and (element x) xs) max e ss, rest)))
    else (if q then after (member_at ts) (λ k rest. after (steps_at most inner m rest) (λ ss rest. Some (lift most (step_and (member k)) (max 0) ss, rest))) else Some (bounded most no_steps 0, t ∷ ts)))
    ≡ after (if p then after (closed_at inner (codes "]") ts) (λ e rest. Some (grown_element e, rest)) else (if q then after (member_at ts) (λ k rest. Some (built (member k) 0, rest)) else None)) (with_steps most inner m)
step_by most inner m t ts true q h = element_turn most inner m (closed_at inner (codes "]") ts)
step_by most inner m t ts false true h = member_turn most inner m (member_at ts)
step_by most inner m t ts false false h = absurd cc

none_by : (most : ℕ) (inner : Reader (Grown Tree)) (m : ℕ) (t : Text) (ts : List Text) (p q : Bool) → (p || q) ≡ false →
    (if p then after (closed_at inner (codes "]") ts) (λ e rest. after (steps_at most inner m rest) (λ ss rest. Some (join most (λ x xs. step_and (element x) xs) max e ss, rest)))
    else (if q then after (member_at ts) (λ k rest. after (steps_at most inner m rest) (λ ss rest. Some (lift most (step_and (member k)) (max 0) ss, rest))) else Some (bounded most no_steps 0, t ∷ ts)))
    ≡ Some (bounded most no_steps 0, t ∷ ts)
none_by most inner m t ts true q h = absurd cc
none_by most inner m t ts false true h = absurd cc
none_by most inner m t ts false false h = refl

step_turn : (most : ℕ) (inner : Reader (Grown Tree)) (m : ℕ) (ts : List Text) → begins_step ts ≡ true → steps_at most inner (suc m) ts ≡ after (step_at inner ts) (with_steps most inner m)
step_turn most inner m [] h = absurd cc
step_turn most inner m (t ∷ ts) h = step_by most inner m t ts (bytes_eq t (codes "[")) (bytes_eq t (codes ".")) h

none_turn : (most : ℕ) (inner : Reader (Grown Tree)) (m : ℕ) (ts : List Text) → begins_step ts ≡ false → steps_at most inner (suc m) ts ≡ Some (bounded most no_steps 0, ts)
none_turn most inner m [] h = refl
none_turn most inner m (t ∷ ts) h = none_by most inner m t ts (bytes_eq t (codes "[")) (bytes_eq t (codes ".")) h

turns_left : (most counter : ℕ) → counter < most → most - counter ≡ suc (most - (counter + 1))
turns_left most counter h = omega (arith, h)

-- the steps so far, and those of what is left, are the whole
abbrev pub StepsLeft : ℕ → Reader (Grown Tree) → ℕ → ℕ → Grown (List Step) → List Text → Option (Grown Steps × List Text) → Type 0
StepsLeft limit inner most counter xs ts whole = after (steps_at limit inner (most - counter) ts) (λ ss rest. Some (grown_onto limit step_and xs ss, rest)) ≡ whole

opened : (limit : ℕ) (inner : Reader (Grown Tree)) (most counter : ℕ) (xs : Grown (List Step)) (ts : List Text) (whole read : Option (Grown Steps × List Text)) → counter < most →
    StepsLeft limit inner most counter xs ts whole → steps_at limit inner (suc (most - (counter + 1))) ts ≡ read → whole ≡ after read (λ ss rest. Some (grown_onto limit step_and xs ss, rest))
opened limit inner most counter xs ts whole read turn left is =
    sym left ∙ ap (λ n. after (steps_at limit inner n ts) (λ ss rest. Some (grown_onto limit step_and xs ss, rest))) (turns_left most counter turn)
    ∙ ap (λ o. after o (λ ss rest. Some (grown_onto limit step_and xs ss, rest))) is

pub steps_end : (limit : ℕ) (inner : Reader (Grown Tree)) (most counter : ℕ) (xs : Grown (List Step)) (ts : List Text) (whole : Option (Grown Steps × List Text)) → counter < most →
    StepsLeft limit inner most counter xs ts whole → begins_step ts ≡ false → whole ≡ Some (grown_onto limit step_and xs (bounded limit no_steps 0), ts)
steps_end limit inner most counter xs ts whole turn left is =
    opened limit inner most counter xs ts whole (Some (bounded limit no_steps 0, ts)) turn left (none_turn limit inner (most - (counter + 1)) ts is)

steps_read : (limit : ℕ) (inner : Reader (Grown Tree)) (most counter : ℕ) (xs : Grown (List Step)) (ts : List Text) (whole : Option (Grown Steps × List Text)) (read : Option (Grown Step × List Text)) → counter < most →
    StepsLeft limit inner most counter xs ts whole → begins_step ts ≡ true → step_at inner ts ≡ read →
    whole ≡ after (after read (with_steps limit inner (most - (counter + 1)))) (λ ss rest. Some (grown_onto limit step_and xs ss, rest))
steps_read limit inner most counter xs ts whole read turn left is reads =
    opened limit inner most counter xs ts whole (after read (with_steps limit inner (most - (counter + 1)))) turn left
    (step_turn limit inner (most - (counter + 1)) ts is ∙ ap (λ o. after o (with_steps limit inner (most - (counter + 1)))) reads)

step_added : (limit : ℕ) (xs new : Grown (List Step)) (s : Grown Step) (o : Option (Grown Steps × List Text)) → new ≡ grown_more limit xs s →
    after o (λ ss rest. Some (grown_onto limit step_and new ss, rest)) ≡ after (after o (λ ss rest. Some (join limit step_and max s ss, rest))) (λ ss rest. Some (grown_onto limit step_and xs ss, rest))
step_added limit xs new s None is = refl
step_added limit xs new s (Some got) is = ap (λ ss. Some (ss, got.1)) (one_more limit step_and xs new s is got.0)

pub steps_next : (limit : ℕ) (inner : Reader (Grown Tree)) (most counter : ℕ) (xs new : Grown (List Step)) (ts : List Text) (whole : Option (Grown Steps × List Text)) (s : Grown Step) (rest : List Text) → counter < most →
    StepsLeft limit inner most counter xs ts whole → begins_step ts ≡ true → step_at inner ts ≡ Some (s, rest) → new ≡ grown_more limit xs s → StepsLeft limit inner most (counter + 1) new rest whole
steps_next limit inner most counter xs new ts whole s rest turn left is reads more =
    step_added limit xs new s (steps_at limit inner (most - (counter + 1)) rest) more ∙ sym (steps_read limit inner most counter xs ts whole (Some (s, rest)) turn left is reads)

pub steps_fails : (limit : ℕ) (inner : Reader (Grown Tree)) (most counter : ℕ) (xs : Grown (List Step)) (ts : List Text) (whole : Option (Grown Steps × List Text)) (why : PartStop) → counter < most →
    StepsLeft limit inner most counter xs ts whole → begins_step ts ≡ true → Fails why (step_at inner ts) → Fails why whole
steps_fails limit inner most counter xs ts whole NotSpelled turn left is reads = steps_read limit inner most counter xs ts whole None turn left is reads
steps_fails limit inner most counter xs ts whole Memory turn left is reads = tt

pub steps_out : (limit : ℕ) (inner : Reader (Grown Tree)) (most counter : ℕ) (xs : Grown (List Step)) (ts : List Text) (whole : Option (Grown Steps × List Text)) → most ≤ counter →
    StepsLeft limit inner most counter xs ts whole → whole ≡ Some (grown_onto limit step_and xs (bounded limit no_steps 0), ts)
steps_out limit inner most counter xs ts whole out left =
    let e : most - counter ≡ 0 = omega (arith, out) in sym left ∙ ap (λ n. after (steps_at limit inner n ts) (λ ss rest. Some (grown_onto limit step_and xs ss, rest))) e

pub length_seen : (ts : List Token) → length (seen ts) ≡ length ts
length_seen [] = refl
length_seen (t ∷ ts) = ap suc (length_seen ts)

end_bounded : (limit : ℕ) (ts : List Text) →
    after (Some (bounded limit no_steps 0, ts)) (λ ss rest. Some (grown_onto limit step_and (built [] 0) ss, rest)) ≡ Some (bounded limit no_steps 0, ts)
end_bounded limit ts = ap (λ ss. Some (ss, ts)) (nothing_by limit step_and no_steps 0 (nat_le 0 limit) refl)

step_bounded : (limit : ℕ) (s : Grown Step) (o : Option (Grown Steps × List Text)) →
    after (after o (λ ss rest. Some (join limit step_and max s ss, rest))) (λ ss rest. Some (grown_onto limit step_and (built [] 0) ss, rest)) ≡ after o (λ ss rest. Some (join limit step_and max s ss, rest))
step_bounded limit s None = refl
step_bounded limit s (Some got) = ap (λ ss. Some (ss, got.1)) (nothing_before limit step_and s got.0)

front_bounded : (limit : ℕ) (inner : Reader (Grown Tree)) (m : ℕ) (o : Option (Grown Step × List Text)) →
    after (after o (with_steps limit inner m)) (λ ss rest. Some (grown_onto limit step_and (built [] 0) ss, rest)) ≡ after o (with_steps limit inner m)
front_bounded limit inner m None = refl
front_bounded limit inner m (Some got) = step_bounded limit got.0 (steps_at limit inner m got.1)

turn_bounded : (limit : ℕ) (inner : Reader (Grown Tree)) (m : ℕ) (ts : List Text) (p : Bool) → begins_step ts ≡ p →
    after (steps_at limit inner (suc m) ts) (λ ss rest. Some (grown_onto limit step_and (built [] 0) ss, rest)) ≡ steps_at limit inner (suc m) ts
turn_bounded limit inner m ts true is =
    let e = step_turn limit inner m ts is in
    ap (λ o. after o (λ ss rest. Some (grown_onto limit step_and (built [] 0) ss, rest))) e ∙ front_bounded limit inner m (step_at inner ts) ∙ sym e
turn_bounded limit inner m ts false is =
    let e = none_turn limit inner m ts is in
    ap (λ o. after o (λ ss rest. Some (grown_onto limit step_and (built [] 0) ss, rest))) e ∙ end_bounded limit ts ∙ sym e

steps_bounded : (limit : ℕ) (inner : Reader (Grown Tree)) (m : ℕ) (ts : List Text) →
    after (steps_at limit inner m ts) (λ ss rest. Some (grown_onto limit step_and (built [] 0) ss, rest)) ≡ steps_at limit inner m ts
steps_bounded limit inner zero ts = end_bounded limit ts
steps_bounded limit inner (suc m) ts = turn_bounded limit inner m ts (begins_step ts) refl

begun : (limit : ℕ) (inner : Reader (Grown Tree)) (tokens rest : List Token) → name_behind (seen tokens) ≡ Some (seen rest) →
    StepsLeft limit inner (length rest) 0 (built [] 0) (seen rest) (steps_behind limit inner (seen tokens))
begun limit inner tokens rest is =
    let n : length rest - 0 ≡ length rest = omega arith in
    ap (λ n. after (steps_at limit inner n (seen rest)) (λ ss rest. Some (grown_onto limit step_and (built [] 0) ss, rest))) (n ∙ sym (length_seen rest))
    ∙ steps_bounded limit inner (length (seen rest)) (seen rest) ∙ ap (λ o. gone_on o (λ us. steps_at limit inner (length us) us)) (sym is)

pub steps_begin : (limit : ℕ) (inner : Reader (Grown Tree)) (xs : List Step) (tokens rest : List Token) → xs ≡ [] → name_behind (seen tokens) ≡ Some (seen rest) →
    StepsLeft limit inner (length rest) 0 (built xs 0) (seen rest) (steps_behind limit inner (seen tokens))
steps_begin limit inner xs tokens rest none is =
    ap (λ xs. after (steps_at limit inner (length rest - 0) (seen rest)) (λ ss rest. Some (grown_onto limit step_and (built xs 0) ss, rest))) none ∙ begun limit inner tokens rest is
