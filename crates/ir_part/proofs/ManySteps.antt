-- One turn of a loop over a list: what is left gives what the whole gives.
use Rattle.std.proofs.Common.{◌≡◌, ℕ, suc, ◌+◌, ◌-◌, ◌<◌, ◌≤◌, Bool, true, false, Option, Some, None, List, [], ◌∷◌, ◌++◌, length, map, refl, sym, ◌∙◌, ap, append_assoc, append-nil, arith}
use Rattle.std.proofs.lemmas.List.{map-append}
use Rattle.ir_lex.specs.Tok.{Tok}
use Rattle.ir_lex.specs.declared.token.Token.{Token}
use Rattle.ir_part.specs.Reader.{Reader, ◌>>=◌, seen, Fails}
use Rattle.ir_part.specs.declared.stop.PartStop.{PartStop}
use Rattle.ir_part.specs.declared.stop.PartStop.TheVariants.{NotSpelled, Memory}
use Rattle.ir_part.specs.Fronts.{after_mark}
use Rattle.ir_part.specs.Many.{many_from, with_first, with_front, behind_comma}

pub length_seen : (ts : List Token) → length (seen ts) ≡ length ts
length_seen [] = refl
length_seen (t ∷ ts) = ap suc (length_seen ts)

-- ---- the definition, one element further

stop_turn : {A : Type 0} (stop : List Tok → Bool) (item : Reader A) (n : ℕ) (ts : List Tok) → stop ts ≡ true → many_from stop item (suc n) ts ≡ Some ([], ts)
unfolding many_from
stop_turn stop item n ts is = rw is refl

item_turn : {A : Type 0} (stop : List Tok → Bool) (item : Reader A) (n : ℕ) (ts : List Tok) (read : Option (A × List Tok)) → stop ts ≡ false → item ts ≡ read
    → many_from stop item (suc n) ts ≡ (read >>= (λ first. with_first first.0 (many_from stop item n first.1)))
unfolding many_from
item_turn stop item n ts read is reads = rw is (ap (λ r. r >>= (λ first. with_first first.0 (many_from stop item n first.1))) reads)

no_turn : {A : Type 0} (stop : List Tok → Bool) (item : Reader A) (ts : List Tok) → many_from stop item 0 ts ≡ None
unfolding many_from
no_turn stop item ts = refl

turns_left : (most counter : ℕ) → counter < most → most - counter ≡ suc (most - (counter + 1))
turns_left most counter h = omega (arith, h)

front_first : {A : Type 0} (xs : List A) (x : A) (read : Option (List A × List Tok)) → with_front (xs ++ x ∷ []) read ≡ with_front xs (with_first x read)
front_first xs x None = refl
front_first xs x (Some read) = ap (λ ys. Some (ys, read.1)) (append_assoc xs (x ∷ []) read.0)

-- ---- the loop

map_added : {A B : Type 0} (view : B → A) (xs new : List B) (x : B) → new ≡ xs ++ x ∷ [] → map view new ≡ map view xs ++ view x ∷ []
map_added view xs new x is = ap (map view) is ∙ map-append view xs (x ∷ [])

-- the elements so far, and those of what is left, are those of the whole
abbrev pub SoFar : {A B : Type 0} → (B → A) → (List Tok → Bool) → Reader A → ℕ → ℕ → List B → List Tok → Option (List A × List Tok) → Type 0
SoFar view stop item most counter xs ts whole = with_front (map view xs) (many_from stop item (most - counter) ts) ≡ whole

pub list_end : {A B : Type 0} (view : B → A) (stop : List Tok → Bool) (item : Reader A) (most counter : ℕ) (xs : List B) (ts : List Tok) (whole : Option (List A × List Tok)) → counter < most
    → SoFar view stop item most counter xs ts whole → stop ts ≡ true → whole ≡ Some (map view xs, ts)
list_end view stop item most counter xs ts whole turn so_far is =
    sym so_far ∙ ap (λ n. with_front (map view xs) (many_from stop item n ts)) (turns_left most counter turn)
    ∙ ap (with_front (map view xs)) (stop_turn stop item (most - (counter + 1)) ts is) ∙ ap (λ ys. Some (ys, ts)) (append-nil (map view xs))

pub list_next : {A B : Type 0} (view : B → A) (stop : List Tok → Bool) (item : Reader A) (most counter : ℕ) (xs new : List B) (ts : List Tok) (whole : Option (List A × List Tok)) (x : B) (rest : List Tok) → counter < most
    → new ≡ xs ++ x ∷ [] → SoFar view stop item most counter xs ts whole → stop ts ≡ false → item ts ≡ Some (view x, rest)
    → SoFar view stop item most (counter + 1) new rest whole
list_next view stop item most counter xs new ts whole x rest turn added so_far is reads =
    ap (λ ys. with_front ys (many_from stop item (most - (counter + 1)) rest)) (map_added view xs new x added)
    ∙ front_first (map view xs) (view x) (many_from stop item (most - (counter + 1)) rest)
    ∙ ap (with_front (map view xs)) (sym (item_turn stop item (most - (counter + 1)) ts (Some (view x, rest)) is reads))
    ∙ ap (λ n. with_front (map view xs) (many_from stop item n ts)) (sym (turns_left most counter turn)) ∙ so_far

list_fault : {A B : Type 0} (view : B → A) (stop : List Tok → Bool) (item : Reader A) (most counter : ℕ) (xs : List B) (ts : List Tok) (whole : Option (List A × List Tok)) → counter < most
    → SoFar view stop item most counter xs ts whole → stop ts ≡ false → item ts ≡ None → whole ≡ None
list_fault view stop item most counter xs ts whole turn so_far is reads =
    sym so_far ∙ ap (λ n. with_front (map view xs) (many_from stop item n ts)) (turns_left most counter turn)
    ∙ ap (with_front (map view xs)) (item_turn stop item (most - (counter + 1)) ts None is reads)

-- the element at the front is not read
pub list_fails : {A B : Type 0} (view : B → A) (stop : List Tok → Bool) (item : Reader A) (most counter : ℕ) (xs : List B) (ts : List Tok) (whole : Option (List A × List Tok)) (why : PartStop) → counter < most
    → SoFar view stop item most counter xs ts whole → stop ts ≡ false → Fails why (item ts) → Fails why whole
list_fails view stop item most counter xs ts whole NotSpelled turn so_far is reads = list_fault view stop item most counter xs ts whole turn so_far is reads
list_fails view stop item most counter xs ts whole Memory turn so_far is reads = tt

-- there are no more turns than tokens
pub list_out : {A B : Type 0} (view : B → A) (stop : List Tok → Bool) (item : Reader A) (most counter : ℕ) (xs : List B) (ts : List Tok) (whole : Option (List A × List Tok)) → most ≤ counter
    → SoFar view stop item most counter xs ts whole → whole ≡ None
list_out view stop item most counter xs ts whole out so_far =
    let e : most - counter ≡ 0 = omega (arith, out) in
    sym so_far ∙ ap (λ n. with_front (map view xs) (many_from stop item n ts)) e ∙ ap (with_front (map view xs)) (no_turn stop item ts)

-- ---- elements behind a comma

pub behind_is : {A : Type 0} (item : Reader A) (ts us : List Tok) (read : Option (A × List Tok)) → after_mark 44 ts ≡ Some us → item us ≡ read → behind_comma item ts ≡ read
behind_is item ts us read comma reads = ap (λ o. o >>= item) comma ∙ reads

pub comma_fails : {A : Type 0} (item : Reader A) (ts : List Tok) (why : PartStop) → Fails why (after_mark 44 ts) → Fails why (behind_comma item ts)
comma_fails item ts NotSpelled reads = ap (λ o. o >>= item) reads
comma_fails item ts Memory reads = tt

pub item_fails : {A : Type 0} (item : Reader A) (ts us : List Tok) (why : PartStop) → after_mark 44 ts ≡ Some us → Fails why (item us) → Fails why (behind_comma item ts)
item_fails item ts us NotSpelled comma reads = behind_is item ts us None comma reads
item_fails item ts us Memory comma reads = tt
