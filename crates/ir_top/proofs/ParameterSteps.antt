-- One turn of the loop over parameters: what is left gives what the whole gives.
use Rattle.std.proofs.Common.{◌≡◌, ℕ, suc, ◌+◌, ◌-◌, ◌<◌, ◌≤◌, true, false, Option, Some, None, List, [], ◌∷◌, ◌++◌, refl, sym, ◌∙◌, ap, append_assoc, append-nil, arith}
use Rattle.ir_ast.specs.Plain.{Ty}
use Rattle.ir_lex.specs.Tok.{Tok}
use Rattle.ir_lex.specs.Items.{number_after}
use Rattle.ir_part.specs.Reader.{◌>>=◌, Fails}
use Rattle.ir_part.specs.declared.stop.PartStop.{PartStop}
use Rattle.ir_part.specs.declared.stop.PartStop.TheVariants.{NotSpelled, Memory}
use Rattle.ir_part.specs.Fronts.{after_mark}
use Rattle.ir_part.specs.Many.{is_closed, with_first, with_front}
use Rattle.ir_top.specs.Parameters.{parameter_at, more_from}

pub stop_turn : (n next : ℕ) (ts : List Tok) → is_closed 41 ts ≡ true → more_from (suc n) next ts ≡ Some ([], ts)
unfolding more_from
stop_turn n next ts is = rw is refl

pub item_turn : (n next : ℕ) (ts us : List Tok) (p : Ty × List ℕ) (rest : List Tok) → is_closed 41 ts ≡ false → after_mark 44 ts ≡ Some us → parameter_at next us ≡ Some (p, rest)
    → more_from (suc n) next ts ≡ with_first p (more_from n (number_after next p.1) rest)
unfolding more_from
item_turn n next ts us p rest is comma reads =
    rw is (ap (λ o. o >>= (λ vs. parameter_at next vs >>= (λ q. with_first q.0 (more_from n (number_after next q.0.1) q.1)))) comma
    ∙ ap (λ o. o >>= (λ q. with_first q.0 (more_from n (number_after next q.0.1) q.1))) reads)

pub comma_turn : (n next : ℕ) (ts : List Tok) → is_closed 41 ts ≡ false → after_mark 44 ts ≡ None → more_from (suc n) next ts ≡ None
unfolding more_from
comma_turn n next ts is comma = rw is (ap (λ o. o >>= (λ vs. parameter_at next vs >>= (λ q. with_first q.0 (more_from n (number_after next q.0.1) q.1)))) comma)

pub none_turn : (n next : ℕ) (ts us : List Tok) → is_closed 41 ts ≡ false → after_mark 44 ts ≡ Some us → parameter_at next us ≡ None → more_from (suc n) next ts ≡ None
unfolding more_from
none_turn n next ts us is comma reads =
    rw is (ap (λ o. o >>= (λ vs. parameter_at next vs >>= (λ q. with_first q.0 (more_from n (number_after next q.0.1) q.1)))) comma
    ∙ ap (λ o. o >>= (λ q. with_first q.0 (more_from n (number_after next q.0.1) q.1))) reads)

no_turn : (next : ℕ) (ts : List Tok) → more_from 0 next ts ≡ None
unfolding more_from
no_turn next ts = refl

turns_left : (most counter : ℕ) → counter < most → most - counter ≡ suc (most - (counter + 1))
turns_left most counter h = omega (arith, h)

front_first : (xs : List (Ty × List ℕ)) (x : Ty × List ℕ) (read : Option (List (Ty × List ℕ) × List Tok)) → with_front (xs ++ x ∷ []) read ≡ with_front xs (with_first x read)
front_first xs x None = refl
front_first xs x (Some read) = ap (λ ys. Some (ys, read.1)) (append_assoc xs (x ∷ []) read.0)

-- the parameters so far, and those of what is left, are those of the whole
abbrev pub SoFar : ℕ → ℕ → ℕ → List (Ty × List ℕ) → List Tok → Option (List (Ty × List ℕ) × List Tok) → Type 0
SoFar most counter next xs ts whole = with_front xs (more_from (most - counter) next ts) ≡ whole

on : (most counter next : ℕ) (xs : List (Ty × List ℕ)) (ts : List Tok) (whole : Option (List (Ty × List ℕ) × List Tok)) → counter < most → SoFar most counter next xs ts whole
    → whole ≡ with_front xs (more_from (suc (most - (counter + 1))) next ts)
on most counter next xs ts whole turn so_far = sym so_far ∙ ap (λ n. with_front xs (more_from n next ts)) (turns_left most counter turn)

pub list_end : (most counter next : ℕ) (xs : List (Ty × List ℕ)) (ts : List Tok) (whole : Option (List (Ty × List ℕ) × List Tok)) → counter < most → SoFar most counter next xs ts whole
    → is_closed 41 ts ≡ true → whole ≡ Some (xs, ts)
list_end most counter next xs ts whole turn so_far is =
    on most counter next xs ts whole turn so_far ∙ ap (with_front xs) (stop_turn (most - (counter + 1)) next ts is) ∙ ap (λ ys. Some (ys, ts)) (append-nil xs)

pub list_next : (most counter next after : ℕ) (xs new : List (Ty × List ℕ)) (ts us : List Tok) (whole : Option (List (Ty × List ℕ) × List Tok)) (x : Ty × List ℕ) (rest : List Tok) → counter < most
    → SoFar most counter next xs ts whole → is_closed 41 ts ≡ false → after_mark 44 ts ≡ Some us → parameter_at next us ≡ Some (x, rest) → new ≡ xs ++ x ∷ [] → after ≡ number_after next x.1
    → SoFar most (counter + 1) after new rest whole
list_next most counter next after xs new ts us whole x rest turn so_far is comma reads added number =
    ap (λ ys. with_front ys (more_from (most - (counter + 1)) after rest)) added
    ∙ ap (λ n. with_front (xs ++ x ∷ []) (more_from (most - (counter + 1)) n rest)) number
    ∙ front_first xs x (more_from (most - (counter + 1)) (number_after next x.1) rest)
    ∙ ap (with_front xs) (sym (item_turn (most - (counter + 1)) next ts us x rest is comma reads))
    ∙ sym (on most counter next xs ts whole turn so_far)

pub comma_fails : (most counter next : ℕ) (xs : List (Ty × List ℕ)) (ts : List Tok) (whole : Option (List (Ty × List ℕ) × List Tok)) (why : PartStop) → counter < most → SoFar most counter next xs ts whole
    → is_closed 41 ts ≡ false → Fails why (after_mark 44 ts) → Fails why whole
comma_fails most counter next xs ts whole NotSpelled turn so_far is comma =
    on most counter next xs ts whole turn so_far ∙ ap (with_front xs) (comma_turn (most - (counter + 1)) next ts is comma)
comma_fails most counter next xs ts whole Memory turn so_far is comma = tt

pub item_fails : (most counter next : ℕ) (xs : List (Ty × List ℕ)) (ts us : List Tok) (whole : Option (List (Ty × List ℕ) × List Tok)) (why : PartStop) → counter < most → SoFar most counter next xs ts whole
    → is_closed 41 ts ≡ false → after_mark 44 ts ≡ Some us → Fails why (parameter_at next us) → Fails why whole
item_fails most counter next xs ts us whole NotSpelled turn so_far is comma reads =
    on most counter next xs ts whole turn so_far ∙ ap (with_front xs) (none_turn (most - (counter + 1)) next ts us is comma reads)
item_fails most counter next xs ts us whole Memory turn so_far is comma reads = tt

pub list_out : (most counter next : ℕ) (xs : List (Ty × List ℕ)) (ts : List Tok) (whole : Option (List (Ty × List ℕ) × List Tok)) → most ≤ counter → SoFar most counter next xs ts whole → whole ≡ None
list_out most counter next xs ts whole out so_far =
    let e : most - counter ≡ 0 = omega (arith, out) in
    sym so_far ∙ ap (λ n. with_front xs (more_from n next ts)) e ∙ ap (with_front xs) (no_turn next ts)
