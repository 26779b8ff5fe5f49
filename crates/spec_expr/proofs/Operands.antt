-- Operators and signs: one turn of the code is one turn of the definition.
use Rattle.std.proofs.Common.{◌≡◌, ℕ, zero, suc, ◌+◌, ◌-◌, ◌<◌, ◌≤◌, Bool, true, false, ◌||◌, Option, Some, None, List, [], ◌∷◌, length, take, drop, refl, sym, ap, ◌∙◌, arith}
use Rattle.std.specs.Prelude.{if◌then◌else◌, option_map, bytes_eq, codes, take_while, get_or}
use Rattle.std.proofs.Common.{cond}
use Rattle.std.proofs.lemmas.List.Sums.{take_while-cons}
use Rattle.spec_ast.specs.Raw.{Tree, unary}
use Rattle.spec_ast.specs.declared.kind.UnKind.{UnKind}
use Rattle.spec_ast.specs.declared.kind.UnKind.TheVariants.{Minus, Complement}
use Rattle.spec_ast.specs.declared.kind.BinKind.{BinKind}
use Rattle.spec_lex.specs.declared.token.Token.{Token}
use Rattle.spec_expr.specs.Words.{Text}
use Rattle.spec_expr.specs.Grown.{Grown, lift}
use Rattle.spec_expr.specs.Reading.{Reader, after, by_operator, operator_at, grown_binary, one_deeper, compared_at, chain_at, unary_at, primary_at}
use Rattle.spec_expr.specs.Operators.{is_found, with_words, begins_operator, with_kind, operand_behind, operand_at, front_operator, is_sign, sign_of, signed}
use Rattle.spec_expr.specs.Fronts.{seen, Fails}
use Rattle.spec_expr.specs.declared.stop.PartStop.{PartStop}
use Rattle.spec_expr.specs.declared.stop.PartStop.TheVariants.{NotSpelled, Memory}

abbrev pub by_front : {B : Type 0} → Option (BinKind × List Text) → B → (BinKind → List Text → B) → B
by_front None other on = other
by_front (Some found) other on = on found.0 found.1

by_cases : {B : Type 0} (o : Option BinKind) (ts : List Text) (other : B) (on : BinKind → List Text → B) →
    by_operator o other (λ kind. on kind ts) ≡ by_front (option_map (with_words ts) o) other on
by_cases None ts other on = refl
by_cases (Some kind) ts other on = refl

pub compared_step : (most : ℕ) (operand : Reader (Grown Tree)) (a : Grown Tree) (ts : List Text) →
    compared_at most operand a ts ≡ by_front (front_operator 7 ts) (Some (a, ts)) (λ kind us. after (operand us) (λ b rest. Some (grown_binary most kind a b, rest)))
compared_step most operand a [] = refl
compared_step most operand a (t ∷ ts) = by_cases (operator_at 7 t) ts (Some (a, t ∷ ts)) (λ kind us. after (operand us) (λ b rest. Some (grown_binary most kind a b, rest)))

pub ruleset operator_steps = (compared_step)

-- ---- chains

chain_turn : (most : ℕ) (operand : Reader (Grown Tree)) (loose m : ℕ) (a : Grown Tree) (ts : List Text) →
    chain_at most operand loose (suc m) a ts ≡ by_front (front_operator loose ts) (Some (a, ts)) (λ kind us. after (operand us) (λ b rest. chain_at most operand loose m (grown_binary most kind a b) rest))
unfolding chain_at
chain_turn most operand loose m a [] = refl
chain_turn most operand loose m a (t ∷ ts) =
    by_cases (operator_at loose t) ts (Some (a, t ∷ ts)) (λ kind us. after (operand us) (λ b rest. chain_at most operand loose m (grown_binary most kind a b) rest))

chain_none : (most : ℕ) (operand : Reader (Grown Tree)) (loose : ℕ) (a : Grown Tree) (ts : List Text) → chain_at most operand loose 0 a ts ≡ Some (a, ts)
unfolding chain_at
chain_none most operand loose a ts = refl

turns_left : (most counter : ℕ) → counter < most → most - counter ≡ suc (most - (counter + 1))
turns_left most counter h = omega (arith, h)

-- the chain is read on to the whole
abbrev pub ChainLeft : ℕ → Reader (Grown Tree) → ℕ → ℕ → ℕ → Grown Tree → List Text → Option (Grown Tree × List Text) → Type 0
ChainLeft limit operand loose most counter a ts whole = chain_at limit operand loose (most - counter) a ts ≡ whole

chain_opened : (limit : ℕ) (operand : Reader (Grown Tree)) (loose most counter : ℕ) (a : Grown Tree) (ts : List Text) (whole : Option (Grown Tree × List Text)) → counter < most →
    ChainLeft limit operand loose most counter a ts whole →
    whole ≡ by_front (front_operator loose ts) (Some (a, ts)) (λ kind us. after (operand us) (λ b rest. chain_at limit operand loose (most - (counter + 1)) (grown_binary limit kind a b) rest))
chain_opened limit operand loose most counter a ts whole turn left =
    sym left ∙ ap (λ n. chain_at limit operand loose n a ts) (turns_left most counter turn) ∙ chain_turn limit operand loose (most - (counter + 1)) a ts

not_found : (o : Option BinKind) (ts : List Text) → is_found o ≡ false → option_map (with_words ts) o ≡ None
not_found None ts h = refl
not_found (Some kind) ts h = absurd cc

found_by : (o : Option BinKind) (ts : List Text) → is_found o ≡ true → is_found (option_map (with_words ts) o) ≡ true
found_by None ts h = absurd cc
found_by (Some kind) ts h = refl

twice : (o : Option (Grown Tree × List Text)) (kind : BinKind) (on : BinKind × Grown Tree → List Text → Option (Grown Tree × List Text)) →
    after o (λ b rest. on (with_kind kind b) rest) ≡ after (after o (λ b rest. Some (with_kind kind b, rest))) on
twice None kind on = refl
twice (Some got) kind on = refl

none_there : (loose : ℕ) (ts : List Text) → begins_operator loose ts ≡ false → front_operator loose ts ≡ None
none_there loose [] h = refl
none_there loose (t ∷ ts) h = not_found (operator_at loose t) ts h

pub chain_end : (limit : ℕ) (operand : Reader (Grown Tree)) (loose most counter : ℕ) (a : Grown Tree) (ts : List Text) (whole : Option (Grown Tree × List Text)) → counter < most →
    ChainLeft limit operand loose most counter a ts whole → begins_operator loose ts ≡ false → whole ≡ Some (a, ts)
chain_end limit operand loose most counter a ts whole turn left is =
    chain_opened limit operand loose most counter a ts whole turn left
    ∙ ap (λ o. by_front o (Some (a, ts)) (λ kind us. after (operand us) (λ b rest. chain_at limit operand loose (most - (counter + 1)) (grown_binary limit kind a b) rest))) (none_there loose ts is)

abbrev with_operand : ℕ → Reader (Grown Tree) → ℕ → ℕ → Grown Tree → BinKind × Grown Tree → Reader (Grown Tree)
with_operand limit operand loose m a x rest = chain_at limit operand loose m (grown_binary limit x.0 a x.1) rest

operand_there : (limit : ℕ) (operand : Reader (Grown Tree)) (loose m : ℕ) (a : Grown Tree) (other : Option (Grown Tree × List Text)) (o : Option (BinKind × List Text)) → is_found o ≡ true →
    by_front o other (λ kind us. after (operand us) (λ b rest. chain_at limit operand loose m (grown_binary limit kind a b) rest)) ≡ after (operand_behind operand o) (with_operand limit operand loose m a)
operand_there limit operand loose m a other None h = absurd cc
operand_there limit operand loose m a other (Some found) h = twice (operand found.1) found.0 (with_operand limit operand loose m a)

found_there : (loose : ℕ) (ts : List Text) → begins_operator loose ts ≡ true → is_found (front_operator loose ts) ≡ true
found_there loose [] h = absurd cc
found_there loose (t ∷ ts) h = found_by (operator_at loose t) ts h

chain_read : (limit : ℕ) (operand : Reader (Grown Tree)) (loose most counter : ℕ) (a : Grown Tree) (ts : List Text) (whole : Option (Grown Tree × List Text)) (read : Option ((BinKind × Grown Tree) × List Text)) → counter < most →
    ChainLeft limit operand loose most counter a ts whole → begins_operator loose ts ≡ true → operand_at operand loose ts ≡ read → whole ≡ after read (with_operand limit operand loose (most - (counter + 1)) a)
chain_read limit operand loose most counter a ts whole read turn left is reads =
    chain_opened limit operand loose most counter a ts whole turn left
    ∙ operand_there limit operand loose (most - (counter + 1)) a (Some (a, ts)) (front_operator loose ts) (found_there loose ts is)
    ∙ ap (λ o. after o (with_operand limit operand loose (most - (counter + 1)) a)) reads

pub chain_next : (limit : ℕ) (operand : Reader (Grown Tree)) (loose most counter : ℕ) (a : Grown Tree) (ts : List Text) (whole : Option (Grown Tree × List Text)) (kind : BinKind) (b : Grown Tree) (rest : List Text) (c : Grown Tree) →
    counter < most → ChainLeft limit operand loose most counter a ts whole → begins_operator loose ts ≡ true → operand_at operand loose ts ≡ Some (with_kind kind b, rest) → c ≡ grown_binary limit kind a b →
    ChainLeft limit operand loose most (counter + 1) c rest whole
chain_next limit operand loose most counter a ts whole kind b rest c turn left is reads made =
    ap (λ x. chain_at limit operand loose (most - (counter + 1)) x rest) made ∙ sym (chain_read limit operand loose most counter a ts whole (Some (with_kind kind b, rest)) turn left is reads)

pub chain_fails : (limit : ℕ) (operand : Reader (Grown Tree)) (loose most counter : ℕ) (a : Grown Tree) (ts : List Text) (whole : Option (Grown Tree × List Text)) (why : PartStop) →
    counter < most → ChainLeft limit operand loose most counter a ts whole → begins_operator loose ts ≡ true → Fails why (operand_at operand loose ts) → Fails why whole
chain_fails limit operand loose most counter a ts whole NotSpelled turn left is reads = chain_read limit operand loose most counter a ts whole None turn left is reads
chain_fails limit operand loose most counter a ts whole Memory turn left is reads = tt

pub chain_out : (limit : ℕ) (operand : Reader (Grown Tree)) (loose most counter : ℕ) (a : Grown Tree) (ts : List Text) (whole : Option (Grown Tree × List Text)) → most ≤ counter →
    ChainLeft limit operand loose most counter a ts whole → whole ≡ Some (a, ts)
chain_out limit operand loose most counter a ts whole out left =
    let e : most - counter ≡ 0 = omega (arith, out) in sym left ∙ ap (λ n. chain_at limit operand loose n a ts) e ∙ chain_none limit operand loose a ts

-- ---- signs

after_then : (o : Option (Grown Tree × List Text)) (f g : Grown Tree → Grown Tree) → after (after o (λ a rest. Some (f a, rest))) (λ a rest. Some (g a, rest)) ≡ after o (λ a rest. Some (g (f a), rest))
after_then None f g = refl
after_then (Some got) f g = refl

after_some : (o : Option (Grown Tree × List Text)) → after o (λ a rest. Some (a, rest)) ≡ o
after_some None = refl
after_some (Some got) = refl

abbrev run : List Token → ℕ
run ts = length (take_while (λ t. is_sign t.text.now) ts)

by_sign : (most : ℕ) (inner : Reader (Grown Tree)) (t : Token) (ts tw : List Token) (p q : Bool) → bytes_eq t.text.now (codes "-") ≡ p →
    unary_at most inner (seen ts) ≡ after (primary_at most inner (seen (drop (length tw) ts))) (λ a rest. Some (signed most (seen (take (length tw) ts)) a, rest)) →
    (if p then after (unary_at most inner (seen ts)) (λ a rest. Some (lift most (unary Minus) one_deeper a, rest))
    else (if q then after (unary_at most inner (seen ts)) (λ a rest. Some (lift most (unary Complement) one_deeper a, rest)) else primary_at most inner (t.text.now ∷ seen ts)))
    ≡ after (primary_at most inner (seen (drop (length (if p || q then t ∷ tw else [])) (t ∷ ts)))) (λ a rest. Some (signed most (seen (take (length (if p || q then t ∷ tw else [])) (t ∷ ts))) a, rest))
by_sign most inner t ts tw true q e left =
    let o = primary_at most inner (seen (drop (length tw) ts)) in
    let f = signed most (seen (take (length tw) ts)) in
    ap (λ o. after o (λ a rest. Some (lift most (unary Minus) one_deeper a, rest))) left ∙ after_then o f (lift most (unary Minus) one_deeper)
    ∙ ap (λ b. after o (λ a rest. Some (lift most (unary (if b then Minus else Complement)) one_deeper (f a), rest))) (sym e)
by_sign most inner t ts tw false true e left =
    let o = primary_at most inner (seen (drop (length tw) ts)) in
    let f = signed most (seen (take (length tw) ts)) in
    ap (λ o. after o (λ a rest. Some (lift most (unary Complement) one_deeper a, rest))) left ∙ after_then o f (lift most (unary Complement) one_deeper)
    ∙ ap (λ b. after o (λ a rest. Some (lift most (unary (if b then Minus else Complement)) one_deeper (f a), rest))) (sym e)
by_sign most inner t ts tw false false e left = sym (after_some (primary_at most inner (t.text.now ∷ seen ts)))

cond_if : (b : Bool) (xs ys : List Token) → cond b xs ys ≡ (if b then xs else ys)
cond_if true xs ys = refl
cond_if false xs ys = refl

abbrev sign_there : Token → Bool
sign_there t = is_sign t.text.now

run_is : (t : Token) (ts : List Token) → length (if bytes_eq t.text.now (codes "-") || bytes_eq t.text.now (codes "~") then t ∷ take_while sign_there ts else []) ≡ run (t ∷ ts)
run_is t ts =
    ap length (sym (cond_if (bytes_eq t.text.now (codes "-") || bytes_eq t.text.now (codes "~")) (t ∷ take_while sign_there ts) [])) ∙ ap length (sym (take_while-cons sign_there t ts))

pub signs_read : (most : ℕ) (inner : Reader (Grown Tree)) (ts : List Token) →
    unary_at most inner (seen ts) ≡ after (primary_at most inner (seen (drop (run ts) ts))) (λ a rest. Some (signed most (seen (take (run ts) ts)) a, rest))
unfolding unary_at
signs_read most inner [] = refl
signs_read most inner (t ∷ ts) =
    by_sign most inner t ts (take_while sign_there ts) (bytes_eq t.text.now (codes "-")) (bytes_eq t.text.now (codes "~")) refl (signs_read most inner ts)
    ∙ ap (λ n. after (primary_at most inner (seen (drop n (t ∷ ts)))) (λ a rest. Some (signed most (seen (take n (t ∷ ts))) a, rest))) (run_is t ts)

-- the reading behind signs, part by part
pub signs_spelled : (most : ℕ) (inner : Reader (Grown Tree)) (ts front back : List Token) (a b : Grown Tree) (rest : List Text) → front ≡ take (run ts) ts → back ≡ drop (run ts) ts →
    primary_at most inner (seen back) ≡ Some (a, rest) → b ≡ signed most (seen front) a → unary_at most inner (seen ts) ≡ Some (b, rest)
signs_spelled most inner ts front back a b rest is_front is_back reads made =
    signs_read most inner ts
    ∙ ap (λ o. after o (λ a rest. Some (signed most (seen (take (run ts) ts)) a, rest))) (ap (λ us. primary_at most inner (seen us)) (sym is_back) ∙ reads)
    ∙ ap (λ us. Some (signed most (seen us) a, rest)) (sym is_front) ∙ ap (λ x. Some (x, rest)) (sym made)

pub signs_fail : (most : ℕ) (inner : Reader (Grown Tree)) (ts back : List Token) (why : PartStop) → back ≡ drop (run ts) ts → Fails why (primary_at most inner (seen back)) → Fails why (unary_at most inner (seen ts))
signs_fail most inner ts back NotSpelled is_back fails =
    signs_read most inner ts
    ∙ ap (λ o. after o (λ a rest. Some (signed most (seen (take (run ts) ts)) a, rest))) (ap (λ us. primary_at most inner (seen us)) (sym is_back) ∙ fails)
signs_fail most inner ts back Memory is_back fails = tt

-- one sign more, from the end
signed_more : (most : ℕ) (ts : List Token) (a : Grown Tree) (at : ℕ) (t : Token) → at < length ts →
    signed most (seen (take at ts)) (lift most (unary (sign_of (get_or ts at t).text.now)) one_deeper a) ≡ signed most (seen (take (suc at) ts)) a
signed_more most [] a at t h = absurd (omega (arith, h))
signed_more most (x ∷ xs) a zero t h = refl
signed_more most (x ∷ xs) a (suc at) t h =
    ap (lift most (unary (sign_of x.text.now)) one_deeper) (signed_more most xs a at t (let g : at < length xs = omega (arith, h) in g))

pub signed_turn : (most : ℕ) (ts : List Token) (a b : Grown Tree) (left : ℕ) (t : Token) (kind : UnKind) (whole : Grown Tree) → 0 < left → left ≤ length ts → kind ≡ sign_of (get_or ts (left - 1) t).text.now →
    b ≡ lift most (unary kind) one_deeper a → signed most (seen (take left ts)) a ≡ whole → signed most (seen (take (left - 1) ts)) b ≡ whole
signed_turn most ts a b zero t kind whole some within is made so_far = absurd (omega (arith, some))
signed_turn most ts a b (suc at) t kind whole some within is made so_far =
    let e : suc at - 1 ≡ at = omega arith in
    let within' : at < length ts = omega (arith, within) in
    ap (signed most (seen (take (suc at - 1) ts))) (made ∙ ap (λ k. lift most (unary k) one_deeper a) is)
    ∙ ap (λ n. signed most (seen (take n ts)) (lift most (unary (sign_of (get_or ts n t).text.now)) one_deeper a)) e ∙ signed_more most ts a at t within' ∙ so_far
