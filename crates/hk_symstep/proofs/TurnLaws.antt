-- Laws of turns: one move of an operand, one argument of a call.
use Rattle.std.proofs.Common.{◌≡◌, ◌<◌, ◌≤◌, ◌+◌, ◌-◌, ℕ, zero, suc, Bool, true, false, ◌||◌, if◌then◌else◌, nat_eq, Option, Some, None, List, [], ◌∷◌, drop, get_or, length, refl, sym, ap, ◌∙◌, subst, arith, add-one, drop-cons}
use Rattle.ir_value.specs.declared.value.Value.{Value}
use Rattle.ir_value.specs.declared.value.Value.TheVariants.{Number, Null, Address}
use Rattle.ir_code.specs.declared.input.Move.{Move}
use Rattle.ir_code.specs.declared.input.Input.{Input}
use Rattle.ir_machine.specs.declared.state.Computed.{Computed}
use Rattle.ir_machine.specs.Values.{Registers, moved, moved_all, value_of, tried, arguments_pass}
use Rattle.hk_symvalue.specs.Meaning.{stands_for}
use Rattle.hk_symstep.specs.Steps.{AnswersPasses}

-- ---- moves

one_move : (m : List (List ℕ)) (rs : Registers) (moves : List Move) (i : ℕ) (d : Move) (x : Value) → i < length moves
    → moved_all m rs (Some x) (drop i moves) ≡ moved_all m rs (moved m rs (get_or moves i d) x) (drop (i + 1) moves)
one_move m rs moves i d x h = rw (add-one, drop-cons moves i d)

pub move_turn : (m n : List (List ℕ)) (rs qs : Registers) (moves : List Move) (i : ℕ) (d : Move) (x : Value) (y whole : Option Value) → n ≡ m → qs ≡ rs → i < length moves
    → y ≡ moved n qs (get_or moves i d) x → moved_all m rs (Some x) (drop i moves) ≡ whole → moved_all m rs y (drop (i + 1) moves) ≡ whole
move_turn m n rs qs moves i d x y whole em er h e w =
    ap (λ y. moved_all m rs y (drop (i + 1) moves)) (e ∙ (λ k. moved (em k) (er k) (get_or moves i d) x)) ∙ sym (one_move m rs moves i d x h) ∙ w

-- ---- arguments

one_argument : (m : List (List ℕ)) (rs : Registers) (is : List Input) (i : ℕ) (d : Input) → i < length is
    → arguments_pass m rs (drop i is) ≡ tried (value_of m rs (get_or is i d)) (arguments_pass m rs (drop (i + 1) is))
one_argument m rs is i d h = rw (add-one, drop-cons is i d)

or_false : (b : Bool) → (b || false) ≡ b
or_false true = refl
or_false false = refl

or_or : (a b c : Bool) → (a || (b || c)) ≡ ((a || b) || c)
or_or true b c = refl
or_or false b c = refl

tried_by : (p : Bool) (base bits : ℕ) (c : Computed) (s : Bool) → AnswersPasses s c → AnswersPasses (p || s) (tried (Some (stands_for p base bits)) c)
tried_by true base bits c s h = refl
tried_by false base bits c s h = at (nat_eq base 0) (nat_eq base 1)
  where
    at : (none null : Bool) → AnswersPasses s (tried (Some (if none then Number bits else (if null then Null else Address (base - 2) bits))) c)
    at true null = h
    at false true = h
    at false false = h

-- the machine's answer at what is left, from its answer at the value of the first argument
opened : (m n : List (List ℕ)) (rs qs : Registers) (is : List Input) (i : ℕ) (item : Input) (y : Option Value) (s : Bool) → n ≡ m → qs ≡ rs → i < length is → item ≡ get_or is i item → y ≡ value_of n qs item
    → AnswersPasses s (tried y (arguments_pass m rs (drop (i + 1) is))) → AnswersPasses s (arguments_pass m rs (drop i is))
opened m n rs qs is i item y s em er h e f a =
    subst (AnswersPasses s) (sym (one_argument m rs is i item h))
    (subst (λ y. AnswersPasses s (tried y (arguments_pass m rs (drop (i + 1) is)))) (f ∙ (λ k. value_of (em k) (er k) item) ∙ ap (value_of m rs) e) a)

pub none_turn : (m n : List (List ℕ)) (rs qs : Registers) (is : List Input) (i : ℕ) (item : Input) (before now : Bool) (whole : Computed) → n ≡ m → qs ≡ rs → i < length is → item ≡ get_or is i item → None ≡ value_of n qs item
    → now ≡ before → ((s : Bool) → AnswersPasses s (arguments_pass m rs (drop i is)) → AnswersPasses (before || s) whole) → AnswersPasses now whole
none_turn m n rs qs is i item before now whole em er h e f g w =
    subst (λ b. AnswersPasses b whole) (or_false before ∙ sym g) (w false (opened m n rs qs is i item None false em er h e f tt))

pub some_turn : (m n : List (List ℕ)) (rs qs : Registers) (is : List Input) (i : ℕ) (item : Input) (p : Bool) (base bits : ℕ) (before now : Bool) (whole : Computed) → n ≡ m → qs ≡ rs → i < length is → item ≡ get_or is i item
    → Some (stands_for p base bits) ≡ value_of n qs item → now ≡ (before || p) → ((s : Bool) → AnswersPasses s (arguments_pass m rs (drop i is)) → AnswersPasses (before || s) whole)
    → (s : Bool) → AnswersPasses s (arguments_pass m rs (drop (i + 1) is)) → AnswersPasses (now || s) whole
some_turn m n rs qs is i item p base bits before now whole em er h e f g w s a =
    subst (λ b. AnswersPasses b whole) (or_or before p s ∙ ap (λ b. b || s) (sym g))
    (w (p || s) (opened m n rs qs is i item (Some (stands_for p base bits)) (p || s) em er h e f (tried_by p base bits (arguments_pass m rs (drop (i + 1) is)) s a)))

past : (xs : List Input) (i : ℕ) → length xs ≤ i → drop i xs ≡ []
past [] zero h = refl
past [] (suc i) h = refl
past (x ∷ xs) zero h = absurd (omega (arith, h))
past (x ∷ xs) (suc i) h = past xs i (omega (arith, h))

pub last_turn : (m : List (List ℕ)) (rs : Registers) (is : List Input) (i : ℕ) (before : Bool) (whole : Computed) → length is ≤ i
    → ((s : Bool) → AnswersPasses s (arguments_pass m rs (drop i is)) → AnswersPasses (before || s) whole) → AnswersPasses before whole
last_turn m rs is i before whole h w =
    subst (λ b. AnswersPasses b whole) (or_false before) (w false (subst (λ l. AnswersPasses false (arguments_pass m rs l)) (sym (past is i h)) refl))
