-- Laws of what symbolic values stand for.
use Rattle.ir_ast.specs.declared.instr.Predicate.{Predicate}
use Rattle.ir_value.specs.Intrinsics.{assumes, wrapped, overflowed, overflow_of}
use Rattle.ir_value.specs.declared.intrinsics.OverflowKind.{OverflowKind}
use Rattle.hk_symvalue.proofs.TruthLaws.{one_bit}
use Rattle.std.proofs.Common.{◌≡◌, ◌<◌, ◌^◌, ◌+◌, ◌-◌, ◌%◌, ◌⊎◌, ℕ, Bool, true, false, not, ◌&&◌, ◌||◌, ◌==◌, if◌then◌else◌, nat_eq, nat_lt, nat_le, inl, inr, refl, sym, ap, ◌∙◌, subst, arith, rules}
use Rattle.std.proofs.Math.Nat.{mod-eq_of_lt, mod-lt}
use Rattle.std.proofs.Math.Pow.{pow_mono}
use Rattle.std.proofs.lemmas.Nat.{pow_pos}
use Rattle.std.proofs.lemmas.Bool.{ne_eqb, ltb-true, eqb-true}
use Rattle.ir_ast.specs.declared.instr.BinaryKind.{BinaryKind}
use Rattle.ir_ast.specs.declared.instr.BinaryKind.TheVariants.{Add, Sub, Mul, Shl, Udiv, Sdiv, Lshr, Ashr, Urem, Srem, And, Xor, Or}
use Rattle.ir_ast.specs.declared.operand.Flags.{Flags}
use Rattle.ir_ast.specs.declared.instr.ConvertKind.TheVariants.{Trunc, Zext, Sext}
use Rattle.ir_value.specs.declared.value.Value.{Value}
use Rattle.ir_value.specs.declared.value.Value.TheVariants.{Number, Null, Address, Poison}
use Rattle.ir_value.specs.declared.value.Made.{Made}
use Rattle.ir_value.specs.declared.value.Made.TheVariants.{Gives, Sticks, Lost}
use Rattle.ir_value.specs.declared.value.StuckReason.TheVariants.{U1, U2}
use Rattle.hk_num.specs.Numbers.{bvslt, sign_extend, bvudiv, bvurem, bvsdiv, bvsrem}
use Rattle.ir_value.specs.Numbers.{is_width, takes, unless, is_minus_one, is_least, of_numbers, binary_of, by_poison, poison_by, is_division, is_signed_division, truth, holds, signs_differ, compare_of, freeze, select, is_narrower, convert_of}
use Rattle.hk_symvalue.specs.Meaning.{stands_for}
use Rattle.hk_symvalue.specs.Rows.{Answers, Shown, sticks, flagged, binary_sticks}

pub address : (o x : ℕ) → stands_for false (o + 2) x ≡ Address o x
address o x =
    let first : nat_eq (o + 2) 0 ≡ false = ne_eqb (o + 2) 0 (λ (e : o + 2 ≡ 0). absurd (omega (arith, e))) in
    let second : nat_eq (o + 2) 1 ≡ false = ne_eqb (o + 2) 1 (λ (e : o + 2 ≡ 1). absurd (omega (arith, e))) in
    let back : o + 2 - 2 ≡ o = omega arith in
    (λ i. if first i then Number x else (if second i then Null else Address (back i) x))

pub chosen : (c p q : Bool) (b d x y : ℕ) → stands_for (if c then p else q) (if c then b else d) (if c then x else y) ≡ (if c then stands_for p b x else stands_for q d y)
chosen true p q b d x y = refl
chosen false p q b d x y = refl

-- ---- an operand at a width: a number that may be poison, or none that a row takes

pub operand : (C : Value → Type 0) (w : ℕ) (p : Bool) (base x n : ℕ) → n ≡ x % 2 ^ w → C (flagged p n) → ((a : Value) → takes w a ≡ false → C a) → C (stands_for p base x)
operand C w true base x n is c lost = c
operand C w false base x n is c lost = by (nat_eq base 0) (nat_lt x (2 ^ w)) refl
  where
    by : (zero : Bool) (small : Bool) → nat_lt x (2 ^ w) ≡ small → C (if zero then Number x else (if nat_eq base 1 then Null else Address (base - 2) x))
    by true true e = subst (λ k. C (Number k)) (is ∙ mod-eq_of_lt (ltb-true x (2 ^ w) e)) c
    by true false e = lost (Number x) e
    by false small e = other (nat_eq base 1)
      where
        other : (null : Bool) → C (if null then Null else Address (base - 2) x)
        other true = lost Null refl
        other false = lost (Address (base - 2) x) refl

-- what no row takes is lost
pub guarded : (s : Bool) (m : Value) (made : Made) (t : Bool) → (t ≡ true → Answers s m made) → Answers s m (if t then made else Lost)
guarded s m made true h = h refl
guarded s m made false h = tt

pub first_lost : (s : Bool) (m : Value) (made : Made) (w u : ℕ) (a b : Value) → takes w a ≡ false → Answers s m (if is_width w && (takes w a && takes u b) then made else Lost)
first_lost s m made w u a b e = subst (λ t. Answers s m (if is_width w && (t && takes u b) then made else Lost)) (sym e) (guarded s m made (is_width w && false) (λ h. absurd (none (is_width w) h)))
  where
    none : (t : Bool) → (t && false) ≡ true → ⊥
    none true h = search rules
    none false h = search rules

pub second_lost : (s : Bool) (m : Value) (made : Made) (w u : ℕ) (a b : Value) → takes u b ≡ false → Answers s m (if is_width w && (takes w a && takes u b) then made else Lost)
second_lost s m made w u a b e = subst (λ t. Answers s m (if is_width w && (takes w a && t) then made else Lost)) (sym e) (guarded s m made (is_width w && (takes w a && false)) (λ h. absurd (none (is_width w) (takes w a) h)))
  where
    none : (t q : Bool) → (t && (q && false)) ≡ true → ⊥
    none true true h = search rules
    none true false h = search rules
    none false q h = search rules

-- a row of two operands, answered at numbers of their widths that may be poison
pub row_of_two : (s : Bool) (m : Value) (g : Value → Value → Made) (w u : ℕ) (pa : Bool) (da xa na : ℕ) (pb : Bool) (db xb nb : ℕ) → na ≡ xa % 2 ^ w → nb ≡ xb % 2 ^ u
    → Answers s m (g (flagged pa na) (flagged pb nb))
    → Answers s m (if is_width w && (takes w (stands_for pa da xa) && takes u (stands_for pb db xb)) then g (stands_for pa da xa) (stands_for pb db xb) else Lost)
row_of_two s m g w u pa da xa na pb db xb nb ea eb h =
    operand (λ a. Answers s m (if is_width w && (takes w a && takes u (stands_for pb db xb)) then g a (stands_for pb db xb) else Lost)) w pa da xa na ea
    (operand (λ b. Answers s m (if is_width w && (takes w (flagged pa na) && takes u b) then g (flagged pa na) b else Lost)) u pb db xb nb eb
    (guarded s m (g (flagged pa na) (flagged pb nb)) (is_width w && (takes w (flagged pa na) && takes u (flagged pb nb))) (λ e. h))
    (λ b e. second_lost s m (g (flagged pa na) b) w u (flagged pa na) b e))
    (λ a e. first_lost s m (g a (stands_for pb db xb)) w u a (stands_for pb db xb) e)

-- a row of one operand
pub row_of_one : (m : Value) (g : Value → Made) (ok narrow : Bool) (w : ℕ) (pa : Bool) (da xa na : ℕ) → na ≡ xa % 2 ^ w → Answers false m (g (flagged pa na))
    → Answers false m (if ok && (narrow && takes w (stands_for pa da xa)) then g (stands_for pa da xa) else Lost)
row_of_one m g ok narrow w pa da xa na e h =
    operand (λ a. Answers false m (if ok && (narrow && takes w a) then g a else Lost)) w pa da xa na e
    (guarded false m (g (flagged pa na)) (ok && (narrow && takes w (flagged pa na))) (λ t. h))
    (λ a f. subst (λ t. Answers false m (if ok && (narrow && t) then g a else Lost)) (sym f) (guarded false m (g a) (ok && (narrow && false)) (λ t. absurd (none ok narrow t))))
  where
    none : (t q : Bool) → (t && (q && false)) ≡ true → ⊥
    none true true h = search rules
    none true false h = search rules
    none false q h = search rules

-- a row stays where its width and its tests of poison are the same
pub moved : (P : ℕ → Bool → Bool → Type 0) (k w : ℕ) (pa qa pb qb : Bool) → k ≡ w → pa ≡ qa → pb ≡ qb → P k pa pb → P w qa qb
moved P k w pa qa pb qb e f g h = subst (λ n. P n qa qb) e (subst (λ p. P k p qb) f (subst (P k pa) g h))

-- ---- operations on two numbers

answers_from : (s : Bool) (m : Value) (made : Made) → s ≡ sticks made → Shown m made → Answers s m made
answers_from s m (Gives x) e h = (e, h)
answers_from s m (Sticks r) e h = e
answers_from s m Lost e h = tt

unless_passes : (t : Bool) (n : ℕ) → sticks (unless t n) ≡ false
unless_passes true n = refl
unless_passes false n = refl

far_passes : (far t : Bool) (n : ℕ) → sticks (if far then Gives Poison else unless t n) ≡ false
far_passes true t n = refl
far_passes false t n = unless_passes t n

-- whether the row sticks, as terms tell it
module _ (f : Flags) (w a b : ℕ) where
  pub sticks_as : (kind : BinaryKind) (pa pb : Bool) → binary_sticks kind w pa a pb b ≡ sticks (binary_of f kind w (flagged pa a) (flagged pb b))
  sticks_as Add false false = sym (unless_passes _ _)
  sticks_as Sub false false = sym (unless_passes _ _)
  sticks_as Mul false false = sym (unless_passes _ _)
  sticks_as Or false false = sym (unless_passes _ _)
  sticks_as And false false = refl
  sticks_as Xor false false = refl
  sticks_as Shl false false = sym (far_passes (nat_le w b) _ _)
  sticks_as Lshr false false = sym (far_passes (nat_le w b) _ _)
  sticks_as Ashr false false = sym (far_passes (nat_le w b) _ _)
  sticks_as Udiv false false = by (b == 0)
    where
      by : (zero : Bool) → (false || zero) ≡ sticks (if zero then Sticks U1 else unless (f.exact && not (bvurem w a b == 0)) (bvudiv w a b))
      by true = refl
      by false = sym (unless_passes (f.exact && not (bvurem w a b == 0)) (bvudiv w a b))
  sticks_as Urem false false = by (b == 0)
    where
      by : (zero : Bool) → (false || zero) ≡ sticks (if zero then Sticks U1 else Gives (Number (bvurem w a b)))
      by true = refl
      by false = refl
  sticks_as Sdiv false false = by (b == 0) (is_minus_one w b) (is_least w a)
    where
      by : (zero minus least : Bool) → ((false || zero) || (minus && (false || least))) ≡ sticks (if zero then Sticks U1 else (if minus && least then Sticks U2 else unless (f.exact && not (bvsrem w a b == 0)) (bvsdiv w a b)))
      by true minus least = refl
      by false true true = refl
      by false true false = sym (unless_passes (f.exact && not (bvsrem w a b == 0)) (bvsdiv w a b))
      by false false least = sym (unless_passes (f.exact && not (bvsrem w a b == 0)) (bvsdiv w a b))
  sticks_as Srem false false = by (b == 0) (is_minus_one w b) (is_least w a)
    where
      by : (zero minus least : Bool) → ((false || zero) || (minus && (false || least))) ≡ sticks (if zero then Sticks U1 else (if minus && least then Sticks U2 else Gives (Number (bvsrem w a b))))
      by true minus least = refl
      by false true true = refl
      by false true false = refl
      by false false least = refl
  sticks_as Udiv true false = by (b == 0)
    where
      by : (zero : Bool) → (false || zero) ≡ sticks (if true && zero then Sticks U1 else Gives Poison)
      by true = refl
      by false = refl
  sticks_as Urem true false = by (b == 0)
    where
      by : (zero : Bool) → (false || zero) ≡ sticks (if true && zero then Sticks U1 else Gives Poison)
      by true = refl
      by false = refl
  sticks_as Sdiv true false = by (b == 0) (is_minus_one w b)
    where
      by : (zero minus : Bool) → ((false || zero) || (minus && true)) ≡ sticks (if true && zero then Sticks U1 else (if true && minus then Sticks U2 else Gives Poison))
      by true minus = refl
      by false true = refl
      by false false = refl
  sticks_as Srem true false = by (b == 0) (is_minus_one w b)
    where
      by : (zero minus : Bool) → ((false || zero) || (minus && true)) ≡ sticks (if true && zero then Sticks U1 else (if true && minus then Sticks U2 else Gives Poison))
      by true minus = refl
      by false true = refl
      by false false = refl
  sticks_as Udiv false true = refl
  sticks_as Udiv true true = refl
  sticks_as Urem false true = refl
  sticks_as Urem true true = refl
  sticks_as Sdiv false true = refl
  sticks_as Sdiv true true = refl
  sticks_as Srem false true = refl
  sticks_as Srem true true = refl
  sticks_as _ true true = refl
  sticks_as _ true false = refl
  sticks_as _ false true = refl

-- what is poison by an operand is shown by poison
poison_shown : (kind : BinaryKind) → Shown Poison (by_poison kind)
poison_shown kind = by (is_division kind)
  where
    by : (t : Bool) → Shown Poison (if t then Sticks U1 else Gives Poison)
    by true = tt
    by false = refl

poison_over : (kind : BinaryKind) (w b : ℕ) → Shown Poison (poison_by kind w b)
poison_over kind w b = by (is_division kind && (b == 0)) (is_signed_division kind && is_minus_one w b)
  where
    by : (t u : Bool) → Shown Poison (if t then Sticks U1 else (if u then Sticks U2 else Gives Poison))
    by true u = tt
    by false true = tt
    by false false = refl

shown_as : (f : Flags) (kind : BinaryKind) (w a b n : ℕ) (pa pb own : Bool) → Shown (flagged own n) (of_numbers f kind w a b)
    → Shown (flagged ((pa || pb) || own) n) (binary_of f kind w (flagged pa a) (flagged pb b))
shown_as f kind w a b n false false own h = h
shown_as f kind w a b n false true own h = poison_shown kind
shown_as f kind w a b n true false own h = poison_over kind w b
shown_as f kind w a b n true true own h = poison_shown kind

pub binary_answers : (f : Flags) (kind : BinaryKind) (w a b n : ℕ) (pa pb own s : Bool) (m : Value) → s ≡ binary_sticks kind w pa a pb b → m ≡ flagged ((pa || pb) || own) n
    → Shown (flagged own n) (of_numbers f kind w a b) → Answers s m (binary_of f kind w (flagged pa a) (flagged pb b))
binary_answers f kind w a b n pa pb own s m e is h =
    answers_from s m (binary_of f kind w (flagged pa a) (flagged pb b)) (e ∙ sticks_as f w a b kind pa pb)
    (subst (λ x. Shown x (binary_of f kind w (flagged pa a) (flagged pb b))) (sym is) (shown_as f kind w a b n pa pb own h))

-- ---- comparisons, `freeze`, `select`, `llvm.assume`

pub bit_number : (w a : ℕ) → w ≡ 1 → a < 2 ^ w → a ≡ truth (nat_eq a 1)
bit_number w a e h = by (one_bit w a e h)
  where
    by : (a ≡ 0) ⊎ (a ≡ 1) → a ≡ truth (nat_eq a 1)
    by (inl z) = subst (λ n. n ≡ truth (nat_eq n 1)) (sym z) refl
    by (inr o) = subst (λ n. n ≡ truth (nat_eq n 1)) (sym o) refl

pub compare_answers : (samesign : Bool) (p : Predicate) (w a b n : ℕ) (h pa pb : Bool) (m : Value) → h ≡ holds p w a b → n ≡ truth h
    → m ≡ flagged ((pa || pb) || (samesign && signs_differ w a b)) n → Answers false m (compare_of samesign p w (flagged pa a) (flagged pb b))
compare_answers samesign p w a b n h false false m e f g = by (samesign && signs_differ w a b) (g ∙ ap (flagged (samesign && signs_differ w a b)) (f ∙ ap truth e))
  where
    by : (t : Bool) → m ≡ flagged t (truth (holds p w a b)) → Answers false m (unless t (truth (holds p w a b)))
    by true e = (refl, e)
    by false e = (refl, e)
compare_answers samesign p w a b n h false true m e f g = (refl, g)
compare_answers samesign p w a b n h true false m e f g = (refl, g)
compare_answers samesign p w a b n h true true m e f g = (refl, g)

pub frozen : (p : Bool) (base x : ℕ) → Answers p (stands_for false base x) (freeze (stands_for p base x))
frozen true base x = refl
frozen false base x = by (nat_eq base 0) (nat_eq base 1)
  where
    by : (zero one : Bool) → Answers false (if zero then Number x else (if one then Null else Address (base - 2) x)) (freeze (if zero then Number x else (if one then Null else Address (base - 2) x)))
    by true one = (refl, refl)
    by false true = (refl, refl)
    by false false = (refl, refl)

pub assumed : (p : Bool) (base x : ℕ) → (p || (not (base == 0) || not (not (x == 0)))) ≡ not (assumes (stands_for p base x))
assumed true base x = refl
assumed false base x = by (nat_eq base 0) (nat_eq base 1)
  where
    by : (zero one : Bool) → (false || (not zero || not (not (x == 0)))) ≡ not (assumes (if zero then Number x else (if one then Null else Address (base - 2) x)))
    by true one = refl
    by false true = refl
    by false false = refl

-- the chosen value, or poison by the condition
pub selected : (pc : Bool) (dc xc : ℕ) (a b : Value) (s q r : Bool) (d e x y : ℕ) → s ≡ nat_eq (xc % 2 ^ 1) 1 → stands_for q d x ≡ (if s then a else b) → r ≡ (pc || q) → e ≡ d → y ≡ x
    → Answers false (stands_for r e y) (select (stands_for pc dc xc) a b)
selected pc dc xc a b s q r d e x y bit merged poison base bits =
    subst (λ z. Answers false z (select (stands_for pc dc xc) a b)) (sym (λ i. stands_for (poison i) (base i) (bits i))) (by pc)
  where
    zero : xc ≡ 0 → stands_for q d x ≡ b
    zero e = merged ∙ ap (λ t. if t then a else b) (bit ∙ ap (λ n. nat_eq (n % 2 ^ 1) 1) e)

    one : xc ≡ 1 → stands_for q d x ≡ a
    one e = merged ∙ ap (λ t. if t then a else b) (bit ∙ ap (λ n. nat_eq (n % 2 ^ 1) 1) e)

    number : (u w : Bool) → nat_eq xc 0 ≡ u → nat_eq xc 1 ≡ w → Answers false (stands_for q d x) (if u then Gives b else (if w then Gives a else Lost))
    number true w f g = (refl, zero (eqb-true xc 0 f))
    number false true f g = (refl, one (eqb-true xc 1 g))
    number false false f g = tt

    known : (u w : Bool) → Answers false (stands_for q d x) (select (if u then Number xc else (if w then Null else Address (dc - 2) xc)) a b)
    known true w = number (nat_eq xc 0) (nat_eq xc 1) refl refl
    known false true = tt
    known false false = tt

    by : (pc : Bool) → Answers false (stands_for (pc || q) d x) (select (stands_for pc dc xc) a b)
    by true = (refl, refl)
    by false = known (nat_eq dc 0) (nat_eq dc 1)

-- ---- changes of width

-- the low bits of a wider number are a number of its width
pub low_again : (w to a : ℕ) → is_narrower Trunc w to ≡ true → (a % 2 ^ to) % 2 ^ w ≡ a % 2 ^ to
low_again w to a narrow =
    let less : to < w = ltb-true to w narrow in
    mod-eq_of_lt (omega (arith, mod-lt a (pow_pos to), pow_mono {i = to} {j = w} (omega (arith, less))))

pub truncated : (f : Flags) (w to a : ℕ) (pa : Bool) (m : Value) → (a % 2 ^ to) % 2 ^ w ≡ a % 2 ^ to
    → m ≡ flagged ((pa || ((f.nuw && not (nat_eq ((a % 2 ^ to) % 2 ^ w) a)) || (f.nsw && not (nat_eq (sign_extend to w (a % 2 ^ to)) a)))) || false) (a % 2 ^ to)
    → Answers false m (convert_of f Trunc w to (flagged pa a))
truncated f w to a true m low e = (refl, e)
truncated f w to a false m low e =
    by ((f.nuw && not (nat_eq (a % 2 ^ to) a)) || (f.nsw && not (nat_eq (sign_extend to w (a % 2 ^ to)) a)))
    (e ∙ ap (λ k. flagged (((f.nuw && not (nat_eq k a)) || (f.nsw && not (nat_eq (sign_extend to w (a % 2 ^ to)) a))) || false) (a % 2 ^ to)) low)
  where
    by : (t : Bool) → m ≡ flagged (t || false) (a % 2 ^ to) → Answers false m (unless t (a % 2 ^ to))
    by true e = (refl, e)
    by false e = (refl, e)

pub extended : (f : Flags) (w to a : ℕ) (pa : Bool) (m : Value) → m ≡ flagged ((pa || false) || false) (sign_extend w to a) → Answers false m (convert_of f Sext w to (flagged pa a))
extended f w to a false m e = (refl, e)
extended f w to a true m e = (refl, e)

pub padded : (f : Flags) (w to a : ℕ) (pa : Bool) (m : Value) → m ≡ flagged ((pa || (f.nneg && bvslt w a 0)) || false) a → Answers false m (convert_of f Zext w to (flagged pa a))
padded f w to a true m e = (refl, e)
padded f w to a false m e = by (f.nneg && bvslt w a 0) e
  where
    by : (t : Bool) → m ≡ flagged ((false || t) || false) a → Answers false m (unless t a)
    by true h = (refl, h)
    by false h = (refl, h)

-- ---- overflow

pub overflow_answers : (kind : OverflowKind) (signed : Bool) (w part a b n : ℕ) (pa pb : Bool) (m : Value) → n ≡ (if part == 0 then wrapped kind w a b else truth (overflowed kind signed w a b))
    → m ≡ flagged ((pa || pb) || false) n → Answers false m (overflow_of kind signed w part (flagged pa a) (flagged pb b))
overflow_answers kind signed w part a b n false false m e f = (refl, f ∙ ap Number e)
overflow_answers kind signed w part a b n false true m e f = (refl, f)
overflow_answers kind signed w part a b n true false m e f = (refl, f)
overflow_answers kind signed w part a b n true true m e f = (refl, f)
