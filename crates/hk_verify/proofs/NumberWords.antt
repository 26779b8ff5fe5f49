-- Words that are the decimal digits of numbers.

use Rattle.std.proofs.Common.{ℕ, zero, suc, ◌≡◌, ◌<◌, ◌≤◌, ◌+◌, ◌^◌, Bool, true, false, Option, Some, None, Result, Ok, Err, List, [], ◌∷◌, ◌++◌, length, map, take, get_or, refl, sym, ◌∙◌, ap, subst, arith}
use Rattle.std.specs.Prelude.{All, bytes_eq, slice_index_or, String, string_bytes, IfSome, IfNone, is_some, codes}
use Rattle.std.specs.declared.alloc.Global.{Global}
use Rattle.std.specs.Fmt.{decimal}
use Rattle.std.specs.Str.Parse.{ParsesUnsigned}
use Rattle.std.proofs.lemmas.Fmt.{decimal_injective, parse-decimal}
use Rattle.std.proofs.lemmas.Slice.Eq.{bytes_eq-Decides}
use Rattle.std.proofs.lemmas.List.{take_more, take_all, length-map, get_or-map, map-append}
use Rattle.std.proofs.lemmas.List.Elements.{All-append}
use Rattle.hk_verify.specs.Words.{AreNumbers, HasNoForm, IsBench, bytes_of}

-- What is parsed of the digits of a number.
pub parsed : {E : Type 0} (word : List ℕ) (r : Result ℕ E) (n : ℕ) → ParsesUnsigned 64 10 word r → n < 2 ^ 64 → word ≡ decimal n → r ≡ Ok n
parsed word r n h small is = parse-decimal 64 n word r small small is h

pub not_spelled : {E : Type 0} (word : List ℕ) (r : Result ℕ E) (m : ℕ) (b : Bool) → ParsesUnsigned 64 10 word r → r ≡ Ok m → b ≡ bytes_eq word (decimal m) → b ≡ false → (n : ℕ) → n < 2 ^ 64 → word ≡ decimal n → ⊥
not_spelled word r m b h ok is wrong n small spelled =
    let same : word ≡ decimal m = spelled ∙ ap decimal (sym (ok_same r m n ok (parsed word r n h small spelled))) in
    clash (sym (sym is ∙ wrong) ∙ (bytes_eq-Decides word (decimal m)).1 same)
  where
    ok_same : {E : Type 0} (r : Result ℕ E) (m n : ℕ) → r ≡ Ok m → r ≡ Ok n → m ≡ n
    ok_same r m n p q = cc

    clash : false ≡ true → ⊥
    clash e = cc

pub not_parsed : {E : Type 0} (word : List ℕ) (r : Result ℕ E) (e : E) → ParsesUnsigned 64 10 word r → r ≡ Err e → (n : ℕ) → n < 2 ^ 64 → word ≡ decimal n → ⊥
not_parsed word r e h err n small spelled = clash (sym (parsed word r n h small spelled) ∙ err)
  where
    clash : {E : Type 0} {n : ℕ} {e : E} → Ok n ≡ Err e → ⊥
    clash e = cc

-- A word is the digits of one number.
pub numbers_agree : (word : List ℕ) (m n most : ℕ) → word ≡ decimal m → m < 2 ^ 64 → most < 2 ^ 64 → n ≤ most → word ≡ decimal n → m ≡ n
numbers_agree word m n most is small fits below also = decimal_injective m n small (omega (arith, fits, below)) (sym is ∙ also)

-- The word at a place of the words.
pub word_at : (words : List (String Global)) (i : ℕ) (word : String Global) (numbers : List ℕ) → i < length words → word ≡ slice_index_or words i word → bytes_of words ≡ map decimal numbers
    → (i < length numbers) × (string_bytes word ≡ decimal (get_or numbers i 0))
word_at words i word numbers within there spelled =
    let a = length-map words string_bytes in
    let b = length-map numbers decimal in
    let same = ap (λ (l : List (List ℕ)). length l) spelled in
    let inside : i < length numbers = omega (arith, within, a, b, same) in
    (inside, ap string_bytes there ∙ sym (get_or-map string_bytes words i word [] within) ∙ ap (λ l. get_or l i []) spelled ∙ get_or-map decimal numbers i 0 [] inside)

pub as_many : (words : List (String Global)) (numbers : List ℕ) → bytes_of words ≡ map decimal numbers → length words ≡ length numbers
as_many words numbers spelled = sym (length-map words string_bytes) ∙ ap (λ (l : List (List ℕ)). length l) spelled ∙ length-map numbers decimal

-- ---- all words of a list

-- No word yet.
pub no_words : AreNumbers []
no_words = record { numbers = []; spelled = refl; small = λ k d l. absurd (omega (arith, l)) }

All-one : (P : ℕ → Type 0) (x : ℕ) → P x → All P (x ∷ [])
All-one P x h zero d l = h
All-one P x h (suc k) d l = absurd (omega (arith, l))

small_more : (ns : List ℕ) (n : ℕ) → All (λ n. n < 2 ^ 64) ns → n < 2 ^ 64 → All (λ n. n < 2 ^ 64) (ns ++ n ∷ [])
small_more ns n all one = All-append (λ n. n < 2 ^ 64) ns (n ∷ []) all (All-one (λ n. n < 2 ^ 64) n one)

-- One more word.
pub one_more : (words : List (String Global)) (i : ℕ) (word : String Global) (text : List ℕ) (r : Option ℕ) → i < length words → word ≡ slice_index_or words i word → text ≡ string_bytes word → is_some r ≡ true
    → IfSome r (λ n. text ≡ decimal n) → IfSome r (λ n. n < 2 ^ 64) → AreNumbers (bytes_of (take i words)) → AreNumbers (bytes_of (take (i + 1) words))
one_more words i word text None within there is some spelled small before = absurd (cc some)
one_more words i word text (Some n) within there is some spelled small before = record {
  numbers = before.numbers ++ n ∷ [];
  spelled = ap bytes_of (take_more words i word within) ∙ map-append string_bytes (take i words) (slice_index_or words i word ∷ [])
      ∙ ap (λ (l : List (List ℕ)). l ++ string_bytes (slice_index_or words i word) ∷ []) before.spelled
      ∙ ap (λ (w : List ℕ). map decimal before.numbers ++ w ∷ []) (ap string_bytes (sym there) ∙ sym is ∙ spelled)
      ∙ sym (map-append decimal before.numbers (n ∷ []));
  small = small_more before.numbers n before.small small;
}

pub all_words : (words : List (String Global)) (i : ℕ) → length words ≤ i → AreNumbers (bytes_of (take i words)) → AreNumbers (bytes_of words)
all_words words i past before = subst (λ (l : List (String Global)). AreNumbers (bytes_of l)) (take_all i words past) before

-- A word that is none.
pub not_all : (words : List (String Global)) (i : ℕ) (word : String Global) (text : List ℕ) (r : Option ℕ) → i < length words → word ≡ slice_index_or words i word → text ≡ string_bytes word → is_some r ≡ false
    → IfNone r ((n : ℕ) → n < 2 ^ 64 → text ≡ decimal n → ⊥) → AreNumbers (bytes_of words) → ⊥
not_all words i word text (Some n) within there is missing never all = absurd (cc missing)
not_all words i word text None within there is missing never all =
    let at = word_at words i word all.numbers within there all.spelled in
    never (get_or all.numbers i 0) (all.small i 0 at.0) (is ∙ at.1)

-- ---- the numbers of words

pub number_more : (words : List (String Global)) (i : ℕ) (word : String Global) (text : List ℕ) (n : ℕ) (old : List ℕ) (numbers : List ℕ) → i < length words → word ≡ slice_index_or words i word → text ≡ string_bytes word
    → ((n' : ℕ) → n' < 2 ^ 64 → text ≡ decimal n' → n ≡ n') → bytes_of words ≡ map decimal numbers → All (λ n. n < 2 ^ 64) numbers → old ≡ take i numbers → old ++ n ∷ [] ≡ take (i + 1) numbers
number_more words i word text n old numbers within there is_text value spelled small so_far =
    let at = word_at words i word numbers within there spelled in
    let is : n ≡ get_or numbers i 0 = value (get_or numbers i 0) (small i 0 at.0) (is_text ∙ at.1) in
    ap (λ (l : List ℕ). l ++ n ∷ []) so_far ∙ ap (λ m. take i numbers ++ m ∷ []) is ∙ sym (take_more numbers i 0 at.0)

pub number_all : (words : List (String Global)) (i : ℕ) (old numbers : List ℕ) → length words ≤ i → bytes_of words ≡ map decimal numbers → old ≡ take i numbers → old ≡ numbers
number_all words i old numbers past spelled so_far =
    let same = as_many words numbers spelled in
    so_far ∙ take_all i numbers (omega (arith, past, same))

-- Words of `run` have a form.
pub has_form : (words texts : List (List ℕ)) (kernel function : List ℕ) → words ≡ codes "run" ∷ kernel ∷ function ∷ texts → AreNumbers texts → HasNoForm words → ⊥
has_form words texts kernel function form numbers none =
    none.no_run kernel function numbers.numbers (record { form = form ∙ ap (λ (l : List (List ℕ)). codes "run" ∷ kernel ∷ function ∷ l) numbers.spelled; numbers = numbers.small })

-- Words of `bench` have one number.
second : List (List ℕ) → List ℕ
second (a ∷ b ∷ words) = b
second (a ∷ []) = []
second [] = []

pub one_size : (words : List (List ℕ)) (n m : ℕ) → IsBench words n → IsBench words m → n ≡ m
unfolding second
one_size words n m one other =
    let few = one.few in
    let also = other.few in
    decimal_injective n m (omega (arith, few)) (omega (arith, also)) (ap second (sym one.form ∙ other.form))
