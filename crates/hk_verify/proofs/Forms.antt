-- Words by their places.

use Rattle.std.proofs.Common.{ℕ, zero, suc, ◌+◌, ◌<◌, ◌≤◌, ◌-◌, ◌≡◌, inr, Option, Some, None, IfSome, List, [], ◌∷◌, ◌++◌, length, length-append, map, take, drop, slice_index_or, codes, String, Global, string_bytes, refl, ap, sym, ◌∙◌, subst, arith}
use Rattle.std.specs.Fmt.{decimal}
use Rattle.std.proofs.lemmas.List.{take_all}
use Rattle.std.specs.List.{take-map}
use Rattle.std.proofs.lemmas.List.{length-map, get_or-map, map-append}
use Rattle.hk_verify.specs.Words.{AllowConflicts, AsksFor, IsBench, IsCertifying, IsVerify, most_conflicts}

-- A list of three is its first, second and third.
three : {A : Type 0} (xs : List A) (a b c : A) → 3 ≤ length xs → length xs < 4
    → a ≡ slice_index_or xs 0 a → b ≡ slice_index_or xs 1 b → c ≡ slice_index_or xs 2 c → xs ≡ a ∷ b ∷ c ∷ []
three [] a b c long short first second third = absurd (omega (arith, long))
three (x ∷ []) a b c long short first second third = absurd (omega (arith, long))
three (x ∷ y ∷ []) a b c long short first second third = absurd (omega (arith, long))
three (x ∷ y ∷ z ∷ []) a b c long short first second third =
    sym (ap (λ v. v ∷ b ∷ c ∷ []) first ∙ ap (λ v. x ∷ v ∷ c ∷ []) second ∙ ap (λ v. x ∷ y ∷ v ∷ []) third)
three (x ∷ y ∷ z ∷ w ∷ xs) a b c long short first second third = absurd (omega (arith, short))

-- A list of two is its first and second.
two : {A : Type 0} (xs : List A) (a b : A) → 2 ≤ length xs → length xs < 3 → a ≡ slice_index_or xs 0 a → b ≡ slice_index_or xs 1 b → xs ≡ a ∷ b ∷ []
two [] a b long short first second = absurd (omega (arith, long))
two (x ∷ []) a b long short first second = absurd (omega (arith, long))
two (x ∷ y ∷ []) a b long short first second = sym (ap (λ v. v ∷ b ∷ []) first ∙ ap (λ v. x ∷ v ∷ []) second)
two (x ∷ y ∷ z ∷ xs) a b long short first second = absurd (omega (arith, short))

-- Two words, of which the second is the digits of a number.
and_number : (words : List (String Global)) (a b : String Global) (command word : List ℕ) (n : ℕ) → 2 ≤ length words → length words < 3
    → a ≡ slice_index_or words 0 a → b ≡ slice_index_or words 1 b → string_bytes a ≡ command → word ≡ string_bytes b → word ≡ decimal n
    → map string_bytes words ≡ command ∷ decimal n ∷ []
and_number words a b command word n long short first second is_command is_word spelled =
    ap (map string_bytes) (two words a b long short first second) ∙ ap (λ v. v ∷ string_bytes b ∷ []) is_command ∙ ap (λ v. command ∷ v ∷ []) (sym is_word ∙ spelled)

-- The option of conflicts.
pub named : (options : List (String Global)) (a b : String Global) (word : List ℕ) (r : Option ℕ) → 2 ≤ length options → length options < 3
    → a ≡ slice_index_or options 0 a → b ≡ slice_index_or options 1 b → string_bytes a ≡ codes "--conflicts" → word ≡ string_bytes b
    → IfSome r (λ n. word ≡ decimal n) → IfSome r (λ n. 1 ≤ n) → IfSome r (λ n. n ≤ most_conflicts) → IfSome r (AllowConflicts (map string_bytes options))
named options a b word None long short first second option number spelled some most = tt
named options a b word (Some n) long short first second option number spelled some most =
    inr (record { form = and_number options a b (codes "--conflicts") word n long short first second option number spelled; some = some; most = most })

-- The words of `bench`.
pub bench_words : (words : List (String Global)) (a b : String Global) (word : List ℕ) (r : Option ℕ) → 2 ≤ length words → length words < 3
    → a ≡ slice_index_or words 0 a → b ≡ slice_index_or words 1 b → string_bytes a ≡ codes "bench" → word ≡ string_bytes b
    → IfSome r (λ n. word ≡ decimal n) → IfSome r (λ n. 1 ≤ n) → IfSome r (λ n. n ≤ 64) → IfSome r (IsBench (map string_bytes words))
bench_words words a b word None long short first second command number spelled some few = tt
bench_words words a b word (Some n) long short first second command number spelled some few =
    record { form = and_number words a b (codes "bench") word n long short first second command number spelled; some = some; few = few }

-- The bytes of three words.
pub three_words : (words : List (String Global)) (a b c : String Global) (command kernel spec : List ℕ) → 3 ≤ length words → length words < 4
    → a ≡ slice_index_or words 0 a → b ≡ slice_index_or words 1 b → c ≡ slice_index_or words 2 c
    → string_bytes a ≡ command → kernel ≡ string_bytes b → spec ≡ string_bytes c → map string_bytes words ≡ command ∷ kernel ∷ spec ∷ []
three_words words a b c command kernel spec long short first second third is_command is_kernel is_spec =
    ap (map string_bytes) (three words a b c long short first second third)
    ∙ ap (λ v. v ∷ string_bytes b ∷ string_bytes c ∷ []) is_command ∙ ap (λ v. command ∷ v ∷ string_bytes c ∷ []) (sym is_kernel)
    ∙ ap (λ v. command ∷ kernel ∷ v ∷ []) (sym is_spec)

-- A list of four is its first to its fourth.
four : {A : Type 0} (xs : List A) (a b c d : A) → 4 ≤ length xs → length xs < 5
    → a ≡ slice_index_or xs 0 a → b ≡ slice_index_or xs 1 b → c ≡ slice_index_or xs 2 c → d ≡ slice_index_or xs 3 d → xs ≡ a ∷ b ∷ c ∷ d ∷ []
four [] a b c d long short first second third fourth = absurd (omega (arith, long))
four (x ∷ []) a b c d long short first second third fourth = absurd (omega (arith, long))
four (x ∷ y ∷ []) a b c d long short first second third fourth = absurd (omega (arith, long))
four (x ∷ y ∷ z ∷ []) a b c d long short first second third fourth = absurd (omega (arith, long))
four (x ∷ y ∷ z ∷ w ∷ []) a b c d long short first second third fourth =
    sym (ap (λ v. v ∷ b ∷ c ∷ d ∷ []) first ∙ ap (λ v. x ∷ v ∷ c ∷ d ∷ []) second ∙ ap (λ v. x ∷ y ∷ v ∷ d ∷ []) third ∙ ap (λ v. x ∷ y ∷ z ∷ v ∷ []) fourth)
four (x ∷ y ∷ z ∷ w ∷ v ∷ xs) a b c d long short first second third fourth = absurd (omega (arith, short))

-- The bytes of four words.
pub four_words : (words : List (String Global)) (a b c d : String Global) (command kernel spec cert : List ℕ) → 4 ≤ length words → length words < 5
    → a ≡ slice_index_or words 0 a → b ≡ slice_index_or words 1 b → c ≡ slice_index_or words 2 c → d ≡ slice_index_or words 3 d
    → string_bytes a ≡ command → kernel ≡ string_bytes b → spec ≡ string_bytes c → cert ≡ string_bytes d → map string_bytes words ≡ command ∷ kernel ∷ spec ∷ cert ∷ []
four_words words a b c d command kernel spec cert long short first second third fourth is_command is_kernel is_spec is_cert =
    ap (map string_bytes) (four words a b c d long short first second third fourth)
    ∙ ap (λ v. v ∷ string_bytes b ∷ string_bytes c ∷ string_bytes d ∷ []) is_command ∙ ap (λ v. command ∷ v ∷ string_bytes c ∷ string_bytes d ∷ []) (sym is_kernel)
    ∙ ap (λ v. command ∷ kernel ∷ v ∷ string_bytes d ∷ []) (sym is_spec) ∙ ap (λ v. command ∷ kernel ∷ spec ∷ v ∷ []) (sym is_cert)

-- The bytes of three words and those behind them.
pub words_behind : (words : List (String Global)) (a b c : String Global) (command kernel function : List ℕ) → 3 ≤ length words
    → a ≡ slice_index_or words 0 a → b ≡ slice_index_or words 1 b → c ≡ slice_index_or words 2 c
    → string_bytes a ≡ command → kernel ≡ string_bytes b → function ≡ string_bytes c
    → map string_bytes words ≡ command ∷ kernel ∷ function ∷ map string_bytes (take (length words - 3) (drop 3 words))
words_behind [] a b c command kernel function long first second third is_command is_kernel is_function = absurd (omega (arith, long))
words_behind (x ∷ []) a b c command kernel function long first second third is_command is_kernel is_function = absurd (omega (arith, long))
words_behind (x ∷ y ∷ []) a b c command kernel function long first second third is_command is_kernel is_function = absurd (omega (arith, long))
words_behind (x ∷ y ∷ z ∷ rest) a b c command kernel function long first second third is_command is_kernel is_function =
    let most = length (x ∷ y ∷ z ∷ rest) - 3 in
    let all : take most rest ≡ rest = take_all most rest (omega arith) in
    let behind = map string_bytes (take most rest) in
    ap (λ (l : List (String Global)). string_bytes x ∷ string_bytes y ∷ string_bytes z ∷ map string_bytes l) (sym all)
    ∙ ap (λ v. v ∷ string_bytes y ∷ string_bytes z ∷ behind) (ap string_bytes (sym first) ∙ is_command)
    ∙ ap (λ v. command ∷ v ∷ string_bytes z ∷ behind) (ap string_bytes (sym second) ∙ sym is_kernel)
    ∙ ap (λ v. command ∷ kernel ∷ v ∷ behind) (ap string_bytes (sym third) ∙ sym is_function)

-- The words of `verify` name two files, and the others are its options.
pub verify_words : (words : List (String Global)) (a b c : String Global) (kernel spec : List ℕ) (budget : ℕ) → 3 ≤ length words
    → a ≡ slice_index_or words 0 a → b ≡ slice_index_or words 1 b → c ≡ slice_index_or words 2 c
    → string_bytes a ≡ codes "verify" → kernel ≡ string_bytes b → spec ≡ string_bytes c
    → AllowConflicts (map string_bytes (take (length words - 3) (drop 3 words))) budget → IsVerify (map string_bytes words) kernel spec budget
verify_words words a b c kernel spec budget long first second third is_command is_kernel is_spec allowed = record {
  options = map string_bytes (take (length words - 3) (drop 3 words));
  form = words_behind words a b c (codes "verify") kernel spec long first second third is_command is_kernel is_spec;
  allowed = allowed;
}

-- What stands behind three words.
past_three : List (List ℕ) → List (List ℕ)
past_three [] = []
past_three (x ∷ []) = []
past_three (x ∷ y ∷ []) = []
past_three (x ∷ y ∷ z ∷ rest) = rest

-- Words of `verify` have options.
pub not_allowed : (words : List (String Global)) (a b c : String Global) (kernel spec : List ℕ) (budget : ℕ) → 3 ≤ length words
    → a ≡ slice_index_or words 0 a → b ≡ slice_index_or words 1 b → c ≡ slice_index_or words 2 c
    → ((n : ℕ) → AllowConflicts (map string_bytes (take (length words - 3) (drop 3 words))) n → ⊥) → IsVerify (map string_bytes words) kernel spec budget → ⊥
unfolding past_three
not_allowed words a b c kernel spec budget long first second third never is =
    let behind = words_behind words a b c (string_bytes a) (string_bytes b) (string_bytes c) long first second third refl refl refl in
    never budget (subst (λ options. AllowConflicts options budget) (ap past_three (sym is.form ∙ behind)) is.allowed)

-- Another first word is another command.
first_or : List (List ℕ) → List ℕ
first_or [] = []
first_or (x ∷ xs) = x

pub first_word : (words : List (String Global)) (word : String Global) (a : List ℕ) (rest : List (List ℕ)) → 1 ≤ length words → word ≡ slice_index_or words 0 word
    → map string_bytes words ≡ a ∷ rest → string_bytes word ≡ a
unfolding first_or
first_word [] word a rest some there same = absurd (omega (arith, some))
first_word (x ∷ xs) word a rest some there same = ap string_bytes there ∙ ap first_or same

pub other_command : (words : List (String Global)) (word : String Global) (a b c : List ℕ) → 3 ≤ length words → word ≡ slice_index_or words 0 word
    → map string_bytes words ≡ a ∷ b ∷ c ∷ [] → string_bytes word ≡ a
unfolding first_or
other_command [] word a b c some there same = absurd (omega (arith, some))
other_command (x ∷ xs) word a b c some there same = ap string_bytes there ∙ ap first_or same

-- ---- the option of a certificate

-- A list is what stands before its last two, and these.
ends_at : {A : Type 0} (xs : List A) (n : ℕ) (a b : A) → length xs ≡ n + 2 → a ≡ slice_index_or xs n a → b ≡ slice_index_or xs (suc n) b → xs ≡ take n xs ++ a ∷ b ∷ []
ends_at [] n a b long first second = absurd (omega (arith, long))
ends_at (x ∷ []) n a b long first second = absurd (omega (arith, long))
ends_at (x ∷ y ∷ []) zero a b long first second = sym (ap (λ v. v ∷ b ∷ []) first ∙ ap (λ v. x ∷ v ∷ []) second)
ends_at (x ∷ y ∷ z ∷ xs) zero a b long first second = absurd (omega (arith, long))
ends_at (x ∷ y ∷ xs) (suc n) a b long first second = ap (λ l. x ∷ l) (ends_at (y ∷ xs) n a b (omega (arith, long)) first second)

ends : {A : Type 0} (xs : List A) (a b : A) → 2 ≤ length xs → a ≡ slice_index_or xs (length xs - 2) a → b ≡ slice_index_or xs (length xs - 1) b → xs ≡ take (length xs - 2) xs ++ a ∷ b ∷ []
ends xs a b long first second = ends_at xs (length xs - 2) a b (omega (arith, long)) first (subst (λ k. b ≡ slice_index_or xs k b) (one_on (length xs) long) second)
  where
    one_on : (n : ℕ) → 2 ≤ n → n - 1 ≡ suc (n - 2)
    one_on n long = omega (arith, long)

-- The place of the last two behind others.
last_but_one : (front : List (List ℕ)) (a b : List ℕ) → slice_index_or (front ++ a ∷ b ∷ []) (length (front ++ a ∷ b ∷ []) - 2) [] ≡ a
last_but_one [] a b = refl
last_but_one (x ∷ []) a b = refl
last_but_one (x ∷ y ∷ front) a b = ap (λ n. slice_index_or (x ∷ y ∷ front ++ a ∷ b ∷ []) n []) (one_less (length-append front (a ∷ b ∷ []))) ∙ last_but_one (y ∷ front) a b
  where
    one_less : length (front ++ a ∷ b ∷ []) ≡ length front + 2 → length (x ∷ y ∷ front ++ a ∷ b ∷ []) - 2 ≡ suc (length (y ∷ front ++ a ∷ b ∷ []) - 2)
    one_less long = omega (arith, long)

before_last : (front : List (List ℕ)) (a b : List ℕ) → take (length (front ++ a ∷ b ∷ []) - 2) (front ++ a ∷ b ∷ []) ≡ front
before_last front a b = ap (λ n. take n (front ++ a ∷ b ∷ [])) (omega (arith, length-append front (a ∷ b ∷ []))) ∙ take_front front (a ∷ b ∷ [])
  where
    take_front : (xs ys : List (List ℕ)) → take (length xs) (xs ++ ys) ≡ xs
    take_front [] ys = refl
    take_front (x ∷ xs) ys = ap (λ l. x ∷ l) (take_front xs ys)

pub asks_for : (options : List (String Global)) (a b : String Global) (budget : ℕ) (cert : List ℕ) → 2 ≤ length options → a ≡ slice_index_or options (length options - 2) a → b ≡ slice_index_or options (length options - 1) b
    → string_bytes a ≡ codes "--cert" → cert ≡ string_bytes b → AllowConflicts (map string_bytes (take (length options - 2) options)) budget → AsksFor (map string_bytes options) budget cert
asks_for options a b budget cert long first second is_option is_cert allowed = record {
  front = map string_bytes (take (length options - 2) options);
  form = ap (map string_bytes) (ends options a b long first second) ∙ map-append string_bytes (take (length options - 2) options) (a ∷ b ∷ [])
      ∙ ap (λ v. map string_bytes (take (length options - 2) options) ++ v ∷ string_bytes b ∷ []) is_option
      ∙ ap (λ v. map string_bytes (take (length options - 2) options) ++ codes "--cert" ∷ v ∷ []) (sym is_cert);
  allowed = allowed;
}

-- The last two words of options that ask for a certificate.
pub asked_front : (options : List (String Global)) (budget : ℕ) (cert : List ℕ) (asked : AsksFor (map string_bytes options) budget cert) → map string_bytes (take (length options - 2) options) ≡ asked.front
asked_front options budget cert asked =
    sym (take-map string_bytes (length options - 2) options) ∙ ap (λ n. take (n - 2) (map string_bytes options)) (sym (length-map options string_bytes))
    ∙ ap (λ l. take (length l - 2) l) asked.form ∙ before_last asked.front (codes "--cert") cert

pub asked_long : (options : List (String Global)) (budget : ℕ) (cert : List ℕ) → AsksFor (map string_bytes options) budget cert → 2 ≤ length options
asked_long options budget cert asked =
    omega (arith, sym (length-map options string_bytes) ∙ ap length asked.form ∙ length-append asked.front (codes "--cert" ∷ cert ∷ []))

pub asked_option : (options : List (String Global)) (a : String Global) (budget : ℕ) (cert : List ℕ) → 2 ≤ length options → a ≡ slice_index_or options (length options - 2) a → AsksFor (map string_bytes options) budget cert → string_bytes a ≡ codes "--cert"
asked_option options a budget cert long there asked =
    ap string_bytes there ∙ sym (get_or-map string_bytes options (length options - 2) a [] (omega (arith, long))) ∙ ap (λ n. slice_index_or (map string_bytes options) (n - 2) []) (sym (length-map options string_bytes))
    ∙ ap (λ l. slice_index_or l (length l - 2) []) asked.form ∙ last_but_one asked.front (codes "--cert") cert

-- The words of `verify` with a certificate.
pub certifying_words : (words : List (String Global)) (a b c : String Global) (kernel spec cert : List ℕ) (budget : ℕ) → 3 ≤ length words
    → a ≡ slice_index_or words 0 a → b ≡ slice_index_or words 1 b → c ≡ slice_index_or words 2 c
    → string_bytes a ≡ codes "verify" → kernel ≡ string_bytes b → spec ≡ string_bytes c
    → AsksFor (map string_bytes (take (length words - 3) (drop 3 words))) budget cert → IsCertifying (map string_bytes words) kernel spec budget cert
certifying_words words a b c kernel spec cert budget long first second third is_command is_kernel is_spec asked = record {
  options = map string_bytes (take (length words - 3) (drop 3 words));
  form = words_behind words a b c (codes "verify") kernel spec long first second third is_command is_kernel is_spec;
  asked = asked;
}

pub not_certifying : (words : List (String Global)) (a b c : String Global) (kernel spec : List ℕ) (budget : ℕ) (cert : List ℕ) → 3 ≤ length words
    → a ≡ slice_index_or words 0 a → b ≡ slice_index_or words 1 b → c ≡ slice_index_or words 2 c
    → ((n : ℕ) (name : List ℕ) → AsksFor (map string_bytes (take (length words - 3) (drop 3 words))) n name → ⊥) → IsCertifying (map string_bytes words) kernel spec budget cert → ⊥
unfolding past_three
not_certifying words a b c kernel spec budget cert long first second third never is =
    let behind = words_behind words a b c (string_bytes a) (string_bytes b) (string_bytes c) long first second third refl refl refl in
    never budget cert (subst (λ options. AsksFor options budget cert) (ap past_three (sym is.form ∙ behind)) is.asked)
