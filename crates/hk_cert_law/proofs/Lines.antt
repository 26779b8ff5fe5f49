-- Lines of a text that is written line by line.
use Rattle.std.proofs.Common.{◌≡◌, ℕ, suc, ◌+◌, Bool, true, false, not, ◌==◌, cond, eqb, List, [], ◌∷◌, ◌++◌, refl, ◌∙◌, ap, arith}
use Rattle.std.proofs.lemmas.Bool.{cond-false, and_parts, and_from, not-true}
use Rattle.std.proofs.lemmas.List.{append_assoc}
use Rattle.std.specs.List.{list_all, concat}
use Rattle.hk_cnf.specs.Text.{lines_of, with_first}
use Rattle.hk_rows.specs.Texts.{line}
use Rattle.hk_cert_law.specs.Entries.{newlines}

-- no byte is a newline
abbrev pub is_inner : ℕ → Bool
is_inner b = not (b == 10)

abbrev pub is_one_line : List ℕ → Bool
is_one_line text = list_all is_inner text

pub all_append : {X : Type 0} (test : X → Bool) (a b : List X) → list_all test a ≡ true → list_all test b ≡ true → list_all test (a ++ b) ≡ true
all_append test [] b p q = q
all_append test (x ∷ a) b p q =
    let parts = and_parts (test x) (list_all test a) p in
    and_from (test x) (list_all test (a ++ b)) parts.0 (all_append test a b parts.1 q)

pub all_weaker : {X : Type 0} (strong weak : X → Bool) → ((x : X) → strong x ≡ true → weak x ≡ true) → (a : List X) → list_all strong a ≡ true → list_all weak a ≡ true
all_weaker strong weak f [] p = refl
all_weaker strong weak f (x ∷ a) p =
    let parts = and_parts (strong x) (list_all strong a) p in
    and_from (weak x) (list_all weak a) (f x parts.0) (all_weaker strong weak f a parts.1)

pub lines_put : (text rest : List ℕ) → is_one_line text ≡ true → lines_of (text ++ 10 ∷ rest) ≡ text ∷ lines_of rest
lines_put [] rest h = refl
lines_put (b ∷ text) rest h =
    let parts = and_parts (is_inner b) (is_one_line text) h in
    cond-false (eqb b 10) ([] ∷ lines_of (text ++ 10 ∷ rest)) (with_first b (lines_of (text ++ 10 ∷ rest))) (not-true (eqb b 10) parts.0)
    ∙ ap (with_first b) (lines_put text rest parts.1)

pub newlines_put : (text rest : List ℕ) → is_one_line text ≡ true → newlines (text ++ 10 ∷ rest) ≡ suc (newlines rest)
newlines_put [] rest h = refl
newlines_put (b ∷ text) rest h =
    let parts = and_parts (is_inner b) (is_one_line text) h in
    cond-false (eqb b 10) (suc (newlines (text ++ 10 ∷ rest))) (newlines (text ++ 10 ∷ rest)) (not-true (eqb b 10) parts.0)
    ∙ newlines_put text rest parts.1

pub newlines_append : (a b : List ℕ) → newlines (a ++ b) ≡ newlines a + newlines b
newlines_append [] b = omega arith
newlines_append (x ∷ a) b = by (eqb x 10) (newlines_append a b)
  where
    by : (t : Bool) → newlines (a ++ b) ≡ newlines a + newlines b → cond t (suc (newlines (a ++ b))) (newlines (a ++ b)) ≡ cond t (suc (newlines a)) (newlines a) + newlines b
    by true h = omega (arith, h)
    by false h = h

module _ (pieces : List (List ℕ)) (inner : is_one_line (concat pieces) ≡ true) where
  pub line_lines : (rest : List ℕ) → lines_of (line pieces ++ rest) ≡ concat pieces ∷ lines_of rest
  line_lines rest = ap lines_of (append_assoc (concat pieces) (10 ∷ []) rest) ∙ lines_put (concat pieces) rest inner

  pub line_newlines : newlines (line pieces) ≡ 1
  line_newlines = newlines_put (concat pieces) [] inner

-- ---- texts of one line

-- the text is one line, of which a reader says this
pub record Says {A : Type 0} (text : List ℕ) (says : List ℕ → A) (answer : A) : Type 0 where
  pub line : List ℕ
  pub inner : is_one_line line ≡ true
  pub ended : text ≡ line ++ 10 ∷ []
  pub answers : says line ≡ answer

pub says_line : {A : Type 0} (pieces : List (List ℕ)) (says : List ℕ → A) (answer : A) → is_one_line (concat pieces) ≡ true → says (concat pieces) ≡ answer → Says (line pieces) says answer
says_line pieces says answer inner answers = record { line = concat pieces; inner = inner; ended = refl; answers = answers }

module _ {A : Type 0} {text : List ℕ} {says : List ℕ → A} {answer : A} (s : Says text says answer) where
  pub says_first : (rest : List ℕ) → lines_of (text ++ rest) ≡ s.line ∷ lines_of rest
  says_first rest = ap (λ t. lines_of (t ++ rest)) s.ended ∙ ap lines_of (append_assoc s.line (10 ∷ []) rest) ∙ lines_put s.line rest s.inner

  pub says_one : newlines text ≡ 1
  says_one = ap newlines s.ended ∙ newlines_put s.line [] s.inner
