-- Readers take the lines of a text, one behind another.
use Rattle.std.proofs.Common.{◌≡◌, ℕ, ◌+◌, List, [], ◌++◌, Ok, sym, ◌∙◌, ap, arith}
use Rattle.std.proofs.lemmas.List.{append_assoc}
use Rattle.std.specs.Prelude.{Result}
use Rattle.hk_cnf.specs.Text.{lines_of}
use Rattle.hk_cert_lines.specs.declared.reason.CertReason.{CertReason}
use Rattle.hk_cert.specs.Steps.{Place, Reading, and_then, judged, first_says, line_at}
use Rattle.hk_cert_law.specs.Entries.{newlines}
use Rattle.hk_cert_law.proofs.Lines.{newlines_append, Says, says_first, says_one}

-- where such a text is ahead, the reader takes this text and comes to this
pub record Takes {A : Type 0} (Ahead : List ℕ → Type 0) (text : List ℕ) (reader : Place → Reading A) (x : A) : Type 0 where
  pub takes : (n : ℕ) (rest : List ℕ) → Ahead rest → reader (record { next = n; lines = lines_of (text ++ rest) }) ≡ Ok (x, record { next = n + newlines text; lines = lines_of rest })

abbrev pub AnyText : List ℕ → Type 0
AnyText rest = Unit {0}

pub line_takes : {A : Type 0} (Ahead : List ℕ → Type 0) (text : List ℕ) (says : List ℕ → Result A CertReason) (x : A) → Says text says (Ok x) → Takes Ahead text (line_at says) x
line_takes Ahead text says x s = record {
  takes = λ n rest ahead.
      ap (first_says says n) (says_first s rest) ∙ ap (judged n (lines_of rest)) s.answers
      ∙ ap (λ k. Ok (x, record { next = n + k; lines = lines_of rest })) (sym (says_one s));
}

pub then_takes : {A B : Type 0} (Before After : List ℕ → Type 0) (a b : List ℕ) (first : Place → Reading A) (second : A → Place → Reading B) (x : A) (y : B)
    → Takes Before a first x → Takes After b (second x) y → ((rest : List ℕ) → After rest → Before (b ++ rest)) → Takes After (a ++ b) (λ p. and_then (first p) second) y
then_takes Before After a b first second x y f s passes = record {
  takes = λ n rest ahead.
      let count : (n + newlines a) + newlines b ≡ n + newlines (a ++ b) = omega (arith, newlines_append a b) in
      ap (λ t. and_then (first (record { next = n; lines = lines_of t })) second) (append_assoc a b rest)
      ∙ ap (λ r. and_then r second) (f.takes n (b ++ rest) (passes rest ahead))
      ∙ s.takes (n + newlines a) rest ahead
      ∙ ap (λ k. Ok (y, record { next = k; lines = lines_of rest })) count;
}

-- nothing is taken
pub none_takes : {A : Type 0} (Ahead : List ℕ → Type 0) (reader : Place → Reading A) (x : A) → ((p : Place) → reader p ≡ Ok (x, p)) → Takes Ahead [] reader x
none_takes Ahead reader x is = record {
  takes = λ n rest ahead.
      let count : n ≡ n + 0 = omega arith in
      is (record { next = n; lines = lines_of rest }) ∙ ap (λ k. Ok (x, record { next = k; lines = lines_of rest })) count;
}

-- the same reader, and the same text
pub same_takes : {A : Type 0} (Ahead : List ℕ → Type 0) (text : List ℕ) (reader other : Place → Reading A) (x : A) → ((p : Place) → other p ≡ reader p) → Takes Ahead text reader x → Takes Ahead text other x
same_takes Ahead text reader other x same t = record { takes = λ n rest ahead. same (record { next = n; lines = lines_of (text ++ rest) }) ∙ t.takes n rest ahead }

-- what comes to a value is put into another
pub with_value : {A B : Type 0} (Ahead : List ℕ → Type 0) (text : List ℕ) (reader : Place → Reading A) (f : A → B) (x : A) → Takes Ahead text reader x → Takes Ahead text (λ p. and_then (reader p) (λ x q. Ok (f x, q))) (f x)
with_value Ahead text reader f x t = record { takes = λ n rest ahead. ap (λ r. and_then r (λ x q. Ok (f x, q))) (t.takes n rest ahead) }
