-- What the steps of a reading were, where the reading came to something.
use Rattle.std.proofs.Common.{◌≡◌, ◌⊎◌, inl, inr, ℕ, ◌+◌, Bool, true, false, if◌then◌else◌, List, [], ◌∷◌, length, Result, Ok, Err, refl, sym, ap, arith}
use Rattle.hk_cert_lines.specs.declared.reason.CertReason.{CertReason}
use Rattle.hk_cert.specs.Steps.{Place, Reading, and_then, judged, first_says, line_at}

abbrev pub place : ℕ → List (List ℕ) → Place
place n lines = record { next = n; lines = lines }

-- ---- answers

abbrev pub read : {A : Type 0} → A × Place → Reading A
read x = Ok x

pub ok_is : {A : Type 0} (x y : A × Place) → read x ≡ Ok y → x ≡ y
ok_is x y h = cc

pub guarded : {A E : Type 0} (b : Bool) (r : Result A E) (e : E) (x : A) → (if b then r else Err e) ≡ Ok x → (b ≡ true) × (r ≡ Ok x)
guarded true r e x h = (refl, h)
guarded false r e x h = cc

pub either_of : {A : Type 0} (b : Bool) (r u x : A) → (if b then r else u) ≡ x → (r ≡ x) ⊎ (u ≡ x)
either_of true r u x h = inl h
either_of false r u x h = inr h

-- ---- one reader after another

pub record Then {A B : Type 0} (r : Reading A) (next : A → Place → Reading B) (y : B × Place) : Type 0 where
  pub before : A × Place
  pub first : r ≡ Ok before
  pub after : next before.0 before.1 ≡ Ok y

pub followed : {A B : Type 0} (r : Reading A) (next : A → Place → Reading B) (y : B × Place) → and_then r next ≡ Ok y → Then r next y
followed (Ok p) next y h = record { before = p; first = refl; after = h }
followed (Err f) next y h = cc

-- ---- one line

-- no line is lost: those that are left and those before them are as many as at the start
abbrev pub total : Place → ℕ
total p = p.next + length p.lines

pub record Line {A : Type 0} (says : List ℕ → Result A CertReason) (p : Place) (y : A × Place) : Type 0 where
  pub line : List ℕ
  pub said : says line ≡ Ok y.0
  pub next : y.1.next ≡ p.next + 1
  pub kept : total y.1 ≡ total p

judged_as : {A : Type 0} (n : ℕ) (behind : List (List ℕ)) (r : Result A CertReason) (y : A × Place) → judged n behind r ≡ Ok y → (r ≡ Ok y.0) × (y.1 ≡ place (n + 1) behind)
judged_as {A = A} n behind (Ok x) y h =
    let e : (x, place (n + 1) behind) ≡ y = ok_is (x, place (n + 1) behind) y h in
    (ap (λ (z : A × Place). Ok z.0) e, sym (ap (λ (z : A × Place). z.1) e))
judged_as n behind (Err reason) y h = cc

line_in : {A : Type 0} (says : List ℕ → Result A CertReason) (n : ℕ) (lines : List (List ℕ)) (y : A × Place) → first_says says n lines ≡ Ok y → Line says (place n lines) y
line_in says n [] y h = cc
line_in says n (line ∷ behind) y h =
    let j = judged_as n behind (says line) y h in
    let next : y.1.next ≡ n + 1 = ap (λ (q : Place). q.next) j.1 in
    let left : length y.1.lines ≡ length behind = ap (λ (q : Place). length q.lines) j.1 in
    record { line = line; said = j.0; next = next; kept = omega (arith, next, left) }

pub line_was : {A : Type 0} (says : List ℕ → Result A CertReason) (p : Place) (y : A × Place) → line_at says p ≡ Ok y → Line says p y
line_was says p y h = line_in says p.next p.lines y h
