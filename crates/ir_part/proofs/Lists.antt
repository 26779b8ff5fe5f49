-- Lists are read exactly where they are spelled, given that their elements are.
use Rattle.std.proofs.Common.{◌≡◌, ℕ, zero, suc, ◌+◌, ◌<◌, ◌≤◌, Bool, true, false, ◌==◌, Option, Some, None, List, [], ◌∷◌, ◌++◌, length, refl, sym, ◌∙◌, ap, subst, inl, inr, append_assoc, length-append, arith}
use Rattle.std.specs.Prelude.{if◌then◌else◌}
use Rattle.ir_lex.specs.Tok.{Tok, mark}
use Rattle.ir_part.specs.Reader.{Reader, ◌>>=◌, Takes, IsSound, IsComplete}
use Rattle.ir_part.specs.Fronts.{after_mark}
use Rattle.ir_part.specs.Many.{many_from, many, some, with_first, behind_comma, is_closed, is_ended, separated, separated_by}
use Rattle.ir_part.specs.Lists.{Row, Behind, Leading, Parted, Closed}
use Rattle.ir_part.proofs.Fronts.{bound, some_is, if_some, after_mark_is, mark_is}

-- ---- an element of a list up to a stop

pub record IsElement {A : Type 0} (S : A → List Tok → Type 0) (stop : List Tok → Bool) (item : Reader A) : Type 0 where
  pub complete : IsComplete S item
  pub goes_on : (x : A) (front rest : List Tok) → S x front → stop (front ++ rest) ≡ false
  pub fills : (x : A) → S x [] → ⊥

pub record Stopped {A : Type 0} (S : A → List Tok → Type 0) (stop : List Tok → Bool) (ts : List Tok) (xs : List A) (rest : List Tok) : Type 0 where
  pub takes : Takes (Row S) ts xs rest
  pub stops : stop rest ≡ true

-- ---- one behind the other

first_is : {A : Type 0} (x : A) (read : Option (List A × List Tok)) (xs : List A) (rest : List Tok) → with_first x read ≡ Some (xs, rest)
    → (others : List A) × (read ≡ Some (others, rest)) × (xs ≡ x ∷ others)
first_is x None xs rest h = cc
first_is x (Some read) xs rest h =
    let e : (x ∷ read.0, read.1) ≡ (xs, rest) = some_is h in
    (read.0, ap (λ r. Some (read.0, r)) (ap (λ p. p.1) e), sym (ap (λ p. p.0) e))

pub many_from_sound : {A : Type 0} (S : A → List Tok → Type 0) (stop : List Tok → Bool) (item : Reader A) → IsSound S item → (n : ℕ) (ts : List Tok) (xs : List A) (rest : List Tok)
    → many_from stop item n ts ≡ Some (xs, rest) → Stopped S stop ts xs rest
unfolding many_from
many_from_sound S stop item sound zero ts xs rest h = cc
many_from_sound S stop item sound (suc n) ts xs rest h =
    elim (if_some (stop ts) (Some ([], ts)) (item ts >>= (λ first. with_first first.0 (many_from stop item n first.1))) (xs, rest) h) [
      | inl p ↦ (let e : ([], ts) ≡ (xs, rest) = some_is p.1 in
          let same : ts ≡ rest = ap (λ q. q.1) e in
          record { takes = record { front = []; spelled = subst (λ ys. Row S ys []) (ap (λ q. q.0) e) refl; parts = same }; stops = subst (λ us. stop us ≡ true) same p.0 })
      | inr p ↦ (let b = bound (item ts) (λ first. with_first first.0 (many_from stop item n first.1)) (xs, rest) p.1 in
          let f = first_is b.value.0 (many_from stop item n b.value.1) xs rest b.rest in
          let one = sound ts b.value.0 b.value.1 b.was in
          let others = many_from_sound S stop item sound n b.value.1 f.0 rest f.1 in
          record {
            takes = record {
              front = one.front ++ others.takes.front;
              spelled = subst (λ ys. Row S ys (one.front ++ others.takes.front)) (sym f.2) (one.front, others.takes.front, one.spelled, others.takes.spelled, refl);
              parts = one.parts ∙ ap (λ us. one.front ++ us) others.takes.parts ∙ sym (append_assoc one.front others.takes.front rest);
            };
            stops = others.stops;
          })
    ]

-- a list has no more elements than tokens
front_length : {A : Type 0} (S : A → List Tok → Type 0) → ((x : A) → S x [] → ⊥) → (x : A) (ts : List Tok) → S x ts → 0 < length ts
front_length S fills x [] s = absurd (fills x s)
front_length S fills x (t ∷ ts) s = omega arith

row_length : {A : Type 0} (S : A → List Tok → Type 0) → ((x : A) → S x [] → ⊥) → (xs : List A) (ts : List Tok) → Row S xs ts → length xs ≤ length ts
row_length S fills [] ts s = omega arith
row_length S fills (x ∷ xs) ts s =
    let others = row_length S fills xs s.1 s.3 in
    let some_token = front_length S fills x s.0 s.2 in
    let e : length ts ≡ length s.0 + length s.1 = ap length s.4 ∙ length-append s.0 s.1 in
    omega (arith, others, some_token, e)

stops_there : {A : Type 0} (stop : List Tok → Bool) (item : Reader A) (n : ℕ) (ts : List Tok) → stop ts ≡ true → many_from stop item (suc n) ts ≡ Some ([], ts)
unfolding many_from
stops_there stop item n ts is = rw is refl

goes_there : {A : Type 0} (stop : List Tok → Bool) (item : Reader A) (n : ℕ) (ts : List Tok) (x : A) (rest : List Tok) → stop ts ≡ false → item ts ≡ Some (x, rest)
    → many_from stop item (suc n) ts ≡ with_first x (many_from stop item n rest)
unfolding many_from
goes_there stop item n ts x rest is reads = rw is (ap (λ r. r >>= (λ first. with_first first.0 (many_from stop item n first.1))) reads)

pub many_from_complete : {A : Type 0} (S : A → List Tok → Type 0) (stop : List Tok → Bool) (item : Reader A) → IsElement S stop item → (n : ℕ) (xs : List A) (front rest : List Tok)
    → length xs < n → Row S xs front → stop rest ≡ true → many_from stop item n (front ++ rest) ≡ Some (xs, rest)
many_from_complete S stop item el zero xs front rest few s is = absurd (omega (arith, few))
many_from_complete S stop item el (suc n) [] front rest few s is = ap (λ us. many_from stop item (suc n) (us ++ rest)) s ∙ stops_there stop item n rest is
many_from_complete S stop item el (suc n) (x ∷ xs) front rest few s is =
    let shape : front ++ rest ≡ s.0 ++ (s.1 ++ rest) = ap (λ us. us ++ rest) s.4 ∙ append_assoc s.0 s.1 rest in
    let fewer : length xs < n = omega (arith, few) in
    ap (many_from stop item (suc n)) shape
    ∙ goes_there stop item n (s.0 ++ (s.1 ++ rest)) x (s.1 ++ rest) (el.goes_on x s.0 (s.1 ++ rest) s.2) (el.complete x s.0 (s.1 ++ rest) s.2)
    ∙ ap (with_first x) (many_from_complete S stop item el n xs s.1 rest fewer s.3 is)

pub many_complete : {A : Type 0} (S : A → List Tok → Type 0) (stop : List Tok → Bool) (item : Reader A) → IsElement S stop item → (xs : List A) (front rest : List Tok)
    → Row S xs front → stop rest ≡ true → many stop item (front ++ rest) ≡ Some (xs, rest)
many_complete S stop item el xs front rest s is =
    let short = row_length S el.fills xs front s in
    let e : length (front ++ rest) ≡ length front + length rest = length-append front rest in
    many_from_complete S stop item el (length (front ++ rest) + 1) xs front rest (omega (arith, short, e)) s is

-- ---- one, and further ones

pub record Led {A : Type 0} (S T : A → List Tok → Type 0) (stop : List Tok → Bool) (ts : List Tok) (xs : List A) (rest : List Tok) : Type 0 where
  pub takes : Takes (Leading S T) ts xs rest
  pub stops : stop rest ≡ true

pub some_sound : {A : Type 0} (S T : A → List Tok → Type 0) (stop : List Tok → Bool) (item further : Reader A) → IsSound S item → IsSound T further → (ts : List Tok) (xs : List A) (rest : List Tok)
    → some stop item further ts ≡ Some (xs, rest) → Led S T stop ts xs rest
some_sound S T stop item further first_sound sound ts xs rest h =
    let b = bound (item ts) (λ first. with_first first.0 (many stop further first.1)) (xs, rest) h in
    let f = first_is b.value.0 (many stop further b.value.1) xs rest b.rest in
    let one = first_sound ts b.value.0 b.value.1 b.was in
    let others = many_from_sound T stop further sound (length b.value.1 + 1) b.value.1 f.0 rest f.1 in
    record {
      takes = record {
        front = one.front ++ others.takes.front;
        spelled = subst (λ ys. Leading S T ys (one.front ++ others.takes.front)) (sym f.2) (one.front, others.takes.front, one.spelled, others.takes.spelled, refl);
        parts = one.parts ∙ ap (λ us. one.front ++ us) others.takes.parts ∙ sym (append_assoc one.front others.takes.front rest);
      };
      stops = others.stops;
    }

pub some_complete : {A : Type 0} (S T : A → List Tok → Type 0) (stop : List Tok → Bool) (item further : Reader A) → IsComplete S item → IsElement T stop further → (xs : List A) (front rest : List Tok)
    → Leading S T xs front → stop rest ≡ true → some stop item further (front ++ rest) ≡ Some (xs, rest)
some_complete S T stop item further complete el [] front rest s is = absurd s
some_complete S T stop item further complete el (x ∷ xs) front rest s is =
    let shape : front ++ rest ≡ s.0 ++ (s.1 ++ rest) = ap (λ us. us ++ rest) s.4 ∙ append_assoc s.0 s.1 rest in
    ap (some stop item further) shape
    ∙ ap (λ o. o >>= (λ first. with_first first.0 (many stop further first.1))) (complete x s.0 (s.1 ++ rest) s.2)
    ∙ ap (with_first x) (many_complete T stop further el xs s.1 rest s.3 is)

-- ---- behind a comma

pub behind_sound : {A : Type 0} (S : A → List Tok → Type 0) (item : Reader A) → IsSound S item → IsSound (Behind S) (behind_comma item)
behind_sound S item sound ts x rest h =
    let b = bound (after_mark 44 ts) item (x, rest) h in
    let one = sound b.value x rest b.rest in
    record { front = mark 44 ∷ one.front; spelled = (one.front, one.spelled, refl); parts = after_mark_is 44 ts b.value b.was ∙ ap (λ us. mark 44 ∷ us) one.parts }

pub behind_complete : {A : Type 0} (S : A → List Tok → Type 0) (item : Reader A) → IsComplete S item → IsComplete (Behind S) (behind_comma item)
behind_complete S item complete x front rest s = ap (λ us. behind_comma item (us ++ rest)) s.2 ∙ complete x s.0 rest s.1

nothing_there : (t : Tok) (ts : List Tok) → [] ≡ t ∷ ts → ⊥
nothing_there t ts e = cc

-- a comma is neither the end nor a closing mark
pub behind_element : {A : Type 0} (S : A → List Tok → Type 0) (item : Reader A) (close : ℕ) → (44 == close) ≡ false → IsComplete S item → IsElement (Behind S) (is_closed close) (behind_comma item)
behind_element S item close other complete = record {
  complete = behind_complete S item complete;
  goes_on = λ x front rest s. ap (λ us. is_closed close (us ++ rest)) s.2 ∙ other;
  fills = λ x s. nothing_there (mark 44) s.0 s.2;
}

pub behind_element_end : {A : Type 0} (S : A → List Tok → Type 0) (item : Reader A) → IsComplete S item → IsElement (Behind S) is_ended (behind_comma item)
behind_element_end S item complete = record {
  complete = behind_complete S item complete;
  goes_on = λ x front rest s. ap (λ us. is_ended (us ++ rest)) s.2;
  fills = λ x s. nothing_there (mark 44) s.0 s.2;
}

-- ---- with a comma between them, up to a closing mark

closed_is : (close : ℕ) (ts : List Tok) → is_closed close ts ≡ true → (rest : List Tok) × (ts ≡ mark close ∷ rest)
closed_is close [] h = cc
closed_is close (t ∷ ts) h = (ts, ap (λ u. u ∷ ts) (mark_is close t h))

parted_of : {A : Type 0} (S : A → List Tok → Type 0) (xs : List A) (ts : List Tok) → Leading S (Behind S) xs ts → Parted S xs ts
parted_of S [] ts s = absurd s
parted_of S (x ∷ xs) ts s = s

separated_found : {A : Type 0} (S : A → List Tok → Type 0) (item : Reader A) (close : ℕ) → IsSound S item → (o : Option (List Tok)) (ts : List Tok) (xs : List A) (rest : List Tok)
    → after_mark close ts ≡ o → separated_by item close o ts ≡ Some (xs, rest) → Takes (Closed S close) ts xs rest
separated_found S item close sound (Some us) ts xs rest is h =
    let e : ([], us) ≡ (xs, rest) = some_is h in
    record {
      front = mark close ∷ [];
      spelled = ([], subst (λ ys. Parted S ys []) (ap (λ q. q.0) e) refl, refl);
      parts = after_mark_is close ts us is ∙ ap (λ q. mark close ∷ q.1) e;
    }
separated_found S item close sound None ts xs rest is h =
    let b = bound (some (is_closed close) item (behind_comma item) ts) (λ read. after_mark close read.1 >>= (λ us. Some (read.0, us))) (xs, rest) h in
    let c = bound (after_mark close b.value.1) (λ us. Some (b.value.0, us)) (xs, rest) b.rest in
    let e : (b.value.0, c.value) ≡ (xs, rest) = some_is c.rest in
    let led = some_sound S (Behind S) (is_closed close) item (behind_comma item) sound (behind_sound S item sound) ts b.value.0 b.value.1 b.was in
    let shut = after_mark_is close b.value.1 c.value c.was in
    record {
      front = led.takes.front ++ mark close ∷ [];
      spelled = (led.takes.front, subst (λ ys. Parted S ys led.takes.front) (ap (λ q. q.0) e) (parted_of S b.value.0 led.takes.front led.takes.spelled), refl);
      parts = led.takes.parts ∙ ap (λ us. led.takes.front ++ us) (shut ∙ ap (λ q. mark close ∷ q.1) e) ∙ sym (append_assoc led.takes.front (mark close ∷ []) rest);
    }

pub separated_sound : {A : Type 0} (S : A → List Tok → Type 0) (item : Reader A) (close : ℕ) → IsSound S item → IsSound (Closed S close) (separated item close)
separated_sound S item close sound ts xs rest h = separated_found S item close sound (after_mark close ts) ts xs rest refl h

pub separated_complete : {A : Type 0} (S : A → List Tok → Type 0) (item : Reader A) (close : ℕ) → (44 == close) ≡ false → (close == close) ≡ true
    → ((x : A) (front rest : List Tok) → S x front → after_mark close (front ++ rest) ≡ None) → IsComplete S item → IsComplete (Closed S close) (separated item close)
separated_complete S item close other same apart complete [] front rest s =
    let shape : front ++ rest ≡ mark close ∷ rest = ap (λ us. us ++ rest) (s.2 ∙ ap (λ us. us ++ mark close ∷ []) s.1) in
    ap (separated item close) shape ∙ ap (λ b. separated_by item close (if b then Some rest else None) (mark close ∷ rest)) same
separated_complete S item close other same apart complete (x ∷ xs) front rest s =
    let inner = s.0 in
    let p = s.1 in
    let shape : front ++ rest ≡ inner ++ (mark close ∷ rest) = ap (λ us. us ++ rest) s.2 ∙ append_assoc inner (mark close ∷ []) rest in
    let spread : inner ++ (mark close ∷ rest) ≡ p.0 ++ (p.1 ++ mark close ∷ rest) = ap (λ us. us ++ mark close ∷ rest) p.4 ∙ append_assoc p.0 p.1 (mark close ∷ rest) in
    let none : after_mark close (inner ++ (mark close ∷ rest)) ≡ None = ap (after_mark close) spread ∙ apart x p.0 (p.1 ++ mark close ∷ rest) p.2 in
    let reads = some_complete S (Behind S) (is_closed close) item (behind_comma item) complete (behind_element S item close other complete) (x ∷ xs) inner (mark close ∷ rest) p same in
    ap (separated item close) shape
    ∙ ap (λ o. separated_by item close o (inner ++ (mark close ∷ rest))) none
    ∙ ap (λ o. o >>= (λ read. after_mark close read.1 >>= (λ us. Some (read.0, us)))) reads
    ∙ ap (λ b. (if b then Some rest else None) >>= (λ us. Some (x ∷ xs, us))) same
