-- Trails that grow at their end, each literal with its reason, and rounds over all clauses.
use Rattle.std.proofs.Common.{◌≡◌, ◌⊎◌, ℕ, ◌+◌, ◌-◌, ◌<◌, ◌≤◌, List, [], ◌∷◌, ◌++◌, length, take, get_or, ℤ, pos, refl, sym, ◌∙◌, ap, subst, inl, inr, arith, append_assoc, length-append}
use Rattle.std.proofs.lemmas.Bool.{cases_lt}
use Rattle.std.proofs.lemmas.List.{append-nil, get_or-append-add, get_or_append_left, take-append-le, take_all, get_or-append_right}
use Rattle.std.specs.List.{All}
use Rattle.hk_cnf.specs.declared.hint.Hint.TheVariants.{Unit as OneLeft}
use Rattle.hk_cnf.specs.Literal.{IsWithin, has}
use Rattle.hk_cnf.specs.Hint.{hint_of, Single}
use Rattle.hk_cnf.proofs.Members.{all-has}
use Rattle.hk_cnf.proofs.Tells.{tells-at}
use Rattle.hk_cdcl.specs.Path.{Path, IsReason, Extends, with_step, clause_at}

pub extends-refl : (clauses : List (List ℤ)) (p : Path) → Extends clauses p p
extends-refl clauses p =
    record {
      vars = refl;
      more = [];
      lits = sym (append-nil p.lits);
      more_reasons = [];
      reasons = sym (append-nil p.reasons);
      together = refl;
      implied = λ n lt. absurd (omega (arith, lt));
    }

-- a reason stays one as the trail grows
pub reason-append : (clauses : List (List ℤ)) (lits more : List ℤ) (n id : ℕ) → IsReason clauses lits n id → n < length lits → IsReason clauses (lits ++ more) n id
reason-append clauses lits more n id r lt =
    record {
      named = r.named;
      inside = r.inside;
      unit = ap (λ ls. hint_of (has ls) (clause_at clauses id)) (take-append-le n lits more (omega (arith, lt))) ∙ (r.unit ∙ ap OneLeft (sym (get_or_append_left lits more (pos 0) n lt)));
    }

pub extends-trans : (clauses : List (List ℤ)) (p q r : Path) → Extends clauses p q → Extends clauses q r → Extends clauses p r
extends-trans clauses p q r a b =
    record {
      vars = b.vars ∙ a.vars;
      more = a.more ++ b.more;
      lits = b.lits ∙ (ap (λ ls. ls ++ b.more) a.lits ∙ append_assoc p.lits a.more b.more);
      more_reasons = a.more_reasons ++ b.more_reasons;
      reasons = b.reasons ∙ (ap (λ rs. rs ++ b.more_reasons) a.reasons ∙ append_assoc p.reasons a.more_reasons b.more_reasons);
      together = length-append a.more_reasons b.more_reasons ∙ (ap (λ n. n + length b.more_reasons) a.together ∙ (ap (λ n. length a.more + n) b.together ∙ sym (length-append a.more b.more)));
      implied = λ n lt. pick n lt (cases_lt n (length a.more));
    }
  where
    long : length q.lits ≡ length p.lits + length a.more
    long = ap length a.lits ∙ length-append p.lits a.more

    first : (n : ℕ) → n < length a.more → IsReason clauses r.lits (length p.lits + n) (get_or (a.more_reasons ++ b.more_reasons) n 0)
    first n lt =
        subst (λ id. IsReason clauses r.lits (length p.lits + n) id) (sym (get_or_append_left a.more_reasons b.more_reasons 0 n (let t : length a.more_reasons ≡ length a.more = a.together in omega (arith, lt, t))))
        (subst (λ ls. IsReason clauses ls (length p.lits + n) (get_or a.more_reasons n 0)) (sym b.lits)
        (reason-append clauses q.lits b.more (length p.lits + n) (get_or a.more_reasons n 0) (a.implied n lt) (omega (arith, lt, long))))

    second : (n : ℕ) → length a.more ≤ n → n < length (a.more ++ b.more) → IsReason clauses r.lits (length p.lits + n) (get_or (a.more_reasons ++ b.more_reasons) n 0)
    second n le lt =
        let l : length (a.more ++ b.more) ≡ length a.more + length b.more = length-append a.more b.more in
        let k : n - length a.more < length b.more = omega (arith, le, lt, l) in
        let e : get_or (a.more_reasons ++ b.more_reasons) n 0 ≡ get_or b.more_reasons (n - length a.more) 0 = get_or-append_right a.more_reasons b.more_reasons (length a.more) n 0 a.together le in
        let s : length q.lits + (n - length a.more) ≡ length p.lits + n = omega (arith, long, le) in
        subst (λ id. IsReason clauses r.lits (length p.lits + n) id) (sym e)
        (subst (λ m. IsReason clauses r.lits m (get_or b.more_reasons (n - length a.more) 0)) s (b.implied (n - length a.more) k))

    pick : (n : ℕ) → n < length (a.more ++ b.more) → (n < length a.more) ⊎ (length a.more ≤ n) → IsReason clauses r.lits (length p.lits + n) (get_or (a.more_reasons ++ b.more_reasons) n 0)
    pick n lt (inl h) = first n h
    pick n lt (inr h) = second n h lt

-- one literal, which a unit clause makes true
pub extends-unit : (clauses : List (List ℤ)) (p : Path) (place : ℕ) (l : ℤ) → place < length clauses → hint_of (has p.lits) (get_or clauses place []) ≡ OneLeft l → Extends clauses p (with_step p l (place + 1))
extends-unit clauses p place l inside unit =
    record {
      vars = refl;
      more = l ∷ [];
      lits = refl;
      more_reasons = (place + 1) ∷ [];
      reasons = refl;
      together = refl;
      implied = λ n lt. subst (λ k. IsReason clauses (p.lits ++ l ∷ []) (length p.lits + k) (get_or ((place + 1) ∷ []) k 0)) (zero-is n lt) here;
    }
  where
    zero-is : (n : ℕ) → n < length (l ∷ []) → 0 ≡ n
    zero-is n lt = let h : n < 1 = lt in omega (arith, h)

    front : take (length p.lits + 0) (p.lits ++ l ∷ []) ≡ p.lits
    front = take-append-le (length p.lits + 0) p.lits (l ∷ []) (omega arith) ∙ take_all (length p.lits + 0) p.lits (omega arith)

    clause : clause_at clauses (place + 1) ≡ get_or clauses place []
    clause = ap (λ i. get_or clauses i []) (omega arith)

    here : IsReason clauses (p.lits ++ l ∷ []) (length p.lits + 0) (place + 1)
    here =
        record {
          named = omega arith;
          inside = omega (arith, inside);
          unit = ap (λ ls. hint_of (has ls) (clause_at clauses (place + 1))) front ∙ (ap (hint_of (has p.lits)) clause ∙ (unit ∙ ap OneLeft (sym (get_or-append-add p.lits (l ∷ []) 0 (pos 0)))));
        }

-- a trail that did not grow is the same
pub extends-same : (clauses : List (List ℤ)) (p q : Path) → Extends clauses p q → length q.lits ≡ length p.lits → q.lits ≡ p.lits
extends-same clauses p q e n = e.lits ∙ (ap (λ m. p.lits ++ m) (none e.more (let l : length q.lits ≡ length p.lits + length e.more = ap length e.lits ∙ length-append p.lits e.more in omega (arith, l, n))) ∙ append-nil p.lits)
  where
    none : (m : List ℤ) → length m ≡ 0 → m ≡ []
    none [] h = refl
    none (x ∷ m) h = absurd (omega (arith, h))

pub extends-longer : (clauses : List (List ℤ)) (p q : Path) → Extends clauses p q → length p.lits ≤ length q.lits
extends-longer clauses p q e = let l : length q.lits ≡ length p.lits + length e.more = ap length e.lits ∙ length-append p.lits e.more in omega (arith, l)

-- the literal of a unit clause is unset, and within the variables
pub unit-single : (lits c : List ℤ) (l : ℤ) → hint_of (has lits) c ≡ OneLeft l → Single (has lits) l c
unit-single lits c l e = tells-at (has lits) c (OneLeft l) e

pub unit-within : (vars : ℕ) (lits c : List ℤ) (l : ℤ) → All (IsWithin vars) c → hint_of (has lits) c ≡ OneLeft l → IsWithin vars l
unit-within vars lits c l w e = all-has (IsWithin vars) c l w (unit-single lits c l e).member
