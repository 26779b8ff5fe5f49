-- What instances speak of, and what stands for the variables of a tuple.
use Rattle.std.proofs.Common.{◌≡◌, ℕ, suc, ◌++◌, ◌-◌, ◌≤◌, nat_eq, take, drop, arith, List, [], ◌∷◌, length, map, Some, refl, sym, ◌∙◌, ap, subst, get_or}
use Rattle.std.specs.Prelude.{slice_get, Result, Ok, Err, IfOk}
use Rattle.std.specs.List.{All}
use Rattle.std.specs.Map.{lookup}
use Rattle.std.proofs.lemmas.List.{append_assoc}
use Rattle.std.proofs.Math.Seq.{take-length}
use Rattle.std.proofs.lemmas.List.Elements.{All-nil, All-cons}
use Rattle.hk_term.specs.Shape.{Grows}
use Rattle.hk_term.specs.declared.bounds.Bound.{Bound}
use Rattle.hk_term.specs.declared.node.Node.{Node}
use Rattle.hk_term.specs.declared.node.Node.TheVariants.{Select, ForAll}
use Rattle.hk_copy.specs.declared.stand.Stand.{Stand}
use Rattle.hk_copy.specs.declared.stand.Stand.TheVariants.{Number, Other}
use Rattle.hk_copy.specs.Stands.{Stands, IsApart, HasWidth, standing}
use Rattle.hk_copy.specs.Copies.{Copies, AreReady}
use Rattle.hk_copy.specs.Reach.{Tests, StandsPass}
use Rattle.hk_copy.proofs.ReadingLaws.{lookup-all}
use Rattle.hk_inst.specs.declared.instance.Instance.{Instance}
use Rattle.hk_inst.specs.declared.instance.Instance.TheVariants.{Pair, Tuple}
use Rattle.hk_inst.specs.declared.subject.Subject.{Subject}
use Rattle.hk_inst.specs.declared.subject.Subject.TheVariants.{Reads, Quantifier}
use Rattle.hk_inst.specs.Inputs.{Table}
use Rattle.hk_inst.specs.Truths.{IsTuple}
use Rattle.hk_inst.specs.Demanded.{IsAgreement, IsImplication, IsDemand}
use Rattle.hk_inst.specs.Adding.{IsSubject}
use Rattle.hk_inst.proofs.OurTerms.{standing-all}
use Rattle.hk_inst.proofs.WideStands.{standing-behind}
use Rattle.hk_inst.proofs.Widening.{IsWider, pair-wider, tuple-wider}

pub pair-subject : (nodes : List Node) (table : Table) (a b r s i j array other size more : ℕ) → slice_get table.reads a ≡ Some r → slice_get table.reads b ≡ Some s → slice_get nodes r ≡ Some (Select array size i)
    → slice_get nodes s ≡ Some (Select other more j) → array ≡ other → IsSubject nodes table (Pair a b) (Reads r s i j)
pair-subject nodes table a b r s i j array other size more at there is it same = (
  record {
    array = array;
    first = r;
    size = size;
    place = i;
    second = s;
    other_size = more;
    other_place = j;
    first_at = at;
    second_at = there;
    first_is = is;
    second_is = it ∙ ap (λ x. Some (Select x more j)) (sym same);
  },
  refl,
  refl,
  refl,
  refl,
)

pub tuple-subject : (nodes : List Node) (table : Table) (k : ℕ) (ks : List ℕ) (t : ℕ) (bound : List Bound) (inner : ℕ) → slice_get table.quantifiers k ≡ Some t → slice_get nodes t ≡ Some (ForAll bound inner) → IsTuple bound ks → IsSubject nodes table (Tuple k ks) (Quantifier t bound inner)
tuple-subject nodes table k ks t bound inner at is fits = (record { term = t; bound = bound; body = inner; at = at; is = is; fits = fits }, refl, refl, refl)

pub tuple-length : (bs : List Bound) (ks : List ℕ) → IsTuple bs ks → length bs ≡ length (map Number ks)
tuple-length [] [] h = refl
tuple-length [] (k ∷ ks) h = absurd h
tuple-length (b ∷ bs) [] h = absurd h
tuple-length (b ∷ bs) (k ∷ ks) h = ap suc (tuple-length bs ks h.1)

-- the numbers of the later variables come first
pub numbers-behind : (b : Bound) (bs : List Bound) (k : ℕ) (ks : List ℕ) → IsTuple bs ks → standing bs (map Number ks) ++ (b.id, Number k) ∷ [] ≡ standing (b ∷ bs) (map Number (k ∷ ks))
numbers-behind b bs k ks h = sym (standing-behind bs (map Number ks) ((b.id, Number k) ∷ []) (tuple-length bs ks h))

pub numbers-step : (bs : List Bound) (ks : List ℕ) → 1 ≤ length bs → 1 ≤ length ks → IsTuple bs ks → (x : Bound) (y : ℕ) (old middle new : Stands) → middle ≡ old ++ standing (take (length bs - 1) (drop 1 bs)) (map Number (take (length ks - 1) (drop 1 ks)))
    → new ≡ middle ++ ((get_or bs 0 x).id, Number (get_or ks 0 y)) ∷ [] → new ≡ old ++ standing bs (map Number ks)
numbers-step [] ks l m h x y old middle new e f = absurd (omega (arith, l))
numbers-step (b ∷ bs) [] l m h x y old middle new e f = absurd h
numbers-step (b ∷ bs) (k ∷ ks) l m h x y old middle new e f =
    f ∙ ap (λ z. z ++ (b.id, Number k) ∷ []) (e ∙ ap (λ (z : List Bound × List ℕ). old ++ standing z.0 (map Number z.1)) (λ n. (rest b bs n, rest k ks n)))
    ∙ append_assoc old (standing bs (map Number ks)) ((b.id, Number k) ∷ []) ∙ ap (λ z. old ++ z) (numbers-behind b bs k ks h.1)
  where
    rest : {X : Type 0} (z : X) (zs : List X) → take (length (z ∷ zs) - 1) (drop 1 (z ∷ zs)) ≡ zs
    rest z zs = ap (λ n. take n zs) (omega arith) ∙ take-length zs

abbrev IsNumber : Stand → Type 0
IsNumber (Number n) = Unit {0}
IsNumber (Other width id) = ⊥

are-numbers : (ks : List ℕ) → All IsNumber (map Number ks)
are-numbers [] = All-nil IsNumber
are-numbers (k ∷ ks) = All-cons IsNumber (Number k) (map Number ks) tt (are-numbers ks)

pub standing-numbers : (bs : List Bound) (ks : List ℕ) → All (λ e. IsNumber e.1) (standing bs (map Number ks))
standing-numbers bs ks = standing-all IsNumber bs (map Number ks) [] (All-nil (λ e. IsNumber e.1)) (are-numbers ks)

number-width : (s : Stand) → IsNumber s → HasWidth s
number-width (Number n) h = tt
number-width (Other width id) h = absurd h

number-apart : (bs : List Bound) (s : Stand) → IsNumber s → IsApart bs s
number-apart bs (Number n) h = tt
number-apart bs (Other width id) h = absurd h

-- a copy at numbers may be asked for, and no id comes in
pub numbers-ready : (nodes : List Node) (bs : List Bound) (ks : List ℕ) (limit : ℕ) (pairs : Stands) → pairs ≡ standing bs (map Number ks) → AreReady nodes pairs limit
numbers-ready nodes bs ks limit pairs same = subst (λ e. AreReady nodes e limit) (sym same) (record {
  widths = λ k d l. number-width (get_or (standing bs (map Number ks)) k d).1 (standing-numbers bs ks k d l);
  apart = λ k bound inner h at j d l. number-apart bound (get_or (standing bs (map Number ks)) j d).1 (standing-numbers bs ks j d l);
})

pub no-other : (bs : List Bound) (ks : List ℕ) (i size id : ℕ) → lookup (nat_eq i) (standing bs (map Number ks)) ≡ Some (Other size id) → ⊥
no-other bs ks i size id e = (lookup-all (λ p. IsNumber p.1) (standing bs (map Number ks)) i (Other size id) (standing-numbers bs ks) e).1

pub numbers-pass : (tests : Tests) (bs : List Bound) (ks : List ℕ) (pairs : Stands) → pairs ≡ standing bs (map Number ks) → StandsPass tests pairs
numbers-pass tests bs ks pairs same i size id e = absurd (no-other bs ks i size id (ap (lookup (nat_eq i)) (sym same) ∙ e))

-- ---- what is required of a subject

same-table : (nodes longer : List Node) (table : Table) → Grows nodes longer → IsWider nodes longer [] [] table table
same-table nodes longer table g = record { nodes_grow = g; more_instances = λ i c. c; reads = λ k t e. e; quantifiers = λ k t e. e; openings = λ o c. c }

pub pair-demand : {E : Type 0} (result : Result ℕ E) (nodes longer : List Node) (i : Instance) (x : Subject) (a b r s j k : ℕ) → i ≡ Pair a b → x ≡ Reads r s j k → Grows nodes longer → IfOk result (IsAgreement longer r s j k)
    → IfOk result (λ d. (table : Table) → IsSubject nodes table i x → IsDemand longer table i d)
unfolding pair-wider
pair-demand {E = E} result nodes longer i x a b r s j k is it g made =
    subst (λ (z : Instance × Subject). IfOk result (λ d. (table : Table) → IsSubject nodes table z.0 z.1 → IsDemand longer table z.0 d)) (λ n. (sym is n, sym it n)) (by result made)
  where
    by : (out : Result ℕ E) → IfOk out (IsAgreement longer r s j k) → IfOk out (λ d. (table : Table) → IsSubject nodes table (Pair a b) (Reads r s j k) → IsDemand longer table (Pair a b) d)
    by (Ok d) m = λ table h. (
      pair-wider nodes longer [] [] table table (same-table nodes longer table g) a b h.0,
      subst (λ (z : ℕ × ℕ × ℕ × ℕ). IsAgreement longer z.0 z.1 z.2 z.3 d) (λ n. (sym h.1 n, sym h.2 n, sym h.3 n, sym h.4 n)) m,
    )
    by (Err e) m = m

pub tuple-demand : {E : Type 0} (result : Result ℕ E) (nodes longer : List Node) (i : Instance) (x : Subject) (q : ℕ) (ks : List ℕ) (t : ℕ) (bound : List Bound) (inner : ℕ) → i ≡ Tuple q ks → x ≡ Quantifier t bound inner → Grows nodes longer
    → IfOk result (λ d. (b : ℕ) × (Copies longer (standing bound (map Number ks)) inner b) × (IsImplication longer t b d))
    → IfOk result (λ d. (table : Table) → IsSubject nodes table i x → IsDemand longer table i d)
unfolding tuple-wider
tuple-demand {E = E} result nodes longer i x q ks t bound inner is it g made =
    subst (λ (z : Instance × Subject). IfOk result (λ d. (table : Table) → IsSubject nodes table z.0 z.1 → IsDemand longer table z.0 d)) (λ n. (sym is n, sym it n)) (by result made)
  where
    by : (out : Result ℕ E) → IfOk out (λ d. (b : ℕ) × (Copies longer (standing bound (map Number ks)) inner b) × (IsImplication longer t b d))
        → IfOk out (λ d. (table : Table) → IsSubject nodes table (Tuple q ks) (Quantifier t bound inner) → IsDemand longer table (Tuple q ks) d)
    by (Ok d) m = λ table h. (
      tuple-wider nodes longer [] [] table table (same-table nodes longer table g) q ks h.0,
      m.0,
      subst (λ (z : List Bound × ℕ). Copies longer (standing z.0 (map Number ks)) z.1 m.0) (λ n. (sym h.2 n, sym h.3 n)) m.1,
      subst (λ z. IsImplication longer z m.0 d) (sym h.1) m.2,
    )
    by (Err e) m = m
