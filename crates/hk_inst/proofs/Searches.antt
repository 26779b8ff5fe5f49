-- The search for tuples at which a body is false.
use Rattle.std.proofs.Common.{◌≡◌, ◌<◌, ◌≤◌, ◌⊎◌, inl, inr, ℕ, ◌+◌, ◌-◌, ◌++◌, length, take, drop, get_or, Bool, true, false, cond, nat_eq, List, [], ◌∷◌, Some, refl, sym, ◌∙◌, ap, subst, arith}
use Rattle.std.specs.Prelude.{slice_get}
use Rattle.std.proofs.lemmas.Bool.{eqb-true, cases_lt}
use Rattle.std.proofs.lemmas.Option.{same_Some}
use Rattle.std.proofs.lemmas.List.{append_assoc, append-nil}
use Rattle.std.proofs.Math.Seq.{take-length}
use Rattle.hk_term.specs.Meaning.{Reading, reading_of, with_var, value}
use Rattle.hk_term.specs.Tables.{number_at, entry_at}
use Rattle.hk_term.specs.declared.valuation.Place.{Place}
use Rattle.hk_term.specs.declared.bounds.Bound.{Bound}
use Rattle.hk_term.specs.declared.node.Node.{Node}
use Rattle.hk_term.specs.declared.node.Node.TheVariants.{ForAll}
use Rattle.hk_copy.specs.Stands.{with_tuple}
use Rattle.hk_inst.specs.declared.instance.Instance.{Instance}
use Rattle.hk_inst.specs.declared.instance.Instance.TheVariants.{Tuple}
use Rattle.hk_inst.specs.Inputs.{Table}
use Rattle.hk_inst.specs.Truths.{IsTuple, TupleOf, IsTrue, is_among}
use Rattle.hk_inst.specs.Questions.{Asked}
use Rattle.hk_inst.specs.Violations.{IsViolated, IsSearch, AllTried}
use Rattle.hk_inst.proofs.Members.{bound_of, body_of}

-- a number for a variable, and its own number again
pub restored : (v : Reading) (id n : ℕ) → with_var (with_var v id n) id (v.var id) ≡ v
restored v id n = λ i. record v { var = λ j. by j (nat_eq j id) refl i }
  where
    by : (j : ℕ) (b : Bool) → nat_eq j id ≡ b → cond (nat_eq j id) (v.var id) (cond (nat_eq j id) n (v.var j)) ≡ v.var j
    by j true e = ap (λ b. cond b (v.var id) (cond b n (v.var j))) e ∙ ap v.var (sym (eqb-true j id e))
    by j false e = ap (λ b. cond b (v.var id) (cond b n (v.var j))) e

-- a valuation in which a variable was set
pub set-is : (vars more : List (ℕ × ℕ)) (arrays : List (Place × ℕ)) (id n : ℕ) → ((k : ℕ) → number_at more k ≡ cond (nat_eq k id) n (number_at vars k)) → reading_of (record { vars = more; arrays = arrays }) ≡ with_var (reading_of (record { vars = vars; arrays = arrays })) id n
set-is vars more arrays id n h = λ i. record { var = λ k. h k i; entry = entry_at arrays }

-- a slice with a first element
pub whole-is : (bs : List Bound) (d : Bound) → 1 ≤ length bs → bs ≡ get_or bs 0 d ∷ take (length bs - 1) (drop 1 bs)
whole-is [] d l = absurd (omega (arith, l))
whole-is (b ∷ bs) d l =
    let n : length (b ∷ bs) - 1 ≡ length bs = omega arith in
    ap (λ cs. b ∷ cs) (sym (ap (λ k. take k bs) n ∙ take-length bs))

pub empty-is : (bs : List Bound) → length bs < 1 → bs ≡ []
empty-is [] l = refl
empty-is (b ∷ bs) l = absurd (omega (arith, l))

pub search-begins : (q : Asked) (f : ℕ → ℕ) (r : Reading) (k term body : ℕ) (bound : List Bound) → slice_get q.table.quantifiers k ≡ Some term → slice_get q.nodes term ≡ Some (ForAll bound body) → f term ≡ 1 → IsSearch q f r k body bound [] r
search-begins q f r k term body bound at is holds = record { term = term; whole = bound; at = at; is = is; holds = holds; fits = λ ks t. t; reads = λ ks t. refl }

pub search-deeper : (q : Asked) (f : ℕ → ℕ) (r : Reading) (k body : ℕ) (b : Bound) (bs : List Bound) (first : List ℕ) (v : Reading) (n : ℕ) → n < b.size → IsSearch q f r k body (b ∷ bs) first v → IsSearch q f r k body bs (first ++ n ∷ []) (with_var v b.id n)
search-deeper q f r k body b bs first v n l h = record {
  term = h.term;
  whole = h.whole;
  at = h.at;
  is = h.is;
  holds = h.holds;
  fits = λ ks t. subst (IsTuple h.whole) (sym (append_assoc first (n ∷ []) ks)) (h.fits (n ∷ ks) (l, t));
  reads = λ ks t. ap (λ js. with_tuple h.whole js r) (append_assoc first (n ∷ []) ks) ∙ h.reads (n ∷ ks) (l, t);
}

pub search-found : (q : Asked) (f : ℕ → ℕ) (r : Reading) (k body : ℕ) (tuple : List ℕ) (v : Reading) → IsSearch q f r k body [] tuple v → is_among q.instances (Tuple k tuple) ≡ false → (value q.nodes body v ≡ 1 → ⊥) → IsViolated q f r (Tuple k tuple)
search-found q f r k body tuple v h fresh other = record { names = its; fresh = fresh; not_true = λ true_. other (ap (value q.nodes body) (sym read) ∙ true_ its h.holds) }
  where
    its : TupleOf q.nodes q.table k tuple
    its = record { term = h.term; bound = h.whole; body = body; at = h.at; is = h.is; fits = subst (IsTuple h.whole) (append-nil tuple) (h.fits [] tt) }

    read : with_tuple h.whole tuple r ≡ v
    read = ap (λ js. with_tuple h.whole js r) (sym (append-nil tuple)) ∙ h.reads [] tt

-- the numbers below one and this one
pub numbers-more : (P : ℕ → Type 0) (k : ℕ) → ((n : ℕ) → n < k → P n) → P k → (n : ℕ) → n < k + 1 → P n
numbers-more P k h here n l = by (cases_lt n k)
  where
    by : (n < k) ⊎ (k ≤ n) → P n
    by (inl less) = h n less
    by (inr more) =
        let e : n ≡ k = omega (arith, l, more) in
        subst P (sym e) here

-- every number for the first variable was tried
pub all-tried : (nodes : List Node) (instances : List Instance) (k body : ℕ) (b : Bound) (bs : List Bound) (first : List ℕ) (v : Reading) → ((n : ℕ) → n < b.size → AllTried nodes instances k body bs (first ++ n ∷ []) (with_var v b.id n)) → AllTried nodes instances k body (b ∷ bs) first v
all-tried nodes instances k body b bs first v h [] t = absurd t
all-tried nodes instances k body b bs first v h (n ∷ ks) t = λ out. h n t.0 ks t.1 (ap (λ js. is_among instances (Tuple k js)) (append_assoc first (n ∷ []) ks) ∙ out)

-- the one tuple was tried
pub tuple-tried : (nodes : List Node) (instances : List Instance) (k body : ℕ) (tuple : List ℕ) (v : Reading) → (is_among instances (Tuple k tuple) ≡ false → value nodes body v ≡ 1) → AllTried nodes instances k body [] tuple v
tuple-tried nodes instances k body tuple v h [] t = λ out. h (ap (λ js. is_among instances (Tuple k js)) (sym (append-nil tuple)) ∙ out)
tuple-tried nodes instances k body tuple v h (n ∷ ks) t = absurd t

-- what was tried of a quantifier is true
pub tried-true : (nodes : List Node) (table : Table) (instances : List Instance) (f : ℕ → ℕ) (r : Reading) (k term body : ℕ) (bound : List Bound) → slice_get table.quantifiers k ≡ Some term → slice_get nodes term ≡ Some (ForAll bound body) → AllTried nodes instances k body bound [] r → (ks : List ℕ) → is_among instances (Tuple k ks) ≡ false → IsTrue nodes table f r (Tuple k ks)
tried-true nodes table instances f r k term body bound at is h ks out p holds =
    let same : p.term ≡ term = same_Some p.term term (sym p.at ∙ at) in
    let node : slice_get nodes term ≡ Some (ForAll p.bound p.body) = ap (slice_get nodes) (sym same) ∙ p.is in
    let bound_is : p.bound ≡ bound = ap bound_of (sym node ∙ is) in
    let body_is : p.body ≡ body = ap body_of (sym node ∙ is) in
    subst (λ (z : List Bound × ℕ). IsTuple z.0 ks → value nodes z.1 (with_tuple z.0 ks r) ≡ 1) {x = (bound, body)} {y = (p.bound, p.body)} (λ i. (sym bound_is i, sym body_is i)) (λ t. h ks t out) p.fits

-- a quantifier that is false is true of each tuple
pub false-true : (nodes : List Node) (table : Table) (f : ℕ → ℕ) (r : Reading) (k term : ℕ) → slice_get table.quantifiers k ≡ Some term → (f term ≡ 1 → ⊥) → (ks : List ℕ) → IsTrue nodes table f r (Tuple k ks)
false-true nodes table f r k term at other ks p holds =
    let same : p.term ≡ term = same_Some p.term term (sym p.at ∙ at) in
    absurd (other (ap f (sym same) ∙ holds))
