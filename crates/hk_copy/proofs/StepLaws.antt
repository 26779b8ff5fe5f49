-- The steps of the walk that copies a term: what is ready stays ready, the table grows, and fewer terms have no copy.
use Rattle.std.proofs.Common.{◌≡◌, ◌≢◌, ℕ, zero, suc, ◌+◌, ◌*◌, ◌<◌, ◌≤◌, ◌⊎◌, Bool, true, false, not, cond, nat_eq, nat_lt, List, [], length, reverse, Some, None, arith, refl, sym, ◌∙◌, ap, subst, inl, inr}
use Rattle.std.specs.List.{slice_get}
use Rattle.std.specs.Prelude.{is_some, Option, Result, Ok, Err, IfOk}
use Rattle.std.specs.Map.{lookup}
use Rattle.std.specs.BTreeMap as tree
use Rattle.std.specs.BTreeMap.{BTreeMap}
use Rattle.std.specs.Ordering.{nat_cmp, is_eq}
use Rattle.std.specs.declared.cmp.Ordering.TheVariants.{Less, Equal, Greater}
use Rattle.std.proofs.lemmas.Bool.{ne_eqb}
use Rattle.std.proofs.lemmas.Bool.Decides.{eqb_tells}
use Rattle.std.proofs.lemmas.List.{append-nil}
use Rattle.std.proofs.lemmas.List.Elements.{All-filter}
use Rattle.hk_term.specs.Shape.{width, Grows, AllFitIn}
use Rattle.hk_term.specs.Meaning.{Reading, value}
use Rattle.hk_term.proofs.TermLists.{width-grows, value-grows}
use Rattle.hk_copy.specs.Cost.{cost}
use Rattle.hk_copy.proofs.CopyLaws.{copies-width, copies-value}
use Rattle.hk_copy.proofs.CostLaws.{copies-cost, cost-longer}
use Rattle.hk_term.specs.declared.bounds.Bound.{Bound}
use Rattle.hk_term.specs.declared.node.Node.{Node}
use Rattle.hk_term.proofs.Walking.{done_more}
use Rattle.hk_copy.specs.Stands.{Stands, is_bound, without, IsApart, HasWidth, replaced}
use Rattle.hk_copy.specs.Copies.{Copies, AreReady}
use Rattle.hk_copy.specs.Making.{AllCopies, IsStanding, missing}

pub grows-refl : (ns : List Node) → Grows ns ns
grows-refl ns = record { more = []; is = sym (append-nil ns) }

-- ---- what is ready

pub ready-kept : (old new : List Node) (env : Stands) (limit : ℕ) → ((k : ℕ) → k < length old → slice_get new k ≡ slice_get old k) → limit ≤ length old → AreReady old env limit → AreReady new env limit
ready-kept old new env limit keeps h ready = record {
  widths = ready.widths;
  apart = λ k bound body l at. ready.apart k bound body l (sym (keeps k (omega (arith, l, h))) ∙ at);
}

pub ready-less : (nodes : List Node) (env : Stands) (limit less : ℕ) → less ≤ limit → AreReady nodes env limit → AreReady nodes env less
ready-less nodes env limit less h ready = record {
  widths = ready.widths;
  apart = λ k bound body l at. ready.apart k bound body (omega (arith, l, h)) at;
}

pub ready-inside : (nodes : List Node) (bound : List Bound) (env : Stands) (limit : ℕ) → AreReady nodes env limit → AreReady nodes (without bound env) limit
ready-inside nodes bound env limit ready = record {
  widths = All-filter (λ e. not (is_bound bound e.0)) (λ e. HasWidth e.1) env ready.widths;
  apart = λ k b body l at. All-filter (λ e. not (is_bound bound e.0)) (λ e. IsApart b e.1) env (ready.apart k b body l at);
}

-- ---- the table

pub not_at : (k q : ℕ) → q ≢ k → is_eq (nat_cmp k q) ≡ false
not_at k q h = by (nat_lt k q)
  where
    by : (b : Bool) → is_eq (cond b Less (cond (nat_eq k q) Equal Greater)) ≡ false
    by true = refl
    by false = ap (λ b. is_eq (cond b Equal Greater)) (ne_eqb k q (λ e. h (sym e)))

pub all-kept : (nodes : List Node) (env : Stands) (old new : BTreeMap ℕ ℕ) (t r : ℕ) → AllCopies nodes env old → Copies nodes env t r → tree.get nat_cmp new t ≡ Some r → ((k : ℕ) → k ≢ t → tree.get nat_cmp new k ≡ tree.get nat_cmp old k) → AllCopies nodes env new
all-kept nodes env old new t r all it at others k x e = by (eqb_tells k t)
  where
    by : ((nat_eq k t ≡ true) × (k ≡ t)) ⊎ ((nat_eq k t ≡ false) × (k ≢ t)) → Copies nodes env k x
    by (inl p) =
        let here : Some r ≡ Some x = sym at ∙ ap (λ j. tree.get nat_cmp new j) (sym p.1) ∙ e in
        let same : r ≡ x = cc in
        subst (λ j. Copies nodes env j x) (sym p.1) (subst (λ y. Copies nodes env t y) same it)
    by (inr p) = all k x (sym (others k p.1) ∙ e)

pub missing-most : (old new : BTreeMap ℕ ℕ) (n : ℕ) → ((k : ℕ) → is_some (tree.get nat_cmp old k) ≡ true → is_some (tree.get nat_cmp new k) ≡ true) → missing new n ≤ missing old n
missing-most old new zero keeps = omega arith
missing-most old new (suc n) keeps = omega (arith, missing-most old new n keeps, by (is_some (tree.get nat_cmp old n)) refl)
  where
    by : (b : Bool) → is_some (tree.get nat_cmp old n) ≡ b → cond (is_some (tree.get nat_cmp new n)) 0 1 ≤ cond (is_some (tree.get nat_cmp old n)) 0 1
    by true q =
        let now : ◌≡◌ {A = ℕ} (cond (is_some (tree.get nat_cmp new n)) 0 1) 0 = ap (λ b. cond b 0 1) (keeps n q) in
        omega (arith, now)
    by false q =
        let was : ◌≡◌ {A = ℕ} (cond (is_some (tree.get nat_cmp old n)) 0 1) 1 = ap (λ b. cond b 0 1) q in
        omega (arith, was, most (is_some (tree.get nat_cmp new n)))
      where
        most : (b : Bool) → cond b 0 1 ≤ 1
        most true = omega arith
        most false = omega arith

pub missing-falls : (old new : BTreeMap ℕ ℕ) (n t : ℕ) → ((k : ℕ) → is_some (tree.get nat_cmp old k) ≡ true → is_some (tree.get nat_cmp new k) ≡ true) → t < n → is_some (tree.get nat_cmp old t) ≡ false → is_some (tree.get nat_cmp new t) ≡ true → missing new n < missing old n
missing-falls old new zero t keeps h was now = absurd (omega arith)
missing-falls old new (suc n) t keeps h was now = by (eqb_tells t n) (λ l. missing-falls old new n t keeps l was now)
  where
    rest : missing new n ≤ missing old n
    rest = missing-most old new n keeps

    by : ((nat_eq t n ≡ true) × (t ≡ n)) ⊎ ((nat_eq t n ≡ false) × (t ≢ n)) → (t < n → missing new n < missing old n) → missing new (suc n) < missing old (suc n)
    by (inl p) go =
        let before : ◌≡◌ {A = ℕ} (cond (is_some (tree.get nat_cmp old n)) 0 1) 1 = ap (λ b. cond b 0 1) (ap (λ j. is_some (tree.get nat_cmp old j)) (sym p.1) ∙ was) in
        let after : ◌≡◌ {A = ℕ} (cond (is_some (tree.get nat_cmp new n)) 0 1) 0 = ap (λ b. cond b 0 1) (ap (λ j. is_some (tree.get nat_cmp new j)) (sym p.1) ∙ now) in
        omega (arith, rest, before, after)
    by (inr p) go =
        let less : missing new n < missing old n = go (omega (arith, h, p.1)) in
        omega (arith, less, step (is_some (tree.get nat_cmp old n)) refl)
      where
        step : (b : Bool) → is_some (tree.get nat_cmp old n) ≡ b → cond (is_some (tree.get nat_cmp new n)) 0 1 ≤ cond (is_some (tree.get nat_cmp old n)) 0 1
        step true q =
            let after : ◌≡◌ {A = ℕ} (cond (is_some (tree.get nat_cmp new n)) 0 1) 0 = ap (λ b. cond b 0 1) (keeps n q) in
            omega (arith, after)
        step false q =
            let before : ◌≡◌ {A = ℕ} (cond (is_some (tree.get nat_cmp old n)) 0 1) 1 = ap (λ b. cond b 0 1) q in
            omega (arith, before, most (is_some (tree.get nat_cmp new n)))
          where
            most : (b : Bool) → cond b 0 1 ≤ 1
            most true = omega arith
            most false = omega arith

-- one copy more: fewer terms have none
pub kept-falls : (old new : BTreeMap ℕ ℕ) (term at r next : ℕ) → at ≤ term → next ≤ term → tree.get nat_cmp old at ≡ None → tree.get nat_cmp new at ≡ Some r → ((k : ℕ) → k ≢ at → tree.get nat_cmp new k ≡ tree.get nat_cmp old k) → missing new (term + 1) * (term + 1) + next < missing old (term + 1) * (term + 1) + at
kept-falls old new term at r next h l none some others =
    done_more (missing old (term + 1)) (missing new (term + 1)) term at next
    (missing-falls old new (term + 1) at keeps (omega (arith, h)) (ap is_some none) (ap is_some some)) l
  where
    keeps : (k : ℕ) → is_some (tree.get nat_cmp old k) ≡ true → is_some (tree.get nat_cmp new k) ≡ true
    keeps k e = by (eqb_tells k at)
      where
        by : ((nat_eq k at ≡ true) × (k ≡ at)) ⊎ ((nat_eq k at ≡ false) × (k ≢ at)) → is_some (tree.get nat_cmp new k) ≡ true
        by (inl p) = ap (λ j. is_some (tree.get nat_cmp new j)) p.1 ∙ ap is_some some
        by (inr p) = ap is_some (others k p.1) ∙ e

-- an empty table has no copy that is none
pub none-copied : (nodes : List Node) (env : Stands) (copies : BTreeMap ℕ ℕ) → copies.entries ≡ [] → AllCopies nodes env copies
none-copied nodes env copies e k r found = absurd (none (sym (ap (λ es. lookup (λ q. is_eq (nat_cmp k q)) es) e) ∙ found))
  where
    none : ◌≡◌ {A = Option ℕ} None (Some r) → ⊥
    none x = cc

-- where a walk for a term that has no copy stands, there is none
pub standing-none : (copies : BTreeMap ℕ ℕ) (term at : ℕ) → IsStanding copies term at → tree.get nat_cmp copies term ≡ None → tree.get nat_cmp copies at ≡ None
standing-none copies term at s none = by s.1
  where
    by : (at ≡ term) ⊎ (tree.get nat_cmp copies at ≡ None) → tree.get nat_cmp copies at ≡ None
    by (inl e) = ap (λ j. tree.get nat_cmp copies j) e ∙ none
    by (inr e) = e

-- ---- the copy in the longer list, and its term in the list before

pub longer-width : (old new : List Node) → Grows old new → (k : ℕ) → k < length old → width new k ≡ width old k
longer-width old new g k h = ap (λ l. width l k) g.is ∙ width-grows old g.more k h

pub longer-value : (old new : List Node) → Grows old new → (k : ℕ) → k < length old → (v : Reading) → value new k v ≡ value old k v
longer-value old new g k h v = ap (λ l. value l k v) g.is ∙ value-grows old g.more k v h

module _ {E : Type 0} (old new : List Node) (g : Grows old new) (fit : AllFitIn (reverse new)) (env : Stands) (t : ℕ) (h : t < length old) where
  pub copied-width : (result : Result ℕ E) → IfOk result (λ r. Copies new env t r) → IfOk result (λ r. width new r ≡ width old t)
  copied-width (Ok r) c = copies-width new fit c ∙ longer-width old new g t h
  copied-width (Err e) c = c

  pub copied-value : (result : Result ℕ E) → IfOk result (λ r. Copies new env t r) → IfOk result (λ r. (v : Reading) → value new r v ≡ value old t (replaced env v))
  copied-value (Ok r) c = λ v. copies-value new fit c v ∙ longer-value old new g t h (replaced env v)
  copied-value (Err e) c = c

  pub copied-cost : (result : Result ℕ E) → IfOk result (λ r. Copies new env t r) → IfOk result (λ r. cost new r ≤ cost old t)
  copied-cost (Ok r) c = omega (arith, copies-cost new fit c, cost-longer old new g t h)
  copied-cost (Err e) c = c
