-- What a replaced reading gives, at a tuple and inside a quantifier.
use Rattle.std.proofs.Common.{◌≡◌, ℕ, ◌%◌, ◌^◌, Bool, true, false, not, cond, ◌||◌, nat_eq, List, [], ◌∷◌, map, Some, None, refl, sym, ◌∙◌, ap, subst}
use Rattle.std.specs.Prelude.{Option}
use Rattle.std.specs.List.{All}
use Rattle.std.specs.Map.{lookup}
use Rattle.std.proofs.lemmas.Bool.{eq-eqb, ne_eqb}
use Rattle.std.proofs.lemmas.List.Elements.{All-head, All-tail}
use Rattle.hk_term.specs.Meaning.{Reading, with_var, every_below, every_tuple}
use Rattle.hk_term.specs.declared.bounds.Bound.{Bound}
use Rattle.hk_copy.specs.declared.stand.Stand.{Stand}
use Rattle.hk_copy.specs.declared.stand.Stand.TheVariants.{Number, Other}
use Rattle.hk_copy.specs.Stands.{Stands, stand_value, number_of, replaced, is_bound, without, IsApart, standing_on, standing, with_tuple}

-- ---- what an id stands for

-- what holds of all stands holds of the one that is found
pub lookup-all : (P : ℕ × Stand → Type 0) (env : Stands) (id : ℕ) (s : Stand) → All P env → lookup (nat_eq id) env ≡ Some s → (i : ℕ) × P (i, s)
lookup-all P [] id s all e = cc
lookup-all P (p ∷ env) id s all e = by (nat_eq id p.0) refl (lookup-all P env id s (All-tail P p env all))
  where
    by : (b : Bool) → nat_eq id p.0 ≡ b → (lookup (nat_eq id) env ≡ Some s → (i : ℕ) × P (i, s)) → (i : ℕ) × P (i, s)
    by true q go =
        let found : cond true (Some p.1) (lookup (nat_eq id) env) ≡ Some s = subst (λ b. cond b (Some p.1) (lookup (nat_eq id) env) ≡ Some s) q e in
        let same : p.1 ≡ s = cc in
        (p.0, subst (λ x. P (p.0, x)) same (All-head P p env all))
    by false q go = go (subst (λ b. cond b (Some p.1) (lookup (nat_eq id) env) ≡ Some s) q e)

-- an id that is not bound stands for the same inside
pub lookup-without : (bound : List Bound) (env : Stands) (id : ℕ) → is_bound bound id ≡ false → lookup (nat_eq id) (without bound env) ≡ lookup (nat_eq id) env
lookup-without bound [] id h = refl
lookup-without bound (p ∷ env) id h = by (is_bound bound p.0) refl (lookup-without bound env id h)
  where
    by : (b : Bool) → is_bound bound p.0 ≡ b → lookup (nat_eq id) (without bound env) ≡ lookup (nat_eq id) env → lookup (nat_eq id) (without bound (p ∷ env)) ≡ lookup (nat_eq id) (p ∷ env)
    by true q rest =
        let other : nat_eq id p.0 ≡ false = ne_eqb id p.0 (λ same. true_is_not_false (sym q ∙ ap (is_bound bound) (sym same) ∙ h)) in
        ap (λ b. lookup (nat_eq id) (cond (not b) (p ∷ without bound env) (without bound env))) q
        ∙ rest ∙ ap (λ b. cond b (Some p.1) (lookup (nat_eq id) env)) (sym other)
      where
        true_is_not_false : true ≡ false → ⊥
        true_is_not_false e = cc
    by false q rest =
        ap (λ b. lookup (nat_eq id) (cond (not b) (p ∷ without bound env) (without bound env))) q
        ∙ ap (cond (nat_eq id p.0) (Some p.1)) rest

-- an id that is bound stands for nothing inside
pub lookup-hidden : (bound : List Bound) (env : Stands) (id : ℕ) → is_bound bound id ≡ true → lookup (nat_eq id) (without bound env) ≡ None
lookup-hidden bound [] id h = refl
lookup-hidden bound (p ∷ env) id h = by (is_bound bound p.0) refl (lookup-hidden bound env id h)
  where
    by : (b : Bool) → is_bound bound p.0 ≡ b → lookup (nat_eq id) (without bound env) ≡ None → lookup (nat_eq id) (without bound (p ∷ env)) ≡ None
    by true q rest = ap (λ b. lookup (nat_eq id) (cond (not b) (p ∷ without bound env) (without bound env))) q ∙ rest
    by false q rest =
        let other : nat_eq id p.0 ≡ false = ne_eqb id p.0 (λ same. true_is_not_false (sym h ∙ ap (is_bound bound) same ∙ q)) in
        ap (λ b. lookup (nat_eq id) (cond (not b) (p ∷ without bound env) (without bound env))) q
        ∙ ap (λ b. cond b (Some p.1) (lookup (nat_eq id) (without bound env))) other ∙ rest
      where
        true_is_not_false : true ≡ false → ⊥
        true_is_not_false e = cc

-- ---- the numbers of a tuple

standing-with : (v : Reading) (env : Stands) (i : ℕ) (s : Stand) → replaced ((i, s) ∷ env) v ≡ with_var (replaced env v) i (stand_value v s)
standing-with v env i s = λ k. record { var = λ id. each id (nat_eq id i) k; entry = v.entry }
  where
    each : (id : ℕ) (b : Bool) → number_of v (cond b (Some s) (lookup (nat_eq id) env)) id ≡ cond b (stand_value v s) (number_of v (lookup (nat_eq id) env) id)
    each id true = refl
    each id false = refl

standing_on-tuple : (bs : List Bound) (ss : List Stand) (env : Stands) (v : Reading) → replaced (standing_on bs ss env) v ≡ with_tuple bs (map (stand_value v) ss) (replaced env v)
standing_on-tuple [] ss env v = refl
standing_on-tuple (b ∷ bs) [] env v = refl
standing_on-tuple (b ∷ bs) (s ∷ ss) env v =
    standing_on-tuple bs ss ((b.id, s) ∷ env) v ∙ ap (with_tuple bs (map (stand_value v) ss)) (standing-with v env b.id s)

-- the reading in which the bound variables stand for a tuple is the reading with the tuple of their numbers
pub replaced-tuple : (bs : List Bound) (ss : List Stand) (v : Reading) → replaced (standing bs ss) v ≡ with_tuple bs (map (stand_value v) ss) v
replaced-tuple bs ss v = standing_on-tuple bs ss [] v

-- ---- inside a quantifier

-- w is the replaced reading of u but for the variables that are still to be bound
record IsNearly (env : Stands) (bs : List Bound) (u w : Reading) : Type 0 where
  var : (id : ℕ) → is_bound bs id ≡ false → w.var id ≡ number_of u (lookup (nat_eq id) env) id
  entry : w.entry ≡ u.entry

-- the variables still to be bound are hidden and stand for nothing
record AreHidden (env : Stands) (bs : List Bound) : Type 0 where
  hidden : (id : ℕ) → is_bound bs id ≡ true → lookup (nat_eq id) env ≡ None
  apart : (id i size other : ℕ) → is_bound bs id ≡ true → lookup (nat_eq i) env ≡ Some (Other size other) → nat_eq other id ≡ false

module _ (env : Stands) where
  first_hidden : (b : Bound) (bs : List Bound) → AreHidden env (b ∷ bs) → (id : ℕ) → nat_eq id b.id ≡ true → lookup (nat_eq id) env ≡ None
  first_hidden b bs h id e = h.hidden id (ap (λ x. x || is_bound bs id) e)

  later_hidden : (b : Bound) (bs : List Bound) → AreHidden env (b ∷ bs) → AreHidden env bs
  later_hidden b bs h = record {
    hidden = λ id e. h.hidden id (ap (λ x. nat_eq id b.id || x) e ∙ or_true (nat_eq id b.id));
    apart = λ id i size other e. h.apart id i size other (ap (λ x. nat_eq id b.id || x) e ∙ or_true (nat_eq id b.id));
  }
    where
      or_true : (x : Bool) → (x || true) ≡ true
      or_true true = refl
      or_true false = refl

  bind : (b : Bound) (bs : List Bound) (u w : Reading) (k : ℕ) → AreHidden env (b ∷ bs) → IsNearly env (b ∷ bs) u w → IsNearly env bs (with_var u b.id k) (with_var w b.id k)
  bind b bs u w k h near = record { var = λ id e. at id e (nat_eq id b.id) refl; entry = near.entry }
    where
      its : nat_eq b.id b.id ≡ true
      its = eq-eqb b.id b.id refl

      same : (id : ℕ) → nat_eq id b.id ≡ false → (o : Option Stand) → lookup (nat_eq id) env ≡ o → number_of u o id ≡ number_of (with_var u b.id k) o id
      same id e None q = ap {B = ℕ} (λ x. cond x k (u.var id)) (sym e)
      same id e (Some (Number n)) q = refl
      same id e (Some (Other size other)) q =
          let off : nat_eq other b.id ≡ false = h.apart b.id id size other (ap (λ x. x || is_bound bs b.id) its) q in
          ap (λ x. cond x k (u.var other) % 2 ^ size) (sym off)

      at : (id : ℕ) → is_bound bs id ≡ false → (x : Bool) → nat_eq id b.id ≡ x → cond (nat_eq id b.id) k (w.var id) ≡ number_of (with_var u b.id k) (lookup (nat_eq id) env) id
      at id e true q =
          ap (λ x. cond x k (w.var id)) q ∙ ap {B = ℕ} (λ x. cond x k (u.var id)) (sym q)
          ∙ ap (λ o. number_of (with_var u b.id k) o id) (sym (first_hidden b bs h id q))
      at id e false q =
          ap (λ x. cond x k (w.var id)) q
          ∙ near.var id (ap (λ x. x || is_bound bs id) q ∙ e)
          ∙ same id q (lookup (nat_eq id) env) refl

  tuples-same : (bs : List Bound) (p q : Reading → Bool) (u w : Reading) → AreHidden env bs → IsNearly env bs u w → ((x : Reading) → p x ≡ q (replaced env x)) → every_tuple bs p u ≡ every_tuple bs q w
  tuples-same [] p q u w h near e = e u ∙ ap q (λ i. record { var = λ id. sym (near.var id refl) i; entry = sym near.entry i })
  tuples-same (b ∷ bs) p q u w h near e =
      ap (every_below b.size) (λ i k. tuples-same bs p q (with_var u b.id k) (with_var w b.id k) (later_hidden b bs h) (bind b bs u w k h near) e i)

-- a test of each tuple of a quantifier's variables, and the test of the copy: inside, the ids of the quantifier stand for nothing
pub every_tuple-copied : (bound : List Bound) (env : Stands) (p q : Reading → Bool) (v : Reading) → All (λ e. IsApart bound e.1) (without bound env) → ((u : Reading) → p u ≡ q (replaced (without bound env) u)) → every_tuple bound p v ≡ every_tuple bound q (replaced env v)
every_tuple-copied bound env p q v apart e =
    tuples-same (without bound env) bound p q v (replaced env v)
    (record { hidden = lookup-hidden bound env; apart = off })
    (record { var = λ id h. ap (λ o. number_of v o id) (sym (lookup-without bound env id h)); entry = refl })
    e
  where
    off : (id i size other : ℕ) → is_bound bound id ≡ true → lookup (nat_eq i) (without bound env) ≡ Some (Other size other) → nat_eq other id ≡ false
    off id i size other h found =
        let free : is_bound bound other ≡ false = (lookup-all (λ x. IsApart bound x.1) (without bound env) i (Other size other) apart found).1 in
        ne_eqb other id (λ same. true_is_not_false (sym h ∙ ap (is_bound bound) (sym same) ∙ free))
      where
        true_is_not_false : true ≡ false → ⊥
        true_is_not_false e = cc
