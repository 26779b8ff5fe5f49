-- What an insertion of a node with its width does to the entries.
use Rattle.std.proofs.Common.{◌≡◌, ℕ, zero, suc, ◌++◌, ◌⊎◌, Bool, true, false, cond, List, [], ◌∷◌, length, Some, Contains, arith, rules, refl, sym, ◌∙◌, ap, subst, inl, inr, ◌+◌}
use Rattle.std.specs.Prelude.{unwrap_or, not, nat_eq}
use Rattle.std.specs.List.{slice_get, position_or_len}
use Rattle.std.specs.Map.{keys_of}
use Rattle.std.proofs.lemmas.Option.{slice_get-get_or}
use Rattle.indexmap.specs.IndexMap.{insert_entry}
use Rattle.hk_term.specs.Kept.{IsPlaced}
use Rattle.hk_term.specs.declared.node.Node.{Node}
use Rattle.hk_term.specs.declared.node.Node.TheVariants.{Const, Var, Select, Unary, Binary, Choose, Resize, ForAll}
use Rattle.hk_term.specs.contracts.node.NodePartialEq.TheImpl.{eq-value}
use Rattle.hk_term.specs.contracts.node.NodeEq.TheImpl.Laws.{laws-law}
use Rattle.std.specs.Cmp.{first_so, second_so}
use Rattle.std.specs.Cmp.Lexicographic.{pointwise}
use Rattle.std.proofs.lemmas.Bool.{eqb-true}
use Rattle.hk_term.specs.Same.{bound_eq, bounds_same}

abbrev pub node_eq : Node → Node → Bool
node_eq = eq-value.it

pub node_same : (x y : Node) → node_eq x y ≡ true → x ≡ y
node_same (Const w n) (Const w' n') h = search rules
node_same (Var w n) (Var w' n') h = search rules
node_same (Select a w i) (Select a' w' i') h = search rules
node_same (Unary k a) (Unary k' a') h = search rules
node_same (Binary k a b) (Binary k' a' b') h = search rules
node_same (Choose c a b) (Choose c' a' b') h = search rules
node_same (Resize k to a) (Resize k' to' a') h = search rules
node_same (ForAll bs a) (ForAll bs' a') h =
    let bounds : bs ≡ bs' = bounds_same bs bs' (first_so (pointwise bound_eq bs bs') (nat_eq a a') h) in
    let bodies : a ≡ a' = eqb-true a a' (second_so (pointwise bound_eq bs bs') (nat_eq a a') h) in
    λ i. ForAll (bounds i) (bodies i)
node_same x y h = cc

pub node_itself : (x : Node) → node_eq x x ≡ true
node_itself x = laws-law.refl x

one_more : (n : ℕ) → 1 + n ≡ suc n
one_more n = omega arith

module _ {K X : Type 0} (eq : K → K → Bool) (same : (x y : K) → eq x y ≡ true → x ≡ y) (own : (x : K) → eq x x ≡ true) where
  -- a key that stands first, with this value
  first : (e : K × X) (es : List (K × X)) (k : K) (x : X) → ((i : ℕ) (w : X) → slice_get (e ∷ es) i ≡ Some (k, w) → w ≡ x) → eq k e.0 ≡ true → insert_entry eq (e ∷ es) k x ≡ e ∷ es
  first e es k x known h =
      let key : k ≡ e.0 = same k e.0 h in
      let kept : e.1 ≡ x = known 0 e.1 (λ i. Some (sym key i, e.1)) in
      ap (λ b. cond b ((e.0, x) ∷ es) (e ∷ insert_entry eq es k x)) h ∙ (λ i. (e.0, sym kept i) ∷ es)

  -- a key that is there, with this value
  pub insert_there : (es : List (K × X)) (k : K) (x : X) (i : ℕ) → ((j : ℕ) (w : X) → slice_get es j ≡ Some (k, w) → w ≡ x) → slice_get (keys_of es) i ≡ Some k → insert_entry eq es k x ≡ es
  insert_there [] k x i known at = cc
  insert_there (e ∷ es) k x zero known at =
      let key : e.0 ≡ k = ap (λ o. unwrap_or o k) at in
      first e es k x known (subst (λ y. eq k y ≡ true) (sym key) (own k))
  insert_there (e ∷ es) k x (suc i) known at = by (eq k e.0) refl (insert_there es k x i (λ j w. known (suc j) w) at)
    where
      by : (b : Bool) → eq k e.0 ≡ b → insert_entry eq es k x ≡ es → insert_entry eq (e ∷ es) k x ≡ e ∷ es
      by true h rest = first e es k x known h
      by false h rest = ap (λ b. cond b ((e.0, x) ∷ es) (e ∷ insert_entry eq es k x)) h ∙ ap (λ l. e ∷ l) rest

  -- a key is there, or goes to the end
  pub insert_known : (es : List (K × X)) (k : K) (x : X) → ((j : ℕ) (w : X) → slice_get es j ≡ Some (k, w) → w ≡ x) → ((slice_get es (position_or_len (eq k) (keys_of es)) ≡ Some (k, x)) × (insert_entry eq es k x ≡ es)) ⊎ ((position_or_len (eq k) (keys_of es) ≡ length es) × (insert_entry eq es k x ≡ es ++ (k, x) ∷ []))
  insert_known [] k x known = inr (refl, refl)
  insert_known (e ∷ es) k x known = by (eq k e.0) refl (insert_known es k x (λ j w. known (suc j) w))
    where
      by : (b : Bool) → eq k e.0 ≡ b → ((slice_get es (position_or_len (eq k) (keys_of es)) ≡ Some (k, x)) × (insert_entry eq es k x ≡ es)) ⊎ ((position_or_len (eq k) (keys_of es) ≡ length es) × (insert_entry eq es k x ≡ es ++ (k, x) ∷ [])) → ((slice_get (e ∷ es) (position_or_len (eq k) (keys_of (e ∷ es))) ≡ Some (k, x)) × (insert_entry eq (e ∷ es) k x ≡ e ∷ es)) ⊎ ((position_or_len (eq k) (keys_of (e ∷ es)) ≡ length (e ∷ es)) × (insert_entry eq (e ∷ es) k x ≡ (e ∷ es) ++ (k, x) ∷ []))
      by true h rest =
          let key : k ≡ e.0 = same k e.0 h in
          let kept : e.1 ≡ x = known 0 e.1 (λ i. Some (sym key i, e.1)) in
          inl (ap (λ b. slice_get (e ∷ es) (cond (not b) (1 + position_or_len (eq k) (keys_of es)) 0)) h ∙ (λ i. Some (sym key i, kept i)), first e es k x known h)
      by false h (inl p) =
          inl (ap (λ b. slice_get (e ∷ es) (cond (not b) (1 + position_or_len (eq k) (keys_of es)) 0)) h ∙ ap (λ n. slice_get (e ∷ es) n) (one_more (position_or_len (eq k) (keys_of es))) ∙ p.0, ap (λ b. cond b ((e.0, x) ∷ es) (e ∷ insert_entry eq es k x)) h ∙ ap (λ l. e ∷ l) p.1)
      by false h (inr p) =
          inr (ap (λ b. cond (not b) (1 + position_or_len (eq k) (keys_of es)) 0) h ∙ (one_more (position_or_len (eq k) (keys_of es))) ∙ ap suc p.0, ap (λ b. cond b ((e.0, x) ∷ es) (e ∷ insert_entry eq es k x)) h ∙ ap (λ l. e ∷ l) p.1)

-- what `insert_full` gives
pub placed : (old new : List (Node × ℕ)) (n : Node) (w i : ℕ) → ((j u : ℕ) → slice_get old j ≡ Some (n, u) → u ≡ w) → new ≡ insert_entry node_eq old n w → i ≡ position_or_len (node_eq n) (keys_of old) → IsPlaced old new n w i
placed old new n w i known is place = by (insert_known node_eq node_same node_itself old n w known)
  where
    by : ((slice_get old (position_or_len (node_eq n) (keys_of old)) ≡ Some (n, w)) × (insert_entry node_eq old n w ≡ old)) ⊎ ((position_or_len (node_eq n) (keys_of old) ≡ length old) × (insert_entry node_eq old n w ≡ old ++ (n, w) ∷ [])) → IsPlaced old new n w i
    by (inl p) = inl (ap (λ k. slice_get old k) place ∙ p.0, is ∙ p.1)
    by (inr p) = inr (place ∙ p.0, is ∙ p.1)

pub there : (old new : List (Node × ℕ)) (n : Node) (w : ℕ) → ((j u : ℕ) → slice_get old j ≡ Some (n, u) → u ≡ w) → new ≡ insert_entry node_eq old n w → Contains (keys_of old) n → new ≡ old
there old new n w known is has =
    is ∙ insert_there node_eq node_same node_itself old n w has.0 known (slice_get-get_or (keys_of old) has.0 n has.1 ∙ ap Some has.2)
