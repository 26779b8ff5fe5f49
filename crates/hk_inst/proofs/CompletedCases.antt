-- What the completed case gives to variables and to places of arrays.
use Rattle.std.proofs.Common.{◌≡◌, ◌⊎◌, inl, inr, ℕ, Bool, true, false, cond, List, [], ◌∷◌, refl, sym, ◌∙◌, ap, arith}
use Rattle.std.specs.Prelude.{slice_get}
use Rattle.std.specs.List.{Contains}
use Rattle.hk_term.specs.declared.node.Node.{Node}
use Rattle.hk_blast.specs.Blasted.{Words, HasWord}
use Rattle.hk_inst.specs.Inputs.{is_variable, is_read_at, variable_number, entry_number}
use Rattle.hk_inst.proofs.Tuples.{clash}
use Rattle.hk_inst.proofs.Members.{has-head, has-tail, has-cases, contains-head, contains-tail, contains-cases}

pub variable-found : (nodes : List Node) (f : ℕ → ℕ) (es : Words) (t id : ℕ) → HasWord es t → is_variable (slice_get nodes t) id ≡ true → ((s : ℕ) → HasWord es s → is_variable (slice_get nodes s) id ≡ true → s ≡ t) → variable_number nodes f es id ≡ f t
variable-found nodes f [] t id h v only = clash (sym h)
variable-found nodes f (e ∷ es) t id h v only =
    by (is_variable (slice_get nodes e.0) id) refl (λ g. variable-found nodes f es t id g v (λ s k. only s (has-tail e es s k)))
  where
    by : (b : Bool) → is_variable (slice_get nodes e.0) id ≡ b → (HasWord es t → variable_number nodes f es id ≡ f t) → cond (is_variable (slice_get nodes e.0) id) (f e.0) (variable_number nodes f es id) ≡ f t
    by true c go = ap (λ b. cond b (f e.0) (variable_number nodes f es id)) c ∙ ap f (only e.0 (has-head e es) c)
    by false c go = ap (λ b. cond b (f e.0) (variable_number nodes f es id)) c ∙ later (has-cases e es t h)
      where
        later : (t ≡ e.0) ⊎ (HasWord es t) → variable_number nodes f es id ≡ f t
        later (inl d) = clash (sym v ∙ ap (λ x. is_variable (slice_get nodes x) id) d ∙ c)
        later (inr g) = go g

pub entry-found : (nodes : List Node) (f : ℕ → ℕ) (rs : List ℕ) (t array place : ℕ) → Contains rs t → is_read_at (slice_get nodes t) f array place ≡ true → ((r : ℕ) → Contains rs r → is_read_at (slice_get nodes r) f array place ≡ true → f r ≡ f t) → entry_number nodes f rs array place ≡ f t
entry-found nodes f [] t array place (k, l, e) v same = absurd (omega arith)
entry-found nodes f (r ∷ rs) t array place c v same =
    by (is_read_at (slice_get nodes r) f array place) refl (λ g. entry-found nodes f rs t array place g v (λ s k. same s (contains-tail r rs s k)))
  where
    by : (b : Bool) → is_read_at (slice_get nodes r) f array place ≡ b → (Contains rs t → entry_number nodes f rs array place ≡ f t) → cond (is_read_at (slice_get nodes r) f array place) (f r) (entry_number nodes f rs array place) ≡ f t
    by true d go = ap (λ b. cond b (f r) (entry_number nodes f rs array place)) d ∙ same r (contains-head r rs) d
    by false d go = ap (λ b. cond b (f r) (entry_number nodes f rs array place)) d ∙ later (contains-cases r rs t c)
      where
        later : (r ≡ t) ⊎ (Contains rs t) → entry_number nodes f rs array place ≡ f t
        later (inl e) = clash (sym v ∙ ap (λ x. is_read_at (slice_get nodes x) f array place) (sym e) ∙ d)
        later (inr g) = go g
