-- What a scope keeps of registers, against their whole types.
use Rattle.std.proofs.Common.{◌≡◌, ℕ, zero, suc, ◌<◌, ◌≤◌, Bool, true, false, ◌&&◌, Option, Some, None, option_map, List, [], ◌∷◌, ◌-◌, length, map, take, drop, refl, sym, ◌∙◌, ap, subst, arith, rules}
use Rattle.std.specs.Prelude.{slice_get, IfSome}
use Rattle.ir_ast.specs.Plain.{Ty}
use Rattle.std.proofs.lemmas.List.{take_all}
use Rattle.ir_ast.specs.View.{view_indices, view_index_list}
use Rattle.ir_ast.specs.declared.types.IrType.{IrType}
use Rattle.ir_ast.specs.declared.operand.Operand.{Operand}
use Rattle.ir_ast.specs.declared.operand.IndexList.{IndexList}
use Rattle.ir_ast.specs.declared.operand.Operand.TheFolds.{fold_out-IndexList}
use Rattle.ir_ast.specs.Table.{place_of}
use Rattle.ir_type.specs.Whole.{is_scalar, is_same}
use Rattle.ir_type.specs.Names.{entry_of}
use Rattle.ir_type.proofs.Places.{at_place, no_place, get_below}
use Rattle.ir_whole.specs.Heads.{Grows, type_at, fields, RowFits, Stands}
use Rattle.ir_whole.specs.Numbers.{types_of, IsFor}
use Rattle.ir_whole.specs.declared.numbers.TypeNumbers.{TypeNumbers}
use Rattle.ir_typing.specs.declared.held.Held.{Held}
use Rattle.ir_typing.specs.declared.held.Held.TheVariants.{Value, Slot, Pair}
use Rattle.ir_typing.specs.declared.scope.Scope.{Scope}
use Rattle.ir_typing.specs.Registers.{Kind, value_of, slot_of, pair_of, registers_of}
use Rattle.ir_typing.specs.Fits.{whole_kind, fits_kind, list_of, steps, steps_over}
use Rattle.ir_typing.specs.Kinds.{kind_at}
use Rattle.ir_typing.specs.Scoped.{function_in, types_in, scope_in, held_at, held_in, IsTyped}
use Rattle.ir_typing.proofs.Entered.{entry_seen}
use Rattle.ir_typing.proofs.KindSteps.{grows_none}
use Rattle.ir_typing.proofs.Keeping.{still_kinds}

pub typed_grows : (old new : TypeNumbers) (s : Scope) → IsTyped old s → IsFor (types_in s) new
    → ((first : List Ty) → Grows first (types_of old) → Grows first (types_of new)) → IsTyped new s
typed_grows old new s typed own grows = record {
  small = typed.small;
  own = own;
  kinds = still_kinds (types_of old) (types_of new) (grows (types_of old) (grows_none (types_of old))) (λ (r : List ℕ × Kind). whole_kind (types_in s) r.1) s.kinds.items (registers_of (function_in s)) typed.kinds;
}

index_of : (types : List Ty) (n : ℕ) (t : Ty) → slice_get types n ≡ Some t → type_at types n ≡ t
index_of [] n t e = absurd cc
index_of (x ∷ types) zero t e = cc
index_of (x ∷ types) (suc n) t e = index_of types n t e

pub number_at : (types : List Ty) (n : ℕ) (t : Ty) → slice_get types n ≡ Some t → type_at types n ≡ t
number_at types n t e = index_of types n t e

-- ---- a register

mapped_at : {X : Type 0} (numbers : List Ty) (see : X → Kind) (helds : List Held) (rs : List X) (p : ℕ) (r : X) → map (kind_at numbers) helds ≡ map (λ r. Some (see r)) rs → slice_get rs p ≡ Some r
    → (h : Held) × (slice_get helds p ≡ Some h) × (kind_at numbers h ≡ Some (see r))
mapped_at numbers see helds [] p r e there = absurd cc
mapped_at numbers see [] (x ∷ rs) p r e there = absurd cc
mapped_at numbers see (h ∷ helds) (x ∷ rs) zero r e there =
    let same : x ≡ r = cc in
    let first : kind_at numbers h ≡ Some (see x) = cc in
    (h, refl, first ∙ ap (λ y. Some (see y)) same)
mapped_at numbers see (h ∷ helds) (x ∷ rs) (suc p) r e there =
    let rest : map (kind_at numbers) helds ≡ map (λ r. Some (see r)) rs = cc in
    mapped_at numbers see helds rs p r rest there

-- what is kept of a name is its kind
pub held_told : (numbers : TypeNumbers) (s : Scope) (x : List ℕ) → IsTyped numbers s
    → option_map (kind_at (types_of numbers)) (held_in s x) ≡ option_map Some (entry_of x (scope_in s).registers)
held_told numbers s x typed = pick (place_of x (registers_of (function_in s))) refl
  where
    seen : entry_of x (scope_in s).registers ≡ option_map (whole_kind (types_in s)) (entry_of x (registers_of (function_in s)))
    seen = entry_seen (whole_kind (types_in s)) (registers_of (function_in s)) x

    pick : (o : Option ℕ) → place_of x (registers_of (function_in s)) ≡ o
        → option_map (kind_at (types_of numbers)) (held_in s x) ≡ option_map Some (entry_of x (scope_in s).registers)
    pick None h =
        ap (λ o. option_map (kind_at (types_of numbers)) (held_at s.kinds.items o)) h
        ∙ sym (ap (option_map Some) (seen ∙ ap (option_map (whole_kind (types_in s))) (no_place (registers_of (function_in s)) x h)))
    pick (Some p) h =
        let at = at_place (registers_of (function_in s)) x p h in
        let m = mapped_at (types_of numbers) (λ (r : List ℕ × Kind). whole_kind (types_in s) r.1) s.kinds.items (registers_of (function_in s)) p (x, at.0) typed.kinds at.1.there in
        ap (λ o. option_map (kind_at (types_of numbers)) (held_at s.kinds.items o)) h
        ∙ ap (option_map (kind_at (types_of numbers))) m.1
        ∙ ap Some m.2
        ∙ sym (ap (option_map Some) (seen ∙ ap (option_map (whole_kind (types_in s))) at.1.found))

-- a number that tells a kind
pub record Tells (numbers : List Ty) (make : Ty → Kind) (n : ℕ) (k : Option Kind) : Type 0 where
  pub within : n < length numbers
  pub is : k ≡ Some (make (type_at numbers n))

told : (numbers : List Ty) (make : Ty → Kind) (n : ℕ) (k : Option Kind) → Some (option_map make (slice_get numbers n)) ≡ option_map Some k → Tells numbers make n k
told numbers make n None e = absurd cc
told numbers make n (Some k) e = pick (slice_get numbers n) refl cc
  where
    pick : (o : Option Ty) → slice_get numbers n ≡ o → option_map make o ≡ Some k → Tells numbers make n (Some k)
    pick None h e = absurd cc
    pick (Some t) h e = record {
      within = get_below numbers n t h;
      is = sym (ap (λ u. Some (make u)) (number_at numbers n t h) ∙ e);
    }

module _ (numbers : List Ty) (o : Option Held) (k : Option Kind) (e : option_map (kind_at numbers) o ≡ option_map Some k) where
  pub of_value : (n : ℕ) → o ≡ Some (Value n) → Tells numbers value_of n k
  of_value n is = told numbers value_of n k (sym (ap (option_map (kind_at numbers)) is) ∙ e)

  pub of_slot : (n : ℕ) → o ≡ Some (Slot n) → Tells numbers slot_of n k
  of_slot n is = told numbers slot_of n k (sym (ap (option_map (kind_at numbers)) is) ∙ e)

  pub of_pair : (n : ℕ) → o ≡ Some (Pair n) → Tells numbers pair_of n k
  of_pair n is = told numbers pair_of n k (sym (ap (option_map (kind_at numbers)) is) ∙ e)

  pub of_none : o ≡ None → k ≡ None
  of_none is = none k (sym (ap (option_map (kind_at numbers)) is) ∙ e)
    where
      none : (k : Option Kind) → None ≡ option_map {U = Option Kind} Some k → k ≡ None
      none None e = refl
      none (Some k) e = absurd cc

pub fits_value : (k : Option Kind) (t u : Ty) (r : Bool) → k ≡ Some (value_of u) → true ≡ is_scalar t → r ≡ is_same u t → r ≡ fits_kind t k
fits_value k t u r is scalar e = e ∙ ap (λ b. b && is_same u t) scalar ∙ sym (ap (fits_kind t) is)

pub no_scalar : (k : Option Kind) (t u : Ty) → k ≡ Some (value_of u) → false ≡ is_scalar t → false ≡ fits_kind t k
no_scalar k t u is scalar = ap (λ b. b && is_same u t) scalar ∙ sym (ap (fits_kind t) is)

-- ---- fields and rows

pub row_below : (row : List ℕ) (n k p : ℕ) → RowFits n row → slice_get row k ≡ Some p → (0 < p) × (p < n)
row_below [] n k p f e = absurd cc
row_below (x ∷ row) n zero p f e = let same : x ≡ p = cc in subst (λ y. (0 < y) × (y < n)) same (f.0, f.1)
row_below (x ∷ row) n (suc k) p f e = row_below row n k p f.2 e

pub row_field : (types : List Ty) (row : List ℕ) (k : ℕ) → option_map (type_at types) (slice_get row k) ≡ slice_get (list_of (fields types row)) k
row_field types [] k = refl
row_field types (x ∷ row) zero = refl
row_field types (x ∷ row) (suc k) = row_field types row k

pub row_within : (row : List ℕ) (n k : ℕ) (o : Option ℕ) → RowFits n row → o ≡ slice_get row k → IfSome o (λ p. (0 < p) × (p < n))
row_within row n k None f e = tt
row_within row n k (Some p) f e = row_below row n k p f (sym e)

pub within_more : (o : Option ℕ) (n m : ℕ) → n < m → IfSome o (λ p. (0 < p) × (p < n)) → IfSome o (λ p. (0 < p) × (p < m))
within_more None n m l i = tt
within_more (Some p) n m l i = (i.0, omega (arith, i.1, l))

-- ---- the indices of an address

pub list_is : (l : IndexList) → view_index_list l ≡ view_indices l.items.items
list_is l = search (rules, fold_out-IndexList)

stands_some : (numbers : List Ty) (n : ℕ) (o : Option Ty) → (n ≡ 0 → ⊥) → Stands numbers n o → o ≡ Some (type_at numbers n)
stands_some numbers n None some stands = absurd (some stands)
stands_some numbers n (Some t) some stands = ap Some (sym (number_at numbers n t stands.1))

pub steps_behind : (numbers : List Ty) (n : ℕ) (o : Option Ty) (is : List (IrType × Operand)) (r : Bool) → (n ≡ 0 → ⊥) → Stands numbers n o → 1 ≤ length is
    → r ≡ steps (Some (type_at numbers n)) (view_indices (take (length is - 1) (drop 1 is))) → r ≡ steps_over o (view_indices is)
steps_behind numbers n o [] r some stands l e = absurd (omega (arith, l))
steps_behind numbers n o (i ∷ is) r some stands l e =
    let all : take (length (i ∷ is) - 1) is ≡ is = take_all (length (i ∷ is) - 1) is (omega arith) in
    e ∙ ap (λ js. steps (Some (type_at numbers n)) (view_indices js)) all ∙ ap (λ p. steps p (view_indices is)) (sym (stands_some numbers n o some stands))
