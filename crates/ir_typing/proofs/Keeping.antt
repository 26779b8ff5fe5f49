-- Registers that are added behind others.
use Rattle.std.proofs.Common.{◌≡◌, ℕ, zero, suc, ◌+◌, ◌<◌, ◌≤◌, ◌^◌, Option, Some, None, option_map, List, [], ◌∷◌, ◌++◌, length, map, refl, sym, ◌∙◌, ap, subst, arith, append-nil, append_assoc, length-append, add-one, take, get_or, lit<}
use Rattle.std.proofs.Math.Seq.{take-suc}
use Rattle.std.specs.Prelude.{slice_get, flat_map, option_to_list}
use Rattle.std.proofs.lemmas.List.{length-map}
use Rattle.ir_ast.specs.Plain.{Ty}
use Rattle.ir_type.specs.Whole.{Types}
use Rattle.ir_whole.specs.Heads.{Grows}
use Rattle.ir_typing.specs.declared.held.Held.{Held}
use Rattle.ir_typing.specs.declared.held.Held.TheVariants.{Value, Slot, Pair}
use Rattle.ir_ast.specs.Program.{InstrView}
use Rattle.ir_ast.specs.View.{view_type}
use Rattle.ir_ast.specs.ProgramView.{view_instr, view_block, view_function}
use Rattle.ir_ast.specs.declared.types.IrType.{IrType}
use Rattle.ir_ast.specs.declared.instr.Instr.{Instr}
use Rattle.ir_ast.specs.declared.instr.Block.{Block}
use Rattle.ir_ast.specs.declared.instr.Function.{Function}
use Rattle.ir_typing.specs.Kept.{of_parameters, of_instrs, of_blocks}
use Rattle.ir_typing.specs.declared.registers.Registers.{Registers}
use Rattle.ir_typing.specs.Registers.{Kind, value_of, slot_of, pair_of, kind_of, set_by, registers_of, blocks_of}
use Rattle.ir_typing.specs.Adding.{Adds}
use Rattle.ir_typing.specs.Fits.{whole_kind}
use Rattle.ir_typing.specs.Places.{with_place, AreFirsts}
use Rattle.ir_typing.specs.Kinds.{kind_at, IsKindOf, AreKept}
use Rattle.ir_typing.proofs.FirstPlaces.{first_added, grown, map_push}

get_front : {A : Type 0} (xs more : List A) (n : ℕ) (a : A) → slice_get xs n ≡ Some a → slice_get (xs ++ more) n ≡ Some a
get_front [] more n a e = absurd cc
get_front (x ∷ xs) more zero a e = e
get_front (x ∷ xs) more (suc n) a e = get_front xs more n a e

pub still_there : {A : Type 0} (old new : List A) → Grows old new → (n : ℕ) (a : A) → slice_get old n ≡ Some a → slice_get new n ≡ Some a
still_there {A} old new g n a e = subst (λ (xs : List A). slice_get xs n ≡ Some a) (sym g.is) (get_front old g.more n a e)

module _ (before after : List Ty) (g : Grows before after) where
  still_of : (make : Ty → Kind) (n : ℕ) (k : Kind) → option_map make (slice_get before n) ≡ Some k → option_map make (slice_get after n) ≡ Some k
  still_of make n k e = pick (slice_get before n) refl e
    where
      pick : (o : Option Ty) → slice_get before n ≡ o → option_map make o ≡ Some k → option_map make (slice_get after n) ≡ Some k
      pick None h e = absurd cc
      pick (Some t) h e = ap (option_map make) (still_there before after g n t h) ∙ e

  pub still_kind : (held : Held) (k : Kind) → kind_at before held ≡ Some k → kind_at after held ≡ Some k
  still_kind (Value n) k e = still_of value_of n k e
  still_kind (Slot n) k e = still_of slot_of n k e
  still_kind (Pair n) k e = still_of pair_of n k e

  pub still_kinds : {X : Type 0} (see : X → Kind) (helds : List Held) (rs : List X) → map (kind_at before) helds ≡ map (λ r. Some (see r)) rs → map (kind_at after) helds ≡ map (λ r. Some (see r)) rs
  still_kinds see [] [] e = refl
  still_kinds see [] (r ∷ rs) e = absurd cc
  still_kinds see (h ∷ helds) [] e = absurd cc
  still_kinds see (h ∷ helds) (r ∷ rs) e =
      let first : kind_at before h ≡ Some (see r) = cc in
      let rest : map (kind_at before) helds ≡ map (λ r. Some (see r)) rs = cc in
      let one = still_kind h (see r) first in
      let more = still_kinds see helds rs rest in
      ap (λ x. x ∷ map (kind_at after) helds) one ∙ ap (λ xs. Some (see r) ∷ xs) more

module _ (types : Types) where
  pub kept_grows : (before after : List Ty) (rs : List (List ℕ × Kind)) (places : List (List ℕ × ℕ)) (kinds : List Held) → Grows before after
      → AreKept types before rs places kinds → AreKept types after rs places kinds
  kept_grows before after rs places kinds g k = record {
    firsts = k.firsts;
    held = still_kinds before after g (λ (r : List ℕ × Kind). whole_kind types r.1) kinds rs k.held;
    few = k.few;
    small = k.small;
  }

  -- one more register
  pub kept_one : (numbers : List Ty) (rs : List (List ℕ × Kind)) (x : List ℕ) (k : Kind) (held : Held) (places after : List (List ℕ × ℕ)) (kinds more : List Held)
      → kind_at numbers held ≡ Some (whole_kind types k) → after ≡ with_place places x (length kinds) → more ≡ kinds ++ held ∷ [] → length more < 2 ^ 32
      → AreKept types numbers rs places kinds → AreKept types numbers (rs ++ (x, k) ∷ []) after more
  kept_one numbers rs x k held places after kinds more is placed pushed small kept = record {
    firsts =
        let same : length kinds ≡ length (map (λ (r : List ℕ × Kind). r.0) rs)
        = sym (length-map kinds (kind_at numbers)) ∙ ap length kept.held ∙ length-map rs (λ r. Some (whole_kind types r.1)) ∙ sym (length-map rs (λ (r : List ℕ × Kind). r.0)) in
        subst (λ ns. AreFirsts after ns) (sym (map_push (λ (r : List ℕ × Kind). r.0) rs (x, k)))
        (subst (λ t. AreFirsts t (map (λ (r : List ℕ × Kind). r.0) rs ++ x ∷ [])) (ap (with_place places x) (sym same) ∙ sym placed)
        (first_added places (map (λ (r : List ℕ × Kind). r.0) rs) x kept.firsts));
    held = ap (map (kind_at numbers)) pushed ∙ push (kind_at numbers) kinds held ∙ ap (λ xs. xs ++ kind_at numbers held ∷ []) kept.held
        ∙ ap (λ o. map (λ (r : List ℕ × Kind). Some (whole_kind types r.1)) rs ++ o ∷ []) is
        ∙ sym (push (λ (r : List ℕ × Kind). Some (whole_kind types r.1)) rs (x, k));
    few =
        let g = grown places x (length kinds) in
        let l = ap length placed in
        let m = ap length pushed ∙ length-append kinds (held ∷ []) in
        let h : length places ≤ length kinds = kept.few in
        omega arith;
    small = small;
  }
    where
      push : {X Y : Type 0} (f : X → Y) (xs : List X) (x : X) → map f (xs ++ x ∷ []) ≡ map f xs ++ f x ∷ []
      push f [] x = refl
      push f (y ∷ xs) x = ap (λ ns. f y ∷ ns) (push f xs x)

-- the register that an instruction sets
kind_told : (types : Types) (numbers : List Ty) (o : Option Kind) (held : Held) → IsKindOf types numbers o (Some held) → (k : Kind) × (o ≡ Some k) × (kind_at numbers held ≡ Some (whole_kind types k))
kind_told types numbers None held is = absurd cc
kind_told types numbers (Some k) held is = (k, refl, cc)

kind_none : (types : Types) (numbers : List Ty) (o : Option Kind) → IsKindOf types numbers o None → o ≡ None
kind_none types numbers None is = refl
kind_none types numbers (Some k) is = absurd cc

pub record IsSet (types : Types) (numbers : List Ty) (i : InstrView) (x : List ℕ) (held : Held) : Type 0 where
  pub kind : Kind
  pub told : kind_at numbers held ≡ Some (whole_kind types kind)
  pub set : set_by i ≡ (x, kind) ∷ []

pub set_some : (types : Types) (numbers : List Ty) (i : InstrView) (x : List ℕ) (held : Held) → i.result ≡ Some x → IsKindOf types numbers (kind_of i.act) (Some held) → IsSet types numbers i x held
set_some types numbers i x held named is =
    let told = kind_told types numbers (kind_of i.act) held is in
    record {
      kind = told.0;
      told = told.2;
      set = ap (λ o. flat_map (λ x. map (λ kind. (x, kind)) (option_to_list (kind_of i.act))) (option_to_list o)) named
          ∙ ap (λ o. flat_map (λ x. map (λ kind. (x, kind)) (option_to_list o)) (x ∷ [])) told.1;
    }

pub set_none : (types : Types) (numbers : List Ty) (i : InstrView) (x : List ℕ) → i.result ≡ Some x → IsKindOf types numbers (kind_of i.act) None → set_by i ≡ []
set_none types numbers i x named is =
    ap (λ o. flat_map (λ x. map (λ kind. (x, kind)) (option_to_list (kind_of i.act))) (option_to_list o)) named
    ∙ ap (λ o. flat_map (λ x. map (λ kind. (x, kind)) (option_to_list o)) (x ∷ [])) (kind_none types numbers (kind_of i.act) is)

-- ---- steps of the code

module _ (types : Types) where
  pub adds_one : (before after : List Ty) (x : List ℕ) (k : Kind) (held : Held) (old new : Registers) → Grows before after
      → kind_at after held ≡ Some (whole_kind types k) → new.places ≡ with_place old.places x (length old.kinds.items) → new.kinds.items ≡ old.kinds.items ++ held ∷ [] → length new.kinds.items < 2 ^ 32
      → Adds types before after ((x, k) ∷ []) old new
  adds_one before after x k held old new g is placed pushed small rs kept =
      kept_one types after rs x k held old.places new.places old.kinds.items new.kinds.items is placed pushed small (kept_grows types before after rs old.places old.kinds.items g kept)

  pub adds_none : (before after : List Ty) (old : Registers) → Grows before after → Adds types before after [] old old
  adds_none before after old g rs kept =
      subst (λ xs. AreKept types after xs old.places old.kinds.items) (sym (append-nil rs)) (kept_grows types before after rs old.places old.kinds.items g kept)

  pub adds_then : (a b c : List Ty) (first rest all : List (List ℕ × Kind)) (r s t : Registers) → first ++ rest ≡ all → Adds types a b first r s → Adds types b c rest s t → Adds types a c all r t
  adds_then a b c first rest all r s t is f g rs kept =
      subst (λ xs. AreKept types c xs t.places t.kinds.items) (append_assoc rs first rest ∙ ap (λ xs. rs ++ xs) is) (g (rs ++ first) (f rs kept))

  pub adds_as : (a b : List Ty) (some more : List (List ℕ × Kind)) (r s : Registers) → some ≡ more → Adds types a b some r s → Adds types a b more r s
  adds_as a b some more r s is f rs kept = subst (λ xs. AreKept types b (rs ++ xs) s.places s.kinds.items) is (f rs kept)

flat_push : {X Y : Type 0} (set : X → List Y) (xs : List X) (x : X) → flat_map set (xs ++ x ∷ []) ≡ flat_map set xs ++ set x
flat_push set [] x = append-nil (set x)
flat_push set (y ∷ xs) x = ap (λ zs. set y ++ zs) (flat_push set xs x) ∙ sym (append_assoc (set y) (flat_map set xs) (set x))

-- what a list's elements set, one element further
pub more_set : {X Y : Type 0} (set : X → List Y) (xs : List X) (i : ℕ) (x : X) → i < length xs → x ≡ get_or xs i x → flat_map set (take i xs) ++ set x ≡ flat_map set (take (i + 1) xs)
more_set set xs i x l is =
    sym (flat_push set (take i xs) x) ∙ ap (λ y. flat_map set (take i xs ++ y ∷ [])) is ∙ ap (flat_map set) (sym (take-suc xs i x l)) ∙ ap (λ k. flat_map set (take k xs)) (sym (add-one i))

push_mapped : {X Y : Type 0} (set : X → Y) (xs : List X) (x : X) → map set (xs ++ x ∷ []) ≡ map set xs ++ set x ∷ []
push_mapped set [] x = refl
push_mapped set (y ∷ xs) x = ap (λ ns. set y ∷ ns) (push_mapped set xs x)

pub more_mapped : {X Y : Type 0} (set : X → Y) (xs : List X) (i : ℕ) (x : X) → i < length xs → x ≡ get_or xs i x → map set (take i xs) ++ set x ∷ [] ≡ map set (take (i + 1) xs)
more_mapped set xs i x l is =
    sym (push_mapped set (take i xs) x) ∙ ap (λ y. map set (take i xs ++ y ∷ [])) is ∙ ap (map set) (sym (take-suc xs i x l)) ∙ ap (λ k. map set (take k xs)) (sym (add-one i))

-- ---- the registers of a function

parameters_are : (ps : List (IrType × List ℕ)) → of_parameters ps ≡ map (λ (p : Ty × List ℕ). (p.1, value_of p.0)) (map (λ p. (view_type p.0, p.1)) ps)
parameters_are [] = refl
parameters_are (p ∷ ps) = ap (λ rs. (p.1, value_of (view_type p.0)) ∷ rs) (parameters_are ps)

instrs_are : (is : List Instr) → of_instrs is ≡ flat_map set_by (map view_instr is)
instrs_are [] = refl
instrs_are (i ∷ is) = ap (λ rs. set_by (view_instr i) ++ rs) (instrs_are is)

blocks_are : (bs : List Block) → of_blocks bs ≡ flat_map (λ b. flat_map set_by b.instrs) (map view_block bs)
blocks_are [] = refl
blocks_are (b ∷ bs) = ap (λ rs. rs ++ of_blocks bs) (instrs_are b.instrs.items.items) ∙ ap (λ rs. flat_map set_by (map view_instr b.instrs.items.items) ++ rs) (blocks_are bs)

pub registers_are : (f : Function) (ps : List (IrType × List ℕ)) (bs : List Block) → ps ≡ f.parameters.items.items → map view_block bs ≡ blocks_of (view_function f)
    → of_parameters ps ++ of_blocks bs ≡ registers_of (view_function f)
registers_are f ps bs p b =
    ap (λ rs. rs ++ of_blocks bs) (ap of_parameters p ∙ parameters_are f.parameters.items.items)
    ∙ ap (λ rs. map (λ (p : Ty × List ℕ). (p.1, value_of p.0)) (view_function f).parameters ++ rs) (blocks_are bs ∙ ap (flat_map (λ b. flat_map set_by b.instrs)) b)

pub begins : (types : Types) (numbers : List Ty) (places : List (List ℕ × ℕ)) (kinds : List Held) → places ≡ [] → kinds ≡ [] → AreKept types numbers [] places kinds
begins types numbers places kinds p k =
    subst (λ ks. AreKept types numbers [] places ks) (sym k)
    (subst (λ (ps : List (List ℕ × ℕ)). AreKept types numbers [] ps []) (sym p) (record { firsts = λ x. refl; held = refl; few = omega arith; small = lit< tt }))
