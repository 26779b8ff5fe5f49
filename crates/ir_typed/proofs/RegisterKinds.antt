-- Registers by their names: each result has a place and a kind, and a register that is set changes no other.
use Rattle.std.proofs.Common.{◌≡◌, ◌≢◌, ◌⊎◌, inl, inr, ℕ, ◌<◌, Bool, true, false, Option, Some, None, option_map, List, [], ◌∷◌, ◌++◌, length, map, refl, sym, ◌∙◌, ap, subst, arith}
use Rattle.std.specs.Prelude.{Contains, slice_get, slice_set, flat_map, option_to_list, position, bytes_eq}
use Rattle.std.specs.List.{IsDistinct, AllByRecursion}
use Rattle.std.proofs.lemmas.Bool.{cases_eq}
use Rattle.std.proofs.lemmas.List.{length-map, get_or-set_same, get_or-set_other}
use Rattle.std.proofs.lemmas.List.Elements.{Contains-append_right}
use Rattle.std.proofs.lemmas.Option.{slice_get-map}
use Rattle.ir_ast.specs.Plain.{Ty, Tys, structure, no_types, type_and}
use Rattle.ir_ast.specs.Program.{InstrView, BlockView, FunctionView, ModuleView}
use Rattle.ir_ast.specs.Table.{names_of}
use Rattle.ir_type.specs.Names.{entry_of}
use Rattle.ir_type.specs.Whole.{Types, is_scalar}
use Rattle.ir_type.proofs.Places.{at_place, place_there, same_first, same_second, some_same, get_below}
use Rattle.ir_typing.specs.Registers.{Kind, value_of, slot_of, pair_of, kind_of, set_by, blocks_of, registers_of}
use Rattle.ir_typing.specs.Places.{register_names}
use Rattle.ir_typing.specs.Fits.{scope_of, whole_kind}
use Rattle.ir_check.proofs.PartLaws.{get_of}
use Rattle.ir_check.proofs.Undefined.{in_flat_map}
use Rattle.ir_machine.specs.declared.state.Held.{Held}
use Rattle.ir_machine.specs.Values.{Registers, held_at}
use Rattle.ir_kernel.specs.Typed.{is_held, IsSetTo}
use Rattle.ir_kernel.proofs.CodePlaces.{IsBody}

-- ---- kinds of registers that an operand can name

abbrev pub are_two : Tys → Bool
are_two (type_and t (type_and u no_types)) = true
are_two _ = false

abbrev pub is_two : Ty → Bool
is_two (structure ts) = are_two ts
is_two _ = false

-- a register of the kind can be used; that of a call without a result that is named cannot
abbrev pub is_used : Kind → Bool
is_used (value_of t) = is_scalar t
is_used (slot_of t) = true
is_used (pair_of t) = is_two t

-- the register of a name holds what its kind asks, where it can be used
abbrev pub HoldsUsed : ModuleView → FunctionView → Registers → List ℕ → Type 0
HoldsUsed m f rs x =
    (k : ℕ) (kind : Kind) → position (bytes_eq x) (register_names f) ≡ Some k → entry_of x (scope_of m f).registers ≡ Some kind → is_used kind ≡ true → IsSetTo kind (held_at rs k)

-- ---- parts of a list, in its order

data Among : List (List ℕ) → List (List ℕ) → Type 0 where
  none : Among [] []
  both : {xs ys : List (List ℕ)} → (x : List ℕ) → Among xs ys → Among (x ∷ xs) (x ∷ ys)
  more : {xs ys : List (List ℕ)} → (y : List ℕ) → Among xs ys → Among xs (y ∷ ys)

among_all : (P : List ℕ → Type 0) {xs ys : List (List ℕ)} → Among xs ys → AllByRecursion P ys → AllByRecursion P xs
among_all P none a = tt
among_all P (both x s) a = (a.0, among_all P s a.1)
among_all P (more y s) a = among_all P s a.1

among_distinct : {xs ys : List (List ℕ)} → Among xs ys → IsDistinct bytes_eq ys → IsDistinct bytes_eq xs
unfolding IsDistinct
among_distinct none d = tt
among_distinct (both x s) d = (among_all (λ y. bytes_eq x y ≡ false) s d.0, among_distinct s d.1)
among_distinct (more y s) d = among_distinct s d.1

among_itself : (xs : List (List ℕ)) → Among xs xs
among_itself [] = none
among_itself (x ∷ xs) = both x (among_itself xs)

among_joined : {xs ys us vs : List (List ℕ)} → Among xs ys → Among us vs → Among (xs ++ us) (ys ++ vs)
among_joined none t = t
among_joined (both x s) t = both x (among_joined s t)
among_joined (more y s) t = more y (among_joined s t)

names_joined : (xs ys : List (List ℕ × Kind)) → names_of (xs ++ ys) ≡ names_of xs ++ names_of ys
names_joined [] ys = refl
names_joined (x ∷ xs) ys = ap (λ ns. x.0 ∷ ns) (names_joined xs ys)

set_among : (i : InstrView) → Among (names_of (set_by i)) (option_to_list i.result)
set_among i = by i.result (kind_of i.act)
  where
    by : (r : Option (List ℕ)) (k : Option Kind) → Among (names_of (flat_map (λ (x : List ℕ). map (λ (kind : Kind). (x, kind)) (option_to_list k)) (option_to_list r))) (option_to_list r)
    by None k = none
    by (Some x) None = more x none
    by (Some x) (Some kind) = both x none

sets_among : (is : List InstrView) → Among (names_of (flat_map set_by is)) (flat_map (λ (i : InstrView). option_to_list i.result) is)
sets_among [] = none
sets_among (i ∷ is) =
    subst (λ ns. Among ns (option_to_list i.result ++ flat_map (λ (i : InstrView). option_to_list i.result) is)) (sym (names_joined (set_by i) (flat_map set_by is)))
    (among_joined (set_among i) (sets_among is))

abbrev site_names : BlockView → List (List ℕ)
site_names b = b.name ∷ flat_map (λ (i : InstrView). option_to_list i.result) b.instrs

blocks_among : (bs : List BlockView) → Among (names_of (flat_map (λ (b : BlockView). flat_map set_by b.instrs) bs)) (flat_map site_names bs)
blocks_among [] = none
blocks_among (b ∷ bs) =
    let own = flat_map set_by b.instrs in
    let rest = flat_map (λ (b : BlockView). flat_map set_by b.instrs) bs in
    let results = flat_map (λ (i : InstrView). option_to_list i.result) b.instrs in
    subst (λ ns. Among ns (b.name ∷ (results ++ flat_map site_names bs))) (sym (names_joined own rest))
    (more b.name (among_joined (sets_among b.instrs) (blocks_among bs)))

parameters_named : (ps : List (Ty × List ℕ)) → names_of (map (λ (p : Ty × List ℕ). (p.1, value_of p.0)) ps) ≡ map (λ (p : Ty × List ℕ). p.1) ps
parameters_named [] = refl
parameters_named (p ∷ ps) = ap (λ ns. p.1 ∷ ns) (parameters_named ps)

pub registers_differ : (f : FunctionView) → IsBody f → IsDistinct bytes_eq (register_names f)
registers_differ f b =
    let bs = blocks_of f in
    let all = map (λ (p : Ty × List ℕ). p.1) f.parameters in
    let distinct : IsDistinct bytes_eq (all ++ flat_map site_names bs) = subst (λ (bs : List BlockView). IsDistinct bytes_eq (all ++ flat_map site_names bs)) (sym b.blocks) b.shaped.distinct in
    let first = map (λ (p : Ty × List ℕ). (p.1, value_of p.0)) f.parameters in
    let rest = flat_map (λ (b : BlockView). flat_map set_by b.instrs) bs in
    let names : names_of (first ++ rest) ≡ all ++ names_of rest = names_joined first rest ∙ ap (λ ns. ns ++ names_of rest) (parameters_named f.parameters) in
    among_distinct
    (subst (λ ns. Among ns (all ++ flat_map site_names bs)) (sym names) (among_joined (among_itself all) (blocks_among bs))) distinct

-- ---- the place and the kind of a result

pub record IsPlaced (m : ModuleView) (f : FunctionView) (x : List ℕ) (kind : Kind) : Type 0 where
  pub place : ℕ
  pub at : position (bytes_eq x) (register_names f) ≡ Some place
  pub found : entry_of x (scope_of m f).registers ≡ Some (whole_kind m.types kind)
  pub below : place < length (register_names f)

whole_names : (types : Types) (rows : List (List ℕ × Kind)) → names_of (map (λ (r : List ℕ × Kind). (r.0, whole_kind types r.1)) rows) ≡ names_of rows
whole_names types [] = refl
whole_names types (r ∷ rows) = ap (λ ns. r.0 ∷ ns) (whole_names types rows)

pub row_placed : (m : ModuleView) (f : FunctionView) (x : List ℕ) (kind : Kind) (k : ℕ) → IsDistinct bytes_eq (register_names f) → slice_get {X = List ℕ × Kind} (registers_of f) k ≡ Some (x, kind) → IsPlaced m f x kind
row_placed m f x kind k distinct there =
    let rows = (scope_of m f).registers in
    let see : List ℕ × Kind → List ℕ × Kind = λ r. (r.0, whole_kind m.types r.1) in
    let same = whole_names m.types (registers_of f) in
    let whole_there : slice_get {X = List ℕ × Kind} rows k ≡ Some (x, whole_kind m.types kind) = slice_get-map see (registers_of f) k ∙ ap (option_map see) there in
    let found : position (bytes_eq x) (register_names f) ≡ Some k = place_there (registers_of f) x kind k distinct there in
    let place = at_place rows x k (ap (position (bytes_eq x)) same ∙ found) in
    let is : place.0 ≡ whole_kind m.types kind = same_second {A = List ℕ} {B = Kind} (x, place.0) (x, whole_kind m.types kind) (sym place.1.there ∙ whole_there) in
    let n : length (register_names f) ≡ length (registers_of f) = length-map (registers_of f) _ in
    record { place = k; at = found; found = place.1.found ∙ ap Some is; below = subst (λ n. k < n) (sym n) (get_below (registers_of f) k (x, kind) there) }

sets_row : (i : InstrView) (x : List ℕ) (kind : Kind) → i.result ≡ Some x → kind_of i.act ≡ Some kind → set_by i ≡ (x, kind) ∷ []
sets_row i x kind r k =
    ap (λ o. flat_map (λ (x : List ℕ). map (λ (kind : Kind). (x, kind)) (option_to_list (kind_of i.act))) (option_to_list o)) r
    ∙ ap (λ o. flat_map (λ (x : List ℕ). map (λ (kind : Kind). (x, kind)) (option_to_list o)) (x ∷ [])) k

pub result_placed : (m : ModuleView) (f : FunctionView) (b : BlockView) (i : InstrView) (x : List ℕ) (kind : Kind) → IsBody f → Contains (blocks_of f) b → Contains b.instrs i
    → i.result ≡ Some x → kind_of i.act ≡ Some kind → IsPlaced m f x kind
result_placed m f b i x kind body in_body in_block r k =
    let row : List ℕ × Kind = (x, kind) in
    let own : Contains (set_by i) row = subst (λ (rows : List (List ℕ × Kind)). Contains rows row) (sym (sets_row i x kind r k)) (0, omega arith, refl) in
    let in_rows : Contains (flat_map (λ (b : BlockView). flat_map set_by b.instrs) (blocks_of f)) row =
    in_flat_map (λ (b : BlockView). flat_map set_by b.instrs) (blocks_of f) b row in_body (in_flat_map set_by b.instrs i row in_block own) in
    let all : Contains (registers_of f) row = Contains-append_right (map (λ (p : Ty × List ℕ). (p.1, value_of p.0)) f.parameters) (flat_map (λ (b : BlockView). flat_map set_by b.instrs) (blocks_of f)) row in_rows in
    let at = get_of (registers_of f) row all in
    row_placed m f x kind at.0 (registers_differ f body) at.1

-- ---- registers that are set

pub same_name : (f : FunctionView) (x y : List ℕ) (k : ℕ) → position (bytes_eq x) (register_names f) ≡ Some k → position (bytes_eq y) (register_names f) ≡ Some k → x ≡ y
same_name f x y k p q =
    let a = at_place (registers_of f) x k p in
    let b = at_place (registers_of f) y k q in
    same_first {A = List ℕ} {B = Kind} (x, a.0) (y, b.0) (sym a.1.there ∙ b.1.there)

module _ (m : ModuleView) (f : FunctionView) (rs : Registers) where
  -- what a register is set to that has the name, where the kind can be used
  abbrev pub Fits : List ℕ → Held → Type 0
  Fits x h = (kind : Kind) → entry_of x (scope_of m f).registers ≡ Some kind → is_used kind ≡ true → is_held kind h ≡ true

  pub set_holds : (x y : List ℕ) (k : ℕ) (h : Held) → position (bytes_eq x) (register_names f) ≡ Some k → k < length rs → Fits x h → HoldsUsed m f rs y ⊎ (x ≡ y)
      → HoldsUsed m f (slice_set rs k (Some h)) y
  set_holds x y k h p l fits which j kind q e used = by (cases_eq j k)
    where
      other : j ≢ k → HoldsUsed m f rs y ⊎ (x ≡ y) → IsSetTo kind (held_at (slice_set rs k (Some h)) j)
      other n (inl holds) = subst (IsSetTo kind) (sym (get_or-set_other rs k j (Some h) None n)) (holds j kind q e used)
      other n (inr same) = absurd (n (some_same j k (sym q ∙ ap (λ z. position (bytes_eq z) (register_names f)) (sym same) ∙ p)))

      own : j ≡ k → IsSetTo kind (held_at (slice_set rs k (Some h)) j)
      own s =
          let named : y ≡ x = same_name f y x k (q ∙ ap Some s) p in
          subst (IsSetTo kind) (sym (ap (held_at (slice_set rs k (Some h))) s ∙ get_or-set_same rs k (Some h) None l))
          (fits kind (ap (λ z. entry_of z (scope_of m f).registers) (sym named) ∙ e) used)

      by : (j ≡ k) ⊎ (j ≢ k) → IsSetTo kind (held_at (slice_set rs k (Some h)) j)
      by (inl s) = own s
      by (inr n) = other n which
