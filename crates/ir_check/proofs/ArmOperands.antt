-- Each arm against the first arm from its block, by places, and what that says of all arms by names.
use Rattle.std.proofs.Common.{◌≡◌, ◌⊎◌, inl, inr, ℕ, zero, suc, ◌+◌, Bool, true, false, cond, Option, Some, None, option_map, List, [], ◌∷◌, ◌++◌, map, position, nat_eq, refl, sym, ◌∙◌, ap, subst, arith}
use Rattle.std.specs.Prelude.{option_to_list, option_and_then, bytes_eq, slice_get, MatchBool}
use Rattle.std.specs.List.{All, Contains, IsDistinct, position_from}
use Rattle.std.proofs.lemmas.Bool.{cases_Bool}
use Rattle.std.proofs.lemmas.List.Elements.{All-contains, Contains-append_right}
use Rattle.std.proofs.lemmas.Option.{slice_get-map}
use Rattle.std.proofs.lemmas.Iterator.Adapters.{position_from-zero}
use Rattle.ir_ast.specs.Plain.{Ty, Val}
use Rattle.ir_ast.specs.Program.{BlockView, FunctionView}
use Rattle.ir_ast.specs.Table.{names_of, place_of}
use Rattle.ir_ast.specs.ProgramView.{view_arms}
use Rattle.ir_ast.specs.declared.operand.Operand.{Operand}
use Rattle.ir_type.specs.Whole.{Types, meant}
use Rattle.ir_type.proofs.Places.{at_place, some_same, same_first}
use Rattle.ir_typing.specs.Values.{by_value}
use Rattle.ir_check.specs.Arms.{MeetsCounts, HaveOneOperand, MeetsEdges, first_arm, IsAsFirst}
use Rattle.ir_check.specs.Graphs.{named_blocks, places_among}
use Rattle.ir_check.specs.Sites.{AreSources}
use Rattle.ir_check.specs.Tallies.{agree}
use Rattle.ir_check.proofs.ArmLaws.{bytes_same, same_test, names_viewed, counts_told}
use Rattle.ir_check.proofs.SiteLaws.{contains_at}
use Rattle.ir_check.proofs.Undefined.{Contains-map}
use Rattle.ir_check.proofs.UseLaws.{if_true, if_false}
use Rattle.ir_check.proofs.Taken.{all_from}

-- ---- first places

place_shifted : (x : List ℕ) (names : List (List ℕ)) → Contains names x → (i : ℕ) → (k : ℕ) × (position_from (bytes_eq x) i names ≡ Some k)
place_shifted x [] (k, l, e) i = absurd (omega (arith, l))
place_shifted x (n ∷ ns) c i = by (cases_Bool (bytes_eq x n)) c (λ d. place_shifted x ns d (i + 1))
  where
    clash : true ≡ false → ⊥
    clash e = cc

    by : (bytes_eq x n ≡ true) ⊎ (bytes_eq x n ≡ false) → Contains (n ∷ ns) x → (Contains ns x → (k : ℕ) × (position_from (bytes_eq x) (i + 1) ns ≡ Some k)) → (k : ℕ) × (position_from (bytes_eq x) i (n ∷ ns) ≡ Some k)
    by (inl t) d rest = (i, ap (λ b. cond b (Some i) (position_from (bytes_eq x) (i + 1) ns)) t)
    by (inr f) (zero, l, e) rest = absurd (clash (sym (subst (λ y. bytes_eq x y ≡ true) (sym e) (bytes_same x)) ∙ f))
    by (inr f) (suc k, l, e) rest =
        let r = rest (k, omega (arith, l), e) in
        (r.0, ap (λ b. cond b (Some i) (position_from (bytes_eq x) (i + 1) ns)) f ∙ r.1)

pub has_first : (x : List ℕ) (names : List (List ℕ)) → Contains names x → (k : ℕ) × (position (bytes_eq x) names ≡ Some k)
has_first x names c = let r = place_shifted x names c 0 in (r.0, position_from-zero (bytes_eq x) names ∙ r.1)

module _ (f : FunctionView) (distinct : IsDistinct bytes_eq (names_of (named_blocks f))) where
  abbrev at : List ℕ → Option ℕ
  at x = place_of x (named_blocks f)

  abbrev places_of : List (List ℕ) → List ℕ
  places_of names = places_among (names_of (named_blocks f)) names

  same_from : (x : List ℕ) (q : ℕ) → at x ≡ Some q → (names : List (List ℕ)) → ((y : List ℕ) → Contains names y → (k : ℕ) × (at y ≡ Some k)) → (i : ℕ)
      → position_from (nat_eq q) i (places_of names) ≡ position_from (bytes_eq x) i names
  same_from x q a [] known i = refl
  same_from x q a (n ∷ ns) known i =
      let k = known n (0, omega arith, refl) in
      let rest = same_from x q a ns (λ y c. known y (Contains-append_right (n ∷ []) ns y c)) (i + 1) in
      ap (λ (o : Option ℕ). position_from (nat_eq q) i (option_to_list o ++ places_of ns)) k.1
      ∙ ap (λ b. cond b (Some i) (position_from (nat_eq q) (i + 1) (places_of ns))) (same_test f distinct x n q k.0 a k.1)
      ∙ ap (λ (o : Option ℕ). cond (bytes_eq x n) (Some i) o) rest

  -- the first arm from a block by places is that by names
  same_first_arm : (x : List ℕ) (q : ℕ) → at x ≡ Some q → (names : List (List ℕ)) → ((y : List ℕ) → Contains names y → (k : ℕ) × (at y ≡ Some k))
      → first_arm (names_of (named_blocks f)) (places_of names) x ≡ position (bytes_eq x) names
  same_first_arm x q a names known =
      ap (λ (o : Option ℕ). option_and_then (λ q. position (nat_eq q) (places_of names)) o) a
      ∙ position_from-zero (nat_eq q) (places_of names) ∙ same_from x q a names known 0 ∙ sym (position_from-zero (bytes_eq x) names)

  module _ (types : Types) (over : Ty) (arms : List (Val × List ℕ)) (known : (x : List ℕ) → Contains (map (λ arm. arm.1) arms) x → (q : ℕ) × (at x ≡ Some q)) where
    abbrev names : List (List ℕ)
    names = map (λ arm. arm.1) arms

    abbrev value : Val → Val
    value v = by_value types (meant types over) v

    abbrev AsFirst : Val × List ℕ → Type 0
    AsFirst arm = IsAsFirst types over (names_of (named_blocks f)) (places_of names) arms arm

    turned : Val × List ℕ → List ℕ × Val
    turned arm = (arm.1, arm.0)

    turned_names : (rows : List (Val × List ℕ)) → names_of (map turned rows) ≡ map (λ arm. arm.1) rows
    unfolding turned
    turned_names [] = refl
    turned_names (r ∷ rows) = ap (λ xs. r.1 ∷ xs) (turned_names rows)

    -- what stands at the first place of a name has the name
    first_named : (x : List ℕ) (k : ℕ) → position (bytes_eq x) names ≡ Some k → (first : Val × List ℕ) → slice_get arms k ≡ Some first → first.1 ≡ x
    unfolding turned
    first_named x k place first there =
        let s = at_place (map turned arms) x k (ap (position (bytes_eq x)) (turned_names arms) ∙ place) in
        let row : List ℕ × Val = (x, s.0) in
        same_first (turned first) row (sym (slice_get-map turned arms k ∙ ap (option_map turned) there) ∙ s.1.there)

    named_arm : (a : Val × List ℕ) → Contains arms a → Contains names a.1
    named_arm a c = let to_name : Val × List ℕ → List ℕ = λ arm. arm.1 in Contains-map to_name arms a c

    -- the first arm from the block of an arm
    first_of : (a : Val × List ℕ) → Contains arms a → (k : ℕ) × (first : Val × List ℕ) × (position (bytes_eq a.1) names ≡ Some k) × (slice_get arms k ≡ Some first)
    unfolding turned
    first_of a c =
        let k = has_first a.1 names (named_arm a c) in
        let s = at_place (map turned arms) a.1 k.0 (ap (position (bytes_eq a.1)) (turned_names arms) ∙ k.1) in
        let there = sym (slice_get-map turned arms k.0) ∙ s.1.there in
        from k.0 k.1 (slice_get arms k.0) refl (a.1, s.0) there
      where
        from : (k : ℕ) → position (bytes_eq a.1) names ≡ Some k → (o : Option (Val × List ℕ)) → slice_get arms k ≡ o → (row : List ℕ × Val) → option_map turned o ≡ Some row
            → (k : ℕ) × (first : Val × List ℕ) × (position (bytes_eq a.1) names ≡ Some k) × (slice_get arms k ≡ Some first)
        from k place None e row h = absurd cc
        from k place (Some first) e row h = (k, first, place, e)

    by_first : (a : Val × List ℕ) → Contains arms a → (k : ℕ) → position (bytes_eq a.1) names ≡ Some k → first_arm (names_of (named_blocks f)) (places_of names) a.1 ≡ Some k
    by_first a c k place = let q = known a.1 (named_arm a c) in same_first_arm a.1 q.0 q.1 names known ∙ place

    pub one_by_first : ((a : Val × List ℕ) → Contains arms a → AsFirst a) → HaveOneOperand types over arms
    one_by_first all a b c d same =
        let first = first_of a c in
        let x = all a c first.0 first.1 (by_first a c first.0 first.2) first.3 in
        let y = all b d first.0 first.1 (by_first b d first.0 (ap (λ n. position (bytes_eq n) names) (sym same) ∙ first.2)) first.3 in
        sym x ∙ y

    pub first_by_one : HaveOneOperand types over arms → (a : Val × List ℕ) → Contains arms a → AsFirst a
    first_by_one one a c k first place there =
        let q = known a.1 (named_arm a c) in
        let by_name = sym (same_first_arm a.1 q.0 q.1 names known) ∙ place in
        one first a (contains_at arms k first there) c (first_named a.1 k by_name first there)

-- ---- answers of the code

module _ (types : Types) (over : Ty) (index : List (List ℕ)) (places : List ℕ) (arms : List (Val × List ℕ)) (arm : Val × List ℕ) where
  pub as_first_says : (k : ℕ) (first : Val × List ℕ) (r : Bool) → first_arm index places arm.1 ≡ Some k → slice_get arms k ≡ Some first
      → MatchBool r (by_value types (meant types over) first.0 ≡ by_value types (meant types over) arm.0) (by_value types (meant types over) first.0 ≡ by_value types (meant types over) arm.0 → ⊥)
      → MatchBool r (IsAsFirst types over index places arms arm) (IsAsFirst types over index places arms arm → ⊥)
  as_first_says k first true place there h = λ j other e t.
      let same : k ≡ j = some_same k j (sym place ∙ e) in
      let one : first ≡ other = some_same first other (sym there ∙ ap (slice_get arms) same ∙ t) in
      subst (λ (a : Val × List ℕ). by_value types (meant types over) a.0 ≡ by_value types (meant types over) arm.0) one h
  as_first_says k first false place there h = λ all. h (all k first place there)

  pub none_first : first_arm index places arm.1 ≡ None → IsAsFirst types over index places arms arm
  none_first none k first e t = absurd (clash (sym none ∙ e))
    where
      clash : None ≡ Some k → ⊥
      clash e = cc

pub meets_say : (types : Types) (f : FunctionView) (b : BlockView) (p : ℕ) (over : Ty) (arms : List (Operand × List ℕ)) (index : List (List ℕ)) (listed sources : List ℕ) (counts same : Bool)
    → IsDistinct bytes_eq index → index ≡ names_of (named_blocks f) → place_of b.name (named_blocks f) ≡ Some p → AreSources f p sources
    → ((x : List ℕ) → Contains (map (λ arm. arm.1) (view_arms arms)) x → (q : ℕ) × (place_of x (named_blocks f) ≡ Some q))
    → listed ≡ places_among index (map (λ arm. arm.1) arms) → counts ≡ agree listed sources → counts ≡ true
    → MatchBool same (All (IsAsFirst types over index listed (view_arms arms)) (view_arms arms)) (All (IsAsFirst types over index listed (view_arms arms)) (view_arms arms) → ⊥)
    → MatchBool same (MeetsEdges types f b over (view_arms arms)) (MeetsEdges types f b over (view_arms arms) → ⊥)
meets_say types f b p over arms index listed sources counts same distinct is there rows known among agreed agrees h =
    by same (subst (λ (T : Type 0). MatchBool same T (T → ⊥)) moved h)
  where
    counted : MeetsCounts f b (view_arms arms)
    counted =
        let says = counts_told f b p arms index listed sources counts distinct is there rows known among agreed in
        if_true (MeetsCounts f b (view_arms arms)) (MeetsCounts f b (view_arms arms) → ⊥) counts says agrees

    differ : IsDistinct bytes_eq (names_of (named_blocks f))
    differ = subst (IsDistinct bytes_eq) is distinct

    listed_is : listed ≡ places_among (names_of (named_blocks f)) (map (λ arm. arm.1) (view_arms arms))
    listed_is = among ∙ ap (λ (names : List (List ℕ)). places_among names (map (λ arm. arm.1) arms)) is ∙ ap (places_among (names_of (named_blocks f))) (sym (names_viewed arms))

    moved : All (IsAsFirst types over index listed (view_arms arms)) (view_arms arms)
        ≡ All (IsAsFirst types over (names_of (named_blocks f)) (places_among (names_of (named_blocks f)) (map (λ arm. arm.1) (view_arms arms))) (view_arms arms)) (view_arms arms)
    moved =
        ap (λ names. All (IsAsFirst types over names listed (view_arms arms)) (view_arms arms)) is
        ∙ ap (λ places. All (IsAsFirst types over (names_of (named_blocks f)) places (view_arms arms)) (view_arms arms)) listed_is

    by : (r : Bool) → MatchBool r (All (IsAsFirst types over (names_of (named_blocks f)) (places_among (names_of (named_blocks f)) (map (λ arm. arm.1) (view_arms arms))) (view_arms arms)) (view_arms arms))
        (All (IsAsFirst types over (names_of (named_blocks f)) (places_among (names_of (named_blocks f)) (map (λ arm. arm.1) (view_arms arms))) (view_arms arms)) (view_arms arms) → ⊥)
        → MatchBool r (MeetsEdges types f b over (view_arms arms)) (MeetsEdges types f b over (view_arms arms) → ⊥)
    by true all = record {
      count = counted;
      one = one_by_first f differ types over (view_arms arms) known
          (λ a c. All-contains (IsAsFirst types over (names_of (named_blocks f)) (places_among (names_of (named_blocks f)) (map (λ arm. arm.1) (view_arms arms))) (view_arms arms)) (view_arms arms) a all c);
    }
    by false none = λ meets.
        none (all_from (IsAsFirst types over (names_of (named_blocks f)) (places_among (names_of (named_blocks f)) (map (λ arm. arm.1) (view_arms arms))) (view_arms arms)) (view_arms arms)
        (first_by_one f differ types over (view_arms arms) known meets.one))

pub counts_refute : (types : Types) (f : FunctionView) (b : BlockView) (p : ℕ) (over : Ty) (arms : List (Operand × List ℕ)) (index : List (List ℕ)) (listed sources : List ℕ) (counts : Bool)
    → IsDistinct bytes_eq index → index ≡ names_of (named_blocks f) → place_of b.name (named_blocks f) ≡ Some p → AreSources f p sources
    → ((x : List ℕ) → Contains (map (λ arm. arm.1) (view_arms arms)) x → (q : ℕ) × (place_of x (named_blocks f) ≡ Some q))
    → listed ≡ places_among index (map (λ arm. arm.1) arms) → counts ≡ agree listed sources → counts ≡ false → MeetsEdges types f b over (view_arms arms) → ⊥
counts_refute types f b p over arms index listed sources counts distinct is there rows known among agreed none meets =
    let says = counts_told f b p arms index listed sources counts distinct is there rows known among agreed in
    if_false (MeetsCounts f b (view_arms arms)) (MeetsCounts f b (view_arms arms) → ⊥) counts says none meets.count
