-- Arms and edges, counted by names and by places.
use Rattle.std.proofs.Common.{◌≡◌, ◌⊎◌, inl, inr, ℕ, suc, ◌+◌, ◌<◌, ◌≤◌, Bool, true, false, cond, Option, Some, None, List, [], ◌∷◌, map, length, nat_eq, refl, sym, ◌∙◌, ap, subst, arith}
use Rattle.std.specs.Prelude.{count_by, option_to_list, bytes_eq, slice_index_or, MatchBool}
use Rattle.std.specs.List.{All, Contains, IsDistinct}
use Rattle.std.proofs.lemmas.Bool.{eqb-true, cases_Bool, cases_lt}
use Rattle.std.proofs.lemmas.Slice.Eq.{bytes_eq-Decides}
use Rattle.std.proofs.lemmas.List.{get_or_past}
use Rattle.ir_ast.specs.Plain.{Val}
use Rattle.ir_ast.specs.Program.{BlockView, FunctionView}
use Rattle.ir_ast.specs.Table.{names_of, place_of}
use Rattle.ir_type.proofs.Places.{at_place, no_place}
use Rattle.ir_check.specs.Paths.{targets_of}
use Rattle.ir_check.specs.Arms.{times, MeetsCounts}
use Rattle.ir_ast.specs.ProgramView.{view_arms}
use Rattle.ir_ast.specs.declared.operand.Operand.{Operand}
use Rattle.ir_check.specs.Graphs.{named_blocks, places_among, block_targets, block_graph, next_names, name_of_entry}
use Rattle.ir_check.specs.Tallies.{times_at, agree}
use Rattle.ir_check.specs.Sites.{AreSources}
use Rattle.ir_check.proofs.TallyLaws.{count-cons, count-append, as_often, not_as_often}
use Rattle.ir_check.proofs.EdgeLaws.{edges_are}
use Rattle.ir_check.proofs.UseLaws.{among_within}
use Rattle.ir_check.proofs.NamedGraph.{name_of_place, targets_at, entry_at, graph_length}

pub bytes_same : (x : List ℕ) → bytes_eq x x ≡ true
bytes_same x = (bytes_eq-Decides x x).1 refl

count-map : {A B : Type 0} (p : B → Bool) (g : A → B) (xs : List A) → count_by (λ a. p (g a)) xs ≡ count_by p (map g xs)
count-map p g [] = refl
count-map {A} p g (x ∷ xs) =
    let test : A → Bool = λ a. p (g a) in
    count-cons test x xs ∙ ap (λ n. cond (p (g x)) (1 + n) n) (count-map p g xs) ∙ sym (count-cons p (g x) (map g xs))

module _ (f : FunctionView) (distinct : IsDistinct bytes_eq (names_of (named_blocks f))) where
  abbrev at : List ℕ → Option ℕ
  at x = place_of x (named_blocks f)

  same_name : (x y : List ℕ) (q : ℕ) → at x ≡ Some q → at y ≡ Some q → x ≡ y
  same_name x y q a b = sym (name_of_place block_targets (named_blocks f) distinct x q a) ∙ name_of_place block_targets (named_blocks f) distinct y q b

  -- a place and a name are the same test
  pub same_test : (x n : List ℕ) (q k : ℕ) → at x ≡ Some q → at n ≡ Some k → nat_eq q k ≡ bytes_eq x n
  same_test x n q k a b = by (cases_Bool (bytes_eq x n)) (cases_Bool (nat_eq q k))
    where
      same_some : (k j : ℕ) → Some k ≡ Some j → k ≡ j
      same_some k j e = cc

      itself : (j : ℕ) → nat_eq j j ≡ true
      itself j = grind arith

      by : (bytes_eq x n ≡ true) ⊎ (bytes_eq x n ≡ false) → (nat_eq q k ≡ true) ⊎ (nat_eq q k ≡ false) → nat_eq q k ≡ bytes_eq x n
      by (inl e) t =
          let same = same_some q k (sym a ∙ ap at ((bytes_eq-Decides x n).0 e) ∙ b) in
          ap (nat_eq q) (sym same) ∙ itself q ∙ sym e
      by (inr e) (inr t) = t ∙ sym e
      by (inr e) (inl t) =
          let one = same_name x n q a (subst (λ j. at n ≡ Some j) (sym (eqb-true q k t)) b) in
          t ∙ sym (subst (λ y. bytes_eq x y ≡ true) one (bytes_same x))

  -- one name more
  one_place : (x n : List ℕ) (q : ℕ) (o : Option ℕ) → at x ≡ Some q → at n ≡ o → count_by (nat_eq q) (option_to_list o) ≡ cond (bytes_eq x n) 1 0
  one_place x n q o a b = by (cases_Bool (bytes_eq x n)) o b
    where
      single : (k : ℕ) → count_by (nat_eq q) (k ∷ []) ≡ cond (nat_eq q k) 1 0
      single k = count-cons (nat_eq q) k []

      clash : {k : ℕ} → Some k ≡ None → ⊥
      clash e = cc

      same_some : (k j : ℕ) → Some k ≡ Some j → k ≡ j
      same_some k j e = cc

      differ : (k : ℕ) → (bytes_eq x n ≡ false) → at n ≡ Some k → (nat_eq q k ≡ true) ⊎ (nat_eq q k ≡ false) → cond {A = ℕ} (nat_eq q k) 1 0 ≡ 0
      differ k e c (inl t) =
          let one = same_name x n q a (subst (λ j. at n ≡ Some j) (sym (eqb-true q k t)) c) in
          absurd (no (sym (subst (λ y. bytes_eq x y ≡ true) one (bytes_same x)) ∙ e))
        where
          no : true ≡ false → ⊥
          no e = cc
      differ k e c (inr t) = ap (λ b. cond b 1 0) t

      by : (bytes_eq x n ≡ true) ⊎ (bytes_eq x n ≡ false) → (o : Option ℕ) → at n ≡ o → count_by (nat_eq q) (option_to_list o) ≡ cond (bytes_eq x n) 1 0
      by (inl e) None c = absurd (clash (sym a ∙ ap at ((bytes_eq-Decides x n).0 e) ∙ c))
      by (inl e) (Some k) c =
          let same = same_some q k (sym a ∙ ap at ((bytes_eq-Decides x n).0 e) ∙ c) in
          single k ∙ ap (λ j. cond (nat_eq q j) 1 0) (sym same) ∙ (let t : nat_eq q q ≡ true = grind arith in ap (λ b. cond b 1 0) t) ∙ ap (λ b. cond b 1 0) (sym e)
      by (inr e) None c = ap (λ b. cond b 1 0) (sym e)
      by (inr e) (Some k) c = single k ∙ differ k e c (cases_Bool (nat_eq q k)) ∙ ap (λ b. cond b 1 0) (sym e)

  counted_places : (names : List (List ℕ)) (x : List ℕ) (q : ℕ) → at x ≡ Some q → times_at (places_among (names_of (named_blocks f)) names) q ≡ times x names
  counted_places [] x q a = refl
  counted_places (n ∷ ns) x q a =
      count-append (nat_eq q) (option_to_list (at n)) (places_among (names_of (named_blocks f)) ns)
      ∙ ap (λ k. k + times_at (places_among (names_of (named_blocks f)) ns) q) (one_place x n q (at n) a refl)
      ∙ ap (λ k. cond (bytes_eq x n) 1 0 + k) (counted_places ns x q a)
      ∙ join (bytes_eq x n) (times x ns)
      ∙ sym (count-cons (bytes_eq x) n ns)
    where
      join : (b : Bool) (k : ℕ) → cond b 1 0 + k ≡ cond b (1 + k) k
      join true k = refl
      join false k = omega arith

  -- a name that stands nowhere is not counted
  no_place_count : (names : List (List ℕ)) (x : List ℕ) → at x ≡ None → ((y : List ℕ) → Contains names y → (q : ℕ) × (at y ≡ Some q)) → times x names ≡ 0
  no_place_count [] x none known = refl
  no_place_count (n ∷ ns) x none known =
      count-cons (bytes_eq x) n ns ∙ by (cases_Bool (bytes_eq x n)) (no_place_count ns x none (λ y c. known y (suc c.0, later c.1, c.2)))
    where
      later : {k m : ℕ} → k < m → suc k < suc m
      later l = omega (arith, l)

      clash : {k : ℕ} → None ≡ Some k → ⊥
      clash e = cc

      by : (bytes_eq x n ≡ true) ⊎ (bytes_eq x n ≡ false) → times x ns ≡ 0 → cond (bytes_eq x n) (1 + times x ns) (times x ns) ≡ 0
      by (inl e) z =
          let k = known n (0, omega arith, refl) in
          absurd (clash (sym none ∙ ap at ((bytes_eq-Decides x n).0 e) ∙ k.1))
      by (inr e) z = ap (λ b. cond b (1 + times x ns) (times x ns)) e ∙ z

  module _ (b : BlockView) (p : ℕ) (there : at b.name ≡ Some p) where
    edge_count : (x : List ℕ) (q : ℕ) → at x ≡ Some q → times b.name (targets_of f x) ≡ times_at (slice_index_or (block_graph f) q []) p
    edge_count x q a =
        let s = at_place (named_blocks f) x q a in
        ap (times b.name) (edges_are f x ∙ ap (next_names block_targets) s.1.found)
        ∙ sym (counted_places (block_targets s.0) b.name p there)
        ∙ ap (λ row. times_at row p) (sym (targets_at block_targets (named_blocks f) distinct q x s.0 s.1.there))

    no_edge_count : (x : List ℕ) → at x ≡ None → times b.name (targets_of f x) ≡ 0
    no_edge_count x none = ap (times b.name) (edges_are f x ∙ ap (next_names block_targets) (no_place (named_blocks f) x none))

    module _ (arms : List (Val × List ℕ)) (sources : List ℕ) (rows : (q : ℕ) → times_at sources q ≡ times_at (slice_index_or (block_graph f) q []) p)
        (known : (x : List ℕ) → Contains (map (λ arm. arm.1) arms) x → (q : ℕ) × (at x ≡ Some q)) where
      abbrev names : List (List ℕ)
      names = map (λ arm. arm.1) arms

      abbrev places : List ℕ
      places = places_among (names_of (named_blocks f)) names

      abbrev Meets : Type 0
      Meets = MeetsCounts f b arms

      of_names : (x : List ℕ) → count_by (λ arm. bytes_eq x arm.1) arms ≡ times x names
      of_names x = let second : Val × List ℕ → List ℕ = λ arm. arm.1 in count-map (bytes_eq x) second arms

      met : ((q : ℕ) → times_at places q ≡ times_at sources q) → Meets
      met same x = by (at x) refl
        where
          by : (o : Option ℕ) → at x ≡ o → count_by (λ arm. bytes_eq x arm.1) arms ≡ times b.name (targets_of f x)
          by (Some q) a = of_names x ∙ sym (counted_places names x q a) ∙ same q ∙ rows q ∙ sym (edge_count x q a)
          by None none = of_names x ∙ no_place_count names x none known ∙ sym (no_edge_count x none)

      met_from : Meets → (q : ℕ) → q < length (named_blocks f) → times_at places q ≡ times_at sources q
      met_from meets q l =
          let e = entry_at block_targets (named_blocks f) distinct q l in
          let x = name_of_entry (named_blocks f) q in
          counted_places names x q e.2 ∙ sym (of_names x) ∙ meets x ∙ edge_count x q e.2 ∙ sym (rows q)

      none_there : (ps : List ℕ) (n q : ℕ) → All (λ k. k < n) ps → n ≤ q → times_at ps q ≡ 0
      none_there [] n q all l = refl
      none_there (k ∷ ps) n q all l =
          let below = all 0 0 (omega arith) in
          let other : nat_eq q k ≡ false = grind (arith, below, l) in
          count-cons (nat_eq q) k ps ∙ ap (λ b. cond b (1 + times_at ps q) (times_at ps q)) other ∙ none_there ps n q (λ j d m. all (suc j) d (later m)) l
        where
          later : {j m : ℕ} → j < m → suc j < suc m
          later l = omega (arith, l)

      beyond : (q : ℕ) → length (named_blocks f) ≤ q → times_at places q ≡ times_at sources q
      beyond q l =
          none_there places (length (named_blocks f)) q (among_within (named_blocks f) names) l
          ∙ sym (rows q ∙ ap (λ row. times_at row p) (get_or_past (block_graph f) q [] (subst (λ n. n ≤ q) (sym (graph_length block_targets (named_blocks f))) l)))

      met_all : Meets → (q : ℕ) → times_at places q ≡ times_at sources q
      met_all meets q = by (cases_lt q (length (named_blocks f)))
        where
          by : (q < length (named_blocks f)) ⊎ (length (named_blocks f) ≤ q) → times_at places q ≡ times_at sources q
          by (inl l) = met_from meets q l
          by (inr l) = beyond q l

      -- the arms name each block as often as it has edges to the block
      pub counts_say : (r : Bool) → r ≡ agree places sources → MatchBool r Meets (Meets → ⊥)
      counts_say true e = met (as_often places sources (sym e))
      counts_say false e = λ meets. not_as_often places sources (sym e) (met_all meets)

pub names_viewed : (arms : List (Operand × List ℕ)) → map (λ arm. arm.1) (view_arms arms) ≡ map (λ arm. arm.1) arms
names_viewed [] = refl
names_viewed (a ∷ arms) = ap (λ xs. a.1 ∷ xs) (names_viewed arms)

pub counts_told : (f : FunctionView) (b : BlockView) (p : ℕ) (arms : List (Operand × List ℕ)) (index : List (List ℕ)) (places sources : List ℕ) (r : Bool) → IsDistinct bytes_eq index
    → index ≡ names_of (named_blocks f) → place_of b.name (named_blocks f) ≡ Some p → AreSources f p sources
    → ((x : List ℕ) → Contains (map (λ arm. arm.1) (view_arms arms)) x → (q : ℕ) × (place_of x (named_blocks f) ≡ Some q))
    → places ≡ places_among index (map (λ arm. arm.1) arms) → r ≡ agree places sources
    → MatchBool r (MeetsCounts f b (view_arms arms)) (MeetsCounts f b (view_arms arms) → ⊥)
counts_told f b p arms index places sources r distinct is there rows known among e =
    counts_say f (subst (IsDistinct bytes_eq) is distinct) b p there (view_arms arms) sources rows known r
    (e
    ∙ ap (λ ps. agree ps sources) among
    ∙ ap (λ (names : List (List ℕ)). agree (places_among names (map (λ arm. arm.1) arms)) sources) is
    ∙ ap (λ (names : List (List ℕ)). agree (places_among (names_of (named_blocks f)) names) sources) (sym (names_viewed arms)))
