-- Entries behind writes, in a list of terms that grows.
use Rattle.std.proofs.Common.{◌≡◌, ◌≢◌, ◌+◌, ◌<◌, ◌≤◌, ℕ, zero, suc, Bool, true, false, ◌&&◌, Option, Some, List, [], ◌∷◌, length, map, drop, arith, ap, sym, ◌∙◌, subst, refl, add-one}
use Rattle.std.specs.Prelude.{if◌then◌else◌, nat_eq, slice_get, slice_index, slice_index_or}
use Rattle.hk_term.specs.Operations.{bit}
use Rattle.hk_term.specs.Shape.{width}
use Rattle.hk_term.specs.Meaning.{Reading, value}
use Rattle.hk_term.specs.declared.node.Node.{Node}
use Rattle.spec_tree.specs.Plain.{Key}
use Rattle.spec_tree.specs.Sorted.{FieldSort, no_field}
use Rattle.spec_tree.specs.Value.{place_behind}
use Rattle.spec_tree.specs.Meaning.{State, entry_set}
use Rattle.spec_tree.proofs.Entries.{place_within}
use Rattle.hk_symexpr.specs.Naming.{AreIndexTerms, index_values}
use Rattle.hk_symexpr.specs.declared.names.Limit.{Limit}
use Rattle.hk_symspec.specs.declared.write.EntryWrite.{EntryWrite}
use Rattle.hk_symspec.specs.States.{after_write, after_writes, numbers_at}
use Rattle.hk_symspec.specs.Standing.{AreKeyTerms, IsWriteOver}
use Rattle.hk_symspec.specs.Ranges.{IsEntry, IsLong, same_numbers}
use Rattle.hk_symspec.specs.KeptLaws.{KeepsValues, after_write_kept}
use Rattle.hk_symspec.proofs.Turning.{left_at, none_left}
use Rattle.hk_symspec.proofs.IndexLaws.{index_length}
use Rattle.hk_symspec.proofs.WriteLaws.{entry_behind, other_field, write_long}

pub key_length : (nodes : List Node) (keys : List Key) (index : List ℕ) → AreKeyTerms nodes keys index → length index ≡ length keys
key_length nodes [] index h = ap length h
key_length nodes (k ∷ ks) [] h = absurd h
key_length nodes (k ∷ ks) (i ∷ is) h = ap suc (key_length nodes ks is h.2)

pub key_term_at : (nodes : List Node) (keys : List Key) (index : List ℕ) (k : ℕ) (key : Key) (i : ℕ) → AreKeyTerms nodes keys index
    → slice_get keys k ≡ Some key → slice_get index k ≡ Some i → (i < length nodes) × (width nodes i ≡ key.width)
key_term_at nodes [] index k key i h a b = cc
key_term_at nodes (x ∷ ks) [] k key i h a b = absurd h
key_term_at nodes (x ∷ ks) (y ∷ is) zero key i h a b =
    let e : x ≡ key = cc in let d : y ≡ i = cc in
    let P : ℕ → Type 0 = λ z. z < length nodes in
    (subst P d h.0, ap (width nodes) (sym d) ∙ h.1 ∙ ap (λ z. z.width) e)
key_term_at nodes (x ∷ ks) (y ∷ is) (suc k) key i h a b = key_term_at nodes ks is k key i h.2 a b

pub indices_kept : (old new : List Node) (keys : List Key) (index : List Limit) (v : Reading) → KeepsValues old new → AreIndexTerms old keys index → index_values new index v ≡ index_values old index v
indices_kept old new [] index v keeps h = ap (λ l. index_values new l v) h ∙ ap (λ l. index_values old l v) (sym h)
indices_kept old new (k ∷ ks) [] v keeps h = absurd h
indices_kept old new (k ∷ ks) (i ∷ is) v keeps h = λ n. keeps i.term h.0 v n ∷ indices_kept old new ks is v keeps h.2 n

pub index_terms_kept : (old new : List Node) (keys : List Key) (index : List Limit) → length old ≤ length new → ((k : ℕ) → k < length old → width new k ≡ width old k)
    → AreIndexTerms old keys index → AreIndexTerms new keys index
index_terms_kept old new [] index longer keeps h = h
index_terms_kept old new (k ∷ ks) [] longer keeps h = h
index_terms_kept old new (k ∷ ks) (i ∷ is) longer keeps h = (omega (arith, h.0, longer), keeps i.term h.0 ∙ h.1, index_terms_kept old new ks is longer keeps h.2)

pub after_long : (fields : List FieldSort) (nodes : List Node) (v : Reading) (w : EntryWrite) (state : State) → IsLong fields state → IsLong fields (after_write fields nodes v w state)
after_long fields nodes v w state s =
    write_long fields state w.field (value nodes w.value v) (place_behind 0 (slice_index_or fields w.field no_field).keys (numbers_at nodes w.index v)) (nat_eq (value nodes w.guard v) 1) s

pub writes_long : (fields : List FieldSort) (nodes : List Node) (v : Reading) (ws : List EntryWrite) (state : State) → IsLong fields state → IsLong fields (after_writes fields nodes v ws state)
writes_long fields nodes v [] state s = s
writes_long fields nodes v (w ∷ ws) state s = writes_long fields nodes v ws (after_write fields nodes v w state) (after_long fields nodes v w state s)

-- ---- one write

pub elsewhere : (fields : List FieldSort) (nodes : List Node) (v : Reading) (w : EntryWrite) (field : ℕ) (is : List ℕ) (state : State) (n : ℕ) → field ≢ w.field
    → IsEntry fields field is state n → IsEntry fields field is (after_write fields nodes v w state) n
elsewhere fields nodes v w field is state n apart h p found = h p found ∙ sym (by_guard (nat_eq (value nodes w.guard v) 1))
  where
    place : Option ℕ
    place = place_behind 0 (slice_index_or fields w.field no_field).keys (numbers_at nodes w.index v)

    by_guard : (b : Bool) → slice_index (slice_index_or (if b then entry_set state w.field place (value nodes w.value v) else state) field []) p ≡ slice_index (slice_index_or state field []) p
    by_guard true = other_field state w.field field (value nodes w.value v) p place apart
    by_guard false = refl

choice : (h n m : ℕ) (b : Bool) → h ≡ bit b → (if nat_eq h 1 then n else m) ≡ (if b then n else m)
choice h n m true e = ap (λ x. if nat_eq x 1 then n else m) e
choice h n m false e = ap (λ x. if nat_eq x 1 then n else m) e

pub behind : (fields : List FieldSort) (nodes : List Node) (v : Reading) (w : EntryWrite) (field : ℕ) (keys : List Key) (index : List Limit) (state : State) (hit n made : ℕ)
    → keys ≡ (slice_index_or fields field no_field).keys → w.field ≡ field
    → IsWriteOver fields nodes w → AreIndexTerms nodes (slice_index_or fields field no_field).keys index → IsLong fields state
    → hit ≡ bit (nat_eq (value nodes w.guard v) 1 && same_numbers (numbers_at nodes w.index v) (index_values nodes index v))
    → made ≡ (if nat_eq hit 1 then value nodes w.value v else n)
    → IsEntry fields field (index_values nodes index v) state n → IsEntry fields field (index_values nodes index v) (after_write fields nodes v w state) made
behind fields nodes v w field keys index state hit n made ke fe over at long he me h p found =
    me ∙ ap (λ x. if nat_eq hit 1 then value nodes w.value v else x) (h p found)
    ∙ choice hit (value nodes w.value v) (slice_index (slice_index_or state field []) p) (nat_eq (value nodes w.guard v) 1 && same_numbers is js) he
    ∙ sym (entry_behind fields state field (value nodes w.value v) p (value nodes w.guard v) ks is js long low refl (omega (arith, place_within ks js 0 p found)) il jl found)
    ∙ ap (λ f. slice_index (slice_index_or (if nat_eq (value nodes w.guard v) 1 then entry_set state f (place_behind 0 (slice_index_or fields f no_field).keys is) (value nodes w.value v) else state) field []) p) (sym fe)
  where
    ks : List Key
    ks = (slice_index_or fields field no_field).keys

    is : List ℕ
    is = numbers_at nodes w.index v

    js : List ℕ
    js = index_values nodes index v

    low : field < length fields
    low = let P : ℕ → Type 0 = λ f. f < length fields in subst P fe over.field

    mapped : {X : Type 0} (f : X → ℕ) (xs : List X) → length (map f xs) ≡ length xs
    mapped f [] = refl
    mapped f (x ∷ xs) = ap suc (mapped f xs)

    il : length is ≡ length ks
    il = mapped (λ k. value nodes k v) w.index ∙ key_length nodes (slice_index_or fields w.field no_field).keys w.index over.index ∙ ap (λ f. length (slice_index_or fields f no_field).keys) fe

    jl : length js ≡ length ks
    jl = mapped (λ i. value nodes i.term v) index ∙ index_length nodes ks index at

-- ---- all writes

-- the writes that are left lead from a state with this entry to the state behind all
pub record Overlaid (fields : List FieldSort) (nodes : List Node) (v : Reading) (field : ℕ) (is : List ℕ) (left : List EntryWrite) (n : ℕ) (last : State) : Type 0 where
  pub now : State
  pub long : IsLong fields now
  pub entry : IsEntry fields field is now n
  pub ends : after_writes fields nodes v left now ≡ last

pub overlaid_on : (fields : List FieldSort) (first old : List Node) (v : Reading) (field : ℕ) (keys : List Key) (index : List Limit) (left rest : List EntryWrite) (w : EntryWrite) (n m : ℕ) (last : State)
    → left ≡ w ∷ rest → KeepsValues first old → IsWriteOver fields first w → AreIndexTerms first keys index
    → ((state : State) → IsLong fields state → IsEntry fields field (index_values old index v) state n → IsEntry fields field (index_values old index v) (after_write fields old v w state) m)
    → Overlaid fields first v field (index_values first index v) left n last → Overlaid fields first v field (index_values first index v) rest m last
overlaid_on fields first old v field keys index left rest w n m last is keeps over at step o = record {
  now = after_write fields first v w o.now;
  long = after_long fields first v w o.now o.long;
  entry =
      let same : index_values old index v ≡ index_values first index v = indices_kept first old keys index v keeps at in
      let P : List ℕ → Type 0 = λ x. IsEntry fields field x (after_write fields old v w o.now) m in
      let Q : List ℕ → Type 0 = λ x. IsEntry fields field x o.now n in
      let S : State → Type 0 = λ x. IsEntry fields field (index_values first index v) x m in
      subst S (after_write_kept fields first old v w o.now keeps over) (subst P same (step o.now o.long (subst Q (sym same) o.entry)));
  ends = ap (λ l. after_writes fields first v l o.now) (sym is) ∙ o.ends;
}

pub overlaid_end : (fields : List FieldSort) (nodes : List Node) (v : Reading) (field : ℕ) (is : List ℕ) (left : List EntryWrite) (n : ℕ) (last : State)
    → left ≡ [] → Overlaid fields nodes v field is left n last → IsEntry fields field is last n
overlaid_end fields nodes v field is left n last e o =
    let S : State → Type 0 = λ x. IsEntry fields field is x n in
    subst S (ap (λ l. after_writes fields nodes v l o.now) (sym e) ∙ o.ends) o.entry

-- ---- equal indices

pub record Matches (nodes : List Node) (index : List ℕ) (other : List Limit) (k : ℕ) (v : Reading) (p : Bool) (n : ℕ) : Type 0 where
  pub so : Bool
  pub is : n ≡ bit so
  pub left : (so && same_numbers (numbers_at nodes (drop k index) v) (index_values nodes (drop k other) v)) ≡ (p && same_numbers (numbers_at nodes index v) (index_values nodes other v))

and_assoc : (a b c : Bool) → ((a && b) && c) ≡ (a && (b && c))
and_assoc true b c = refl
and_assoc false b c = refl

and_true : (a : Bool) → (a && true) ≡ a
and_true true = refl
and_true false = refl

pub matches_begin : (nodes : List Node) (index : List ℕ) (other : List Limit) (v : Reading) (p : Bool) (n : ℕ) → n ≡ bit p → Matches nodes index other 0 v p n
matches_begin nodes index other v p n e = record { so = p; is = e; left = refl }

pub matches_on : (nodes : List Node) (index : List ℕ) (other : List Limit) (k : ℕ) (v : Reading) (p : Bool) (n m i : ℕ) (j : Limit)
    → slice_get index k ≡ Some i → slice_get other k ≡ Some j
    → ((a b : Bool) → n ≡ bit a → bit (nat_eq (value nodes i v) (value nodes j.term v)) ≡ bit b → m ≡ bit (a && b))
    → Matches nodes index other k v p n → Matches nodes index other (k + 1) v p m
matches_on nodes index other k v p n m i j a b step t = record {
  so = t.so && nat_eq (value nodes i v) (value nodes j.term v);
  is = step t.so (nat_eq (value nodes i v) (value nodes j.term v)) t.is refl;
  left = ap (λ q. (t.so && nat_eq (value nodes i v) (value nodes j.term v)) && same_numbers (numbers_at nodes (drop q index) v) (index_values nodes (drop q other) v)) (add-one k)
      ∙ and_assoc t.so (nat_eq (value nodes i v) (value nodes j.term v)) (same_numbers (numbers_at nodes (drop (suc k) index) v) (index_values nodes (drop (suc k) other) v))
      ∙ ap (λ r. t.so && r) (sym next) ∙ t.left;
}
  where
    next : same_numbers (numbers_at nodes (drop k index) v) (index_values nodes (drop k other) v)
        ≡ (nat_eq (value nodes i v) (value nodes j.term v) && same_numbers (numbers_at nodes (drop (suc k) index) v) (index_values nodes (drop (suc k) other) v))
    next = ap (λ l. same_numbers (numbers_at nodes l v) (index_values nodes (drop k other) v)) (left_at index k i a)
        ∙ ap (λ l. same_numbers (numbers_at nodes (i ∷ drop (suc k) index) v) (index_values nodes l v)) (left_at other k j b)

pub matches_end : (nodes : List Node) (index : List ℕ) (other : List Limit) (k : ℕ) (v : Reading) (p : Bool) (n : ℕ) → length index ≤ k → Matches nodes index other k v p n
    → n ≡ bit (p && same_numbers (numbers_at nodes index v) (index_values nodes other v))
matches_end nodes index other k v p n high t =
    t.is ∙ ap bit (sym (and_true t.so) ∙ ap (λ l. t.so && same_numbers (numbers_at nodes l v) (index_values nodes (drop k other) v)) (sym (none_left index k high)) ∙ t.left)

-- the terms at one place of two index tuples
pub record Pair (nodes : List Node) (i : ℕ) (j : Limit) : Type 0 where
  pub first : i < length nodes
  pub second : j.term < length nodes
  pub widths : width nodes i ≡ width nodes j.term

pub pair_at : (nodes : List Node) (keys : List Key) (index : List ℕ) (other : List Limit) (k : ℕ) (i : ℕ) (j : Limit) → AreKeyTerms nodes keys index → AreIndexTerms nodes keys other
    → slice_get index k ≡ Some i → slice_get other k ≡ Some j → Pair nodes i j
pair_at nodes [] index other k i j h g a b = cc_none (sym (ap (λ l. slice_get l k) h) ∙ a)
  where
    cc_none : slice_get [] k ≡ Some i → Pair nodes i j
    cc_none e = cc
pair_at nodes (x ∷ ks) [] other k i j h g a b = absurd h
pair_at nodes (x ∷ ks) (y ∷ is) [] k i j h g a b = absurd g
pair_at nodes (x ∷ ks) (y ∷ is) (z ∷ js) zero i j h g a b =
    let d : y ≡ i = cc in let e : z ≡ j = cc in
    let P : ℕ → Type 0 = λ n. n < length nodes in
    record { first = subst P d h.0; second = subst P (ap (λ l. l.term) e) g.0; widths = ap (width nodes) (sym d) ∙ h.1 ∙ sym g.1 ∙ ap (λ l. width nodes l.term) e }
pair_at nodes (x ∷ ks) (y ∷ is) (z ∷ js) (suc k) i j h g a b = pair_at nodes ks is js k i j h.2 g.2 a b

-- a guard is a truth
pub guard_bit : (n : ℕ) → n < 2 → n ≡ bit (nat_eq n 1)
guard_bit zero l = refl
guard_bit (suc zero) l = refl
guard_bit (suc (suc n)) l = absurd (omega (arith, l))
