-- The term of an expression from the terms of its parts.
use Rattle.std.proofs.Common.{◌≡◌, ◌<◌, ◌≤◌, ◌+◌, ◌*◌, ◌%◌, ◌^◌, ◌&&◌, ℕ, zero, suc, Bool, true, false, Option, Some, None, option_map, List, [], ◌∷◌, length, refl, sym, ap, subst, ◌∙◌, arith, All, get_or, nat_eq, nat_lt, mod-eq_of_lt}
use Rattle.std.specs.Prelude.{if◌then◌else◌, not, ◌||◌, slice_get, slice_index_or}
use Rattle.std.proofs.Math.Nat.{mod-add-mod}
use Rattle.std.proofs.lemmas.Bool.{ltb-true}
use Rattle.std.proofs.lemmas.List.Elements.{All-cons}
use Rattle.hk_term.specs.Shape.{width}
use Rattle.hk_term.specs.Meaning as terms
use Rattle.hk_term.specs.Meaning.{Reading, every_tuple}
use Rattle.hk_term.specs.declared.node.Node.{Node}
use Rattle.spec_ast.specs.declared.kind.BinKind.TheVariants.{Implies}
use Rattle.spec_tree.specs.declared.expr.StateName.{StateName}
use Rattle.spec_tree.specs.declared.expr.StateName.TheVariants.{Old, New}
use Rattle.spec_tree.specs.Plain.{Key, Tree, Trees, no_trees, tree_and, Steps, no_steps, step_and, entry, path, binary, choose, for_all, exists}
use Rattle.spec_tree.specs.Sorted.{Context, IsSorted, AreIndices, AreSteps, Adds, with_bounds, no_field}
use Rattle.spec_tree.specs.Value.{Env, value, values, holds, bit, tuples, binding, bytes_added, stepped, loaded, load, entry_at, place_behind, state_of}
use Rattle.spec_tree.specs.Shapes.{AreBelow, IsMemory}
use Rattle.spec_tree.proofs.Entries.{all_below}
use Rattle.hk_symexpr.specs.Sources.{Source, Agrees, Rests, state_in}
use Rattle.hk_symexpr.specs.Scope.{Scope, entered}
use Rattle.hk_symexpr.specs.Naming.{Suits, AreLimited, AreSteady, AreIndexTerms, index_values, bounds_from, context_of}
use Rattle.hk_symexpr.specs.Made.{Lasts, IsTermOf, IsTermWhere, AreLimitsOf, AreSorted, step_trees}
use Rattle.hk_symexpr.specs.Paths.{AreIndexed, led}
use Rattle.hk_symexpr.specs.declared.names.Limit.{Limit}
use Rattle.hk_symexpr.proofs.Suiting.{agrees_less, suits_beside, read_here}
use Rattle.hk_symexpr.proofs.Tuples.{with_vars, every_tuple_is, all_same, none_any, suits_entered, every_is}

-- ---- choices

chosen : (n x y x' y' : ℕ) → n < 2 → (n ≡ 1 → x ≡ x') → y ≡ y' → (if nat_eq n 1 then x else y) ≡ (if holds n then x' else y')
chosen zero x y x' y' low first last = last
chosen (suc zero) x y x' y' low first last = first refl
chosen (suc (suc n)) x y x' y' low first last = absurd (omega (arith, low))

implied_so : (n m m' : ℕ) → n < 2 → (n ≡ 1 → m ≡ m') → bit (not (holds n) || holds m) ≡ bit (not (holds n) || holds m')
implied_so zero m m' low h = refl
implied_so (suc zero) m m' low h = ap (λ q. bit (holds q)) (h refl)
implied_so (suc (suc n)) m m' low h = absurd (omega (arith, low))

-- a truth that holds at a reading holds at each that agrees with it
stays_true : (base : Reading → Source) (c : Context) (old : List Node) (s : Scope) (t : List Node) (a : ℕ) (e : Tree) (v : Reading) (env : Env) → IsTermOf base c old s t a e → Suits base c old s v env → terms.value t a v ≡ 1
    → (u : Reading) → Agrees (s.base + length s.sizes) v u → terms.value t a u ≡ 1
stays_true base c old s t a e v env h suits is u a' = h.value_is u env (suits_beside base c old s v u env a' suits) ∙ sym (h.value_is v env suits) ∙ is

pub choice_is : (base : Reading → Source) (c : Context) (old : List Node) (s : Scope) (t new : List Node) (test a b r : ℕ) (d e f : Tree) → IsTermOf base c old s t test d → IsTermWhere base c old s t test t a e → IsTermOf base c old s t b f
    → ((v : Reading) → terms.value t test v < 2) → r < length new → width new r ≡ width t a → ((v : Reading) → terms.value new r v ≡ (if nat_eq (terms.value t test v) 1 then terms.value t a v else terms.value t b v))
    → IsTermOf base c old s new r (choose d e f)
choice_is base c old s t new test a b r d e f td ta tb small within wide is =
    record {
      within = within;
      width_is = wide ∙ ta.width_is;
      value_is = λ v env suits.
          is v
          ∙ chosen (terms.value t test v) (terms.value t a v) (terms.value t b v) (value c env e) (value c env f) (small v)
          (λ one. ta.value_is v env suits (stays_true base c old s t test d v env td suits one)) (tb.value_is v env suits)
          ∙ ap (λ n. if holds n then value c env e else value c env f) (td.value_is v env suits);
    }

pub implied_is : (base : Reading → Source) (c : Context) (old : List Node) (s : Scope) (t new : List Node) (a b r : ℕ) (e f : Tree) → IsTermOf base c old s t a e → IsTermWhere base c old s t a t b f
    → ((v : Reading) → terms.value t a v < 2) → r < length new → width new r ≡ 1 → ((v : Reading) → terms.value new r v ≡ bit (not (holds (terms.value t a v)) || holds (terms.value t b v)))
    → IsTermOf base c old s new r (binary Implies e f)
implied_is base c old s t new a b r e f ta tb small within wide is =
    record {
      within = within;
      width_is = wide;
      value_is = λ v env suits.
          is v
          ∙ implied_so (terms.value t a v) (terms.value t b v) (value c env f) (small v) (λ one. tb.value_is v env suits (stays_true base c old s t a e v env ta suits one))
          ∙ ap (λ n. bit (not (holds n) || holds (value c env f))) (ta.value_is v env suits);
    }

-- ---- quantifiers

pub for_all_is : (base : Reading → Source) (c : Context) (old : List Node) (s : Scope) (t new : List Node) (body r first : ℕ) (sizes : List ℕ) (e : Tree) → length s.keys ≤ length s.sizes → first ≡ s.base + length s.sizes → ((v : Reading) → terms.value t body v < 2)
    → r < length new → width new r ≡ 1 → ((v : Reading) → terms.value new r v ≡ bit (every_tuple (bounds_from first sizes) (λ u. nat_eq (terms.value t body u) 1) v))
    → IsTermOf base (with_bounds c sizes) old (entered s sizes) t body e → IsTermOf base c old s new r (for_all sizes e)
for_all_is base c old s t new body r first sizes e keys next small within wide is h =
    record {
      within = within;
      width_is = wide;
      value_is = λ v env suits.
          is v
          ∙ ap (λ q. bit (every_tuple (bounds_from q sizes) (λ u. nat_eq (terms.value t body u) 1) v)) next
          ∙ ap bit (every_is base c old s t body sizes e keys small h v env suits);
    }

one_is : (b : Bool) → nat_eq (bit b) 1 ≡ b
one_is true = refl
one_is false = refl

pub exists_is : (base : Reading → Source) (c : Context) (old : List Node) (s : Scope) (t new : List Node) (body r first : ℕ) (sizes : List ℕ) (e : Tree) → length s.keys ≤ length s.sizes → first ≡ s.base + length s.sizes
    → r < length new → width new r ≡ 1 → ((v : Reading) → terms.value new r v ≡ bit (not (every_tuple (bounds_from first sizes) (λ u. nat_eq (bit (not (holds (terms.value t body u)))) 1) v)))
    → IsTermOf base (with_bounds c sizes) old (entered s sizes) t body e → IsTermOf base c old s new r (exists sizes e)
exists_is base c old s t new body r first sizes e keys next within wide is h =
    let p : Reading → Bool = λ u. nat_eq (bit (not (holds (terms.value t body u)))) 1 in
    let q : Env → List ℕ → Bool = λ env k. holds (value (with_bounds c sizes) (binding env k) e) in
    let start : ℕ = s.base + length s.sizes in
    record {
      within = within;
      width_is = wide;
      value_is = λ v env suits.
          is v
          ∙ ap (λ n. bit (not (every_tuple (bounds_from n sizes) p v))) next
          ∙ ap (λ b. bit (not b))
          (every_tuple_is start sizes p v
          ∙ all_same (AreBelow sizes) (λ k. p (with_vars v start k)) (λ k. not (q env k))
          (λ k each. one_is (not (holds (terms.value t body (with_vars v start k))))
          ∙ ap (λ n. not (holds n)) (h.value_is (with_vars v start k) (binding env k) (suits_entered base c old s v env sizes k keys each suits)))
          (tuples sizes) (all_below sizes))
          ∙ ap bit (none_any (q env) (tuples sizes));
    }

-- ---- indices

pub limited_of : (base : Reading → Source) (c : Context) (old : List Node) (s : Scope) (t : List Node) (ls : List Limit) (es : Trees) → AreLimitsOf base c old s t ls es → (v : Reading) (env : Env) → Suits base c old s v env → AreLimited t ls v
limited_of base c old s t [] es h v env suits = λ k d low. absurd (omega (arith, low))
limited_of base c old s t (l ∷ ls) no_trees h v env suits = absurd h
limited_of base c old s t (l ∷ ls) (tree_and e es) h v env suits =
    All-cons (λ (x : Limit). terms.value t x.term v ≤ x.most) l ls (h.0.most v env suits) (limited_of base c old s t ls es h.1 v env suits)

pub values_of : (base : Reading → Source) (c : Context) (old : List Node) (s : Scope) (t : List Node) (ls : List Limit) (es : Trees) → AreLimitsOf base c old s t ls es → (v : Reading) (env : Env) → Suits base c old s v env → index_values t ls v ≡ values c env es
values_of base c old s t [] no_trees h v env suits = refl
values_of base c old s t [] (tree_and e es) h v env suits = absurd h
values_of base c old s t (l ∷ ls) no_trees h v env suits = absurd h
values_of base c old s t (l ∷ ls) (tree_and e es) h v env suits = λ i. h.0.term.value_is v env suits i ∷ values_of base c old s t ls es h.1 v env suits i

pub indices_are : (base : Reading → Source) (c : Context) (old : List Node) (s : Scope) (t : List Node) (keys : List Key) (ls : List Limit) (es : Trees) → AreLimitsOf base c old s t ls es → AreIndices c keys es → AreIndexTerms t keys ls
indices_are base c old s t [] [] no_trees h g = refl
indices_are base c old s t (k ∷ ks) [] no_trees h g = cc
indices_are base c old s t keys [] (tree_and e es) h g = absurd h
indices_are base c old s t keys (l ∷ ls) no_trees h g = absurd h
indices_are base c old s t keys (l ∷ ls) (tree_and e es) h g =
    let P : List Key → Type 0 = λ ks. AreIndexTerms t ks (l ∷ ls) in
    subst P (sym g.2) (h.0.term.within, h.0.term.width_is ∙ g.4, indices_are base c old s t g.1 ls es h.1 g.5)

pub indices_sorted : (c : Context) (keys : List Key) (es : Trees) → AreIndices c keys es → AreSorted c es
indices_sorted c keys no_trees g = tt
indices_sorted c keys (tree_and e es) g = (g.3, indices_sorted c g.1 es g.5)

state_is : (source : Source) (env : Env) (name : StateName) → source ≡ record { old = env.old; new = env.new; memory = env.memory } → state_in source name ≡ state_of env name
state_is source env Old h = ap (λ q. q.old) h
state_is source env New h = ap (λ q. q.new) h

pub entry_is : (base src : Reading → Source) (named : Context) (limit : ℕ) (s : Scope) (old t new : List Node) (name : StateName) (f r : ℕ) (ls : List Limit) (es : Trees) → s.base + length s.sizes ≤ limit → Lasts base old src t s
    → AreLimitsOf base (context_of named s) old s t ls es → r < length new → width new r ≡ (slice_index_or named.fields f no_field).width
    → ((v : Reading) → AreLimited t ls v → AreSteady limit t ls v → Rests limit src v → terms.value new r v ≡ entry_at (slice_index_or (state_in (src v) name) f []) (place_behind 0 (slice_index_or named.fields f no_field).keys (index_values t ls v)))
    → IsTermOf base (context_of named s) old s new r (entry name f es)
entry_is base src named limit s old t new name f r ls es ids lasts limits within wide is =
    let c : Context = context_of named s in
    let keys : List Key = (slice_index_or named.fields f no_field).keys in
    record {
      within = within;
      width_is = wide;
      value_is = λ v env suits.
          let here : index_values t ls v ≡ values c env es = values_of base c old s t ls es limits v env suits in
          is v (limited_of base c old s t ls es limits v env suits)
          (λ u a. values_of base c old s t ls es limits u env (suits_beside base c old s v u env (agrees_less (s.base + length s.sizes) limit v u ids a) suits) ∙ sym here)
          (λ u a. lasts.same u ∙ (suits u (agrees_less (s.base + length s.sizes) limit v u ids a)).read ∙ sym (lasts.same v ∙ (read_here base c old s v env suits).read))
          ∙ ap (λ st. entry_at (slice_index_or st f []) (place_behind 0 keys (index_values t ls v))) (state_is (src v) env name (lasts.same v ∙ (read_here base c old s v env suits).read))
          ∙ ap (λ is'. entry_at (slice_index_or (state_of env name) f []) (place_behind 0 keys is')) here;
    }

-- ---- paths

pub indexed_of : (base : Reading → Source) (c : Context) (old : List Node) (s : Scope) (t : List Node) (ls : List Limit) (steps : Steps) → AreLimitsOf base c old s t ls (step_trees steps) → AreIndexed t steps ls
indexed_of base c old s t [] no_steps h = refl
indexed_of base c old s t [] (step_and count stride e steps) h = absurd h
indexed_of base c old s t (l ∷ ls) no_steps h = absurd h
indexed_of base c old s t (l ∷ ls) (step_and count stride e steps) h = (h.0.term.within, indexed_of base c old s t ls steps h.1)

pub steps_sorted : (c : Context) (steps : Steps) → AreSteps c steps → AreSorted c (step_trees steps)
steps_sorted c no_steps g = tt
steps_sorted c (step_and count stride e steps) g = (g.0, steps_sorted c steps g.1)

-- ---- where steps lead

turned : (a b n : ℕ) → a + b + n ≡ b + (a + n)
turned a b n = omega arith

turned_back : (a b n : ℕ) → a + (b + n) ≡ b + (a + n)
turned_back a b n = omega arith

mods : (at x n : ℕ) → ((at + x % 2 ^ 64) % 2 ^ 64 + n) % 2 ^ 64 ≡ (at + (x + n)) % 2 ^ 64
mods at x n =
    mod-add-mod (at + x % 2 ^ 64) (2 ^ 64) n
    ∙ ap (λ q. q % 2 ^ 64) (turned at (x % 2 ^ 64) n)
    ∙ mod-add-mod x (2 ^ 64) (at + n)
    ∙ ap (λ q. q % 2 ^ 64) (sym (turned_back at x n))

led_step : (inside low : Bool) (at x : ℕ) (rest : Option ℕ) → (if (inside && low) then option_map (λ n. ((at + x % 2 ^ 64) % 2 ^ 64 + n) % 2 ^ 64) rest else None) ≡ (if inside then option_map (λ n. (at + n) % 2 ^ 64) (if low then option_map (λ n. x + n) rest else None) else None)
led_step false low at x rest = refl
led_step true false at x rest = refl
led_step true true at x None = refl
led_step true true at x (Some n) = ap Some (mods at x n)

last_step : (inside : Bool) (at : ℕ) → option_map (λ n. n % 2 ^ 64) (if inside then Some at else None) ≡ (if inside then Some ((at + 0) % 2 ^ 64) else None)
last_step true at = let e : at ≡ at + 0 = omega arith in ap (λ n. Some (n % 2 ^ 64)) e
last_step false at = refl

pub led_is : (base : Reading → Source) (c : Context) (old : List Node) (s : Scope) (t : List Node) (ls : List Limit) (steps : Steps) → AreLimitsOf base c old s t ls (step_trees steps) → (v : Reading) (env : Env) → Suits base c old s v env
    → (inside : Bool) (at : ℕ) → option_map (λ n. n % 2 ^ 64) (led inside at steps (index_values t ls v)) ≡ (if inside then option_map (λ n. (at + n) % 2 ^ 64) (bytes_added c env steps) else None)
led_is base c old s t [] no_steps h v env suits inside at = last_step inside at
led_is base c old s t [] (step_and count stride e steps) h v env suits inside at = absurd h
led_is base c old s t (l ∷ ls) no_steps h v env suits inside at = absurd h
led_is base c old s t (l ∷ ls) (step_and count stride e steps) h v env suits inside at =
    let i : ℕ = terms.value t l.term v in
    led_is base c old s t ls steps h.1 v env suits (inside && nat_lt i count) ((at + i * stride % 2 ^ 64) % 2 ^ 64)
    ∙ led_step inside (nat_lt i count) at (i * stride) (bytes_added c env steps)
    ∙ ap (λ q. if inside then option_map (λ n. (at + n) % 2 ^ 64) (stepped count stride q (bytes_added c env steps)) else None) (h.0.term.value_is v env suits)

object_there : (ns : List ℕ) (memory : List (List ℕ)) (o size : ℕ) → IsMemory ns memory → slice_get ns o ≡ Some size → length (slice_index_or memory o []) ≡ size
object_there [] memory o size h g = cc
object_there (n ∷ ns) [] o size h g = absurd h
object_there (n ∷ ns) (bytes ∷ memory) zero size h g = let e : n ≡ size = cc in h.0.0 ∙ e
object_there (n ∷ ns) (bytes ∷ memory) (suc o) size h g = object_there ns memory o size h.1 g

picked : (b : Bool) (o : Option ℕ) (n : ℕ) → (if b then o else None) ≡ Some n → (b ≡ true) × (o ≡ Some n)
picked true o n h = (refl, h)
picked false o n h = cc

mapped : (p : ℕ) (o : Option ℕ) (n : ℕ) → option_map (λ m. p + m) o ≡ Some n → (m : ℕ) × (o ≡ Some m) × (n ≡ p + m)
mapped p None n h = cc
mapped p (Some m) n h = let e : p + m ≡ n = cc in (m, refl, sym e)

adds : (c : Context) (v : Env) (steps : Steps) (n : ℕ) → bytes_added c v steps ≡ Some n → Adds steps n
adds c v no_steps n h = let e : 0 ≡ n = cc in sym e
adds c v (step_and count stride e steps) n h =
    let i = value c v e in
    let t = picked (nat_lt i count) (option_map (λ m. i * stride + m) (bytes_added c v steps)) n h in
    let m = mapped (i * stride) (bytes_added c v steps) n t.1 in
    (i, m.0, ltb-true i count t.0, adds c v steps m.0 m.1, m.2)

pub record Ends (inside : Bool) (offset : ℕ) (added : Option ℕ) (object : List ℕ) (begin bytes : ℕ) : Type 0 where
  pub lies : inside ≡ true → offset + bytes ≤ length object
  pub is : (if inside then load object offset bytes else 0) ≡ loaded object begin bytes added

ends : (inside : Bool) (offset : ℕ) (added : Option ℕ) (object : List ℕ) (begin bytes size : ℕ) → option_map (λ n. n % 2 ^ 64) (if inside then Some offset else None) ≡ option_map (λ n. (begin + n) % 2 ^ 64) added → offset < 2 ^ 64
    → ((n : ℕ) → added ≡ Some n → begin + n + bytes ≤ size) → size < 2 ^ 64 → length object ≡ size → Ends inside offset added object begin bytes
ends true offset None object begin bytes size h low fits small whole = cc
ends true offset (Some n) object begin bytes size h low fits small whole =
    let e : offset % 2 ^ 64 ≡ (begin + n) % 2 ^ 64 = cc in
    let room : begin + n + bytes ≤ size = fits n refl in
    let same : offset ≡ begin + n = sym (mod-eq_of_lt low) ∙ e ∙ mod-eq_of_lt (omega (arith, room, small)) in
    record { lies = λ q. omega (arith, same, room, whole); is = ap (λ at. load object at bytes) same }
ends false offset None object begin bytes size h low fits small whole = record { lies = λ q. let z : ⊥ = cc in absurd z; is = refl }
ends false offset (Some n) object begin bytes size h low fits small whole = cc

get_there : (ns : List ℕ) (o size : ℕ) → slice_get ns o ≡ Some size → (o < length ns) × (get_or ns o 0 ≡ size)
get_there [] o size h = cc
get_there (n ∷ ns) zero size h = let e : n ≡ size = cc in (omega arith, e)
get_there (n ∷ ns) (suc o) size h = let r = get_there ns o size h in (omega (arith, r.0), r.1)

pub object_within : (ns : List ℕ) (o size : ℕ) → slice_get ns o ≡ Some size → o < length ns
object_within ns o size h = (get_there ns o size h).0

pub path_is : (base src mid_src : Reading → Source) (named : Context) (s : Scope) (old t mid new : List Node) (o begin bytes inside offset r : ℕ) (steps : Steps) (ls : List Limit) → All (λ size. size < 2 ^ 64) named.objects
    → IsSorted (context_of named s) (path o begin steps bytes) → Lasts base old src t s → AreLimitsOf base (context_of named s) old s t ls (step_trees steps) → ((v : Reading) → mid_src v ≡ src v)
    → ((v : Reading) → AreLimited t ls v → led true begin steps (index_values t ls v) ≡ (if holds (terms.value mid inside v) then Some (terms.value mid offset v) else None))
    → ((v : Reading) → terms.value mid offset v < 2 ^ 64)
    → r < length new → width new r ≡ 8 * bytes
    → ((v : Reading) → IsMemory named.objects (mid_src v).memory → (holds (terms.value mid inside v) ≡ true → terms.value mid offset v + bytes ≤ length (slice_index_or (mid_src v).memory o []))
    → terms.value new r v ≡ (if holds (terms.value mid inside v) then load (slice_index_or (mid_src v).memory o []) (terms.value mid offset v) bytes else 0))
    → IsTermOf base (context_of named s) old s new r (path o begin steps bytes)
path_is base src mid_src named s old t mid new o begin bytes inside offset r steps ls objects sorted lasts limits same leads low within wide is =
    let c : Context = context_of named s in
    record {
      within = within;
      width_is = wide;
      value_is = λ v env suits.
          let rd = read_here base c old s v env suits in
          let memory : (mid_src v).memory ≡ env.memory = ap (λ q. q.memory) (same v ∙ lasts.same v ∙ rd.read) in
          let there : IsMemory named.objects env.memory = rd.memory sorted.0 in
          let whole : length (slice_index_or env.memory o []) ≡ sorted.1 = object_there named.objects env.memory o sorted.1 there sorted.2 in
          let g = get_there named.objects o sorted.1 sorted.2 in
          let small : sorted.1 < 2 ^ 64 = subst (λ n. n < 2 ^ 64) g.1 (objects o 0 g.0) in
          let e = ends (holds (terms.value mid inside v)) (terms.value mid offset v) (bytes_added c env steps) (slice_index_or env.memory o []) begin bytes sorted.1
          (ap (option_map (λ n. n % 2 ^ 64)) (sym (leads v (limited_of base c old s t ls (step_trees steps) limits v env suits))) ∙ led_is base c old s t ls steps limits v env suits true begin)
          (low v) (λ n added. sorted.3.inside n (adds c env steps n added)) small whole in
          is v (subst (IsMemory named.objects) (sym memory) there) (λ q. subst (λ m. terms.value mid offset v + bytes ≤ length (slice_index_or m o [])) (sym memory) (e.lies q))
          ∙ ap (λ m. if holds (terms.value mid inside v) then load (slice_index_or m o []) (terms.value mid offset v) bytes else 0) memory
          ∙ e.is;
    }

pub truth_small : (t : List Node) (a w : ℕ) → w ≡ width t a → width t a ≡ 1 → ((v : Reading) → terms.value t a v < 2 ^ w) → (v : Reading) → terms.value t a v < 2
truth_small t a w is one h v = subst (λ n. terms.value t a v < 2 ^ n) (is ∙ one) (h v)

pub word_small : (t : List Node) (a w : ℕ) → w ≡ width t a → width t a ≡ 64 → ((v : Reading) → terms.value t a v < 2 ^ w) → (v : Reading) → terms.value t a v < 2 ^ 64
word_small t a w is one h v = subst (λ n. terms.value t a v < 2 ^ n) (is ∙ one) (h v)
