-- What is kept of a module without a fault is its layout, and what a layout answers.
use Rattle.std.proofs.Common.{◌≡◌, ◌⊎◌, inl, inr, ℕ, zero, suc, ◌+◌, ◌-◌, ◌<◌, ◌≤◌, Bool, true, false, Option, Some, None, option_map, List, [], ◌∷◌, ◌++◌, length, map, refl, sym, ◌∙◌, ap, subst, arith, length-append}
use Rattle.std.specs.Prelude.{if◌then◌else◌, is_some, unwrap_or, min, sum, slice_get, slice_index, slice_index_or, replicate, position, bytes_eq}
use Rattle.std.specs.List.{Contains, list_all}
use Rattle.std.proofs.lemmas.Bool.{cases_lt, and_parts, false≢true, cases_Bool}
use Rattle.std.proofs.lemmas.List.{length-replicate, append-nil}
use Rattle.ir_ast.specs.Plain.{Ty, nothing, integer, pointer, array, structure, packed, named, opaque}
use Rattle.ir_ast.specs.Program.{GlobalView, ModuleView}
use Rattle.ir_ast.specs.Table.{names_of, place_of}
use Rattle.ir_ast.specs.ProgramView.{view_entries}
use Rattle.ir_type.specs.Names.{entry_of}
use Rattle.ir_type.specs.Whole.{Types, whole, meant, has_odd}
use Rattle.ir_type.specs.Cycles.{name_at}
use Rattle.ir_type.specs.Items.{global_item, IsItem, K5, K6}
use Rattle.ir_type.proofs.Places.{at_place, no_place, place_below, some_same, same_second}
use Rattle.ir_type.proofs.NameWalks.{name_of_place}
use Rattle.ir_layout.specs.declared.fact.Fact.{Fact}
use Rattle.ir_layout.specs.Sizes.{size_of, align_of, field_offset, object_size, object_align, align_if}
use Rattle.ir_layout.specs.Facts.{look_in, fact_at, fact_by, known_size, known_align, size_or_none, FactFits, AreFacts}
use Rattle.ir_layout.specs.Rules.{IsLaidOut}
use Rattle.ir_layout.specs.Least.{least_fault}
use Rattle.ir_layout.specs.Initial.{initial_bytes, bytes_of}
use Rattle.ir_layout.specs.InitFits.{init_fits}
use Rattle.ir_layout.specs.Writing.{written_align, zeros_onto, write, bytes_by, object_by}
use Rattle.ir_layout.specs.Offsets.{offsets_of, fields_in, AreRoots, with_roots}
use Rattle.ir_layout.specs.Layouts.{LayoutView, fields_at, fields_of, offsets_seen, IsMeasurable, IsLayoutOf}
use Rattle.ir_layout.proofs.Anyhow.{here, behind, split}
use Rattle.ir_layout.proofs.FactSteps.{kept_fits, unknown_stands}
use Rattle.ir_layout.proofs.OffsetLaws.{exact, fields_fit}
use Rattle.ir_layout.proofs.InitialLaws.{init_long, init_written, write_within}
use Rattle.ir_layout.proofs.Verdicts.{laid_out}

-- ---- lists

map_map : {X Y Z : Type 0} (f : Y → Z) (g : X → Y) (xs : List X) → map f (map g xs) ≡ map (λ x. f (g x)) xs
map_map f g [] = refl
map_map f g (x ∷ xs) = ap (λ ys. f (g x) ∷ ys) (map_map f g xs)

map_same : {X Y : Type 0} (f g : X → Y) (xs : List X) → ((x : X) → Contains xs x → f x ≡ g x) → map f xs ≡ map g xs
map_same f g [] all = refl
map_same f g (x ∷ xs) all = ap (λ y. y ∷ map f xs) (all x (here x xs)) ∙ ap (λ ys. g x ∷ ys) (map_same f g xs (λ y c. all y (behind x y xs c)))

parted : {X : Type 0} (xs : List X) (x : X) → Contains xs x → (before after : List X) × (xs ≡ before ++ x ∷ after)
parted [] x (k, l, e) = absurd (omega (arith, l))
parted {X} (y ∷ ys) x c = pick (split y x ys c) (λ d. parted ys x d)
  where
    pick : (y ≡ x) ⊎ Contains ys x → (Contains ys x → (before after : List X) × (ys ≡ before ++ x ∷ after)) → (before after : List X) × (y ∷ ys ≡ before ++ x ∷ after)
    pick (inl e) rest = ([], ys, ap (λ z. z ∷ ys) e)
    pick (inr d) rest = let r = rest d in (y ∷ r.0, r.1, ap (λ zs. y ∷ zs) r.2)

all_has : {X : Type 0} (p : X → Bool) (xs : List X) (x : X) → list_all p xs ≡ true → Contains xs x → p x ≡ true
all_has p [] x h (k, l, e) = absurd (omega (arith, l))
all_has p (y ∷ ys) x h c = pick (split y x ys c) (λ d. all_has p ys x ((and_parts (p y) (list_all p ys) h).1) d)
  where
    pick : (y ≡ x) ⊎ Contains ys x → (Contains ys x → p x ≡ true) → p x ≡ true
    pick (inl e) rest = sym (ap p e) ∙ (and_parts (p y) (list_all p ys) h).0
    pick (inr d) rest = rest d

mapped_at : {X Y : Type 0} (f : X → Y) (xs : List X) (k : ℕ) (d : Y) (x : X) → slice_get xs k ≡ Some x → slice_index_or (map f xs) k d ≡ f x
mapped_at f [] k d x e = absurd cc
mapped_at f (y ∷ ys) zero d x e = ap f (some_same y x e)
mapped_at f (y ∷ ys) (suc k) d x e = mapped_at f ys k d x e

pub got_map : {X Y : Type 0} (f : X → Y) (xs : List X) (k : ℕ) (x : X) → slice_get xs k ≡ Some x → slice_get (map f xs) k ≡ Some (f x)
got_map f [] k x e = absurd cc
got_map f (y ∷ ys) zero x e = ap (λ z. Some (f z)) (some_same y x e)
got_map f (y ∷ ys) (suc k) x e = got_map f ys k x e

-- ---- sizes and alignments that are answered

module _ (types : Types) where
  unknown : (t : Ty) → is_some (whole types t) ≡ false → meant types t ≡ opaque
  unknown t e = pick (whole types t) refl e
    where
      pick : (o : Option Ty) → whole types t ≡ o → is_some o ≡ false → meant types t ≡ opaque
      pick None n f = ap (λ o. unwrap_or o opaque) n
      pick (Some u) n f = absurd (false≢true (sym f))

  pub size_known : (t : Ty) (f : Fact) → FactFits types t f → size_of (meant types t) ≤ 4294967296 → known_size f ≡ size_of (meant types t)
  size_known t f h l = pick f.known refl
    where
      pick : (k : Bool) → f.known ≡ k → (if k then f.size else 0) ≡ size_of (meant types t)
      pick true e = h.size e ∙ exact (size_of (meant types t)) l
      pick false e = sym (ap size_of (unknown t (sym h.known ∙ e)))

  pub align_known : (t : Ty) (f : Fact) → FactFits types t f → known_align f ≡ align_of (meant types t)
  align_known t f h = pick f.known refl
    where
      pick : (k : Bool) → f.known ≡ k → (if k then f.align else 1) ≡ align_of (meant types t)
      pick true e = h.align e
      pick false e = sym (ap align_of (unknown t (sym h.known ∙ e)))

  even : (t : Ty) (f : Fact) → FactFits types t f → f.odd ≡ false → has_odd (meant types t) ≡ false
  even t f h o = pick f.known refl
    where
      pick : (k : Bool) → f.known ≡ k → has_odd (meant types t) ≡ false
      pick true e = sym (h.seen e) ∙ o
      pick false e = ap has_odd (unknown t (sym h.known ∙ e))

-- a type of the module is not over the limit
pub measured : (m : ModuleView) (t : Ty) → IsLaidOut m → IsMeasurable m t → size_of (meant m.types t) ≤ 4294967296
measured m t free h = pick (cases_lt 4294967296 (size_of (meant m.types t)))
  where
    same : size_or_none m.types t ≡ size_of (meant m.types t)
    same = ap (λ b. if b then 0 else size_of (meant m.types t)) h.even

    pick : (4294967296 < size_of (meant m.types t)) ⊎ (size_of (meant m.types t) ≤ 4294967296) → size_of (meant m.types t) ≤ 4294967296
    pick (inr l) = l
    pick (inl l) = absurd (free h.occurs.0 h.occurs.1 K6 (inr (t, h.occurs.2, subst (λ n. 4294967296 < n) (sym same) l)))

module _ (m : ModuleView) (l : LayoutView) (h : IsLayoutOf m l) where
  pub answers : (t : Ty) → FactFits m.types t (fact_by (look_in l.names l.facts) t)
  answers t = kept_fits m.types l.facts (look_in l.names l.facts) h.facts (λ x. ap (λ ns. fact_at l.facts (position (bytes_eq x) ns)) h.names) t

  pub size_answered : (t : Ty) → size_of (meant m.types t) ≤ 4294967296 → known_size (fact_by (look_in l.names l.facts) t) ≡ size_of (meant m.types t)
  size_answered t s = size_known m.types t (fact_by (look_in l.names l.facts) t) (answers t) s

  pub align_answered : (t : Ty) → known_align (fact_by (look_in l.names l.facts) t) ≡ align_of (meant m.types t)
  align_answered t = align_known m.types t (fact_by (look_in l.names l.facts) t) (answers t)

  pub offset_answered : (t : Ty) → size_of (meant m.types t) ≤ 4294967296 → (k : ℕ) → k < fields_in (meant m.types t) → slice_index (offsets_seen l t) k ≡ field_offset (meant m.types t) k
  offset_answered nothing s k b = fields_fit m.types (look_in l.names l.facts) answers nothing refl s k b
  offset_answered (integer w) s k b = fields_fit m.types (look_in l.names l.facts) answers (integer w) refl s k b
  offset_answered pointer s k b = fields_fit m.types (look_in l.names l.facts) answers pointer refl s k b
  offset_answered (array n t) s k b = fields_fit m.types (look_in l.names l.facts) answers (array n t) refl s k b
  offset_answered (structure ts) s k b = fields_fit m.types (look_in l.names l.facts) answers (structure ts) refl s k b
  offset_answered (packed ts) s k b = fields_fit m.types (look_in l.names l.facts) answers (packed ts) refl s k b
  offset_answered (named x) s k b = h.fields x s k b
  offset_answered opaque s k b = fields_fit m.types (look_in l.names l.facts) answers opaque refl s k b

-- ---- names with their roots

names_are : {E : Type 0} (place : ℕ) (es : List (List ℕ × E)) (roots : List ℕ) → names_of (with_roots place es roots) ≡ names_of es
names_are place [] roots = refl
names_are place (e ∷ es) roots = ap (λ xs. e.0 ∷ xs) (names_are (place + 1) es roots)

pub names_count : {E : Type 0} (place : ℕ) (es : List (List ℕ × E)) (roots : List ℕ) → length (with_roots place es roots) ≡ length es
names_count place [] roots = refl
names_count place (e ∷ es) roots = ap suc (names_count (place + 1) es roots)

-- the fields of a name, by its place
pub fields_there : (fields : List (List ℕ)) (names : List (List ℕ × ℕ)) (x : List ℕ) (p r : ℕ) → place_of x names ≡ Some p → option_map (λ e. e.1) (slice_get names p) ≡ Some r
    → slice_index_or fields r [] ≡ fields_at fields (entry_of x names)
fields_there fields names x p r here root =
    let at = at_place names x p here in
    let same : at.0 ≡ r = some_same at.0 r (sym (ap (option_map (λ e. e.1)) at.1.there) ∙ root) in
    ap (λ q. slice_index_or fields q []) (sym same) ∙ sym (ap (fields_at fields) at.1.found)

pub no_fields_there : (fields : List (List ℕ)) (names : List (List ℕ × ℕ)) (x : List ℕ) → place_of x names ≡ None → [] ≡ fields_at fields (entry_of x names)
no_fields_there fields names x none = sym (ap (fields_at fields) (no_place names x none))

pub roots_viewed : {E V : Type 0} (view : E → V) (place : ℕ) (es : List (List ℕ × E)) (roots : List ℕ) → with_roots place es roots ≡ with_roots place (view_entries view es) roots
roots_viewed view place [] roots = refl
roots_viewed view place (e ∷ es) roots = ap (λ xs. (e.0, slice_index roots place) ∷ xs) (roots_viewed view (place + 1) es roots)

root_there : {E : Type 0} (place : ℕ) (es : List (List ℕ × E)) (roots : List ℕ) (p : ℕ) (y : List ℕ) (r : ℕ) → slice_get (with_roots place es roots) p ≡ Some (y, r) → r ≡ slice_index roots (place + p)
root_there place [] roots p y r e = absurd cc
root_there place (x ∷ es) roots zero y r e =
    sym (same_second {A = List ℕ} {B = ℕ} (x.0, slice_index roots place) (y, r) e) ∙ ap (slice_index roots) (let z : place ≡ place + 0 = omega arith in z)
root_there place (x ∷ es) roots (suc p) y r e = root_there (place + 1) es roots p y r e ∙ ap (slice_index roots) (let z : place + 1 + p ≡ place + suc p = omega arith in z)

-- ---- the layout is that of the module

module _ (m : ModuleView) (l : LayoutView) (look : List ℕ → Fact) (same : (x : List ℕ) → look x ≡ fact_at l.facts (place_of x m.types)) (facts : AreFacts m.types l.facts) where
  fit : (t : Ty) → FactFits m.types t (fact_by look t)
  fit t = kept_fits m.types l.facts look facts same t

  fields_are : (roots : List ℕ) → l.names ≡ with_roots 0 m.types roots → AreRoots m.types roots → l.fields ≡ map (λ e. offsets_of look e.1.over) m.types
      → (x : List ℕ) → size_of (meant m.types (named x)) ≤ 4294967296 → (k : ℕ) → k < fields_in (meant m.types (named x)) → slice_index (fields_of l x) k ≡ field_offset (meant m.types (named x)) k
  fields_are roots names rooted fields x s k b = by_place (place_of x m.types) refl
    where
      lost : whole m.types (named x) ≡ None → ⊥
      lost e = let c = subst (λ o. k < fields_in (unwrap_or o opaque)) e b in omega (arith, c)

      by_place : (o : Option ℕ) → place_of x m.types ≡ o → slice_index (fields_of l x) k ≡ field_offset (meant m.types (named x)) k
      by_place None n = absurd (lost (unknown_stands m.types (length m.types) x (no_place m.types x n)))
      by_place (Some p) n = by_whole (whole m.types (named x)) refl
        where
          in_names : place_of x l.names ≡ Some p
          in_names = ap (place_of x) names ∙ ap (position (bytes_eq x)) (names_are 0 m.types roots) ∙ n

          below : p < length m.types
          below = place_below m.types x p n

          by_whole : (o : Option Ty) → whole m.types (named x) ≡ o → slice_index (fields_of l x) k ≡ field_offset (meant m.types (named x)) k
          by_whole None e = absurd (lost e)
          by_whole (Some u) e =
              let at = at_place l.names x p in_names in
              let root : at.0 ≡ slice_index roots p =
              root_there 0 m.types roots p x at.0 (subst (λ ns. slice_get ns p ≡ Some (x, at.0)) names at.1.there) ∙ ap (slice_index roots) (let z : 0 + p ≡ p = omega arith in z) in
              let name : name_at m.types p ≡ x = name_of_place m.types facts.distinct x p n in
              let r = rooted.each p below (ap (λ y. is_some (whole m.types (named y))) name ∙ ap is_some e) in
              let seen : whole m.types (named x) ≡ whole m.types r.1.over = ap (λ y. whole m.types (named y)) (sym name) ∙ r.3 in
              let stands : meant m.types (named x) ≡ meant m.types r.1.over = ap (λ o. unwrap_or o opaque) seen in
              let kept : fields_of l x ≡ offsets_of look r.1.over =
              ap (fields_at l.fields) at.1.found ∙ ap (λ q. slice_index_or l.fields q []) root ∙ ap (λ fs. slice_index_or fs (slice_index roots p) []) fields
              ∙ mapped_at (λ e. offsets_of look e.1.over) m.types (slice_index roots p) [] (r.0, r.1) r.2 in
              ap (λ xs. slice_index xs k) kept
              ∙ fields_fit m.types look fit r.1.over r.4 (subst (λ t. size_of t ≤ 4294967296) stands s) k (subst (λ t. k < fields_in t) stands b)
              ∙ sym (ap (λ t. field_offset t k) stands)

  -- a global of a module without a fault
  record IsPlain (g : GlobalView) : Type 0 where
    size : size_of (meant m.types g.over) ≤ 4194304
    known : known_size (fact_by look g.over) ≡ size_of (meant m.types g.over)

  plain : IsLaidOut m → (g : List ℕ × GlobalView) → Contains m.globals g → IsPlain g.1
  plain free g c = record { size = small; known = size_known m.types g.1.over (fact_by look g.1.over) (fit g.1.over) (wider (size_of (meant m.types g.1.over)) small) }
    where
      wider : (n : ℕ) → n ≤ 4194304 → n ≤ 4294967296
      wider n l = omega (arith, l)

      cuts : (before after : List (List ℕ × GlobalView)) × (m.globals ≡ before ++ g ∷ after)
      cuts = parted m.globals g c

      there : IsItem m (global_item cuts.0 g.1)
      there = (g.0, cuts.1, cuts.2)

      not_odd : (fact_by look g.1.over).odd ≡ false
      not_odd = pick (cases_Bool (fact_by look g.1.over).odd)
        where
          pick : ((fact_by look g.1.over).odd ≡ true) ⊎ ((fact_by look g.1.over).odd ≡ false) → (fact_by look g.1.over).odd ≡ false
          pick (inl e) = absurd (free (global_item cuts.0 g.1) there K5 (inr (sym (fit g.1.over).odd ∙ e)))
          pick (inr e) = e

      counted : size_or_none m.types g.1.over ≡ size_of (meant m.types g.1.over)
      counted = ap (λ b. if b then 0 else size_of (meant m.types g.1.over)) (even m.types g.1.over (fact_by look g.1.over) (fit g.1.over) not_odd)

      small : size_of (meant m.types g.1.over) ≤ 4194304
      small = pick (cases_lt 4194304 (sum (map (λ e. size_or_none m.types e.1.over) cuts.0) + size_or_none m.types g.1.over))
        where
          under : (a b c : ℕ) → a + b ≤ 4194304 → b ≡ c → c ≤ 4194304
          under a b c l e = omega (arith, l, e)

          pick : (4194304 < sum (map (λ e. size_or_none m.types e.1.over) cuts.0) + size_or_none m.types g.1.over) ⊎ (sum (map (λ e. size_or_none m.types e.1.over) cuts.0) + size_or_none m.types g.1.over ≤ 4194304)
              → size_of (meant m.types g.1.over) ≤ 4194304
          pick (inl l) = absurd (free (global_item cuts.0 g.1) there K6 (inl l))
          pick (inr l) = under (sum (map (λ e. size_or_none m.types e.1.over) cuts.0)) (size_or_none m.types g.1.over) (size_of (meant m.types g.1.over)) l counted

  aligned : (a : Option ℕ) (t : Ty) (n : ℕ) → n ≡ align_of t → written_align a n ≡ align_if a t
  aligned None t n e = e
  aligned (Some zero) t n e = e
  aligned (Some (suc k)) t n e = refl

  shaped : (g : GlobalView) → length (bytes_by look g) ≡ known_size (fact_by look g.over)
  shaped g =
      let within = write_within m.types look fit (known_size (fact_by look g.over)) (known_size (fact_by look g.over)) g.init [] (omega arith) in
      let long : length (bytes_by look g) ≡ length (write look (known_size (fact_by look g.over)) (known_size (fact_by look g.over)) g.init [])
      + min (known_size (fact_by look g.over)) (known_size (fact_by look g.over) - length (write look (known_size (fact_by look g.over)) (known_size (fact_by look g.over)) g.init [])) =
      length-append (write look (known_size (fact_by look g.over)) (known_size (fact_by look g.over)) g.init [])
      (replicate (min (known_size (fact_by look g.over)) (known_size (fact_by look g.over) - length (write look (known_size (fact_by look g.over)) (known_size (fact_by look g.over)) g.init []))) 0)
      ∙ ap (λ k. length (write look (known_size (fact_by look g.over)) (known_size (fact_by look g.over)) g.init []) + k)
      (length-replicate (min (known_size (fact_by look g.over)) (known_size (fact_by look g.over) - length (write look (known_size (fact_by look g.over)) (known_size (fact_by look g.over)) g.init []))) 0) in
      long ∙ filled (length (write look (known_size (fact_by look g.over)) (known_size (fact_by look g.over)) g.init [])) (known_size (fact_by look g.over)) within
    where
      filled : (w n : ℕ) → w ≤ n → w + min n (n - w) ≡ n
      filled w n l = omega (arith, l)

  initial : (g : GlobalView) → IsPlain g → init_fits m.types (meant m.types g.over) g.init ≡ true → bytes_by look g ≡ initial_bytes m.types g
  initial g p h =
      ap (λ n. zeros_onto n n (write look n n g.init [])) p.known
      ∙ ap (zeros_onto (size_of (meant m.types g.over)) (size_of (meant m.types g.over))) written
      ∙ padded (size_of (meant m.types g.over)) (bytes_of (meant m.types g.over) g.init) (init_long m.types (meant m.types g.over) g.init h)
    where
      wider : (n : ℕ) → n ≤ 4194304 → n ≤ 4294967296
      wider n l = omega (arith, l)

      begins : (n : ℕ) → 0 + n ≤ n
      begins n = omega arith

      written : write look (size_of (meant m.types g.over)) (size_of (meant m.types g.over)) g.init [] ≡ bytes_of (meant m.types g.over) g.init
      written =
          init_written m.types look fit (size_of (meant m.types g.over)) (meant m.types g.over) g.init h (wider (size_of (meant m.types g.over)) p.size) [] (begins (size_of (meant m.types g.over)))

      padded : (n : ℕ) (bs : List ℕ) → length bs ≡ n → zeros_onto n n bs ≡ bs
      padded n bs e = let none : min n (n - length bs) ≡ 0 = omega (arith, e) in ap (λ k. bs ++ replicate k 0) none ∙ append-nil bs

  pub made : (roots : List ℕ) → l.names ≡ with_roots 0 m.types roots → AreRoots m.types roots → l.fields ≡ map (λ e. offsets_of look e.1.over) m.types → l.objects ≡ map (λ g. object_by look g.1) m.globals
      → least_fault look m ≡ None → IsLayoutOf m l
  made roots names rooted fields objects none =
      let free : IsLaidOut m = laid_out m look fit none in
      record {
        laid_out = free;
        names = ap names_of names ∙ names_are 0 m.types roots;
        facts = facts;
        fields = λ x s k b. fields_are roots names rooted fields x s k b;
        sizes = ap (map (λ o. o.size)) objects ∙ map_map (λ o. o.size) (λ g. object_by look g.1) m.globals
            ∙ map_same (λ g. known_size (fact_by look g.1.over)) (λ g. object_size m.types g.1) m.globals (λ g c. (plain free g c).known);
        aligns = ap (map (λ o. o.align)) objects ∙ map_map (λ o. o.align) (λ g. object_by look g.1) m.globals
            ∙ map_same (λ g. written_align g.1.align (known_align (fact_by look g.1.over))) (λ g. object_align m.types g.1) m.globals
            (λ g c. aligned g.1.align (meant m.types g.1.over) (known_align (fact_by look g.1.over)) (align_known m.types g.1.over (fact_by look g.1.over) (fit g.1.over)));
        constants = ap (map (λ o. o.constant)) objects ∙ map_map (λ o. o.constant) (λ g. object_by look g.1) m.globals;
        shapes = ap (map (λ o. length o.bytes)) objects ∙ map_map (λ o. length o.bytes) (λ g. object_by look g.1) m.globals
            ∙ map_same (λ g. length (bytes_by look g.1)) (λ g. known_size (fact_by look g.1.over)) m.globals (λ g c. shaped g.1)
            ∙ sym (ap (map (λ o. o.size)) objects ∙ map_map (λ o. o.size) (λ g. object_by look g.1) m.globals);
        bytes = λ f. ap (map (λ o. o.bytes)) objects ∙ map_map (λ o. o.bytes) (λ g. object_by look g.1) m.globals
            ∙ map_same (λ g. bytes_by look g.1) (λ g. initial_bytes m.types g.1) m.globals
            (λ g c. initial g.1 (plain free g c) (all_has (λ g. init_fits m.types (meant m.types g.1.over) g.1.init) m.globals g f c));
      }
