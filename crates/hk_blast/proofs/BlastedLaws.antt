-- What is said of a table stays as gates and entries are added, and of a front of it; and what it says of assignments.
use Rattle.std.proofs.Common.{◌≡◌, ◌⊎◌, inl, inr, ℕ, zero, suc, ◌+◌, ◌*◌, ◌<◌, ◌≤◌, ◌^◌, Bool, true, cond, nat_eq, List, [], ◌∷◌, ◌++◌, length, take, ℤ, Option, Some, None, refl, sym, ◌∙◌, ap, subst, arith, pow-suc}
use Rattle.std.specs.Prelude.{slice_get, unwrap_or, is_some, option_map}
use Rattle.std.specs.List.{All}
use Rattle.std.specs.Map.{lookup}
use Rattle.std.proofs.lemmas.Bool.{cases_lt}
use Rattle.std.proofs.lemmas.Option.{none-some, same_Some, slice_get_within, get_or_from_slice_get}
use Rattle.std.proofs.lemmas.List.Elements.{All-nil, All-head, All-tail, All-cons}
use Rattle.hk_term.specs.Shape.{IsWidth, width}
use Rattle.hk_term.specs.declared.node.Node.{Node}
use Rattle.hk_term.specs.declared.node.Node.TheVariants.{Const, Var, Select, Unary, Binary, Choose, Resize, ForAll}
use Rattle.hk_term.specs.Operations.{unary_value, binary_value, resize_value}
use Rattle.hk_cnf.specs.Literal.{IsWithin, place_of, value_at}
use Rattle.hk_cnf.specs.Circuit.{Circuit, gate_value, variable}
use Rattle.hk_cnf.specs.CircuitGrowth.{values_of}
use Rattle.hk_cnf.proofs.Running.{place_of-variable}
use Rattle.hk_circuit.specs.Words.{bit, gate_number}
use Rattle.hk_circuit.proofs.WordNumbers.{within_more, number-same, bit-below}
use Rattle.hk_blast.specs.Blasted.{Words, word_in, HasWord, HasParts, HasValue, is_input_at, input_places, variables_from, IsFree, IsBlasted, AreBlasted, word_number, HaveValues}
use Rattle.hk_blast.proofs.WordLists.{word_of, cases_word, word_front, entry_of, get_front, front_front, get_push, is_input-at, places-all}

-- the places of variables from a start on
pub variables-below : (n s k p : ℕ) → All (IsWithin n) (variables_from s k) → s ≤ p → p < s + k → p < n
variables-below n s zero p w b l = absurd (omega (arith, b, l))
variables-below n s (suc k) p w b l = pick (cases_lt s p) (λ m. variables-below n (suc s) k p (All-tail (IsWithin n) (variable s) (variables_from (suc s) k) w) m (omega (arith, l)))
  where
    pick : (s < p) ⊎ (p ≤ s) → (suc s ≤ p → p < n) → p < n
    pick (inl m) go = go (omega (arith, m))
    pick (inr e) go = let h : place_of (variable s) < n = (All-head (IsWithin n) (variable s) (variables_from (suc s) k) w).below in omega (arith, h, place_of-variable s, e, b)

pub variables-each : (P : ℕ → Type 0) (s k : ℕ) → ((p : ℕ) → s ≤ p → p < s + k → P p) → All (λ l. P (place_of l)) (variables_from s k)
variables-each P s zero h = All-nil (λ l. P (place_of l))
variables-each P s (suc k) h =
    All-cons (λ l. P (place_of l)) (variable s) (variables_from (suc s) k) (subst P (sym (place_of-variable s)) (h s (omega arith) (omega arith)))
    (variables-each P (suc s) k (λ p b l. h p (omega (arith, b)) (omega (arith, l))))

-- an input's word over another circuit that gives its variables the same values
free-over : (nodes : List Node) (c d : Circuit) (n : ℕ) (before : Words) (word : List ℤ) → All (IsWithin n) word → ((l : ℤ) → place_of l < n → (v : ℕ → Bool) → gate_value d l v ≡ gate_value c l v)
    → IsFree nodes c before word → IsFree nodes d before word
free-over nodes c d n before word w same h = record { start = h.start; is = h.is; later = h.later; free = λ p b l v. same (variable p) (below p b l) v ∙ h.free p b l v }
  where
    below : (p : ℕ) → h.start ≤ p → p < h.start + length word → place_of (variable p) < n
    below p b l =
        let q : p < n = variables-below n h.start (length word) p (subst (All (IsWithin n)) h.is w) b l in
        subst (λ x. x < n) (sym (place_of-variable p)) q

-- a term's word over another circuit that gives all literals the same values
pub blasted-over : (nodes : List Node) (c d : Circuit) (n : ℕ) (before : Words) (t : ℕ) (word : List ℤ) → n ≤ d.vars → ((k : ℕ) → All (IsWithin n) (word_in before k)) → All (IsWithin n) word
    → ((l : ℤ) → place_of l < n → (v : ℕ → Bool) → gate_value d l v ≡ gate_value c l v) → IsBlasted nodes c before t word → IsBlasted nodes d before t word
blasted-over nodes c d n before t word le ws w same h = record {
  node = h.node;
  at = h.at;
  first = h.first;
  size = h.size;
  is_width = h.is_width;
  within = within_more n d.vars word le w;
  parts = h.parts;
  value = λ v. subst (λ p. HasValue (width nodes) p.0 h.node p.1) (path v) (h.value v);
  free = λ e. free-over nodes c d n before word w same (h.free e);
}
  where
    number : (ls : List ℤ) → All (IsWithin n) ls → (v : ℕ → Bool) → gate_number c ls v ≡ gate_number d ls v
    number ls k v = sym (number-same c d n ls k same v)

    here : (ℕ → Bool) → (ℕ → ℕ) × ℕ
    here v = (λ k. gate_number c (word_in before k) v, gate_number c word v)

    there : (ℕ → Bool) → (ℕ → ℕ) × ℕ
    there v = (λ k. gate_number d (word_in before k) v, gate_number d word v)

    path : (v : ℕ → Bool) → here v ≡ there v
    path v = λ i. (λ k. number (word_in before k) (ws k) v i, number word w v i)

-- each word is within the variables
pub words-within : (nodes : List Node) (c : Circuit) (table : Words) → AreBlasted nodes c table → (k : ℕ) → All (IsWithin c.vars) (word_in table k)
words-within nodes c table h k = pick (cases_word (lookup (nat_eq k) table))
  where
    pick : ((w : List ℤ) × (lookup (nat_eq k) table ≡ Some w)) ⊎ (lookup (nat_eq k) table ≡ None) → All (IsWithin c.vars) (word_in table k)
    pick (inl (w, e)) =
        let r : (i : ℕ) × (slice_get table i ≡ Some (k, w)) = entry_of k table w e in
        subst (λ o. All (IsWithin c.vars) (unwrap_or o [])) (sym e) (h r.0 (k, w) r.1).within
    pick (inr e) = subst (λ o. All (IsWithin c.vars) (unwrap_or o [])) (sym e) (All-nil (IsWithin c.vars))

-- a literal word that is got
pub got-within : (nodes : List Node) (c : Circuit) (table : Words) (t : ℕ) (w : List ℤ) → AreBlasted nodes c table → Some w ≡ lookup (nat_eq t) table → All (IsWithin c.vars) w
got-within nodes c table t w h e = subst (λ o. All (IsWithin c.vars) (unwrap_or o [])) (sym e) (words-within nodes c table h t)

-- the literals of an entry by its place
pub at-within : (nodes : List Node) (c : Circuit) (table : Words) (i : ℕ) (w : List ℤ) → AreBlasted nodes c table → option_map (λ e. e.1) (slice_get table i) ≡ Some w → All (IsWithin c.vars) w
at-within nodes c table i w h e = pick (slice_get table i) refl e
  where
    pick : (o : Option (ℕ × List ℤ)) → slice_get table i ≡ o → option_map (λ x. x.1) o ≡ Some w → All (IsWithin c.vars) w
    pick None f g = absurd (none-some w g)
    pick (Some x) f g = subst (All (IsWithin c.vars)) (same_Some x.1 w g) (h i x f).within

pub front-blasted : (nodes : List Node) (c : Circuit) (table : Words) (n : ℕ) → AreBlasted nodes c table → AreBlasted nodes c (take n table)
front-blasted nodes c table n h i e at =
    subst (λ before. IsBlasted nodes c before e.0 e.1) (sym (front_front n table i e at)) (h i e (get_front n table i e at))

-- the table over gates that have grown
pub grown-blasted : (nodes : List Node) (c d : Circuit) (table : Words) → c.vars ≤ d.vars → ((l : ℤ) → place_of l < c.vars → (v : ℕ → Bool) → gate_value d l v ≡ gate_value c l v) → AreBlasted nodes c table → AreBlasted nodes d table
grown-blasted nodes c d table le same h i e at =
    let row : IsBlasted nodes c (take i table) e.0 e.1 = h i e at in
    blasted-over nodes c d c.vars (take i table) e.0 e.1 le (words-within nodes c (take i table) (front-blasted nodes c table i h)) row.within same row

-- a front of the table over gates that are cut, where its words are kept
pub cut-blasted : (nodes : List Node) (c d : Circuit) (table : Words) → All (λ e. All (IsWithin d.vars) e.1) table
    → ((l : ℤ) → place_of l < d.vars → (v : ℕ → Bool) → gate_value d l v ≡ gate_value c l v) → AreBlasted nodes c table → AreBlasted nodes d table
cut-blasted nodes c d table within same h i e at =
    blasted-over nodes c d d.vars (take i table) e.0 e.1 (omega arith) front (entry i e at) same (h i e at)
  where
    entry : (j : ℕ) (f : ℕ × List ℤ) → slice_get table j ≡ Some f → All (IsWithin d.vars) f.1
    entry j f k = subst (λ x. All (IsWithin d.vars) x.1) (get_or_from_slice_get table j f f k) (within j f (slice_get_within table j f k))

    pick : (k : ℕ) → ((w : List ℤ) × (lookup (nat_eq k) (take i table) ≡ Some w)) ⊎ (lookup (nat_eq k) (take i table) ≡ None) → All (IsWithin d.vars) (word_in (take i table) k)
    pick k (inl (w, f)) =
        let r : (j : ℕ) × (slice_get (take i table) j ≡ Some (k, w)) = entry_of k (take i table) w f in
        subst (λ o. All (IsWithin d.vars) (unwrap_or o [])) (sym f) (entry r.0 (k, w) (get_front i table r.0 (k, w) r.1))
    pick k (inr f) = subst (λ o. All (IsWithin d.vars) (unwrap_or o [])) (sym f) (All-nil (IsWithin d.vars))

    front : (k : ℕ) → All (IsWithin d.vars) (word_in (take i table) k)
    front k = pick k (cases_word (lookup (nat_eq k) (take i table)))

-- one more term
pub push-blasted : (nodes : List Node) (c : Circuit) (table : Words) (t : ℕ) (word : List ℤ) → AreBlasted nodes c table → IsBlasted nodes c table t word → AreBlasted nodes c (table ++ (t, word) ∷ [])
push-blasted nodes c table t word h row i e at = pick (get_push table (t, word) i e at)
  where
    pick : ((slice_get table i ≡ Some e) × (take i (table ++ (t, word) ∷ []) ≡ take i table)) ⊎ ((take i (table ++ (t, word) ∷ []) ≡ table) × ((t, word) ≡ e))
        → IsBlasted nodes c (take i (table ++ (t, word) ∷ [])) e.0 e.1
    pick (inl p) = subst (λ before. IsBlasted nodes c before e.0 e.1) (sym p.1) (h i e p.0)
    pick (inr p) = subst (λ before. IsBlasted nodes c before e.0 e.1) (sym p.0) (subst (λ x. IsBlasted nodes c table x.0 x.1) p.1 row)

-- a term's word has its width
pub size-in : (nodes : List Node) (c : Circuit) (table : Words) (t : ℕ) → AreBlasted nodes c table → HasWord table t → length (word_in table t) ≡ width nodes t
size-in nodes c table t h has =
    let w : (w : List ℤ) × (lookup (nat_eq t) table ≡ Some w) = word_of t table has in
    let r : (i : ℕ) × (slice_get table i ≡ Some (t, w.0)) = entry_of t table w.0 w.1 in
    ap (λ o. length (unwrap_or o [])) w.1 ∙ (h r.0 (t, w.0) r.1).size

pub got-size : (nodes : List Node) (c : Circuit) (table : Words) (t : ℕ) (w : List ℤ) → AreBlasted nodes c table → Some w ≡ lookup (nat_eq t) table → length w ≡ width nodes t
got-size nodes c table t w h e = ap (λ o. length (unwrap_or o [])) e ∙ size-in nodes c table t h (sym (ap is_some e))

pub width-in : (nodes : List Node) (c : Circuit) (table : Words) (t : ℕ) → AreBlasted nodes c table → HasWord table t → IsWidth (length (word_in table t))
width-in nodes c table t h has =
    let w : (w : List ℤ) × (lookup (nat_eq t) table ≡ Some w) = word_of t table has in
    let r : (i : ℕ) × (slice_get table i ≡ Some (t, w.0)) = entry_of t table w.0 w.1 in
    subst (λ o. IsWidth (length (unwrap_or o []))) (sym w.1) (h r.0 (t, w.0) r.1).is_width

-- what holds of all places of inputs
pub places-each : (nodes : List Node) (c : Circuit) (table : Words) (P : ℕ → Type 0) → AreBlasted nodes c table → ((p : ℕ) → p < c.vars → ((v : ℕ → Bool) → gate_value c (variable p) v ≡ v p) → P p) → All P (input_places nodes table)
places-each nodes c table P h each = places-all P nodes table all
  where
    all : (i : ℕ) (e : ℕ × List ℤ) → slice_get table i ≡ Some e → is_input_at nodes e.0 ≡ true → All (λ l. P (place_of l)) e.1
    all i e at b =
        let row : IsBlasted nodes c (take i table) e.0 e.1 = h i e at in
        let free : IsFree nodes c (take i table) e.1 = row.free (sym (is_input-at nodes e.0 row.node row.at) ∙ b) in
        subst (All (λ l. P (place_of l))) (sym free.is)
        (variables-each P free.start (length e.1) (λ p l m. each p (variables-below c.vars free.start (length e.1) p (subst (All (IsWithin c.vars)) free.is row.within) l m) (free.free p l m)))

-- the value over widths and numbers that agree on the parts
pub value-parts : (table : Words) (w x f g : ℕ → ℕ) (node : Node) (n : ℕ) → HasParts table node → ((k : ℕ) → HasWord table k → w k ≡ x k) → ((k : ℕ) → HasWord table k → f k ≡ g k) → HasValue w f node n → HasValue x g node n
value-parts table w x f g (Const size number) n p d e h = h
value-parts table w x f g (Var size id) n p d e h = h
value-parts table w x f g (Select array size index) n p d e h = h
value-parts table w x f g (Unary kind a) n p d e h = h ∙ (λ i. unary_value kind (d a (p a refl) i) (e a (p a refl) i))
value-parts table w x f g (Binary kind a b) n p d e h = h ∙ (λ i. binary_value kind (d a (p a (inl refl)) i) (d b (p b (inr refl)) i) (e a (p a (inl refl)) i) (e b (p b (inr refl)) i))
value-parts table w x f g (Choose condition a b) n p d e h = h ∙ (λ i. cond (nat_eq (e condition (p condition (inl refl)) i) 1) (e a (p a (inr (inl refl))) i) (e b (p b (inr (inr refl))) i))
value-parts table w x f g (Resize kind to a) n p d e h = h ∙ (λ i. resize_value kind (d a (p a refl) i) to (e a (p a refl) i))
value-parts table w x f g (ForAll bound body) n p d e h = h

-- the whole table: any numbers of words that agree with those of the circuit
pub whole-value : (nodes : List Node) (c : Circuit) (table : Words) (v : ℕ → Bool) (number : List ℤ → ℕ) → AreBlasted nodes c table → ((ls : List ℤ) → gate_number c ls v ≡ number ls)
    → (t : ℕ) (node : Node) → slice_get nodes t ≡ Some node → HasWord table t → HasValue (width nodes) (λ k. number (word_in table k)) node (number (word_in table t))
whole-value nodes c table v number h same t node at has =
    let w : (w : List ℤ) × (lookup (nat_eq t) table ≡ Some w) = word_of t table has in
    let r : (i : ℕ) × (slice_get table i ≡ Some (t, w.0)) = entry_of t table w.0 w.1 in
    let row : IsBlasted nodes c (take r.0 table) t w.0 = h r.0 (t, w.0) r.1 in
    let its : row.node ≡ node = same_Some row.node node (sym row.at ∙ at) in
    let own : w.0 ≡ word_in table t = sym (ap (λ o. unwrap_or o []) w.1) in
    let here : HasValue (width nodes) (λ k. number (word_in (take r.0 table) k)) row.node (number w.0) =
    subst (λ f. HasValue (width nodes) (λ k. f (word_in (take r.0 table) k)) row.node (f w.0)) (funs) (row.value v) in
    let wide : HasValue (width nodes) (λ k. number (word_in table k)) row.node (number w.0) =
    value-parts (take r.0 table) (width nodes) (width nodes) (λ k. number (word_in (take r.0 table) k)) (λ k. number (word_in table k)) row.node (number w.0) row.parts
    (λ k p. refl) (λ k p. ap number (sym (word_front k r.0 table p))) here in
    subst (λ n. HasValue (width nodes) (λ k. number (word_in table k)) n (number (word_in table t))) its
    (subst (λ ls. HasValue (width nodes) (λ k. number (word_in table k)) row.node (number ls)) own wide)
  where
    numbers : List ℤ → ℕ
    numbers ls = gate_number c ls v

    funs : numbers ≡ number
    funs = λ i ls. same ls i

pub word_number-is : (c : Circuit) (a : List Bool) → ((l : ℤ) → gate_value c l (values_of a) ≡ value_at a l) → (ls : List ℤ) → gate_number c ls (values_of a) ≡ word_number a ls
word_number-is c a e [] = refl
word_number-is c a e (l ∷ ls) = λ i. bit (e l i) + 2 * word_number-is c a e ls i

-- a word's number is below the power of two of its length
pub word_number-below : (a : List Bool) (ls : List ℤ) → word_number a ls < 2 ^ length ls
word_number-below a [] = omega arith
word_number-below a (l ∷ ls) = omega (arith, word_number-below a ls, bit-below (value_at a l), pow-suc 2 (length ls))

pub have-values : (nodes : List Node) (c : Circuit) (table : Words) (a : List Bool) → AreBlasted nodes c table → ((l : ℤ) → gate_value c l (values_of a) ≡ value_at a l) → HaveValues nodes a table
have-values nodes c table a h e = whole-value nodes c table (values_of a) (word_number a) h (word_number-is c a e)
