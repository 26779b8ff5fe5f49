-- What is known after a node was put into the list.
use Rattle.std.proofs.Common.{◌≡◌, ℕ, zero, suc, ◌+◌, ◌<◌, ◌≤◌, ◌++◌, ◌⊎◌, Bool, true, false, cond, List, [], ◌∷◌, length, reverse, Some, arith, refl, sym, ◌∙◌, ap, subst, inl, inr}
use Rattle.std.specs.Prelude.{option_map}
use Rattle.std.specs.List.{slice_get}
use Rattle.std.specs.Map.{keys_of}
use Rattle.std.proofs.lemmas.Bool.{cases_lt}
use Rattle.std.proofs.lemmas.List.{length-append, length-reverse, append-nil}
use Rattle.std.proofs.lemmas.List.Elements.{filter-append}
use Rattle.std.proofs.lemmas.Option.{slice_get_within}
use Rattle.hk_term.specs.declared.node.Node.{Node}
use Rattle.hk_term.specs.Shape.{width, node_width, NodeFits, AllFitIn, Grows}
use Rattle.hk_term.specs.Meaning.{Reading, value, node_value}
use Rattle.hk_term.specs.Inputs.{is_input, inputs_in}
use Rattle.hk_term.specs.Facts.{Holds}
use Rattle.hk_term.specs.Kept.{IsTermTable, IsPlaced}
use Rattle.hk_term.proofs.TableLemmas.{key_at, length-keys_of, node_known, width_known}
use Rattle.hk_term.proofs.TermLists.{slice_get-seam, reverse-push, width-new, width-push, value-push, holds, node_value-same, node_width-same}

keys_of-push : (es : List (Node × ℕ)) (n : Node) (w : ℕ) → keys_of (es ++ (n, w) ∷ []) ≡ keys_of es ++ n ∷ []
keys_of-push [] n w = refl
keys_of-push (e ∷ es) n w = ap (λ l. e.0 ∷ l) (keys_of-push es n w)

pub slice_get-append : {A : Type 0} (xs ys : List A) (k : ℕ) → k < length xs → slice_get (xs ++ ys) k ≡ slice_get xs k
slice_get-append [] ys k h = absurd (omega arith)
slice_get-append (x ∷ xs) ys zero h = refl
slice_get-append (x ∷ xs) ys (suc k) h = slice_get-append xs ys k (omega arith)

-- ---- the list of nodes: the node is there, or is new

abbrev pub IsGrown : List Node → List Node → Node → ℕ → Type 0
IsGrown old new n i = ((i < length old) × (new ≡ old)) ⊎ ((i ≡ length old) × (new ≡ old ++ n ∷ []))

pub grown-longer : (old new : List Node) (n : Node) (i : ℕ) → IsGrown old new n i → length old ≤ length new
grown-longer old new n i (inl p) = omega (arith, ap length p.1)
grown-longer old new n i (inr p) = omega (arith, ap length p.1, length-append old (n ∷ []))

pub grown-grows : (old new : List Node) (n : Node) (i : ℕ) → IsGrown old new n i → Grows old new
grown-grows old new n i (inl p) = record { more = []; is = p.1 ∙ sym (append-nil old) }
grown-grows old new n i (inr p) = record { more = n ∷ []; is = p.1 }

pub grown-widths : (old new : List Node) (n : Node) (i : ℕ) → IsGrown old new n i → (k : ℕ) → k < length old → width new k ≡ width old k
grown-widths old new n i (inl p) = λ k h. ap (λ l. width l k) p.1
grown-widths old new n i (inr p) = λ k h. ap (λ l. width l k) p.1 ∙ width-push old n k h

pub grown-values : (old new : List Node) (n : Node) (i : ℕ) → IsGrown old new n i → (k : ℕ) → k < length old → (v : Reading) → value new k v ≡ value old k v
grown-values old new n i (inl p) = λ k h v. ap (λ l. value l k v) p.1
grown-values old new n i (inr p) = λ k h v. ap (λ l. value l k v) p.1 ∙ value-push old n k v h

pub grown-nodes : (old new : List Node) (n : Node) (i : ℕ) → IsGrown old new n i → (k : ℕ) → k < length old → slice_get new k ≡ slice_get old k
grown-nodes old new n i (inl p) = λ k h. ap (λ l. slice_get l k) p.1
grown-nodes old new n i (inr p) = λ k h. ap (λ l. slice_get l k) p.1 ∙ slice_get-append old (n ∷ []) k h

-- the inputs of the list: no others behind a node that is none, and at most one more
pub grown-few : (old new : List Node) (n : Node) (i : ℕ) → IsGrown old new n i → length new ≤ length old + 1
grown-few old new n i (inl p) = omega (arith, ap length p.1)
grown-few old new n i (inr p) = omega (arith, ap length p.1, length-append old (n ∷ []))

inputs-push : (old : List Node) (n : Node) (b : Bool) → is_input n ≡ b → inputs_in (old ++ n ∷ []) ≡ inputs_in old ++ cond b (n ∷ []) []
inputs-push old n b e = filter-append is_input old (n ∷ []) ∙ ap (λ c. inputs_in old ++ cond c (n ∷ []) []) e

pub grown-operation : (old new : List Node) (n : Node) (i : ℕ) → IsGrown old new n i → is_input n ≡ false → inputs_in new ≡ inputs_in old
grown-operation old new n i (inl p) e = ap inputs_in p.1
grown-operation old new n i (inr p) e = ap inputs_in p.1 ∙ inputs-push old n false e ∙ append-nil (inputs_in old)

inputs_most : (old : List Node) (n : Node) (b : Bool) → is_input n ≡ b → length (inputs_in (old ++ n ∷ [])) ≤ length (inputs_in old) + 1
inputs_most old n true e = omega (arith, ap length (inputs-push old n true e), length-append (inputs_in old) (n ∷ []))
inputs_most old n false e = omega (arith, ap length (inputs-push old n false e ∙ append-nil (inputs_in old)))

pub grown-inputs : (old new : List Node) (n : Node) (i : ℕ) → IsGrown old new n i → length (inputs_in new) ≤ length (inputs_in old) + 1
grown-inputs old new n i (inl p) = omega (arith, ap (λ l. length (inputs_in l)) p.1)
grown-inputs old new n i (inr p) = omega (arith, ap (λ l. length (inputs_in l)) p.1, inputs_most old n (is_input n) refl)

-- the value and the width of its node, over the list before
pub grown-value : (old new : List Node) (n : Node) (i : ℕ) → IsGrown old new n i → NodeFits (length old) (width old) n → Holds new i n → (v : Reading) → value new i v ≡ node_value n (value old) (width old) v
grown-value old new n i g fits h v =
    h.value_is v
    ∙ sym (node_value-same n (length old) (value old) (value new) (width old) (width new) v (λ k l x. sym (grown-values old new n i g k l x)) (λ k l. sym (grown-widths old new n i g k l)) fits)

pub grown-width : (old new : List Node) (n : Node) (i : ℕ) → IsGrown old new n i → NodeFits (length old) (width old) n → Holds new i n → width new i ≡ node_width n (width old)
grown-width old new n i g fits h =
    h.width_is ∙ sym (node_width-same n (length old) (width old) (width new) (λ k l. sym (grown-widths old new n i g k l)) fits)

-- ---- the nodes with their widths

abbrev pub Fits : List (Node × ℕ) → Node → ℕ → Type 0
Fits es n w = (NodeFits (length (keys_of es)) (width (keys_of es)) n) × (w ≡ node_width n (width (keys_of es)))

-- a node that is there has the width that it has
pub known : (es : List (Node × ℕ)) (n : Node) (w : ℕ) → IsTermTable es → Fits es n w → (j u : ℕ) → slice_get es j ≡ Some (n, u) → u ≡ w
known es n w table fits j u e =
    (width_known es (keys_of es) j n u table refl e).0 ∙ (node_known es (keys_of es) j n u table refl e).width_is ∙ sym fits.1

widths-push : (es : List (Node × ℕ)) (n : Node) (w : ℕ) → IsTermTable es → Fits es n w → (k : ℕ) → k < length (es ++ (n, w) ∷ []) → option_map (λ e. e.1) (slice_get (es ++ (n, w) ∷ []) k) ≡ Some (width (keys_of es ++ n ∷ []) k)
widths-push es n w table fits k h = by (cases_lt k (length es))
  where
    by : (k < length es) ⊎ (length es ≤ k) → option_map (λ e. e.1) (slice_get (es ++ (n, w) ∷ []) k) ≡ Some (width (keys_of es ++ n ∷ []) k)
    by (inl low) =
        let within : k < length (keys_of es) = omega (arith, length-keys_of es) in
        ap (option_map (λ e. e.1)) (slice_get-append es ((n, w) ∷ []) k low) ∙ table.widths k low ∙ ap Some (sym (width-push (keys_of es) n k within))
    by (inr high) =
        let last : k ≡ length es = omega (arith, length-append es ((n, w) ∷ [])) in
        let place : length (keys_of es) ≡ k = length-keys_of es ∙ sym last in
        ap (λ j. option_map (λ e. e.1) (slice_get (es ++ (n, w) ∷ []) j)) last ∙ ap (option_map (λ e. e.1)) (slice_get-seam es (n, w) [])
        ∙ ap Some (fits.1 ∙ sym (width-new (keys_of es) n) ∙ ap (width (keys_of es ++ n ∷ [])) place)

pub table-push : (es : List (Node × ℕ)) (n : Node) (w : ℕ) → IsTermTable es → Fits es n w → IsTermTable (es ++ (n, w) ∷ [])
unfolding AllFitIn
table-push es n w table fits =
    let keys = keys_of-push es n w in
    let here : NodeFits (length (reverse (keys_of es))) (width (keys_of es)) n = subst (λ l. NodeFits l (width (keys_of es)) n) (sym (length-reverse (keys_of es))) fits.0 in
    let fit : AllFitIn (n ∷ reverse (keys_of es)) = (here, table.fit) in
    record {
      fit = subst (λ l. AllFitIn (reverse l)) (sym keys) (subst AllFitIn (sym (reverse-push (keys_of es) n)) fit);
      widths = λ k h. widths-push es n w table fits k h ∙ ap (λ l. Some (width l k)) (sym keys);
    }

pub placed-table : (old new : List (Node × ℕ)) (n : Node) (w i : ℕ) → IsTermTable old → Fits old n w → IsPlaced old new n w i → IsTermTable new
placed-table old new n w i table fits (inl p) = subst IsTermTable (sym p.1) table
placed-table old new n w i table fits (inr p) = subst IsTermTable (sym p.1) (table-push old n w table fits)

pub placed-grown : (old new : List (Node × ℕ)) (n : Node) (w i : ℕ) → IsPlaced old new n w i → IsGrown (keys_of old) (keys_of new) n i
placed-grown old new n w i (inl p) =
    let within : i < length old = slice_get_within old i (n, w) p.0 in
    inl (omega (arith, length-keys_of old), ap keys_of p.1)
placed-grown old new n w i (inr p) = inr (p.0 ∙ sym (length-keys_of old), ap keys_of p.1 ∙ keys_of-push old n w)

pub placed-at : (old new : List (Node × ℕ)) (n : Node) (w i : ℕ) → IsPlaced old new n w i → slice_get (keys_of new) i ≡ Some n
placed-at old new n w i (inl p) = key_at new i n w (ap (λ l. slice_get l i) p.1 ∙ p.0)
placed-at old new n w i (inr p) =
    key_at new i n w (ap (λ l. slice_get l i) p.1 ∙ ap (λ j. slice_get (old ++ (n, w) ∷ []) j) p.0 ∙ slice_get-seam old (n, w) [])

-- ---- the call

pub record Interned (old new : List Node) (n : Node) (t : ℕ) : Type 0 where
  pub fits : NodeFits (length old) (width old) n
  pub grown : IsGrown old new n t
  pub holds : Holds new t n

fits_over : (es : List (Node × ℕ)) (ns : List Node) (n : Node) (w : ℕ) → keys_of es ≡ ns → NodeFits (length ns) (width ns) n → w ≡ node_width n (width ns) → Fits es n w
fits_over es ns n w seen fits is =
    (subst (λ l. NodeFits (length l) (width l) n) (sym seen) fits, is ∙ ap (λ l. node_width n (width l)) (sym seen))

pub known_over : (es : List (Node × ℕ)) (ns : List Node) (n : Node) (w : ℕ) → IsTermTable es → keys_of es ≡ ns → NodeFits (length ns) (width ns) n → w ≡ node_width n (width ns) → (j u : ℕ) → slice_get es j ≡ Some (n, u) → u ≡ w
known_over es ns n w table seen fits is = known es n w table (fits_over es ns n w seen fits is)

pub table_over : (es es' : List (Node × ℕ)) (ns : List Node) (n : Node) (w i : ℕ) → IsTermTable es → keys_of es ≡ ns → NodeFits (length ns) (width ns) n → w ≡ node_width n (width ns) → IsPlaced es es' n w i → IsTermTable es'
table_over es es' ns n w i table seen fits is at = placed-table es es' n w i table (fits_over es ns n w seen fits is) at

pub interned : (es es' : List (Node × ℕ)) (ns : List Node) (n : Node) (w i t : ℕ) → IsTermTable es → keys_of es ≡ ns → NodeFits (length ns) (width ns) n → w ≡ node_width n (width ns) → IsPlaced es es' n w i → t ≡ i → Interned ns (keys_of es') n t
interned es es' ns n w i t table seen fits is at place =
    let after : IsTermTable es' = table_over es es' ns n w i table seen fits is at in
    let grown : IsGrown ns (keys_of es') n i = subst (λ l. IsGrown l (keys_of es') n i) seen (placed-grown es es' n w i at) in
    record {
      fits = fits;
      grown = subst (IsGrown ns (keys_of es') n) (sym place) grown;
      holds = subst (λ k. Holds (keys_of es') k n) (sym place) (holds (keys_of es') i n after.fit (placed-at es es' n w i at));
    }
