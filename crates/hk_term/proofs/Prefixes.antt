-- Prefixes of the list, the empty list, and that no node stands twice.
use Rattle.std.proofs.Common.{◌≡◌, ℕ, zero, suc, ◌<◌, ◌≤◌, ◌++◌, true, false, List, [], ◌∷◌, length, reverse, take, drop, Some, arith, sym, ◌∙◌, ap, subst, true≢false}
use Rattle.std.specs.Prelude.{option_map}
use Rattle.std.specs.List.{slice_get, IsDistinct, AllByRecursion}
use Rattle.std.specs.Map.{keys_of}
use Rattle.std.proofs.lemmas.List.{take-append-drop, take-map, length-take-le, reverse-append}
use Rattle.std.proofs.lemmas.Map.Keys.{IsDistinct-head, IsDistinct-tail}
use Rattle.hk_term.specs.declared.node.Node.{Node}
use Rattle.hk_term.specs.Shape as shape
use Rattle.hk_term.specs.Shape.{width, AllFitIn}
use Rattle.hk_term.specs.Meaning.{Reading, value}
use Rattle.hk_term.specs.Kept.{IsTermTable}
use Rattle.hk_term.proofs.TableLemmas.{length-keys_of}
use Rattle.hk_term.proofs.TermLists.{fit_behind, width-grows, value-grows}
use Rattle.hk_term.proofs.Interning.{slice_get-append}
use Rattle.hk_term.proofs.Insertion.{node_eq, node_itself}

pub empty_table : (es : List (Node × ℕ)) → es ≡ [] → IsTermTable es
unfolding AllFitIn
empty_table es e = subst IsTermTable (sym e) (record { fit = tt; widths = λ k h. absurd (omega arith) })

-- ---- prefixes

whole : {A : Type 0} (n : ℕ) (xs : List A) → xs ≡ take n xs ++ drop n xs
whole n xs = sym (take-append-drop n xs)

pub prefix-fits : (ns : List Node) (n : ℕ) → AllFitIn (reverse ns) → AllFitIn (reverse (take n ns))
prefix-fits ns n fit =
    fit_behind (reverse (drop n ns)) (reverse (take n ns)) (subst AllFitIn (ap reverse (whole n ns) ∙ reverse-append (take n ns) (drop n ns)) fit)

pub prefix-width : (ns : List Node) (n k : ℕ) → n ≤ length ns → k < n → width (take n ns) k ≡ width ns k
prefix-width ns n k fits h =
    let within : k < length (take n ns) = omega (arith, length-take-le n ns fits) in
    sym (ap (λ l. width l k) (whole n ns) ∙ width-grows (take n ns) (drop n ns) k within)

pub prefix-value : (ns : List Node) (n k : ℕ) → n ≤ length ns → k < n → (v : Reading) → value (take n ns) k v ≡ value ns k v
prefix-value ns n k fits h v =
    let within : k < length (take n ns) = omega (arith, length-take-le n ns fits) in
    sym (ap (λ l. value l k v) (whole n ns) ∙ value-grows (take n ns) (drop n ns) k v within)

pub keys_of-take : (n : ℕ) (es : List (Node × ℕ)) → keys_of (take n es) ≡ take n (keys_of es)
keys_of-take n es = sym (take-map (λ e. e.0) n es)

pub prefix-table : (es : List (Node × ℕ)) (n : ℕ) → n ≤ length es → IsTermTable es → IsTermTable (take n es)
prefix-table es n fits table =
    let all : n ≤ length (keys_of es) = omega (arith, length-keys_of es) in
    let len : length (take n es) ≡ n = length-take-le n es fits in
    record {
      fit = subst (λ l. AllFitIn (reverse l)) (sym (keys_of-take n es)) (prefix-fits (keys_of es) n table.fit);
      widths = λ k h.
          let first : k < n = omega arith in
          let within : k < length es = omega arith in
          sym (ap (λ l. option_map (λ e. e.1) (slice_get l k)) (whole n es) ∙ ap (option_map (λ e. e.1)) (slice_get-append (take n es) (drop n es) k h))
          ∙ table.widths k within ∙ ap Some (sym (prefix-width (keys_of es) n k all first) ∙ ap (λ l. width l k) (sym (keys_of-take n es)));
    }

-- ---- no node twice

among : (P : Node → Type 0) (ns : List Node) (j : ℕ) (n : Node) → AllByRecursion P ns → slice_get ns j ≡ Some n → P n
among P [] j n all e = cc
among P (m ∷ ns) zero n all e = let same : m ≡ n = cc in subst P same all.0
among P (m ∷ ns) (suc j) n all e = among P ns j n all.1 e

no_repeat : (ns : List Node) (i j : ℕ) (n : Node) → IsDistinct node_eq ns → i < j → slice_get ns i ≡ Some n → slice_get ns j ≡ Some n → ⊥
no_repeat [] i j n d h e f = cc
no_repeat (m ∷ ns) i zero n d h e f = absurd (omega arith)
no_repeat (m ∷ ns) zero (suc j) n d h e f =
    let same : m ≡ n = cc in
    true≢false (sym (subst (λ k. node_eq k n ≡ true) (sym same) (node_itself n)) ∙ among (λ k. node_eq m k ≡ false) ns j n (IsDistinct-head node_eq m ns d) f)
no_repeat (m ∷ ns) (suc i) (suc j) n d h e f = no_repeat ns i j n (IsDistinct-tail node_eq m ns d) (omega arith) e f

some_at : (ns : List Node) (j : ℕ) → j < length ns → (n : Node) × (slice_get ns j ≡ Some n)
some_at [] j h = absurd (omega arith)
some_at (m ∷ ns) zero h = (m, λ i. Some m)
some_at (m ∷ ns) (suc j) h = some_at ns j (omega arith)

pub distinct : (ns : List Node) → IsDistinct node_eq ns → shape.IsDistinct ns
distinct ns d i j h within e = let p = some_at ns j within in no_repeat ns i j p.0 d h (e ∙ p.1) p.1

-- ---- what `cut` leaves

pub kept_table : (es es' : List (Node × ℕ)) (ns : List Node) (n : ℕ) → keys_of es ≡ ns → es' ≡ take n es → n ≤ length ns → IsTermTable es → IsTermTable es'
kept_table es es' ns n seen is fits table =
    subst IsTermTable (sym is) (prefix-table es n (omega (arith, length-keys_of es, ap length seen)) table)

pub kept_nodes : (es es' : List (Node × ℕ)) (ns : List Node) (n : ℕ) → keys_of es ≡ ns → es' ≡ take n es → keys_of es' ≡ take n ns
kept_nodes es es' ns n seen is = ap keys_of is ∙ keys_of-take n es ∙ ap (take n) seen

pub kept_widths : (es es' : List (Node × ℕ)) (ns : List Node) (n : ℕ) → keys_of es ≡ ns → es' ≡ take n es → n ≤ length ns → (k : ℕ) → k < n → width (keys_of es') k ≡ width ns k
kept_widths es es' ns n seen is fits k h = ap (λ l. width l k) (kept_nodes es es' ns n seen is) ∙ prefix-width ns n k fits h

pub kept_values : (es es' : List (Node × ℕ)) (ns : List Node) (n : ℕ) → keys_of es ≡ ns → es' ≡ take n es → n ≤ length ns → (k : ℕ) → k < n → (v : Reading) → value (keys_of es') k v ≡ value ns k v
kept_values es es' ns n seen is fits k h v = ap (λ l. value l k v) (kept_nodes es es' ns n seen is) ∙ prefix-value ns n k fits h v
