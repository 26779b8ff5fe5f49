-- The list of nodes with their widths.
use Rattle.std.proofs.Common.{◌≡◌, ℕ, zero, suc, List, [], ◌∷◌, length, Option, Some, Bor, refl, sym, ◌∙◌, ap, subst}
use Rattle.std.specs.Prelude.{option_map, unwrap_or}
use Rattle.std.proofs.lemmas.Option.{slice_get_within}
use Rattle.std.specs.List.{slice_get}
use Rattle.std.specs.Map.{keys_of}
use Rattle.std.specs.Map.Iter.{deref_pair}
use Rattle.hk_term.specs.Shape.{width, IsWidth}
use Rattle.hk_term.specs.Facts.{Holds}
use Rattle.hk_term.proofs.TermLists.{holds}
use Rattle.hk_term.specs.Kept.{IsTermTable}
use Rattle.hk_term.specs.declared.node.Node.{Node}

-- the key and the value of an entry
pub key_at : {K X : Type 0} (es : List (K × X)) (i : ℕ) (k : K) (x : X) → slice_get es i ≡ Some (k, x) → slice_get (keys_of es) i ≡ Some k
key_at [] i k x e = cc
key_at (p ∷ es) zero k x e = ap (option_map (λ q. q.0)) e
key_at (p ∷ es) (suc i) k x e = key_at es i k x e

pub length-keys_of : {K X : Type 0} (es : List (K × X)) → length (keys_of es) ≡ length es
length-keys_of [] = refl
length-keys_of (p ∷ es) = ap suc (length-keys_of es)

-- each term has its width beside its node
pub width_at : (es : List (Node × ℕ)) (i : ℕ) (n : Node) (w : ℕ) → IsTermTable es → slice_get es i ≡ Some (n, w) → w ≡ width (keys_of es) i
width_at es i n w table e =
    ap (λ o. unwrap_or o 0) (sym (ap (option_map (λ q. q.1)) e) ∙ table.widths i (slice_get_within es i (n, w) e))

-- what a look-up by place gave
pub entry_read : {K X : Type 0} (es : List (K × X)) (i j : ℕ) (r : Option (Bor K × Bor X)) (p : Bor K × Bor X) → option_map deref_pair r ≡ slice_get es i → i ≡ j → r ≡ Some p → slice_get es j ≡ Some (p.0.now, p.1.now)
entry_read es i j r p read place found = ap (λ k. slice_get es k) (sym place) ∙ sym read ∙ ap (λ o. option_map deref_pair o) found

-- so the node at a place, and its width, are known
pub node_known : (es : List (Node × ℕ)) (ns : List Node) (i : ℕ) (n : Node) (w : ℕ) → IsTermTable es → keys_of es ≡ ns → slice_get es i ≡ Some (n, w) → Holds ns i n
node_known es ns i n w table seen e =
    subst (λ l. Holds l i n) seen (holds (keys_of es) i n table.fit (key_at es i n w e))

pub width_known : (es : List (Node × ℕ)) (ns : List Node) (i : ℕ) (n : Node) (w : ℕ) → IsTermTable es → keys_of es ≡ ns → slice_get es i ≡ Some (n, w) → (w ≡ width ns i) × IsWidth w
width_known es ns i n w table seen e =
    let is : w ≡ width ns i = width_at es i n w table e ∙ ap (λ l. width l i) seen in
    (is, subst IsWidth (sym is) (node_known es ns i n w table seen e).is_width)
