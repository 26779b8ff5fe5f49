-- What is said of a table over a list of nodes is said of it over a longer list.
use Rattle.std.proofs.Common.{◌≡◌, ℕ, suc, ◌<◌, ◌≤◌, cond, false, List, [], ◌∷◌, ◌++◌, length, take, map, ℤ, Some, refl, sym, ◌∙◌, ap, subst}
use Rattle.std.specs.Prelude.{slice_get, unwrap_or, option_map}
use Rattle.std.specs.List.{All}
use Rattle.std.proofs.lemmas.Option.{slice_get_within}
use Rattle.hk_term.specs.Shape.{width, Grows}
use Rattle.hk_term.specs.declared.node.Node.{Node}
use Rattle.hk_term.proofs.TermLists.{width-grows}
use Rattle.hk_cnf.specs.Literal.{place_of}
use Rattle.hk_cnf.specs.Circuit.{Circuit}
use Rattle.hk_circuit.specs.Words.{gate_number}
use Rattle.hk_blast.specs.Blasted.{Words, word_in, HasWord, is_input, is_input_at, input_places, Lengthens, Needs, IsFree, IsBlasted, AreBlasted}
use Rattle.hk_blast.specs.Blasted.Needs.{own, part}
use Rattle.hk_blast.proofs.WordLists.{get_more, word_of, entry_of}
use Rattle.hk_blast.proofs.BlastedLaws.{front-blasted, value-parts}

-- a term whose node stands in a list
got-below : (nodes : List Node) (t : ℕ) (n : Node) → slice_get nodes t ≡ Some n → t < length nodes
got-below nodes t n h = slice_get_within nodes t n h

-- each entry of a table is a term of the list
Known : List Node → Words → Type 0
Known nodes table = (i : ℕ) (e : ℕ × List ℤ) → slice_get table i ≡ Some e → (n : Node) × (slice_get nodes e.0 ≡ Some n)

known : (nodes : List Node) (c : Circuit) (table : Words) → AreBlasted nodes c table → Known nodes table
unfolding Known
known nodes c table h i e at = ((h i e at).node, (h i e at).at)

module _ (nodes more : List Node) where
  input-same : (t : ℕ) (n : Node) → slice_get nodes t ≡ Some n → is_input_at (nodes ++ more) t ≡ is_input_at nodes t
  input-same t n h = ap (λ o. unwrap_or (option_map is_input o) false) (get_more nodes more t n h ∙ sym h)

  places-same : (table : Words) → Known nodes table → input_places (nodes ++ more) table ≡ input_places nodes table
  unfolding Known
  places-same [] k = refl
  places-same (e ∷ table) k =
      let at : (n : Node) × (slice_get nodes e.0 ≡ Some n) = k 0 e refl in
      (λ i. cond (input-same e.0 at.0 at.1 i) (map place_of e.1) [] ++ places-same table (λ j f. k (suc j) f) i)

  -- the widths of terms that have words
  width-same : (c : Circuit) (table : Words) → AreBlasted nodes c table → (t : ℕ) → HasWord table t → width nodes t ≡ width (nodes ++ more) t
  width-same c table h t has =
      let w = word_of t table has in
      let r = entry_of t table w.0 w.1 in
      let row : IsBlasted nodes c (take r.0 table) t w.0 = h r.0 (t, w.0) r.1 in
      sym (width-grows nodes more t (got-below nodes t row.node row.at))

  free-more : (c : Circuit) (before : Words) (word : List ℤ) → AreBlasted nodes c before → IsFree nodes c before word → IsFree (nodes ++ more) c before word
  free-more c before word h f = record {
    start = f.start;
    is = f.is;
    later = subst (All (λ p. p < f.start)) (sym (places-same before (known nodes c before h))) f.later;
    free = f.free;
  }

  row-more : (c : Circuit) (before : Words) (t : ℕ) (word : List ℤ) → AreBlasted nodes c before → IsBlasted nodes c before t word → IsBlasted (nodes ++ more) c before t word
  row-more c before t word h row = record {
    node = row.node;
    at = get_more nodes more t row.node row.at;
    first = row.first;
    size = row.size ∙ sym (width-grows nodes more t (got-below nodes t row.node row.at));
    is_width = row.is_width;
    within = row.within;
    parts = row.parts;
    value = λ v. value-parts before (width nodes) (width (nodes ++ more)) (λ k. gate_number c (word_in before k) v) (λ k. gate_number c (word_in before k) v) row.node (gate_number c word v) row.parts
        (width-same c before h) (λ k p. refl) (row.value v);
    free = λ e. free-more c before word h (row.free e);
  }

  blasted-more : (c : Circuit) (table : Words) → AreBlasted nodes c table → AreBlasted (nodes ++ more) c table
  blasted-more c table h i e at = row-more c (take i table) e.0 e.1 (front-blasted nodes c table i h) (h i e at)

  needs-more : (t k : ℕ) → Needs nodes t k → Needs (nodes ++ more) t k
  needs-more t _ own = own
  needs-more t _ (part u k node n at is) = part u k node (needs-more t u n) (get_more nodes more u node at) is

pub blasted-longer : (nodes longer : List Node) (c : Circuit) (table : Words) → Grows nodes longer → AreBlasted nodes c table → AreBlasted longer c table
blasted-longer nodes longer c table g h = subst (λ ns. AreBlasted ns c table) (sym g.is) (blasted-more nodes g.more c table h)

pub places-longer : (nodes longer : List Node) (c : Circuit) (table : Words) → Grows nodes longer → AreBlasted nodes c table → input_places longer table ≡ input_places nodes table
places-longer nodes longer c table g h = ap (λ ns. input_places ns table) g.is ∙ places-same nodes g.more table (known nodes c table h)

-- the entries behind others
behind : (nodes : List Node) (old more : Words) → Known nodes (old ++ more) → Known nodes more
unfolding Known
behind nodes [] more k = k
behind nodes (e ∷ old) more k = behind nodes old more (λ i f. k (suc i) f)

pub lengthens-longer : (nodes longer : List Node) (c : Circuit) (first : ℕ) (old new : Words) → Grows nodes longer → AreBlasted nodes c new → Lengthens nodes first old new → Lengthens longer first old new
lengthens-longer nodes longer c first old new g h l = record {
  more = l.more;
  is = l.is;
  fresh = subst (All (λ p. first ≤ p)) (sym same) l.fresh;
}
  where
    same : input_places longer l.more ≡ input_places nodes l.more
    same = ap (λ ns. input_places ns l.more) g.is ∙ places-same nodes g.more l.more (behind nodes old l.more (subst (Known nodes) l.is (known nodes c new h)))

pub needs-longer : (nodes longer : List Node) (t k : ℕ) → Grows nodes longer → Needs nodes t k → Needs longer t k
needs-longer nodes longer t k g n = subst (λ ns. Needs ns t k) (sym g.is) (needs-more nodes g.more t k n)
