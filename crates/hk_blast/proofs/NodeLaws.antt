-- What a term's word is, from what its node's circuit gives.
use Rattle.std.proofs.Common.{◌≡◌, inl, inr, ℕ, zero, suc, ◌+◌, ◌<◌, ◌≤◌, Bool, true, false, cond, List, [], ◌++◌, ◌∷◌, length, map, ℤ, refl, sym, ◌∙◌, ap, subst, arith}
use Rattle.std.specs.Prelude.{slice_get, Some}
use Rattle.std.specs.List.{All}
use Rattle.std.proofs.lemmas.List.{append_assoc, append-nil}
use Rattle.std.proofs.lemmas.List.Elements.{All-nil, All-append, All-map}
use Rattle.hk_term.specs.Shape.{IsWidth, NodeFits, node_width, width}
use Rattle.hk_term.specs.Facts.{Holds}
use Rattle.hk_term.specs.Operations.{BinaryFits, ResizeFits, binary_width}
use Rattle.hk_term.specs.declared.node.TermKind.{TermKind}
use Rattle.hk_term.specs.declared.node.Node.{Node}
use Rattle.hk_term.specs.declared.node.Node.TheVariants.{Const, Var, Select, Unary, Binary, Choose, Resize, ForAll}
use Rattle.hk_cnf.specs.Literal.{IsWithin, place_of}
use Rattle.hk_cnf.specs.Circuit.{Circuit, gate_value, variable}
use Rattle.hk_circuit.specs.Words.{gate_number}
use Rattle.hk_circuit.proofs.WordNumbers.{within_more, number-same}
use Rattle.hk_blast.specs.Blasted.{Words, word_in, HasWord, IsMissing, HasParts, HasValue, is_input, places_of, input_places, variables_from, Lengthens, IsFree, IsBlasted, AreBlasted}
use Rattle.hk_blast.specs.Parts.{WordsFit, input_bits}
use Rattle.hk_blast.proofs.WordLists.{is_input-at, places-push}
use Rattle.hk_blast.proofs.BlastedLaws.{words-within, size-in, width-in, places-each, variables-each, value-parts}

pair-fits : (kind : TermKind) (a x b y : ℕ) → a ≡ x → b ≡ y → BinaryFits kind a b → BinaryFits kind x y
pair-fits kind a x b y e f h = subst (λ z. BinaryFits kind z y) e (subst (λ z. BinaryFits kind a z) f h)

-- the words of a node's parts go together
pub words-fit : (nodes : List Node) (c : Circuit) (table : Words) (t : ℕ) (node : Node) → AreBlasted nodes c table → NodeFits t (width nodes) node → HasParts table node → WordsFit (λ k. length (word_in table k)) node
words-fit nodes c table t (Const size number) h f p = (f.0.1, f.1)
words-fit nodes c table t (Var size id) h f p = tt
words-fit nodes c table t (Select array size index) h f p = tt
words-fit nodes c table t (Unary kind a) h f p = tt
words-fit nodes c table t (Binary kind a b) h f p =
    ((width-in nodes c table a h (p a (inl refl))).0, pair-fits kind (width nodes a) (length (word_in table a)) (width nodes b) (length (word_in table b)) (sym (size-in nodes c table a h (p a (inl refl)))) (sym (size-in nodes c table b h (p b (inr refl)))) f.2)
words-fit nodes c table t (Choose condition a b) h f p =
    (size-in nodes c table condition h (p condition (inl refl)) ∙ f.3, size-in nodes c table a h (p a (inr (inl refl))) ∙ (f.4 ∙ sym (size-in nodes c table b h (p b (inr (inr refl))))))
words-fit nodes c table t (Resize kind to a) h f p =
    ((width-in nodes c table a h (p a refl)).0, subst (λ x. ResizeFits kind x to) (sym (size-in nodes c table a h (p a refl))) f.1)
words-fit nodes c table t (ForAll bound body) h f p = tt

-- a node's width over widths that agree on its parts
width-parts : (table : Words) (w x : ℕ → ℕ) (node : Node) → HasParts table node → ((k : ℕ) → HasWord table k → w k ≡ x k) → node_width node w ≡ node_width node x
width-parts table w x (Const size number) p e = refl
width-parts table w x (Var size id) p e = refl
width-parts table w x (Select array size index) p e = refl
width-parts table w x (Unary kind a) p e = e a (p a refl)
width-parts table w x (Binary kind a b) p e = λ i. binary_width kind (e a (p a (inl refl)) i) (e b (p b (inr refl)) i)
width-parts table w x (Choose condition a b) p e = e a (p a (inr (inl refl)))
width-parts table w x (Resize kind to a) p e = refl
width-parts table w x (ForAll bound body) p e = refl

pub length-variables : (s n : ℕ) → length (variables_from s n) ≡ n
length-variables s zero = refl
length-variables s (suc n) = omega (arith, length-variables (suc s) n)

-- what a node's circuit gives: c before it, d behind it
pub record Given (table : Words) (c d : Circuit) (node : Node) (word : List ℤ) : Type 0 where
  pub later : c.vars ≤ d.vars
  pub keeps : (l : ℤ) → place_of l < c.vars → (v : ℕ → Bool) → gate_value d l v ≡ gate_value c l v
  pub size : length word ≡ node_width node (λ k. length (word_in table k))
  pub within : All (IsWithin d.vars) word
  pub value : (v : ℕ → Bool) → HasValue (λ k. length (word_in table k)) (λ k. gate_number c (word_in table k) v) node (gate_number d word v)
  pub fresh : is_input node ≡ true → word ≡ variables_from c.vars (input_bits node)
  pub chosen : (p : ℕ) → c.vars ≤ p → p < c.vars + input_bits node → (v : ℕ → Bool) → gate_value d (variable p) v ≡ v p

pub row : (nodes : List Node) (b c d : Circuit) (table : Words) (t : ℕ) (node : Node) (word : List ℤ) → AreBlasted nodes b table → b.vars ≤ c.vars → Holds nodes t node → IsMissing table t → HasParts table node → Given table c d node word → IsBlasted nodes d table t word
row nodes b c d table t node word h le holds first parts g = record {
  node = node;
  at = holds.at;
  first = first;
  size = size;
  is_width = subst IsWidth (sym size) holds.is_width;
  within = g.within;
  parts = parts;
  value = λ v. value-parts table (λ k. length (word_in table k)) (width nodes) (λ k. gate_number c (word_in table k) v) (λ k. gate_number d (word_in table k) v) node (gate_number d word v) parts
      (λ k p. size-in nodes b table k h p) (λ k p. sym (number-same c d c.vars (word_in table k) (words k) g.keeps v)) (g.value v);
  free = free;
}
  where
    words : (k : ℕ) → All (IsWithin c.vars) (word_in table k)
    words k = within_more b.vars c.vars (word_in table k) le (words-within nodes b table h k)

    size : length word ≡ width nodes t
    size = g.size ∙ (width-parts table (λ k. length (word_in table k)) (width nodes) node parts (λ k p. size-in nodes b table k h p) ∙ sym holds.width_is)

    free : is_input node ≡ true → IsFree nodes d table word
    free e =
        let n : length word ≡ input_bits node = ap length (g.fresh e) ∙ length-variables c.vars (input_bits node) in
        record {
          start = c.vars;
          is = g.fresh e ∙ ap (variables_from c.vars) (sym n);
          later = places-each nodes b table (λ p. p < c.vars) h (λ p l _. omega (arith, l, le));
          free = λ p l m v. g.chosen p l (subst (λ x. p < c.vars + x) n m) v;
        }

-- the bits of an input are variables from the start on
pub places-fresh : (nodes : List Node) (t : ℕ) (node : Node) (word : List ℤ) (first start : ℕ) → first ≤ start → slice_get nodes t ≡ Some node → (is_input node ≡ true → word ≡ variables_from start (input_bits node)) → All (λ p. first ≤ p) (places_of nodes (t, word))
places-fresh nodes t node word first start le at fresh = subst (λ b. All (λ p. first ≤ p) (cond b (map place_of word) [])) (sym (is_input-at nodes t node at)) (pick (is_input node) refl)
  where
    pick : (b : Bool) → is_input node ≡ b → All (λ p. first ≤ p) (cond (is_input node) (map place_of word) [])
    pick true e =
        subst (λ b. All (λ p. first ≤ p) (cond b (map place_of word) [])) (sym e)
        (All-map (λ p. first ≤ p) place_of word (subst (All (λ l. first ≤ place_of l)) (sym (fresh e)) (variables-each (λ p. first ≤ p) start (input_bits node) (λ p b l. omega (arith, b, le)))))
    pick false e = subst (λ b. All (λ p. first ≤ p) (cond b (map place_of word) [])) (sym e) (All-nil (λ p. first ≤ p))

-- one more entry
pub lengthens-push : (nodes : List Node) (first : ℕ) (front old : Words) (e : ℕ × List ℤ) (new : Words) → new ≡ old ++ e ∷ [] → All (λ p. first ≤ p) (places_of nodes e) → Lengthens nodes first front old → Lengthens nodes first front new
lengthens-push nodes first front old e new is fresh h = record {
  more = h.more ++ e ∷ [];
  is = is ∙ (ap (λ xs. xs ++ e ∷ []) h.is ∙ append_assoc front h.more (e ∷ []));
  fresh = subst (All (λ p. first ≤ p)) (sym (places-push nodes h.more e)) (All-append (λ p. first ≤ p) (input_places nodes h.more) (places_of nodes e) h.fresh fresh);
}

pub lengthens-none : (nodes : List Node) (first : ℕ) (table : Words) → Lengthens nodes first table table
lengthens-none nodes first table = record { more = []; is = sym (append-nil table); fresh = All-nil (λ p. first ≤ p) }
