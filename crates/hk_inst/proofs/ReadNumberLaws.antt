-- The places and the numbers of reads, as they are told once.
use Rattle.std.proofs.Common.{◌≡◌, ◌∙◌, ℕ, ◌+◌, ◌<◌, length, cond, List, map, drop, get_or, Some, sym, ap}
use Rattle.std.specs.Prelude.{slice_get}
use Rattle.std.proofs.lemmas.List.{get_or-map}
use Rattle.std.proofs.lemmas.Option.{get_or_from_slice_get, same_Some}
use Rattle.hk_term.specs.declared.node.Node.{Node}
use Rattle.hk_term.specs.declared.node.Node.TheVariants.{Select}
use Rattle.hk_inst.specs.declared.completion.ReadNumbers.{ReadNumbers}
use Rattle.hk_inst.specs.Inputs.{is_read_at, entry_number}
use Rattle.hk_inst.specs.ReadNumbers.{place_read, numbers_at}
use Rattle.hk_inst.specs.Violations.{AgreesWithFirst}
use Rattle.hk_inst.proofs.SetNumbers.{entry-next}

-- what stands at a read's place in the list
pub numbers-told : (nodes : List Node) (f : ℕ → ℕ) (reads : List ℕ) (ns : List ReadNumbers) (k t : ℕ) (n : ReadNumbers) → ns ≡ map (numbers_at nodes f) reads → slice_get reads k ≡ Some t → k < length reads → n ≡ get_or ns k n → n ≡ numbers_at nodes f t
numbers-told nodes f reads ns k t n e there lt at =
    at ∙ ap (λ l. get_or l k n) e ∙ get_or-map (numbers_at nodes f) reads k t n lt ∙ ap (numbers_at nodes f) (get_or_from_slice_get reads k t t there)

-- one read more, from the last on
pub read-next : (nodes : List Node) (f : ℕ → ℕ) (reads : List ℕ) (i j t : ℕ) (node : Node) (n : ReadNumbers) (old new : ℕ → ℕ → ℕ) → i ≡ j + 1 → slice_get reads j ≡ Some t → slice_get nodes t ≡ Some node → n ≡ numbers_at nodes f t
    → ((array place : ℕ) → old array place ≡ entry_number nodes f (drop i reads) array place) → (n.place ≡ place_read (Some node) f → (array place : ℕ) → new array place ≡ cond (is_read_at (Some node) f array place) n.number (old array place)) → (array place : ℕ) → new array place ≡ entry_number nodes f (drop j reads) array place
read-next nodes f reads i j t node n old new step at is told h set =
    entry-next nodes f reads i j t node n.number old new step at is (ap (λ m. m.number) told) h (set (ap (λ m. m.place) told ∙ ap (λ o. place_read o f) is))

-- a read whose number is the one of the first read at its place
pub read-agrees : (nodes : List Node) (f : ℕ → ℕ) (reads : List ℕ) (t : ℕ) (node : Node) (n : ReadNumbers) (arrays : ℕ → ℕ → ℕ) → slice_get nodes t ≡ Some node → n ≡ numbers_at nodes f t → ((array place : ℕ) → arrays array place ≡ entry_number nodes f reads array place)
    → (n.place ≡ place_read (Some node) f → (array size i : ℕ) → node ≡ Select array size i → n.number ≡ arrays array (f i)) → AgreesWithFirst nodes f reads t
read-agrees nodes f reads t node n arrays is told h agrees = λ array size i e.
    sym (ap (λ m. m.number) told) ∙ agrees (ap (λ m. m.place) told ∙ ap (λ o. place_read o f) is) array size i (same_Some node (Select array size i) (sym is ∙ e)) ∙ h array (f i)
