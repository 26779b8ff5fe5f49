-- Memories of bytes, object by object and place by place.
use Rattle.std.proofs.Common.{ℕ, zero, suc, ◌<◌, List, [], ◌∷◌, lit<}
use Rattle.std.specs.Prelude.{slice_index}
use Rattle.std.specs.List.{All, AllByRecursion}
use Rattle.std.proofs.lemmas.List.Elements.{All-from_recursion, recursion_from_All}
use Rattle.ir_kernel.specs.Steps.{AreBytes}

abbrev IsByte : ℕ → Type 0
IsByte b = b < 256

abbrev IsObject : List ℕ → Type 0
IsObject o = All IsByte o

at_place : (o : List ℕ) → AllByRecursion IsByte o → (k : ℕ) → slice_index o k < 256
at_place [] a k = lit< tt
at_place (b ∷ o) a zero = a.0
at_place (b ∷ o) a (suc k) = at_place o a.1 k

all_places : (o : List ℕ) → ((k : ℕ) → slice_index o k < 256) → AllByRecursion IsByte o
all_places [] each = tt
all_places (b ∷ o) each = (each 0, all_places o (λ k. each (suc k)))

objects_from : (memory : List (List ℕ)) → AllByRecursion IsObject memory → AreBytes memory
objects_from [] a o k = lit< tt
objects_from (b ∷ memory) a zero k = at_place b (recursion_from_All IsByte b a.0) k
objects_from (b ∷ memory) a (suc o) k = objects_from memory a.1 o k

objects_to : (memory : List (List ℕ)) → AreBytes memory → AllByRecursion IsObject memory
objects_to [] all = tt
objects_to (b ∷ memory) all = (All-from_recursion IsByte b (all_places b (all 0)), objects_to memory (λ o. all (suc o)))

pub bytes_from : (memory : List (List ℕ)) → All (λ o. All (λ b. b < 256) o) memory → AreBytes memory
bytes_from memory a = objects_from memory (recursion_from_All IsObject memory a)

pub bytes_to : (memory : List (List ℕ)) → AreBytes memory → All (λ o. All (λ b. b < 256) o) memory
bytes_to memory all = All-from_recursion IsObject memory (objects_to memory all)
