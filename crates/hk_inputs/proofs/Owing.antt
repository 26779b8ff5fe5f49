-- A place of the list of a handler's obligations.
use Rattle.std.proofs.Common.{◌≡◌, ◌<◌, ℕ, Some, List, length, get_or, subst}
use Rattle.std.specs.Prelude.{slice_get}
use Rattle.std.proofs.lemmas.Option.{slice_get-get_or}
use Rattle.spec_tree.specs.Plain.{Transition, Spec}
use Rattle.hk_case.specs.declared.Obligation.{Obligation}
use Rattle.hk_case.specs.Obligations.{obligations_of}

pub owed_at : (s : Spec) (t : Transition) (items : List Obligation) (i : ℕ) (d : Obligation) → items ≡ obligations_of s t → i < length items → slice_get (obligations_of s t) i ≡ Some (get_or items i d)
owed_at s t items i d owed low = subst (λ (os : List Obligation). slice_get os i ≡ Some (get_or items i d)) owed (slice_get-get_or items i d low)
