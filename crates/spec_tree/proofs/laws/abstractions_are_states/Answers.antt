use Rattle.std.proofs.lemmas.List.{length-map}
use Rattle.spec_tree.specs.Meaning.{field_entries}
use Rattle.spec_tree.proofs.Keeping.{abstraction_fits, entry_told}
use Rattle.spec_tree.proofs.laws.abstractions_are_states.Goals as goal

pub returns-clause-state : goal.returns-clause-state
returns-clause-state c = abstraction_fits

pub returns-clause-fields : goal.returns-clause-fields
returns-clause-fields c = λ s memory. length-map s.fields (field_entries s memory)

pub returns-clause-entry : goal.returns-clause-entry
returns-clause-entry c = entry_told
