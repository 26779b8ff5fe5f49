use Rattle.spec_sorts.proofs.TakenLaws.{taken_is_sorted, own_is_kind, keys_are_sorted}
use Rattle.spec_sorts.proofs.laws.what_is_taken_is_sorted.Goals as goal

pub returns-clause-taken : goal.returns-clause-taken
returns-clause-taken c = taken_is_sorted

pub returns-clause-own : goal.returns-clause-own
returns-clause-own c = own_is_kind

pub returns-clause-keys : goal.returns-clause-keys
returns-clause-keys c = keys_are_sorted
