use Rattle.spec_tree.proofs.Entries.{how_many, all_below, tuple_is, place_of_tuple}
use Rattle.spec_tree.proofs.laws.tuples_are_those_below_the_sizes.Goals as goal

pub returns-clause-number : goal.returns-clause-number
returns-clause-number c = how_many

pub returns-clause-below : goal.returns-clause-below
returns-clause-below c = all_below

pub returns-clause-place : goal.returns-clause-place
returns-clause-place c = tuple_is

pub returns-clause-found : goal.returns-clause-found
returns-clause-found c = place_of_tuple
