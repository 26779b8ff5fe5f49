use Rattle.ir_layout.proofs.SizeLaws.{stored_length, kept_below, kept_behind, loaded}
use Rattle.ir_layout.proofs.laws.a_store_changes_its_own_bytes_alone.Goals as goal

pub returns-clause-length : goal.returns-clause-length
returns-clause-length c = stored_length

pub returns-clause-below : goal.returns-clause-below
returns-clause-below c = kept_below

pub returns-clause-behind : goal.returns-clause-behind
returns-clause-behind c = kept_behind

pub returns-clause-loaded : goal.returns-clause-loaded
returns-clause-loaded c = loaded
