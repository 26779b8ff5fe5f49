use Rattle.ir_typed.proofs.ByteMemories.{bytes_from, bytes_to}
use Rattle.ir_typed.proofs.laws.memories_are_of_bytes.Goals as goal

pub returns-clause-from_all : goal.returns-clause-from_all
returns-clause-from_all c = bytes_from

pub returns-clause-to_all : goal.returns-clause-to_all
returns-clause-to_all c = bytes_to
