use Rattle.ir_layout.proofs.SizeLaws.{within, apart, packed_within, packed_apart}
use Rattle.ir_layout.proofs.laws.fields_lie_within_and_apart.Goals as goal

pub returns-clause-within : goal.returns-clause-within
returns-clause-within c = within

pub returns-clause-apart : goal.returns-clause-apart
returns-clause-apart c = λ ts j k m l. apart 0 ts j k m l

pub returns-clause-packed_within : goal.returns-clause-packed_within
returns-clause-packed_within c = λ ts k l. packed_within 0 ts k l

pub returns-clause-packed_apart : goal.returns-clause-packed_apart
returns-clause-packed_apart c = λ ts j k m l. packed_apart 0 ts j k m l
