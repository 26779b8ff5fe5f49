-- Of which obligations the cases are too wide to be tried: those of properties, and those of all others, are of one width.
use Rattle.std.specs.Prelude.{Bool}
use Rattle.hk_case.specs.declared.Obligation.{Obligation}
use Rattle.hk_case.specs.declared.Obligation.TheVariants.{Undefined, Invariant, State, ResultValue, Property}
use Rattle.hk_cert_read.specs.declared.widths.Wide.{Wide}

abbrev pub wide_for : Wide → Obligation → Bool
wide_for w (Property p) = w.properties
wide_for w Undefined = w.others
wide_for w (Invariant i) = w.others
wide_for w (State f) = w.others
wide_for w ResultValue = w.others
