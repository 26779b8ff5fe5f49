-- What a state of watches shows.
use Rattle.hk_cdcl.specs.declared.watches.Watches.TheInside.{Inside}
use Rattle.hk_cdcl.specs.Watches.{Plain, plain_lists}

abbrev pub view_of : Inside → Plain
view_of w = record { lists = plain_lists w.records.starts w.lists; pairs = w.records.pairs; texts = w.records.texts; starts = w.records.starts }
