-- How often the system has failed.
use Rattle.std.specs.Prelude.{ℕ}
use Rattle.hk_io.specs.declared.folder.FolderShelf.{FolderShelf}
use Rattle.hk_io.specs.declared.std_sink.StdSink.{StdSink}

abbrev pub shelf_faults : FolderShelf → ℕ
shelf_faults shelf = shelf.faults

abbrev pub sink_faults : StdSink → ℕ
sink_faults sink = sink.faults
