-- What the shelf in memory stands for.
use Rattle.hk_io.specs.Memory.{ShelfState}
use Rattle.hk_io.specs.declared.mem_shelf.MemShelf.{MemShelf}

abbrev pub shelf_state : MemShelf → ShelfState
shelf_state s = record { files = s.files; failing = s.failing; calls = s.calls; faults = s.faults }
