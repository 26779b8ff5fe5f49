-- What is kept of where the first bytes of objects come from.
use Rattle.ir_layout.specs.Bytes.{object_of}
use Rattle.hk_symmem.specs.declared.source.Source.{Source}
use Rattle.hk_symmem.specs.declared.source.Source.TheVariants.{Fixed, Bytes}
use Rattle.hk_symmem.specs.Origins.{Origin, fixed, cells}

-- the first object of a memory, or an array of single bytes
abbrev pub origin_of : Source → Origin
origin_of (Fixed memory) = fixed (object_of memory 0)
origin_of (Bytes size) = cells size 1
