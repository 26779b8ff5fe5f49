-- How runs of a kernel that a text spells end.
use Rattle.ir_kernel.specs.declared.ends.RunEnd.{RunEnd}
use Rattle.ir_kernel.specs.declared.ends.RunEnd.TheVariants as end
use Rattle.ir_spelled.specs.declared.running.Ending.{Ending}
use Rattle.ir_spelled.specs.declared.running.Ending.TheVariants.{Returned, Stuck}

-- the same among the ends of all runs
abbrev pub end_of : Ending → RunEnd
end_of (Returned value memory) = end.Returned value memory
end_of (Stuck reason line) = end.Stuck reason line
