use Rattle.std.proofs.Common.{◌-◌, ◌+◌, vec_len}
use Rattle.hk_io.proofs.folder.read_file.Given as goal

abbrev pub decreases-loop-bytes : goal.decreases-loop-bytes
decreases-loop-bytes l = l.limit + 1 - vec_len l.bytes
