use Rattle.std.proofs.Common.{◌≡◌, ◌+◌, ◌++◌, map, take, vec_len, vec_capacity}
use Rattle.hk_cnf.specs.Literal.{code_of}
use Rattle.hk_cdcl.proofs.records.push_codes.Given as goal

abbrev pub invariant-loop-lit : goal.invariant-loop-lit
invariant-loop-lit l = (l.words.items ≡ l.initial.words.items ++ map code_of (take l.lit-index l.lits)) × (vec_len l.words ≡ vec_len l.initial.words + l.lit-index) × (vec_capacity l.words ≡ vec_capacity l.initial.words)
