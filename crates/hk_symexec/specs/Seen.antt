-- What the symbolic state of a function that is executed shows under a reading.
use Rattle.std.specs.Prelude.{ℕ, Bool, false, not, ◌&&◌, ◌||◌, Option, None, List, map, replicate, slice_set, slice_index_or}
use Rattle.std.specs.List.{All}
use Rattle.hk_term.specs.Meaning.{Reading}
use Rattle.hk_term.specs.declared.node.Node.{Node}
use Rattle.ir_value.specs.declared.value.Value.{Value}
use Rattle.ir_machine.specs.Values.{Registers}
use Rattle.hk_symvalue.specs.Meaning.{IsTruth, is_true}
use Rattle.hk_symstep.specs.Held.{value_meaning, IsOperand}
use Rattle.hk_symstep.specs.Files.{IsFile, registers_of}
use Rattle.hk_symexec.specs.declared.exec.Exec.{Exec}

-- whether the run is at the present instruction, goes to each block, came back, came back with a value, is stuck; and what is held
pub record Seen : Type 0 where
  pub guard : Bool
  pub entries : List Bool
  pub registers : Registers
  pub back : Bool
  pub valued : Bool
  pub value : Option Value
  pub stuck : Bool

abbrev pub entries_seen : List Node → Reading → List ℕ → List Bool
entries_seen nodes v entries = map (λ k. is_true nodes k v) entries

abbrev pub seen : List Node → Reading → Exec → Seen
seen nodes v x = record {
  guard = is_true nodes x.guard v;
  entries = entries_seen nodes v x.entries;
  registers = registers_of nodes v x.file;
  back = is_true nodes x.back v;
  valued = is_true nodes x.valued v;
  value = value_meaning nodes v x.value;
  stuck = is_true nodes x.stuck v;
}

-- all terms of the state are in the list
pub record IsExec (nodes : List Node) (x : Exec) : Type 0 where
  pub guard : IsTruth nodes x.guard
  pub entries : All (λ k. IsTruth nodes k) x.entries
  pub file : IsFile nodes x.file
  pub back : IsTruth nodes x.back
  pub valued : IsTruth nodes x.valued
  pub value : IsOperand nodes x.value
  pub stuck : IsTruth nodes x.stuck

-- ---- what operations make of it

-- where a condition holds the run is stuck, and not here
abbrev pub stuck_where : Bool → Seen → Seen
stuck_where b s = record s { guard = s.guard && not b; stuck = s.stuck || (s.guard && b) }

-- where a condition holds the run leaves for a block, with these registers
abbrev pub left_where : Bool → ℕ → Registers → Seen → Seen
left_where b to registers s = record s {
  guard = s.guard && not b;
  entries = slice_set s.entries to (slice_index_or s.entries to false || (s.guard && b));
  registers = registers;
}

-- the run comes back from here without a value
abbrev pub back_without : Seen → Seen
back_without s = record s { guard = false; back = s.back || s.guard }

-- the run comes back from here with a value; what is held of values that came back before is as told
abbrev pub back_with : Option Value → Seen → Seen
back_with value s = record s { guard = false; back = s.back || s.guard; valued = s.valued || s.guard; value = value }

-- the run is here where it goes to a block, and goes there no more
abbrev pub entered : ℕ → Seen → Seen
entered b s = record s { guard = slice_index_or s.entries b false; entries = slice_set s.entries b false }

-- a function begins at its first block where the run is here
abbrev pub called : ℕ → Registers → Seen → Seen
called blocks registers s = record {
  guard = false;
  entries = slice_set (replicate blocks false) 0 s.guard;
  registers = registers;
  back = false;
  valued = false;
  value = None;
  stuck = s.stuck;
}

-- the run is here where the function that was called came back, with these registers
abbrev pub returned : Seen → Registers → Seen → Seen
returned callee registers s = record s { guard = callee.back; registers = registers; stuck = callee.stuck }
