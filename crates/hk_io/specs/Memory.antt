-- What a shelf and a sink in memory answer, call by call, and what each call leaves.
use Rattle.std.specs.Prelude.{◌≡◌, ℕ, ◌+◌, ◌-◌, ◌^◌, min, Bool, true, false, ◌||◌, if◌then◌else◌, nat_eq, nat_lt, nat_le, List, ◌++◌, length, take, Option, None, Some, is_some, unwrap_or, Result, Ok, Err, IsOk, Vec}
use Rattle.std.specs.List.{list_any, find}
use Rattle.std.specs.Option.{option_map}
use Rattle.std.specs.declared.alloc.Global.{Global}
use Rattle.hk_io.specs.declared.fault.LoadFault.{LoadFault}
use Rattle.hk_io.specs.declared.fault.LoadFault.TheVariants as load
use Rattle.hk_io.specs.declared.fault.SinkFault.{SinkFault}
use Rattle.hk_io.specs.declared.fault.SinkFault.TheVariants as sink
use Rattle.hk_io.specs.Held.{Files, held_under, with_file}

-- one more, up to the end of a 64-bit type
abbrev pub one_more : ℕ → ℕ
one_more n = min (n + 1) (2 ^ 64 - 1)

-- a shelf in memory: its files, the numbers of the calls that fail, the calls and the faults so far
pub record ShelfState : Type 0 where
  pub files : Files
  pub failing : List ℕ
  pub calls : ℕ
  pub faults : ℕ

-- the next call is one that fails
abbrev pub is_listed : ShelfState → Bool
is_listed s = list_any (λ call. nat_eq call (one_more s.calls)) s.failing

-- the shelf once a call has been counted, and its fault
abbrev pub counted : ShelfState → Bool → ShelfState
counted s fails = record s { calls = one_more s.calls; faults = if fails then one_more s.faults else s.faults }

-- the bytes of a file of at most limit bytes
abbrev pub within_limit : Option (List ℕ) → ℕ → Result (List ℕ) LoadFault
within_limit None limit = Err load.Failed
within_limit (Some bytes) limit = if nat_le (length bytes) limit then Ok bytes else Err load.TooLong

-- what a load answers with ample memory
abbrev pub loaded : ShelfState → List ℕ → ℕ → Result (List ℕ) LoadFault
loaded s name limit = if is_listed s then Err load.Failed else within_limit (held_under (Some s.files) name) limit

-- a load answers so; want of memory only where there are bytes to answer
abbrev pub Answers : Result (Vec ℕ Global) LoadFault → Result (List ℕ) LoadFault → Type 0
Answers (Ok bytes) expected = expected ≡ Ok bytes.items
Answers (Err load.Memory) expected = IsOk expected
Answers (Err fault) expected = expected ≡ Err fault

-- a load fails
abbrev pub is_failed : Result (List ℕ) LoadFault → Bool
is_failed (Err load.Failed) = true
is_failed _ = false

-- the shelf with these bytes under a name
abbrev pub with_saved : ShelfState → List ℕ → List ℕ → ShelfState
with_saved s name bytes = record s { files = with_file s.files name bytes }

-- a sink in memory: its text, its room, the puts that fail with the bytes that they still take, the puts and the faults so far
pub record SinkState : Type 0 where
  pub text : List ℕ
  pub room : ℕ
  pub failing : List (ℕ × ℕ)
  pub calls : ℕ
  pub faults : ℕ

-- the bytes that are listed for the next put
abbrev pub listed_bytes : SinkState → Option ℕ
listed_bytes s = option_map (λ put. put.1) (find (λ put. nat_eq put.0 (one_more s.calls)) s.failing)

-- the room that is left
abbrev pub free_room : SinkState → ℕ
free_room s = s.room - length s.text

-- how many bytes of a piece a put takes: no more than are listed, and no more than fit
abbrev pub taken : SinkState → List ℕ → ℕ
taken s piece = min (min (length piece) (free_room s)) (unwrap_or (listed_bytes s) (length piece))

-- a put fails: it is listed, or the piece does not fit
abbrev pub put_fails : SinkState → List ℕ → Bool
put_fails s piece = is_some (listed_bytes s) || nat_lt (free_room s) (length piece)

-- what a put answers
abbrev pub put_answer : SinkState → List ℕ → Result (Unit {0}) SinkFault
put_answer s piece = if put_fails s piece then Err (sink.Failed (taken s piece)) else Ok tt

-- what a put leaves
abbrev pub after_put : SinkState → List ℕ → SinkState
after_put s piece = record s {
  text = s.text ++ take (taken s piece) piece;
  calls = one_more s.calls;
  faults = if put_fails s piece then one_more s.faults else s.faults;
}
