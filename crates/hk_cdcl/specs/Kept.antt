-- How the trail is kept: a truth value for each literal and a place for each variable.
use Rattle.std.specs.Prelude.{◌≡◌, ℕ, ◌*◌, ◌<◌, ◌≤◌, ◌^◌, false, length, ℤ, slice_index, slice_index_or, vec_capacity}
use Rattle.std.specs.List.{All}
use Rattle.hk_cnf.specs.Literal.{IsWithin, place_of, code_of, has}
use Rattle.hk_cdcl.specs.declared.trail.Trail.TheInside.{Inside}
use Rattle.hk_cdcl.specs.Path.{Path, lit_at}

abbrev pub view_of : Inside → Path
view_of t = record { vars = t.vars; lits = t.lits.items; reasons = t.reasons.items }

pub record IsTrail (t : Inside) : Type 0 where
  pub few : t.vars < 2 ^ 63
  pub within : All (IsWithin t.vars) t.lits.items
  pub together : length t.reasons.items ≡ length t.lits.items
  pub two_each : length t.values.items ≡ 2 * t.vars
  pub values : (l : ℤ) → IsWithin t.vars l → slice_index_or t.values.items (code_of l) false ≡ has t.lits.items l
  pub one_each : length t.places.items ≡ t.vars
  pub placed : (n : ℕ) → n < length t.lits.items → slice_index t.places.items (place_of (lit_at t.lits.items n)) ≡ n
  pub lit_room : t.vars ≤ vec_capacity t.lits
  pub reason_room : t.vars ≤ vec_capacity t.reasons
