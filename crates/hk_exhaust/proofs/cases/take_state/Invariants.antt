use Rattle.std.proofs.Common.{◌≡◌, ◌++◌, drop, map}
use Rattle.spec_tree.specs.View.{view_field}
use Rattle.hk_exhaust.specs.Enumeration.{state_at, behind_state}
use Rattle.hk_exhaust.proofs.cases.take_state.Given as goal

abbrev pub invariant-each : goal.invariant-each
invariant-each l = record {
  state : l.state.items ++ state_at (map view_field (drop l.field-index l.fields)) l.rest ≡ state_at (map view_field l.fields) l.initial.rest;
  behind : behind_state (map view_field (drop l.field-index l.fields)) l.rest ≡ behind_state (map view_field l.fields) l.initial.rest;
}
