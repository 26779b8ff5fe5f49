-- Where registers are set, by name.
use Rattle.std.proofs.Common.{◌≡◌, ℕ, List, refl, sym, ap}
use Rattle.std.specs.Prelude.{Option, Some, None, option_map, option_and_then, slice_get}
use Rattle.ir_ast.specs.Table.{place_of}
use Rattle.ir_type.specs.Names.{entry_of}
use Rattle.ir_type.proofs.Places.{no_place}
use Rattle.ir_typing.proofs.FirstPlaces.{found_entry}
use Rattle.hk_unroll.specs.declared.registers.Setting.{Setting}
use Rattle.hk_unroll.specs.Registers.{entry_setting}

pub found_setting : (entries : List (List ℕ × Option Setting)) (x : List ℕ) (p : ℕ) (s : Option Setting) → place_of x entries ≡ Some p
    → option_map (λ entry. entry.1) (slice_get entries p) ≡ Some s → s ≡ entry_setting entries x
found_setting entries x p s there is = sym (ap (λ (o : Option (Option Setting)). option_and_then (λ s. s) o) (found_entry entries x p s there is))

pub no_setting : (entries : List (List ℕ × Option Setting)) (x : List ℕ) → place_of x entries ≡ None → None ≡ entry_setting entries x
no_setting entries x h = sym (ap (λ (o : Option (Option Setting)). option_and_then (λ s. s) o) (no_place entries x h))
