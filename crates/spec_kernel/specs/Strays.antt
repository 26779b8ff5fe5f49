-- Functions that come to a declared one that is neither a listed intrinsic nor a hook: nothing says what a call of it does.
use Rattle.std.specs.Prelude.{◌≡◌, Bool, false, ◌||◌, List, bytes_eq}
use Rattle.std.specs.List.{list_any}
use Rattle.spec_names.specs.Kernel.{Name, Kernel, Reaches, IsDeclared, is_intrinsic}

abbrev pub is_among : Name → List Name → Bool
is_among x names = list_any (bytes_eq x) names

abbrev pub IsStray : Kernel → List Name → Name → Type 0
IsStray k hooks g = IsDeclared k g × ((is_intrinsic g || is_among g hooks) ≡ false)

-- the function reaches one, over the calls in the text of all functions that it reaches
abbrev pub ReachesStray : Kernel → List Name → Name → Type 0
ReachesStray k hooks f = (g : Name) × Reaches k f g × IsStray k hooks g
