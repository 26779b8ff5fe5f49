-- Instances, each once: an instance that was added before is not added again.
use Rattle.std.specs.Prelude.{if◌then◌else◌, List, [], ◌∷◌, ◌++◌, fold}
use Rattle.hk_inst.specs.declared.instance.Instance.{Instance}
use Rattle.hk_inst.specs.Truths.{is_among}

-- an instance more, behind the others, unless it is among them
abbrev pub with_instance : List Instance → Instance → List Instance
with_instance instances i = if is_among instances i then instances else instances ++ i ∷ []

-- each instance at the first place at which it stands
abbrev pub once : List Instance → List Instance
once instances = fold with_instance [] instances
