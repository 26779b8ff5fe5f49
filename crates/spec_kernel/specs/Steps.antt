-- Steps into shapes by number: what the code answers, and what it stands for.
use Rattle.std.specs.Prelude.{ℕ, ◌/◌, Option, Some, None, if◌then◌else◌}
use Rattle.ir_type.specs.Whole.{is_memory_width}
use Rattle.spec_names.specs.Kernel as plain
use Rattle.spec_kernel.specs.declared.steps.Elements.{Elements}
use Rattle.spec_kernel.specs.declared.steps.Part.{Part}
use Rattle.ir_measure.specs.declared.shapes.Shapes.{Shapes}
use Rattle.spec_kernel.specs.Seen.{shape_at}

-- the bytes of an integer of this width that memory has
abbrev pub bytes_at : ℕ → Option ℕ
bytes_at w = if is_memory_width w then Some (w / 8) else None

abbrev pub view_elements : Shapes → Elements → plain.Elements
view_elements s e = record { count = e.count; stride = e.stride; shape = shape_at s e.shape }

abbrev pub view_part : Shapes → Part → plain.Part
view_part s p = record { offset = p.offset; shape = shape_at s p.shape }
