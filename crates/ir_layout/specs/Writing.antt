-- How the initial bytes of an object are written, one part behind another, by what is kept of the types that its initialiser spells.
-- Nothing is written beyond a limit.
use Rattle.std.specs.Prelude.{ℕ, zero, suc, ◌-◌, ◌/◌, ◌%◌, ℤ, pos, negsuc, Bool, true, false, min, if◌then◌else◌, Option, Some, None, List, [], ◌∷◌, ◌++◌, length, take, replicate}
use Rattle.ir_ast.specs.Plain.{Ini, Inis, zero_init, number_init, truth_init, bytes_init, array_init, structure_init, packed_init, pointer_init, no_inits, init_and}
use Rattle.ir_ast.specs.Program.{GlobalView}
use Rattle.ir_layout.specs.declared.fact.Fact.{Fact}
use Rattle.ir_layout.specs.declared.object.Object.{Object}
use Rattle.ir_layout.specs.Sizes.{up_to}
use Rattle.ir_layout.specs.Facts.{fact_by, no_fields, with_field, known_size, known_align}
use Rattle.ir_layout.specs.Initial.{truth}

-- the number itself, or one less than its distance from 0 where it is below
abbrev pub magnitude : ℤ → ℕ
magnitude (pos n) = n
magnitude (negsuc n) = n

abbrev pub is_below_zero : ℤ → Bool
is_below_zero (pos n) = false
is_below_zero (negsuc n) = true

-- so many bytes of a number, the low one first; of one below 0 by two's complement
abbrev pub signed_bytes : Bool → ℕ → ℕ → List ℕ
signed_bytes below zero n = []
signed_bytes below (suc k) n = (if below then 255 - n % 256 else n % 256) ∷ signed_bytes below k (n / 256)

abbrev pub zeros_onto : ℕ → ℕ → List ℕ → List ℕ
zeros_onto limit n out = out ++ replicate (min n (limit - length out)) 0

abbrev pub number_onto : ℕ → ℕ → ℤ → List ℕ → List ℕ
number_onto limit n z out = out ++ signed_bytes (is_below_zero z) (min n (limit - length out)) (magnitude z)

abbrev pub bytes_onto : ℕ → List ℕ → List ℕ → List ℕ
bytes_onto limit bs out = out ++ take (min (length bs) (limit - length out)) bs

abbrev mutual
  -- an initialiser of a type of this size
  pub write : (List ℕ → Fact) → ℕ → ℕ → Ini → List ℕ → List ℕ
  write look limit size zero_init out = zeros_onto limit size out
  write look limit size (number_init z) out = number_onto limit size z out
  write look limit size (truth_init b) out = number_onto limit size (pos (truth b)) out
  write look limit size (bytes_init bs) out = bytes_onto limit bs out
  write look limit size (array_init is) out = write_parts look limit is out
  write look limit size (structure_init is) out = write_fields look limit size no_fields is out
  write look limit size (packed_init is) out = write_parts look limit is out
  write look limit size pointer_init out = zeros_onto limit size out

  pub write_parts : (List ℕ → Fact) → ℕ → Inis → List ℕ → List ℕ
  write_parts look limit no_inits out = out
  write_parts look limit (init_and t i is) out = write_parts look limit is (write look limit (fact_by look t).size i out)

  -- the fields behind others, each behind its gap, and the last gap
  pub write_fields : (List ℕ → Fact) → ℕ → ℕ → Fact → Inis → List ℕ → List ℕ
  write_fields look limit size all no_inits out = zeros_onto limit (size - all.size) out
  write_fields look limit size all (init_and t i is) out =
      write_fields look limit size (with_field all (fact_by look t)) is
      (write look limit (fact_by look t).size i (zeros_onto limit (up_to (fact_by look t).align all.size - all.size) out))

-- the alignment that is written, else that of the type
abbrev pub written_align : Option ℕ → ℕ → ℕ
written_align None align = align
written_align (Some zero) align = align
written_align (Some (suc n)) align = suc n

-- the bytes of an initialiser of an object of this size
abbrev pub bytes_with : (List ℕ → Fact) → ℕ → Ini → List ℕ
bytes_with look size i = zeros_onto size size (write look size size i [])

-- the bytes of a global
abbrev pub bytes_by : (List ℕ → Fact) → GlobalView → List ℕ
bytes_by look g = bytes_with look (known_size (fact_by look g.over)) g.init

-- what is kept of a global
abbrev pub object_by : (List ℕ → Fact) → GlobalView → Object
object_by look g = record {
  size = known_size (fact_by look g.over);
  align = written_align g.align (known_align (fact_by look g.over));
  constant = g.constant;
  bytes = bytes_by look g;
}
