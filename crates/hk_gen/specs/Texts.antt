-- Lines of fixed words and decimal numbers.

use Rattle.std.specs.Prelude.{ℕ, List, ◌++◌, codes}
use Rattle.std.specs.List.{flat_map}
use Rattle.std.specs.Fmt.{decimal}
use Rattle.hk_gen.specs.declared.text.Part.{Part}
use Rattle.hk_gen.specs.declared.text.Part.TheVariants.{Words, Number}

abbrev pub part_text : Part → List ℕ
part_text (Words words) = words.now
part_text (Number number) = decimal number

-- A line: the texts of its parts and a newline.
abbrev pub line_text : List Part → List ℕ
line_text parts = flat_map part_text parts ++ codes "\n"
