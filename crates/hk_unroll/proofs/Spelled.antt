-- New names as they are spelled.
use Rattle.std.proofs.Common.{◌≡◌, ℕ, ◌<◌, List, ◌∷◌, [], ap, ◌∙◌, refl, lit<}
use Rattle.std.specs.Prelude.{codes, decimal}
use Rattle.std.proofs.lemmas.Fmt.{decimal_digit}
use Rattle.hk_unroll.specs.declared.copies.BlockCopy.{BlockCopy}
use Rattle.hk_unroll.specs.Names.{prefix, block_name, register_name, phi_name, end_name}

abbrev at : ℕ → ℕ → BlockCopy
at turns block = record { turns = turns; block = block }

some_block : block_name 0 (at 1 2) ≡ codes ":1:2"
some_block = rw (decimal_digit 1 (lit< tt), decimal_digit 2 (lit< tt)) refl

some_register : register_name 0 1 2 ≡ codes ":1:r2"
some_register = rw (decimal_digit 1 (lit< tt), decimal_digit 2 (lit< tt)) refl

some_phi : phi_name 0 (at 1 2) 3 ≡ codes ":1:2:r3"
some_phi = rw (decimal_digit 1 (lit< tt), decimal_digit 2 (lit< tt), decimal_digit 3 (lit< tt)) refl

some_end : end_name 2 ≡ codes "//:e"
some_end = refl
