-- One more byte behind others.
use Rattle.std.proofs.Common.{◌≡◌, ℕ, suc, ◌+◌, ◌-◌, ◌<◌, ◌/◌, ◌%◌, Bool, List, [], ◌∷◌, ◌++◌, sym, ◌∙◌, ap, arith, append_assoc}
use Rattle.std.specs.Prelude.{if◌then◌else◌, replicate}
use Rattle.ir_layout.specs.Writing.{signed_bytes}

pub zeros_more : (count at : ℕ) (out whole : List ℕ) → at < count → out ++ replicate (count - at) 0 ≡ whole → (out ++ 0 ∷ []) ++ replicate (count - (at + 1)) 0 ≡ whole
zeros_more count at out whole l is =
    let n : count - at ≡ suc (count - (at + 1)) = omega (arith, l) in
    append_assoc out (0 ∷ []) (replicate (count - (at + 1)) 0) ∙ sym (ap (λ k. out ++ replicate k 0) n) ∙ is

pub number_more : (below : Bool) (count at rest byte : ℕ) (out whole : List ℕ) → at < count → byte ≡ (if below then 255 - rest % 256 else rest % 256) → out ++ signed_bytes below (count - at) rest ≡ whole
    → (out ++ byte ∷ []) ++ signed_bytes below (count - (at + 1)) (rest / 256) ≡ whole
number_more below count at rest byte out whole l low is =
    let n : count - at ≡ suc (count - (at + 1)) = omega (arith, l) in
    append_assoc out (byte ∷ []) (signed_bytes below (count - (at + 1)) (rest / 256))
    ∙ ap (λ b. out ++ (b ∷ signed_bytes below (count - (at + 1)) (rest / 256))) low
    ∙ sym (ap (λ k. out ++ signed_bytes below k rest) n) ∙ is
