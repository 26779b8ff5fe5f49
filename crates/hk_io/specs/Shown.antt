-- A text that grows at its end, as far as a sink tells of it.
use Rattle.std.specs.Prelude.{◌≡◌, ◌≤◌, ℕ, List, Option, None, Some, ◌++◌, length, take}
use Rattle.hk_io.specs.declared.fault.SinkFault.{SinkFault}
use Rattle.hk_io.specs.declared.fault.SinkFault.TheVariants.{Failed}

-- what is shown once a piece has been added
abbrev pub shown_with : Option (List ℕ) → List ℕ → Option (List ℕ)
shown_with None piece = None
shown_with (Some text) piece = Some (text ++ piece)

-- how many bytes of its piece a failed put has shown
abbrev pub sent_of : SinkFault → ℕ
sent_of (Failed sent) = sent

-- a prefix of this text has been shown since
abbrev pub ShowsPrefix : Option (List ℕ) → Option (List ℕ) → List ℕ → Type 0
ShowsPrefix before after text = (n : ℕ) × (n ≤ length text) × (after ≡ shown_with before (take n text))
