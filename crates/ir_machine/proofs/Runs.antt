-- Steps of runs, and registers that are not set, by one less.
use Rattle.std.proofs.Common.{◌≡◌, ◌-◌, ◌+◌, ◌<◌, ◌++◌, ◌∷◌, [], ℕ, zero, suc, refl, arith, subst}
use Rattle.std.specs.Prelude.{None}
use Rattle.std.proofs.lemmas.List.{append_assoc}
use Rattle.ir_code.specs.declared.program.Program.{Program}
use Rattle.ir_machine.specs.declared.state.Machine.{Machine}
use Rattle.ir_machine.specs.Values.{Registers}
use Rattle.ir_machine.specs.Step.{unset, step, then_run, run}

by_one : (P : Program) (n : ℕ) (m : Machine) → 0 < n → run P n m ≡ then_run (step P m) (run P (n - 1))
by_one P zero m positive = absurd (omega (arith, positive))
by_one P (suc n) m positive =
    let Q : ℕ → Type 0 = λ j. run P (suc n) m ≡ then_run (step P m) (run P j) in
    let same : n ≡ suc n - 1 = omega (arith) in
    subst Q same refl

-- a run from here is a step and a run that is shorter by one
pub run_step : (P : Program) (n k : ℕ) (m : Machine) → k < n → run P (n - k) m ≡ then_run (step P m) (run P (n - (k + 1)))
run_step P n k m below =
    let Q : ℕ → Type 0 = λ j. run P (n - k) m ≡ then_run (step P m) (run P j) in
    let less : n - k - 1 ≡ n - (k + 1) = omega (arith) in
    subst Q less (by_one P (n - k) m (omega (arith, below)))

one_more : (rs : Registers) (n : ℕ) → 0 < n → (rs ++ None ∷ []) ++ unset (n - 1) ≡ rs ++ unset n
one_more rs zero positive = absurd (omega (arith, positive))
one_more rs (suc n) positive =
    let Q : ℕ → Type 0 = λ j. (rs ++ None ∷ []) ++ unset j ≡ rs ++ unset (suc n) in
    let same : n ≡ suc n - 1 = omega (arith) in
    subst Q same (append_assoc rs (None ∷ []) (unset n))

pub unset_step : (rs : Registers) (n k : ℕ) → k < n → (rs ++ None ∷ []) ++ unset (n - (k + 1)) ≡ rs ++ unset (n - k)
unset_step rs n k below =
    let Q : ℕ → Type 0 = λ j. (rs ++ None ∷ []) ++ unset j ≡ rs ++ unset (n - k) in
    let less : n - k - 1 ≡ n - (k + 1) = omega (arith) in
    subst Q less (one_more rs (n - k) (omega (arith, below)))
