-- A byte of a cell's number.
use Rattle.std.proofs.Common.{◌≡◌, ℕ, zero, suc, ◌*◌, ◌/◌, ◌%◌, ◌^◌, ◌<◌, ◌∙◌, ap, arith}
use Rattle.ir_layout.specs.Bytes.{IsWidth}
use Rattle.hk_symmem.proofs.Numbers.{bits_of_bytes}
use Rattle.hk_symmem.proofs.Wholes.{by_width}

of_one : (n k : ℕ) → k < 1 → n / 256 ^ k % 256 ≡ n % 2 ^ 8 / 256 ^ k % 256
of_one n zero l = omega arith
of_one n (suc k) l = absurd (omega (arith, l))

of_two : (n k : ℕ) → k < 2 → n / 256 ^ k % 256 ≡ n % 2 ^ 16 / 256 ^ k % 256
of_two n zero l = omega arith
of_two n (suc zero) l = omega arith
of_two n (suc (suc k)) l = absurd (omega (arith, l))

of_four : (n k : ℕ) → k < 4 → n / 256 ^ k % 256 ≡ n % 2 ^ 32 / 256 ^ k % 256
of_four n zero l = omega arith
of_four n (suc zero) l = omega arith
of_four n (suc (suc zero)) l = omega arith
of_four n (suc (suc (suc zero))) l = omega arith
of_four n (suc (suc (suc (suc k)))) l = absurd (omega (arith, l))

of_eight : (n k : ℕ) → k < 8 → n / 256 ^ k % 256 ≡ n % 2 ^ 64 / 256 ^ k % 256
of_eight n zero l = omega arith
of_eight n (suc zero) l = omega arith
of_eight n (suc (suc zero)) l = omega arith
of_eight n (suc (suc (suc zero))) l = omega arith
of_eight n (suc (suc (suc (suc zero)))) l = omega arith
of_eight n (suc (suc (suc (suc (suc zero))))) l = omega arith
of_eight n (suc (suc (suc (suc (suc (suc zero)))))) l = omega arith
of_eight n (suc (suc (suc (suc (suc (suc (suc zero))))))) l = omega arith
of_eight n (suc (suc (suc (suc (suc (suc (suc (suc k)))))))) l = absurd (omega (arith, l))

within : (c k : ℕ) → IsWidth c → k % c < c
within c k = by_width (λ c. k % c < c) (omega arith) (omega arith) (omega arith) (omega arith) c

pub byte_in_cell : (n c index place : ℕ) → IsWidth c → place ≡ index % c → n / 2 ^ (8 * place) % 256 ≡ n % 2 ^ (8 * c) / 256 ^ (index % c) % 256
byte_in_cell n c index place i e =
    ap (λ k. n / 2 ^ (8 * k) % 256) e ∙ ap (λ q. n / q % 256) (bits_of_bytes (index % c))
    ∙ by_width (λ c. (k : ℕ) → k < c → n / 256 ^ k % 256 ≡ n % 2 ^ (8 * c) / 256 ^ k % 256) (of_one n) (of_two n) (of_four n) (of_eight n) c i (index % c) (within c index i)
