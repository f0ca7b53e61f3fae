-- Numbers and octets, the highest first (RFC 8017, 4). OS2IP (4.2) is `number`.
use Rattle.std.specs.Prelude.{ℕ, ◌-◌, ◌^◌, ◌<◌, ◌≤◌, List}
use Rattle.std.specs.Int.{bytes_high_first}

-- I2OSP (4.1): the lowest `size` octets of a number, the highest of them first
abbrev pub octets_of : ℕ → ℕ → List ℕ
octets_of size n = bytes_high_first size n

-- n has exactly `bits` bits: the highest of them is 1
abbrev pub HasBits : ℕ → ℕ → Type 0
HasBits n bits = (2 ^ (bits - 1) ≤ n) × (n < 2 ^ bits)

-- n has exactly `size` octets: the highest of them is not 0
abbrev pub HasOctets : ℕ → ℕ → Type 0
HasOctets n size = (256 ^ (size - 1) ≤ n) × (n < 256 ^ size)
