-- What the fields of a key hold.
use Rattle.std.specs.Prelude.{◌≡◌, ℕ, ◌+◌, ◌*◌, ◌%◌, ◌^◌, ◌<◌, ◌≤◌, List, slice_index, take}
use Rattle.modular_arithmetic.specs.Octets.{number}
use Rattle.rsa_signatures.specs.Octets.{HasBits, HasOctets}
use Rattle.modular_arithmetic.specs.Limbs.{limb_weight, value_below}

-- what the fields of a key hold: the modulus as `len` limbs and as `size` octets, the number of its
-- bits, and two constants for Montgomery's method (`square` and `inverse`)
pub record IsKey (n octets square : List ℕ) (inverse size bits len : ℕ) : Type 0 where
  pub low : 1 ≤ len
  pub high : len ≤ 128
  pub least_size : 256 ≤ size
  pub fits : size ≤ 8 * len
  pub least_bits : 2041 ≤ bits
  pub most_bits : bits ≤ 8192
  pub has_size : HasOctets (value_below n len) size
  pub has_bits : HasBits (value_below n len) bits
  pub octets_are : number (take size octets) ≡ value_below n len
  pub first_octet : 0 < slice_index octets 0
  pub odd : value_below n len % 2 ≡ 1
  pub inverse_is : (slice_index n 0 * inverse + 1) % 2 ^ 64 ≡ 0
  pub square_below : value_below square len < value_below n len
  pub square_is : value_below square len ≡ (limb_weight len * limb_weight len) % value_below n len
