-- Promise: numbers in a list of bytes, little-endian (document 01, 'The cell image'). Past the end a byte is 0.
use Rattle.std.specs.Prelude.{ℕ, zero, suc, ◌+◌, ◌*◌, ◌/◌, ◌%◌, List, [], ◌∷◌, Bool, true, ◌&&◌, eqb, get_or}

-- the number in 1, 2, 4 or 8 bytes from a position on
abbrev pub byte : List ℕ → ℕ → ℕ
byte c at = get_or c at 0

abbrev pub half : List ℕ → ℕ → ℕ
half c at = byte c at + 256 * byte c (at + 1)

abbrev pub word : List ℕ → ℕ → ℕ
word c at = half c at + 65536 * half c (at + 2)

abbrev pub long : List ℕ → ℕ → ℕ
long c at = word c at + 4294967296 * word c (at + 4)

-- every byte is zero
abbrev pub zeros : List ℕ → Bool
zeros [] = true
zeros (b ∷ bs) = eqb b 0 && zeros bs

-- a number in k bytes, k above 0. The last is not reduced: of a number below 256 ^ k each is a byte, and of any number they read back as it
abbrev pub bytes : ℕ → ℕ → List ℕ
bytes zero n = []
bytes (suc zero) n = n ∷ []
bytes (suc (suc k)) n = n % 256 ∷ bytes (suc k) (n / 256)
