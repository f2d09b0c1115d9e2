-- A set of entries in memory: 64-bit words, the lowest entries first, and bytes in the buffer's form. Any number of words and bytes.
-- Defined: `packed`, the number that a list of digits of k bits is; `value`, the set that words hold, and `set_of`, that bytes hold;
-- `bytes_of`, the bytes of a set.
use Rattle.std.specs.Prelude.{ℕ, zero, suc, ◌+◌, ◌*◌, ◌/◌, ◌%◌, ◌^◌, List, [], ◌∷◌, ◌++◌}

-- digits of k bits, the lowest first
unfoldable pub packed : ℕ → List ℕ → ℕ
packed k [] = 0
packed k (w ∷ ws) = packed k ws * 2 ^ k + w

-- "The set of standard entries in a term is four 64-bit words": entry e is bit e mod 64 of word e div 64
abbrev pub value : List ℕ → ℕ
value = packed 64

-- "bit of value 2 to the power e mod 8 in byte e div 8": the set that bytes hold
abbrev pub set_of : List ℕ → ℕ
set_of = packed 8

-- byte k of the set s in that form
unfoldable pub byte_of : ℕ → ℕ → ℕ
byte_of s k = s / 2 ^ (k * 8) % 2 ^ 8

-- the first n bytes of the set s
unfoldable pub bytes_of : ℕ → ℕ → List ℕ
bytes_of zero s = []
bytes_of (suc n) s = bytes_of n s ++ (byte_of s n ∷ [])
