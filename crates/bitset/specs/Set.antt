-- Sets of entries. A set is one natural number: entry e is a member exactly when the bit of value 2^e is one.
-- The sum of two sets is their exclusive or, `bit_xor` of the language's library: the entries in exactly one of them.
-- Defined: `member`, `single`, `insert`, `highest`, `leading`. Nothing here has a bound on the number of entries.
use Rattle.std.specs.Prelude.{ℕ, zero, suc, ◌/◌, ◌%◌, ◌^◌, Bool, cond, eqb}
use Rattle.std.specs.Int.Bits.{bit_xor}

-- is e in s?
unfoldable pub member : ℕ → ℕ → Bool
member s e = eqb (s / 2 ^ e % 2) 1

-- the set of e alone
abbrev pub single : ℕ → ℕ
single e = 2 ^ e

-- s with e
unfoldable pub insert : ℕ → ℕ → ℕ
insert s e = cond (member s e) s (bit_xor s (single e))

-- the highest-numbered member of s below n, and 0 where there is none
unfoldable pub highest : ℕ → ℕ → ℕ
highest s zero = zero
highest s (suc n) = cond (member s n) n (highest s n)

-- the leading entry: the highest-numbered member of s, and 0 for the empty set. A member e has e < 2^e ≤ s, so none is past s
unfoldable pub leading : ℕ → ℕ
leading s = highest s s
