-- Keys. An entry's key is one number: two entries that are no zero and no sum are the same term exactly when their keys are equal, and kind and
-- parts are read off it.
-- Defined: `key_of`, `key_at`, and the parts of a key, `key_kind`, `key_left`, `key_right`; `open_key_at`, the key with the entry that opens a lock in it,
-- and that entry, `key_opener`; `opposite_key`, the key of the opposite half.
use Rattle.std.specs.Prelude.{ℕ, ◌+◌, ◌*◌, ◌/◌, ◌%◌, ◌^◌, cond, eqb}
use Rattle.deduction.specs.Entry.{Entry, Zero, Atom, Pair, Enc, Sum, Half, Aenc}
use Rattle.deduction.specs.Standard.{half_kind, rep_at}
use Rattle.deduction.specs.Run.{opener}

-- the key of an entry, from the representatives of its parts: the kind above bit 32, below it the number or the two parts
unfoldable pub key_of : (ℕ → ℕ) → Entry → ℕ
key_of rep Zero = 0
key_of rep (Atom a) = 2 ^ 32 + a
key_of rep (Pair l r) = 2 * 2 ^ 32 + rep l * 256 + rep r
key_of rep (Enc m k) = 3 * 2 ^ 32 + rep m * 256 + rep k
key_of rep (Sum items) = 0
key_of rep (Half s a) = half_kind s * 2 ^ 32 + a
key_of rep (Aenc m k) = 7 * 2 ^ 32 + rep m * 256 + rep k

-- the key of entry i
abbrev pub key_at : (ℕ → Entry) → ℕ → ℕ
key_at e i = key_of (rep_at e) (e i)

-- what a key says: the kind, 0 for zero and sums, and the representatives of the two parts
abbrev pub key_kind : ℕ → ℕ
key_kind k = k / 2 ^ 32 % 256

abbrev pub key_left : ℕ → ℕ
key_left k = k / 256 % 256

abbrev pub key_right : ℕ → ℕ
key_right k = k % 256

-- the key of the opposite half
abbrev pub opposite_key : ℕ → ℕ
opposite_key k = cond (eqb (key_kind k) 5) (6 * 2 ^ 32 + k % 2 ^ 32) (5 * 2 ^ 32 + k % 2 ^ 32)

-- the entry that opens an entry: for a lock the opposite half of its key among the first n, or n where there is none
unfoldable pub opener_of : (ℕ → Entry) → ℕ → Entry → ℕ
opener_of e n Zero = 0
opener_of e n (Atom a) = 0
opener_of e n (Pair l r) = 0
opener_of e n (Enc m k) = 0
opener_of e n (Sum items) = 0
opener_of e n (Half s a) = 0
opener_of e n (Aenc m k) = opener e n (e (rep_at e k))

-- the key of entry i with what opens it above the two parts
abbrev pub open_key_at : (ℕ → Entry) → ℕ → ℕ → ℕ
open_key_at e n i = key_at e i + opener_of e n (e i) * 65536

abbrev pub key_opener : ℕ → ℕ
key_opener k = k / 65536 % 65536
