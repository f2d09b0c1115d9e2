-- What a record says: its kind, the lengths that a kind has, and the entry that it is.
-- Defined: `kind_of`, `fits`, `atom_of`, `decode`, `entry_at`.
use Rattle.std.specs.Prelude.{ℕ, zero, suc, ◌+◌, ◌-◌, ◌*◌, ◌/◌, ◌%◌, Bool, false, cond, ◌&&◌, ◌||◌, List, eqb, leb, length, get_or}
use Rattle.deduction.specs.Term.{private, public}
use Rattle.deduction.specs.Entry.{Entry, Zero, Atom, Pair, Enc, Sum, Half, Aenc}
use Rattle.dag.specs.Sheet.{number_at, record_at, listed}

-- the kind byte
abbrev pub kind_of : List ℕ → ℕ
kind_of r = get_or r 0 0

-- "Lengths are thus 1, 3, 5, 5 and 1 + 2k for k items" of kinds 0 to 4, a sum having "0 to 64 items"; no other kind has a length. Document 02, E10:
-- "An atom record may now have length 5 .. The old length stays good". E6: "Kind 5 is the private half and kind 6 the public half of the key pair with
-- the 2-byte number that follows"; "Kind 7 is a lock: message entry, then key entry"; "Refusal 5 now starts at kind 8"
unfoldable pub fits : ℕ → ℕ → Bool
fits zero len = eqb len 1
fits (suc zero) len = eqb len 3 || eqb len 5
fits (suc (suc zero)) len = eqb len 5
fits (suc (suc (suc zero))) len = eqb len 5
fits (suc (suc (suc (suc zero)))) len = eqb (len % 2) 1 && leb len 129
fits (suc (suc (suc (suc (suc zero))))) len = eqb len 3
fits (suc (suc (suc (suc (suc (suc zero)))))) len = eqb len 3
fits (suc (suc (suc (suc (suc (suc (suc zero))))))) len = eqb len 5
fits (suc (suc (suc (suc (suc (suc (suc (suc k)))))))) len = false

-- an atom's number, whole: "length 5 with a 4-byte number, high byte first"; in the old length its 2 bytes
unfoldable pub atom_of : List ℕ → ℕ
atom_of r = cond (eqb (length r) 5) (number_at r 1 * 65536 + number_at r 3) (number_at r 1)

-- the number of a sum's items, and the items
abbrev pub item_count : List ℕ → ℕ
item_count r = (length r - 1) / 2

abbrev pub item_at : List ℕ → ℕ → ℕ
item_at r j = number_at r (1 + 2 * j)

-- "A record is its kind byte and then: nothing (zero); the atom's number; left and right; message and key; or the sum's items"; a half's number; a
-- lock's message and key. A kind over 7 is refused
unfoldable pub decode_as : ℕ → List ℕ → Entry
decode_as zero r = Zero
decode_as (suc zero) r = Atom (atom_of r)
decode_as (suc (suc zero)) r = Pair (number_at r 1) (number_at r 3)
decode_as (suc (suc (suc zero))) r = Enc (number_at r 1) (number_at r 3)
decode_as (suc (suc (suc (suc zero)))) r = Sum (listed (item_at r) (item_count r))
decode_as (suc (suc (suc (suc (suc zero))))) r = Half private (number_at r 1)
decode_as (suc (suc (suc (suc (suc (suc zero)))))) r = Half public (number_at r 1)
decode_as (suc (suc (suc (suc (suc (suc (suc zero))))))) r = Aenc (number_at r 1) (number_at r 3)
decode_as (suc (suc (suc (suc (suc (suc (suc (suc k)))))))) r = Zero

abbrev pub decode : List ℕ → Entry
decode r = decode_as (kind_of r) r

-- entry i of a sheet
abbrev pub entry_at : List ℕ → ℕ → Entry
entry_at s i = decode (record_at s i)
