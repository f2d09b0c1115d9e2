-- A sheet's bytes (document 01, "The sheet's bytes"), for any list of bytes. Past the end a byte reads as 0.
-- Defined: the numbers of the header, each record's place and bytes, and the trace (document 01: heard list).
use Rattle.std.specs.Prelude.{ℕ, zero, suc, ◌+◌, ◌*◌, List, [], ◌∷◌, ◌++◌, get_or, take, drop}

-- "Multi-byte numbers .. are 2 bytes, high byte first": the number at byte i
unfoldable pub number_at : List ℕ → ℕ → ℕ
number_at s i = get_or s i 0 * 256 + get_or s (i + 1) 0

-- offset 0: "the four letters SHT1 (hexadecimal 53 48 54 31)"
abbrev pub letters : List ℕ
letters = 0x53 ∷ 0x48 ∷ 0x54 ∷ 0x31 ∷ []

-- offset 4: n, the number of entries
abbrev pub count_of : List ℕ → ℕ
count_of s = number_at s 4

-- offset 6: h, the number of heard messages
abbrev pub trace_length : List ℕ → ℕ
trace_length s = number_at s 6

-- offset 8: the goal's entry number
abbrev pub goal_of : List ℕ → ℕ
goal_of s = number_at s 8

-- offset 10: "n pairs: offset, then length, of each record"
abbrev pub offset_at : List ℕ → ℕ → ℕ
offset_at s i = number_at s (10 + 4 * i)

abbrev pub length_at : List ℕ → ℕ → ℕ
length_at s i = number_at s (12 + 4 * i)

-- offset 10 + 4n: "h entry numbers, in the order heard"
abbrev pub trace_at : List ℕ → ℕ → ℕ
trace_at s k = number_at s (10 + 4 * count_of s + 2 * k)

-- offset 10 + 4n + 2h: where the records begin
abbrev pub records_from : List ℕ → ℕ
records_from s = 10 + 4 * count_of s + 2 * trace_length s

-- where the record before i ended, or the records begin
unfoldable pub begin_at : List ℕ → ℕ → ℕ
begin_at s zero = records_from s
begin_at s (suc i) = offset_at s i + length_at s i

-- "the part of the caller's sheet that its pair names"
abbrev pub record_at : List ℕ → ℕ → List ℕ
record_at s i = take (length_at s i) (drop (offset_at s i) s)

-- f 0, f 1, .., f (n - 1)
unfoldable pub listed : (ℕ → ℕ) → ℕ → List ℕ
listed f zero = []
listed f (suc n) = listed f n ++ (f n ∷ [])

-- the heard entries before a cut (document 01: "A cut c from 0 to h takes the first c")
abbrev pub trace_of : List ℕ → ℕ → List ℕ
trace_of s c = listed (trace_at s) c
