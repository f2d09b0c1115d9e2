-- Inputs that look like text. Assumes nothing.
use Rattle.std.specs.Prelude.{ℕ, zero, suc, min, Bool, true, not, ◌&&◌, ◌||◌, List, eqb, ltb, leb, length, get_or, take}
use Rattle.dag.specs.Sheet.{letters}
use Rattle.dag.specs.Refusal.{equal}

-- a byte of text: tab, line feed, carriage return, or a byte of UTF-8 that is no control character
unfoldable pub in_text : ℕ → Bool
in_text b = ((eqb b 9 || eqb b 10) || eqb b 13) || ((leb 32 b && not (eqb b 127)) && ltb b 248)

-- the first n bytes are bytes of text
unfoldable pub starts_as_text : List ℕ → ℕ → Bool
starts_as_text s zero = true
starts_as_text s (suc n) = in_text (get_or s n 0) && starts_as_text s n

-- not empty, other letters than a sheet's, and text as far as its first 64 bytes show
unfoldable pub is_text : List ℕ → Bool
is_text s = ltb 0 (length s) && (not (equal (take 4 s) letters) && starts_as_text s (min 64 (length s)))
