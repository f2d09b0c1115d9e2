-- The definitions at worked inputs. Assumes nothing.
use mathlib.Core.Path.{◌≡◌, refl}
use mathlib.Core.Bool.{true, false}
use mathlib.Core.List.{[], ◌∷◌}
use lib.IntN.{pos, negsuc}
use Rattle.dag.specs.Refusal.{equal}
use Rattle.zuwendryk.specs.Stream.{passing}
use Rattle.zuwendryk.specs.Text.{in_text, starts_as_text, is_text}

-- EINTR and EAGAIN pass; EIO, and a number that is no error, don't
passing_errors : (passing (pos 4) ≡ true) × (passing (pos 11) ≡ true) × (passing (pos 5) ≡ false) × (passing (negsuc 0) ≡ false)
unfolding passing
passing_errors = (refl, refl, refl, refl)

-- no input is no text, and neither is a byte 0 after a letter
not_text : (is_text [] ≡ false) × (is_text (0x61 ∷ 0 ∷ []) ≡ false)
unfolding is_text starts_as_text in_text equal
not_text = (refl, refl)

-- "# k" and the end of a line are text; the four letters SHT1 aren't
hash_text : (is_text (0x23 ∷ 0x20 ∷ 0x6b ∷ 10 ∷ []) ≡ true) × (is_text (0x53 ∷ 0x48 ∷ 0x54 ∷ 0x31 ∷ []) ≡ false)
unfolding is_text starts_as_text in_text equal
hash_text = (refl, refl)
