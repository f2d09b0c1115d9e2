-- What is added to a text, piece by piece.
-- Shown: nothing added; one piece after another, and the room for the second.
-- Assumes nothing.
use mathlib.Core.Path.{◌≡◌, refl, ◌∙◌}
use mathlib.Core.List.{List, [], ◌++◌}
use Prim.Native.Nat.{ℕ}
use native.Mathlib.Omega.{arith}
use lib.ListN.{length-append}
use Rattle.line.specs.declared.Text.{Text}
use Rattle.line.specs.Text.{Fits, Adds}
use Rattle.line.proofs.Laws.Buffer.{append_as, append_none, append_next, append_kept}

-- what is added is known by another name
pub adds_as : {t u : Text} {w w' : List ℕ} → w ≡ w' → Adds t w u → Adds t w' u
adds_as e h = record { text = append_as e h.text; same_reference = h.same_reference }

-- nothing is added
pub adds_none : (t : Text) (w : List ℕ) → Fits t w → Adds t [] t
adds_none t w h = record { text = append_none t.out.now t.len (omega arith); same_reference = refl }

-- one piece after another
pub adds_next : {t u v : Text} {a b : List ℕ} → Adds t a u → Adds u b v → Adds t (a ++ b) v
adds_next h k = record { text = append_next h.text k.text; same_reference = k.same_reference ∙ h.same_reference }

-- where two pieces fit, the second does after the first
pub fits_next : {t u : Text} (a b : List ℕ) → Fits t (a ++ b) → Adds t a u → Fits u b
fits_next a b h k = omega (arith, length-append a b, h, k.text.place, append_kept k.text)
