-- States that hold the same terms.
-- Defined: `Keeps`, what one list of terms holds, another holds too; `Alike`, two lists hold the same terms.
-- Shown: a derivation from one start is, up to ≈, one from any start that holds as much. Assumes nothing.
use mathlib.Core.Path.{refl}
use mathlib.Core.Logic.{◌↔◌, inl, inr}
use mathlib.Core.List.Memᴰ
use mathlib.Core.List.{List, ◌∷◌}
use Rattle.deduction.specs.Term.{Term, ◌≈◌, same, flip, then}
use Rattle.deduction.specs.Setting.{Setting}
use Rattle.deduction.specs.Derivation.{Holds, Derivation, Derivable, begin, first, second, decrypt, join, encrypt, sum, adecrypt, aencrypt}

abbrev pub Keeps : List Term → List Term → Type 0
Keeps g h = (u : Term) → Holds g u → Holds h u

abbrev pub Alike : List Term → List Term → Type 0
Alike g h = (u : Term) → Holds g u ↔ Holds h u

-- what is held is held up to ≈, and stays held
pub held_same : {g : List Term} {a b : Term} → Holds g a → a ≈ b → Holds g b
held_same (u, m, p) q = (u, m, then p q)

pub held_newest : {g : List Term} (a : Term) → Holds (a ∷ g) a
held_newest a = (a, Memᴰ.head refl, same)

pub held_older : {g : List Term} (a : Term) → Keeps g (a ∷ g)
held_older a u (v, m, p) = (v, Memᴰ.tail m, p)

-- one more term on both sides
pub keeps_newest : {g h : List Term} (a b : Term) → a ≈ b → Keeps g h → Keeps (a ∷ g) (b ∷ h)
keeps_newest {g} {h} a b q f u (v, m, p) =
    elim (Memᴰ.cases_cons m) [
      | inl r ↦ held_same (held_newest b) (then (flip q) (rw r at p))
      | inr r ↦ held_older b u (f u (v, r, p))
    ]

-- a derivation from a start that holds as much
pub derivation_kept : {on : Setting} {start other g : List Term} → Keeps start other → Derivation on start g → (h : List Term) × Derivation on other h × Keeps g h
derivation_kept {other = other} f begin = (other, begin, f)
derivation_kept f (first {a = a} o d p) = let (h, c, k) = derivation_kept f d in (a ∷ h, first o c (k _ p), keeps_newest a a same k)
derivation_kept f (second {b = b} o d p) = let (h, c, k) = derivation_kept f d in (b ∷ h, second o c (k _ p), keeps_newest b b same k)
derivation_kept f (decrypt {m = m} o d p q) = let (h, c, k) = derivation_kept f d in (m ∷ h, decrypt o c (k _ p) (k _ q), keeps_newest m m same k)
derivation_kept f (join o d p q) = let (h, c, k) = derivation_kept f d in (_, join o c (k _ p) (k _ q), keeps_newest _ _ same k)
derivation_kept f (encrypt o d p q) = let (h, c, k) = derivation_kept f d in (_, encrypt o c (k _ p) (k _ q), keeps_newest _ _ same k)
derivation_kept f (sum ts o d p) = let (h, c, k) = derivation_kept f d in (_, sum ts o c (λ u m. k u (p u m)), keeps_newest _ _ same k)
derivation_kept f (adecrypt {m = m} o d p q) = let (h, c, k) = derivation_kept f d in (m ∷ h, adecrypt o c (k _ p) (k _ q), keeps_newest m m same k)
derivation_kept f (aencrypt o d p q) = let (h, c, k) = derivation_kept f d in (_, aencrypt o c (k _ p) (k _ q), keeps_newest _ _ same k)

pub derivable_kept : {on : Setting} {start other : List Term} → Keeps start other → (u : Term) → Derivable on start u → Derivable on other u
derivable_kept f u (g, d, p) = let (h, c, k) = derivation_kept f d in (h, c, k u p)
