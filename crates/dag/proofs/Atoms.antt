-- What a reader may conclude of atoms, whatever the lengths of their records (document 02, E10).
-- Shown: `lengths`, an atom's record has 3 or 5 bytes, and no other number of them; `short_whole`, `long_whole`, its number has every byte after the
-- first, high byte first; `short_read`, `long_read`, each number below 2 ^ 16 has a short record and each below 2 ^ 32 a long one, which read as it;
-- `either_read`, the same number in either length is the same entry; `same_atoms`, on a good sheet two atoms have the same representative exactly
-- when their numbers are equal. Assumes nothing.
use mathlib.Core.Path.{◌≡◌, refl, sym, ap, ◌∙◌, subst}
use mathlib.Core.Bool.{true}
use mathlib.Core.List.{List, [], ◌∷◌}
use mathlib.Core.Logic.{◌⊎◌, inl, inr, ⊎_elim, ◌↔◌}
use Prim.Native.Nat.{ℕ, zero, suc, ◌+◌, ◌*◌, ◌/◌, ◌%◌, ◌^◌, ◌<◌}
use native.Mathlib.Omega.{arith}
use lib.ListN.{length, get_or}
use borrow.Author.Tests.{eqb-true}
use lib.Dec.{eqb}
use Rattle.deduction.specs.Term.{Term, atom, ◌≈◌, same}
use Rattle.deduction.specs.Entry.{Entry, Atom, build, term_at}
use Rattle.deduction.specs.Standard.{rep_at}
use Rattle.deduction.proofs.Distinct.{atom_same}
use Rattle.deduction.proofs.Terms.{term_at_build}
use Rattle.deduction.proofs.Standard.{rep_equal}
use Rattle.dag.specs.Sheet.{number_at, count_of, record_at}
use Rattle.dag.specs.Record.{kind_of, fits, atom_of, decode_as, decode, entry_at}
use Rattle.dag.specs.Refusal.{refusal}
use Rattle.dag.proofs.Laws.Sheet.{two_bytes, three_bytes}
use Rattle.dag.proofs.Laws.Refusal.{or_either}
use Rattle.dag.proofs.Laws.Record.{fits_short, atom_long, atom_short}
use Rattle.dag.proofs.Laws.Good.{good}

-- the short record and the long one of a number
abbrev pub short_record : ℕ → List ℕ
short_record a = 1 ∷ a / 256 ∷ a % 256 ∷ []

abbrev pub long_record : ℕ → List ℕ
long_record a = 1 ∷ a / 2 ^ 24 ∷ a / 2 ^ 16 % 256 ∷ a / 2 ^ 8 % 256 ∷ a % 256 ∷ []

-- a list of bytes with a length that its kind has, which reads as this entry
pub record Reads (r : List ℕ) (e : Entry) : Type 0 where
  pub bytes : (k : ℕ) → get_or r k 0 < 256
  pub fitting : fits (kind_of r) (length r) ≡ true
  pub entry : decode r ≡ e

pub short_read : (a : ℕ) → a < 2 ^ 16 → Reads (short_record a) (Atom a)
unfolding fits decode_as atom_of number_at
short_read a h = record { bytes = three_bytes 1 a (omega arith) h; fitting = refl; entry = ap Atom (two_bytes a) }

pub long_read : (a : ℕ) → a < 2 ^ 32 → Reads (long_record a) (Atom a)
unfolding fits decode_as atom_of number_at
long_read a h = record { bytes = small; fitting = refl; entry = ap Atom (joined a) }
  where
    joined : (x : ℕ) → (x / 2 ^ 24 * 256 + x / 2 ^ 16 % 256) * 65536 + (x / 2 ^ 8 % 256 * 256 + x % 256) ≡ x
    joined x = omega arith

    small : (k : ℕ) → get_or (long_record a) k 0 < 256
    small zero = omega arith
    small (suc zero) = omega (arith, h)
    small (suc (suc zero)) = omega arith
    small (suc (suc (suc zero))) = omega arith
    small (suc (suc (suc (suc zero)))) = omega arith
    small (suc (suc (suc (suc (suc k))))) = omega arith

-- "the same number in either length is the same term"
pub either_read : (a : ℕ) → a < 2 ^ 16 → decode (short_record a) ≡ decode (long_record a)
either_read a h = (short_read a h).entry ∙ sym (long_read a (omega (arith, h))).entry

-- "The old length stays good", and no other length is
pub lengths : (len : ℕ) → (fits 1 len ≡ true) ↔ ((len ≡ 3) ⊎ (len ≡ 5))
unfolding fits
lengths len = (
  λ p. ⊎_elim (λ q. inl (eqb-true len 3 q)) (λ q. inr (eqb-true len 5 q)) (or_either (eqb len 3) (eqb len 5) p),
  λ p. ⊎_elim (λ q. sym (fits_short len q)) (λ q. subst (λ (l : ℕ). fits 1 l ≡ true) (sym q) refl) p,
)

-- "none is cut"
pub short_whole : (r : List ℕ) → length r ≡ 3 → atom_of r ≡ get_or r 1 0 * 2 ^ 8 + get_or r 2 0
unfolding number_at
short_whole r p = sym (atom_short r (λ q. absurd (omega (arith, p, q))))

pub long_whole : (r : List ℕ) → length r ≡ 5 → atom_of r ≡ get_or r 1 0 * 2 ^ 24 + get_or r 2 0 * 2 ^ 16 + get_or r 3 0 * 2 ^ 8 + get_or r 4 0
unfolding number_at
long_whole r p = sym (atom_long r p) ∙ joined (get_or r 1 0) (get_or r 2 0) (get_or r 3 0) (get_or r 4 0)
  where
    joined : (a b c d : ℕ) → (a * 256 + b) * 65536 + (c * 256 + d) ≡ a * 2 ^ 24 + b * 2 ^ 16 + c * 2 ^ 8 + d
    joined a b c d = omega arith

-- an entry of kind 1 is the atom of its number
pub kind_atom : (r : List ℕ) → kind_of r ≡ 1 → decode r ≡ Atom (atom_of r)
unfolding decode_as
kind_atom r p = ap (λ (k : ℕ). decode_as k r) p

module _ (s : List ℕ) (ok : refusal s ≡ 0) where
  term_atom : (i : ℕ) → i < count_of s → kind_of (record_at s i) ≡ 1 → term_at (entry_at s) i ≡ atom (atom_of (record_at s i))
  unfolding build
  term_atom i h p = term_at_build (entry_at s) (count_of s) (good s ok).downward i h ∙ ap (build (term_at (entry_at s))) (kind_atom (record_at s i) p)

  -- two atoms of a good sheet have the same representative exactly when their numbers are equal, whatever their lengths
  pub same_atoms : (i j : ℕ) → i < count_of s → j < count_of s → kind_of (record_at s i) ≡ 1 → kind_of (record_at s j) ≡ 1
      → (rep_at (entry_at s) i ≡ rep_at (entry_at s) j) ↔ (atom_of (record_at s i) ≡ atom_of (record_at s j))
  same_atoms i j hi hj pi pj =
      let alike = rep_equal (entry_at s) (count_of s) (good s ok).downward i j hi hj in (
        λ p. atom_same _ _ (subst (λ (t : Term). t ≈ atom (atom_of (record_at s j))) (term_atom i hi pi) (subst (λ (t : Term). term_at (entry_at s) i ≈ t) (term_atom j hj pj) (alike.0 p))),
        λ p. alike.1 (subst (λ (t : Term). term_at (entry_at s) i ≈ t) (term_atom i hi pi ∙ ap atom p ∙ sym (term_atom j hj pj)) same),
      )
