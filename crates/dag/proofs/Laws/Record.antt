-- The lengths that a kind has, the kinds of halves, and an atom's number in each of its lengths. Assumes nothing.
use mathlib.Core.Path.{◌≡◌, refl, sym, ap}
use mathlib.Core.Bool.{Bool, true, false, cond, ◌||◌}
use mathlib.Core.List.{List}
use mathlib.Core.Logic.{◌⊎◌, inl, inr, ⊎_elim}
use Prim.Native.Nat.{ℕ, zero, suc, ◌+◌, ◌*◌, ◌≤◌, ◌<◌}
use native.Mathlib.Numerals.{lt_of_le_of_ne}
use native.Mathlib.Omega.{arith}
use borrow.Author.Tests.{eq-eqb, ne_eqb, eqb-true, eqb-false}
use lib.Dec.{eqb}
use lib.ListN.{length}
use Rattle.deduction.specs.Term.{Side, private, public}
use Rattle.deduction.specs.Entry.{Half, Aenc}
use Rattle.dag.specs.Sheet.{number_at}
use Rattle.dag.specs.Record.{kind_of, fits, atom_of, decode_as, decode}
use Rattle.dag.proofs.Laws.Refusal.{or_either, or_false_left, or_false_right}

-- a number from n on that isn't n is over n
pub up : (n k : ℕ) → n ≤ k → (k ≡ n → ⊥) → suc n ≤ k
up n k h d = lt_of_le_of_ne h (λ e. d (sym e))

pub fits_short : (len : ℕ) → len ≡ 3 → true ≡ fits 1 len
unfolding fits
fits_short len p = sym (ap (λ (b : Bool). b || eqb len 5) (eq-eqb len 3 p))

pub atom_long : (r : List ℕ) → length r ≡ 5 → number_at r 1 * 65536 + number_at r 3 ≡ atom_of r
unfolding atom_of
atom_long r p = sym (ap (λ (b : Bool). cond b (number_at r 1 * 65536 + number_at r 3) (number_at r 1)) (eq-eqb (length r) 5 p))

pub atom_short : (r : List ℕ) → (length r ≡ 5 → ⊥) → number_at r 1 ≡ atom_of r
unfolding atom_of
atom_short r n = sym (ap (λ (b : Bool). cond b (number_at r 1 * 65536 + number_at r 3) (number_at r 1)) (ne_eqb (length r) 5 n))

-- the test for the kind of a half
pub half_kind_lem : (k : ℕ) → (eqb k 5 || eqb k 6) ≡ true → (k ≡ 5) ⊎ (k ≡ 6)
half_kind_lem k p = ⊎_elim (λ q. inl (eqb-true k 5 q)) (λ q. inr (eqb-true k 6 q)) (or_either (eqb k 5) (eqb k 6) p)

pub half_test : (k : ℕ) → (k ≡ 5) ⊎ (k ≡ 6) → (eqb k 5 || eqb k 6) ≡ true
half_test k (inl p) = ap (λ (x : ℕ). eqb x 5 || eqb x 6) p
half_test k (inr p) = ap (λ (x : ℕ). eqb x 5 || eqb x 6) p

pub no_half : (k : ℕ) → (eqb k 5 || eqb k 6) ≡ false → (k ≡ 5 → ⊥) × (k ≡ 6 → ⊥)
no_half k p = (eqb-false k 5 (or_false_left (eqb k 5) (eqb k 6) p), eqb-false k 6 (or_false_right (eqb k 5) (eqb k 6) p))

-- a kind over 7 has no length
pub fits_none : (kind len : ℕ) → 7 < kind → false ≡ fits kind len
unfolding fits
fits_none zero len h = absurd (omega arith)
fits_none (suc zero) len h = absurd (omega arith)
fits_none (suc (suc zero)) len h = absurd (omega arith)
fits_none (suc (suc (suc zero))) len h = absurd (omega arith)
fits_none (suc (suc (suc (suc zero)))) len h = absurd (omega arith)
fits_none (suc (suc (suc (suc (suc zero))))) len h = absurd (omega arith)
fits_none (suc (suc (suc (suc (suc (suc zero)))))) len h = absurd (omega arith)
fits_none (suc (suc (suc (suc (suc (suc (suc zero))))))) len h = absurd (omega arith)
fits_none (suc (suc (suc (suc (suc (suc (suc (suc k)))))))) len h = refl

-- a record that reads as a lock, and one of the kind of a half
pub lock_record_lem : (kind : ℕ) (r : List ℕ) (m k : ℕ) → decode_as kind r ≡ Aenc m k → (kind ≡ 7) × (number_at r 3 ≡ k)
unfolding decode_as
lock_record_lem kind r m k p = go kind p
  where
    never : ◌≡◌ {A = ℕ} 0 1 → ⊥
    never z = omega arith

    go : (n : ℕ) → decode_as n r ≡ Aenc m k → (n ≡ 7) × (number_at r 3 ≡ k)
    go zero q = absurd (never (cc))
    go (suc zero) q = absurd (never (cc))
    go (suc (suc zero)) q = absurd (never (cc))
    go (suc (suc (suc zero))) q = absurd (never (cc))
    go (suc (suc (suc (suc zero)))) q = absurd (never (cc))
    go (suc (suc (suc (suc (suc zero))))) q = absurd (never (cc))
    go (suc (suc (suc (suc (suc (suc zero)))))) q = absurd (never (cc))
    go (suc (suc (suc (suc (suc (suc (suc zero))))))) q = (refl, cc)
    go (suc (suc (suc (suc (suc (suc (suc (suc n)))))))) q = absurd (never (cc))

pub half_record_lem : (r : List ℕ) → (kind_of r ≡ 5) ⊎ (kind_of r ≡ 6) → (x : Side) × (a : ℕ) × (decode r ≡ Half x a)
unfolding decode_as
half_record_lem r (inl p) = (private, number_at r 1, ap (λ (k : ℕ). decode_as k r) p)
half_record_lem r (inr p) = (public, number_at r 1, ap (λ (k : ℕ). decode_as k r) p)
