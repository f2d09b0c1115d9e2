-- What a reader may conclude of halves and locks (document 02, E6).
-- Shown: `private_length`, `public_length`, `lock_length`, `no_length`, the lengths of the kinds from 5 on; `half_read`, `lock_read`, each number below
-- 2 ^ 16 has a record that reads as its half, and each two a record that reads as their lock; `same_halves`, on a good sheet two halves have the same
-- representative exactly when side and number are equal; `lock_step_right`, `lock_step_follows`, there rule 8 asks for the lock of its two sources and
-- for nothing else; `twelve_exactly`, row 12 holds of a lock whose key entry is not itself a half, and of nothing
-- else; `wrong_half_refused`, a sheet with such a lock in its first faulty entry is refused with 12, whatever comes after that entry;
-- `forward_lock_refused`, 6 comes before 12 in one record; `closed_sheets`, five sheets and their refusals. Assumes nothing.
use mathlib.Core.Path.{◌≡◌, refl, sym, ap, ap₂, ◌∙◌, subst}
use mathlib.Core.Bool.{true, false}
use mathlib.Core.List.{List, [], ◌∷◌, ◌++◌}
use mathlib.Core.Logic.{◌⊎◌, inl, inr, ⊎_elim, by_cases, ◌↔◌}
use Prim.Native.Nat.{ℕ, zero, suc, ◌/◌, ◌%◌, ◌^◌, ◌≤◌, ◌<◌}
use native.Mathlib.Decide.{ℕ_discrete, dec_lt}
use native.Mathlib.Omega.{arith}
use borrow.Author.Tests.{eqb-true, eq-eqb, ne_eqb}
use lib.ListN.{length, get_or}
use Rattle.deduction.specs.Term.{Side, private, public, Term, half, aenc, ◌≈◌, same}
use Rattle.deduction.specs.Entry.{Half, Aenc, term_at, parts}
use Rattle.deduction.specs.Standard.{half_kind, rep_at}
use Rattle.deduction.specs.Step.{step, Known, Open, Follows}
use Rattle.deduction.specs.Replay.{Used, Right}
use Rattle.deduction.proofs.Distinct.{half_same}
use Rattle.deduction.proofs.Standard.{rep_equal}
use Rattle.deduction.proofs.Steps.Head.{half_term}
use Rattle.deduction.proofs.Steps.Opener.{lock_right, lock_follows}
use Rattle.dag.specs.Sheet.{number_at, letters, count_of, begin_at, record_at, listed}
use Rattle.dag.specs.Record.{kind_of, fits, atom_of, decode_as, entry_at}
use Rattle.dag.specs.Refusal.{when, or_else, first, equal, any_from, no_sheet, bad_count, short_list, bad_pair, bad_pairs, bad_record, kind_at, wrong_half, bad_record_at, bad_records, not_listed, refusal}
use Rattle.dag.proofs.Laws.Refusal.{or_no, or_else_here, or_else_next, first_found, all_none}
use Rattle.dag.proofs.Laws.Sheet.{two_bytes, three_bytes}
use Rattle.dag.proofs.Laws.Record.{half_test, fits_none}
use Rattle.dag.proofs.Laws.Parts.{record_first, record_second, record_good, wrong_other, wrong_none, wrong_found, fault_before, fault_half}
use Rattle.dag.proofs.Laws.Good.{good}
use Rattle.dag.proofs.Atoms.{Reads}

-- kinds 5 and 6 have length 3 and no other, kind 7 has length 5 and no other, and "Refusal 5 now starts at kind 8"
pub private_length : (len : ℕ) → (fits 5 len ≡ true) ↔ (len ≡ 3)
unfolding fits
private_length len = (λ p. eqb-true len 3 p, λ p. eq-eqb len 3 p)

pub public_length : (len : ℕ) → (fits 6 len ≡ true) ↔ (len ≡ 3)
unfolding fits
public_length len = (λ p. eqb-true len 3 p, λ p. eq-eqb len 3 p)

pub lock_length : (len : ℕ) → (fits 7 len ≡ true) ↔ (len ≡ 5)
unfolding fits
lock_length len = (λ p. eqb-true len 5 p, λ p. eq-eqb len 5 p)

pub no_length : (kind len : ℕ) → 8 ≤ kind → fits kind len ≡ false
no_length kind len h = sym (fits_none kind len h)

-- "the key pair with the 2-byte number that follows"; "Kind 7 is a lock: message entry, then key entry"
abbrev pub half_record : Side → ℕ → List ℕ
half_record x a = half_kind x ∷ a / 256 ∷ a % 256 ∷ []

abbrev pub lock_record : ℕ → ℕ → List ℕ
lock_record m k = 7 ∷ m / 256 ∷ m % 256 ∷ k / 256 ∷ k % 256 ∷ []

pub half_read : (x : Side) (a : ℕ) → a < 2 ^ 16 → Reads (half_record x a) (Half x a)
unfolding fits decode_as number_at half_kind
half_read private a h = record { bytes = three_bytes 5 a (omega arith) h; fitting = refl; entry = ap (Half private) (two_bytes a) }
half_read public a h = record { bytes = three_bytes 6 a (omega arith) h; fitting = refl; entry = ap (Half public) (two_bytes a) }

pub lock_read : (m k : ℕ) → m < 2 ^ 16 → k < 2 ^ 16 → Reads (lock_record m k) (Aenc m k)
unfolding fits decode_as number_at
lock_read m k h l = record { bytes = small; fitting = refl; entry = ap₂ Aenc (two_bytes m) (two_bytes k) }
  where
    small : (j : ℕ) → get_or (lock_record m k) j 0 < 256
    small zero = omega arith
    small (suc zero) = omega (arith, h)
    small (suc (suc zero)) = omega arith
    small (suc (suc (suc zero))) = omega (arith, l)
    small (suc (suc (suc (suc zero)))) = omega arith
    small (suc (suc (suc (suc (suc j))))) = omega arith

module _ (s : List ℕ) (ok : refusal s ≡ 0) where
  term_half : (i : ℕ) (x : Side) (a : ℕ) → i < count_of s → entry_at s i ≡ Half x a → term_at (entry_at s) i ≡ half x a
  term_half = half_term (entry_at s) (count_of s) (good s ok).downward

  -- two halves of a good sheet have the same representative exactly when they are one half of one pair
  pub same_halves : (i j : ℕ) (x y : Side) (a b : ℕ) → i < count_of s → j < count_of s → entry_at s i ≡ Half x a → entry_at s j ≡ Half y b
      → (rep_at (entry_at s) i ≡ rep_at (entry_at s) j) ↔ ((x ≡ y) × (a ≡ b))
  same_halves i j x y a b hi hj pi pj =
      let alike = rep_equal (entry_at s) (count_of s) (good s ok).downward i j hi hj in (
        λ p. half_same x y a b (subst (λ (t : Term). t ≈ half y b) (term_half i x a hi pi) (subst (λ (t : Term). term_at (entry_at s) i ≈ t) (term_half j y b hj pj) (alike.0 p))),
        λ p. alike.1 (subst (λ (t : Term). term_at (entry_at s) i ≈ t) (term_half i x a hi pi ∙ ap₂ half p.0 p.1 ∙ sym (term_half j y b hj pj)) same),
      )

  -- "for rule 8 the gained head is the lock of the first under the second": on a good sheet a step by rule 8 is right, and follows, by this alone. That
  -- the second is a half needn't be asked
  pub lock_step_right : {g : List Term} {h i j : ℕ} → h < count_of s → Used (term_at (entry_at s)) (count_of s) g i → Used (term_at (entry_at s)) (count_of s) g j
      → term_at (entry_at s) h ≈ aenc (term_at (entry_at s) i) (term_at (entry_at s) j) → Right (term_at (entry_at s)) (count_of s) g (step h 8 i j 0)
  lock_step_right = lock_right (entry_at s) (count_of s) (good s ok).downward (good s ok).halves

  pub lock_step_follows : {es : List ℕ} {h i j : ℕ} → Open (term_at (entry_at s)) (count_of s) es h → Known (term_at (entry_at s)) (count_of s) es i
      → Known (term_at (entry_at s)) (count_of s) es j → term_at (entry_at s) h ≈ aenc (term_at (entry_at s) i) (term_at (entry_at s) j)
      → Follows (term_at (entry_at s)) (count_of s) es (step h 8 i j 0)
  lock_step_follows = lock_follows (entry_at s) (count_of s) (good s ok).downward (good s ok).halves

-- 12 "when a lock's key entry is not itself of kind 5 or 6", and only then
pub twelve_exactly : (s r : List ℕ) → (wrong_half s r ≡ 12) ↔ ((kind_of r ≡ 7) × (kind_at s (number_at r 3) ≡ 5 → ⊥) × (kind_at s (number_at r 3) ≡ 6 → ⊥))
twelve_exactly s r = (
  λ w. (by_cases (ℕ_discrete (kind_of r) 7) (λ p. p) (λ n. absurd (omega (arith, w, wrong_other s r n))), λ p. halved w (inl p), λ p. halved w (inr p)),
  λ p. sym (wrong_found s r p.0 (or_no (ne_eqb (kind_at s (number_at r 3)) 5 p.1) (ne_eqb (kind_at s (number_at r 3)) 6 p.2))),
)
  where
    halved : wrong_half s r ≡ 12 → (kind_at s (number_at r 3) ≡ 5) ⊎ (kind_at s (number_at r 3) ≡ 6) → ⊥
    halved w p = omega (arith, w, wrong_none s r (half_test (kind_at s (number_at r 3)) p))

-- rows 1 to 4 let the sheet pass, and rows 5, 6 and 12 each entry before i. Nothing is said of the entries after i, nor of the heard numbers
pub record PassedBefore (s : List ℕ) (i : ℕ) : Type 0 where
  pub sheet : no_sheet s ≡ 0
  pub counts : bad_count s ≡ 0
  pub lists : short_list s ≡ 0
  pub pairs : bad_pairs s ≡ 0
  pub within : i < count_of s
  pub earlier : (j : ℕ) → j < i → bad_record_at s j ≡ 0

-- the sheet is then refused with the fault of entry i
entry_refused : (s : List ℕ) (i k : ℕ) → PassedBefore s i → suc k ≡ bad_record_at s i → refusal s ≡ suc k
unfolding refusal bad_records
entry_refused s i k before p =
    sym
    (or_else_next refl before.sheet
    (or_else_next refl before.counts
    (or_else_next refl before.lists
    (or_else_next refl before.pairs (or_else_here _ (p ∙ first_found (bad_record_at s) i (count_of s) before.within (all_none (bad_record_at s) i before.earlier) some) (λ z. omega (arith, z)))))))
  where
    some : bad_record_at s i ≡ 0 → ⊥
    some z = omega (arith, p, z)

-- entry i is a lock
module _ (s : List ℕ) (i : ℕ) (before : PassedBefore s i) (kind : kind_at s i ≡ 7) (long : length (record_at s i) ≡ 5) where
  lock_fits : fits (kind_of (record_at s i)) (length (record_at s i)) ≡ true
  unfolding fits
  lock_fits = ap₂ fits kind long

  -- with both entry numbers below its own and a key entry of another kind: 12, whatever the entries after i and the heard numbers are
  pub wrong_half_refused : number_at (record_at s i) 1 < i → number_at (record_at s i) 3 < i
      → (kind_at s (number_at (record_at s i) 3) ≡ 5 → ⊥) → (kind_at s (number_at (record_at s i) 3) ≡ 6 → ⊥) → refusal s ≡ 12
  wrong_half_refused m k a b =
      let r = record_at s i in
      entry_refused s i 11 before (fault_half s i (record_good i r lock_fits (inr (inr kind)) m k) refl (sym ((twelve_exactly s r).1 (kind, a, b))))

  -- "checked after 6 in the same record": with an entry number that is not below its own 6, whatever its key entry is
  pub forward_lock_refused : (i ≤ number_at (record_at s i) 1) ⊎ (i ≤ number_at (record_at s i) 3) → refusal s ≡ 6
  forward_lock_refused p = entry_refused s i 5 before (fault_before s i six (λ z. omega (arith, z)))
    where
      six : 6 ≡ bad_record i (record_at s i)
      six =
          by_cases (dec_lt (number_at (record_at s i) 1) i)
          (λ l. record_second i (record_at s i) lock_fits (inr (inr kind)) l (⊎_elim (λ q. omega (arith, q, l)) (λ q. q) p))
          (λ n. record_first i (record_at s i) lock_fits (inr (inr kind)) (omega (arith, n)))

-- closed sheets of three entries, with entry 0 for goal and one heard number
abbrev pub opening : List ℕ
opening = letters ++ (0 ∷ 3 ∷ 0 ∷ 1 ∷ 0 ∷ 0 ∷ [])

-- records of 3, 3 and 5 bytes, and entry 2 heard
abbrev pub sheet_of : List ℕ → List ℕ → List ℕ → List ℕ
sheet_of a b c = opening ++ (0 ∷ 24 ∷ 0 ∷ 3 ∷ 0 ∷ 27 ∷ 0 ∷ 3 ∷ 0 ∷ 30 ∷ 0 ∷ 5 ∷ 0 ∷ 2 ∷ []) ++ a ++ b ++ c

-- both halves of pair 7, and the private one locked under the public one
abbrev pub locked : List ℕ
locked = sheet_of (5 ∷ 0 ∷ 7 ∷ []) (6 ∷ 0 ∷ 7 ∷ []) (7 ∷ 0 ∷ 0 ∷ 0 ∷ 1 ∷ [])

-- the same with the sum of the private half alone for the key: the same term as a half, and not itself one
abbrev pub sum_for_key : List ℕ
sum_for_key = sheet_of (5 ∷ 0 ∷ 7 ∷ []) (4 ∷ 0 ∷ 0 ∷ []) (7 ∷ 0 ∷ 0 ∷ 0 ∷ 1 ∷ [])

-- a lock whose message is entry 3 and whose key is an atom
abbrev pub forward_message : List ℕ
forward_message = sheet_of (5 ∷ 0 ∷ 7 ∷ []) (1 ∷ 0 ∷ 7 ∷ []) (7 ∷ 0 ∷ 3 ∷ 0 ∷ 1 ∷ [])

-- a record of kind 8
abbrev pub kind_eight : List ℕ
kind_eight = sheet_of (5 ∷ 0 ∷ 7 ∷ []) (8 ∷ 0 ∷ 7 ∷ []) (7 ∷ 0 ∷ 0 ∷ 0 ∷ 1 ∷ [])

-- an atom for the key of entry 1, kind 8 in entry 2, and entry 9 heard
abbrev pub eight_behind : List ℕ
eight_behind =
    opening ++ (0 ∷ 24 ∷ 0 ∷ 3 ∷ 0 ∷ 27 ∷ 0 ∷ 5 ∷ 0 ∷ 32 ∷ 0 ∷ 3 ∷ 0 ∷ 9 ∷ []) ++ (1 ∷ 0 ∷ 7 ∷ []) ++ (7 ∷ 0 ∷ 0 ∷ 0 ∷ 0 ∷ []) ++ (8 ∷ 0 ∷ 7 ∷ [])

pub closed_sheets : (refusal locked ≡ 0) × (refusal sum_for_key ≡ 12) × (refusal forward_message ≡ 6) × (refusal kind_eight ≡ 5) × (refusal eight_behind ≡ 12)
unfolding refusal no_sheet bad_count short_list bad_pair bad_pairs bad_record wrong_half bad_record_at bad_records not_listed when or_else first equal any_from fits parts decode_as atom_of number_at listed begin_at
closed_sheets = (refl, refl, refl, refl, refl)
