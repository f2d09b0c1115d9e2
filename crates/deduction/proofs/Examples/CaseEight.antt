-- Case 8 of the flight card: a key does not open an encryption that stands only inside a known sum.
-- Defined: `sheet`, different atoms m and k, then the encryption of m under k, then the sum of that encryption and m.
-- Shown: from the sum and k, m is not derivable. What is kept: a code has the place of m exactly when it has that of the encryption.
-- Assumes nothing.
use mathlib.Core.Path.{◌≡◌, sym, ap, ap₂, ◌∙◌, subst}
use mathlib.Core.Bool.{xor}
use mathlib.Core.Logic.{⊎_elim}
use mathlib.Core.List.Memᴰ
use mathlib.Core.List.{[], ◌∷◌, map, Memᴰ}
use Prim.Native.Nat.{ℕ, zero, suc, ◌<◌}
use native.Mathlib.Omega.{arith}
use lib.Bits.{bit_xor, xor_zero_r}
use lib.ListN.{get_or}
use Rattle.bitset.specs.Set.{member}
use Rattle.bitset.proofs.Laws.Member.{member_empty, member_sum}
use Rattle.deduction.specs.Term.{Term, 𝟎, ◌⊕◌, sum_of}
use Rattle.deduction.specs.Setting.{every}
use Rattle.deduction.specs.Entry.{Entry, Zero, Atom, Enc, Sum, build, term_at, parts, Downward}
use Rattle.deduction.specs.Derivation.{Derivable}
use Rattle.deduction.proofs.Coding.{bit, bit_own, bit_only, bit_other, place, place_same, code, code_zero, code_atom, code_enc, code_sum}
use Rattle.deduction.proofs.Terms.{term_at_build}
use Rattle.deduction.proofs.Exactness.{kept_underivable}
use Rattle.deduction.proofs.Exactness.Invariant.{Kept}

abbrev pub sheet : ℕ → ℕ → ℕ → Entry
sheet m k i = get_or (Atom m ∷ Atom k ∷ Enc 0 1 ∷ Sum (2 ∷ 0 ∷ []) ∷ []) i Zero

sheet_down : (m k : ℕ) → Downward (sheet m k) 4
unfolding parts
sheet_down m k zero j h r = absurd (Memᴰ.not-nil r)
sheet_down m k (suc zero) j h r = absurd (Memᴰ.not-nil r)
sheet_down m k (suc (suc zero)) j h r = ⊎_elim (λ q. omega arith) (λ s. omega (arith, Memᴰ.eq_of_singleton s)) (Memᴰ.cases_cons r)
sheet_down m k (suc (suc (suc zero))) j h r = ⊎_elim (λ q. omega arith) (λ s. omega (arith, Memᴰ.eq_of_singleton s)) (Memᴰ.cases_cons r)
sheet_down m k (suc (suc (suc (suc i)))) j h r = absurd (omega arith)

module _ (m k : ℕ) (apart : m ≡ k → ⊥) where
  abbrev t : ℕ → Term
  t = term_at (sheet m k)

  -- the place of m, and the place of the encryption
  abbrev p : ℕ
  p = place 0 m 0

  abbrev q : ℕ
  q = place 2 (code (t 0)) (code (t 1))

  abbrev Both : ℕ → Type 0
  Both v = member v p ≡ member v q

  p_not_q : p ≡ q → ⊥
  p_not_q h = omega (arith, (place_same _ _ _ _ _ _ h).0)

  code_0 : code (t 0) ≡ bit p
  unfolding build
  code_0 = ap code (term_at_build (sheet m k) 4 (sheet_down m k) 0 (omega arith)) ∙ code_atom m

  code_1 : code (t 1) ≡ bit (place 0 k 0)
  unfolding build
  code_1 = ap code (term_at_build (sheet m k) 4 (sheet_down m k) 1 (omega arith)) ∙ code_atom k

  code_2 : code (t 2) ≡ bit q
  unfolding build
  code_2 = ap code (term_at_build (sheet m k) 4 (sheet_down m k) 2 (omega arith)) ∙ code_enc (t 0) (t 1)

  code_3 : code (t 3) ≡ bit_xor (bit q) (bit p)
  unfolding build sum_of
  code_3 = ap code (term_at_build (sheet m k) 4 (sheet_down m k) 3 (omega arith)) ∙ code_sum (t 2) (t 0 ⊕ 𝟎)
      ∙ ap₂ bit_xor code_2 (code_sum (t 0) 𝟎 ∙ ap₂ bit_xor code_0 code_zero ∙ xor_zero_r (bit p))

  both_1 : Both (code (t 1))
  both_1 = subst Both (sym code_1) (bit_other _ p (λ h. apart (sym (place_same _ _ _ _ _ _ h).1)) ∙ sym (bit_other _ q (λ h. omega (arith, (place_same _ _ _ _ _ _ h).0))))

  both_3 : Both (code (t 3))
  unfolding xor
  both_3 = subst Both (sym code_3) (member_sum (bit q) (bit p) p ∙ ap₂ xor (bit_other q p (λ h. p_not_q (sym h))) (bit_own p)
      ∙ sym (member_sum (bit q) (bit p) q ∙ ap₂ xor (bit_own q) (bit_other p q p_not_q)))

  -- the encryption alone and m alone lack it
  not_enc : ¬ Both (bit q)
  not_enc h = p_not_q (sym (bit_only q p (h ∙ bit_own q)))

  not_0 : ¬ Both (code (t 0))
  not_0 h = p_not_q (bit_only p q (sym (subst Both code_0 h) ∙ bit_own p))

  kept : (i : ℕ) → i < 4 → Kept t Both (sheet m k i)
  kept zero h = tt
  kept (suc zero) h = tt
  kept (suc (suc zero)) h = (λ b c. absurd (not_enc b), λ b c. absurd (not_0 b))
  kept (suc (suc (suc zero))) h = tt
  kept (suc (suc (suc (suc i)))) h = absurd (omega arith)

  pub message_underivable : ¬ Derivable every (map (term_at (sheet m k)) (3 ∷ 1 ∷ [])) (term_at (sheet m k) 0)
  message_underivable =
      kept_underivable every (sheet m k) 4 (sheet_down m k) Both (member_empty p ∙ sym (member_empty q))
      (λ v w a b. member_sum v w p ∙ ap₂ xor a b ∙ sym (member_sum v w q)) kept (3 ∷ 1 ∷ []) start 0 (omega arith) not_0
    where
      Good : ℕ → Type 0
      Good i = (i < 4) × Both (code (t i))

      start : (i : ℕ) → Memᴰ i (3 ∷ 1 ∷ []) → Good i
      start i r =
          ⊎_elim (λ e. subst Good (sym e) (omega arith, both_3)) (λ s. subst Good (sym (Memᴰ.eq_of_singleton s)) (omega arith, both_1))
          (Memᴰ.cases_cons r)

-- the card's own case, with atoms 1 and 2
pub case_8 : ¬ Derivable every (map (term_at (sheet 1 2)) (3 ∷ 1 ∷ [])) (term_at (sheet 1 2) 0)
case_8 = message_underivable 1 2 (omega arith)
