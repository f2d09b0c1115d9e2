-- A half of the intruder's own beside a start: it helps, even where no entry is that half.
-- Shown: a lock whose opposite half no entry is stays shut (`shut_underivable`), and that half beside the start opens it (`half_helps`). So `fresh_underivable` is about atoms
-- alone. What is kept: a code lacks the place of the message and that of the half. Assumes nothing.
use mathlib.Core.Path.{◌≡◌, refl, sym, ap, ap₂, ◌∙◌, subst}
use mathlib.Core.Bool.{false, true≢false, xor}
use mathlib.Core.Logic.{inl, inr}
use mathlib.Core.List.Memᴰ
use mathlib.Core.List.{[], ◌∷◌, map, Memᴰ}
use Prim.Native.Nat.{ℕ, zero, suc, ◌<◌}
use native.Mathlib.Omega.{arith}
use lib.ListN.{get_or}
use Rattle.bitset.specs.Set.{member}
use Rattle.bitset.proofs.Laws.Member.{member_empty, member_sum}
use Rattle.deduction.specs.Term.{Side, private, public, opposite, Term, atom, half, aenc, ◌≈◌, same}
use Rattle.deduction.specs.Setting.{every}
use Rattle.deduction.specs.Entry.{Entry, Zero, Atom, Half, Aenc, build, term_at, parts, Downward}
use Rattle.deduction.specs.Derivation.{Derivable, begin, adecrypt}
use Rattle.deduction.proofs.Coding.{bit, bit_own, bit_other, bit_same, place, place_same, half_place, side_same, code, code_atom, code_half, code_aenc}
use Rattle.deduction.proofs.Terms.{term_at_build}
use Rattle.deduction.proofs.Exactness.{kept_underivable}
use Rattle.deduction.proofs.Exactness.Invariant.{Kept}
use Rattle.deduction.proofs.Examples.Own.{NoHelp}

-- atom 1, the public half of pair 7, and the atom locked under it; the lock is at the start, and the private half is no entry
abbrev shut : ℕ → Entry
shut i = get_or (Atom 1 ∷ Half public 7 ∷ Aenc 0 1 ∷ []) i Zero

shut_down : Downward shut 3
unfolding parts
shut_down zero j h r = absurd (Memᴰ.not-nil r)
shut_down (suc zero) j h r = absurd (Memᴰ.not-nil r)
shut_down (suc (suc zero)) j h r = below r
  where
    below : Memᴰ j (0 ∷ 1 ∷ []) → j < 2
    below m = elim (Memᴰ.cases_cons m) [ inl p ↦ omega (arith, p) | inr q ↦ omega (arith, Memᴰ.eq_of_singleton q) ]
shut_down (suc (suc (suc i))) j h r = absurd (omega arith)

shut_0 : term_at shut 0 ≡ atom 1
unfolding build
shut_0 = term_at_build shut 3 shut_down 0 (omega arith)

shut_1 : term_at shut 1 ≡ half public 7
unfolding build
shut_1 = term_at_build shut 3 shut_down 1 (omega arith)

shut_2 : term_at shut 2 ≡ aenc (atom 1) (half public 7)
unfolding build
shut_2 = term_at_build shut 3 shut_down 2 (omega arith) ∙ ap₂ aenc shut_0 shut_1

-- what is kept: a code has neither the place of the atom nor that of the private half
abbrev LacksAt : ℕ → ℕ → Type 0
LacksAt p v = member v p ≡ false

abbrev Lacks : ℕ → Type 0
Lacks v = LacksAt (place 0 1 0) v × LacksAt (half_place private 7) v

lacks_other : (k x y : ℕ) → ¬ (k ≡ 0) → ¬ (k ≡ 4) → Lacks (bit (place k x y))
lacks_other k x y n m = (bit_other _ _ (λ q. n (place_same _ _ _ _ _ _ q).0), bit_other _ _ (λ q. m (place_same _ _ _ _ _ _ q).0))

kept : (i : ℕ) → i < 3 → Kept (term_at shut) Lacks (shut i)
unfolding opposite
kept zero h = tt
kept (suc zero) h = tt
kept (suc (suc zero)) h = λ s a q. (
  λ p r. absurd (true≢false (sym (bit_own _) ∙ subst (λ (v : ℕ). LacksAt (half_place private 7) v) (opener s a q) r.1)),
  λ p r. lacks_other 6 _ _ (λ z. omega (arith, z)) (λ z. omega (arith, z)),
)
  where
    opener : (z : Side) (b : ℕ) → code (term_at shut 1) ≡ bit (half_place z b) → bit (half_place (opposite z) b) ≡ bit (half_place private 7)
    opener z b c =
        let same = place_same _ _ _ _ _ _ (bit_same _ _ (sym (ap code shut_1 ∙ code_half public 7) ∙ c)) in
        ap₂ (λ (y : Side) (d : ℕ). bit (half_place (opposite y) d)) (sym (side_same public z same.0)) (sym same.1)
kept (suc (suc (suc i))) h = absurd (omega arith)

shut_underivable : ¬ Derivable every (map (term_at shut) (2 ∷ [])) (term_at shut 0)
unfolding xor
shut_underivable =
    kept_underivable every shut 3 shut_down Lacks (member_empty _, member_empty _)
    (λ v w a b. (member_sum v w _ ∙ ap₂ xor a.0 b.0, member_sum v w _ ∙ ap₂ xor a.1 b.1)) kept (2 ∷ [])
    (λ i r. subst (λ (x : ℕ). (x < 3) × Lacks (code (term_at shut x))) (sym (Memᴰ.eq_of_singleton r)) (omega arith, lock)) 0 (omega arith) atom_has
  where
    lock : Lacks (code (term_at shut 2))
    lock = subst Lacks (sym (ap code shut_2 ∙ code_aenc (atom 1) (half public 7))) (lacks_other 6 _ _ (λ z. omega (arith, z)) (λ z. omega (arith, z)))

    atom_has : ¬ Lacks (code (term_at shut 0))
    atom_has h = true≢false (sym (bit_own _) ∙ subst (λ (v : ℕ). LacksAt (place 0 1 0) v) (ap code shut_0 ∙ code_atom 1) h.0)

-- a half that no entry is
pub half_helps : ¬ NoHelp shut 3 (2 ∷ []) (half private 7 ∷ [])
unfolding opposite
half_helps f =
    f 0 (omega arith) shut_underivable (
      _,
      adecrypt {m = atom 1} {s = public} {a = 7} refl begin (term_at shut 2, Memᴰ.head refl, subst (λ (u : Term). u ≈ aenc (atom 1) (half public 7)) (sym shut_2) same)
          (half private 7, Memᴰ.tail (Memᴰ.head refl), same),
      (atom 1, Memᴰ.head refl, subst (λ (u : Term). atom 1 ≈ u) (sym shut_0) same),
    )
