-- What happens to the leading entry of a set while rows are taken off.
-- Shown: a leading entry that is no row's pivot is never taken off, so that a set which is reduced to nothing, and isn't empty, has a
-- row's pivot as its leading entry. Assumes nothing.
use mathlib.Core.Path.{◌≡◌, refl, sym, ap, ap₂, ◌∙◌}
use mathlib.Core.Bool.{Bool, true, false, true≢false, xor}
use mathlib.Core.Logic.{by_cases, ◌⊎◌, inl, inr}
use mathlib.Core.List.Memᴰ
use mathlib.Core.List.{List, [], ◌∷◌, Memᴰ}
use Prim.Native.Nat.{ℕ, ◌≤◌}
use native.Mathlib.Nat.{le_trans, le_antisymm}
use native.Mathlib.Omega.{arith}
use native.Mathlib.Decide.{ℕ_discrete}
use lib.Bits.{bit_xor}
use Rattle.bitset.specs.Set.{member, leading}
use Rattle.bitset.proofs.Laws.Member.{member_empty, member_sum}
use Rattle.bitset.proofs.Laws.Leading.{leading_top, leading_member}
use Rattle.bitset.proofs.Laws.Sums.{member_part}
use Rattle.deduction.specs.Elimination.{Row, Reduced, take_off, reduce_from, reduce}
use Rattle.deduction.proofs.Elimination.Reduce.{pivot, off, take_off_cases}

-- p is the highest member of what is left
abbrev Top : ℕ → Reduced → Type 0
Top p x = (member x.remainder p ≡ true) × ((k : ℕ) → member x.remainder k ≡ true → k ≤ p)

top_stays : (p : ℕ) (x : Reduced) (r : Row) → ¬ (pivot r ≡ p) → Top p x → Top p (take_off x r)
unfolding xor
top_stays p x r other t = take_off_cases (Top p) x r taken (λ m. t)
  where
    taken : member x.remainder (pivot r) ≡ true → Top p (off x r)
    taken m = (member_sum x.remainder r.vector p ∙ ap₂ xor t.0 (above (member r.vector p) refl), highest)
      where
        lower : pivot r ≤ p
        lower = t.1 (pivot r) m

        above : (b : Bool) → member r.vector p ≡ b → b ≡ false
        above false q = refl
        above true q = absurd (other (le_antisymm lower (leading_top r.vector p q)))

        highest : (k : ℕ) → member (bit_xor x.remainder r.vector) k ≡ true → k ≤ p
        highest k q = either (member_part x.remainder r.vector k q)
          where
            either : (member x.remainder k ≡ true) ⊎ (member r.vector k ≡ true) → k ≤ p
            either (inl h) = t.1 k h
            either (inr h) = le_trans (leading_top r.vector k h) lower

tops_stay : (p : ℕ) (x : Reduced) (rows : List Row) → ((r : Row) → Memᴰ r rows → ¬ (pivot r ≡ p)) → Top p x → Top p (reduce_from x rows)
unfolding reduce_from
tops_stay p x [] other t = t
tops_stay p x (r ∷ rows) other t = tops_stay p (take_off x r) rows (λ q m. other q (Memᴰ.tail m)) (top_stays p x r (other r (Memᴰ.head refl)) t)

-- is p the pivot of a row?
find_pivot : (p : ℕ) (rows : List Row) → ((r : Row) × Memᴰ r rows × (pivot r ≡ p)) ⊎ ((r : Row) → Memᴰ r rows → ¬ (pivot r ≡ p))
find_pivot p [] = inr (λ r m. absurd (Memᴰ.not-nil m))
find_pivot p (r ∷ rows) = by_cases (ℕ_discrete (pivot r) p) (λ h. inl (r, Memᴰ.head refl, h)) (λ h. later h (find_pivot p rows))
  where
    later : ¬ (pivot r ≡ p) → ((q : Row) × Memᴰ q rows × (pivot q ≡ p)) ⊎ ((q : Row) → Memᴰ q rows → ¬ (pivot q ≡ p))
        → ((q : Row) × Memᴰ q (r ∷ rows) × (pivot q ≡ p)) ⊎ ((q : Row) → Memᴰ q (r ∷ rows) → ¬ (pivot q ≡ p))
    later h (inl f) = inl (f.0, Memᴰ.tail f.1, f.2)
    later h (inr f) = inr (λ q m. elim (Memᴰ.cases_cons m) [ inl i ↦ λ k. h (ap pivot (sym i) ∙ k) | inr i ↦ f q i ])

-- a set that isn't empty and is reduced to nothing has a pivot as its leading entry
pub leading_pivot : (rows : List Row) (v : ℕ) → ¬ (v ≡ 0) → (reduce rows v).remainder ≡ 0 → (r : Row) × Memᴰ r rows × (pivot r ≡ leading v)
unfolding reduce
leading_pivot rows v some zero_left = go (find_pivot (leading v) rows)
  where
    go : ((r : Row) × Memᴰ r rows × (pivot r ≡ leading v)) ⊎ ((r : Row) → Memᴰ r rows → ¬ (pivot r ≡ leading v))
        → (r : Row) × Memᴰ r rows × (pivot r ≡ leading v)
    go (inl h) = h
    go (inr h) =
        let t : Top (leading v) (reduce rows v) = tops_stay (leading v) (record { remainder = v; used = 0 }) rows h (leading_member v (omega arith), λ k m. leading_top v k m) in
        absurd (true≢false (sym t.0 ∙ ap (λ (z : ℕ). member z (leading v)) zero_left ∙ member_empty (leading v)))
