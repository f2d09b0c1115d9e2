-- The items of a sum, taken one by one.
-- Shown: one item more adds its set to the sum of the sets; the sum of no items is empty. Assumes nothing.
use mathlib.Core.Path.{◌≡◌, refl, sym, ap, ◌∙◌}
use mathlib.Core.List.{List, [], ◌∷◌, ◌++◌}
use Prim.Native.Nat.{ℕ, ◌+◌}
use native.Mathlib.Numerals.{add-one}
use lib.Bits.{bit_xor, xor_zero_l, xor_zero_r}
use Rattle.bitset.proofs.Laws.Member.{sum_assoc}
use Rattle.deduction.specs.Standard.{xor_all}
use Rattle.dag.specs.Sheet.{listed}

xor_all_last : (s : ℕ → ℕ) (js : List ℕ) (j : ℕ) → xor_all s (js ++ (j ∷ [])) ≡ bit_xor (xor_all s js) (s j)
unfolding xor_all
xor_all_last s [] j = xor_zero_r (s j) ∙ sym (xor_zero_l (s j))
xor_all_last s (i ∷ js) j = ap (bit_xor (s i)) (xor_all_last s js j) ∙ sym (sum_assoc (s i) (xor_all s js) (s j))

module _ (s f : ℕ → ℕ) where
  pub items_none : 0 ≡ xor_all s (listed f 0)
  unfolding xor_all listed
  items_none = refl

  pub items_more : (n : ℕ) → bit_xor (xor_all s (listed f n)) (s (f n)) ≡ xor_all s (listed f (n + 1))
  unfolding listed
  items_more n = sym (xor_all_last s (listed f n) (f n)) ∙ ap (λ (k : ℕ). xor_all s (listed f k)) (sym (add-one n))
