-- Steps within the entries: what can be gained when every term of a derivation has to be the term of an entry.
-- Defined: `Reach`, the smallest set of entries with the start that is closed under the rules switched on and under sameness; `Closed`, such a set. The theorem
-- (proofs/Exactness.antt) is that this loses nothing: what any derivation holds of the entries, `Reach` has.
use Prim.Native.Nat.{ℕ, ◌<◌}
use mathlib.Core.Path.{◌≡◌}
use mathlib.Core.Bool.{true}
use mathlib.Core.List.{List, map, Memᴰ}
use Rattle.deduction.specs.Term.{Side, opposite, Term, pair, enc, half, aenc, sum_of, ◌≈◌}
use Rattle.deduction.specs.Setting.{Setting}

-- `G` is closed under the rules switched on, and under sameness, within the first n entries, whose terms are `t`
pub record Closed (on : Setting) (t : ℕ → Term) (n : ℕ) (G : ℕ → Type 0) : Type 0 where
  pub same : (i j : ℕ) → i < n → j < n → G j → t i ≈ t j → G i
  pub first : (i j : ℕ) (b : Term) → on 1 ≡ true → i < n → j < n → G i → t i ≈ pair (t j) b → G j
  pub second : (i j : ℕ) (a : Term) → on 2 ≡ true → i < n → j < n → G i → t i ≈ pair a (t j) → G j
  pub decrypt : (i j k : ℕ) → on 3 ≡ true → i < n → j < n → k < n → G i → G k → t i ≈ enc (t j) (t k) → G j
  pub join : (i j k : ℕ) → on 4 ≡ true → i < n → j < n → k < n → G j → G k → t i ≈ pair (t j) (t k) → G i
  pub encrypt : (i j k : ℕ) → on 5 ≡ true → i < n → j < n → k < n → G j → G k → t i ≈ enc (t j) (t k) → G i
  pub sum : (i : ℕ) (js : List ℕ) → on 6 ≡ true → i < n → ((j : ℕ) → Memᴰ j js → (j < n) × G j) → t i ≈ sum_of (map t js) → G i
  pub adecrypt : (i j k : ℕ) (s : Side) (a : ℕ) → on 7 ≡ true → i < n → j < n → k < n → G i → G k → t i ≈ aenc (t j) (half s a) → t k ≈ half (opposite s) a → G j
  pub aencrypt : (i j k : ℕ) (s : Side) (a : ℕ) → on 8 ≡ true → i < n → j < n → k < n → G j → G k → t i ≈ aenc (t j) (t k) → t k ≈ half s a → G i

-- the entries that steps within the first n entries reach from the start entries
pub data Reach (on : Setting) (t : ℕ → Term) (n : ℕ) (start : List ℕ) : ℕ → Type 0 where
  begin : {i : ℕ} → Memᴰ i start → Reach on t n start i
  same : {i j : ℕ} → i < n → j < n → Reach on t n start j → t i ≈ t j → Reach on t n start i
  first : {i j : ℕ} (b : Term) → on 1 ≡ true → i < n → j < n → Reach on t n start i → t i ≈ pair (t j) b → Reach on t n start j
  second : {i j : ℕ} (a : Term) → on 2 ≡ true → i < n → j < n → Reach on t n start i → t i ≈ pair a (t j) → Reach on t n start j
  decrypt : {i j k : ℕ} → on 3 ≡ true → i < n → j < n → k < n → Reach on t n start i → Reach on t n start k → t i ≈ enc (t j) (t k) → Reach on t n start j
  join : {i j k : ℕ} → on 4 ≡ true → i < n → j < n → k < n → Reach on t n start j → Reach on t n start k → t i ≈ pair (t j) (t k) → Reach on t n start i
  encrypt : {i j k : ℕ} → on 5 ≡ true → i < n → j < n → k < n → Reach on t n start j → Reach on t n start k → t i ≈ enc (t j) (t k) → Reach on t n start i
  sum : {i : ℕ} (js : List ℕ) → on 6 ≡ true → i < n → ((j : ℕ) → Memᴰ j js → j < n) → ((j : ℕ) → Memᴰ j js → Reach on t n start j) → t i ≈ sum_of (map t js) → Reach on t n start i
  adecrypt : {i j k : ℕ} (s : Side) (a : ℕ) → on 7 ≡ true → i < n → j < n → k < n → Reach on t n start i → Reach on t n start k → t i ≈ aenc (t j) (half s a) → t k ≈ half (opposite s) a → Reach on t n start j
  aencrypt : {i j k : ℕ} (s : Side) (a : ℕ) → on 8 ≡ true → i < n → j < n → k < n → Reach on t n start j → Reach on t n start k → t i ≈ aenc (t j) (t k) → t k ≈ half s a → Reach on t n start i
