-- Terms, and equality modulo exclusive or (document 01: sameness).
-- Defined: `Side` and `opposite`, the two halves of a key pair; `Term`; `sum_of`, the sum of a list; `◌≈◌`, the smallest congruence with the four laws
-- of source 003, section 2.1.
use Rattle.std.specs.Prelude.{ℕ, List, [], ◌∷◌}

infixr 60 ◌⊕◌
infix 40 ◌≈◌
-- document 02, E6: "the private half and .. the public half of the key pair", and of a half the opposite one, of the same pair
pub data Side : Type 0 where
  private public : Side

unfoldable pub opposite : Side → Side
opposite private = public
opposite public = private

-- "Kinds: 0 zero; 1 atom; 2 pair (left, right); 3 seal (message, key; the key may be any term); 4 sum". The sum is binary here. Document 02, E6:
-- "Kind 5 is the private half and kind 6 the public half of the key pair with the .. number that follows"; "Kind 7 is a lock: message .., then key"
pub data Term : Type 0 where
  𝟎 : Term
  atom : ℕ → Term
  pair : Term → Term → Term
  enc : Term → Term → Term
  half : Side → ℕ → Term
  aenc : Term → Term → Term
  ◌⊕◌ : Term → Term → Term

-- "the sum of no terms is zero, .. the sum of one term is that term, and more are summed one after the other"
unfoldable pub sum_of : List Term → Term
sum_of [] = 𝟎
sum_of (t ∷ ts) = t ⊕ sum_of ts

-- "Sameness is the smallest relation that contains the four laws, is kept inside pairs, seals and sums, and is reflexive, symmetric and
-- transitive"; "sameness is kept inside locks too"
pub data ◌≈◌ : Term → Term → Type 0 where
  -- source 003, section 2.1: t1 ⊕ (t2 ⊕ t3) ≅ (t1 ⊕ t2) ⊕ t3, t1 ⊕ t2 ≅ t2 ⊕ t1, t ⊕ 0 ≅ t, t ⊕ t ≅ 0
  assoc : {a b c : Term} → a ⊕ (b ⊕ c) ≈ (a ⊕ b) ⊕ c
  comm : {a b : Term} → a ⊕ b ≈ b ⊕ a
  unit : {t : Term} → t ⊕ 𝟎 ≈ t
  self : {t : Term} → t ⊕ t ≈ 𝟎
  -- kept inside pairs, encryptions of both sorts and sums
  in_pair : {a a' b b' : Term} → a ≈ a' → b ≈ b' → pair a b ≈ pair a' b'
  in_enc : {m m' k k' : Term} → m ≈ m' → k ≈ k' → enc m k ≈ enc m' k'
  in_aenc : {m m' k k' : Term} → m ≈ m' → k ≈ k' → aenc m k ≈ aenc m' k'
  in_sum : {a a' b b' : Term} → a ≈ a' → b ≈ b' → a ⊕ b ≈ a' ⊕ b'
  -- reflexive, symmetric, transitive
  same : {t : Term} → t ≈ t
  flip : {a b : Term} → a ≈ b → b ≈ a
  then : {a b c : Term} → a ≈ b → b ≈ c → a ≈ c
