-- The sets of a sheet's entries.
-- Shown: the list `sets e n` has n items, and item j is `set_at e j`; where the entries refer downwards, the set of an entry is built from
-- the sets of the entries before it; induction over entries that refer downwards. Assumes nothing.
use mathlib.Core.Path.{◌≡◌, refl, ap, ap₂, ◌∙◌}
use mathlib.Core.Bool.{Bool, true, false, cond}
use mathlib.Core.Logic.{by_cases}
use mathlib.Core.List.{List, [], ◌∷◌, Memᴰ}
use Prim.Native.Nat.{ℕ, zero, suc, ◌^◌, ◌<◌}
use native.Mathlib.Nat.{not-suc-le-zero}
use native.Mathlib.Decide.{dec_lt}
use native.Mathlib.Omega.{arith}
use lib.Bits.{bit_xor}
use lib.Dec.{ltb}
use lib.ListN.{length, get_or, length-append, get_or-append}
use lib.Seq.{get_or_at}
use borrow.Author.Tests.{ltb-true}
use Rattle.deduction.specs.Entry.{Entry, Zero, Atom, Pair, Enc, Sum, Half, Aenc, parts, Downward}
use Rattle.deduction.specs.Standard.{shape, alike, xor_all, first_alike, standard_set, build_set, sets, set_at}
use Rattle.deduction.proofs.Standard.Least.{least_same}

pub sets_length : (e : ℕ → Entry) (n : ℕ) → length (sets e n) ≡ n
unfolding sets set_at
sets_length e zero = refl
sets_length e (suc n) = length-append (sets e n) (set_at e n ∷ []) ∙ omega (arith, sets_length e n)

pub sets_at : (e : ℕ → Entry) (n j : ℕ) → j < n → get_or (sets e n) j 0 ≡ set_at e j
unfolding sets set_at
sets_at e zero j h = absurd (omega arith)
sets_at e (suc n) j h =
    by_cases (dec_lt j n) (λ q. get_or-append (sets e n) (set_at e n ∷ []) 0 j (omega (arith, sets_length e n)) ∙ sets_at e n j q)
    (λ q. let last : n ≡ j = omega arith in get_or_at (sets e n) (set_at e n) [] 0 j (sets_length e n ∙ last) ∙ ap (set_at e) last)

-- a shape depends on the sets of its parts alone
shape_same : (s s' : ℕ → ℕ) (d : Entry) → ((j : ℕ) → Memᴰ j (parts d) → s j ≡ s' j) → shape s d ≡ shape s' d
unfolding shape parts
shape_same s s' Zero h = refl
shape_same s s' (Atom a) h = refl
shape_same s s' (Pair l r) h = λ i. record { kind = 2; left = h l (Memᴰ.head refl) i; right = h r (Memᴰ.tail (Memᴰ.head refl)) i }
shape_same s s' (Enc m k) h = λ i. record { kind = 3; left = h m (Memᴰ.head refl) i; right = h k (Memᴰ.tail (Memᴰ.head refl)) i }
shape_same s s' (Sum items) h = refl
shape_same s s' (Half x a) h = refl
shape_same s s' (Aenc m k) h = λ i. record { kind = 7; left = h m (Memᴰ.head refl) i; right = h k (Memᴰ.tail (Memᴰ.head refl)) i }

pub xor_all_same : (s s' : ℕ → ℕ) (js : List ℕ) → ((j : ℕ) → Memᴰ j js → s j ≡ s' j) → xor_all s js ≡ xor_all s' js
unfolding xor_all
xor_all_same s s' [] h = refl
xor_all_same s s' (j ∷ js) h = ap₂ bit_xor (h j (Memᴰ.head refl)) (xor_all_same s s' js (λ i m. h i (Memᴰ.tail m)))

module _ (e : ℕ → Entry) (n : ℕ) (down : Downward e n) where
  module _ (s s' : ℕ → ℕ) (i : ℕ) (h : i < n) (agree : (j : ℕ) → j < i → s j ≡ s' j) where
    first_agrees : first_alike s e i ≡ first_alike s' e i
    unfolding first_alike
    first_agrees =
        least_same _ _ i
        (λ j l. ap₂ alike (shape_same s s' (e j) (λ k m. agree k (omega (arith, down j k (omega arith) m)))) (shape_same s s' (e i) (λ k m. agree k (down i k h m))))

    standard_agrees : standard_set s e i ≡ standard_set s' e i
    unfolding standard_set
    standard_agrees = ap (λ (f : ℕ). cond (ltb f i) (s f) (2 ^ i)) first_agrees ∙ go (first_alike s' e i) (ltb (first_alike s' e i) i) refl
      where
        go : (f : ℕ) (b : Bool) → ltb f i ≡ b → cond b (s f) (2 ^ i) ≡ cond b (s' f) (2 ^ i)
        go f true p = agree f (ltb-true f i p)
        go f false p = refl

    build_agrees : (d : Entry) → ((k : ℕ) → Memᴰ k (parts d) → k < i) → build_set s e i d ≡ build_set s' e i d
    unfolding build_set parts
    build_agrees Zero p = refl
    build_agrees (Atom a) p = standard_agrees
    build_agrees (Pair l r) p = standard_agrees
    build_agrees (Enc m k) p = standard_agrees
    build_agrees (Sum items) p = xor_all_same s s' items (λ j m. agree j (p j m))
    build_agrees (Half x a) p = standard_agrees
    build_agrees (Aenc m k) p = standard_agrees

  -- the set of an entry, from the sets of the entries before it
  pub set_at_build : (i : ℕ) → i < n → set_at e i ≡ build_set (set_at e) e i (e i)
  unfolding set_at
  set_at_build i h = build_agrees (λ j. get_or (sets e i) j 0) (set_at e) i h (λ j l. sets_at e i j l) (e i) (λ k m. down i k h m)

-- induction: what holds of an entry whenever it holds of all before it
pub before_ind : (P : ℕ → Type 0) → ((i : ℕ) → ((j : ℕ) → j < i → P j) → P i) → (i : ℕ) → P i
before_ind P step i = step i (λ j l. go i j l)
  where
    go : (m j : ℕ) → j < m → P j
    go zero j l = absurd (not-suc-le-zero l)
    go (suc m) j l = step j (λ k q. go m k (omega arith))
