-- Standard entries are linearly independent.
-- Shown: plain entries with one place have one shape; so a set of standard entries whose codes sum to nothing is empty, and two
-- such sets with one sum are equal. The proof goes up the entries: the parts of an entry come before it. Assumes nothing.
use mathlib.Core.Path.{◌≡◌, refl, sym, ap, ◌∙◌}
use mathlib.Core.Bool.{Bool, true, false, true≢false, cond}
use mathlib.Core.Logic.{inl, inr}
use mathlib.Core.List.{Memᴰ}
use Prim.Native.Nat.{ℕ, zero, suc, ◌-◌, ◌≤◌, ◌<◌}
use native.Mathlib.Nat.{not-suc-le-zero, le_refl, lt_of_lt_of_le}
use native.Mathlib.Omega.{arith}
use lib.Bits.{bit_xor, xor_self}
use Rattle.bitset.specs.Set.{member}
use Rattle.bitset.proofs.Laws.Sums.{member_part, sum_empty_same}
use Rattle.deduction.specs.Term.{private, public}
use Rattle.deduction.specs.Entry.{Entry, Zero, Atom, Pair, Enc, Sum, Half, Aenc, parts, Downward}
use Rattle.deduction.specs.Standard.{Shape, half_kind, shape, set_at, StandardSet}
use Rattle.deduction.proofs.Elimination.Spans.{xor_over}
use Rattle.deduction.proofs.Coding.{bit, place_same}
use Rattle.deduction.proofs.Elimination.Sums.{xor_over_sum}
use Rattle.deduction.proofs.Standard.First.{shape_at, first, Plain, first_same}
use Rattle.deduction.proofs.Standard.Members.{members_le, members_standard, standard_first}
use Rattle.deduction.proofs.Standard.Codes.{code_at, numbered, part, place_of, code_place}
use Rattle.deduction.proofs.Standard.Places.{places_empty}

module _ (e : ℕ → Entry) (n : ℕ) (down : Downward e n) where
  -- a shape without a number has the sets of two earlier entries
  shape_parts : (i : ℕ) → i < n → Plain e i → numbered (shape_at e i).kind ≡ false
      → (l : ℕ) × (r : ℕ) × (l < i) × (r < i) × ((shape_at e i).left ≡ set_at e l) × ((shape_at e i).right ≡ set_at e r)
  unfolding shape half_kind parts
  shape_parts i h p o = go (e i) (λ k m. down i k h m) p o
    where
      go : (d : Entry) → ((k : ℕ) → Memᴰ k (parts d) → k < i) → ¬ ((shape (set_at e) d).kind ≡ 0) → numbered (shape (set_at e) d).kind ≡ false
          → (l : ℕ) × (r : ℕ) × (l < i) × (r < i) × ((shape (set_at e) d).left ≡ set_at e l) × ((shape (set_at e) d).right ≡ set_at e r)
      go Zero b z w = absurd (z refl)
      go (Atom a) b z w = absurd (true≢false w)
      go (Pair l r) b z w = (l, r, b l (Memᴰ.head refl), b r (Memᴰ.tail (Memᴰ.head refl)), refl, refl)
      go (Enc m k) b z w = (m, k, b m (Memᴰ.head refl), b k (Memᴰ.tail (Memᴰ.head refl)), refl, refl)
      go (Sum items) b z w = absurd (z refl)
      go (Half private a) b z w = absurd (true≢false w)
      go (Half public a) b z w = absurd (true≢false w)
      go (Aenc m k) b z w = (m, k, b m (Memᴰ.head refl), b k (Memᴰ.tail (Memᴰ.head refl)), refl, refl)

  -- below m, sets with one sum are equal
  abbrev Apart : ℕ → Type 0
  Apart m = (l r : ℕ) → l < m → r < m → xor_over (code_at e) n (set_at e l) ≡ xor_over (code_at e) n (set_at e r) → set_at e l ≡ set_at e r

  part_same : (k x y : ℕ) → part e n k x ≡ part e n k y → (numbered k ≡ false → xor_over (code_at e) n x ≡ xor_over (code_at e) n y → x ≡ y) → x ≡ y
  part_same k x y = go (numbered k) refl
    where
      go : (b : Bool) → numbered k ≡ b → cond b x (xor_over (code_at e) n x) ≡ cond b y (xor_over (code_at e) n y)
          → (numbered k ≡ false → xor_over (code_at e) n x ≡ xor_over (code_at e) n y → x ≡ y) → x ≡ y
      go true p h f = h
      go false p h f = f p h

  -- one place, one shape
  place_shape : (m : ℕ) → Apart m → (i j : ℕ) → i ≤ m → j ≤ m → i < n → j < n → Plain e i → Plain e j
      → place_of e n (shape_at e i) ≡ place_of e n (shape_at e j) → shape_at e i ≡ shape_at e j
  place_shape m a i j li lj hi hj pi pj h = λ t. record { kind = kinds t; left = lefts t; right = rights t }
    where
      x : Shape
      x = shape_at e i

      y : Shape
      y = shape_at e j

      places : (x.kind - 1 ≡ y.kind - 1) × (part e n x.kind x.left ≡ part e n y.kind y.left) × (part e n x.kind x.right ≡ part e n y.kind y.right)
      places = place_same (x.kind - 1) (part e n x.kind x.left) (part e n x.kind x.right) (y.kind - 1) (part e n y.kind y.left) (part e n y.kind y.right) h

      kinds : x.kind ≡ y.kind
      kinds = positive x.kind y.kind pi pj places.0
        where
          positive : (k l : ℕ) → ¬ (k ≡ 0) → ¬ (l ≡ 0) → k - 1 ≡ l - 1 → k ≡ l
          positive k l p q r = omega arith

      lefts : x.left ≡ y.left
      lefts = part_same x.kind x.left y.left (places.1 ∙ ap (λ (k : ℕ). part e n k y.left) (sym kinds)) known
        where
          known : numbered x.kind ≡ false → xor_over (code_at e) n x.left ≡ xor_over (code_at e) n y.left → x.left ≡ y.left
          known o q =
              let u = shape_parts i hi pi o in
              let w = shape_parts j hj pj (ap numbered (sym kinds) ∙ o) in
              u.4 ∙ a u.0 w.0 (lt_of_lt_of_le u.2 li) (lt_of_lt_of_le w.2 lj) (ap (xor_over (code_at e) n) (sym u.4) ∙ q ∙ ap (xor_over (code_at e) n) w.4) ∙ sym w.4

      rights : x.right ≡ y.right
      rights = part_same x.kind x.right y.right (places.2 ∙ ap (λ (k : ℕ). part e n k y.right) (sym kinds)) known
        where
          known : numbered x.kind ≡ false → xor_over (code_at e) n x.right ≡ xor_over (code_at e) n y.right → x.right ≡ y.right
          known o q =
              let u = shape_parts i hi pi o in
              let w = shape_parts j hj pj (ap numbered (sym kinds) ∙ o) in
              u.5 ∙ a u.1 w.1 (lt_of_lt_of_le u.3 li) (lt_of_lt_of_le w.3 lj) (ap (xor_over (code_at e) n) (sym u.5) ∙ q ∙ ap (xor_over (code_at e) n) w.5) ∙ sym w.5

  -- a set of standard entries up to m whose codes sum to nothing
  empty_from : (m : ℕ) → Apart m → (u : ℕ) → StandardSet e n u → ((k : ℕ) → member u k ≡ true → k ≤ m) → xor_over (code_at e) n u ≡ 0 → u ≡ 0
  empty_from m a u s top = places_empty (code_at e) (λ j. place_of e n (shape_at e j)) u one apart n (λ k i. (s k i).0)
    where
      lead : (k : ℕ) → member u k ≡ true → Plain e k × (first e k ≡ k)
      lead k i = (standard_first e n down k (s k i).0).0 (s k i).1

      one : (j : ℕ) → member u j ≡ true → code_at e j ≡ bit (place_of e n (shape_at e j))
      one j i = code_place e n down j (s j i).0 (lead j i).0

      apart : (j k : ℕ) → member u j ≡ true → member u k ≡ true → place_of e n (shape_at e j) ≡ place_of e n (shape_at e k) → j ≡ k
      apart j k mj mk h =
          sym (lead j mj).1 ∙ first_same e j k (place_shape m a j k (top j mj) (top k mk) (s j mj).0 (s k mk).0 (lead j mj).0 (lead k mk).0 h)
          ∙ (lead k mk).1

  -- the members of an entry's set are standard entries below n
  pub set_standard : (i : ℕ) → i < n → StandardSet e n (set_at e i)
  set_standard i h k m = (omega (arith, members_le e n down i h k m), members_standard e n down i h k m)

  -- a sum of two sets of standard entries is one
  pub sum_standard : (u w : ℕ) → StandardSet e n u → StandardSet e n w → StandardSet e n (bit_xor u w)
  sum_standard u w su sw k m = elim (member_part u w k m) [ inl i ↦ su k i | inr i ↦ sw k i ]

  sums_apart : (m : ℕ) → m ≤ n → Apart m
  sums_apart zero h l r p q s = absurd (not-suc-le-zero p)
  sums_apart (suc m) h l r p q s = go (λ a b x y z. sums_apart m (omega arith) a b x y z)
    where
      go : Apart m → set_at e l ≡ set_at e r
      go a =
          sum_empty_same (set_at e l) (set_at e r)
          (empty_from m a (bit_xor (set_at e l) (set_at e r)) (sum_standard (set_at e l) (set_at e r) (set_standard l (omega arith)) (set_standard r (omega arith))) top
          (xor_over_sum (code_at e) n (set_at e l) (set_at e r) ∙ ap (bit_xor (xor_over (code_at e) n (set_at e l))) (sym s) ∙ xor_self (xor_over (code_at e) n (set_at e l))))
        where
          top : (k : ℕ) → member (bit_xor (set_at e l) (set_at e r)) k ≡ true → k ≤ m
          top k i =
              elim (member_part (set_at e l) (set_at e r) k i)
              [ inl j ↦ omega (arith, members_le e n down l (omega arith) k j) | inr j ↦ omega (arith, members_le e n down r (omega arith) k j) ]

  -- two sets of standard entries whose codes have one sum are equal
  pub standard_sets_same : (u w : ℕ) → StandardSet e n u → StandardSet e n w → xor_over (code_at e) n u ≡ xor_over (code_at e) n w → u ≡ w
  standard_sets_same u w su sw h =
      sum_empty_same u w
      (empty_from n (sums_apart n (le_refl n)) (bit_xor u w) (sum_standard u w su sw) (λ k m. let b = (sum_standard u w su sw k m).0 in omega arith)
      (xor_over_sum (code_at e) n u w ∙ ap (bit_xor (xor_over (code_at e) n u)) (sym h) ∙ xor_self (xor_over (code_at e) n u)))
