-- Taking rows off a set, for any rows.
-- Defined: `pivot` of a row; `off`, a row taken off; `both`, the sum of two results.
-- Shown: one more row is one more step; reducing a sum is reducing its parts; what holds no pivot is left alone, and so is the empty
-- set. Assumes nothing.
use mathlib.Core.Path.{◌≡◌, refl, sym, ap, ◌∙◌}
use mathlib.Core.Bool.{Bool, true, false, xor, cond}
use mathlib.Core.List.{List, [], ◌∷◌, ◌++◌, Memᴰ}
use Prim.Native.Nat.{ℕ}
use lib.Bits.{bit_xor, xor_zero_r, xor_self, xor_comm}
use Rattle.bitset.specs.Set.{member, leading}
use Rattle.bitset.proofs.Laws.Member.{member_empty, member_sum, sum_assoc}
use Rattle.bitset.proofs.Laws.Sums.{sum_swap}
use Rattle.deduction.specs.Elimination.{Row, Reduced, take_off, reduce_from, reduce}

-- the row's pivot
abbrev pub pivot : Row → ℕ
pivot r = leading r.vector

-- the row taken off, come what may
abbrev pub off : Reduced → Row → Reduced
off x r = record { remainder = bit_xor x.remainder r.vector; used = bit_xor x.used r.uses }

-- a row is taken off where its pivot is held, and else nothing happens
pub take_off_cases : (P : Reduced → Type 0) (x : Reduced) (r : Row)
    → (member x.remainder (pivot r) ≡ true → P (off x r)) → (member x.remainder (pivot r) ≡ false → P x) → P (take_off x r)
unfolding take_off
take_off_cases P x r yes-case no-case = go (member x.remainder (pivot r)) refl
  where
    go : (b : Bool) → member x.remainder (pivot r) ≡ b → P (cond b (off x r) x)
    go true p = yes-case p
    go false p = no-case p

reduce_from_more : (x : Reduced) (rows : List Row) (r : Row) → reduce_from x (rows ++ (r ∷ [])) ≡ take_off (reduce_from x rows) r
unfolding reduce_from
reduce_from_more x [] r = refl
reduce_from_more x (q ∷ rows) r = reduce_from_more (take_off x q) rows r

-- one more row, one more step
pub reduce_more : (rows : List Row) (r : Row) (v : ℕ) → reduce (rows ++ (r ∷ [])) v ≡ take_off (reduce rows v) r
unfolding reduce
reduce_more rows r v = reduce_from_more (record { remainder = v; used = 0 }) rows r

-- two results side by side
abbrev pub both : Reduced → Reduced → Reduced
both x y = record { remainder = bit_xor x.remainder y.remainder; used = bit_xor x.used y.used }

take_off_both : (x y : Reduced) (r : Row) → take_off (both x y) r ≡ both (take_off x r) (take_off y r)
unfolding take_off xor
take_off_both x y r =
    ap (λ (b : Bool). cond b (off (both x y) r) (both x y)) (member_sum x.remainder y.remainder (pivot r))
    ∙ go (member x.remainder (pivot r)) (member y.remainder (pivot r))
  where
    made : {a b c d : ℕ} → a ≡ b → c ≡ d → ◌≡◌ {A = Reduced} (record { remainder = a; used = c }) (record { remainder = b; used = d })
    made p q = λ i. record { remainder = p i; used = q i }

    twice : (a b c : ℕ) → bit_xor a b ≡ bit_xor (bit_xor a c) (bit_xor b c)
    twice a b c = sym (sum_swap a c b c ∙ ap (bit_xor (bit_xor a b)) (xor_self c) ∙ xor_zero_r (bit_xor a b))

    left : (a b c : ℕ) → bit_xor (bit_xor a b) c ≡ bit_xor (bit_xor a c) b
    left a b c = sum_assoc a b c ∙ ap (bit_xor a) (xor_comm b c) ∙ sym (sum_assoc a c b)

    go : (b c : Bool) → cond (xor b c) (off (both x y) r) (both x y) ≡ both (cond b (off x r) x) (cond c (off y r) y)
    go true true = made (twice x.remainder y.remainder r.vector) (twice x.used y.used r.uses)
    go true false = made (left x.remainder y.remainder r.vector) (left x.used y.used r.uses)
    go false true = made (sum_assoc x.remainder y.remainder r.vector) (sum_assoc x.used y.used r.uses)
    go false false = refl

reduce_from_both : (x y : Reduced) (rows : List Row) → reduce_from (both x y) rows ≡ both (reduce_from x rows) (reduce_from y rows)
unfolding reduce_from
reduce_from_both x y [] = refl
reduce_from_both x y (r ∷ rows) = ap (λ (z : Reduced). reduce_from z rows) (take_off_both x y r) ∙ reduce_from_both (take_off x r) (take_off y r) rows

-- reducing a sum is reducing its two parts
pub reduce_both : (rows : List Row) (v w : ℕ) → reduce rows (bit_xor v w) ≡ both (reduce rows v) (reduce rows w)
unfolding reduce
reduce_both rows v w = reduce_from_both (record { remainder = v; used = 0 }) (record { remainder = w; used = 0 }) rows

-- where no pivot is held, nothing is taken off
reduce_from_none : (x : Reduced) (rows : List Row) → ((r : Row) → Memᴰ r rows → member x.remainder (pivot r) ≡ false) → reduce_from x rows ≡ x
unfolding reduce_from take_off
reduce_from_none x [] h = refl
reduce_from_none x (r ∷ rows) h =
    ap (λ (b : Bool). reduce_from (cond b (off x r) x) rows) (h r (Memᴰ.head refl)) ∙ reduce_from_none x rows (λ q m. h q (Memᴰ.tail m))

pub reduce_none : (rows : List Row) (v : ℕ) → ((r : Row) → Memᴰ r rows → member v (pivot r) ≡ false)
    → reduce rows v ≡ record { remainder = v; used = 0 }
unfolding reduce
reduce_none rows v h = reduce_from_none (record { remainder = v; used = 0 }) rows h

pub reduce_empty : (rows : List Row) → reduce rows 0 ≡ record { remainder = 0; used = 0 }
reduce_empty rows = reduce_none rows 0 (λ r m. member_empty (pivot r))
