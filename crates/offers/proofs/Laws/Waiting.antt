-- The lowest head that waits.
-- Shown: `heads_least`, the least of a list is that of the lowest head; `next_found` and `next_none`, the number of the next step where the lowest head
-- that waits was found. Assumes nothing.
use mathlib.Core.Path.{◌≡◌, refl, sym, ap, ◌∙◌, subst}
use mathlib.Core.Bool.{Bool, true, false, true≢false, cond, not, ◌&&◌, ◌||◌}
use mathlib.Core.Logic.{◌⊎◌, inl, inr}
use mathlib.Core.List.{List, Memᴰ}
use Prim.Native.Nat.{ℕ, ◌+◌, ◌*◌, ◌/◌, ◌%◌, ◌≤◌, ◌<◌, min}
use native.Mathlib.Omega.{arith}
use lib.Dec.{eqb, ltb}
use lib.ListN.{get_or}
use borrow.Author.Tests.{ltb-true, ltb-false, eq-eqb, ne_eqb}
use Rattle.bitset.specs.Set.{member}
use Rattle.bitset.specs.Inner.{IsLowest}
use Rattle.bitset.proofs.Laws.Member.{member_empty}
use Rattle.deduction.specs.Setting.{Setting}
use Rattle.deduction.specs.Standard.{least}
use Rattle.deduction.specs.Run.{no_step, least_of}
use Rattle.deduction.proofs.Standard.Least.{least_le, least_found, least_before, least_only}
use Rattle.deduction.proofs.Steps.Numbers.{least_under, least_one}
use Rattle.offers.specs.Inner.Next.{summed, waits, way_of, next_in}
use Rattle.offers.proofs.Laws.Table.{same_or}

-- a list whose members are of heads that pass a test, each at least the head's least, which is in the list
module _ (xs : List ℕ) (c : ℕ → Bool) (v : ℕ → ℕ)
    (over : (x : ℕ) → Memᴰ x xs → (x / 65536 < 256) × (c (x / 65536) ≡ true) × (v (x / 65536) ≤ x % 65536))
    (there : (h : ℕ) → h < 256 → c h ≡ true → (v h < 65536) × Memᴰ (h * 65536 + v h) xs) where
  abbrev lowest : ℕ
  lowest = least c 256

  -- no member's head is lower
  lower : (x : ℕ) → Memᴰ x xs → lowest ≤ x / 65536
  lower x m = go (ltb (x / 65536) lowest) refl
    where
      go : (b : Bool) → ltb (x / 65536) lowest ≡ b → lowest ≤ x / 65536
      go true p = absurd (true≢false (sym (over x m).1 ∙ least_before c 256 (x / 65536) (ltb-true (x / 65536) lowest p)))
      go false p = ltb-false (x / 65536) lowest p

  pub heads_least : cond (eqb lowest 256) no_step (lowest * 65536 + v lowest) ≡ least_of no_step xs
  heads_least = go (same_or lowest 256) (least_one no_step xs)
    where
      go : (lowest ≡ 256) ⊎ ¬ (lowest ≡ 256) → (least_of no_step xs ≡ no_step) ⊎ Memᴰ (least_of no_step xs) xs → cond (eqb lowest 256) no_step (lowest * 65536 + v lowest) ≡ least_of no_step xs
      go (inl p) (inl q) = ap (λ (b : Bool). cond b no_step (lowest * 65536 + v lowest)) (eq-eqb lowest 256 p) ∙ sym q
      go (inl p) (inr m) = absurd (omega (arith, lower (least_of no_step xs) m, (over (least_of no_step xs) m).0))
      go (inr f) s = ap (λ (b : Bool). cond b no_step (lowest * 65536 + v lowest)) (ne_eqb lowest 256 f) ∙ rest s
        where
          below : lowest < 256
          below = omega (arith, least_le c 256)

          own : (v lowest < 65536) × Memᴰ (lowest * 65536 + v lowest) xs
          own = there lowest below (least_found c 256 below)

          rest : (least_of no_step xs ≡ no_step) ⊎ Memᴰ (least_of no_step xs) xs → lowest * 65536 + v lowest ≡ least_of no_step xs
          rest (inl q) = absurd (omega (arith, below, own.0, least_under no_step xs (lowest * 65536 + v lowest) own.1))
          rest (inr m) = at (same_or (least_of no_step xs / 65536) lowest)
            where
              at : (least_of no_step xs / 65536 ≡ lowest) ⊎ ¬ (least_of no_step xs / 65536 ≡ lowest) → lowest * 65536 + v lowest ≡ least_of no_step xs
              at (inl p) =
                  let b : v lowest ≤ least_of no_step xs % 65536 = subst (λ (h : ℕ). v h ≤ least_of no_step xs % 65536) p (over (least_of no_step xs) m).2 in
                  omega (arith, own.0, least_under no_step xs (lowest * 65536 + v lowest) own.1)
              at (inr d) = omega (arith, own.0, lower (least_of no_step xs) m, least_under no_step xs (lowest * 65536 + v lowest) own.1)

-- the lowest head of those in w, which are those in u that aren't known; u has those that are ready and those that are sums, a
module _ (on : Setting) (best : List ℕ) (ready empty g a u w : ℕ) (pa : (k : ℕ) → member a k ≡ summed on empty k)
    (pu : (k : ℕ) → member u k ≡ (member ready k || member a k)) (pw : (k : ℕ) → member w k ≡ (member u k && not (member g k))) where
  in_w : (k : ℕ) → member w k ≡ waits on ready empty g k
  unfolding waits
  in_w k = pw k ∙ ap (λ (b : Bool). b && not (member g k)) (pu k ∙ ap (λ (b : Bool). member ready k || b) (pa k))

  pub next_none : w ≡ 0 → next_in on best ready empty g ≡ no_step
  unfolding next_in
  next_none p = ap (λ (b : Bool). cond b no_step (least (waits on ready empty g) 256 * 65536 + way_of on best empty (least (waits on ready empty g) 256))) (eq-eqb (least (waits on ready empty g) 256) 256 all)
    where
      all : least (waits on ready empty g) 256 ≡ 256
      all = least_only (waits on ready empty g) 256 256 (omega arith) (λ l. absurd (omega arith)) (λ j l. sym (in_w j) ∙ ap (λ (x : ℕ). member x j) p ∙ member_empty j)

  pub next_found : {h : ℕ} → IsLowest w h → h < 256 → h * 65536 + cond (member a h) (min (get_or best h 0) 1536) (get_or best h 0) ≡ next_in on best ready empty g
  unfolding next_in way_of
  next_found {h} low l =
      ap (λ (b : Bool). h * 65536 + cond b (min (get_or best h 0) 1536) (get_or best h 0)) (pa h)
      ∙ sym (ap (λ (m : ℕ). m * 65536 + way_of on best empty m) found)
      ∙ sym (ap (λ (b : Bool). cond b no_step (least (waits on ready empty g) 256 * 65536 + way_of on best empty (least (waits on ready empty g) 256))) (ne_eqb (least (waits on ready empty g) 256) 256 (λ q. omega (arith, found, q))))
    where
      found : least (waits on ready empty g) 256 ≡ h
      found = least_only (waits on ready empty g) 256 h (omega arith) (λ q. sym (in_w h) ∙ low.own) (λ j q. sym (in_w j) ∙ low.none j q)
