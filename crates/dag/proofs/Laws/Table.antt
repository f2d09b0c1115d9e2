-- The table as a whole: a refusal is one of 1 to 7, or 12. Assumes nothing.
use mathlib.Core.Path.{◌≡◌, refl}
use mathlib.Core.Bool.{Bool, true, false}
use mathlib.Core.List.{List}
use mathlib.Core.Logic.{◌⊎◌, inl, inr}
use Prim.Native.Nat.{ℕ, zero, suc, ◌≤◌, zero-le}
use lib.Dec.{lit≤}
use Rattle.dag.specs.Refusal.{when, or_else, first, no_sheet, bad_count, short_list, bad_pair, bad_pairs, bad_record, wrong_half, bad_record_at, bad_records, not_listed, not_listed_at, refusal}

-- a property of 0 and of each row's number is one of the first that holds
module _ (P : ℕ → Type 0) (none : P 0) where
  pub when_has : (b : Bool) (k : ℕ) → P k → P (when b k)
  unfolding when
  when_has true k h = h
  when_has false k h = none

  pub or_else_has : (a b : ℕ) → P a → P b → P (or_else a b)
  unfolding or_else
  or_else_has zero b p q = q
  or_else_has (suc a) b p q = p

  first_has : (f : ℕ → ℕ) (n : ℕ) → ((i : ℕ) → P (f i)) → P (first f n)
  unfolding first
  first_has f zero h = none
  first_has f (suc n) h = or_else_has (first f n) (f n) (first_has f n h) (h n)

  rows_have : (s : List ℕ) → P 1 → P 2 → P 3 → P 4 → P 5 → P 6 → P 7 → P 12 → P (refusal s)
  unfolding refusal no_sheet bad_count short_list bad_pair bad_pairs bad_record wrong_half bad_record_at bad_records not_listed
  rows_have s p1 p2 p3 p4 p5 p6 p7 p12 =
      or_else_has (no_sheet s) _ (when_has _ 1 p1)
      (or_else_has (bad_count s) _ (when_has _ 2 p2)
      (or_else_has (short_list s) _ (when_has _ 3 p3)
      (or_else_has (bad_pairs s) _ (or_else_has (first (bad_pair s) _) _ (first_has (bad_pair s) _ (λ i. when_has _ 4 p4)) (when_has _ 4 p4))
      (or_else_has (bad_records s) (not_listed s) (first_has (bad_record_at s) _ (λ i. or_else_has _ _ (or_else_has _ _ (when_has _ 5 p5) (when_has _ 6 p6)) (when_has _ 12 p12)))
      (first_has (not_listed_at s) _ (λ k. when_has _ 7 p7))))))

pub refusal_named_lem : (s : List ℕ) → (refusal s ≤ 7) ⊎ (refusal s ≡ 12)
refusal_named_lem s =
    rows_have (λ n. (n ≤ 7) ⊎ (n ≡ 12)) (inl zero-le) s (inl (lit≤ tt)) (inl (lit≤ tt)) (inl (lit≤ tt)) (inl (lit≤ tt)) (inl (lit≤ tt)) (inl (lit≤ tt)) (inl (lit≤ tt)) (inr refl)
