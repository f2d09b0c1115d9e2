-- A choice by a test of two numbers, where the test's outcome is known. Assumes nothing.
use mathlib.Core.Path.{◌≡◌, ap}
use mathlib.Core.Bool.{Bool, cond}
use Prim.Native.Nat.{ℕ, ◌≤◌, ◌<◌}
use lib.Dec.{leb, ltb}
use borrow.Author.Tests.{le-leb, lt-leb, lt-ltb, le-ltb}

module _ {ℓ} {A : Type ℓ} (n m : ℕ) (a b : A) where
  pub when_le : n ≤ m → cond (leb n m) a b ≡ a
  when_le h = ap (λ (t : Bool). cond t a b) (le-leb n m h)

  pub when_not_le : m < n → cond (leb n m) a b ≡ b
  when_not_le h = ap (λ (t : Bool). cond t a b) (lt-leb n m h)

  pub when_lt : n < m → cond (ltb n m) a b ≡ a
  when_lt h = ap (λ (t : Bool). cond t a b) (lt-ltb n m h)

  pub when_not_lt : m ≤ n → cond (ltb n m) a b ≡ b
  when_not_lt h = ap (λ (t : Bool). cond t a b) (le-ltb n m h)
