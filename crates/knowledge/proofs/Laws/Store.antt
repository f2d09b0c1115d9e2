-- What a store keeps. Assumes nothing.
use mathlib.Core.Path.{◌≡◌, refl, ◌∙◌}
use mathlib.Core.List.{List}
use Prim.Native.Nat.{ℕ, ◌≤◌, ◌<◌}
use native.Mathlib.Omega.{arith}
use lib.ListN.{set, length-set}
use lib.Seq.{get_or-set_other}
use Rattle.knowledge.specs.Inner.Rows.{SameOutside}

module _ {A : Type 0} where
  pub same_refl : (a b : ℕ) (ws : List A) → SameOutside a b ws ws
  same_refl a b ws = record { size = refl; under = λ k d h. refl; over = λ k d h. refl }

  -- one more store in the part
  pub same_set : {a b : ℕ} {ws vs : List A} (i : ℕ) (x : A) → a ≤ i → i < b → SameOutside a b ws vs → SameOutside a b ws (set vs i x)
  same_set {a} {b} {ws} {vs} i x low high p = record {
    size = length-set vs i x ∙ p.size;
    under = λ k d h. get_or-set_other vs i k x d (less k h) ∙ p.under k d h;
    over = λ k d h. get_or-set_other vs i k x d (more k h) ∙ p.over k d h;
  }
    where
      less : (k : ℕ) → k < a → k ≡ i → ⊥
      less k h e = omega arith

      more : (k : ℕ) → b ≤ k → k ≡ i → ⊥
      more k h e = omega arith
