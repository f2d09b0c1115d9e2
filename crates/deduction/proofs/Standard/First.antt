-- Entries of kinds 1 to 3 and 5 to 7, by the first entry of the same shape.
-- Defined: `shape_at`, `first`, `Plain`, an entry of one of these kinds.
-- Shown: the first entry of an entry's shape has that shape, and entries of one shape have one first; the set of a plain entry
-- is that first entry alone. Assumes nothing.
use mathlib.Core.Path.{◌≡◌, refl, sym, ap, ap₂, ◌∙◌}
use mathlib.Core.Bool.{Bool, true, false, true≢false, false≢true, cond, ◌&&◌}
use mathlib.Core.Logic.{by_cases}
use Prim.Native.Nat.{ℕ, ◌^◌, ◌≤◌, ◌<◌}
use native.Mathlib.Decide.{dec_lt}
use native.Mathlib.Omega.{arith}
use lib.Dec.{eqb, ltb}
use borrow.Author.Tests.{eqb-true, eq-eqb, ltb-false, le-ltb}
use Rattle.deduction.specs.Term.{Side, private, public}
use Rattle.deduction.specs.Entry.{Entry, Zero, Atom, Pair, Enc, Sum, Half, Aenc, Downward}
use Rattle.deduction.specs.Standard.{Shape, half_kind, shape, alike, first_alike, standard_set, build_set, set_at}
use Rattle.deduction.proofs.Standard.Least.{least_le, least_found, least_before}
use Rattle.deduction.proofs.Standard.Sets.{set_at_build}

-- two tests in a row
pub both_true : (a b : Bool) → (a && b) ≡ true → (a ≡ true) × (b ≡ true)
both_true true b h = (refl, h)
both_true false b h = absurd (false≢true h)

-- shapes are alike exactly when they are equal
pub alike_same : (x y : Shape) → alike x y ≡ true → x ≡ y
unfolding alike
alike_same x y h =
    let p = both_true (eqb x.kind y.kind) (eqb x.left y.left && eqb x.right y.right) h in
    let q = both_true (eqb x.left y.left) (eqb x.right y.right) p.1 in
    λ i. record { kind = eqb-true x.kind y.kind p.0 i; left = eqb-true x.left y.left q.0 i; right = eqb-true x.right y.right q.1 i }

pub same_alike : (x y : Shape) → x ≡ y → alike x y ≡ true
unfolding alike
same_alike x y h =
    ap₂ ◌&&◌ (eq-eqb x.kind y.kind (ap (λ (z : Shape). z.kind) h))
    (ap₂ ◌&&◌ (eq-eqb x.left y.left (ap (λ (z : Shape). z.left) h)) (eq-eqb x.right y.right (ap (λ (z : Shape). z.right) h)))

-- the shape of entry i, and the first entry of that shape
abbrev pub shape_at : (ℕ → Entry) → ℕ → Shape
shape_at e i = shape (set_at e) (e i)

abbrev pub first : (ℕ → Entry) → ℕ → ℕ
first e i = first_alike (set_at e) e i

-- entry i is of kind 1, 2, 3, 5, 6 or 7
abbrev pub Plain : (ℕ → Entry) → ℕ → Type 0
Plain e i = ¬ ((shape_at e i).kind ≡ 0)

-- a half's kind is 5 or 6
pub half_range : (s : Side) → (5 ≤ half_kind s) × (half_kind s ≤ 6)
unfolding half_kind
half_range private = (omega arith, omega arith)
half_range public = (omega arith, omega arith)

pub half_plain : (x : Side) → ¬ (half_kind x ≡ 0)
half_plain x q = omega (arith, half_range x)

module _ (e : ℕ → Entry) where
  pub first_le : (i : ℕ) → first e i ≤ i
  unfolding first_alike
  first_le i = least_le _ i

  pub first_shape : (i : ℕ) → shape_at e (first e i) ≡ shape_at e i
  unfolding first_alike
  first_shape i = by_cases (dec_lt (first e i) i) (λ h. alike_same (shape_at e (first e i)) (shape_at e i) (least_found (λ j. alike (shape_at e j) (shape_at e i)) i h)) (λ h. ap (shape_at e) (equal h))
    where
      equal : ¬ (first e i < i) → first e i ≡ i
      equal h = omega (arith, least_le (λ j. alike (shape_at e j) (shape_at e i)) i)

  first_none : (i j : ℕ) → shape_at e j ≡ shape_at e i → first e i ≤ j
  unfolding first_alike
  first_none i j h =
      by_cases (dec_lt j (first e i))
      (λ l. absurd (true≢false (sym (same_alike (shape_at e j) (shape_at e i) h) ∙ least_before (λ k. alike (shape_at e k) (shape_at e i)) i j l))) (λ l. omega arith)

  -- entries of one shape have one first entry
  pub first_same : (i j : ℕ) → shape_at e i ≡ shape_at e j → first e i ≡ first e j
  first_same i j h = le_both (first_none i (first e j) (first_shape j ∙ sym h)) (first_none j (first e i) (first_shape i ∙ h))
    where
      le_both : {a b : ℕ} → a ≤ b → b ≤ a → a ≡ b
      le_both p q = omega arith

  pub first_first : (i : ℕ) → first e (first e i) ≡ first e i
  first_first i = first_same (first e i) i (first_shape i)

  pub first_plain : (i : ℕ) → Plain e i → Plain e (first e i)
  first_plain i p h = p (sym (ap (λ (x : Shape). x.kind) (first_shape i)) ∙ h)

  module _ (n : ℕ) (down : Downward e n) where
    -- a plain entry has the set of its first, and a first has itself alone
    plain_set : (i : ℕ) → i < n → Plain e i → set_at e i ≡ standard_set (set_at e) e i
    unfolding build_set shape
    plain_set i h p = set_at_build e n down i h ∙ go (e i) p
      where
        go : (d : Entry) → ¬ ((shape (set_at e) d).kind ≡ 0) → build_set (set_at e) e i d ≡ standard_set (set_at e) e i
        go Zero q = absurd (q refl)
        go (Atom a) q = refl
        go (Pair l r) q = refl
        go (Enc m k) q = refl
        go (Sum items) q = absurd (q refl)
        go (Half x a) q = refl
        go (Aenc m k) q = refl

    pub set_first : (i : ℕ) → i < n → Plain e i → set_at e i ≡ 2 ^ first e i
    unfolding standard_set
    set_first i h p = plain_set i h p ∙ go (ltb (first e i) i) refl
      where
        go : (b : Bool) → ltb (first e i) i ≡ b → cond b (set_at e (first e i)) (2 ^ i) ≡ 2 ^ first e i
        go true q =
            plain_set (first e i) (omega (arith, first_le i)) (first_plain i p)
            ∙ ap (λ (b : Bool). cond b (set_at e (first e (first e i))) (2 ^ first e i)) (le-ltb (first e (first e i)) (first e i) (omega (arith, first_first i)))
        go false q = ap (λ (x : ℕ). 2 ^ x) (equal (ltb-false (first e i) i q))
          where
            equal : i ≤ first e i → i ≡ first e i
            equal l = omega (arith, first_le i)
