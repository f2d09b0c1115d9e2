-- Tests in a row, and the first fault of many. Assumes nothing.
use mathlib.Core.Path.{◌≡◌, refl, sym, ap, ap₂, ◌∙◌}
use mathlib.Core.Bool.{Bool, true, false, true≢false, ◌&&◌, ◌||◌, or-false, or-true, or_assoc, and-false}
use mathlib.Core.Logic.{◌⊎◌, inl, inr, ⊎_elim, by_cases}
use mathlib.Core.List.Memᴰ
use mathlib.Core.List.{List, [], ◌∷◌, ◌++◌, Memᴰ, List-discrete}
use Prim.Native.Nat.{ℕ, zero, suc, ◌+◌, ◌≤◌, ◌<◌}
use native.Mathlib.Nat.{le_trans, le_of_eq, lt_of_le_of_lt}
use native.Mathlib.Decide.{le_ind, dec_lt, ℕ_discrete}
use native.Mathlib.Numerals.{add-one}
use native.Mathlib.Omega.{arith}
use borrow.Author.Tests.{le-leb, lt-leb, eq-eqb, ne_eqb, leb-false}
use lib.Dec.{eqb, leb}
use lib.Pointwise.{pointwise}
use Rattle.dag.specs.Refusal.{when, or_else, first, equal, any_from}
use Rattle.dag.specs.Sheet.{listed}

-- a test that holds, and one that fails with the others to come
pub or_yes : {a : Bool} (b : Bool) → a ≡ true → (a || b) ≡ true
or_yes b p = ap (λ (x : Bool). x || b) p

pub or_no : {a b c : Bool} → a ≡ false → b ≡ c → (a || b) ≡ c
or_no {a} {b} p q = ap (λ (x : Bool). x || b) p ∙ q

pub and_yes : {a b c : Bool} → a ≡ true → b ≡ c → (a && b) ≡ c
and_yes {a} {b} p q = ap (λ (x : Bool). x && b) p ∙ q

pub and_no : {a : Bool} (b : Bool) → a ≡ false → (a && b) ≡ false
and_no b p = ap (λ (x : Bool). x && b) p

pub when_yes : {b : Bool} (k : ℕ) → b ≡ true → k ≡ when b k
unfolding when
when_yes k p = sym (ap (λ (x : Bool). when x k) p)

pub when_no : {b : Bool} (k : ℕ) → b ≡ false → 0 ≡ when b k
unfolding when
when_no k p = sym (ap (λ (x : Bool). when x k) p)

pub when_zero : (b : Bool) (k : ℕ) → when b (suc k) ≡ 0 → b ≡ false
unfolding when
when_zero true k p = absurd (suc_not_zero p)
  where
    suc_not_zero : suc k ≡ 0 → ⊥
    suc_not_zero q = omega arith
when_zero false k p = refl

-- of two, the second where the first is none, and the first where it is one
pub or_else_none : (a b : ℕ) → a ≡ 0 → or_else a b ≡ b
unfolding or_else
or_else_none a b p = ap (λ (x : ℕ). or_else x b) p

pub or_else_zero : (b : ℕ) → or_else 0 b ≡ b
unfolding or_else
or_else_zero b = refl

pub or_else_some : (a b : ℕ) → (a ≡ 0 → ⊥) → or_else a b ≡ a
unfolding or_else
or_else_some zero b n = absurd (n refl)
or_else_some (suc a) b n = refl

-- the answer x is this row's, a, or a later one's, b
pub or_else_here : {x a : ℕ} (b : ℕ) → x ≡ a → (x ≡ 0 → ⊥) → x ≡ or_else a b
or_else_here {x} {a} b p n = p ∙ sym (or_else_some a b (λ z. n (p ∙ z)))

pub or_else_next : {x y a b : ℕ} → y ≡ a → y ≡ 0 → x ≡ b → x ≡ or_else a b
or_else_next {x} {y} {a} {b} p z q = q ∙ sym (or_else_none a b (sym p ∙ z))

pub or_else_zero_left : (a b : ℕ) → or_else a b ≡ 0 → a ≡ 0
unfolding or_else
or_else_zero_left zero b p = refl
or_else_zero_left (suc a) b p = p

pub or_else_zero_right : (a b : ℕ) → or_else a b ≡ 0 → b ≡ 0
unfolding or_else
or_else_zero_right zero b p = p
or_else_zero_right (suc a) b p = absurd (suc_not_zero p)
  where
    suc_not_zero : suc a ≡ 0 → ⊥
    suc_not_zero q = omega arith

-- of two, one that holds
pub or_either : (a b : Bool) → (a || b) ≡ true → (a ≡ true) ⊎ (b ≡ true)
or_either true b p = inl refl
or_either false b p = inr p

pub or_false_left : (a b : Bool) → (a || b) ≡ false → a ≡ false
or_false_left true b p = p
or_false_left false b p = refl

pub or_false_right : (a b : Bool) → (a || b) ≡ false → b ≡ false
or_false_right true b p = absurd (true≢false p)
or_false_right false b p = p

module _ (f : ℕ → ℕ) where
  -- one more that is none
  pub first_more : (i : ℕ) → first f i ≡ 0 → f i ≡ 0 → first f (i + 1) ≡ 0
  unfolding first
  first_more i p q = ap (first f) (add-one i) ∙ or_else_none (first f i) (f i) p ∙ q

  -- a fault found stays the first one
  first_stays : (i n : ℕ) → i ≤ n → (first f i ≡ 0 → ⊥) → first f n ≡ first f i
  unfolding first
  first_stays i n h some =
      le_ind (λ (m : ℕ). first f m ≡ first f i) refl (λ m k e. or_else_some (first f m) (f m) (λ z. some (sym e ∙ z)) ∙ e) n h

  pub first_found : (i n : ℕ) → i < n → first f i ≡ 0 → (f i ≡ 0 → ⊥) → f i ≡ first f n
  unfolding first
  first_found i n h p some =
      let e : first f (suc i) ≡ f i = or_else_none (first f i) (f i) p in
      sym (first_stays (suc i) n h (λ z. some (sym e ∙ z)) ∙ e)

  -- none of each is none of all, and the converse
  pub all_none : (n : ℕ) → ((i : ℕ) → i < n → f i ≡ 0) → first f n ≡ 0
  unfolding first
  all_none zero h = refl
  all_none (suc n) h = or_else_none (first f n) (f n) (all_none n (λ i l. h i (omega (arith, l)))) ∙ h n (omega arith)

  pub first_none : (n : ℕ) → first f n ≡ 0 → (i : ℕ) → i < n → f i ≡ 0
  unfolding first
  first_none zero p i h = absurd (omega arith)
  first_none (suc n) p i h =
      by_cases (dec_lt i n) (λ l. first_none n (or_else_zero_left (first f n) (f n) p) i l)
      (λ m. let q : i ≡ n = omega arith in ap f q ∙ or_else_zero_right (first f n) (f n) p)

-- one more number in a list
pub any_from_append : (i : ℕ) (xs : List ℕ) (y : ℕ) → any_from i (xs ++ (y ∷ [])) ≡ (any_from i xs || leb i y)
unfolding any_from
any_from_append i [] y = or-false (leb i y)
any_from_append i (x ∷ xs) y = ap (λ (b : Bool). leb i x || b) (any_from_append i xs y) ∙ sym (or_assoc (leb i x) (any_from i xs) (leb i y))

-- of f 0 .. f (n - 1): one more below i, one found
pub any_from_more : (i : ℕ) (f : ℕ → ℕ) (n : ℕ) → any_from i (listed f n) ≡ false → f n < i → any_from i (listed f (n + 1)) ≡ false
unfolding listed
any_from_more i f n p h = ap (λ (m : ℕ). any_from i (listed f m)) (add-one n) ∙ any_from_append i (listed f n) (f n) ∙ or_no p (lt-leb i (f n) h)

pub none_from : (i : ℕ) (f : ℕ → ℕ) (n : ℕ) → ((j : ℕ) → j < n → f j < i) → any_from i (listed f n) ≡ false
unfolding any_from listed
none_from i f zero h = refl
none_from i f (suc n) h = any_from_append i (listed f n) (f n) ∙ or_no (none_from i f n (λ j l. h j (omega (arith, l)))) (lt-leb i (f n) (h n (omega arith)))

pub any_from_found : (i : ℕ) (f : ℕ → ℕ) (j n : ℕ) → j < n → i ≤ f j → any_from i (listed f n) ≡ true
unfolding listed
any_from_found i f j zero h l = absurd (omega arith)
any_from_found i f j (suc n) h l =
    any_from_append i (listed f n) (f n)
    ∙ by_cases (dec_lt j n) (λ q. or_yes (leb i (f n)) (any_from_found i f j n q l))
    (λ q. let e : j ≡ n = omega arith in ap (λ (b : Bool). any_from i (listed f n) || b) (le-leb i (f n) (le_trans l (le_of_eq (ap f e)))) ∙ or-true (any_from i (listed f n)))

-- none of a list is i or more: each is below i
pub any_from_none : (i : ℕ) (xs : List ℕ) → any_from i xs ≡ false → (j : ℕ) → Memᴰ j xs → j < i
unfolding any_from
any_from_none i [] p j m = absurd (Memᴰ.not-nil m)
any_from_none i (x ∷ xs) p j m =
    ⊎_elim (λ q. lt_of_le_of_lt (le_of_eq q) (leb-false i x (or_false_left (leb i x) (any_from i xs) p))) (λ q. any_from_none i xs (or_false_right (leb i x) (any_from i xs) p) j q) (Memᴰ.cases_cons m)

equal_self : (zs : List ℕ) → equal zs zs ≡ true
unfolding equal
equal_self [] = refl
equal_self (z ∷ zs) = ap₂ ◌&&◌ (eq-eqb z z refl) (equal_self zs)

pub equal_same : (xs ys : List ℕ) → xs ≡ ys → equal xs ys ≡ true
equal_same xs ys p = ap (equal xs) (sym p) ∙ equal_self xs

pub equal_differs : (xs ys : List ℕ) → (xs ≡ ys → ⊥) → equal xs ys ≡ false
unfolding equal
equal_differs [] [] n = absurd (n refl)
equal_differs [] (y ∷ ys) n = refl
equal_differs (x ∷ xs) [] n = refl
equal_differs (x ∷ xs) (y ∷ ys) n =
    by_cases (ℕ_discrete x y)
    (λ p. ap (λ (b : Bool). eqb x y && b) (equal_differs xs ys (λ q. n (ap₂ (λ (z : ℕ) (zs : List ℕ). z ∷ zs) p q))) ∙ and-false (eqb x y))
    (λ m. ap (λ (b : Bool). b && equal xs ys) (ne_eqb x y m))

pub equal_true : (xs ys : List ℕ) → equal xs ys ≡ true → xs ≡ ys
equal_true xs ys p = by_cases (List-discrete ℕ_discrete xs ys) (λ q. q) (λ n. absurd (true≢false (sym p ∙ equal_differs xs ys n)))

-- equality as the language says it
pub equal_pointwise : (xs ys : List ℕ) → pointwise eqb xs ys ≡ equal xs ys
unfolding equal
equal_pointwise [] [] = refl
equal_pointwise [] (y ∷ ys) = refl
equal_pointwise (x ∷ xs) [] = refl
equal_pointwise (x ∷ xs) (y ∷ ys) = ap (λ (b : Bool). eqb x y && b) (equal_pointwise xs ys)
