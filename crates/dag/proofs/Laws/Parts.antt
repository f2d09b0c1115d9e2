-- The entry numbers in a record, kind by kind, and the fault of a record. Assumes nothing.
use mathlib.Core.Path.{◌≡◌, refl, sym, ap, ap₂, ◌∙◌}
use mathlib.Core.Bool.{Bool, true, false, not, ◌&&◌, ◌||◌, and-false}
use mathlib.Core.List.Memᴰ
use mathlib.Core.List.{List, [], ◌∷◌, Memᴰ}
use mathlib.Core.Logic.{◌⊎◌, inl, inr, by_cases}
use Prim.Native.Nat.{ℕ, zero, suc, ◌≤◌, ◌<◌}
use native.Mathlib.Decide.{dec_lt}
use native.Mathlib.Omega.{arith}
use borrow.Author.Tests.{le-leb, lt-leb, eq-eqb, ne_eqb, not-false}
use lib.Dec.{eqb}
use lib.ListN.{length}
use Rattle.deduction.specs.Entry.{parts}
use Rattle.dag.specs.Sheet.{number_at, record_at, listed}
use Rattle.dag.specs.Record.{kind_of, fits, item_count, item_at, decode_as, decode}
use Rattle.dag.specs.Refusal.{when, or_else, any_from, bad_record, forward_items, kind_at, wrong_half, bad_record_at}
use Rattle.dag.proofs.Laws.Refusal.{or_yes, or_no, and_yes, and_no, when_yes, when_no, when_zero, or_else_here, or_else_next, or_else_zero_left, or_else_zero_right}
use Rattle.dag.proofs.Laws.Record.{half_kind_lem}

-- an atom's number and a key pair's are no entry numbers
pub parts_none : (k : ℕ) (r : List ℕ) → k < 2 → parts (decode_as k r) ≡ []
unfolding parts decode_as
parts_none zero r h = refl
parts_none (suc zero) r h = refl
parts_none (suc (suc k)) r h = absurd (omega arith)

-- the kinds with two entry numbers: pair, encryption and lock
abbrev pub TwoParts : ℕ → Type 0
TwoParts k = (k ≡ 2) ⊎ ((k ≡ 3) ⊎ (k ≡ 7))

pub parts_two : (k : ℕ) (r : List ℕ) → TwoParts k → parts (decode_as k r) ≡ number_at r 1 ∷ number_at r 3 ∷ []
unfolding parts decode_as
parts_two k r (inl p) = ap (λ (x : ℕ). parts (decode_as x r)) p
parts_two k r (inr (inl p)) = ap (λ (x : ℕ). parts (decode_as x r)) p
parts_two k r (inr (inr p)) = ap (λ (x : ℕ). parts (decode_as x r)) p

parts_items : (k : ℕ) (r : List ℕ) → k ≡ 4 → parts (decode_as k r) ≡ listed (item_at r) (item_count r)
unfolding parts decode_as
parts_items k r p = ap (λ (x : ℕ). parts (decode_as x r)) p

-- the rows 5 and 6 of a record r at entry i
module _ (i : ℕ) (r : List ℕ) where
  pub record_bad : fits (kind_of r) (length r) ≡ false → 5 ≡ bad_record i r
  unfolding bad_record when or_else
  record_bad p = ap (λ (b : Bool). or_else (when (not b) 5) (when (any_from i (parts (decode r))) 6)) (sym p)

  record_fits : fits (kind_of r) (length r) ≡ true → when (any_from i (parts (decode r))) 6 ≡ bad_record i r
  unfolding bad_record when or_else
  record_fits p = ap (λ (b : Bool). or_else (when (not b) 5) (when (any_from i (parts (decode r))) 6)) (sym p)

  pub record_none : fits (kind_of r) (length r) ≡ true → parts (decode r) ≡ [] → 0 ≡ bad_record i r
  unfolding any_from
  record_none p q = when_no 6 (ap (any_from i) q) ∙ record_fits p

  pub record_items : fits (kind_of r) (length r) ≡ true → kind_of r ≡ 4 → forward_items i r ≡ bad_record i r
  record_items p h = sym (ap (λ (l : List ℕ). when (any_from i l) 6) (parts_items (kind_of r) r h)) ∙ record_fits p

  pub record_two : fits (kind_of r) (length r) ≡ true → TwoParts (kind_of r) → when (any_from i (number_at r 1 ∷ number_at r 3 ∷ [])) 6 ≡ bad_record i r
  record_two p h = sym (ap (λ (l : List ℕ). when (any_from i l) 6) (parts_two (kind_of r) r h)) ∙ record_fits p

  pub record_first : fits (kind_of r) (length r) ≡ true → TwoParts (kind_of r) → i ≤ number_at r 1 → 6 ≡ bad_record i r
  unfolding any_from
  record_first p h q = when_yes 6 (or_yes _ (le-leb i (number_at r 1) q)) ∙ record_two p h

  pub record_second : fits (kind_of r) (length r) ≡ true → TwoParts (kind_of r) → number_at r 1 < i → i ≤ number_at r 3 → 6 ≡ bad_record i r
  unfolding any_from
  record_second p h m q = when_yes 6 (or_no (lt-leb i (number_at r 1) m) (or_yes _ (le-leb i (number_at r 3) q))) ∙ record_two p h

  pub record_good : fits (kind_of r) (length r) ≡ true → TwoParts (kind_of r) → number_at r 1 < i → number_at r 3 < i → 0 ≡ bad_record i r
  unfolding any_from
  record_good p h m q = when_no 6 (or_no (lt-leb i (number_at r 1) m) (or_no (lt-leb i (number_at r 3) q) refl)) ∙ record_two p h

-- row 12 of a record r of the sheet s
module _ (s r : List ℕ) where
  pub wrong_none : (eqb (kind_at s (number_at r 3)) 5 || eqb (kind_at s (number_at r 3)) 6) ≡ true → 0 ≡ wrong_half s r
  unfolding wrong_half
  wrong_none p = when_no 12 (ap (λ (b : Bool). eqb (kind_of r) 7 && not b) p ∙ and-false (eqb (kind_of r) 7))

  pub wrong_found : kind_of r ≡ 7 → (eqb (kind_at s (number_at r 3)) 5 || eqb (kind_at s (number_at r 3)) 6) ≡ false → 12 ≡ wrong_half s r
  unfolding wrong_half
  wrong_found p q = when_yes 12 (ap₂ (λ (a b : Bool). a && not b) (eq-eqb (kind_of r) 7 p) q)

  pub wrong_other : (kind_of r ≡ 7 → ⊥) → 0 ≡ wrong_half s r
  unfolding wrong_half
  wrong_other n = when_no 12 (and_no _ (ne_eqb (kind_of r) 7 n))

  -- a lock that row 12 lets pass has a half for its key
  pub key_passed : wrong_half s r ≡ 0 → kind_of r ≡ 7 → (kind_at s (number_at r 3) ≡ 5) ⊎ (kind_at s (number_at r 3) ≡ 6)
  unfolding wrong_half
  key_passed w p =
      half_kind_lem (kind_at s (number_at r 3))
      (not-false _ (sym (and_yes (eq-eqb (kind_of r) 7 p) refl) ∙ when_zero _ 11 w))

-- the rows 5, 6 and 12 of entry i: a fault by 5 or 6 comes before 12
module _ (s : List ℕ) (i : ℕ) where
  pub fault_before : {x : ℕ} → x ≡ bad_record i (record_at s i) → (x ≡ 0 → ⊥) → x ≡ bad_record_at s i
  unfolding bad_record_at
  fault_before p n = or_else_here _ p n

  pub fault_half : {x y : ℕ} → y ≡ bad_record i (record_at s i) → y ≡ 0 → x ≡ wrong_half s (record_at s i) → x ≡ bad_record_at s i
  unfolding bad_record_at
  fault_half p z q = or_else_next p z q

  pub fault_none : bad_record_at s i ≡ 0 → (bad_record i (record_at s i) ≡ 0) × (wrong_half s (record_at s i) ≡ 0)
  unfolding bad_record_at
  fault_none p = (or_else_zero_left (bad_record i (record_at s i)) _ p, or_else_zero_right (bad_record i (record_at s i)) _ p)

-- each of f 0 .. f (n - 1) is listed
pub item_listed : (f : ℕ → ℕ) (n j : ℕ) → j < n → Memᴰ (f j) (listed f n)
unfolding listed
item_listed f zero j h = absurd (omega arith)
item_listed f (suc n) j h =
    by_cases (dec_lt j n) (λ l. Memᴰ.append_left (f n ∷ []) (item_listed f n j l))
    (λ l. let last : j ≡ n = omega arith in Memᴰ.append_right (listed f n) (Memᴰ.head (ap f last)))
