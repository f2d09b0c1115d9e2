-- Numbers in decimal. `decimal` is the usual notation:
-- one digit below 10, else the digits of the tenth part and the last digit; read back, the digits give the number; each is a digit; none but 0 starts with a zero.
-- Also: a number below 10^k has at most k digits. Assumes nothing.
use mathlib.Core.Path.{◌≡◌, refl, sym, ap, ◌∙◌, subst}
use mathlib.Core.Logic.{by_cases}
use mathlib.Core.List.{List, [], ◌∷◌, ◌++◌}
use Prim.Native.Nat.{ℕ, zero, suc, ◌+◌, ◌-◌, ◌*◌, ◌/◌, ◌%◌, ◌^◌, ◌≤◌, ◌<◌}
use native.Mathlib.Nat.{le_of_eq, lt_of_lt_of_le, div-lt_iff_lt-mul, pow-suc}
use native.Mathlib.Decide.{dec_lt}
use native.Mathlib.Omega.{arith}
use lib.ListN.{length, get_or, length-append, get_or-append}
use lib.Seq.{get_or-append_seam}
use Rattle.std.specs.Fmt.{decimal as std_decimal}
use Rattle.std.proofs.lemmas.Fmt.{decimal_by_steps}
use Rattle.bitset.proofs.Laws.Choice.{when_lt, when_not_lt}
use Rattle.line.specs.Decimal.{digits, decimal}

digits_small : (f n : ℕ) → n < 10 → digits f n ≡ (48 + n) ∷ []
unfolding digits
digits_small zero n h = refl
digits_small (suc f) n h = when_lt n 10 ((48 + n) ∷ []) (digits f (n / 10) ++ ((48 + n % 10) ∷ [])) h

digits_more : (f n : ℕ) → 10 ≤ n → digits (suc f) n ≡ digits f (n / 10) ++ ((48 + n % 10) ∷ [])
unfolding digits
digits_more f n h = when_not_lt n 10 ((48 + n) ∷ []) (digits f (n / 10) ++ ((48 + n % 10) ∷ [])) h

-- any count that is at least n will do
digits_count : (f g n : ℕ) → n ≤ f → n ≤ g → digits f n ≡ digits g n
digits_count zero g n p q = digits_small zero n (omega arith) ∙ sym (digits_small g n (omega arith))
digits_count (suc f) zero n p q = digits_small (suc f) n (omega arith) ∙ sym (digits_small zero n (omega arith))
digits_count (suc f) (suc g) n p q =
    by_cases (dec_lt n 10) (λ h. digits_small (suc f) n h ∙ sym (digits_small (suc g) n h))
    (λ h. digits_more f n (omega arith) ∙ ap (λ (x : List ℕ). x ++ ((48 + n % 10) ∷ [])) (digits_count f g (n / 10) (omega arith) (omega arith)) ∙ sym (digits_more g n (omega arith)))

-- one digit
pub decimal_small : (n : ℕ) → n < 10 → decimal n ≡ (48 + n) ∷ []
unfolding decimal
decimal_small n h = digits_small n n h

-- the digits of the tenth part, and the last digit
pub decimal_more : (n : ℕ) → 10 ≤ n → decimal n ≡ decimal (n / 10) ++ ((48 + n % 10) ∷ [])
unfolding decimal
decimal_more zero h = absurd (omega arith)
decimal_more (suc n) h = digits_more n (suc n) h ∙ ap (λ (x : List ℕ). x ++ ((48 + suc n % 10) ∷ [])) (digits_count n (suc n / 10) (suc n / 10) (omega arith) (omega arith))

-- so what holds of the digits, and with the tenth part of the number, holds of every number
module _ (P : ℕ → Type 0) (small : (n : ℕ) → n < 10 → P n) (more : (n : ℕ) → 10 ≤ n → P (n / 10) → P n) where
  by_tenths_below : (f n : ℕ) → n ≤ f → P n
  by_tenths_below zero n h = small n (omega arith)
  by_tenths_below (suc f) n h = by_cases (dec_lt n 10) (λ p. small n p) (λ p. more n (omega arith) (by_tenths_below f (n / 10) (omega arith)))

  pub by_tenths : (n : ℕ) → P n
  by_tenths n = by_tenths_below n n (le_of_eq refl)

-- the number that digits stand for, after a number a that was read already
unfoldable pub reading : ℕ → List ℕ → ℕ
reading a [] = a
reading a (x ∷ xs) = reading (a * 10 + (x - 48)) xs

reading_last : (a : ℕ) (xs : List ℕ) (x : ℕ) → reading a (xs ++ (x ∷ [])) ≡ reading a xs * 10 + (x - 48)
unfolding reading
reading_last a [] x = refl
reading_last a (y ∷ xs) x = reading_last (a * 10 + (y - 48)) xs x

reading_none : reading 0 [] ≡ 0
unfolding reading
reading_none = refl

-- read back, the digits of n give n
pub reading_decimal : (n : ℕ) → reading 0 (decimal n) ≡ n
reading_decimal = by_tenths (λ n. reading 0 (decimal n) ≡ n) small more
  where
    small : (n : ℕ) → n < 10 → reading 0 (decimal n) ≡ n
    small n h = ap (reading 0) (decimal_small n h) ∙ reading_last 0 [] (48 + n) ∙ ap (λ (x : ℕ). x * 10 + (48 + n - 48)) reading_none ∙ omega arith

    more : (n : ℕ) → 10 ≤ n → reading 0 (decimal (n / 10)) ≡ n / 10 → reading 0 (decimal n) ≡ n
    more n h p =
        ap (reading 0) (decimal_more n h) ∙ reading_last 0 (decimal (n / 10)) (48 + n % 10) ∙ ap (λ (x : ℕ). x * 10 + (48 + n % 10 - 48)) p ∙ omega arith

length_last : (xs : List ℕ) (x : ℕ) → length (xs ++ (x ∷ [])) ≡ length xs + 1
length_last xs x = length-append xs (x ∷ [])

pub decimal_longer : (n : ℕ) → 10 ≤ n → length (decimal n) ≡ length (decimal (n / 10)) + 1
decimal_longer n h = ap length (decimal_more n h) ∙ length_last (decimal (n / 10)) (48 + n % 10)

-- at least one digit
pub decimal_some : (n : ℕ) → 0 < length (decimal n)
decimal_some n = by_cases (dec_lt n 10) (λ h. le_of_eq (sym (ap length (decimal_small n h)))) (λ h. let e = decimal_longer n (omega arith) in omega arith)

-- "without leading zeros"
pub decimal_first : (n : ℕ) → 0 < n → 48 < get_or (decimal n) 0 0
decimal_first = by_tenths (λ n. 0 < n → 48 < get_or (decimal n) 0 0) small more
  where
    small : (n : ℕ) → n < 10 → 0 < n → 48 < get_or (decimal n) 0 0
    small n h p = subst (λ (x : List ℕ). 48 < get_or x 0 0) (sym (decimal_small n h)) (omega arith)

    more : (n : ℕ) → 10 ≤ n → (0 < n / 10 → 48 < get_or (decimal (n / 10)) 0 0) → 0 < n → 48 < get_or (decimal n) 0 0
    more n h p q =
        lt_of_lt_of_le (p (omega arith))
        (le_of_eq (sym (ap (λ (x : List ℕ). get_or x 0 0) (decimal_more n h) ∙ get_or-append (decimal (n / 10)) ((48 + n % 10) ∷ []) 0 0 (decimal_some (n / 10)))))

-- the code of a digit
abbrev pub Digit : ℕ → Type 0
Digit x = (48 ≤ x) × (x ≤ 57)

-- nothing but digits
pub decimal_digit : (n i : ℕ) → i < length (decimal n) → Digit (get_or (decimal n) i 0)
decimal_digit = by_tenths (λ n. (i : ℕ) → i < length (decimal n) → Digit (get_or (decimal n) i 0)) small more
  where
    one : (x i : ℕ) → i < 1 → x < 10 → Digit (get_or ((48 + x) ∷ []) i 0)
    one x zero h p = (omega arith, omega arith)
    one x (suc i) h p = absurd (omega arith)

    small : (n : ℕ) → n < 10 → (i : ℕ) → i < length (decimal n) → Digit (get_or (decimal n) i 0)
    small n h i l = subst (λ (x : List ℕ). i < length x → Digit (get_or x i 0)) (sym (decimal_small n h)) (λ q. one n i q h) l

    last : (xs : List ℕ) (x : ℕ) → x < 10 → ((i : ℕ) → i < length xs → Digit (get_or xs i 0)) → (i : ℕ) → i < length (xs ++ ((48 + x) ∷ [])) → Digit (get_or (xs ++ ((48 + x) ∷ [])) i 0)
    last xs x p all i l =
        by_cases (dec_lt i (length xs)) (λ q. subst Digit (sym (get_or-append xs ((48 + x) ∷ []) 0 i q)) (all i q))
        (λ q. let e = length_last xs (48 + x) in
        let j : length xs ≡ i = omega arith in
        subst Digit (sym (ap (λ (k : ℕ). get_or (xs ++ ((48 + x) ∷ [])) k 0) (sym j) ∙ get_or-append_seam xs (48 + x) [] 0)) (omega arith, omega arith))

    more : (n : ℕ) → 10 ≤ n → ((i : ℕ) → i < length (decimal (n / 10)) → Digit (get_or (decimal (n / 10)) i 0)) → (i : ℕ) → i < length (decimal n)
        → Digit (get_or (decimal n) i 0)
    more n h p i l =
        subst (λ (x : List ℕ). i < length x → Digit (get_or x i 0)) (sym (decimal_more n h)) (λ q. last (decimal (n / 10)) (n % 10) (omega arith) p i q) l

-- a number below 10^k has at most k digits, and 0 has one
pub decimal_length : (k n : ℕ) → n < 10 ^ suc k → length (decimal n) ≤ suc k
decimal_length zero n h = le_of_eq (ap length (decimal_small n h))
decimal_length (suc k) n h =
    by_cases (dec_lt n 10) (λ p. let e = ap length (decimal_small n p) in omega arith)
    (λ p. let e = decimal_longer n (omega arith) in let d = decimal_length k (n / 10) ((div-lt_iff_lt-mul (omega arith)).1 (lt_of_lt_of_le h (le_of_eq (pow-suc 10 (suc k))))) in omega arith)

-- what the library prints of a number is its decimal
pub decimal_printed : (n : ℕ) → n < 2 ^ 64 → std_decimal n ≡ decimal n
decimal_printed =
    decimal_by_steps (λ n ds. ds ≡ decimal n) (λ n h. sym (decimal_small n h))
    (λ n ds h p. ap (λ (x : List ℕ). x ++ ((48 + n % 10) ∷ [])) p ∙ sym (decimal_more n h))
