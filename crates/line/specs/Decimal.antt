-- Numbers in decimal, "without leading zeros", as the codes of their digits: 48 is the code of 0.
-- Defined: `decimal`. That reading the digits back gives the number, and that none starts with a zero but 0 itself, is shown in proofs/Laws/Decimal.antt.
use Rattle.std.specs.Prelude.{ℕ, zero, suc, ◌+◌, ◌/◌, ◌%◌, List, [], ◌∷◌, ◌++◌, cond, ltb}

-- a number below 10 is one digit; any other is the digits of its tenth part, and its last digit. f, which counts down, is at least n
unfoldable pub digits : ℕ → ℕ → List ℕ
digits zero n = (48 + n) ∷ []
digits (suc f) n = cond (ltb n 10) ((48 + n) ∷ []) (digits f (n / 10) ++ ((48 + n % 10) ∷ []))

unfoldable pub decimal : ℕ → List ℕ
decimal n = digits n n
