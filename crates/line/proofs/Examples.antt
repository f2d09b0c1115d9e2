-- The card of sheet A, line by line, by computation: the codes of the letters that document 01 prints.
use mathlib.Core.Path.{◌≡◌, refl}
use mathlib.Core.List.{[], ◌∷◌}
use Rattle.bitset.specs.Set.{member}
use Rattle.line.specs.Decimal.{digits, decimal}
use Rattle.line.specs.Line.{sources, rule_text, goal_line, out_line, reached_line, step_line, refused_line}

-- "goal 3 heard 3"
goal_example : goal_line 3 3 ≡ 103 ∷ 111 ∷ 97 ∷ 108 ∷ 32 ∷ 51 ∷ 32 ∷ 104 ∷ 101 ∷ 97 ∷ 114 ∷ 100 ∷ 32 ∷ 51 ∷ 10 ∷ []
unfolding digits decimal sources rule_text member
goal_example = refl

-- "cut 2 out of reach known 2"
out_example : out_line 2 2 ≡ 99 ∷ 117 ∷ 116 ∷ 32 ∷ 50 ∷ 32 ∷ 111 ∷ 117 ∷ 116 ∷ 32 ∷ 111 ∷ 102 ∷ 32 ∷ 114 ∷ 101 ∷ 97 ∷ 99 ∷ 104 ∷ 32 ∷ 107 ∷ 110 ∷ 111 ∷ 119 ∷ 110 ∷ 32 ∷ 50 ∷ 10 ∷ []
unfolding digits decimal sources rule_text member
out_example = refl

-- "cut 3 reached rungs 2"
reached_example : reached_line 3 2 ≡ 99 ∷ 117 ∷ 116 ∷ 32 ∷ 51 ∷ 32 ∷ 114 ∷ 101 ∷ 97 ∷ 99 ∷ 104 ∷ 101 ∷ 100 ∷ 32 ∷ 114 ∷ 117 ∷ 110 ∷ 103 ∷ 115 ∷ 32 ∷ 50 ∷ 10 ∷ []
unfolding digits decimal sources rule_text member
reached_example = refl

-- "rung 0 sum 1 2"
sum_example : step_line 0 6 65535 65535 6 ≡ 114 ∷ 117 ∷ 110 ∷ 103 ∷ 32 ∷ 48 ∷ 32 ∷ 115 ∷ 117 ∷ 109 ∷ 32 ∷ 49 ∷ 32 ∷ 50 ∷ 10 ∷ []
unfolding digits decimal sources rule_text member
sum_example = refl

-- "rung 3 open 4 0"
open_example : step_line 3 3 4 0 0 ≡ 114 ∷ 117 ∷ 110 ∷ 103 ∷ 32 ∷ 51 ∷ 32 ∷ 111 ∷ 112 ∷ 101 ∷ 110 ∷ 32 ∷ 52 ∷ 32 ∷ 48 ∷ 10 ∷ []
unfolding digits decimal sources rule_text member
open_example = refl

-- "rung 0 unlock 3 2"
unlock_example : step_line 0 7 3 2 0 ≡ 114 ∷ 117 ∷ 110 ∷ 103 ∷ 32 ∷ 48 ∷ 32 ∷ 117 ∷ 110 ∷ 108 ∷ 111 ∷ 99 ∷ 107 ∷ 32 ∷ 51 ∷ 32 ∷ 50 ∷ 10 ∷ []
unfolding digits decimal sources rule_text member
unlock_example = refl

-- "rung 2 lock 0 1"
lock_example : step_line 2 8 0 1 0 ≡ 114 ∷ 117 ∷ 110 ∷ 103 ∷ 32 ∷ 50 ∷ 32 ∷ 108 ∷ 111 ∷ 99 ∷ 107 ∷ 32 ∷ 48 ∷ 32 ∷ 49 ∷ 10 ∷ []
unfolding digits decimal sources rule_text member
lock_example = refl

-- "rung 0 sum"
empty_sum_example : step_line 0 6 65535 65535 0 ≡ 114 ∷ 117 ∷ 110 ∷ 103 ∷ 32 ∷ 48 ∷ 32 ∷ 115 ∷ 117 ∷ 109 ∷ 10 ∷ []
unfolding digits decimal sources rule_text member
empty_sum_example = refl

-- "rung 107 left 255"
left_example : step_line 107 1 255 65535 0 ≡ 114 ∷ 117 ∷ 110 ∷ 103 ∷ 32 ∷ 49 ∷ 48 ∷ 55 ∷ 32 ∷ 108 ∷ 101 ∷ 102 ∷ 116 ∷ 32 ∷ 50 ∷ 53 ∷ 53 ∷ 10 ∷ []
unfolding digits decimal sources rule_text member
left_example = refl

-- "refused 10"
refused_example : refused_line 10 ≡ 114 ∷ 101 ∷ 102 ∷ 117 ∷ 115 ∷ 101 ∷ 100 ∷ 32 ∷ 49 ∷ 48 ∷ 10 ∷ []
unfolding digits decimal sources rule_text member
refused_example = refl
