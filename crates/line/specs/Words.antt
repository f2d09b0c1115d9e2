-- The words of the card as the codes of their letters. A word that stands after a number starts with a space, 32.
use Rattle.std.specs.Prelude.{ℕ, List, [], ◌∷◌}

-- "goal"
abbrev pub goal_word : List ℕ
goal_word = 103 ∷ 111 ∷ 97 ∷ 108 ∷ []

-- " heard"
abbrev pub trace_word : List ℕ
trace_word = 32 ∷ 104 ∷ 101 ∷ 97 ∷ 114 ∷ 100 ∷ []

-- "cut"
abbrev pub cut_word : List ℕ
cut_word = 99 ∷ 117 ∷ 116 ∷ []

-- " out of reach known"
abbrev pub out_of_reach_word : List ℕ
out_of_reach_word = 32 ∷ 111 ∷ 117 ∷ 116 ∷ 32 ∷ 111 ∷ 102 ∷ 32 ∷ 114 ∷ 101 ∷ 97 ∷ 99 ∷ 104 ∷ 32 ∷ 107 ∷ 110 ∷ 111 ∷ 119 ∷ 110 ∷ []

-- " reached rungs"
abbrev pub reached_word : List ℕ
reached_word = 32 ∷ 114 ∷ 101 ∷ 97 ∷ 99 ∷ 104 ∷ 101 ∷ 100 ∷ 32 ∷ 114 ∷ 117 ∷ 110 ∷ 103 ∷ 115 ∷ []

-- "rung"
abbrev pub step_word : List ℕ
step_word = 114 ∷ 117 ∷ 110 ∷ 103 ∷ []

-- " left"
abbrev pub left_word : List ℕ
left_word = 32 ∷ 108 ∷ 101 ∷ 102 ∷ 116 ∷ []

-- " right"
abbrev pub right_word : List ℕ
right_word = 32 ∷ 114 ∷ 105 ∷ 103 ∷ 104 ∷ 116 ∷ []

-- " open"
abbrev pub open_word : List ℕ
open_word = 32 ∷ 111 ∷ 112 ∷ 101 ∷ 110 ∷ []

-- " join"
abbrev pub join_word : List ℕ
join_word = 32 ∷ 106 ∷ 111 ∷ 105 ∷ 110 ∷ []

-- " seal"
abbrev pub seal_word : List ℕ
seal_word = 32 ∷ 115 ∷ 101 ∷ 97 ∷ 108 ∷ []

-- " sum"
abbrev pub sum_word : List ℕ
sum_word = 32 ∷ 115 ∷ 117 ∷ 109 ∷ []

-- " unlock"
abbrev pub unlock_word : List ℕ
unlock_word = 32 ∷ 117 ∷ 110 ∷ 108 ∷ 111 ∷ 99 ∷ 107 ∷ []

-- " lock"
abbrev pub lock_word : List ℕ
lock_word = 32 ∷ 108 ∷ 111 ∷ 99 ∷ 107 ∷ []

-- "refused"
abbrev pub refused_word : List ℕ
refused_word = 114 ∷ 101 ∷ 102 ∷ 117 ∷ 115 ∷ 101 ∷ 100 ∷ []

-- the end of a line
abbrev pub newline : List ℕ
newline = 10 ∷ []
