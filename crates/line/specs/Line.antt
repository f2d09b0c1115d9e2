-- The lines of the flight card, byte by byte, each with its newline.
-- Defined: `spaced`, a number after a space, and `field`, after a word; `sources`, a sum's sources; `rule_text`, the rest of a rung line after its head; and a definition a line.
use Rattle.std.specs.Prelude.{ℕ, zero, suc, List, [], ◌∷◌, ◌++◌, cond, get_or}
use Rattle.bitset.specs.Set.{member}
use Rattle.line.specs.Decimal.{decimal}
use Rattle.line.specs.Words.{goal_word, trace_word, cut_word, out_of_reach_word, reached_word, step_word, left_word, right_word, open_word, join_word, seal_word, sum_word, unlock_word, lock_word, refused_word, newline}

-- " N"
abbrev pub spaced : ℕ → List ℕ
spaced n = 32 ∷ decimal n

-- a word and a number: "goal 3"
abbrev pub field : List ℕ → ℕ → List ℕ
field word n = word ++ spaced n

-- what entry e adds to the sources of the set s
abbrev pub source : ℕ → ℕ → List ℕ
source s e = cond (member s e) (spaced e) []

-- "a sum's in rising order": the members of s below n
unfoldable pub sources : ℕ → ℕ → List ℕ
sources s zero = []
sources s (suc n) = sources s n ++ source s n

-- "the rule (`left`, `right`, `open`, `join`, `seal`, `sum`) and its sources", and document 02, E6: "Both .. print `unlock` and `lock`"; by the rule's
-- number from 1 to 8; nothing for any other number
unfoldable pub rule_text : ℕ → ℕ → ℕ → ℕ → List ℕ
rule_text rule first second set =
    get_or
    ([]
    ∷ (field left_word first)
    ∷ (field right_word first)
    ∷ (field open_word first ++ spaced second)
    ∷ (field join_word first ++ spaced second)
    ∷ (field seal_word first ++ spaced second)
    ∷ (sum_word ++ sources set 256)
    ∷ (field unlock_word first ++ spaced second)
    ∷ (field lock_word first ++ spaced second)
    ∷ [])
    rule
    []

-- a line of two words, a number after each
abbrev pub pair_line : List ℕ → ℕ → List ℕ → ℕ → List ℕ
pair_line before a between b = field before a ++ field between b ++ newline

-- goal G heard H
abbrev pub goal_line : ℕ → ℕ → List ℕ
goal_line goal trace = pair_line goal_word goal trace_word trace

-- cut C out of reach known K
abbrev pub out_line : ℕ → ℕ → List ℕ
out_line cut known = pair_line cut_word cut out_of_reach_word known

-- cut C reached rungs R
abbrev pub reached_line : ℕ → ℕ → List ℕ
reached_line cut made = pair_line cut_word cut reached_word made

-- rung HEAD WORD SOURCES
abbrev pub step_line : ℕ → ℕ → ℕ → ℕ → ℕ → List ℕ
step_line head rule first second set = field step_word head ++ rule_text rule first second set ++ newline

-- refused N
abbrev pub refused_line : ℕ → List ℕ
refused_line refusal = field refused_word refusal ++ newline
