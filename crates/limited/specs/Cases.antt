-- Cases of document 02, E11, in the form of the flight card's table (verdict/specs/Card.antt), each with its byte of switches.
-- Defined: `limited_rows`, the table, and `AllYieldBy`, what it claims of the definitions. That every row holds is one theorem (proofs/Cases.antt).
use Rattle.std.specs.Prelude.{ℕ, List, [], ◌∷◌}
use Rattle.deduction.specs.Setting.{switches}
use Rattle.deduction.specs.Step.{step, unused}
use Rattle.verdict.specs.Card.{Case, case, head, sheet_a, sheet4, sheet5, sheet_pad, sheet_other, sum_step, open_step, Yields}
use Rattle.verdict.specs.Locks.{sheet_public, sheet_made}

-- atoms 1,000 and 1,001 and their pair; heard the pair; goal the left, or the right
abbrev pub sheet_left : List ℕ
sheet_left =
    head (0 ∷ 3 ∷ 0 ∷ 1 ∷ 0 ∷ 0 ∷ 0 ∷ 24 ∷ 0 ∷ 3 ∷ 0 ∷ 27 ∷ 0 ∷ 3 ∷ 0 ∷ 30 ∷ 0 ∷ 5 ∷ 0 ∷ 2 ∷ 1 ∷ 3 ∷ 232 ∷ 1 ∷ 3 ∷ 233 ∷ 2 ∷ 0 ∷ 0 ∷ 0 ∷ 1 ∷ [])

abbrev pub sheet_right : List ℕ
sheet_right =
    head (0 ∷ 3 ∷ 0 ∷ 1 ∷ 0 ∷ 1 ∷ 0 ∷ 24 ∷ 0 ∷ 3 ∷ 0 ∷ 27 ∷ 0 ∷ 3 ∷ 0 ∷ 30 ∷ 0 ∷ 5 ∷ 0 ∷ 2 ∷ 1 ∷ 3 ∷ 232 ∷ 1 ∷ 3 ∷ 233 ∷ 2 ∷ 0 ∷ 0 ∷ 0 ∷ 1 ∷ [])

-- the same atoms and their pair, and entry 3 the sum of 0, 2 and 0, which is the same term as the pair; heard the sum; goal the left
abbrev pub sheet_same : List ℕ
sheet_same =
    head
    (0 ∷ 4 ∷ 0 ∷ 1 ∷ 0 ∷ 0 ∷ 0 ∷ 28 ∷ 0 ∷ 3 ∷ 0 ∷ 31 ∷ 0 ∷ 3 ∷ 0 ∷ 34 ∷ 0 ∷ 5 ∷ 0 ∷ 39 ∷ 0 ∷ 7 ∷ 0 ∷ 3
    ∷ 1 ∷ 3 ∷ 232 ∷ 1 ∷ 3 ∷ 233 ∷ 2 ∷ 0 ∷ 0 ∷ 0 ∷ 1 ∷ 4 ∷ 0 ∷ 0 ∷ 0 ∷ 2 ∷ 0 ∷ 0 ∷ [])

-- the same atoms, and 0 sealed under 1; heard both atoms; goal the seal
abbrev pub sheet_sealed : List ℕ
sheet_sealed =
    head (0 ∷ 3 ∷ 0 ∷ 2 ∷ 0 ∷ 2 ∷ 0 ∷ 26 ∷ 0 ∷ 3 ∷ 0 ∷ 29 ∷ 0 ∷ 3 ∷ 0 ∷ 32 ∷ 0 ∷ 5 ∷ 0 ∷ 0 ∷ 0 ∷ 1 ∷ 1 ∷ 3 ∷ 232 ∷ 1 ∷ 3 ∷ 233 ∷ 3 ∷ 0 ∷ 0 ∷ 0 ∷ 1 ∷ [])

-- zero, and its pair with itself; heard the pair; goal zero
abbrev pub sheet_zero : List ℕ
sheet_zero = head (0 ∷ 2 ∷ 0 ∷ 1 ∷ 0 ∷ 0 ∷ 0 ∷ 20 ∷ 0 ∷ 1 ∷ 0 ∷ 21 ∷ 0 ∷ 5 ∷ 0 ∷ 1 ∷ 0 ∷ 2 ∷ 0 ∷ 0 ∷ 0 ∷ 0 ∷ [])

unfoldable pub limited_rows : List (ℕ × Case)
limited_rows =
    -- every rule; the two that the ladder of sheet A needs, and with one of them off; none
    (255, case sheet_a 3 256 1002 5 0 0 (sum_step ∷ open_step ∷ []))
    ∷ (36, case sheet_a 3 256 1002 5 0 0 (sum_step ∷ open_step ∷ []))
    ∷ (36, case sheet_a 3 1 3001 4 0 0 (sum_step ∷ []))
    ∷ (223, case sheet_a 3 256 2000 3 0 8 [])
    ∷ (251, case sheet_a 3 256 2001 4 0 8 (sum_step ∷ []))
    ∷ (0, case sheet_a 3 256 2000 3 0 8 [])
    -- "Without sum, zero isn't free and is gained only like other terms": as the left or the right of a pair. Its own set is empty
    ∷ (32, case sheet4 0 256 1001 1 0 0 (step 0 6 unused unused 0 ∷ []))
    ∷ (223, case sheet4 0 256 2000 0 0 0 [])
    ∷ (40, case sheet5 0 256 1002 2 0 0 (step 0 6 unused unused 0 ∷ step 1 4 0 0 0 ∷ []))
    ∷ (32, case sheet5 0 256 2001 1 0 2 (step 0 6 unused unused 0 ∷ []))
    ∷ (8, case sheet5 0 256 2000 0 0 2 [])
    ∷ (1, case sheet_zero 1 256 1001 2 0 0 (step 0 1 1 unused 0 ∷ []))
    ∷ (222, case sheet_zero 1 256 1001 2 0 0 (step 0 2 1 unused 0 ∷ []))
    -- "at out of reach the used set is then empty and the remainder is the goal's own set", not the goal's own number
    ∷ (223, case sheet_pad 1 256 2000 1 0 2 [])
    ∷ (223, case sheet_other 1 256 2000 1 0 2 [])
    -- each of the other rules alone, and all but it
    ∷ (1, case sheet_left 1 256 1001 2 0 0 (step 0 1 2 unused 0 ∷ []))
    ∷ (254, case sheet_left 1 256 2001 2 0 1 (step 1 2 2 unused 0 ∷ []))
    ∷ (2, case sheet_right 1 256 1001 2 0 0 (step 1 2 2 unused 0 ∷ []))
    ∷ (253, case sheet_right 1 256 2001 2 0 2 (step 0 1 2 unused 0 ∷ []))
    ∷ (16, case sheet_sealed 2 256 1001 3 0 0 (step 2 5 0 1 0 ∷ []))
    ∷ (239, case sheet_sealed 2 256 2000 2 0 4 [])
    ∷ (64, case sheet_public 2 256 1001 3 0 0 (step 0 7 3 2 0 ∷ []))
    ∷ (191, case sheet_public 2 256 2000 2 0 1 [])
    ∷ (128, case sheet_made 2 256 1001 3 0 0 (step 2 8 0 1 0 ∷ []))
    ∷ (127, case sheet_made 2 256 2000 2 0 4 [])
    -- open doesn't unlock, and seal doesn't lock
    ∷ (4, case sheet_public 2 256 2000 2 0 1 [])
    ∷ (16, case sheet_made 2 256 2000 2 0 4 [])
    -- "Sameness keeps the four laws in each setting": a heard sum that is the same as a pair is split without sum
    ∷ (1, case sheet_same 1 256 1001 2 0 0 (step 0 1 2 unused 0 ∷ []))
    ∷ []

-- with the rules that its byte switches on, the definitions yield each row
abbrev pub AllYieldBy : List (ℕ × Case) → Type 0
AllYieldBy [] = Unit {0}
AllYieldBy ((w, c) ∷ rows) = Yields (switches w) c × AllYieldBy rows
