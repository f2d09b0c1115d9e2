-- Cases of document 02, E6, beside the table of the flight card and in its form: key pairs and locks.
-- Defined: `lock_rows`. That every row holds is one theorem (proofs/Locks.antt).
use Rattle.std.specs.Prelude.{ℕ, List, [], ◌∷◌}
use Rattle.deduction.specs.Step.{step, unused}
use Rattle.verdict.specs.Card.{Case, case, head}

-- atom 1,000, the public and the private half of pair 7, and the lock of the atom under the public half; heard the lock, then the private half; goal
-- the atom
abbrev pub sheet_public : List ℕ
sheet_public =
    head
    (0 ∷ 4 ∷ 0 ∷ 2 ∷ 0 ∷ 0
    ∷ 0 ∷ 30 ∷ 0 ∷ 3 ∷ 0 ∷ 33 ∷ 0 ∷ 3 ∷ 0 ∷ 36 ∷ 0 ∷ 3 ∷ 0 ∷ 39 ∷ 0 ∷ 5
    ∷ 0 ∷ 3 ∷ 0 ∷ 2
    ∷ 1 ∷ 3 ∷ 232 ∷ 6 ∷ 0 ∷ 7 ∷ 5 ∷ 0 ∷ 7 ∷ 7 ∷ 0 ∷ 0 ∷ 0 ∷ 1 ∷ [])

-- the same with the halves exchanged
abbrev pub sheet_private : List ℕ
sheet_private =
    head
    (0 ∷ 4 ∷ 0 ∷ 2 ∷ 0 ∷ 0
    ∷ 0 ∷ 30 ∷ 0 ∷ 3 ∷ 0 ∷ 33 ∷ 0 ∷ 3 ∷ 0 ∷ 36 ∷ 0 ∷ 3 ∷ 0 ∷ 39 ∷ 0 ∷ 5
    ∷ 0 ∷ 3 ∷ 0 ∷ 2
    ∷ 1 ∷ 3 ∷ 232 ∷ 5 ∷ 0 ∷ 7 ∷ 6 ∷ 0 ∷ 7 ∷ 7 ∷ 0 ∷ 0 ∷ 0 ∷ 1 ∷ [])

-- the half that opens stands above the lock, and was heard first
abbrev pub sheet_above : List ℕ
sheet_above =
    head
    (0 ∷ 4 ∷ 0 ∷ 2 ∷ 0 ∷ 0
    ∷ 0 ∷ 30 ∷ 0 ∷ 3 ∷ 0 ∷ 33 ∷ 0 ∷ 3 ∷ 0 ∷ 36 ∷ 0 ∷ 5 ∷ 0 ∷ 41 ∷ 0 ∷ 3
    ∷ 0 ∷ 3 ∷ 0 ∷ 2
    ∷ 1 ∷ 3 ∷ 232 ∷ 6 ∷ 0 ∷ 7 ∷ 7 ∷ 0 ∷ 0 ∷ 0 ∷ 1 ∷ 5 ∷ 0 ∷ 7 ∷ [])

-- no opposite half on the sheet: heard the lock, its own half, and the private half of pair 8
abbrev pub sheet_shut : List ℕ
sheet_shut =
    head
    (0 ∷ 4 ∷ 0 ∷ 3 ∷ 0 ∷ 0
    ∷ 0 ∷ 32 ∷ 0 ∷ 3 ∷ 0 ∷ 35 ∷ 0 ∷ 3 ∷ 0 ∷ 38 ∷ 0 ∷ 3 ∷ 0 ∷ 41 ∷ 0 ∷ 5
    ∷ 0 ∷ 3 ∷ 0 ∷ 1 ∷ 0 ∷ 2
    ∷ 1 ∷ 3 ∷ 232 ∷ 6 ∷ 0 ∷ 7 ∷ 5 ∷ 0 ∷ 8 ∷ 7 ∷ 0 ∷ 0 ∷ 0 ∷ 1 ∷ [])

-- as case 8 with a lock: the sum of the lock and its message, then the private half
abbrev pub sheet_inside : List ℕ
sheet_inside =
    head
    (0 ∷ 5 ∷ 0 ∷ 2 ∷ 0 ∷ 0
    ∷ 0 ∷ 34 ∷ 0 ∷ 3 ∷ 0 ∷ 37 ∷ 0 ∷ 3 ∷ 0 ∷ 40 ∷ 0 ∷ 3 ∷ 0 ∷ 43 ∷ 0 ∷ 5 ∷ 0 ∷ 48 ∷ 0 ∷ 5
    ∷ 0 ∷ 4 ∷ 0 ∷ 2
    ∷ 1 ∷ 3 ∷ 232 ∷ 6 ∷ 0 ∷ 7 ∷ 5 ∷ 0 ∷ 7 ∷ 7 ∷ 0 ∷ 0 ∷ 0 ∷ 1 ∷ 4 ∷ 0 ∷ 3 ∷ 0 ∷ 0 ∷ [])

-- the private half masked by a sum with atom 1,001; heard the lock, the sum, then the atom
abbrev pub sheet_masked_half : List ℕ
sheet_masked_half =
    head
    (0 ∷ 6 ∷ 0 ∷ 3 ∷ 0 ∷ 0
    ∷ 0 ∷ 40 ∷ 0 ∷ 3 ∷ 0 ∷ 43 ∷ 0 ∷ 3 ∷ 0 ∷ 46 ∷ 0 ∷ 3 ∷ 0 ∷ 49 ∷ 0 ∷ 5 ∷ 0 ∷ 54 ∷ 0 ∷ 3 ∷ 0 ∷ 57 ∷ 0 ∷ 5
    ∷ 0 ∷ 3 ∷ 0 ∷ 5 ∷ 0 ∷ 4
    ∷ 1 ∷ 3 ∷ 232 ∷ 6 ∷ 0 ∷ 7 ∷ 5 ∷ 0 ∷ 7 ∷ 7 ∷ 0 ∷ 0 ∷ 0 ∷ 1 ∷ 1 ∷ 3 ∷ 233 ∷ 4 ∷ 0 ∷ 2 ∷ 0 ∷ 4 ∷ [])

-- the message follows by sum and by unlock; heard the lock, the private half, the sum of the message and atom 1,001, then that atom
abbrev pub sheet_both : List ℕ
sheet_both =
    head
    (0 ∷ 6 ∷ 0 ∷ 4 ∷ 0 ∷ 0
    ∷ 0 ∷ 42 ∷ 0 ∷ 3 ∷ 0 ∷ 45 ∷ 0 ∷ 3 ∷ 0 ∷ 48 ∷ 0 ∷ 3 ∷ 0 ∷ 51 ∷ 0 ∷ 5 ∷ 0 ∷ 56 ∷ 0 ∷ 3 ∷ 0 ∷ 59 ∷ 0 ∷ 5
    ∷ 0 ∷ 3 ∷ 0 ∷ 2 ∷ 0 ∷ 5 ∷ 0 ∷ 4
    ∷ 1 ∷ 3 ∷ 232 ∷ 6 ∷ 0 ∷ 7 ∷ 5 ∷ 0 ∷ 7 ∷ 7 ∷ 0 ∷ 0 ∷ 0 ∷ 1 ∷ 1 ∷ 3 ∷ 233 ∷ 4 ∷ 0 ∷ 0 ∷ 0 ∷ 4 ∷ [])

-- the lock is made; heard the atom, then the public half; goal the lock
abbrev pub sheet_made : List ℕ
sheet_made =
    head
    (0 ∷ 3 ∷ 0 ∷ 2 ∷ 0 ∷ 2
    ∷ 0 ∷ 26 ∷ 0 ∷ 3 ∷ 0 ∷ 29 ∷ 0 ∷ 3 ∷ 0 ∷ 32 ∷ 0 ∷ 5
    ∷ 0 ∷ 0 ∷ 0 ∷ 1
    ∷ 1 ∷ 3 ∷ 232 ∷ 6 ∷ 0 ∷ 7 ∷ 7 ∷ 0 ∷ 0 ∷ 0 ∷ 1 ∷ [])

-- the lock follows by sum and by lock
abbrev pub sheet_made_both : List ℕ
sheet_made_both =
    head
    (0 ∷ 5 ∷ 0 ∷ 4 ∷ 0 ∷ 2
    ∷ 0 ∷ 38 ∷ 0 ∷ 3 ∷ 0 ∷ 41 ∷ 0 ∷ 3 ∷ 0 ∷ 44 ∷ 0 ∷ 5 ∷ 0 ∷ 49 ∷ 0 ∷ 3 ∷ 0 ∷ 52 ∷ 0 ∷ 5
    ∷ 0 ∷ 0 ∷ 0 ∷ 1 ∷ 0 ∷ 4 ∷ 0 ∷ 3
    ∷ 1 ∷ 3 ∷ 232 ∷ 6 ∷ 0 ∷ 7 ∷ 7 ∷ 0 ∷ 0 ∷ 0 ∷ 1 ∷ 1 ∷ 3 ∷ 233 ∷ 4 ∷ 0 ∷ 2 ∷ 0 ∷ 3 ∷ [])

-- the private half of pair 7 alone, nothing heard
abbrev pub sheet_half : List ℕ
sheet_half =
    head
    (0 ∷ 1 ∷ 0 ∷ 0 ∷ 0 ∷ 0
    ∷ 0 ∷ 14 ∷ 0 ∷ 3
    ∷ 5 ∷ 0 ∷ 7 ∷ [])

-- the private half of pair 7 heard; goal its public half
abbrev pub sheet_other_half : List ℕ
sheet_other_half =
    head
    (0 ∷ 2 ∷ 0 ∷ 1 ∷ 0 ∷ 1
    ∷ 0 ∷ 20 ∷ 0 ∷ 3 ∷ 0 ∷ 23 ∷ 0 ∷ 3
    ∷ 0 ∷ 0
    ∷ 5 ∷ 0 ∷ 7 ∷ 6 ∷ 0 ∷ 7 ∷ [])

unfoldable pub lock_rows : List Case
lock_rows =
    -- "Rule 7, unlock, takes a lock and the opposite half of its key": public opened with private and private with public, wherever the half stands
    case sheet_public 1 256 2000 1 0 1 []
    ∷ case sheet_public 2 0 3000 2 0 0 []
    ∷ case sheet_public 2 256 1001 3 0 0 (step 0 7 3 2 0 ∷ [])
    ∷ case sheet_private 2 256 1001 3 0 0 (step 0 7 3 2 0 ∷ [])
    ∷ case sheet_above 1 256 2000 1 0 1 []
    ∷ case sheet_above 2 256 1001 3 0 0 (step 0 7 2 3 0 ∷ [])
    -- "An opposite half without an entry can't be gained": neither the same half opens nor the opposite side of another pair
    ∷ case sheet_shut 3 256 2000 3 0 1 []
    -- a lock inside a sum stays shut; a half masked by a sum opens once it is unmasked
    ∷ case sheet_inside 2 256 2000 2 0 1 []
    ∷ case sheet_masked_half 2 256 2000 2 0 1 []
    ∷ case sheet_masked_half 3 256 1002 5 0 0 (step 2 6 unused unused 48 ∷ step 0 7 3 2 0 ∷ [])
    -- "Both come after sum in the rule order"; "Rule 8, lock, takes message and half"
    ∷ case sheet_both 2 256 1001 3 0 0 (step 0 7 3 2 0 ∷ [])
    ∷ case sheet_both 4 256 1001 5 0 0 (step 0 6 unused unused 48 ∷ [])
    ∷ case sheet_made 1 256 2000 1 0 4 []
    ∷ case sheet_made 2 256 1001 3 0 0 (step 2 8 0 1 0 ∷ [])
    ∷ case sheet_made_both 4 256 1001 5 0 0 (step 2 6 unused unused 24 ∷ [])
    -- "neither is public knowledge", though its number is below 256; a half is not its opposite
    ∷ case sheet_half 0 0 2000 0 0 1 []
    ∷ case sheet_other_half 1 256 2000 1 0 2 []
    ∷ []
