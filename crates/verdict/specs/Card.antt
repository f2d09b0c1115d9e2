-- The starred cases of the flight card, and cases of document 02: sheet, cut and budget; the answer, the number of known entries, the used set, the
-- remainder, and the rungs. The buffer is as long as the budget needs. Document 02, E2: "Sheet A and the other cases that use atoms now take 1,000 plus
-- their old numbers, so their printed results hold."
-- Defined: `rows`, the table, and `Yields`, what a row claims of the definitions. That every row holds is one theorem (proofs/Card.antt).
use Rattle.std.specs.Prelude.{ℕ, ◌+◌, ◌*◌, ◌≡◌, List, [], ◌∷◌}
use Rattle.std.specs.Int.Count.{ones}
use Rattle.deduction.specs.Setting.{Setting}
use Rattle.deduction.specs.Run.{knowledge}
use Rattle.dag.specs.Record.{entry_at}
use Rattle.deduction.specs.Step.{Step, step, unused}
use Rattle.verdict.specs.Buffer.{front}
use Rattle.verdict.specs.Refused.{full_limit}
use Rattle.verdict.specs.Answer.{outcome_of, answer_of, missing_of}

pub record Case : Type 0 where
  pub sheet : List ℕ
  pub cut : ℕ
  pub budget : ℕ
  pub answer : ℕ
  pub known : ℕ
  pub used : ℕ
  pub remainder : ℕ
  pub steps : List Step

abbrev pub case : List ℕ → ℕ → ℕ → ℕ → ℕ → ℕ → ℕ → List Step → Case
case s cut budget answer known used remainder steps =
    record { sheet = s; cut = cut; budget = budget; answer = answer; known = known; used = used; remainder = remainder; steps = steps }

-- the letters SHT1, and two-byte numbers
abbrev pub head : List ℕ → List ℕ
head l = 0x53 ∷ 0x48 ∷ 0x54 ∷ 0x31 ∷ l

-- "Sheet A has atoms 7, 9 as entries 0, 1; entry 2 sum of 0 and 1; entry 3 atom 12; entry 4 seal of 3 under 0; heard 2, 4, 1; goal 3; 55 bytes",
-- the atoms now 1,007, 1,009 and 1,012
abbrev pub sheet_a : List ℕ
sheet_a =
    head
    (0 ∷ 5 ∷ 0 ∷ 3 ∷ 0 ∷ 3
    ∷ 0 ∷ 36 ∷ 0 ∷ 3 ∷ 0 ∷ 39 ∷ 0 ∷ 3 ∷ 0 ∷ 42 ∷ 0 ∷ 5 ∷ 0 ∷ 47 ∷ 0 ∷ 3 ∷ 0 ∷ 50 ∷ 0 ∷ 5
    ∷ 0 ∷ 2 ∷ 0 ∷ 4 ∷ 0 ∷ 1
    ∷ 1 ∷ 3 ∷ 239 ∷ 1 ∷ 3 ∷ 241 ∷ 4 ∷ 0 ∷ 0 ∷ 0 ∷ 1 ∷ 1 ∷ 3 ∷ 244 ∷ 3 ∷ 0 ∷ 3 ∷ 0 ∷ 0 ∷ [])

-- "One entry, zero, nothing heard, goal 0"
abbrev pub sheet4 : List ℕ
sheet4 = head (0 ∷ 1 ∷ 0 ∷ 0 ∷ 0 ∷ 0 ∷ 0 ∷ 14 ∷ 0 ∷ 1 ∷ 0 ∷ [])

-- "Zero, and its pair with itself, nothing heard, goal the pair"
abbrev pub sheet5 : List ℕ
sheet5 = head (0 ∷ 2 ∷ 0 ∷ 0 ∷ 0 ∷ 1 ∷ 0 ∷ 18 ∷ 0 ∷ 1 ∷ 0 ∷ 19 ∷ 0 ∷ 5 ∷ 0 ∷ 2 ∷ 0 ∷ 0 ∷ 0 ∷ 0 ∷ [])

-- "Atom; sum of 0, 0; sum of 0, 1; heard entry 2, goal 0"
abbrev pub sheet6 : List ℕ
sheet6 =
    head
    (0 ∷ 3 ∷ 0 ∷ 1 ∷ 0 ∷ 0 ∷ 0 ∷ 24 ∷ 0 ∷ 3 ∷ 0 ∷ 27 ∷ 0 ∷ 5 ∷ 0 ∷ 32 ∷ 0 ∷ 5 ∷ 0 ∷ 2 ∷ 1 ∷ 3 ∷ 233 ∷ 4 ∷ 0 ∷ 0 ∷ 0 ∷ 0 ∷ 4 ∷ 0 ∷ 0 ∷ 0 ∷ 1 ∷ [])

-- "Atom; it sealed under itself; the seal heard; goal the atom"
abbrev pub sheet7 : List ℕ
sheet7 = head (0 ∷ 2 ∷ 0 ∷ 1 ∷ 0 ∷ 0 ∷ 0 ∷ 20 ∷ 0 ∷ 3 ∷ 0 ∷ 23 ∷ 0 ∷ 5 ∷ 0 ∷ 1 ∷ 1 ∷ 3 ∷ 233 ∷ 3 ∷ 0 ∷ 0 ∷ 0 ∷ 0 ∷ [])

-- "Different atoms m, k, then seal of m under k, sum of that seal and m; heard the sum, then k; goal m"
abbrev pub sheet8 : List ℕ
sheet8 =
    head
    (0 ∷ 4 ∷ 0 ∷ 2 ∷ 0 ∷ 0 ∷ 0 ∷ 30 ∷ 0 ∷ 3 ∷ 0 ∷ 33 ∷ 0 ∷ 3 ∷ 0 ∷ 36 ∷ 0 ∷ 5 ∷ 0 ∷ 41 ∷ 0 ∷ 5 ∷ 0 ∷ 3 ∷ 0 ∷ 1
    ∷ 1 ∷ 3 ∷ 233 ∷ 1 ∷ 3 ∷ 234 ∷ 3 ∷ 0 ∷ 0 ∷ 0 ∷ 1 ∷ 4 ∷ 0 ∷ 2 ∷ 0 ∷ 0 ∷ [])

-- one entry, atom 255, nothing heard; and atom 256 in its place
abbrev pub sheet255 : List ℕ
sheet255 = head (0 ∷ 1 ∷ 0 ∷ 0 ∷ 0 ∷ 0 ∷ 0 ∷ 14 ∷ 0 ∷ 3 ∷ 1 ∷ 0 ∷ 255 ∷ [])

abbrev pub sheet256 : List ℕ
sheet256 = head (0 ∷ 1 ∷ 0 ∷ 0 ∷ 0 ∷ 0 ∷ 0 ∷ 14 ∷ 0 ∷ 3 ∷ 1 ∷ 1 ∷ 0 ∷ [])

-- atom 0 twice, nothing heard, goal the second
abbrev pub sheet_twice : List ℕ
sheet_twice = head (0 ∷ 2 ∷ 0 ∷ 0 ∷ 0 ∷ 1 ∷ 0 ∷ 18 ∷ 0 ∷ 3 ∷ 0 ∷ 21 ∷ 0 ∷ 3 ∷ 1 ∷ 0 ∷ 0 ∷ 1 ∷ 0 ∷ 0 ∷ [])

-- atoms 1,000, 7 and 1,001 as entries 0, 1, 3; entry 2 sum of 0 and 1; entry 4 sum of 1 and 3; heard 0, 2, 4; goal 3
abbrev pub sheet_masked : List ℕ
sheet_masked =
    head
    (0 ∷ 5 ∷ 0 ∷ 3 ∷ 0 ∷ 3
    ∷ 0 ∷ 36 ∷ 0 ∷ 3 ∷ 0 ∷ 39 ∷ 0 ∷ 3 ∷ 0 ∷ 42 ∷ 0 ∷ 5 ∷ 0 ∷ 47 ∷ 0 ∷ 3 ∷ 0 ∷ 50 ∷ 0 ∷ 5
    ∷ 0 ∷ 0 ∷ 0 ∷ 2 ∷ 0 ∷ 4
    ∷ 1 ∷ 3 ∷ 232 ∷ 1 ∷ 0 ∷ 7 ∷ 4 ∷ 0 ∷ 0 ∷ 0 ∷ 1 ∷ 1 ∷ 3 ∷ 233 ∷ 4 ∷ 0 ∷ 1 ∷ 0 ∷ 3 ∷ [])

-- atoms 1,000 and 1,001 as entries 0, 1; entry 2 their sum; heard 2; goal 1
abbrev pub sheet_pad : List ℕ
sheet_pad =
    head (0 ∷ 3 ∷ 0 ∷ 1 ∷ 0 ∷ 1 ∷ 0 ∷ 24 ∷ 0 ∷ 3 ∷ 0 ∷ 27 ∷ 0 ∷ 3 ∷ 0 ∷ 30 ∷ 0 ∷ 5 ∷ 0 ∷ 2 ∷ 1 ∷ 3 ∷ 232 ∷ 1 ∷ 3 ∷ 233 ∷ 4 ∷ 0 ∷ 0 ∷ 0 ∷ 1 ∷ [])

-- the same, and entry 3 the sum of 1 alone, which is the goal
abbrev pub sheet_other : List ℕ
sheet_other =
    head
    (0 ∷ 4 ∷ 0 ∷ 1 ∷ 0 ∷ 3 ∷ 0 ∷ 28 ∷ 0 ∷ 3 ∷ 0 ∷ 31 ∷ 0 ∷ 3 ∷ 0 ∷ 34 ∷ 0 ∷ 5 ∷ 0 ∷ 39 ∷ 0 ∷ 3 ∷ 0 ∷ 2
    ∷ 1 ∷ 3 ∷ 232 ∷ 1 ∷ 3 ∷ 233 ∷ 4 ∷ 0 ∷ 0 ∷ 0 ∷ 1 ∷ 4 ∷ 0 ∷ 1 ∷ [])

-- atoms 1,000, 1,001 and 1,002 as entries 0, 1, 3; entry 2 sum of 0 and 1; entry 4 sum of 1 and 3; heard 2; goal 4
abbrev pub sheet_below : List ℕ
sheet_below =
    head
    (0 ∷ 5 ∷ 0 ∷ 1 ∷ 0 ∷ 4
    ∷ 0 ∷ 32 ∷ 0 ∷ 3 ∷ 0 ∷ 35 ∷ 0 ∷ 3 ∷ 0 ∷ 38 ∷ 0 ∷ 5 ∷ 0 ∷ 43 ∷ 0 ∷ 3 ∷ 0 ∷ 46 ∷ 0 ∷ 5
    ∷ 0 ∷ 2
    ∷ 1 ∷ 3 ∷ 232 ∷ 1 ∷ 3 ∷ 233 ∷ 4 ∷ 0 ∷ 0 ∷ 0 ∷ 1 ∷ 1 ∷ 3 ∷ 234 ∷ 4 ∷ 0 ∷ 1 ∷ 0 ∷ 3 ∷ [])

-- the same atoms; entry 2 sum of 0 and 1; entry 4 sum of 0, 1 and 3; heard 0, 1, 2; goal 4
abbrev pub sheet_drawn : List ℕ
sheet_drawn =
    head
    (0 ∷ 5 ∷ 0 ∷ 3 ∷ 0 ∷ 4
    ∷ 0 ∷ 36 ∷ 0 ∷ 3 ∷ 0 ∷ 39 ∷ 0 ∷ 3 ∷ 0 ∷ 42 ∷ 0 ∷ 5 ∷ 0 ∷ 47 ∷ 0 ∷ 3 ∷ 0 ∷ 50 ∷ 0 ∷ 7
    ∷ 0 ∷ 0 ∷ 0 ∷ 1 ∷ 0 ∷ 2
    ∷ 1 ∷ 3 ∷ 232 ∷ 1 ∷ 3 ∷ 233 ∷ 4 ∷ 0 ∷ 0 ∷ 0 ∷ 1 ∷ 1 ∷ 3 ∷ 234 ∷ 4 ∷ 0 ∷ 0 ∷ 0 ∷ 1 ∷ 0 ∷ 3 ∷ [])

-- one entry, atom 255 in the long record, nothing heard; and atom 65,543 in its place, which is 65,536 and 7
abbrev pub sheet_long255 : List ℕ
sheet_long255 = head (0 ∷ 1 ∷ 0 ∷ 0 ∷ 0 ∷ 0 ∷ 0 ∷ 14 ∷ 0 ∷ 5 ∷ 1 ∷ 0 ∷ 0 ∷ 0 ∷ 255 ∷ [])

abbrev pub sheet65543 : List ℕ
sheet65543 = head (0 ∷ 1 ∷ 0 ∷ 0 ∷ 0 ∷ 0 ∷ 0 ∷ 14 ∷ 0 ∷ 5 ∷ 1 ∷ 0 ∷ 1 ∷ 0 ∷ 7 ∷ [])

-- atom 1,000 in the short record, then in the long one; heard the first, goal the second
abbrev pub sheet_either : List ℕ
sheet_either = head (0 ∷ 2 ∷ 0 ∷ 1 ∷ 0 ∷ 1 ∷ 0 ∷ 20 ∷ 0 ∷ 3 ∷ 0 ∷ 23 ∷ 0 ∷ 5 ∷ 0 ∷ 0 ∷ 1 ∷ 3 ∷ 232 ∷ 1 ∷ 0 ∷ 0 ∷ 3 ∷ 232 ∷ [])

-- atom 66,536, which is 65,536 and 1,000, then atom 1,000; heard the first, goal the second
abbrev pub sheet_high : List ℕ
sheet_high = head (0 ∷ 2 ∷ 0 ∷ 1 ∷ 0 ∷ 1 ∷ 0 ∷ 20 ∷ 0 ∷ 5 ∷ 0 ∷ 25 ∷ 0 ∷ 3 ∷ 0 ∷ 0 ∷ 1 ∷ 0 ∷ 1 ∷ 3 ∷ 232 ∷ 1 ∷ 3 ∷ 232 ∷ [])

-- the rungs of sheet A at cut 3: "rung 0 sum 1 2" and "rung 3 open 4 0"
abbrev pub sum_step : Step
sum_step = step 0 6 unused unused 6

abbrev pub open_step : Step
open_step = step 3 3 4 0 0

-- the rung of the masked sheet at cut 3: "rung 3 sum 1 4". Atom 7 is gained first, so that entry 2 is a sum of those before it
abbrev pub unmask_step : Step
unmask_step = step 3 6 unused unused 18

unfoldable pub rows : List Case
rows =
    -- the card of sheet A, cut by cut; its goal is what is missing
    case sheet_a 0 256 2000 0 0 8 []
    ∷ case sheet_a 1 256 2000 1 0 8 []
    ∷ case sheet_a 2 256 2000 2 0 8 []
    -- cases 1 to 3; "They are zero for the other verdicts"
    ∷ case sheet_a 3 256 1002 5 0 0 (sum_step ∷ open_step ∷ [])
    ∷ case sheet_a 2 0 2000 2 0 8 []
    ∷ case sheet_a 3 0 3000 3 0 0 []
    ∷ case sheet_a 3 1 3001 4 0 0 (sum_step ∷ [])
    ∷ case sheet_a 3 2 1002 5 0 0 (sum_step ∷ open_step ∷ [])
    -- cases 4 to 8
    ∷ case sheet4 0 256 1001 1 0 0 (step 0 6 unused unused 0 ∷ [])
    ∷ case sheet5 0 256 1002 2 0 0 (step 0 6 unused unused 0 ∷ step 1 4 0 0 0 ∷ [])
    ∷ case sheet6 1 256 1000 1 0 0 []
    ∷ case sheet7 1 256 2000 1 0 1 []
    ∷ case sheet8 2 256 2000 2 0 1 []
    -- document 02, E2: 255 is on the hull label and 256 isn't; twice on the sheet and gained once; a sum draws on what the label shows
    ∷ case sheet255 0 0 1000 1 0 0 []
    ∷ case sheet256 0 0 2000 0 0 1 []
    ∷ case sheet_twice 0 0 1000 1 0 0 []
    ∷ case sheet_masked 0 256 2000 1 0 8 []
    ∷ case sheet_masked 3 256 1001 5 0 0 (unmask_step ∷ [])
    -- document 02, E5: of entry 1 the sum 2 is used and entry 0 is missing, and nothing is used before 2 is heard; the same of another entry with its
    -- term; a highest-numbered entry of a sum below the goal's own; of the terms that are a sum of earlier ones none is used
    ∷ case sheet_pad 0 256 2000 0 0 2 []
    ∷ case sheet_pad 1 256 2000 1 4 1 []
    ∷ case sheet_other 1 256 2000 1 4 1 []
    ∷ case sheet_below 1 256 2000 1 4 9 []
    ∷ case sheet_drawn 3 256 2000 3 3 8 []
    -- document 02, E10: in the long record 255 is on the hull label too, and 65,543 isn't; the same number in either length is the same term, so that
    -- the second entry is gained when the first is heard; a number with another high half is another
    ∷ case sheet_long255 0 0 1000 1 0 0 []
    ∷ case sheet65543 0 0 2000 0 0 1 []
    ∷ case sheet_either 0 256 2000 0 0 1 []
    ∷ case sheet_either 1 0 1000 1 0 0 []
    ∷ case sheet_high 1 256 2000 1 0 2 []
    ∷ []

-- with these rules switched on, the definitions yield the row
abbrev pub Yields : Setting → Case → Type 0
Yields on c =
    (answer_of on full_limit c.sheet c.cut c.budget (front + 40 * c.budget) ≡ c.answer)
    × (ones (knowledge (entry_at c.sheet) (outcome_of on c.sheet c.cut c.budget).learnt).known ≡ c.known)
    × ((missing_of on c.sheet c.cut c.budget).used ≡ c.used)
    × ((missing_of on c.sheet c.cut c.budget).remainder ≡ c.remainder)
    × ((outcome_of on c.sheet c.cut c.budget).steps ≡ c.steps)

abbrev pub AllYield : Setting → List Case → Type 0
AllYield on [] = Unit {0}
AllYield on (c ∷ cs) = Yields on c × AllYield on cs
