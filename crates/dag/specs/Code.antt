-- The number of each refusal in documents 01 and 02, and that of what a check answers.
use Rattle.std.specs.Prelude.{ℕ, Result, Ok, Err}
use Rattle.dag.specs.declared.Refusal.{Refusal}
use Rattle.dag.specs.declared.Refusal.TheVariants.{NoSheet, BadCount, ShortList, BadPair, BadRecord, Forward, NotListed, PastTheLog, OverBudget, NoSpace, WrongHalf}

abbrev pub code_of : Refusal → ℕ
code_of NoSheet = 1
code_of BadCount = 2
code_of ShortList = 3
code_of BadPair = 4
code_of BadRecord = 5
code_of Forward = 6
code_of NotListed = 7
code_of PastTheLog = 8
code_of OverBudget = 9
code_of NoSpace = 10
code_of WrongHalf = 12

-- 0 where the check passes, else the number of the refusal
abbrev pub checked_code : {T : Type 0} → Result T Refusal → ℕ
checked_code (Ok x) = 0
checked_code (Err r) = code_of r
