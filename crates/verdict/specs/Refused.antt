-- Which calls are refused, and with which number (document 01, "Grounding table"), for any limit on the budget.
-- Defined: `full_limit` and `quick_limit`, the limits of the entry points; `refusal_of`.
use Rattle.std.specs.Prelude.{ℕ, ◌+◌, ◌*◌, List, ltb}
use Rattle.dag.specs.Sheet.{trace_length}
use Rattle.dag.specs.Refusal.{when, or_else, refusal}
use Rattle.verdict.specs.Buffer.{front}

-- document 02, E7: "a quick entry point of at most 64 rungs beside the full one of 256"
abbrev pub full_limit : ℕ
full_limit = 256

abbrev pub quick_limit : ℕ
quick_limit = 64

-- rows 1 to 7 and 12, then "8 past the log: cut over h", "9 over budget": budget over the limit (E7: at the quick entry point "refusal 9 is given for a
-- budget over 64"), "10 no space"; E5: "Refusal 10 now starts below 96 + 40b bytes"
unfoldable pub refusal_of : ℕ → List ℕ → ℕ → ℕ → ℕ → ℕ
refusal_of limit s cut budget space =
    or_else (refusal s) (or_else (when (ltb (trace_length s) cut) 8) (or_else (when (ltb limit budget) 9) (when (ltb space (front + 40 * budget)) 10)))
