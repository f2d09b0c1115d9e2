-- What a reader may conclude of halves at the start.
-- Shown: `half_not_reached`, from the start of a good sheet at any cut no derivation by any rules holds a half that no entry's record is, its number being what it
-- may. With `half_not_public` (proofs/Public.antt): a half is gained as a heard message or out of one, and in no other way. Assumes nothing.
use mathlib.Core.Path.{◌≡◌}
use mathlib.Core.List.{List}
use Prim.Native.Nat.{ℕ, ◌≤◌, ◌<◌}
use Rattle.deduction.specs.Term.{Side, half}
use Rattle.deduction.specs.Entry.{Half}
use Rattle.deduction.specs.Setting.{Setting}
use Rattle.deduction.specs.Derivation.{Derivable}
use Rattle.deduction.proofs.Steps.Opener.{half_unwritten}
use Rattle.dag.specs.Sheet.{count_of, trace_length}
use Rattle.dag.specs.Record.{entry_at}
use Rattle.dag.specs.Refusal.{refusal}
use Rattle.dag.proofs.Laws.Good.{good}
use Rattle.start.specs.Start.{start_entries, start_terms}
use Rattle.start.proofs.Laws.Heads.{start_below}

pub half_not_reached : (on : Setting) (s : List ℕ) → refusal s ≡ 0 → (cut : ℕ) → cut ≤ trace_length s → (x : Side) (a : ℕ)
    → ((i : ℕ) → i < count_of s → ¬ (entry_at s i ≡ Half x a)) → ¬ Derivable on (start_terms s cut) (half x a)
half_not_reached on s ok cut within x a none = half_unwritten (entry_at s) (count_of s) (good s ok).downward on (start_entries s cut) (start_below s ok cut within) x a none
