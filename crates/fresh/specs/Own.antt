-- An intruder's own atoms on a sheet (document 02, E14: "Atoms of his own making").
-- Defined: `OwnAtom`, which atoms are his own; `own_start`, the start of a call with them.
use Rattle.std.specs.Prelude.{ℕ, ◌<◌, ◌⊎◌, List}
use Rattle.deduction.specs.Term.{Term}
use Rattle.deduction.specs.Fresh.{Fresh, start_with}
use Rattle.dag.specs.Sheet.{count_of}
use Rattle.dag.specs.Record.{entry_at}
use Rattle.start.specs.Start.{start_entries}

-- "atoms that occur in no entry of the sheet, public numbers included": the public numbers, on the sheet or not, and every atom that occurs in no entry
abbrev pub OwnAtom : List ℕ → ℕ → Type 0
OwnAtom s a = (a < 256) ⊎ Fresh (entry_at s) (count_of s) a

-- "the stranger also starts with" them: the terms from which a call measures reach, and these atoms
abbrev pub own_start : List ℕ → ℕ → List ℕ → List Term
own_start s cut atoms = start_with (entry_at s) (start_entries s cut) atoms
