-- Small closed uses of exactness, each over a sheet of two to four entries.
-- Shown: case 8 of the flight card is underivable (`CaseEight`); a derivation through terms off the sheet gains nothing more (`Detour`); a fresh atom beside the
-- start is no help, and an atom of the sheet, a pair of a fresh atom and an entry's term (`Own`) and a half (`OwnHalf`) are. What isn't derivable is shown by
-- `kept_underivable`: a property of codes that the start has, that the rules keep, and that the entry lacks. Assumes nothing.
pub mod CaseEight
pub mod Detour
pub mod Own
pub mod OwnHalf
