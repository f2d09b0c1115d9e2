-- Two bytes of switches (document 02, E11: "turning a switch on"). Defined: `SwitchedIn`.
use Rattle.std.specs.Prelude.{ℕ, ◌<◌, ◌≡◌, true}
use Rattle.bitset.specs.Set.{member}

-- every switch that is on in the first byte is on in the second
abbrev pub SwitchedIn : ℕ → ℕ → Type 0
SwitchedIn a b = (r : ℕ) → r < 8 → member a r ≡ true → member b r ≡ true
