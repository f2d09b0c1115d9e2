-- Which rules an intruder has (document 02, E11: "which rules the stranger has").
-- Defined: `Setting`, a switch for each rule number; `every`, all on; `Includes`, one setting has every rule of another; `switches`, the setting of a byte.
use Rattle.std.specs.Prelude.{ℕ, zero, suc, ◌≡◌, Bool, true, cond, ltb}
use Rattle.bitset.specs.Set.{member}

-- is the rule with this number switched on? No rule has the number 0 or one above 8, so there the value says nothing
abbrev pub Setting : Type 0
Setting = ℕ → Bool

-- "all other calls have every rule on"
abbrev pub every : Setting
every r = true

-- every rule that is on in the first is on in the second
abbrev pub Includes : Setting → Setting → Type 0
Includes on more = (r : ℕ) → on r ≡ true → more r ≡ true

-- "A byte of eight switches, the lowest bit for rule 1": rule r + 1 has bit r, whose value is 2 ^ r
unfoldable pub switches : ℕ → Setting
switches w zero = true
switches w (suc r) = cond (ltb r 8) (member w r) true
