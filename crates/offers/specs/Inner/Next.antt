-- The next step by the table of offers and the set of the heads whose line is empty.
-- Defined: `SumsOf`, that set has the heads that are sums; `summed`, `waits`, `way_of`; `next_in`, the number of the next step. That it is the theory's is a law
-- (proofs/Laws/Next.antt).
use Rattle.std.specs.Prelude.{◌≡◌, Bool, false, cond, not, ◌&&◌, ◌||◌, List, ℕ, ◌+◌, ◌*◌, ◌<◌, min, eqb, get_or}
use Rattle.bitset.specs.Set.{member}
use Rattle.deduction.specs.Setting.{Setting}
use Rattle.deduction.specs.Entry.{Entry}
use Rattle.deduction.specs.Standard.{least}
use Rattle.deduction.specs.Elimination.{Knowledge}
use Rattle.deduction.specs.Run.{no_step, is_sum_of}
use Rattle.offers.specs.Inner.Offers.{is_head}

-- the set empty has those of the heads not known that are sums of known ones
abbrev pub SumsOf : (ℕ → Entry) → ℕ → Knowledge → ℕ → Type 0
SumsOf e n k empty = (i : ℕ) → i < 256 → member k.known i ≡ false → member empty i ≡ (is_head e n i && is_sum_of e k i)

-- is h gained as a sum? The rule has to be switched on, and the set empty has the heads whose line is empty, which are sums of known ones
unfoldable pub summed : Setting → ℕ → ℕ → Bool
summed on empty h = on 6 && member empty h

-- has h an offer or is it a sum, and not known?
unfoldable pub waits : Setting → ℕ → ℕ → ℕ → ℕ → Bool
waits on ready empty g h = (member ready h || summed on empty h) && not (member g h)

-- the least that gains h, without the head
unfoldable pub way_of : Setting → List ℕ → ℕ → ℕ → ℕ
way_of on best empty h = cond (summed on empty h) (min (get_or best h 0) 1536) (get_or best h 0)

-- the number of the next step: of the lowest head that waits, and no_step where there is none
unfoldable pub next_in : Setting → List ℕ → ℕ → ℕ → ℕ → ℕ
next_in on best ready empty g =
    cond (eqb (least (waits on ready empty g) 256) 256) no_step (least (waits on ready empty g) 256 * 65536 + way_of on best empty (least (waits on ready empty g) 256))
