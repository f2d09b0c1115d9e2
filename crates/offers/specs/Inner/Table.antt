-- The table of offers, the least for each head. A step's number is head, then rule, then first source, so a head's least offer is the one of the lowest rule.
-- Defined: `Table`, the table holds these offers; `Adds`, these offers were put into it; `Covers`, the offers made are those to heads not known; `Kept`, both.
-- Laws: proofs/Laws/Table.antt, proofs/Laws/Kept.antt.
use Rattle.std.specs.Prelude.{◌≡◌, false, ℕ, ◌+◌, ◌*◌, ◌/◌, ◌%◌, ◌<◌, ◌≤◌, ltb, length, get_or}
use mathlib.Core.List.{List, ◌++◌, Memᴰ}
use Rattle.bitset.specs.Set.{member}
use Rattle.bitset.specs.Words.{value}
use Rattle.bitset.specs.Inner.{FourWords}
use Rattle.deduction.specs.Setting.{Setting}
use Rattle.deduction.specs.Entry.{Entry}
use Rattle.offers.specs.Inner.Offers.{plain_offers}

-- "best" has for each head the least of the offers xs, without the head, and 65,535 where there is none; "ready" has the heads that have one
pub record Table (best ready : List ℕ) (xs : List ℕ) : Type 0 where
  pub size : length best ≡ 256
  pub words : FourWords ready
  pub low : (x : ℕ) → Memᴰ x xs → (x / 65536 < 256) × (x % 65536 < 65535) × (get_or best (x / 65536) 0 ≤ x % 65536)
  pub among : (h : ℕ) → h < 256 → get_or best h 0 < 65535 → Memᴰ (h * 65536 + get_or best h 0) xs
  pub marked : (h : ℕ) → h < 256 → member (value ready) h ≡ ltb (get_or best h 0) 65535

-- whatever offers the table held, it holds them and then zs
abbrev pub Adds : List ℕ → List ℕ → List ℕ → List ℕ → List ℕ → Type 0
Adds best ready best' ready' zs = (xs : List ℕ) → Table best ready xs → Table best' ready' (xs ++ zs)

-- the offers made, xs, are those that there are, ys, as far as their heads aren't known
pub record Covers (g : ℕ) (xs ys : List ℕ) : Type 0 where
  pub made : (x : ℕ) → Memᴰ x ys → member g (x / 65536) ≡ false → Memᴰ x xs
  pub still : (x : ℕ) → Memᴰ x xs → member g (x / 65536) ≡ false → Memᴰ x ys

-- the table holds the offers that there are when g is known, as far as their heads aren't known
pub record Kept (on : Setting) (e : ℕ → Entry) (n g : ℕ) (best ready : List ℕ) : Type 0 where
  pub made : List ℕ
  pub table : Table best ready made
  pub covers : Covers g made (plain_offers on e n g n)
