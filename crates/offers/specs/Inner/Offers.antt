-- Offers: the steps by a rule other than the sum that an entry gives or is gained by, with no test whether the gained head is known.
-- Defined, of the entries: `gives`, `line_offers`, `head_offers`, `plain_offers`; `is_head`. In a row: `lists_of`. Read off the keys: `both_known`, `built_by`,
-- `key_gives`, `key_built`, `key_offers`, `table_offers`, `set_offers`, `word_offers`. Laws: proofs/Laws/Offers.antt, proofs/Laws/Keys.antt.
use Rattle.std.specs.Prelude.{Bool, cond, ◌&&◌, List, [], ◌++◌, ℕ, zero, suc, ◌+◌, eqb, ltb, get_or}
use Rattle.bitset.specs.Set.{member}
use Rattle.deduction.specs.Setting.{Setting}
use Rattle.deduction.specs.Entry.{Entry, Zero, Atom, Pair, Enc, Sum, Half, Aenc}
use Rattle.deduction.specs.Standard.{rep_at}
use Rattle.deduction.specs.Run.{opener, by_rule, built}
use Rattle.canonical.specs.Inner.Key.{key_kind, key_left, key_right, key_opener}

-- For the rules switched on, n entries `e` and the known set g
module _ (on : Setting) (e : ℕ → Entry) (n g : ℕ) where
  -- what a known entry gives: its parts, or its message where its key is known, or for a lock the opposite half of its key
  unfoldable pub gives : ℕ → Entry → List ℕ
  gives i Zero = []
  gives i (Atom a) = []
  gives i (Pair l r) = by_rule on (rep_at e l) 1 i ++ by_rule on (rep_at e r) 2 i
  gives i (Enc m k) = cond (member g (rep_at e k)) (by_rule on (rep_at e m) 3 i) []
  gives i (Sum items) = []
  gives i (Half s a) = []
  gives i (Aenc m k) = cond (member g (opener e n (e (rep_at e k)))) (by_rule on (rep_at e m) 7 i) []

  -- what entry i gives where it is known, and by what it is built where it isn't
  unfoldable pub line_offers : ℕ → List ℕ
  line_offers i = cond (member g i) (gives i (e i)) (built on e n g i (e i))

  -- only where it is a head
  unfoldable pub head_offers : ℕ → List ℕ
  head_offers i = cond (eqb (rep_at e i) i) (line_offers i) []

  -- of the first m entries
  unfoldable pub plain_offers : ℕ → List ℕ
  plain_offers zero = []
  plain_offers (suc m) = plain_offers m ++ head_offers m

-- the lists of the members of s below m in a row
unfoldable pub lists_of : (ℕ → List ℕ) → ℕ → ℕ → List ℕ
lists_of f s zero = []
lists_of f s (suc m) = lists_of f s m ++ cond (member s m) (f m) []

-- are both parts of a pair or an encryption of either sort known?
unfoldable pub both_known : ℕ → ℕ → Bool
both_known g key = member g (key_left key) && member g (key_right key)

-- the rule by which an entry of this kind is built, and 0 where there is none
unfoldable pub built_by : ℕ → ℕ
built_by kind = cond (eqb kind 2) 4 (cond (eqb kind 3) 5 (cond (eqb kind 7) 8 0))

-- the same, read off the keys
module _ (on : Setting) (g : ℕ) where
  -- what the known entry i with this key gives
  unfoldable pub key_gives : ℕ → ℕ → List ℕ
  key_gives key i =
      cond (eqb (key_kind key) 2) (by_rule on (key_left key) 1 i ++ by_rule on (key_right key) 2 i)
      (cond (eqb (key_kind key) 3) (cond (member g (key_right key)) (by_rule on (key_left key) 3 i) [])
      (cond (eqb (key_kind key) 7) (cond (member g (key_opener key)) (by_rule on (key_left key) 7 i) []) []))

  -- by what the unknown entry i with this key is built
  unfoldable pub key_built : ℕ → ℕ → List ℕ
  key_built key i =
      cond (eqb (built_by (key_kind key)) 0) [] (cond (both_known g key) (by_rule on i (built_by (key_kind key)) (key_left key)) [])

  unfoldable pub key_offers : ℕ → ℕ → List ℕ
  key_offers key i = cond (member g i) (key_gives key i) (key_built key i)

  -- of the first m lines that are representatives
  unfoldable pub table_offers : List ℕ → List ℕ → ℕ → List ℕ
  table_offers keys reps zero = []
  table_offers keys reps (suc m) = table_offers keys reps m ++ cond (eqb (get_or reps m 0) m) (key_offers (get_or keys m 0) m) []

  -- of the members of a set below m
  abbrev pub set_offers : List ℕ → ℕ → ℕ → List ℕ
  set_offers keys = lists_of (λ i. key_offers (get_or keys i 0) i)

  -- of the members of one word of a set, whose first entry is base
  abbrev pub word_offers : List ℕ → ℕ → ℕ → List ℕ
  word_offers keys base word = lists_of (λ b. key_offers (get_or keys (base + b) 0) (base + b)) word 64

-- is entry i a head below n?
unfoldable pub is_head : (ℕ → Entry) → ℕ → ℕ → Bool
is_head e n i = ltb i n && eqb (rep_at e i) i
