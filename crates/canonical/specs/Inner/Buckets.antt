-- Buckets: 256 sets of entries, by which an entry with a given key or a given set is found without a search over all.
-- Defined: `key_bucket` and `set_bucket`, the bucket of a key and of a set, and `bucket_of`, that of an entry; `Bucketed`, each of the first n entries is in its bucket; `JoinedAt`, an entry joined a bucket; `Alone`, a set of one
-- member; `Candidates`, a set in which a search finds what it looks for; `Decides`, that a test is a given one; `FoundIn`, what a search finds.
use Rattle.std.specs.Prelude.{◌≡◌, Bool, true, false, cond, Option, Some, unwrap_or, List, [], ℕ, ◌+◌, ◌%◌, ◌<◌, eqb, length, get_or, set}
use Rattle.bitset.specs.Set.{member, insert, single, leading}
use Rattle.bitset.specs.Words.{value}
use Rattle.bitset.specs.Inner.{FourWords}
use Rattle.deduction.specs.Entry.{Entry}
use Rattle.deduction.specs.Standard.{set_at}
use Rattle.canonical.specs.Inner.Key.{key_at}
use Rattle.canonical.specs.Inner.Tables.{set_in}

-- the bucket of an entry with a key
abbrev pub key_bucket : ℕ → ℕ
key_bucket key = key % 251

-- the bucket of an entry without one, from the four words of its set
abbrev pub set_bucket : List ℕ → ℕ
set_bucket ws = (get_or ws 0 0 % 251 + get_or ws 1 0 % 241 + get_or ws 2 0 % 239 + get_or ws 3 0 % 233) % 256

-- the bucket of an entry with this key and this set
unfoldable pub bucket_of : ℕ → List ℕ → ℕ
bucket_of key ws = cond (eqb key 0) (set_bucket ws) (key_bucket key)

-- each of the first n entries is in its bucket, and no other entry is in any. It speaks of the entries' keys: the table's change once locks are opened
pub record Bucketed (e : ℕ → Entry) (n : ℕ) (buckets : List (List ℕ)) : Type 0 where
  pub key : (j : ℕ) → j < n → ¬ (key_at e j ≡ 0) → member (set_in buckets (key_bucket (key_at e j))) j ≡ true
  pub set : (j : ℕ) → j < n → key_at e j ≡ 0 → (ws : List ℕ) → FourWords ws → value ws ≡ set_at e j → member (set_in buckets (set_bucket ws)) j ≡ true
  pub within : (b j : ℕ) → member (set_in buckets b) j ≡ true → j < n
  pub words : (b : ℕ) → b < 256 → FourWords (get_or buckets b [])
  pub size : length buckets ≡ 256

-- entry i joined one bucket, and every other is as it was
pub record JoinedAt (at i : ℕ) (buckets buckets' : List (List ℕ)) : Type 0 where
  pub bucket : List ℕ
  pub one : buckets' ≡ set buckets at bucket
  pub words : FourWords bucket
  pub more : value bucket ≡ insert (set_in buckets at) i

-- a set of one member
abbrev pub Alone : ℕ → Type 0
Alone s = s ≡ single (leading s)

-- s has each of the first n entries that passes the test, and no entry from n on
pub record Candidates (p : ℕ → Bool) (n s : ℕ) : Type 0 where
  pub every : (j : ℕ) → j < n → p j ≡ true → member s j ≡ true
  pub within : (j : ℕ) → member s j ≡ true → j < n

-- the answers that a test may give at entries are those of p
pub record Decides (gives : ℕ → Bool → Type 0) (p : ℕ → Bool) : Type 0 where
  pub same : (k : ℕ) (b : Bool) → k < 256 → gives k b → b ≡ p k

-- r is the lowest member of s that passes the test, if there is one
pub record FoundIn (p : ℕ → Bool) (s : ℕ) (r : Option ℕ) : Type 0 where
  pub own : (i : ℕ) → r ≡ Some i → (member s i ≡ true) × (p i ≡ true)
  pub none : (k : ℕ) → member s k ≡ true → k < unwrap_or r 256 → p k ≡ false
