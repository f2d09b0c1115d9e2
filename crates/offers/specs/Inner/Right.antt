-- The tables of keys and representatives. Defined: `Right`, they are right for the first n entries.
use Rattle.std.specs.Prelude.{◌≡◌, List, ℕ, ◌<◌, get_or}
use Rattle.deduction.specs.Entry.{Entry}
use Rattle.deduction.specs.Standard.{rep_at}
use Rattle.canonical.specs.Inner.Key.{open_key_at}

pub record Right (e : ℕ → Entry) (n : ℕ) (keys reps : List ℕ) : Type 0 where
  pub key : (i : ℕ) → i < n → get_or keys i 0 ≡ open_key_at e n i
  pub rep : (i : ℕ) → i < n → get_or reps i 0 ≡ rep_at e i
