-- The users of a head: the heads that it is a part of, and the locks that it opens.
-- Defined, of the entries: `uses`, does an entry use this head; `UsersOf`, a set has the users of a head. Read off the keys: `key_opened`, `key_uses`, `head_uses`.
-- The table of users: `user_in`; `Joined`, an entry joined the users of some heads; `Filled`, the first n lines joined the users of what they use. Laws:
-- proofs/Laws/Users.antt, and `users_of` in proofs/Laws/Keys.antt.
use Rattle.std.specs.Prelude.{◌≡◌, Bool, false, ◌&&◌, ◌||◌, List, [], ℕ, ◌<◌, eqb, ltb, length, get_or}
use Rattle.bitset.specs.Set.{member}
use Rattle.bitset.specs.Words.{value}
use Rattle.deduction.specs.Entry.{Entry, Zero, Atom, Pair, Enc, Sum, Half, Aenc}
use Rattle.deduction.specs.Standard.{rep_at}
use Rattle.deduction.specs.Run.{opener}
use Rattle.canonical.specs.Inner.Key.{key_kind, key_left, key_right, key_opener}
use Rattle.offers.specs.Inner.Offers.{is_head}

-- is x the head of a part of this entry, or what opens it?
unfoldable pub uses : (ℕ → Entry) → ℕ → ℕ → Entry → Bool
uses e n x Zero = false
uses e n x (Atom a) = false
uses e n x (Pair l r) = eqb (rep_at e l) x || eqb (rep_at e r) x
uses e n x (Enc m k) = eqb (rep_at e m) x || eqb (rep_at e k) x
uses e n x (Sum items) = false
uses e n x (Half s a) = false
uses e n x (Aenc m k) = (eqb (rep_at e m) x || eqb (rep_at e k) x) || eqb (opener e n (e (rep_at e k))) x

-- the set us has the users of x: the heads that x is a part of, and the locks that x opens
abbrev pub UsersOf : (ℕ → Entry) → ℕ → ℕ → ℕ → Type 0
UsersOf e n x us = (p : ℕ) → p < 256 → member us p ≡ (is_head e n p && uses e n x (e p))

-- the same, read off a key: what opens it, and all that it uses
unfoldable pub key_opened : ℕ → ℕ → Bool
key_opened key x = eqb (key_kind key) 7 && eqb (key_opener key) x

unfoldable pub key_uses : ℕ → ℕ → Bool
key_uses key x = (eqb (key_kind key) 2 || (eqb (key_kind key) 3 || eqb (key_kind key) 7)) && ((eqb (key_left key) x || eqb (key_right key) x) || key_opened key x)

-- where line i is a representative
unfoldable pub head_uses : List ℕ → List ℕ → ℕ → ℕ → Bool
head_uses keys reps i x = eqb (get_or reps i 0) i && key_uses (get_or keys i 0) x

-- is i among the users of x?
abbrev pub user_in : List (List ℕ) → ℕ → ℕ → Bool
user_in users x i = member (value (get_or users x [])) i

-- entry i joined the users of every x that passes the test
pub record Joined (test : ℕ → Bool) (i : ℕ) (users users' : List (List ℕ)) : Type 0 where
  pub size : length users' ≡ 256
  pub lines : (x k : ℕ) → x < 256 → user_in users' x k ≡ (user_in users x k || (test x && eqb i k))

-- the first n lines joined the users of what they use
pub record Filled (keys reps : List ℕ) (n : ℕ) (users users' : List (List ℕ)) : Type 0 where
  pub size : length users' ≡ 256
  pub lines : (x k : ℕ) → x < 256 → user_in users' x k ≡ (user_in users x k || (ltb k n && head_uses keys reps k x))
