-- What an intruder can derive (document 01: a finite ladder), over terms of any size.
-- Defined: `Holds`, a term is held; `Derivation`, the finite derivations from a list of start terms, by the list of all terms held, for each setting of
-- the rules.
use Rattle.std.specs.Prelude.{ℕ, ◌≡◌, true}
use mathlib.Core.List.{List, ◌∷◌, Memᴰ}
use Rattle.deduction.specs.Term.{Side, opposite, Term, pair, enc, half, aenc, sum_of, ◌≈◌}
use Rattle.deduction.specs.Setting.{Setting}

-- "A term is gained when it is the same as one at the start or one added so far"
abbrev pub Holds : List Term → Term → Type 0
Holds g t = (u : Term) × Memᴰ u g × (u ≈ t)

-- "A finite ladder starts from the terms of the messages before the cut. It has any finite number of rungs, possibly none. Each adds one
-- term". `Derivation on start g`: a derivation from `start` after which the terms held are `g`, the newest first. The rules are those of source
-- 001, Table 1, for pairs and both sorts of encryption, with its sum of any known terms. Document 02, E11: "which rules the stranger has": each rule asks
-- that its own number is switched on. `Holds` asks nothing, so "sameness keeps the four laws in each setting"
pub data Derivation (on : Setting) (start : List Term) : List Term → Type 0 where
  begin : Derivation on start start
  -- "the left or right of a gained pair"
  first : {g : List Term} {a b : Term} → on 1 ≡ true → Derivation on start g → Holds g (pair a b) → Derivation on start (a ∷ g)
  second : {g : List Term} {a b : Term} → on 2 ≡ true → Derivation on start g → Holds g (pair a b) → Derivation on start (b ∷ g)
  -- "the message of a gained seal whose key is gained"
  decrypt : {g : List Term} {m k : Term} → on 3 ≡ true → Derivation on start g → Holds g (enc m k) → Holds g k → Derivation on start (m ∷ g)
  -- "the pair of two gained terms"
  join : {g : List Term} {a b : Term} → on 4 ≡ true → Derivation on start g → Holds g a → Holds g b → Derivation on start (pair a b ∷ g)
  -- "the seal of one gained term under a gained key"
  encrypt : {g : List Term} {m k : Term} → on 5 ≡ true → Derivation on start g → Holds g m → Holds g k → Derivation on start (enc m k ∷ g)
  -- "the sum of finitely many gained terms, possibly none"; "Without sum, zero isn't free and is gained only like other terms"
  sum : {g : List Term} (ts : List Term) → on 6 ≡ true → Derivation on start g → ((t : Term) → Memᴰ t ts → Holds g t) → Derivation on start (sum_of ts ∷ g)
  -- "Rule 7, unlock, takes a lock and the opposite half of its key. Rule 8, lock, takes message and half". Source 001, Table 1, asymmetric:
  -- {a}ᵖ under K and K⁻¹ give a; a and K give {a}ᵖ under K. No rule makes a half
  adecrypt : {g : List Term} {m : Term} {s : Side} {a : ℕ} → on 7 ≡ true → Derivation on start g → Holds g (aenc m (half s a)) → Holds g (half (opposite s) a) → Derivation on start (m ∷ g)
  aencrypt : {g : List Term} {m : Term} {s : Side} {a : ℕ} → on 8 ≡ true → Derivation on start g → Holds g m → Holds g (half s a) → Derivation on start (aenc m (half s a) ∷ g)

-- some finite derivation from `start` by rules that are switched on holds t
abbrev pub Derivable : Setting → List Term → Term → Type 0
Derivable on start t = (g : List Term) × Derivation on start g × Holds g t
