-- The table of a head's users.
-- Shown: entries join it one after the other, and so all do; a table that nobody is in. That by right tables it has the heads that use a head is
-- `users_of` (Keys.antt). Assumes nothing.
use mathlib.Core.Path.{◌≡◌, refl, sym, ap, ap₂, ◌∙◌}
use mathlib.Core.Bool.{Bool, true, false, ◌&&◌, ◌||◌, or-false}
use mathlib.Core.Logic.{◌⊎◌, inl, inr}
use mathlib.Core.List.{List, [], ◌∷◌}
use Prim.Native.Nat.{ℕ, ◌+◌, ◌≤◌, ◌<◌}
use native.Mathlib.Omega.{arith}
use lib.Dec.{eqb, ltb}
use lib.ListN.{length, get_or, set, length-set, replicate, get_or-replicate}
use lib.Seq.{get_or-set_same, get_or-set_other}
use borrow.Author.Tests.{eq-eqb, ne_eqb, ltb-true, ltb-false, lt-ltb, le-ltb}
use Rattle.bitset.specs.Set.{member, insert}
use Rattle.bitset.specs.Words.{value}
use Rattle.bitset.proofs.Laws.Member.{member_empty, member_insert}
use Rattle.bitset.proofs.Laws.Words.{value_zero}
use Rattle.canonical.specs.Inner.Key.{key_kind, key_left, key_right, key_opener}
use Rattle.offers.specs.Inner.Users.{key_opened, key_uses, head_uses, user_in, Joined, Filled}
use Rattle.offers.proofs.Laws.Table.{same_or}

-- nothing joined
pub joined_none : (test : ℕ → Bool) (i : ℕ) (users : List (List ℕ)) → length users ≡ 256 → ((x : ℕ) → x < 256 → test x ≡ false) → Joined test i users users
joined_none test i users n none = record { size = n; lines = λ x k l. sym (ap (λ (b : Bool). user_in users x k || (b && eqb i k)) (none x l) ∙ or-false (user_in users x k)) }

-- by another test
pub joined_as : {test test' : ℕ → Bool} {i : ℕ} {users users' : List (List ℕ)} → ((x : ℕ) → x < 256 → test x ≡ test' x) → Joined test i users users' → Joined test' i users users'
joined_as {i = i} {users = users} p j = record { size = j.size; lines = λ x k l. j.lines x k l ∙ ap (λ (b : Bool). user_in users x k || (b && eqb i k)) (p x l) }

-- by one test and then by another
pub joined_then : {test test' : ℕ → Bool} {i : ℕ} {users users' users'' : List (List ℕ)} → Joined test i users users' → Joined test' i users' users'' → Joined (λ x. test x || test' x) i users users''
joined_then {test = f} {test' = g} {i = i} {users = users} a b =
    record { size = b.size; lines = λ x k l. b.lines x k l ∙ ap (λ (t : Bool). t || (g x && eqb i k)) (a.lines x k l) ∙ go (user_in users x k) (f x) (g x) (eqb i k) }
  where
    go : (u p q t : Bool) → ((u || (p && t)) || (q && t)) ≡ (u || ((p || q) && t))
    go true p q t = refl
    go false true q true = refl
    go false true true false = refl
    go false true false false = refl
    go false false q t = refl

-- one line stored
pub joined_line : (users : List (List ℕ)) (x i : ℕ) (ws : List ℕ) → length users ≡ 256 → x < 256 → value ws ≡ insert (value (get_or users x [])) i → Joined (eqb x) i users (set users x ws)
joined_line users x i ws n lx p = record { size = length-set users x ws ∙ n; lines = λ y k l. go y k (same_or y x) }
  where
    go : (y k : ℕ) → (y ≡ x) ⊎ ¬ (y ≡ x) → user_in (set users x ws) y k ≡ (user_in users y k || (eqb x y && eqb i k))
    go y k (inl e) =
        ap (λ (z : ℕ). user_in (set users x ws) z k) e ∙ ap (λ (v : List ℕ). member (value v) k) (get_or-set_same users x ws [] (omega arith))
        ∙ ap (λ (v : ℕ). member v k) p ∙ member_insert (value (get_or users x [])) i k
        ∙ ap₂ ◌||◌ (sym (ap (λ (z : ℕ). user_in users z k) e)) (sym (ap (λ (b : Bool). b && eqb i k) (eq-eqb x y (sym e))))
    go y k (inr d) =
        ap (λ (v : List ℕ). member (value v) k) (get_or-set_other users x y ws [] d)
        ∙ sym (ap (λ (b : Bool). user_in users y k || (b && eqb i k)) (ne_eqb x y (λ e. d (sym e))) ∙ or-false (user_in users y k))

-- what opens a lock, by the tests of its key
module _ (key : ℕ) {kind : ℕ} (p : kind ≡ key_kind key) where
  pub opened_none : ¬ (kind ≡ 7) → (x : ℕ) → key_opened key x ≡ false
  unfolding key_opened
  opened_none d x = ap (λ (b : Bool). b && eqb (key_opener key) x) (ne_eqb (key_kind key) 7 (λ e. d (p ∙ e)))

  module _ (q : kind ≡ 7) {o : ℕ} (r : o ≡ key_opener key) where
    pub opened_by : (x : ℕ) → eqb o x ≡ key_opened key x
    unfolding key_opened
    opened_by x = ap (λ (y : ℕ). eqb y x) r ∙ sym (ap (λ (b : Bool). b && eqb (key_opener key) x) (eq-eqb (key_kind key) 7 (sym p ∙ q)))

    pub opened_past : 256 ≤ o → (x : ℕ) → x < 256 → key_opened key x ≡ false
    opened_past l x lx = sym (opened_by x) ∙ ne_eqb o x (λ e. omega arith)

-- all that an entry uses, by the test whether it has parts
module _ (key : ℕ) {kind : ℕ} {t : Bool} (p : kind ≡ key_kind key) (q : t ≡ (eqb kind 2 || (eqb kind 3 || eqb kind 7))) where
  tested : (eqb (key_kind key) 2 || (eqb (key_kind key) 3 || eqb (key_kind key) 7)) ≡ t
  tested = sym (q ∙ ap (λ (k : ℕ). eqb k 2 || (eqb k 3 || eqb k 7)) p)

  pub uses_none : t ≡ false → (x : ℕ) → key_uses key x ≡ false
  unfolding key_uses
  uses_none z x = ap (λ (b : Bool). b && ((eqb (key_left key) x || eqb (key_right key) x) || key_opened key x)) (tested ∙ z)

  pub uses_parts : t ≡ true → {l r : ℕ} → l ≡ key_left key → r ≡ key_right key → (x : ℕ) → ((eqb l x || eqb r x) || key_opened key x) ≡ key_uses key x
  unfolding key_uses
  uses_parts z pl pr x =
      ap₂ (λ (a b : ℕ). (eqb a x || eqb b x) || key_opened key x) pl pr
      ∙ sym (ap (λ (b : Bool). b && ((eqb (key_left key) x || eqb (key_right key) x) || key_opened key x)) (tested ∙ z))

-- of a head
module _ (keys reps : List ℕ) (i : ℕ) where
  pub head_uses_lem : get_or reps i 0 ≡ i → (x : ℕ) → key_uses (get_or keys i 0) x ≡ head_uses keys reps i x
  unfolding head_uses
  head_uses_lem p x = sym (ap (λ (b : Bool). b && key_uses (get_or keys i 0) x) (eq-eqb (get_or reps i 0) i p))

  pub other_uses : ¬ (get_or reps i 0 ≡ i) → (x : ℕ) → head_uses keys reps i x ≡ false
  unfolding head_uses
  other_uses d x = ap (λ (b : Bool). b && key_uses (get_or keys i 0) x) (ne_eqb (get_or reps i 0) i d)

-- a table that nobody is in
pub nobody : (x k : ℕ) → x < 256 → user_in (replicate 256 (0 ∷ 0 ∷ 0 ∷ 0 ∷ [])) x k ≡ false
nobody x k l = ap (λ (ws : List ℕ). member (value ws) k) (get_or-replicate {A = List ℕ} 256 x (0 ∷ 0 ∷ 0 ∷ 0 ∷ []) [] l) ∙ ap (λ (v : ℕ). member v k) value_zero ∙ member_empty k

-- all lines
pub filled_start : (keys reps : List ℕ) (users : List (List ℕ)) → length users ≡ 256 → Filled keys reps 0 users users
filled_start keys reps users n = record { size = n; lines = λ x k l. sym (ap (λ (b : Bool). user_in users x k || (b && head_uses keys reps k x)) (le-ltb k 0 (omega arith)) ∙ or-false (user_in users x k)) }

pub filled_more : {keys reps : List ℕ} {m : ℕ} {users users' users'' : List (List ℕ)} → Filled keys reps m users users' → Joined (head_uses keys reps m) m users' users'' → Filled keys reps (m + 1) users users''
filled_more {keys} {reps} {m} {users} a b =
    record { size = b.size; lines = λ x k l. b.lines x k l ∙ ap (λ (t : Bool). t || (head_uses keys reps m x && eqb m k)) (a.lines x k l) ∙ go x k (same_or m k) }
  where
    both : (u t : Bool) → ((u || false) || (t && true)) ≡ (u || t)
    both true t = refl
    both false true = refl
    both false false = refl

    only : (u t s : Bool) → ((u || t) || (s && false)) ≡ (u || t)
    only true t s = refl
    only false true s = refl
    only false false true = refl
    only false false false = refl

    go : (x k : ℕ) → (m ≡ k) ⊎ ¬ (m ≡ k) → ((user_in users x k || (ltb k m && head_uses keys reps k x)) || (head_uses keys reps m x && eqb m k)) ≡ (user_in users x k || (ltb k (m + 1) && head_uses keys reps k x))
    go x k (inl p) =
        ap₂ (λ (s t : Bool). (user_in users x k || (s && head_uses keys reps k x)) || (head_uses keys reps m x && t)) (le-ltb k m (omega arith)) (eq-eqb m k p)
        ∙ both (user_in users x k) (head_uses keys reps m x)
        ∙ ap (λ (j : ℕ). user_in users x k || head_uses keys reps j x) p
        ∙ sym (ap (λ (s : Bool). user_in users x k || (s && head_uses keys reps k x)) (lt-ltb k (m + 1) (omega arith)))
    go x k (inr d) =
        ap₂ (λ (s t : Bool). (user_in users x k || (s && head_uses keys reps k x)) || (head_uses keys reps m x && t)) same (ne_eqb m k d)
        ∙ only (user_in users x k) (ltb k (m + 1) && head_uses keys reps k x) (head_uses keys reps m x)
      where
        same : ltb k m ≡ ltb k (m + 1)
        same = by (ltb k m) refl
          where
            by : (t : Bool) → ltb k m ≡ t → t ≡ ltb k (m + 1)
            by true q = sym (lt-ltb k (m + 1) (omega (arith, ltb-true k m q)))
            by false q = sym (le-ltb k (m + 1) (omega (arith, ltb-false k m q)))
