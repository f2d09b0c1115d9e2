-- A search that goes up: the first number that passes a test.
-- Defined: `Tried`, what a search over the members of a word has left; `Searched`, what a search over the first words of a set gives.
-- Shown: where none before j passes and j does, j is the lowest; where none before n passes, it is n. A search over the members of a word, lowest first,
-- finds the first that passes; over the four words of a set of candidates in turn, the lowest number below n. Assumes nothing.
use mathlib.Core.Path.{◌≡◌, refl, sym, ap, ap₂, ◌∙◌, subst}
use mathlib.Core.Bool.{Bool, true, false, true≢false, xor}
use mathlib.Core.Logic.{inl, inr, by_cases}
use mathlib.Core.List.{List}
use Rattle.std.proofs.Common.{Option, Some, None, unwrap_or, MatchOption}
use Prim.Native.Nat.{ℕ, ◌+◌, ◌*◌, ◌/◌, ◌%◌, ◌^◌, ◌≤◌, ◌<◌}
use native.Mathlib.Nat.{le_of_lt, le_refl}
use native.Mathlib.Decide.{dec_lt}
use native.Mathlib.Omega.{arith}
use lib.Bits.{bit_xor}
use lib.Pow.{shl_lt}
use borrow.Author.Tests.{eqb-true}
use lib.ListN.{get_or}
use Rattle.bitset.specs.Set.{member, single}
use Rattle.bitset.specs.Words.{value}
use Rattle.bitset.proofs.Laws.Member.{member_empty, member_above, member_sum, member_single}
use Rattle.bitset.proofs.Laws.Words.{Below}
use Rattle.bitset.proofs.Laws.Union.{word_member}
use Rattle.bitset.proofs.Laws.Bits.{moved_none, moved_own}
use Rattle.bitset.proofs.Laws.Members.{Additive, Walked, walk_start, walk_again, walk_end}
use Rattle.bitset.proofs.Laws.Sums.{member_part}
use Rattle.bitset.specs.Inner.{IsLowest}
use Rattle.deduction.specs.Standard.{least}
use Rattle.deduction.proofs.Standard.Least.{least_only}
use Rattle.canonical.specs.Inner.Buckets.{Candidates, FoundIn}

module _ (p : ℕ → Bool) (n : ℕ) where
  search_found : (j : ℕ) → j < n → ((k : ℕ) → k < j → p k ≡ false) → p j ≡ true → j ≡ least p n
  search_found j h none here = sym (least_only p n j (le_of_lt h) (λ l. here) none)

  search_none : ((k : ℕ) → k < n → p k ≡ false) → n ≡ least p n
  search_none none = sym (least_only p n n (le_refl n) (λ l. absurd (omega arith)) none)

-- all members of a set fail the test, as what a loop over them does
abbrev pub Fails : (ℕ → Bool) → ℕ → Unit {0} → Unit {0} → Type 0
Fails p s a b = (k : ℕ) → member s k ≡ true → p k ≡ false

pub fails : (p : ℕ → Bool) → Additive (Fails p)
fails p = record { none = λ a k m. absurd (true≢false (sym m ∙ member_empty k)); both = λ s t a b c apart f g k m. elim (member_part s t k m) [ inl q ↦ f k q | inr q ↦ g k q ] }

-- members of s are left, where those that left it failed the test
abbrev pub Tried : (ℕ → Bool) → ℕ → ℕ → Type 0
Tried p s left = Walked (Fails p) s left tt tt

pub tried_start : (p : ℕ → Bool) {s left : ℕ} → left ≡ s → Tried p s left
tried_start p {s} q = subst (Tried p s) (sym q) (walk_start (fails p) s tt)

module _ {p : ℕ → Bool} {s left : ℕ} (h : Tried p s left) where
  pub tried_end : left ≡ 0 → FoundIn p s None
  tried_end z = record { own = λ i e. absurd (cc); none = λ k m l. walk_end (fails p) z h k m }

  -- the lowest that is left
  module _ {e : ℕ} (low : IsLowest left e) where
    pub tried_found : p e ≡ true → FoundIn p s (Some e)
    unfolding xor
    tried_found hit = record {
      own = λ i q. let same : e ≡ i = cc in (ap (member s) (sym same) ∙ h.inside e low.own, ap p (sym same) ∙ hit);
      none = λ k m l. h.done k (member_sum s left k ∙ ap₂ xor m (low.none k l));
    }

    pub tried_again : {left' : ℕ} → left' ≡ bit_xor left (single e) → p e ≡ false → Tried p s left'
    tried_again q miss = walk_again (fails p) (low, q) h (λ k m. ap p (sym (eqb-true e k (sym (member_single e k) ∙ m))) ∙ miss)

-- the members of word q, as entries
module _ (ws : List ℕ) (below : Below 64 ws) (q : ℕ) where
  word_here : (k : ℕ) → k / 64 ≡ q → member (get_or ws q 0 * 2 ^ (q * 64)) k ≡ member (value ws) k
  word_here k e =
      let place : k ≡ q * 64 + k % 64 = omega arith in
      ap (member (get_or ws q 0 * 2 ^ (q * 64))) place ∙ moved_own (get_or ws q 0) (q * 64) (k % 64) ∙ ap (λ (x : ℕ). member (get_or ws x 0) (k % 64)) (sym e) ∙ sym (word_member ws below k)

  word_at : (k : ℕ) → member (get_or ws q 0 * 2 ^ (q * 64)) k ≡ true → k / 64 ≡ q
  word_at k m =
      by_cases (dec_lt k (q * 64)) (λ l. absurd (true≢false (sym m ∙ moved_none (get_or ws q 0) (q * 64) k l)))
      (λ l. by_cases (dec_lt k (64 + q * 64)) (λ h. omega arith) (λ h. absurd (true≢false (sym m ∙ member_above (get_or ws q 0 * 2 ^ (q * 64)) (64 + q * 64) k (shl_lt 64 (q * 64) (below q)) (omega arith)))))

-- what a search over the first q words gives
pub record Searched (p : ℕ → Bool) (ws : List ℕ) (q : ℕ) (r : Option ℕ) : Type 0 where
  pub own : (i : ℕ) → r ≡ Some i → (member (value ws) i ≡ true) × (p i ≡ true) × (i / 64 < q)
  pub none : (k : ℕ) → member (value ws) k ≡ true → k / 64 < q → k < unwrap_or r 256 → p k ≡ false

pub searched_none : (p : ℕ → Bool) (ws : List ℕ) → Searched p ws 0 None
searched_none p ws = record { own = λ i e. absurd (cc); none = λ k m l. absurd (omega arith) }

module _ {p : ℕ → Bool} (ws : List ℕ) (below : Below 64 ws) (q : ℕ) (few : q < 4) where
  -- where the first q words give none, word q is searched
  pub searched_more : {r r' : Option ℕ} → Searched p ws q r → MatchOption r (FoundIn p (get_or ws q 0 * 2 ^ (q * 64)) r') (λ i. r' ≡ Some i) → Searched p ws (q + 1) r'
  searched_more {r = None} {r' = r'} s f = record { own = own; none = none }
    where
      own : (i : ℕ) → r' ≡ Some i → (member (value ws) i ≡ true) × (p i ≡ true) × (i / 64 < q + 1)
      own i e =
          let (m, hit) = f.own i e in
          let word : i / 64 ≡ q = word_at ws below q i m in
          (sym (word_here ws below q i word) ∙ m, hit, omega arith)

      none : (k : ℕ) → member (value ws) k ≡ true → k / 64 < q + 1 → k < unwrap_or r' 256 → p k ≡ false
      none k m l g = by_cases (dec_lt (k / 64) q) (λ h. s.none k m h (omega arith)) (λ h. f.none k (word_here ws below q k (omega arith) ∙ m) g)
  searched_more {r = Some i} {r' = r'} s e = record {
    own = λ j g. let (m, hit, l) = s.own j (sym e ∙ g) in (m, hit, omega arith);
    none = λ k m l g. let before : k < i = subst (λ (o : Option ℕ). k < unwrap_or o 256) e g in
        let (m', hit, h) = s.own i refl in
        s.none k m (omega arith) before;
  }

-- over all four words
pub searched_all : {p : ℕ → Bool} {ws : List ℕ} {r : Option ℕ} → Searched p ws 4 r → FoundIn p (value ws) r
searched_all {p = p} {ws = ws} {r = r} s = record { own = λ i e. let (m, hit, l) = s.own i e in (m, hit); none = λ k m l. s.none k m (within r refl k l) l }
  where
    within : (o : Option ℕ) → r ≡ o → (k : ℕ) → k < unwrap_or r 256 → k / 64 < 4
    within None e k l = let h : k < 256 = subst (λ (x : Option ℕ). k < unwrap_or x 256) e l in omega arith
    within (Some i) e k l = let h : k < i = subst (λ (x : Option ℕ). k < unwrap_or x 256) e l in let (m, hit, b) = s.own i e in omega arith

-- what is found among all candidates before n
module _ {p : ℕ → Bool} {n s : ℕ} (c : Candidates p n s) {r : Option ℕ} (f : FoundIn p s r) where
  pub found_below : (i : ℕ) → r ≡ Some i → i < n
  found_below i e = c.within i (f.own i e).0

  none_below : (k : ℕ) → k < n → k < unwrap_or r 256 → p k ≡ false
  none_below k l h = by (p k) refl
    where
      by : (b : Bool) → p k ≡ b → p k ≡ false
      by false g = g
      by true g = f.none k (c.every k l g) h

  -- what is found is the lowest, whatever n is
  pub found_own : (i : ℕ) → r ≡ Some i → i ≡ least p n
  found_own i e = let l = found_below i e in
      search_found p n i l (λ k h. none_below k (omega arith) (subst (λ (x : Option ℕ). k < unwrap_or x 256) (sym e) h)) (f.own i e).1

  -- and where none is found, that is n
  pub found_least : n ≤ 256 → unwrap_or r n ≡ least p n
  found_least few = go r refl
    where
      go : (o : Option ℕ) → r ≡ o → unwrap_or o n ≡ least p n
      go None e = search_none p n (λ k l. none_below k l (subst (λ (x : Option ℕ). k < unwrap_or x 256) (sym e) (omega arith)))
      go (Some i) e = found_own i e
