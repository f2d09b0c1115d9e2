-- What is missing of an entry that isn't gained (document 02, E5: "The missing part"), over terms.
-- Defined: `Leads`, the standard entries that are the highest-numbered ones in sums of known terms; `Missing`, the used set and the remainder of an
-- entry. Nothing here eliminates, and there is only one such pair of sets (`missing_unique`, proofs/Steps/Missing.antt).
use Rattle.std.specs.Prelude.{ℕ, ◌≤◌, ◌≡◌, true}
use mathlib.Core.List.{List, map, Memᴰ}
use Rattle.bitset.specs.Set.{member}
use Rattle.deduction.specs.Term.{◌⊕◌, sum_of, ◌≈◌}
use Rattle.deduction.specs.Entry.{Entry, term_at}
use Rattle.deduction.specs.Standard.{StandardSet, sum_of_set}
use Rattle.deduction.specs.Step.{Drawn}

-- There are n entries `e`, and the heads known so far are `es`, in the order learnt
module _ (e : ℕ → Entry) (n : ℕ) (es : List ℕ) where
  -- entry k is "the highest-numbered one in some sum of gained terms": in the set of standard entries whose sum is the sum of some finite list of
  -- known heads' terms
  pub record Leads (k : ℕ) : Type 0 where
    pub items : List ℕ
    pub known : (j : ℕ) → Memᴰ j items → Memᴰ j es
    pub set : ℕ
    pub standards : StandardSet e n set
    pub same : sum_of (map (term_at e) items) ≈ sum_of_set (term_at e) n set
    pub inside : member set k ≡ true
    pub highest : (j : ℕ) → member set j ≡ true → j ≤ k

  -- "the set of gained terms used and the exact remainder" of entry i
  pub record Missing (i used remainder : ℕ) : Type 0 where
    -- "used terms and remainder sum to the goal"
    pub total : term_at e i ≈ sum_of_set (term_at e) n used ⊕ sum_of_set (term_at e) n remainder
    -- "The used set draws on the same gained terms as a sum rung"
    pub drawn : (j : ℕ) → member used j ≡ true → Drawn (term_at e) n es j
    -- "The remainder holds no standard entry that is the highest-numbered one in some sum of gained terms", and standard entries alone
    pub standards : StandardSet e n remainder
    pub bare : (k : ℕ) → member remainder k ≡ true → ¬ Leads k
