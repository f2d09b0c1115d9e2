-- The run: the next step found by a search, and steps made until the goal is known, nothing follows or the budget is used up.
-- Defined: `next_number`, `next_step`, `Outcome`, `run`. That the search finds `IsNext` and the run makes the `Course` are theorems (proofs/Steps/).
use Rattle.std.specs.Prelude.{ℕ, zero, suc, ◌+◌, ◌*◌, ◌/◌, ◌%◌, min, Bool, true, false, cond, not, ◌&&◌, List, [], ◌∷◌, ◌++◌, eqb}
use Rattle.bitset.specs.Set.{member}
use Rattle.deduction.specs.Term.{opposite}
use Rattle.deduction.specs.Setting.{Setting}
use Rattle.deduction.specs.Entry.{Entry, Zero, Atom, Pair, Enc, Sum, Half, Aenc}
use Rattle.deduction.specs.Standard.{half_kind, least, set_at, rep_at}
use Rattle.deduction.specs.Elimination.{Knowledge, reduce, learn_all, nothing}
use Rattle.deduction.specs.Step.{Step, step, unused}
pub use Rattle.deduction.specs.Course.{Verdict, derivable, underivable, exhausted}

-- what is known after learning the heads `es` in order
unfoldable pub knowledge : (ℕ → Entry) → List ℕ → Knowledge
knowledge e es = learn_all (set_at e) nothing es

-- a step's place in the order as one number: head, then rule, then first source
abbrev pub number : ℕ → ℕ → ℕ → ℕ
number h r i = h * 65536 + r * 256 + i

-- above every step's number
abbrev pub no_step : ℕ
no_step = 16777216

-- is this entry a half of kind k with the number a?
unfoldable pub is_half : ℕ → ℕ → Entry → Bool
is_half k a Zero = false
is_half k a (Atom b) = false
is_half k a (Pair l r) = false
is_half k a (Enc m x) = false
is_half k a (Sum items) = false
is_half k a (Half s b) = eqb (half_kind s) k && eqb b a
is_half k a (Aenc m x) = false

-- the first of the n entries that is the opposite half of this one, and n where there is none
unfoldable pub opener : (ℕ → Entry) → ℕ → Entry → ℕ
opener e n Zero = n
opener e n (Atom a) = n
opener e n (Pair l r) = n
opener e n (Enc m k) = n
opener e n (Sum items) = n
opener e n (Half s a) = least (λ j. is_half (half_kind (opposite s)) a (e j)) n
opener e n (Aenc m k) = n

-- is this entry a half?
unfoldable pub any_half : Entry → Bool
any_half Zero = false
any_half (Atom a) = false
any_half (Pair l r) = false
any_half (Enc m k) = false
any_half (Sum items) = false
any_half (Half s a) = true
any_half (Aenc m k) = false

-- the head h by rule r from i, where the rule is switched on
unfoldable pub by_rule : Setting → ℕ → ℕ → ℕ → List ℕ
by_rule on h r i = cond (on r) (number h r i ∷ []) []

-- The steps that follow, as numbers, for the rules switched on, n entries `e`, a known set g and a test whether an entry is a sum of known ones
module _ (on : Setting) (e : ℕ → Entry) (n g : ℕ) where
  -- the head h by rule r from i, unless h is known
  unfoldable pub offer : ℕ → ℕ → ℕ → List ℕ
  offer h r i = cond (member g h) [] (by_rule on h r i)

  -- what a known entry gives: its parts, or its message where its key is known, or for a lock the opposite half of its key
  unfoldable pub opened : ℕ → Entry → List ℕ
  opened i Zero = []
  opened i (Atom a) = []
  opened i (Pair l r) = offer (rep_at e l) 1 i ++ offer (rep_at e r) 2 i
  opened i (Enc m k) = cond (member g (rep_at e k)) (offer (rep_at e m) 3 i) []
  opened i (Sum items) = []
  opened i (Half s a) = []
  opened i (Aenc m k) = cond (member g (opener e n (e (rep_at e k)))) (offer (rep_at e m) 7 i) []

  -- by which rule an unknown entry is built from known parts
  unfoldable pub built : ℕ → Entry → List ℕ
  built i Zero = []
  built i (Atom a) = []
  built i (Pair l r) = cond (member g (rep_at e l) && member g (rep_at e r)) (by_rule on i 4 (rep_at e l)) []
  built i (Enc m k) = cond (member g (rep_at e m) && member g (rep_at e k)) (by_rule on i 5 (rep_at e m)) []
  built i (Sum items) = []
  built i (Half s a) = []
  built i (Aenc m k) = cond (any_half (e (rep_at e k)) && (member g (rep_at e m) && member g (rep_at e k))) (by_rule on i 8 (rep_at e m)) []

  module _ (is_sum : ℕ → Bool) where
    -- the steps that head i gives or is gained by
    unfoldable pub offers : ℕ → List ℕ
    offers i =
        cond (eqb (rep_at e i) i) (cond (member g i) (opened i (e i)) (built i (e i) ++ cond (is_sum i) (by_rule on i 6 0) [])) []

    -- of the first m entries
    unfoldable pub all_offers : ℕ → List ℕ
    all_offers zero = []
    all_offers (suc m) = all_offers m ++ offers m

-- the least of a list, and d where it is empty
unfoldable pub least_of : ℕ → List ℕ → ℕ
least_of d [] = d
least_of d (x ∷ xs) = min x (least_of d xs)

-- is entry i a sum of known ones?
unfoldable pub is_sum_of : (ℕ → Entry) → Knowledge → ℕ → Bool
is_sum_of e k i = eqb (reduce k.rows (set_at e i)).remainder 0

-- the number of the next step, and no_step where nothing follows
unfoldable pub next_number : Setting → (ℕ → Entry) → ℕ → Knowledge → ℕ
next_number on e n k = least_of no_step (all_offers on e n k.known (is_sum_of e k) n)

-- the second entry number in a record: a pair's right, the key of an encryption of either sort
unfoldable pub second_part : Entry → ℕ
second_part Zero = 0
second_part (Atom a) = 0
second_part (Pair l r) = r
second_part (Enc m k) = k
second_part (Sum items) = 0
second_part (Half s a) = 0
second_part (Aenc m k) = k

-- the whole step of head h, rule r and first source i
unfoldable pub expand : (ℕ → Entry) → ℕ → Knowledge → ℕ → ℕ → ℕ → Step
expand e n k h zero i = step h zero i unused 0
expand e n k h (suc zero) i = step h 1 i unused 0
expand e n k h (suc (suc zero)) i = step h 2 i unused 0
expand e n k h (suc (suc (suc zero))) i = step h 3 i (rep_at e (second_part (e i))) 0
expand e n k h (suc (suc (suc (suc zero)))) i = step h 4 i (rep_at e (second_part (e h))) 0
expand e n k h (suc (suc (suc (suc (suc zero))))) i = step h 5 i (rep_at e (second_part (e h))) 0
expand e n k h (suc (suc (suc (suc (suc (suc zero)))))) i = step h 6 unused unused (reduce k.rows (set_at e h)).used
expand e n k h (suc (suc (suc (suc (suc (suc (suc zero))))))) i = step h 7 i (opener e n (e (rep_at e (second_part (e i))))) 0
expand e n k h (suc (suc (suc (suc (suc (suc (suc (suc r)))))))) i = step h 8 i (rep_at e (second_part (e h))) 0

-- the step of a number
unfoldable pub step_at : (ℕ → Entry) → ℕ → Knowledge → ℕ → Step
step_at e n k x = expand e n k (x / 65536) (x / 256 % 256) (x % 256)

-- a verdict, the steps made, and the heads known at the end in the order learnt
pub record Outcome : Type 0 where
  pub verdict : Verdict
  pub steps : List Step
  pub learnt : List ℕ

unfoldable pub after : Step → Outcome → Outcome
after s o = record { verdict = o.verdict; steps = s ∷ o.steps; learnt = o.learnt }

-- "An entry, the goal too, is gained when its head is"
unfoldable pub reached : (ℕ → Entry) → ℕ → Knowledge → Bool
reached e goal k = member k.known (rep_at e goal)

-- the step that comes next
unfoldable pub next_step : Setting → (ℕ → Entry) → ℕ → List ℕ → Step
next_step on e n es = step_at e n (knowledge e es) (next_number on e n (knowledge e es))

-- does a step follow, with the goal not known?
unfoldable pub goes_on : Setting → (ℕ → Entry) → ℕ → ℕ → List ℕ → Bool
goes_on on e n goal es = not (reached e goal (knowledge e es)) && not (eqb (next_number on e n (knowledge e es)) no_step)

-- no step more is made: the goal is known, or nothing follows, or else the budget is used up
unfoldable pub ended : Setting → (ℕ → Entry) → ℕ → ℕ → List ℕ → Outcome
ended on e n goal es =
    record {
      verdict = cond (reached e goal (knowledge e es)) derivable (cond (eqb (next_number on e n (knowledge e es)) no_step) underivable exhausted);
      steps = [];
      learnt = es;
    }

-- "The work ends when the goal is gained, when no rung follows, or when the budget b .. is used up". The start is any list of heads
unfoldable pub run : Setting → (ℕ → Entry) → ℕ → ℕ → ℕ → List ℕ → Outcome
run on e n goal zero es = ended on e n goal es
run on e n goal (suc b) es =
    elim (goes_on on e n goal es) [
      | true ↦ after (next_step on e n es) (run on e n goal b (es ++ ((next_step on e n es).head ∷ [])))
      | false ↦ ended on e n goal es
    ]
