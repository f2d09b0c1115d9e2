-- What the lines of the heads say: which heads are sums of known terms (`sums_of`), and of which learnt entries (`used_of`). Assumes nothing.
use mathlib.Core.Path.{◌≡◌, refl, ap, ◌∙◌}
use mathlib.Core.Bool.{Bool, true, false, ◌&&◌}
use mathlib.Core.List.{List}
use Prim.Native.Nat.{ℕ, ◌<◌}
use lib.Dec.{eqb, ltb}
use lib.ListN.{get_or}
use borrow.Author.Tests.{ltb-true}
use Rattle.bitset.specs.Words.{value}
use Rattle.deduction.specs.Entry.{Entry}
use Rattle.deduction.specs.Standard.{set_at, rep_at}
use Rattle.deduction.specs.Elimination.{Reduced, Knowledge, reduce}
use Rattle.deduction.specs.Run.{is_sum_of}
use Rattle.knowledge.specs.Inner.Lines.{Kept, head_in}
use Rattle.offers.specs.Inner.Right.{Right}
use Rattle.offers.specs.Inner.Offers.{is_head}
use Rattle.offers.specs.Inner.Next.{SumsOf}
use Rattle.offers.proofs.Laws.Offers.{head_is}
use Rattle.derive.proofs.Laws.Step.{UsedOf}

module _ (e : ℕ → Entry) (n : ℕ) (keys reps : List ℕ) (right : Right e n keys reps) where
  -- the heads by the table of representatives
  head_in_lem : (i : ℕ) → head_in reps n i ≡ is_head e n i
  unfolding is_head
  head_in_lem i = go (ltb i n) refl
    where
      go : (b : Bool) → ltb i n ≡ b → (b && eqb (get_or reps i 0) i) ≡ (b && eqb (rep_at e i) i)
      go true p = ap (λ (r : ℕ). eqb r i) (right.rep i (ltb-true i n p))
      go false p = refl

  pub live_head : (h : ℕ) → h < n → rep_at e h ≡ h → head_in reps n h ≡ true
  live_head h l p = head_in_lem h ∙ head_is e n h l p

  module _ (k : Knowledge) {rs us cs : List (List ℕ)} {es : List ℕ} (lines : Kept (head_in reps n) (set_at e) k.rows rs us cs es) where
    pub sums_of : SumsOf e n k (value es)
    unfolding is_sum_of
    sums_of i l f = lines.empty i ∙ ap (λ (b : Bool). b && eqb (reduce k.rows (set_at e i)).remainder 0) (head_in_lem i)

    pub used_of : UsedOf e n k us
    used_of h l p = ap (λ (x : Reduced). x.used) (lines.line h (live_head h l p))
