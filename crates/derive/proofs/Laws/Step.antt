-- The step of a number, read off the tables, is the theory's.
-- Defined: `UsedOf`, the used sets are right; `Stepped`, what holds of the step of a number. Shown: the step of a number, by its rule; `step_next_lem`, for tables
-- that are right for entries that refer downwards, the step of the next number is `Stepped`; `sheet_step`, the same for a good sheet. Assumes nothing.
use mathlib.Core.Path.{◌≡◌, refl, sym, ap, ◌∙◌, subst}
use mathlib.Core.Bool.{Bool, true, false, cond, ◌&&◌}
use mathlib.Core.Logic.{◌⊎◌, inl, inr}
use mathlib.Core.List.Memᴰ
use mathlib.Core.List.{List, [], ◌++◌, Memᴰ}
use Prim.Native.Nat.{ℕ, zero, suc, ◌+◌, ◌*◌, ◌/◌, ◌%◌, ◌≤◌, ◌<◌}
use native.Mathlib.Omega.{arith}
use lib.Dec.{eqb}
use borrow.Author.Tests.{eqb-true}
use lib.ListN.{get_or}
use Rattle.bitset.specs.Set.{member}
use Rattle.deduction.specs.Setting.{Setting}
use Rattle.deduction.specs.Entry.{Entry, Zero, Atom, Pair, Enc, Sum, Half, Aenc, parts, Downward}
use Rattle.deduction.specs.Standard.{set_at, rep_at}
use Rattle.deduction.specs.Elimination.{Knowledge, reduce}
use Rattle.deduction.specs.Step.{step, unused}
use Rattle.deduction.specs.Run.{number, no_step, opener, any_half, by_rule, offer, opened, built, offers, all_offers, least_of, is_sum_of, next_number, second_part, expand, step_at}
use Rattle.deduction.proofs.Standard.{rep_le, rep_rep}
use Rattle.deduction.proofs.Forms.{Form, pairs, encs, aencs, form_entry}
use Rattle.deduction.proofs.Steps.Opener.{opener_le}
use Rattle.deduction.proofs.Steps.Numbers.{number_head, number_rule, number_first, least_one, chosen}
use Rattle.deduction.proofs.Steps.Found.{all_offers_lem, only_if, only_unless, ruled_as}
use Rattle.dag.specs.Sheet.{count_of}
use Rattle.dag.specs.Record.{entry_at}
use Rattle.dag.specs.Refusal.{refusal}
use Rattle.dag.proofs.Laws.Good.{good}
use Rattle.canonical.specs.Inner.Key.{key_of, key_at, key_right, key_opener, opener_of}
use Rattle.canonical.proofs.Laws.Key.{Narrow, key_form}
use Rattle.canonical.proofs.Laws.Record.{Bytes, narrow_bytes}
use Rattle.knowledge.specs.Inner.Lines.{set_in}
use Rattle.offers.specs.Inner.Right.{Right}
use Rattle.derive.specs.Inner.Step.{second_in, line_step, step_in}
use Rattle.offers.proofs.Laws.Keys.{open_opener}

-- a step's head is the head of its number
pub step_at_head : (e : ℕ → Entry) (n : ℕ) (k : Knowledge) (x : ℕ) → (step_at e n k x).head ≡ x / 65536
unfolding step_at expand
step_at_head e n k x = go (x / 256 % 256)
  where
    go : (r : ℕ) → (expand e n k (x / 65536) r (x % 256)).head ≡ x / 65536
    go zero = refl
    go (suc zero) = refl
    go (suc (suc zero)) = refl
    go (suc (suc (suc zero))) = refl
    go (suc (suc (suc (suc zero)))) = refl
    go (suc (suc (suc (suc (suc zero))))) = refl
    go (suc (suc (suc (suc (suc (suc zero)))))) = refl
    go (suc (suc (suc (suc (suc (suc (suc zero))))))) = refl
    go (suc (suc (suc (suc (suc (suc (suc (suc r)))))))) = refl

-- the second part of an entry of a form
second_part_lem : (f : Form) (a b : ℕ) → second_part (form_entry f a b) ≡ b
unfolding second_part
second_part_lem pairs a b = refl
second_part_lem encs a b = refl
second_part_lem aencs a b = refl

-- the used sets are right for the heads
abbrev pub UsedOf : (ℕ → Entry) → ℕ → Knowledge → List (List ℕ) → Type 0
UsedOf e n k used = (h : ℕ) → h < n → rep_at e h ≡ h → set_in used h ≡ (reduce k.rows (set_at e h)).used

-- the step of number x is the theory's, and its head is a head that isn't known
pub record Stepped (e : ℕ → Entry) (n : ℕ) (k : Knowledge) (keys : List ℕ) (used : List (List ℕ)) (x : ℕ) : Type 0 where
  pub same : step_in keys used x ≡ step_at e n k x
  pub head : x / 65536 % 256 ≡ (step_at e n k x).head
  pub below : x / 65536 % 256 < n
  pub own : rep_at e (x / 65536 % 256) ≡ x / 65536 % 256
  pub new : member k.known (x / 65536 % 256) ≡ false

module _ (on : Setting) (e : ℕ → Entry) (n : ℕ) (down : Downward e n) (few : n ≤ 256) (narrow : Narrow e n)
    (keys reps : List ℕ) (right : Right e n keys reps) where
  module _ (k : Knowledge) (used : List (List ℕ)) (uses : UsedOf e n k used) where
    abbrev g : ℕ
    g = k.known

    -- the number of a step that the tables and the theory expand alike, and its head is a head that isn't known
    abbrev Same : ℕ → Type 0
    Same x = (h : ℕ) × (r : ℕ) × (i : ℕ) × (x ≡ number h r i) × (h < n) × (r < 256) × (i < 256) × (line_step keys used h r i ≡ expand e n k h r i) × (rep_at e h ≡ h) × (member g h ≡ false)

    part_below : (i : ℕ) → i < n → (d : Entry) → e i ≡ d → (j : ℕ) → Memᴰ j (parts d) → rep_at e j < n
    part_below i l d p j m = omega (arith, rep_le e j, down i j l (subst (λ (c : Entry). Memᴰ j (parts c)) (sym p) m))

    -- the second part that the key of entry i says
    second_same : (f : Form) (i a b : ℕ) → i < n → e i ≡ form_entry f a b → key_right (get_or keys i 0) ≡ rep_at e (second_part (e i))
    second_same f i a b l p =
        let q = (key_form e n down few narrow f i a b l p).1 in
        ap key_right (right.key i l) ∙ low (key_at e i) (opener_of e n (e i)) ∙ q ∙ ap (rep_at e) (sym (ap second_part p ∙ second_part_lem f a b))
      where
        low : (x o : ℕ) → key_right (x + o * 65536) ≡ key_right x
        low x o = omega arith

    -- what opens entry i, as its key says
    opener_same : (i a b : ℕ) → i < n → e i ≡ Aenc a b → key_opener (get_or keys i 0) ≡ opener e n (e (rep_at e (second_part (e i))))
    unfolding key_of opener_of parts second_part
    opener_same i a b l p =
        let ha = part_below i l (Aenc a b) p a (Memᴰ.head refl) in let hb = part_below i l (Aenc a b) p b (Memᴰ.tail (Memᴰ.head refl)) in
        open_opener (get_or keys i 0) 7 (rep_at e a) (rep_at e b) (opener e n (e (rep_at e b))) (omega arith) (omega arith) (omega arith) (omega (arith, opener_le e n (e (rep_at e b))))
        (right.key i l ∙ ap (λ (d : Entry). key_of (rep_at e) d + opener_of e n d * 65536) p)
        ∙ sym (ap (λ (d : Entry). opener e n (e (rep_at e (second_part d)))) p)

    offered_as : (x h r i : ℕ) → Memᴰ x (offer on e n g h r i) → (x ≡ number h r i) × (member g h ≡ false)
    unfolding offer
    offered_as x h r i m = let (f, q) = only_unless (member g h) (by_rule on h r i) m in ((ruled_as on x h r i q).1, f)

    module _ (x i : ℕ) (l : i < n) where
      -- a step that gains a part of entry i, by a rule that the tables and the theory expand alike
      gained_same : (d : Entry) → e i ≡ d → (a r : ℕ) → Memᴰ a (parts d) → Memᴰ x (offer on e n g (rep_at e a) r i) → r < 256
          → line_step keys used (rep_at e a) r i ≡ expand e n k (rep_at e a) r i → Same x
      gained_same d p a r part m lr s =
          let (q, f) = offered_as x (rep_at e a) r i m in (rep_at e a, r, i, q, part_below i l d p a part, lr, omega arith, s, rep_rep e a, f)

      opened_same : (d : Entry) → e i ≡ d → Memᴰ x (opened on e n g i d) → Same x
      unfolding parts opened line_step second_in expand second_part
      opened_same Zero p o = absurd (Memᴰ.not-nil o)
      opened_same (Atom a) p o = absurd (Memᴰ.not-nil o)
      opened_same (Pair a b) p o = go (Memᴰ.append_cases (offer on e n g (rep_at e a) 1 i) o)
        where
          go : Memᴰ x (offer on e n g (rep_at e a) 1 i) ⊎ Memᴰ x (offer on e n g (rep_at e b) 2 i) → Same x
          go (inl m) = gained_same (Pair a b) p a 1 (Memᴰ.head refl) m (omega arith) refl
          go (inr m) = gained_same (Pair a b) p b 2 (Memᴰ.tail (Memᴰ.head refl)) m (omega arith) refl
      opened_same (Enc a b) p o =
          gained_same (Enc a b) p a 3 (Memᴰ.head refl) (only_if (member g (rep_at e b)) (offer on e n g (rep_at e a) 3 i) o).1 (omega arith)
          (ap (λ (j : ℕ). step (rep_at e a) 3 i j 0) (second_same encs i a b l p))
      opened_same (Sum items) p o = absurd (Memᴰ.not-nil o)
      opened_same (Half s a) p o = absurd (Memᴰ.not-nil o)
      opened_same (Aenc a b) p o =
          gained_same (Aenc a b) p a 7 (Memᴰ.head refl) (only_if (member g (opener e n (e (rep_at e b)))) (offer on e n g (rep_at e a) 7 i) o).1 (omega arith)
          (ap (λ (j : ℕ). step (rep_at e a) 7 i j 0) (opener_same i a b l p))

      -- steps that gain entry i, a head that isn't known
      module _ (own : rep_at e i ≡ i) (new : member g i ≡ false) where
        -- from known parts, a the first of them
        made_same : (d : Entry) → e i ≡ d → (a r : ℕ) → Memᴰ a (parts d) → Memᴰ x (by_rule on i r (rep_at e a)) → r < 256
            → line_step keys used i r (rep_at e a) ≡ expand e n k i r (rep_at e a) → Same x
        made_same d p a r part m lr s = (i, r, rep_at e a, (ruled_as on x i r (rep_at e a) m).1, l, lr, omega (arith, part_below i l d p a part), s, own, new)

        built_same : (d : Entry) → e i ≡ d → Memᴰ x (built on e n g i d) → Same x
        unfolding parts built line_step second_in expand second_part
        built_same Zero p o = absurd (Memᴰ.not-nil o)
        built_same (Atom a) p o = absurd (Memᴰ.not-nil o)
        built_same (Pair a b) p o =
            made_same (Pair a b) p a 4 (Memᴰ.head refl) (only_if (member g (rep_at e a) && member g (rep_at e b)) (by_rule on i 4 (rep_at e a)) o).1 (omega arith)
            (ap (λ (j : ℕ). step i 4 (rep_at e a) j 0) (second_same pairs i a b l p))
        built_same (Enc a b) p o =
            made_same (Enc a b) p a 5 (Memᴰ.head refl) (only_if (member g (rep_at e a) && member g (rep_at e b)) (by_rule on i 5 (rep_at e a)) o).1 (omega arith)
            (ap (λ (j : ℕ). step i 5 (rep_at e a) j 0) (second_same encs i a b l p))
        built_same (Sum items) p o = absurd (Memᴰ.not-nil o)
        built_same (Half s a) p o = absurd (Memᴰ.not-nil o)
        built_same (Aenc a b) p o =
            made_same (Aenc a b) p a 8 (Memᴰ.head refl) (only_if (any_half (e (rep_at e b)) && (member g (rep_at e a) && member g (rep_at e b))) (by_rule on i 8 (rep_at e a)) o).1 (omega arith)
            (ap (λ (j : ℕ). step i 8 (rep_at e a) j 0) (second_same aencs i a b l p))

        sum_same : x ≡ number i 6 0 → Same x
        unfolding line_step expand
        sum_same p = (i, 6, 0, p, l, omega arith, omega arith, ap (step i 6 unused unused) (uses i l own), own, new)

    offered_same : (f : ℕ → Bool) {x : ℕ} → Memᴰ x (all_offers on e n g f n) → Same x
    unfolding offers
    offered_same f {x} o =
        let (i, l, m) = all_offers_lem on e n g f n o in
        let (h, q) = only_if (eqb (rep_at e i) i) _ m in
        go i l (eqb-true (rep_at e i) i h) (chosen (member g i) _ _ q)
      where
        go : (i : ℕ) → i < n → rep_at e i ≡ i
            → ((member g i ≡ true) × Memᴰ x (opened on e n g i (e i))) ⊎ ((member g i ≡ false) × Memᴰ x (built on e n g i (e i) ++ cond (f i) (by_rule on i 6 0) []))
            → Same x
        go i l h (inl (c, q)) = opened_same x i l (e i) refl q
        go i l h (inr (c, q)) = either (Memᴰ.append_cases (built on e n g i (e i)) q)
          where
            either : Memᴰ x (built on e n g i (e i)) ⊎ Memᴰ x (cond (f i) (by_rule on i 6 0) []) → Same x
            either (inl b) = built_same x i l h c (e i) refl b
            either (inr b) = sum_same x i l h c (ruled_as on x i 6 0 (only_if (f i) (by_rule on i 6 0) b).1).1

    -- a step that comes next
    module _ (x : ℕ) (p : x ≡ next_number on e n k) (f : ¬ (x ≡ no_step)) where
      named : Same x
      unfolding next_number
      named = go (least_one no_step (all_offers on e n g (is_sum_of e k) n))
        where
          go : (least_of no_step (all_offers on e n g (is_sum_of e k) n) ≡ no_step) ⊎ Memᴰ (least_of no_step (all_offers on e n g (is_sum_of e k) n)) (all_offers on e n g (is_sum_of e k) n) → Same x
          go (inl q) = absurd (f (p ∙ q))
          go (inr m) = offered_same (is_sum_of e k) (Memᴰ.cast p m)

      -- its head
      head_named : x / 65536 % 256 ≡ named.0
      head_named = let (h, r, i, q, lh, lr, li, s, own, new) = named in omega (arith, ap (λ (y : ℕ). y / 65536) q ∙ number_head h r i lr li)

      -- the same step as the theory's
      step_same : step_in keys used x ≡ step_at e n k x
      unfolding step_in step_at
      step_same =
          let (h, r, i, q, lh, lr, li, s, own, new) = named in
          let ph : x / 65536 ≡ h = ap (λ (y : ℕ). y / 65536) q ∙ number_head h r i lr li in
          let pm : x / 65536 % 256 ≡ h = omega arith in
          let pr : x / 256 % 256 ≡ r = ap (λ (y : ℕ). y / 256 % 256) q ∙ number_rule h r i lr li in
          let pi : x % 256 ≡ i = ap (λ (y : ℕ). y % 256) q ∙ number_first h r i lr li in
          (λ t. line_step keys used (pm t) (pr t) (pi t)) ∙ s ∙ sym (λ t. expand e n k (ph t) (pr t) (pi t))

      step_head : x / 65536 % 256 ≡ (step_at e n k x).head
      step_head = let (h, r, i, q, lh, lr, li, s, own, new) = named in omega (arith, step_at_head e n k x)

      pub step_next_lem : Stepped e n k keys used x
      step_next_lem = record {
        same = step_same;
        head = step_head;
        below = subst (λ (h : ℕ). h < n) (sym head_named) named.4;
        own = subst (λ (h : ℕ). rep_at e h ≡ h) (sym head_named) named.8;
        new = subst (λ (h : ℕ). member g h ≡ false) (sym head_named) named.9;
      }

-- for a good sheet, whose numbers are narrow since its elements are bytes
pub sheet_step : (on : Setting) (s : List ℕ) → refusal s ≡ 0 → Bytes s → (keys reps : List ℕ) → Right (entry_at s) (count_of s) keys reps
    → (k : Knowledge) (used : List (List ℕ)) → UsedOf (entry_at s) (count_of s) k used → (x : ℕ) → x ≡ next_number on (entry_at s) (count_of s) k → ¬ (x ≡ no_step)
    → Stepped (entry_at s) (count_of s) k keys used x
sheet_step on s ok bytes = step_next_lem on (entry_at s) (count_of s) (good s ok).downward (good s ok).few (narrow_bytes s (count_of s) bytes)
