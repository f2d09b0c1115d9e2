-- The next step by the table of offers is the theory's.
-- Shown: all steps that follow are the offers to heads not known, and the sums; `next_in_lem`, the number of the next step by a table that holds the offers is the
-- theory's; `sheet_least`, the same for a good sheet. Assumes nothing.
use mathlib.Core.Path.{◌≡◌, refl, sym, ap, ap₂, ◌∙◌}
use mathlib.Core.Bool.{Bool, true, false, true≢false, cond, not, ◌&&◌, ◌||◌, or-true}
use mathlib.Core.Logic.{◌⊎◌, inl, inr}
use mathlib.Core.List.Memᴰ
use mathlib.Core.List.{List, [], ◌++◌, Memᴰ}
use Prim.Native.Nat.{ℕ, ◌+◌, ◌*◌, ◌/◌, ◌%◌, ◌≤◌, ◌<◌, min}
use native.Mathlib.Omega.{arith}
use lib.Dec.{eqb, ltb}
use lib.ListN.{get_or}
use borrow.Author.Tests.{ltb-true, ltb-false, lt-ltb, eqb-true, eq-eqb, not-true}
use Rattle.bitset.specs.Set.{member}
use Rattle.bitset.specs.Words.{value}
use Rattle.deduction.specs.Setting.{Setting}
use Rattle.deduction.specs.Entry.{Entry, Zero, Atom, Pair, Enc, Sum, Half, Aenc, Downward}
use Rattle.deduction.specs.Standard.{rep_at}
use Rattle.deduction.specs.Elimination.{Knowledge}
use Rattle.deduction.specs.Run.{number, opener, by_rule, offer, opened, built, offers, all_offers, is_sum_of, next_number}
use Rattle.deduction.proofs.Standard.{rep_le}
use Rattle.deduction.proofs.Standard.First.{both_true}
use Rattle.deduction.proofs.Steps.Numbers.{number_head, chosen, choose, choose_not}
use Rattle.deduction.proofs.Steps.Found.{all_offers_lem, only_if, only_unless, ruled_as}
use Rattle.deduction.proofs.Steps.Offers.{offers_all}
use Rattle.dag.specs.Sheet.{count_of}
use Rattle.dag.specs.Record.{entry_at}
use Rattle.dag.specs.Refusal.{refusal}
use Rattle.dag.proofs.Laws.Good.{good}
use Rattle.offers.specs.Inner.Offers.{gives, line_offers, plain_offers, is_head}
use Rattle.offers.specs.Inner.Table.{Table, Covers, Kept}
use Rattle.offers.specs.Inner.Next.{SumsOf, summed, waits, way_of, next_in}
use Rattle.offers.proofs.Laws.Waiting.{heads_least}
use Rattle.offers.proofs.Laws.Offers.{from_plain, to_plain, is_head_lem, head_is, built_head}

-- The offers to heads not known, with and without the test inside
module _ (on : Setting) (e : ℕ → Entry) (n g i x : ℕ) (li : i < 256) where
  offer_rule : (h r : ℕ) → r < 256 → Memᴰ x (offer on e n g h r i) → Memᴰ x (by_rule on h r i) × (member g (x / 65536) ≡ false)
  unfolding offer
  offer_rule h r lr o =
      let (p, q) = only_unless (member g h) (by_rule on h r i) o in
      (q, ap (λ (y : ℕ). member g (y / 65536)) (ruled_as on x h r i q).1 ∙ ap (member g) (number_head h r i lr li) ∙ p)

  rule_offer : (h r : ℕ) → r < 256 → member g (x / 65536) ≡ false → Memᴰ x (by_rule on h r i) → Memᴰ x (offer on e n g h r i)
  unfolding offer
  rule_offer h r lr f q =
      choose_not (member g h) [] (by_rule on h r i)
      (sym (ap (λ (y : ℕ). member g (y / 65536)) (ruled_as on x h r i q).1 ∙ ap (member g) (number_head h r i lr li)) ∙ f) q

  opened_gives : (d : Entry) → Memᴰ x (opened on e n g i d) → Memᴰ x (gives on e n g i d) × (member g (x / 65536) ≡ false)
  unfolding opened gives
  opened_gives Zero o = absurd (Memᴰ.not-nil o)
  opened_gives (Atom a) o = absurd (Memᴰ.not-nil o)
  opened_gives (Pair a b) o = go (Memᴰ.append_cases (offer on e n g (rep_at e a) 1 i) o)
    where
      go : Memᴰ x (offer on e n g (rep_at e a) 1 i) ⊎ Memᴰ x (offer on e n g (rep_at e b) 2 i)
          → Memᴰ x (by_rule on (rep_at e a) 1 i ++ by_rule on (rep_at e b) 2 i) × (member g (x / 65536) ≡ false)
      go (inl m) = let (q, f) = offer_rule (rep_at e a) 1 (omega arith) m in (Memᴰ.append_left _ q, f)
      go (inr m) = let (q, f) = offer_rule (rep_at e b) 2 (omega arith) m in (Memᴰ.append_right (by_rule on (rep_at e a) 1 i) q, f)
  opened_gives (Enc a b) o =
      let (p, m) = only_if (member g (rep_at e b)) (offer on e n g (rep_at e a) 3 i) o in
      let (q, f) = offer_rule (rep_at e a) 3 (omega arith) m in (choose (member g (rep_at e b)) (by_rule on (rep_at e a) 3 i) [] p q, f)
  opened_gives (Sum items) o = absurd (Memᴰ.not-nil o)
  opened_gives (Half s a) o = absurd (Memᴰ.not-nil o)
  opened_gives (Aenc a b) o =
      let j = opener e n (e (rep_at e b)) in
      let (p, m) = only_if (member g j) (offer on e n g (rep_at e a) 7 i) o in
      let (q, f) = offer_rule (rep_at e a) 7 (omega arith) m in (choose (member g j) (by_rule on (rep_at e a) 7 i) [] p q, f)

  gives_opened : (d : Entry) → member g (x / 65536) ≡ false → Memᴰ x (gives on e n g i d) → Memᴰ x (opened on e n g i d)
  unfolding opened gives
  gives_opened Zero f o = o
  gives_opened (Atom a) f o = o
  gives_opened (Pair a b) f o = go (Memᴰ.append_cases (by_rule on (rep_at e a) 1 i) o)
    where
      go : Memᴰ x (by_rule on (rep_at e a) 1 i) ⊎ Memᴰ x (by_rule on (rep_at e b) 2 i) → Memᴰ x (offer on e n g (rep_at e a) 1 i ++ offer on e n g (rep_at e b) 2 i)
      go (inl m) = Memᴰ.append_left _ (rule_offer (rep_at e a) 1 (omega arith) f m)
      go (inr m) = Memᴰ.append_right (offer on e n g (rep_at e a) 1 i) (rule_offer (rep_at e b) 2 (omega arith) f m)
  gives_opened (Enc a b) f o =
      let (p, m) = only_if (member g (rep_at e b)) (by_rule on (rep_at e a) 3 i) o in
      choose (member g (rep_at e b)) (offer on e n g (rep_at e a) 3 i) [] p (rule_offer (rep_at e a) 3 (omega arith) f m)
  gives_opened (Sum items) f o = o
  gives_opened (Half s a) f o = o
  gives_opened (Aenc a b) f o =
      let j = opener e n (e (rep_at e b)) in
      let (p, m) = only_if (member g j) (by_rule on (rep_at e a) 7 i) o in
      choose (member g j) (offer on e n g (rep_at e a) 7 i) [] p (rule_offer (rep_at e a) 7 (omega arith) f m)

-- All steps that follow, for a test f whether an entry is a sum
module _ (on : Setting) (e : ℕ → Entry) (n : ℕ) (down : Downward e n) (few : n ≤ 256) (g : ℕ) (f : ℕ → Bool) where
  -- an open head that is a sum, and x the number of the step
  abbrev Summed : ℕ → ℕ → Type 0
  Summed x i = (is_head e n i ≡ true) × (member g i ≡ false) × (f i ≡ true) × (on 6 ≡ true) × (x ≡ number i 6 0)

  from_all : (x : ℕ) → Memᴰ x (all_offers on e n g f n) → (Memᴰ x (plain_offers on e n g n) × (member g (x / 65536) ≡ false)) ⊎ ((i : ℕ) × (i < n) × Summed x i)
  unfolding offers line_offers
  from_all x o =
      let (i, l, m) = all_offers_lem on e n g f n o in
      let (p, q) = only_if (eqb (rep_at e i) i) _ m in
      go i l (eqb-true (rep_at e i) i p) (chosen (member g i) _ _ q)
    where
      go : (i : ℕ) → i < n → rep_at e i ≡ i
          → ((member g i ≡ true) × Memᴰ x (opened on e n g i (e i))) ⊎ ((member g i ≡ false) × Memᴰ x (built on e n g i (e i) ++ cond (f i) (by_rule on i 6 0) []))
          → (Memᴰ x (plain_offers on e n g n) × (member g (x / 65536) ≡ false)) ⊎ ((j : ℕ) × (j < n) × Summed x j)
      go i l h (inl (c, q)) =
          let (a, b) = opened_gives on e n g i x (omega arith) (e i) q in inl (to_plain on e n g n i l h (choose (member g i) (gives on e n g i (e i)) (built on e n g i (e i)) c a), b)
      go i l h (inr (c, q)) = either (Memᴰ.append_cases (built on e n g i (e i)) q)
        where
          either : Memᴰ x (built on e n g i (e i)) ⊎ Memᴰ x (cond (f i) (by_rule on i 6 0) [])
              → (Memᴰ x (plain_offers on e n g n) × (member g (x / 65536) ≡ false)) ⊎ ((j : ℕ) × (j < n) × Summed x j)
          either (inl b) =
              inl (
                to_plain on e n g n i l h (choose_not (member g i) (gives on e n g i (e i)) (built on e n g i (e i)) c b),
                ap (member g) (built_head on e n g i (e i) (λ j m. omega (arith, rep_le e j, down i j l m)) b) ∙ c,
              )
          either (inr b) = let (s, m) = only_if (f i) (by_rule on i 6 0) b in let (w, y) = ruled_as on x i 6 0 m in inr (i, l, (head_is e n i l h, c, s, w, y))

  -- an offer of a head
  at_head : (x i : ℕ) → i < n → rep_at e i ≡ i → Memᴰ x (cond (member g i) (opened on e n g i (e i)) (built on e n g i (e i) ++ cond (f i) (by_rule on i 6 0) [])) → Memᴰ x (all_offers on e n g f n)
  unfolding offers
  at_head x i l h o = offers_all on e n g f n i l (choose (eqb (rep_at e i) i) _ [] (eq-eqb (rep_at e i) i h) o)

  plain_all : (x : ℕ) → Memᴰ x (plain_offers on e n g n) → member g (x / 65536) ≡ false → Memᴰ x (all_offers on e n g f n)
  unfolding line_offers
  plain_all x o d =
      let (i, l, h, m) = from_plain on e n g n o in at_head x i l h (go i l (chosen (member g i) (gives on e n g i (e i)) (built on e n g i (e i)) m))
    where
      go : (i : ℕ) → i < n → ((member g i ≡ true) × Memᴰ x (gives on e n g i (e i))) ⊎ ((member g i ≡ false) × Memᴰ x (built on e n g i (e i)))
          → Memᴰ x (cond (member g i) (opened on e n g i (e i)) (built on e n g i (e i) ++ cond (f i) (by_rule on i 6 0) []))
      go i l (inl (c, q)) = choose (member g i) _ _ c (gives_opened on e n g i x (omega arith) (e i) d q)
      go i l (inr (c, q)) = choose_not (member g i) _ _ c (Memᴰ.append_left _ q)

  sum_all : (x i : ℕ) → Summed x i → Memᴰ x (all_offers on e n g f n)
  unfolding by_rule
  sum_all x i (hi, c, s, w, y) =
      let (l, h) = is_head_lem e n i hi in
      at_head x i l h (choose_not (member g i) _ _ c (Memᴰ.append_right (built on e n g i (e i)) (choose (f i) _ [] s (choose (on 6) _ [] w (Memᴰ.head y)))))

-- The table holds the offers made, which are all offers as far as their heads aren't known, and the set empty has the heads that are sums of known ones
module _ (on : Setting) (e : ℕ → Entry) (n : ℕ) (down : Downward e n) (few : n ≤ 256) (k : Knowledge) {best ready xs : List ℕ} (empty : ℕ)
    (t : Table best ready xs) (c : Covers k.known xs (plain_offers on e n k.known n))
    (s : SumsOf e n k empty) where
  abbrev g : ℕ
  g = k.known

  abbrev is_sum : ℕ → Bool
  is_sum = summed on empty

  abbrev waiting : ℕ → Bool
  waiting = waits on (value ready) empty g

  abbrev way : ℕ → ℕ
  way = way_of on best empty

  way_le : (h : ℕ) → way h ≤ get_or best h 0
  unfolding way_of
  way_le h = go (is_sum h)
    where
      go : (b : Bool) → cond b (min (get_or best h 0) 1536) (get_or best h 0) ≤ get_or best h 0
      go true = omega arith
      go false = omega arith

  -- of a sum
  sum_way : (h : ℕ) → is_sum h ≡ true → way h ≡ min (get_or best h 0) 1536
  unfolding way_of
  sum_way h p = ap (λ (b : Bool). cond b (min (get_or best h 0) 1536) (get_or best h 0)) p

  other_way : (h : ℕ) → is_sum h ≡ false → way h ≡ get_or best h 0
  unfolding way_of
  other_way h p = ap (λ (b : Bool). cond b (min (get_or best h 0) 1536) (get_or best h 0)) p

  over : (x : ℕ) → Memᴰ x (all_offers on e n g (is_sum_of e k) n) → (x / 65536 < 256) × (waiting (x / 65536) ≡ true) × (way (x / 65536) ≤ x % 65536)
  unfolding waits summed
  over x o = go (from_all on e n down few g (is_sum_of e k) x o)
    where
      go : (Memᴰ x (plain_offers on e n g n) × (member g (x / 65536) ≡ false)) ⊎ ((i : ℕ) × (i < n) × Summed on e n down few g (is_sum_of e k) x i)
          → (x / 65536 < 256) × (waiting (x / 65536) ≡ true) × (way (x / 65536) ≤ x % 65536)
      go (inl (m, f)) =
          let (a, b, d) = t.low x (c.made x m f) in
          (a, ap₂ (λ (u v : Bool). (u || is_sum (x / 65536)) && not v) (t.marked (x / 65536) a ∙ lt-ltb (get_or best (x / 65536) 0) 65535 (omega arith)) f, omega (arith, way_le (x / 65536)))
      go (inr (i, l, (h, d, q, w, y))) =
          let p : x / 65536 ≡ i = ap (λ (z : ℕ). z / 65536) y ∙ number_head i 6 0 (omega arith) (omega arith) in
          let z : is_sum i ≡ true = ap₂ ◌&&◌ w (s i (omega arith) d ∙ ap₂ ◌&&◌ h q) in (
            omega arith,
            ap waiting p ∙ ap₂ (λ (u v : Bool). (member (value ready) i || u) && not v) z d ∙ ap (λ (u : Bool). u && true) (or-true (member (value ready) i)),
            rw p (omega (arith, sum_way i z)),
          )

  there : (h : ℕ) → h < 256 → waiting h ≡ true → (way h < 65536) × Memᴰ (h * 65536 + way h) (all_offers on e n g (is_sum_of e k) n)
  unfolding waits summed
  there h l p = let (u, v) = both_true (member (value ready) h || is_sum h) (not (member g h)) p in go (not-true (member g h) v) (is_sum h) refl (ltb (get_or best h 0) 65535) refl u
    where
      -- by its place in the table
      placed : member g h ≡ false → get_or best h 0 < 65535 → way h ≡ get_or best h 0 → (way h < 65536) × Memᴰ (h * 65536 + way h) (all_offers on e n g (is_sum_of e k) n)
      placed f b q =
          let d : (h * 65536 + way h) / 65536 ≡ h = omega arith in
          (omega arith, plain_all on e n down few g (is_sum_of e k) _ (c.still _ (Memᴰ.cast (ap (λ (w : ℕ). h * 65536 + w) q) (t.among h l b)) (ap (member g) d ∙ f)) (ap (member g) d ∙ f))

      -- as a sum
      added : member g h ≡ false → is_sum h ≡ true → way h ≡ 1536 → (way h < 65536) × Memᴰ (h * 65536 + way h) (all_offers on e n g (is_sum_of e k) n)
      added f z q =
          let (w, m) = both_true (on 6) (member empty h) z in
          let (hh, hs) = both_true (is_head e n h) (is_sum_of e k h) (sym (s h l f) ∙ m) in
          (omega arith, sum_all on e n down few g (is_sum_of e k) _ h (hh, f, hs, w, omega arith))

      go : member g h ≡ false → (b : Bool) → is_sum h ≡ b → (r : Bool) → ltb (get_or best h 0) 65535 ≡ r → (member (value ready) h || is_sum h) ≡ true
          → (way h < 65536) × Memᴰ (h * 65536 + way h) (all_offers on e n g (is_sum_of e k) n)
      go f true z r q u = at (ltb (get_or best h 0) 1536) refl
        where
          at : (b : Bool) → ltb (get_or best h 0) 1536 ≡ b → (way h < 65536) × Memᴰ (h * 65536 + way h) (all_offers on e n g (is_sum_of e k) n)
          at true y = placed f (omega (arith, ltb-true (get_or best h 0) 1536 y)) (omega (arith, sum_way h z, ltb-true (get_or best h 0) 1536 y))
          at false y = added f z (omega (arith, sum_way h z, ltb-false (get_or best h 0) 1536 y))
      go f false z true q u = placed f (ltb-true (get_or best h 0) 65535 q) (other_way h z)
      go f false z false q u = absurd (true≢false (sym u ∙ ap₂ ◌||◌ (t.marked h l ∙ q) z))

  pub next_in_lem : next_in on best (value ready) empty g ≡ next_number on e n k
  unfolding next_in next_number
  next_in_lem = heads_least (all_offers on e n g (is_sum_of e k) n) waiting way over there

-- for a good sheet
pub sheet_least : (on : Setting) (s : List ℕ) → refusal s ≡ 0 → (k : Knowledge) (empty : ℕ) {best ready : List ℕ} → Kept on (entry_at s) (count_of s) k.known best ready
    → SumsOf (entry_at s) (count_of s) k empty → next_in on best (value ready) empty k.known ≡ next_number on (entry_at s) (count_of s) k
sheet_least on s ok k empty t = next_in_lem on (entry_at s) (count_of s) (good s ok).downward (good s ok).few k empty t.table t.covers
