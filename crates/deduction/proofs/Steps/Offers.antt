-- The steps that follow, and the numbers that the search goes through.
-- Shown: every step that follows is the expansion of its head, rule and first source, and where its rule is switched on its number is among the offers.
-- Assumes nothing.
use mathlib.Core.Path.{◌≡◌, refl, sym, ap, ap₂, ◌∙◌, subst}
use mathlib.Core.Bool.{Bool, true, false, ◌&&◌}
use mathlib.Core.Logic.{by_cases}
use mathlib.Core.List.Memᴰ
use mathlib.Core.List.{List, Memᴰ}
use Prim.Native.Nat.{ℕ, zero, suc, ◌<◌}
use native.Mathlib.Nat.{not-suc-le-zero}
use native.Mathlib.Decide.{dec_lt}
use native.Mathlib.Omega.{arith}
use borrow.Author.Tests.{eq-eqb}
use Rattle.bitset.specs.Set.{member}
use Rattle.deduction.specs.Term.{Side, opposite, half, ◌≈◌, then}
use Rattle.deduction.specs.Setting.{Setting}
use Rattle.deduction.specs.Entry.{Entry, Pair, Enc, Aenc, term_at, Downward}
use Rattle.deduction.specs.Standard.{set_at, rep_at}
use Rattle.deduction.specs.Elimination.{Knowledge, reduce}
use Rattle.deduction.specs.Step.{Step, step, unused, Open, Follows, Allowed}
use Rattle.deduction.specs.Run.{number, opener, any_half, by_rule, offer, opened, built, offers, all_offers, is_sum_of, second_part, expand}
use Rattle.deduction.proofs.Elimination.State.{Learnt}
use Rattle.deduction.proofs.Forms.{pairs, encs, aencs}
use Rattle.deduction.proofs.Standard.{rep_rep, rep_same}
use Rattle.deduction.proofs.Standard.SumTest.{sum_test_unique}
use Rattle.deduction.proofs.Steps.Head.{Heads, head_rep, rep_below, rep_of, form_record, half_record_lem}
use Rattle.deduction.proofs.Steps.Opener.{opener_head}
use Rattle.deduction.proofs.Steps.Numbers.{number_of, choose, choose_not}
use Rattle.deduction.proofs.Steps.Drawn.{drawn_independent}

-- what any of the first m entries offers is among all offers
pub offers_all : (on : Setting) (e : ℕ → Entry) (n g : ℕ) (f : ℕ → Bool) (m i : ℕ) {x : ℕ} → i < m → Memᴰ x (offers on e n g f i) → Memᴰ x (all_offers on e n g f m)
unfolding all_offers
offers_all on e n g f zero i l o = absurd (not-suc-le-zero l)
offers_all on e n g f (suc m) i {x} l o =
    by_cases (dec_lt i m) (λ q. Memᴰ.append_left (offers on e n g f m) (offers_all on e n g f m i q o))
    (λ q. Memᴰ.append_right (all_offers on e n g f m) (subst (λ (j : ℕ). Memᴰ x (offers on e n g f j)) (last q) o))
  where
    last : ¬ (i < m) → i ≡ m
    last q = omega arith

module _ (e : ℕ → Entry) (n : ℕ) (down : Downward e n) {es : List ℕ} {k : Knowledge} (l : Learnt (set_at e) n es k) (heads : Heads e n es) where
  -- an entry that wasn't learnt isn't in the known set
  pub not_known : (h : ℕ) → ¬ (Memᴰ h es) → member k.known h ≡ false
  not_known h f = go (member k.known h) refl
    where
      go : (b : Bool) → member k.known h ≡ b → b ≡ false
      go false p = refl
      go true p = absurd (f ((l.members h).0 p))

  known_as : (x i : ℕ) → x ≡ i → Memᴰ i es → member k.known x ≡ true
  known_as x i p m = ap (member k.known) p ∙ (l.members i).1 m

  -- the head of an entry with an open head's term, and of one with a known entry's
  open_rep : (x h : ℕ) → x < n → Open (term_at e) n es h → term_at e x ≈ term_at e h → rep_at e x ≡ h
  open_rep x h lx o q = rep_of e n down x h lx o.0.0 (head_rep e n down h o.0) q

  known_rep : (x i : ℕ) → x < n → Memᴰ i es → term_at e x ≈ term_at e i → rep_at e x ≡ i
  known_rep x i lx m q = rep_of e n down x i lx (heads i m).0 (heads i m).1 q

  -- what opens a lock whose key is a half: the known entry with the opposite half's term
  opens : (y j : ℕ) (s : Side) (a : ℕ) → y < n → term_at e y ≈ half s a → Memᴰ j es → term_at e j ≈ half (opposite s) a → opener e n (e (rep_at e y)) ≡ j
  opens y j s a ly sy c r =
      opener_head e n down (rep_at e y) j s a (half_record_lem e n down (rep_at e y) s a (rep_below e n down y ly) (rep_rep e y) (then (rep_same e n down y ly) sy)) (heads j c).0 (heads j c).1 r

  -- the key of a lock that a half builds is a half
  half_key : (y j : ℕ) (s : Side) (a : ℕ) → y < n → term_at e y ≈ term_at e j → Memᴰ j es → term_at e j ≈ half s a → any_half (e (rep_at e y)) ≡ true
  unfolding any_half
  half_key y j s a ly sy c r = ap (λ (x : ℕ). any_half (e x)) (known_rep y j ly c sy) ∙ ap any_half (half_record_lem e n down j s a (heads j c).0 (heads j c).1 r)

  -- a step that follows is the expansion of its head, rule and first source
  pub follows_expand : {s : Step} → Follows (term_at e) n es s → s ≡ expand e n k s.head s.rule s.first
  unfolding expand second_part
  follows_expand (Follows.first b o m q) = refl
  follows_expand (Follows.second a o m q) = refl
  follows_expand (Follows.decrypt {h = h} {i = i} {j = j} o m c q) =
      let (x, y, p, lx, ly, sx, sy) = form_record e n down encs i (heads i m).0 (heads i m).1 q in
      ap (λ (z : ℕ). step h 3 i z 0) (sym (ap (λ (d : Entry). rep_at e (second_part d)) p ∙ known_rep y j ly c sy))
  follows_expand (Follows.join {h = h} {i = i} {j = j} o m c q) =
      let (x, y, p, lx, ly, sx, sy) = form_record e n down pairs h o.0.0 (head_rep e n down h o.0) q in
      ap (λ (z : ℕ). step h 4 i z 0) (sym (ap (λ (d : Entry). rep_at e (second_part d)) p ∙ known_rep y j ly c sy))
  follows_expand (Follows.encrypt {h = h} {i = i} {j = j} o m c q) =
      let (x, y, p, lx, ly, sx, sy) = form_record e n down encs h o.0.0 (head_rep e n down h o.0) q in
      ap (λ (z : ℕ). step h 5 i z 0) (sym (ap (λ (d : Entry). rep_at e (second_part d)) p ∙ known_rep y j ly c sy))
  follows_expand (Follows.sum {h = h} u o f q) =
      ap (step h 6 unused unused) (sum_test_unique e n down l h o.0.0 u (λ j m. (drawn_independent e n down es l.below j).0 (f j m)) q).1
  follows_expand (Follows.adecrypt {h = h} {i = i} {j = j} s a o m c q r) =
      let (x, y, p, lx, ly, sx, sy) = form_record e n down aencs i (heads i m).0 (heads i m).1 q in
      ap (λ (z : ℕ). step h 7 i z 0) (sym (ap (λ (d : Entry). opener e n (e (rep_at e (second_part d)))) p ∙ opens y j s a ly sy c r))
  follows_expand (Follows.aencrypt {h = h} {i = i} {j = j} s a o m c q r) =
      let (x, y, p, lx, ly, sx, sy) = form_record e n down aencs h o.0.0 (head_rep e n down h o.0) q in
      ap (λ (z : ℕ). step h 8 i z 0) (sym (ap (λ (d : Entry). rep_at e (second_part d)) p ∙ known_rep y j ly c sy))

  module _ (on : Setting) where
    abbrev All : List ℕ
    All = all_offers on e n k.known (is_sum_of e k) n

    -- a number by a rule that is on, with head and source written otherwise
    ruled : (x h r y i : ℕ) → on r ≡ true → x ≡ h → y ≡ i → Memᴰ (number h r i) (by_rule on x r y)
    unfolding by_rule
    ruled x h r y i a p q = choose _ _ _ a (Memᴰ.head (ap₂ (λ (u v : ℕ). number u r v) (sym p) (sym q)))

    -- where an offer stands
    by_opened : (i : ℕ) {x : ℕ} (d : Entry) → Memᴰ i es → e i ≡ d → Memᴰ x (opened on e n k.known i d) → Memᴰ x All
    unfolding offers
    by_opened i {x} d m p o =
        offers_all on e n k.known (is_sum_of e k) n i (heads i m).0
        (choose _ _ _ (eq-eqb (rep_at e i) i (heads i m).1)
        (choose _ _ _ ((l.members i).1 m) (subst (λ (c : Entry). Memᴰ x (opened on e n k.known i c)) (sym p) o)))

    by_built : (h : ℕ) {x : ℕ} (d : Entry) → Open (term_at e) n es h → e h ≡ d → Memᴰ x (built on e n k.known h d) → Memᴰ x All
    unfolding offers
    by_built h {x} d o p m =
        offers_all on e n k.known (is_sum_of e k) n h o.0.0
        (choose _ _ _ (eq-eqb (rep_at e h) h (head_rep e n down h o.0))
        (choose_not _ _ _ (not_known h o.1) (Memᴰ.append_left _ (subst (λ (c : Entry). Memᴰ x (built on e n k.known h c)) (sym p) m))))

    by_sum : (h : ℕ) → on 6 ≡ true → Open (term_at e) n es h → (reduce k.rows (set_at e h)).remainder ≡ 0 → Memᴰ (number h 6 0) All
    unfolding offers is_sum_of
    by_sum h a o z =
        offers_all on e n k.known (is_sum_of e k) n h o.0.0
        (choose _ _ _ (eq-eqb (rep_at e h) h (head_rep e n down h o.0))
        (choose_not _ _ _ (not_known h o.1) (Memᴰ.append_right (built on e n k.known h (e h)) (choose _ _ _ (eq-eqb _ 0 z) (ruled h h 6 0 0 a refl refl)))))

    -- the offer of an open head, written by another number for it
    offered : (x h r i : ℕ) → on r ≡ true → x ≡ h → Open (term_at e) n es h → Memᴰ (number h r i) (offer on e n k.known x r i)
    unfolding offer
    offered x h r i a p o = choose_not _ _ _ (ap (member k.known) p ∙ not_known h o.1) (ruled x h r i i a p refl)

    pub follows_offered : {s : Step} → Allowed on s → Follows (term_at e) n es s → Memᴰ (number_of s) All
    unfolding number_of opened built
    follows_offered w (Follows.first {h = h} {i = i} b o m q) =
        let (x, y, p, lx, ly, sx, sy) = form_record e n down pairs i (heads i m).0 (heads i m).1 q in
        by_opened i (Pair x y) m p (Memᴰ.append_left _ (offered (rep_at e x) h 1 i w (open_rep x h lx o sx) o))
    follows_offered w (Follows.second {h = h} {i = i} a o m q) =
        let (x, y, p, lx, ly, sx, sy) = form_record e n down pairs i (heads i m).0 (heads i m).1 q in
        by_opened i (Pair x y) m p (Memᴰ.append_right (offer on e n k.known (rep_at e x) 1 i) (offered (rep_at e y) h 2 i w (open_rep y h ly o sy) o))
    follows_offered w (Follows.decrypt {h = h} {i = i} {j = j} o m c q) =
        let (x, y, p, lx, ly, sx, sy) = form_record e n down encs i (heads i m).0 (heads i m).1 q in
        by_opened i (Enc x y) m p (choose _ _ _ (known_as (rep_at e y) j (known_rep y j ly c sy) c) (offered (rep_at e x) h 3 i w (open_rep x h lx o sx) o))
    follows_offered w (Follows.join {h = h} {i = i} {j = j} o m c q) =
        let (x, y, p, lx, ly, sx, sy) = form_record e n down pairs h o.0.0 (head_rep e n down h o.0) q in
        by_built h (Pair x y) o p
        (choose _ _ _ (ap₂ ◌&&◌ (known_as (rep_at e x) i (known_rep x i lx m sx) m) (known_as (rep_at e y) j (known_rep y j ly c sy) c))
        (ruled h h 4 (rep_at e x) i w refl (known_rep x i lx m sx)))
    follows_offered w (Follows.encrypt {h = h} {i = i} {j = j} o m c q) =
        let (x, y, p, lx, ly, sx, sy) = form_record e n down encs h o.0.0 (head_rep e n down h o.0) q in
        by_built h (Enc x y) o p
        (choose _ _ _ (ap₂ ◌&&◌ (known_as (rep_at e x) i (known_rep x i lx m sx) m) (known_as (rep_at e y) j (known_rep y j ly c sy) c))
        (ruled h h 5 (rep_at e x) i w refl (known_rep x i lx m sx)))
    follows_offered w (Follows.sum {h = h} u o f q) =
        by_sum h w o (sum_test_unique e n down l h o.0.0 u (λ j m. (drawn_independent e n down es l.below j).0 (f j m)) q).0
    follows_offered w (Follows.adecrypt {h = h} {i = i} {j = j} s a o m c q r) =
        let (x, y, p, lx, ly, sx, sy) = form_record e n down aencs i (heads i m).0 (heads i m).1 q in
        by_opened i (Aenc x y) m p (choose _ _ _ (known_as _ j (opens y j s a ly sy c r) c) (offered (rep_at e x) h 7 i w (open_rep x h lx o sx) o))
    follows_offered w (Follows.aencrypt {h = h} {i = i} {j = j} s a o m c q r) =
        let (x, y, p, lx, ly, sx, sy) = form_record e n down aencs h o.0.0 (head_rep e n down h o.0) q in
        by_built h (Aenc x y) o p
        (choose _ _ _
        (ap₂ ◌&&◌ (half_key y j s a ly sy c r) (ap₂ ◌&&◌ (known_as (rep_at e x) i (known_rep x i lx m sx) m) (known_as (rep_at e y) j (known_rep y j ly c sy) c)))
        (ruled h h 8 (rep_at e x) i w refl (known_rep x i lx m sx)))
