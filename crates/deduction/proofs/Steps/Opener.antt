-- The entry that opens a lock: the first that is the opposite half of the lock's key.
-- Defined: `Halved`, the key entry of every lock is itself a half.
-- Shown: an entry that passes the test for a half is that half, and the other way round; where the opposite half is known, it is what the search takes;
-- what the search takes is the opposite half; a half without a record is not derivable; where every lock's key entry is itself a half, rule 8 asks for
-- nothing but the lock of its sources, in the order and in the replay. Assumes nothing.
use mathlib.Core.Path.{◌≡◌, refl, sym, ap, ap₂, ◌∙◌, subst}
use mathlib.Core.Bool.{Bool, true, false, false≢true, ◌&&◌}
use mathlib.Core.List.{List, map, Memᴰ}
use Prim.Native.Nat.{ℕ, ◌≤◌, ◌<◌}
use native.Mathlib.Nat.{le_refl, lt_irrefl}
use native.Mathlib.Omega.{arith}
use lib.Dec.{eqb}
use borrow.Author.Tests.{eqb-true, eq-eqb}
use Rattle.deduction.specs.Term.{Side, private, public, opposite, Term, half, aenc, ◌≈◌, flip, then}
use Rattle.deduction.specs.Setting.{Setting}
use Rattle.deduction.specs.Entry.{Entry, Zero, Atom, Pair, Enc, Sum, Half, Aenc, term_at, Downward}
use Rattle.deduction.specs.Standard.{half_kind, rep_at}
use Rattle.deduction.specs.Run.{is_half, opener, any_half}
use Rattle.deduction.specs.Derivation.{Derivable}
use Rattle.deduction.specs.Step.{step, Known, Open, Follows}
use Rattle.deduction.specs.Replay.{Used, Right}
use Rattle.deduction.proofs.Exactness.{half_not_gained}
use Rattle.deduction.proofs.Standard.{rep_rep, rep_same, rep_least}
use Rattle.deduction.proofs.Standard.First.{both_true}
use Rattle.deduction.proofs.Standard.Least.{least_le, least_found, least_only}
use Rattle.deduction.proofs.Forms.{aencs}
use Rattle.deduction.proofs.Steps.Head.{rep_below, form_record, half_record_lem, half_term}

-- what row 12 leaves: a lock's key entry is itself a half
abbrev pub Halved : (ℕ → Entry) → ℕ → Type 0
Halved e n = (i m k : ℕ) → i < n → e i ≡ Aenc m k → (s : Side) × (a : ℕ) × (e k ≡ Half s a)

-- a half's kind has its side
pub kind_side : (s z : Side) → half_kind s ≡ half_kind z → s ≡ z
unfolding half_kind
kind_side private private p = refl
kind_side private public p = absurd (omega arith)
kind_side public private p = absurd (omega arith)
kind_side public public p = refl

pub is_half_lem : (s : Side) (a : ℕ) (d : Entry) → is_half (half_kind s) a d ≡ true → d ≡ Half s a
unfolding is_half
is_half_lem s a Zero p = absurd (false≢true p)
is_half_lem s a (Atom b) p = absurd (false≢true p)
is_half_lem s a (Pair l r) p = absurd (false≢true p)
is_half_lem s a (Enc m k) p = absurd (false≢true p)
is_half_lem s a (Sum items) p = absurd (false≢true p)
is_half_lem s a (Half z b) p =
    let (q, r) = both_true (eqb (half_kind z) (half_kind s)) (eqb b a) p in
    ap₂ Half (kind_side z s (eqb-true (half_kind z) (half_kind s) q)) (eqb-true b a r)
is_half_lem s a (Aenc m k) p = absurd (false≢true p)

pub half_is : (s : Side) (a : ℕ) (d : Entry) → d ≡ Half s a → is_half (half_kind s) a d ≡ true
unfolding is_half
half_is s a d p = ap (is_half (half_kind s) a) p ∙ ap₂ ◌&&◌ (eq-eqb (half_kind s) (half_kind s) refl) (eq-eqb a a refl)

pub any_half_lem : (d : Entry) → any_half d ≡ true → (s : Side) × (a : ℕ) × (d ≡ Half s a)
unfolding any_half
any_half_lem Zero p = absurd (false≢true p)
any_half_lem (Atom b) p = absurd (false≢true p)
any_half_lem (Pair l r) p = absurd (false≢true p)
any_half_lem (Enc m k) p = absurd (false≢true p)
any_half_lem (Sum items) p = absurd (false≢true p)
any_half_lem (Half s a) p = (s, a, refl)
any_half_lem (Aenc m k) p = absurd (false≢true p)

-- what opens is an entry, or the number of entries for none
pub opener_le : (e : ℕ → Entry) (n : ℕ) (d : Entry) → opener e n d ≤ n
unfolding opener
opener_le e n Zero = le_refl n
opener_le e n (Atom a) = le_refl n
opener_le e n (Pair l r) = le_refl n
opener_le e n (Enc m k) = le_refl n
opener_le e n (Sum items) = le_refl n
opener_le e n (Half s a) = least_le _ n
opener_le e n (Aenc m k) = le_refl n

module _ (e : ℕ → Entry) (n : ℕ) (down : Downward e n) where
  -- the head of the opposite half is what opens
  pub opener_head : (x j : ℕ) (s : Side) (a : ℕ) → e x ≡ Half s a → j < n → rep_at e j ≡ j → term_at e j ≈ half (opposite s) a → opener e n (e x) ≡ j
  unfolding opener
  opener_head x j s a p l h q =
      ap (opener e n) p ∙ least_only (λ i. is_half (half_kind (opposite s)) a (e i)) n j (omega arith) (λ b. half_is (opposite s) a (e j) own) (λ i b. lower i b _ refl)
    where
      own : e j ≡ Half (opposite s) a
      own = half_record_lem e n down j (opposite s) a l h q

      lower : (i : ℕ) → i < j → (b : Bool) → is_half (half_kind (opposite s)) a (e i) ≡ b → b ≡ false
      lower i b false r = refl
      lower i b true r =
          absurd (rep_least e n down j i l (omega arith) (flip (subst (λ (u : Term). term_at e j ≈ u) (sym (half_term e n down i (opposite s) a (omega arith) (is_half_lem (opposite s) a (e i) r))) q)))

  -- what opens is the opposite half
  pub opener_found : (x : ℕ) → opener e n (e x) < n → (s : Side) × (a : ℕ) × (e x ≡ Half s a) × (e (opener e n (e x)) ≡ Half (opposite s) a)
  unfolding opener
  opener_found x = go (e x) refl
    where
      go : (d : Entry) → e x ≡ d → opener e n d < n → (s : Side) × (a : ℕ) × (d ≡ Half s a) × (e (opener e n d) ≡ Half (opposite s) a)
      go Zero p l = absurd (lt_irrefl n l)
      go (Atom b) p l = absurd (lt_irrefl n l)
      go (Pair u v) p l = absurd (lt_irrefl n l)
      go (Enc m k) p l = absurd (lt_irrefl n l)
      go (Sum items) p l = absurd (lt_irrefl n l)
      go (Half s a) p l = (s, a, refl, is_half_lem (opposite s) a _ (least_found (λ j. is_half (half_kind (opposite s)) a (e j)) n l))
      go (Aenc m k) p l = absurd (lt_irrefl n l)

  -- "An opposite half without an entry can't be gained": a half that no record of an entry is can't be derived from any start of entries
  pub half_unwritten : (on : Setting) (start : List ℕ) → ((i : ℕ) → Memᴰ i start → i < n) → (s : Side) (a : ℕ) → ((i : ℕ) → i < n → ¬ (e i ≡ Half s a))
      → ¬ Derivable on (map (term_at e) start) (half s a)
  half_unwritten on start low s a none =
      half_not_gained on e n down start low s a
      (λ i l q. none (rep_at e i) (rep_below e n down i l) (half_record_lem e n down (rep_at e i) s a (rep_below e n down i l) (rep_rep e i) (then (rep_same e n down i l) q)))

  module _ (halved : Halved e n) where
    -- an entry that is the same as a lock is the same as one under a half
    locked_half : (h : ℕ) {m k : Term} → h < n → term_at e h ≈ aenc m k → (s : Side) × (a : ℕ) × (k ≈ half s a)
    locked_half h {k = k} l q =
        let r = rep_at e h in
        let lr = rep_below e n down h l in
        let (x, y, p, lx, ly, sx, sy) = form_record e n down aencs r lr (rep_rep e h) (then (rep_same e n down h l) q) in
        let (s, a, z) = halved r x y lr p in
        (s, a, subst (λ (u : Term). k ≈ u) (half_term e n down y s a ly z) (flip sy))

    -- "for rule 8 the gained head is the lock of the first under the second"
    pub lock_right : {g : List Term} {h i j : ℕ} → h < n → Used (term_at e) n g i → Used (term_at e) n g j → term_at e h ≈ aenc (term_at e i) (term_at e j) → Right (term_at e) n g (step h 8 i j 0)
    lock_right {h = h} l p c q = let (s, a, r) = locked_half h l q in Right.aencrypt s a l p c q r

    pub lock_follows : {es : List ℕ} {h i j : ℕ} → Open (term_at e) n es h → Known (term_at e) n es i → Known (term_at e) n es j → term_at e h ≈ aenc (term_at e i) (term_at e j)
        → Follows (term_at e) n es (step h 8 i j 0)
    lock_follows {h = h} o m c q = let (s, a, r) = locked_half h o.0.0 q in Follows.aencrypt s a o m c q r
