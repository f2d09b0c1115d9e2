-- Heads learnt one by one.
-- Shown: what holds before the first; of a known head nothing is left; one head more; more heads in two parts. Assumes nothing.
use mathlib.Core.Path.{◌≡◌, sym, ap, ◌∙◌, subst}
use mathlib.Core.Bool.{Bool, true}
use mathlib.Core.Logic.{inl, inr}
use mathlib.Core.List.Memᴰ
use mathlib.Core.List.{List, [], ◌∷◌, ◌++◌, append_assoc, Memᴰ}
use Prim.Native.Nat.{ℕ, ◌+◌, ◌<◌}
use native.Mathlib.Omega.{arith}
use lib.ListN.{length, get_or}
use Rattle.bitset.specs.Set.{member}
use Rattle.bitset.specs.Words.{value}
use Rattle.deduction.specs.Elimination.{Knowledge, Row, Reduced, reduce, add_row, learn_as, learn_all, nothing}
use Rattle.deduction.proofs.Elimination.{learn_all_more, learnt_all}
use Rattle.knowledge.specs.Inner.State.{Holds}
use Rattle.knowledge.specs.Inner.Lines.{set_in, KeptIn}
use Rattle.knowledge.specs.declared.Knowledge as program
use Rattle.knowledge.specs.declared.lines.Lines.{Lines}
use Rattle.knowledge.proofs.Laws.Learn.{learn_rows}
use Rattle.start.specs.Inner.Hearing.{Live, Held, Hearable, Hears}
use Rattle.start.proofs.Laws.Lists.{get_d_member}

-- before the first head
pub held_none : {live : ℕ → Bool} {f : ℕ → ℕ} {x : program.Knowledge} {l : Lines} → Holds nothing x.known x.rows x.len → KeptIn live f [] l → Held live f [] x l
unfolding nothing learn_all
held_none holds kept = record { state = holds; kept = kept }

-- heads that teach the same
pub held_same : {live : ℕ → Bool} {f : ℕ → ℕ} {es es' : List ℕ} {x : program.Knowledge} {l : Lines} → learn_all f nothing es ≡ learn_all f nothing es' → Held live f es x l → Held live f es' x l
held_same {live} {f} {x = x} {l = l} p h = record {
  state = subst (λ (k : Knowledge). Holds k x.known x.rows x.len) p h.state;
  kept = subst (λ (k : Knowledge). KeptIn live f k.rows l) p h.kept;
}

-- what they teach, as a state of knowledge
pub held_as : {live : ℕ → Bool} {f : ℕ → ℕ} {es : List ℕ} {x : program.Knowledge} {l : Lines} {k : Knowledge} → learn_all f nothing es ≡ k → Held live f es x l
    → Holds k x.known x.rows x.len × KeptIn live f k.rows l
held_as {live} {f} {x = x} {l = l} p h = subst (λ (k : Knowledge). Holds k x.known x.rows x.len × KeptIn live f k.rows l) p (h.state, h.kept)

-- every list has a number above all that stand in it
above : (es : List ℕ) → (n : ℕ) × ((e : ℕ) → Memᴰ e es → e < n)
above [] = (0, λ e m. absurd (Memᴰ.not-nil m))
above (x ∷ es) = let (n, below) = above es in (x + n + 1, λ e m. elim (Memᴰ.cases_cons m) [ inl p ↦ omega arith | inr q ↦ omega (arith, below e q) ])

module _ {live : ℕ → Bool} {f : ℕ → ℕ} {es : List ℕ} {x : program.Knowledge} {l : Lines} (h : Held live f es x l) (e : ℕ) (alive : live e ≡ true) where
  abbrev before : Knowledge
  before = learn_all f nothing es

  -- what is left of it, as its line says
  pub held_line : set_in l.remainders e ≡ (reduce before.rows (f e)).remainder
  held_line = ap (λ (r : Reduced). r.remainder) (h.kept.line e alive)

  nothing_left : member before.known e ≡ true → (reduce before.rows (f e)).remainder ≡ 0
  nothing_left m = let (n, below) = above es in let t = learnt_all f n es below in t.settled e ((t.members e).0 m)

  -- of a known head nothing is left
  pub held_known : member (value x.known) e ≡ true → set_in l.remainders e ≡ 0
  held_known m = held_line ∙ nothing_left (ap (λ (n : ℕ). member n e) (sym h.state.known) ∙ m)

  -- the head learnt, and the lines kept
  pub held_more : {y : program.Knowledge} {l' : Lines} → Holds (learn_as before e (f e)) y.known y.rows y.len → KeptIn live f (add_row before.rows e (reduce before.rows (f e))) l' → Held live f (es ++ (e ∷ [])) y l'
  held_more {y} {l'} holds kept = record {
    state = subst (λ (k : Knowledge). Holds k y.known y.rows y.len) (sym (learn_all_more f nothing es e)) holds;
    kept = subst (λ (r : List Row). KeptIn live f r l') (sym (ap (λ (k : Knowledge). k.rows) (learn_all_more f nothing es e) ∙ learn_rows before e (f e) nothing_left)) kept;
  }

-- some heads are heard, where all heads of a list are live
abbrev pub HearsOf : List ℕ → List ℕ → program.Knowledge → Lines → program.Knowledge → Lines → Type 0
HearsOf heads xs x l x' l' = (live : ℕ → Bool) (f : ℕ → ℕ) (es : List ℕ) → Live live heads → Held live f es x l → Held live f (es ++ xs) x' l'

module _ (heads : List ℕ) where
  -- a head of the list is live
  one_live : {live : ℕ → Bool} (i : ℕ) → i < length heads → Live live heads → Live live (get_or heads i 0 ∷ [])
  one_live {live} i l a h m = elim (Memᴰ.cases_cons m) [ inl p ↦ ap live p ∙ a (get_or heads i 0) (get_d_member heads i 0 l) | inr n ↦ absurd (Memᴰ.not-nil n) ]

  module _ {x : program.Knowledge} {l : Lines} {x' : program.Knowledge} {l' : Lines} where
    pub hears_one : (i : ℕ) → i < length heads → Hears (get_or heads i 0 ∷ []) x l x' l' → HearsOf heads (get_or heads i 0 ∷ []) x l x' l'
    hears_one i b h live f es a = h live f es (one_live i b a)

    -- one part after the other
    pub hears_then : (xs ys : List ℕ) {x'' : program.Knowledge} {l'' : Lines} → HearsOf heads xs x l x' l' → HearsOf heads ys x' l' x'' l'' → HearsOf heads (xs ++ ys) x l x'' l''
    hears_then xs ys {x''} {l''} s t live f es a h = subst (λ (hs : List ℕ). Held live f hs x'' l'') (append_assoc es xs ys) (t live f (es ++ xs) a (s live f es a h))

    -- after a part a head of the list can be heard
    pub hearable_then : (xs : List ℕ) → Hearable heads x l → HearsOf heads xs x l x' l' → (i : ℕ) → i < length heads → Hearable (get_or heads i 0 ∷ []) x' l'
    hearable_then xs h s i b = record { live = h.live; sets = h.sets; before = h.before ++ xs; lives = one_live i b h.lives; held = s h.live h.sets h.before h.lives h.held }

  pub hearable_one : {x : program.Knowledge} {l : Lines} → Hearable heads x l → (i : ℕ) → i < length heads → Hearable (get_or heads i 0 ∷ []) x l
  hearable_one h i b = record { live = h.live; sets = h.sets; before = h.before; lives = one_live i b h.lives; held = h.held }
