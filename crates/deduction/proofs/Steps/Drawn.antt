-- The entries that sums draw on, said of terms and of sets.
-- Shown: a learnt entry's term is no sum of the terms learnt before it exactly when its set is not in the span of their sets.
-- It is a known entry. Assumes nothing.
use mathlib.Core.Path.{◌≡◌, refl, sym, subst}
use mathlib.Core.Logic.{◌↔◌}
use mathlib.Core.List.Memᴰ
use mathlib.Core.List.{List, ◌∷◌, ◌++◌, Memᴰ}
use Prim.Native.Nat.{ℕ, ◌<◌}
use Rattle.deduction.specs.Term.{Term}
use Rattle.deduction.specs.Entry.{Entry, term_at, Downward}
use Rattle.deduction.specs.Standard.{set_at}
use Rattle.deduction.proofs.Elimination.Spans.{Independent}
use Rattle.deduction.specs.Step.{Drawn}
use Rattle.deduction.proofs.Standard.{span_sum}

-- what is drawn on is known
pub drawn_known : (t : ℕ → Term) (n : ℕ) (es : List ℕ) (j : ℕ) → Drawn t n es j → Memᴰ j es
drawn_known t n es j (before, after, e, q) = subst (λ (l : List ℕ). Memᴰ j l) (sym e) (Memᴰ.append_right before (Memᴰ.head refl))

pub drawn_independent : (e : ℕ → Entry) (n : ℕ) → Downward e n → (es : List ℕ) → ((i : ℕ) → Memᴰ i es → i < n)
    → (j : ℕ) → Drawn (term_at e) n es j ↔ Independent (set_at e) es j
drawn_independent e n down es below j = (
  λ (b, a, p, d). (b, a, p, λ s. let r = (span_sum e n down j b (own b a p) (first b a p)).0 s in d r.0 r.1 r.2),
  λ (b, a, p, d). (b, a, p, λ js f q. d ((span_sum e n down j b (own b a p) (first b a p)).1 (js, f, q))),
)
  where
    own : (b a : List ℕ) → es ≡ b ++ (j ∷ a) → j < n
    own b a p = below j (rw p (Memᴰ.append_right b (Memᴰ.head refl)))

    first : (b a : List ℕ) → es ≡ b ++ (j ∷ a) → (i : ℕ) → Memᴰ i b → i < n
    first b a p i m = below i (rw p (Memᴰ.append_left (j ∷ a) m))
