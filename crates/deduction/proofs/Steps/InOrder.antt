-- Steps in a row, each the next one where it was made.
-- Defined: `Made`. Shown: `made_unique`, from one start there is only one such row of each length. Assumes nothing.
use mathlib.Core.Path.{◌≡◌, refl, sym, ap₂, subst}
use mathlib.Core.List.{List, [], ◌∷◌, ◌++◌}
use Prim.Native.Nat.{ℕ}
use native.Mathlib.Omega.{arith}
use lib.ListN.{length}
use Rattle.deduction.specs.Term.{Term}
use Rattle.deduction.specs.Setting.{Setting}
use Rattle.deduction.specs.Entry.{Entry, term_at, Downward}
use Rattle.deduction.specs.Step.{Step, IsNext}
use Rattle.deduction.proofs.Steps.Head.{Heads}
use Rattle.deduction.proofs.Steps.Next.{next_unique, heads_more}

pub data Made (on : Setting) (t : ℕ → Term) (n : ℕ) : List ℕ → List Step → Type 0 where
  none : {es : List ℕ} → Made on t n es []
  more : {es : List ℕ} {s : Step} {ss : List Step} → IsNext on t n es s → Made on t n (es ++ (s.head ∷ [])) ss → Made on t n es (s ∷ ss)

pub made_unique : (on : Setting) (e : ℕ → Entry) (n : ℕ) → Downward e n → {es : List ℕ} {ss rs : List Step} → Heads e n es
    → Made on (term_at e) n es ss → Made on (term_at e) n es rs → length ss ≡ length rs → ss ≡ rs
made_unique on e n down hs Made.none Made.none l = refl
made_unique on e n down hs Made.none (Made.more y d) l = absurd (omega arith)
made_unique on e n down hs (Made.more x c) Made.none l = absurd (omega arith)
made_unique on e n down {es} hs (Made.more {s = s} x c) (Made.more {s = r} {ss = rs} y d) l =
    let p : s ≡ r = next_unique e n down es hs on s r x y in
    let q = made_unique on e n down (heads_more e n down es s hs x.0.1) c (subst (λ (a : Step). Made on (term_at e) n (es ++ (a.head ∷ [])) rs) (sym p) d) (omega arith) in
    ap₂ (λ (a : Step) (l : List Step). a ∷ l) p q
