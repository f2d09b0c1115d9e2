-- `zuwendryk::text::has_letters` meets its contract: std's test of a slice's front is the definition's.
use Rattle.std.proofs.Common.{◌≡◌, ℕ, List, [], ◌∷◌, ◌&&◌, refl, ap₂, ◌∙◌, arith}
use Rattle.std.specs.Prelude.{nat_eq}
use Rattle.std.specs.Cmp.Lexicographic.{pointwise}
use Rattle.dag.specs.Refusal.{equal}
use Rattle.zuwendryk.proofs.text.has_letters.Goals as goal

same : (xs ys : List ℕ) → pointwise nat_eq xs ys ≡ equal ys xs
unfolding equal
same [] [] = refl
same [] (y ∷ ys) = refl
same (x ∷ xs) [] = refl
same (x ∷ xs) (y ∷ ys) = ap₂ ◌&&◌ (grind arith) (same xs ys)

pub returns : goal.returns
returns c = c.starts_with.ensures.value ∙ same _ _
