-- `zuwendryk::text::starts_as_text` meets its contract: the test of all is that of the last, and that of all before it.
use Rattle.std.proofs.Common.{rules, ◌≡◌, ℕ, zero, suc, ◌≤◌, ◌&&◌, List, length, take, get_or, refl, sym, ap, ◌∙◌, arith}
use Rattle.std.specs.List.{list_all}
use Rattle.std.proofs.lemmas.Iterator.{YieldsList-from_slice}
use Rattle.std.proofs.lemmas.Iterator.Search.{all_from_yields_List}
use Rattle.std.proofs.lemmas.List.Folds.{list_all_more}
use mathlib.Core.Bool.{and_comm}
use native.Mathlib.Numerals.{add-one}
use Rattle.zuwendryk.specs.Text.{in_text, starts_as_text}
use Rattle.zuwendryk.proofs.text.starts_as_text.Goals as goal

front : (s : List ℕ) (n : ℕ) → n ≤ length s → list_all in_text (take n s) ≡ starts_as_text s n
unfolding starts_as_text
front s zero h = refl
front s (suc n) h =
    ap (λ k. list_all in_text (take k s)) (sym (add-one n)) ∙ list_all_more in_text s n 0 (omega arith) ∙ ap (λ b. b && in_text (get_or s n 0)) (front s n (omega arith)) ∙ and_comm (starts_as_text s n) (in_text (get_or s n 0))

pub returns : goal.returns
returns c =
    all_from_yields_List in_text _ _ _ c.all.ensures.ran (YieldsList-from_slice (take c.args.n c.args.s.now) (search rules)) (λ x b q h. (search rules, search rules))
    ∙ front _ _ c.requires
