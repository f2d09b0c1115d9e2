-- Text at the front of a buffer, and none where the buffer is too short. Assumes nothing.
use mathlib.Core.Path.{◌≡◌, sym, ap, ◌∙◌, subst₂}
use mathlib.Core.List.{List, ◌++◌}
use Prim.Native.Nat.{ℕ, ◌≤◌, ◌<◌}
use native.Mathlib.Nat.{zero-add, le_trans, le_of_eq}
use native.Mathlib.Omega.{arith}
use lib.ListN.{length, drop}
use Rattle.bitset.proofs.Laws.Choice.{when_le, when_not_le}
use Rattle.line.specs.declared.Text.{Text}
use Rattle.line.specs.Buffer.{Appended}
use Rattle.line.specs.Text.{Adds}
use Rattle.card.specs.Buffer.{Printed}

-- text added to none in a buffer that is long enough is printed
pub print_text : (space : ℕ) {text d d' : List ℕ} {r : ℕ} {t u : Text} → space ≤ length d → t.out.now ≡ d → t.len ≡ 0 → Adds t text u → u.out.now ≡ d' → r ≡ u.len
    → Printed space text d d' r
print_text space {text} {d} {d'} {r} {t} {u} long same none h back len =
    record {
      answer = size ∙ sym (when_le space (length d) (length text) 0 long);
      bytes = sym back ∙ a.bytes ∙ ap (λ (k : ℕ). text ++ drop k d) (zero-add (length text)) ∙ sym (when_le space (length d) (text ++ drop (length text) d) d long);
      within = le_trans (le_of_eq len) a.within;
    }
  where
    a : Appended d 0 text u.out.now u.len
    a = subst₂ (λ (x : List ℕ) (k : ℕ). Appended x k text u.out.now u.len) same none h.text

    size : r ≡ length text
    size = len ∙ a.place ∙ zero-add (length text)

-- a buffer that is too short is left as it was
pub print_none : (space : ℕ) (text d : List ℕ) → length d < space → Printed space text d d 0
print_none space text d short =
    record {
      answer = sym (when_not_le space (length d) (length text) 0 short);
      bytes = sym (when_not_le space (length d) (text ++ drop (length text) d) d short);
      within = omega arith;
    }
