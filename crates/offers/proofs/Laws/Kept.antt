-- The table of offers through a run.
-- Shown, for tables that are right for entries that refer downwards: `kept_start`, with the offers of all heads it holds what there is; `kept_learn`, after
-- one more head is known, with the offers of that head and of its users it does again. The same for a good sheet: `sheet_start`, `sheet_learn`, and
-- `sheet_users` for the table of users. Assumes nothing.
use mathlib.Core.Path.{◌≡◌, sym, ap, ap₂, ◌∙◌, subst}
use mathlib.Core.Bool.{true}
use mathlib.Core.List.{List, [], ◌∷◌, ◌++◌}
use Prim.Native.Nat.{ℕ, ◌≤◌, ◌<◌}
use native.Mathlib.Nat.{le_refl}
use lib.ListN.{get_or, replicate}
use Rattle.bitset.specs.Set.{member, insert}
use Rattle.bitset.specs.Words.{value}
use Rattle.deduction.specs.Setting.{Setting}
use Rattle.deduction.specs.Entry.{Entry, Downward}
use Rattle.deduction.specs.Standard.{rep_at}
use Rattle.deduction.proofs.Standard.First.{both_true}
use Rattle.deduction.proofs.Steps.Opener.{Halved}
use Rattle.dag.specs.Sheet.{count_of}
use Rattle.dag.specs.Record.{entry_at}
use Rattle.dag.specs.Refusal.{refusal}
use Rattle.dag.proofs.Laws.Good.{good}
use Rattle.canonical.proofs.Laws.Key.{Narrow}
use Rattle.canonical.proofs.Laws.Record.{Bytes, narrow_bytes}
use Rattle.offers.specs.Inner.Right.{Right}
use Rattle.offers.specs.Inner.Offers.{line_offers, lists_of, key_offers, table_offers, set_offers, is_head}
use Rattle.offers.specs.Inner.Users.{uses, UsersOf, Filled}
use Rattle.offers.specs.Inner.Table.{Table, Adds, Covers, Kept}
use Rattle.offers.proofs.Laws.Table.{adds_as}
use Rattle.offers.proofs.Laws.Keys.{keys_line, keys_all, keys_set, users_of}
use Rattle.offers.proofs.Laws.Users.{nobody}
use Rattle.offers.proofs.Laws.Offers.{is_head_lem, covers_start, covers_learn}

module _ (on : Setting) (e : ℕ → Entry) (n : ℕ) (down : Downward e n) (few : n ≤ 256) (narrow : Narrow e n)
    (halves : Halved e n)
    (keys reps : List ℕ) (right : Right e n keys reps) where
  pub kept_start : (g : ℕ) {best ready best' ready' : List ℕ} → Table best ready [] → Adds best ready best' ready' (table_offers on g keys reps n) → Kept on e n g best' ready'
  kept_start g t a = record {
    made = table_offers on g keys reps n;
    table = a [] t;
    covers = subst (Covers g (table_offers on g keys reps n)) (keys_all on e n down few narrow halves keys reps right g) (covers_start g (table_offers on g keys reps n));
  }

  -- x is learnt, a head whose users are us
  pub kept_learn : (g x us : ℕ) {best ready best' ready' : List ℕ} → x < n → rep_at e x ≡ x → UsersOf e n x us → Kept on e n g best ready
      → Adds best ready best' ready' (key_offers on (insert g x) (get_or keys x 0) x ++ set_offers on (insert g x) keys us 256) → Kept on e n (insert g x) best' ready'
  kept_learn g x us lx hx users k a = record {
    made = k.made ++ (line_offers on e n (insert g x) x ++ lists_of (line_offers on e n (insert g x)) us 256);
    table = adds_as (ap₂ ◌++◌ (keys_line on e n down few narrow halves keys reps right (insert g x) x lx) (keys_set on e n down few narrow halves keys reps right (insert g x) us own 256 (le_refl 256))) a k.made k.table;
    covers = covers_learn on e n down few g x us lx hx users k.covers;
  }
    where
      own : (i : ℕ) → i < 256 → member us i ≡ true → i < n
      own i l m = (is_head_lem e n i (both_true (is_head e n i) (uses e n x (e i)) (sym (users i l) ∙ m)).0).0

-- for a good sheet, whose numbers are narrow since its elements are bytes
module _ (on : Setting) (s : List ℕ) (ok : refusal s ≡ 0) (bytes : Bytes s) (keys reps : List ℕ) (right : Right (entry_at s) (count_of s) keys reps) where
  narrow : Narrow (entry_at s) (count_of s)
  narrow = narrow_bytes s (count_of s) bytes

  -- the tables of offers and users as the run makes them at its start
  pub sheet_start : (g : ℕ) {n : ℕ} {best ready best' ready' : List ℕ} → n ≡ count_of s → Table best ready [] → Adds best ready best' ready' (table_offers on g keys reps n)
      → Kept on (entry_at s) (count_of s) g best' ready'
  sheet_start g p t a =
      kept_start on (entry_at s) (count_of s) (good s ok).downward (good s ok).few narrow (good s ok).halves keys reps right g t (adds_as (ap (table_offers on g keys reps) p) a)

  pub sheet_learn : (g x us : ℕ) {best ready best' ready' : List ℕ} → x < count_of s → rep_at (entry_at s) x ≡ x → UsersOf (entry_at s) (count_of s) x us
      → Kept on (entry_at s) (count_of s) g best ready → Adds best ready best' ready' (key_offers on (insert g x) (get_or keys x 0) x ++ set_offers on (insert g x) keys us 256)
      → Kept on (entry_at s) (count_of s) (insert g x) best' ready'
  sheet_learn = kept_learn on (entry_at s) (count_of s) (good s ok).downward (good s ok).few narrow (good s ok).halves keys reps right

  pub sheet_users : {n : ℕ} {users : List (List ℕ)} → n ≡ count_of s → Filled keys reps n (replicate 256 (0 ∷ 0 ∷ 0 ∷ 0 ∷ [])) users → (x : ℕ) → x < 256
      → UsersOf (entry_at s) (count_of s) x (value (get_or users x []))
  sheet_users {users = users} p f =
      users_of (entry_at s) (count_of s) (good s ok).downward (good s ok).few narrow keys reps right nobody
      (subst (λ (n : ℕ). Filled keys reps n (replicate 256 (0 ∷ 0 ∷ 0 ∷ 0 ∷ [])) users) p f)
