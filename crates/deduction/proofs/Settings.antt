-- Settings of the rules: the byte's switches, and what the rules switched on bring.
-- Shown: `switch_bit`, rule r has bit r - 1; `switches_every`, the byte 255 switches every rule on; `every_includes`, a setting is included in that of every rule;
-- `zero_free` and `nothing_free`: with sum zero is derivable from any start, and without it nothing at all is from an empty one; `split_same`, in each
-- setting a held term that is the same as a pair can be split; `replays_allowed`, `made_allowed`, neither a replay nor a row of next steps uses a rule that is off; `gained_more` and `reached_more`, of
-- two settings one of which includes the other: what steps gain in the smaller is known where nothing follows in the larger, and a goal that is
-- reached in the smaller is not out of reach in the larger. Assumes nothing.
use mathlib.Core.Path.{◌≡◌, refl, sym, ap, ◌∙◌, subst}
use mathlib.Core.Bool.{true, false, true≢false}
use mathlib.Core.Logic.{inl, inr}
use mathlib.Core.List.Memᴰ
use mathlib.Core.List.{List, [], ◌∷◌, ◌++◌, Memᴰ}
use Prim.Native.Nat.{ℕ, zero, suc, ◌-◌, ◌≤◌, ◌<◌}
use native.Mathlib.Omega.{arith}
use borrow.Author.Tests.{lt-ltb, le-ltb}
use Rattle.bitset.specs.Set.{member}
use Rattle.deduction.specs.Term.{Term, 𝟎, pair, sum_of, ◌≈◌, same}
use Rattle.deduction.specs.Setting.{Setting, every, Includes, switches}
use Rattle.deduction.specs.Entry.{Entry, term_at, Downward}
use Rattle.deduction.specs.Standard.{rep_at}
use Rattle.deduction.specs.Step.{Step, Allowed}
use Rattle.deduction.specs.Course.{Verdict, derivable, underivable, Course}
use Rattle.deduction.specs.Replay.{Replays, done, next}
use Rattle.deduction.proofs.Exactness.{derivable_more}
use Rattle.deduction.proofs.Steps.{Heads, Made, sound_heads, stuck_has}
use Rattle.deduction.proofs.Steps.Run.{heads}
use Rattle.deduction.proofs.Steps.Course.{course_made, course_heads, course_reached, course_stuck, gained_head, head_gained}
use Rattle.deduction.specs.Derivation.{Holds, Derivation, Derivable, begin, first, second, decrypt, join, encrypt, sum, adecrypt, aencrypt}

-- "the lowest bit for rule 1"
pub switch_bit : (w r : ℕ) → 1 ≤ r → r ≤ 8 → switches w r ≡ member w (r - 1)
unfolding switches
switch_bit w zero l h = absurd (omega arith)
switch_bit w (suc r) l h = rw (lt-ltb r 8 (omega arith)) (ap (member w) back)
  where
    back : r ≡ suc r - 1
    back = omega arith

-- "all other calls have every rule on"
pub switches_every : switches 255 ≡ every
unfolding switches member
switches_every = λ t r. on r t
  where
    on : (r : ℕ) → switches 255 r ≡ true
    on zero = refl
    on (suc zero) = refl
    on (suc (suc zero)) = refl
    on (suc (suc (suc zero))) = refl
    on (suc (suc (suc (suc zero)))) = refl
    on (suc (suc (suc (suc (suc zero))))) = refl
    on (suc (suc (suc (suc (suc (suc zero)))))) = refl
    on (suc (suc (suc (suc (suc (suc (suc zero))))))) = refl
    on (suc (suc (suc (suc (suc (suc (suc (suc zero)))))))) = refl
    on (suc (suc (suc (suc (suc (suc (suc (suc (suc r))))))))) = rw (le-ltb (suc (suc (suc (suc (suc (suc (suc (suc r)))))))) 8 (omega arith))

pub every_includes : (on : Setting) → Includes on every
every_includes on r o = refl

-- with sum, zero is free
pub zero_free : {on : Setting} {start : List Term} → on 6 ≡ true → Derivable on start 𝟎
unfolding sum_of
zero_free {start = start} o = (𝟎 ∷ start, sum [] o begin (λ u m. absurd (Memᴰ.not-nil m)), (𝟎, Memᴰ.head refl, same))

-- "Without sum, zero isn't free": from nothing, nothing is gained
pub nothing_free : {on : Setting} → on 6 ≡ false → (u : Term) → ¬ Derivable on [] u
nothing_free {on} off u (g, d, h) = none d u h
  where
    none : {g : List Term} → Derivation on [] g → (v : Term) → ¬ Holds g v
    none begin v (w, m, q) = Memᴰ.not-nil m
    none (first o d h) v k = none d _ h
    none (second o d h) v k = none d _ h
    none (decrypt o d h x) v k = none d _ h
    none (join o d h x) v k = none d _ h
    none (encrypt o d h x) v k = none d _ h
    none (sum ts o d h) v k = true≢false (sym o ∙ off)
    none (adecrypt o d h x) v k = none d _ h
    none (aencrypt o d h x) v k = none d _ h

-- "Sameness keeps the four laws in each setting": what is the same as a pair can be split, whatever it was built by
pub split_same : {on : Setting} {start : List Term} {u a b : Term} → on 1 ≡ true → Memᴰ u start → u ≈ pair a b → Derivable on start a
split_same {start = start} {u = u} {a = a} o m q = (a ∷ start, first o begin (u, m, q), (a, Memᴰ.head refl, same))

-- "a ladder returned uses no other": each step of a replay is by a rule that is on
pub replays_allowed : {on : Setting} {t : ℕ → Term} {n : ℕ} {g a : List Term} {ss : List Step} → Replays on t n g ss a → (s : Step) → Memᴰ s ss → Allowed on s
replays_allowed done s m = absurd (Memᴰ.not-nil m)
replays_allowed {on} (next w r rs) s m = elim (Memᴰ.cases_cons m) [ inl p ↦ subst (Allowed on) (sym p) w | inr q ↦ replays_allowed rs s q ]

-- and so is each step of a row in which each is the next, whether or not the goal is reached
pub made_allowed : {on : Setting} {t : ℕ → Term} {n : ℕ} {es : List ℕ} {ss : List Step} → Made on t n es ss → (s : Step) → Memᴰ s ss → Allowed on s
made_allowed Made.none s m = absurd (Memᴰ.not-nil m)
made_allowed {on} (Made.more x xs) s m = elim (Memᴰ.cases_cons m) [ inl p ↦ subst (Allowed on) (sym p) x.0.0 | inr q ↦ made_allowed xs s q ]

-- "turning a switch on", for any goal, any heads known at the start and any two budgets
module _ (e : ℕ → Entry) (n : ℕ) (down : Downward e n) (goal : ℕ) {on more : Setting} (includes : Includes on more) {es : List ℕ} (hs : Heads e n es)
    {b c : ℕ} {ss rs : List Step} (stuck : Course more (term_at e) n goal c es rs underivable) where
  -- "where the goal stays out of reach no gained term is lost"
  pub gained_more : {v : Verdict} → Course on (term_at e) n goal b es ss v → (i : ℕ) → Memᴰ i (es ++ heads ss) → Memᴰ i (es ++ heads rs)
  gained_more fewer i m =
      let (low, own) = course_heads e n down goal hs fewer i m in
      let known = course_heads e n down goal hs stuck in
      let d = derivable_more includes (sound_heads on e n down es ss hs (course_made fewer) i m) in
      Memᴰ.cast (sym own) (stuck_has e n down (es ++ heads rs) known more (course_stuck stuck refl).1 es (λ j k. Memᴰ.append_left (heads rs) k) i low d)

  -- "never turns reached into out of reach"
  pub reached_more : goal < n → ¬ Course on (term_at e) n goal b es ss derivable
  reached_more low fewer =
      let held = gained_head e n down goal low (es ++ heads ss) (course_heads e n down goal hs fewer) (course_reached fewer refl) in
      (course_stuck stuck refl).0 (head_gained e n down goal low (es ++ heads rs) (course_heads e n down goal hs stuck) (gained_more fewer (rep_at e goal) held))
