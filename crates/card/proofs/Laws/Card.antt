-- The whole card from its pieces.
-- Shown: a rung's line from its 40 bytes; the rung lines one by one; what is printed of a cut, by the number of the verdict; the cuts one by one
-- (`Along`). Assumes nothing.
use mathlib.Core.Path.{◌≡◌, refl, sym, ap, ap₂, ◌∙◌}
use mathlib.Core.Bool.{Bool, true, false, cond}
use mathlib.Core.List.{List, [], ◌∷◌, ◌++◌, append_assoc, append-nil}
use Prim.Native.Nat.{ℕ, suc, ◌+◌, ◌-◌, ◌*◌, ◌≤◌, ◌<◌}
use native.Mathlib.Numerals.{add-one}
use native.Mathlib.Omega.{arith}
use borrow.Author.Tests.{eq-eqb, ne_eqb}
use lib.Count.{ones}
use lib.Dec.{leb}
use lib.ListN.{length, take, drop, length-drop}
use Rattle.bitset.specs.Words.{set_of}
use Rattle.bitset.proofs.Laws.Choice.{when_le}
use Rattle.deduction.specs.Setting.{every}
use Rattle.deduction.specs.Step.{Step, step}
use Rattle.deduction.specs.Run.{Verdict, derivable, underivable, exhausted, Outcome, knowledge}
use Rattle.dag.specs.Sheet.{number_at, goal_of, trace_length}
use Rattle.dag.specs.Record.{entry_at}
use Rattle.dag.specs.Refusal.{refusal}
use Rattle.dag.proofs.Laws.Good.{good}
use Rattle.derive.proofs.Laws.Buffer.{part_whole}
use Rattle.verdict.specs.Refused.{full_limit, refusal_of}
use Rattle.verdict.specs.Buffer.{front, gained_in, read_step, steps_in}
use Rattle.verdict.specs.Demands.{verdict_code}
use Rattle.verdict.specs.Answer.{outcome_of, answer_of, buffer_of}
use Rattle.verdict.proofs.Laws.Answered.{accepted, accepted_answer, accepted_few, accepted_known, accepted_steps, accepted_ends}
use Rattle.line.specs.Line.{goal_line, out_line, reached_line, refused_line}
use Rattle.card.specs.Card.{step_text, steps_text, verdict_text, cut_text, is_reached, cuts_from, card_of}
use Rattle.line.specs.declared.Rung.{Rung}
use Rattle.line.specs.declared.Text.{Text}
use Rattle.line.specs.Text.{Adds}
use Rattle.line.proofs.Laws.Buffer.{append_none}
use Rattle.line.proofs.Laws.Text.{adds_as, adds_next}
use Rattle.card.specs.Buffer.{HasRoom, step_of}

-- a rung's line, from the fields of its 40 bytes
module _ (r : List ℕ) (long : 40 ≤ length r) where
  long_enough : 32 ≤ length (drop 8 r)
  long_enough = let e = length-drop 8 r in omega arith

  pub step_set : {set : ℕ} → set ≡ cond (leb 32 (length (take (length r - 8) (drop 8 r)))) (set_of (take 32 (take (length r - 8) (drop 8 r)))) 0
      → set ≡ set_of (take 32 (drop 8 r))
  step_set p =
      p
      ∙ ap (λ (l : List ℕ). cond (leb 32 (length l)) (set_of (take 32 l)) 0) (part_whole r 8)
      ∙ when_le 32 (length (drop 8 r)) (set_of (take 32 (drop 8 r))) 0 long_enough

-- the step that is read from 40 bytes is the one of its fields
pub step_read : (r : List ℕ) {head rule first second set : ℕ} → head ≡ number_at r 0 → rule ≡ number_at r 2 → first ≡ number_at r 4 → second ≡ number_at r 6
    → set ≡ set_of (take 32 (drop 8 r)) → step head rule first second set ≡ read_step r
unfolding read_step
step_read r p q f s u = λ i. step (p i) (q i) (f i) (s i) (u i)

-- the rungs of a buffer, one by one
steps_text_more : (rs : List Step) (r : Step) → steps_text (rs ++ (r ∷ [])) ≡ steps_text rs ++ step_text r
unfolding steps_text
steps_text_more [] r = append-nil (step_text r)
steps_text_more (q ∷ rs) r = ap (λ (l : List ℕ). step_text q ++ l) (steps_text_more rs r) ∙ sym (append_assoc (step_text q) (steps_text rs) (step_text r))

steps_in_more : (b : List ℕ) (i : ℕ) → steps_in b (i + 1) ≡ steps_in b i ++ (read_step (drop (front + 40 * i) b) ∷ [])
unfolding steps_in
steps_in_more b i = ap (steps_in b) (add-one i)

pub steps_none : (b : List ℕ) (t : Text) (n : ℕ) → HasRoom t n → Adds t (steps_text (steps_in b 0)) t
unfolding steps_in steps_text
steps_none b t n h = record { text = append_none t.out.now t.len (omega arith); same_reference = refl }

-- the rung that is read from the bytes at the place of the i-th is printed after those before it
pub steps_more : (b : List ℕ) (i : ℕ) (r : Rung) {t u v : Text} → Adds t (steps_text (steps_in b i)) u
    → step_of r ≡ read_step (take (length b - (front + 40 * i)) (drop (front + 40 * i) b)) → Adds u (step_text (step_of r)) v → Adds t (steps_text (steps_in b (i + 1))) v
steps_more b i r h is k =
    adds_as (sym (steps_text_more (steps_in b i) (read_step (drop (front + 40 * i) b))) ∙ ap steps_text (sym (steps_in_more b i)))
    (adds_next h (adds_as (ap step_text is ∙ ap (λ (l : List ℕ). step_text (read_step l)) (part_whole b (front + 40 * i))) k))

-- what is printed of a cut
module _ (s : List ℕ) (cut : ℕ) (old : List ℕ) (good-sheet : refusal s ≡ 0) (within : cut ≤ trace_length s) (size : length old ≡ front + 40 * 256) where
  abbrev o : Outcome
  o = outcome_of every s cut 256

  abbrev known : ℕ
  known = ones (knowledge (entry_at s) o.learnt).known

  fine : refusal_of full_limit s cut 256 (length old) ≡ 0
  fine = sym (accepted full_limit s cut 256 (length old) good-sheet within (omega arith) (omega arith))

  number : {answer : ℕ} → answer ≡ answer_of every full_limit s cut 256 (length old) → (v : Verdict) → o.verdict ≡ v → answer ≡ verdict_code v + length o.steps
  number p v q = p ∙ accepted_answer every full_limit s cut 256 old fine ∙ ap (λ (w : Verdict). verdict_code w + length o.steps) q

  pub few : length o.steps ≤ 256
  few = accepted_few every full_limit s cut 256 old fine

  pub at_least : {answer : ℕ} → answer ≡ answer_of every full_limit s cut 256 (length old) → 1000 ≤ answer
  at_least {answer} p = go o.verdict refl
    where
      go : (v : Verdict) → o.verdict ≡ v → 1000 ≤ answer
      go derivable q = omega (arith, number p derivable q)
      go underivable q = omega (arith, number p underivable q)
      go exhausted q = omega (arith, number p exhausted q)

  is_derivable : {answer : ℕ} → answer ≡ answer_of every full_limit s cut 256 (length old) → answer < 2000 → o.verdict ≡ derivable
  is_derivable {answer} p h = go o.verdict refl
    where
      go : (v : Verdict) → o.verdict ≡ v → o.verdict ≡ derivable
      go derivable q = q
      go underivable q = absurd (omega (arith, number p underivable q))
      go exhausted q = absurd (omega (arith, number p exhausted q))

  is_underivable_lem : {answer : ℕ} → answer ≡ answer_of every full_limit s cut 256 (length old) → 2000 ≤ answer → o.verdict ≡ underivable
  is_underivable_lem {answer} p h = go o.verdict refl
    where
      go : (v : Verdict) → o.verdict ≡ v → o.verdict ≡ underivable
      go derivable q = absurd (omega (arith, number p derivable q, few))
      go underivable q = q
      go exhausted q = absurd (accepted_ends every full_limit s cut 256 old fine (good s good-sheet).few q)

  -- the rungs that come with a number below 2000
  pub made_steps : {answer made : ℕ} → answer ≡ answer_of every full_limit s cut 256 (length old) → answer < 2000 → made ≡ answer - 1000 → made ≡ length o.steps
  made_steps p h q = omega (arith, number p derivable (is_derivable p h))

  pub shown_reached : {answer made : ℕ} {new : List ℕ} {t u v : Text} → answer ≡ answer_of every full_limit s cut 256 (length old) → answer < 2000 → made ≡ answer - 1000 → new ≡ buffer_of every full_limit s cut 256 old
      → Adds t (reached_line cut made) u → Adds u (steps_text (steps_in new made)) v → Adds t (cut_text s cut) v
  unfolding cut_text verdict_text
  shown_reached {answer} {made} {new = new} p h q b line steps =
      adds_as (ap₂ ◌++◌ (ap (reached_line cut) many) (ap steps_text back) ∙ ap (λ (v : Verdict). verdict_text cut v known o.steps) (sym (is_derivable p h)))
      (adds_next line steps)
    where
      many : made ≡ length o.steps
      many = made_steps p h q

      back : steps_in new made ≡ o.steps
      back = ap₂ steps_in b many ∙ accepted_steps every full_limit s cut 256 old fine

  pub reached_is : {answer : ℕ} → answer ≡ answer_of every full_limit s cut 256 (length old) → answer < 2000 → is_reached o.verdict ≡ true
  unfolding is_reached
  reached_is p h = ap is_reached (is_derivable p h)

  pub shown_out : {answer count : ℕ} {new : List ℕ} {t u : Text} → answer ≡ answer_of every full_limit s cut 256 (length old) → 2000 ≤ answer → new ≡ buffer_of every full_limit s cut 256 old
      → count ≡ ones (cond (leb 32 (length new)) (set_of (take 32 new)) 0) → length new ≡ front + 40 * 256 → Adds t (out_line cut count) u → Adds t (cut_text s cut) u
  unfolding cut_text verdict_text
  shown_out {count = count} {new = new} p h b q l line =
      adds_as (ap (out_line cut) figure ∙ ap (λ (v : Verdict). verdict_text cut v known o.steps) (sym (is_underivable_lem p h))) line
    where
      figure : count ≡ known
      figure =
          q
          ∙ ap ones (when_le 32 (length new) (set_of (take 32 new)) 0 (omega arith) ∙ ap gained_in b ∙ accepted_known every full_limit s cut 256 old fine)

  pub out_is : {answer : ℕ} → answer ≡ answer_of every full_limit s cut 256 (length old) → 2000 ≤ answer → is_reached o.verdict ≡ false
  unfolding is_reached
  out_is p h = ap is_reached (is_underivable_lem p h)

-- the cuts below `cut` are printed, none of them reached, and those from there on are left
pub record Along (s : List ℕ) (last : ℕ) (t : Text) (cut : ℕ) (u : Text) : Type 0 where
  pub done : List ℕ
  pub written : Adds t done u
  pub rest : cuts_from s 0 (last + 1) ≡ done ++ cuts_from s cut (last + 1 - cut)
  pub short : u.len ≤ t.len + 64 * cut

module _ (s : List ℕ) (last : ℕ) (t : Text) where
  pub along_start : (n : ℕ) → HasRoom t n → Along s last t 0 t
  along_start n h =
      record {
        done = [];
        written = record { text = append_none t.out.now t.len (omega arith); same_reference = refl };
        rest = ap (cuts_from s 0) all;
        short = omega arith;
      }
    where
      all : last + 1 ≡ last + 1 - 0
      all = omega arith

  -- the next cut's text, and what follows it
  next_cut : (cut : ℕ) → cut ≤ last → cuts_from s cut (last + 1 - cut) ≡ cut_text s cut ++ cond (is_reached (outcome_of every s cut 256).verdict) [] (cuts_from s (cut + 1) (last + 1 - (cut + 1)))
  unfolding cuts_from
  next_cut cut h =
      ap (cuts_from s cut) one
      ∙ ap₂ (λ (c k : ℕ). cut_text s cut ++ cond (is_reached (outcome_of every s cut 256).verdict) [] (cuts_from s c k)) (sym (add-one cut)) two
    where
      one : last + 1 - cut ≡ suc (last - cut)
      one = omega arith

      two : last - cut ≡ last + 1 - (cut + 1)
      two = omega arith

  module _ {cut : ℕ} {u v : Text} (a : Along s last t cut u) (more : cut ≤ last) (new : Adds u (cut_text s cut) v) where
    rest_of : List ℕ → List ℕ
    rest_of l = a.done ++ (cut_text s cut ++ l)

    whole : (b : Bool) → is_reached (outcome_of every s cut 256).verdict ≡ b
        → cuts_from s 0 (last + 1) ≡ (a.done ++ cut_text s cut) ++ cond b [] (cuts_from s (cut + 1) (last + 1 - (cut + 1)))
    whole b p =
        a.rest
        ∙ ap (λ (l : List ℕ). a.done ++ l) (next_cut cut more ∙ ap (λ (t : Bool). cut_text s cut ++ cond t [] (cuts_from s (cut + 1) (last + 1 - (cut + 1)))) p)
        ∙ sym (append_assoc a.done (cut_text s cut) (cond b [] (cuts_from s (cut + 1) (last + 1 - (cut + 1)))))

    pub along_reached : is_reached (outcome_of every s cut 256).verdict ≡ true → Adds t (cuts_from s 0 (last + 1)) v
    along_reached p = adds_as (sym (whole true p ∙ append-nil (a.done ++ cut_text s cut))) (adds_next a.written new)

    pub along_more : is_reached (outcome_of every s cut 256).verdict ≡ false → v.len ≤ u.len + 64 → Along s last t (cut + 1) v
    along_more p h =
        record {
          done = a.done ++ cut_text s cut;
          written = adds_next a.written new;
          rest = whole false p;
          short = let e = a.short in omega arith;
        }

  pub along_end : {cut : ℕ} {u : Text} → Along s last t cut u → last < cut → Adds t (cuts_from s 0 (last + 1)) u
  unfolding cuts_from
  along_end {cut} a h = adds_as (sym (a.rest ∙ ap (λ (k : ℕ). a.done ++ cuts_from s cut k) none ∙ append-nil a.done)) a.written
    where
      none : last + 1 - cut ≡ 0
      none = omega arith

-- the whole card
pub card_refused : (s : List ℕ) → ¬ (refusal s ≡ 0) → refused_line (refusal s) ≡ card_of s
unfolding card_of
card_refused s n =
    sym
    (ap (λ (b : Bool). cond b (goal_line (goal_of s) (trace_length s) ++ cuts_from s 0 (suc (trace_length s))) (refused_line (refusal s))) (ne_eqb (refusal s) 0 n))

pub card_good : (s : List ℕ) → refusal s ≡ 0 → goal_line (goal_of s) (trace_length s) ++ cuts_from s 0 (trace_length s + 1) ≡ card_of s
unfolding card_of
card_good s ok =
    ap (λ (k : ℕ). goal_line (goal_of s) (trace_length s) ++ cuts_from s 0 k) (add-one (trace_length s))
    ∙ sym
    (ap (λ (b : Bool). cond b (goal_line (goal_of s) (trace_length s) ++ cuts_from s 0 (suc (trace_length s))) (refused_line (refusal s))) (eq-eqb (refusal s) 0 ok))
