-- `zuwendryk::stream::text_end` meets its contract: a search over the places finds the first.
use Rattle.std.proofs.Common.{rules, ◌≡◌, ℕ, ◌≤◌, ◌<◌, false, List, length, take, drop, ◌-◌, arith, ap, ◌∙◌, subst}
use Rattle.std.proofs.lemmas.List.{take_rest}
use Rattle.std.proofs.lemmas.Bool.{false≢true}
use Rattle.std.specs.Prelude.{Some, None, MatchOption, unwrap_or, nat_eq}
use Rattle.std.specs.declared.option.Option.{Option}
use Rattle.std.specs.Io.{StartsWith}
use Rattle.std.specs.List.{starts_with}
use Rattle.std.specs.Cmp.Lexicographic.{pointwise}
use Rattle.std.proofs.lemmas.Iterator.{first_from_Range}
use Rattle.zuwendryk.specs.declared.stream.TheConstants.{NUMBER}
use Rattle.zuwendryk.proofs.stream.text_end.Goals as goal

-- No holds before the place found, and before the end where none is found
before : (Yes No : ℕ → Type 0) (r : Option ℕ) (start end i n : ℕ) → start ≤ 0 → n ≤ end → i ≡ unwrap_or r n → MatchOption r ((k : ℕ) → start ≤ k → k < end → No k) (λ i. (start ≤ i) × (i < end) × Yes i × ((k : ℕ) → start ≤ k → k < i → No k)) → (k : ℕ) → k < i → No k
before Yes No None start end i n first last e h k below = h k (omega arith) (omega (arith, subst (λ m. k < m) e below))
before Yes No (Some j) start end i n first last e h k below = h.3 k (omega arith) (subst (λ m. k < m) e below)

-- the number doesn't stand at a place where the test answers false
differs : (at k : ℕ) (xs : List ℕ) → at ≡ k → false ≡ starts_with nat_eq (take (length xs - at) (drop at xs)) NUMBER.now → StartsWith (drop k xs) NUMBER.now → ⊥
differs at k xs same test s =
    let whole : take (length xs - at) (drop at xs) ≡ drop k xs = take_rest xs at ∙ ap (λ n. drop n xs) same in
    false≢true (test ∙ ap (λ l. pointwise nat_eq NUMBER.now (take 11 l)) whole ∙ ap (pointwise nat_eq NUMBER.now) s)

pub returns-clause-first : goal.returns-clause-first
returns-clause-first c =
    let at : ℕ → Type 0 = λ k. StartsWith (drop k c.args.text.now) NUMBER.now in
    before at (λ k. at k → ⊥) c.find.result _ _ _ _ (omega arith) (omega arith) c.unwrap_or.ensures (first_from_Range _ _ _ _ at (λ k. at k → ⊥) c.find.ensures.ran (λ x q h. search rules) (λ x q h. (search rules, λ s. search (rules, differs))))
