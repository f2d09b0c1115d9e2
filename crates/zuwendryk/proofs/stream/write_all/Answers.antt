-- `zuwendryk::stream::write_all` meets its contract: what was written is the front of the bytes, and what is left the rest.
use Rattle.std.proofs.Common.{◌≡◌, ℕ, ◌+◌, ◌-◌, List, ◌++◌, length, take, drop, subst, ap, sym, ◌∙◌}
use Rattle.std.proofs.lemmas.List.{take_rest, drop-drop}
use Rattle.std.proofs.Math.Seq.{take-add}
use Rattle.std.specs.Io.KnownBytes.{Appends}
use Rattle.std.proofs.KnownBytes.{Appends-trans, Appends-kept}
use Rattle.zuwendryk.proofs.stream.write_all.Goals as goal

-- n more bytes behind the first a
front : (a n : ℕ) (xs rest : List ℕ) → rest ≡ drop a xs → take a xs ++ take n rest ≡ take (a + n) xs
front a n xs rest e = ap (λ l. take a xs ++ take n l) e ∙ sym (take-add a n xs)

-- and what is left behind them
left : (a n : ℕ) (xs rest : List ℕ) → rest ≡ drop a xs → take (length rest - n) (drop n rest) ≡ drop (a + n) xs
left a n xs rest e = take_rest rest n ∙ ap (drop n) e ∙ drop-drop n a xs

pub returns-in_err-count-clause-front : goal.returns-in_err-count-clause-front
returns-in_err-count-clause-front g c =
    let (done, rest, bytes) = c.loop-rest.invariant in
    (done, Appends-kept _ _ _ _ bytes c.in_err-count.ensures.bytes)

pub returns-in-0-clause-front : goal.returns-in-0-clause-front
returns-in-0-clause-front g c =
    let (done, rest, bytes) = c.loop-rest.invariant in
    (done + c.in_ok-count.count, subst (Appends _ _) (front _ _ _ _ rest) (Appends-trans _ _ _ _ _ bytes c.in_ok-count.ensures.bytes))

pub loop-rest-preserved : goal.loop-rest-preserved
loop-rest-preserved g c =
    let (done, rest, bytes) = c.loop-rest.invariant in
    (done + c.in_ok-count.count, left _ _ _ _ rest, subst (Appends _ _) (front _ _ _ _ rest) (Appends-trans _ _ _ _ _ bytes c.in_ok-count.ensures.bytes))

pub returns-clause-front : goal.returns-clause-front
returns-clause-front g c =
    let (done, rest, bytes) = c.loop-rest.invariant in
    (done, bytes)
