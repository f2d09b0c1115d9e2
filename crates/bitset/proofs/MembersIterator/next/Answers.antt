-- The iterator over the members of a word meets its contract.
use borrow.Author.Rules.{rules}
use Rattle.bitset.proofs.Laws.Members.{word_lowest, word_rest, word_less}
use Rattle.bitset.proofs.MembersIterator.next.Goals as goal

pub returns-clause-steps : goal.returns-clause-steps
returns-clause-steps c = let m = c.self.inside in let d = c.if-self-eq0.false in
    rw (← c.self.view_is) (word_lowest m.left m.base d (search rules) _ (search rules), word_rest m.left m.base d (search rules) _ (search rules) _ (search rules))

pub returns-clause-goes : goal.returns-clause-goes
returns-clause-goes c = let m = c.self.inside in
    record { on = λ _. (tt, tt, rw (← c.self.view_is) (word_less m.left m.base c.if-self-eq0.false (search rules) _ (search rules))); keeps = tt; rests = λ _. tt }
