use Rattle.std.proofs.Common.{◌+◌, ◌<◌, length, subst, arith}
use Rattle.std.specs.Prelude.{slice_range}
use Rattle.ir_lex.specs.Next.{IsNext, NothingNext}
use Rattle.ir_lex.proofs.NextSteps.{some_from_test, nothing_next, next_within, is_next, unlabelled_from}
use Rattle.ir_lex.proofs.tokens.Tokens.next.Goals as goal
use Rattle.ir_lex.proofs.tokens.Tokens.next.Goals.{then-start-self, else-start-self}

pub returns-then-found-eq0-clause-syntax : goal.returns-then-found-eq0-clause-syntax
returns-then-found-eq0-clause-syntax c =
    let some = some_from_test (length c.behind-rest.result.now) c.if-is_empty.ensures in
    subst (λ place. NothingNext place (c.self.inside.at + c.gap_len.result)) c.self.view_is (nothing_next c.self.inside.text.now c.self.inside.at c.gap_len.result c.behind.result.now c.behind-rest.result.now c.behind.ensures c.behind-rest.ensures c.self.invariant.0 c.gap_len.ensures.within c.gap_len.ensures.gap c.longest-found.result.kind c.longest-found.result.len c.longest-found.ensures c.if-found-eq0.true some)

pub invariant_of-self : goal.invariant_of-self
invariant_of-self c = (
  next_within c.self.inside.text.now c.self.inside.at c.gap_len.result c.behind.result.now c.behind-rest.result.now c.behind.ensures c.behind-rest.ensures c.self.invariant.0 c.gap_len.ensures.within c.gap_len.ensures.gap c.longest-found.result.kind c.longest-found.result.len c.longest-found.ensures,
  λ p from below.
      elim c.if-start-self.branch [ then-start-self w ↦ c.self.invariant.1 p (omega arith) (omega (arith, w.unlabelled_to-is)) | else-start-self w ↦ unlabelled_from c.self.inside.text.now c.behind-rest.result.now (c.self.inside.at + c.gap_len.result) w.unlabelled_len.result p c.behind-rest.ensures w.unlabelled_len.ensures.unlabelled (omega arith) (omega (arith, w.unlabelled_to-is)) ],
)

pub returns-clause-found : goal.returns-clause-found
returns-clause-found c =
    let some : 0 < c.longest-found.result.len = omega arith in
    subst (λ place. IsNext place c.longest-found.result.kind (c.self.inside.at + c.gap_len.result) (c.self.inside.at + c.gap_len.result + c.longest-found.result.len) (slice_range c.self.inside.text.now (c.self.inside.at + c.gap_len.result) (c.self.inside.at + c.gap_len.result + c.longest-found.result.len))) c.self.view_is (is_next c.self.inside.text.now c.self.inside.at c.gap_len.result c.behind.result.now c.behind-rest.result.now c.behind.ensures c.behind-rest.ensures c.self.invariant.0 c.gap_len.ensures.within c.gap_len.ensures.gap c.longest-found.result.kind c.longest-found.result.len c.longest-found.ensures some)
