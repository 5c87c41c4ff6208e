use Rattle.std.proofs.Common.{◌≡◌, ◌∙◌, arith}
use Rattle.listing.specs.Words.{between}
use Rattle.listing.proofs.Extends.{between_last, between_more, line_long, extends_line, extends_end}
use Rattle.listing.proofs.Listing.put_words.Goals as goal

pub loop-word-preserved : goal.loop-word-preserved
loop-word-preserved c =
    let is = c.in-Some.ensures.cases.0 in
    let sep : c.if-is_empty.after ≡ between c.in-Some.rest.now = grind (arith, between_last, between_more) in
    record {
      same = c.put_bytes.ensures.same ∙ c.put_word.ensures.same ∙ c.loop-word.invariant.same;
      room = grind (arith, line_long);
      rest = λ end new x. c.loop-word.invariant.rest end new (extends_line _ _ _ _ is sep c.loop-word.invariant.room c.put_word.ensures.extends c.put_bytes.ensures.extends x);
    }

pub returns-clause-extends : goal.returns-clause-extends
returns-clause-extends c = c.loop-word.invariant.rest _ _ (extends_end _ _ _ c.in_default.ensures.cases)
