use Rattle.std.proofs.Common.{List, ℕ, Bor, ap, ◌∙◌, arith}
use Rattle.rehearsal.specs.declared.verdict.Verdict.TheVariants.{Begins}
use Rattle.rehearsal.specs.Responders.{in_state}
use Rattle.rehearsal.proofs.Turns.{on, on_ends, on_halts, on_refuses, on_asks, put_stands}
use Rattle.rehearsal.proofs.serving.serve.Goals as goal

pub returns-in-Ends-clause-arrives : goal.returns-in-Ends-clause-arrives
returns-in-Ends-clause-arrives g c =
    let l = c.loop-refusal in
    let R = g.R.Responder in
    on_ends _ _ _ _ _ _ _ (ap (λ (s : Bor (List ℕ)). s.now) c.judge.ensures.same) (in_state R.answers (R.state l.responder)) c.in-Ends.refusal l.invariant.2 c.in-Ends.ensures.judges

pub returns-in-Halts-clause-arrives : goal.returns-in-Halts-clause-arrives
returns-in-Halts-clause-arrives g c =
    let l = c.loop-refusal in
    let R = g.R.Responder in
    let put = put_stands _ _ _ _ _ _ c.in-Halts.ensures.moves.0 c.put.ensures.appends in
    on_halts _ _ _ _ _ _ _ (ap (λ (s : Bor (List ℕ)). s.now) c.judge.ensures.same) _ _ (in_state R.answers (R.state l.responder)) c.in-Halts.refusal l.invariant.2 c.in-Halts.ensures.judges put

pub loop-refusal-preserved-in-Refuses : goal.loop-refusal-preserved-in-Refuses
loop-refusal-preserved-in-Refuses g c =
    let l = c.loop-refusal in
    let R = g.R.Responder in
    let moves = c.in-Refuses.ensures.moves in
    let put = put_stands _ _ _ _ _ _ moves.0 c.put-in-Refuses.ensures.appends in (
      (c.judge.ensures.same ∙ l.invariant.0.0, c.put-in-Refuses.ensures.same ∙ l.invariant.0.1),
      omega (arith, moves.1, l.invariant.1),
      on_refuses _ _ _ _ _ _ _ (ap (λ (s : Bor (List ℕ)). s.now) c.judge.ensures.same) _ _ (in_state R.answers (R.state l.responder)) c.in-Refuses.refusal l.invariant.2 c.in-Refuses.ensures.judges put,
    )

pub returns-in-Begins-clause-arrives : goal.returns-in-Begins-clause-arrives
returns-in-Begins-clause-arrives g c =
    let l = c.loop-refusal in
    let R = g.R.Responder in
    on _ _ _ _ _ _ _ (ap (λ (s : Bor (List ℕ)). s.now) c.judge.ensures.same) (in_state R.answers (R.state l.responder)) (Begins c.in-Begins.start) l.invariant.2 c.in-Begins.ensures.judges

pub loop-refusal-preserved : goal.loop-refusal-preserved
loop-refusal-preserved g c =
    let l = c.loop-refusal in
    let R = g.R.Responder in
    let moves = c.in-Asks.ensures.moves in
    let put = put_stands _ _ _ _ _ _ moves.0 c.put-in-Asks.ensures.appends in (
      (c.judge.ensures.same ∙ l.invariant.0.0, c.put-in-Asks.ensures.same ∙ l.invariant.0.1),
      omega (arith, moves.1, l.invariant.1),
      on_asks _ _ _ _ _ _ _ (ap (λ (s : Bor (List ℕ)). s.now) c.judge.ensures.same) _ _ R.answers (R.state l.responder) (R.state c.respond-answer.new.self)
          c.in-Asks.call c.respond-answer.result c.line_of.result l.invariant.2 c.in-Asks.ensures.judges c.respond-answer.ensures.0 c.respond-answer.ensures.1 c.line_of.ensures put,
    )
