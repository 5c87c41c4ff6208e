use Rattle.std.proofs.Common.{◌≡◌, ◌≤◌, length, drop, Option, sym, ◌∙◌, subst, arith, rules}
use Rattle.refusal.specs.declared.Refusal.{Refusal}
use Rattle.refusal.specs.Numbers.{number_or_zero}
use Rattle.rehearsal.specs.Lines.{listed}
use Rattle.rehearsal.specs.Responders.{no_trial}
use Rattle.rehearsal.specs.Runs.{run_of}
use Rattle.rehearsal.specs.Serving.{HasEnded, Run, finishes, run_at}
use Rattle.rehearsal.proofs.Bounds.{run_bounded}
use Rattle.rehearsal.proofs.ListingsLawful.{run_lawful}
use Rattle.rehearsal.proofs.PilesLawful.{agreement}
use Rattle.rehearsal.proofs.PilesMade.{piles_made}
use Rattle.rehearsal.proofs.Reports.{ran, within}
use Rattle.rehearsal.proofs.run.run.Goals as goal

pub returns : goal.returns
returns c =
    let bs = c.args.schedule.now in
    let bytes = c.args.listing.now in
    let new = c.new-listing.ensures in
    let is : ◌≡◌ {A = Run} (run_at c.new-reader.result c.new-listing.result) (run_at (record { schedule = c.args.schedule; position = 0 }) (record { bytes = _; end = 0 })) =
    λ i. run_at (record { schedule = c.new-reader.ensures.0 i; position = c.new-reader.ensures.1 i }) (record { bytes = new.0 i; end = new.1 i }) in
    let end = run_at c.finish-ended.new.reader c.finish-ended.new.listing in
    let ends = subst (λ (x : Run). HasEnded (finishes x no_trial) c.finish-ended.result end) is c.finish-ended.ensures.ends in
    let r = ran bs bytes _ c.finish-ended.new.reader.position c.finish-ended.new.listing.end c.finish-ended.result (omega arith) ends in
    let b = run_bounded bs (length bytes) in
    let lines = listed (run_of bs (length bytes)).lines in
    let shown = r.bytes in
    let same = c.finish-ended.ensures.stays.1 in
    let memory = new.0 in
    record {
      bytes = search rules;
      consumed = c.position.ensures ∙ r.consumed;
      written = c.end.ensures ∙ r.written;
      ended = r.ended;
      bounds = (omega (arith, c.position.ensures, r.consumed, b.consumed), within lines (drop (length lines) bytes) _ _ (search rules) (c.end.ensures ∙ r.written), subst (λ (e : Option Refusal). number_or_zero e ≤ 4) (sym r.ended) b.ended);
      made = piles_made;
      lawful = agreement;
      tells = run_lawful bs (length bytes) (λ i. omega (arith, c.type_inv.schedule i));
    }

pub returns-then-schedule-gt-LONGEST : goal.returns-then-schedule-gt-LONGEST
unfolding listed
returns-then-schedule-gt-LONGEST c =
    let l = agreement in
    let m = piles_made in
    let t = run_lawful c.args.schedule.now (length c.args.listing.now) (λ i. omega (arith, c.type_inv.schedule i)) in
    record { bytes = search rules; consumed = search rules; written = search rules; ended = search rules; bounds = search rules; made = m; lawful = l; tells = t }
