-- How a run ends, by its report.
use Rattle.std.proofs.Common.{◌≡◌, ℕ, ◌+◌, ◌-◌, ◌≤◌, List, [], ◌∷◌, ◌++◌, length, drop, Option, sym, refl, ap, ◌∙◌, arith, length-append}
use Rattle.std.proofs.lemmas.Bool.{le-leb}
use Rattle.refusal.specs.declared.Refusal.{Refusal}
use Rattle.listing.specs.declared.line.Line.{Line}
use Rattle.listing.specs.Over.{over}
use Rattle.listing.specs.Lines.{text}
use Rattle.listing.proofs.Overs.{over_none, over_append, length-over_any, over_start}
use Rattle.schedule.specs.Script.{Item, script, tail}
use Rattle.rehearsal.specs.declared.verdict.Verdict.{Verdict}
use Rattle.rehearsal.specs.Lines.{listed}
use Rattle.rehearsal.specs.Responders.{Responder, no_trial}
use Rattle.rehearsal.specs.Runs.{verdict, over_with, on_with, done, Report, reported, report, run_of}
use Rattle.rehearsal.specs.Serving.{past, Final, went, finish}

-- how a report shows in the listing
final : ℕ → List ℕ → ℕ → Report → Final
final p bytes w r = record { listing = over bytes w (listed r.lines); consumed = p + r.consumed; written = w + length (listed r.lines); ended = r.ended }

same : {a b : List ℕ} {c d e f : ℕ} {g h : Option Refusal} → a ≡ b → c ≡ d → e ≡ f → g ≡ h →
    ◌≡◌ {A = Final} (record { listing = a; consumed = c; written = e; ended = g }) (record { listing = b; consumed = d; written = f; ended = h })
same i j k l = λ t. record { listing = i t; consumed = j t; written = k t; ended = l t }

listed_more : (l : Line) (ls : List Line) → listed (l ∷ ls) ≡ text l ++ listed ls
unfolding listed
listed_more l ls = refl

listed_none : listed [] ≡ []
unfolding listed
listed_none = refl

module _ (xs : List Item) (more : (p : ℕ) (bytes : List ℕ) (w : ℕ) (st : Responder) → w ≤ length bytes → finish xs p bytes w st ≡ final p bytes w (report xs (length bytes - w) st))
    (p : ℕ) (bytes : List ℕ) (w n : ℕ) (h : w ≤ length bytes) where
  -- a command that goes on
  goes : (l : Line) (st : Responder) → went (on_with l st) (p + n) bytes w (finish xs) ≡ final p bytes w (reported (on_with l st) n (length bytes - w) (report xs))
  unfolding final
  goes l st =
      let ds = text l in
      let len = length-over_any bytes w ds h in
      let room : length (over bytes w ds) - (w + length ds) ≡ length bytes - w - length ds = omega arith in
      let r = report xs (length bytes - w - length ds) st in
      let all = listed_more l r.lines in
      more (p + n) (over bytes w ds) (w + length ds) st (omega arith)
      ∙ ap (λ k. final (p + n) (over bytes w ds) (w + length ds) (report xs k st)) room
      ∙ same (over_append bytes w ds (listed r.lines) h ∙ ap (over bytes w) (sym all)) (omega arith) (omega (arith, length-append ds (listed r.lines), ap length all)) refl

  ended : (ls : List Line) (q : Option Refusal) → went (over_with ls q) p bytes w (finish xs) ≡ final p bytes w (reported (over_with ls q) n (length bytes - w) (report xs))
  unfolding final
  ended ls q = same refl (omega arith) refl refl

  step : (v : Verdict) (st : Responder) → went (done v st) (past v p n) bytes w (finish xs) ≡ final p bytes w (reported (done v st) n (length bytes - w) (report xs))
  step v st = grind (arith, goes, ended)

finishes : (xs : List Item) (p : ℕ) (bytes : List ℕ) (w : ℕ) (st : Responder) → w ≤ length bytes → finish xs p bytes w st ≡ final p bytes w (report xs (length bytes - w) st)
unfolding final
finishes [] p bytes w st h = same (sym (over_none bytes w) ∙ ap (over bytes w) (sym listed_none)) (omega arith) (omega (arith, ap length listed_none)) refl
finishes (x ∷ xs) p bytes w st h = step xs (finishes xs) p bytes w (1 + tail x) h (verdict (length bytes - w) x) st

-- THE RUN, at its end
module _ (bs old after : List ℕ) (p w : ℕ) (q : Option Refusal) where
  abbrev r : Report
  r = run_of bs (length old)

  pub record IsReport : Type 0 where
    pub bytes : after ≡ listed r.lines ++ drop (length (listed r.lines)) old
    pub consumed : p ≡ r.consumed
    pub written : w ≡ length (listed r.lines)
    pub ended : q ≡ r.ended

  pub ran : length bs ≤ 4096 → finish (script bs) 0 old 0 no_trial ≡ record { listing = after; consumed = p; written = w; ended = q } → IsReport
  unfolding final
  ran few e =
      let room : length old - 0 ≡ length old = omega arith in
      let is : report (script bs) (length old - 0) no_trial ≡ r = rw (room, le-leb (length bs) 4096 few) refl in
      let f : record { listing = after; consumed = p; written = w; ended = q } ≡ final 0 old 0 r =
      sym e ∙ finishes (script bs) 0 old 0 no_trial (omega arith) ∙ ap (final 0 old 0) is in
      record {
        bytes = ap (λ (z : Final). z.listing) f ∙ over_start old (listed r.lines);
        consumed = (let z = ap (λ (z : Final). z.consumed) f in omega arith);
        written = (let z = ap (λ (z : Final). z.written) f in omega arith);
        ended = ap (λ (z : Final). z.ended) f;
      }

-- what was written stands in the listing
pub within : (text rest after : List ℕ) (w : ℕ) → after ≡ text ++ rest → w ≡ length text → w ≤ length after
within text rest after w is e = rw is (omega (arith, length-append text rest))
