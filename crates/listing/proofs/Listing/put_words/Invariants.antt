use Rattle.std.proofs.Common.{◌≡◌, ℕ, ◌+◌, ◌≤◌, List, length}
use Rattle.listing.specs.Over.{Extends}
use Rattle.listing.specs.Words.{line_of}
use Rattle.listing.proofs.Listing.put_words.Given as goal

-- there is room for the words that are left, and with them the line is whole
abbrev pub invariant-loop-word : goal.invariant-loop-word
invariant-loop-word l = record {
  same : l.self.bytes.ghost_name ≡ l.fn.self.bytes.ghost_name;
  room : l.self.end + length (line_of l.words) ≤ length l.self.bytes.now;
  rest : (end : ℕ) (new : List ℕ) → Extends l.self.bytes.now l.self.end (line_of l.words) end new → Extends l.fn.self.bytes.now l.fn.self.end (line_of l.fn.words) end new;
}

abbrev pub decreases-loop-word : goal.decreases-loop-word
decreases-loop-word l = length l.words
