-- A line of each kind, byte for byte.
use Rattle.std.proofs.Common.{◌≡◌, ℕ, List, [], ◌∷◌, ◌++◌, length, Some, None, codes, refl}
use Rattle.std.specs.Fmt.{digits}
use Rattle.refusal.specs.declared.Refusal.TheVariants.{NoSuchStation}
use Rattle.deciding.specs.declared.record.Access.TheVariants.{Read, Write}
use Rattle.deciding.specs.declared.record.Outcome.TheVariants.{Adopt, Commit}
use Rattle.schedule.specs.declared.pile.Pile.TheVariants.{Collect}
use Rattle.listing.specs.declared.line.Line.TheVariants.{Pile, Entered, Stepped, Stopped, Refused}
use Rattle.listing.specs.Words.{line_of}
use Rattle.listing.specs.Lines.{text}

abbrev ended : List ℕ → List ℕ
ended bs = bs ++ (10 ∷ [])

pub pile_line : text (Pile Collect 16 260 65535) ≡ ended (codes "pile 1 stations 16 limit 260 registers 65535")
unfolding digits line_of text
pile_line = refl

-- the longest of all lines
pub longest : length (text (Pile Collect 255 65535 65535)) ≡ 48
unfolding digits line_of text
longest = refl

pub entered_line : text (Entered 0 255) ≡ ended (codes "enter 0 mark 255")
unfolding digits line_of text
entered_line = refl

pub read_line : text (Stepped 3 (record { access = Read; register = 12; content = 0 }) None) ≡ ended (codes "step 3 read 12 0")
unfolding digits line_of text
read_line = refl

pub adopted_line : text (Stepped 3 (record { access = Write; register = 7; content = 515 }) (Some (Adopt 40))) ≡ ended (codes "step 3 write 7 515 adopt 40")
unfolding digits line_of text
adopted_line = refl

pub committed_line : text (Stepped 10 (record { access = Read; register = 7; content = 41 }) (Some (Commit 40))) ≡ ended (codes "step 10 read 7 41 commit 40")
unfolding digits line_of text
committed_line = refl

pub stopped_line : text (Stopped 9) ≡ ended (codes "stop 9")
unfolding digits line_of text
stopped_line = refl

pub refused_line : text (Refused NoSuchStation) ≡ ended (codes "refused 15")
unfolding digits line_of text
refused_line = refl
