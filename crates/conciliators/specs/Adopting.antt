-- Every protocol on one register in which a station writes nothing but its own mark, and adopts its own mark or the one that it
-- finds, keeps the laws. The invariant: the register is empty or holds a proposal, and no outcome is a commit.
use Rattle.std.specs.Prelude.{◌≡◌, ℕ, ◌+◌, ◌-◌, ◌<◌, ◌≤◌, false, ◌⊎◌, List, length, slice_index, slice_index_or, slice_set, refl}
use Rattle.std.proofs.Common.{◌∙◌, inl, inr, arith}
use Rattle.std.proofs.lemmas.List.{get_or-set_same}
use Rattle.deciding.specs.declared.record.Outcome.{Outcome}
use Rattle.deciding.specs.declared.record.Outcome.TheVariants.{Adopt, Commit}
use Rattle.machine.specs.declared.status.Status.{Status}
use Rattle.machine.specs.declared.status.Status.TheVariants.{Absent, Running, Done}
use Rattle.machine.specs.declared.status.Plan.{Plan}
use Rattle.machine.specs.declared.status.Plan.TheVariants.{Read, Write}
use Rattle.machine.specs.Turn.{Turn, On, End}
use Rattle.deciding.specs.Laws.{Laws, Proposes, Ends, mark, marks}
use Rattle.machine.specs.Protocol.{Protocol, shown, content_of, contents_after, status_after}
use Rattle.machine.specs.Kept.{rows, Within, Kept}
use Rattle.machine.specs.Stations.{each_set, Proposed, proposed_set, proposed_own, Fits, fits_more, fits_small, laws_of}

-- an operation on register 0, which writes nothing but the mark v
abbrev pub OwnMark : ℕ → Plan → Type 0
OwnMark v (Read i) = i ≡ 0
OwnMark v (Write i w) = (i ≡ 0) × (w ≡ v + 1)

-- where the turn of a station leads that proposed v and met the content x: to a phase that is allowed, or to the adoption
-- of its own mark or of the one met
abbrev pub Leads : {Phase : Type 0} → (Phase → Type 0) → ℕ → ℕ → Turn Phase → Type 0
Leads Allowed v x (On ph) = Allowed ph
Leads Allowed v x (End (Adopt m)) = (m ≡ v) ⊎ (x ≡ m + 1)
Leads Allowed v x (End (Commit m)) = ⊥

-- what a station meets, whatever its phase: an empty register, or a mark
abbrev pub EmptyOrMark : {Phase : Type 0} → Phase → ℕ → Type 0
EmptyOrMark ph x = x ≤ marks

pub record Adopting {Setup Phase : Type 0} (p : Protocol Setup Phase) : Type 1 where
  pub one_register : (u : Setup) → p.registers u ≡ 1
  pub not_ratifying : p.ratifying ≡ false
  pub limit_within : (u : Setup) → 1 ≤ p.stations u → p.stations u ≤ rows → Within (p.limit u)
  -- may a station under way be in the phase, by the content of the register and the number of its steps?
  pub Placed : Setup → ℕ → ℕ → Phase → Type 0
  pub begun : (u : Setup) (x : ℕ) → Placed u x 0 p.begun
  -- it may still, when another station has written a mark
  pub written : (u : Setup) (x w k : ℕ) (ph : Phase) → Placed u x k ph → Placed u (w + 1) k ph
  pub bounded : (u : Setup) (x k : ℕ) (ph : Phase) → Placed u x k ph → k < p.limit u
  pub planned : (u : Setup) (s v : ℕ) (ph : Phase) → OwnMark v (p.plan u s v ph)
  pub turned : (u : Setup) (xs : List ℕ) (s c v k : ℕ) (ph : Phase) → s < p.stations u → Placed u (slice_index xs 0) k ph →
      let x = content_of xs (p.plan u s v ph) in
      Leads (Placed u x (k + 1)) v x (p.turn u s v ph x c)

-- AN OPERATION on register 0
module _ (v : ℕ) where
  -- the content that it meets is the one that it leaves
  met_is_left : (xs : List ℕ) (plan : Plan) → 0 < length xs → OwnMark v plan → slice_index (contents_after xs plan) 0 ≡ content_of xs plan
  met_is_left xs plan room own = grind (arith, get_or-set_same)

  found_or_own : (xs : List ℕ) (plan : Plan) → OwnMark v plan → (content_of xs plan ≡ slice_index xs 0) ⊎ (content_of xs plan ≡ v + 1)
  found_or_own xs plan own = grind arith

-- the proposal stays, whatever the turn
proposes_after : {Phase : Type 0} (v k w : ℕ) (turn : Turn Phase) → v ≡ w → Proposes (shown (status_after v k turn)) w
proposes_after v k w turn e = grind arith

module _ {Setup Phase : Type 0} (p : Protocol Setup Phase) (a : Adopting p) where
  -- of a row, where register 0 holds x
  abbrev RowPlaced : Setup → ℕ → Status Phase → Type 0
  RowPlaced u x Absent = Unit {0}
  RowPlaced u x (Running v k ph) = a.Placed u x k ph
  RowPlaced u x (Done v k o) = o ≡ Adopt (mark o)

  record Invariant (u : Setup) (xs : List ℕ) (t : List (Status Phase)) : Type 0 where
    fits : (s : ℕ) → Fits (p.limit u) (Proposed t) (slice_index_or t s Absent)
    placed : (s : ℕ) → RowPlaced u (slice_index xs 0) (slice_index_or t s Absent)
    -- the register is empty or holds a proposal
    register : (w : ℕ) → slice_index xs 0 ≡ w + 1 → Proposed t w

  begins : (u : Setup) (xs : List ℕ) (t : List (Status Phase)) → slice_index xs 0 ≡ 0 → ((s : ℕ) → slice_index_or t s Absent ≡ Absent) → Invariant u xs t
  begins u xs t empty none = grind (arith, none)

  -- ONE ROW IS SET. Its proposal stays, and the register stays or takes the row's proposal.
  module _ (u : Setup) (xs xs' : List ℕ) (t : List (Status Phase)) (s : ℕ) (row : Status Phase) (there : s < length t) (inv : Invariant u xs t)
      (stays : (w : ℕ) → Proposes (shown (slice_index_or t s Absent)) w → Proposes (shown row) w)
      (change : (slice_index xs' 0 ≡ slice_index xs 0) ⊎ ((v : ℕ) × (slice_index xs' 0 ≡ v + 1) × Proposes (shown row) v)) where
    still_proposed : (w : ℕ) → Proposed t w → Proposed (slice_set t s row) w
    still_proposed = proposed_set t s row there stays

    register_after : (w : ℕ) → slice_index xs' 0 ≡ w + 1 → Proposed (slice_set t s row) w
    register_after w e = grind (arith, still_proposed w, inv.register w, proposed_own t s row w there)

    others_placed : (other : Status Phase) → RowPlaced u (slice_index xs 0) other → RowPlaced u (slice_index xs' 0) other
    others_placed other h = grind (arith, a.written u (slice_index xs 0))

    set_kept : Fits (p.limit u) (Proposed (slice_set t s row)) row → RowPlaced u (slice_index xs' 0) row → Invariant u xs' (slice_set t s row)
    set_kept fits placed = record {
      fits = each_set (Fits (p.limit u) (Proposed (slice_set t s row))) t s row Absent there fits (λ j. fits_more (p.limit u) (Proposed t) (Proposed (slice_set t s row)) still_proposed (slice_index_or t j Absent) (inv.fits j));
      placed = each_set (RowPlaced u (slice_index xs' 0)) t s row Absent there placed (λ j. others_placed (slice_index_or t j Absent) (inv.placed j));
      register = register_after;
    }

  entered : (u : Setup) (xs : List ℕ) (t : List (Status Phase)) (s v : ℕ) → s < length t → Invariant u xs t → v < marks → slice_index_or t s Absent ≡ Absent →
      Invariant u xs (slice_set t s (Running v 0 p.begun))
  entered u xs t s v there inv small away =
      let placed = a.begun u (slice_index xs 0) in
      set_kept u xs xs t s (Running v 0 p.begun) there inv (λ w h. absurd (rw away at h)) (inl refl) (small, a.bounded u (slice_index xs 0) 0 p.begun placed) placed

  -- the row that a turn leaves, of a station that proposed v, took k steps before and met the content x
  module _ (u : Setup) (v k x : ℕ) where
    turn_fits : (P : ℕ → Type 0) (turn : Turn Phase) → v < marks → k < p.limit u → P v → ((w : ℕ) → x ≡ w + 1 → P w) →
        Leads (a.Placed u x (k + 1)) v x turn → Fits (p.limit u) P (status_after v k turn)
    turn_fits P turn small bound own found leads = grind (arith, a.bounded u x (k + 1))

  module _ (u : Setup) (xs : List ℕ) (t : List (Status Phase)) (s v k : ℕ) (ph : Phase) (inv : Invariant u xs t) (is : slice_index_or t s Absent ≡ Running v k ph) where
    abbrev plan : Plan
    plan = p.plan u s v ph

    own : OwnMark v plan
    own = a.planned u s v ph

    fitted : Fits (p.limit u) (Proposed t) (Running v k ph)
    fitted = rw is at (inv.fits s)

    stepped : (c : ℕ) → 0 < length xs → s < length t → s < p.stations u →
        Invariant u (contents_after xs plan) (slice_set t s (status_after v k (p.turn u s v ph (content_of xs plan) c)))
    stepped c room there below = set_kept u xs (contents_after xs plan) t s row there inv stays change
        (turn_fits u v k _ _ turn fitted.0 fitted.1 (proposed_own t s row v there (proposes_after v k v turn refl)) (register_after u xs (contents_after xs plan) t s row there inv stays change) leads)
        (grind (arith, leads))
      where
        turn : Turn Phase
        turn = p.turn u s v ph (content_of xs plan) c

        row : Status Phase
        row = status_after v k turn

        left : slice_index (contents_after xs plan) 0 ≡ content_of xs plan
        left = met_is_left v xs plan room own

        stays : (w : ℕ) → Proposes (shown (slice_index_or t s Absent)) w → Proposes (shown row) w
        stays w h = proposes_after v k w turn (rw is at h)

        change : (slice_index (contents_after xs plan) 0 ≡ slice_index xs 0) ⊎ ((w : ℕ) × (slice_index (contents_after xs plan) 0 ≡ w + 1) × Proposes (shown row) w)
        change = elim (found_or_own v xs plan own) [ inl e ↦ inl (left ∙ e) | inr e ↦ inr (v, left ∙ e, proposes_after v k v turn refl) ]

        leads : Leads (a.Placed u (slice_index (contents_after xs plan) 0) (k + 1)) v (slice_index (contents_after xs plan) 0) turn
        leads = rw left (a.turned u xs s c v k ph below (rw is at (inv.placed s)))

    -- the register holds at most a mark, and so does what is written
    register_small : slice_index xs 0 ≤ marks
    register_small =
        let held = slice_index xs 0 - 1 in
        grind (arith, inv.register held, λ (j : ℕ). fits_small (p.limit u) (Proposed t) (slice_index_or t j Absent) held (inv.fits j))

    met_small : content_of xs plan ≤ marks
    met_small = grind (arith, fitted.0, register_small, found_or_own v xs plan own)

  laws : (u : Setup) (xs : List ℕ) (t : List (Status Phase)) → Invariant u xs t → Laws (p.limit u) p.ratifying (λ s. shown (slice_index_or t s Absent))
  laws u xs t inv =
      laws_of (p.limit u) p.ratifying t inv.fits
      (λ s j w o e _. grind (arith, adopts s (Commit w) e))
      (λ yes. cc a.not_ratifying)
      (λ _. adopts)
    where
      adopts : (s : ℕ) (o : Outcome) → Ends (shown (slice_index_or t s Absent)) o → o ≡ Adopt (mark o)
      adopts s o e = grind (arith, inv.placed s)

  pub adopting_kept : Kept p EmptyOrMark
  adopting_kept = record {
    Inv = Invariant;
    new = λ u xs t fitting empty none. begins u xs t (empty 0 (omega (arith, a.one_register u))) none;
    enter_kept = λ u xs t s v fitting inv below. entered u xs t s v (omega arith) inv;
    step_kept = λ u xs t s c v k ph fitting inv below is. stepped u xs t s v k ph inv is c (omega (arith, a.one_register u)) (omega arith) below;
    meets = λ u xs t s v k ph inv below is. met_small u xs t s v k ph inv is;
    below = λ u xs t s v k ph inv below is. grind (arith, a.one_register u, a.planned u s v ph);
    within = λ u some few. (a.limit_within u some few, (omega (arith, a.one_register u), omega (arith, a.one_register u)));
    gives = λ u xs t fitting past inv. laws u xs t inv;
  }
