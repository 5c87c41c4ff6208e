-- The four laws of deciding objects, in terms of the records of their stations.
use Rattle.std.specs.Prelude.{◌≡◌, ℕ, ◌+◌, ◌<◌, ◌≤◌, Bool, true, false, Some, None, Option, ◌⊎◌, zero, suc}
use Rattle.std.proofs.Common.{arith, inl, inr}
use Rattle.std.proofs.Math.Logic.{∥∥₁_elim}
use Rattle.std.proofs.Props.{props}
use Rattle.std.proofs.lemmas.Bool.{cases_eq, cases_lt}
use Rattle.std.specs.Coded.{le_prop, Coded-set, coded_ℕ}
use Rattle.deciding.specs.declared.record.Outcome.{Outcome}
use Rattle.deciding.specs.declared.record.Outcome.TheVariants.{Adopt, Commit}
use Rattle.deciding.specs.declared.record.Record.{Record}
use Rattle.deciding.specs.declared.record.Record.TheVariants.{Away, UnderWay, Answered}

-- how many marks there are: 0 to 255 millimetres
abbrev pub marks : ℕ
marks = 256

abbrev pub mark : Outcome → ℕ
mark (Adopt u) = u
mark (Commit u) = u

-- the station of this record proposed v
abbrev pub Proposes : Record → ℕ → Type 0
Proposes Away v = ⊥
Proposes (UnderWay p k) v = p ≡ v
Proposes (Answered p k o) v = p ≡ v

-- the station of this record has the outcome o
abbrev pub Ends : Record → Outcome → Type 0
Ends Away o = ⊥
Ends (UnderWay p k) o = ⊥
Ends (Answered p k q) o = q ≡ o

-- the record after one step more, which brought the outcome if there is one
abbrev pub stepped : Record → Option Outcome → Record
stepped Away o = Away
stepped (UnderWay v k) None = UnderWay v (k + 1)
stepped (UnderWay v k) (Some o) = Answered v (k + 1) o
stepped (Answered v k q) o = Answered v k q

pub record Laws (limit : ℕ) (ratifying : Bool) (record_of : ℕ → Record) : Type 0 where
  -- every proposal is a mark
  pub small : (s v : ℕ) → Proposes (record_of s) v → v < marks
  -- Validity: every outcome's mark is some station's proposal.
  pub valid : (s : ℕ) (o : Outcome) → Ends (record_of s) o → (t : ℕ) × Proposes (record_of t) (mark o)
  -- Coherence: if some outcome is commit u, every outcome has mark u.
  pub coherent : (s t u : ℕ) (o : Outcome) → Ends (record_of s) (Commit u) → Ends (record_of t) o → mark o ≡ u
  -- Bound: a station under way has taken fewer steps than the limit, an answered one 1 to the limit.
  pub bounded : (s v k : ℕ) → record_of s ≡ UnderWay v k → k < limit
  pub bounded_end : (s v k : ℕ) (o : Outcome) → record_of s ≡ Answered v k o → (1 ≤ k) × (k ≤ limit)
  -- Ratifying: if it is ratifying and all proposals are equal, every outcome is a commit; if it is not, none is.
  pub ratifies : ratifying ≡ true → (v : ℕ) → ((t w : ℕ) → Proposes (record_of t) w → w ≡ v) → (s : ℕ) (o : Outcome) → Ends (record_of s) o → o ≡ Commit (mark o)
  pub never : ratifying ≡ false → (s : ℕ) (o : Outcome) → Ends (record_of s) o → o ≡ Adopt (mark o)

-- where all records are away the laws hold, whatever the rest
pub away_laws : (ratifying : Bool) → Laws 0 ratifying (λ s. Away)
away_laws ratifying = grind arith

-- THE LAWS, where they merely hold: each says one thing, but validity, whose station is found among the first n

pub record_prop : (a b : Record) → IsProp (a ≡ b)
record_prop a b = hlevel props

outcome_prop : (a b : Outcome) → IsProp (a ≡ b)
outcome_prop a b = hlevel props

proposes_or : (r : Record) (v : ℕ) → Proposes r v ⊎ (Proposes r v → ⊥)
proposes_or Away v = inr (λ h. h)
proposes_or (UnderWay p k) v = cases_eq p v
proposes_or (Answered p k o) v = cases_eq p v

module _ (f : ℕ → Record) (v : ℕ) where
  proposer : (n : ℕ) → ((t : ℕ) × Proposes (f t) v) ⊎ ((t : ℕ) → t < n → Proposes (f t) v → ⊥)
  proposer zero = inr (λ t l h. absurd (omega (arith, l)))
  proposer (suc n) = elim (proposes_or (f n) v) [
    | inl h ↦ inl (n, h)
    | inr other ↦ elim (proposer n) [ inl some ↦ inl some | inr none ↦ inr (λ t l h. grind (arith, cases_eq t n, other, none t, l, h)) ]
  ]

  found : (n : ℕ) → ((t : ℕ) → n ≤ t → f t ≡ Away) → ∥ ((t : ℕ) × Proposes (f t) v) ∥₁ → (t : ℕ) × Proposes (f t) v
  found n away some = elim (proposer n) [
    | inl h ↦ h
    | inr none ↦ absurd (∥∥₁_elim some (λ a b. absurd a) (λ h. grind (arith, cases_lt h.0 n, none h.0, away h.0, h.1)))
  ]

pub laws_found : (limit : ℕ) (ratifying : Bool) (f : ℕ → Record) (n : ℕ) → ((t : ℕ) → n ≤ t → f t ≡ Away) → ∥ Laws limit ratifying f ∥₁ → Laws limit ratifying f
laws_found limit ratifying f n away merely = record {
  small = λ s v h. ∥∥₁_elim merely le_prop (λ l. l.small s v h);
  valid = λ s o h. found f (mark o) n away (∥∥₁_elim merely squash₁ (λ l. ∣ l.valid s o h ∣₁));
  coherent = λ s t u o h k. ∥∥₁_elim merely (Coded-set coded_ℕ _ _) (λ l. l.coherent s t u o h k);
  bounded = λ s v k e. ∥∥₁_elim merely le_prop (λ l. l.bounded s v k e);
  bounded_end = λ s v k o e. (∥∥₁_elim merely le_prop (λ l. (l.bounded_end s v k o e).0), ∥∥₁_elim merely le_prop (λ l. (l.bounded_end s v k o e).1));
  ratifies = λ e v same s o h. ∥∥₁_elim merely (outcome_prop _ _) (λ l. l.ratifies e v same s o h);
  never = λ e s o h. ∥∥₁_elim merely (outcome_prop _ _) (λ l. l.never e s o h);
}
