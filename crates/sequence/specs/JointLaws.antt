-- The four laws of two parts together follow from the laws of each, on the records alone.
use Rattle.std.specs.Prelude.{◌≡◌, ℕ, ◌+◌, Bool, false, ◌||◌, refl}
use Rattle.std.proofs.Common.{arith, sym, inl, inr}
use Rattle.std.proofs.lemmas.Bool.{or_cases, or_parts}
use Rattle.deciding.specs.declared.record.Outcome.{Outcome}
use Rattle.deciding.specs.declared.record.Outcome.TheVariants.{Adopt, Commit}
use Rattle.deciding.specs.declared.record.Record.{Record}
use Rattle.deciding.specs.declared.record.Record.TheVariants.{Away, UnderWay, Answered}
use Rattle.deciding.specs.Laws.{Laws, mark, Proposes, Ends}
use Rattle.sequence.specs.Joint.{joined, Link}

-- the proposals of the sequence are those of the first part
pub proposes_first : (a b : Record) (v : ℕ) → Proposes (joined a b) v → Proposes a v
proposes_first a b v h = grind arith

pub proposes_joined : (a b : Record) (v : ℕ) → Proposes a v → Proposes (joined a b) v
proposes_joined a b v h = grind arith

-- who has not entered the sequence has not entered the first part
pub away_first : (a b : Record) → joined a b ≡ Away → a ≡ Away
away_first a b e = grind arith

-- a proposal in the second part is the mark adopted in the first
pub adopted : (a b : Record) (w : ℕ) → Link a b → Proposes b w → Ends a (Adopt w)
adopted a b w l h = grind arith

-- an outcome of the sequence is a commit of the first part, or an outcome of the second
pub data Outcomes (a b : Record) (o : Outcome) : Type 0 where
  first : (u : ℕ) → o ≡ Commit u → Ends a (Commit u) → Outcomes a b o
  second : (u : ℕ) → Ends a (Adopt u) → Ends b o → Outcomes a b o

pub outcome_of : (a b : Record) (o : Outcome) → Ends (joined a b) o → Outcomes a b o
outcome_of Away b o h = absurd h
outcome_of (UnderWay p k) b o h = absurd h
outcome_of (Answered p k (Commit u)) b o h = first u (sym h) refl
outcome_of (Answered p k (Adopt u)) Away o h = absurd h
outcome_of (Answered p k (Adopt u)) (UnderWay w j) o h = absurd h
outcome_of (Answered p k (Adopt u)) (Answered w j q) o h = second u refl h

-- a record under way is so in the first part, or after an adoption there in the second
pub data Going (a b : Record) (v k : ℕ) : Type 0 where
  first : a ≡ UnderWay v k → Going a b v k
  second : (u i j : ℕ) → a ≡ Answered v i (Adopt u) → b ≡ UnderWay u j → k ≡ i + j → Going a b v k

pub going : (a b : Record) (v k : ℕ) → Link a b → joined a b ≡ UnderWay v k → Going a b v k
going Away b v k l e = first (cc)
going (UnderWay p i) b v k l e = first e
going (Answered p i (Commit u)) b v k l e = first (cc)
going (Answered p i (Adopt u)) Away v k l e = absurd l
going (Answered p i (Adopt u)) (UnderWay w j) v k l e = second u i j (cc) (cc) (cc)
going (Answered p i (Adopt u)) (Answered w j o) v k l e = first (cc)

-- an answered record is so in the first part, or in the second after an adoption in the first
pub data Gone (a b : Record) (v k : ℕ) (o : Outcome) : Type 0 where
  first : a ≡ Answered v k o → Gone a b v k o
  second : (u i w j : ℕ) → a ≡ Answered v i (Adopt u) → b ≡ Answered w j o → k ≡ i + j → Gone a b v k o

pub gone : (a b : Record) (v k : ℕ) (o : Outcome) → joined a b ≡ Answered v k o → Gone a b v k o
gone Away b v k o e = first (cc)
gone (UnderWay p i) b v k o e = first (cc)
gone (Answered p i (Commit u)) b v k o e = first e
gone (Answered p i (Adopt u)) Away v k o e = first (cc)
gone (Answered p i (Adopt u)) (UnderWay w j) v k o e = first (cc)
gone (Answered p i (Adopt u)) (Answered w j q) v k o e = second u i w j (cc) (cc) (cc)

-- if the first part only commits, so do both together
commits : (a b : Record) (o : Outcome) → ((q : Outcome) → Ends a q → q ≡ Commit (mark q)) → Ends (joined a b) o → o ≡ Commit (mark o)
commits Away b o all h = absurd h
commits (UnderWay p k) b o all h = absurd h
commits (Answered p k q) b o all h = grind (arith, all q refl)

module _ (L K : ℕ) (x y : Bool) (f g : ℕ → Record) (linked : (s : ℕ) → Link (f s) (g s)) (first_laws : Laws L x f) (second_laws : Laws K y g) where
  -- whatever is proposed in the second part was adopted in the first
  from_first : (t w : ℕ) → Proposes (g t) w → Ends (f t) (Adopt w)
  from_first t w h = adopted (f t) (g t) w (linked t) h

  valid : (s : ℕ) (o : Outcome) → Ends (joined (f s) (g s)) o → (t : ℕ) × Proposes (f t) (mark o)
  valid s o h = elim (outcome_of (f s) (g s) o h) [
    | first u e c ↦ rw e (first_laws.valid s (Commit u) c)
    | second u a k ↦ let (t, p) = second_laws.valid s o k in first_laws.valid t (Adopt (mark o)) (from_first t (mark o) p)
  ]

  -- once the first part commits, its mark is all that the second hears of
  settled : (s u : ℕ) → Ends (f s) (Commit u) → (t : ℕ) (o : Outcome) → Ends (g t) o → mark o ≡ u
  settled s u c t o h =
      let (r, p) = second_laws.valid t o h in
      first_laws.coherent s r u (Adopt (mark o)) c (from_first r (mark o) p)

  pub joined_laws : Laws (L + K) (x || y) (λ s. joined (f s) (g s))
  joined_laws = record {
    small = λ s v h. first_laws.small s v (proposes_first (f s) (g s) v h);
    valid = λ s o h. let (t, p) = valid s o h in (t, proposes_joined (f t) (g t) (mark o) p);
    coherent = λ s t u o c h.
        let here = λ (e : Ends (f s) (Commit u)). settled s u e t o in
        let there = λ (e : Ends (f t) (Commit (mark o))). settled t (mark o) e s (Commit u) in
        grind (arith, here, there, first_laws.coherent s t u o, second_laws.coherent s t u o);
    bounded = λ s v k e. grind (arith, linked s, first_laws.bounded s, first_laws.bounded_end s, second_laws.bounded s);
    bounded_end = λ s v k o e. elim (gone (f s) (g s) v k o e) [
      | first is ↦ omega (arith, first_laws.bounded_end s v k o is)
      | second u i w j a b sum ↦ omega (arith, first_laws.bounded_end s v i (Adopt u) a, second_laws.bounded_end s w j o b)
    ];
    ratifies = λ r v same s o h.
        let all : (t w : ℕ) → Proposes (f t) w → w ≡ v = λ t w p. same t w (proposes_joined (f t) (g t) w p) in
        let taken : (t w : ℕ) → Proposes (g t) w → w ≡ v = λ t w p. let (z, q) = first_laws.valid t (Adopt w) (from_first t w p) in all z w q in
        elim (or_cases x y r) [ inl e ↦ commits (f s) (g s) o (first_laws.ratifies e v all s) h | inr e ↦ grind (arith, second_laws.ratifies e v taken s) ];
    never = λ r s o h. grind (arith, or_parts x y r, λ (e : x ≡ false). first_laws.never e s, λ (e : y ≡ false). second_laws.never e s);
  }
