-- The two sets of one mark share no register, so that together they have no more registers than the pool.
use Rattle.std.specs.Prelude.{◌≡◌, ℕ, zero, suc, ◌+◌, ◌<◌, ◌≤◌, ◌≢◌, ◌⊎◌, slice_index, refl}
use Rattle.std.proofs.Common.{inl, inr, ⊎_elim, arith}
use Rattle.std.proofs.lemmas.Bool.{cases_eq}
use Rattle.tables.specs.Table.{Table, Lawful}

abbrev Below : (ℕ → ℕ) → ℕ → ℕ → Type 0
Below f a k = (i : ℕ) → i < a → f i < k

abbrev Ascends : (ℕ → ℕ) → ℕ → Type 0
Ascends f a = (i j : ℕ) → i < j → j < a → f i < f j

-- of a numbers below k + 1 the last is k, or all are below k
top : (f : ℕ → ℕ) (k a : ℕ) → Below f a (suc k) → Ascends f a → ((b : ℕ) × (a ≡ suc b) × (f b ≡ k) × Below f b k) ⊎ Below f a k
top f k zero below up = inr (λ i l. absurd (omega arith))
top f k (suc b) below up =
    ⊎_elim
    (λ e. inl (b, refl, e, λ i l. omega (arith, up i b l (omega arith))))
    (λ ne. inr (λ i l. ⊎_elim
    (λ e. rw e (omega (arith, below b (omega arith))))
    (λ other. omega (arith, up i b (omega arith) (omega arith), below b (omega arith)))
    (cases_eq i b)))
    (cases_eq (f b) k)

-- a numbers and b other numbers below k, by what the two lists have of k - 1
fit : (f g : ℕ → ℕ) (k a b : ℕ) → Below f a k → Below g b k → Ascends f a → Ascends g b → ((i j : ℕ) → i < a → j < b → f i ≢ g j) → a + b ≤ k
fit f g zero zero zero fk gk fu gu apart = omega arith
fit f g zero zero (suc b) fk gk fu gu apart = absurd (omega (arith, gk b (omega arith)))
fit f g zero (suc a) b fk gk fu gu apart = absurd (omega (arith, fk a (omega arith)))
fit f g (suc k) a b fk gk fu gu apart =
    ⊎_elim
    (λ t.
    let g_below : Below g b k = λ j l. omega (arith, gk j l, apart t.0 j (omega arith) l) in
    let rest = fit f g k t.0 b t.3 g_below (λ i j l m. fu i j l (omega arith)) gu (λ i j l m. apart i j (omega arith) m) in
    omega arith)
    (λ f_below. ⊎_elim
    (λ t.
    let rest = fit f g k a t.0 f_below t.3 fu (λ i j l m. gu i j l (omega arith)) (λ i j l m. apart i j l (omega arith)) in
    omega arith)
    (λ g_below. let rest = fit f g k a b f_below g_below fu gu apart in omega arith)
    (top g k b gk gu))
    (top f k a fk fu)

pub sizes_fit : (q : Table) → Lawful q → q.write_size + q.read_size ≤ q.pool_size
sizes_fit q law =
    let writes = law.writes 0 (omega arith) in
    let reads = law.reads 0 (omega arith) in
    fit (λ i. slice_index (q.write_set 0) i) (λ i. slice_index (q.read_set 0) i) q.pool_size q.write_size q.read_size
    writes.below reads.below writes.ascending reads.ascending
    (λ i j l m e. law.apart 0 (slice_index (q.read_set 0) j) (omega arith)
    (record { index = i; below = omega (arith, writes.sized); is = e }) (record { index = j; below = omega (arith, reads.sized); is = refl }))

-- so that code may add the two sizes
pub small_sizes : (q : Table) → Lawful q → q.write_size + q.read_size ≤ 998
small_sizes q law = omega (arith, sizes_fit q law, law.small)
