-- Rules typed as text (document 02, 2026-04): the formulas, what they mean, and how they are opened.
-- `Means` is document 000's meaning of the derived words, a type; `opened` is the request's opening of them. They agree: `proofs/TypedLaws.antt`.
use Rattle.std.specs.Prelude.{◌⊎◌, ◌≢◌, Bool, true, false, ℕ, ◌-◌, ◌≤◌, ◌<◌}
use Rattle.spec.specs.Logic.{Trace, state_at, Test, equal, below, Passes, Formula, never, test, implies, since, weak_previous}

-- prefix words
pub data Prefix : Type 0 where
  not wprev prev once sofar : Prefix

-- words between two formulas
pub data Operator : Type 0 where
  since_word and_word or_word implies_word : Operator

-- the signs of an atom, = and <
pub data Comparison : Type 0 where
  equal_to less_than : Comparison

pub data TextFormula : Type 0 where
  constant : Bool → TextFormula
  atom : Comparison → (register number : ℕ) → TextFormula
  prefixed : Prefix → TextFormula → TextFormula
  joined : Operator → TextFormula → TextFormula → TextFormula

-- ---- what they mean: document 000's connectives and temporal operators, at index n of a trace

abbrev pub test_of : Comparison → (register number : ℕ) → Test
test_of equal_to r c = equal r c
test_of less_than r c = below r c

abbrev pub MeansConstant : Bool → Type 0
MeansConstant true = Unit {0}
MeansConstant false = ⊥

abbrev pub MeansPrefixed : Prefix → (ℕ → Type 0) → ℕ → Type 0
MeansPrefixed not a n = a n → ⊥
-- weak previous: true at the initial state
MeansPrefixed wprev a n = n ≢ 0 → a (n - 1)
-- strong previous: false at the initial state
MeansPrefixed prev a n = (n ≢ 0) × a (n - 1)
-- once: at some state up to now
MeansPrefixed once a n = (i : ℕ) × (i ≤ n) × a i
-- so far: at every state up to now
MeansPrefixed sofar a n = (i : ℕ) → i ≤ n → a i

abbrev pub MeansJoined : Operator → (ℕ → Type 0) → (ℕ → Type 0) → ℕ → Type 0
-- Fig. 2: right at some i ≤ n, and left at every j with i < j ≤ n
MeansJoined since_word a b n = (i : ℕ) × (i ≤ n) × b i × ((j : ℕ) → i < j → j ≤ n → a j)
MeansJoined and_word a b n = a n × b n
MeansJoined or_word a b n = a n ⊎ b n
MeansJoined implies_word a b n = a n → b n

abbrev pub Means : Trace → TextFormula → ℕ → Type 0
Means σ (constant c) n = MeansConstant c
Means σ (atom k r c) n = Passes (test_of k r c) (state_at σ n)
Means σ (prefixed p φ) n = MeansPrefixed p (λ i. Means σ φ i) n
Means σ (joined o φ ψ) n = MeansJoined o (λ i. Means σ φ i) (λ i. Means σ ψ i) n

-- ---- how they are opened

-- true is false implies false
abbrev pub opened_true : Formula
opened_true = implies never never

-- not a is a implies false
abbrev pub opened_not : Formula → Formula
opened_not a = implies a never

-- once a is true since a
abbrev pub opened_once : Formula → Formula
opened_once a = since opened_true a

abbrev pub opened_constant : Bool → Formula
opened_constant true = opened_true
opened_constant false = never

abbrev pub opened_prefix : Prefix → Formula → Formula
opened_prefix not a = opened_not a
opened_prefix wprev a = weak_previous a
-- prev a is not wprev not a
opened_prefix prev a = opened_not (weak_previous (opened_not a))
opened_prefix once a = opened_once a
-- sofar a is not once not a
opened_prefix sofar a = opened_not (opened_once (opened_not a))

abbrev pub opened_operator : Operator → Formula → Formula → Formula
opened_operator since_word a b = since a b
-- a and b is not (a implies not b)
opened_operator and_word a b = opened_not (implies a (opened_not b))
-- a or b is (not a) implies b
opened_operator or_word a b = implies (opened_not a) b
opened_operator implies_word a b = implies a b

unfoldable pub opened : TextFormula → Formula
opened (constant c) = opened_constant c
opened (atom k r c) = test (test_of k r c)
opened (prefixed p φ) = opened_prefix p (opened φ)
opened (joined o φ ψ) = opened_operator o (opened φ) (opened ψ)
