-- Input streams along a chain: the equations hold of them as they stand, and their period is that of the chain's start.
use Prim.Native.Nat.{ℕ, zero, suc, ◌≤◌, ◌<◌}
use Rattle.std.specs.Prelude.{◌≡◌, refl}
use Rattle.std.proofs.Math.Path.{sym, ap}
use Rattle.std.proofs.Common.{◌∙◌, arith}
use Rattle.paper.specs.Limits.{most_ticks}
use Rattle.paper.specs.Tables.{Source, outside, fed, Plan}
use Rattle.paper.specs.Refusals.{back, FromOutside}
use Rattle.paper.specs.Streams.{Stream, delayed}
use Rattle.paper.specs.Windows.{Inputs, output}
use Rattle.paper.specs.Sets.{Bounds, stream_of, inputs_back, inputs}
use Rattle.paper.specs.Load.{period_of, period}
use Rattle.theory.specs.Plans.Sound.{Sound, Ranged}
use Rattle.theory.specs.Plans.Chains.{back_fed, back_rests, back_stays, back_below}

-- A source's stream rests on its feeder's bound and input stream alone.
pub stream_same : (p : Plan) (R R' : Bounds) (S S' : Inputs) (source : Source)
    → ((j : ℕ) → source ≡ fed j → (R j ≡ R' j) × (S j ≡ S' j)) → stream_of p R S source ≡ stream_of p R' S' source
unfolding stream_of
stream_same p R R' S S' (outside M) same = refl
stream_same p R R' S S' (fed j) same = rw ((same j refl).0, (same j refl).1)

-- Following a chain back further than its start changes no input stream.
inputs_stay : (p : Plan) (R : Bounds) (m a b k : ℕ) → FromOutside (p.task (back p m k)).source → m < a → m < b
    → inputs_back p R a k ≡ inputs_back p R b k
unfolding inputs_back back
inputs_stay p R m zero b k o l r = absurd (omega arith)
inputs_stay p R m (suc a) zero k o l r = absurd (omega arith)
inputs_stay p R zero (suc a) (suc b) k o l r =
    stream_same p R R (inputs_back p R a) (inputs_back p R b) (p.task k).source (λ j e. absurd (rw e at o))
inputs_stay p R (suc m) (suc a) (suc b) k o l r =
    stream_same p R R (inputs_back p R a) (inputs_back p R b) (p.task k).source
    (λ j e. (refl, inputs_stay p R m a b j (rw (back_fed p m k j e) at o) (omega arith) (omega arith)))

-- A source from outside has a stream.
stream_outside : (source : Source) → FromOutside source → (M : Stream) × (source ≡ outside M)
stream_outside (outside M) o = (M, refl)
stream_outside (fed j) o = absurd o

-- The start of task k's chain: a task of the plan that is fed from outside, with k's period.
pub record Start (p : Plan) (k : ℕ) : Type 0 where
  pub first : ℕ
  pub stream : Stream
  pub counted : first < p.tasks
  pub source : (p.task first).source ≡ outside stream
  pub same : period p k ≡ stream.P

-- A stream has the period of its source from outside, and otherwise that of its feeder's input stream.
stream_period : (p : Plan) (R : Bounds) (S : Inputs) (source : Source) (P : ℕ) → (FromOutside source → period_of source ≡ P)
    → ((j : ℕ) → source ≡ fed j → (S j).P ≡ P) → (stream_of p R S source).P ≡ P
unfolding stream_of output delayed period_of
stream_period p R S (outside M) P own fed_by = own tt
stream_period p R S (fed j) P own fed_by = fed_by j refl

-- A task fed from outside has the period of its events.
pub period_outside : (p : Plan) (k : ℕ) (M : Stream) → (p.task k).source ≡ outside M → period p k ≡ M.P
unfolding period period_of
period_outside p k M e = rw (back_rests p p.tasks k (rw e tt), e)

module _ {p : Plan} (sound : Sound p) where
  -- Every input stream is the one that its task's source gives: a fed task has its feeder's output stream.
  pub inputs_law : (R : Bounds) (k : ℕ) → k < p.tasks → inputs p R k ≡ stream_of p R (inputs p R) (p.task k).source
  unfolding inputs inputs_back
  inputs_law R k h =
      let start = sound.chains k h in
      inputs_stay p R start.0 p.tasks (suc p.tasks) k start.2 start.1 (omega (arith, start.1))

  -- Every chain has a start.
  pub start : (k : ℕ) → k < p.tasks → Start p k
  unfolding period period_of
  start k h =
      let end = sound.chains k h in
      let first : ℕ = back p end.0 k in
      let (M, is) = stream_outside (p.task first).source end.2 in
      let rests : back p p.tasks k ≡ first = back_stays p end.0 p.tasks k end.2 (omega (arith, end.1)) in
      record {
        first = first;
        stream = M;
        counted = back_below p sound.feeders end.0 k h;
        source = is;
        same = ap (λ (i : ℕ). period_of (p.task i).source) rests ∙ ap period_of is;
      }

  -- Every period is at least 1.
  pub period_some : (k : ℕ) → k < p.tasks → 1 ≤ period p k
  period_some k h =
      let s = start k h in
      rw s.same (sound.some_period s.first s.stream s.counted s.source)

  -- No period is longer than the limit.
  pub period_most : Ranged p → (k : ℕ) → k < p.tasks → period p k ≤ most_ticks
  period_most ranged k h =
      let s = start k h in
      rw s.same (ranged.period s.first s.stream s.counted s.source)

  -- A fed task has its feeder's period.
  pub period_fed : (k j : ℕ) → k < p.tasks → (p.task k).source ≡ fed j → period p k ≡ period p j
  unfolding period
  period_fed k j h e =
      let end = sound.chains j (sound.feeders k j h e) in
      let step : back p (suc end.0) k ≡ back p end.0 j = back_fed p end.0 k j e in
      rw (
        back_stays p (suc end.0) p.tasks k (rw step end.2) end.1,
        step,
        back_stays p end.0 p.tasks j end.2 (omega (arith, end.1)),
      )

  -- A task's input stream has the task's period where its feeder's has the feeder's.
  period_step : (R : Bounds) (k : ℕ) → k < p.tasks → ((j : ℕ) → (p.task k).source ≡ fed j → (inputs p R j).P ≡ period p j)
      → (inputs p R k).P ≡ period p k
  unfolding period
  period_step R k h fed_by =
      rw (inputs_law R k h)
      (stream_period p R (inputs p R) (p.task k).source (period p k) (λ own. rw (back_rests p p.tasks k own))
      (λ j e. fed_by j e ∙ sym (period_fed k j h e)))

  -- So it has along a chain that starts m steps back.
  period_along : (R : Bounds) (m k : ℕ) → k < p.tasks → FromOutside (p.task (back p m k)).source
      → (inputs p R k).P ≡ period p k
  unfolding back
  period_along R zero k h o = period_step R k h (λ j e. absurd (rw e at o))
  period_along R (suc m) k h o =
      period_step R k h (λ j e. period_along R m j (sound.feeders k j h e) (rw (back_fed p m k j e) at o))

  -- The period of a task's input stream is the task's, whatever the bounds.
  pub period_law : (R : Bounds) (k : ℕ) → k < p.tasks → (inputs p R k).P ≡ period p k
  period_law R k h = period_along R (sound.chains k h).0 k h (sound.chains k h).2
