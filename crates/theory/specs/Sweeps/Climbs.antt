-- The sweeps of a sound plan climb: a task's new bound grows with the set and is no smaller than C+, limits aside, and no
-- larger than a limit within them.
use Prim.Native.Nat.{ℕ, zero, suc, ◌≤◌, ◌<◌}
use Rattle.std.specs.Prelude.{◌≡◌, refl, Bool, true, false, cond}
use Rattle.std.proofs.Common.{inl, inr, le_refl, le_trans, mul-le-mul_right}
use Rattle.paper.specs.Limits.{most_ticks}
use Rattle.paper.specs.Tables.{Source, outside, fed, Plan}
use Rattle.paper.specs.Windows.{Inputs, rival, interference, setting}
use Rattle.paper.specs.Sets.{Bounds, stream_of, inputs_back, inputs}
use Rattle.theory.specs.Plans.Sound.{Sound}
use Rattle.theory.specs.Numbers.Sums.{sum_mono}
use Rattle.theory.specs.Streams.Counting.{◌⊑◌, Milder, milder_refl, milder_output, most_events_grows}
use Rattle.theory.specs.Task.Demand.{Proper, ◌≼◌}
use Rattle.theory.specs.Task.Preemptive.{bound_grows, bound_least, bounded_milder, bounded_most, bounded_decided}
use Rattle.theory.specs.Sweeps.Climb.{Below, Climbing}
use Rattle.theory.specs.Sweeps.Demand2.Bridge.{equations}

-- What a test lets through, or 0, grows with what it is.
cond_mono : (b : Bool) (m n : ℕ) → m ≤ n → cond b m 0 ≤ cond b n 0
cond_mono true m n h = h
cond_mono false m n h = le_refl 0

-- In a longer span, and for input streams less mild, rivals interfere as much or more.
pub interference_grows : (p : Plan) (S S' : Inputs) (k t t' : ℕ) → Milder p S S' → t ≤ t'
    → interference p S k t ≤ interference p S' k t'
unfolding interference
interference_grows p S S' k t t' m h =
    sum_mono p.tasks _ _ (λ j l.
    let more = most_events_grows (S j) (S' j) t t' (m j l) h in
    cond_mono (rival p k j) _ _ (mul-le-mul_right (p.task j).C+ more))

-- The setting of a task whose jobs cost something is proper.
pub setting_proper : (p : Plan) (S : Inputs) (k : ℕ) → 1 ≤ (p.task k).C+ → Proper (setting p S k)
setting_proper p S k cost =
    record { cost = cost; longer = λ s t h. interference_grows p S S k s t (λ j l. milder_refl (S j)) h }

-- Milder input streams make a task's setting milder.
pub setting_milder : (p : Plan) (S S' : Inputs) (k : ℕ) → k < p.tasks → Milder p S S' → setting p S k ≼ setting p S' k
setting_milder p S S' k counted m =
    record {
      least = refl;
      most = refl;
      input = m k counted;
      interference = λ t. interference_grows p S S' k t t m (le_refl t);
    }

-- A source gives a milder stream where the set is no larger and the input streams are milder.
stream_of_milder : (p : Plan) (R R' : Bounds) (S S' : Inputs) (source : Source) → ((j : ℕ) → source ≡ fed j → j < p.tasks)
    → Below p.tasks R R' → Milder p S S' → stream_of p R S source ⊑ stream_of p R' S' source
unfolding stream_of
stream_of_milder p R R' S S' (outside M) feeders l m = milder_refl _
stream_of_milder p R R' S S' (fed j) feeders l m =
    let h = feeders j refl in
    milder_output (p.task j).C- (S j) (S' j) (R j) (R' j) (m j h) (l j h)

module _ (p : Plan) (sound : Sound p) where
  -- A set no larger gives milder input streams, with the chains followed back over m tasks,
  inputs_back_milder : (R R' : Bounds) (m : ℕ) → Below p.tasks R R' → Milder p (inputs_back p R m) (inputs_back p R' m)
  unfolding inputs_back
  inputs_back_milder R R' zero l k h = milder_refl _
  inputs_back_milder R R' (suc m) l k h =
      stream_of_milder p R R' (inputs_back p R m) (inputs_back p R' m) (p.task k).source
      (λ j e. sound.feeders k j h e) l (inputs_back_milder R R' m l)

  -- and with the chains followed back over as many as there are.
  pub inputs_milder : (R R' : Bounds) → Below p.tasks R R' → Milder p (inputs p R) (inputs p R')
  unfolding inputs
  inputs_milder R R' = inputs_back_milder R R' p.tasks

  -- C+ is at least 1.
  some_C+ : (k : ℕ) → k < p.tasks → 1 ≤ (p.task k).C+
  some_C+ k h = le_trans (sound.some_cost k h) (sound.costs k h)

  -- The setting of a counted task is proper.
  pub proper : (S : Inputs) (k : ℕ) → k < p.tasks → Proper (setting p S k)
  proper S k h = setting_proper p S k (some_C+ k h)

  -- A set no larger makes a counted task's setting milder.
  set_milder : (R R' : Bounds) (k : ℕ) → Below p.tasks R R' → k < p.tasks
      → setting p (inputs p R) k ≼ setting p (inputs p R') k
  set_milder R R' k l h = setting_milder p (inputs p R) (inputs p R') k h (inputs_milder R R' l)

  -- The sweeps of a sound plan climb.
  pub climbing : Climbing (equations p) most_ticks
  climbing =
      record {
        given = λ R k r h s. (s.0, s.1.bound);
        grows = λ R R' k r r' l h g g'.
            bound_grows (proper (inputs p R) k h) (proper (inputs p R') k h) (set_milder R R' k l h) g.1 g'.1;
        smaller = λ R R' k r' l h s.
            let b = bounded_milder (proper (inputs p R) k h) (proper (inputs p R') k h) (set_milder R R' k l h) s.1 in
            (b.0, (b.1, b.2));
        least = λ R k r h g. bound_least (proper (inputs p R) k h) g.1;
        bounded = λ R k r h s. bounded_most (proper (inputs p R) k h) s.1;
        decided = λ R k h.
            elim (bounded_decided (proper (inputs p R) k h)) [
              | yes b ↦ inl (b.0, (b.1, b.2))
              | no none ↦ inr (λ r s. none (r, s.0, s.1))
            ];
      }
