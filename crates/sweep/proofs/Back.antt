-- Going back along a chain by the rows comes nearer to the chain's start.
use Rattle.std.proofs.Common.{ℕ, zero, suc, ◌≤◌, ◌<◌, ◌≡◌, refl, ap, sym, ◌∙◌, arith, List, length, get_or}
use Rattle.paper.specs.Tables as Tables
use Rattle.paper.specs.Tables.{Source, outside, fed, Plan}
use Rattle.paper.specs.Refusals.{back, FromOutside}
use Rattle.theory.specs.Plans.Chains.{back_fed}
use Rattle.stream.specs.declared.kinds.TaskNo.{TaskNo}
use Rattle.plan.specs.declared.tasks.Source.TheVariants.{Fed}
use Rattle.plan.specs.declared.tasks.Task.{Task}
use Rattle.plan.specs.Tables.{blank, task_at}
use Rattle.sweep.specs.Planned.{Planned}
use Rattle.sweep.proofs.Rows.{counted, task_is, fed_by}

-- One step more than the feeder has, and none without a feeder.
one_more : Source → (ℕ → ℕ) → ℕ
one_more (outside M) f = 0
one_more (fed j) f = suc (f j)

-- It is the same where the feeder has as many.
one_more_same : (s : Source) (f g : ℕ → ℕ) → ((j : ℕ) → s ≡ fed j → f j ≡ g j) → one_more s f ≡ one_more s g
unfolding one_more
one_more_same (outside M) f g same = refl
one_more_same (fed j) f g same = ap suc (same j refl)

-- How many steps back from task k its chain starts, looked for over at most m steps.
depth_in : List Task → ℕ → ℕ → ℕ
depth_in tasks zero k = 0
depth_in tasks (suc m) k = one_more (task_at tasks k).source (depth_in tasks m)

-- How many steps back from task k its chain starts: fewer than there are tasks.
pub depth : List Task → ℕ → ℕ
depth tasks k = depth_in tasks (suc (length tasks)) k

module _ {p : Plan} {tasks : List Task} (so : Planned p tasks) where
  -- The source that is looked at is the task's.
  at_source : {k j : ℕ} → k < p.tasks → (task_at tasks k).source ≡ fed j → (p.task k).source ≡ fed j
  at_source {k} h e = sym (ap (λ (t : Tables.Task). t.source) (task_is so k blank h)) ∙ e

  -- A start fewer than a and fewer than b steps back is found over a steps as over b.
  depth_in_stays : (m a b k : ℕ) → k < p.tasks → FromOutside (p.task (back p m k)).source → m < a → m < b
      → depth_in tasks a k ≡ depth_in tasks b k
  unfolding depth_in back
  depth_in_stays m zero b k h o l r = absurd (omega arith)
  depth_in_stays m (suc a) zero k h o l r = absurd (omega arith)
  depth_in_stays zero (suc a) (suc b) k h o l r =
      one_more_same (task_at tasks k).source _ _ (λ j e. absurd (rw (at_source h e) at o))
  depth_in_stays (suc m) (suc a) (suc b) k h o l r =
      one_more_same (task_at tasks k).source _ _
      (λ j e.
      depth_in_stays m a b j (so.sound.feeders k j h (at_source h e)) (rw (back_fed p m k j (at_source h e)) at o)
      (omega arith) (omega arith))

  -- Over enough steps a fed task's chain is found to start one step further back than its feeder's.
  depth_in_nearer : (m n k j : ℕ) → FromOutside (p.task (back p m k)).source → m ≤ n → k < p.tasks
      → (task_at tasks k).source ≡ fed j → depth_in tasks (suc n) k ≡ suc (depth_in tasks (suc n) j)
  unfolding one_more depth_in back
  depth_in_nearer zero n k j o l h e = absurd (rw (at_source h e) at o)
  depth_in_nearer (suc m) n k j o l h e =
      let f = at_source h e in
      ap (λ s. one_more s (depth_in tasks n)) e
      ∙ ap suc (depth_in_stays m n (suc n) j (so.sound.feeders k j h f) (rw (back_fed p m k j f) at o) l (omega arith))

  -- The chain of a fed task starts one step further back than its feeder's.
  pub depth_nearer : (k : ℕ) (d : Task) {feeder : TaskNo} → k < p.tasks → (get_or tasks k d).source ≡ Fed feeder
      → depth tasks k ≡ suc (depth tasks feeder.0)
  unfolding depth
  depth_nearer k d {feeder} h e =
      let (m, l, o) = so.sound.chains k h in
      depth_in_nearer m (length tasks) k feeder.0 o (omega (arith, counted so)) h
      (ap (λ (t : Tables.Task). t.source) (task_is so k blank h) ∙ fed_by so k d h e)
