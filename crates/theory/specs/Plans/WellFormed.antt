-- A well-formed plan's tables are sound, and fit the machine.
use Rattle.std.specs.Prelude.{ℕ, suc, ◌+◌, ◌-◌, ◌≤◌, ◌<◌, ◌≡◌, length, get_or, drop}
use Rattle.std.proofs.Common.{ap, length-take, length-drop, get_or-take, get_or-drop, add-one}
use Rattle.std.proofs.Math.Decide.{ℕ_discrete}
use native.Mathlib.Omega.{arith, by_contra}
use Rattle.paper.specs.Bytes.{Bytes}
use Rattle.paper.specs.Fields.{passed, length_at, tasks_of}
use Rattle.paper.specs.Tables.{Source, outside, fed, Plan, path_place, part_at, plan_of}
use Rattle.paper.specs.Refusals.{read, Broken, rules, WellFormed}
use Rattle.theory.specs.Plans.Sound.{Sound, Ranged}
use Rattle.theory.specs.Plans.Chains.{Feeders, chains_end}
use Rattle.theory.specs.Plans.Values.{PathRead, read_head, read_task, read_path}

-- A path's part holds as many task numbers as its field's length says.
pub part_length : (s : Bytes) (at : ℕ) → PathRead s at → length (part_at s at) ≡ length_at s at - 4
unfolding part_at
part_length s at path = simp (length-take, length-drop) (omega arith)

-- Each of them is a task number that the head counts.
pub part_steps : (s : Bytes) (at i : ℕ) → PathRead s at → i < length (part_at s at) → get_or (part_at s at) i 0 ≤ tasks_of s - 1
unfolding part_at
part_steps s at i path h =
    let inside : i < length_at s at - 4 = rw (part_length s at path) at h in
    rw (get_or-take (length_at s at - 4) (drop (at + 7) s) i 0 inside, get_or-drop (at + 7) s i 0) (path.steps i inside)

-- Whether a source is fed by a task.
fed_by : (source : Source) (j : ℕ) → Dec (source ≡ fed j)
fed_by (outside M) j = no (λ e. let z : ◌≡◌ {A = ℕ} 0 1 = cc in omega arith)
fed_by (fed i) j = elim (ℕ_discrete i j) [ yes same ↦ yes (ap fed same) | no other ↦ no (λ e. other cc) ]

-- Where refusal 9 is not due, each of a path's tasks is fed by the one before it.
links_hold : (p : Plan) → ((q : ℕ) → Broken p q → ⊥) → (q i : ℕ) → q < p.paths → suc i < length (p.path q)
    → (p.task (get_or (p.path q) (suc i) 0)).source ≡ fed (get_or (p.path q) i 0)
links_hold p none q i h l =
    elim (fed_by (p.task (get_or (p.path q) (suc i) 0)).source (get_or (p.path q) i 0)) [
      | yes e ↦ e
      | no other ↦ absurd (none q (record { counted = h; step = i; inside = omega arith; unfed = rw (add-one i) other }))
    ]

-- In a plan that reads every feeder is a task of the plan.
pub read_feeders : (s : Bytes) → read s ≡ passed → Feeders (plan_of s)
unfolding plan_of
read_feeders s reads k j h e = omega (arith, (read_task s reads k h).feeder j e, (read_head s reads).some_tasks)

-- The tables of a well-formed plan are sound.
pub well_formed→sound : (s : Bytes) → WellFormed s → Sound (plan_of s)
unfolding plan_of rules
well_formed→sound s well =
    record {
      some_cost = λ k h. (read_task s well.reads k h).values.some_cost;
      costs = λ k h. (read_task s well.reads k h).values.costs;
      some_period = λ k M h e. ((read_task s well.reads k h).events M e).0;
      feeders = read_feeders s well.reads;
      chains = chains_end (plan_of s) (read_feeders s well.reads) well.sound.1.0;
      apart = λ j k l h c e.
          well.sound.0 k (record { counted = h; other = j; lower = l; controller = c; priority = e });
      some_step = λ q h.
          omega (arith, part_length s (path_place s q) (read_path s well.reads q h), (read_path s well.reads q h).short);
      steps = λ q i h l.
          omega
          (arith, part_steps s (path_place s q) i (read_path s well.reads q h) l, (read_head s well.reads).some_tasks);
      links = links_hold (plan_of s) well.sound.1.1.0;
    }

-- The tables of a well-formed plan fit the machine.
pub well_formed→ranged : (s : Bytes) → WellFormed s → Ranged (plan_of s)
unfolding plan_of rules
well_formed→ranged s well =
    record {
      controllers = (read_head s well.reads).controllers;
      tasks = (read_head s well.reads).tasks;
      paths = (read_head s well.reads).paths;
      controller = λ k h.
          omega (arith, (read_task s well.reads k h).values.controller, (read_head s well.reads).some_controllers);
      priority = λ k h. omega (arith, (read_task s well.reads k h).values.priority);
      cost = λ k h. (read_task s well.reads k h).values.cost;
      period = λ k M h e. ((read_task s well.reads k h).events M e).1;
      jitter = λ k M h e. ((read_task s well.reads k h).events M e).2;
      sharing = λ c h. by_contra _ _ (λ many. well.sound.1.1.1.0 c (record { counted = h; many = many }));
      deadline = λ q h. omega (arith, (read_path s well.reads q h).fits);
      path = λ q h.
          omega (arith, part_length s (path_place s q) (read_path s well.reads q h), (read_path s well.reads q h).long);
    }
