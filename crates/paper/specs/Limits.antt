-- Every number of document 01 that is a limit, in one place.
use Rattle.std.specs.Prelude.{ℕ}

-- A plan is at most so many bytes long.
abbrev pub plan_bytes : ℕ
plan_bytes = 4096

-- A plan has at most so many controllers,
abbrev pub most_controllers : ℕ
most_controllers = 16

-- so many tasks,
abbrev pub most_tasks : ℕ
most_tasks = 64

-- so many paths,
abbrev pub most_paths : ℕ
most_paths = 32

-- and so many tasks on one controller.
abbrev pub most_sharing : ℕ
most_sharing = 16

-- A path has at most so many steps.
abbrev pub most_steps : ℕ
most_steps = 16

-- A cost is at most so many ticks.
abbrev pub most_cost : ℕ
most_cost = 1_000_000

-- A period, a jitter and a window are at most so many ticks.
abbrev pub most_ticks : ℕ
most_ticks = 1_000_000_000

-- At most so many jobs are looked at.
abbrev pub most_jobs : ℕ
most_jobs = 1024
