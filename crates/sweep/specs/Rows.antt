-- Rows: what stands in them for each task of a plan.
use Rattle.std.specs.Prelude.{ℕ, Bool, true, false, List, get_or}
use Rattle.paper.specs.Tables.{Plan}
use Rattle.paper.specs.Streams.{Stream}
use Rattle.paper.specs.Windows.{Inputs}
use Rattle.paper.specs.Sets.{Bounds}
use Rattle.paper.specs.Load as Load
use Rattle.stream.specs.declared.kinds.Ticks.{Ticks}
use Rattle.stream.specs.declared.model.EventModel.{EventModel}
use Rattle.plan.specs.Tables.{tabulate}
use Rattle.sweep.specs.declared.once.Figure.{Figure}

-- The list of f at the tasks of a plan.
abbrev pub per_task : {A : Type 0} → Plan → (ℕ → A) → List A
per_task p f = tabulate p.tasks f

-- A task's period, "P being that of the outside stream at the chain's start".
abbrev pub period_of : Plan → ℕ → Ticks
period_of p k = record { 0 = Load.period p k }

-- The event model that holds a stream.
abbrev pub holding : Stream → EventModel
holding M = record { period = record { 0 = M.P }; jitter = record { 0 = M.J } }

-- A task's input stream as a row holds it.
abbrev pub stream_row : Inputs → ℕ → EventModel
stream_row S k = holding (S k)

-- The figures with this bound, input stream and number of jobs.
abbrev pub figure : ℕ → Stream → ℕ → Figure
figure R M jobs = record { bound = record { 0 = R }; input = holding M; jobs = record { 0 = jobs } }

-- A stream of which nothing is known yet,
abbrev pub no_stream : Stream
no_stream = record { P = 0; J = 0 }

-- and such figures.
abbrev pub no_figure : Figure
no_figure = figure 0 no_stream 0

-- What a task has to start with: R+ = C+.
abbrev pub first_figure : Plan → ℕ → Figure
first_figure p k = figure (p.task k).C+ no_stream 0

-- The set of bounds that rows of figures hold.
abbrev pub bounds_of : List Figure → Bounds
bounds_of set k = (get_or set k no_figure).bound.0

-- What a test tells of a claim: that it holds, or that it does not.
abbrev pub Tells : Bool → Type 0 → Type 0
Tells true A = A
Tells false A = A → ⊥
