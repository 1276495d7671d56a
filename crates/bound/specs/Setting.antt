-- The code's task and rivals in the words of document 01.
use Rattle.std.specs.Prelude.{ℕ, ◌+◌, ◌*◌, List, sum_by}
use Rattle.paper.specs.Streams.{most_events}
use Rattle.paper.specs.Windows.{Setting}
use Rattle.stream.specs.Model.{model_of}
use Rattle.bound.specs.declared.setting.Own.{Own}
use Rattle.bound.specs.declared.setting.Rival.{Rival}

-- The work of a rival in t ticks: "its most events in t times its C+".
abbrev pub work_of : (t : ℕ) → Rival → ℕ
work_of t r = most_events (model_of r.input) t * r.cost.0

-- The interference in t ticks: the work of all the rivals.
unfoldable pub interference_of : List Rival → ℕ → ℕ
interference_of rivals t = sum_by (work_of t) rivals

-- What is demanded in t ticks: the work of the task's own jobs, and the interference.
abbrev pub demand_of : List Rival → (work : ℕ) → ℕ → ℕ
demand_of rivals work t = work + interference_of rivals t

-- What the equations read of a task and its rivals.
abbrev pub setting_of : Own → List Rival → Setting
setting_of own rivals =
    record {
      C- = own.least.0;
      C+ = own.most.0;
      input = model_of own.input;
      interference = interference_of rivals;
    }
