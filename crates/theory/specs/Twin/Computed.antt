-- What the twin computes of plan bytes, opened: where it computes to an outcome, that outcome is due.
use Rattle.std.specs.Prelude.{ℕ, ◌≤◌, ◌≡◌}
use Rattle.std.proofs.Common.{ap}
use Rattle.std.proofs.Math.Path.{subst}
use Rattle.std.proofs.Math.Option.{bind, or_else}
use Rattle.paper.specs.Words.{sum, product, count, any}
use Rattle.paper.specs.Bytes.{Bytes, number, bytes, difference}
use Rattle.paper.specs.Fields.{Judged, passed, ◌and_then◌, unless, in_ranges, header, field, ending, place, due_field, fields}
use Rattle.paper.specs.Fields.{head_field, controller_field, task_values, outside_field, fed_field, task_field, path_field}
use Rattle.paper.specs.Tables.{stream_at, source_at, task_at, part_at, plan_of}
use Rattle.paper.specs.Refusals.{read, feeder, back, WellFormed}
use Rattle.paper.specs.Streams.{d, rounded_up, most_events, delayed}
use Rattle.paper.specs.Windows.{output, rival, interference}
use Rattle.paper.specs.Sets.{stream_of, inputs_back, inputs}
use Rattle.paper.specs.Load.{period_of, period, periods, other_periods, work}
use Rattle.paper.specs.Report.{record_of, head_record, task_record, verdict, path_record, along, each}
use Rattle.paper.specs.Report.{task_report, path_report, report, report_length}
use Rattle.theory.specs.Twin.Finding.{lowest, row, longer}
use Rattle.theory.specs.Twin.Window.{search, window}
use Rattle.theory.specs.Twin.Bound.{look, bound}
use Rattle.theory.specs.Twin.Sweeps.{sweep, differ, after, sweeps, ended}
use Rattle.theory.specs.Twin.Judge.{sharing, is_fed, endless, feeds, broken, crowded, overloaded, refused_at, judge}
use Rattle.theory.specs.Twin.Answer.{Outcome, IsDue, swept, loaded, weighed, before11, passed_well, weighed_due}

-- The refusal judged before 11, if there is one, and the outcome with room enough. To unfold this is to unfold all that it
-- computes with.
unfoldable pub computed : Bytes → Judged × Outcome
unfolding before11 read ◌and_then◌ unless in_ranges header field ending place due_field fields number
    head_field controller_field task_values outside_field fed_field task_field path_field
    plan_of task_at source_at stream_at part_at
    judge refused_at lowest or_else sharing endless is_fed broken feeds crowded overloaded
    any count sum product feeder back period_of period periods other_periods work
    weighed loaded swept ended sweeps after differ sweep row longer bound look window search bind
    interference rival most_events rounded_up d inputs inputs_back stream_of output delayed
    report report_length head_record task_report task_record path_report path_record verdict along each record_of difference bytes
computed s = (before11 s, weighed (plan_of s))

module _ (s : Bytes) (o : Outcome) (e : computed s ≡ (passed, o)) where
  -- Where no refusal before 11 is computed, the plan is well-formed,
  pub computed_well : WellFormed s
  unfolding computed
  computed_well = passed_well s (ap (λ c. c.0) e)

  -- and with room enough the outcome computed is due.
  pub computed_due : (room : ℕ) → report_length (plan_of s) ≤ room → IsDue s room o
  unfolding computed
  computed_due room enough = subst (IsDue s room) (ap (λ c. c.1) e) (weighed_due s room computed_well enough)
