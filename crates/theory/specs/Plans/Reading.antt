-- What a reading that passes says: every due field passes, and the fields end where the plan ends.
use Rattle.std.specs.Prelude.{ℕ, zero, suc, ◌+◌, ◌≤◌, ◌<◌, ◌≡◌, List, length}
use Rattle.std.proofs.Common.{leb-true, eqb-true, lt-ltb, le-ltb, arith}
use Rattle.std.proofs.Math.Decide.{ℕ_discrete}
use Rattle.paper.specs.Bytes.{Bytes}
use Rattle.paper.specs.Fields.{passed, Value, in_ranges, tag_at, length_at, header, field, controllers_of, tasks_of}
use Rattle.paper.specs.Fields.{task_field, path_field}
use Rattle.paper.specs.Fields.{place, due_field, due_fields, fields}
use Rattle.paper.specs.Refusals.{read}
use Rattle.theory.specs.Plans.Judging.{passed_both, unless_passed, within_true}

-- What a field that passes says.
pub record FieldRead (s : Bytes) (at tag shortest longest : ℕ) (values : List Value) : Type 0 where
  -- It has the tag that is due,
  pub tagged : tag_at s at ≡ tag
  -- a length that the tag allows,
  pub short : shortest ≤ length_at s at
  pub long : length_at s at ≤ longest
  -- and room in the plan;
  pub room : at + 3 + length_at s at ≤ length s
  -- and its values pass.
  pub held : in_ranges s (at + 3) values ≡ passed

-- Where a field passes, it says that.
pub field_read : (s : Bytes) (at tag shortest longest : ℕ) (values : List Value)
    → field s at tag shortest longest values ≡ passed → FieldRead s at tag shortest longest values
unfolding field header
field_read s at tag shortest longest values e =
    let parts = passed_both _ _ e in
    let first = passed_both _ _ parts.0 in
    let second = passed_both _ _ first.1 in
    let third = passed_both _ _ second.1 in
    let size = within_true shortest (length_at s at) longest (unless_passed _ _ _ third.0) in
    record {
      tagged = eqb-true _ _ (unless_passed _ _ _ second.0);
      short = size.0;
      long = size.1;
      room = leb-true _ _ (unless_passed _ _ _ third.1);
      held = parts.1;
    }

-- Of a row of fields that passes, each passes.
pub fields_each : (s : Bytes) (n f : ℕ) → fields s n ≡ passed → f < n → due_field s f (place s f) ≡ passed
unfolding fields
fields_each s zero f e h = absurd (omega arith)
fields_each s (suc n) f e h =
    let both = passed_both _ _ e in
    elim (ℕ_discrete f n) [ yes same ↦ rw same both.1 | no other ↦ fields_each s n f both.0 (omega arith) ]

-- The field due at a task's number is that task's.
pub due_task : (s : Bytes) (k at : ℕ) → k < tasks_of s → due_field s (1 + controllers_of s + k) at ≡ task_field s at
unfolding due_field
due_task s k at h =
    let after : 1 + controllers_of s + k ≡ suc (controllers_of s + k) = omega arith in
    rw (
      after,
      le-ltb (controllers_of s + k) (controllers_of s) (omega arith),
      lt-ltb (controllers_of s + k) (controllers_of s + tasks_of s) (omega arith),
    )

-- The field due at a path's number is that path's.
pub due_path : (s : Bytes) (q at : ℕ) → due_field s (1 + controllers_of s + tasks_of s + q) at ≡ path_field s at
unfolding due_field
due_path s q at =
    let after : 1 + controllers_of s + tasks_of s + q ≡ suc (controllers_of s + tasks_of s + q) = omega arith in
    rw (
      after,
      le-ltb (controllers_of s + tasks_of s + q) (controllers_of s) (omega arith),
      le-ltb (controllers_of s + tasks_of s + q) (controllers_of s + tasks_of s) (omega arith),
    )

module _ (s : Bytes) (reads : read s ≡ passed) where
  -- Every due field passes at its place.
  pub due_passed : (f : ℕ) → f < due_fields s → due_field s f (place s f) ≡ passed
  unfolding read
  due_passed f h = fields_each s (due_fields s) f (passed_both _ _ (passed_both _ _ reads).1).0 h
