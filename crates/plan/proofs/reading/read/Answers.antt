-- `read` judges a plan field by field.
use Rattle.std.proofs.Common.{ℕ, zero, suc, ◌+◌, ◌-◌, ◌<◌, ◌≡◌, refl, sym, add-zero, add-one, add-suc, arith}
use Rattle.std.proofs.lemmas.Result.{err_from_is_err_and}
use Rattle.paper.specs.Bytes.{Bytes}
use Rattle.paper.specs.Fields.{passed, refused, place, due_field, fields, due_fields}
use Rattle.paper.specs.Refusals.{read}
use Rattle.plan.specs.Judged.{number_of, place_of}
use Rattle.plan.proofs.Chain.{chain}
use Rattle.plan.proofs.Saying.{given_unless}
use Rattle.plan.proofs.Begin.{begins, begins_next}
use Rattle.plan.proofs.reading.read.Goals as goal

-- Where the first fields are refused, more of them are refused alike.
more_refused : (s : Bytes) (f more n p : ℕ) → fields s f ≡ refused n p → fields s (f + more) ≡ refused n p
unfolding fields
more_refused s f zero n p e = rw add-zero e
more_refused s f (suc more) n p e = rw (add-suc, more_refused s f more n p e) (simp chain)

-- Where some fields pass and the next one is refused, that is the first fault of all of them.
fields_refused : (s : Bytes) (f due n p : ℕ) → fields s f ≡ passed → due_field s f (place s f) ≡ refused n p → f < due
    → fields s due ≡ refused n p
unfolding fields
fields_refused s f due n p before here h =
    let all : due ≡ suc f + (due - suc f) = omega arith in
    rw all (more_refused s (suc f) (due - suc f) n p (rw (before, here) (simp chain)))

-- A plan that is too long is refused first.
pub returns-in_err-unless : goal.returns-in_err-unless
unfolding read
returns-in_err-unless c =
    let last = err_from_is_err_and c.from_residual.result c.from_residual.ensures.1 in
    rw (last.1, last.2, ← given_unless _ _ c.in_err-unless.ensures) (simp chain)

-- Before the first field nothing is judged, and it begins at 0.
pub loop-f-init : goal.loop-f-init
unfolding fields
loop-f-init c = record { begins = begins _; passes = refl }

-- The next field passes too.
pub loop-f-preserved : goal.loop-f-preserved
unfolding fields
loop-f-preserved c =
    let so = c.loop-f.invariant in
    let here = c.placed-walker.ensures in
    let went = rw (here.0, here.1) at c.next-at.ensures in
    let passes = rw (here.0, here.1, so.begins.is) at c.in_ok-due_field.ensures in
    record {
      begins = begins_next so.begins went.0 went.1;
      passes = rw (add-one c.loop-f.f, so.passes, ← passes) (simp chain);
    }

-- The first field that is refused decides.
pub returns-in_err-due_field : goal.returns-in_err-due_field
unfolding read
returns-in_err-due_field c =
    let s = c.args.s.now in
    let so = c.loop-f.invariant in
    let e = c.in_err-due_field.field-0.0 in
    let last = err_from_is_err_and c.from_residual-in_err-due_field.result c.from_residual-in_err-due_field.ensures.1 in
    let here : due_field s c.loop-f.f (place s c.loop-f.f) ≡ refused (number_of e) (place_of e) =
    sym (rw (c.placed-walker.ensures.0, c.placed-walker.ensures.1, so.begins.is) at c.in_err-due_field.ensures) in
    let some = fields_refused s c.loop-f.f (due_fields s) _ _ so.passes here (omega arith) in
    rw (last.1, last.2, ← given_unless _ _ c.in_ok-unless.ensures, some) (simp chain)

-- After the loop every due field is judged, and what is left is 6.
pub returns : goal.returns
unfolding read
returns c =
    let so = c.loop-f.invariant in
    let done : c.loop-f.f ≡ due_fields c.args.s.now = omega arith in
    rw (given_unless _ _ c.unless-2.ensures, ← given_unless _ _ c.in_ok-unless.ensures, ← done, so.passes, ← so.begins.is) (simp chain)
