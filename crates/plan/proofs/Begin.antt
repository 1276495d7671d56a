-- A field begins where the last one ended.
use Rattle.std.proofs.Common.{ℕ, ◌+◌, ◌<◌, ◌≡◌, add-one, arith, refl}
use Rattle.paper.specs.Bytes.{Bytes}
use Rattle.paper.specs.Fields.{place, ending}
use Rattle.plan.specs.Places.{Begins}

-- The first field begins at 0.
pub begins : (s : Bytes) → Begins s 0 0
unfolding place
begins s = record { is = refl; near = omega arith }

-- The next field begins where this one ends.
pub begins_next : {s : Bytes} {f at next : ℕ} → Begins s f at → next ≡ ending s at → next < at + 65_539 → Begins s (f + 1) next
unfolding place
begins_next {s} {f} b e near = record { is = rw (add-one f, ← b.is) e; near = omega arith }
