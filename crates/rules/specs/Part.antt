-- The part of a plan that the question about a path hands back.
use Rattle.std.specs.Prelude.{ℕ, ◌+◌, ◌≤◌, ◌≡◌, length, take, drop}
use Rattle.std.proofs.Common.{sym, ◌∙◌, arith}
use Rattle.std.specs.Borrow.{Bor}
use Rattle.paper.specs.Bytes.{Bytes}
use Rattle.paper.specs.Refusals.{Asked}
use Rattle.theory.specs.Outcomes.Unique.{asked_one}
use Rattle.plan.specs.Parts.{BeginsAt}

-- So many bytes of the plan, from a place on, are the part that the question about path q hands back.
pub record Lies (s : Bytes) (q from count : ℕ) : Type 0 where
  pub inside : from + count ≤ length s
  pub part : Asked s q from (take count (drop from s))

-- A part is the one that path q is asked for: it begins at that place of the plan, and holds those bytes.
pub record PartOf (s : Bor Bytes) (q : ℕ) (part : Bor Bytes) : Type 0 where
  pub from : ℕ
  pub begins : BeginsAt s from part
  pub asked : Asked s.now q from part.now

-- Two of them are one part: they begin at one place, and hold the same bytes.
pub part_one : {s part part' : Bor Bytes} {q : ℕ} → PartOf s q part → PartOf s q part'
    → (part.ref_ptr.0 ≡ part'.ref_ptr.0) × (part.ref_ptr.1 ≡ part'.ref_ptr.1) × (part.now ≡ part'.now)
part_one a b =
    let (from, bytes) = asked_one a.asked b.asked in
    (a.begins.block ∙ sym b.begins.block, omega (arith, a.begins.offset, b.begins.offset), bytes)
