-- No two outcomes satisfy the contract of an entry. That of late_report_bytes is an equation.
use Rattle.std.specs.Prelude.{ℕ, ◌≡◌, length, take, drop}
use Rattle.std.proofs.Common.{ap, sym, ◌∙◌, arith, length-drop, length-take-le}
use Rattle.paper.specs.Bytes.{Bytes}
use Rattle.paper.specs.Answer.{Answer, Due}
use Rattle.theory.specs.Outcomes.Unique.{due_one, asked_one}
use Rattle.rules.specs.Part.{Lies}

-- late_answer hands back one number, stores one place and one sweep number, and leaves one content of the report space.
pub answer_one : {s out out' : Bytes} {room number number' place place' sweep sweep' : ℕ}
    → Due s room (record { number = number; place = place; sweep = sweep }) out
    → Due s room (record { number = number'; place = place'; sweep = sweep' }) out'
    → (number ≡ number') × (place ≡ place') × (sweep ≡ sweep') × (out ≡ out')
answer_one d d' =
    let one = due_one d d' in
    (ap (λ (a : Answer). a.number) one.0, ap (λ (a : Answer). a.place) one.0, ap (λ (a : Answer). a.sweep) one.0, one.1)

-- A part that lies inside the plan has as many bytes as are told.
long : {s : Bytes} {q from count : ℕ} → Lies s q from count → length (take count (drop from s)) ≡ count
long {s} {q} {from} {count} l = length-take-le count (drop from s) (rw (length-drop from s) (omega (arith, l.inside)))

-- late_path hands back one count, and stores one place.
pub path_one : {s : Bytes} {q from from' count count' : ℕ} → Lies s q from count → Lies s q from' count'
    → (from ≡ from') × (count ≡ count')
path_one l l' =
    let (from, part) = asked_one l.part l'.part in
    (from, sym (long l) ∙ ap length part ∙ long l')
