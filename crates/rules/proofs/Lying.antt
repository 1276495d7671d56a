-- Where a path's task numbers lie.
use Rattle.std.proofs.Common.{ℕ, ◌<◌, ◌≤◌, ◌≡◌, ◌∙◌, ap, refl, arith, List, length, get_or}
use Rattle.paper.specs.Bytes.{Bytes}
use Rattle.paper.specs.Fields.{paths_of}
use Rattle.paper.specs.Tables.{path_place, part_at, plan_of}
use Rattle.paper.specs.Refusals.{WellFormed}
use Rattle.theory.specs.Plans.Values.{read_path}
use Rattle.plan.specs.declared.paths.Path.{Path}
use Rattle.plan.specs.Tables.{path_row, path_rows}
use Rattle.std.proofs.lemmas.List.{get_or_default}
use Rattle.rules.specs.Rows.{no_path}
use Rattle.rules.specs.Part.{Lies}
use Rattle.rules.proofs.WhenRead.{paths_are, path_told}

-- Those of a path of a well-formed plan lie where its row says.
pub somewhere : {s : Bytes} {q : ℕ} (rows : List Path) (row : Path) → WellFormed s → rows ≡ path_rows s → q < length rows
    → row ≡ get_or rows q row → Lies s q row.part.from row.part.steps
unfolding plan_of part_at path_row
somewhere {s} {q} rows row well are below is =
    let counted : q < paths_of s = omega (arith, ap length are, paths_are s well.reads) in
    let told : row ≡ path_row s (path_place s q) =
    is
    ∙ get_or_default rows q row no_path below
    ∙ ap (λ (rows : List Path). get_or rows q no_path) are
    ∙ path_told s well.reads q counted in
    let read = read_path s well.reads q counted in
    rw told
    (record {
      inside = omega (arith, read.room, read.short);
      part = record {
        held = λ w l. (refl, refl);
        uncounted = λ l. absurd (omega arith);
        ill_formed = λ ill. absurd (ill well);
      };
    })

-- Where there is no such plan or no such path, none lie anywhere.
pub nowhere : {s : Bytes} {q : ℕ} → (WellFormed s → q < (plan_of s).paths → ⊥) → Lies s q 0 0
nowhere {s} {q} none =
    record {
      inside = omega arith;
      part = record { held = λ w l. absurd (none w l); uncounted = λ l. (refl, refl); ill_formed = λ ill. (refl, refl) };
    }

-- So none do where the rows end before the path.
pub uncounted : {s : Bytes} {q : ℕ} (rows : List Path) → rows ≡ path_rows s → length rows ≤ q → Lies s q 0 0
unfolding plan_of
uncounted {s} {q} rows are past =
    nowhere (λ well h. omega (arith, ap length are, paths_are s well.reads))
