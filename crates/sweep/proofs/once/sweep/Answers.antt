-- `sweep` works from the input streams that the previous set gives.
use Rattle.std.proofs.Common.{◌∙◌}
use Rattle.paper.specs.Sets.{inputs}
use Rattle.sweep.specs.Rows.{bounds_of}
use Rattle.sweep.proofs.Turn.{streaming}
use Rattle.sweep.proofs.once.sweep.Goals as goal

-- They are in range,
pub figures_of-requires : goal.figures_of-requires
figures_of-requires c =
    let (p, so) = c.requires in
    (p, inputs p (bounds_of c.args.set.now), streaming so (c.deref.ensures.0 ∙ c.inputs-inputs.ensures p so))

-- and what is worked out from them is the sweep's.
pub returns : goal.returns
returns c p so = c.figures_of.ensures p _ (streaming so (c.deref.ensures.0 ∙ c.inputs-inputs.ensures p so))
