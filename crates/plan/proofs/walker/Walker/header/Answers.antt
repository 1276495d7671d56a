-- `Walker::header` judges what every field has.
use Rattle.std.proofs.Common.{rules, tests}
use Rattle.paper.specs.Fields.{◌and_then◌, unless, header}
use Rattle.plan.proofs.walker.Walker.header.Goals as goal

-- A length that is not one of the tag's is refused where the header is all there and the tag is the due one.
pub returns-in_err-unless-3 : goal.returns-in_err-unless-3
unfolding header unless ◌and_then◌
returns-in_err-unless-3 c = search (rules, tests)
