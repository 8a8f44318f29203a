-- What the answer of a reader says, in the paper's numbers.
--     request_of     what is handed out of what a request says
--     handed         the same of an accepted sheet; a refusal stands
--     Told           the promise of a reader
use Rattle.std.specs.Prelude.{ℕ, ◌≡◌, Result, length}
use Rattle.basics.specs.Limits.{blocks_most}
use Rattle.basics.specs.Padded.{pad_to}
use Rattle.field.specs.declared.Fault.{Fault}
use Rattle.field.specs.Sheet.{Out, got, refused}
use Rattle.field.specs.Told.{told_by}
use Rattle.request.specs.declared.Request.{Request}
use Rattle.request.specs.Request.{Said}

-- Q is as many as there are blocks; the kind, the age, and the copies of each block, then 0
abbrev pub request_of : Said → Request
request_of r = record { blocks = length r.copies; kind = r.kind; age = r.age; copies = pad_to 0 blocks_most r.copies }

abbrev pub handed : Out Said → Out Request
handed (got r at) = got (request_of r) at
handed (refused e) = refused e

-- the request and the length of the sheet, or the refusal
abbrev pub Told : ℕ → Out Said → Result Request Fault → Type 0
Told len o r = told_by (λ q. got q len) r ≡ handed o
