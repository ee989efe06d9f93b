-- The bytes with the two highest symbols put in are `long_book`, byte by byte.
use Rattle.std.proofs.Common.{refl}
use Rattle.cases.proofs.books.long.Goals as goal

pub returns : goal.returns
returns c = refl
