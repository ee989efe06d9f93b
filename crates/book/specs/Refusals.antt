-- The numbers of the reasons, and what a result answers: "If an answer is an enum, a definition gives this paper's number and values for each of its
-- cases, and the promises use that definition."
use Rattle.std.specs.Prelude.{ℕ, Result, Ok, Err}
use Rattle.book.specs.declared.replies.Reason.{Reason}
use Rattle.book.specs.declared.replies.Reason.TheVariants.{Cut, UnknownKind, TooMany, NoRule, BadField, BadArc, AfterEnd, LongTape, BadSymbol, ShortWorkspace}
use Rattle.book.specs.declared.replies.Reason.TheVariants.{ShortScratch, ManyLeftSets, ManyRightSets, NoRoom, ManyLanes, Outside, BadLine, BadLabel, NoAcceptor, LargePart}
use Rattle.book.specs.declared.replies.Refusal.{Refusal}
use Rattle.book.specs.declared.Counts.{Counts}
use Rattle.book.specs.declared.Checked.{Checked}

abbrev pub number : Reason → ℕ
number Cut = 1
number UnknownKind = 2
number TooMany = 3
number NoRule = 4
number BadField = 5
number BadArc = 6
number AfterEnd = 8
number LongTape = 9
number BadSymbol = 10
number ShortWorkspace = 11
number ShortScratch = 12
number ManyLeftSets = 13
number ManyRightSets = 14
number NoRoom = 15
number ManyLanes = 16
number Outside = 17
number BadLine = 18
number BadLabel = 19
number NoAcceptor = 20
number LargePart = 21

-- "0 accepted", else the refusal's number; "Place": the refusal's, 0 where nothing is refused
abbrev pub reply_of : {A : Type 0} → Result A Refusal → ℕ
reply_of (Ok _) = 0
reply_of (Err e) = number e.reason

abbrev pub place_of : {A : Type 0} → Result A Refusal → ℕ
place_of (Ok _) = 0
place_of (Err e) = e.place

-- the number of what a record's tests give: 0 where it passed them
abbrev pub number_of : {A : Type 0} → Result A Reason → ℕ
number_of (Ok _) = 0
number_of (Err r) = number r

-- "Accepted, CHECK returns the counts of rules, states and arcs. Every refusal returns 0 for these."
abbrev pub checked : Result Counts Refusal → Checked
checked (Ok c) = record { reply = 0; place = 0; rules = c.rules; states = c.states; arcs = c.arcs }
checked (Err e) = record { reply = number e.reason; place = e.place; rules = 0; states = 0; arcs = 0 }
