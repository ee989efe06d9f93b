-- What the code's results say in the definitions' words: numbers, lines and answers.
use Rattle.std.specs.Prelude.{ℕ, ◌≡◌, ◌≤◌, ◌<◌, List, Option, Some, None, Result, Ok, Err}
use Rattle.book.specs.Refusals.{number}
use Rattle.book.specs.declared.Written.{Written}
use Rattle.book.specs.declared.replies.Reason.{Reason}
use Rattle.book.specs.declared.replies.Reason.TheVariants.{BadLine}
use Rattle.book.specs.declared.replies.Refusal.{Refusal}
use Rattle.att.specs.Fields.{most_state}
use Rattle.att.specs.Line.{Line, End, Final, Arc, Faulty}
use Rattle.att.specs.Text.{Said, arc, final, refusal}
use Rattle.att.specs.Numbers.{too_high, no_number, read_number}
use Rattle.att.specs.declared.fields.Unread.{Unread}
use Rattle.att.specs.declared.fields.Unread.TheVariants.{NoNumber, TooHigh}
use Rattle.att.specs.declared.reading.Line as read
use Rattle.att.specs.declared.reading.Line.TheVariants as says

abbrev pub number_read : Result ℕ Unread → ℕ
number_read (Ok v) = v
number_read (Err NoNumber) = no_number
number_read (Err TooHigh) = too_high

-- a state's field
abbrev pub StateRead : List ℕ → Result ℕ Reason → Type 0
StateRead f (Ok x) = (x ≡ read_number f) × (x ≤ most_state)
StateRead f (Err e) = (e ≡ BadLine) × (most_state < read_number f)

abbrev pub said : read.Line → Said
said (says.Final x) = final x
said (says.Arc x y a) = arc x y a

-- the line that says l, with the next one at `next`
abbrev pub line_saying : Said → ℕ → Line
line_saying (final x) next = Final x next
line_saying (arc x y a) next = Arc x y a next

abbrev pub line_read : Result read.Line Reason → ℕ → Line
line_read (Ok l) next = line_saying (said l) next
line_read (Err e) next = Faulty (number e)

-- with the place of the next
abbrev pub line_found : Result (Option (read.Line × ℕ)) Reason → Line
line_found (Ok (Some p)) = line_saying (said p.0) p.1
line_found (Ok None) = End
line_found (Err e) = Faulty (number e)

-- and as it is handed on, with the place at `next`
abbrev pub line_advanced : Result (Option read.Line) Refusal → ℕ → Line
line_advanced (Ok (Some l)) next = line_saying (said l) next
line_advanced (Ok None) next = End
line_advanced (Err e) next = Faulty (number e.reason)

-- where the reading goes on after a line at `at`: at the next one; where it is, at the end and at a faulty line
abbrev pub place_after : Line → ℕ → ℕ
place_after End at = at
place_after (Final x next) at = next
place_after (Arc x y a next) at = next
place_after (Faulty reply) at = at

-- IMPORT's answer: the length written, or the refusal with its place
abbrev pub written_by : Result ℕ Refusal → Written
written_by (Ok n) = record { reply = 0; place = 0; length = n }
written_by (Err e) = refusal (number e.reason) e.place
