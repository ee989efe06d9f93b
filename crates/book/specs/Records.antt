-- The records of a book as an iterator yields them: for the contracts of inner functions.
use Rattle.std.specs.Prelude.{◌+◌, ◌≡◌, Option, MatchOption}
use Rattle.book.specs.declared.record.Record.{Record}
use Rattle.book.specs.declared.record.Records.{Records}
use Rattle.book.specs.Format.{end_kind, byte, record_size}
use Rattle.book.specs.Scanning.{whole_reply}

-- the record at the place, and then its place is past it; none where the end record stands, or no whole record
abbrev pub Steps : Records → Option Record → Records → Type 0
Steps r x t =
    MatchOption x (whole_reply r.book.now r.at ≡ 0 → byte r.book.now r.at ≡ end_kind)
    (λ c. (c.book.now ≡ r.book.now) × (c.at ≡ r.at) × (byte r.book.now r.at ≡ end_kind → ⊥) × (t.book.now ≡ r.book.now)
    × (t.at ≡ r.at + record_size (byte r.book.now r.at)))
