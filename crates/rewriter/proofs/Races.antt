-- Two races on one tape, of the calls of REWRITE and ACCOUNT, for any book and any buffers. That the symbol is valid need not be asked: a joined tape that is
-- accepted has no other (reply 10). Either tape may hold the symbol too, so a tape with more races is cut at one marker after the other. Assumes nothing.
use Prim.Native.Nat.{ℕ, zero, suc, ◌+◌, ◌-◌, ◌≤◌, ◌<◌}
use mathlib.Core.Path.{◌≡◌, sym, ap, ap₂, subst, ◌∙◌}
use mathlib.Core.List.{List, ◌∷◌, ◌++◌, map}
use mathlib.Core.Logic.{◌↔◌}
use mathlib.Core.Bool.{true}
use native.Mathlib.Omega.{arith}
use native.Mathlib.Decide.{dec_lt}
use lib.ListN.{length, get_or, length-append, length-map, get_or-append}
use lib.Seq.{get_or-append-add}
use Rattle.book.specs.Format.{symbol_count}
use Rattle.book.specs.Reading.{book_of}
use Rattle.book.specs.Language.{Rules, rules_in}
use Rattle.book.specs.Unused.{on_no_arc, Blind}
use Rattle.book.proofs.Unused.{blind}
use Rattle.stretches.specs.Buffers.{longest_tape}
use Rattle.stretches.specs.Candidates.{taken}
use Rattle.stretches.specs.Output.{rewriting, symbols_of, origins_of}
use Rattle.stretches.specs.Account.{account, words_in}
use Rattle.stretches.specs.Races.{joined, beyond, marker, later, moved, words_moved, shifted}
use Rattle.stretches.proofs.WordMarks.{symbols_append, origins_append, symbols_later, origins_later}
use Rattle.stretches.proofs.Races.{length_joined}
use Rattle.stretches.proofs.RacesJoin.{rewriting_joins, taken_joins, account_joins, words_moved_lem}
use Rattle.stretches.proofs.Counts.{words_append}
use Rattle.rewriter.specs.Races.{Lent, rewrite_call, account_call, Room, OutputRoom, AccountRoom, OutputsJoin, AccountsJoin}
use Rattle.rewriter.proofs.Accepted.{Acceptable, rewrite_had, rewrite_has, account_had, account_has}

module _ (book t : List ℕ) (m : ℕ) (u : List ℕ) where
  abbrev b : Rules
  b = rules_in book

  abbrev J : List ℕ
  J = joined t m u

  -- ---- parts of a tape that is accepted
  module _ (s : Acceptable book J) where
    first_fits : Acceptable book t
    first_fits =
        let l = length_joined t m u in
        record {
          accepted = s.accepted;
          built = s.built;
          fits = omega (arith, l, s.fits);
          symbols = λ i h. subst (λ (x : ℕ). x < symbol_count) (get_or-append t (m ∷ u) 0 i h) (s.symbols i (omega arith));
        }

    second_fits : Acceptable book u
    second_fits =
        let l = length_joined t m u in
        record {
          accepted = s.accepted;
          built = s.built;
          fits = omega (arith, l, s.fits);
          symbols = λ i h. subst (λ (x : ℕ). x < symbol_count) (get_or-append-add t (m ∷ u) (suc i) 0) (s.symbols (length t + suc i) (omega arith));
        }

  -- and a tape of two that are
  joined_fits : Acceptable book t → Acceptable book u → m < symbol_count → length J ≤ longest_tape → Acceptable book J
  joined_fits p q v h = record { accepted = p.accepted; built = p.built; fits = h; symbols = λ i g. at i g (dec_lt i (length t)) }
    where
      behind : (k : ℕ) → k < length (m ∷ u) → get_or (m ∷ u) k 0 < symbol_count
      behind zero g = v
      behind (suc k) g = q.symbols k (omega arith)

      at : (i : ℕ) → i < length J → Dec (i < length t) → get_or J i 0 < symbol_count
      at i g (yes l) = subst (λ (x : ℕ). x < symbol_count) (sym (get_or-append t (m ∷ u) 0 i l)) (p.symbols i l)
      at i g (no l) =
          let k = i - length t in
          let e : i ≡ length t + k = omega arith in
          subst (λ (x : ℕ). x < symbol_count) (sym (ap (λ (n : ℕ). get_or J n 0) e ∙ get_or-append-add t (m ∷ u) k 0))
          (behind k (omega (arith, length_joined t m u)))

  pub joined_output : (y : Lent) → (rewrite_call book t y).answer.reply ≡ 0 → (w : Lent) → (rewrite_call book u w).answer.reply ≡ 0
      → m < symbol_count → length J ≤ longest_tape → (x : Lent) → OutputRoom book J x → (rewrite_call book J x).answer.reply ≡ 0
  joined_output y p w q v h x r = rewrite_has book J x (joined_fits (rewrite_had book t y p).0 (rewrite_had book u w q).0 v h) r

  pub joined_account : (y : Lent) → (account_call book t y).answer.reply ≡ 0 → (w : Lent) → (account_call book u w).answer.reply ≡ 0
      → m < symbol_count → length J ≤ longest_tape → (x : Lent) → AccountRoom book J x → (account_call book J x).answer.reply ≡ 0
  joined_account y p w q v h x r = account_has book J x (joined_fits (account_had book t y p).0 (account_had book u w q).0 v h) r

  -- either tape of a call that is accepted is accepted, exactly in buffers with room
  module _ (x : Lent) (z : (rewrite_call book J x).answer.reply ≡ 0) where
    pub first_output : (y : Lent) → ((rewrite_call book t y).answer.reply ≡ 0) ↔ OutputRoom book t y
    first_output y = (λ w. (rewrite_had book t y w).1, λ r. rewrite_has book t y (first_fits (rewrite_had book J x z).0) r)

    pub second_output : (y : Lent) → ((rewrite_call book u y).answer.reply ≡ 0) ↔ OutputRoom book u y
    second_output y = (λ w. (rewrite_had book u y w).1, λ r. rewrite_has book u y (second_fits (rewrite_had book J x z).0) r)

  module _ (x : Lent) (z : (account_call book J x).answer.reply ≡ 0) where
    pub first_account : (y : Lent) → ((account_call book t y).answer.reply ≡ 0) ↔ AccountRoom book t y
    first_account y = (λ w. (account_had book t y w).1, λ r. account_has book t y (first_fits (account_had book J x z).0) r)

    pub second_account : (y : Lent) → ((account_call book u y).answer.reply ≡ 0) ↔ AccountRoom book u y
    second_account y = (λ w. (account_had book u y w).1, λ r. account_has book u y (second_fits (account_had book J x z).0) r)

  -- buffers that do for a tape do for a shorter one
  room_for : (v w : List ℕ) (x : Lent) → length v ≤ length w → Room w x → Room v x
  room_for v w x h r = record { in_rows = r.in_rows; in_sets = r.in_sets; in_scratch = omega (arith, h, r.in_scratch) }

  module _ (shut : on_no_arc (book_of book) m ≡ true) where
    across : Blind m (rules_in book)
    across = blind (book_of book) m shut

    output_length : length (rewriting b J) ≡ length (rewriting b t) + 1 + length (rewriting b u)
    output_length =
        omega (
          arith,
          ap length (rewriting_joins b t m u across),
          length-append (rewriting b t) (marker t m ∷ map (later (beyond t)) (rewriting b u)),
          length-map (rewriting b u) (later (beyond t)),
        )

    taken_length : length (taken b J) ≡ length (taken b t) + length (taken b u)
    taken_length =
        omega (
          arith,
          ap length (taken_joins b t m u across),
          length-append (taken b t) (map (shifted (beyond t)) (taken b u)),
          length-map (taken b u) (shifted (beyond t)),
        )

    account_length : length (account b J) ≡ length (account b t) + length (account b u)
    account_length =
        omega (
          arith,
          ap length (account_joins b t m u across),
          length-append (account b t) (map (moved (beyond t)) (account b u)),
          length-map (account b u) (moved (beyond t)),
        )

    -- ---- REWRITE
    module _ (x : Lent) (z : (rewrite_call book J x).answer.reply ≡ 0) where
      -- the buffers of the joined tape have room for either
      pub output_room : OutputRoom book t x × OutputRoom book u x
      output_room =
          let r = (rewrite_had book J x z).1 in
          let l = length_joined t m u in
          let n = output_length in
          let p = r.in_out in
          let q = r.in_origins in (
            record { room = room_for t J x (omega arith) r.room; in_out = omega arith; in_origins = omega arith },
            record { room = room_for u J x (omega arith) r.room; in_out = omega arith; in_origins = omega arith },
          )

      pub outputs_join : (y : Lent) → OutputRoom book t y → (w : Lent) → OutputRoom book u w
          → OutputsJoin (length t) m (rewrite_call book J x) (rewrite_call book t y) (rewrite_call book u w)
      outputs_join y first-room w second-room =
          let first = (first_output x z y).1 first-room in
          let second = (second_output x z w).1 second-room in
          let a = (rewrite_had book J x z).2 in
          let c = (rewrite_had book t y first).2 in
          let d = (rewrite_had book u w second).2 in
          let e = rewriting_joins b t m u across in
          record {
            first_accepted = first;
            second_accepted = second;
            symbols =
                a.symbols
                ∙ ap symbols_of e
                ∙ symbols_append (rewriting b t) (marker t m ∷ map (later (beyond t)) (rewriting b u))
                ∙ ap₂ (λ (p q : List ℕ). p ++ (m ∷ q)) (sym c.symbols) (symbols_later (beyond t) (rewriting b u) ∙ sym d.symbols);
            origins =
                a.origins
                ∙ ap origins_of e
                ∙ origins_append (rewriting b t) (marker t m ∷ map (later (beyond t)) (rewriting b u))
                ∙ ap₂ (λ (p q : List ℕ). p ++ (length t ∷ q)) (sym c.origins)
                (origins_later (beyond t) (rewriting b u) ∙ ap (map (λ (o : ℕ). beyond t + o)) (sym d.origins));
            lengths = omega (arith, a.length_is, c.length_is, d.length_is, output_length);
            stretches = omega (arith, a.taken_is, c.taken_is, d.taken_is, taken_length);
          }

    -- ---- ACCOUNT
    module _ (x : Lent) (z : (account_call book J x).answer.reply ≡ 0) where
      pub account_room : AccountRoom book t x × AccountRoom book u x
      account_room =
          let r = (account_had book J x z).1 in
          let l = length_joined t m u in
          let n = account_length in
          let p = r.in_lines in (
            record { room = room_for t J x (omega arith) r.room; in_lines = omega arith },
            record { room = room_for u J x (omega arith) r.room; in_lines = omega arith },
          )

      pub accounts_join : (y : Lent) → AccountRoom book t y → (w : Lent) → AccountRoom book u w
          → AccountsJoin (length t) (account_call book J x) (account_call book t y) (account_call book u w)
      accounts_join y first-room w second-room =
          let first = (first_account x z y).1 first-room in
          let second = (second_account x z w).1 second-room in
          let a = (account_had book J x z).2 in
          let c = (account_had book t y first).2 in
          let d = (account_had book u w second).2 in
          record {
            first_accepted = first;
            second_accepted = second;
            words =
                a.words
                ∙ ap words_in (account_joins b t m u across)
                ∙ words_append (account b t) (map (moved (beyond t)) (account b u))
                ∙ ap₂ (λ (p q : List ℕ). p ++ q) (sym c.words)
                (words_moved_lem (beyond t) (account b u) ∙ ap (words_moved (beyond t)) (sym d.words));
            candidates = omega (arith, a.count_is, c.count_is, d.count_is, account_length);
          }
