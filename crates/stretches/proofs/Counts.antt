-- How long things are: an account has a line for each candidate and so many words a line; an output has an origin for each symbol. And the words of lines
-- one after the other. Assumes nothing.
use Prim.Native.Nat.{ℕ, zero, suc, ◌+◌, ◌-◌, ◌*◌, ◌≤◌, ◌<◌}
use mathlib.Core.List.{List, [], ◌∷◌, ◌++◌, append_assoc}
use mathlib.Core.Bool.{Bool, true, false, cond}
use mathlib.Core.Path.{◌≡◌, refl, sym, ap, ap₂, ◌∙◌}
use native.Mathlib.Omega.{arith}
use native.Mathlib.Nat.{mul-suc}
use lib.ListN.{length, length-append}
use Rattle.book.specs.Language.{Rules}
use Rattle.stretches.specs.Candidates.{candidate, keep}
use Rattle.stretches.specs.Output.{Mark, symbols_of, origins_of}
use Rattle.stretches.specs.Account.{Line, each, account, line_words, line_length, line_length_lem, words_in}
use Rattle.stretches.specs.Sentences.{sum, candidate_count}
use Rattle.stretches.proofs.Accounts.{line_at, account_lines}

length_each {ℓ} : {A : Type ℓ} (f : ℕ → List A) (a n : ℕ) → length (each f a n) ≡ sum (λ (k : ℕ). length (f k)) a n
length_each f a zero = refl
length_each f a (suc n) = length-append (f a) (each f (suc a) n) ∙ ap (λ (x : ℕ). length (f a) + x) (length_each f (suc a) n)

length_keep {ℓ} : {A : Type ℓ} (c : Bool) (x : A) → length (keep c x) ≡ cond c 1 0
length_keep true x = refl
length_keep false x = refl

pub sum_same : (f g : ℕ → ℕ) → ((k : ℕ) → f k ≡ g k) → (a n : ℕ) → sum f a n ≡ sum g a n
sum_same f g e a zero = refl
sum_same f g e a (suc n) = ap₂ (λ (x y : ℕ). x + y) (e a) (sum_same f g e (suc a) n)

pub sum_none : (f : ℕ → ℕ) (a n : ℕ) → ((k : ℕ) → a ≤ k → k < a + n → f k ≡ 0) → sum f a n ≡ 0
sum_none f a zero h = refl
sum_none f a (suc n) h = let e = h a (omega arith) (omega arith) in let g = sum_none f (suc a) n (λ k i j. h k (omega arith) (omega arith)) in omega arith

pub sum_most : (f : ℕ → ℕ) (m : ℕ) → ((k : ℕ) → f k ≤ m) → (a n : ℕ) → sum f a n ≤ m * n
sum_most f m h a zero = omega arith
sum_most f m h a (suc n) = let e = h a in let g = sum_most f m h (suc a) n in let d = mul-suc m n in omega arith

module _ (b : Rules) (t : List ℕ) where
  -- the lines of a rule, of an end, of a start; and 1 or 0 for each rule, for each end
  abbrev rule_lines : ℕ → ℕ → ℕ → List Line
  rule_lines i j r = keep (candidate b t i j r) (line_at b t i j r)

  abbrev end_lines : ℕ → ℕ → List Line
  end_lines i j = each (rule_lines i j) 0 (length b.words)

  abbrev start_lines : ℕ → List Line
  start_lines i = each (end_lines i) i (suc (length t) - i)

  abbrev ones : ℕ → ℕ → ℕ → ℕ
  ones i j r = cond (candidate b t i j r) 1 0

  abbrev end_sum : ℕ → ℕ → ℕ
  end_sum i j = sum (ones i j) 0 (length b.words)

  abbrev start_sum : ℕ → ℕ
  start_sum i = sum (end_sum i) i (suc (length t) - i)

  ended : (i j : ℕ) → length (end_lines i j) ≡ end_sum i j
  ended i j =
      length_each (rule_lines i j) 0 (length b.words)
      ∙ sum_same (λ (r : ℕ). length (rule_lines i j r)) (ones i j) (λ r. length_keep (candidate b t i j r) (line_at b t i j r)) 0 (length b.words)

  begun : (i : ℕ) → length (start_lines i) ≡ start_sum i
  begun i =
      length_each (end_lines i) i (suc (length t) - i)
      ∙ sum_same (λ (j : ℕ). length (end_lines i j)) (end_sum i) (ended i) i (suc (length t) - i)

  pub account_length : length (account b t) ≡ candidate_count b t
  account_length = ap length (account_lines b t)
      ∙ length_each start_lines 0 (suc (length t))
      ∙ sum_same (λ (i : ℕ). length (start_lines i)) start_sum begun 0 (suc (length t))

pub words_length : (ls : List Line) → length (words_in ls) ≡ line_length * length ls
unfolding words_in
words_length [] = refl
words_length (l ∷ ls) = let a = length-append (line_words l) (words_in ls) in let e = line_length_lem l in let h = words_length ls in omega arith

pub words_append : (a b : List Line) → words_in (a ++ b) ≡ words_in a ++ words_in b
unfolding words_in
words_append [] b = refl
words_append (x ∷ a) b = ap (λ (r : List ℕ). line_words x ++ r) (words_append a b) ∙ sym (append_assoc (line_words x) (words_in a) (words_in b))

pub symbols_length : (ms : List Mark) → length (symbols_of ms) ≡ length ms
symbols_length [] = refl
symbols_length (m ∷ ms) = ap suc (symbols_length ms)

pub origins_length : (ms : List Mark) → length (origins_of ms) ≡ length ms
origins_length [] = refl
origins_length (m ∷ ms) = ap suc (origins_length ms)
