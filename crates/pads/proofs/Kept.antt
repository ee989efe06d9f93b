-- What is kept of a piece of a line, as far as it has been read. Assumes nothing.
use Rattle.std.proofs.Common.{ℕ, ◌+◌, ◌-◌, ◌≤◌, ◌<◌, ◌≡◌, List, [], ◌∷◌, ◌++◌, length, get_or, take, sym, ◌∙◌, ap, length-append, arith}
use Rattle.std.proofs.Math.ListN.{length-take}
use Rattle.std.specs.List.{take-map}
use Rattle.std.proofs.lemmas.List.{take_all, take_more, map-append, append_assoc, length-map}
use Rattle.pads.specs.Digits.{symbol_of, symbols_of}

-- one character more
pub next : (had bs : List ℕ) (i : ℕ) → i < length bs → (had ++ symbols_of (take i bs)) ++ (symbol_of (get_or bs i 0) ∷ []) ≡ had ++ symbols_of (take (i + 1) bs)
next had bs i h =
    append_assoc had (symbols_of (take i bs)) (symbol_of (get_or bs i 0) ∷ [])
    ∙ ap (λ (l : List ℕ). had ++ l) (sym (ap symbols_of (take_more bs i 0 h) ∙ map-append (λ (b : ℕ). symbol_of b) (take i bs) (get_or bs i 0 ∷ [])))

-- where there is room for no other
pub full : (had bs now : List ℕ) (i n : ℕ) → now ≡ had ++ symbols_of (take i bs) → i ≤ length bs → length now ≡ n → now ≡ had ++ take (n - length had) (symbols_of bs)
full had bs now i n e h f =
    let symbol = λ (b : ℕ). symbol_of b in
    let many : i ≡ n - length had =
    omega (arith, ap length e, length-append had (symbols_of (take i bs)), length-map (take i bs) symbol, length-take i bs) in
    e ∙ ap (λ (l : List ℕ). had ++ l) (ap (λ (k : ℕ). symbols_of (take k bs)) many ∙ sym (take-map symbol (n - length had) bs))

-- all of them
pub all : (bs : List ℕ) (n : ℕ) → length bs ≤ n → symbols_of (take (length bs) bs) ≡ take n (symbols_of bs)
all bs n h =
    ap symbols_of (take_all (length bs) bs (omega arith)) ∙ sym (take_all n (symbols_of bs) (omega (arith, length-map bs (λ (b : ℕ). symbol_of b))))
