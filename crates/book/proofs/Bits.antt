-- The laws of sets as numbers. Assumes nothing.
use mathlib.Core.Path.{◌≡◌, refl, sym, ap, ap₂, ◌∙◌}
use Prim.Native.Nat.{ℕ, zero, suc, ◌+◌, ◌-◌, ◌*◌, ◌/◌, ◌%◌, ◌^◌, ◌≤◌, ◌<◌, min, max, suc-le-suc}
use native.Mathlib.Nat.{div-one, div-div-eq-div-mul, pow-succ', not-suc-le-zero, mod-lt, zero-lt-suc, le_of_suc-le-suc}
use native.Mathlib.Nat.{lt_of_lt_of_le, div-eq_of_lt, one-mul}
use native.Mathlib.Omega.{arith}
use lib.Pow.{pow_mono, shl_exact}
use borrow.Author.Tests.{eqb-true}
use mathlib.Core.Bool as B
use mathlib.Core.Bool.{Bool, true, false, cond, not, ◌&&◌, ◌||◌}
use lib.Dec.{eqb, eqb-suc-suc, eqb-zero-suc, eqb-suc-zero}
use lib.Bits.{bit_and, bit_or, or_shr, or_step, and_shr, and_step, and_le_r, and_self}
use lib.Count.{count_trailing_zeros, under}
use Rattle.book.specs.StateSets.{member, encode}

-- ---- one digit

pub member_zero : (n : ℕ) → member n 0 ≡ eqb (n % 2) 1
unfolding member
member_zero n = ap (λ (x : ℕ). eqb (x % 2) 1) (div-one n)

pub member_suc : (n s : ℕ) → member n (suc s) ≡ member (n / 2) s
unfolding member
member_suc n s = ap (λ (x : ℕ). eqb (x % 2) 1) (ap (λ (x : ℕ). n / x) (pow-succ' 2 s) ∙ sym (div-div-eq-div-mul n 2 (2 ^ s)))

pub member_none : (s : ℕ) → member 0 s ≡ false
member_none zero = member_zero 0
member_none (suc s) = member_suc 0 s ∙ member_none s

or_bit : (u v : ℕ) → u < 2 → v < 2 → eqb (max u v) 1 ≡ (eqb u 1 || eqb v 1)
or_bit zero zero p q = refl
or_bit zero (suc zero) p q = refl
or_bit zero (suc (suc v)) p q = absurd (omega arith)
or_bit (suc zero) zero p q = refl
or_bit (suc zero) (suc zero) p q = refl
or_bit (suc zero) (suc (suc v)) p q = absurd (omega arith)
or_bit (suc (suc u)) v p q = absurd (omega arith)

and_bit : (u v : ℕ) → u < 2 → v < 2 → eqb (min u v) 1 ≡ (eqb u 1 && eqb v 1)
and_bit zero zero p q = refl
and_bit zero (suc zero) p q = refl
and_bit zero (suc (suc v)) p q = absurd (omega arith)
and_bit (suc zero) zero p q = refl
and_bit (suc zero) (suc zero) p q = refl
and_bit (suc zero) (suc (suc v)) p q = absurd (omega arith)
and_bit (suc (suc u)) v p q = absurd (omega arith)

same_bit : (u v : ℕ) → u < 2 → v < 2 → eqb u 1 ≡ eqb v 1 → u ≡ v
same_bit zero zero p q e = refl
same_bit zero (suc zero) p q e = let z : ◌≡◌ {A = ℕ} 0 1 = cc in absurd (omega arith)
same_bit zero (suc (suc v)) p q e = absurd (omega arith)
same_bit (suc zero) zero p q e = let z : ◌≡◌ {A = ℕ} 0 1 = cc in absurd (omega arith)
same_bit (suc zero) (suc zero) p q e = refl
same_bit (suc zero) (suc (suc v)) p q e = absurd (omega arith)
same_bit (suc (suc u)) v p q e = absurd (omega arith)

two_pos : 0 < 2
two_pos = zero-lt-suc 1

low_of : (m d : ℕ) → d < 2 → (m * 2 + d) % 2 ≡ d
low_of m d h = omega arith

-- ---- union and intersection

pub member_or : (a b s : ℕ) → member (bit_or a b) s ≡ (member a s || member b s)
unfolding member
member_or a b s =
    let p = a / 2 ^ s in
    let q = b / 2 ^ s in
    ap (λ (x : ℕ). eqb (x % 2) 1) (or_shr a b s ∙ or_step p q)
    ∙ ap (λ (x : ℕ). eqb x 1) (low_of (bit_or (p / 2) (q / 2)) (max (p % 2) (q % 2)) (omega arith))
    ∙ or_bit (p % 2) (q % 2) (mod-lt p two_pos) (mod-lt q two_pos)

pub member_and : (a b s : ℕ) → member (bit_and a b) s ≡ (member a s && member b s)
unfolding member
member_and a b s =
    let p = a / 2 ^ s in
    let q = b / 2 ^ s in
    ap (λ (x : ℕ). eqb (x % 2) 1) (and_shr a b s ∙ and_step p q)
    ∙ ap (λ (x : ℕ). eqb x 1) (low_of (bit_and (p / 2) (q / 2)) (min (p % 2) (q % 2)) (omega arith))
    ∙ and_bit (p % 2) (q % 2) (mod-lt p two_pos) (mod-lt q two_pos)

-- ---- a number is determined by its members

half_below : (k a : ℕ) → a < 2 ^ suc k → a / 2 < 2 ^ k
half_below k a h = omega arith

pub ext_below : (k a b : ℕ) → a < 2 ^ k → b < 2 ^ k → ((s : ℕ) → s < k → member a s ≡ member b s) → a ≡ b
ext_below zero a b ha hb h = omega arith
ext_below (suc k) a b ha hb h =
    let halves : a / 2 ≡ b / 2 =
    ext_below k (a / 2) (b / 2) (half_below k a ha) (half_below k b hb)
    (λ (s : ℕ) (l : s < k). sym (member_suc a s) ∙ h (suc s) (suc-le-suc l) ∙ member_suc b s)
    in
    let low : a % 2 ≡ b % 2 =
    same_bit (a % 2) (b % 2) (mod-lt a two_pos) (mod-lt b two_pos) (sym (member_zero a) ∙ h 0 (zero-lt-suc k) ∙ member_zero b)
    in
    omega arith

below_pow : (n : ℕ) → n < 2 ^ n
below_pow zero = omega arith
below_pow (suc n) = omega (arith, below_pow n)

pow_more : (a b k : ℕ) → a + b ≤ k → a < 2 ^ k
pow_more a b k h = lt_of_lt_of_le (below_pow a) (pow_mono (omega arith))

-- no bound is needed where every state is compared
pub ext : (a b : ℕ) → ((s : ℕ) → member a s ≡ member b s) → a ≡ b
ext a b h = ext_below (a + b) a b (pow_more a b (a + b) (omega arith)) (pow_more b a (a + b) (omega arith)) (λ s l. h s)

pub or_assoc : (a b c : ℕ) → bit_or (bit_or a b) c ≡ bit_or a (bit_or b c)
or_assoc a b c = ext _ _ (λ s. simp (member_or, B.or_assoc))

-- ---- one state

digit_zero_lem : (d m : ℕ) → d < 2 → member (d + 2 * m) 0 ≡ eqb d 1
digit_zero_lem d m h = member_zero (d + 2 * m) ∙ ap (λ (x : ℕ). eqb x 1) (low m d h)
  where
    low : (m d : ℕ) → d < 2 → (d + 2 * m) % 2 ≡ d
    low m d h = omega arith

digit_suc : (d m s : ℕ) → d < 2 → member (d + 2 * m) (suc s) ≡ member m s
digit_suc d m s h = member_suc (d + 2 * m) s ∙ ap (λ (x : ℕ). member x s) (high m d h)
  where
    high : (m d : ℕ) → d < 2 → (d + 2 * m) / 2 ≡ m
    high m d h = omega arith

pub member_one : (s t : ℕ) → member (2 ^ s) t ≡ eqb t s
member_one zero zero = member_zero 1
member_one zero (suc t) = member_suc 1 t ∙ member_none t ∙ sym (eqb-suc-zero t)
member_one (suc s) zero =
    ap (λ (x : ℕ). member x 0) (double s) ∙ digit_zero_lem 0 (2 ^ s) two_pos ∙ sym (eqb-zero-suc s)
  where
    double : (s : ℕ) → 2 ^ suc s ≡ 0 + 2 * 2 ^ s
    double s = omega arith
member_one (suc s) (suc t) =
    ap (λ (x : ℕ). member x (suc t)) (double s) ∙ digit_suc 0 (2 ^ s) t two_pos ∙ member_one s t ∙ sym (eqb-suc-suc t s)
  where
    double : (s : ℕ) → 2 ^ suc s ≡ 0 + 2 * 2 ^ s
    double s = omega arith

-- ---- encode

digit_lt : (b : Bool) → cond b 1 0 < 2
digit_lt true = omega arith
digit_lt false = omega arith

digit_test : (b : Bool) → eqb (cond b 1 0) 1 ≡ b
digit_test true = refl
digit_test false = refl

pub encode_lt : (p : ℕ → Bool) (k : ℕ) → encode p k < 2 ^ k
unfolding encode
encode_lt p zero = omega arith
encode_lt p (suc k) = omega (arith, digit_lt (p 0), encode_lt (λ s. p (suc s)) k)

pub member_encode : (p : ℕ → Bool) (k s : ℕ) → s < k → member (encode p k) s ≡ p s
unfolding encode
member_encode p zero s h = absurd (not-suc-le-zero h)
member_encode p (suc k) zero h = digit_zero_lem (cond (p 0) 1 0) (encode (λ s. p (suc s)) k) (digit_lt (p 0)) ∙ digit_test (p 0)
member_encode p (suc k) (suc s) h =
    digit_suc (cond (p 0) 1 0) (encode (λ s. p (suc s)) k) s (digit_lt (p 0)) ∙ member_encode (λ s. p (suc s)) k s (le_of_suc-le-suc h)

-- how a number is shown to be a set's
pub is_encode : (p : ℕ → Bool) (k n : ℕ) → n < 2 ^ k → ((s : ℕ) → s < k → member n s ≡ p s) → n ≡ encode p k
is_encode p k n h e = ext_below k n (encode p k) h (encode_lt p k) (λ s l. e s l ∙ sym (member_encode p k s l))

-- a state at or past the bound is in no set below it
pub member_past : (k n s : ℕ) → n < 2 ^ k → k ≤ s → member n s ≡ false
unfolding member
member_past k n s h l = ap (λ (x : ℕ). eqb (x % 2) 1) (div-eq_of_lt (lt_of_lt_of_le h (pow_mono l)))

-- ---- the lowest state

-- x without its lowest state, as the code has it
abbrev pub without : ℕ → ℕ
without x = bit_and x (x - 1)

even_without : (x : ℕ) → 0 < x → x % 2 ≡ 0 → without x ≡ 0 + 2 * without (x / 2)
even_without x h e =
    and_step x (x - 1)
    ∙ ap₂ (λ (p q : ℕ). bit_and (x / 2) p * 2 + min (x % 2) q) (half x h e) (odd x h e)
    ∙ ap (λ (p : ℕ). bit_and (x / 2) (x / 2 - 1) * 2 + min p 1) e
    ∙ turn (bit_and (x / 2) (x / 2 - 1))
  where
    half : (x : ℕ) → 0 < x → x % 2 ≡ 0 → (x - 1) / 2 ≡ x / 2 - 1
    half x h e = omega arith

    odd : (x : ℕ) → 0 < x → x % 2 ≡ 0 → (x - 1) % 2 ≡ 1
    odd x h e = omega arith

    turn : (y : ℕ) → y * 2 + 0 ≡ 0 + 2 * y
    turn y = omega arith

odd_without : (x : ℕ) → x % 2 ≡ 1 → without x ≡ 0 + 2 * (x / 2)
odd_without x e =
    and_step x (x - 1)
    ∙ ap₂ (λ (p q : ℕ). bit_and (x / 2) p * 2 + min (x % 2) q) (half x e) (even x e)
    ∙ ap₂ (λ (p q : ℕ). p * 2 + min q 0) (and_self (x / 2)) e
    ∙ turn (x / 2)
  where
    half : (x : ℕ) → x % 2 ≡ 1 → (x - 1) / 2 ≡ x / 2
    half x e = omega arith

    even : (x : ℕ) → x % 2 ≡ 1 → (x - 1) % 2 ≡ 0
    even x e = omega arith

    turn : (y : ℕ) → y * 2 + 0 ≡ 0 + 2 * y
    turn y = omega arith

sum_even : (t x c r : ℕ) → x % 2 ≡ 0 → c ≡ 0 + 2 * r → 2 ^ t + r ≡ x / 2 → 2 ^ suc t + c ≡ x
sum_even t x c r e p q = omega arith

-- t is the lowest of x's states, which are below d
pub record Lowest (d x t : ℕ) : Type 0 where
  pub below : t < d
  pub is_in : member x t ≡ true
  pub none_below : (s : ℕ) → s < t → member x s ≡ false
  pub sum : 2 ^ t + without x ≡ x
  pub rest : (s : ℕ) → member (without x) s ≡ (member x s && not (eqb s t))

pub lowest : (d x : ℕ) → 0 < x → x < 2 ^ d → Lowest d x (count_trailing_zeros d x)
unfolding count_trailing_zeros
lowest zero x h k = absurd (omega arith)
lowest (suc d) x h k = go (x % 2) refl (mod-lt x two_pos) (λ (e : x % 2 ≡ 0). lowest d (x / 2) (omega arith) (half_below d x k))
  where
    go : (r : ℕ) → x % 2 ≡ r → x % 2 < 2 → (x % 2 ≡ 0 → Lowest d (x / 2) (count_trailing_zeros d (x / 2))) → Lowest (suc d) x (under r (count_trailing_zeros d (x / 2)))
    go zero e l ih =
        let t = count_trailing_zeros d (x / 2) in
        let i = ih e in
        record {
          below = suc-le-suc i.below;
          is_in = member_suc x t ∙ i.is_in;
          none_below = low i;
          sum = sum_even t x (without x) (without (x / 2)) e (even_without x h e) i.sum;
          rest = cleared i;
        }
      where
        low : Lowest d (x / 2) (count_trailing_zeros d (x / 2)) → (s : ℕ) → s < suc (count_trailing_zeros d (x / 2)) → member x s ≡ false
        low i zero m = member_zero x ∙ ap (λ (y : ℕ). eqb y 1) e
        low i (suc s) m = member_suc x s ∙ i.none_below s (le_of_suc-le-suc m)

        cleared : Lowest d (x / 2) (count_trailing_zeros d (x / 2)) → (s : ℕ) → member (without x) s ≡ (member x s && not (eqb s (suc (count_trailing_zeros d (x / 2)))))
        cleared i zero =
            ap (λ (y : ℕ). member y 0) (even_without x h e) ∙ digit_zero_lem 0 (without (x / 2)) two_pos
            ∙ sym (ap (λ (b : Bool). b && not (eqb 0 (suc (count_trailing_zeros d (x / 2))))) (member_zero x ∙ ap (λ (y : ℕ). eqb y 1) e))
        cleared i (suc s) =
            ap (λ (y : ℕ). member y (suc s)) (even_without x h e) ∙ digit_suc 0 (without (x / 2)) s two_pos
            ∙ i.rest s
            ∙ ap₂ (λ (p q : Bool). p && not q) (sym (member_suc x s)) (sym (eqb-suc-suc s (count_trailing_zeros d (x / 2))))
    go (suc zero) e l ih =
        record {
          below = zero-lt-suc d;
          is_in = member_zero x ∙ ap (λ (y : ℕ). eqb y 1) e;
          none_below = λ s m. absurd (not-suc-le-zero m);
          sum = omega (arith, odd_without x e);
          rest = cleared;
        }
      where
        cleared : (s : ℕ) → member (without x) s ≡ (member x s && not (eqb s 0))
        cleared zero =
            ap (λ (y : ℕ). member y 0) (odd_without x e) ∙ digit_zero_lem 0 (x / 2) two_pos ∙ sym (B.and-false (member x 0))
        cleared (suc s) =
            ap (λ (y : ℕ). member y (suc s)) (odd_without x e) ∙ digit_suc 0 (x / 2) s two_pos ∙ sym (member_suc x s)
            ∙ sym (ap (λ (b : Bool). member x (suc s) && not b) (eqb-suc-zero s) ∙ B.and-true (member x (suc s)))
    go (suc (suc r)) e l ih = absurd (omega arith)

bool_split : (m e : Bool) → (e ≡ true → m ≡ true) → (e || m && not e) ≡ m
bool_split true true h = refl
bool_split true false h = refl
bool_split false true h = sym (h refl)
bool_split false false h = refl

-- the lowest state and the rest make the set, so what goes over a union goes by the lowest state and the rest
pub lowest_or : (d x t : ℕ) → Lowest d x t → bit_or (2 ^ t) (without x) ≡ x
lowest_or d x t l =
    ext _ _ (λ s. member_or (2 ^ t) (without x) s
    ∙ ap₂ (λ (p q : Bool). p || q) (member_one t s) (l.rest s)
    ∙ bool_split (member x s) (eqb s t) (λ e. ap (member x) (eqb-true s t e) ∙ l.is_in))

pub without_less : (x : ℕ) → 0 < x → without x < x
without_less x h = omega (arith, and_le_r x (x - 1))

-- what the code's shift gives
pub worth : (s : ℕ) → s < 64 → (1 * 2 ^ s) % 2 ^ 64 ≡ 2 ^ s
worth s h = shl_exact 1 s 64 (omega arith) (omega arith) ∙ one-mul (2 ^ s)
