-- How decimals are read.
use Rattle.std.proofs.Common.{◌≡◌, ℕ, zero, suc, ◌+◌, ◌-◌, ◌*◌, ◌^◌, ◌<◌, ◌⊎◌, List, [], ◌∷◌, map, length, get_or, codes, sym, refl, ap, ◌∙◌, inl, inr, arith, rules}
use Rattle.std.specs.Int.Digits.{digits_of, number_from_digits_after}
use Rattle.std.specs.List.{AllByRecursion}
use Rattle.std.proofs.lemmas.Fmt.{decimal-digits_value}
use Rattle.std.proofs.lemmas.Int.Digits.{all_below_base_digits_of, first_digits_of, number_digits_of}
use Rattle.std.proofs.ByRecursion.{All-map, All-weaker}
use Rattle.std.proofs.lemmas.Str.Parse.{IsNumeralModel, numerals_by_fold}
use Rattle.verdict.specs.Laws.{Digit, value_of_digits, ReadsAs, DecimalsRead}
use Rattle.verdict.specs.Lines.{decimal}
use Rattle.verdict.proofs.Decimals.{code, same}

-- the codes of digits read as the number that the digits write
read_codes : (n : ℕ) (ds : List ℕ) → value_of_digits n (map code ds) ≡ number_from_digits_after 10 n ds
read_codes n [] = refl
read_codes n (d ∷ ds) =
    let same : n * 10 + (48 + d - 48) ≡ n * 10 + d = omega arith in
    ap (λ m. value_of_digits m (map code ds)) same ∙ read_codes (n * 10 + d) ds

-- codes begin with that of the first digit
first_code : (ds : List ℕ) → 0 < get_or ds 0 0 → 48 < get_or (map code ds) 0 0
first_code [] h = absurd (omega arith)
first_code (d ∷ ds) h = omega arith

-- the decimal of a number reads as that number
reads : (n : ℕ) → ReadsAs n (decimal n)
unfolding decimal
reads zero = record { digits = ((omega arith, omega arith), tt); leading = inl refl; value = refl }
reads (suc n) =
    let ds = digits_of 10 (suc n) in
    record {
      digits = All-map Digit code ds (All-weaker (λ d. d < 10) (λ d. Digit (code d)) (λ d h. (omega arith, omega arith)) ds (all_below_base_digits_of 10 (suc n) (omega arith)));
      leading = inr (first_code ds (first_digits_of 10 (suc n) (omega arith) (omega arith)));
      value = read_codes 0 ds ∙ number_digits_of 10 (suc n) (omega arith);
    }

-- these are words for digits and for what they write
own : IsNumeralModel (AllByRecursion Digit) (value_of_digits 0)
own = numerals_by_fold _ (search rules) value_of_digits (search rules)

-- there is a first byte, and it is a zero only in `0`
leads : (bs : List ℕ) → (bs ≡ codes "0") ⊎ (48 < get_or bs 0 0) → (0 < length bs) × (get_or bs 0 0 ≡ 48 → length bs ≡ 1)
leads [] (inl e) = absurd (omega (arith, ap length e))
leads [] (inr h) = absurd (omega arith)
leads (b ∷ bs) (inl e) = (omega arith, λ _. ap length e)
leads (b ∷ bs) (inr h) = (omega arith, λ e. absurd (omega arith))

-- no other bytes do
only : (n : ℕ) (bs : List ℕ) → n < 2 ^ 32 → ReadsAs n bs → bs ≡ decimal n
only n bs h r =
    let l = leads bs r.leading in
    let small : value_of_digits 0 bs < 2 ^ 64 = omega (arith, r.value) in
    sym (decimal-digits_value own bs r.digits l.0 l.1 small) ∙ (same (value_of_digits 0 bs) small ∙ ap decimal r.value)

pub decimals_read : DecimalsRead
decimals_read = record { reads = reads; only = only }
