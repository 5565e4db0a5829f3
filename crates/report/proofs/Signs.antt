-- Numbers with their sign.
use Rattle.std.proofs.Common.{◌≡◌, ℕ, ◌-◌, Bool, true, false, List, [], ◌∷◌, ◌++◌, length, ap, ◌∙◌, append-nil, arith, if◌then◌else◌}
use Rattle.std.specs.Fmt.{format_spec, padded_integral, number_padding, fill_text}
use Rattle.std.proofs.lemmas.Int.{to_z-of_z}

-- a number with its sign has no padding
unpadded : (negative : Bool) (digits : List ℕ) → number_padding (format_spec 32 0 1 0 18446744073709551615) negative [] (length digits) ≡ 0
unpadded negative digits = omega arith

signed : (negative : Bool) (digits : List ℕ) → padded_integral (format_spec 32 0 1 0 18446744073709551615) negative [] digits ≡ (if negative then 45 else 43) ∷ digits
unfolding padded_integral
signed true digits =
    let s = format_spec 32 0 1 0 18446744073709551615 in
    ap (λ x. fill_text s x ++ (45 ∷ []) ++ [] ++ [] ++ (digits ++ fill_text s (x - x))) (unpadded true digits)
    ∙ ap (λ ds. 45 ∷ ds) (append-nil digits)
signed false digits =
    let s = format_spec 32 0 1 0 18446744073709551615 in
    ap (λ x. fill_text s x ++ (43 ∷ []) ++ [] ++ [] ++ (digits ++ fill_text s (x - x))) (unpadded false digits)
    ∙ ap (λ ds. 43 ∷ ds) (append-nil digits)

-- under the options of `{:+}` a number is its sign and its digits
pub sign_and_digits : (options : _) (negative : Bool) (digits : List ℕ) → options ≡ format_spec 32 0 1 0 18446744073709551615
    → padded_integral options negative [] digits ≡ (if negative then 45 else 43) ∷ digits
sign_and_digits options negative digits is = ap (λ s. padded_integral s negative [] digits) is ∙ signed negative digits

-- what the text of a signed number with its sign takes
pub ruleset signs = (to_z-of_z, sign_and_digits)
