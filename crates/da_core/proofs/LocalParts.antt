-- The parts of the value of a local state are put one behind the other.
use Rattle.std.proofs.Common.{◌≡◌, ◌∙◌, ap, ℕ, List, [], ◌∷◌, ◌++◌, append_assoc}
use Rattle.da_values.specs.declared.val.Val.{Val}
use Rattle.da_core.specs.LocalState.{number_value}

-- one more behind some
put_on : (old new after xs : List Val) (x : Val) → new ≡ old ++ xs → after ≡ new ++ x ∷ [] → after ≡ old ++ (xs ++ x ∷ [])
put_on old new after xs x first second = second ∙ ap (λ ys. ys ++ x ∷ []) first ∙ append_assoc old xs (x ∷ [])

pub put_two : (old one two : List Val) (a x b : Val) → one ≡ old ++ a ∷ [] → two ≡ one ++ x ∷ [] → x ≡ b → two ≡ old ++ a ∷ b ∷ []
put_two old one two a x b first second is = put_on old one two (a ∷ []) b first (second ∙ ap (λ y. one ++ y ∷ []) is)

pub put_four : (old one two three four : List Val) (a b c d kind count : ℕ) → one ≡ old ++ number_value a ∷ [] → two ≡ one ++ number_value b ∷ [] → three ≡ two ++ number_value kind ∷ [] → kind ≡ c → four ≡ three ++ number_value count ∷ [] → count ≡ d
    → four ≡ old ++ number_value a ∷ number_value b ∷ number_value c ∷ number_value d ∷ []
put_four old one two three four a b c d kind count first second third kind_is fourth count_is =
    put_on old three four (number_value a ∷ number_value b ∷ number_value c ∷ []) (number_value d)
    (put_on old two three (number_value a ∷ number_value b ∷ []) (number_value c) (put_on old one two (number_value a ∷ []) (number_value b) first second) (third ∙ ap (λ n. two ++ number_value n ∷ []) kind_is))
    (fourth ∙ ap (λ n. three ++ number_value n ∷ []) count_is)

-- three times some, with nothing before
pub all_parts : (none one two three xs ys zs : List Val) → none ≡ [] → one ≡ none ++ xs → two ≡ one ++ ys → three ≡ two ++ zs → three ≡ (xs ++ ys) ++ zs
all_parts none one two three xs ys zs empty first second third =
    third ∙ ap (λ r. r ++ zs) (second ∙ ap (λ r. r ++ ys) (first ∙ ap (λ r. r ++ xs) empty))
