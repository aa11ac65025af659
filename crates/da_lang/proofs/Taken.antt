-- One element more of a list.
use Rattle.std.proofs.Common.{◌≡◌, ap, ℕ, ◌+◌, ◌<◌, List, [], ◌∷◌, ◌++◌, length, get_or, take, sym, ◌∙◌}
use Rattle.std.proofs.lemmas.List.{take_more}

-- the elements before a place, and the one there
pub taken : {X : Type 0} (xs : List X) (i : ℕ) (x : X) → i < length xs → x ≡ get_or xs i x → take (i + 1) xs ≡ take i xs ++ x ∷ []
taken xs i x inside here = take_more xs i x inside ∙ ap (λ y. take i xs ++ y ∷ []) (sym here)
