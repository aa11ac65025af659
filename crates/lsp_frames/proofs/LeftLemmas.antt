-- What is left of a stream, by what has come of it.
use Rattle.std.proofs.Common.{◌≡◌, refl, ◌∙◌, ap, ℕ, List, [], ◌++◌, length, drop, arith, append-nil, drop_of_length-le}
use Rattle.std.specs.Prelude.{Option, Some, None}
use Rattle.lsp_frames.specs.declared.input.Input.{Input}
use Rattle.lsp_frames.specs.Stream.{HasNone, Remains, come_of}

-- some stream is left
pub some_left : (input : Input) (left : Option (List ℕ)) → (stream : List ℕ) × Remains input left stream
some_left input None = (input.come ++ [], ([], refl))
some_left input (Some bytes) = (input.come ++ drop input.skip bytes, refl)

-- it begins with what has come
pub begins_left : (input : Input) (left : Option (List ℕ)) (stream : List ℕ) → Remains input left stream → (later : List ℕ) × (stream ≡ come_of input ++ later)
begins_left input None stream remains = remains
begins_left input (Some bytes) stream remains = (drop input.skip bytes, remains)

drop_none : (n : ℕ) (xs : List ℕ) → xs ≡ [] → drop n xs ≡ []
drop_none n xs none = drop_of_length-le xs (omega (arith, ap length none))

-- where nothing is to come, what has come is left
pub none_left : (input : Input) (left : Option (List ℕ)) → HasNone left → (stream : List ℕ) × Remains input left stream × (stream ≡ come_of input)
none_left input None none = (input.come ++ [], ([], refl), append-nil input.come)
none_left input (Some bytes) none =
    let gone : drop input.skip bytes ≡ [] = drop_none input.skip bytes none in
    (input.come ++ drop input.skip bytes, refl, ap (λ xs. input.come ++ xs) gone ∙ append-nil input.come)
