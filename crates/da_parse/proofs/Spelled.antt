-- Each token of a text is spelled as its mark says.
use Rattle.std.proofs.Common.{◌≡◌, ℕ, true, false, List, [], length, drop, take, Ok, refl, sym, ap, ◌∙◌}
use Rattle.std.proofs.lemmas.List.Elements.{All-map, All-weaker}
use Rattle.std.specs.Prelude.{All, MatchBool}
use Rattle.da_values.specs.declared.token.Piece.TheVariants as piece_is
use Rattle.da_values.specs.declared.token.Token.{Token}
use Rattle.da_values.specs.Marks.{slice_of, tok, toks}
use Rattle.da_values.specs.Piece.{front}
use Rattle.da_values.specs.TokenFacts.{has_bytes, StandsIn}
use Rattle.da_values.specs.Tokens.{tokens}
use Rattle.da_values.proofs.TokenLaws.{tokens-hold}
use Rattle.da_lang.specs.Spelling.{IsSpelled, spelled}
use Rattle.da_lex.proofs.Alone.{token_alone, token_length}

-- a token with bytes is the piece that its bytes alone make, and one without has none
slice-stands : (text : List ℕ) (t : Token) → StandsIn text t
    → MatchBool (has_bytes t.kind) (front (slice_of text t) ≡ piece_is.Token t.kind (length (slice_of text t))) (slice_of text t ≡ [])
slice-stands text t =
    elim (has_bytes t.kind) as (λ h. MatchBool h (front (drop t.first text) ≡ piece_is.Token t.kind t.length) (t.length ≡ 0)
    → MatchBool h (front (slice_of text t) ≡ piece_is.Token t.kind (length (slice_of text t))) (slice_of text t ≡ [])) [
      | true ↦ λ stands. token_alone (drop t.first text) t.kind t.length stands ∙ ap (piece_is.Token t.kind) (sym (token_length (drop t.first text) t.kind t.length stands))
      | false ↦ λ none. ap (λ n. take n (drop t.first text)) none
    ]

-- a token that stands in a text is spelled there
pub tok-spelled : (text : List ℕ) (t : Token) → StandsIn text t → IsSpelled (tok text t)
tok-spelled text t stands = spelled t.kind refl (slice-stands text t stands)

pub toks-spelled : (text : List ℕ) (list : List Token) → tokens text ≡ Ok list → All IsSpelled (toks text list)
toks-spelled text list e =
    All-map IsSpelled (tok text) list
    (All-weaker (StandsIn text) (λ t. IsSpelled (tok text t)) (tok-spelled text) list (tokens-hold text list e).stand)
