-- The type of a number, round by round.
use Rattle.std.specs.Prelude.{◌≡◌, refl, ℕ, zero, suc, ◌-◌, List, Option, slice_get}
use Rattle.std.proofs.Common.{◌∙◌, ap, arith}
use Rattle.type_table.specs.declared.form.Form.{Form}
use Rattle.type_table.specs.Values.{built_at, types_in}

-- a round more looks at the form of the number
pub round_more : (forms : List Form) (rounds k : ℕ) (o : Option Form) → (rounds ≡ 0 → ⊥) → slice_get forms k ≡ o → types_in forms rounds k ≡ built_at (types_in forms (rounds - 1)) o
round_more forms zero k o some e = absurd (some refl)
round_more forms (suc rounds) k o some e =
    let less : rounds ≡ suc rounds - 1 = omega arith in
    ap (λ n. built_at (types_in forms n) (slice_get forms k)) less ∙ ap (built_at (types_in forms (suc rounds - 1))) e

pub no_round : (forms : List Form) (rounds k : ℕ) → rounds ≡ 0 → types_in forms rounds k ≡ types_in forms 0 k
no_round forms rounds k none = ap (λ n. types_in forms n k) none
